-- The steps of the fused payload name dimensions that are there, and no captured value.
use Rattle.std.proofs.Common.{◌≡◌, ℕ, suc, ◌+◌, ◌<◌, ◌&&◌, Bool, true, false, not, ℤ, List, [], ◌∷◌, ◌++◌, map, length, refl, ap, sym, subst, ◌∙◌, arith}
use Rattle.std.specs.Prelude.{nat_lt, nat_le, if◌then◌else◌}
use Rattle.std.specs.List.{list_all}
use Rattle.std.proofs.lemmas.Bool.{and_parts}
use Rattle.std.proofs.lemmas.Bool.Decides.{nat_tests}
use Rattle.affine_maps.specs.Shape.{MapShape}
use Rattle.affine_maps.specs.Map.{IsMap, terms_fit, expr_fits}
use Rattle.affine_maps.specs.declared.map.Expr.{Expr}
use Rattle.affine_maps.specs.Permutation.{is_among}
use Rattle.mlir_base.specs.Numbers.{is_in_range, is_coefficient}
use Rattle.mlir_base.specs.declared.types.ElemTy.{ElemTy}
use Rattle.payload_ops.specs.declared.step.Arg.{Arg}
use Rattle.payload_ops.specs.declared.step.Arg.TheVariants.{Input, Out, Step}
use Rattle.payload_ops.specs.declared.step.PayloadStep.{PayloadStep}
use Rattle.payload_ops.specs.declared.step.StepOp.{StepOp}
use Rattle.payload_ops.specs.declared.step.StepOp.TheVariants.{Index, Captured}
use Rattle.mlir_meaning.specs.Grids.{Each, count_up}
use Rattle.mlir_meaning.proofs.Grids.{each-append}
use Rattle.mlir_verify.specs.Place.{is_empty}
use Rattle.mlir_verify.specs.Types.{names_present}
use Rattle.verified_runs.specs.Forms.{Structured}
use Rattle.payload_forms.specs.Moved.{args_of, captured_step, index_step, linear_step, own_index, block, blocks, width}
use Rattle.payload_forms.specs.Joined.{applied, numbered_terms, producer_index, expr_at, front, producer_to, producer_steps, consumer_base, consumer_to, consumer_steps}
use Rattle.payload_forms.specs.Captured.{news_of, news, named, placed_steps, placed_to}
use Rattle.fuse_laws.specs.Fused.{pulled}
use Rattle.pair_laws.specs.Pairs.{captured_of, once, joint_of, joined_rest, used_of, value_at_place, fused_op}
use Rattle.pair_laws.proofs.Forming.{used_below}
use Rattle.pair_laws.proofs.Premises.{result_fits, pulled_map}

pub all_of : {A : Type 0} (f : A → Bool) (xs : List A) → Each (λ x. f x ≡ true) xs → list_all f xs ≡ true
all_of f [] h = refl
all_of f (x ∷ xs) h = λ j. h.0 j && all_of f xs h.1 j

pub each_of : {A : Type 0} (f : A → Bool) (xs : List A) → list_all f xs ≡ true → Each (λ x. f x ≡ true) xs
each_of f [] h = tt
each_of f (x ∷ xs) h = let parts = and_parts (f x) (list_all f xs) h in (parts.0, each_of f xs parts.1)

-- NO CAPTURED VALUES
empty_is : {A : Type 0} (xs : List A) → is_empty xs ≡ true → xs ≡ []
empty_is [] h = refl
empty_is (x ∷ xs) h = absurd cc

none_below : (ns : List ℕ) → Each (λ k. k < 0) ns → ns ≡ []
none_below [] h = refl
none_below (n ∷ ns) h = absurd (let l = h.0 in omega (arith, l))

module _ (p c : Structured) (p_none : is_empty p.captured ≡ true) (c_none : is_empty c.captured ≡ true) where
  pub none_of_both : captured_of p c ≡ []
  none_of_both = λ j. once [] (empty_is p.captured p_none j ++ empty_is c.captured c_none j)

  pub none_fused : (k : ℕ) (m : MapShape) (ds : List ℕ) → (fused_op p c k m ds).captured ≡ []
  none_fused k m ds =
      ap (map (value_at_place (captured_of p c)))
      (none_below (used_of p c k m ds) (subst (λ n. Each (λ i. i < n) (used_of p c k m ds)) (ap length none_of_both)
      (used_below (length (captured_of p c)) (joined_rest (joint_of p c k m ds) p.payload c.payload) [] tt)))

-- STEPS
module _ (dims : ℕ) where
  abbrev ArePresent : List PayloadStep → Type 0
  ArePresent = Each (λ (s : PayloadStep). names_present dims 0 s.op ≡ true)

  applied_present : (e : Expr) (n : ℕ) → expr_fits dims e ≡ true → ArePresent (applied e n)
  applied_present e n h =
      each-append (λ (s : PayloadStep). names_present dims 0 s.op ≡ true) (map (λ (t : ℕ × ℤ). index_step t.0) e.terms) (linear_step e.constant (numbered_terms n e.terms) ∷ [])
      (indexes e.terms 0 (and_parts (is_in_range e.constant) _ h).1) (refl, tt)
    where
      indexes : (ts : List (ℕ × ℤ)) (low : ℕ) → terms_fit dims ts low ≡ true → ArePresent (map (λ (t : ℕ × ℤ). index_step t.0) ts)
      indexes [] low h = tt
      indexes (t ∷ ts) low h =
          let rest = and_parts (nat_le low t.0 && nat_lt t.0 dims && is_coefficient t.1) (terms_fit dims ts (t.0 + 1)) h in
          ((and_parts (nat_le low t.0) (nat_lt t.0 dims) (and_parts (nat_le low t.0 && nat_lt t.0 dims) (is_coefficient t.1) rest.0).0).1, indexes ts (t.0 + 1) rest.1)

  module _ (indices : ℕ → ℕ → List PayloadStep) (to : Arg → Arg) (old : ℕ) (present : (d n : ℕ) → nat_lt d old ≡ true → ArePresent (indices d n)) where
    block_present : (n : ℕ) (t : ElemTy) (op : StepOp) (caps : ℕ) → names_present old caps op ≡ true → ArePresent (block indices to n t op)
    block_present n t (Index d) caps h = present d n h
    block_present n t (Captured k) caps h = tt
    block_present n t op caps h = (refl, tt)

    blocks_present : (n : ℕ) (ss : List PayloadStep) (caps : ℕ) → Each (λ (s : PayloadStep). names_present old caps s.op ≡ true) ss → ArePresent (blocks indices to n ss)
    blocks_present n [] caps h = tt
    blocks_present n (s ∷ ss) caps h =
        each-append (λ (s : PayloadStep). names_present dims 0 s.op ≡ true) (block indices to n s.ty s.op) (blocks indices to (n + width indices n s.op) ss)
        (block_present n s.ty s.op caps h.0) (blocks_present (n + width indices n s.op) ss caps h.1)

  -- with no captured value none is placed
  not_below : (i : ℕ) → nat_lt i 0 ≡ false
  not_below i = grind (arith, nat_tests)

  none_new : (seen : List ℕ) (a : Arg) → news_of 0 seen a ≡ []
  none_new seen (Input i) = refl
  none_new seen Out = refl
  none_new seen (Step i) = λ j. if not_below i j && not (is_among i seen) then i ∷ [] else []

  no_news : (seen : List ℕ) (args : List Arg) → news 0 seen args ≡ []
  no_news seen [] = refl
  no_news seen (a ∷ args) = (λ j. none_new seen a j ++ news 0 (seen ++ none_new seen a j) args) ∙ no_news (seen ++ []) args

  placed_present : (to : Arg → Arg) (n : ℕ) (seen : List ℕ) (ss : List PayloadStep) → ArePresent ss → ArePresent (placed_steps 0 to n seen ss)
  placed_present to n seen [] h = tt
  placed_present to n seen (s ∷ ss) h =
      let own = block own_index to (n + length (named 0 seen s)) s.ty s.op in
      let rest = placed_steps 0 to (suc (n + length (named 0 seen s))) (seen ++ named 0 seen s) ss in
      each-append (λ (s : PayloadStep). names_present dims 0 s.op ≡ true) (map captured_step (count_up (length seen) (length (named 0 seen s)))) (own ++ rest)
      (subst (λ (ns : List ℕ). ArePresent (map captured_step (count_up (length seen) (length ns)))) (sym (no_news seen (args_of s.op))) tt)
      (each-append (λ (s : PayloadStep). names_present dims 0 s.op ≡ true) own rest
      (block_present own_index to dims (λ d n l. (l, tt)) (n + length (named 0 seen s)) s.ty s.op 0 h.0)
      (placed_present to (suc (n + length (named 0 seen s))) (seen ++ named 0 seen s) ss h.1))

module _ (p c : Structured) (k : ℕ) (m : MapShape) (ds : List ℕ) (p_none : is_empty p.captured ≡ true) (c_none : is_empty c.captured ≡ true) (good : IsMap m) (dims : m.dims ≡ length c.iterators)
    (p_present : list_all (λ (s : PayloadStep). names_present (length p.iterators) (length p.captured) s.op) p.payload.steps ≡ true)
    (c_present : list_all (λ (s : PayloadStep). names_present (length c.iterators) (length c.captured) s.op) c.payload.steps ≡ true) where
  exprs_fit : (d : ℕ) → expr_fits (length c.iterators) (expr_at (pulled ds m).results d) ≡ true
  exprs_fit d = ap (λ n. expr_fits n (expr_at (pulled ds m).results d)) (sym dims) ∙ result_fits m.dims (pulled ds m).results d (pulled_map ds m good)

  rest_present : Each (λ (s : PayloadStep). names_present (length c.iterators) 0 s.op ≡ true) (joined_rest (joint_of p c k m ds) p.payload c.payload)
  rest_present =
      let j = joint_of p c k m ds in
      each-append (λ (s : PayloadStep). names_present (length c.iterators) 0 s.op ≡ true) (producer_steps j p.payload c.payload) (consumer_steps j p.payload c.payload)
      (blocks_present (length c.iterators) (producer_index j.exprs) (producer_to j p.payload c.payload) (length p.iterators) (λ d n l. applied_present (length c.iterators) (expr_at j.exprs d) n (exprs_fit d))
      (length (front j p.payload c.payload)) p.payload.steps (length p.captured) (each_of _ p.payload.steps p_present))
      (blocks_present (length c.iterators) own_index (consumer_to j p.payload c.payload) (length c.iterators) (λ d n l. (l, tt))
      (consumer_base j p.payload c.payload) c.payload.steps (length c.captured) (each_of _ c.payload.steps c_present))

  pub steps_present : list_all (λ (s : PayloadStep). names_present (length c.iterators) (length (fused_op p c k m ds).captured) s.op) (fused_op p c k m ds).payload.steps ≡ true
  steps_present =
      let rest = joined_rest (joint_of p c k m ds) p.payload c.payload in
      (λ j. list_all (λ (s : PayloadStep). names_present (length c.iterators) (length (none_fused p c p_none c_none k m ds j)) s.op) (fused_op p c k m ds).payload.steps)
      ∙ all_of (λ (s : PayloadStep). names_present (length c.iterators) 0 s.op) (fused_op p c k m ds).payload.steps
      (subst (λ n. Each (λ (s : PayloadStep). names_present (length c.iterators) 0 s.op ≡ true) (placed_steps n (placed_to n rest) 0 [] rest)) (sym (ap length (none_of_both p c p_none c_none)))
      (placed_present (length c.iterators) (placed_to 0 rest) 0 [] rest rest_present))
