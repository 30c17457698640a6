-- How many steps the payload of the fused generic has, where nothing is captured.
use Rattle.std.proofs.Common.{◌≡◌, ℕ, suc, ◌+◌, ◌&&◌, true, false, not, ℤ, List, [], ◌∷◌, ◌++◌, map, length, refl, ap, sym, ◌∙◌, arith, length-append}
use Rattle.std.specs.Prelude.{nat_lt, if◌then◌else◌, ⊤}
use Rattle.std.proofs.lemmas.Bool.Decides.{nat_tests}
use Rattle.affine_maps.specs.Permutation.{is_among}
use Rattle.affine_maps.specs.declared.map.Expr.{Expr}
use Rattle.mlir_base.specs.declared.types.ElemTy.{ElemTy}
use Rattle.payload_ops.specs.Shape.{PayloadShape}
use Rattle.payload_ops.specs.declared.step.Arg.{Arg}
use Rattle.payload_ops.specs.declared.step.Arg.TheVariants.{Input, Out, Step}
use Rattle.payload_ops.specs.declared.step.PayloadStep.{PayloadStep}
use Rattle.payload_ops.specs.declared.step.StepOp.{StepOp}
use Rattle.payload_ops.specs.declared.step.StepOp.TheVariants.{Index, Captured}
use Rattle.mlir_meaning.specs.Grids.{Each, count_up}
use Rattle.mlir_meaning.proofs.Grids.{each-append}
use Rattle.mlir_verify.specs.Place.{is_empty}
use Rattle.verified_runs.specs.Forms.{Structured}
use Rattle.payload_forms.specs.Moved.{args_of, captured_step, index_step, linear_step, own_index, block, blocks, width, number_at}
use Rattle.payload_forms.specs.Joined.{Joint, applied, numbered_terms, producer_index, expr_at, producer_to, producer_steps, consumer_base, consumer_to, consumer_steps}
use Rattle.payload_forms.specs.Captured.{news_of, news, named, placed_steps, placed_to}
use Rattle.pair_laws.specs.Pairs.{captured_of, joined_rest, place_in}
use Rattle.pair_laws.proofs.Present.{none_of_both}
use Rattle.fuse_forms.specs.Forms.{formed_of, joint_by}

-- NO STEP IS A CAPTURED VALUE
abbrev IsOwn : StepOp → Type 0
IsOwn (Captured k) = ⊥
IsOwn op = ⊤

abbrev AreOwn : List PayloadStep → Type 0
AreOwn = Each (λ (s : PayloadStep). IsOwn s.op)

applied_own : (e : Expr) (n : ℕ) → AreOwn (applied e n)
applied_own e n =
    each-append (λ (s : PayloadStep). IsOwn s.op) (map (λ (t : ℕ × ℤ). index_step t.0) e.terms) (linear_step e.constant (numbered_terms n e.terms) ∷ []) (go e.terms) (tt, tt)
  where
    go : (ts : List (ℕ × ℤ)) → AreOwn (map (λ (t : ℕ × ℤ). index_step t.0) ts)
    go [] = tt
    go (t ∷ ts) = (tt, go ts)

module _ (indices : ℕ → ℕ → List PayloadStep) (to : Arg → Arg) (own : (d n : ℕ) → AreOwn (indices d n)) where
  block_own : (n : ℕ) (t : ElemTy) (op : StepOp) → AreOwn (block indices to n t op)
  block_own n t (Index d) = own d n
  block_own n t (Captured k) = tt
  block_own n t op = (tt, tt)

  blocks_own : (n : ℕ) (ss : List PayloadStep) → AreOwn (blocks indices to n ss)
  blocks_own n [] = tt
  blocks_own n (s ∷ ss) =
      each-append (λ (s : PayloadStep). IsOwn s.op) (block indices to n s.ty s.op) (blocks indices to (n + width indices n s.op) ss)
      (block_own n s.ty s.op) (blocks_own (n + width indices n s.op) ss)

rest_own : (j : Joint) (p c : PayloadShape) → AreOwn (joined_rest j p c)
rest_own j p c =
    each-append (λ (s : PayloadStep). IsOwn s.op) (producer_steps j p c) (consumer_steps j p c)
    (blocks_own (producer_index j.exprs) (producer_to j p c) (λ d n. applied_own (expr_at j.exprs d) n) _ p.steps)
    (blocks_own own_index (consumer_to j p c) (λ d n. (tt, tt)) (consumer_base j p c) c.steps)

-- SO NONE IS PLACED
none_new : (seen : List ℕ) (a : Arg) → news_of 0 seen a ≡ []
none_new seen (Input i) = refl
none_new seen Out = refl
none_new seen (Step i) =
    let e : nat_lt i 0 ≡ false = grind (arith, nat_tests) in
    λ j. if e j && not (is_among i seen) then i ∷ [] else []

none_named : (seen : List ℕ) (args : List Arg) → news 0 seen args ≡ []
none_named seen [] = refl
none_named seen (a ∷ args) = (λ j. none_new seen a j ++ news 0 (seen ++ none_new seen a j) args) ∙ none_named (seen ++ []) args

one_step : (to : Arg → Arg) (n : ℕ) (t : ElemTy) (op : StepOp) → IsOwn op → length (block own_index to n t op) ≡ 1
one_step to n t (Index d) h = refl
one_step to n t (Captured k) h = absurd h
one_step to n t op h = refl

placed_long : (to : Arg → Arg) (n : ℕ) (seen : List ℕ) (ss : List PayloadStep) → AreOwn ss → length (placed_steps 0 to n seen ss) ≡ length ss
placed_long to n seen [] h = refl
placed_long to n seen (s ∷ ss) h =
    let no : length (named 0 seen s) ≡ 0 = ap length (none_named seen (args_of s.op)) in
    let own = block own_index to (n + length (named 0 seen s)) s.ty s.op in
    let rest = placed_steps 0 to (suc (n + length (named 0 seen s))) (seen ++ named 0 seen s) ss in
    (λ j. length (map captured_step (count_up (length seen) (no j)) ++ (own ++ rest)))
    ∙ length-append own rest
    ∙ (λ j. one_step to (n + length (named 0 seen s)) s.ty s.op h.0 j + placed_long to (suc (n + length (named 0 seen s))) (seen ++ named 0 seen s) ss h.1 j)
    ∙ (let e : 1 + length ss ≡ suc (length ss) = omega arith in e)

module _ (p c : Structured) (p_none : is_empty p.captured ≡ true) (c_none : is_empty c.captured ≡ true) where
  empty_is : {A : Type 0} (xs : List A) → is_empty xs ≡ true → [] ≡ xs
  empty_is [] h = refl
  empty_is (x ∷ xs) h = absurd cc

  none : [] ≡ captured_of p c
  none = sym (none_of_both p c p_none c_none)

  -- what the code joins by
  pub joint_is : (k : ℕ) (exprs : List Expr) → record { input = k; exprs = exprs; captured = 0; of_producer = number_at []; of_consumer = number_at [] } ≡ joint_by p c k exprs
  joint_is k exprs = λ j. record {
    input = k;
    exprs = exprs;
    captured = length (none j);
    of_producer = place_in (none j) (empty_is p.captured p_none j);
    of_consumer = place_in (none j) (empty_is c.captured c_none j);
  }

  pub steps_long : (k : ℕ) (exprs : List Expr) → length (joined_rest (joint_by p c k exprs) p.payload c.payload) ≡ length (formed_of p c k exprs).payload.steps
  steps_long k exprs =
      let rest = joined_rest (joint_by p c k exprs) p.payload c.payload in
      let n : 0 ≡ length (captured_of p c) = ap length none in
      sym (placed_long (placed_to 0 rest) 0 [] rest (rest_own (joint_by p c k exprs) p.payload c.payload))
      ∙ (λ j. length (placed_steps (n j) (placed_to (n j) rest) 0 [] rest))
