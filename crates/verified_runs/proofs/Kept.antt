-- What a place finds as it was, and what stands around it reads.
use Rattle.std.proofs.Common.{◌≡◌, ℕ, ◌==◌, ◌||◌, Bool, true, false, List, [], ◌∷◌, ◌++◌, Option, Some, None, refl, ap, sym, subst, ◌∙◌, arith}
use Rattle.std.specs.Prelude.{is_some, if◌then◌else◌}
use Rattle.std.proofs.lemmas.Bool.{and_parts, ne_eqb}
use Rattle.affine_maps.specs.Permutation.{is_among}
use Rattle.mlir_ir.specs.Count.{first, operands}
use Rattle.mlir_ir.specs.declared.tree.ValueId.{ValueId}
use Rattle.mlir_ir.specs.declared.tree.Ty.{Ty}
use Rattle.mlir_meaning.specs.Grids.{Each}
use Rattle.mlir_ir.specs.declared.tree.OpKind.{OpKind, Constant, Empty, Generic, Fill, Matmul, BatchMatmul, Transpose, Broadcast, Return}
use Rattle.mlir_ir.specs.declared.tree.Op.{Op}
use Rattle.mlir_meaning.specs.declared.values.Datum.TheVariants.{Number}
use Rattle.mlir_meaning.specs.Contexts.{Context, Here, InFor, InForall, plug}
use Rattle.mlir_meaning.specs.Loops.{arguments, for_state, forall_state, starts, numbers_at}
use Rattle.mlir_meaning.specs.Names.{OpsReadOnly, OpsDefineOnly}
use Rattle.mlir_meaning.specs.Replacement.{AroundReadsOnly, AfterDefinesOnly}
use Rattle.mlir_meaning.specs.Renaming.{value, values, renamed, reused_ops, reused_after}
use Rattle.mlir_meaning.proofs.Grids.{each_more, each-map}
use Rattle.mlir_meaning.proofs.Through.{each_left, each_right}
use Rattle.mlir_verify.specs.Place.{type_among}
use Rattle.mlir_verify.specs.Built.{is_built_kind}
use Rattle.mlir_verify.specs.Names.{in_scope, numbers}
use Rattle.mlir_meaning.specs.States.{indices_in, set, set_all}
use Rattle.mlir_meaning.proofs.Keeps.{keeps_others}
use Rattle.mlir_meaning.proofs.States.{set_other, set_all_other}
use Rattle.verified_runs.specs.Passes.{Scope, BodyPasses, scope_after, scope_in}
use Rattle.verified_runs.specs.Fresh.{below}
use Rattle.verified_runs.specs.Laws.{ComesKept, AroundIsBelow, LaterAreOther, RenamedAfter}
use Rattle.verified_runs.proofs.Runs.{no_for, no_forall, rest_passes}
use Rattle.verified_runs.proofs.Places.{built_kind, defines_none, reads_below}
use Rattle.verified_runs.proofs.ReusedBodies.{results_kept, or_false, among_parts}

pub comes_kept : ComesKept
comes_kept (Here before after) xs s u v h r = keeps_others v before s u h r
comes_kept (InFor before l inner after) xs s u v h r =
    comes_kept inner xs (for_state r.0 l.head r.2 r.3) u v h.3 r.5
    ∙ set_all_other (arguments l.head.carried) r.3 (set (r.0).values l.head.var.0 (Number r.2)) v h.2
    ∙ set_other (r.0).values l.head.var.0 v (Number r.2) (ne_eqb v l.head.var.0 h.1)
    ∙ keeps_others v before s r.0 h.0 r.1
comes_kept (InForall before l inner after) xs s u v h r =
    comes_kept inner xs (forall_state r.0 l.head r.2) u v h.3 r.4
    ∙ set_all_other l.head.vars (numbers_at (indices_in (r.0).values l.head.lower) (indices_in (r.0).values l.head.step) r.2)
    (set_all (r.0).values (arguments l.head.shared) (starts (r.0).values l.head.shared)) v h.2
    ∙ set_all_other (arguments l.head.shared) (starts (r.0).values l.head.shared) (r.0).values v h.1
    ∙ keeps_others v before s r.0 h.0 r.1

-- what each part of a body reads
left_reads : (N : ℕ → _) (xs ys : List Op) → OpsReadOnly N (xs ++ ys) → OpsReadOnly N xs × OpsReadOnly N ys
left_reads N [] ys h = (tt, h)
left_reads N (x ∷ xs) ys h = let r = left_reads N xs ys h.1 in ((h.0, r.0), r.1)

pub around_is_below : AroundIsBelow
around_is_below f k xs n passes e small = at k e where
  at : (k : Context) → f.body ≡ plug k xs → AroundReadsOnly (below n) k
  at (Here before after) e =
      let whole = subst (OpsReadOnly (below n)) e (reads_below n f.results f.body f.params passes.body (omega arith)) in
      let parts = left_reads (below n) before (xs ++ after) whole in
      (parts.0, (left_reads (below n) xs after parts.1).1)
  at (InFor before l inner after) e = absurd (no_for f.results _ l _ (rest_passes f.results before _ f.params (subst (BodyPasses f.params f.results) e passes.body)).0)
  at (InForall before l inner after) e = absurd (no_forall f.results _ l _ (rest_passes f.results before _ f.params (subst (BodyPasses f.params f.results) e passes.body)).0)

-- NUMBERS
-- a number that isn't in scope after more definitions isn't before them
not_before : (v : ℕ) (scope more : Scope) → is_among v (numbers (scope ++ more)) ≡ false → is_among v (numbers scope) ≡ false
not_before v scope more e = (or_false _ _ (sym (among_parts v scope more) ∙ e)).0

not_before_after : (v : ℕ) (xs : List Op) (scope : Scope) → is_among v (numbers (scope_after scope xs)) ≡ false → is_among v (numbers scope) ≡ false
not_before_after v [] scope e = e
not_before_after v (o ∷ xs) scope e = not_before v scope o.results (not_before_after v xs (scope ++ o.results) e)

module _ (wanted : List Ty) where
  others_later : (base : Scope) (os : List Op) (scope : Scope) → BodyPasses scope wanted os →
      ((v : ℕ) → is_among v (numbers scope) ≡ false → is_among v (numbers base) ≡ false) → OpsDefineOnly (λ v. is_among v (numbers base) ≡ false) os
  others_later base [] scope h k = tt
  others_later base (o ∷ os) scope h k = (
    (
      each-map (λ (v : ValueId). is_among v.0 (numbers base) ≡ false) (λ (d : ValueId × Ty). d.0) o.results
          (each_more (λ (d : ValueId × Ty). is_among (d.0).0 (numbers scope) ≡ false) (λ d. is_among (d.0).0 (numbers base) ≡ false) (λ d e. k (d.0).0 e) o.results (h.0).news),
      defines_none _ o.kind (built_kind scope wanted o h.0),
    ),
    others_later base os (scope ++ o.results) h.2 (λ v e. k v (not_before v scope o.results e)),
  )

pub later_are_other : LaterAreOther
later_are_other f k xs passes e = at k e where
  at : (k : Context) → f.body ≡ plug k xs → AfterDefinesOnly (λ v. is_among v (numbers (scope_after (scope_in f.params k) xs)) ≡ false) k
  at (Here before after) e =
      let body = subst (BodyPasses f.params f.results) e passes.body in
      let here = rest_passes f.results before (xs ++ after) f.params body in
      others_later f.results (scope_after (scope_after f.params before) xs) after (scope_after (scope_after f.params before) xs) (rest_passes f.results xs after (scope_after f.params before) here) (λ v h. h)
  at (InFor before l inner after) e = absurd (no_for f.results _ l _ (rest_passes f.results before _ f.params (subst (BodyPasses f.params f.results) e passes.body)).0)
  at (InForall before l inner after) e = absurd (no_forall f.results _ l _ (rest_passes f.results before _ f.params (subst (BodyPasses f.params f.results) e passes.body)).0)

-- RENAMING
module _ (g : ℕ → ℕ) where
  abbrev Stays : ValueId → Type 0
  Stays v = g v.0 ≡ v.0

  value_stays : (v : ValueId) → Stays v → value g v ≡ v
  value_stays v h = λ j. record { 0 = h j }

  values_stay : (vs : List ValueId) → Each Stays vs → values g vs ≡ vs
  values_stay [] h = refl
  values_stay (v ∷ vs) h = λ j. value_stays v h.0 j ∷ values_stay vs h.1 j

  abbrev new : OpKind → OpKind
  new = renamed (λ k. k) g (λ k. k)

  kind_stays : (kind : OpKind) → is_built_kind kind ≡ true → Each Stays (operands kind) → new kind ≡ kind
  unfolding renamed
  kind_stays (Constant cells) b h = refl
  kind_stays (Empty sizes) b h = λ j. Empty (values_stay sizes h j)
  kind_stays (Generic maps iterators ins outs captured payload) b h =
      let rest = each_right Stays ins (outs ∷ captured) h in
      λ j. Generic maps iterators (values_stay ins (each_left Stays ins (outs ∷ captured) h) j) (value_stays outs rest.0 j) (values_stay captured rest.1 j) payload
  kind_stays (Fill v outs) b h = λ j. Fill (value_stays v h.0 j) (value_stays outs h.1.0 j)
  kind_stays (Matmul x y outs) b h = λ j. Matmul (value_stays x h.0 j) (value_stays y h.1.0 j) (value_stays outs h.1.1.0 j)
  kind_stays (BatchMatmul x y outs) b h = λ j. BatchMatmul (value_stays x h.0 j) (value_stays y h.1.0 j) (value_stays outs h.1.1.0 j)
  kind_stays (Transpose source outs order) b h = λ j. Transpose (value_stays source h.0 j) (value_stays outs h.1.0 j) order
  kind_stays (Broadcast source outs dims) b h = λ j. Broadcast (value_stays source h.0 j) (value_stays outs h.1.0 j) dims
  kind_stays (Return vs) b h = λ j. Return (values_stay vs h j)
  kind_stays kind b h = absurd cc

  op_stays : (o : Op) → is_built_kind o.kind ≡ true → Each Stays (operands o.kind) → reused_ops g (o ∷ []) ≡ o ∷ []
  op_stays o b h = λ j. record { id = o.id; results = results_kept g o.results j; kind = kind_stays o.kind b h j } ∷ []

  reused_append : (xs ys : List Op) → reused_ops g (xs ++ ys) ≡ reused_ops g xs ++ reused_ops g ys
  reused_append [] ys = refl
  reused_append (x ∷ xs) ys = ap (λ zs. reused_ops g (x ∷ []) ++ zs) (reused_append xs ys)

-- a value with a type is in scope
typed_among : (v : ℕ) (scope : Scope) → is_some (type_among scope v) ≡ true → is_among v (numbers scope) ≡ true
typed_among v [] h = absurd cc
typed_among v (d ∷ scope) h = by_test ((d.0).0 == v) (type_among scope v) refl (typed_among v scope) h where
  by_test : (b : Bool) (o : Option Ty) → type_among scope v ≡ o → (is_some (type_among scope v) ≡ true → is_among v (numbers scope) ≡ true) →
      is_some (first o (if b then Some d.1 else None)) ≡ true → (b || is_among v (numbers scope)) ≡ true
  by_test true o e rest h = refl
  by_test false None e rest h = absurd cc
  by_test false (Some t) e rest h = rest (ap is_some e)

module _ (wanted : List Ty) (g : ℕ → ℕ) where
  -- operations whose operands stay are themselves
  ops_stay : (os rest : List Op) (scope : Scope) → BodyPasses scope wanted (os ++ rest) → ((v : ℕ) → is_among v (numbers (scope_after scope os)) ≡ true → g v ≡ v) → reused_ops g os ≡ os
  ops_stay [] rest scope h k = refl
  ops_stay (o ∷ os) rest scope h k =
      let here : Each (Stays g) (operands o.kind) = all_stay (operands o.kind) (h.0).known in
      λ j. op_stays g o (built_kind scope wanted o h.0) here j ++ ops_stay os rest (scope ++ o.results) h.2 k j
    where
      still_there : (v : ℕ) (xs : List Op) (s : Scope) → is_among v (numbers s) ≡ true → is_among v (numbers (scope_after s xs)) ≡ true
      still_there v [] s e = e
      still_there v (x ∷ xs) s e = still_there v xs (s ++ x.results) (among_parts v s x.results ∙ (λ j. e j || is_among v (numbers x.results)))

      all_stay : (vs : List ValueId) → in_scope (type_among scope) vs ≡ true → Each (Stays g) vs
      all_stay [] e = tt
      all_stay (v ∷ vs) e =
          let both = and_parts (is_some (type_among scope v.0)) _ e in
          (k v.0 (still_there v.0 (o ∷ os) scope (typed_among v.0 scope both.0)), all_stay vs both.1)

pub renamed_after : RenamedAfter
renamed_after f k xs g passes e stays = at k e stays where
  at : (k : Context) → f.body ≡ plug k xs → ((v : ℕ) → is_among v (numbers (scope_in f.params k)) ≡ true → g v ≡ v) → reused_ops g (plug k xs) ≡ plug (reused_after g k) (reused_ops g xs)
  at (Here before after) e stays =
      let body = subst (BodyPasses f.params f.results) e passes.body in
      reused_append g before (xs ++ after) ∙ (λ j. ops_stay f.results g before (xs ++ after) f.params body stays j ++ reused_append g xs after j)
  at (InFor before l inner after) e stays = absurd (no_for f.results _ l _ (rest_passes f.results before _ f.params (subst (BodyPasses f.params f.results) e passes.body)).0)
  at (InForall before l inner after) e stays = absurd (no_forall f.results _ l _ (rest_passes f.results before _ f.params (subst (BodyPasses f.params f.results) e passes.body)).0)
