-- What follows an operation of a body that passes.
use Rattle.std.proofs.Common.{◌≡◌, ◌≢◌, ℕ, ◌<◌, ◌≤◌, ◌==◌, Bool, true, false, List, [], ◌∷◌, ◌++◌, refl, ap, sym, ◌∙◌, arith, ⊎_elim, lt-ltb}
use Rattle.std.specs.Prelude.{◌||◌, if◌then◌else◌}
use Rattle.std.proofs.lemmas.Bool.{and_parts, ne_eqb}
use Rattle.std.proofs.lemmas.Bool.Decides.{eqb_tells}
use Rattle.mlir_ir.specs.Count.{operands}
use Rattle.mlir_ir.specs.declared.tree.Op.{Op}
use Rattle.mlir_ir.specs.declared.tree.Ty.{Ty}
use Rattle.mlir_ir.specs.declared.tree.ValueId.{ValueId}
use Rattle.mlir_ir.specs.declared.tree.OpKind.{OpKind, For', Forall'}
use Rattle.mlir_meaning.specs.Grids.{Each}
use Rattle.mlir_meaning.specs.States.{names_of}
use Rattle.mlir_meaning.specs.Names.{AreIn, ReadsOnly, OpsReadOnly, DefinesOnly, OpsDefineOnly}
use Rattle.mlir_meaning.specs.Replacement.{StandsAlone}
use Rattle.mlir_meaning.proofs.Grids.{each_more, each-map}
use Rattle.mlir_verify.specs.Built.{is_built_kind, is_built}
use Rattle.affine_maps.specs.Permutation.{is_among}
use Rattle.mlir_verify.specs.Names.{numbers}
use Rattle.verified_runs.specs.Passes.{Scope, OpPasses, BodyPasses}
use Rattle.verified_runs.specs.Edits.{moved}
use Rattle.verified_runs.specs.Fresh.{above_values, above_body, below}

-- no operation that is built has a body
reads_operands : (N : ℕ → Bool) (kind : OpKind) → is_built_kind kind ≡ true → AreIn N (operands kind) → ReadsOnly N kind
unfolding ReadsOnly
reads_operands N (For' var lower upper step carried shape row) b h = absurd cc
reads_operands N (Forall' vars lower upper step shared shape row) b h = absurd cc
reads_operands N kind b h = h

pub defines_none : (D : ℕ → Type 0) (kind : OpKind) → is_built_kind kind ≡ true → DefinesOnly D kind
unfolding DefinesOnly
defines_none D (For' var lower upper step carried shape row) b = absurd cc
defines_none D (Forall' vars lower upper step shared shape row) b = absurd cc
defines_none D kind b = tt

pub built_kind : (scope : Scope) (wanted : List Ty) (o : Op) → OpPasses scope wanted o → is_built_kind o.kind ≡ true
unfolding is_built
built_kind scope wanted o h = (and_parts _ _ h.built).0

module _ (n : ℕ) where
  pub values_below : (vs : List ValueId) → above_values vs ≤ n → AreIn (below n) vs
  values_below [] l = tt
  values_below (v ∷ vs) l = (lt-ltb v.0 n (omega arith), values_below vs (omega arith))

  pub names_below : (vs : List ValueId) → above_values vs ≤ n → Each (λ v. v.0 < n) vs
  names_below [] l = tt
  names_below (v ∷ vs) l = (omega arith, names_below vs (omega arith))

  -- later operations read values of the module
  pub reads_below : (wanted : List Ty) (os : List Op) (scope : Scope) → BodyPasses scope wanted os → above_body os ≤ n → OpsReadOnly (below n) os
  reads_below wanted [] scope h l = tt
  reads_below wanted (o ∷ os) scope h l =
      (reads_operands (below n) o.kind (built_kind scope wanted o h.0) (values_below (operands o.kind) (omega arith)), reads_below wanted os (scope ++ o.results) h.2 (omega arith))

  -- a number apart from the old results and the new values is used where it was
  pub stands : (rs vs : List ValueId) (v : ℕ) → Each (λ (r : ValueId). r.0 ≢ v) rs → Each (λ (x : ValueId). n ≤ x.0) vs → v < n → (w : ℕ) → (moved rs vs w == v) ≡ (w == v)
  stands [] vs v a b l w = refl
  stands (r ∷ rs) [] v a b l w = refl
  stands (r ∷ rs) (x ∷ vs) v a b l w = ⊎_elim
      (λ t. (λ j. (if t.0 j then x.0 else moved rs vs w) == v) ∙ ne_eqb x.0 v (λ e. absurd (omega (arith, e, b.0, l))) ∙ sym (ne_eqb w v (λ e. a.0 (sym t.1 ∙ e))))
      (λ t. (λ j. (if t.0 j then x.0 else moved rs vs w) == v) ∙ stands rs vs v a.1 b.1 l w)
      (eqb_tells w r.0)

  module _ (wanted : List Ty) (rs : List (ValueId × Ty)) (vs : List ValueId) (new : Each (λ (x : ValueId). n ≤ x.0) vs) where
    abbrev InScope : Scope → Type 0
    InScope scope = Each (λ (r : ValueId × Ty). is_among (r.0).0 (numbers scope) ≡ true) rs

    still : (scope more : Scope) → InScope scope → InScope (scope ++ more)
    still scope more = each_more (λ (r : ValueId × Ty). is_among (r.0).0 (numbers scope) ≡ true) (λ r. is_among (r.0).0 (numbers (scope ++ more)) ≡ true) (λ r h. wider (r.0).0 scope h) rs where
      wider : (k : ℕ) (xs : Scope) → is_among k (numbers xs) ≡ true → is_among k (numbers (xs ++ more)) ≡ true
      wider k [] h = absurd cc
      wider k (x ∷ xs) h = by_test ((x.0).0 == k) (wider k xs) h where
        by_test : (b : Bool) → (is_among k (numbers xs) ≡ true → is_among k (numbers (xs ++ more)) ≡ true) → (b || is_among k (numbers xs)) ≡ true → (b || is_among k (numbers (xs ++ more))) ≡ true
        by_test true rest h = refl
        by_test false rest h = rest h

    -- what is defined later is apart
    pub alone : (os : List Op) (scope : Scope) → BodyPasses scope wanted os → InScope scope → above_body os ≤ n → OpsDefineOnly (StandsAlone (below n) (moved (names_of rs) vs)) os
    alone [] scope h known l = tt
    alone (o ∷ os) scope h known l = (
      (
        each-map (λ (v : ValueId). StandsAlone (below n) (moved (names_of rs) vs) v.0) (λ (d : ValueId × Ty). d.0) o.results (one o.results (h.0).news (omega arith)),
        defines_none _ o.kind (built_kind scope wanted o h.0),
      ),
      alone os (scope ++ o.results) h.2 (still scope o.results known) (omega arith),
    )
      where
        apart : (v : ℕ) → is_among v (numbers scope) ≡ false → Each (λ (r : ValueId). r.0 ≢ v) (names_of rs)
        apart v e = each-map (λ (r : ValueId). r.0 ≢ v) (λ (d : ValueId × Ty). d.0) rs
            (each_more (λ (r : ValueId × Ty). is_among (r.0).0 (numbers scope) ≡ true) (λ r. (r.0).0 ≢ v) (λ r k q. absurd (let z : false ≡ true = sym e ∙ ap (λ m. is_among m (numbers scope)) (sym q) ∙ k in cc)) rs known)

        one : (ds : List (ValueId × Ty)) → Each (λ (d : ValueId × Ty). is_among (d.0).0 (numbers scope) ≡ false) ds → above_values (names_of ds) ≤ n →
            Each (λ (d : ValueId × Ty). StandsAlone (below n) (moved (names_of rs) vs) (d.0).0) ds
        one [] e m = tt
        one (d ∷ ds) e m = ((λ w read. stands (names_of rs) vs (d.0).0 (apart (d.0).0 e.0) new (omega arith) w), one ds e.1 (omega arith))
