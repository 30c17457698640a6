-- One result under another number.
use Rattle.std.proofs.Common.{◌≡◌, ℕ, ◌+◌, ◌<◌, ◌≤◌, ◌==◌, true, List, [], ◌∷◌, Option, Some, None, refl, sym, subst, ◌∙◌, arith, ⊎_elim, eq-eqb, ltb-true}
use Rattle.std.specs.Prelude.{if◌then◌else◌}
use Rattle.std.proofs.lemmas.Bool.{ne_eqb}
use Rattle.std.proofs.lemmas.Bool.Decides.{eqb_tells}
use Rattle.mlir_ir.specs.declared.tree.Op.{Op}
use Rattle.mlir_ir.specs.declared.tree.Ty.{Ty}
use Rattle.mlir_ir.specs.declared.tree.Ty.TheVariants.{Scalar, Tensor, Vector}
use Rattle.mlir_ir.specs.declared.tree.OpKind.{OpKind}
use Rattle.mlir_ir.specs.declared.tree.ValueId.{ValueId}
use Rattle.mlir_meaning.specs.Grids.{Each}
use Rattle.mlir_meaning.specs.States.{State, names_of, made}
use Rattle.mlir_meaning.specs.declared.values.Datum.{Datum}
use Rattle.mlir_meaning.specs.Meaning.{kind_meaning, run}
use Rattle.mlir_meaning.specs.Names.{AlikeThrough}
use Rattle.mlir_meaning.proofs.Runs.{run-one}
use Rattle.mlir_verify.specs.Tensors.{result_type, is_alike}
use Rattle.mlir_verify.specs.Place.{type_among}
use Rattle.verified_runs.specs.Typed.{AreTyped}
use Rattle.verified_runs.specs.Passes.{Scope}
use Rattle.verified_runs.specs.Edits.{moved}
use Rattle.verified_runs.specs.Fresh.{below}
use Rattle.verified_runs.specs.Edits.{renumbered, anew}
use Rattle.verified_runs.specs.Laws.{HasSameEffect}

-- an operation has one result, or its results' types say that it hasn't
abbrev pub HasOne : List (ValueId × Ty) → Type 0
HasOne rs = (r : ValueId × Ty) × (rs ≡ r ∷ [])

pub new_numbers : (n : ℕ) (rs : List (ValueId × Ty)) → Each (λ v. n ≤ v.0) (names_of (renumbered n rs))
new_numbers n rs = from n rs (omega arith) where
  from : (m : ℕ) (rs : List (ValueId × Ty)) → n ≤ m → Each (λ v. n ≤ v.0) (names_of (renumbered m rs))
  from m [] l = tt
  from m (r ∷ rs) l = (l, from (m + 1) rs (omega arith))

module _ (n : ℕ) (r : ValueId × Ty) (u : State) where
  held : (d : Datum) (w : ℕ) → w < n → (if w == (r.0).0 then d else u.values w) ≡ (if moved (names_of (r ∷ [])) (record { 0 = n } ∷ []) w == n then d else u.values (moved (names_of (r ∷ [])) (record { 0 = n } ∷ []) w))
  held d w l = ⊎_elim
      (λ t. (λ j. if t.0 j then d else u.values w) ∙ sym ((λ j. if (if t.0 j then n else w) == n then d else u.values (if t.0 j then n else w)) ∙ (λ j. if eq-eqb n n refl j then d else u.values n)))
      (λ t. (λ j. if t.0 j then d else u.values w) ∙ sym ((λ j. if (if t.0 j then n else w) == n then d else u.values (if t.0 j then n else w)) ∙ (λ j. if ne_eqb w n (λ e. absurd (omega (arith, e, l))) j then d else u.values w)))
      (eqb_tells w (r.0).0)

  pub one_made : (T : Ty) (x : Option Datum) → AlikeThrough (below n) (moved (names_of (r ∷ [])) (record { 0 = n } ∷ [])) (made (r ∷ []) u x) (made ((record { 0 = n }, T) ∷ []) u x)
  one_made T None = refl
  one_made T (Some d) = record { values = λ w h. held d w (ltb-true w n h); shared = refl; inserts = refl }

pub one_same : (n : ℕ) (rs : List (ValueId × Ty)) (u : State) (x : Option Datum) → HasOne rs →
    AlikeThrough (below n) (moved (names_of rs) (names_of (renumbered n rs))) (made rs u x) (made (renumbered n rs) u x)
one_same n rs u x h =
    subst (λ qs. AlikeThrough (below n) (moved (names_of qs) (names_of (renumbered n qs))) (made qs u x) (made (renumbered n qs) u x)) (sym h.1) (one_made n h.0 u (h.0).1 x)

-- both kinds give one datum, or both trap
pub record GivesSame (old new : OpKind) (rs qs : List (ValueId × Ty)) (u : State) : Type 0 where
  pub datum : Option Datum
  pub was : kind_meaning old rs u ≡ made rs u datum
  pub is : kind_meaning new qs u ≡ made qs u datum

-- a step that makes one operation of another kind, with fresh numbers
pub anew_same : (n op : ℕ) (kind : OpKind) (scope : Scope) (o : Op) →
    ((u : State) → AreTyped (type_among scope) u → HasOne o.results × GivesSame o.kind kind o.results (renumbered n o.results) u) → HasSameEffect n scope o (anew op n kind o)
anew_same n op kind scope o gives = record {
  fresh = new_numbers n o.results;
  same = λ u typed.
      let one = (gives u typed).0 in
      let g = (gives u typed).1 in
      let made_op : Op = record { id = record { 0 = op }; results = renumbered n o.results; kind = kind } in
      subst (λ p. AlikeThrough (below n) (moved (names_of o.results) (names_of (renumbered n o.results))) p (run (made_op ∷ []) u)) (sym (run-one o u ∙ g.was))
      (subst (AlikeThrough (below n) (moved (names_of o.results) (names_of (renumbered n o.results))) (made o.results u g.datum)) (sym (run-one made_op u ∙ g.is))
      (one_same n o.results u g.datum one));
}

pub one_result : (o : Option Ty) (rs : List (ValueId × Ty)) → is_alike o (result_type rs) ≡ true → HasOne rs
one_result o (r ∷ []) h = (r, refl)
one_result (Some (Tensor es w)) [] h = absurd cc
one_result (Some (Scalar e)) [] h = absurd cc
one_result (Some (Vector es w)) [] h = absurd cc
one_result None [] h = absurd cc
one_result (Some (Tensor es w)) (r ∷ q ∷ rs) h = absurd cc
one_result (Some (Scalar e)) (r ∷ q ∷ rs) h = absurd cc
one_result (Some (Vector es w)) (r ∷ q ∷ rs) h = absurd cc
one_result None (r ∷ q ∷ rs) h = absurd cc
