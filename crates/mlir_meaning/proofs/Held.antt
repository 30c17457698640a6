-- What an operation gave still stands where later operations run, and so do its operands.
use Rattle.std.proofs.Common.{◌≡◌, ◌≢◌, ℕ, List, [], ◌∷◌, ◌++◌, Option, Some, None, refl, sym, ◌∙◌, eq-eqb}
use Rattle.std.specs.Prelude.{if◌then◌else◌}
use Rattle.std.proofs.lemmas.Bool.{ne_eqb}
use Rattle.affine_maps.specs.Shape.{MapShape}
use Rattle.payload_ops.specs.Shape.{PayloadShape}
use Rattle.mlir_ir.specs.declared.tree.Op.{Op}
use Rattle.mlir_ir.specs.declared.tree.Ty.{Ty}
use Rattle.mlir_ir.specs.declared.tree.ValueId.{ValueId}
use Rattle.mlir_meaning.specs.declared.values.Datum.{Datum}
use Rattle.mlir_meaning.specs.Grids.{Each}
use Rattle.mlir_meaning.specs.Meaning.{values_in, captured_in, kind_meaning, run}
use Rattle.mlir_meaning.specs.Names.{DoesNotName}
use Rattle.mlir_meaning.specs.States.{State, Goes, names_of, made, then_goes, set}
use Rattle.mlir_meaning.specs.Structured.{generic_result}
use Rattle.mlir_meaning.proofs.Keeps.{keeps_others}
use Rattle.mlir_meaning.proofs.States.{Agrees, values_same, captured_same}
use Rattle.mlir_meaning.proofs.Through.{each_left, each_right}

-- no operation between defines the value
abbrev pub Untouched : List Op → ValueId → Type 0
Untouched mid v = Each (λ (o : Op). DoesNotName v.0 (names_of o.results)) mid

-- a result that the values of the operands decide
abbrev pub IsDecidedBy : List ValueId → ((ℕ → Datum) → Option Datum) → Type 0
IsDecidedBy operands result = (e f : ℕ → Datum) → Each (Agrees e f) operands → result e ≡ result f

-- that of a generic is
pub generic_decided : (maps : List MapShape) (dims : ℕ) (ins : List ValueId) (outs : ValueId) (captured : List ValueId) (payload : PayloadShape) →
    IsDecidedBy (ins ++ (outs ∷ captured)) (λ e. generic_result maps dims (values_in e ins) (e outs.0) (captured_in e captured) payload)
generic_decided maps dims ins outs captured payload e f h =
    let rest = each_right (Agrees e f) ins (outs ∷ captured) h in
    λ j. generic_result maps dims (values_same e f ins (each_left (Agrees e f) ins (outs ∷ captured) h) j) (rest.0 j) (captured_same e f captured rest.1 j) payload

module _ (o : Op) (r : ValueId) (ty : Ty) (operands : List ValueId) (result : (ℕ → Datum) → Option Datum) (decided : IsDecidedBy operands result)
    (means : (s : State) → kind_meaning o.kind o.results s ≡ made ((r, ty) ∷ []) s (result s.values))
    (mid : List Op) (own : Each (λ (v : ValueId). v.0 ≢ r.0) operands) (later : Each (Untouched mid) operands) (later_result : Untouched mid r) where
  after_made : (s u : State) (x : Option Datum) → result s.values ≡ x → then_goes (made ((r, ty) ∷ []) s x) (run mid) ≡ Goes u →
      (d : Datum) × (result u.values ≡ Some d) × (u.values r.0 ≡ d)
  after_made s u None e h = absurd cc
  after_made s u (Some d) e h =
      let t : State = record { values = set s.values r.0 d; shared = s.shared; inserts = s.inserts } in
      let kept : (v : ValueId) → (v.0 ≢ r.0) × Untouched mid v → s.values v.0 ≡ u.values v.0 =
      λ v n. sym (keeps_others v.0 mid t u n.1 h ∙ (λ j. if ne_eqb v.0 r.0 n.0 j then d else s.values v.0)) in (
        d,
        sym (decided s.values u.values (each_of s u kept operands own later)) ∙ e,
        keeps_others r.0 mid t u later_result h ∙ (λ j. if eq-eqb r.0 r.0 refl j then d else s.values r.0),
      )
    where
      each_of : (s u : State) → ((v : ValueId) → (v.0 ≢ r.0) × Untouched mid v → s.values v.0 ≡ u.values v.0) → (vs : List ValueId) → Each (λ (v : ValueId). v.0 ≢ r.0) vs → Each (Untouched mid) vs →
          Each (Agrees s.values u.values) vs
      each_of s u f [] a b = tt
      each_of s u f (v ∷ vs) a b = (f v (a.0, b.0), each_of s u f vs a.1 b.1)

  -- the operation ran in state s, and the run came to state u
  pub still_holds : (s u : State) → run (o ∷ mid) s ≡ Goes u → (d : Datum) × (result u.values ≡ Some d) × (u.values r.0 ≡ d)
  unfolding run
  still_holds s u h = after_made s u (result s.values) refl ((λ j. then_goes (sym (means s) j) (run mid)) ∙ h)
