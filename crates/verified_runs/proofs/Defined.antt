-- Values that are defined with data of their types are typed.
use Rattle.std.proofs.Common.{◌≡◌, ℕ, ◌==◌, Bool, true, false, List, [], ◌∷◌, ◌++◌, Some, None, sym, subst, arith}
use Rattle.std.specs.Prelude.{if◌then◌else◌}
use Rattle.std.proofs.lemmas.Bool.Decides.{nat_tests}
use Rattle.mlir_ir.specs.Count.{first}
use Rattle.mlir_ir.specs.declared.tree.Ty.{Ty}
use Rattle.mlir_ir.specs.declared.tree.ValueId.{ValueId}
use Rattle.mlir_meaning.specs.States.{set, set_all, names_of}
use Rattle.mlir_meaning.specs.declared.values.Datum.{Datum}
use Rattle.mlir_verify.specs.Place.{Types, type_among}
use Rattle.mlir_verify.proofs.Walks.{first-assoc}
use Rattle.mlir_verify.proofs.Standing.{type_among-append}
use Rattle.verified_runs.specs.Typed.{Holds, HoldsIn, HoldAll, types_of}

eqb_turned : (a b : ℕ) → (a == b) ≡ (b == a)
eqb_turned a b = grind (arith, nat_tests)

abbrev pub AllHold : Types → (ℕ → Datum) → Type 0
AllHold t e = (v : ℕ) → HoldsIn (t v) (e v)

one_set : (t : Types) (e : ℕ → Datum) (T : Ty) (d : Datum) (v : ℕ) → Holds T d → HoldsIn (t v) (e v) → (b c : Bool) → b ≡ c →
    HoldsIn (first (if b then Some T else None) (t v)) (if c then d else e v)
one_set t e T d v h k true true q = h
one_set t e T d v h k false false q = k
one_set t e T d v h k true false q = absurd cc
one_set t e T d v h k false true q = absurd cc

pub all_set : (rs : List (ValueId × Ty)) (ds : List Datum) → HoldAll (types_of rs) ds → (t : Types) (e : ℕ → Datum) → AllHold t e →
    AllHold (λ v. first (type_among rs v) (t v)) (set_all e (names_of rs) ds)
all_set [] [] h t e k = k
all_set [] (d ∷ ds) h t e k = absurd h
all_set (r ∷ rs) [] h t e k = absurd h
all_set (r ∷ rs) (d ∷ ds) h t e k = λ v.
    subst (λ o. HoldsIn o (set_all (set e (r.0).0 d) (names_of rs) ds v)) (sym (first-assoc (type_among rs v) (if (r.0).0 == v then Some r.1 else None) (t v)))
    (all_set rs ds h.1 (λ w. first (if (r.0).0 == w then Some r.1 else None) (t w)) (set e (r.0).0 d)
    (λ w. one_set t e r.1 d w h.0 (k w) ((r.0).0 == w) (w == (r.0).0) (eqb_turned (r.0).0 w)) v)

-- the state after results are defined
pub defined_typed : (scope rs : List (ValueId × Ty)) (ds : List Datum) (e : ℕ → Datum) → HoldAll (types_of rs) ds → AllHold (type_among scope) e →
    AllHold (type_among (scope ++ rs)) (set_all e (names_of rs) ds)
defined_typed scope rs ds e h k = λ v.
    subst (λ o. HoldsIn o (set_all e (names_of rs) ds v)) (sym (type_among-append scope rs v)) (all_set rs ds h (type_among scope) e k v)
