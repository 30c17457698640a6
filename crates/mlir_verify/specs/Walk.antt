-- What the walk over a module's operations keeps and answers.
use Rattle.std.specs.Prelude.{◌≡◌, ℕ, Bool, true, false, List, [], ◌∷◌, ◌++◌, Some, None, Result, Ok, Err, ⊤}
use Rattle.std.specs.List.{flat_map, list_all}
use Rattle.mlir_base.specs.declared.memory.Memory.{Memory}
use Rattle.mlir_ir.specs.Shape.{FuncShape}
use Rattle.mlir_ir.specs.declared.tree.Op.{Op}
use Rattle.mlir_verify.specs.declared.rule.Refused.{Refused}
use Rattle.mlir_verify.specs.declared.rule.Refused.TheVariants as Refusal
use Rattle.mlir_verify.specs.declared.scope.Scope.{Scope}
use Rattle.mlir_verify.specs.declared.walk.Seen.{Seen}
use Rattle.mlir_verify.specs.Place.{Place, Types, places_of, places_from, scope_at, type_among}
use Rattle.mlir_verify.specs.Names.{breaks_own_names, defined_by, defined_in, defined_at, ids, ids_at, repeats_params}
use Rattle.mlir_verify.specs.Constants.{constants_at}
use Rattle.mlir_verify.specs.Rules.{broken, first_broken_of, has_body}
use Rattle.mlir_verify.specs.Scope.{types_in, IsSet}

-- an operation's numbers were taken in: `false` where they break V1
abbrev pub NamesOp : Result Bool Memory → Seen → Types → Op → List ℕ → List ℕ → Type 0
NamesOp (Ok true) seen t o values ops = (breaks_own_names t o values ops ≡ false) × IsSet seen.values (values ++ defined_by o) × IsSet seen.ops (ops ++ o.id.0 ∷ [])
NamesOp (Ok false) seen t o values ops = breaks_own_names t o values ops ≡ true
NamesOp (Err e) seen t o values ops = ⊤

-- the numbers that functions define
pub record IsBefore (seen : Seen) (before : List FuncShape) : Type 0 where
  pub values : IsSet seen.values (defined_in before)
  pub ops : IsSet seen.ops (flat_map (λ f. ids f.body) before)

-- what is known after the operations `earlier` of a function
pub record Stands (seen : Seen) (scope : Scope) (before : List FuncShape) (f : FuncShape) (earlier : List Op) : Type 0 where
  pub values : IsSet seen.values (defined_at before f earlier)
  pub ops : IsSet seen.ops (ids_at before earlier)
  pub types : (v : ℕ) → types_in scope v ≡ type_among (scope_at f earlier) v
  pub constants : IsSet scope.constants (constants_at earlier)
  pub params : repeats_params before f ≡ false

abbrev pub ChecksOp : Result (Unit {0}) Refused → Seen → Scope → Place → Type 0
ChecksOp (Ok x) seen scope p = (broken p ≡ None) × Stands seen scope p.before p.func (p.earlier ++ p.op ∷ [])
ChecksOp (Err (Refusal.Rule r i)) seen scope p = (broken p ≡ Some r) × (i ≡ p.op.id)
ChecksOp (Err Refusal.Memory) seen scope p = ⊤

abbrev pub ChecksFunc : Result (Unit {0}) Refused → Seen → List FuncShape → FuncShape → Type 0
ChecksFunc (Ok x) seen before f = (first_broken_of (places_of f.body [] before f) ≡ None) × IsBefore seen (before ++ f ∷ []) × (has_body f ≡ true)
ChecksFunc (Err (Refusal.Rule r i)) seen before f = first_broken_of (places_of f.body [] before f) ≡ Some (r, i)
ChecksFunc (Err Refusal.Memory) seen before f = ⊤

abbrev pub EntersFunc : Result (Unit {0}) Refused → Seen → Scope → List FuncShape → FuncShape → Type 0
EntersFunc (Ok x) seen scope before f = Stands seen scope before f []
EntersFunc (Err (Refusal.Rule r i)) seen scope before f = first_broken_of (places_of f.body [] before f) ≡ Some (r, i)
EntersFunc (Err Refusal.Memory) seen scope before f = ⊤

abbrev pub ChecksFuncs : Result (Unit {0}) Refused → List FuncShape → Type 0
ChecksFuncs (Ok x) fs = (first_broken_of (places_from fs []) ≡ None) × (list_all has_body fs ≡ true)
ChecksFuncs (Err (Refusal.Rule r i)) fs = first_broken_of (places_from fs []) ≡ Some (r, i)
ChecksFuncs (Err Refusal.Memory) fs = ⊤
