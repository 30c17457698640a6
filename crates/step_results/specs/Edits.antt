-- What a step owes at its target so that the module that it forms verifies.
use Rattle.std.specs.Prelude.{◌≡◌, ◌≤◌, ℕ, true, false, List, [], Some}
use Rattle.std.specs.List.{flat_map, list_all}
use Rattle.mlir_ir.specs.declared.tree.Op.{Op}
use Rattle.mlir_ir.specs.declared.tree.Ty.{Ty}
use Rattle.mlir_meaning.specs.Grids.{Each}
use Rattle.mlir_meaning.specs.States.{names_of}
use Rattle.mlir_verify.specs.Ends.{is_return}
use Rattle.mlir_verify.specs.Limits.{is_small_op}
use Rattle.mlir_verify.specs.Names.{redefines, defined_by, ids}
use Rattle.verified_runs.specs.Edits.{Edit, Step}
use Rattle.verified_runs.specs.Fresh.{above_op, above_values}
use Rattle.verified_runs.specs.Laws.{PassesThere}
use Rattle.verified_runs.specs.Passes.{Scope, OpPasses}

-- numbers from n on, of which none stands twice
pub record AreFresh (n : ℕ) (ns : List ℕ) : Type 0 where
  pub above : Each (λ v. n ≤ v) ns
  pub own : redefines ns [] ≡ false

-- an operation of a verified module, by the definitions in scope; the values of the module are below n
pub record IsTarget (n : ℕ) (scope : Scope) (wanted : List Ty) (o : Op) : Type 0 where
  pub passes : OpPasses scope wanted o
  pub small : is_small_op o ≡ true
  pub scope_below : above_values (names_of scope) ≤ n
  pub own_below : above_op o ≤ n

-- the new operations pass in the target's place, which isn't a terminator, keep the limits, and define fresh numbers: values
-- from n on, and operations from k on
pub record FitsThere (n k : ℕ) (scope : Scope) (wanted : List Ty) (o : Op) (e : Edit) : Type 0 where
  pub goes_on : is_return o.kind ≡ false
  pub passes : PassesThere n scope wanted o e
  pub small : list_all is_small_op e.ops ≡ true
  pub values : AreFresh n (flat_map defined_by e.ops)
  pub ops : AreFresh k (ids e.ops)

-- what a step owes in a module whose numbers are below n and k
abbrev pub Fits : ℕ → ℕ → Step → Type 0
Fits n k step = (scope : Scope) (wanted : List Ty) (o : Op) (e : Edit) → IsTarget n scope wanted o → step scope o ≡ Some e → FitsThere n k scope wanted o e
