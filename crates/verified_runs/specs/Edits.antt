-- What a step puts in the place of its target, and the functions that it forms so.
use Rattle.std.specs.Prelude.{ℕ, ◌+◌, ◌==◌, List, [], ◌∷◌, ◌++◌, Option, Some, None, if◌then◌else◌}
use Rattle.mlir_ir.specs.Shape.{FuncShape}
use Rattle.mlir_ir.specs.declared.tree.Op.{Op}
use Rattle.mlir_ir.specs.declared.tree.OpId.{OpId}
use Rattle.mlir_ir.specs.declared.tree.OpKind.{OpKind}
use Rattle.mlir_ir.specs.declared.tree.Ty.{Ty}
use Rattle.mlir_ir.specs.declared.tree.ValueId.{ValueId}
use Rattle.mlir_meaning.specs.States.{names_of}
use Rattle.mlir_meaning.specs.Renaming.{reused_ops}
use Rattle.verified_runs.specs.Passes.{Scope}

-- the new operations, and a value for each result of the target
pub record Edit : Type 0 where
  pub ops : List Op
  pub values : List ValueId

-- the uses of the first values become uses of the others
abbrev pub moved : List ValueId → List ValueId → ℕ → ℕ
moved [] vs w = w
moved (r ∷ rs) [] w = w
moved (r ∷ rs) (v ∷ vs) w = if w == r.0 then v.0 else moved rs vs w

-- the same types under numbers from n on
abbrev pub renumbered : ℕ → List (ValueId × Ty) → List (ValueId × Ty)
renumbered n [] = []
renumbered n (r ∷ rs) = (record { 0 = n }, r.1) ∷ renumbered (n + 1) rs

-- an operation of this kind with fresh numbers
abbrev pub anew : ℕ → ℕ → OpKind → Op → Edit
anew op value kind o =
    let results = renumbered value o.results in
    record { ops = record { id = record { 0 = op }; results = results; kind = kind } ∷ []; values = names_of results }

-- a step at an operation, by the definitions in scope; None where the operation stays as it is
abbrev pub Step : Type 0
Step = Scope → Op → Option Edit

-- the target and what follows it
abbrev pub placed : Option Edit → Op → List Op → List Op
placed None o os = o ∷ os
placed (Some e) o os = e.ops ++ reused_ops (moved (names_of o.results) e.values) os

-- a body with the step at the operation of this number. Where loops are built, an operation that isn't the target
-- becomes the same one
-- with its own body edited, in the scope that has its arguments too: this is a pair of recursions then, over kinds
-- and over rows.
unfoldable pub edited_body : OpId → Step → Scope → List Op → List Op
edited_body i step scope [] = []
edited_body i step scope (o ∷ os) = if o.id.0 == i.0 then placed (step scope o) o os else o ∷ edited_body i step (scope ++ o.results) os

abbrev pub edited_func : OpId → Step → FuncShape → FuncShape
edited_func i step f = record { name = f.name; params = f.params; results = f.results; body = edited_body i step f.params f.body }
