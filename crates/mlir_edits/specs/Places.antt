-- Where the operation of a number stands: in which function, and where in its body. What stands inside loops isn't entered.
use Rattle.std.specs.Prelude.{ℕ, ◌+◌, ◌==◌, List, [], ◌∷◌, take, Option, Some, None, option_and_then, slice_get, if◌then◌else◌}
use Rattle.mlir_ir.specs.Shape.{FuncShape}
use Rattle.mlir_ir.specs.declared.tree.Op.{Op}
use Rattle.mlir_ir.specs.declared.tree.OpId.{OpId}
use Rattle.verified_runs.specs.Passes.{Scope, scope_after}
use Rattle.mlir_edits.specs.declared.place.Place.{Place}

-- the position of the first of them, where k is that of the first operation
abbrev pub position_from : ℕ → OpId → List Op → Option ℕ
position_from k i [] = None
position_from k i (o ∷ os) = if o.id.0 == i.0 then Some k else position_from (k + 1) i os

abbrev pub position_in : OpId → List Op → Option ℕ
position_in i os = position_from 0 i os

-- in function n at a position, and else where it stands later
abbrev pub place_by : ℕ → Option ℕ → Option Place → Option Place
place_by n None later = later
place_by n (Some k) later = Some (record { func = n; op = k })

-- the first place in functions, where n is the number of the first of them
abbrev pub place_from : ℕ → OpId → List FuncShape → Option Place
place_from n i [] = None
place_from n i (f ∷ fs) = place_by n (position_in i f.body) (place_from (n + 1) i fs)

abbrev pub place_of : OpId → List FuncShape → Option Place
place_of i fs = place_from 0 i fs

-- the operation at a place
abbrev pub op_at : Place → List FuncShape → Option Op
op_at p fs = option_and_then (λ (f : FuncShape). slice_get f.body p.op) (slice_get fs p.func)

-- the definitions in scope at position k of a function's body
abbrev pub scope_before : FuncShape → ℕ → Scope
scope_before f k = scope_after f.params (take k f.body)
