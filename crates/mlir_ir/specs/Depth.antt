-- How deep operations stand in loops. An operation with k loops around it stands at level k + 1.
use Rattle.std.specs.Prelude.{ℕ, ◌+◌, ◌-◌, max, List, [], ◌∷◌}
use Rattle.mlir_ir.specs.Shape.{FuncShape}
use Rattle.mlir_ir.specs.declared.tree.Op.{Op}
use Rattle.mlir_ir.specs.declared.tree.OpKind.{OpKind, For', Forall', Row_of-Op, end_of-Op, more_of-Op}

abbrev mutual
  -- the levels of operations inside an operation of this kind
  pub levels_inside : OpKind → ℕ
  levels_inside (For' v l u s c shape row) = levels_row row
  levels_inside (Forall' v l u s c shape row) = levels_row row
  levels_inside _ = 0

  pub levels_row : {n : _} → Row_of-Op n → ℕ
  levels_row end_of-Op = 0
  levels_row (more_of-Op id results kind rest) = max (1 + levels_inside kind) (levels_row rest)

-- the levels of a body: 0 where it has no operation
abbrev pub levels_of : List Op → ℕ
levels_of [] = 0
levels_of (o ∷ os) = max (1 + levels_inside o.kind) (levels_of os)

abbrev pub module_levels : List FuncShape → ℕ
module_levels [] = 0
module_levels (f ∷ fs) = max (levels_of f.body) (module_levels fs)

-- the greatest number of loops around one operation, and 0 without operations
abbrev pub depth_of : List FuncShape → ℕ
depth_of fs = module_levels fs - 1
