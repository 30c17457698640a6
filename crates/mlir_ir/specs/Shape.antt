-- The data of functions and tensors, and what their types keep.
use Rattle.std.specs.Prelude.{ℕ, ◌*◌, ◌<◌, ◌≡◌, ◌^◌, List, [], ◌∷◌, All, length}
use Rattle.mlir_ir.specs.declared.tree.Op.{Op}
use Rattle.mlir_ir.specs.declared.tree.Ty.{Ty}
use Rattle.mlir_ir.specs.declared.tree.ValueId.{ValueId}

-- a function
pub record FuncShape : Type 0 where
  pub name : List ℕ
  pub params : List (ValueId × Ty)
  pub results : List Ty
  pub body : List Op

-- a tensor, with its cells in row-major order
pub record TensorShape : Type 0 where
  pub extents : List ℕ
  pub elem : ℕ
  pub cells : List ℕ

-- the number of indices of a box
abbrev pub volume : List ℕ → ℕ
volume [] = 1
volume (e ∷ es) = e * volume es

-- one cell for each index, and each cell a value of the width
abbrev pub IsTensor : List ℕ → ℕ → List ℕ → Type 0
IsTensor extents elem cells = (length cells ≡ volume extents) × All (λ c. c < 2 ^ elem) cells
