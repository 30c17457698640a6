-- The parts of the small functions of which values are worked out: values by their numbers, types, maps, payloads, operations and tensors.
use Rattle.std.proofs.Common.{ℕ, ◌+◌, ℤ, List, [], ◌∷◌, map, length}
use Rattle.affine_maps.specs.Shape.{MapShape}
use Rattle.affine_maps.specs.declared.map.Expr.{Expr}
use Rattle.payload_ops.specs.Shape.{PayloadShape}
use Rattle.mlir_base.specs.declared.types.ElemTy.{ElemTy}
use Rattle.mlir_base.specs.declared.types.ElemTy.TheVariants.{Int, Index}
use Rattle.payload_ops.specs.declared.step.Arg.{Arg}
use Rattle.payload_ops.specs.declared.step.PayloadStep.{PayloadStep}
use Rattle.payload_ops.specs.declared.step.StepOp.{StepOp}
use Rattle.mlir_ir.specs.Shape.{FuncShape, TensorShape}
use Rattle.mlir_ir.specs.declared.tree.Extent.{Extent}
use Rattle.mlir_ir.specs.declared.tree.Extent.TheVariants.{Fixed}
use Rattle.mlir_ir.specs.declared.tree.Op.{Op}
use Rattle.mlir_ir.specs.declared.tree.OpKind.{OpKind}
use Rattle.mlir_ir.specs.declared.tree.Ty.{Ty}
use Rattle.mlir_ir.specs.declared.tree.Ty.TheVariants.{Scalar, Tensor}
use Rattle.mlir_ir.specs.declared.tree.ValueId.{ValueId}
use Rattle.mlir_meaning.specs.Points.{select_map}

abbrev pub value : ℕ → ValueId
value n = record { 0 = n }

abbrev pub values : List ℕ → List ValueId
values = map value

-- TYPES
abbrev pub tensor : ℕ → List ℕ → Ty
tensor width extents = Tensor (map Fixed extents) width

abbrev pub index : Ty
index = Scalar Index

-- a tensor some of whose extents are `?`
abbrev pub open_tensor : ℕ → List Extent → Ty
open_tensor width extents = Tensor extents width

-- one axis of i32
abbrev pub row : ℕ → Ty
row n = tensor 32 (n ∷ [])

-- two axes of i32
abbrev pub matrix : ℕ → ℕ → Ty
matrix m n = tensor 32 (m ∷ n ∷ [])

-- MAPS AND PAYLOADS
abbrev pub expr : ℤ → List (ℕ × ℤ) → Expr
expr constant terms = record { constant = constant; terms = terms }

abbrev pub affine : ℕ → List Expr → MapShape
affine dims results = record { dims = dims; results = results }

-- the maps to one axis, and to two, in order
abbrev pub one_axis : MapShape
one_axis = select_map 1 (0 ∷ [])

abbrev pub two_axes : MapShape
two_axes = select_map 2 (0 ∷ 1 ∷ [])

abbrev pub step : ElemTy → StepOp → PayloadStep
step ty op = record { ty = ty; op = op }

-- whose value is an index
abbrev pub index_step : StepOp → PayloadStep
index_step = step Index

-- over inputs and an output of these widths
abbrev pub payload : List ℕ → ℕ → List PayloadStep → Arg → PayloadShape
payload ins out steps yielded = record { ins = map Int ins; out = Int out; steps = steps; yielded = yielded }

-- OPERATIONS
abbrev pub define_all : List (ℕ × Ty) → OpKind → Op
define_all rs kind = record { id = record { 0 = 0 }; results = map (λ r. (value r.0, r.1)) rs; kind = kind }

abbrev pub define : ℕ → Ty → OpKind → Op
define n ty kind = define_all ((n, ty) ∷ []) kind

abbrev pub perform : OpKind → Op
perform kind = define_all [] kind

-- a carried or a shared value: its number in the body, and that of its start
abbrev pub carry : ℕ → Ty → ℕ → ValueId × Ty × ValueId
carry n ty start = (value n, ty, value start)

-- FUNCTIONS
abbrev number_from : ℕ → List Ty → List (ValueId × Ty)
number_from n [] = []
number_from n (t ∷ ts) = (value n, t) ∷ number_from (n + 1) ts

-- its parameters are the values from 0 on
abbrev pub function : List Ty → List Ty → List Op → FuncShape
function params results body = record { name = 102 ∷ []; params = number_from 0 params; results = results; body = body }

-- TENSORS
abbrev pub table_of : ℕ → List ℕ → List ℕ → TensorShape
table_of width extents cells = record { extents = extents; elem = width; cells = cells }

-- of i32
abbrev pub table : List ℕ → List ℕ → TensorShape
table = table_of 32

-- of i32 and one axis
abbrev pub row_of : List ℕ → TensorShape
row_of cells = table (length cells ∷ []) cells
