-- The files whose canonical text reads back: those of today's grammar, within its limits.
use Rattle.std.specs.Prelude.{◌≡◌, ◌<◌, ◌≤◌, ℕ, ◌+◌, true, List, [], ◌∷◌, ◌++◌, map, length, Option, Some, None}
use Rattle.std.specs.List.{AllByRecursion}
use Rattle.mlir_base.specs.declared.types.ElemTy.{ElemTy}
use Rattle.mlir_base.specs.declared.types.ElemTy.TheVariants.{Int, Index}
use Rattle.payload_ops.specs.declared.step.StepOp.{StepOp}
use Rattle.payload_ops.specs.declared.step.StepOp.TheVariants as ops
use Rattle.payload_ops.specs.Shape.{PayloadShape}
use Rattle.payload_ops.specs.Payload.{IsPayload}
use Rattle.mlir_base.specs.Types.{is_value}
use Rattle.affine_maps.specs.Shape.{MapShape}
use Rattle.mlir_ir.specs.declared.tree.Ty.{Ty}
use Rattle.mlir_ir.specs.declared.tree.Ty.TheVariants.{Scalar, Tensor, Vector}
use Rattle.mlir_ir.specs.declared.tree.Extent.{Extent}
use Rattle.mlir_ir.specs.declared.tree.Extent.TheVariants.{Fixed, Any}
use Rattle.mlir_ir.specs.declared.tree.ValueId.{ValueId}
use Rattle.mlir_ir.specs.declared.tree.Iter.{Iter}
use Rattle.mlir_ir.specs.declared.tree.OpKind.{OpKind}
use Rattle.mlir_ir.specs.declared.tree.OpKind.TheVariants as kinds
use Rattle.mlir_ir.specs.declared.tree.Op.{Op}
use Rattle.mlir_ir.specs.Shape.{FuncShape}
use Rattle.mlir_scope.specs.Names.{place}
use Rattle.mlir_scope.specs.Types.{elem_of, elements}
use Rattle.text_format.specs.Types.{is_word}
use Rattle.mlir_print.specs.declared.names.Given.TheVariants.{Argument}
use Rattle.mlir_print.specs.Names.{Names, Row, look}
use Rattle.mlir_print.specs.Operations.{next}
use Rattle.mlir_print.specs.Canonical.{names_in}
use Rattle.payload_ops.specs.declared.step.PayloadStep.{PayloadStep}
use Rattle.mlir_scope.specs.Literals.{is_near, is_written}
use Rattle.script_read.specs.declared.script.Script.{Script}
use Rattle.script_roundtrip.specs.Printable as scripts
use Rattle.mlir_file.specs.declared.file.File.{File}
use Rattle.mlir_roundtrip.specs.Maps.{ArePrintableMaps}

-- fixed extents within the limit
abbrev pub AreKept : List Extent → Type 0
AreKept [] = Unit {0}
AreKept (Fixed n ∷ es) = (n ≤ 1048576) × AreKept es
AreKept (Any ∷ es) = ⊥

-- rank, extents, elements and width are within their limits
pub record IsKeptTensor (es : List Extent) (w : ℕ) : Type 0 where
  pub extents : AreKept es
  pub rank : length es ≤ 8
  pub few : elements es ≤ 4194304
  pub some : 0 < w
  pub most : w ≤ 64

-- a tensor within the limits
abbrev pub IsTensorType : Ty → Type 0
IsTensorType (Tensor es w) = IsKeptTensor es w
IsTensorType ty = ⊥

-- i1 to i64; no text has a constant of index outside of payloads so far
abbrev pub IsIntegerType : ElemTy → Type 0
IsIntegerType (Int w) = is_written (Int w) ≡ true
IsIntegerType Index = ⊥

-- a type that a value of a function has: a tensor's, or an integer's
abbrev pub IsValueType : Ty → Type 0
IsValueType (Scalar e) = IsIntegerType e
IsValueType (Tensor es w) = IsKeptTensor es w
IsValueType (Vector ns w) = ⊥

abbrev pub IsTensor : Ty → Type 0
IsTensor (Tensor es w) = Unit {0}
IsTensor ty = ⊥

abbrev pub IsScalar : Ty → Type 0
IsScalar (Scalar e) = Unit {0}
IsScalar ty = ⊥

-- the value is defined before
abbrev pub IsDefined : List Row → ValueId → Type 0
IsDefined rows v = (r : Row) × (look rows v.0 ≡ Some r)

abbrev pub nobody : Row
nobody = record { value = 0; name = Argument 0; ty = Scalar Index }

abbrev pub row_or : Option Row → Row
row_or None = nobody
row_or (Some r) = r

abbrev pub row_in : List Row → ValueId → Row
row_in rows v = row_or (look rows v.0)

-- the value is a tensor
pub record IsTensorValue (rows : List Row) (v : ValueId) : Type 0 where
  pub is_defined : IsDefined rows v
  pub is_tensor : IsTensor (row_in rows v).ty

-- the value is an integer
pub record IsScalarValue (rows : List Row) (v : ValueId) : Type 0 where
  pub is_defined : IsDefined rows v
  pub is_scalar : IsScalar (row_in rows v).ty

-- the elements of a value's type
abbrev pub elem_in : List Row → ValueId → ElemTy
elem_in rows v = elem_of (row_in rows v).ty

-- an operation of a step that a text spells, with a value of this type. A constant of index lies within plus and minus 2^31,
-- and a dimension from 0 to 1,048,576; no captured value is written yet
abbrev pub IsPrintableOp : ElemTy → StepOp → Type 0
IsPrintableOp e (ops.Const v) = is_near e v ≡ true
IsPrintableOp e (ops.Index k) = k ≤ 1048576
IsPrintableOp e (ops.Captured k) = ⊥
IsPrintableOp e o = Unit {0}

-- a step whose type is i1 to i64, or index
pub record IsPrintableStep (s : PayloadStep) : Type 0 where
  pub ty : is_written s.ty ≡ true
  pub op : IsPrintableOp s.ty s.op

-- a generic operation whose inputs are tensors or integers, and whose payload's types are its operands'; its maps needn't fit its iterators
pub record IsPrintableGeneric (rows : List Row) (ty : Ty) (maps : List MapShape) (its : List Iter) (ins : List ValueId) (out : ValueId) (captured : List ValueId) (p : PayloadShape) : Type 0 where
  pub result : IsTensorType ty
  pub maps_printable : ArePrintableMaps maps
  pub few_iterators : length its ≤ 12
  pub not_captured : captured ≡ []
  pub few : length ins < 64
  pub ins_defined : AllByRecursion (IsDefined rows) ins
  pub output : IsTensorValue rows out
  pub ins_typed : p.ins ≡ map (elem_in rows) ins
  pub out_typed : p.out ≡ elem_in rows out
  pub payload : IsPayload p
  pub steps : AllByRecursion IsPrintableStep p.steps
  pub few_steps : length p.steps ≤ 1024

-- one cell for each index, and each a value of the type
pub record IsPrintableDense (es : List Extent) (w : ℕ) (cells : List ℕ) : Type 0 where
  pub result : IsKeptTensor es w
  pub many : length cells ≡ elements es
  pub values : AllByRecursion (λ c. is_value (Int w) c ≡ true) cells

abbrev pub IsPrintableScalar : ElemTy → List ℕ → Type 0
IsPrintableScalar e [] = ⊥
IsPrintableScalar e (v ∷ []) = IsIntegerType e × (is_value e v ≡ true)
IsPrintableScalar e (v ∷ (u ∷ vs)) = ⊥

-- an integer, or a tensor
abbrev pub IsPrintableConstant : Ty → List ℕ → Type 0
IsPrintableConstant (Scalar e) cells = IsPrintableScalar e cells
IsPrintableConstant (Tensor es w) cells = IsPrintableDense es w cells
IsPrintableConstant (Vector ns w) cells = ⊥

-- an integer that fills a tensor
pub record IsPrintableFill (rows : List Row) (ty : Ty) (v : ValueId) (out : ValueId) : Type 0 where
  pub result : IsTensorType ty
  pub value : IsScalarValue rows v
  pub output : IsTensorValue rows out

-- a product of tensors
pub record IsPrintableProduct (rows : List Row) (ty : Ty) (a : ValueId) (b : ValueId) (out : ValueId) : Type 0 where
  pub result : IsTensorType ty
  pub left : IsTensorValue rows a
  pub right : IsTensorValue rows b
  pub output : IsTensorValue rows out

-- a tensor that is moved, by axes within the limit; the result has the output's type, since no text tells another
pub record IsPrintableMove (rows : List Row) (ty : Ty) (a : ValueId) (out : ValueId) (axes : List ℕ) : Type 0 where
  pub source : IsTensorValue rows a
  pub output : IsTensorValue rows out
  pub result : ty ≡ (row_in rows out).ty
  pub near : AllByRecursion (λ n. n ≤ 1048576) axes

-- an operation with one result, of this type
abbrev pub IsPrintableKind : List Row → Ty → OpKind → Type 0
IsPrintableKind rows ty (kinds.Constant cells) = IsPrintableConstant ty cells
IsPrintableKind rows ty (kinds.Empty sizes) = (sizes ≡ []) × IsTensorType ty
IsPrintableKind rows ty (kinds.Generic maps its ins out captured p) = IsPrintableGeneric rows ty maps its ins out captured p
IsPrintableKind rows ty (kinds.Fill v out) = IsPrintableFill rows ty v out
IsPrintableKind rows ty (kinds.Matmul a b out) = IsPrintableProduct rows ty a b out
IsPrintableKind rows ty (kinds.BatchMatmul a b out) = IsPrintableProduct rows ty a b out
IsPrintableKind rows ty (kinds.Transpose a out order) = IsPrintableMove rows ty a out order
IsPrintableKind rows ty (kinds.Broadcast a out dims) = IsPrintableMove rows ty a out dims
IsPrintableKind rows ty k = ⊥

abbrev pub IsPrintableLine : List Row → List (ValueId × Ty) → OpKind → Type 0
IsPrintableLine rows [] k = ⊥
IsPrintableLine rows (r ∷ []) k = IsPrintableKind rows r.1 k
IsPrintableLine rows (r ∷ (s ∷ rs)) k = ⊥

abbrev pub IsPrintableReturn : List Row → OpKind → Type 0
IsPrintableReturn rows (kinds.Return vs) = AllByRecursion (IsTensorValue rows) vs
IsPrintableReturn rows k = ⊥

abbrev pub ArePrintableOps : Names → List Op → Type 0
ArePrintableOps n [] = ⊥
ArePrintableOps n (o ∷ []) = (o.results ≡ []) × IsPrintableReturn n.rows o.kind
ArePrintableOps n (o ∷ (p ∷ os)) = IsPrintableLine n.rows o.results o.kind × ArePrintableOps (next n o) (p ∷ os)

abbrev pub ArePrintableParams : List (ValueId × Ty) → Type 0
ArePrintableParams ps = AllByRecursion (λ p. IsTensorType p.1) ps

abbrev pub ArePrintableResults : List Ty → Type 0
ArePrintableResults ts = AllByRecursion IsTensorType ts

pub record IsPrintableFunc (f : FuncShape) : Type 0 where
  pub name : is_word f.name ≡ true
  pub few_params : length f.params ≤ 64
  pub params : ArePrintableParams f.params
  pub few_results : length f.results ≤ 16
  pub results : ArePrintableResults f.results
  pub few_ops : length f.body ≤ 65536
  pub ops : ArePrintableOps (names_in f) f.body

abbrev pub ArePrintable : List FuncShape → Type 0
ArePrintable fs = AllByRecursion IsPrintableFunc fs

-- no function has one of these names, or that of one before it
abbrev pub AreNew : List (List ℕ) → List FuncShape → Type 0
AreNew names [] = Unit {0}
AreNew names (f ∷ fs) = (place 0 names f.name ≡ None) × AreNew (names ++ f.name ∷ []) fs

abbrev pub operations_in : List FuncShape → ℕ
operations_in [] = 0
operations_in (f ∷ fs) = length f.body + operations_in fs

-- the script, if there is one
abbrev pub IsPrintableScript : Option Script → Type 0
IsPrintableScript None = Unit {0}
IsPrintableScript (Some s) = scripts.IsPrintable s

pub record IsPrintable (f : File) : Type 0 where
  pub funcs : ArePrintable f.module.funcs
  pub names : AreNew [] f.module.funcs
  pub few_ops : operations_in f.module.funcs ≤ 65536
  pub script : IsPrintableScript f.script
