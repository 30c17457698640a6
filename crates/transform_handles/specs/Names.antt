-- The names by which operations are matched: those with which their texts begin.
use Rattle.std.specs.Prelude.{◌≡◌, ℕ, Bool, List, codes, is_some}
use Rattle.std.specs.Borrow.{Bor}
use Rattle.std.specs.HashMap.{HashMap, get_by}
use Rattle.std.specs.List.{list_any}
use Rattle.std.specs.Str.{bytes_eq}
use Rattle.payload_ops.specs.declared.kinds.BinOp.{BinOp}
use Rattle.payload_ops.specs.declared.kinds.BinOp.TheVariants.{Addi, Subi, Muli, Divsi, Divui, Remsi, Remui, Andi, Ori, Xori, Shli, Shrsi, Shrui, Maxsi, Maxui, Minsi, Minui}
use Rattle.payload_ops.specs.declared.step.StepOp.{StepOp}
use Rattle.payload_ops.specs.declared.step.StepOp.TheVariants.{Const, Index, Captured, Linear, Binary, Compare, Select, SignExtend, ZeroExtend, Truncate, IndexCast}
use Rattle.mlir_ir.specs.declared.tree.OpKind.{OpKind, Constant, Apply, Least, Empty, ExtractSlice, InsertSlice, Pad, Generic, Fill, Matmul, BatchMatmul, Transpose, Broadcast, Pack, Unpack, For', Forall', Yield, ParallelInsert, CreateMask, TransferRead, TransferWrite, Elementwise, MultiReduction, Return}

abbrev pub binary_name : BinOp → List ℕ
binary_name Addi = codes "arith.addi"
binary_name Subi = codes "arith.subi"
binary_name Muli = codes "arith.muli"
binary_name Divsi = codes "arith.divsi"
binary_name Divui = codes "arith.divui"
binary_name Remsi = codes "arith.remsi"
binary_name Remui = codes "arith.remui"
binary_name Andi = codes "arith.andi"
binary_name Ori = codes "arith.ori"
binary_name Xori = codes "arith.xori"
binary_name Shli = codes "arith.shli"
binary_name Shrsi = codes "arith.shrsi"
binary_name Shrui = codes "arith.shrui"
binary_name Maxsi = codes "arith.maxsi"
binary_name Maxui = codes "arith.maxui"
binary_name Minsi = codes "arith.minsi"
binary_name Minui = codes "arith.minui"

abbrev pub step_name : StepOp → List ℕ
step_name (Const n) = codes "arith.constant"
step_name (Index d) = codes "linalg.index"
step_name (Captured k) = codes "affine.apply"
step_name (Linear c ts) = codes "affine.apply"
step_name (Binary op a b) = binary_name op
step_name (Compare p a b) = codes "arith.cmpi"
step_name (Select c a b) = codes "arith.select"
step_name (SignExtend a) = codes "arith.extsi"
step_name (ZeroExtend a) = codes "arith.extui"
step_name (Truncate a) = codes "arith.trunci"
step_name (IndexCast a) = codes "arith.index_cast"

unfoldable pub name_of : OpKind → List ℕ
name_of (Constant value) = codes "arith.constant"
name_of (Apply map args) = codes "affine.apply"
name_of (Least map args) = codes "affine.min"
name_of (Empty sizes) = codes "tensor.empty"
name_of (ExtractSlice source offsets sizes) = codes "tensor.extract_slice"
name_of (InsertSlice source dest offsets sizes) = codes "tensor.insert_slice"
name_of (Pad source high value) = codes "tensor.pad"
name_of (Generic maps iterators ins outs captured payload) = codes "linalg.generic"
name_of (Fill value outs) = codes "linalg.fill"
name_of (Matmul a b outs) = codes "linalg.matmul"
name_of (BatchMatmul a b outs) = codes "linalg.batch_matmul"
name_of (Transpose source outs order) = codes "linalg.transpose"
name_of (Broadcast source outs dims) = codes "linalg.broadcast"
name_of (Pack source dest value dims tiles) = codes "linalg.pack"
name_of (Unpack source dest dims tiles) = codes "linalg.unpack"
name_of (For' v l u s carried shape row) = codes "scf.for"
name_of (Forall' v l u s shared shape row) = codes "scf.forall"
name_of (Yield values) = codes "scf.yield"
name_of (ParallelInsert source dest offsets sizes) = codes "tensor.parallel_insert_slice"
name_of (CreateMask sizes) = codes "vector.create_mask"
name_of (TransferRead source offsets pad mask map) = codes "vector.transfer_read"
name_of (TransferWrite value dest offsets mask map) = codes "vector.transfer_write"
name_of (Elementwise op args) = step_name op
name_of (MultiReduction kind source acc dims) = codes "vector.multi_reduction"
name_of (Return values) = codes "return"

-- what functions are matched by
abbrev pub function_name : List ℕ
function_name = codes "func.func"

abbrev pub is_named : List (List ℕ) → List ℕ → Bool
is_named names n = list_any (λ m. bytes_eq m n) names

-- whether a set has a name
abbrev pub has_name : {S : Type 0} → HashMap (Bor (List ℕ)) (Unit {0}) S → List ℕ → Bool
has_name s n = is_some (get_by (λ k. bytes_eq n k.now) s)

-- the set has these names and no others
abbrev pub HoldsNames : {S : Type 0} → HashMap (Bor (List ℕ)) (Unit {0}) S → List (List ℕ) → Type 0
HoldsNames s names = (n : List ℕ) → has_name s n ≡ is_named names n
