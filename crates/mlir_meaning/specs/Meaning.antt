-- What an operation, a body and a function give. Every operation is evaluated, also one that nothing uses.
use Rattle.std.specs.Prelude.{ℕ, ◌^◌, ◌==◌, ◌&&◌, nat_lt, Bool, ℤ, pos, List, [], ◌∷◌, map, length, Option, Some, None, slice_index, if◌then◌else◌}
use Rattle.std.specs.List.{list_all}
use Rattle.std.specs.Int.{int_min}
use Rattle.affine_maps.specs.Shape.{MapShape}
use Rattle.affine_maps.specs.Value.{map_value}
use Rattle.payload_ops.specs.Bits.{signed_of}
use Rattle.mlir_base.specs.declared.types.ElemTy.TheVariants.{Int, Index}
use Rattle.mlir_ir.specs.Shape.{FuncShape, TensorShape, volume}
use Rattle.mlir_ir.specs.declared.tree.Op.{Op}
use Rattle.mlir_ir.specs.declared.tree.Ty.{Ty}
use Rattle.mlir_ir.specs.declared.tree.Ty.TheVariants.{Scalar, Tensor, Vector}
use Rattle.mlir_ir.specs.declared.tree.Extent.{Extent}
use Rattle.mlir_ir.specs.declared.tree.Extent.TheVariants.{Fixed, Any}
use Rattle.mlir_ir.specs.declared.tree.ValueId.{ValueId}
use Rattle.mlir_ir.specs.declared.tree.Idx.{Idx}
use Rattle.mlir_ir.specs.declared.tree.OpKind.{OpKind, Constant, Apply, Least, Empty, ExtractSlice, InsertSlice, Pad, Generic, Fill, Matmul, BatchMatmul, Transpose, Broadcast, Pack, Unpack, For', Forall', Yield, ParallelInsert, CreateMask, TransferRead, TransferWrite, Elementwise, MultiReduction, Return, Row_of-Op, end_of-Op, more_of-Op}
use Rattle.mlir_meaning.specs.declared.answer.Answer.{Answer}
use Rattle.mlir_meaning.specs.declared.answer.Answer.TheVariants as answers
use Rattle.mlir_meaning.specs.declared.answer.Fault.TheVariants.{Stuck}
use Rattle.mlir_meaning.specs.Grids.{Grid, tabulate, all_some}
use Rattle.mlir_meaning.specs.Points.{to_nat}
use Rattle.mlir_meaning.specs.States.{Datum, Number, Bits, Cells, State, Outcome, Goes, Ends, Fails, grid_of, width_of, element, number_in, indices_in, set_all, names_of, made, indexed, then_goes}
use Rattle.mlir_meaning.specs.Structured.{generic_result, fill_result, matmul_result, batch_matmul_result, transpose_result, broadcast_result}
use Rattle.mlir_meaning.specs.Moves.{like, slice_of, insert_into, pad_of, empty_of, pack_of, unpack_of}
use Rattle.mlir_meaning.specs.Vectors.{mask_of, read_of, write_of, elementwise_result, reduction_of}
use Rattle.mlir_meaning.specs.Loops.{for_meaning, forall_meaning, output_of, insertion_noted}

-- TYPES
abbrev pub result_type : List (ValueId × Ty) → Ty
result_type [] = Scalar Index
result_type (r ∷ rs) = r.1

-- the extents of a tensor's type, with a size for each `?`
abbrev pub sized_extents : List Extent → List ℕ → List ℕ
sized_extents [] sizes = []
sized_extents (Fixed n ∷ es) sizes = n ∷ sized_extents es sizes
sized_extents (Any ∷ es) [] = 0 ∷ sized_extents es []
sized_extents (Any ∷ es) (n ∷ sizes) = n ∷ sized_extents es sizes

abbrev pub type_extents : Ty → List ℕ → List ℕ
type_extents (Scalar elem) sizes = []
type_extents (Tensor extents elem) sizes = sized_extents extents sizes
type_extents (Vector extents elem) sizes = extents

-- the bits of an element
abbrev pub type_width : Ty → ℕ
type_width (Scalar (Int width)) = width
type_width (Scalar Index) = 64
type_width (Tensor extents elem) = elem
type_width (Vector extents elem) = elem

-- VALUES
abbrev pub values_in : (ℕ → Datum) → List ValueId → List Datum
values_in e vs = map (λ v. e v.0) vs

abbrev pub numbers_in : (ℕ → Datum) → List ValueId → List ℤ
numbers_in e vs = map (number_in e) vs

abbrev pub sizes_in : (ℕ → Datum) → List ValueId → List ℕ
sizes_in e vs = map to_nat (numbers_in e vs)

abbrev pub places_in : (ℕ → Datum) → List Idx → List ℕ
places_in e is = map to_nat (indices_in e is)

-- the element that a scalar holds, and 0 where there is none
abbrev pub scalar_in : (ℕ → Datum) → ValueId → ℕ
scalar_in e v = element (e v.0) []

abbrev pub optional_scalar : (ℕ → Datum) → Option ValueId → ℕ
optional_scalar e None = 0
optional_scalar e (Some v) = scalar_in e v

abbrev pub optional_value : (ℕ → Datum) → Option ValueId → Option Datum
optional_value e None = None
optional_value e (Some v) = Some (e v.0)

-- a payload sees captured values as numbers of 64 bits
abbrev pub captured_in : (ℕ → Datum) → List ValueId → List ℕ
captured_in e vs = map (scalar_in e) vs

-- a constant (Arith manual, "arith.constant"): a scalar and a vector have one cell, a tensor has all
unfoldable pub constant_of : List ℕ → Ty → Datum
constant_of cells (Scalar (Int width)) = Bits (slice_index cells 0)
constant_of cells (Scalar Index) = Number (signed_of 64 (slice_index cells 0))
constant_of cells (Tensor extents elem) = Cells elem (record { extents = sized_extents extents []; cells = cells })
constant_of cells (Vector extents elem) = Cells elem (tabulate extents (λ p. slice_index cells 0))

-- the least of numbers, and 0 where there are none
abbrev pub least : List ℤ → ℤ
least [] = pos 0
least (n ∷ []) = n
least (n ∷ m ∷ ns) = int_min n (least (m ∷ ns))

-- the one result of a map, or the least of them (Affine manual, "affine.apply" and "affine.min")
abbrev pub least_result : MapShape → List ℤ → ℤ
least_result m numbers = least (map_value m numbers)

-- MEANING
unfoldable mutual
  -- an operation of this kind with these results, in a state
  pub kind_meaning : OpKind → List (ValueId × Ty) → State → Outcome
  kind_meaning (Constant value) rs s = made rs s (Some (constant_of value (result_type rs)))
  kind_meaning (Apply m args) rs s = indexed rs s (least_result m (numbers_in s.values args))
  kind_meaning (Least m args) rs s = indexed rs s (least_result m (numbers_in s.values args))
  kind_meaning (Empty sizes) rs s =
      made rs s (Some (Cells (type_width (result_type rs)) (empty_of (type_extents (result_type rs) (sizes_in s.values sizes)))))
  kind_meaning (ExtractSlice source offsets sizes) rs s =
      made rs s (Some (like (s.values source.0) (slice_of (grid_of (s.values source.0)) (places_in s.values offsets) (places_in s.values sizes))))
  kind_meaning (InsertSlice source dest offsets sizes) rs s =
      made rs s (Some (like (s.values dest.0) (insert_into (grid_of (s.values source.0)) (places_in s.values offsets) (grid_of (s.values dest.0)))))
  kind_meaning (Pad source high value) rs s =
      made rs s (Some (like (s.values source.0) (pad_of (grid_of (s.values source.0)) (places_in s.values high) (scalar_in s.values value))))
  kind_meaning (Generic maps iterators ins outs captured payload) rs s =
      made rs s (generic_result maps (length iterators) (values_in s.values ins) (s.values outs.0) (captured_in s.values captured) payload)
  kind_meaning (Fill value outs) rs s = made rs s (fill_result (s.values value.0) (s.values outs.0))
  kind_meaning (Matmul a b outs) rs s = made rs s (matmul_result (s.values a.0) (s.values b.0) (s.values outs.0))
  kind_meaning (BatchMatmul a b outs) rs s = made rs s (batch_matmul_result (s.values a.0) (s.values b.0) (s.values outs.0))
  kind_meaning (Transpose source outs order) rs s = made rs s (transpose_result order (s.values source.0) (s.values outs.0))
  kind_meaning (Broadcast source outs dims) rs s = made rs s (broadcast_result dims (s.values source.0) (s.values outs.0))
  kind_meaning (Pack source dest value dims tiles) rs s =
      made rs s (Some (like (s.values dest.0)
      (pack_of (grid_of (s.values source.0)) (grid_of (s.values dest.0)).extents dims tiles (optional_scalar s.values value))))
  kind_meaning (Unpack source dest dims tiles) rs s =
      made rs s (Some (like (s.values dest.0) (unpack_of (grid_of (s.values source.0)) (grid_of (s.values dest.0)).extents dims tiles)))
  kind_meaning (For' var lower upper step carried shape row) rs s =
      for_meaning (record { var = var; lower = lower; upper = upper; step = step; carried = carried }) (row_meaning row) rs s
  kind_meaning (Forall' vars lower upper step shared shape row) rs s =
      forall_meaning (record { vars = vars; lower = lower; upper = upper; step = step; shared = shared }) (row_meaning row) rs s
  kind_meaning (Yield values) rs s = Ends (values_in s.values values)
  kind_meaning (ParallelInsert source dest offsets sizes) rs s =
      insertion_noted (output_of s dest) (grid_of (s.values source.0)) (places_in s.values offsets) s
  kind_meaning (CreateMask sizes) rs s = made rs s (Some (Cells 1 (mask_of (sizes_in s.values sizes) (type_extents (result_type rs) []))))
  kind_meaning (TransferRead source offsets padding mask m) rs s =
      made rs s (Some (like (s.values source.0)
      (read_of (grid_of (s.values source.0)) (sizes_in s.values offsets) (scalar_in s.values padding) (optional_value s.values mask) m
      (type_extents (result_type rs) []))))
  kind_meaning (TransferWrite value dest offsets mask m) rs s =
      made rs s (Some (like (s.values dest.0)
      (write_of (grid_of (s.values value.0)) (sizes_in s.values offsets) (optional_value s.values mask) m (grid_of (s.values dest.0)))))
  kind_meaning (Elementwise op args) rs s =
      made rs s (elementwise_result op (values_in s.values args) (type_width (result_type rs)) (type_extents (result_type rs) []))
  kind_meaning (MultiReduction kind source acc dims) rs s =
      made rs s (Some (like (s.values acc.0)
      (reduction_of kind (width_of (s.values acc.0)) (grid_of (s.values source.0)) (grid_of (s.values acc.0)) dims)))
  kind_meaning (Return values) rs s = Ends (values_in s.values values)

  -- the operations of a loop's body in order
  pub row_meaning : {n : _} → Row_of-Op n → State → Outcome
  row_meaning end_of-Op s = Goes s
  row_meaning (more_of-Op id results kind rest) s = then_goes (kind_meaning kind results s) (row_meaning rest)

-- operations in order
unfoldable pub run : List Op → State → Outcome
run [] s = Goes s
run (o ∷ os) s = then_goes (kind_meaning o.kind o.results s) (run os)

-- FUNCTIONS
abbrev pub datum_of : TensorShape → Datum
datum_of t = Cells t.elem (record { extents = t.extents; cells = t.cells })

-- one cell for each index, and each cell a value of the width
abbrev pub is_tensor : ℕ → Grid → Bool
is_tensor width g = (length g.cells == volume g.extents) && list_all (λ c. nat_lt c (2 ^ width)) g.cells

abbrev pub tensor_of : Datum → Option TensorShape
tensor_of (Cells width g) = if is_tensor width g then Some (record { extents = g.extents; elem = width; cells = g.cells }) else None
tensor_of _ = None

-- the parameters hold the inputs
abbrev pub initial_state : List (ValueId × Ty) → List TensorShape → State
initial_state params inputs = record { values = set_all (λ _. Bits 0) (names_of params) (map datum_of inputs); shared = []; inserts = [] }

abbrev pub answer_results : Option (List TensorShape) → Answer
answer_results None = answers.Fails Stuck
answer_results (Some results) = answers.Results results

abbrev pub answer_of : Outcome → Answer
answer_of (Goes s) = answers.Fails Stuck
answer_of (Ends ds) = answer_results (all_some (map tensor_of ds))
answer_of (Fails f) = answers.Fails f

-- a function on its inputs
unfoldable pub meaning : FuncShape → List TensorShape → Answer
meaning f inputs = answer_of (run f.body (initial_state f.params inputs))
