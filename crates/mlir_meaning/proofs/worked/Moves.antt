-- Worked values of constants, of operations that move elements, and of elements outside a tensor.
use Rattle.std.proofs.Common.{◌≡◌, pos, [], ◌∷◌, Some, None, refl}
use Rattle.payload_ops.specs.Bits.{reduce, signed_of, on_values}
use Rattle.payload_ops.specs.Values.{op_value}
use Rattle.mlir_base.specs.declared.types.ElemTy.TheVariants.{Int}
use Rattle.payload_ops.specs.declared.step.Arg.TheVariants.{Input}
use Rattle.mlir_ir.specs.Shape.{FuncShape}
use Rattle.mlir_ir.specs.declared.tree.Extent.TheVariants.{Fixed, Any}
use Rattle.mlir_ir.specs.declared.tree.Idx.TheVariants.{Literal, Value}
use Rattle.mlir_ir.specs.declared.tree.Iter.TheVariants.{Parallel}
use Rattle.mlir_ir.specs.declared.tree.OpKind.{Constant, Empty, ExtractSlice, InsertSlice, Pad, Generic, Pack, Unpack, Return}
use Rattle.mlir_ir.specs.declared.tree.Ty.TheVariants.{Scalar}
use Rattle.mlir_meaning.specs.declared.answer.Answer.TheVariants.{Results}
use Rattle.mlir_meaning.specs.Meaning.{constant_of, kind_meaning, run, meaning}
use Rattle.mlir_meaning.specs.Moves.{slice_of, insert_into, pad_of, empty_of, pack_of, unpack_of}
use Rattle.mlir_meaning.specs.Structured.{generic_result}
use Rattle.mlir_meaning.proofs.worked.Build.{value, values, tensor, open_tensor, row, matrix, expr, affine, two_axes, payload, define, perform, function, index, table_of, table, row_of}

-- CONSTANTS AND EMPTY TENSORS

-- a constant of i8, and one without elements
abbrev square : FuncShape
square = function [] (tensor 8 (2 ∷ 2 ∷ []) ∷ tensor 8 (0 ∷ 2 ∷ []) ∷ []) (
    define 0 (tensor 8 (2 ∷ 2 ∷ [])) (Constant (1 ∷ 254 ∷ 127 ∷ 128 ∷ []))
    ∷ define 1 (tensor 8 (0 ∷ 2 ∷ [])) (Constant [])
    ∷ perform (Return (values (0 ∷ 1 ∷ [])))
    ∷ [])

constant_has_its_cells :
    meaning square [] ≡ Results (table_of 8 (2 ∷ 2 ∷ []) (1 ∷ 254 ∷ 127 ∷ 128 ∷ []) ∷ table_of 8 (0 ∷ 2 ∷ []) [] ∷ [])
unfolding meaning run kind_meaning constant_of
constant_has_its_cells = refl

-- a tensor with an operand for its `?`
abbrev sized : FuncShape
sized = function [] (open_tensor 8 (Any ∷ Fixed 2 ∷ []) ∷ []) (
    define 0 index (Constant (3 ∷ []))
    ∷ define 1 (open_tensor 8 (Any ∷ Fixed 2 ∷ [])) (Empty (values (0 ∷ [])))
    ∷ perform (Return (values (1 ∷ [])))
    ∷ [])

empty_tensor_holds_zeros : meaning sized [] ≡ Results (table_of 8 (3 ∷ 2 ∷ []) (0 ∷ 0 ∷ 0 ∷ 0 ∷ 0 ∷ 0 ∷ []) ∷ [])
unfolding meaning run kind_meaning constant_of empty_of reduce signed_of
empty_tensor_holds_zeros = refl

-- the same of no rows
abbrev sized_by_zero : FuncShape
sized_by_zero = function [] (open_tensor 8 (Any ∷ Fixed 2 ∷ []) ∷ []) (
    define 0 index (Constant (0 ∷ []))
    ∷ define 1 (open_tensor 8 (Any ∷ Fixed 2 ∷ [])) (Empty (values (0 ∷ [])))
    ∷ perform (Return (values (1 ∷ [])))
    ∷ [])

empty_tensor_of_no_rows : meaning sized_by_zero [] ≡ Results (table_of 8 (0 ∷ 2 ∷ []) [] ∷ [])
unfolding meaning run kind_meaning constant_of empty_of reduce signed_of
empty_tensor_of_no_rows = refl

-- SLICES

-- two rows from the second on, and one column
abbrev sliced : FuncShape
sliced = function (matrix 3 4 ∷ []) (matrix 2 1 ∷ []) (
    define 1 (matrix 2 1) (ExtractSlice (value 0) (Literal (pos 1) ∷ Literal (pos 2) ∷ []) (Literal (pos 2)
    ∷ Literal (pos 1) ∷ []))
    ∷ perform (Return (values (1 ∷ [])))
    ∷ [])

slice_is_the_region :
    meaning sliced (table (3 ∷ 4 ∷ []) (1 ∷ 2 ∷ 3 ∷ 4 ∷ 5 ∷ 6 ∷ 7 ∷ 8 ∷ 9 ∷ 10 ∷ 11 ∷ 12 ∷ []) ∷ [])
    ≡ Results (table (2 ∷ 1 ∷ []) (7 ∷ 11 ∷ []) ∷ [])
unfolding meaning run kind_meaning slice_of
slice_is_the_region = refl

-- offsets and sizes that are values
abbrev sliced_by_values : FuncShape
sliced_by_values = function (row 5 ∷ []) (open_tensor 32 (Any ∷ []) ∷ []) (
    define 1 index (Constant (1 ∷ []))
    ∷ define 2 index (Constant (3 ∷ []))
    ∷ define 3 (open_tensor 32 (Any ∷ [])) (ExtractSlice (value 0) (Value (value 1) ∷ []) (Value (value 2) ∷ []))
    ∷ perform (Return (values (3 ∷ [])))
    ∷ [])

slice_takes_values :
    meaning sliced_by_values (row_of (1 ∷ 2 ∷ 3 ∷ 4 ∷ 5 ∷ []) ∷ []) ≡ Results (row_of (2 ∷ 3 ∷ 4 ∷ []) ∷ [])
unfolding meaning run kind_meaning constant_of slice_of reduce signed_of
slice_takes_values = refl

-- a slice without rows, at the end
abbrev sliced_to_nothing : FuncShape
sliced_to_nothing = function (matrix 2 2 ∷ []) (matrix 0 2 ∷ []) (
    define 1 (matrix 0 2) (ExtractSlice (value 0) (Literal (pos 2) ∷ Literal (pos 0) ∷ []) (Literal (pos 0)
    ∷ Literal (pos 2) ∷ []))
    ∷ perform (Return (values (1 ∷ [])))
    ∷ [])

slice_of_no_rows_is_empty :
    meaning sliced_to_nothing (table (2 ∷ 2 ∷ []) (1 ∷ 2 ∷ 3 ∷ 4 ∷ []) ∷ []) ≡ Results (table (0 ∷ 2 ∷ []) [] ∷ [])
unfolding meaning run kind_meaning slice_of
slice_of_no_rows_is_empty = refl

-- INSERTIONS

-- a tile of two rows, from the second column on
abbrev inserted : FuncShape
inserted = function (matrix 3 4 ∷ matrix 2 2 ∷ []) (matrix 3 4 ∷ []) (
    define 2 (matrix 3 4) (InsertSlice (value 1) (value 0) (Literal (pos 0) ∷ Literal (pos 1) ∷ []) (Literal
    (pos 2) ∷ Literal (pos 2) ∷ []))
    ∷ perform (Return (values (2 ∷ [])))
    ∷ [])

insertion_sets_the_region :
    meaning inserted (table (3 ∷ 4 ∷ []) (1 ∷ 2 ∷ 3 ∷ 4 ∷ 5 ∷ 6 ∷ 7 ∷ 8 ∷ 9 ∷ 10 ∷ 11 ∷ 12 ∷ []) ∷ table (2 ∷ 2
    ∷ []) (4294967295 ∷ 4294967294 ∷ 4294967293 ∷ 4294967292 ∷ []) ∷ [])
    ≡ Results (table (3 ∷ 4 ∷ []) (1 ∷ 4294967295 ∷ 4294967294 ∷ 4 ∷ 5 ∷ 4294967293 ∷ 4294967292 ∷ 8 ∷ 9 ∷ 10 ∷ 11
    ∷ 12 ∷ []) ∷ [])
unfolding meaning run kind_meaning insert_into
insertion_sets_the_region = refl

-- two tiles that overlap, one after the other
abbrev inserted_twice : FuncShape
inserted_twice = function (row 4 ∷ row 2 ∷ row 2 ∷ []) (row 4 ∷ []) (
    define 3 (row 4) (InsertSlice (value 1) (value 0) (Literal (pos 0) ∷ []) (Literal (pos 2) ∷ []))
    ∷ define 4 (row 4) (InsertSlice (value 2) (value 3) (Literal (pos 1) ∷ []) (Literal (pos 2) ∷ []))
    ∷ perform (Return (values (4 ∷ [])))
    ∷ [])

later_insertion_wins :
    meaning inserted_twice (row_of (1 ∷ 2 ∷ 3 ∷ 4 ∷ []) ∷ row_of (10 ∷ 20 ∷ []) ∷ row_of (30 ∷ 40 ∷ []) ∷ [])
    ≡ Results (row_of (10 ∷ 30 ∷ 40 ∷ 4 ∷ []) ∷ [])
unfolding meaning run kind_meaning insert_into
later_insertion_wins = refl

-- a tile without elements
abbrev inserted_nothing : FuncShape
inserted_nothing = function (row 2 ∷ row 0 ∷ []) (row 2 ∷ []) (
    define 2 (row 2) (InsertSlice (value 1) (value 0) (Literal (pos 2) ∷ []) (Literal (pos 0) ∷ []))
    ∷ perform (Return (values (2 ∷ [])))
    ∷ [])

insertion_of_no_elements_changes_nothing :
    meaning inserted_nothing (row_of (1 ∷ 2 ∷ []) ∷ row_of [] ∷ []) ≡ Results (row_of (1 ∷ 2 ∷ []) ∷ [])
unfolding meaning run kind_meaning insert_into
insertion_of_no_elements_changes_nothing = refl

-- PADS

-- one row, and as many columns as a value says
abbrev padded : FuncShape
padded = function (matrix 2 3 ∷ []) (matrix 3 5 ∷ []) (
    define 1 (Scalar (Int 32)) (Constant (4294967295 ∷ []))
    ∷ define 2 index (Constant (2 ∷ []))
    ∷ define 3 (matrix 3 5) (Pad (value 0) (Literal (pos 1) ∷ Value (value 2) ∷ []) (value 1))
    ∷ perform (Return (values (3 ∷ [])))
    ∷ [])

pad_surrounds_the_source :
    meaning padded (table (2 ∷ 3 ∷ []) (1 ∷ 2 ∷ 3 ∷ 4 ∷ 5 ∷ 6 ∷ []) ∷ [])
    ≡ Results (table (3 ∷ 5 ∷ []) (1 ∷ 2 ∷ 3 ∷ 4294967295 ∷ 4294967295 ∷ 4 ∷ 5 ∷ 6 ∷ 4294967295 ∷ 4294967295
    ∷ 4294967295 ∷ 4294967295 ∷ 4294967295 ∷ 4294967295 ∷ 4294967295 ∷ []) ∷ [])
unfolding meaning run kind_meaning constant_of pad_of reduce signed_of
pad_surrounds_the_source = refl

-- by nothing, and from nothing
abbrev padded_by_none : FuncShape
padded_by_none = function (row 2 ∷ row 0 ∷ []) (row 2 ∷ row 3 ∷ []) (
    define 2 (Scalar (Int 32)) (Constant (7 ∷ []))
    ∷ define 3 (row 2) (Pad (value 0) (Literal (pos 0) ∷ []) (value 2))
    ∷ define 4 (row 3) (Pad (value 1) (Literal (pos 3) ∷ []) (value 2))
    ∷ perform (Return (values (3 ∷ 4 ∷ [])))
    ∷ [])

pad_by_none_and_of_nothing :
    meaning padded_by_none (row_of (1 ∷ 2 ∷ []) ∷ row_of [] ∷ [])
    ≡ Results (row_of (1 ∷ 2 ∷ []) ∷ row_of (7 ∷ 7 ∷ 7 ∷ []) ∷ [])
unfolding meaning run kind_meaning constant_of pad_of
pad_by_none_and_of_nothing = refl

-- PACKS

-- tiles of 2 by 2, padded, and unpacked again
abbrev packed : FuncShape
packed = function (matrix 3 3 ∷ []) (tensor 32 (2 ∷ 2 ∷ 2 ∷ 2 ∷ []) ∷ matrix 3 3 ∷ []) (
    define 1 (tensor 32 (2 ∷ 2 ∷ 2 ∷ 2 ∷ [])) (Empty [])
    ∷ define 2 (Scalar (Int 32)) (Constant (4294967287 ∷ []))
    ∷ define 3 (tensor 32 (2 ∷ 2 ∷ 2 ∷ 2 ∷ [])) (Pack (value 0) (value 1) (Some (value 2)) (0 ∷ 1 ∷ []) (2 ∷ 2 ∷ []))
    ∷ define 4 (matrix 3 3) (Empty [])
    ∷ define 5 (matrix 3 3) (Unpack (value 3) (value 4) (0 ∷ 1 ∷ []) (2 ∷ 2 ∷ []))
    ∷ perform (Return (values (3 ∷ 5 ∷ [])))
    ∷ [])

pack_pads_ragged_tiles_and_unpack_drops_them :
    meaning packed (table (3 ∷ 3 ∷ []) (1 ∷ 2 ∷ 3 ∷ 4 ∷ 5 ∷ 6 ∷ 7 ∷ 8 ∷ 9 ∷ []) ∷ [])
    ≡ Results (table (2 ∷ 2 ∷ 2 ∷ 2 ∷ []) (1 ∷ 2 ∷ 4 ∷ 5 ∷ 3 ∷ 4294967287 ∷ 6 ∷ 4294967287 ∷ 7 ∷ 8 ∷ 4294967287
    ∷ 4294967287 ∷ 9 ∷ 4294967287 ∷ 4294967287 ∷ 4294967287 ∷ []) ∷ table (3 ∷ 3 ∷ []) (1 ∷ 2 ∷ 3 ∷ 4 ∷ 5 ∷ 6 ∷ 7
    ∷ 8 ∷ 9 ∷ []) ∷ [])
unfolding meaning run kind_meaning constant_of empty_of pack_of unpack_of
pack_pads_ragged_tiles_and_unpack_drops_them = refl

-- without a padding value
abbrev packed_evenly : FuncShape
packed_evenly = function (matrix 2 4 ∷ []) (tensor 32 (2 ∷ 2 ∷ 2 ∷ []) ∷ matrix 2 4 ∷ []) (
    define 1 (tensor 32 (2 ∷ 2 ∷ 2 ∷ [])) (Empty [])
    ∷ define 2 (tensor 32 (2 ∷ 2 ∷ 2 ∷ [])) (Pack (value 0) (value 1) None (1 ∷ []) (2 ∷ []))
    ∷ define 3 (matrix 2 4) (Empty [])
    ∷ define 4 (matrix 2 4) (Unpack (value 2) (value 3) (1 ∷ []) (2 ∷ []))
    ∷ perform (Return (values (2 ∷ 4 ∷ [])))
    ∷ [])

pack_without_padding :
    meaning packed_evenly (table (2 ∷ 4 ∷ []) (1 ∷ 2 ∷ 3 ∷ 4 ∷ 5 ∷ 6 ∷ 7 ∷ 8 ∷ []) ∷ [])
    ≡ Results (table (2 ∷ 2 ∷ 2 ∷ []) (1 ∷ 2 ∷ 3 ∷ 4 ∷ 5 ∷ 6 ∷ 7 ∷ 8 ∷ []) ∷ table (2 ∷ 4 ∷ []) (1 ∷ 2 ∷ 3 ∷ 4 ∷ 5
    ∷ 6 ∷ 7 ∷ 8 ∷ []) ∷ [])
unfolding meaning run kind_meaning empty_of pack_of unpack_of
pack_without_padding = refl

-- the tile of the second axis comes first
abbrev packed_in_other_order : FuncShape
packed_in_other_order = function (matrix 3 3 ∷ []) (tensor 32 (2 ∷ 1 ∷ 3 ∷ 2 ∷ []) ∷ matrix 3 3 ∷ []) (
    define 1 (tensor 32 (2 ∷ 1 ∷ 3 ∷ 2 ∷ [])) (Empty [])
    ∷ define 2 (Scalar (Int 32)) (Constant (4294967287 ∷ []))
    ∷ define 3 (tensor 32 (2 ∷ 1 ∷ 3 ∷ 2 ∷ [])) (Pack (value 0) (value 1) (Some (value 2)) (1 ∷ 0 ∷ []) (3 ∷ 2 ∷ []))
    ∷ define 4 (matrix 3 3) (Empty [])
    ∷ define 5 (matrix 3 3) (Unpack (value 3) (value 4) (1 ∷ 0 ∷ []) (3 ∷ 2 ∷ []))
    ∷ perform (Return (values (3 ∷ 5 ∷ [])))
    ∷ [])

pack_orders_tiles_as_named :
    meaning packed_in_other_order (table (3 ∷ 3 ∷ []) (1 ∷ 2 ∷ 3 ∷ 4 ∷ 5 ∷ 6 ∷ 7 ∷ 8 ∷ 9 ∷ []) ∷ [])
    ≡ Results (table (2 ∷ 1 ∷ 3 ∷ 2 ∷ []) (1 ∷ 4 ∷ 2 ∷ 5 ∷ 3 ∷ 6 ∷ 7 ∷ 4294967287 ∷ 8 ∷ 4294967287 ∷ 9 ∷ 4294967287
    ∷ []) ∷ table (3 ∷ 3 ∷ []) (1 ∷ 2 ∷ 3 ∷ 4 ∷ 5 ∷ 6 ∷ 7 ∷ 8 ∷ 9 ∷ []) ∷ [])
unfolding meaning run kind_meaning constant_of empty_of pack_of unpack_of
pack_orders_tiles_as_named = refl

-- without rows
abbrev packed_nothing : FuncShape
packed_nothing = function (matrix 0 3 ∷ []) (tensor 32 (0 ∷ 3 ∷ 2 ∷ []) ∷ matrix 0 3 ∷ []) (
    define 1 (tensor 32 (0 ∷ 3 ∷ 2 ∷ [])) (Empty [])
    ∷ define 2 (tensor 32 (0 ∷ 3 ∷ 2 ∷ [])) (Pack (value 0) (value 1) None (0 ∷ []) (2 ∷ []))
    ∷ define 3 (matrix 0 3) (Empty [])
    ∷ define 4 (matrix 0 3) (Unpack (value 2) (value 3) (0 ∷ []) (2 ∷ []))
    ∷ perform (Return (values (2 ∷ 4 ∷ [])))
    ∷ [])

pack_of_nothing_is_empty :
    meaning packed_nothing (table (0 ∷ 3 ∷ []) [] ∷ [])
    ≡ Results (table (0 ∷ 3 ∷ 2 ∷ []) [] ∷ table (0 ∷ 3 ∷ []) [] ∷ [])
unfolding meaning run kind_meaning empty_of pack_of unpack_of
pack_of_nothing_is_empty = refl

-- OUTSIDE A TENSOR, in functions that don't verify: 0, and no other element

-- a slice that leaves the source on its last axis
abbrev sliced_past_the_end : FuncShape
sliced_past_the_end = function (matrix 2 2 ∷ []) (matrix 2 2 ∷ []) (
    define 1 (matrix 2 2) (ExtractSlice (value 0) (Literal (pos 0) ∷ Literal (pos 1) ∷ []) (Literal (pos 2)
    ∷ Literal (pos 2) ∷ []))
    ∷ perform (Return (values (1 ∷ [])))
    ∷ [])

slice_past_the_end_reads_no_other_row :
    meaning sliced_past_the_end (table (2 ∷ 2 ∷ []) (1 ∷ 2 ∷ 3 ∷ 4 ∷ []) ∷ [])
    ≡ Results (table (2 ∷ 2 ∷ []) (2 ∷ 0 ∷ 4 ∷ 0 ∷ []) ∷ [])
unfolding meaning run kind_meaning slice_of
slice_past_the_end_reads_no_other_row = refl

-- an unpack of more columns than there are
abbrev unpacked_past_the_end : FuncShape
unpacked_past_the_end = function (matrix 2 1 ∷ []) (matrix 2 2 ∷ []) (
    define 1 (matrix 2 2) (Empty [])
    ∷ define 2 (matrix 2 2) (Unpack (value 0) (value 1) [] [])
    ∷ perform (Return (values (2 ∷ [])))
    ∷ [])

unpack_past_the_end_reads_no_other_row :
    meaning unpacked_past_the_end (table (2 ∷ 1 ∷ []) (1 ∷ 2 ∷ []) ∷ [])
    ≡ Results (table (2 ∷ 2 ∷ []) (1 ∷ 0 ∷ 2 ∷ 0 ∷ []) ∷ [])
unfolding meaning run kind_meaning empty_of unpack_of
unpack_past_the_end_reads_no_other_row = refl

-- a generic whose map leaves its operand
abbrev read_past_the_end : FuncShape
read_past_the_end = function (matrix 2 2 ∷ matrix 2 2 ∷ []) (matrix 2 2 ∷ []) (
    define 2 (matrix 2 2) (Generic (affine 2 (expr (pos 0) ((0, pos 1) ∷ []) ∷ expr (pos 1) ((1, pos 1) ∷ []) ∷ [])
    ∷ two_axes ∷ []) (Parallel ∷ Parallel ∷ []) (values (0 ∷ [])) (value 1) [] (payload (32 ∷ []) 32 [] (Input 0)))
    ∷ perform (Return (values (2 ∷ [])))
    ∷ [])

map_past_the_end_reads_no_other_row :
    meaning read_past_the_end (table (2 ∷ 2 ∷ []) (1 ∷ 2 ∷ 3 ∷ 4 ∷ []) ∷ table (2 ∷ 2 ∷ []) (9 ∷ 9 ∷ 9 ∷ 9 ∷ []) ∷ [])
    ≡ Results (table (2 ∷ 2 ∷ []) (2 ∷ 0 ∷ 4 ∷ 0 ∷ []) ∷ [])
unfolding meaning run kind_meaning generic_result op_value on_values
map_past_the_end_reads_no_other_row = refl
