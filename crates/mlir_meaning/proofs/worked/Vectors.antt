-- Worked values of vectors, each written into a tensor at the end.
use Rattle.std.proofs.Common.{◌≡◌, ◌++◌, pos, List, [], ◌∷◌, Some, None, refl}
use Rattle.payload_ops.specs.Bits.{reduce, signed_of, on_values, compares}
use Rattle.payload_ops.specs.Values.{op_value}
use Rattle.payload_ops.specs.declared.kinds.BinOp.TheVariants.{Divsi, Remsi}
use Rattle.payload_ops.specs.declared.kinds.Combiner.{Combiner}
use Rattle.payload_ops.specs.declared.kinds.Combiner.TheVariants.{Add, Mul, And, Or, Xor, MaxS, MaxU, MinS, MinU}
use Rattle.mlir_base.specs.declared.types.ElemTy.TheVariants.{Int}
use Rattle.payload_ops.specs.declared.kinds.Predicate.TheVariants.{Slt}
use Rattle.payload_ops.specs.declared.step.Arg.TheVariants.{Input}
use Rattle.payload_ops.specs.declared.step.StepOp.TheVariants.{Binary, Compare, Select}
use Rattle.mlir_ir.specs.Shape.{FuncShape}
use Rattle.mlir_ir.specs.declared.tree.OpKind.{Constant, Empty, CreateMask, TransferRead, TransferWrite, Elementwise, MultiReduction, Return}
use Rattle.mlir_ir.specs.declared.tree.Op.{Op}
use Rattle.mlir_ir.specs.declared.tree.Ty.{Ty}
use Rattle.mlir_ir.specs.declared.tree.Ty.TheVariants.{Scalar, Vector}
use Rattle.mlir_meaning.specs.declared.answer.Answer.TheVariants.{Results, Fails}
use Rattle.mlir_meaning.specs.declared.answer.Fault.TheVariants.{Division}
use Rattle.mlir_meaning.specs.Meaning.{constant_of, kind_meaning, run, meaning}
use Rattle.mlir_meaning.specs.Moves.{empty_of}
use Rattle.mlir_meaning.specs.Points.{select_map}
use Rattle.mlir_meaning.specs.Vectors.{mask_of, read_of, write_of, elementwise_result, reduction_of}
use Rattle.mlir_meaning.proofs.worked.Build.{value, values, row, matrix, expr, affine, one_axis, two_axes, define, perform, function, index, table, row_of}

-- the indices 0, 1 and 2 are the values 20, 21 and 22, and the padding -1 is the value 23
abbrev lanes : List Ty → List Ty → List Op → FuncShape
lanes params results body = function params results (
    define 20 index (Constant (0 ∷ []))
    ∷ define 21 index (Constant (1 ∷ []))
    ∷ define 22 index (Constant (2 ∷ []))
    ∷ define 23 (Scalar (Int 32)) (Constant (4294967295 ∷ []))
    ∷ body)

-- MASKS AND TRANSFERS

-- masks of two lanes of three, of none, and of all, as what is read of a row
abbrev masks : FuncShape
masks = lanes (row 3 ∷ []) (row 3 ∷ row 3 ∷ row 3 ∷ []) (
    define 24 index (Constant (5 ∷ []))
    ∷ define 2 (Vector (3 ∷ []) 1) (CreateMask (values (22 ∷ [])))
    ∷ define 3 (Vector (3 ∷ []) 1) (CreateMask (values (20 ∷ [])))
    ∷ define 4 (Vector (3 ∷ []) 1) (CreateMask (values (24 ∷ [])))
    ∷ define 5 (Vector (3 ∷ []) 32) (TransferRead (value 0) (values (20 ∷ [])) (value 23) (Some (value 2)) one_axis)
    ∷ define 6 (Vector (3 ∷ []) 32) (TransferRead (value 0) (values (20 ∷ [])) (value 23) (Some (value 3)) one_axis)
    ∷ define 7 (Vector (3 ∷ []) 32) (TransferRead (value 0) (values (20 ∷ [])) (value 23) (Some (value 4)) one_axis)
    ∷ define 8 (row 3) (Empty [])
    ∷ define 9 (row 3) (TransferWrite (value 5) (value 8) (values (20 ∷ [])) None one_axis)
    ∷ define 10 (row 3) (TransferWrite (value 6) (value 8) (values (20 ∷ [])) None one_axis)
    ∷ define 11 (row 3) (TransferWrite (value 7) (value 8) (values (20 ∷ [])) None one_axis)
    ∷ perform (Return (values (9 ∷ 10 ∷ 11 ∷ [])))
    ∷ [])

masks_are_on_below_their_sizes :
    meaning masks (row_of (7 ∷ 8 ∷ 9 ∷ []) ∷ [])
    ≡ Results (row_of (7 ∷ 8 ∷ 4294967295 ∷ []) ∷ row_of (4294967295 ∷ 4294967295 ∷ 4294967295 ∷ []) ∷ row_of (7
    ∷ 8 ∷ 9 ∷ []) ∷ [])
unfolding meaning run kind_meaning constant_of empty_of mask_of read_of write_of reduce signed_of
masks_are_on_below_their_sizes = refl

-- a row from its second element on, as each of two rows of lanes; the last two lanes are off
abbrev spread_row : FuncShape
spread_row = lanes (matrix 2 3 ∷ matrix 2 4 ∷ []) (matrix 2 4 ∷ []) (
    define 2 (Vector (4 ∷ []) 1) (CreateMask (values (22 ∷ [])))
    ∷ define 3 (Vector (2 ∷ 4 ∷ []) 32) (TransferRead (value 0) (values (21 ∷ 21 ∷ [])) (value 23) (Some (value 2))
    (affine 2 (expr (pos 0) [] ∷ expr (pos 0) ((1, pos 1) ∷ []) ∷ [])))
    ∷ define 4 (matrix 2 4) (TransferWrite (value 3) (value 1) (values (20 ∷ 20 ∷ [])) None two_axes)
    ∷ perform (Return (values (4 ∷ [])))
    ∷ [])

read_broadcasts_along_a_zero_of_its_map :
    meaning spread_row (table (2 ∷ 3 ∷ []) (1 ∷ 2 ∷ 3 ∷ 4 ∷ 5 ∷ 6 ∷ []) ∷ table (2 ∷ 4 ∷ []) (0 ∷ 0 ∷ 0 ∷ 0 ∷ 0 ∷ 0
    ∷ 0 ∷ 0 ∷ []) ∷ [])
    ≡ Results (table (2 ∷ 4 ∷ []) (5 ∷ 6 ∷ 4294967295 ∷ 4294967295 ∷ 5 ∷ 6 ∷ 4294967295 ∷ 4294967295 ∷ []) ∷ [])
unfolding meaning run kind_meaning constant_of mask_of read_of write_of reduce signed_of
read_broadcasts_along_a_zero_of_its_map = refl

-- columns as rows of lanes
abbrev turned_read : FuncShape
turned_read = lanes (matrix 2 3 ∷ matrix 3 2 ∷ []) (matrix 3 2 ∷ []) (
    define 2 (Vector (3 ∷ 2 ∷ []) 32) (TransferRead (value 0) (values (20 ∷ 20 ∷ [])) (value 23) None (select_map 2
    (1 ∷ 0 ∷ [])))
    ∷ define 3 (matrix 3 2) (TransferWrite (value 2) (value 1) (values (20 ∷ 20 ∷ [])) None two_axes)
    ∷ perform (Return (values (3 ∷ [])))
    ∷ [])

read_transposes_by_its_map :
    meaning turned_read (table (2 ∷ 3 ∷ []) (1 ∷ 2 ∷ 3 ∷ 4 ∷ 5 ∷ 6 ∷ []) ∷ table (3 ∷ 2 ∷ []) (0 ∷ 0 ∷ 0 ∷ 0 ∷ 0
    ∷ 0 ∷ []) ∷ [])
    ≡ Results (table (3 ∷ 2 ∷ []) (1 ∷ 4 ∷ 2 ∷ 5 ∷ 3 ∷ 6 ∷ []) ∷ [])
unfolding meaning run kind_meaning constant_of read_of write_of reduce signed_of
read_transposes_by_its_map = refl

-- all lanes off
abbrev padded_read : FuncShape
padded_read = lanes (row 1 ∷ row 2 ∷ []) (row 2 ∷ []) (
    define 2 (Vector (2 ∷ []) 1) (CreateMask (values (20 ∷ [])))
    ∷ define 3 (Vector (2 ∷ []) 32) (TransferRead (value 0) (values (21 ∷ [])) (value 23) (Some (value 2)) one_axis)
    ∷ define 4 (row 2) (TransferWrite (value 3) (value 1) (values (20 ∷ [])) None one_axis)
    ∷ perform (Return (values (4 ∷ [])))
    ∷ [])

lanes_that_are_off_read_nothing :
    meaning padded_read (row_of (5 ∷ []) ∷ row_of (0 ∷ 0 ∷ []) ∷ [])
    ≡ Results (row_of (4294967295 ∷ 4294967295 ∷ []) ∷ [])
unfolding meaning run kind_meaning constant_of mask_of read_of write_of reduce signed_of
lanes_that_are_off_read_nothing = refl

-- two rows of lanes as columns; the mask has the order of the axes of the tensor
abbrev masked_write : FuncShape
masked_write = lanes (matrix 2 3 ∷ matrix 4 3 ∷ []) (matrix 4 3 ∷ []) (
    define 2 (Vector (3 ∷ 2 ∷ []) 1) (CreateMask (values (22 ∷ 21 ∷ [])))
    ∷ define 3 (Vector (2 ∷ 3 ∷ []) 32) (TransferRead (value 0) (values (20 ∷ 20 ∷ [])) (value 23) None two_axes)
    ∷ define 4 (matrix 4 3) (TransferWrite (value 3) (value 1) (values (21 ∷ 21 ∷ [])) (Some (value 2))
    (select_map 2 (1 ∷ 0 ∷ [])))
    ∷ perform (Return (values (4 ∷ [])))
    ∷ [])

write_sets_the_elements_of_lanes_that_are_on :
    meaning masked_write (table (2 ∷ 3 ∷ []) (1 ∷ 2 ∷ 3 ∷ 4 ∷ 5 ∷ 6 ∷ []) ∷ table (4 ∷ 3 ∷ []) (4294967289
    ∷ 4294967289 ∷ 4294967289 ∷ 4294967289 ∷ 4294967289 ∷ 4294967289 ∷ 4294967289 ∷ 4294967289 ∷ 4294967289
    ∷ 4294967289 ∷ 4294967289 ∷ 4294967289 ∷ []) ∷ [])
    ≡ Results (table (4 ∷ 3 ∷ []) (4294967289 ∷ 4294967289 ∷ 4294967289 ∷ 4294967289 ∷ 1 ∷ 4294967289 ∷ 4294967289
    ∷ 2 ∷ 4294967289 ∷ 4294967289 ∷ 4294967289 ∷ 4294967289 ∷ []) ∷ [])
unfolding meaning run kind_meaning constant_of mask_of read_of write_of reduce signed_of
write_sets_the_elements_of_lanes_that_are_on = refl

-- no lane on
abbrev unwritten : FuncShape
unwritten = lanes (row 2 ∷ row 2 ∷ []) (row 2 ∷ []) (
    define 2 (Vector (2 ∷ []) 1) (CreateMask (values (20 ∷ [])))
    ∷ define 3 (Vector (2 ∷ []) 32) (TransferRead (value 0) (values (20 ∷ [])) (value 23) None one_axis)
    ∷ define 4 (row 2) (TransferWrite (value 3) (value 1) (values (20 ∷ [])) (Some (value 2)) one_axis)
    ∷ perform (Return (values (4 ∷ [])))
    ∷ [])

write_without_lanes_keeps_the_tensor :
    meaning unwritten (row_of (1 ∷ 2 ∷ []) ∷ row_of (3 ∷ 4 ∷ []) ∷ []) ≡ Results (row_of (3 ∷ 4 ∷ []) ∷ [])
unfolding meaning run kind_meaning constant_of mask_of read_of write_of reduce signed_of
write_without_lanes_keeps_the_tensor = refl

-- LANE BY LANE

-- two rows of four as vectors, and what the operations make of them as the value 5
abbrev of_lanes : List Op → FuncShape
of_lanes body = lanes (row 4 ∷ row 4 ∷ []) (row 4 ∷ []) (
    define 2 (Vector (4 ∷ []) 32) (TransferRead (value 0) (values (20 ∷ [])) (value 23) None one_axis)
    ∷ define 3 (Vector (4 ∷ []) 32) (TransferRead (value 1) (values (20 ∷ [])) (value 23) None one_axis)
    ∷ (body ++ (
    define 6 (row 4) (TransferWrite (value 5) (value 1) (values (20 ∷ [])) None one_axis)
    ∷ perform (Return (values (6 ∷ [])))
    ∷ [])))

-- the lesser lanes
abbrev lesser_lanes : FuncShape
lesser_lanes = of_lanes (define 4 (Vector (4 ∷ []) 1) (Elementwise (Compare Slt (Input 0) (Input 1)) (values (2 ∷ 3
    ∷ []))) ∷ define 5 (Vector (4 ∷ []) 32) (Elementwise (Select (Input 0) (Input 1) (Input 2)) (values (4 ∷ 2 ∷ 3
    ∷ []))) ∷ [])

lanes_are_compared_and_chosen :
    meaning lesser_lanes (row_of (4294967295 ∷ 5 ∷ 3 ∷ 4294967288 ∷ []) ∷ row_of (0 ∷ 4294967291 ∷ 3 ∷ 7 ∷ []) ∷ [])
    ≡ Results (row_of (4294967295 ∷ 4294967291 ∷ 3 ∷ 4294967288 ∷ []) ∷ [])
unfolding meaning run kind_meaning constant_of read_of write_of elementwise_result op_value on_values reduce signed_of compares
lanes_are_compared_and_chosen = refl

-- the quotients of the lanes
abbrev quotient_lanes : FuncShape
quotient_lanes = of_lanes (define 5 (Vector (4 ∷ []) 32) (Elementwise (Binary Divsi (Input 0) (Input 1)) (values (2
    ∷ 3 ∷ []))) ∷ [])

lanes_are_divided :
    meaning quotient_lanes (row_of (4294967289 ∷ 7 ∷ 0 ∷ 9 ∷ []) ∷ row_of (2 ∷ 2 ∷ 5 ∷ 4294967295 ∷ []) ∷ [])
    ≡ Results (row_of (4294967293 ∷ 3 ∷ 0 ∷ 4294967287 ∷ []) ∷ [])
unfolding meaning run kind_meaning constant_of read_of write_of elementwise_result op_value on_values reduce signed_of
lanes_are_divided = refl

trap_in_a_lane_traps :
    meaning quotient_lanes (row_of (4294967289 ∷ 7 ∷ 0 ∷ 9 ∷ []) ∷ row_of (1 ∷ 1 ∷ 0 ∷ 1 ∷ []) ∷ []) ≡ Fails Division
unfolding meaning run kind_meaning constant_of read_of write_of elementwise_result op_value on_values reduce signed_of
trap_in_a_lane_traps = refl

least_value_by_minus_one_in_a_lane_traps :
    meaning quotient_lanes (row_of (2147483648 ∷ 7 ∷ 0 ∷ 9 ∷ []) ∷ row_of (4294967295 ∷ 1 ∷ 1 ∷ 1 ∷ []) ∷ [])
    ≡ Fails Division
unfolding meaning run kind_meaning constant_of read_of write_of elementwise_result op_value on_values reduce signed_of
least_value_by_minus_one_in_a_lane_traps = refl

-- the rests of the lanes
abbrev rest_lanes : FuncShape
rest_lanes = of_lanes (define 5 (Vector (4 ∷ []) 32) (Elementwise (Binary Remsi (Input 0) (Input 1)) (values (2 ∷ 3
    ∷ []))) ∷ [])

rest_of_least_value_by_minus_one_in_a_lane_is_zero :
    meaning rest_lanes (row_of (2147483648 ∷ 7 ∷ 4294967289 ∷ 9 ∷ []) ∷ row_of (4294967295 ∷ 4 ∷ 4 ∷ 4294967292
    ∷ []) ∷ [])
    ≡ Results (row_of (0 ∷ 3 ∷ 4294967293 ∷ 1 ∷ []) ∷ [])
unfolding meaning run kind_meaning constant_of read_of write_of elementwise_result op_value on_values reduce signed_of
rest_of_least_value_by_minus_one_in_a_lane_is_zero = refl

-- REDUCTIONS

-- the first two of three lanes of each row, summed from an accumulator
abbrev masked_sums : FuncShape
masked_sums = lanes (matrix 2 3 ∷ row 2 ∷ []) (row 2 ∷ []) (
    define 2 (Vector (2 ∷ 3 ∷ []) 1) (CreateMask (values (22 ∷ 22 ∷ [])))
    ∷ define 3 (Vector (2 ∷ 3 ∷ []) 32) (TransferRead (value 0) (values (20 ∷ 20 ∷ [])) (value 23) None two_axes)
    ∷ define 4 (Vector (2 ∷ 3 ∷ []) 32) (Constant (0 ∷ []))
    ∷ define 5 (Vector (2 ∷ 3 ∷ []) 32) (Elementwise (Select (Input 0) (Input 1) (Input 2)) (values (2 ∷ 3 ∷ 4 ∷ [])))
    ∷ define 6 (Vector (2 ∷ []) 32) (TransferRead (value 1) (values (20 ∷ [])) (value 23) None one_axis)
    ∷ define 7 (Vector (2 ∷ []) 32) (MultiReduction Add (value 5) (value 6) (1 ∷ []))
    ∷ define 8 (row 2) (TransferWrite (value 7) (value 1) (values (20 ∷ [])) None one_axis)
    ∷ perform (Return (values (8 ∷ [])))
    ∷ [])

masked_lanes_are_summed_from_the_accumulator :
    meaning masked_sums (table (2 ∷ 3 ∷ []) (1 ∷ 2 ∷ 3 ∷ 4 ∷ 5 ∷ 6 ∷ []) ∷ row_of (10 ∷ 20 ∷ []) ∷ [])
    ≡ Results (row_of (13 ∷ 29 ∷ []) ∷ [])
unfolding meaning run kind_meaning constant_of mask_of read_of write_of elementwise_result op_value on_values reduction_of reduce signed_of
masked_lanes_are_summed_from_the_accumulator = refl

-- the products of the columns
abbrev column_products : FuncShape
column_products = lanes (matrix 2 3 ∷ row 3 ∷ []) (row 3 ∷ []) (
    define 2 (Vector (2 ∷ 3 ∷ []) 32) (TransferRead (value 0) (values (20 ∷ 20 ∷ [])) (value 23) None two_axes)
    ∷ define 3 (Vector (3 ∷ []) 32) (TransferRead (value 1) (values (20 ∷ [])) (value 23) None one_axis)
    ∷ define 4 (Vector (3 ∷ []) 32) (MultiReduction Mul (value 2) (value 3) (0 ∷ []))
    ∷ define 5 (row 3) (TransferWrite (value 4) (value 1) (values (20 ∷ [])) None one_axis)
    ∷ perform (Return (values (5 ∷ [])))
    ∷ [])

reduction_of_the_first_axis :
    meaning column_products (table (2 ∷ 3 ∷ []) (1 ∷ 2 ∷ 3 ∷ 4 ∷ 5 ∷ 6 ∷ []) ∷ row_of (1 ∷ 10 ∷ 4294967295 ∷ []) ∷ [])
    ≡ Results (row_of (4 ∷ 100 ∷ 4294967278 ∷ []) ∷ [])
unfolding meaning run kind_meaning constant_of read_of write_of reduction_of on_values reduce signed_of
reduction_of_the_first_axis = refl

-- a row of three lanes, reduced from an accumulator of one lane along the second axis
abbrev reduced_by : Combiner → FuncShape
reduced_by combiner = lanes (matrix 1 3 ∷ row 1 ∷ []) (row 1 ∷ []) (
    define 2 (Vector (1 ∷ 3 ∷ []) 32) (TransferRead (value 0) (values (20 ∷ 20 ∷ [])) (value 23) None two_axes)
    ∷ define 3 (Vector (1 ∷ []) 32) (TransferRead (value 1) (values (20 ∷ [])) (value 23) None one_axis)
    ∷ define 4 (Vector (1 ∷ []) 32) (MultiReduction combiner (value 2) (value 3) (1 ∷ []))
    ∷ define 5 (row 1) (TransferWrite (value 4) (value 1) (values (20 ∷ [])) None one_axis)
    ∷ perform (Return (values (5 ∷ [])))
    ∷ [])

sums_are_reduced :
    meaning (reduced_by Add) (table (1 ∷ 3 ∷ []) (5 ∷ 4294967287 ∷ 2147483647 ∷ []) ∷ row_of (7 ∷ []) ∷ [])
    ≡ Results (row_of (2147483650 ∷ []) ∷ [])
unfolding meaning run kind_meaning constant_of read_of write_of reduction_of on_values reduce signed_of
sums_are_reduced = refl

products_are_reduced :
    meaning (reduced_by Mul) (table (1 ∷ 3 ∷ []) (5 ∷ 4294967287 ∷ 65536 ∷ []) ∷ row_of (7 ∷ []) ∷ [])
    ≡ Results (row_of (4274323456 ∷ []) ∷ [])
unfolding meaning run kind_meaning constant_of read_of write_of reduction_of on_values reduce signed_of
products_are_reduced = refl

conjunctions_are_reduced :
    meaning (reduced_by And) (table (1 ∷ 3 ∷ []) (4294967294 ∷ 255 ∷ 62 ∷ []) ∷ row_of (4294967295 ∷ []) ∷ [])
    ≡ Results (row_of (62 ∷ []) ∷ [])
unfolding meaning run kind_meaning constant_of read_of write_of reduction_of on_values reduce signed_of
conjunctions_are_reduced = refl

disjunctions_are_reduced :
    meaning (reduced_by Or) (table (1 ∷ 3 ∷ []) (1 ∷ 64 ∷ 4294967040 ∷ []) ∷ row_of (8 ∷ []) ∷ [])
    ≡ Results (row_of (4294967113 ∷ []) ∷ [])
unfolding meaning run kind_meaning constant_of read_of write_of reduction_of on_values reduce signed_of
disjunctions_are_reduced = refl

exclusive_disjunctions_are_reduced :
    meaning (reduced_by Xor) (table (1 ∷ 3 ∷ []) (1 ∷ 3 ∷ 4294967295 ∷ []) ∷ row_of (6 ∷ []) ∷ [])
    ≡ Results (row_of (4294967291 ∷ []) ∷ [])
unfolding meaning run kind_meaning constant_of read_of write_of reduction_of on_values reduce signed_of
exclusive_disjunctions_are_reduced = refl

greatest_signed_are_reduced :
    meaning (reduced_by MaxS) (table (1 ∷ 3 ∷ []) (4294967287 ∷ 4294967292 ∷ 4294967289 ∷ []) ∷ row_of (2147483648
    ∷ []) ∷ [])
    ≡ Results (row_of (4294967292 ∷ []) ∷ [])
unfolding meaning run kind_meaning constant_of read_of write_of reduction_of on_values reduce signed_of
greatest_signed_are_reduced = refl

greatest_unsigned_are_reduced :
    meaning (reduced_by MaxU) (table (1 ∷ 3 ∷ []) (9 ∷ 4294967292 ∷ 7 ∷ []) ∷ row_of (0 ∷ []) ∷ [])
    ≡ Results (row_of (4294967292 ∷ []) ∷ [])
unfolding meaning run kind_meaning constant_of read_of write_of reduction_of on_values reduce signed_of
greatest_unsigned_are_reduced = refl

least_signed_value_are_reduced :
    meaning (reduced_by MinS) (table (1 ∷ 3 ∷ []) (9 ∷ 4294967292 ∷ 7 ∷ []) ∷ row_of (2147483647 ∷ []) ∷ [])
    ≡ Results (row_of (4294967292 ∷ []) ∷ [])
unfolding meaning run kind_meaning constant_of read_of write_of reduction_of on_values reduce signed_of
least_signed_value_are_reduced = refl

least_unsigned_are_reduced :
    meaning (reduced_by MinU) (table (1 ∷ 3 ∷ []) (9 ∷ 4294967292 ∷ 7 ∷ []) ∷ row_of (4294967295 ∷ []) ∷ [])
    ≡ Results (row_of (7 ∷ []) ∷ [])
unfolding meaning run kind_meaning constant_of read_of write_of reduction_of on_values reduce signed_of
least_unsigned_are_reduced = refl
