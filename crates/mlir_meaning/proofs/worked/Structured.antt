-- Worked values of structured operations.
use Rattle.std.proofs.Common.{◌≡◌, ℕ, pos, negsuc, List, [], ◌∷◌, refl}
use Rattle.payload_ops.specs.Bits.{reduce, signed_of, on_values, compares}
use Rattle.payload_ops.specs.Shape.{PayloadShape}
use Rattle.payload_ops.specs.Values.{op_value}
use Rattle.payload_ops.specs.declared.kinds.BinOp.{BinOp}
use Rattle.payload_ops.specs.declared.kinds.BinOp.TheVariants.{Addi, Subi, Muli, Divsi, Divui, Remsi, Remui, Andi, Ori, Xori, Shli, Shrsi, Shrui, Maxsi, Maxui, Minsi, Minui}
use Rattle.mlir_base.specs.declared.types.ElemTy.TheVariants.{Int}
use Rattle.payload_ops.specs.declared.kinds.Predicate.TheVariants.{Slt}
use Rattle.payload_ops.specs.declared.step.Arg.{Arg}
use Rattle.payload_ops.specs.declared.step.PayloadStep.{PayloadStep}
use Rattle.payload_ops.specs.declared.step.Arg.TheVariants.{Input, Out, Step}
use Rattle.payload_ops.specs.declared.step.StepOp.TheVariants.{Const, Index, Captured, Linear, Binary, Compare, Select, SignExtend, Truncate, IndexCast}
use Rattle.mlir_ir.specs.Shape.{FuncShape}
use Rattle.mlir_ir.specs.declared.tree.Iter.TheVariants.{Parallel, Reduction}
use Rattle.mlir_ir.specs.declared.tree.OpKind.{Constant, Apply, Least, Empty, Generic, Fill, Matmul, BatchMatmul, Transpose, Broadcast, Return}
use Rattle.mlir_ir.specs.declared.tree.Ty.TheVariants.{Scalar}
use Rattle.mlir_meaning.specs.declared.answer.Answer.TheVariants.{Results, Fails}
use Rattle.mlir_meaning.specs.declared.answer.Fault.TheVariants.{Division}
use Rattle.mlir_meaning.specs.Meaning.{constant_of, kind_meaning, run, meaning}
use Rattle.mlir_meaning.specs.Moves.{empty_of}
use Rattle.mlir_meaning.specs.Points.{select_map}
use Rattle.mlir_meaning.specs.Structured.{generic_result, fill_form, transpose_form, broadcast_form, matmul_form, batch_matmul_form}
use Rattle.mlir_meaning.proofs.worked.Build.{value, values, tensor, row, matrix, expr, affine, one_axis, two_axes, step, payload, define, perform, function, index, index_step, table_of, table, row_of}

-- two rows, element by element
abbrev by_element : ℕ → List PayloadStep → Arg → FuncShape
by_element n steps yielded = function (row n ∷ row n ∷ []) (row n ∷ []) (
    define 2 (row n) (Empty [])
    ∷ define 3 (row n) (Generic (one_axis ∷ one_axis ∷ one_axis ∷ []) (Parallel ∷ []) (values (0 ∷ 1 ∷ []))
    (value 2) []
    (payload (32 ∷ 32 ∷ []) 32 steps yielded))
    ∷ perform (Return (values (3 ∷ [])))
    ∷ [])

-- by one operation
abbrev by_operation : BinOp → FuncShape
by_operation operation = by_element 2 (step (Int 32) (Binary operation (Input 0) (Input 1)) ∷ []) (Step 0)

-- GENERICS, ELEMENT BY ELEMENT

sums_wrap_around :
    meaning (by_operation Addi) (row_of (2147483647 ∷ 3 ∷ []) ∷ row_of (1 ∷ 4294967291 ∷ []) ∷ [])
    ≡ Results (row_of (2147483648 ∷ 4294967294 ∷ []) ∷ [])
unfolding meaning run kind_meaning empty_of generic_result op_value on_values
sums_wrap_around = refl

differences_wrap_around :
    meaning (by_operation Subi) (row_of (2147483648 ∷ 3 ∷ []) ∷ row_of (1 ∷ 5 ∷ []) ∷ [])
    ≡ Results (row_of (2147483647 ∷ 4294967294 ∷ []) ∷ [])
unfolding meaning run kind_meaning empty_of generic_result op_value on_values reduce signed_of
differences_wrap_around = refl

products_wrap_around :
    meaning (by_operation Muli) (row_of (65536 ∷ 4294967293 ∷ []) ∷ row_of (65536 ∷ 5 ∷ []) ∷ [])
    ≡ Results (row_of (0 ∷ 4294967281 ∷ []) ∷ [])
unfolding meaning run kind_meaning empty_of generic_result op_value on_values
products_wrap_around = refl

signed_quotients_are_cut_toward_zero :
    meaning (by_operation Divsi) (row_of (7 ∷ 4294967289 ∷ []) ∷ row_of (2 ∷ 2 ∷ []) ∷ [])
    ≡ Results (row_of (3 ∷ 4294967293 ∷ []) ∷ [])
unfolding meaning run kind_meaning empty_of generic_result op_value on_values reduce signed_of
signed_quotients_are_cut_toward_zero = refl

signed_quotient_by_zero_traps :
    meaning (by_operation Divsi) (row_of (7 ∷ 1 ∷ []) ∷ row_of (2 ∷ 0 ∷ []) ∷ []) ≡ Fails Division
unfolding meaning run kind_meaning empty_of generic_result op_value on_values reduce signed_of
signed_quotient_by_zero_traps = refl

least_value_by_minus_one_traps :
    meaning (by_operation Divsi) (row_of (2147483648 ∷ 1 ∷ []) ∷ row_of (4294967295 ∷ 1 ∷ []) ∷ []) ≡ Fails Division
unfolding meaning run kind_meaning empty_of generic_result op_value on_values reduce signed_of
least_value_by_minus_one_traps = refl

unsigned_quotients :
    meaning (by_operation Divui) (row_of (4294967295 ∷ 7 ∷ []) ∷ row_of (2 ∷ 2 ∷ []) ∷ [])
    ≡ Results (row_of (2147483647 ∷ 3 ∷ []) ∷ [])
unfolding meaning run kind_meaning empty_of generic_result op_value on_values
unsigned_quotients = refl

unsigned_quotient_by_zero_traps :
    meaning (by_operation Divui) (row_of (7 ∷ 1 ∷ []) ∷ row_of (2 ∷ 0 ∷ []) ∷ []) ≡ Fails Division
unfolding meaning run kind_meaning empty_of generic_result op_value on_values
unsigned_quotient_by_zero_traps = refl

signed_rests_have_the_sign_of_the_dividend :
    meaning (by_operation Remsi) (row_of (4294967289 ∷ 7 ∷ []) ∷ row_of (2 ∷ 4294967294 ∷ []) ∷ [])
    ≡ Results (row_of (4294967295 ∷ 1 ∷ []) ∷ [])
unfolding meaning run kind_meaning empty_of generic_result op_value on_values reduce signed_of
signed_rests_have_the_sign_of_the_dividend = refl

rest_of_least_value_by_minus_one_is_zero :
    meaning (by_operation Remsi) (row_of (2147483648 ∷ 1 ∷ []) ∷ row_of (4294967295 ∷ 1 ∷ []) ∷ [])
    ≡ Results (row_of (0 ∷ 0 ∷ []) ∷ [])
unfolding meaning run kind_meaning empty_of generic_result op_value on_values reduce signed_of
rest_of_least_value_by_minus_one_is_zero = refl

signed_rest_by_zero_traps :
    meaning (by_operation Remsi) (row_of (1 ∷ 1 ∷ []) ∷ row_of (1 ∷ 0 ∷ []) ∷ []) ≡ Fails Division
unfolding meaning run kind_meaning empty_of generic_result op_value on_values reduce signed_of
signed_rest_by_zero_traps = refl

unsigned_rests :
    meaning (by_operation Remui) (row_of (4294967295 ∷ 7 ∷ []) ∷ row_of (10 ∷ 4 ∷ []) ∷ [])
    ≡ Results (row_of (5 ∷ 3 ∷ []) ∷ [])
unfolding meaning run kind_meaning empty_of generic_result op_value on_values
unsigned_rests = refl

unsigned_rest_by_zero_traps :
    meaning (by_operation Remui) (row_of (1 ∷ 1 ∷ []) ∷ row_of (1 ∷ 0 ∷ []) ∷ []) ≡ Fails Division
unfolding meaning run kind_meaning empty_of generic_result op_value on_values
unsigned_rest_by_zero_traps = refl

shifts_to_the_left :
    meaning (by_operation Shli) (row_of (4294967288 ∷ 5 ∷ []) ∷ row_of (1 ∷ 32 ∷ []) ∷ [])
    ≡ Results (row_of (4294967280 ∷ 0 ∷ []) ∷ [])
unfolding meaning run kind_meaning empty_of generic_result op_value on_values
shifts_to_the_left = refl

shifts_to_the_right :
    meaning (by_operation Shrui) (row_of (4294967288 ∷ 5 ∷ []) ∷ row_of (1 ∷ 32 ∷ []) ∷ [])
    ≡ Results (row_of (2147483644 ∷ 0 ∷ []) ∷ [])
unfolding meaning run kind_meaning empty_of generic_result op_value on_values
shifts_to_the_right = refl

signed_shifts_to_the_right :
    meaning (by_operation Shrsi) (row_of (4294967288 ∷ 4294967291 ∷ []) ∷ row_of (1 ∷ 32 ∷ []) ∷ [])
    ≡ Results (row_of (4294967292 ∷ 4294967295 ∷ []) ∷ [])
unfolding meaning run kind_meaning empty_of generic_result op_value on_values reduce signed_of
signed_shifts_to_the_right = refl

-- sums, after a quotient that nothing uses
abbrev unused_quotients : ℕ → FuncShape
unused_quotients n =
    by_element n (step (Int 32) (Binary Divui (Input 0) (Input 1)) ∷ step (Int 32) (Binary Addi (Input 0)
    (Input 1)) ∷ []) (Step 1)

unused_steps_change_nothing :
    meaning (unused_quotients 2) (row_of (7 ∷ 1 ∷ []) ∷ row_of (2 ∷ 3 ∷ []) ∷ []) ≡ Results (row_of (9 ∷ 4 ∷ []) ∷ [])
unfolding meaning run kind_meaning empty_of generic_result op_value on_values
unused_steps_change_nothing = refl

unused_step_traps : meaning (unused_quotients 2) (row_of (7 ∷ 1 ∷ []) ∷ row_of (2 ∷ 0 ∷ []) ∷ []) ≡ Fails Division
unfolding meaning run kind_meaning empty_of generic_result op_value on_values
unused_step_traps = refl

no_points_no_trap : meaning (unused_quotients 0) (row_of [] ∷ row_of [] ∷ []) ≡ Results (row_of [] ∷ [])
unfolding meaning run kind_meaning empty_of generic_result op_value on_values
no_points_no_trap = refl

-- quotients that nothing uses
abbrev unused_generic : FuncShape
unused_generic = function (row 2 ∷ row 2 ∷ []) (row 2 ∷ []) (
    define 2 (row 2) (Empty [])
    ∷ define 3 (row 2) (Generic (one_axis ∷ one_axis ∷ one_axis ∷ []) (Parallel ∷ []) (values (0 ∷ 1 ∷ []))
    (value 2) [] (payload (32 ∷ 32 ∷ []) 32 (step (Int 32) (Binary Divui (Input 0) (Input 1)) ∷ []) (Step 0)))
    ∷ perform (Return (values (0 ∷ [])))
    ∷ [])

unused_operation_traps : meaning unused_generic (row_of (7 ∷ 1 ∷ []) ∷ row_of (2 ∷ 0 ∷ []) ∷ []) ≡ Fails Division
unfolding meaning run kind_meaning empty_of generic_result op_value on_values
unused_operation_traps = refl

-- the lesser of two i8, widened to i32 and cut to i16
abbrev lesser_widened_payload : PayloadShape
lesser_widened_payload = payload (8 ∷ 8 ∷ []) 16 (
    step (Int 1) (Compare Slt (Input 0) (Input 1))
    ∷ step (Int 8) (Select (Step 0) (Input 0) (Input 1))
    ∷ step (Int 32) (SignExtend (Step 1))
    ∷ step (Int 16) (Truncate (Step 2))
    ∷ []) (Step 3)

abbrev lesser_widened : FuncShape
lesser_widened = function (tensor 8 (3 ∷ []) ∷ tensor 8 (3 ∷ []) ∷ tensor 16 (3 ∷ []) ∷ []) (tensor 16 (3 ∷ [])
    ∷ []) (
    define 3 (tensor 16 (3 ∷ [])) (Generic (one_axis ∷ one_axis ∷ one_axis ∷ []) (Parallel ∷ []) (values (0 ∷ 1
    ∷ [])) (value 2) [] lesser_widened_payload)
    ∷ perform (Return (values (3 ∷ [])))
    ∷ [])

comparisons_choose_and_widths_change :
    meaning lesser_widened (table_of 8 (3 ∷ []) (128 ∷ 5 ∷ 1 ∷ []) ∷ table_of 8 (3 ∷ []) (127 ∷ 251 ∷ 0 ∷ [])
    ∷ table_of 16 (3 ∷ []) (0 ∷ 0 ∷ 0 ∷ []) ∷ [])
    ≡ Results (table_of 16 (3 ∷ []) (65408 ∷ 65531 ∷ 0 ∷ []) ∷ [])
unfolding meaning run kind_meaning generic_result op_value on_values reduce signed_of compares
comparisons_choose_and_widths_change = refl

-- MAPS

-- windows of three elements, two apart, weighted and summed: a compound map
abbrev windows_payload : PayloadShape
windows_payload = payload (32 ∷ 32 ∷ []) 32 (
    step (Int 32) (Binary Muli (Input 0) (Input 1))
    ∷ step (Int 32) (Binary Addi Out (Step 0))
    ∷ []) (Step 1)

abbrev windows : FuncShape
windows = function (row 7 ∷ row 3 ∷ row 3 ∷ []) (row 3 ∷ []) (
    define 3 (row 3) (Generic (affine 2 (expr (pos 0) ((0, pos 2) ∷ (1, pos 1) ∷ []) ∷ []) ∷ select_map 2 (1 ∷ [])
    ∷ select_map 2 (0 ∷ []) ∷ []) (Parallel ∷ Reduction ∷ []) (values (0 ∷ 1 ∷ [])) (value 2) [] windows_payload)
    ∷ perform (Return (values (3 ∷ [])))
    ∷ [])

compound_map_reads_windows :
    meaning windows (row_of (1 ∷ 2 ∷ 3 ∷ 4 ∷ 5 ∷ 6 ∷ 7 ∷ []) ∷ row_of (1 ∷ 10 ∷ 100 ∷ []) ∷ row_of (1000 ∷ 0 ∷ 0
    ∷ []) ∷ [])
    ≡ Results (row_of (1321 ∷ 543 ∷ 765 ∷ []) ∷ [])
unfolding meaning run kind_meaning generic_result op_value on_values
compound_map_reads_windows = refl

-- the second column: a constant in a map, and one added to a dimension
abbrev second_column : FuncShape
second_column = function (matrix 3 2 ∷ row 4 ∷ row 3 ∷ []) (row 3 ∷ []) (
    define 3 (row 3) (Generic (affine 1 (expr (pos 0) ((0, pos 1) ∷ []) ∷ expr (pos 1) [] ∷ []) ∷ affine 1 (expr
    (pos 1) ((0, pos 1) ∷ []) ∷ []) ∷ one_axis ∷ []) (Parallel ∷ []) (values (0 ∷ 1 ∷ [])) (value 2) []
    (payload (32 ∷ 32 ∷ []) 32 (step (Int 32) (Binary Muli (Input 0) (Input 1)) ∷ []) (Step 0)))
    ∷ perform (Return (values (3 ∷ [])))
    ∷ [])

constants_in_maps_select :
    meaning second_column (table (3 ∷ 2 ∷ []) (1 ∷ 2 ∷ 3 ∷ 4 ∷ 5 ∷ 6 ∷ []) ∷ row_of (9 ∷ 10 ∷ 20 ∷ 30 ∷ []) ∷ row_of
    (0 ∷ 0 ∷ 0 ∷ []) ∷ [])
    ≡ Results (row_of (20 ∷ 80 ∷ 180 ∷ []) ∷ [])
unfolding meaning run kind_meaning generic_result op_value on_values
constants_in_maps_select = refl

-- a scalar operand, and one of rank 0
abbrev plus_scalar_payload : PayloadShape
plus_scalar_payload = payload (32 ∷ 32 ∷ 32 ∷ []) 32 (
    step (Int 32) (Binary Addi (Input 0) (Input 1))
    ∷ step (Int 32) (Binary Muli (Step 0) (Input 2))
    ∷ []) (Step 1)

abbrev plus_scalar : FuncShape
plus_scalar = function (row 3 ∷ tensor 32 [] ∷ []) (row 3 ∷ []) (
    define 2 (Scalar (Int 32)) (Constant (4294967292 ∷ []))
    ∷ define 3 (row 3) (Empty [])
    ∷ define 4 (row 3) (Generic (one_axis ∷ select_map 1 [] ∷ select_map 1 [] ∷ one_axis ∷ []) (Parallel ∷ [])
    (values (0 ∷ 1 ∷ 2 ∷ [])) (value 3) [] plus_scalar_payload)
    ∷ perform (Return (values (4 ∷ [])))
    ∷ [])

scalar_is_the_same_at_each_point :
    meaning plus_scalar (row_of (1 ∷ 2 ∷ 3 ∷ []) ∷ table [] (10 ∷ []) ∷ [])
    ≡ Results (row_of (4294967252 ∷ 4294967248 ∷ 4294967244 ∷ []) ∷ [])
unfolding meaning run kind_meaning constant_of empty_of generic_result op_value on_values
scalar_is_the_same_at_each_point = refl

-- a matrix and ten times its transpose, transposed
abbrev transposed_sum_payload : PayloadShape
transposed_sum_payload = payload (32 ∷ 32 ∷ []) 32 (
    step (Int 32) (Const 10)
    ∷ step (Int 32) (Binary Muli (Input 1) (Step 0))
    ∷ step (Int 32) (Binary Addi (Input 0) (Step 1))
    ∷ []) (Step 2)

abbrev transposed_sum : FuncShape
transposed_sum = function (matrix 2 2 ∷ matrix 2 2 ∷ []) (matrix 2 2 ∷ []) (
    define 2 (matrix 2 2) (Generic (two_axes ∷ select_map 2 (1 ∷ 0 ∷ []) ∷ select_map 2 (1 ∷ 0 ∷ []) ∷ [])
    (Parallel ∷ Parallel ∷ []) (values (0 ∷ 0 ∷ [])) (value 1) [] transposed_sum_payload)
    ∷ perform (Return (values (2 ∷ [])))
    ∷ [])

output_map_turns_the_result :
    meaning transposed_sum (table (2 ∷ 2 ∷ []) (1 ∷ 2 ∷ 3 ∷ 4 ∷ []) ∷ table (2 ∷ 2 ∷ []) (0 ∷ 0 ∷ 0 ∷ 0 ∷ []) ∷ [])
    ≡ Results (table (2 ∷ 2 ∷ []) (11 ∷ 23 ∷ 32 ∷ 44 ∷ []) ∷ [])
unfolding meaning run kind_meaning generic_result op_value on_values
output_map_turns_the_result = refl

-- FOLDS

-- ten times what is there, and the next element, along rows
abbrev digits_payload : PayloadShape
digits_payload = payload (32 ∷ []) 32 (
    step (Int 32) (Const 10)
    ∷ step (Int 32) (Binary Muli Out (Step 0))
    ∷ step (Int 32) (Binary Addi (Step 1) (Input 0))
    ∷ []) (Step 2)

abbrev digits : FuncShape
digits = function (matrix 2 3 ∷ row 2 ∷ []) (row 2 ∷ []) (
    define 2 (row 2) (Generic (two_axes ∷ select_map 2 (0 ∷ []) ∷ []) (Parallel ∷ Reduction ∷ []) (values (0 ∷ []))
    (value 1) [] digits_payload)
    ∷ perform (Return (values (2 ∷ [])))
    ∷ [])

reductions_fold_in_order :
    meaning digits (table (2 ∷ 3 ∷ []) (1 ∷ 2 ∷ 3 ∷ 4 ∷ 5 ∷ 6 ∷ []) ∷ row_of (0 ∷ 9 ∷ []) ∷ [])
    ≡ Results (row_of (123 ∷ 9456 ∷ []) ∷ [])
unfolding meaning run kind_meaning generic_result op_value on_values
reductions_fold_in_order = refl

-- the same of rows without elements
abbrev digits_of_nothing_payload : PayloadShape
digits_of_nothing_payload = payload (32 ∷ []) 32 (
    step (Int 32) (Const 10)
    ∷ step (Int 32) (Binary Muli Out (Step 0))
    ∷ step (Int 32) (Binary Addi (Step 1) (Input 0))
    ∷ []) (Step 2)

abbrev digits_of_nothing : FuncShape
digits_of_nothing = function (matrix 2 0 ∷ row 2 ∷ []) (row 2 ∷ []) (
    define 2 (row 2) (Generic (two_axes ∷ select_map 2 (0 ∷ []) ∷ []) (Parallel ∷ Reduction ∷ []) (values (0 ∷ []))
    (value 1) [] digits_of_nothing_payload)
    ∷ perform (Return (values (2 ∷ [])))
    ∷ [])

element_without_points_stays :
    meaning digits_of_nothing (table (2 ∷ 0 ∷ []) [] ∷ row_of (7 ∷ 9 ∷ []) ∷ []) ≡ Results (row_of (7 ∷ 9 ∷ []) ∷ [])
unfolding meaning run kind_meaning generic_result op_value on_values
element_without_points_stays = refl

-- a row folded by one operation into one element
abbrev fold_by : BinOp → FuncShape
fold_by operation = function (row 3 ∷ row 1 ∷ []) (row 1 ∷ []) (
    define 2 (row 1) (Generic (select_map 2 (1 ∷ []) ∷ select_map 2 (0 ∷ []) ∷ []) (Parallel ∷ Reduction ∷ [])
    (values (0 ∷ [])) (value 1) []
    (payload (32 ∷ []) 32 (step (Int 32) (Binary operation Out (Input 0)) ∷ []) (Step 0)))
    ∷ perform (Return (values (2 ∷ [])))
    ∷ [])

sums_are_folded :
    meaning (fold_by Addi) (row_of (5 ∷ 4294967287 ∷ 2147483647 ∷ []) ∷ row_of (7 ∷ []) ∷ [])
    ≡ Results (row_of (2147483650 ∷ []) ∷ [])
unfolding meaning run kind_meaning generic_result op_value on_values
sums_are_folded = refl

products_are_folded :
    meaning (fold_by Muli) (row_of (5 ∷ 4294967287 ∷ 65536 ∷ []) ∷ row_of (7 ∷ []) ∷ [])
    ≡ Results (row_of (4274323456 ∷ []) ∷ [])
unfolding meaning run kind_meaning generic_result op_value on_values
products_are_folded = refl

conjunctions_are_folded :
    meaning (fold_by Andi) (row_of (4294967294 ∷ 255 ∷ 62 ∷ []) ∷ row_of (4294967295 ∷ []) ∷ [])
    ≡ Results (row_of (62 ∷ []) ∷ [])
unfolding meaning run kind_meaning generic_result op_value on_values
conjunctions_are_folded = refl

disjunctions_are_folded :
    meaning (fold_by Ori) (row_of (1 ∷ 64 ∷ 4294967040 ∷ []) ∷ row_of (8 ∷ []) ∷ [])
    ≡ Results (row_of (4294967113 ∷ []) ∷ [])
unfolding meaning run kind_meaning generic_result op_value on_values
disjunctions_are_folded = refl

exclusive_disjunctions_are_folded :
    meaning (fold_by Xori) (row_of (1 ∷ 3 ∷ 4294967295 ∷ []) ∷ row_of (6 ∷ []) ∷ [])
    ≡ Results (row_of (4294967291 ∷ []) ∷ [])
unfolding meaning run kind_meaning generic_result op_value on_values
exclusive_disjunctions_are_folded = refl

greatest_signed_are_folded :
    meaning (fold_by Maxsi) (row_of (4294967287 ∷ 4294967292 ∷ 4294967289 ∷ []) ∷ row_of (2147483648 ∷ []) ∷ [])
    ≡ Results (row_of (4294967292 ∷ []) ∷ [])
unfolding meaning run kind_meaning generic_result op_value on_values reduce signed_of
greatest_signed_are_folded = refl

greatest_unsigned_are_folded :
    meaning (fold_by Maxui) (row_of (9 ∷ 4294967292 ∷ 7 ∷ []) ∷ row_of (0 ∷ []) ∷ [])
    ≡ Results (row_of (4294967292 ∷ []) ∷ [])
unfolding meaning run kind_meaning generic_result op_value on_values
greatest_unsigned_are_folded = refl

least_signed_value_are_folded :
    meaning (fold_by Minsi) (row_of (9 ∷ 4294967292 ∷ 7 ∷ []) ∷ row_of (2147483647 ∷ []) ∷ [])
    ≡ Results (row_of (4294967292 ∷ []) ∷ [])
unfolding meaning run kind_meaning generic_result op_value on_values reduce signed_of
least_signed_value_are_folded = refl

least_unsigned_are_folded :
    meaning (fold_by Minui) (row_of (9 ∷ 4294967292 ∷ 7 ∷ []) ∷ row_of (4294967295 ∷ []) ∷ [])
    ≡ Results (row_of (7 ∷ []) ∷ [])
unfolding meaning run kind_meaning generic_result op_value on_values
least_unsigned_are_folded = refl

-- INDICES

-- the index of each point, in i64
abbrev indices_payload : PayloadShape
indices_payload = payload [] 64 (
    index_step (Index 0)
    ∷ step (Int 64) (IndexCast (Step 0))
    ∷ []) (Step 1)

abbrev indices : FuncShape
indices = function [] (tensor 64 (4 ∷ []) ∷ []) (
    define 0 (tensor 64 (4 ∷ [])) (Empty [])
    ∷ define 1 (tensor 64 (4 ∷ [])) (Generic (one_axis ∷ []) (Parallel ∷ []) [] (value 0) [] indices_payload)
    ∷ perform (Return (values (1 ∷ [])))
    ∷ [])

payload_reads_its_index : meaning indices [] ≡ Results (table_of 64 (4 ∷ []) (0 ∷ 1 ∷ 2 ∷ 3 ∷ []) ∷ [])
unfolding meaning run kind_meaning empty_of generic_result op_value on_values reduce signed_of
payload_reads_its_index = refl

-- twice the index of the point, three times one captured value, and another, less 1
abbrev captured_index_payload : PayloadShape
captured_index_payload = payload [] 64 (
    index_step (Index 0)
    ∷ index_step (Captured 0)
    ∷ index_step (Captured 1)
    ∷ index_step (Linear (negsuc 0) ((Step 0, pos 2) ∷ (Step 1, pos 3) ∷ (Step 2, pos 1) ∷ []))
    ∷ step (Int 64) (IndexCast (Step 3))
    ∷ []) (Step 4)

abbrev captured_index : FuncShape
captured_index = function [] (tensor 64 (3 ∷ []) ∷ []) (
    define 0 index (Constant (7 ∷ []))
    ∷ define 1 index (Constant (3 ∷ []))
    ∷ define 2 index (Apply (affine 2 (expr (pos 4) ((0, pos 1) ∷ (1, negsuc 1) ∷ []) ∷ [])) (values (0 ∷ 1 ∷ [])))
    ∷ define 3 index (Least (affine 2 (expr (pos 0) ((0, pos 1) ∷ []) ∷ expr (pos 9) ((1, pos 1) ∷ []) ∷ expr
    (pos 4) ((0, negsuc 0) ∷ []) ∷ [])) (values (0 ∷ 1 ∷ [])))
    ∷ define 4 (tensor 64 (3 ∷ [])) (Empty [])
    ∷ define 5 (tensor 64 (3 ∷ [])) (Generic (one_axis ∷ []) (Parallel ∷ []) [] (value 4) (values (2 ∷ 3
    ∷ [])) captured_index_payload)
    ∷ perform (Return (values (5 ∷ [])))
    ∷ [])

-- the second captured value is the least of 7, 12 and -3
captured_indices_are_seen_signed : meaning captured_index [] ≡ Results (table_of 64 (3 ∷ []) (11 ∷ 13 ∷ 15 ∷ []) ∷ [])
unfolding meaning run kind_meaning constant_of empty_of generic_result op_value on_values reduce signed_of
captured_indices_are_seen_signed = refl

-- a negative captured index, in i8 and beyond its range
abbrev narrow_index_payload : PayloadShape
narrow_index_payload = payload [] 8 (
    index_step (Index 0)
    ∷ index_step (Captured 0)
    ∷ index_step (Linear (pos 0) ((Step 0, pos 1) ∷ (Step 1, pos 1) ∷ []))
    ∷ step (Int 8) (IndexCast (Step 2))
    ∷ []) (Step 3)

abbrev narrow_index : FuncShape
narrow_index = function [] (tensor 8 (2 ∷ []) ∷ []) (
    define 0 index (Constant (18446744073709551486 ∷ []))
    ∷ define 1 (tensor 8 (2 ∷ [])) (Empty [])
    ∷ define 2 (tensor 8 (2 ∷ [])) (Generic (one_axis ∷ []) (Parallel ∷ []) [] (value 1) (values (0
    ∷ [])) narrow_index_payload)
    ∷ perform (Return (values (2 ∷ [])))
    ∷ [])

negative_captured_index_is_cut_to_the_width :
    meaning narrow_index [] ≡ Results (table_of 8 (2 ∷ []) (126 ∷ 127 ∷ []) ∷ [])
unfolding meaning run kind_meaning constant_of empty_of generic_result op_value on_values reduce signed_of
negative_captured_index_is_cut_to_the_width = refl

-- FILL

-- a matrix filled with a scalar
abbrev filled : FuncShape
filled = function (matrix 2 2 ∷ []) (matrix 2 2 ∷ []) (
    define 1 (Scalar (Int 32)) (Constant (4294967289 ∷ []))
    ∷ define 2 (matrix 2 2) (Fill (value 1) (value 0))
    ∷ perform (Return (values (2 ∷ [])))
    ∷ [])

fill_sets_each_element :
    meaning filled (table (2 ∷ 2 ∷ []) (1 ∷ 2 ∷ 3 ∷ 4 ∷ []) ∷ [])
    ≡ Results (table (2 ∷ 2 ∷ []) (4294967289 ∷ 4294967289 ∷ 4294967289 ∷ 4294967289 ∷ []) ∷ [])
unfolding meaning run kind_meaning constant_of generic_result fill_form
fill_sets_each_element = refl

-- a matrix without rows, and a tensor of rank 0
abbrev filled_nothing : FuncShape
filled_nothing = function (matrix 0 2 ∷ tensor 32 [] ∷ []) (matrix 0 2 ∷ tensor 32 [] ∷ []) (
    define 2 (Scalar (Int 32)) (Constant (4294967289 ∷ []))
    ∷ define 3 (matrix 0 2) (Fill (value 2) (value 0))
    ∷ define 4 (tensor 32 []) (Fill (value 2) (value 1))
    ∷ perform (Return (values (3 ∷ 4 ∷ [])))
    ∷ [])

fill_of_no_elements_and_of_one :
    meaning filled_nothing (table (0 ∷ 2 ∷ []) [] ∷ table [] (5 ∷ []) ∷ [])
    ≡ Results (table (0 ∷ 2 ∷ []) [] ∷ table [] (4294967289 ∷ []) ∷ [])
unfolding meaning run kind_meaning constant_of generic_result fill_form
fill_of_no_elements_and_of_one = refl

-- PRODUCTS OF MATRICES

-- a product of matrices
abbrev product : FuncShape
product = function (matrix 2 3 ∷ matrix 3 2 ∷ matrix 2 2 ∷ []) (matrix 2 2 ∷ []) (
    define 3 (matrix 2 2) (Matmul (value 0) (value 1) (value 2))
    ∷ perform (Return (values (3 ∷ [])))
    ∷ [])

matmul_adds_to_the_output :
    meaning product (table (2 ∷ 3 ∷ []) (1 ∷ 2 ∷ 3 ∷ 4 ∷ 5 ∷ 6 ∷ []) ∷ table (3 ∷ 2 ∷ []) (7 ∷ 8 ∷ 9 ∷ 10 ∷ 11 ∷ 12
    ∷ []) ∷ table (2 ∷ 2 ∷ []) (1000 ∷ 0 ∷ 0 ∷ 4294967295 ∷ []) ∷ [])
    ≡ Results (table (2 ∷ 2 ∷ []) (1058 ∷ 64 ∷ 139 ∷ 153 ∷ []) ∷ [])
unfolding meaning run kind_meaning generic_result matmul_form op_value on_values reduce signed_of
matmul_adds_to_the_output = refl

-- of i8 into i32
abbrev narrow_product : FuncShape
narrow_product = function (tensor 8 (2 ∷ 3 ∷ []) ∷ tensor 8 (3 ∷ 2 ∷ []) ∷ matrix 2 2 ∷ []) (matrix 2 2 ∷ []) (
    define 3 (matrix 2 2) (Matmul (value 0) (value 1) (value 2))
    ∷ perform (Return (values (3 ∷ [])))
    ∷ [])

matmul_extends_signed_operands :
    meaning narrow_product (table_of 8 (2 ∷ 3 ∷ []) (128 ∷ 127 ∷ 255 ∷ 3 ∷ 252 ∷ 5 ∷ []) ∷ table_of 8 (3 ∷ 2 ∷ [])
    (127 ∷ 128 ∷ 128 ∷ 1 ∷ 2 ∷ 253 ∷ []) ∷ table (2 ∷ 2 ∷ []) (1 ∷ 2 ∷ 3 ∷ 4 ∷ []) ∷ [])
    ≡ Results (table (2 ∷ 2 ∷ []) (4294934783 ∷ 16516 ∷ 906 ∷ 4294966897 ∷ []) ∷ [])
unfolding meaning run kind_meaning generic_result matmul_form op_value on_values reduce signed_of
matmul_extends_signed_operands = refl

-- of i1
abbrev bit_product : FuncShape
bit_product = function (tensor 1 (2 ∷ 2 ∷ []) ∷ tensor 1 (2 ∷ 2 ∷ []) ∷ tensor 1 (2 ∷ 2 ∷ []) ∷ []) (tensor 1 (2
    ∷ 2 ∷ []) ∷ []) (
    define 3 (tensor 1 (2 ∷ 2 ∷ [])) (Matmul (value 0) (value 1) (value 2))
    ∷ perform (Return (values (3 ∷ [])))
    ∷ [])

matmul_of_bits_is_or_of_ands :
    meaning bit_product (table_of 1 (2 ∷ 2 ∷ []) (1 ∷ 0 ∷ 1 ∷ 1 ∷ []) ∷ table_of 1 (2 ∷ 2 ∷ []) (0 ∷ 1 ∷ 0 ∷ 1
    ∷ []) ∷ table_of 1 (2 ∷ 2 ∷ []) (0 ∷ 0 ∷ 1 ∷ 0 ∷ []) ∷ [])
    ≡ Results (table_of 1 (2 ∷ 2 ∷ []) (0 ∷ 1 ∷ 1 ∷ 1 ∷ []) ∷ [])
unfolding meaning run kind_meaning generic_result matmul_form op_value on_values reduce signed_of
matmul_of_bits_is_or_of_ands = refl

-- without terms
abbrev empty_product : FuncShape
empty_product = function (matrix 2 0 ∷ matrix 0 2 ∷ matrix 2 2 ∷ []) (matrix 2 2 ∷ []) (
    define 3 (matrix 2 2) (Matmul (value 0) (value 1) (value 2))
    ∷ perform (Return (values (3 ∷ [])))
    ∷ [])

matmul_without_terms_keeps_the_output :
    meaning empty_product (table (2 ∷ 0 ∷ []) [] ∷ table (0 ∷ 2 ∷ []) [] ∷ table (2 ∷ 2 ∷ []) (1 ∷ 2 ∷ 3 ∷ 4 ∷ [])
    ∷ [])
    ≡ Results (table (2 ∷ 2 ∷ []) (1 ∷ 2 ∷ 3 ∷ 4 ∷ []) ∷ [])
unfolding meaning run kind_meaning generic_result matmul_form op_value on_values reduce signed_of
matmul_without_terms_keeps_the_output = refl

-- of two batches
abbrev batches : FuncShape
batches = function (tensor 32 (2 ∷ 1 ∷ 2 ∷ []) ∷ tensor 32 (2 ∷ 2 ∷ 2 ∷ []) ∷ tensor 32 (2 ∷ 1 ∷ 2 ∷ []) ∷ [])
    (tensor 32 (2 ∷ 1 ∷ 2 ∷ []) ∷ []) (
    define 3 (tensor 32 (2 ∷ 1 ∷ 2 ∷ [])) (BatchMatmul (value 0) (value 1) (value 2))
    ∷ perform (Return (values (3 ∷ [])))
    ∷ [])

batch_matmul_multiplies_each_batch :
    meaning batches (table (2 ∷ 1 ∷ 2 ∷ []) (1 ∷ 2 ∷ 5 ∷ 6 ∷ []) ∷ table (2 ∷ 2 ∷ 2 ∷ []) (3 ∷ 4294967293 ∷ 4
    ∷ 4294967292 ∷ 7 ∷ 0 ∷ 8 ∷ 1 ∷ []) ∷ table (2 ∷ 1 ∷ 2 ∷ []) (100 ∷ 0 ∷ 4294967196 ∷ 0 ∷ []) ∷ [])
    ≡ Results (table (2 ∷ 1 ∷ 2 ∷ []) (111 ∷ 4294967285 ∷ 4294967279 ∷ 6 ∷ []) ∷ [])
unfolding meaning run kind_meaning generic_result batch_matmul_form op_value on_values reduce signed_of
batch_matmul_multiplies_each_batch = refl

-- of no batch
abbrev no_batches : FuncShape
no_batches = function (tensor 32 (0 ∷ 1 ∷ 2 ∷ []) ∷ tensor 32 (0 ∷ 2 ∷ 2 ∷ []) ∷ tensor 32 (0 ∷ 1 ∷ 2 ∷ []) ∷ [])
    (tensor 32 (0 ∷ 1 ∷ 2 ∷ []) ∷ []) (
    define 3 (tensor 32 (0 ∷ 1 ∷ 2 ∷ [])) (BatchMatmul (value 0) (value 1) (value 2))
    ∷ perform (Return (values (3 ∷ [])))
    ∷ [])

batch_matmul_of_no_batch_is_empty :
    meaning no_batches (table (0 ∷ 1 ∷ 2 ∷ []) [] ∷ table (0 ∷ 2 ∷ 2 ∷ []) [] ∷ table (0 ∷ 1 ∷ 2 ∷ []) [] ∷ [])
    ≡ Results (table (0 ∷ 1 ∷ 2 ∷ []) [] ∷ [])
unfolding meaning run kind_meaning generic_result batch_matmul_form op_value on_values reduce signed_of
batch_matmul_of_no_batch_is_empty = refl

-- of i8 into i16
abbrev narrow_batches : FuncShape
narrow_batches = function (tensor 8 (1 ∷ 1 ∷ 2 ∷ []) ∷ tensor 8 (1 ∷ 2 ∷ 1 ∷ []) ∷ tensor 16 (1 ∷ 1 ∷ 1 ∷ []) ∷ [])
    (tensor 16 (1 ∷ 1 ∷ 1 ∷ []) ∷ []) (
    define 3 (tensor 16 (1 ∷ 1 ∷ 1 ∷ [])) (BatchMatmul (value 0) (value 1) (value 2))
    ∷ perform (Return (values (3 ∷ [])))
    ∷ [])

batch_matmul_extends_signed_operands :
    meaning narrow_batches (table_of 8 (1 ∷ 1 ∷ 2 ∷ []) (128 ∷ 127 ∷ []) ∷ table_of 8 (1 ∷ 2 ∷ 1 ∷ []) (128 ∷ 127
    ∷ []) ∷ table_of 16 (1 ∷ 1 ∷ 1 ∷ []) (65535 ∷ []) ∷ [])
    ≡ Results (table_of 16 (1 ∷ 1 ∷ 1 ∷ []) (32512 ∷ []) ∷ [])
unfolding meaning run kind_meaning generic_result batch_matmul_form op_value on_values reduce signed_of
batch_matmul_extends_signed_operands = refl

-- AXES

-- axis k of the result is axis order[k] of the source
abbrev turned : FuncShape
turned = function (tensor 32 (2 ∷ 2 ∷ 3 ∷ []) ∷ tensor 32 (3 ∷ 2 ∷ 2 ∷ []) ∷ []) (tensor 32 (3 ∷ 2 ∷ 2 ∷ []) ∷ []) (
    define 2 (tensor 32 (3 ∷ 2 ∷ 2 ∷ [])) (Transpose (value 0) (value 1) (2 ∷ 0 ∷ 1 ∷ []))
    ∷ perform (Return (values (2 ∷ [])))
    ∷ [])

transpose_takes_axes_in_order :
    meaning turned (table (2 ∷ 2 ∷ 3 ∷ []) (0 ∷ 1 ∷ 2 ∷ 3 ∷ 4 ∷ 5 ∷ 6 ∷ 7 ∷ 8 ∷ 9 ∷ 10 ∷ 11 ∷ []) ∷ table (3 ∷ 2
    ∷ 2 ∷ []) (0 ∷ 0 ∷ 0 ∷ 0 ∷ 0 ∷ 0 ∷ 0 ∷ 0 ∷ 0 ∷ 0 ∷ 0 ∷ 0 ∷ []) ∷ [])
    ≡ Results (table (3 ∷ 2 ∷ 2 ∷ []) (0 ∷ 3 ∷ 6 ∷ 9 ∷ 1 ∷ 4 ∷ 7 ∷ 10 ∷ 2 ∷ 5 ∷ 8 ∷ 11 ∷ []) ∷ [])
unfolding meaning run kind_meaning generic_result transpose_form
transpose_takes_axes_in_order = refl

-- without elements
abbrev turned_nothing : FuncShape
turned_nothing = function (matrix 2 0 ∷ matrix 0 2 ∷ []) (matrix 0 2 ∷ []) (
    define 2 (matrix 0 2) (Transpose (value 0) (value 1) (1 ∷ 0 ∷ []))
    ∷ perform (Return (values (2 ∷ [])))
    ∷ [])

transpose_of_no_elements_turns_extents :
    meaning turned_nothing (table (2 ∷ 0 ∷ []) [] ∷ table (0 ∷ 2 ∷ []) [] ∷ []) ≡ Results (table (0 ∷ 2 ∷ []) [] ∷ [])
unfolding meaning run kind_meaning generic_result transpose_form
transpose_of_no_elements_turns_extents = refl

-- rows repeated along a new axis
abbrev spread : FuncShape
spread = function (matrix 2 2 ∷ tensor 32 (2 ∷ 3 ∷ 2 ∷ []) ∷ []) (tensor 32 (2 ∷ 3 ∷ 2 ∷ []) ∷ []) (
    define 2 (tensor 32 (2 ∷ 3 ∷ 2 ∷ [])) (Broadcast (value 0) (value 1) (1 ∷ []))
    ∷ perform (Return (values (2 ∷ [])))
    ∷ [])

broadcast_repeats_along_new_axes :
    meaning spread (table (2 ∷ 2 ∷ []) (1 ∷ 2 ∷ 3 ∷ 4 ∷ []) ∷ table (2 ∷ 3 ∷ 2 ∷ []) (0 ∷ 0 ∷ 0 ∷ 0 ∷ 0 ∷ 0 ∷ 0 ∷ 0
    ∷ 0 ∷ 0 ∷ 0 ∷ 0 ∷ []) ∷ [])
    ≡ Results (table (2 ∷ 3 ∷ 2 ∷ []) (1 ∷ 2 ∷ 1 ∷ 2 ∷ 1 ∷ 2 ∷ 3 ∷ 4 ∷ 3 ∷ 4 ∷ 3 ∷ 4 ∷ []) ∷ [])
unfolding meaning run kind_meaning generic_result broadcast_form
broadcast_repeats_along_new_axes = refl

-- from rank 0
abbrev spread_scalar : FuncShape
spread_scalar = function (tensor 32 [] ∷ matrix 2 2 ∷ []) (matrix 2 2 ∷ []) (
    define 2 (matrix 2 2) (Broadcast (value 0) (value 1) (0 ∷ 1 ∷ []))
    ∷ perform (Return (values (2 ∷ [])))
    ∷ [])

broadcast_of_rank_zero_fills :
    meaning spread_scalar (table [] (6 ∷ []) ∷ table (2 ∷ 2 ∷ []) (0 ∷ 0 ∷ 0 ∷ 0 ∷ []) ∷ [])
    ≡ Results (table (2 ∷ 2 ∷ []) (6 ∷ 6 ∷ 6 ∷ 6 ∷ []) ∷ [])
unfolding meaning run kind_meaning generic_result broadcast_form
broadcast_of_rank_zero_fills = refl

-- along an axis without extent
abbrev spread_nowhere : FuncShape
spread_nowhere = function (row 2 ∷ matrix 0 2 ∷ []) (matrix 0 2 ∷ []) (
    define 2 (matrix 0 2) (Broadcast (value 0) (value 1) (0 ∷ []))
    ∷ perform (Return (values (2 ∷ [])))
    ∷ [])

broadcast_along_no_extent_is_empty :
    meaning spread_nowhere (row_of (1 ∷ 2 ∷ []) ∷ table (0 ∷ 2 ∷ []) [] ∷ []) ≡ Results (table (0 ∷ 2 ∷ []) [] ∷ [])
unfolding meaning run kind_meaning generic_result broadcast_form
broadcast_along_no_extent_is_empty = refl
