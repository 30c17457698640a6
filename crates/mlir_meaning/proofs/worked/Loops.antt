-- Worked values of loops.
use Rattle.std.proofs.Common.{◌≡◌, ℕ, pos, negsuc, List, [], ◌∷◌}
use Rattle.payload_ops.specs.Bits.{reduce, signed_of, on_values}
use Rattle.payload_ops.specs.Values.{op_value}
use Rattle.payload_ops.specs.declared.kinds.BinOp.TheVariants.{Addi, Divui}
use Rattle.mlir_base.specs.declared.types.ElemTy.TheVariants.{Int}
use Rattle.payload_ops.specs.declared.step.Arg.TheVariants.{Input, Step}
use Rattle.payload_ops.specs.declared.step.StepOp.TheVariants.{Binary}
use Rattle.mlir_ir.specs.declared.tree.Extent.TheVariants.{Any}
use Rattle.mlir_ir.specs.declared.tree.Idx.TheVariants.{Literal, Value}
use Rattle.mlir_ir.specs.declared.tree.Iter.TheVariants.{Parallel}
use Rattle.mlir_ir.specs.declared.tree.OpKind.{Constant, Apply, Least, Empty, ExtractSlice, InsertSlice, Generic, Yield, ParallelInsert, Return}
use Rattle.mlir_ir.specs.declared.tree.Op.{Op}
use Rattle.mlir_meaning.specs.declared.answer.Answer.TheVariants.{Results, Fails}
use Rattle.mlir_meaning.specs.declared.answer.Fault.TheVariants.{Division}
use Rattle.mlir_meaning.specs.Loops.{for_meaning, forall_meaning}
use Rattle.mlir_meaning.specs.Meaning.{constant_of, kind_meaning, run, meaning}
use Rattle.mlir_meaning.specs.Moves.{slice_of, insert_into, empty_of}
use Rattle.mlir_meaning.specs.Structured.{generic_result}
use Rattle.mlir_meaning.specs.Contexts.{ForLoop, ForallLoop, for_op, forall_op}
use Rattle.mlir_meaning.proofs.worked.Around.{AroundFor, AroundForall, counted, parallel, with_for, with_forall, for_gives, forall_gives, for_gives_by, for_first, forall_first, runs_for, runs_forall}
use Rattle.mlir_meaning.proofs.worked.Build.{value, values, open_tensor, row, matrix, expr, affine, one_axis, step, payload, define, perform, carry, index, table, row_of}

-- FOR

-- sums in tiles of two, the last of one
abbrev ragged_body : List Op
ragged_body =
    define 9 index (Least (affine 1 (expr (pos 3) ((0, negsuc 0) ∷ []) ∷ expr (pos 2) [] ∷ [])) (values (7 ∷ [])))
    ∷ define 10 (open_tensor 32 (Any ∷ [])) (ExtractSlice (value 0) (Value (value 7) ∷ []) (Value (value 9) ∷ []))
    ∷ define 11 (open_tensor 32 (Any ∷ [])) (ExtractSlice (value 1) (Value (value 7) ∷ []) (Value (value 9) ∷ []))
    ∷ define 12 (open_tensor 32 (Any ∷ [])) (ExtractSlice (value 8) (Value (value 7) ∷ []) (Value (value 9) ∷ []))
    ∷ define 13 (open_tensor 32 (Any ∷ [])) (Generic (one_axis ∷ one_axis ∷ one_axis ∷ []) (Parallel ∷ []) (values
    (10 ∷ 11 ∷ [])) (value 12) [] (payload (32 ∷ 32 ∷ []) 32 (step (Int 32) (Binary Addi (Input 0) (Input 1))
    ∷ []) (Step 0)))
    ∷ define 14 (row 3) (InsertSlice (value 13) (value 8) (Value (value 7) ∷ []) (Value (value 9) ∷ []))
    ∷ perform (Yield (values (14 ∷ [])))
    ∷ []

abbrev ragged : AroundFor
ragged = record {
  params = row 3 ∷ row 3 ∷ [];
  results = row 3 ∷ [];
  before =
      define 2 (row 3) (Empty [])
      ∷ define 3 index (Constant (0 ∷ []))
      ∷ define 4 index (Constant (3 ∷ []))
      ∷ define 5 index (Constant (2 ∷ []))
      ∷ [];
  loop = counted ((6, row 3) ∷ []) 7 3 4 5 (carry 8 (row 3) 2 ∷ []);
  body = ragged_body;
  after = perform (Return (values (6 ∷ []))) ∷ [];
}

for_over_ragged_tiles_sums_all :
    meaning (with_for ragged) (row_of (1 ∷ 2 ∷ 3 ∷ []) ∷ row_of (2147483647 ∷ 0 ∷ 4294967291 ∷ []) ∷ [])
    ≡ Results (row_of (2147483648 ∷ 2 ∷ 4294967294 ∷ []) ∷ [])
unfolding meaning run kind_meaning constant_of empty_of slice_of insert_into generic_result op_value on_values for_meaning reduce signed_of
for_over_ragged_tiles_sums_all = for_gives ragged (row_of (1 ∷ 2 ∷ 3 ∷ []) ∷ row_of (2147483647 ∷ 0 ∷ 4294967291
    ∷ []) ∷ [])

-- as many inner turns as the number of the outer one, which then yields in the other order
abbrev nested_inner_body : List Op
nested_inner_body =
    define 15 (row 1) (Generic (one_axis ∷ one_axis ∷ one_axis ∷ []) (Parallel ∷ []) (values (13 ∷ 14 ∷ []))
    (value 13) [] (payload (32 ∷ 32 ∷ []) 32 (step (Int 32) (Binary Addi (Input 0) (Input 1)) ∷ []) (Step 0)))
    ∷ perform (Yield (values (14 ∷ 15 ∷ [])))
    ∷ []

abbrev nested_inner : ForLoop
nested_inner = counted ((10, row 1) ∷ (11, row 1) ∷ []) 12 2 7 4 (carry 13 (row 1) 8 ∷ carry 14 (row 1) 9 ∷ [])

abbrev nested_rest : List Op
nested_rest = perform (Yield (values (11 ∷ 10 ∷ []))) ∷ []

abbrev nested_body : List Op
nested_body = for_op nested_inner nested_inner_body ∷ nested_rest

abbrev nested : AroundFor
nested = record {
  params = row 1 ∷ row 1 ∷ [];
  results = row 1 ∷ row 1 ∷ [];
  before =
      define 2 index (Constant (0 ∷ []))
      ∷ define 3 index (Constant (3 ∷ []))
      ∷ define 4 index (Constant (1 ∷ []))
      ∷ [];
  loop = counted ((5, row 1) ∷ (6, row 1) ∷ []) 7 2 3 4 (carry 8 (row 1) 0 ∷ carry 9 (row 1) 1 ∷ []);
  body = nested_body;
  after = perform (Return (values (5 ∷ 6 ∷ []))) ∷ [];
}

for_in_for_carries_both_values :
    meaning (with_for nested) (row_of (1 ∷ []) ∷ row_of (10 ∷ []) ∷ [])
    ≡ Results (row_of (13 ∷ []) ∷ row_of (12 ∷ []) ∷ [])
unfolding meaning run kind_meaning constant_of generic_result op_value on_values for_meaning reduce signed_of
for_in_for_carries_both_values =
    for_gives_by nested (runs_for nested_inner (run nested_inner_body) nested_rest)
    (λ i. λ s. for_first nested_inner nested_inner_body nested_rest s i) (row_of (1 ∷ []) ∷ row_of (10 ∷ []) ∷ [])

-- each turn, from a number to another by two, doubles what is carried
abbrev doubled_body : List Op
doubled_body =
    define 7 (row 1) (Generic (one_axis ∷ one_axis ∷ []) (Parallel ∷ []) (values (6 ∷ [])) (value 6) []
    (payload (32 ∷ []) 32 (step (Int 32) (Binary Addi (Input 0) (Input 0)) ∷ []) (Step 0)))
    ∷ perform (Yield (values (7 ∷ [])))
    ∷ []

abbrev doubled : ℕ → ℕ → AroundFor
doubled lower upper = record {
  params = row 1 ∷ [];
  results = row 1 ∷ [];
  before =
      define 1 index (Constant (lower ∷ []))
      ∷ define 2 index (Constant (upper ∷ []))
      ∷ define 3 index (Constant (2 ∷ []))
      ∷ [];
  loop = counted ((4, row 1) ∷ []) 5 1 2 3 (carry 6 (row 1) 0 ∷ []);
  body = doubled_body;
  after = perform (Return (values (4 ∷ []))) ∷ [];
}

for_counts_by_its_step : meaning (with_for (doubled 1 6)) (row_of (3 ∷ []) ∷ []) ≡ Results (row_of (24 ∷ []) ∷ [])
unfolding meaning run kind_meaning constant_of generic_result op_value on_values for_meaning reduce signed_of
for_counts_by_its_step = for_gives (doubled 1 6) (row_of (3 ∷ []) ∷ [])

for_without_turns_gives_its_starts :
    meaning (with_for (doubled 6 6)) (row_of (3 ∷ []) ∷ []) ≡ Results (row_of (3 ∷ []) ∷ [])
unfolding meaning run kind_meaning constant_of generic_result op_value on_values for_meaning reduce signed_of
for_without_turns_gives_its_starts = for_gives (doubled 6 6) (row_of (3 ∷ []) ∷ [])

for_past_its_upper_bound_makes_no_turn :
    meaning (with_for (doubled 7 6)) (row_of (3 ∷ []) ∷ []) ≡ Results (row_of (3 ∷ []) ∷ [])
unfolding meaning run kind_meaning constant_of generic_result op_value on_values for_meaning reduce signed_of
for_past_its_upper_bound_makes_no_turn = for_gives (doubled 7 6) (row_of (3 ∷ []) ∷ [])

-- a loop without carried values, whose body divides
abbrev only_quotients_body : List Op
only_quotients_body =
    define 6 (row 1) (ExtractSlice (value 0) (Value (value 5) ∷ []) (Literal (pos 1) ∷ []))
    ∷ define 7 (row 1) (ExtractSlice (value 1) (Value (value 5) ∷ []) (Literal (pos 1) ∷ []))
    ∷ define 8 (row 1) (Generic (one_axis ∷ one_axis ∷ one_axis ∷ []) (Parallel ∷ []) (values (6 ∷ 7 ∷ []))
    (value 6) [] (payload (32 ∷ 32 ∷ []) 32 (step (Int 32) (Binary Divui (Input 0) (Input 1)) ∷ []) (Step 0)))
    ∷ perform (Yield [])
    ∷ []

abbrev only_quotients : AroundFor
only_quotients = record {
  params = row 2 ∷ row 2 ∷ [];
  results = row 2 ∷ [];
  before =
      define 2 index (Constant (0 ∷ []))
      ∷ define 3 index (Constant (2 ∷ []))
      ∷ define 4 index (Constant (1 ∷ []))
      ∷ [];
  loop = counted [] 5 2 3 4 [];
  body = only_quotients_body;
  after = perform (Return (values (0 ∷ []))) ∷ [];
}

for_without_carried_values_changes_nothing :
    meaning (with_for only_quotients) (row_of (8 ∷ 9 ∷ []) ∷ row_of (2 ∷ 3 ∷ []) ∷ [])
    ≡ Results (row_of (8 ∷ 9 ∷ []) ∷ [])
unfolding meaning run kind_meaning constant_of slice_of generic_result op_value on_values for_meaning reduce signed_of
for_without_carried_values_changes_nothing = for_gives only_quotients (row_of (8 ∷ 9 ∷ []) ∷ row_of (2 ∷ 3 ∷ []) ∷ [])

trap_in_the_body_of_a_for_traps :
    meaning (with_for only_quotients) (row_of (8 ∷ 9 ∷ []) ∷ row_of (2 ∷ 0 ∷ []) ∷ []) ≡ Fails Division
unfolding meaning run kind_meaning constant_of slice_of generic_result op_value on_values for_meaning reduce signed_of
trap_in_the_body_of_a_for_traps = for_gives only_quotients (row_of (8 ∷ 9 ∷ []) ∷ row_of (2 ∷ 0 ∷ []) ∷ [])

-- FORALL

-- element 3 - i of each shared output goes to element i of the other
abbrev swapped_body : List Op
swapped_body =
    define 10 index (Apply (affine 1 (expr (pos 3) ((0, negsuc 0) ∷ []) ∷ [])) (values (7 ∷ [])))
    ∷ define 11 (row 1) (ExtractSlice (value 8) (Value (value 10) ∷ []) (Literal (pos 1) ∷ []))
    ∷ define 12 (row 1) (ExtractSlice (value 9) (Value (value 10) ∷ []) (Literal (pos 1) ∷ []))
    ∷ perform (ParallelInsert (value 12) (value 8) (Value (value 7) ∷ []) (Literal (pos 1) ∷ []))
    ∷ perform (ParallelInsert (value 11) (value 9) (Value (value 7) ∷ []) (Literal (pos 1) ∷ []))
    ∷ []

abbrev swapped : AroundForall
swapped = record {
  params = row 4 ∷ row 4 ∷ [];
  results = row 4 ∷ row 4 ∷ [];
  before =
      [];
  loop = parallel ((2, row 4) ∷ (3, row 4) ∷ []) (7 ∷ []) (Literal (pos 0) ∷ []) (Literal (pos 4) ∷ []) (Literal
      (pos 1) ∷ []) (carry 8 (row 4) 0 ∷ carry 9 (row 4) 1 ∷ []);
  body = swapped_body;
  after = perform (Return (values (2 ∷ 3 ∷ []))) ∷ [];
}

bodies_see_the_shared_outputs_as_they_start :
    meaning (with_forall swapped) (row_of (1 ∷ 2 ∷ 3 ∷ 4 ∷ []) ∷ row_of (5 ∷ 6 ∷ 7 ∷ 8 ∷ []) ∷ [])
    ≡ Results (row_of (8 ∷ 7 ∷ 6 ∷ 5 ∷ []) ∷ row_of (4 ∷ 3 ∷ 2 ∷ 1 ∷ []) ∷ [])
unfolding meaning run kind_meaning slice_of insert_into forall_meaning reduce signed_of
bodies_see_the_shared_outputs_as_they_start = forall_gives swapped (row_of (1 ∷ 2 ∷ 3 ∷ 4 ∷ []) ∷ row_of (5 ∷ 6 ∷ 7
    ∷ 8 ∷ []) ∷ [])

-- rows 1 and 3, and columns 0 and 1, at exchanged places
abbrev exchanged_body : List Op
exchanged_body =
    define 8 (matrix 1 1) (ExtractSlice (value 0) (Value (value 5) ∷ Value (value 6) ∷ []) (Literal (pos 1)
    ∷ Literal (pos 1) ∷ []))
    ∷ perform (ParallelInsert (value 8) (value 7) (Value (value 6) ∷ Value (value 5) ∷ []) (Literal (pos 1)
    ∷ Literal (pos 1) ∷ []))
    ∷ []

abbrev exchanged : AroundForall
exchanged = record {
  params = matrix 4 3 ∷ [];
  results = matrix 3 4 ∷ [];
  before =
      define 2 index (Constant (2 ∷ []))
      ∷ define 3 (matrix 3 4) (Empty [])
      ∷ [];
  loop = parallel ((9, matrix 3 4) ∷ []) (5 ∷ 6 ∷ []) (Literal (pos 1) ∷ Literal (pos 0) ∷ []) (Literal (pos 4)
      ∷ Value (value 2) ∷ []) (Literal (pos 2) ∷ Literal (pos 1) ∷ []) (carry 7 (matrix 3 4) 3 ∷ []);
  body = exchanged_body;
  after = perform (Return (values (9 ∷ []))) ∷ [];
}

forall_counts_from_its_bounds_by_its_steps :
    meaning (with_forall exchanged) (table (4 ∷ 3 ∷ []) (1 ∷ 2 ∷ 3 ∷ 4 ∷ 5 ∷ 6 ∷ 7 ∷ 8 ∷ 9 ∷ 10 ∷ 11 ∷ 12 ∷ []) ∷ [])
    ≡ Results (table (3 ∷ 4 ∷ []) (0 ∷ 4 ∷ 0 ∷ 10 ∷ 0 ∷ 5 ∷ 0 ∷ 11 ∷ 0 ∷ 0 ∷ 0 ∷ 0 ∷ []) ∷ [])
unfolding meaning run kind_meaning constant_of empty_of slice_of insert_into forall_meaning reduce signed_of
forall_counts_from_its_bounds_by_its_steps = forall_gives exchanged (table (4 ∷ 3 ∷ []) (1 ∷ 2 ∷ 3 ∷ 4 ∷ 5 ∷ 6 ∷ 7
    ∷ 8 ∷ 9 ∷ 10 ∷ 11 ∷ 12 ∷ []) ∷ [])

-- windows of two at each of three places
abbrev overlapping_body : List Op
overlapping_body =
    define 6 index (Apply (affine 1 (expr (pos 2) ((0, negsuc 0) ∷ []) ∷ [])) (values (2 ∷ [])))
    ∷ define 4 (row 2) (ExtractSlice (value 0) (Value (value 6) ∷ []) (Literal (pos 2) ∷ []))
    ∷ perform (ParallelInsert (value 4) (value 3) (Value (value 2) ∷ []) (Literal (pos 2) ∷ []))
    ∷ []

abbrev overlapping : AroundForall
overlapping = record {
  params = row 4 ∷ row 4 ∷ [];
  results = row 4 ∷ [];
  before =
      [];
  loop = parallel ((5, row 4) ∷ []) (2 ∷ []) (Literal (pos 0) ∷ []) (Literal (pos 3) ∷ []) (Literal (pos 1) ∷ [])
      (carry 3 (row 4) 1 ∷ []);
  body = overlapping_body;
  after = perform (Return (values (5 ∷ []))) ∷ [];
}

later_iteration_wins_where_insertions_overlap :
    meaning (with_forall overlapping) (row_of (1 ∷ 2 ∷ 3 ∷ 4 ∷ []) ∷ row_of (0 ∷ 0 ∷ 0 ∷ 0 ∷ []) ∷ [])
    ≡ Results (row_of (3 ∷ 2 ∷ 1 ∷ 2 ∷ []) ∷ [])
unfolding meaning run kind_meaning slice_of insert_into forall_meaning reduce signed_of
later_iteration_wins_where_insertions_overlap = forall_gives overlapping (row_of (1 ∷ 2 ∷ 3 ∷ 4 ∷ []) ∷ row_of (0
    ∷ 0 ∷ 0 ∷ 0 ∷ []) ∷ [])

-- a box without points on its second axis
abbrev no_iterations_body : List Op
no_iterations_body =
    define 6 (matrix 1 1) (ExtractSlice (value 0) (Value (value 2) ∷ Value (value 3) ∷ []) (Literal (pos 1)
    ∷ Literal (pos 1) ∷ []))
    ∷ perform (ParallelInsert (value 6) (value 4) (Value (value 2) ∷ Value (value 3) ∷ []) (Literal (pos 1)
    ∷ Literal (pos 1) ∷ []))
    ∷ []

abbrev no_iterations : AroundForall
no_iterations = record {
  params = matrix 2 2 ∷ matrix 2 2 ∷ [];
  results = matrix 2 2 ∷ [];
  before =
      [];
  loop = parallel ((5, matrix 2 2) ∷ []) (2 ∷ 3 ∷ []) (Literal (pos 0) ∷ Literal (pos 1) ∷ []) (Literal (pos 2)
      ∷ Literal (pos 1) ∷ []) (Literal (pos 1) ∷ Literal (pos 1) ∷ []) (carry 4 (matrix 2 2) 1 ∷ []);
  body = no_iterations_body;
  after = perform (Return (values (5 ∷ []))) ∷ [];
}

forall_without_iterations_gives_its_starts :
    meaning (with_forall no_iterations) (table (2 ∷ 2 ∷ []) (1 ∷ 2 ∷ 3 ∷ 4 ∷ []) ∷ table (2 ∷ 2 ∷ []) (5 ∷ 6 ∷ 7
    ∷ 8 ∷ []) ∷ [])
    ≡ Results (table (2 ∷ 2 ∷ []) (5 ∷ 6 ∷ 7 ∷ 8 ∷ []) ∷ [])
unfolding meaning run kind_meaning slice_of insert_into forall_meaning
forall_without_iterations_gives_its_starts = forall_gives no_iterations (table (2 ∷ 2 ∷ []) (1 ∷ 2 ∷ 3 ∷ 4 ∷ [])
    ∷ table (2 ∷ 2 ∷ []) (5 ∷ 6 ∷ 7 ∷ 8 ∷ []) ∷ [])

-- a forall whose body divides
abbrev quotients_at_once_body : List Op
quotients_at_once_body =
    define 6 (row 1) (ExtractSlice (value 0) (Value (value 4) ∷ []) (Literal (pos 1) ∷ []))
    ∷ define 7 (row 1) (ExtractSlice (value 1) (Value (value 4) ∷ []) (Literal (pos 1) ∷ []))
    ∷ define 8 (row 1) (Generic (one_axis ∷ one_axis ∷ one_axis ∷ []) (Parallel ∷ []) (values (6 ∷ 7 ∷ []))
    (value 6) [] (payload (32 ∷ 32 ∷ []) 32 (step (Int 32) (Binary Divui (Input 0) (Input 1)) ∷ []) (Step 0)))
    ∷ perform (ParallelInsert (value 8) (value 5) (Value (value 4) ∷ []) (Literal (pos 1) ∷ []))
    ∷ []

abbrev quotients_at_once : AroundForall
quotients_at_once = record {
  params = row 2 ∷ row 2 ∷ [];
  results = row 2 ∷ [];
  before =
      define 2 (row 2) (Empty [])
      ∷ [];
  loop = parallel ((3, row 2) ∷ []) (4 ∷ []) (Literal (pos 0) ∷ []) (Literal (pos 2) ∷ []) (Literal (pos 1) ∷ [])
      (carry 5 (row 2) 2 ∷ []);
  body = quotients_at_once_body;
  after = perform (Return (values (3 ∷ []))) ∷ [];
}

forall_inserts_what_its_bodies_compute :
    meaning (with_forall quotients_at_once) (row_of (8 ∷ 9 ∷ []) ∷ row_of (2 ∷ 3 ∷ []) ∷ [])
    ≡ Results (row_of (4 ∷ 3 ∷ []) ∷ [])
unfolding meaning run kind_meaning empty_of slice_of insert_into generic_result op_value on_values forall_meaning
forall_inserts_what_its_bodies_compute = forall_gives quotients_at_once (row_of (8 ∷ 9 ∷ []) ∷ row_of (2 ∷ 3 ∷ [])
    ∷ [])

trap_in_the_body_of_a_forall_traps :
    meaning (with_forall quotients_at_once) (row_of (8 ∷ 9 ∷ []) ∷ row_of (2 ∷ 0 ∷ []) ∷ []) ≡ Fails Division
unfolding meaning run kind_meaning empty_of slice_of insert_into generic_result op_value on_values forall_meaning
trap_in_the_body_of_a_forall_traps = forall_gives quotients_at_once (row_of (8 ∷ 9 ∷ []) ∷ row_of (2 ∷ 0 ∷ []) ∷ [])

-- each turn adds its own element to all, by a forall
abbrev forall_in_for_inner_body : List Op
forall_in_for_inner_body =
    define 11 (row 1) (ExtractSlice (value 6) (Value (value 9) ∷ []) (Literal (pos 1) ∷ []))
    ∷ define 12 (row 1) (ExtractSlice (value 0) (Value (value 5) ∷ []) (Literal (pos 1) ∷ []))
    ∷ define 13 (row 1) (Generic (one_axis ∷ one_axis ∷ one_axis ∷ []) (Parallel ∷ []) (values (11 ∷ 12 ∷ []))
    (value 11) [] (payload (32 ∷ 32 ∷ []) 32 (step (Int 32) (Binary Addi (Input 0) (Input 1)) ∷ []) (Step 0)))
    ∷ perform (ParallelInsert (value 13) (value 10) (Value (value 9) ∷ []) (Literal (pos 1) ∷ []))
    ∷ []

abbrev forall_in_for_inner : ForallLoop
forall_in_for_inner = parallel ((8, row 3) ∷ []) (9 ∷ []) (Literal (pos 0) ∷ []) (Literal (pos 3) ∷ []) (Literal
    (pos 1) ∷ []) (carry 10 (row 3) 6 ∷ [])

abbrev forall_in_for_rest : List Op
forall_in_for_rest = perform (Yield (values (8 ∷ []))) ∷ []

abbrev forall_in_for_body : List Op
forall_in_for_body = forall_op forall_in_for_inner forall_in_for_inner_body ∷ forall_in_for_rest

abbrev forall_in_for : AroundFor
forall_in_for = record {
  params = row 2 ∷ row 3 ∷ [];
  results = row 3 ∷ [];
  before =
      define 2 index (Constant (0 ∷ []))
      ∷ define 3 index (Constant (2 ∷ []))
      ∷ define 4 index (Constant (1 ∷ []))
      ∷ [];
  loop = counted ((7, row 3) ∷ []) 5 2 3 4 (carry 6 (row 3) 1 ∷ []);
  body = forall_in_for_body;
  after = perform (Return (values (7 ∷ []))) ∷ [];
}

forall_inside_for_begins_from_each_turn :
    meaning (with_for forall_in_for) (row_of (10 ∷ 100 ∷ []) ∷ row_of (1 ∷ 2 ∷ 3 ∷ []) ∷ [])
    ≡ Results (row_of (111 ∷ 112 ∷ 113 ∷ []) ∷ [])
unfolding meaning run kind_meaning constant_of slice_of insert_into generic_result op_value on_values for_meaning forall_meaning reduce signed_of
forall_inside_for_begins_from_each_turn =
    for_gives_by forall_in_for (runs_forall forall_in_for_inner (run forall_in_for_inner_body) forall_in_for_rest)
    (λ i. λ s. forall_first forall_in_for_inner forall_in_for_inner_body forall_in_for_rest s i) (row_of (10 ∷ 100
    ∷ []) ∷ row_of (1 ∷ 2 ∷ 3 ∷ []) ∷ [])
