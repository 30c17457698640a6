-- What is stuck: only functions that don't verify are; and what just isn't.
use Rattle.std.proofs.Common.{◌≡◌, ℕ, pos, List, [], ◌∷◌, refl}
use Rattle.payload_ops.specs.Bits.{reduce, signed_of}
use Rattle.mlir_base.specs.declared.types.ElemTy.TheVariants.{Int}
use Rattle.mlir_ir.specs.Shape.{FuncShape}
use Rattle.mlir_ir.specs.declared.tree.Idx.TheVariants.{Literal}
use Rattle.mlir_ir.specs.declared.tree.OpKind.{Constant, Apply, Empty, Yield, ParallelInsert, Return}
use Rattle.mlir_ir.specs.declared.tree.Op.{Op}
use Rattle.mlir_ir.specs.declared.tree.Ty.TheVariants.{Scalar}
use Rattle.mlir_meaning.specs.declared.answer.Answer.TheVariants.{Results, Fails}
use Rattle.mlir_meaning.specs.declared.answer.Fault.TheVariants.{Stuck}
use Rattle.mlir_meaning.specs.Loops.{for_meaning, forall_meaning}
use Rattle.mlir_meaning.specs.Meaning.{constant_of, kind_meaning, run, meaning}
use Rattle.mlir_meaning.specs.Moves.{insert_into, empty_of}
use Rattle.mlir_meaning.proofs.worked.Around.{AroundFor, AroundForall, counted, parallel, with_for, with_forall, for_gives, forall_gives}
use Rattle.mlir_meaning.proofs.worked.Build.{value, values, row, expr, affine, define, perform, carry, function, index, row_of}

-- no terminator
abbrev unended : FuncShape
unended = function [] (row 1 ∷ []) (
    define 1 (row 1) (Empty [])
    ∷ [])

body_without_terminator_is_stuck : meaning unended [] ≡ Fails Stuck
unfolding meaning run kind_meaning empty_of
body_without_terminator_is_stuck = refl

-- an insertion outside of a `scf.forall`
abbrev out_of_place : FuncShape
out_of_place = function (row 1 ∷ []) (row 1 ∷ []) (
    perform (ParallelInsert (value 0) (value 0) (Literal (pos 0) ∷ []) (Literal (pos 1) ∷ []))
    ∷ perform (Return (values (0 ∷ [])))
    ∷ [])

insertion_outside_a_forall_is_stuck : meaning out_of_place (row_of (6 ∷ []) ∷ []) ≡ Fails Stuck
unfolding meaning run kind_meaning insert_into
insertion_outside_a_forall_is_stuck = refl

-- a scalar result
abbrev scalar_result : FuncShape
scalar_result = function [] (Scalar (Int 32) ∷ []) (
    define 1 (Scalar (Int 32)) (Constant (6 ∷ []))
    ∷ perform (Return (values (1 ∷ [])))
    ∷ [])

result_that_is_no_tensor_is_stuck : meaning scalar_result [] ≡ Fails Stuck
unfolding meaning run kind_meaning constant_of
result_that_is_no_tensor_is_stuck = refl

-- a loop of so many turns, whose body has no terminator
abbrev unended_loop : ℕ → AroundFor
unended_loop turns = record {
  params = row 1 ∷ [];
  results = row 1 ∷ [];
  before =
      define 1 index (Constant (0 ∷ []))
      ∷ define 2 index (Constant (turns ∷ []))
      ∷ define 3 index (Constant (1 ∷ []))
      ∷ [];
  loop = counted ((6, row 1) ∷ []) 4 1 2 3 (carry 5 (row 1) 0 ∷ []);
  body = [];
  after = perform (Return (values (6 ∷ []))) ∷ [];
}

turn_without_terminator_is_stuck : meaning (with_for (unended_loop 1)) (row_of (6 ∷ []) ∷ []) ≡ Fails Stuck
unfolding meaning run kind_meaning constant_of for_meaning reduce signed_of
turn_without_terminator_is_stuck = for_gives (unended_loop 1) (row_of (6 ∷ []) ∷ [])

loop_without_turns_is_not_stuck :
    meaning (with_for (unended_loop 0)) (row_of (6 ∷ []) ∷ []) ≡ Results (row_of (6 ∷ []) ∷ [])
unfolding meaning run kind_meaning constant_of for_meaning reduce signed_of
loop_without_turns_is_not_stuck = for_gives (unended_loop 0) (row_of (6 ∷ []) ∷ [])

-- a `scf.forall` whose body yields
abbrev yielding_forall_body : List Op
yielding_forall_body =
    perform (Yield (values (0 ∷ [])))
    ∷ []

abbrev yielding_forall : AroundForall
yielding_forall = record {
  params = row 1 ∷ [];
  results = row 1 ∷ [];
  before =
      [];
  loop = parallel ((1, row 1) ∷ []) (2 ∷ []) (Literal (pos 0) ∷ []) (Literal (pos 1) ∷ []) (Literal (pos 1) ∷ [])
      (carry 3 (row 1) 0 ∷ []);
  body = yielding_forall_body;
  after = perform (Return (values (1 ∷ []))) ∷ [];
}

forall_that_yields_is_stuck : meaning (with_forall yielding_forall) (row_of (6 ∷ []) ∷ []) ≡ Fails Stuck
unfolding meaning run kind_meaning forall_meaning
forall_that_yields_is_stuck = forall_gives yielding_forall (row_of (6 ∷ []) ∷ [])

-- twice an index
abbrev doubled_index : ℕ → FuncShape
doubled_index n = function (row 1 ∷ []) (row 1 ∷ []) (
    define 1 index (Constant (n ∷ []))
    ∷ define 2 index (Apply (affine 1 (expr (pos 0) ((0, pos 2) ∷ []) ∷ [])) (values (1 ∷ [])))
    ∷ perform (Return (values (0 ∷ [])))
    ∷ [])

index_of_two_to_the_62 : meaning (doubled_index 2305843009213693952) (row_of (6 ∷ []) ∷ [])
    ≡ Results (row_of (6 ∷ []) ∷ [])
unfolding meaning run kind_meaning constant_of reduce signed_of
index_of_two_to_the_62 = refl

index_past_two_to_the_62_is_stuck : meaning (doubled_index 2305843009213693953) (row_of (6 ∷ []) ∷ []) ≡ Fails Stuck
unfolding meaning run kind_meaning constant_of reduce signed_of
index_past_two_to_the_62_is_stuck = refl

-- no results
abbrev no_results : FuncShape
no_results = function [] [] (perform (Return []) ∷ [])

return_of_nothing_gives_no_tensor : meaning no_results [] ≡ Results []
unfolding meaning run kind_meaning
return_of_nothing_gives_no_tensor = refl
