-- A payload that names no dimension with an offset stays as it is.
use Rattle.std.proofs.Common.{◌≡◌, ℕ, ◌+◌, ◌%◌, ◌^◌, ◌==◌, if◌then◌else◌, ℤ, pos, ◌+ℤ◌, ◌*ℤ◌, List, [], ◌∷◌, ◌++◌, get_or, Some, refl, ap, ◌∙◌, arith}
use Rattle.std.specs.Prelude.{option_map, option_and_then}
use Rattle.payload_ops.specs.Bits.{reduce, binary_of, compares, signed_of}
use Rattle.mlir_base.specs.Types.{bits_of}
use Rattle.payload_ops.specs.Shape.{PayloadShape}
use Rattle.payload_ops.specs.Values.{Given, arg_value, arg_bits, terms_sum, bit_of, op_value, step_value, steps_values, payload_value}
use Rattle.mlir_base.specs.declared.types.ElemTy.{ElemTy}
use Rattle.payload_ops.specs.declared.step.Arg.{Arg}
use Rattle.payload_ops.specs.declared.step.Arg.TheVariants.{Input, Out, Step}
use Rattle.payload_ops.specs.declared.step.PayloadStep.{PayloadStep}
use Rattle.payload_ops.specs.declared.step.StepOp.{StepOp}
use Rattle.payload_ops.specs.declared.step.StepOp.TheVariants.{Const, Index, Captured, Linear, Binary, Compare, Select, SignExtend, ZeroExtend, Truncate, IndexCast}
use Rattle.payload_laws.proofs.Fitted.{and_then_same}
use Rattle.mlir_meaning.specs.Grids.{plus, Fits, Each}
use Rattle.region_laws.specs.Operands.{IsMoved}
use Rattle.region_laws.specs.Shifts.{Stays}
use Rattle.point_laws.proofs.Tables.{get_or-plus}

module _ (payload : PayloadShape) (p q os outer ins : List ℕ) (out : ℕ) (moved : (d : ℕ) → get_or q d 0 ≡ get_or p d 0 + get_or os d 0) where
  abbrev at_point : List ℕ → Given
  at_point x = record { point = x; outer = outer; ins = ins; out = out }

  arg_still : (done : List ℕ) (a : Arg) → arg_value (at_point p) done a ≡ arg_value (at_point q) done a
  arg_still done (Input i) = refl
  arg_still done Out = refl
  arg_still done (Step i) = refl

  sum_still : (done : List ℕ) (ts : List (Arg × ℤ)) → terms_sum (arg_value (at_point p) done) ts ≡ terms_sum (arg_value (at_point q) done) ts
  sum_still done [] = refl
  sum_still done (t ∷ ts) = λ j. (t.1 *ℤ pos (arg_still done t.0 j)) +ℤ sum_still done ts j

  op_still : (done : List ℕ) (ty : ElemTy) (op : StepOp) → Stays os op →
      op_value (arg_value (at_point p) done) (arg_bits payload) p outer ty op ≡ op_value (arg_value (at_point q) done) (arg_bits payload) q outer ty op
  unfolding op_value
  op_still done ty (Const i) s = refl
  op_still done ty (Index d) s = let same : get_or p d 0 ≡ get_or q d 0 = omega (arith, moved d, s) in λ j. Some (same j % 2 ^ 64)
  op_still done ty (Captured i) s = refl
  op_still done ty (Linear z ts) s = λ j. Some (reduce 64 (z +ℤ sum_still done ts j))
  op_still done ty (Binary op a b) s = λ j. binary_of op (bits_of ty) (arg_still done a j) (arg_still done b j)
  op_still done ty (Compare f a b) s = λ j. Some (bit_of (compares f (arg_bits payload a) (arg_still done a j) (arg_still done b j)))
  op_still done ty (Select x a b) s = λ j. Some (if arg_still done x j == 0 then arg_still done b j else arg_still done a j)
  op_still done ty (SignExtend a) s = λ j. Some (reduce (bits_of ty) (signed_of (arg_bits payload a) (arg_still done a j)))
  op_still done ty (ZeroExtend a) s = λ j. Some (arg_still done a j)
  op_still done ty (Truncate a) s = λ j. Some (arg_still done a j % 2 ^ bits_of ty)
  op_still done ty (IndexCast a) s = λ j. Some (reduce (bits_of ty) (signed_of (arg_bits payload a) (arg_still done a j)))

  steps_still : (ss : List PayloadStep) (done : List ℕ) → Each (λ (s : PayloadStep). Stays os s.op) ss → steps_values payload (at_point p) ss done ≡ steps_values payload (at_point q) ss done
  steps_still [] done s = refl
  steps_still (x ∷ ss) done s =
      ap (option_and_then (λ v. steps_values payload (at_point p) ss (done ++ v ∷ []))) (op_still done x.ty x.op s.0)
      ∙ and_then_same (step_value payload (at_point q) done x) _ _ (λ v _. steps_still ss (done ++ v ∷ []) s.1)

  payload_still : Each (λ (s : PayloadStep). Stays os s.op) payload.steps → payload_value payload (at_point p) ≡ payload_value payload (at_point q)
  payload_still s = λ j. option_map (λ l. arg_still l payload.yielded j) (steps_still payload.steps [] s j)

pub still_is : (payload : PayloadShape) (box os ns outer : List ℕ) → Fits box os ns → Each (λ (s : PayloadStep). Stays os s.op) payload.steps → IsMoved os ns payload outer payload outer
still_is payload box os ns outer fits stays p b ins out =
    payload_still payload p (plus p os) os outer ins out (λ d. get_or-plus box os ns p d fits b) stays
