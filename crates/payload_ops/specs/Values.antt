-- What a payload gives at a point (Linalg manual, "linalg.generic": the region, and "linalg.index").
use Rattle.std.specs.Prelude.{ℕ, ◌%◌, ◌^◌, ◌==◌, length, ℤ, pos, ◌+ℤ◌, ◌*ℤ◌, Bool, true, false, ◌&&◌, nat_lt, IsTrue, List, [], ◌∷◌, ◌++◌, Option, Some, if◌then◌else◌, slice_index_or}
use Rattle.std.specs.List.{list_all}
use Rattle.std.specs.Option.{option_map, option_and_then, option_map_or}
use Rattle.payload_ops.specs.Bits.{reduce, signed_of, binary_of, compares}
use Rattle.mlir_base.specs.Types.{bits_of, is_value}
use Rattle.payload_ops.specs.Payload.{arg_type}
use Rattle.payload_ops.specs.Shape.{PayloadShape}
use Rattle.mlir_base.specs.declared.types.ElemTy.{ElemTy}
use Rattle.payload_ops.specs.declared.step.Arg.{Arg}
use Rattle.payload_ops.specs.declared.step.Arg.TheVariants.{Input, Out, Step}
use Rattle.payload_ops.specs.declared.step.PayloadStep.{PayloadStep}
use Rattle.payload_ops.specs.declared.step.StepOp.{StepOp}
use Rattle.payload_ops.specs.declared.step.StepOp.TheVariants.{Const, Index, Captured, Linear, Binary, Compare, Select, SignExtend, ZeroExtend, Truncate, IndexCast}

-- what a payload is given: the coordinates of the point, the captured values, the inputs' elements, and the output's
pub record Given : Type 0 where
  pub point : List ℕ
  pub outer : List ℕ
  pub ins : List ℕ
  pub out : ℕ

-- the value of an argument, where `done` are the values of the earlier steps
abbrev pub arg_value : Given → List ℕ → Arg → ℕ
arg_value g done (Input k) = slice_index_or g.ins k 0
arg_value g done Out = g.out
arg_value g done (Step k) = slice_index_or done k 0

-- the bits of an argument's type
abbrev pub arg_bits : PayloadShape → Arg → ℕ
arg_bits p a = option_map_or bits_of (arg_type p.ins p.out p.steps a) 0

-- the sum of coefficients times arguments
abbrev pub terms_sum : (Arg → ℕ) → List (Arg × ℤ) → ℤ
terms_sum value [] = pos 0
terms_sum value (t ∷ ts) = (t.1 *ℤ pos (value t.0)) +ℤ terms_sum value ts

-- 1 where it holds, else 0
abbrev pub bit_of : Bool → ℕ
bit_of true = 1
bit_of false = 0

-- the value of an operation whose result has type t, from the values and the bits of its arguments; None where it traps.
-- An `index` has 64 bits.
unfoldable pub op_value : (Arg → ℕ) → (Arg → ℕ) → List ℕ → List ℕ → ElemTy → StepOp → Option ℕ
op_value value bits point outer t (Const n) = Some n
op_value value bits point outer t (Index d) = Some (slice_index_or point d 0 % 2 ^ 64)
op_value value bits point outer t (Captured k) = Some (slice_index_or outer k 0 % 2 ^ 64)
op_value value bits point outer t (Linear constant terms) = Some (reduce 64 (constant +ℤ terms_sum value terms))
op_value value bits point outer t (Binary op a b) = binary_of op (bits_of t) (value a) (value b)
op_value value bits point outer t (Compare p a b) = Some (bit_of (compares p (bits a) (value a) (value b)))
op_value value bits point outer t (Select c a b) = Some (if value c == 0 then value b else value a)
op_value value bits point outer t (SignExtend a) = Some (reduce (bits_of t) (signed_of (bits a) (value a)))
op_value value bits point outer t (ZeroExtend a) = Some (value a)
op_value value bits point outer t (Truncate a) = Some (value a % 2 ^ bits_of t)
op_value value bits point outer t (IndexCast a) = Some (reduce (bits_of t) (signed_of (bits a) (value a)))

-- the value of the next step
abbrev pub step_value : PayloadShape → Given → List ℕ → PayloadStep → Option ℕ
step_value p g done s = op_value (arg_value g done) (arg_bits p) g.point g.outer s.ty s.op

-- the values of all steps, also of one that nothing uses; None where one traps
abbrev pub steps_values : PayloadShape → Given → List PayloadStep → List ℕ → Option (List ℕ)
steps_values p g [] done = Some done
steps_values p g (s ∷ rest) done = option_and_then (λ v. steps_values p g rest (done ++ v ∷ [])) (step_value p g done s)

-- what the output's element becomes; None is the division trap
abbrev pub payload_value : PayloadShape → Given → Option ℕ
payload_value p g = option_map (λ done. arg_value g done p.yielded) (steps_values p g p.steps [])

-- the values fit the types, one for each
abbrev pub values_fit : List ElemTy → List ℕ → Bool
values_fit [] [] = true
values_fit [] (v ∷ vs) = false
values_fit (t ∷ ts) [] = false
values_fit (t ∷ ts) (v ∷ vs) = is_value t v && values_fit ts vs

-- the point has the coordinate, and the outer values the captured one, that an operation names
abbrev pub is_supplied : ℕ → ℕ → StepOp → Bool
is_supplied dims captured (Index d) = nat_lt d dims
is_supplied dims captured (Captured k) = nat_lt k captured
is_supplied dims captured _ = true

-- what is given fits the payload
abbrev pub given_fits : PayloadShape → Given → Bool
given_fits p g =
    values_fit p.ins g.ins && is_value p.out g.out && list_all (λ (s : PayloadStep). is_supplied (length g.point) (length g.outer) s.op) p.steps

abbrev pub IsGiven : PayloadShape → Given → Type 0
IsGiven p g = IsTrue (given_fits p g)
