-- Payloads that join the output's element with a term, and so may be folded in any order and padded
-- (Linalg manual, "linalg.generic": reduction iterators).
use Rattle.std.specs.Prelude.{ℕ, suc, ◌-◌, ◌==◌, ℤ, Bool, true, false, not, ◌&&◌, List, [], take, drop, Option, Some, None, if◌then◌else◌, slice_get}
use Rattle.std.specs.List.{list_all}
use Rattle.std.specs.Option.{option_map, option_and_then}
use Rattle.mlir_base.specs.Types.{least_signed, minus_one}
use Rattle.payload_ops.specs.Shape.{PayloadShape}
use Rattle.payload_ops.specs.Values.{Given, arg_value, steps_values}
use Rattle.payload_ops.specs.declared.kinds.BinOp.{BinOp}
use Rattle.payload_ops.specs.declared.kinds.BinOp.TheVariants.{Addi, Muli, Andi, Ori, Xori, Maxsi, Maxui, Minsi, Minui}
use Rattle.payload_ops.specs.declared.kinds.Combiner.{Combiner}
use Rattle.payload_ops.specs.declared.kinds.Combiner.TheVariants.{Add, Mul, And, Or, Xor, MaxS, MaxU, MinS, MinU}
use Rattle.payload_ops.specs.declared.step.Arg.{Arg}
use Rattle.payload_ops.specs.declared.step.Arg.TheVariants.{Input, Out, Step}
use Rattle.payload_ops.specs.declared.step.PayloadStep.{PayloadStep}
use Rattle.payload_ops.specs.declared.step.StepOp.{StepOp}
use Rattle.payload_ops.specs.declared.step.StepOp.TheVariants.{Const, Index, Captured, Linear, Binary, Compare, Select, SignExtend, ZeroExtend, Truncate, IndexCast}

-- the combiner of an operation, where it is one
abbrev pub combiner_of_operation : BinOp → Option Combiner
combiner_of_operation Addi = Some Add
combiner_of_operation Muli = Some Mul
combiner_of_operation Andi = Some And
combiner_of_operation Ori = Some Or
combiner_of_operation Xori = Some Xor
combiner_of_operation Maxsi = Some MaxS
combiner_of_operation Maxui = Some MaxU
combiner_of_operation Minsi = Some MinS
combiner_of_operation Minui = Some MinU
combiner_of_operation _ = None

-- the value of w bits that changes none when it is joined
abbrev pub neutral_of : Combiner → ℕ → ℕ
neutral_of Add w = 0
neutral_of Mul w = 1
neutral_of And w = minus_one w
neutral_of Or w = 0
neutral_of Xor w = 0
neutral_of MaxS w = least_signed w
neutral_of MaxU w = 0
neutral_of MinS w = least_signed w - 1
neutral_of MinU w = minus_one w

-- the argument is neither the output's element nor step y
abbrev pub avoids : ℕ → Arg → Bool
avoids y (Input k) = true
avoids y Out = false
avoids y (Step k) = not (k == y)

abbrev pub op_avoids : ℕ → StepOp → Bool
op_avoids y (Const n) = true
op_avoids y (Index d) = true
op_avoids y (Captured k) = true
op_avoids y (Linear constant terms) = list_all (λ (t : Arg × ℤ). avoids y t.0) terms
op_avoids y (Binary op a b) = avoids y a && avoids y b
op_avoids y (Compare p a b) = avoids y a && avoids y b
op_avoids y (Select c a b) = avoids y c && avoids y a && avoids y b
op_avoids y (SignExtend a) = avoids y a
op_avoids y (ZeroExtend a) = avoids y a
op_avoids y (Truncate a) = avoids y a
op_avoids y (IndexCast a) = avoids y a

abbrev pub steps_avoid : ℕ → List PayloadStep → Bool
steps_avoid y steps = list_all (λ (s : PayloadStep). op_avoids y s.op) steps

-- the other argument, where exactly one is the output's element
abbrev pub other_than_out : Arg → Arg → Option Arg
other_than_out Out Out = None
other_than_out Out (Input k) = Some (Input k)
other_than_out Out (Step k) = Some (Step k)
other_than_out (Input k) Out = Some (Input k)
other_than_out (Step k) Out = Some (Step k)
other_than_out _ _ = None

-- an operation that joins the output's element with a term: its combiner and the term
abbrev pub joins : StepOp → Option (Combiner × Arg)
joins (Binary op a b) = option_and_then (λ c. option_map (λ t. (c, t)) (other_than_out a b)) (combiner_of_operation op)
joins _ = None

-- no step but step y names the output's element or step y
abbrev pub others_avoid : ℕ → List PayloadStep → Bool
others_avoid y steps = steps_avoid y (take y steps) && steps_avoid y (drop (suc y) steps)

-- the combiner and the term of a payload that yields step y
abbrev pub joins_at : List PayloadStep → ℕ → Option (Combiner × Arg)
joins_at steps y = option_and_then (λ (s : PayloadStep). if others_avoid y steps then joins s.op else None) (slice_get steps y)

abbrev pub combining : List PayloadStep → Arg → Option (Combiner × Arg)
combining steps (Input k) = None
combining steps Out = None
combining steps (Step y) = joins_at steps y

-- the combiner of a payload, where it has one
abbrev pub combiner_of : PayloadShape → Option Combiner
combiner_of p = option_map (λ (found : Combiner × Arg). found.0) (combining p.steps p.yielded)

-- the value of an argument after all steps; None where a step traps
abbrev pub value_after : PayloadShape → Given → Arg → Option ℕ
value_after p g a = option_map (λ done. arg_value g done a) (steps_values p g p.steps [])
