-- What is known of a payload before it runs: whether it can trap, and its term where only some inputs are known.
use Rattle.std.specs.Prelude.{ℕ, ◌%◌, ◌^◌, ◌==◌, Bool, true, false, ◌&&◌, ◌||◌, List, [], ◌∷◌, ◌++◌, Option, Some, None, if◌then◌else◌, slice_get}
use Rattle.std.specs.List.{list_any}
use Rattle.std.specs.Option.{option_map, option_and_then}
use Rattle.payload_ops.specs.Bits.{reduce, signed_of, binary_of, compares}
use Rattle.mlir_base.specs.Types.{minus_one, bits_of}
use Rattle.payload_laws.specs.Combiners.{combining, neutral_of}
use Rattle.payload_ops.specs.Shape.{PayloadShape}
use Rattle.payload_ops.specs.Values.{arg_bits, bit_of}
use Rattle.payload_ops.specs.declared.kinds.BinOp.{BinOp}
use Rattle.payload_ops.specs.declared.kinds.BinOp.TheVariants.{Muli, Divsi, Divui, Remsi, Remui, Andi, Ori, Shli, Shrsi, Shrui}
use Rattle.payload_ops.specs.declared.kinds.Combiner.{Combiner}
use Rattle.mlir_base.specs.declared.types.ElemTy.{ElemTy}
use Rattle.payload_ops.specs.declared.step.Arg.{Arg}
use Rattle.payload_ops.specs.declared.step.Arg.TheVariants.{Input, Out, Step}
use Rattle.payload_ops.specs.declared.step.PayloadStep.{PayloadStep}
use Rattle.payload_ops.specs.declared.step.StepOp.{StepOp}
use Rattle.payload_ops.specs.declared.step.StepOp.TheVariants.{Const, Index, Captured, Linear, Binary, Compare, Select, SignExtend, ZeroExtend, Truncate, IndexCast}

-- the constant that an argument names, where it names a `Const` step
abbrev pub constant_in : StepOp → Option ℕ
constant_in (Const n) = Some n
constant_in _ = None

abbrev pub constant_of : List PayloadStep → Arg → Option ℕ
constant_of steps (Input k) = None
constant_of steps Out = None
constant_of steps (Step k) = option_and_then (λ (s : PayloadStep). constant_in s.op) (slice_get steps k)

-- a divisor of w bits with which an operation may trap: none that is known, 0, or -1 where the quotient is signed
abbrev pub divisor_may_trap : BinOp → ℕ → Option ℕ → Bool
divisor_may_trap op w None = true
divisor_may_trap Divsi w (Some b) = (b == 0) || (b == minus_one w)
divisor_may_trap op w (Some b) = b == 0

abbrev pub divides : BinOp → Bool
divides Divsi = true
divides Divui = true
divides Remsi = true
divides Remui = true
divides _ = false

abbrev pub op_may_trap : List PayloadStep → ElemTy → StepOp → Bool
op_may_trap steps t (Binary op a b) = divides op && divisor_may_trap op (bits_of t) (constant_of steps b)
op_may_trap steps t _ = false

abbrev pub may_trap : PayloadShape → Bool
may_trap p = list_any (λ (s : PayloadStep). op_may_trap p.steps s.ty s.op) p.steps

-- an argument where only some inputs are known: `pads` has the known ones, and `done` what is known of the earlier steps
abbrev pub known_arg : List (Option ℕ) → List (Option ℕ) → Arg → Option ℕ
known_arg pads done (Input k) = option_and_then (λ v. v) (slice_get pads k)
known_arg pads done Out = None
known_arg pads done (Step k) = option_and_then (λ v. v) (slice_get done k)

-- v where the test holds
abbrev pub where_true : Bool → ℕ → Option ℕ
where_true true v = Some v
where_true false v = None

-- an operation with one known argument: a known first one, and a known second one
abbrev pub known_first : BinOp → ℕ → ℕ → Option ℕ
known_first Muli w a = where_true (a == 0) 0
known_first Andi w a = where_true (a == 0) 0
known_first Ori w a = where_true (a == minus_one w) a
known_first Shli w a = where_true (a == 0) 0
known_first Shrsi w a = where_true (a == 0) 0
known_first Shrui w a = where_true (a == 0) 0
known_first _ w a = None

abbrev pub known_second : BinOp → ℕ → ℕ → Option ℕ
known_second Muli w b = where_true (b == 0) 0
known_second Andi w b = where_true (b == 0) 0
known_second Ori w b = where_true (b == minus_one w) b
known_second _ w b = None

abbrev pub known_binary : BinOp → ℕ → Option ℕ → Option ℕ → Option ℕ
known_binary op w (Some a) (Some b) = binary_of op w a b
known_binary op w (Some a) None = known_first op w a
known_binary op w None (Some b) = known_second op w b
known_binary op w None None = None

-- the value where both are known and equal
abbrev pub agreed : Option ℕ → Option ℕ → Option ℕ
agreed (Some a) (Some b) = where_true (a == b) a
agreed _ _ = None

abbrev pub known_select : Option ℕ → Option ℕ → Option ℕ → Option ℕ
known_select (Some c) a b = if c == 0 then b else a
known_select None a b = agreed a b

abbrev pub known_compare : (ℕ → ℕ → Bool) → Option ℕ → Option ℕ → Option ℕ
known_compare test (Some a) (Some b) = Some (bit_of (test a b))
known_compare test _ _ = None

-- what is known of an operation whose result has type t
unfoldable pub known_op : (Arg → Option ℕ) → (Arg → ℕ) → ElemTy → StepOp → Option ℕ
known_op known bits t (Const n) = Some n
known_op known bits t (Index d) = None
known_op known bits t (Captured k) = None
known_op known bits t (Linear constant terms) = None
known_op known bits t (Binary op a b) = known_binary op (bits_of t) (known a) (known b)
known_op known bits t (Compare p a b) = known_compare (compares p (bits a)) (known a) (known b)
known_op known bits t (Select c a b) = known_select (known c) (known a) (known b)
known_op known bits t (SignExtend a) = option_map (λ v. reduce (bits_of t) (signed_of (bits a) v)) (known a)
known_op known bits t (ZeroExtend a) = known a
known_op known bits t (Truncate a) = option_map (λ v. v % 2 ^ bits_of t) (known a)
known_op known bits t (IndexCast a) = option_map (λ v. reduce (bits_of t) (signed_of (bits a) v)) (known a)

-- what is known of each step
abbrev pub known_steps : PayloadShape → List (Option ℕ) → List PayloadStep → List (Option ℕ) → List (Option ℕ)
known_steps p pads [] done = done
known_steps p pads (s ∷ rest) done = known_steps p pads rest (done ++ known_op (known_arg pads done) (arg_bits p) s.ty s.op ∷ [])

-- the same value
abbrev pub is_known_as : ℕ → Option ℕ → Bool
is_known_as v None = false
is_known_as v (Some k) = k == v

-- the term is known and is the combiner's neutral element; false where there is no combiner
abbrev pub term_is_neutral : PayloadShape → List (Option ℕ) → Option (Combiner × Arg) → Bool
term_is_neutral p pads None = false
term_is_neutral p pads (Some found) = is_known_as (neutral_of found.0 (bits_of p.out)) (known_arg pads (known_steps p pads p.steps []) found.1)

abbrev pub is_neutral_under : PayloadShape → List (Option ℕ) → Bool
is_neutral_under p pads = term_is_neutral p pads (combining p.steps p.yielded)
