-- The values of an integer type of w bits, their signed reading, and the operations on them (Arith manual).
-- A value is a number below 2^w. Every argument is read modulo 2^w, so that the laws ask for no range.
use Rattle.std.specs.Prelude.{◌≡◌, ℕ, ◌+◌, ◌-◌, ◌*◌, ◌/◌, ◌%◌, ◌^◌, max, min, ℤ, pos, ◌-ℤ◌, Bool, true, false, not, ◌&&◌, ◌||◌, nat_lt, nat_le, ◌==◌, Option, Some, None, Result, Ok, Err, if◌then◌else◌, unsigned_abs, int_lt, int_le, bit_and, bit_or, bit_xor}
use Rattle.std.specs.Int.{int_div_euclid, int_rem_euclid, int_max, int_min}
use Rattle.std.specs.Int.RustNames.{int_div, int_rem}
use Rattle.mlir_base.specs.Types.{least_signed, minus_one}
use Rattle.payload_ops.specs.declared.kinds.Division.{Division}
use Rattle.payload_ops.specs.declared.kinds.BinOp.{BinOp}
use Rattle.payload_ops.specs.declared.kinds.BinOp.TheVariants.{Addi, Subi, Muli, Divsi, Divui, Remsi, Remui, Andi, Ori, Xori, Shli, Shrsi, Shrui, Maxsi, Maxui, Minsi, Minui}
use Rattle.payload_ops.specs.declared.kinds.Predicate.{Predicate}
use Rattle.payload_ops.specs.declared.kinds.Predicate.TheVariants.{Eq, Ne, Slt, Sle, Sgt, Sge, Ult, Ule, Ugt, Uge}

-- the value of w bits that is congruent to z modulo 2^w
unfoldable pub reduce : ℕ → ℤ → ℕ
reduce w z = unsigned_abs (int_rem_euclid z (pos (2 ^ w)))

-- the number that the bits of v stand for in two's complement: v itself below 2^(w-1), and v - 2^w from there on
unfoldable pub signed_of : ℕ → ℕ → ℤ
signed_of w v = if nat_lt (v % 2 ^ w) (2 ^ (w - 1)) then pos (v % 2 ^ w) else pos (v % 2 ^ w) -ℤ pos (2 ^ w)

-- a division or remainder by 0 traps
abbrev pub unless : Bool → ℕ → Option ℕ
unless true v = None
unless false v = Some v

-- the signed quotient leaves the type where the least value is divided by -1; this product traps there too
abbrev pub quotient_traps : ℕ → ℕ → ℕ → Bool
quotient_traps w a b = (b == 0) || ((a == least_signed w) && (b == minus_one w))

-- a shift by w or more gives 0, or the sign fill; this is the product's own
abbrev pub shifted_left : ℕ → ℕ → ℕ → ℕ
shifted_left w a b = if nat_lt b w then a * 2 ^ b % 2 ^ w else 0

abbrev pub shifted_right : ℕ → ℕ → ℕ → ℕ
shifted_right w a b = if nat_lt b w then a / 2 ^ b else 0

abbrev pub sign_shifted : ℕ → ℕ → ℕ → ℕ
sign_shifted w a b =
    if nat_lt b w then reduce w (int_div_euclid (signed_of w a) (pos (2 ^ b))) else if nat_lt a (least_signed w) then 0 else minus_one w

-- the operation on two values of w bits, and None where it traps
unfoldable pub on_values : BinOp → ℕ → ℕ → ℕ → Option ℕ
on_values Addi w a b = Some ((a + b) % 2 ^ w)
on_values Subi w a b = Some (reduce w (pos a -ℤ pos b))
on_values Muli w a b = Some (a * b % 2 ^ w)
on_values Divsi w a b = unless (quotient_traps w a b) (reduce w (int_div (signed_of w a) (signed_of w b)))
on_values Divui w a b = unless (b == 0) (a / b)
on_values Remsi w a b = unless (b == 0) (reduce w (int_rem (signed_of w a) (signed_of w b)))
on_values Remui w a b = unless (b == 0) (a % b)
on_values Andi w a b = Some (bit_and a b)
on_values Ori w a b = Some (bit_or a b)
on_values Xori w a b = Some (bit_xor a b)
on_values Shli w a b = Some (shifted_left w a b)
on_values Shrsi w a b = Some (sign_shifted w a b)
on_values Shrui w a b = Some (shifted_right w a b)
on_values Maxsi w a b = Some (reduce w (int_max (signed_of w a) (signed_of w b)))
on_values Maxui w a b = Some (max a b)
on_values Minsi w a b = Some (reduce w (int_min (signed_of w a) (signed_of w b)))
on_values Minui w a b = Some (min a b)

abbrev pub binary_of : BinOp → ℕ → ℕ → ℕ → Option ℕ
binary_of op w a b = on_values op w (a % 2 ^ w) (b % 2 ^ w)

-- whether a comparison of two values of w bits holds (Arith manual, "arith.cmpi")
unfoldable pub compares : Predicate → ℕ → ℕ → ℕ → Bool
compares Eq w a b = a % 2 ^ w == b % 2 ^ w
compares Ne w a b = not (a % 2 ^ w == b % 2 ^ w)
compares Slt w a b = int_lt (signed_of w a) (signed_of w b)
compares Sle w a b = int_le (signed_of w a) (signed_of w b)
compares Sgt w a b = int_lt (signed_of w b) (signed_of w a)
compares Sge w a b = int_le (signed_of w b) (signed_of w a)
compares Ult w a b = nat_lt (a % 2 ^ w) (b % 2 ^ w)
compares Ule w a b = nat_le (a % 2 ^ w) (b % 2 ^ w)
compares Ugt w a b = nat_lt (b % 2 ^ w) (a % 2 ^ w)
compares Uge w a b = nat_le (b % 2 ^ w) (a % 2 ^ w)

-- the answer is the value, and `Division` where there is none
abbrev pub Gives : Option ℕ → Result ℕ Division → Type 0
Gives o (Ok v) = o ≡ Some v
Gives o (Err e) = o ≡ None
