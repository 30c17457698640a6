-- The numbers of a script (MLIR LangRef, "Common syntax"; Builtin dialect, "IntegerAttr").
use Rattle.std.specs.Prelude.{ℕ, ◌+◌, ◌*◌, ◌-◌, ◌^◌, zero, suc, Bool, nat_eq, nat_le, nat_lt, ℤ, pos, negsuc, List, [], ◌∷◌, Result, Ok, Err, Option, Some, None, if◌then◌else◌}
use Rattle.mlir_base.specs.Types.{minus_one, least_signed}
use Rattle.text_format.specs.Token.{TokenShape}
use Rattle.text_format.specs.Types.{width_of}
use Rattle.mlir_lex.specs.declared.fault.Fault.{Fault}
use Rattle.mlir_lex.specs.declared.fault.Fault.TheVariants.{Syntax, Number}
use Rattle.mlir_lex.specs.Chain.{and_then, demand, each}
use Rattle.script_syntax.specs.declared.tree.literals.Signed.{Signed}
use Rattle.script_syntax.specs.declared.tree.literals.PadValue.{PadValue}

-- the number that the digits go on to spell from n
abbrev pub number_from : ℕ → List ℕ → ℕ
number_from n [] = n
number_from n (b ∷ bs) = number_from (n * 10 + (b - 48)) bs

-- the number that digits spell
abbrev pub number_of : List ℕ → ℕ
number_of text = number_from 0 text

-- a number below 2^64
abbrev pub word_of : ℕ → Option ℕ
word_of n = if nat_lt n (2 ^ 64) then Some n else None

-- the place of a signed number is that of its sign
abbrev pub start_by : Option TokenShape → TokenShape → ℕ
start_by None digits = digits.start
start_by (Some minus) digits = minus.start

abbrev pub start_of : Signed → ℕ
start_of s = start_by s.minus s.digits

-- ---- sizes

-- the greatest size, dimension, or multiple
abbrev pub most_size : ℕ
most_size = 1048576

abbrev pub is_size : Option TokenShape → ℕ → Bool
is_size None n = nat_le n most_size
is_size (Some minus) n = nat_eq n 0

-- a size, a dimension, an entry of an order, or a multiple: from 0 to 1,048,576
abbrev pub size_of : Signed → Result ℕ Fault
size_of s = and_then (demand (is_size s.minus (number_of s.digits.text)) (Number (start_of s) (start_of s))) (λ _. Ok (number_of s.digits.text))

abbrev pub sizes_of : List Signed → Result (List ℕ) Fault
sizes_of ss = each size_of ss

-- ---- padding values

abbrev pub minus_of : ℕ → ℤ
minus_of zero = pos 0
minus_of (suc n) = negsuc n

abbrev pub signed_by : Option TokenShape → ℕ → ℤ
signed_by None n = pos n
signed_by (Some minus) n = minus_of n

-- a literal of iN lies from -2^(N-1) to 2^N - 1
abbrev pub is_literal : ℕ → Option TokenShape → ℕ → Bool
is_literal w None n = nat_le n (minus_one w)
is_literal w (Some minus) n = nat_le n (least_signed w)

abbrev pub value_with : Option ℕ → PadValue → Result (ℤ × ℕ) Fault
value_with None v = Err (Syntax v.ty.start)
value_with (Some w) v =
    and_then (demand (is_literal w v.value.minus (number_of v.value.digits.text)) (Number (start_of v.value) v.ty.start)) (λ _. Ok (signed_by v.value.minus (number_of v.value.digits.text), w))

-- a padding value and the width of its type
abbrev pub pad_value_of : PadValue → Result (ℤ × ℕ) Fault
pad_value_of v = value_with (width_of v.ty.text) v
