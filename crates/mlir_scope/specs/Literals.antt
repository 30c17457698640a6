-- Integer literals (MLIR Builtin dialect, "IntegerAttr"; LangRef, "Common syntax": decimal literals).
use Rattle.std.specs.Prelude.{◌≡◌, ◌≤◌, ℕ, ◌+◌, ◌*◌, ◌-◌, ◌^◌, ℤ, pos, ◌-ℤ◌, Bool, true, false, ◌&&◌, ◌||◌, List, [], ◌∷◌, Result, Ok, Err, Option, Some, None, if◌then◌else◌, nat_le, codes}
use Rattle.std.specs.Str.{bytes_eq}
use Rattle.mlir_base.specs.declared.types.ElemTy.{ElemTy}
use Rattle.mlir_base.specs.declared.types.ElemTy.TheVariants.{Int, Index}
use Rattle.payload_ops.specs.Bits.{reduce}
use Rattle.mlir_base.specs.Types.{bits_of, is_value}
use Rattle.text_format.specs.Token.{TokenShape}
use Rattle.text_format.specs.Types.{element_of}
use Rattle.mlir_syntax.specs.declared.tree.literals.Sign.{Sign}
use Rattle.mlir_syntax.specs.declared.tree.literals.SignedNumber.{SignedNumber}
use Rattle.mlir_syntax.specs.declared.tree.literals.ScalarLiteral.{ScalarLiteral}
use Rattle.mlir_syntax.specs.declared.tree.literals.ScalarLiteral.TheVariants as literals
use Rattle.mlir_lex.specs.declared.fault.Fault.{Fault}
use Rattle.mlir_lex.specs.declared.fault.Fault.TheVariants.{Syntax, Number}
use Rattle.mlir_lex.specs.Chain.{and_then, demand}

-- the number that the digits go on to spell from n
abbrev pub spelled_from : List ℕ → ℕ → ℕ
spelled_from [] n = n
spelled_from (b ∷ bs) n = spelled_from bs (n * 10 + (b - 48))

abbrev pub digits_value : List ℕ → ℕ
digits_value digits = spelled_from digits 0

-- ---- signed numbers

abbrev pub is_negative : Option Sign → Bool
is_negative None = false
is_negative (Some s) = true

-- a signed number begins with its sign
abbrev pub sign_place : Option Sign → TokenShape → ℕ
sign_place None digits = digits.start
sign_place (Some s) digits = s.minus.start

abbrev pub place_of_number : SignedNumber → ℕ
place_of_number n = sign_place n.sign n.digits

abbrev pub signed_by : Bool → ℕ → ℤ
signed_by false n = pos n
signed_by true n = pos 0 -ℤ pos n

abbrev pub number_of : SignedNumber → ℤ
number_of n = signed_by (is_negative n.sign) (digits_value n.digits.text)

-- ---- literals of a type

-- The numbers of iN are written from -2^(N-1) to 2^N - 1, since a signless integer is read with or without a sign.
-- That those of index lie within plus and minus 2^31 is the product's own.
abbrev pub most_of : Bool → ElemTy → ℕ
most_of false (Int w) = 2 ^ w - 1
most_of true (Int w) = 2 ^ (w - 1)
most_of negative Index = 2147483648

abbrev pub is_in_range : ElemTy → SignedNumber → Bool
is_in_range e n = nat_le (digits_value n.digits.text) (most_of (is_negative n.sign) e)

-- the value of the type that is congruent to the number
abbrev pub value_in : ElemTy → SignedNumber → ℕ
value_in e n = reduce (bits_of e) (number_of n)

abbrev pub elem_from : ℕ → Option ElemTy → Result ElemTy Fault
elem_from at None = Err (Syntax at)
elem_from at (Some e) = Ok e

-- the element type that a token writes
abbrev pub elem_at : TokenShape → Result ElemTy Fault
elem_at t = elem_from t.start (element_of t.text)

-- `true` is 1
abbrev pub truth_of : List ℕ → ℕ
truth_of text = if bytes_eq text (codes "true") then 1 else 0

-- the type and the value of a literal. Whether a number is out of range is known from its type
abbrev pub literal_of : ScalarLiteral → Result (ElemTy × ℕ) Fault
literal_of (literals.Boolean t) = Ok (Int 1, truth_of t.text)
literal_of (literals.Number n) =
    and_then (elem_at n.ty) (λ e. and_then (demand (is_in_range e n.number) (Number (place_of_number n.number) n.ty.start)) (λ _. Ok (e, value_in e n.number)))

-- ---- what literals give

-- the value lies within plus and minus 2^31, read with its sign
abbrev pub is_near : ElemTy → ℕ → Bool
is_near (Int w) v = true
is_near Index v = nat_le v 2147483648 || nat_le (2 ^ 64 - 2147483648) v

-- an element type that a token writes: i1 to i64, or index
abbrev pub is_written : ElemTy → Bool
is_written (Int w) = nat_le 1 w && nat_le w 64
is_written Index = true

-- a type and a value that some literal has
abbrev pub is_literal : ElemTy → ℕ → Bool
is_literal e v = is_written e && is_value e v && is_near e v

-- the number of digits is the one, or both are 2^64 or more
abbrev pub IsSmall : ℕ → Option ℕ → Type 0
IsSmall n None = 2 ^ 64 ≤ n
IsSmall n (Some m) = m ≡ n
