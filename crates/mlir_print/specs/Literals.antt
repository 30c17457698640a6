-- Integer literals as they are written (MLIR Builtin dialect, "IntegerAttr"): signed decimals, and truth values without a type.
use Rattle.std.specs.Prelude.{ℕ, zero, suc, ℤ, pos, negsuc, Bool, true, false, List, ◌++◌, Some, None, codes, decimal}
use Rattle.std.specs.Fmt.{signed_decimal}
use Rattle.mlir_base.specs.declared.types.ElemTy.{ElemTy}
use Rattle.mlir_base.specs.declared.types.ElemTy.TheVariants.{Int}
use Rattle.payload_ops.specs.Bits.{signed_of}
use Rattle.mlir_base.specs.Types.{bits_of, is_elem}
use Rattle.text_format.specs.declared.class.Class.TheVariants.{Exactly, Number, Boolean, ElementType}
use Rattle.text_format.specs.declared.front.Kind.TheVariants as tokens
use Rattle.text_format.specs.declared.lexeme.Lexeme.TheVariants.{Colon, Minus}
use Rattle.mlir_syntax.specs.declared.tree.literals.SignedNumber.{SignedNumber}
use Rattle.mlir_syntax.specs.declared.tree.literals.ScalarLiteral.{ScalarLiteral}
use Rattle.mlir_syntax.specs.declared.tree.literals.ScalarLiteral.TheVariants as literals
use Rattle.mlir_print.specs.Types.{elem_text}
use Rattle.text_format.specs.Writers.{Writer, put, keep, lay, space, pair, made, ◌▷◌}

-- ---- with their trees

abbrev pub number_at : ℤ → Writer SignedNumber
number_at (pos n) = made (λ t. record { sign = None; digits = t }) (put Number tokens.Number (decimal n))
number_at (negsuc n) = made (λ x. record { sign = Some (record { minus = x.0 }); digits = x.1 }) ▷ pair (keep Exactly Minus) (put Number tokens.Number (decimal (suc n)))

abbrev pub truth_text : ℕ → List ℕ
truth_text zero = codes "false"
truth_text (suc n) = codes "true"

abbrev pub literal_if : Bool → ElemTy → ℕ → Writer ScalarLiteral
literal_if true e v = made literals.Boolean (put Boolean tokens.Word (truth_text v))
literal_if false e v = made (λ x. literals.Number (record { number = x.0; ty = x.1 })) ▷ pair (number_at (signed_of (bits_of e) v)) ▷ space ▷ lay Colon ▷ space ▷ put ElementType tokens.Word (elem_text e)

-- a value of the type, with its type but for i1
abbrev pub literal_at : ElemTy → ℕ → Writer ScalarLiteral
literal_at e v = literal_if (is_elem e (Int 1)) e v

-- ---- as bytes

abbrev pub literal_text_if : Bool → ElemTy → ℕ → List ℕ
literal_text_if true e v = truth_text v
literal_text_if false e v = signed_decimal (signed_of (bits_of e) v) ++ (codes " : " ++ elem_text e)

abbrev pub literal_text : ElemTy → ℕ → List ℕ
literal_text e v = literal_text_if (is_elem e (Int 1)) e v
