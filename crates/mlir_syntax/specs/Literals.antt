-- The grammar of integer literals (MLIR Builtin dialect, "IntegerAttr").
use Rattle.std.specs.Prelude.{◌⊎◌}
use Rattle.std.proofs.Common.{inl, inr}
use Rattle.text_format.specs.declared.class.Class.TheVariants.{Exactly, ElementType, Boolean, Number}
use Rattle.text_format.specs.declared.lexeme.Lexeme.TheVariants.{Colon, Minus}
use Rattle.text_format.specs.Token.{TokenShape}
use Rattle.text_format.specs.Formats.{Format, leaf, ◌▸◌, ◌⊗◌, as_record, either, optional}
use Rattle.mlir_syntax.specs.declared.tree.literals.Sign.{Sign}
use Rattle.mlir_syntax.specs.declared.tree.literals.SignedNumber.{SignedNumber}
use Rattle.mlir_syntax.specs.declared.tree.literals.TypedNumber.{TypedNumber}
use Rattle.mlir_syntax.specs.declared.tree.literals.ScalarLiteral.{ScalarLiteral}
use Rattle.mlir_syntax.specs.declared.tree.literals.ScalarLiteral.TheVariants as literals

-- -
unfoldable pub sign : Format Sign
sign = as_record (λ t. record { minus = t }) (λ s. s.minus) (leaf (Exactly Minus))

-- -5
unfoldable pub signed_number : Format SignedNumber
signed_number = as_record (λ x. record { sign = x.0; digits = x.1 }) (λ n. (n.sign, n.digits)) (optional (Exactly Minus) sign (leaf Number))

-- -5 : i32
unfoldable pub typed_number : Format TypedNumber
typed_number = as_record (λ x. record { number = x.0; ty = x.1 }) (λ n. (n.number, n.ty)) (signed_number ⊗ Colon ▸ leaf ElementType)

abbrev pub made_literal : TokenShape ⊎ TypedNumber → ScalarLiteral
made_literal (inl t) = literals.Boolean t
made_literal (inr n) = literals.Number n

abbrev pub literal_parts : ScalarLiteral → TokenShape ⊎ TypedNumber
literal_parts (literals.Boolean t) = inl t
literal_parts (literals.Number n) = inr n

-- true, false, or a number with its type
unfoldable pub scalar_literal : Format ScalarLiteral
scalar_literal = as_record made_literal literal_parts (either Boolean (leaf Boolean) typed_number)
