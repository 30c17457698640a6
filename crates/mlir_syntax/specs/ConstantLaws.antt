-- The laws of constants: each production's follow from those of its parts.
use Rattle.std.specs.Prelude.{◌≡◌, true, refl, ◌⊎◌}
use Rattle.std.proofs.Common.{inl, inr}
use Rattle.text_format.specs.declared.class.Class.TheVariants.{Exactly, Name, Number, ElementType, DenseToken, DenseType}
use Rattle.text_format.specs.declared.class.Position.TheVariants as at
use Rattle.text_format.specs.declared.lexeme.Lexeme.TheVariants.{Less, Greater, Colon, Minus, Dense, ArithConstant}
use Rattle.text_format.specs.Token.{TokenShape}
use Rattle.text_format.specs.Formats.{leaf, ◌▸◌}
use Rattle.text_format.specs.Laws.{IsExact, avoids}
use Rattle.text_format.specs.Exact.{leaf-exact, record-exact, either-exact, ◌⊠◌, ◌▹◌}
use Rattle.text_format.specs.Many.{many-exact, avoids_append, optional_avoids}
use Rattle.mlir_syntax.specs.declared.tree.constants.DenseLiteral.{DenseLiteral}
use Rattle.mlir_syntax.specs.declared.tree.constants.Literal.{Literal}
use Rattle.mlir_syntax.specs.declared.tree.constants.Literal.TheVariants as values
use Rattle.mlir_syntax.specs.declared.tree.literals.SignedNumber.{SignedNumber}
use Rattle.mlir_syntax.specs.declared.tree.literals.ScalarLiteral.{ScalarLiteral}
use Rattle.mlir_syntax.specs.declared.tree.literals.ScalarLiteral.TheVariants as literals
use Rattle.mlir_syntax.specs.Literals.{sign, signed_number, typed_number, scalar_literal}
use Rattle.mlir_syntax.specs.LiteralLaws.{scalar_literal-exact}
use Rattle.mlir_syntax.specs.Constants.{dense_piece, dense_literal, made_value, value_parts, literal, constant}

pub dense_piece-exact : IsExact dense_piece
unfolding dense_piece
dense_piece-exact = record-exact _ _ _ (λ _. refl) (λ _. refl) (leaf-exact DenseToken)

pub dense_literal-exact : IsExact dense_literal
unfolding dense_literal dense_piece
dense_literal-exact = record-exact _ _ _ (λ _. refl) (λ _. refl)
    (Dense ▹ Less ▹ many-exact DenseToken dense_piece-exact (leaf-exact (Exactly Greater) ⊠ Colon ▹ leaf-exact DenseType) (λ _. refl) (λ _. refl))

-- no scalar's literal begins with the word
number_avoids : (n : SignedNumber) → avoids (Exactly Dense) (signed_number.spell n) ≡ true
unfolding signed_number sign
number_avoids n = optional_avoids (Exactly Dense) sign (leaf Number) (λ _. refl) (λ _. refl) (n.sign, n.digits)

scalar_avoids : (s : ScalarLiteral) → avoids (Exactly Dense) (scalar_literal.spell s) ≡ true
unfolding scalar_literal typed_number
scalar_avoids (literals.Boolean t) = refl
scalar_avoids (literals.Number n) = avoids_append (Exactly Dense) (signed_number.spell n.number) ((Colon ▸ leaf ElementType).spell n.ty) (number_avoids n.number)

value_back : (x : DenseLiteral ⊎ ScalarLiteral) → value_parts (made_value x) ≡ x
value_back (inl d) = refl
value_back (inr s) = refl

value_forth : (l : Literal) → made_value (value_parts l) ≡ l
value_forth (values.Dense d) = refl
value_forth (values.Scalar s) = refl

pub literal-exact : IsExact literal
unfolding literal dense_literal
literal-exact = record-exact _ _ _ value_back value_forth (either-exact (Exactly Dense) dense_literal-exact scalar_literal-exact (λ _. refl) scalar_avoids)

pub constant-exact : IsExact constant
unfolding constant
constant-exact = record-exact _ _ _ (λ _. refl) (λ _. refl) (leaf-exact (Name at.Operation ArithConstant) ⊠ literal-exact)
