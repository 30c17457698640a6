-- The grammar of constants (Arith dialect, "arith.constant"; Builtin dialect, "DenseIntOrFPElementsAttr").
use Rattle.std.specs.Prelude.{◌⊎◌}
use Rattle.std.proofs.Common.{inl, inr}
use Rattle.text_format.specs.declared.class.Class.TheVariants.{Exactly, Name, DenseToken, DenseType}
use Rattle.text_format.specs.declared.class.Position.TheVariants as at
use Rattle.text_format.specs.declared.lexeme.Lexeme.TheVariants.{Less, Greater, Colon, Dense, ArithConstant}
use Rattle.text_format.specs.Formats.{Format, leaf, ◌▸◌, ◌⊗◌, as_record, either, many}
use Rattle.mlir_syntax.specs.declared.tree.constants.DensePiece.{DensePiece}
use Rattle.mlir_syntax.specs.declared.tree.constants.DenseLiteral.{DenseLiteral}
use Rattle.mlir_syntax.specs.declared.tree.constants.Literal.{Literal}
use Rattle.mlir_syntax.specs.declared.tree.constants.Literal.TheVariants as values
use Rattle.mlir_syntax.specs.declared.tree.constants.Constant.{Constant}
use Rattle.mlir_syntax.specs.declared.tree.literals.ScalarLiteral.{ScalarLiteral}
use Rattle.mlir_syntax.specs.Literals.{scalar_literal}

-- a token of a dense literal
unfoldable pub dense_piece : Format DensePiece
dense_piece = as_record (λ t. record { token = t }) (λ p. p.token) (leaf DenseToken)

-- dense<tokens> : tensor<3xi32>; which tokens make a literal of the type is told where the tree is resolved
unfoldable pub dense_literal : Format DenseLiteral
dense_literal = as_record (λ x. record { tokens = x.0; greater = x.1.0; ty = x.1.1 }) (λ d. (d.tokens, (d.greater, d.ty)))
    (Dense ▸ Less ▸ many DenseToken dense_piece (leaf (Exactly Greater) ⊗ Colon ▸ leaf DenseType))

abbrev pub made_value : DenseLiteral ⊎ ScalarLiteral → Literal
made_value (inl d) = values.Dense d
made_value (inr s) = values.Scalar s

abbrev pub value_parts : Literal → DenseLiteral ⊎ ScalarLiteral
value_parts (values.Dense d) = inl d
value_parts (values.Scalar s) = inr s

-- a dense literal, or a scalar's
unfoldable pub literal : Format Literal
literal = as_record made_value value_parts (either (Exactly Dense) dense_literal scalar_literal)

-- arith.constant literal
unfoldable pub constant : Format Constant
constant = as_record (λ x. record { name = x.0; literal = x.1 }) (λ c. (c.name, c.literal)) (leaf (Name at.Operation ArithConstant) ⊗ literal)
