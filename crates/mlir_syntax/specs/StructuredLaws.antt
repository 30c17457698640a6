-- The laws of structured operations: each production's follow from those of its parts.
use Rattle.std.specs.Prelude.{◌≡◌, true, refl}
use Rattle.text_format.specs.declared.class.Class.TheVariants.{Exactly, Name, Value, Number, TensorType, ElementType}
use Rattle.text_format.specs.declared.class.Position.TheVariants as at
use Rattle.text_format.specs.declared.lexeme.Lexeme.TheVariants.{OpenParenthesis, CloseParenthesis, OpenBracket, CloseBracket, Comma, Colon, Equals, Arrow, Ins, LinalgFill, LinalgMatmul, LinalgBatchMatmul, LinalgTranspose, LinalgBroadcast, Permutation, Dimensions}
use Rattle.text_format.specs.Formats.{leaf}
use Rattle.text_format.specs.Laws.{IsExact, avoids}
use Rattle.text_format.specs.Exact.{leaf-exact, record-exact, ◌⊠◌, ◌▹◌}
use Rattle.text_format.specs.Many.{list-exact, optional_avoids}
use Rattle.mlir_syntax.specs.LiteralLaws.{signed_number-exact}
use Rattle.mlir_syntax.specs.declared.tree.literals.SignedNumber.{SignedNumber}
use Rattle.mlir_syntax.specs.Literals.{sign, signed_number}
use Rattle.mlir_syntax.specs.GenericLaws.{output-exact}
use Rattle.mlir_syntax.specs.Structured.{fill, factors, matmul, batch_matmul, source_and_output, transpose, broadcast}

pub fill-exact : IsExact fill
unfolding fill
fill-exact = record-exact _ _ _ (λ _. refl) (λ _. refl)
    (leaf-exact (Name at.Operation LinalgFill) ⊠ Ins ▹ OpenParenthesis ▹ leaf-exact Value ⊠ Colon ▹ leaf-exact ElementType ⊠ CloseParenthesis ▹ output-exact ⊠ Arrow ▹ leaf-exact TensorType)

pub factors-exact : IsExact factors
unfolding factors
factors-exact = record-exact _ _ _ (λ _. refl) (λ _. refl)
    (Ins ▹ OpenParenthesis ▹ leaf-exact Value ⊠ Comma ▹ leaf-exact Value ⊠ Colon ▹ leaf-exact TensorType ⊠ Comma ▹ leaf-exact TensorType ⊠ CloseParenthesis ▹ output-exact ⊠ Arrow ▹ leaf-exact TensorType)

pub matmul-exact : IsExact matmul
unfolding matmul
matmul-exact = record-exact _ _ _ (λ _. refl) (λ _. refl) (leaf-exact (Name at.Operation LinalgMatmul) ⊠ factors-exact)

pub batch_matmul-exact : IsExact batch_matmul
unfolding batch_matmul
batch_matmul-exact = record-exact _ _ _ (λ _. refl) (λ _. refl) (leaf-exact (Name at.Operation LinalgBatchMatmul) ⊠ factors-exact)

pub source_and_output-exact : IsExact source_and_output
unfolding source_and_output
source_and_output-exact = record-exact _ _ _ (λ _. refl) (λ _. refl) (Ins ▹ OpenParenthesis ▹ leaf-exact Value ⊠ Colon ▹ leaf-exact TensorType ⊠ CloseParenthesis ▹ output-exact)

-- no number begins with a bracket
axis_avoids : (n : SignedNumber) → avoids (Exactly CloseBracket) (signed_number.spell n) ≡ true
unfolding signed_number sign
axis_avoids n = optional_avoids (Exactly CloseBracket) sign (leaf Number) (λ _. refl) (λ _. refl) (n.sign, n.digits)

pub transpose-exact : IsExact transpose
unfolding transpose
transpose-exact = record-exact _ _ _ (λ _. refl) (λ _. refl)
    (leaf-exact (Name at.Operation LinalgTranspose) ⊠ source_and_output-exact ⊠ Permutation ▹ Equals ▹ OpenBracket ▹ list-exact CloseBracket signed_number-exact axis_avoids refl)

pub broadcast-exact : IsExact broadcast
unfolding broadcast
broadcast-exact = record-exact _ _ _ (λ _. refl) (λ _. refl)
    (leaf-exact (Name at.Operation LinalgBroadcast) ⊠ source_and_output-exact ⊠ Dimensions ▹ Equals ▹ OpenBracket ▹ list-exact CloseBracket signed_number-exact axis_avoids refl)
