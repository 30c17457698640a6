-- The laws of a payload's block: each production's follow from those of its parts.
use Rattle.std.specs.Prelude.{refl}
use Rattle.text_format.specs.declared.class.Class.TheVariants.{Exactly, Name, Value, NewValue, NewValueAt, ElementType}
use Rattle.text_format.specs.declared.class.Position.TheVariants as at
use Rattle.text_format.specs.declared.lexeme.Lexeme.TheVariants.{OpenParenthesis, CloseParenthesis, OpenBracket, Comma, Colon, Equals, Bb0, LinalgYield}
use Rattle.text_format.specs.Laws.{IsExact}
use Rattle.text_format.specs.Exact.{leaf-exact, record-exact, ◌⊠◌, ◌▹◌}
use Rattle.text_format.specs.Many.{many-exact}
use Rattle.text_format.specs.Open.{IsOpen, record-open, pair-open, fixed-open, many-open}
use Rattle.mlir_syntax.specs.Payloads.{block_arg, next_arg, block_args, step, region}
use Rattle.mlir_syntax.specs.StepLaws.{step_operation-open}

pub block_arg-exact : IsExact block_arg
unfolding block_arg
block_arg-exact = record-exact _ _ _ (λ _. refl) (λ _. refl) (leaf-exact NewValue ⊠ Colon ▹ leaf-exact ElementType)

pub next_arg-exact : IsExact next_arg
unfolding next_arg
next_arg-exact = record-exact _ _ _ (λ _. refl) (λ _. refl) (leaf-exact (Exactly Comma) ⊠ leaf-exact NewValue ⊠ Colon ▹ leaf-exact ElementType)

pub block_args-exact : IsExact block_args
unfolding block_args next_arg
block_args-exact = record-exact _ _ _ (λ _. refl) (λ _. refl)
    (block_arg-exact ⊠ many-exact (Exactly Comma) next_arg-exact (leaf-exact (Exactly CloseParenthesis)) (λ _. refl) (λ _. refl))

pub step-open : IsOpen (Exactly OpenBracket) step
unfolding step
step-open = record-open _ _ _ _ (λ _. refl) (λ _. refl) (pair-open _ (leaf-exact (NewValueAt at.PayloadStatement)) (fixed-open _ Equals step_operation-open))

pub region-exact : IsExact region
unfolding region step
region-exact = record-exact _ _ _ (λ _. refl) (λ _. refl)
    (Bb0 ▹ OpenParenthesis ▹ block_args-exact ⊠ Colon ▹ many-open (NewValueAt at.PayloadStatement) (Exactly OpenBracket) step-open (leaf-exact (Name at.PayloadStatement LinalgYield) ⊠ leaf-exact Value ⊠ Colon ▹ leaf-exact ElementType) (λ _. refl) (λ _. refl) (λ _. refl) (λ _. refl))
