-- The grammar of a payload's block (MLIR LangRef, "Regions", "Blocks").
use Rattle.text_format.specs.declared.class.Class.TheVariants.{Exactly, Name, Value, NewValue, NewValueAt, ElementType}
use Rattle.text_format.specs.declared.class.Position.TheVariants as at
use Rattle.text_format.specs.declared.lexeme.Lexeme.TheVariants.{OpenParenthesis, CloseParenthesis, Comma, Colon, Equals, Bb0, LinalgYield}
use Rattle.text_format.specs.Formats.{Format, leaf, ◌▸◌, ◌⊗◌, as_record, many}
use Rattle.mlir_syntax.specs.declared.tree.payloads.BlockArg.{BlockArg}
use Rattle.mlir_syntax.specs.declared.tree.payloads.NextArg.{NextArg}
use Rattle.mlir_syntax.specs.declared.tree.payloads.BlockArgs.{BlockArgs}
use Rattle.mlir_syntax.specs.declared.tree.payloads.Step.{Step}
use Rattle.mlir_syntax.specs.declared.tree.payloads.Region.{Region}
use Rattle.mlir_syntax.specs.Steps.{step_operation}

-- %x: i32
unfoldable pub block_arg : Format BlockArg
block_arg = as_record (λ x. record { name = x.0; ty = x.1 }) (λ b. (b.name, b.ty)) (leaf NewValue ⊗ Colon ▸ leaf ElementType)

-- , %y: i32
unfoldable pub next_arg : Format NextArg
next_arg = as_record (λ x. record { comma = x.0; name = x.1.0; ty = x.1.1 }) (λ n. (n.comma, (n.name, n.ty))) (leaf (Exactly Comma) ⊗ leaf NewValue ⊗ Colon ▸ leaf ElementType)

-- %x: i32, %y: i32)
unfoldable pub block_args : Format BlockArgs
block_args = as_record (λ x. record { first = x.0; more = x.1.0; close = x.1.1 }) (λ b. (b.first, (b.more, b.close)))
    (block_arg ⊗ many (Exactly Comma) next_arg (leaf (Exactly CloseParenthesis)))

-- %s = operation
unfoldable pub step : Format Step
step = as_record (λ x. record { result = x.0; operation = x.1 }) (λ s. (s.result, s.operation)) (leaf (NewValueAt at.PayloadStatement) ⊗ Equals ▸ step_operation)

-- ^bb0(%x: i32): steps linalg.yield %s : i32
unfoldable pub region : Format Region
region = as_record (λ x. record { args = x.0; steps = x.1.0; yield_name = x.1.1.0; yielded = x.1.1.1.0; yield_type = x.1.1.1.1 }) (λ r. (r.args, (r.steps, (r.yield_name, (r.yielded, r.yield_type)))))
    (Bb0 ▸ OpenParenthesis ▸ block_args ⊗ Colon ▸ many (NewValueAt at.PayloadStatement) step (leaf (Name at.PayloadStatement LinalgYield) ⊗ leaf Value ⊗ Colon ▸ leaf ElementType))
