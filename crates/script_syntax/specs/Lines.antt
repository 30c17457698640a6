-- The grammar of a script (MLIR Transform dialect, "transform.named_sequence").
use Rattle.std.specs.Prelude.{◌⊎◌}
use Rattle.std.proofs.Common.{inl, inr}
use Rattle.text_format.specs.declared.class.Class.TheVariants.{Name, NewValue, NewValueAt, StepStart}
use Rattle.text_format.specs.declared.class.Position.TheVariants as at
use Rattle.text_format.specs.declared.lexeme.Lexeme.TheVariants.{OpenParenthesis, CloseParenthesis, OpenBrace, CloseBrace, Colon, NamedSequence, TransformMain, AnyOp, Readonly, TransformYield}
use Rattle.text_format.specs.Formats.{Format, leaf, before, ◌▸◌, ◌⊗◌, as_record, either, many}
use Rattle.script_syntax.specs.declared.tree.steps.VectorizeStep.{VectorizeStep}
use Rattle.script_syntax.specs.declared.tree.lines.NamedStep.{NamedStep}
use Rattle.script_syntax.specs.declared.tree.lines.Line.{Line}
use Rattle.script_syntax.specs.declared.tree.lines.Line.TheVariants as lines
use Rattle.script_syntax.specs.declared.tree.lines.Sequence.{Sequence}
use Rattle.script_syntax.specs.Steps.{vectorize_step}
use Rattle.script_syntax.specs.Results.{behind_first}

-- %a = step
unfoldable pub named_step : Format NamedStep
named_step = as_record (λ x. record { first = x.0; rest = x.1 }) (λ s. (s.first, s.rest)) (leaf (NewValueAt at.ScriptStatement) ⊗ behind_first)

abbrev pub made_line : NamedStep ⊎ VectorizeStep → Line
made_line (inl s) = lines.Named s
made_line (inr s) = lines.Vectorize s

abbrev pub line_parts : Line → NamedStep ⊎ VectorizeStep
line_parts (lines.Named s) = inl s
line_parts (lines.Vectorize s) = inr s

unfoldable pub line : Format Line
line = as_record made_line line_parts (either (NewValueAt at.ScriptStatement) named_step vectorize_step)

-- transform.named_sequence @__transform_main(%root: !transform.any_op {transform.readonly}) { lines transform.yield }
unfoldable pub sequence : Format Sequence
sequence = as_record (λ x. record { keyword = x.0; root = x.1.0; lines = x.1.1.0; end = x.1.1.1 }) (λ s. (s.keyword, (s.root, (s.lines, s.end))))
    (leaf (Name at.Item NamedSequence)
    ⊗ TransformMain ▸ OpenParenthesis ▸ leaf NewValue
    ⊗ Colon ▸ AnyOp ▸ OpenBrace ▸ Readonly ▸ CloseBrace ▸ CloseParenthesis ▸ OpenBrace ▸ many StepStart line (before CloseBrace (leaf (Name at.ScriptStatement TransformYield))))
