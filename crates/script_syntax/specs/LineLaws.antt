-- The laws of scripts: each production's follow from those of its parts.
use Rattle.std.specs.Prelude.{◌≡◌, true, refl, ◌⊎◌}
use Rattle.std.proofs.Common.{inl, inr}
use Rattle.text_format.specs.declared.class.Class.TheVariants.{Name, NewValue, NewValueAt, StepStart}
use Rattle.text_format.specs.declared.class.Position.TheVariants as at
use Rattle.text_format.specs.declared.lexeme.Lexeme.TheVariants.{OpenParenthesis, CloseParenthesis, OpenBrace, CloseBrace, Colon, NamedSequence, TransformMain, AnyOp, Readonly, TransformYield}
use Rattle.text_format.specs.Laws.{IsExact, begins}
use Rattle.text_format.specs.Exact.{leaf-exact, before-exact, record-exact, either-exact, ◌⊠◌, ◌▹◌}
use Rattle.text_format.specs.Many.{many-exact}
use Rattle.script_syntax.specs.declared.tree.steps.VectorizeStep.{VectorizeStep}
use Rattle.script_syntax.specs.declared.tree.lines.NamedStep.{NamedStep}
use Rattle.script_syntax.specs.declared.tree.lines.Line.{Line}
use Rattle.script_syntax.specs.declared.tree.lines.Line.TheVariants as lines
use Rattle.script_syntax.specs.Steps.{vectorize_step}
use Rattle.script_syntax.specs.StepLaws.{vectorize_step-exact}
use Rattle.script_syntax.specs.ResultLaws.{behind_first-exact}
use Rattle.script_syntax.specs.Lines.{named_step, made_line, line_parts, line, sequence}

pub named_step-exact : IsExact named_step
unfolding named_step
named_step-exact = record-exact _ _ _ (λ _. refl) (λ _. refl) (leaf-exact (NewValueAt at.ScriptStatement) ⊠ behind_first-exact)

line_back : (x : NamedStep ⊎ VectorizeStep) → line_parts (made_line x) ≡ x
line_back (inl s) = refl
line_back (inr s) = refl

line_forth : (l : Line) → made_line (line_parts l) ≡ l
line_forth (lines.Named s) = refl
line_forth (lines.Vectorize s) = refl

pub line-exact : IsExact line
unfolding line named_step vectorize_step
line-exact = record-exact _ _ _ line_back line_forth (either-exact (NewValueAt at.ScriptStatement) named_step-exact vectorize_step-exact (λ _. refl) (λ _. refl))

pub line_begins : (l : Line) → begins StepStart (line.spell l) ≡ true
unfolding line named_step vectorize_step
line_begins (lines.Named s) = refl
line_begins (lines.Vectorize s) = refl

pub sequence-exact : IsExact sequence
unfolding sequence
sequence-exact = record-exact _ _ _ (λ _. refl) (λ _. refl)
    (leaf-exact (Name at.Item NamedSequence)
    ⊠ TransformMain ▹ OpenParenthesis ▹ leaf-exact NewValue
    ⊠ Colon ▹ AnyOp ▹ OpenBrace ▹ Readonly ▹ CloseBrace ▹ CloseParenthesis ▹ OpenBrace ▹ many-exact StepStart line-exact (before-exact CloseBrace (leaf-exact (Name at.ScriptStatement TransformYield))) line_begins (λ _. refl))
