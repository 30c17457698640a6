-- The canonical text of a script.
use Rattle.std.specs.Prelude.{ℕ, zero, suc, List, [], ◌∷◌, ◌++◌, length, None}
use Rattle.text_format.specs.declared.class.Class.TheVariants.{Name, NewValue, NewValueAt, Number}
use Rattle.text_format.specs.declared.class.Position.TheVariants as at
use Rattle.text_format.specs.declared.front.Kind.TheVariants as tokens
use Rattle.text_format.specs.declared.lexeme.Lexeme.TheVariants.{OpenParenthesis, CloseParenthesis, OpenBrace, CloseBrace, Colon, Equals, NamedSequence, TransformMain, AnyOp, Readonly, TransformYield}
use Rattle.text_format.specs.Numerals.{numeral}
use Rattle.text_format.specs.Pieces.{Gap, Fixed, bytes_of}
use Rattle.text_format.specs.Token.{TokenShape}
use Rattle.text_format.specs.Writers.{Writer, put, keep, lay, gap, space, lay_after, pair, made, each_of, unbuilt, no_token, ◌▷◌}
use Rattle.script_syntax.specs.declared.tree.results.BehindFirst.TheVariants as first_rest
use Rattle.script_syntax.specs.declared.tree.lines.Line.{Line}
use Rattle.script_syntax.specs.declared.tree.lines.Line.TheVariants as lines
use Rattle.script_syntax.specs.declared.tree.lines.Sequence.{Sequence}
use Rattle.script_read.specs.declared.script.HandleId.{HandleId}
use Rattle.script_read.specs.declared.script.StepKind.{StepKind}
use Rattle.script_read.specs.declared.script.StepKind.TheVariants as kinds
use Rattle.script_read.specs.declared.script.Step.{Step}
use Rattle.script_read.specs.declared.script.Script.{Script}
use Rattle.script_text.specs.declared.names.Given.TheVariants.{Root, Single}
use Rattle.script_text.specs.declared.names.Row.{Row}
use Rattle.script_text.specs.Names.{given_text, start, rows_of, next_of}
use Rattle.script_text.specs.Texts.{new_line}
use Rattle.script_text.specs.Steps.{vectorize_step_at, one_at, group_step_at, no_handle_step}

-- the name of a step's results
abbrev pub result_at : ℕ → Writer TokenShape
result_at n = put (NewValueAt at.ScriptStatement) tokens.Value (given_text (Single n))

-- a step without results
abbrev pub none_at : List Row → StepKind → Writer Line
none_at rows (kinds.Vectorize h sizes) = made lines.Vectorize (vectorize_step_at rows h sizes)
none_at rows k = unbuilt (λ at. lines.Vectorize (record { name = no_token at; target = no_token at; sizes = None }))

-- a step whose results, if it has any, have number n
abbrev pub line_at : List Row → ℕ → List HandleId → StepKind → Writer Line
line_at rows n [] k = none_at rows k
line_at rows n (h ∷ []) k = made (λ x. lines.Named (record { first = x.0; rest = first_rest.Step x.1 })) ▷ pair (result_at n) ▷ space ▷ lay Equals ▷ space ▷ one_at rows k
line_at rows n (h ∷ (g ∷ hs)) k = made (λ x. lines.Named (record { first = x.0; rest = first_rest.Group (record { count = x.1.0; step = x.1.1 }) })) ▷
    pair (result_at n) ▷ lay Colon ▷ pair (put Number tokens.Number (numeral (length (h ∷ (g ∷ hs))))) ▷ space ▷ lay Equals ▷ space ▷ group_step_at rows (length hs) k

-- the steps, each on a line of its own at this depth
abbrev pub lines_at : ℕ → List Row → ℕ → List Step → List (Writer Line)
lines_at depth rows n [] = []
lines_at depth rows n (s ∷ ss) = gap (new_line depth) (line_at rows n s.results s.kind) ∷ lines_at depth (rows ++ rows_of n s.results) (next_of n s.results) ss

-- a sequence at a depth of so many regions; its steps stand one level deeper
abbrev pub sequence_at : ℕ → Script → Writer Sequence
sequence_at depth s = made (λ x. record { keyword = x.0; root = x.1.0; lines = x.1.1.0; end = x.1.1.1 }) ▷
    pair (keep (Name at.Item) NamedSequence) ▷ space ▷ lay TransformMain ▷ lay OpenParenthesis ▷ pair (put NewValue tokens.Value (given_text Root)) ▷
    lay Colon ▷ space ▷ lay AnyOp ▷ space ▷ lay OpenBrace ▷ lay Readonly ▷ lay CloseBrace ▷ lay CloseParenthesis ▷ space ▷ lay OpenBrace ▷
    pair (each_of (lines_at (suc depth) (start s.root) 0 s.steps)) ▷
    gap (new_line (suc depth)) ▷ lay_after (keep (Name at.ScriptStatement) TransformYield) (Gap (new_line depth) ∷ Fixed CloseBrace ∷ [])

unfoldable pub text_of : Script → List ℕ
text_of s = bytes_of (sequence_at 0 s).pieces
