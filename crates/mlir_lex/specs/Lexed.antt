-- A text with its tokens.
use Rattle.std.specs.Prelude.{◌≡◌, ◌≤◌, ℕ, List, length, All, Result, Ok, Err}
use Rattle.text_format.specs.declared.span.Span.{Span}
use Rattle.text_format.specs.declared.span.LexError.{LexError}
use Rattle.text_format.specs.Tokens.{tokens_of, IsSpan, InOrder, Fails}

pub record TokensShape : Type 0 where
  pub text : List ℕ
  pub list : List Span

-- these are the tokens of the text: each lies within it, and each begins where the one before it ends or behind that
pub record AreTokens (text : List ℕ) (list : List Span) : Type 0 where
  pub exact : tokens_of text ≡ Ok list
  pub within : All (IsSpan text) list
  pub ordered : InOrder 0 list
  pub short : length text ≤ 4194304

-- the text with its tokens, or the first fault; nothing is said where memory ran out
abbrev pub Answers : List ℕ → Result TokensShape LexError → Type 0
Answers text (Ok t) = (t.text ≡ text) × AreTokens t.text t.list
Answers text (Err e) = Fails e (tokens_of text)
