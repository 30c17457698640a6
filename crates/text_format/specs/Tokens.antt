-- The tokens of a text, or its first fault.
use Rattle.std.specs.Prelude.{◌≡◌, ℕ, ◌+◌, ◌<◌, ◌≤◌, zero, suc, List, [], ◌∷◌, length, map, drop, slice_range, Result, Ok, Err}
use Rattle.std.specs.Global.{Vec}
use Rattle.text_format.specs.declared.front.Front.{Front}
use Rattle.text_format.specs.declared.front.Front.TheVariants as fronts
use Rattle.text_format.specs.declared.span.Span.{Span}
use Rattle.text_format.specs.declared.span.LexError.{LexError}
use Rattle.text_format.specs.declared.span.LexError.TheVariants as errors
use Rattle.text_format.specs.Bytes.{front}
use Rattle.text_format.specs.Token.{TokenShape}

-- where the text is at fault
pub data Fault : Type 0 where
  Byte : ℕ → Fault
  Unclosed : ℕ → Fault

abbrev pub before_others : Span → Result (List Span) Fault → Result (List Span) Fault
before_others t (Ok ts) = Ok (t ∷ ts)
before_others t (Err e) = Err e

-- the tokens from a place on, by the item that stands there, where go reads on behind so many bytes
abbrev pub by_front : ℕ → (ℕ → Result (List Span) Fault) → Front → Result (List Span) Fault
by_front at go (fronts.Skip k) = go k
by_front at go (fronts.Token kind k) = before_others (record { kind = kind; start = at; end = at + k }) (go k)
by_front at go (fronts.Byte k) = Err (Byte (at + k))
by_front at go fronts.Unclosed = Err (Unclosed at)

-- the tokens of these bytes, which begin at a place; at most n items
unfoldable pub tokens_from : ℕ → ℕ → List ℕ → Result (List Span) Fault
tokens_from zero at bytes = Ok []
tokens_from (suc n) at [] = Ok []
tokens_from (suc n) at (b ∷ rest) = by_front at (λ k. tokens_from n (at + k) (drop k (b ∷ rest))) (front b rest)

abbrev pub tokens_of : List ℕ → Result (List Span) Fault
tokens_of text = tokens_from (length text) 0 text

-- what `tokens` answers, unless memory ran out
abbrev pub Fails : LexError → Result (List Span) Fault → Type 0
Fails errors.Memory read = Unit {0}
Fails (errors.Byte at) read = read ≡ Err (Byte at)
Fails (errors.Unclosed at) read = read ≡ Err (Unclosed at)

abbrev pub Gives : Result (Vec Span) LexError → Result (List Span) Fault → Type 0
Gives (Ok ts) read = read ≡ Ok ts.items
Gives (Err e) read = Fails e read

-- a token lies within the text, and is not empty
pub record IsSpan (text : List ℕ) (t : Span) : Type 0 where
  pub ordered : t.start < t.end
  pub within : t.end ≤ length text

-- each token begins where the one before it ends, or behind that
abbrev pub InOrder : ℕ → List Span → Type 0
InOrder at [] = Unit {0}
InOrder at (t ∷ ts) = (at ≤ t.start) × (t.start < t.end) × InOrder t.end ts

-- the token with its text, which is the span's slice of the source
abbrev pub with_text : List ℕ → Span → TokenShape
with_text source t = record { kind = t.kind; start = t.start; text = slice_range source t.start t.end }

abbrev pub with_texts : List ℕ → Result (List Span) Fault → Result (List TokenShape) Fault
with_texts source (Ok ts) = Ok (map (with_text source) ts)
with_texts source (Err e) = Err e

-- the tokens of a text, each with its text
abbrev pub shapes_of : List ℕ → Result (List TokenShape) Fault
shapes_of text = with_texts text (tokens_of text)
