-- A text as it is written: tokens with blanks between them.
use Rattle.std.specs.Prelude.{◌≡◌, ℕ, ◌+◌, true, List, [], ◌∷◌, ◌++◌, length, codes}
use Rattle.std.specs.List.{AllByRecursion}
use Rattle.text_format.specs.declared.front.Kind.{Kind}
use Rattle.text_format.specs.declared.front.Front.TheVariants as fronts
use Rattle.text_format.specs.declared.lexeme.Lexeme.{Lexeme}
use Rattle.text_format.specs.declared.lexeme.Lexeme.TheVariants as lexemes
use Rattle.text_format.specs.declared.class.Class.{Class}
use Rattle.text_format.specs.declared.span.Span.{Span}
use Rattle.text_format.specs.Token.{TokenShape}
use Rattle.text_format.specs.Lexemes.{lexeme_kind, lexeme_text}
use Rattle.text_format.specs.Bytes.{is_blank, front}

pub data Piece : Type 0 where
  Gap : List ℕ → Piece
  -- a token that the production fixes
  Fixed : Lexeme → Piece
  -- a token of a class: its kind and its text
  Leaf : Class → Kind → List ℕ → Piece

abbrev pub piece_text : Piece → List ℕ
piece_text (Gap g) = g
piece_text (Fixed l) = lexeme_text l
piece_text (Leaf c k t) = t

abbrev pub bytes_of : List Piece → List ℕ
bytes_of [] = []
bytes_of (p ∷ ps) = piece_text p ++ bytes_of ps

-- each one, with these pieces before it
abbrev pub each_behind : List Piece → List (List Piece) → List Piece
each_behind between [] = []
each_behind between (ps ∷ rest) = between ++ (ps ++ each_behind between rest)

-- with commas between them
abbrev pub comma : List Piece
comma = Fixed lexemes.Comma ∷ Gap (codes " ") ∷ []

abbrev pub commas : List (List Piece) → List Piece
commas [] = []
commas (ps ∷ rest) = ps ++ each_behind comma rest

-- the tokens by their places, where the text begins at a place
abbrev pub spans_at : ℕ → List Piece → List Span
spans_at at [] = []
spans_at at (Gap g ∷ ps) = spans_at (at + length g) ps
spans_at at (Fixed l ∷ ps) = record { kind = lexeme_kind l; start = at; end = at + length (lexeme_text l) } ∷ spans_at (at + length (lexeme_text l)) ps
spans_at at (Leaf c k t ∷ ps) = record { kind = k; start = at; end = at + length t } ∷ spans_at (at + length t) ps

-- the tokens with their texts
abbrev pub shapes_at : ℕ → List Piece → List TokenShape
shapes_at at [] = []
shapes_at at (Gap g ∷ ps) = shapes_at (at + length g) ps
shapes_at at (Fixed l ∷ ps) = record { kind = lexeme_kind l; start = at; text = lexeme_text l } ∷ shapes_at (at + length (lexeme_text l)) ps
shapes_at at (Leaf c k t ∷ ps) = record { kind = k; start = at; text = t } ∷ shapes_at (at + length t) ps

-- before this rest the text is a token of its kind, and no longer one stands there
abbrev pub Ends : Kind → List ℕ → List ℕ → Type 0
Ends k [] rest = ⊥
Ends k (b ∷ bs) rest = front b (bs ++ rest) ≡ fronts.Token k (length (b ∷ bs))

-- each token ends where the next piece begins, or this rest behind the pieces
abbrev pub IsSpaced : List Piece → List ℕ → Type 0
IsSpaced [] rest = Unit {0}
IsSpaced (Gap g ∷ ps) rest = AllByRecursion (λ b. is_blank b ≡ true) g × IsSpaced ps rest
IsSpaced (Fixed l ∷ ps) rest = Ends (lexeme_kind l) (lexeme_text l) (bytes_of ps ++ rest) × IsSpaced ps rest
IsSpaced (Leaf c k t ∷ ps) rest = Ends k t (bytes_of ps ++ rest) × IsSpaced ps rest
