-- How the parts of an operation are written, by its form.
use Rattle.std.specs.Prelude.{ℕ, zero, suc, Bool, true, false, List, [], ◌∷◌, map, Option, Some, None, codes, if◌then◌else◌}
use Rattle.std.specs.Str.{bytes_eq}
use Rattle.text_format.specs.declared.class.Class.{Class}
use Rattle.text_format.specs.declared.class.Class.TheVariants.{Exactly, Value, Number, Alias, DenseToken}
use Rattle.text_format.specs.declared.front.Kind.TheVariants as tokens
use Rattle.text_format.specs.declared.lexeme.Lexeme.{Lexeme}
use Rattle.text_format.specs.declared.lexeme.Lexeme.TheVariants.{Comma, Minus}
use Rattle.text_format.specs.Token.{TokenShape}
use Rattle.text_format.specs.Numerals.{numeral}
use Rattle.text_format.specs.Pieces.{Gap}
use Rattle.text_format.specs.Writers.{Writer, put, keep, lay, space, lay_after, pair, made, each_of, unbuilt}
use Rattle.form_table.specs.declared.part.DensePiece.{DensePiece}
use Rattle.form_table.specs.declared.part.Entry.{Entry}
use Rattle.form_table.specs.declared.part.Entry.TheVariants as entries
use Rattle.form_table.specs.declared.part.Next.{Next}
use Rattle.form_table.specs.declared.part.Part.{Part}
use Rattle.form_table.specs.declared.part.Part.TheVariants.{One, Listed, More, Dense, There}
use Rattle.form_table.specs.declared.field.Word.{Word}
use Rattle.form_table.specs.declared.field.Word.TheVariants as words
use Rattle.form_table.specs.declared.field.Field.{Field}
use Rattle.form_table.specs.declared.field.Field.TheVariants as fields
use Rattle.form_table.specs.declared.want.Element.{Element}
use Rattle.form_table.specs.declared.want.Element.TheVariants as elements
use Rattle.form_table.specs.declared.want.Want.{Want}
use Rattle.form_table.specs.declared.want.Want.TheVariants as wants
use Rattle.form_table.specs.Spelling.{SpellingShape}

-- ---- entries

-- the class of the tokens that stand for themselves
abbrev pub token_class : Element → Class
token_class (elements.Leaf c) = c
token_class elements.Literal = Number
token_class elements.Index = Value
token_class elements.Map = Alias

abbrev pub number_w : Bool → ℕ → Writer (Option TokenShape × TokenShape)
number_w false n = made (λ t. (None, t)) (put Number tokens.Number (numeral n))
number_w true n = made (λ x. (Some x.0, x.1)) (pair (keep Exactly Minus) (put Number tokens.Number (numeral n)))

abbrev pub word_w : Element → Word → Writer Entry
word_w e (words.Text s) = made entries.Token (put (token_class e) s.kind s.text)
word_w e (words.Number negative n) = made (λ x. entries.Number x.0 x.1) (number_w negative n)

-- `, entry`
abbrev pub next_w : Element → Word → Writer Next
next_w e w = made (λ x. record { comma = x.0; entry = x.1 }) (pair (keep Exactly Comma) (space (word_w e w)))

abbrev pub more_w : Element → List Word → Writer (List Next)
more_w e ws = each_of (map (next_w e) ws)

abbrev pub listed_w : Element → Lexeme → List Word → Writer Part
listed_w e close [] = made (λ t. Listed None [] t) (keep Exactly close)
listed_w e close (w ∷ ws) = made (λ x. Listed (Some x.0) x.1.0 x.1.1) (pair (word_w e w) (pair (more_w e ws) (keep Exactly close)))

-- a token of a dense literal, with a blank behind a comma
abbrev pub gap_behind : List ℕ → List ℕ
gap_behind text = if bytes_eq text (codes ",") then codes " " else []

abbrev pub dense_piece_w : SpellingShape → Writer DensePiece
dense_piece_w s = made (λ t. record { token = t }) (lay_after (put DenseToken s.kind s.text) (Gap (gap_behind s.text) ∷ []))

abbrev pub dense_w : List SpellingShape → Writer (List DensePiece)
dense_w ts = each_of (map dense_piece_w ts)

-- ---- parts

abbrev pub one_w : Element → Word → Writer Part
one_w e w = made One (word_w e w)

abbrev pub kept_w : Lexeme → Writer Part
kept_w l = made (λ t. One (entries.Token t)) (keep Exactly l)

abbrev pub no_parts : Writer (List Part)
no_parts = record { pieces = []; tree = λ at. [] }

abbrev pub before_parts : Writer Part → Writer (List Part) → Writer (List Part)
before_parts v w = made (λ x. x.0 ∷ x.1) (pair v w)

-- the text of these fields for these wants, where the first k are left out
unfoldable pub written : List Want → ℕ → List Field → Writer (List Part)
written [] k fs = no_parts
written (w ∷ ws) (suc k) fs = written ws k fs
written (wants.Fixed l ∷ ws) zero fs = lay l (written ws zero fs)
written (wants.Space ∷ ws) zero fs = space (written ws zero fs)
written (wants.Kept l ∷ ws) zero fs = before_parts (kept_w l) (written ws zero fs)
written (wants.One e r ∷ ws) zero (fields.One w ∷ fs) = before_parts (one_w e w) (written ws zero fs)
written (wants.Listed e close r ∷ ws) zero (fields.Several us ∷ fs) = before_parts (listed_w e close us) (written ws zero fs)
written (wants.More e r ∷ ws) zero (fields.Several us ∷ fs) = before_parts (made More (more_w e us)) (written ws zero fs)
written (wants.Dense ∷ ws) zero (fields.Dense ts ∷ fs) = before_parts (made Dense (dense_w ts)) (written ws zero fs)
written (wants.Maybe l n ∷ ws) zero (fields.There true ∷ fs) = made (λ ps. There true ∷ ps) (written ws zero fs)
written (wants.Maybe l n ∷ ws) zero (fields.There false ∷ fs) = made (λ ps. There false ∷ ps) (written ws n fs)
written (wants.Jump n ∷ ws) zero fs = written ws n fs
written ws zero fs = unbuilt (λ at. [])
