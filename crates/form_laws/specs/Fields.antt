-- What the parts of an operation's text say, by its form, without their places.
use Rattle.std.specs.Prelude.{ℕ, zero, suc, Bool, true, false, List, [], ◌∷◌, map, Option, Some, None}
use Rattle.std.specs.Str.Parse.{digits_value}
use Rattle.text_format.specs.Token.{TokenShape}
use Rattle.form_table.specs.declared.part.DensePiece.{DensePiece}
use Rattle.form_table.specs.declared.part.Entry.{Entry}
use Rattle.form_table.specs.declared.part.Entry.TheVariants as entries
use Rattle.form_table.specs.declared.part.Next.{Next}
use Rattle.form_table.specs.declared.part.Part.{Part}
use Rattle.form_table.specs.declared.part.Part.TheVariants as parts
use Rattle.form_table.specs.declared.field.Word.{Word}
use Rattle.form_table.specs.declared.field.Word.TheVariants as words
use Rattle.form_table.specs.declared.field.Field.{Field}
use Rattle.form_table.specs.declared.field.Field.TheVariants as fields
use Rattle.form_table.specs.declared.want.Want.{Want}
use Rattle.form_table.specs.declared.want.Want.TheVariants as wants
use Rattle.form_table.specs.Spelling.{SpellingShape}

abbrev pub and_also : {A B : Type 0} → Option A → (A → Option B) → Option B
and_also None f = None
and_also (Some x) f = f x

abbrev pub is_there : {A : Type 0} → Option A → Bool
is_there None = false
is_there (Some x) = true

abbrev pub spelling_of : TokenShape → SpellingShape
spelling_of t = record { kind = t.kind; text = t.text }

-- a map that is written out is no word: a text that is written uses its alias
abbrev pub word_of : Entry → Option Word
word_of (entries.Token t) = Some (words.Text (spelling_of t))
word_of (entries.Number minus digits) = Some (words.Number (is_there minus) (digits_value 10 digits.text))
word_of (entries.Map m) = None

abbrev pub words_of : List Next → Option (List Word)
words_of [] = Some []
words_of (n ∷ ns) = and_also (word_of n.entry) (λ w. and_also (words_of ns) (λ ws. Some (w ∷ ws)))

-- the entries of a list, of which the first may be missing
abbrev pub listed_words : Option Entry → List Next → Option (List Word)
listed_words None ns = words_of ns
listed_words (Some e) ns = and_also (word_of e) (λ w. and_also (words_of ns) (λ ws. Some (w ∷ ws)))

abbrev pub spellings_of : List DensePiece → List SpellingShape
spellings_of ds = map (λ d. spelling_of d.token) ds

abbrev pub with_field : Field → Option (List Field) → Option (List Field)
with_field f o = and_also o (λ fs. Some (f ∷ fs))

-- the fields of these parts for these wants, where the first k are left out
unfoldable pub fields_of : List Want → ℕ → List Part → Option (List Field)
fields_of [] k [] = Some []
fields_of [] k (p ∷ ps) = None
fields_of (w ∷ ws) (suc k) ps = fields_of ws k ps
fields_of (wants.Fixed l ∷ ws) zero ps = fields_of ws zero ps
fields_of (wants.Space ∷ ws) zero ps = fields_of ws zero ps
fields_of (wants.Kept l ∷ ws) zero (parts.One e ∷ ps) = fields_of ws zero ps
fields_of (wants.One e r ∷ ws) zero (parts.One x ∷ ps) = and_also (word_of x) (λ w. with_field (fields.One w) (fields_of ws zero ps))
fields_of (wants.Listed e close r ∷ ws) zero (parts.Listed o ns t ∷ ps) = and_also (listed_words o ns) (λ us. with_field (fields.Several us) (fields_of ws zero ps))
fields_of (wants.More e r ∷ ws) zero (parts.More ns ∷ ps) = and_also (words_of ns) (λ us. with_field (fields.Several us) (fields_of ws zero ps))
fields_of (wants.Dense ∷ ws) zero (parts.Dense ds ∷ ps) = with_field (fields.Dense (spellings_of ds)) (fields_of ws zero ps)
fields_of (wants.Maybe l n ∷ ws) zero (parts.There true ∷ ps) = with_field (fields.There true) (fields_of ws zero ps)
fields_of (wants.Maybe l n ∷ ws) zero (parts.There false ∷ ps) = with_field (fields.There false) (fields_of ws n ps)
fields_of (wants.Jump n ∷ ws) zero ps = fields_of ws n ps
fields_of ws zero ps = None
