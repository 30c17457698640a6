-- Which fields can be written for a form: they are those that the wants ask for, and each word is a token of its class.
use Rattle.std.specs.Prelude.{◌≡◌, ℕ, zero, suc, true, false, not, ◌&&◌, ◌==◌, List, [], ◌∷◌}
use Rattle.std.specs.List.{AllByRecursion}
use Rattle.text_format.specs.declared.class.Class.{Class}
use Rattle.text_format.specs.declared.class.Class.TheVariants.{Value, Alias, DenseToken}
use Rattle.text_format.specs.Bytes.{is_word_byte}
use Rattle.text_format.specs.Classes.{holds}
use Rattle.text_format.specs.Pieces.{Piece, Ends, IsSpaced}
use Rattle.form_table.specs.declared.field.Word.{Word}
use Rattle.form_table.specs.declared.field.Word.TheVariants as words
use Rattle.form_table.specs.declared.field.Field.{Field}
use Rattle.form_table.specs.declared.field.Field.TheVariants as fields
use Rattle.form_table.specs.declared.want.Element.{Element}
use Rattle.form_table.specs.declared.want.Element.TheVariants as elements
use Rattle.form_table.specs.declared.want.Want.{Want}
use Rattle.form_table.specs.declared.want.Want.TheVariants as wants
use Rattle.form_table.specs.Spelling.{SpellingShape}
use Rattle.form_table.specs.Writing.{dense_w}

-- what comes next ends a name: the end of the text, or a byte with which no name goes on
abbrev pub Stops : List ℕ → Type 0
Stops [] = Unit {0}
Stops (b ∷ bs) = not (is_word_byte b) && not (b == 45) && not (b == 35) ≡ true

-- a token of the class, where a name ends
abbrev pub IsToken : Class → SpellingShape → Type 0
IsToken c s = ((rest : List ℕ) → Stops rest → Ends s.kind s.text rest) × (holds c s.kind s.text ≡ true)

-- the pieces are well spaced, where a name ends behind them
abbrev pub AreSpaced : List Piece → Type 0
AreSpaced ps = (rest : List ℕ) → Stops rest → IsSpaced ps rest

-- the tokens of a dense literal
abbrev pub AreDense : List SpellingShape → Type 0
AreDense ts = AreSpaced (dense_w ts).pieces × AllByRecursion (λ t. holds DenseToken t.kind t.text ≡ true) ts

-- the word is one for the element
abbrev pub IsWord : Element → Word → Type 0
IsWord (elements.Leaf c) (words.Text s) = IsToken c s
IsWord (elements.Leaf c) (words.Number negative n) = ⊥
IsWord elements.Literal (words.Text s) = ⊥
IsWord elements.Literal (words.Number negative n) = Unit {0}
IsWord elements.Index (words.Text s) = IsToken Value s
IsWord elements.Index (words.Number negative n) = Unit {0}
IsWord elements.Map (words.Text s) = IsToken Alias s
IsWord elements.Map (words.Number negative n) = ⊥

abbrev pub AreWords : Element → List Word → Type 0
AreWords e ws = AllByRecursion (IsWord e) ws

-- the fields fit the wants, where the first k are left out
unfoldable pub Fits : List Want → ℕ → List Field → Type 0
Fits [] k [] = Unit {0}
Fits [] k (f ∷ fs) = ⊥
Fits (w ∷ ws) (suc k) fs = Fits ws k fs
Fits (wants.Fixed l ∷ ws) zero fs = Fits ws zero fs
Fits (wants.Space ∷ ws) zero fs = Fits ws zero fs
Fits (wants.Kept l ∷ ws) zero fs = Fits ws zero fs
Fits (wants.One e r ∷ ws) zero (fields.One w ∷ fs) = IsWord e w × Fits ws zero fs
Fits (wants.Listed e close r ∷ ws) zero (fields.Several us ∷ fs) = AreWords e us × Fits ws zero fs
Fits (wants.More e r ∷ ws) zero (fields.Several us ∷ fs) = AreWords e us × Fits ws zero fs
Fits (wants.Dense ∷ ws) zero (fields.Dense ts ∷ fs) = AreDense ts × Fits ws zero fs
Fits (wants.Maybe l n ∷ ws) zero (fields.There true ∷ fs) = Fits ws zero fs
Fits (wants.Maybe l n ∷ ws) zero (fields.There false ∷ fs) = Fits ws n fs
Fits (wants.Jump n ∷ ws) zero fs = Fits ws n fs
Fits ws zero fs = ⊥
