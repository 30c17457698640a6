-- The bytes of the parts of an operation, want by want.
use Rattle.std.specs.Prelude.{◌≡◌, ℕ, zero, Bool, true, false, List, [], ◌∷◌, ◌++◌, drop, Result, Ok, Err, Option, Some, None, codes}
use Rattle.std.specs.Borrow.{Bor}
use Rattle.text_format.specs.declared.lexeme.Lexeme.{Lexeme}
use Rattle.text_format.specs.Lexemes.{lexeme_text}
use Rattle.text_format.specs.Numerals.{numeral}
use Rattle.text_format.specs.Pieces.{bytes_of}
use Rattle.text_format.specs.Writers.{unbuilt_text}
use Rattle.mlir_base.specs.declared.memory.Memory.{Memory}
use Rattle.form_table.specs.declared.field.Word.{Word}
use Rattle.form_table.specs.declared.field.Word.TheVariants as words
use Rattle.form_table.specs.declared.field.Field.{Field}
use Rattle.form_table.specs.declared.field.Field.TheVariants as fields
use Rattle.form_table.specs.declared.want.Want.{Want}
use Rattle.form_table.specs.declared.want.Want.TheVariants as wants
use Rattle.form_table.specs.Spelling.{SpellingShape}
use Rattle.form_table.specs.Writing.{gap_behind, written}

abbrev pub number_text : Bool → ℕ → List ℕ
number_text false n = numeral n
number_text true n = codes "-" ++ numeral n

abbrev pub word_text : Word → List ℕ
word_text (words.Text s) = s.text
word_text (words.Number negative n) = number_text negative n

-- each behind a comma
abbrev pub more_text : List Word → List ℕ
more_text [] = []
more_text (w ∷ ws) = codes ", " ++ (word_text w ++ more_text ws)

abbrev pub listed_text : Lexeme → List Word → List ℕ
listed_text close [] = lexeme_text close
listed_text close (w ∷ ws) = word_text w ++ (more_text ws ++ lexeme_text close)

abbrev pub dense_text : List SpellingShape → List ℕ
dense_text [] = []
dense_text (t ∷ ts) = t.text ++ (gap_behind t.text ++ dense_text ts)

-- ---- want by want

abbrev pub first_field : List Field → Option Field
first_field [] = None
first_field (f ∷ fs) = Some f

-- what a reference that may be missing points to
abbrev pub pointed : Option (Bor Field) → Option Field
pointed None = None
pointed (Some f) = Some f.now

-- what is written for a want and the field that comes next, how many wants are left out behind it, and how many fields it has taken
unfoldable pub text_at : Want → Option Field → Option (List ℕ × (ℕ × ℕ))
text_at (wants.Fixed l) o = Some (lexeme_text l, (zero, 0))
text_at wants.Space o = Some (codes " ", (zero, 0))
text_at (wants.Kept l) o = Some (lexeme_text l, (zero, 0))
text_at (wants.Jump n) o = Some ([], (n, 0))
text_at (wants.One e r) (Some (fields.One w)) = Some (word_text w, (zero, 1))
text_at (wants.Listed e close r) (Some (fields.Several us)) = Some (listed_text close us, (zero, 1))
text_at (wants.More e r) (Some (fields.Several us)) = Some (more_text us, (zero, 1))
text_at wants.Dense (Some (fields.Dense ts)) = Some (dense_text ts, (zero, 1))
text_at (wants.Maybe l n) (Some (fields.There true)) = Some ([], (zero, 1))
text_at (wants.Maybe l n) (Some (fields.There false)) = Some ([], (n, 1))
text_at w o = None

abbrev pub bytes_or : Option (List ℕ × (ℕ × ℕ)) → List ℕ
bytes_or None = unbuilt_text
bytes_or (Some x) = x.0

-- what the code has written, and what it answers
abbrev pub Puts : List ℕ → List ℕ → Result (Option (ℕ × ℕ)) Memory → Option (List ℕ × (ℕ × ℕ)) → Type 0
Puts old new (Err e) r = Unit {0}
Puts old new (Ok None) r = (new ≡ old ++ unbuilt_text) × (r ≡ None)
Puts old new (Ok (Some x)) r = (new ≡ old ++ bytes_or r) × (r ≡ Some (bytes_or r, x))

-- the bytes of what is written from here on
abbrev pub bytes_at : List Want → ℕ → List Field → List ℕ
bytes_at ws k fs = bytes_of (written ws k fs).pieces

-- the code has written what stands for a want, or that and all behind it
abbrev pub Lays : Want → ℕ → List Field → ℕ → List ℕ → List ℕ → Result (Option (ℕ × ℕ)) Memory → Type 0
Lays w k fs taken old new (Err e) = Unit {0}
Lays w k fs taken old new (Ok None) = (ws : List Want) → new ≡ old ++ bytes_at (w ∷ ws) k (drop taken fs)
Lays w k fs taken old new (Ok (Some x)) = (ws : List Want) → new ++ bytes_at ws x.0 (drop x.1 fs) ≡ old ++ bytes_at (w ∷ ws) k (drop taken fs)
