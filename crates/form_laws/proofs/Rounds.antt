-- What is written says the fields that were written: one induction over the form.
use Rattle.std.proofs.Common.{◌≡◌, ℕ, ◌+◌, zero, suc, true, false, List, [], ◌∷◌, length, Some, refl, ap}
use Rattle.text_format.specs.Pieces.{bytes_of}
use Rattle.text_format.proofs.Numerals.{numeral_writes}
use Rattle.form_table.specs.declared.field.Word.{Word}
use Rattle.form_table.specs.declared.field.Word.TheVariants as words
use Rattle.form_table.specs.declared.field.Field.{Field}
use Rattle.form_table.specs.declared.field.Field.TheVariants as fields
use Rattle.form_table.specs.declared.want.Element.{Element}
use Rattle.form_table.specs.declared.want.Want.{Want}
use Rattle.form_table.specs.declared.want.Want.TheVariants as wants
use Rattle.form_table.specs.Spelling.{SpellingShape}
use Rattle.form_table.specs.Writing.{word_w, more_w, dense_piece_w, dense_w, written}
use Rattle.form_laws.specs.Fields.{word_of, words_of, spellings_of, fields_of}
use Rattle.form_laws.specs.Fits.{Fits}

word_says : (e : Element) (w : Word) (at : ℕ) → word_of ((word_w e w).tree at) ≡ Some w
word_says e (words.Text s) at = refl
word_says e (words.Number false n) at = ap (λ m. Some (words.Number false m)) (numeral_writes n).1
word_says e (words.Number true n) at = ap (λ m. Some (words.Number true m)) (numeral_writes n).1

words_say : (e : Element) (ws : List Word) (at : ℕ) → words_of ((more_w e ws).tree at) ≡ Some ws
words_say e [] at = refl
words_say e (w ∷ ws) at = rw (word_says e w _, words_say e ws _) refl

dense_says : (ts : List SpellingShape) (at : ℕ) → spellings_of ((dense_w ts).tree at) ≡ ts
dense_says [] at = refl
dense_says (t ∷ ts) at = ap (λ us. t ∷ us) (dense_says ts (at + length (bytes_of (dense_piece_w t).pieces)))

pub written_says : (ws : List Want) (k : ℕ) (fs : List Field) → Fits ws k fs → (at : ℕ) → fields_of ws k ((written ws k fs).tree at) ≡ Some fs
unfolding Fits written fields_of
written_says [] k [] h at = refl
written_says [] k (f ∷ fs) h at = absurd h
written_says (w ∷ ws) (suc k) fs h at = written_says ws k fs h at
written_says (wants.Fixed l ∷ ws) zero fs h at = written_says ws zero fs h _
written_says (wants.Space ∷ ws) zero fs h at = written_says ws zero fs h _
written_says (wants.Kept l ∷ ws) zero fs h at = written_says ws zero fs h _
written_says (wants.One e r ∷ ws) zero (fields.One w ∷ fs) h at = rw (word_says e w at, written_says ws zero fs h.1 _) refl
written_says (wants.Listed e close r ∷ ws) zero (fields.Several [] ∷ fs) h at = rw (written_says ws zero fs h.1 _) refl
written_says (wants.Listed e close r ∷ ws) zero (fields.Several (u ∷ us) ∷ fs) h at = rw (word_says e u at, words_say e us _, written_says ws zero fs h.1 _) refl
written_says (wants.More e r ∷ ws) zero (fields.Several us ∷ fs) h at = rw (words_say e us at, written_says ws zero fs h.1 _) refl
written_says (wants.Dense ∷ ws) zero (fields.Dense ts ∷ fs) h at = rw (dense_says ts at, written_says ws zero fs h.1 _) refl
written_says (wants.Maybe l n ∷ ws) zero (fields.There true ∷ fs) h at = rw (written_says ws zero fs h at) refl
written_says (wants.Maybe l n ∷ ws) zero (fields.There false ∷ fs) h at = rw (written_says ws n fs h at) refl
written_says (wants.Jump n ∷ ws) zero fs h at = written_says ws n fs h at
written_says ws zero fs h at = absurd h
