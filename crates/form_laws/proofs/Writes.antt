-- What is written for a form is spelled by it: one induction over the form.
use Rattle.std.proofs.Common.{ℕ, zero, suc, true, false, List, [], ◌∷◌, map, refl}
use Rattle.text_format.specs.declared.class.Class.TheVariants.{Exactly, DenseToken}
use Rattle.text_format.specs.declared.lexeme.Lexeme.{Lexeme}
use Rattle.text_format.specs.declared.lexeme.Lexeme.TheVariants.{Comma}
use Rattle.text_format.specs.Lexemes.{lexeme_kind, lexeme_text}
use Rattle.text_format.specs.Formats.{Format}
use Rattle.text_format.specs.Writers.{Writer}
use Rattle.text_format.proofs.Written.{IsWritten, AreWritten, put-w, lay-w, sp-w, pair-w, many-w}
use Rattle.form_table.specs.declared.part.Part.{Part}
use Rattle.form_table.specs.declared.field.Word.{Word}
use Rattle.form_table.specs.declared.field.Word.TheVariants as words
use Rattle.form_table.specs.declared.field.Field.{Field}
use Rattle.form_table.specs.declared.field.Field.TheVariants as fields
use Rattle.form_table.specs.declared.want.Element.{Element}
use Rattle.form_table.specs.declared.want.Element.TheVariants as elements
use Rattle.form_table.specs.declared.want.Want.{Want}
use Rattle.form_table.specs.declared.want.Want.TheVariants as wants
use Rattle.form_table.specs.Spelling.{SpellingShape}
use Rattle.form_table.specs.Entries.{dense_piece, literal, entry, next}
use Rattle.form_table.specs.Parts.{one, listed, then_parts, formats}
use Rattle.form_table.specs.Writing.{word_w, next_w, listed_w, dense_piece_w, one_w, kept_w, before_parts, written}
use Rattle.form_laws.specs.Fits.{IsWord, AreWords, Fits}

word-w : (e : Element) (w : Word) → IsWord e w → IsWritten (entry e) (word_w e w)
unfolding entry literal
word-w (elements.Leaf c) (words.Text s) h = record { law = λ at. refl }
word-w (elements.Leaf c) (words.Number negative n) h = absurd h
word-w elements.Literal (words.Text s) h = absurd h
word-w elements.Literal (words.Number false n) h = record { law = λ at. refl }
word-w elements.Literal (words.Number true n) h = record { law = λ at. refl }
word-w elements.Index (words.Text s) h = record { law = λ at. refl }
word-w elements.Index (words.Number false n) h = record { law = λ at. refl }
word-w elements.Index (words.Number true n) h = record { law = λ at. refl }
word-w elements.Map (words.Text s) h = record { law = λ at. refl }
word-w elements.Map (words.Number negative n) h = absurd h

next-w : (e : Element) (w : Word) → IsWord e w → IsWritten (next e) (next_w e w)
unfolding next
next-w e w h = let p = pair-w (put-w (Exactly Comma) (lexeme_kind Comma) (lexeme_text Comma)) (sp-w (word-w e w h)) in record { law = λ at. p.law at }

more-w : (e : Element) (ws : List Word) → AreWords e ws → AreWritten (next e) (map (next_w e) ws)
more-w e [] h = tt
more-w e (w ∷ ws) h = (next-w e w h.0, more-w e ws h.1)

listed-w : (e : Element) (close : Lexeme) (ws : List Word) → AreWords e ws → IsWritten (listed e close) (listed_w e close ws)
unfolding listed
listed-w e close [] h = record { law = λ at. refl }
listed-w e close (w ∷ ws) h =
    let p = pair-w (word-w e w h.0) (many-w (Exactly Comma) (next e) (map (next_w e) ws) (more-w e ws h.1) (put-w (Exactly close) (lexeme_kind close) (lexeme_text close))) in
    record { law = λ at. p.law at }

dense_piece-w : (s : SpellingShape) → IsWritten dense_piece (dense_piece_w s)
unfolding dense_piece
dense_piece-w s = record { law = λ at. refl }

dense-w : (ts : List SpellingShape) → AreWritten dense_piece (map dense_piece_w ts)
dense-w [] = tt
dense-w (t ∷ ts) = (dense_piece-w t, dense-w ts)

one-w : (e : Element) (w : Word) → IsWord e w → IsWritten (one e) (one_w e w)
one-w e w h = let p = word-w e w h in record { law = λ at. p.law at }

kept-w : (l : Lexeme) → IsWritten (one (elements.Leaf (Exactly l))) (kept_w l)
unfolding entry
kept-w l = record { law = λ at. refl }

parts-w : {f : Format Part} {g : Format (List Part)} {v : Writer Part} {w : Writer (List Part)} → IsWritten f v → IsWritten g w → IsWritten (then_parts f g) (before_parts v w)
parts-w h k = let p = pair-w h k in record { law = λ at. p.law at }

pub written-w : (ws : List Want) (k : ℕ) (fs : List Field) → Fits ws k fs → IsWritten (formats ws k) (written ws k fs)
unfolding Fits formats written
written-w [] k [] h = record { law = λ at. refl }
written-w [] k (f ∷ fs) h = absurd h
written-w (w ∷ ws) (suc k) fs h = written-w ws k fs h
written-w (wants.Fixed l ∷ ws) zero fs h = lay-w l (written-w ws zero fs h)
written-w (wants.Space ∷ ws) zero fs h = sp-w (written-w ws zero fs h)
written-w (wants.Kept l ∷ ws) zero fs h = parts-w (kept-w l) (written-w ws zero fs h)
written-w (wants.One e r ∷ ws) zero (fields.One w ∷ fs) h = parts-w (one-w e w h.0) (written-w ws zero fs h.1)
written-w (wants.Listed e close r ∷ ws) zero (fields.Several us ∷ fs) h = parts-w (listed-w e close us h.0) (written-w ws zero fs h.1)
written-w (wants.More e r ∷ ws) zero (fields.Several us ∷ fs) h =
    let p = many-w (Exactly Comma) (next e) (map (next_w e) us) (more-w e us h.0) (written-w ws zero fs h.1) in
    record { law = λ at. p.law at }
written-w (wants.Dense ∷ ws) zero (fields.Dense ts ∷ fs) h =
    let p = many-w DenseToken dense_piece (map dense_piece_w ts) (dense-w ts) (written-w ws zero fs h.1) in
    record { law = λ at. p.law at }
written-w (wants.Maybe l n ∷ ws) zero (fields.There true ∷ fs) h = let k = written-w ws zero fs h in record { law = λ at. k.law at }
written-w (wants.Maybe l n ∷ ws) zero (fields.There false ∷ fs) h = let k = written-w ws n fs h in record { law = λ at. k.law at }
written-w (wants.Jump n ∷ ws) zero fs h = written-w ws n fs h
written-w ws zero fs h = absurd h
