-- The bytes of what is written, want by want.
use Rattle.std.proofs.Common.{◌≡◌, ◌<◌, ◌≤◌, ◌+◌, ◌-◌, ℕ, zero, suc, true, false, List, [], ◌∷◌, ◌++◌, length, drop, get_or, Ok, Option, Some, None, refl, sym, ap, ◌∙◌, append_assoc, arith, codes}
use Rattle.std.proofs.lemmas.List.{append-nil, at_drop_more}
use Rattle.text_format.specs.Lexemes.{lexeme_text}
use Rattle.text_format.specs.Pieces.{Piece, bytes_of}
use Rattle.text_format.specs.Writers.{keep, unbuilt_text}
use Rattle.text_format.specs.declared.class.Class.TheVariants.{Exactly}
use Rattle.text_format.specs.declared.lexeme.Lexeme.{Lexeme}
use Rattle.text_format.proofs.Written.{bytes_append}
use Rattle.form_table.specs.declared.field.Word.{Word}
use Rattle.form_table.specs.declared.field.Word.TheVariants as words
use Rattle.form_table.specs.declared.field.Field.{Field}
use Rattle.form_table.specs.declared.field.Field.TheVariants as fields
use Rattle.form_table.specs.declared.want.Element.{Element}
use Rattle.form_table.specs.declared.want.Want.{Want}
use Rattle.form_table.specs.declared.want.Want.TheVariants as wants
use Rattle.form_table.specs.Spelling.{SpellingShape}
use Rattle.form_table.specs.Writing.{word_w, more_w, listed_w, gap_behind, dense_w, written}
use Rattle.form_table.specs.Texts.{word_text, more_text, listed_text, dense_text, first_field, text_at, bytes_at, bytes_or, Lays}

word_bytes : (e : Element) (w : Word) (qs : List Piece) → bytes_of ((word_w e w).pieces ++ qs) ≡ word_text w ++ bytes_of qs
word_bytes e (words.Text s) qs = refl
word_bytes e (words.Number false n) qs = refl
word_bytes e (words.Number true n) qs = refl

more_bytes : (e : Element) (ws : List Word) → bytes_of (more_w e ws).pieces ≡ more_text ws
more_bytes e [] = refl
more_bytes e (w ∷ ws) = ap (λ (t : List ℕ). codes ", " ++ t) (word_bytes e w (more_w e ws).pieces ∙ ap (λ (t : List ℕ). word_text w ++ t) (more_bytes e ws))

listed_bytes : (e : Element) (close : Lexeme) (ws : List Word) → bytes_of (listed_w e close ws).pieces ≡ listed_text close ws
listed_bytes e close [] = append-nil (lexeme_text close)
listed_bytes e close (w ∷ ws) =
    word_bytes e w ((more_w e ws).pieces ++ (keep Exactly close).pieces)
    ∙ ap (λ (t : List ℕ). word_text w ++ t) (bytes_append (more_w e ws).pieces (keep Exactly close).pieces ∙ ap (λ (t : List ℕ). t ++ (lexeme_text close ++ [])) (more_bytes e ws) ∙ ap (λ (t : List ℕ). more_text ws ++ t) (append-nil (lexeme_text close)))

dense_bytes : (ts : List SpellingShape) → bytes_of (dense_w ts).pieces ≡ dense_text ts
dense_bytes [] = refl
dense_bytes (t ∷ ts) = ap (λ (x : List ℕ). t.text ++ (gap_behind t.text ++ x)) (dense_bytes ts)

-- ---- want by want

abbrev pub then_bytes : List Want → List Field → Option (List ℕ × (ℕ × ℕ)) → List ℕ
then_bytes ws fs None = unbuilt_text
then_bytes ws fs (Some x) = x.0 ++ bytes_at ws x.1.0 (drop x.1.1 fs)

behind_part : (ps qs : List Piece) (b : List ℕ) → bytes_of ps ≡ b → bytes_of (ps ++ qs) ≡ b ++ bytes_of qs
behind_part ps qs b e = bytes_append ps qs ∙ ap (λ (t : List ℕ). t ++ bytes_of qs) e

pub text_next : (w : Want) (ws : List Want) (fs : List Field) → bytes_at (w ∷ ws) zero fs ≡ then_bytes ws fs (text_at w (first_field fs))
unfolding written text_at
text_next (wants.Fixed l) ws fs = refl
text_next wants.Space ws fs = refl
text_next (wants.Kept l) ws fs = refl
text_next (wants.Jump n) ws fs = refl
text_next (wants.One e r) ws (fields.One w ∷ fs) = word_bytes e w (written ws zero fs).pieces
text_next (wants.Listed e close r) ws (fields.Several us ∷ fs) = behind_part (listed_w e close us).pieces (written ws zero fs).pieces (listed_text close us) (listed_bytes e close us)
text_next (wants.More e r) ws (fields.Several us ∷ fs) = behind_part (more_w e us).pieces (written ws zero fs).pieces (more_text us) (more_bytes e us)
text_next wants.Dense ws (fields.Dense ts ∷ fs) = behind_part (dense_w ts).pieces (written ws zero fs).pieces (dense_text ts) (dense_bytes ts)
text_next (wants.Maybe l n) ws (fields.There true ∷ fs) = refl
text_next (wants.Maybe l n) ws (fields.There false ∷ fs) = refl
text_next w ws fs = refl

-- ---- as a loop does

pub lays_out : (w : Want) (k : ℕ) → 0 < k → (fs : List Field) (old : List ℕ) (ws : List Want) → old ++ bytes_at ws (k - 1) fs ≡ old ++ bytes_at (w ∷ ws) k fs
unfolding written
lays_out w zero h fs old ws = absurd (omega (arith, h))
lays_out w (suc k) h fs old ws = let e : suc k - 1 ≡ k = omega arith in ap (λ n. old ++ bytes_at ws n fs) e

none_out : (k : ℕ) → k ≤ 0 → zero ≡ k
none_out k h = omega (arith, h)

drop_none : {A : Type 0} (i : ℕ) → drop {A = A} i [] ≡ []
drop_none zero = refl
drop_none (suc i) = refl

drop_drop : {A : Type 0} (xs : List A) (m n : ℕ) → drop n (drop m xs) ≡ drop (m + n) xs
drop_drop xs zero n = let e : n ≡ 0 + n = omega arith in ap (λ k. drop k xs) e
drop_drop [] (suc m) n = drop_none n ∙ sym (drop_none (suc m + n))
drop_drop (x ∷ xs) (suc m) n = let e : suc m + n ≡ suc (m + n) = omega arith in drop_drop xs m n ∙ ap (λ k. drop k (x ∷ xs)) (sym e)

pub drop_here : {A : Type 0} (xs : List A) (i : ℕ) (d : A) → i < length xs → drop i xs ≡ get_or xs i d ∷ drop (i + 1) xs
drop_here xs i d h = at_drop_more (λ ys. ys) xs i d h

pub lays_want : (w : Want) (k n u : ℕ) → k ≤ 0 → (fs : List Field) (taken next : ℕ) → next ≡ taken + u → (o : Option Field) → o ≡ first_field (drop taken fs) → (old out : List ℕ)
    → out ≡ old ++ bytes_or (text_at w o) → text_at w o ≡ Some (bytes_or (text_at w o), (n, u))
    → (ws : List Want) → out ++ bytes_at ws n (drop next fs) ≡ old ++ bytes_at (w ∷ ws) k (drop taken fs)
lays_want w k n u z fs taken next t o f old out e r ws =
    ap (λ m. out ++ bytes_at ws n (drop m fs)) t
    ∙ ap (λ xs. xs ++ bytes_at ws n (drop (taken + u) fs)) e
    ∙ append_assoc old (bytes_or (text_at w o)) (bytes_at ws n (drop (taken + u) fs))
    ∙ ap (λ gs. old ++ (bytes_or (text_at w o) ++ bytes_at ws n gs)) (sym (drop_drop fs taken u))
    ∙ ap (λ x. old ++ then_bytes ws (drop taken fs) x) (sym r)
    ∙ ap (λ x. old ++ then_bytes ws (drop taken fs) (text_at w x)) f
    ∙ ap (λ x. old ++ x) (sym (text_next w ws (drop taken fs)))
    ∙ ap (λ m. old ++ bytes_at (w ∷ ws) m (drop taken fs)) (none_out k z)

pub lays_none : (w : Want) (k : ℕ) → k ≤ 0 → (fs : List Field) (taken : ℕ) (o : Option Field) → o ≡ first_field (drop taken fs) → (old out : List ℕ) → out ≡ old ++ unbuilt_text → text_at w o ≡ None
    → (ws : List Want) → out ≡ old ++ bytes_at (w ∷ ws) k (drop taken fs)
lays_none w k z fs taken o f old out e r ws =
    e ∙ ap (λ x. old ++ then_bytes ws (drop taken fs) x) (sym r)
    ∙ ap (λ x. old ++ then_bytes ws (drop taken fs) (text_at w x)) f
    ∙ ap (λ x. old ++ x) (sym (text_next w ws (drop taken fs)))
    ∙ ap (λ m. old ++ bytes_at (w ∷ ws) m (drop taken fs)) (none_out k z)

pub lays_all : (k : ℕ) (fs : List Field) (out total : List ℕ) → out ++ bytes_at [] k fs ≡ total → out ≡ total
unfolding written
lays_all k fs out total h = sym (append-nil out) ∙ h

pub stuck_all : (w : Want) (rest all : List Want) (k : ℕ) (fs : List Field) (taken : ℕ) (old out : List ℕ) (o : Option (ℕ × ℕ)) (total : List ℕ)
    → Lays w k fs taken old out (Ok o) → o ≡ None → all ≡ w ∷ rest → old ++ bytes_at all k (drop taken fs) ≡ total → out ≡ total
stuck_all w rest all k fs taken old out None total h n e i = h rest ∙ ap (λ ws. old ++ bytes_at ws k (drop taken fs)) (sym e) ∙ i
stuck_all w rest all k fs taken old out (Some x) total h n e i = absurd (cc n)
