-- Reading many, as a loop does.
use Rattle.std.proofs.Common.{◌≡◌, ℕ, zero, suc, true, false, List, [], ◌∷◌, ◌++◌, refl, sym, ap, ◌∙◌, append_assoc, arith}
use Rattle.std.proofs.lemmas.List.{append-nil}
use Rattle.text_format.specs.declared.lexeme.Lexeme.{Lexeme}
use Rattle.text_format.specs.declared.lexeme.Lexeme.TheVariants.{Comma}
use Rattle.text_format.specs.declared.class.Class.{Class}
use Rattle.text_format.specs.declared.class.Class.TheVariants.{Exactly}
use Rattle.text_format.specs.Formats.{State, sees, after_fixed, Format, ◌▸◌, onto, many_in, weight, many_at, list_before, leaf_at, list_with_close}
use Rattle.text_format.specs.Laws.{Reads, begins}
use Rattle.text_format.specs.Many.{lighter, many_any, many_none, many_once}

-- what was read before, and what is still read
abbrev pub with_front : {A : Type 0} → List A → List A × State → List A × State
with_front front r = (front ++ r.0, r.1)

-- a list up to its closing token, where it has an item
abbrev pub list_at : {A : Type 0} → Format A → State → List A × State
list_at f s = onto (f.read s).0 (many_at (Exactly Comma) (Comma ▸ f) (f.read s).1)

unrolled : {A : Type 0} (f : Format A) → Reads f → (c : Class) → ((x : A) → begins c (f.spell x) ≡ true) → (n : ℕ) (s : State) → weight s ≡ n → sees c s ≡ true → many_in c f n s ≡ onto (f.read s).0 (many_at c f (f.read s).1)
unrolled f p c first zero s len e = let h = lighter f p c first s e in absurd (omega (arith, h, len))
unrolled f p c first (suc n) s len e =
    let h = lighter f p c first s e in
    many_once f c n s e ∙ ap (onto (f.read s).0) (many_any f p c first n (weight (f.read s).1) (f.read s).1 (omega (arith, h, len)) (omega arith))

-- one more item
pub goes_on : {A : Type 0} (f : Format A) → Reads f → (c : Class) → ((x : A) → begins c (f.spell x) ≡ true) → (front : List A) (s new : State) (x : A) (total : List A × State)
    → sees c s ≡ true → (x, new) ≡ f.read s → with_front front (many_at c f s) ≡ total → with_front (front ++ x ∷ []) (many_at c f new) ≡ total
goes_on f p c first front s new x total e r so_far =
    let one : many_at c f s ≡ onto x (many_at c f new) = unrolled f p c first (weight s) s refl e ∙ ap (λ y. onto y.0 (many_at c f y.1)) (sym r) in
    let m = many_at c f new in
    ap (λ xs. (xs, m.1)) (append_assoc front (x ∷ []) m.0) ∙ (sym (ap (with_front front) one) ∙ so_far)

-- no more
pub is_done : {A : Type 0} (f : Format A) (c : Class) (front : List A) (s : State) (total : List A × State) → sees c s ≡ false → with_front front (many_at c f s) ≡ total → (front, s) ≡ total
is_done f c front s total e so_far = sym (ap (λ xs. (xs, s)) (append-nil front)) ∙ (sym (ap (with_front front) (many_none f c (weight s) s e)) ∙ so_far)

pub list_closed : {A : Type 0} (f : Format A) (close : Lexeme) (s : State) → sees (Exactly close) s ≡ true → (list_before close f).read s ≡ ([], after_fixed close s)
unfolding list_before
list_closed f close s e = rw e refl

pub list_open : {A : Type 0} (f : Format A) (close : Lexeme) (s : State) → sees (Exactly close) s ≡ false → (list_before close f).read s ≡ ((list_at f s).0, after_fixed close (list_at f s).1)
unfolding list_before
list_open f close s e = rw e refl

pub closed_open : {A : Type 0} (f : Format A) (close : Lexeme) (s : State) → sees (Exactly close) s ≡ false
    → (list_with_close close f).read s ≡ (((list_at f s).0, (leaf_at (Exactly close) (list_at f s).1).0), (leaf_at (Exactly close) (list_at f s).1).1)
unfolding list_with_close
closed_open f close s e = rw e refl
