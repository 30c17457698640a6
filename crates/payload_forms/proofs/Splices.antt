-- Where entries stand after others took the place of one.
use Rattle.std.proofs.Common.{◌≡◌, ℕ, zero, suc, ◌+◌, ◌-◌, ◌<◌, ◌≤◌, List, [], ◌∷◌, ◌++◌, length, take, drop, refl, ap, sym, ◌∙◌, arith, append_assoc}
use Rattle.std.proofs.lemmas.List.{take_rest}
use Rattle.payload_forms.specs.Joined.{spliced, other}

pub other_below : (k n i : ℕ) → i < k → other k n i ≡ i
other_below zero n i l = absurd (omega arith)
other_below (suc k) n zero l = refl
other_below (suc k) n (suc i) l = ap suc (other_below k n i (omega arith))

pub other_at : (k n i : ℕ) → i ≡ k → other k n i ≡ k
other_at zero n zero e = refl
other_at zero n (suc i) e = absurd (omega arith)
other_at (suc k) n zero e = absurd (omega arith)
other_at (suc k) n (suc i) e = ap suc (other_at k n i (omega arith))

pub other_above : (k n i : ℕ) → k < i → other k n i ≡ n + (i - 1)
other_above zero n zero l = absurd (omega arith)
other_above zero n (suc i) l = omega arith
other_above (suc k) n zero l = absurd (omega arith)
other_above (suc k) n (suc i) l = let e = other_above k n i (omega arith) in omega (arith, e, l)

pub spliced_within : {A : Type 0} (k : ℕ) (ys xs : List A) → k < length xs → spliced k ys xs ≡ take k xs ++ (ys ++ drop (suc k) xs)
spliced_within k ys [] l = absurd (omega arith)
spliced_within zero ys (x ∷ xs) l = refl
spliced_within (suc k) ys (x ∷ xs) l = ap (λ zs. x ∷ zs) (spliced_within k ys xs (omega arith))

pub spliced_past : {A : Type 0} (k : ℕ) (ys xs : List A) → length xs ≤ k → spliced k ys xs ≡ xs
spliced_past k ys [] l = refl
spliced_past zero ys (x ∷ xs) l = absurd (omega arith)
spliced_past (suc k) ys (x ∷ xs) l = ap (λ zs. x ∷ zs) (spliced_past k ys xs (omega arith))

-- the front, the others, and what stands behind
pub spliced_by_parts : {A : Type 0} (k : ℕ) (ys xs none front both all : List A) → k < length xs → none ≡ [] → front ≡ none ++ take k xs →
    both ≡ front ++ ys → all ≡ both ++ take (length xs - (k + 1)) (drop (k + 1) xs) → all ≡ spliced k ys xs
spliced_by_parts k ys xs none front both all l e1 e2 e3 e4 =
    let begins : both ≡ take k xs ++ ys = e3 ∙ (λ i. (e2 ∙ (λ j. e1 j ++ take k xs)) i ++ ys) in
    let next : k + 1 ≡ suc k = omega arith in
    e4
    ∙ (λ i. begins i ++ take_rest xs (k + 1) i)
    ∙ append_assoc (take k xs) ys (drop (k + 1) xs)
    ∙ (λ i. take k xs ++ (ys ++ drop (next i) xs))
    ∙ sym (spliced_within k ys xs l)
