-- A list that is mapped in place.
use Rattle.std.proofs.Common.{◌≡◌, ◌<◌, ℕ, zero, suc, ◌+◌, List, [], ◌∷◌, ◌++◌, map, length, take, drop, get_or, slice_set, add-one, refl, sym, ap, ◌∙◌, arith}

walk : {A : Type 0} (f : A → A) (xs : List A) (i : ℕ) (d : A) → i < length xs →
    slice_set (map f (take i xs) ++ drop i xs) i (f (get_or (map f (take i xs) ++ drop i xs) i d)) ≡ map f (take (suc i) xs) ++ drop (suc i) xs
walk f [] i d h = absurd (omega (arith, h))
walk f (x ∷ xs) zero d h = refl
walk f (x ∷ xs) (suc i) d h = ap (λ ys. f x ∷ ys) (walk f xs i d (omega (arith, h)))

pub mapped : {A : Type 0} (f : A → A) (xs ys : List A) (i : ℕ) (v d : A) → i < length xs → v ≡ f (get_or ys i d) → ys ≡ map f (take i xs) ++ drop i xs →
    slice_set ys i v ≡ map f (take (i + 1) xs) ++ drop (i + 1) xs
mapped f xs ys i v d h e g = ap (slice_set ys i) e ∙ ap (λ zs. slice_set zs i (f (get_or zs i d))) g ∙ rw add-one (walk f xs i d h)

pub whole : {A : Type 0} (xs ys : List A) (n : ℕ) → length xs ≡ n → take n (xs ++ ys) ≡ xs
whole [] ys zero h = refl
whole [] ys (suc n) h = absurd (omega (arith, h))
whole (x ∷ xs) ys zero h = absurd (omega (arith, h))
whole (x ∷ xs) ys (suc n) h = ap (λ zs. x ∷ zs) (whole xs ys n (omega (arith, h)))

-- what isn't reached yet is as it was
pub not_yet : {A : Type 0} (f : A → A) (xs ys : List A) (i : ℕ) (d : A) → i < length xs → ys ≡ map f (take i xs) ++ drop i xs → drop i xs ≡ get_or ys i d ∷ drop (i + 1) xs
not_yet {A = A} f xs ys i d h g = rw add-one (at_index xs i h) ∙ ap (λ zs. get_or zs i d ∷ drop (i + 1) xs) (sym g) where
  at_index : (xs : List A) (i : ℕ) → i < length xs → drop i xs ≡ get_or (map f (take i xs) ++ drop i xs) i d ∷ drop (suc i) xs
  at_index [] i h = absurd (omega (arith, h))
  at_index (x ∷ xs) zero h = refl
  at_index (x ∷ xs) (suc i) h = at_index xs i (omega (arith, h))
