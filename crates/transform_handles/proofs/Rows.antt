-- Rows that die one after the other.
use Rattle.std.proofs.Common.{◌≡◌, ◌<◌, ℕ, zero, suc, ◌+◌, List, [], ◌∷◌, ◌++◌, map, length, take, drop, get_or, slice_set, add-one, refl, ap, ◌∙◌, arith}
use Rattle.std.proofs.lemmas.List.{take-append-le, take_all}

walk : {A : Type 0} (f : A → A) (xs : List A) (i : ℕ) (d : A) → i < length xs →
    slice_set (map f (take i xs) ++ drop i xs) i (f (get_or (map f (take i xs) ++ drop i xs) i d)) ≡ map f (take (suc i) xs) ++ drop (suc i) xs
walk f [] i d h = absurd (omega (arith, h))
walk f (x ∷ xs) zero d h = refl
walk f (x ∷ xs) (suc i) d h = ap (λ ys. f x ∷ ys) (walk f xs i d (omega (arith, h)))

pub row_dies : {A : Type 0} (f : A → A) (xs rows : List A) (i : ℕ) (v d : A) → i < length xs → v ≡ f (get_or rows i d) → rows ≡ map f (take i xs) ++ drop i xs →
    slice_set rows i v ≡ map f (take (i + 1) xs) ++ drop (i + 1) xs
row_dies f xs rows i v d h e g =
    ap (slice_set rows i) e ∙ ap (λ ys. slice_set ys i (f (get_or ys i d))) g ∙ rw add-one (walk f xs i d h)

pub whole : {A : Type 0} (xs ys : List A) (n : ℕ) → length xs ≡ n → take n (xs ++ ys) ≡ xs
whole xs ys n h = take-append-le n xs ys (omega (arith, h)) ∙ take_all n xs (omega (arith, h))
