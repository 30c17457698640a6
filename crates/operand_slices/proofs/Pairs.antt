-- Axis by axis.
use Rattle.std.proofs.Common.{◌≡◌, ◌<◌, ◌≤◌, ◌+◌, ℕ, zero, suc, List, [], ◌∷◌, ◌++◌, map, length, take, get_or, refl, sym, ap, ◌∙◌, arith, add-one}
use Rattle.std.specs.List.{zip}

-- one pair more
paired : {A B C : Type 0} (f : A × B → C) (xs : List A) (ys : List B) (k : ℕ) (d : A) (e : B) → k < length xs → k < length ys →
    take (suc k) (map f (zip xs ys)) ≡ take k (map f (zip xs ys)) ++ f (get_or xs k d, get_or ys k e) ∷ []
paired f [] ys k d e h l = absurd (omega arith)
paired f (x ∷ xs) [] k d e h l = absurd (omega arith)
paired f (x ∷ xs) (y ∷ ys) zero d e h l = refl
paired f (x ∷ xs) (y ∷ ys) (suc k) d e h l = ap (λ zs. f (x, y) ∷ zs) (paired f xs ys k d e (omega arith) (omega arith))

pub pair_step : {A B C : Type 0} (f : A × B → C) (xs : List A) (ys : List B) (k : ℕ) (d : A) (e : B) (all new : List C) (v : C) →
    k < length xs → length ys ≡ length xs →
    all ≡ take k (map f (zip xs ys)) → new ≡ all ++ v ∷ [] → v ≡ f (get_or xs k d, get_or ys k e) → new ≡ take (k + 1) (map f (zip xs ys))
pair_step f xs ys k d e all new v h l g n w =
    n ∙ ap (λ zs. zs ++ v ∷ []) g ∙ ap (λ z. take k (map f (zip xs ys)) ++ z ∷ []) w ∙ sym (paired f xs ys k d e h (omega arith))
    ∙ ap (λ i. take i (map f (zip xs ys))) (sym (add-one k))

pub all_pairs : {A B C : Type 0} (f : A × B → C) (xs : List A) (ys : List B) (k : ℕ) → length xs ≤ k →
    take k (map f (zip xs ys)) ≡ map f (zip xs ys)
all_pairs f [] ys zero h = refl
all_pairs f [] ys (suc k) h = refl
all_pairs f (x ∷ xs) [] zero h = refl
all_pairs f (x ∷ xs) [] (suc k) h = refl
all_pairs f (x ∷ xs) (y ∷ ys) zero h = absurd (omega arith)
all_pairs f (x ∷ xs) (y ∷ ys) (suc k) h = ap (λ zs. f (x, y) ∷ zs) (all_pairs f xs ys k (omega arith))
