-- A list that is mapped in place, and results that are numbered in order.
use Rattle.std.proofs.Common.{◌≡◌, ◌<◌, ℕ, zero, suc, ◌+◌, List, [], ◌∷◌, ◌++◌, map, length, take, drop, get_or, slice_set, add-one, refl, sym, ap, ◌∙◌, arith}
use Rattle.std.proofs.lemmas.List.{length-map, take-append-le, take_all, take_more, length-take-le}
use Rattle.mlir_ir.specs.declared.tree.Ty.{Ty}
use Rattle.mlir_ir.specs.declared.tree.ValueId.{ValueId}
use Rattle.verified_runs.specs.Edits.{renumbered}

walk : {A : Type 0} (f : A → A) (xs : List A) (i : ℕ) (d : A) → i < length xs →
    slice_set (map f (take i xs) ++ drop i xs) i (f (get_or (map f (take i xs) ++ drop i xs) i d)) ≡ map f (take (suc i) xs) ++ drop (suc i) xs
walk f [] i d h = absurd (omega (arith, h))
walk f (x ∷ xs) zero d h = refl
walk f (x ∷ xs) (suc i) d h = ap (λ ys. f x ∷ ys) (walk f xs i d (omega (arith, h)))

pub mapped : {A : Type 0} (f : A → A) (xs ys : List A) (i : ℕ) (v d : A) → i < length xs → v ≡ f (get_or ys i d) → ys ≡ map f (take i xs) ++ drop i xs →
    slice_set ys i v ≡ map f (take (i + 1) xs) ++ drop (i + 1) xs
mapped f xs ys i v d h e g = ap (slice_set ys i) e ∙ ap (λ zs. slice_set zs i (f (get_or zs i d))) g ∙ rw add-one (walk f xs i d h)

pub whole : {A : Type 0} (xs ys : List A) (n : ℕ) → length xs ≡ n → take n (xs ++ ys) ≡ xs
whole xs ys n h = take-append-le n xs ys (omega (arith, h)) ∙ take_all n xs (omega (arith, h))

one_more : (rs : List (ValueId × Ty)) (n : ℕ) (r : ValueId × Ty) → renumbered n (rs ++ r ∷ []) ≡ renumbered n rs ++ (record { 0 = n + length rs }, r.1) ∷ []
one_more [] n r = ap (λ (k : ℕ). (record { 0 = k }, r.1) ∷ []) (let e : n ≡ n + 0 = omega arith in e)
one_more (q ∷ rs) n r =
    ap (λ (qs : List (ValueId × Ty)). (record { 0 = n }, q.1) ∷ qs)
    (one_more rs (n + 1) r ∙ ap (λ (k : ℕ). renumbered (n + 1) rs ++ (record { 0 = k }, r.1) ∷ []) (let e : (n + 1) + length rs ≡ n + suc (length rs) = omega arith in e))

pub renumbered_goes : (rs all new : List (ValueId × Ty)) (i n next : ℕ) (r : ValueId × Ty) (ty : Ty) → i < length rs → r ≡ get_or rs i r → next ≡ n + i → ty ≡ r.1 →
    all ≡ renumbered n (take i rs) → new ≡ all ++ (record { 0 = next }, ty) ∷ [] → new ≡ renumbered n (take (i + 1) rs)
renumbered_goes rs all new i n next r ty l g h t a e =
    e
    ∙ (λ j. a j ++ (record { 0 = (h ∙ ap (λ k. n + k) (sym (length-take-le i rs (omega (arith, l))))) j }, t j) ∷ [])
    ∙ sym (one_more (take i rs) n r)
    ∙ ap (renumbered n) (ap (λ q. take i rs ++ q ∷ []) g ∙ sym (take_more rs i r l))

pub length_of_parts : {A : Type 0} (f : A → A) (xs : List A) (n : ℕ) → length (take n xs ++ map f (drop n xs)) ≡ length xs
length_of_parts f [] zero = refl
length_of_parts f [] (suc n) = refl
length_of_parts f (x ∷ xs) zero = length-map (x ∷ xs) f
length_of_parts f (x ∷ xs) (suc n) = ap suc (length_of_parts f xs n)
