-- Numbers in order, and tables of them.
use Rattle.std.proofs.Common.{◌≡◌, ℕ, zero, suc, ◌+◌, ◌-◌, ◌<◌, ◌∷◌, ◌++◌, map, length, refl, ap, ◌∙◌, arith}
use Rattle.std.proofs.lemmas.List.{length-map}
use Rattle.mlir_meaning.specs.Grids.{count_up}
use Rattle.payload_forms.specs.Moved.{captured_step}

pub count_length : (a n : ℕ) → length (count_up a n) ≡ n
count_length a zero = refl
count_length a (suc n) = ap suc (count_length (a + 1) n)

-- the numbers that are left from place k on
pub count_next : (a k n : ℕ) → k < n → count_up (a + k) (n - k) ≡ (a + k) ∷ count_up (a + (k + 1)) (n - (k + 1))
count_next a k n l =
    let e : n - k ≡ suc (n - (k + 1)) = omega arith in
    let f : a + k + 1 ≡ a + (k + 1) = omega arith in
    ap (count_up (a + k)) e ∙ ap (λ m. (a + k) ∷ count_up m (n - (k + 1))) f

-- the first of the numbers from k up to n
pub count_first : (k n : ℕ) → k < n → count_up k (n - k) ≡ k ∷ count_up (k + 1) (n - (k + 1))
count_first k n l = let e : n - k ≡ suc (n - (k + 1)) = omega arith in ap (count_up k) e

pub count_append : (first a b : ℕ) → count_up first (a + b) ≡ count_up first a ++ count_up (first + a) b
count_append first zero b =
    let e : zero + b ≡ b = omega arith in
    let f : first ≡ first + zero = omega arith in
    ap (count_up first) e ∙ ap (λ n. count_up n b) f
count_append first (suc a) b =
    let e : suc a + b ≡ suc (a + b) = omega arith in
    let f : first + 1 + a ≡ first + suc a = omega arith in
    ap (count_up first) e
    ∙ ap (λ ns. first ∷ ns) (count_append (first + 1) a b)
    ∙ ap (λ n. first ∷ (count_up (first + 1) a ++ count_up n b)) f

-- so many steps stand in front
pub front_length : (c : ℕ) → length (map captured_step (count_up 0 c)) ≡ c
front_length c = length-map (count_up 0 c) captured_step ∙ count_length 0 c
