-- Numbers below n without repeats: as many as n are all of them.
use Rattle.std.proofs.Common.{◌≡◌, ◌≢◌, ℕ, zero, suc, ◌+◌, ◌<◌, ◌≤◌, ◌==◌, ◌||◌, ◌&&◌, Bool, true, false, List, [], ◌∷◌, length, ⊎_elim, refl, ap, sym, ◌∙◌, arith, eqb-true, ltb-true, lt-ltb}
use Rattle.std.specs.Prelude.{nat_lt, if◌then◌else◌}
use Rattle.std.specs.List.{list_all}
use Rattle.std.proofs.lemmas.Bool.{and_parts, and_from}
use Rattle.std.proofs.lemmas.Bool.Decides.{eqb_tells}
use Rattle.affine_maps.specs.Permutation.{is_among, repeats}

either_part : (a b : Bool) → (a || b) ≡ false → (a ≡ false) × (b ≡ false)
either_part true b e = absurd cc
either_part false b e = (refl, e)

-- without the first n
abbrev without : ℕ → List ℕ → List ℕ
without n [] = []
without n (m ∷ ms) = if m == n then ms else m ∷ without n ms

-- the front of a list without n, by the test
front_without : (n m : ℕ) (ms : List ℕ) (P : List ℕ → Type 0) → ((m == n) ≡ true → P ms) → ((m == n) ≡ false → P (m ∷ without n ms)) → P (without n (m ∷ ms))
front_without n m ms P h k = by_test (m == n) h k where
  by_test : (b : Bool) → (b ≡ true → P ms) → (b ≡ false → P (m ∷ without n ms)) → P (if b then ms else m ∷ without n ms)
  by_test true h k = h refl
  by_test false h k = k refl

still_absent : (q n : ℕ) (ms : List ℕ) → is_among q ms ≡ false → is_among q (without n ms) ≡ false
still_absent q n [] h = refl
still_absent q n (m ∷ ms) h =
    let parts = either_part (m == q) (is_among q ms) h in
    front_without n m ms (λ xs. is_among q xs ≡ false) (λ e. parts.1) (λ e. (λ j. parts.0 j || still_absent q n ms parts.1 j))

still_distinct : (n : ℕ) (ms : List ℕ) → repeats ms ≡ false → repeats (without n ms) ≡ false
still_distinct n [] h = refl
still_distinct n (m ∷ ms) h =
    let parts = either_part (is_among m ms) (repeats ms) h in
    front_without n m ms (λ xs. repeats xs ≡ false) (λ e. parts.1) (λ e. (λ j. still_absent m n ms parts.0 j || still_distinct n ms parts.1 j))

one_fewer : (n : ℕ) (ms : List ℕ) → length ms ≤ length (without n ms) + 1
one_fewer n [] = omega arith
one_fewer n (m ∷ ms) =
    let rest = one_fewer n ms in
    front_without n m ms (λ xs. length (m ∷ ms) ≤ length xs + 1) (λ e. omega arith) (λ e. omega (arith, rest))

below_rest : (n : ℕ) (ms : List ℕ) → list_all (λ x. nat_lt x (suc n)) ms ≡ true → is_among n ms ≡ false → list_all (λ x. nat_lt x n) ms ≡ true
below_rest n [] h a = refl
below_rest n (m ∷ ms) h a =
    let both = and_parts (nat_lt m (suc n)) _ h in
    let parts = either_part (m == n) (is_among n ms) a in
    and_from _ _ (lt-ltb m n (apart m parts.0 (ltb-true m (suc n) both.0))) (below_rest n ms both.1 parts.1) where
      apart : (m : ℕ) → (m == n) ≡ false → m < suc n → m < n
      apart m e l = ⊎_elim (λ t. absurd (let q : true ≡ false = sym t.0 ∙ e in cc)) (λ t. let d = t.1 in less m d l) (eqb_tells m n) where
        less : (m : ℕ) → m ≢ n → m < suc n → m < n
        less m d l = omega (arith, d, l)

below_without : (n : ℕ) (ms : List ℕ) → list_all (λ x. nat_lt x (suc n)) ms ≡ true → repeats ms ≡ false → list_all (λ x. nat_lt x n) (without n ms) ≡ true
below_without n [] h d = refl
below_without n (m ∷ ms) h d =
    let both = and_parts (nat_lt m (suc n)) _ h in
    let parts = either_part (is_among m ms) (repeats ms) d in
    front_without n m ms (λ xs. list_all (λ x. nat_lt x n) xs ≡ true)
    (λ e. below_rest n ms both.1 (ap (λ k. is_among k ms) (sym (eqb-true m n e)) ∙ parts.0))
    (λ e. (λ j. here m e (ltb-true m (suc n) both.0) j && below_without n ms both.1 parts.1 j)) where
      here : (m : ℕ) → (m == n) ≡ false → m < suc n → nat_lt m n ≡ true
      here m e l = (and_parts (nat_lt m n) true (below_rest n (m ∷ []) (and_from _ _ (lt-ltb m (suc n) l) refl) (λ j. e j || false))).0

few : (n : ℕ) (ms : List ℕ) → list_all (λ x. nat_lt x n) ms ≡ true → repeats ms ≡ false → length ms ≤ n
few zero [] h d = omega arith
few zero (m ∷ ms) h d = absurd (let l = ltb-true m 0 (and_parts (nat_lt m 0) _ h).0 in omega (arith, l))
few (suc n) ms h d =
    let rest = few n (without n ms) (below_without n ms h d) (still_distinct n ms d) in
    let long = one_fewer n ms in omega (arith, rest, long)

-- a permutation has each number below its length
pub has_each : (n : ℕ) (ms : List ℕ) → list_all (λ x. nat_lt x n) ms ≡ true → repeats ms ≡ false → length ms ≡ n → (k : ℕ) → k < n → is_among k ms ≡ true
has_each n ms h d e k l = by_test (is_among k ms) refl where
  by_test : (b : Bool) → is_among k ms ≡ b → is_among k ms ≡ true
  by_test true q = q
  by_test false q =
      let more = few n (k ∷ ms) (and_from _ _ (lt-ltb k n l) h) (λ j. q j || d j) in
      absurd (omega (arith, more, e))
