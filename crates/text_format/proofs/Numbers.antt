-- Numbers that are read a digit at a time, where one above the limit counts as the next one.
use Rattle.std.proofs.Common.{◌≡◌, ℕ, suc, ◌+◌, ◌*◌, ◌-◌, ◌<◌, ◌≤◌, Bool, true, false, cond, List, [], ◌∷◌, length, get_or, drop, refl, sym, ap, ◌∙◌, arith, nat_le}
use Rattle.std.proofs.Math.Seq.{drop-cons}
use Rattle.std.proofs.lemmas.Bool.{cond-true, leb-true, leb-false}
use Rattle.text_format.specs.Bytes.{is_digit}
use Rattle.text_format.specs.Types.{least_extent, number_at}

grows_step : (b : Bool) (n : ℕ) (here : List ℕ) (more : ℕ × List ℕ) → n ≤ more.0 → n ≤ (cond b more (n, here)).0
grows_step true n here more h = h
grows_step false n here more h = omega arith

grows : (bs : List ℕ) (n : ℕ) → n ≤ (number_at bs n).0
grows [] n = omega arith
grows (b ∷ bs) n =
    let h = grows bs (n * 10 + (b - 48)) in
    grows_step (is_digit b) n (b ∷ bs) (number_at bs (n * 10 + (b - 48))) (omega (arith, h))

rest_step : (b : Bool) (n m : ℕ) (here : List ℕ) (x y : ℕ × List ℕ) → x.1 ≡ y.1 → (cond b x (n, here)).1 ≡ (cond b y (m, here)).1
rest_step true n m here x y h = h
rest_step false n m here x y h = refl

same_rest : (bs : List ℕ) (n m : ℕ) → (number_at bs n).1 ≡ (number_at bs m).1
same_rest [] n m = refl
same_rest (b ∷ bs) n m = rest_step (is_digit b) n m (b ∷ bs) (number_at bs (n * 10 + (b - 48))) (number_at bs (m * 10 + (b - 48))) (same_rest bs (n * 10 + (b - 48)) (m * 10 + (b - 48)))

large_step : (b : Bool) (n : ℕ) → nat_le n 1048576 ≡ b → 1048576 < n → cond b n 1048577 ≡ 1048577
large_step true n e h = let k = leb-true n 1048576 e in absurd (omega (arith, h, k))
large_step false n e h = refl

large : (n : ℕ) → 1048576 < n → least_extent n ≡ 1048577
large n h = large_step (nat_le n 1048576) n refl h

least_step : (bs : List ℕ) (n : ℕ) (b : Bool) → nat_le n 1048576 ≡ b → least_extent (number_at bs (cond b n 1048577)).0 ≡ least_extent (number_at bs n).0
least_step bs n true e = refl
least_step bs n false e =
    let k : 1048576 < n = leb-false n 1048576 e in
    let h = grows bs n in
    let g = grows bs 1048577 in
    large (number_at bs 1048577).0 (omega (arith, g)) ∙ sym (large (number_at bs n).0 (omega (arith, h, k)))

number_digit : (bytes : List ℕ) (i n : ℕ) → i < length bytes → is_digit (get_or bytes i 0) ≡ true → number_at (drop i bytes) n ≡ number_at (drop (suc i) bytes) (n * 10 + (get_or bytes i 0 - 48))
number_digit bytes i n h e = ap (λ x. number_at x n) (drop-cons bytes i 0 h) ∙ cond-true _ _ _ e

-- one more digit
pub number_goes : (bytes : List ℕ) (i n r : ℕ) (total : ℕ × List ℕ) → i < length bytes → is_digit (get_or bytes i 0) ≡ true → r ≡ least_extent (n * 10 + (get_or bytes i 0 - 48))
    → least_extent (number_at (drop i bytes) n).0 ≡ least_extent total.0 → (number_at (drop i bytes) n).1 ≡ total.1
    → (least_extent (number_at (drop (i + 1) bytes) r).0 ≡ least_extent total.0) × ((number_at (drop (i + 1) bytes) r).1 ≡ total.1)
number_goes bytes i n r total h e k p q =
    let m = n * 10 + (get_or bytes i 0 - 48) in
    let s : i + 1 ≡ suc i = omega arith in
    let d = number_digit bytes i n h e in
    let a = least_step (drop (suc i) bytes) m (nat_le m 1048576) refl in
    let b = same_rest (drop (suc i) bytes) (least_extent m) m in (
      ap (λ x. least_extent (number_at (drop x bytes) r).0) s ∙ ap (λ x. least_extent (number_at (drop (suc i) bytes) x).0) k ∙ a ∙ sym (ap (λ x. least_extent x.0) d) ∙ p,
      ap (λ x. (number_at (drop x bytes) r).1) s ∙ ap (λ x. (number_at (drop (suc i) bytes) x).1) k ∙ b ∙ sym (ap (λ x. x.1) d) ∙ q,
    )
