-- What tests of all terms say of each.
use Rattle.std.proofs.Common.{◌≡◌, ℕ, zero, suc, ◌<◌, ◌+◌, ◌≤◌, ◌&&◌, Bool, true, false, IsTrue, ℤ, pos, List, [], ◌∷◌, length, get_or, nat_lt, arith, refl, drop, ap, ◌+ℤ◌, ◌*ℤ◌}
use Rattle.std.specs.Prelude.{nat_le}
use Rattle.std.specs.List.{list_all}
use Rattle.std.proofs.lemmas.Bool.Decides.{nat_tests}
use Rattle.std.proofs.Common.{add-one}
use Rattle.std.proofs.Math.Seq.{drop-cons}
use Rattle.std.proofs.lemmas.List.{drop_all}
use Rattle.std.proofs.lemmas.Int.{ints}
use Rattle.affine_maps.specs.Value.{weighted_sum}
use Rattle.affine_maps.specs.Terms.{are_small, are_below}
use Rattle.mlir_base.specs.Numbers.{is_in_range}
use Rattle.affine_maps.specs.Map.{terms_fit}

pub and_left : (a b : Bool) → IsTrue (a && b) → IsTrue a
and_left true b h = refl
and_left false b h = h

pub and_right : (a b : Bool) → IsTrue (a && b) → IsTrue b
and_right true b h = h
and_right false b h = absurd (grind arith)

pub all_at : {X : Type 0} (p : X → Bool) (xs : List X) (i : ℕ) (d : X) → IsTrue (list_all p xs) → i < length xs → IsTrue (p (get_or xs i d))
all_at p [] i d h k = absurd (omega arith)
all_at p (x ∷ xs) zero d h k = and_left _ _ h
all_at p (x ∷ xs) (suc i) d h k = all_at p xs i d (and_right _ _ h) (omega arith)

pub and_both : (a b : Bool) → IsTrue a → IsTrue b → IsTrue (a && b)
and_both true b h k = k
and_both false b h k = h

-- the terms of a map's expression: dimensions below the map's, small coefficients, no more terms than dimensions
pub fitting_at : (dims : ℕ) (ts : List (ℕ × ℤ)) (low i : ℕ) (d : ℕ × ℤ) → IsTrue (terms_fit dims ts low) → i < length ts → ((get_or ts i d).0 < dims) × IsTrue (is_in_range (get_or ts i d).1)
fitting_at dims [] low i d h k = absurd (omega arith)
fitting_at dims (t ∷ ts) low zero d h k =
    let a = and_left _ _ (and_left _ _ h) in
    let b = and_right (nat_le low t.0) (nat_lt t.0 dims) a in
    (grind (arith, nat_tests), and_right _ _ (and_right _ _ (and_left _ _ h)))
fitting_at dims (t ∷ ts) low (suc i) d h k = fitting_at dims ts (t.0 + 1) i d (and_right _ _ h) (omega arith)

pub fitting_length : (dims : ℕ) (ts : List (ℕ × ℤ)) (low : ℕ) → IsTrue (terms_fit dims ts low) → low ≤ dims → low + length ts ≤ dims
fitting_length dims [] low h k = omega arith
fitting_length dims (t ∷ ts) low h k =
    let a = and_left _ _ (and_left _ _ h) in
    let b = and_right (nat_le low t.0) (nat_lt t.0 dims) a in
    let c = and_left (nat_le low t.0) (nat_lt t.0 dims) a in
    let e : t.0 < dims = grind (arith, nat_tests) in
    let f : low ≤ t.0 = grind (arith, nat_tests) in
    let g = fitting_length dims ts (t.0 + 1) (and_right _ _ h) (omega arith) in
    omega arith

pub fitting_small : (dims : ℕ) (ts : List (ℕ × ℤ)) (low : ℕ) → IsTrue (terms_fit dims ts low) → IsTrue (are_small ts)
fitting_small dims [] low h = refl
fitting_small dims (t ∷ ts) low h = and_both _ _ (and_right _ _ (and_right _ _ (and_left _ _ h))) (fitting_small dims ts (t.0 + 1) (and_right _ _ h))

pub fitting_below : (dims : ℕ) (ts : List (ℕ × ℤ)) (low : ℕ) → IsTrue (terms_fit dims ts low) → IsTrue (are_below dims ts)
fitting_below dims [] low h = refl
fitting_below dims (t ∷ ts) low h = and_both _ _ (and_right (nat_le low t.0) (nat_lt t.0 dims) (and_left _ _ (and_left _ _ h))) (fitting_below dims ts (t.0 + 1) (and_right _ _ h))

-- one term more of a weighted sum
pub weighted_step : (ts : List (ℕ × ℤ)) (f : ℕ → ℤ) (i : ℕ) (s v whole : ℤ) → i < length ts → s +ℤ weighted_sum (drop i ts) f ≡ whole →
    v ≡ (get_or ts i (0, pos 0)).1 *ℤ f (get_or ts i (0, pos 0)).0 → (s +ℤ v) +ℤ weighted_sum (drop (i + 1) ts) f ≡ whole
weighted_step ts f i s v whole h e g =
    let d = ap (λ xs. weighted_sum xs f) (drop-cons ts i (0, pos 0) h) in
    let n = ap (λ j. weighted_sum (drop j ts) f) (add-one i) in
    regroup _ _ _ _ _ _ _ d n e g where
      regroup : (s v w x y z r : ℤ) → w ≡ x +ℤ y → z ≡ y → s +ℤ w ≡ r → v ≡ x → (s +ℤ v) +ℤ z ≡ r
      regroup s v w x y z r d n e g = omega (arith, ints)

pub weighted_end : (ts : List (ℕ × ℤ)) (f : ℕ → ℤ) (i : ℕ) (s whole : ℤ) → length ts ≤ i → s +ℤ weighted_sum (drop i ts) f ≡ whole → s ≡ whole
weighted_end ts f i s whole h e = ended _ (ap (λ xs. weighted_sum xs f) (drop_all i ts h)) e where
  ended : (w : ℤ) → w ≡ pos 0 → s +ℤ w ≡ whole → s ≡ whole
  ended w d e = omega (arith, ints)

-- what an index within the list gives, whatever the default
pub any_default : {X : Type 0} (xs : List X) (i : ℕ) (d e : X) → i < length xs → get_or xs i d ≡ get_or xs i e
any_default [] i d e h = absurd (omega arith)
any_default (x ∷ xs) zero d e h = refl
any_default (x ∷ xs) (suc i) d e h = any_default xs i d e (omega arith)

pub below_at : (n : ℕ) (ts : List (ℕ × ℤ)) (i : ℕ) → IsTrue (are_below n ts) → i < length ts → (get_or ts i (0, pos 0)).0 < n
below_at n ts i h k = let t = all_at (λ (t : ℕ × ℤ). nat_lt t.0 n) ts i (0, pos 0) h k in grind (arith, nat_tests)
