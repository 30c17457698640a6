-- The dimensions that aren't reductions, in order: they are the output's.
use Rattle.std.proofs.Common.{◌≡◌, ℕ, zero, suc, ◌+◌, ◌<◌, ◌≤◌, ◌==◌, ◌||◌, not, Bool, true, false, List, [], ◌∷◌, length, get_or, ⊎_elim, refl, ap, sym, ◌∙◌, arith}
use Rattle.std.specs.Prelude.{if◌then◌else◌, ⊤}
use Rattle.std.proofs.lemmas.Bool.{true≢false, eq-eqb, ne_eqb, cases_eq, or_parts}
use Rattle.affine_maps.specs.Permutation.{repeats}
use Rattle.mlir_meaning.specs.Grids.{count_up, Each}
use Rattle.mlir_meaning.specs.Points.{has, place_of, kept}
use Rattle.mlir_meaning.proofs.Grids.{each_more}
use Rattle.lane_laws.specs.Lanes.{IsOnce, AreOutputs}
use Rattle.lane_laws.proofs.Transfers.{has_at}
use Rattle.point_laws.proofs.Tables.{each_get}

abbrev IsRising : List ℕ → Type 0
IsRising [] = ⊤
IsRising (x ∷ xs) = Each (λ y. x < y) xs × IsRising xs

rising_place : (a : ℕ) (xs : List ℕ) → IsRising xs → (k : ℕ) → k < length xs → place_of (get_or xs k 0) a xs ≡ a + k
rising_place a [] r k l = absurd (omega arith)
rising_place a (x ∷ xs) r zero l = (λ j. if eq-eqb x x refl j then a else place_of x (a + 1) xs) ∙ omega arith
rising_place a (x ∷ xs) r (suc k) l =
    let m : x < get_or xs k 0 = each_get (λ y. x < y) xs k r.0 (omega arith) in
    (λ j. if ne_eqb x (get_or xs k 0) (λ e. absurd (omega (arith, m, e))) j then a else place_of (get_or xs k 0) (a + 1) xs) ∙ rising_place (a + 1) xs r.1 k (omega arith) ∙ omega arith

module _ (reds : List ℕ) where
  abbrev Kept : ℕ → ℕ → ℕ → Type 0
  Kept a b d = (a ≤ d) × (d < b) × (has reds d ≡ false)

  kept_are : (n a : ℕ) → Each (Kept a (a + n)) (kept reds a (count_up a n))
  kept_are zero a = tt
  kept_are (suc n) a = by (has reds a) refl (each_more (Kept (a + 1) ((a + 1) + n)) (Kept a (a + suc n)) (λ d h. (omega (arith, h.0), omega (arith, h.1), h.2)) (kept reds (a + 1) (count_up (a + 1) n)) (kept_are n (a + 1)))
    where
      by : (b : Bool) → has reds a ≡ b → Each (Kept a (a + suc n)) (kept reds (a + 1) (count_up (a + 1) n)) →
          Each (Kept a (a + suc n)) (if b then kept reds (a + 1) (count_up (a + 1) n) else a ∷ kept reds (a + 1) (count_up (a + 1) n))
      by true e rest = rest
      by false e rest = ((omega arith, omega arith, e), rest)

  kept_rising : (n a : ℕ) → IsRising (kept reds a (count_up a n))
  kept_rising zero a = tt
  kept_rising (suc n) a = by (has reds a) (kept_rising n (a + 1))
    where
      by : (b : Bool) → IsRising (kept reds (a + 1) (count_up (a + 1) n)) → IsRising (if b then kept reds (a + 1) (count_up (a + 1) n) else a ∷ kept reds (a + 1) (count_up (a + 1) n))
      by true rest = rest
      by false rest = (each_more (Kept (a + 1) ((a + 1) + n)) (λ y. a < y) (λ d h. omega (arith, h.0)) (kept reds (a + 1) (count_up (a + 1) n)) (kept_are n (a + 1)), rest)

  kept_has : (n a d : ℕ) → a ≤ d → d < a + n → has reds d ≡ false → has (kept reds a (count_up a n)) d ≡ true
  kept_has zero a d l m h = absurd (omega arith)
  kept_has (suc n) a d l m h =
      ⊎_elim (λ (e : a ≡ d). (λ j. has (if (ap (has reds) e ∙ h) j then kept reds (a + 1) (count_up (a + 1) n) else a ∷ kept reds (a + 1) (count_up (a + 1) n)) d) ∙ (λ j. eq-eqb a d e j || has (kept reds (a + 1) (count_up (a + 1) n)) d))
      (λ ne. by (has reds a) (kept_has n (a + 1) d (next a d l ne) (omega arith) h)) (cases_eq a d)
    where
      next : (a d : ℕ) → a ≤ d → (a ≡ d → ⊥) → a + 1 ≤ d
      next zero zero l n = absurd (n refl)
      next zero (suc d) l n = omega arith
      next (suc a) zero l n = absurd (omega arith)
      next (suc a) (suc d) l n = omega (arith, next a d (omega arith) (λ e. n (ap suc e)))

      or_true : (b c : Bool) → c ≡ true → (b || c) ≡ true
      or_true true c e = refl
      or_true false c e = e

      by : (b : Bool) → has (kept reds (a + 1) (count_up (a + 1) n)) d ≡ true → has (if b then kept reds (a + 1) (count_up (a + 1) n) else a ∷ kept reds (a + 1) (count_up (a + 1) n)) d ≡ true
      by true e = e
      by false e = or_true (a == d) (has (kept reds (a + 1) (count_up (a + 1) n)) d) e

selected : (b : Bool) → not b ≡ false → b ≡ true
selected true e = refl
selected false e = absurd (true≢false e)

-- where a dimension is a reduction exactly if the output's map doesn't select it
pub outputs : (n : ℕ) (ds reds : List ℕ) → Each (λ d. d < n) ds → ((d : ℕ) → d < n → has reds d ≡ not (has ds d)) → AreOutputs n ds (kept reds 0 (count_up 0 n))
outputs n ds reds below kinds =
    let par : List ℕ = kept reds 0 (count_up 0 n) in
    record {
      once = λ k l. rising_place 0 par (kept_rising reds n 0) k l ∙ omega arith;
      among = λ k l. let d : ℕ = get_or ds k 0 in
          let m : d < n = each_get (λ d. d < n) ds k below l in kept_has reds n 0 d (omega arith) (omega arith) (kinds d m ∙ ap not (has_at ds k l));
      among_back = λ k l. let h = each_get (Kept reds 0 (0 + n)) par k (kept_are reds n 0) l in
          selected (has ds (get_or par k 0)) (sym (kinds (get_or par k 0) (omega (arith, h.1))) ∙ h.2);
      below = each_more (Kept reds 0 (0 + n)) (λ d. d < n) (λ d h. omega (arith, h.1)) par (kept_are reds n 0);
    }

-- a list without repeats, by the verifier's test of a projected permutation
pub once_by_test : (rs : List ℕ) → repeats rs ≡ false → IsOnce rs
once_by_test rs h k l = go 0 rs h k l ∙ omega arith
  where
    go : (a : ℕ) (rs : List ℕ) → repeats rs ≡ false → (k : ℕ) → k < length rs → place_of (get_or rs k 0) a rs ≡ a + k
    go a [] h k l = absurd (omega arith)
    go a (r ∷ rs) h zero l = (λ j. if eq-eqb r r refl j then a else place_of r (a + 1) rs) ∙ omega arith
    go a (r ∷ rs) h (suc k) l =
        let parts : (has rs r ≡ false) × (repeats rs ≡ false) = or_parts (has rs r) (repeats rs) h in
        let other : r ≡ get_or rs k 0 → ⊥ = λ e. absurd (true≢false (sym (has_at rs k (omega arith)) ∙ ap (has rs) (sym e) ∙ parts.0)) in
        (λ j. if ne_eqb r (get_or rs k 0) other j then a else place_of (get_or rs k 0) (a + 1) rs) ∙ go (a + 1) rs parts.1 k (omega arith) ∙ omega arith
