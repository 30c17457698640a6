-- Where a number stands first.
use Rattle.std.proofs.Common.{◌≡◌, ℕ, suc, ◌+◌, ◌==◌, ◌||◌, Bool, true, false, List, [], ◌∷◌, ◌++◌, length, Option, Some, None, is_some, refl, ap, sym, ◌∙◌, arith, eqb-true, eq-eqb}
use Rattle.std.proofs.lemmas.Bool.{true≢false}
use Rattle.std.specs.Prelude.{if◌then◌else◌}
use Rattle.mlir_meaning.specs.Points.{has, place_of}
use Rattle.payload_forms.specs.Places.{place_from}

-- a number is there where it has a place
pub has_place : (start : ℕ) (ns : List ℕ) (n : ℕ) → has ns n ≡ is_some (place_from start ns n)
has_place start [] n = refl
has_place start (m ∷ ms) n = by (m == n) (has_place (start + 1) ms n) where
  by : (b : Bool) → has ms n ≡ is_some (place_from (start + 1) ms n) → (b || has ms n) ≡ is_some (if b then Some start else place_from (start + 1) ms n)
  by true e = refl
  by false e = e

-- the place, or the end
abbrev pub or_end : ℕ → Option ℕ → ℕ
or_end end (Some at) = at
or_end end None = end

pub place_is : (start : ℕ) (ns : List ℕ) (n : ℕ) → place_of n start ns ≡ or_end (start + length ns) (place_from start ns n)
place_is start [] n = omega arith
place_is start (m ∷ ms) n = by (m == n) (place_is (start + 1) ms n) where
  same : start + 1 + length ms ≡ start + suc (length ms)
  same = omega arith

  by : (b : Bool) → place_of n (start + 1) ms ≡ or_end (start + 1 + length ms) (place_from (start + 1) ms n) →
      (if b then start else place_of n (start + 1) ms) ≡ or_end (start + suc (length ms)) (if b then Some start else place_from (start + 1) ms n)
  by true e = refl
  by false e = e ∙ ap (λ end. or_end end (place_from (start + 1) ms n)) same

none_of : (start : ℕ) (ns : List ℕ) (n : ℕ) → has ns n ≡ false → place_from start ns n ≡ None
none_of start ns n h = by (place_from start ns n) (sym (has_place start ns n) ∙ h) where
  by : (o : Option ℕ) → is_some o ≡ false → o ≡ None
  by None e = refl
  by (Some at) e = absurd (cc e)

-- a new number stands last
pub place_last : (start : ℕ) (ns : List ℕ) (k n : ℕ) → has ns k ≡ false → place_from start (ns ++ k ∷ []) n ≡ (if k == n then Some (start + length ns) else place_from start ns n)
place_last start [] k n h = let e : start ≡ start + 0 = omega arith in ap (λ at. if k == n then Some at else None) e
place_last start (m ∷ ms) k n h = by (m == n) (k == n) refl refl (place_last (start + 1) ms k n (rest (m == k) h)) where
  same : start + 1 + length ms ≡ start + suc (length ms)
  same = omega arith

  rest : (b : Bool) → (b || has ms k) ≡ false → has ms k ≡ false
  rest true e = absurd (cc e)
  rest false e = e

  apart : (b : Bool) → (b || has ms k) ≡ false → b ≡ false
  apart true e = absurd (cc e)
  apart false e = refl

  by : (b d : Bool) → (m == n) ≡ b → (k == n) ≡ d →
      place_from (start + 1) (ms ++ k ∷ []) n ≡ (if d then Some (start + 1 + length ms) else place_from (start + 1) ms n) →
      (if b then Some start else place_from (start + 1) (ms ++ k ∷ []) n)
      ≡ (if d then Some (start + suc (length ms)) else (if b then Some start else place_from (start + 1) ms n))
  by true true p q e = absurd (true≢false (sym (eq-eqb m k (eqb-true m n p ∙ sym (eqb-true k n q))) ∙ apart (m == k) h))
  by true false p q e = refl
  by false true p q e = e ∙ ap Some same
  by false false p q e = e
