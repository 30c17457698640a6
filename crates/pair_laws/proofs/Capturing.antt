-- The captured values of a producer and a consumer stand among those of both.
use Rattle.std.proofs.Common.{◌≡◌, ℕ, zero, suc, ◌+◌, ◌-◌, ◌<◌, ◌≤◌, ◌==◌, ◌||◌, Bool, true, false, List, [], ◌∷◌, ◌++◌, map, length, get_or, refl, ap, sym, subst, ◌∙◌, arith, eq-eqb, eqb-true}
use Rattle.std.specs.Prelude.{if◌then◌else◌}
use Rattle.std.proofs.lemmas.List.{length-map, get_or-map}
use Rattle.mlir_ir.specs.declared.tree.ValueId.{ValueId}
use Rattle.mlir_meaning.specs.Grids.{Each}
use Rattle.mlir_meaning.specs.Meaning.{captured_in}
use Rattle.mlir_meaning.specs.Points.{place_of}
use Rattle.mlir_meaning.specs.States.{State, element}
use Rattle.mlir_meaning.proofs.Through.{each_left, each_right}
use Rattle.affine_maps.specs.Permutation.{is_among}
use Rattle.pair_laws.specs.Pairs.{numbers_of, with_value, once, captured_of, place_in}
use Rattle.pair_laws.specs.Laws.{AllCapturedMeet}

abbrev Has : List ValueId → ValueId → Type 0
Has all v = is_among v.0 (numbers_of all) ≡ true

or_true : (b : Bool) → (b || true) ≡ true
or_true true = refl
or_true false = refl

has_more : (xs ys : List ValueId) (v : ValueId) → Has xs v → Has (xs ++ ys) v
has_more [] ys v h = absurd cc
has_more (x ∷ xs) ys v h = by (x.0 == v.0) (has_more xs ys v) h where
  by : (b : Bool) → (Has xs v → Has (xs ++ ys) v) → (b || is_among v.0 (numbers_of xs)) ≡ true → (b || is_among v.0 (numbers_of (xs ++ ys))) ≡ true
  by true k h = refl
  by false k h = k h

has_last : (xs : List ValueId) (v : ValueId) → Has (xs ++ v ∷ []) v
has_last [] v = λ j. eq-eqb v.0 v.0 refl j || false
has_last (x ∷ xs) v = (λ j. (x.0 == v.0) || has_last xs v j) ∙ or_true (x.0 == v.0)

kept_with : (seen : List ValueId) (v w : ValueId) → Has seen w → Has (with_value seen v) w
kept_with seen v w h = by (is_among v.0 (numbers_of seen)) where
  by : (b : Bool) → Has (if b then seen else seen ++ v ∷ []) w
  by true = h
  by false = has_more seen (v ∷ []) w h

new_with : (seen : List ValueId) (v : ValueId) → Has (with_value seen v) v
new_with seen v = by (is_among v.0 (numbers_of seen)) refl where
  by : (b : Bool) → is_among v.0 (numbers_of seen) ≡ b → Has (if b then seen else seen ++ v ∷ []) v
  by true q = q
  by false q = has_last seen v

kept_once : (seen vs : List ValueId) (w : ValueId) → Has seen w → Has (once seen vs) w
kept_once seen [] w h = h
kept_once seen (v ∷ vs) w h = kept_once (with_value seen v) vs w (kept_with seen v w h)

all_once : (seen vs : List ValueId) → Each (Has (once seen vs)) vs
all_once seen [] = tt
all_once seen (v ∷ vs) = (kept_once (with_value seen v) vs v (new_with seen v), all_once (with_value seen v) vs)

-- where a number stands
stands_at : (n : ℕ) (ns : List ℕ) (start : ℕ) → is_among n ns ≡ true → (start ≤ place_of n start ns) × (place_of n start ns < start + length ns) × (get_or ns (place_of n start ns - start) 0 ≡ n)
stands_at n [] start h = absurd cc
stands_at n (m ∷ ns) start h = by (m == n) refl h (stands_at n ns (start + 1)) where
  by : (b : Bool) → (m == n) ≡ b → (b || is_among n ns) ≡ true →
      (is_among n ns ≡ true → (start + 1 ≤ place_of n (start + 1) ns) × (place_of n (start + 1) ns < start + 1 + length ns) × (get_or ns (place_of n (start + 1) ns - (start + 1)) 0 ≡ n)) →
      (start ≤ (if b then start else place_of n (start + 1) ns)) × ((if b then start else place_of n (start + 1) ns) < start + length (m ∷ ns))
      × (get_or (m ∷ ns) ((if b then start else place_of n (start + 1) ns) - start) 0 ≡ n)
  by true q h k = (omega arith, omega arith, (let z : start - start ≡ 0 = omega arith in ap (λ i. get_or (m ∷ ns) i 0) z) ∙ eqb-true m n q)
  by false q h k =
      let r = k h in
      let z : place_of n (start + 1) ns - start ≡ suc (place_of n (start + 1) ns - (start + 1)) = omega (arith, r.0) in
      (omega (arith, r.0), omega (arith, r.1), ap (λ i. get_or (m ∷ ns) i 0) z ∙ r.2)

each_number : (P : ℕ → Type 0) (vs : List ValueId) (i : ℕ) → i < length vs → Each (λ (v : ValueId). P v.0) vs → P (get_or (numbers_of vs) i 0)
each_number P [] i l h = absurd (omega arith)
each_number P (v ∷ vs) zero l h = h.0
each_number P (v ∷ vs) (suc i) l h = each_number P vs i (omega arith) h.1

place_is : (all vs : List ValueId) (i : ℕ) → i < length vs → place_in all vs i ≡ place_of (get_or (numbers_of vs) i 0) 0 (numbers_of all)
place_is all [] i l = absurd (omega arith)
place_is all (v ∷ vs) zero l = refl
place_is all (v ∷ vs) (suc i) l = place_is all vs i (omega arith)

module _ (u : State) (all vs : List ValueId) (has : Each (Has all) vs) where
  abbrev value : ℕ → ℕ
  value n = element (u.values n) []

  captured_numbers : (vs : List ValueId) → captured_in u.values vs ≡ map value (numbers_of vs)
  captured_numbers [] = refl
  captured_numbers (v ∷ vs) = ap (λ l. value v.0 ∷ l) (captured_numbers vs)

  module _ (i : ℕ) (l : i < length vs) where
    is : place_in all vs i ≡ place_of (get_or (numbers_of vs) i 0) 0 (numbers_of all)
    is = place_is all vs i l

    standing : (0 ≤ place_of (get_or (numbers_of vs) i 0) 0 (numbers_of all)) × (place_of (get_or (numbers_of vs) i 0) 0 (numbers_of all) < 0 + length (numbers_of all))
        × (get_or (numbers_of all) (place_of (get_or (numbers_of vs) i 0) 0 (numbers_of all) - 0) 0 ≡ get_or (numbers_of vs) i 0)
    standing = stands_at (get_or (numbers_of vs) i 0) (numbers_of all) 0 (each_number (λ n. is_among n (numbers_of all) ≡ true) vs i l has)

    there : (0 ≤ place_in all vs i) × (place_in all vs i < 0 + length (numbers_of all)) × (get_or (numbers_of all) (place_in all vs i - 0) 0 ≡ get_or (numbers_of vs) i 0)
    there = subst (λ k. (0 ≤ k) × (k < 0 + length (numbers_of all)) × (get_or (numbers_of all) (k - 0) 0 ≡ get_or (numbers_of vs) i 0)) (sym is) standing

    pub place_below : place_in all vs i < length all
    place_below = omega (arith, there.1, length-map all (λ (v : ValueId). v.0))

    pub value_there : get_or (captured_in u.values all) (place_in all vs i) 0 ≡ get_or (captured_in u.values vs) i 0
    value_there =
        let z : place_in all vs i - 0 ≡ place_in all vs i = omega arith in
        ap (λ ns. get_or ns (place_in all vs i) 0) (captured_numbers all)
        ∙ get_or-map value (numbers_of all) (place_in all vs i) 0 0 (omega (arith, there.1))
        ∙ ap value (ap (λ k. get_or (numbers_of all) k 0) (sym z) ∙ there.2)
        ∙ sym (ap (λ ns. get_or ns i 0) (captured_numbers vs) ∙ get_or-map value (numbers_of vs) i 0 0 (omega (arith, l, length-map vs (λ (v : ValueId). v.0))))

pub captured_meet : AllCapturedMeet
captured_meet p c u =
    let each = all_once [] (p.captured ++ c.captured) in
    let ps = each_left (Has (captured_of p c)) p.captured c.captured each in
    let cs = each_right (Has (captured_of p c)) p.captured c.captured each in
    record {
      of_producer = place_below u (captured_of p c) p.captured ps;
      of_consumer = place_below u (captured_of p c) c.captured cs;
      producer_outer = value_there u (captured_of p c) p.captured ps;
      consumer_outer = value_there u (captured_of p c) c.captured cs;
    }
