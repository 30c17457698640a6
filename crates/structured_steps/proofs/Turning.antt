-- Points and boxes in another order of their dimensions.
use Rattle.std.proofs.Common.{◌≡◌, ◌≢◌, ℕ, suc, ◌+◌, ◌<◌, ◌≤◌, ◌==◌, ◌&&◌, Bool, true, false, List, [], ◌∷◌, map, length, get_or, IsPermutation, refl, ap, sym, subst, ◌∙◌, arith, eqb-true, ltb-true, zero-add}
use Rattle.std.specs.Prelude.{nat_lt, if◌then◌else◌}
use Rattle.std.proofs.lemmas.Bool.{and_parts, ne_eqb}
use Rattle.std.proofs.lemmas.Bool.Decides.{nat_tests}
use Rattle.std.proofs.lemmas.List.{get_or_past}
use Rattle.mlir_meaning.specs.Grids.{InBox, points}
use Rattle.mlir_meaning.specs.Points.{place_of}
use Rattle.structured_steps.specs.Interchange.{turned, origin, stands_once, is_order, old_point, new_point}
use Rattle.structured_steps.proofs.Listed.{tabled_at, tabled_length, counted_all, lists_same, box_length, box_at, in_box, IsIn, map_in, map_from, distinct_map, same_members, points_distinct, point_in, point_inside}

-- a permutation of n dimensions
pub record Order (order : List ℕ) (n : ℕ) : Type 0 where
  pub long : length order ≡ n
  pub lands : (d : ℕ) → d < n → turned order d < n
  pub back : (d : ℕ) → d < n → origin order (turned order d) ≡ d
  pub below : (k : ℕ) → k < n → origin order k < n
  pub once : (k : ℕ) → k < n → turned order (origin order k) ≡ k

pub order_of : (order : List ℕ) (n : ℕ) → is_order order n ≡ true → Order order n
order_of order n h =
    let both = and_parts (length order == n) _ h in
    let at : (k : ℕ) → k < n → stands_once order n k ≡ true = λ k l. counted_all (stands_once order n) n k both.1 l in
    let front : (k : ℕ) → k < n → (nat_lt (turned order k) n && (origin order (turned order k) == k)) ≡ true = λ k l. (and_parts (nat_lt (turned order k) n && (origin order (turned order k) == k)) _ (at k l)).0 in
    let rest : (k : ℕ) → k < n → (nat_lt (origin order k) n && (turned order (origin order k) == k)) ≡ true = λ k l. (and_parts (nat_lt (turned order k) n && (origin order (turned order k) == k)) _ (at k l)).1 in
    record {
      long = eqb-true (length order) n both.0;
      lands = λ k l. ltb-true (turned order k) n (and_parts (nat_lt (turned order k) n) _ (front k l)).0;
      back = λ k l. eqb-true (origin order (turned order k)) k (and_parts (nat_lt (turned order k) n) _ (front k l)).1;
      below = λ k l. ltb-true (origin order k) n (and_parts (nat_lt (origin order k) n) _ (rest k l)).0;
      once = λ k l. eqb-true (turned order (origin order k)) k (and_parts (nat_lt (origin order k) n) _ (rest k l)).1;
    }

-- a number that isn't there stands at the end
place_absent : (d a : ℕ) (order : List ℕ) → ((k : ℕ) → k < length order → get_or order k 0 ≢ d) → place_of d a order ≡ a + length order
place_absent d a [] h = omega arith
place_absent d a (e ∷ order) h =
    let rest = place_absent d (a + 1) order (λ k l. h (suc k) (omega arith)) in
    (λ j. if ne_eqb e d (h 0 (omega arith)) j then a else place_of d (a + 1) order) ∙ omega (arith, rest)

module _ (order : List ℕ) (n : ℕ) (o : Order order n) where
  pub old_length : (q : List ℕ) → length (old_point order q) ≡ n
  old_length q = tabled_length _ (length order) ∙ o.long

  pub new_length : (p : List ℕ) → length (new_point order p) ≡ n
  new_length p = tabled_length _ (length order) ∙ o.long

  pub past : (d : ℕ) → n ≤ d → turned order d ≡ n
  past d l = place_absent d 0 order (λ k m e. absurd (let b = o.below k (omega (arith, o.long)) in omega (arith, b, e))) ∙ zero-add (length order) ∙ o.long

  -- the coordinates of an old point; past its end both are 0
  pub old_at : (q : List ℕ) (d : ℕ) → length q ≡ n → get_or (old_point order q) d 0 ≡ get_or q (turned order d) 0
  old_at q d long = by_test (nat_lt d n) refl where
    by_test : (b : Bool) → nat_lt d n ≡ b → get_or (old_point order q) d 0 ≡ get_or q (turned order d) 0
    by_test true e = let l = ltb-true d n e in tabled_at (λ d. get_or q (turned order d) 0) (length order) d 0 (omega (arith, l, o.long))
    by_test false e =
        let l : n ≤ d = grind (arith, nat_tests) in
        get_or_past (old_point order q) d 0 (omega (arith, l, old_length q)) ∙ sym (ap (λ k. get_or q k 0) (past d l) ∙ get_or_past q n 0 (omega (arith, long)))

  pub new_at : (p : List ℕ) (k : ℕ) → k < n → get_or (new_point order p) k 0 ≡ get_or p (origin order k) 0
  new_at p k l = tabled_at (λ k. get_or p (origin order k) 0) (length order) k 0 (omega (arith, l, o.long))

  pub new_old : (q : List ℕ) → length q ≡ n → new_point order (old_point order q) ≡ q
  new_old q long = lists_same 0 _ q (new_length _ ∙ sym long) (λ k l.
      let m : k < n = omega (arith, l, new_length (old_point order q)) in
      new_at (old_point order q) k m ∙ old_at q (origin order k) long ∙ ap (λ i. get_or q i 0) (o.once k m))

  pub old_new : (p : List ℕ) → length p ≡ n → old_point order (new_point order p) ≡ p
  old_new p long = lists_same 0 _ p (old_length _ ∙ sym long) (λ d l.
      let m : d < n = omega (arith, l, old_length (new_point order p)) in
      old_at (new_point order p) d (new_length p) ∙ new_at p (turned order d) (o.lands d m) ∙ ap (λ i. get_or p i 0) (o.back d m))

  module _ (box : List ℕ) (long : length box ≡ n) where
    pub old_inside : (q : List ℕ) → InBox (new_point order box) q → InBox box (old_point order q)
    old_inside q h =
        let size : length q ≡ n = box_length _ q h ∙ new_length box in
        in_box box (old_point order q) (old_length q ∙ sym long) (λ d l.
        let m : d < n = omega (arith, l, long) in
        let lands = o.lands d m in
        let small = box_at (new_point order box) q h (turned order d) (omega (arith, lands, new_length box)) in
        let e = new_at box (turned order d) lands ∙ ap (λ i. get_or box i 0) (o.back d m) in
        omega (arith, old_at q d size, small, e))

    pub new_inside : (p : List ℕ) → InBox box p → InBox (new_point order box) (new_point order p)
    new_inside p h = in_box (new_point order box) (new_point order p) (new_length p ∙ sym (new_length box)) (λ k l.
        let m : k < n = omega (arith, l, new_length box) in
        let small = box_at box p h (origin order k) (let b = o.below k m in omega (arith, b, long)) in
        omega (arith, new_at p k m, new_at box k m, small))

    -- the points of the new box, each as an old point, are those of the old box in another order
    pub points_permuted : IsPermutation (points box) (map (old_point order) (points (new_point order box)))
    points_permuted =
        let new = points (new_point order box) in
        let inside : (q : List ℕ) → IsIn q new → length q ≡ n = λ q i. box_length _ q (point_inside (new_point order box) q i) ∙ new_length box in
        same_members (map (old_point order) new) (points box)
        (distinct_map (old_point order) new (λ q r i j e. sym (new_old q (inside q i)) ∙ ap (new_point order) e ∙ new_old r (inside r j)) (points_distinct (new_point order box)))
        (points_distinct box)
        (λ p i. let r = map_from (old_point order) p new i in subst (λ x. IsIn x (points box)) (sym r.2) (point_in box (old_point order r.0) (old_inside r.0 (point_inside (new_point order box) r.0 r.1))))
        (λ p i. let b = point_inside box p i in
        subst (λ x. IsIn x (map (old_point order) new)) (old_new p (box_length box p b ∙ long)) (map_in (old_point order) (new_point order p) new (point_in (new_point order box) (new_point order p) (new_inside p b))))
