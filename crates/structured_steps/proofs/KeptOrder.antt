-- Where the free dimensions keep their order, so do the points of which the others are fixed.
use Rattle.std.proofs.Common.{◌≡◌, ◌≢◌, ℕ, zero, suc, ◌+◌, ◌<◌, ◌≤◌, Bool, true, false, List, [], ◌∷◌, map, length, get_or, filter, Option, Some, None, ⊎_elim, refl, ap, sym, subst, ◌∙◌, arith, add-zero}
use Rattle.std.specs.Prelude.{if◌then◌else◌}
use Rattle.std.specs.List.{list_all}
use Rattle.std.proofs.lemmas.Bool.{and_from}
use Rattle.std.proofs.lemmas.List.{length-map, get_or-map}
use Rattle.std.proofs.lemmas.Bool.Decides.{eqb_tells}
use Rattle.mlir_meaning.specs.Grids.{points, count_up, InBox, Each}
use Rattle.mlir_meaning.specs.Points.{place_of}
use Rattle.mlir_meaning.proofs.Grids.{map-map, each_point, each_more}
use Rattle.structured_steps.specs.Interchange.{turned, old_point, new_point}
use Rattle.structured_steps.proofs.Listed.{count_length, count_here, tabled_at, tabled_length, counted_each, counted_all, lists_same, IsIn, at_in, box_length}
use Rattle.structured_steps.proofs.Turning.{Order, old_length, old_at, new_length, new_at}
use Rattle.structured_steps.proofs.Chosen.{matches, fill, free, within, chosen, is_free, equals, fits, or_free, matches_all, within_all, free_is, fill_at}

pub both_ways : (a b : Bool) → (a ≡ true → b ≡ true) → (b ≡ true → a ≡ true) → a ≡ b
both_ways true b f g = sym (f refl)
both_ways false true f g = g refl
both_ways false false f g = refl

pub all_from : (p : ℕ → Bool) (xs : List ℕ) → ((k : ℕ) → k < length xs → p (get_or xs k 0) ≡ true) → list_all p xs ≡ true
all_from p [] h = refl
all_from p (x ∷ xs) h = and_from (p x) (list_all p xs) (h 0 (omega arith)) (all_from p xs (λ k l. h (suc k) (omega arith)))

-- the first n numbers stand at their own places
counted_place : (n a d : ℕ) → a ≤ d → d < a + n → place_of d 0 (count_up a n) + a ≡ d
counted_place n a d l m = go n a 0 l m ∙ add-zero d where
  go : (n a b : ℕ) → a ≤ d → d < a + n → place_of d b (count_up a n) + a ≡ d + b
  go zero a b l m = absurd (omega arith)
  go (suc n) a b l m = ⊎_elim
      (λ t. let e = t.1 in ap (λ k. k + a) (λ j. if t.0 j then b else place_of d (b + 1) (count_up (a + 1) n)) ∙ omega (arith, e))
      (λ t. let more : a + 1 ≤ d = apart t.1 in let rest = go n (a + 1) (b + 1) more (omega arith) in
      ap (λ k. k + a) (λ j. if t.0 j then b else place_of d (b + 1) (count_up (a + 1) n)) ∙ omega (arith, rest))
      (eqb_tells a d)
    where
      apart : a ≢ d → a + 1 ≤ d
      apart e = omega arith

map_filter : {X Y : Type 0} (f : X → Y) (P : Y → Bool) (xs : List X) → filter P (map f xs) ≡ map f (filter (λ x. P (f x)) xs)
map_filter f P [] = refl
map_filter f P (x ∷ xs) = by_test (P (f x)) (map_filter f P xs) where
  by_test : (b : Bool) → filter P (map f xs) ≡ map f (filter (λ x. P (f x)) xs) → (if b then f x ∷ filter P (map f xs) else filter P (map f xs)) ≡ map f (if b then x ∷ filter (λ x. P (f x)) xs else filter (λ x. P (f x)) xs)
  by_test true e = ap (λ l. f x ∷ l) e
  by_test false e = e

pub filter_same : {X : Type 0} (P Q : X → Bool) (xs : List X) → Each (λ x. P x ≡ Q x) xs → filter P xs ≡ filter Q xs
filter_same P Q [] h = refl
filter_same P Q (x ∷ xs) h = λ j. if h.0 j then x ∷ filter_same P Q xs h.1 j else filter_same P Q xs h.1 j

module _ (order : List ℕ) (n : ℕ) (o : Order order n) where
  in_order : (d : ℕ) → d < n → IsIn d order
  in_order d l = subst (λ x. IsIn x order) (o.back d l) (at_in order (turned order d) 0 (let m = o.lands d l in omega (arith, m, o.long)))

  in_count : (d : ℕ) → d < n → IsIn d (count_up 0 n)
  in_count d l = subst (λ x. IsIn x (count_up 0 n)) (count_here n d 0 l) (at_in (count_up 0 n) d 0 (omega (arith, l, count_length 0 n)))

  -- a test of each dimension, in either order
  all_same : (p : ℕ → Bool) → list_all p order ≡ list_all p (count_up 0 n)
  all_same p = both_ways _ _
      (λ h. all_from p (count_up 0 n) (λ k l. let m : k < n = omega (arith, l, count_length 0 n) in
      ap p (count_here n k 0 m ∙ sym (o.back k m)) ∙ counted_each p order (turned order k) (let b = o.lands k m in omega (arith, b, o.long)) h))
      (λ h. all_from p order (λ k l. counted_all p n (get_or order k 0) h (o.below k (omega (arith, l, o.long)))))

  -- a point and a box as tables over the order
  new_table : (q : List ℕ) → length q ≡ n → q ≡ map (λ d. get_or q (turned order d) 0) order
  new_table q long = lists_same 0 q _ (long ∙ sym (length-map order _ ∙ o.long)) (λ k l.
      let m : k < n = omega (arith, l, long) in
      ap (λ i. get_or q i 0) (sym (o.once k m)) ∙ sym (get_or-map (λ d. get_or q (turned order d) 0) order k 0 0 (omega (arith, m, o.long))))

  pub box_table : (box : List ℕ) → length box ≡ n → box ≡ map (λ d. get_or box d 0) (count_up 0 n)
  box_table box long = lists_same 0 box _ (long ∙ sym (tabled_length _ n)) (λ k l. sym (tabled_at (λ d. get_or box d 0) n k 0 (omega (arith, l, long))))

  new_box : (box : List ℕ) → new_point order box ≡ map (λ d. get_or box d 0) order
  new_box box = lists_same 0 _ _ (new_length order n o box ∙ sym (length-map order _ ∙ o.long)) (λ k l.
      let m : k < n = omega (arith, l, new_length order n o box) in
      new_at order n o box k m ∙ sym (get_or-map (λ d. get_or box d 0) order k 0 0 (omega (arith, m, o.long))))

  module _ (h : ℕ → Option ℕ) (kept : filter (is_free h) order ≡ filter (is_free h) (count_up 0 n)) where
    abbrev cs : List (Option ℕ)
    cs = map h (count_up 0 n)

    abbrev turned_cs : List (Option ℕ)
    turned_cs = map h order

    -- a new point passes where its old point does
    passes_same : (q : List ℕ) → length q ≡ n → matches turned_cs q ≡ matches cs (old_point order q)
    passes_same q long =
        ap (matches turned_cs) (new_table q long) ∙ matches_all h (λ d. get_or q (turned order d) 0) order
        ∙ all_same (λ d. equals h (h d) (get_or q (turned order d) 0)) ∙ sym (matches_all h (λ d. get_or q (turned order d) 0) (count_up 0 n))
        ∙ (λ j. matches cs (map (λ d. get_or q (turned order d) 0) (count_up 0 (sym o.long j))))

    filled_same : (r : List ℕ) → old_point order (fill turned_cs r) ≡ fill cs r
    filled_same r = lists_same 0 _ _ (old_length order n o _ ∙ sym (fill_length cs r ∙ tabled_length h n)) (λ d l.
        let m : d < n = omega (arith, l, old_length order n o (fill turned_cs r)) in
        old_at order n o (fill turned_cs r) d (fill_length turned_cs r ∙ length-map order h ∙ o.long)
        ∙ fill_at h order r d (in_order d m) ∙ (λ j. or_free h (h d) (get_or r (place_of d 0 (kept j)) 0))
        ∙ sym (fill_at h (count_up 0 n) r d (in_count d m)) ∙ ap (λ k. get_or (fill cs r) k 0) (let e = counted_place n 0 d (omega arith) (omega arith) in omega (arith, e)))
      where
        fill_length : (cs : List (Option ℕ)) (r : List ℕ) → length (fill cs r) ≡ length cs
        fill_length [] r = refl
        fill_length (Some v ∷ cs) r = ap suc (fill_length cs r)
        fill_length (None ∷ cs) [] = ap suc (fill_length cs [])
        fill_length (None ∷ cs) (i ∷ r) = ap suc (fill_length cs r)

    module _ (box : List ℕ) (long : length box ≡ n) where
      within_same : within turned_cs (new_point order box) ≡ within cs box
      within_same =
          ap (within turned_cs) (new_box box) ∙ within_all h (λ d. get_or box d 0) order ∙ all_same (λ d. fits h (h d) (get_or box d 0))
          ∙ sym (within_all h (λ d. get_or box d 0) (count_up 0 n)) ∙ sym (ap (within cs) (box_table box long))

      free_same : free turned_cs (new_point order box) ≡ free cs box
      free_same =
          ap (free turned_cs) (new_box box) ∙ free_is h (λ d. get_or box d 0) order ∙ ap (map (λ d. get_or box d 0)) kept
          ∙ sym (free_is h (λ d. get_or box d 0) (count_up 0 n)) ∙ sym (ap (free cs) (box_table box long))

      -- in both orders these are the same points, one after another
      pub kept_order : filter (matches cs) (map (old_point order) (points (new_point order box))) ≡ filter (matches cs) (points box)
      kept_order =
          let new = points (new_point order box) in
          map_filter (old_point order) (matches cs) new
          ∙ ap (map (old_point order)) (filter_same (λ q. matches cs (old_point order q)) (matches turned_cs) new
          (each_more (InBox (new_point order box)) (λ q. matches cs (old_point order q) ≡ matches turned_cs q) (λ q b. sym (passes_same q (box_length (new_point order box) q b ∙ new_length order n o box))) new (each_point (new_point order box))))
          ∙ ap (map (old_point order)) (chosen turned_cs (new_point order box) (length-map order h ∙ o.long ∙ sym (new_length order n o box)))
          ∙ (λ j. map (old_point order) (if within_same j then map (fill turned_cs) (points (free_same j)) else []))
          ∙ by_test (within cs box) ∙ sym (chosen cs box (tabled_length h n ∙ sym long))
        where
          by_test : (b : Bool) → map (old_point order) (if b then map (fill turned_cs) (points (free cs box)) else []) ≡ (if b then map (fill cs) (points (free cs box)) else [])
          by_test true = map-map (old_point order) (fill turned_cs) (points (free cs box)) ∙ (λ j. map (λ r. filled_same r j) (points (free cs box)))
          by_test false = refl
