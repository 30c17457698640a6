-- The output's map of a generic that passes: the dimensions that it has are the parallel ones, and it fixes their coordinates.
use Rattle.std.proofs.Common.{◌≡◌, ◌≢◌, ℕ, zero, suc, ◌+◌, ◌<◌, ◌≤◌, ◌==◌, ◌&&◌, ◌||◌, Bool, true, false, not, pos, ◌+ℤ◌, ◌*ℤ◌, List, [], ◌∷◌, map, length, get_or, filter, Option, Some, None, ◌⊎◌, inl, inr, ⊎_elim, refl, ap, sym, ◌∙◌, arith, eq-eqb}
use Rattle.std.specs.Prelude.{is_none, if◌then◌else◌}
use Rattle.std.specs.List.{list_all, enumerate_from}
use Rattle.std.proofs.lemmas.Bool.{and_parts, cases_Bool}
use Rattle.std.proofs.lemmas.Bool.Decides.{eqb_tells, nat_tests}
use Rattle.std.proofs.lemmas.Int.{ints}
use Rattle.std.proofs.lemmas.List.{length-map}
use Rattle.affine_maps.specs.Map.{dimension}
use Rattle.affine_maps.specs.Permutation.{is_among, repeats}
use Rattle.affine_maps.specs.Value.{value_at}
use Rattle.mlir_ir.specs.declared.tree.Iter.{Iter}
use Rattle.mlir_ir.specs.declared.tree.Iter.TheVariants.{Parallel, Reduction}
use Rattle.mlir_meaning.specs.Grids.{points, count_up, same_point, InBox, Each}
use Rattle.mlir_meaning.specs.Points.{to_nat}
use Rattle.mlir_meaning.proofs.Grids.{each_more, each_point, each-map}
use Rattle.mlir_meaning.proofs.Cells.{same_point-true}
use Rattle.mlir_verify.specs.Maps.{is_iterator}
use Rattle.structured_steps.specs.Interchange.{old_point, new_point, is_reduction, iterator_at, reductions_in}
use Rattle.structured_steps.proofs.Listed.{counted_all, box_length}
use Rattle.structured_steps.proofs.Turning.{Order, old_length}
use Rattle.structured_steps.proofs.TurnedMaps.{coordinate_is}
use Rattle.structured_steps.proofs.Chosen.{matches, is_free, equals, matches_all}
use Rattle.structured_steps.proofs.KeptOrder.{both_ways, all_from, filter_same, box_table, kept_order}

-- a map to dimensions takes their coordinates
pub picked : (ds : List ℕ) (p : List ℕ) → map to_nat (map (λ e. value_at e (map pos p)) (map dimension ds)) ≡ map (λ d. get_or p d 0) ds
picked [] p = refl
picked (d ∷ ds) p = λ j. to_nat (((ap (λ z. pos 0 +ℤ ((pos 1 *ℤ z) +ℤ pos 0)) (coordinate_is p d)) ∙ one (get_or p d 0)) j) ∷ picked ds p j where
  one : (k : ℕ) → pos 0 +ℤ ((pos 1 *ℤ pos k) +ℤ pos 0) ≡ pos k
  one k = omega (arith, ints)

-- what an index fixes of each dimension
abbrev pub look : List ℕ → List ℕ → ℕ → Option ℕ
look [] e x = None
look (d ∷ ds) [] x = None
look (d ∷ ds) (v ∷ e) x = if x == d then Some v else look ds e x

turned_eqb : (a b : ℕ) → (a == b) ≡ (b == a)
turned_eqb a b = grind (arith, nat_tests)

look_free : (ds e : List ℕ) (x : ℕ) → length e ≡ length ds → is_none (look ds e x) ≡ not (is_among x ds)
look_free [] e x l = refl
look_free (d ∷ ds) [] x l = absurd (omega arith)
look_free (d ∷ ds) (v ∷ e) x l = by_test (x == d) (d == x) (turned_eqb x d) (look_free ds e x (omega arith)) where
  by_test : (b c : Bool) → b ≡ c → is_none (look ds e x) ≡ not (is_among x ds) → is_none (if b then Some v else look ds e x) ≡ not (c || is_among x ds)
  by_test true true q h = refl
  by_test false false q h = h
  by_test true false q h = absurd cc
  by_test false true q h = absurd cc

or_false : (a b : Bool) → (a || b) ≡ false → (a ≡ false) × (b ≡ false)
or_false true b e = absurd cc
or_false false b e = (refl, e)

none_is : (o : Option ℕ) → is_none o ≡ true → o ≡ None
none_is None h = refl
none_is (Some x) h = absurd cc

module _ (n : ℕ) (c : ℕ → ℕ) (p : ℕ → Option ℕ) where
  fixes : (ds e : List ℕ) → same_point (map c ds) e ≡ true → (k : ℕ) → equals p (look ds e k) (c k) ≡ true
  fixes [] e h k = refl
  fixes (d ∷ ds) [] h k = refl
  fixes (d ∷ ds) (v ∷ e) h k =
      let both = and_parts (c d == v) (same_point (map c ds) e) h in
      ⊎_elim (λ t. (λ j. equals p (if t.0 j then Some v else look ds e k) (c k)) ∙ ap (λ x. c x == v) t.1 ∙ both.0)
      (λ t. (λ j. equals p (if t.0 j then Some v else look ds e k) (c k)) ∙ fixes ds e both.1 k) (eqb_tells k d)

  fixed : (ds e : List ℕ) → length e ≡ length ds → repeats ds ≡ false → Each (λ d. d < n) ds → ((k : ℕ) → k < n → equals p (look ds e k) (c k) ≡ true) → same_point (map c ds) e ≡ true
  fixed [] [] l r b h = refl
  fixed [] (v ∷ e) l r b h = absurd (omega arith)
  fixed (d ∷ ds) [] l r b h = absurd (omega arith)
  fixed (d ∷ ds) (v ∷ e) l r b h =
      let apart = or_false (is_among d ds) (repeats ds) r in
      let here : (c d == v) ≡ true = sym (λ j. equals p (if eq-eqb d d refl j then Some v else look ds e d) (c d)) ∙ h d b.0 in
      let none : look ds e d ≡ None = none_is _ (look_free ds e d (omega arith) ∙ ap not apart.0) in
      let rest : same_point (map c ds) e ≡ true = fixed ds e (omega arith) apart.1 b.1 (λ k m.
      ⊎_elim (λ t. ap (λ x. equals p (look ds e x) (c k)) t.1 ∙ ap (λ x. equals p x (c k)) none)
      (λ t. sym (λ j. equals p (if t.0 j then Some v else look ds e k) (c k)) ∙ h k m) (eqb_tells k d)) in
      λ j. ((λ i. here i && same_point (map c ds) e) ∙ rest) j

  same_tests : (ds e : List ℕ) → length e ≡ length ds → repeats ds ≡ false → Each (λ d. d < n) ds → same_point (map c ds) e ≡ list_all (λ d. equals p (look ds e d) (c d)) (count_up 0 n)
  same_tests ds e l r b = both_ways _ _
      (λ h. all_from (λ d. equals p (look ds e d) (c d)) (count_up 0 n) (λ k m. fixes ds e h (get_or (count_up 0 n) k 0)))
      (λ h. fixed ds e l r b (λ k m. counted_all (λ d. equals p (look ds e d) (c d)) n k h m))

-- a dimension is a reduction exactly where the output hasn't it
enumerated : (its : List Iter) (a : ℕ) (P : ℕ × Iter → Bool) → list_all P (enumerate_from a its) ≡ true → (k : ℕ) → k < length its → P (a + k, get_or its k Parallel) ≡ true
enumerated [] a P h k l = absurd (omega arith)
enumerated (i ∷ its) a P h zero l = let e : a + 0 ≡ a = omega arith in ap (λ m. P (m, i)) e ∙ (and_parts (P (a, i)) _ h).0
enumerated (i ∷ its) a P h (suc k) l =
    let e : a + suc k ≡ (a + 1) + k = omega arith in
    ap (λ m. P (m, get_or its k Parallel)) e ∙ enumerated its (a + 1) P (and_parts (P (a, i)) _ h).1 k (omega arith)

reduction_is : (i : Iter) (b : Bool) → is_iterator i b ≡ true → is_reduction i ≡ not b
reduction_is Parallel b h = sym (ap not h)
reduction_is Reduction b h = sym h

pub reductions : (its : List Iter) (ds : List ℕ) → list_all (λ (i : ℕ × Iter). is_iterator i.1 (is_among i.0 ds)) (enumerate_from 0 its) ≡ true → (d : ℕ) → d < length its →
    is_reduction (iterator_at its d) ≡ not (is_among d ds)
reductions its ds h d l =
    let e : 0 + d ≡ d = omega arith in
    reduction_is (iterator_at its d) (is_among d ds) (sym (ap (λ k. is_iterator (get_or its d Parallel) (is_among k ds)) e) ∙ enumerated its 0 (λ (i : ℕ × Iter). is_iterator i.1 (is_among i.0 ds)) h d l)

filter_none : {X : Type 0} (xs : List X) → filter (λ x. false) xs ≡ []
filter_none [] = refl
filter_none (x ∷ xs) = filter_none xs

each_below : (n a m : ℕ) → a + m ≤ n → Each (λ d. d < n) (count_up a m)
each_below n a zero l = tt
each_below n a (suc m) l = (omega arith, each_below n (a + 1) m (omega arith))

each_at : (n : ℕ) (xs : List ℕ) → ((k : ℕ) → k < length xs → get_or xs k 0 < n) → Each (λ d. d < n) xs
each_at n [] h = tt
each_at n (x ∷ xs) h = (h 0 (omega arith), each_at n xs (λ k l. h (suc k) (omega arith)))

module _ (order : List ℕ) (n : ℕ) (o : Order order n) (its : List Iter) (dims : length its ≡ n) (ds : List ℕ) (distinct : repeats ds ≡ false) (small : Each (λ d. d < n) ds)
    (parallel : (d : ℕ) → d < length its → is_reduction (iterator_at its d) ≡ not (is_among d ds)) (keeps : reductions_in its order ≡ reductions_in its (count_up 0 n))
    (picks : List ℕ → List ℕ → Bool) (is : (e p : List ℕ) → picks e p ≡ same_point (map (λ d. get_or p d 0) ds) e) where
  free_red : (e : List ℕ) → length e ≡ length ds → (xs : List ℕ) → Each (λ d. d < n) xs → filter (is_free (look ds e)) xs ≡ reductions_in its xs
  free_red e l xs h = filter_same (is_free (look ds e)) (λ d. is_reduction (iterator_at its d)) xs
      (each_more (λ d. d < n) (λ d. is_free (look ds e) d ≡ is_reduction (iterator_at its d)) (λ d m. look_free ds e d l ∙ sym (parallel d (omega (arith, m, dims)))) xs h)

  kept : (e : List ℕ) → length e ≡ length ds → filter (is_free (look ds e)) order ≡ filter (is_free (look ds e)) (count_up 0 n)
  kept e l = free_red e l order (each_at n order (λ k m. o.below k (omega (arith, m, o.long)))) ∙ keeps ∙ sym (free_red e l (count_up 0 n) (each_below n 0 n (omega arith)))

  passes : (e : List ℕ) → length e ≡ length ds → (p : List ℕ) → length p ≡ n → picks e p ≡ matches (map (look ds e) (count_up 0 n)) p
  passes e l p long =
      is e p ∙ same_tests n (λ d. get_or p d 0) (look ds e) ds e l distinct small
      ∙ sym (matches_all (look ds e) (λ d. get_or p d 0) (count_up 0 n)) ∙ sym (ap (matches (map (look ds e) (count_up 0 n))) (box_table order n o p long))

  fails : (e : List ℕ) → length e ≢ length ds → (p : List ℕ) → picks e p ≡ false
  fails e apart p =
      is e p
      ∙ ⊎_elim (λ t. absurd (apart (sym (ap length (same_point-true (map (λ d. get_or p d 0) ds) e t)) ∙ length-map ds (λ d. get_or p d 0)))) (λ f. f)
      (cases_Bool (same_point (map (λ d. get_or p d 0) ds) e))

  -- the points of an element, in both orders
  pub picked_order : (box : List ℕ) → length box ≡ n → (e : List ℕ) → filter (picks e) (map (old_point order) (points (new_point order box))) ≡ filter (picks e) (points box)
  picked_order box long e = by_length (eqb_tells (length e) (length ds)) where
    new_each : Each (λ p. length p ≡ n) (map (old_point order) (points (new_point order box)))
    new_each = each-map (λ p. length p ≡ n) (old_point order) (points (new_point order box)) (each_more (InBox (new_point order box)) (λ q. length (old_point order q) ≡ n) (λ q b. old_length order n o q) _ (each_point (new_point order box)))

    old_each : Each (λ p. length p ≡ n) (points box)
    old_each = each_more (InBox box) (λ p. length p ≡ n) (λ p b. box_length box p b ∙ long) (points box) (each_point box)

    by_length : (((length e == length ds) ≡ true) × (length e ≡ length ds)) ⊎ (((length e == length ds) ≡ false) × (length e ≢ length ds)) → filter (picks e) (map (old_point order) (points (new_point order box))) ≡ filter (picks e) (points box)
    by_length (inl t) =
        let cs = map (look ds e) (count_up 0 n) in
        filter_same (picks e) (matches cs) _ (each_more (λ p. length p ≡ n) (λ p. picks e p ≡ matches cs p) (λ p l. passes e t.1 p l) _ new_each)
        ∙ kept_order order n o (look ds e) (kept e t.1) box long
        ∙ sym (filter_same (picks e) (matches cs) _ (each_more (λ p. length p ≡ n) (λ p. picks e p ≡ matches cs p) (λ p l. passes e t.1 p l) _ old_each))
    by_length (inr t) =
        filter_same (picks e) (λ p. false) _ (each_more (λ p. length p ≡ n) (λ p. picks e p ≡ false) (λ p l. fails e t.1 p) _ new_each) ∙ filter_none (map (old_point order) (points (new_point order box)))
        ∙ sym (filter_same (picks e) (λ p. false) _ (each_more (λ p. length p ≡ n) (λ p. picks e p ≡ false) (λ p l. fails e t.1 p) _ old_each) ∙ filter_none (points box))
