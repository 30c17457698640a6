-- The points of a box that lie in a region are those of a box of its sizes, moved by its offsets, in the same order.
use Rattle.std.proofs.Common.{◌≡◌, ℕ, zero, suc, ◌+◌, ◌<◌, ◌≤◌, ◌==◌, nat_lt, Bool, true, false, ◌&&◌, List, [], ◌∷◌, ◌++◌, map, refl, ap, sym, ◌∙◌, subst, filter, arith, add-zero, ⊎_elim}
use Rattle.std.specs.Prelude.{flat_map}
use Rattle.std.proofs.lemmas.Bool.{lt-ltb, le-ltb, eq-eqb, ne_eqb, cases_lt, cases_eq}
use Rattle.mlir_meaning.specs.Grids.{points, count_up, plus, lies_in, same_point, InBox, Fits}
use Rattle.mlir_meaning.proofs.Grids.{map-map, each_more, each_point}
use Rattle.point_laws.proofs.Lists.{filter-map, filter_none, filter-flat_map, map-flat_map, and_false, filter-same}

-- a range of rows, of which those below `o` and those from `o + n` on are empty
module _ {A : Type 0} (g h : ℕ → List A) (o n : ℕ) (in_window : (i : ℕ) → o ≤ i → i < o + n → g i ≡ h i)
    (before : (i : ℕ) → i < o → g i ≡ []) (after : (i : ℕ) → o + n ≤ i → g i ≡ []) where
  none_after : (m a : ℕ) → o + n ≤ a → flat_map g (count_up a m) ≡ []
  none_after zero a l = refl
  none_after (suc m) a l = (λ j. after a l j ++ flat_map g (count_up (a + 1) m)) ∙ none_after m (a + 1) (omega arith)

  window : (k m a : ℕ) → o ≤ a → a + k ≡ o + n → k ≤ m → flat_map g (count_up a m) ≡ flat_map h (count_up a k)
  window zero m a lo end le = none_after m a (omega arith)
  window (suc k) zero a lo end le = absurd (omega arith)
  window (suc k) (suc m) a lo end le = λ j. in_window a lo (omega arith) j ++ window k m (a + 1) (omega arith) (omega arith) (omega arith) j

  up_to : (k m a : ℕ) → a + k ≡ o → k + n ≤ m → flat_map g (count_up a m) ≡ flat_map h (count_up o n)
  up_to zero m a e le = subst (λ b. flat_map g (count_up b m) ≡ flat_map h (count_up o n)) (sym (sym (add-zero a) ∙ e)) (window n m o (omega arith) refl (omega arith))
  up_to (suc k) zero a e le = absurd (omega arith)
  up_to (suc k) (suc m) a e le = (λ j. before a (omega arith) j ++ flat_map g (count_up (a + 1) m)) ∙ up_to k m (a + 1) (omega arith) (omega arith)

  pub rows_in_window : (e : ℕ) → o + n ≤ e → flat_map g (count_up 0 e) ≡ flat_map h (count_up o n)
  rows_in_window e l = up_to o e 0 (omega arith) l

rows_moved : {A : Type 0} (g h : ℕ → List A) (o : ℕ) → ((i : ℕ) → h (i + o) ≡ g i) → (n a b : ℕ) → b ≡ a + o → flat_map h (count_up b n) ≡ flat_map g (count_up a n)
rows_moved g h o same zero a b e = refl
rows_moved g h o same (suc n) a b e = λ j. (ap h e ∙ same a) j ++ rows_moved g h o same n (a + 1) (b + 1) (omega arith) j

-- the test of one coordinate
abbrev pub tested : ℕ → ℕ → ℕ → Bool
tested o n i = nat_lt o (i + 1) && nat_lt i (o + n)

pub tested_in : (o n i : ℕ) → o ≤ i → i < o + n → tested o n i ≡ true
tested_in o n i l h = λ j. lt-ltb o (i + 1) (omega arith) j && lt-ltb i (o + n) h j

pub tested_before : (o n i : ℕ) → i < o → tested o n i ≡ false
tested_before o n i h = λ j. le-ltb o (i + 1) (omega arith) j && nat_lt i (o + n)

pub tested_after : (o n i : ℕ) → o + n ≤ i → tested o n i ≡ false
tested_after o n i h = (λ j. nat_lt o (i + 1) && le-ltb i (o + n) h j) ∙ and_false (nat_lt o (i + 1))

-- one more dimension
module _ (e o n : ℕ) (es os ns : List ℕ) (fits : o + n ≤ e) (rest : filter (lies_in os ns) (points es) ≡ map (λ p. plus p os) (points ns)) where
  abbrev row : ℕ → List (List ℕ)
  row i = map (λ p. i ∷ p) (points es)

  abbrev small : ℕ → List (List ℕ)
  small i = map (λ p. i ∷ p) (points ns)

  abbrev kept : ℕ → List (List ℕ)
  kept i = filter (lies_in (o ∷ os) (n ∷ ns)) (row i)

  abbrev moved : ℕ → List (List ℕ)
  moved i = map (λ p. i ∷ plus p os) (points ns)

  inside : (i : ℕ) → o ≤ i → i < o + n → kept i ≡ moved i
  inside i l m =
      filter-map (lies_in (o ∷ os) (n ∷ ns)) (λ p. i ∷ p) (points es)
      ∙ (λ j. map (λ p. i ∷ p) (filter (λ p. tested_in o n i l m j && lies_in os ns p) (points es)))
      ∙ ap (map (λ p. i ∷ p)) rest ∙ map-map (λ p. i ∷ p) (λ p. plus p os) (points ns)

  out : (i : ℕ) → tested o n i ≡ false → kept i ≡ []
  out i f =
      filter-map (lies_in (o ∷ os) (n ∷ ns)) (λ p. i ∷ p) (points es)
      ∙ (λ j. map (λ p. i ∷ p) (filter (λ p. f j && lies_in os ns p) (points es)))
      ∙ ap (map (λ p. i ∷ p)) (filter_none (points es))

  points_more : filter (lies_in (o ∷ os) (n ∷ ns)) (points (e ∷ es)) ≡ map (λ p. plus p (o ∷ os)) (points (n ∷ ns))
  points_more =
      filter-flat_map (lies_in (o ∷ os) (n ∷ ns)) row (count_up 0 e)
      ∙ rows_in_window kept moved o n inside (λ i l. out i (tested_before o n i l)) (λ i l. out i (tested_after o n i l)) e fits
      ∙ rows_moved (λ i. map (λ p. plus p (o ∷ os)) (small i)) moved o (λ i. sym (map-map (λ p. plus p (o ∷ os)) (λ p. i ∷ p) (points ns))) n 0 o (omega arith)
      ∙ sym (map-flat_map (λ p. plus p (o ∷ os)) small (count_up 0 n))

pub points_in_window : (es os ns : List ℕ) → Fits es os ns → filter (lies_in os ns) (points es) ≡ map (λ p. plus p os) (points ns)
points_in_window [] [] [] h = refl
points_in_window (e ∷ es) (o ∷ os) (n ∷ ns) h = points_more e o n es os ns h.0 (points_in_window es os ns h.1)
points_in_window [] (o ∷ os) ns h = absurd h
points_in_window [] [] (n ∷ ns) h = absurd h
points_in_window (e ∷ es) [] ns h = absurd h
points_in_window (e ∷ es) (o ∷ os) [] h = absurd h

-- ONE POINT
abbrev ones : List ℕ → List ℕ
ones = map (λ _. 1)

abbrev zeros : List ℕ → List ℕ
zeros = map (λ _. 0)

one_fits : (es p : List ℕ) → InBox es p → Fits es p (ones p)
one_fits [] [] h = tt
one_fits (e ∷ es) (i ∷ p) h = (omega (arith, h.0), one_fits es p h.1)
one_fits [] (i ∷ p) h = absurd h
one_fits (e ∷ es) [] h = absurd h

one_point : (p : List ℕ) → points (ones p) ≡ zeros p ∷ []
one_point [] = refl
one_point (i ∷ p) = ap (λ l. map (λ q. 0 ∷ q) l ++ []) (one_point p)

from_zeros : (p : List ℕ) → plus (zeros p) p ≡ p
from_zeros [] = refl
from_zeros (i ∷ p) = let e : 0 + i ≡ i = omega arith in λ j. e j ∷ from_zeros p j

one_test : (i k : ℕ) → tested i 1 k ≡ (i == k)
one_test i k =
    ⊎_elim (λ e. tested_in i 1 k (omega arith) (omega arith) ∙ sym (eq-eqb i k e))
    (λ n. ⊎_elim (λ l. tested_before i 1 k l) (λ l. tested_after i 1 k (omega arith)) (cases_lt k i) ∙ sym (ne_eqb i k n)) (cases_eq i k)

lies_at : (es p q : List ℕ) → InBox es p → InBox es q → lies_in p (ones p) q ≡ same_point p q
lies_at [] [] [] h k = refl
lies_at (e ∷ es) (i ∷ p) (k ∷ q) h l = λ j. one_test i k j && lies_at es p q h.1 l.1 j
lies_at [] (i ∷ p) q h k = absurd h
lies_at [] [] (k ∷ q) h l = absurd l
lies_at (e ∷ es) [] q h k = absurd h
lies_at (e ∷ es) (i ∷ p) [] h k = absurd k

-- a point of the box is there once
pub point_once : (es p : List ℕ) → InBox es p → filter (same_point p) (points es) ≡ p ∷ []
point_once es p h =
    filter-same (same_point p) (lies_in p (ones p)) (points es) (each_more (InBox es) (λ q. same_point p q ≡ lies_in p (ones p) q) (λ q k. sym (lies_at es p q h k)) (points es) (each_point es))
    ∙ points_in_window es p (ones p) (one_fits es p h) ∙ ap (map (λ q. plus q p)) (one_point p) ∙ ap (λ q. q ∷ []) (from_zeros p)
