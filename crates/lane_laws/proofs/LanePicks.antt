-- Coordinates of lanes, masked reads and writes at them.
use Rattle.std.proofs.Common.{◌≡◌, ℕ, zero, suc, ◌+◌, ◌<◌, ◌≤◌, ◌==◌, Bool, true, false, ◌&&◌, ◌||◌, cond, List, [], ◌∷◌, map, length, get_or, Some, inl, inr, ⊎_elim, refl, ap, sym, ◌∙◌, subst, arith}
use Rattle.std.specs.Prelude.{find, if◌then◌else◌}
use Rattle.std.specs.Option.{option_map_or}
use Rattle.std.proofs.lemmas.Bool.{true≢false, false≢true, eq-eqb, ne_eqb, cases_eq, and_parts}
use Rattle.std.proofs.lemmas.List.{length-map}
use Rattle.mlir_meaning.specs.declared.values.Grid.{Grid}
use Rattle.mlir_meaning.specs.Grids.{at, points, is_inside, same_point, count_up, InBox, Each}
use Rattle.mlir_meaning.specs.Points.{has, place_of, kept}
use Rattle.mlir_meaning.specs.Vectors.{lane_point, mask_point, is_on, read_of, writes, write_of}
use Rattle.mlir_meaning.proofs.Cells.{same_point-true, same_point-refl}
use Rattle.mlir_meaning.proofs.Grids.{at-tabulate, inside_true}
use Rattle.point_laws.specs.Boxes.{picks, Grows}
use Rattle.point_laws.proofs.Tables.{get_or-in, box_length, lists_same, in_box, count_length, count_at}
use Rattle.lane_laws.specs.Lanes.{IsOnce, lane_of, lane_picks, AreAmong, ReadVector, WriteBack}
use Rattle.point_laws.proofs.Inside.{grow_in, grow_get}
use Rattle.point_laws.proofs.Members.{IsIn}
use Rattle.point_laws.proofs.Sorted.{point_in, point_inside}
use Rattle.lane_laws.proofs.Transfers.{at_place, axes_in, picks_get, lane_get, lane_point_is, mask_point_is, on_is}

-- PLACES AND BACK
place_below : (d a : ℕ) (rs : List ℕ) → has rs d ≡ true → place_of d a rs < a + length rs
place_below d a [] h = absurd (false≢true h)
place_below d a (r ∷ rs) h = by (r == d) refl (λ f. place_below d (a + 1) rs ((λ j. sym f j || has rs d) ∙ h))
  where
    by : (b : Bool) → (r == d) ≡ b → ((r == d) ≡ false → place_of d (a + 1) rs < (a + 1) + length rs) → (if b then a else place_of d (a + 1) rs) < a + length (r ∷ rs)
    by true e rest = omega arith
    by false e rest = omega (arith, rest e)

pub place_lt : (d : ℕ) (rs : List ℕ) → has rs d ≡ true → place_of d 0 rs < length rs
place_lt d rs h = omega (arith, place_below d 0 rs h)

-- the coordinates of b at a point with those of a, and back
pub picks_back : (a b x : List ℕ) → IsOnce a → AreAmong b a → length x ≡ length a → lane_picks b a (lane_picks a b x) ≡ x
picks_back a b x once among l =
    lists_same 0 (lane_picks b a (lane_picks a b x)) x (length-map a (λ r. get_or (lane_picks a b x) (place_of r 0 b) 0) ∙ sym l)
    (λ k m. let n : k < length a = omega (arith, m, length-map a (λ r. get_or (lane_picks a b x) (place_of r 0 b) 0)) in
    lane_get b a (lane_picks a b x) k n ∙ lane_get a b x (place_of (get_or a k 0) 0 b) (place_lt (get_or a k 0) b (among k n))
    ∙ (λ j. get_or x (place_of (at_place (get_or a k 0) b (among k n) j) 0 a) 0) ∙ ap (λ m. get_or x m 0) (once k n))

-- from a whole point
pub picks_of_picks : (dims rs p : List ℕ) → AreAmong dims rs → lane_picks dims rs (picks dims p) ≡ picks rs p
picks_of_picks dims rs p among =
    lists_same 0 (lane_picks dims rs (picks dims p)) (picks rs p) (length-map rs (λ r. get_or (picks dims p) (place_of r 0 dims) 0) ∙ sym (length-map rs (λ d. get_or p d 0)))
    (λ k m. let n : k < length rs = omega (arith, m, length-map rs (λ r. get_or (picks dims p) (place_of r 0 dims) 0)) in
    lane_get dims rs (picks dims p) k n ∙ picks_get dims p (place_of (get_or rs k 0) 0 dims) (place_lt (get_or rs k 0) dims (among k n))
    ∙ ap (λ d. get_or p d 0) (at_place (get_or rs k 0) dims (among k n)) ∙ sym (picks_get rs p k n))

pub lane_picks_in : (dims rs vs q : List ℕ) → AreAmong dims rs → InBox (picks dims vs) q → InBox (picks rs vs) (lane_picks dims rs q)
lane_picks_in dims rs vs q among b =
    in_box (picks rs vs) (lane_picks dims rs q) (length-map rs (λ r. get_or q (place_of r 0 dims) 0) ∙ sym (length-map rs (λ d. get_or vs d 0)))
    (λ k l. let n : k < length rs = omega (arith, l, length-map rs (λ d. get_or vs d 0)) in
    let m : place_of (get_or rs k 0) 0 dims < length dims = place_lt (get_or rs k 0) dims (among k n) in
    let h : get_or q (place_of (get_or rs k 0) 0 dims) 0 < get_or (picks dims vs) (place_of (get_or rs k 0) 0 dims) 0 = get_or-in (picks dims vs) q (place_of (get_or rs k 0) 0 dims) b (omega (arith, m, length-map dims (λ d. get_or vs d 0))) in
    omega (arith, h, lane_get dims rs q k n, picks_get rs vs k n, picks_get dims vs (place_of (get_or rs k 0) 0 dims) m, ap (λ d. get_or vs d 0) (at_place (get_or rs k 0) dims (among k n))))

-- ALL DIMENSIONS
count_place : (n a r : ℕ) → a ≤ r → r < a + n → (place_of r a (count_up a n) ≡ r) × (has (count_up a n) r ≡ true)
count_place zero a r l m = absurd (omega arith)
count_place (suc n) a r l m =
    ⊎_elim (λ (e : a ≡ r). let t : (a == r) ≡ true = eq-eqb a r e in ((λ j. if t j then a else place_of r (a + 1) (count_up (a + 1) n)) ∙ e, λ j. t j || has (count_up (a + 1) n) r))
    (λ ne. let f : (a == r) ≡ false = ne_eqb a r ne in
    let rest = count_place n (a + 1) r (next a r l ne) (omega arith) in
    ((λ j. if f j then a else place_of r (a + 1) (count_up (a + 1) n)) ∙ rest.0, (λ j. f j || has (count_up (a + 1) n) r) ∙ rest.1)) (cases_eq a r)
  where
    next : (a r : ℕ) → a ≤ r → (a ≡ r → ⊥) → a + 1 ≤ r
    next zero zero l n = absurd (n refl)
    next zero (suc r) l n = omega arith
    next (suc a) zero l n = absurd (omega arith)
    next (suc a) (suc r) l n = omega (arith, next a r (omega arith) (λ e. n (ap suc e)))

pub all_once : (n : ℕ) → IsOnce (count_up 0 n)
all_once n k l =
    let m : k < n = omega (arith, l, count_length 0 n) in
    let e : get_or (count_up 0 n) k 0 ≡ k = omega (arith, count_at 0 n k 0 m) in (λ j. place_of (e j) 0 (count_up 0 n)) ∙ (count_place n 0 k (omega arith) (omega arith)).0

pub all_among : (n : ℕ) (rs : List ℕ) → Each (λ r. r < n) rs → AreAmong (count_up 0 n) rs
all_among n [] h k l = absurd (omega arith)
all_among n (r ∷ rs) h zero l = (count_place n 0 r (omega arith) (omega (arith, h.0))).1
all_among n (r ∷ rs) h (suc k) l = all_among n rs h.1 k (omega arith)

pub all_picks : (n : ℕ) (rs p : List ℕ) → Each (λ r. r < n) rs → lane_picks (count_up 0 n) rs p ≡ picks rs p
all_picks n [] p h = refl
all_picks n (r ∷ rs) p h = λ j. get_or p ((count_place n 0 r (omega arith) (omega (arith, h.0))).0 j) 0 ∷ all_picks n rs p h.1 j

pub all_whole : (n : ℕ) (p : List ℕ) → length p ≡ n → picks (count_up 0 n) p ≡ p
all_whole n p l =
    lists_same 0 (picks (count_up 0 n) p) p (length-map (count_up 0 n) (λ d. get_or p d 0) ∙ count_length 0 n ∙ sym l)
    (λ k m. let s : k < n = omega (arith, m, length-map (count_up 0 n) (λ d. get_or p d 0), count_length 0 n) in
    let e : get_or (count_up 0 n) k 0 ≡ k = omega (arith, count_at 0 n k 0 s) in picks_get (count_up 0 n) p k (omega (arith, s, count_length 0 n)) ∙ ap (λ d. get_or p d 0) e)

-- the coordinates that a reduction keeps
pub kept_map : {A B : Type 0} (f : A → B) (named : List ℕ) (axis : ℕ) (xs : List A) → kept named axis (map f xs) ≡ map f (kept named axis xs)
kept_map f named axis [] = refl
kept_map f named axis (x ∷ xs) = by (has named axis) (kept_map f named (axis + 1) xs)
  where
    by : (b : Bool) → kept named (axis + 1) (map f xs) ≡ map f (kept named (axis + 1) xs) →
        (if b then kept named (axis + 1) (map f xs) else f x ∷ kept named (axis + 1) (map f xs)) ≡ map f (if b then kept named (axis + 1) xs else x ∷ kept named (axis + 1) xs)
    by true e = e
    by false e = ap (λ l. f x ∷ l) e

pub kept_picks : (n : ℕ) (named p : List ℕ) → length p ≡ n → kept named 0 p ≡ picks (kept named 0 (count_up 0 n)) p
kept_picks n named p l = ap (kept named 0) (sym (all_whole n p l)) ∙ kept_map (λ d. get_or p d 0) named 0 (count_up 0 n)

-- READS AND WRITES
lanes_length : (dims vs q : List ℕ) → InBox (picks dims vs) q → length dims ≡ length q
lanes_length dims vs q b = sym (length-map dims (λ d. get_or vs d 0)) ∙ sym (box_length (picks dims vs) q b)

pub at-read : (vs dims rs : List ℕ) (g v : Grid) (q : List ℕ) → IsOnce rs → AreAmong dims rs → length g.extents ≡ length rs → ReadVector vs dims rs g v → InBox (picks dims vs) q → at v q ≡ lane_of g (lane_picks dims rs q)
unfolding read_of
at-read vs dims rs g v q once among size r b =
    let l : length dims ≡ length q = lanes_length dims vs q b in
    let m : mask_point (axes_in dims rs) (length g.extents) q ≡ lane_picks dims rs q = (λ j. mask_point (axes_in dims rs) (size j) q) ∙ mask_point_is dims rs once among q l in
    (λ j. at (r.is j) q)
    ∙ at-tabulate (picks dims vs) q (λ p. if is_on r.mask (mask_point (axes_in dims rs) (length g.extents) p) then at g (lane_point (axes_in dims rs) p r.offsets) else 0) b
    ∙ (λ j. if is_on r.mask (m j) then at g (lane_point_is dims rs once among q l r.offsets r.at_zero j) else 0)
    ∙ (λ j. if on_is g.extents (picks rs vs) r.mask (lane_picks dims rs q) r.is_mask (lane_picks_in dims rs vs q among b) j then at g (lane_picks dims rs q) else 0)

pub read_extents : (vs dims rs : List ℕ) (g v : Grid) → ReadVector vs dims rs g v → v.extents ≡ picks dims vs
unfolding read_of
read_extents vs dims rs g v r = λ j. (r.is j).extents

find_is : (test : List ℕ → Bool) (q : List ℕ) (xs : List (List ℕ)) → IsIn q xs → test q ≡ true → ((x : List ℕ) → IsIn x xs → test x ≡ true → x ≡ q) → find test xs ≡ Some q
find_is test q [] i t one = absurd i
find_is test q (x ∷ xs) i t one = by (test x) refl (λ j. find_is test q xs j t (λ y k u. one y (inr k) u))
  where
    by : (b : Bool) → test x ≡ b → (IsIn q xs → find test xs ≡ Some q) → cond b (Some x) (find test xs) ≡ Some q
    by true u rest = ap (λ z. Some z) (one x (inl refl) u)
    by false u rest = ⊎_elim (λ e. absurd (true≢false (sym t ∙ ap test e ∙ u))) (λ j. rest j) i

-- the element that a lane writes
module _ (box vs : List ℕ) (grows : Grows box vs) (dims ds : List ℕ) (once : IsOnce ds) (once' : IsOnce dims) (among : AreAmong dims ds) (among' : AreAmong ds dims) (below : Each (λ d. d < length box) dims) where
  -- the lane of an element
  abbrev pub lane : List ℕ → List ℕ
  lane e = lane_picks ds dims e

  pub lane_back : (e : List ℕ) → InBox (picks ds box) e → lane_picks dims ds (lane e) ≡ e
  lane_back e b = picks_back ds dims e once among (box_length (picks ds box) e b ∙ length-map ds (λ d. get_or box d 0))

  pub lane_in_box : (e : List ℕ) → InBox (picks ds box) e → InBox (picks dims box) (lane e)
  lane_in_box e b = lane_picks_in ds dims box e among' b

  grow_picks : (xs : List ℕ) → Grows (picks xs box) (picks xs vs)
  grow_picks [] = tt
  grow_picks (x ∷ xs) = (grow_get box vs x grows, grow_picks xs)

  pub lane_in : (e : List ℕ) → InBox (picks ds box) e → InBox (picks dims vs) (lane e)
  lane_in e b = grow_in (picks dims box) (picks dims vs) (lane e) (grow_picks dims) (lane_in_box e b)

  pub at-write : (g v w : Grid) → g.extents ≡ picks ds box → v.extents ≡ picks dims vs → WriteBack vs dims ds g v w → (e : List ℕ) → InBox g.extents e → at w e ≡ at v (lane e)
  unfolding write_of
  at-write g v w extents lanes r e i =
      let b : InBox (picks ds box) e = subst (λ es. InBox es e) extents i in
      let size : length g.extents ≡ length ds = ap length extents ∙ length-map ds (λ d. get_or box d 0) in
      let test : List ℕ → Bool = writes (axes_in dims ds) (length g.extents) r.offsets r.mask e in
      let test_is : (q : List ℕ) → InBox (picks dims vs) q → test q ≡ (is_inside g.extents (lane_picks dims ds q) && same_point (lane_picks dims ds q) e) =
      λ q c. let l : length dims ≡ length q = lanes_length dims vs q c in
      (λ j. is_on r.mask (((λ k. mask_point (axes_in dims ds) (size k) q) ∙ mask_point_is dims ds once among q l) j) && same_point (lane_point_is dims ds once among q l r.offsets r.at_zero j) e)
      ∙ (λ j. on_is g.extents (picks ds vs) r.mask (lane_picks dims ds q) r.is_mask (lane_picks_in dims ds vs q among c) j && same_point (lane_picks dims ds q) e) in
      let back : lane_picks dims ds (lane e) ≡ e = lane_back e b in
      (λ j. at (r.is j) e)
      ∙ at-tabulate g.extents e (λ x. option_map_or (at v) (find (writes (axes_in dims ds) (length g.extents) r.offsets r.mask x) (points v.extents)) (at g x)) i
      ∙ (λ j. option_map_or (at v) (find test (points (lanes j))) (at g e))
      ∙ ap (λ o. option_map_or (at v) o (at g e))
      (find_is test (lane e) (points (picks dims vs)) (point_in (picks dims vs) (lane e) (lane_in e b))
      (test_is (lane e) (lane_in e b) ∙ (λ j. is_inside g.extents (back j) && same_point (back j) e) ∙ (λ j. inside_true g.extents e i j && same_point-refl e j))
      (λ q k t. let c : InBox (picks dims vs) q = point_inside (picks dims vs) q k in
      let both = and_parts (is_inside g.extents (lane_picks dims ds q)) (same_point (lane_picks dims ds q) e) (sym (test_is q c) ∙ t) in
      sym (picks_back dims ds q once' among' (sym (lanes_length dims vs q c))) ∙ ap (lane_picks ds dims) (same_point-true (lane_picks dims ds q) e both.1)))
