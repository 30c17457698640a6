-- Masked reads at lanes.
use Rattle.std.proofs.Common.{◌≡◌, ℕ, zero, suc, ◌+◌, ◌-◌, ◌<◌, ◌≤◌, ◌==◌, pos, Bool, true, false, ◌||◌, List, [], ◌∷◌, map, length, set, get_or, Option, Some, None, ⊎_elim, refl, ap, sym, ◌∙◌, subst, arith}
use Rattle.std.specs.Prelude.{filter_map, if◌then◌else◌}
use Rattle.std.specs.List.{cons_option}
use Rattle.std.specs.Option.{option_map_or}
use Rattle.std.proofs.lemmas.Bool.{true≢false, false≢true, eqb-true, eq-eqb, ne_eqb, cases_eq}
use Rattle.std.proofs.lemmas.List.{length-map, get_or-set_same, get_or-set_other, length-set}
use Rattle.payload_ops.specs.Values.{bit_of}
use Rattle.affine_maps.specs.Map.{dimension}
use Rattle.mlir_meaning.specs.declared.values.Datum.{Datum}
use Rattle.mlir_meaning.specs.Grids.{is_inside, count_up, InBox}
use Rattle.mlir_meaning.specs.Points.{has, place_of, dimension_of}
use Rattle.mlir_meaning.specs.States.{element}
use Rattle.mlir_meaning.specs.Vectors.{mask_of, lane_point, lane_coordinate, mask_point, is_on}
use Rattle.mlir_meaning.proofs.Grids.{at-tabulate, inside_true}
use Rattle.point_laws.specs.Boxes.{picks, zeros}
use Rattle.lane_laws.specs.Lanes.{IsOnce, transfer_axis, IsMask, lane_picks}
use Rattle.point_laws.proofs.Tables.{lists_same}

-- PLACES
place_from : (d a : ℕ) (rs : List ℕ) → has rs d ≡ true → a ≤ place_of d a rs × (get_or rs (place_of d a rs - a) 0 ≡ d)
place_from d a [] h = absurd (false≢true h)
place_from d a (r ∷ rs) h = by (r == d) refl (λ f. place_from d (a + 1) rs ((λ j. sym f j || has rs d) ∙ h))
  where
    by : (b : Bool) → (r == d) ≡ b → ((r == d) ≡ false → (a + 1 ≤ place_of d (a + 1) rs) × (get_or rs (place_of d (a + 1) rs - (a + 1)) 0 ≡ d)) →
        (a ≤ (if b then a else place_of d (a + 1) rs)) × (get_or (r ∷ rs) ((if b then a else place_of d (a + 1) rs) - a) 0 ≡ d)
    by true e rest = let z : a - a ≡ 0 = omega arith in (omega arith, (λ j. get_or (r ∷ rs) (z j) 0) ∙ eqb-true r d e)
    by false e rest =
        let k = rest e in
        let z : place_of d (a + 1) rs - a ≡ suc (place_of d (a + 1) rs - (a + 1)) = omega (arith, k.0) in (omega (arith, k.0), (λ j. get_or (r ∷ rs) (z j) 0) ∙ k.1)

-- what stands at the place of a dimension is that dimension
pub at_place : (d : ℕ) (rs : List ℕ) → has rs d ≡ true → get_or rs (place_of d 0 rs) 0 ≡ d
at_place d rs h = (let z : place_of d 0 rs ≡ place_of d 0 rs - 0 = omega arith in λ j. get_or rs (z j) 0) ∙ (place_from d 0 rs h).1

pub has_at : (rs : List ℕ) (k : ℕ) → k < length rs → has rs (get_or rs k 0) ≡ true
has_at [] k l = absurd (omega arith)
has_at (r ∷ rs) zero l = λ j. eq-eqb r r refl j || has rs r
has_at (r ∷ rs) (suc k) l = by (r == get_or rs k 0) (has_at rs k (omega arith))
  where
    by : (b : Bool) → has rs (get_or rs k 0) ≡ true → (b || has rs (get_or rs k 0)) ≡ true
    by true h = refl
    by false h = h

-- LANES
-- the axes of a transfer's map
abbrev pub axes_in : List ℕ → List ℕ → List (Option ℕ)
axes_in dims rs = map dimension_of (map (transfer_axis rs) dims)

axis_is : (rs : List ℕ) (d : ℕ) → dimension_of (transfer_axis rs d) ≡ (if has rs d then Some (place_of d 0 rs) else None)
axis_is rs d = by (has rs d)
  where
    by : (b : Bool) → dimension_of (if b then dimension (place_of d 0 rs) else record { constant = pos 0; terms = [] }) ≡ (if b then Some (place_of d 0 rs) else None)
    by true = refl
    by false = refl

-- the lane's coordinate on source axis k is that of the dimension which stands there
coordinate_is : (rs : List ℕ) → IsOnce rs → (k : ℕ) → k < length rs → (dims p : List ℕ) → length dims ≡ length p → has dims (get_or rs k 0) ≡ true →
    lane_coordinate (axes_in dims rs) p k ≡ Some (get_or p (place_of (get_or rs k 0) 0 dims) 0)
coordinate_is rs once k l dims p long h = go dims p 0 long h ∙ ap (λ n. Some (get_or p n 0)) (omega arith)
  where
    go : (dims p : List ℕ) (a : ℕ) → length dims ≡ length p → has dims (get_or rs k 0) ≡ true → lane_coordinate (axes_in dims rs) p k ≡ Some (get_or p (place_of (get_or rs k 0) a dims - a) 0)
    go [] p a long h = absurd (false≢true h)
    go (d ∷ dims) [] a long h = absurd (omega arith)
    go (d ∷ dims) (i ∷ p) a long h =
        (λ j. lane_coordinate (axis_is rs d j ∷ axes_in dims rs) (i ∷ p) k) ∙ by (d == get_or rs k 0) refl (λ f. go dims p (a + 1) (omega arith) ((λ j. sym f j || has dims (get_or rs k 0)) ∙ h))
      where
        later : (b : Bool) → has rs d ≡ b → (d ≡ get_or rs k 0 → ⊥) → lane_coordinate ((if b then Some (place_of d 0 rs) else None) ∷ axes_in dims rs) (i ∷ p) k ≡ lane_coordinate (axes_in dims rs) p k
        later true t other =
            let n : (place_of d 0 rs == k) ≡ false = ne_eqb (place_of d 0 rs) k (λ e. other (sym (at_place d rs t) ∙ ap (λ m. get_or rs m 0) e)) in
            λ j. if n j then Some i else lane_coordinate (axes_in dims rs) p k
        later false t other = refl

        by : (b : Bool) → (d == get_or rs k 0) ≡ b → ((d == get_or rs k 0) ≡ false → lane_coordinate (axes_in dims rs) p k ≡ Some (get_or p (place_of (get_or rs k 0) (a + 1) dims - (a + 1)) 0)) →
            lane_coordinate ((if has rs d then Some (place_of d 0 rs) else None) ∷ axes_in dims rs) (i ∷ p) k ≡ Some (get_or (i ∷ p) ((if b then a else place_of (get_or rs k 0) (a + 1) dims) - a) 0)
        by true e rest =
            let same : d ≡ get_or rs k 0 = eqb-true d (get_or rs k 0) e in
            let there : has rs d ≡ true = ap (has rs) same ∙ has_at rs k l in
            let found : (place_of d 0 rs == k) ≡ true = eq-eqb (place_of d 0 rs) k (ap (λ m. place_of m 0 rs) same ∙ once k l) in
            let z : a - a ≡ 0 = omega arith in
            (λ j. lane_coordinate ((if there j then Some (place_of d 0 rs) else None) ∷ axes_in dims rs) (i ∷ p) k)
            ∙ (λ j. if found j then Some i else lane_coordinate (axes_in dims rs) p k) ∙ (λ j. Some (get_or (i ∷ p) (sym z j) 0))
        by false e rest =
            let other : d ≡ get_or rs k 0 → ⊥ = λ q. absurd (true≢false (sym (eq-eqb d (get_or rs k 0) q) ∙ e)) in
            let h1 : has dims (get_or rs k 0) ≡ true = (λ j. sym e j || has dims (get_or rs k 0)) ∙ h in
            let z : place_of (get_or rs k 0) (a + 1) dims - a ≡ suc (place_of (get_or rs k 0) (a + 1) dims - (a + 1)) = omega (arith, (place_from (get_or rs k 0) (a + 1) dims h1).0) in
            later (has rs d) refl other ∙ rest e ∙ (λ j. Some (get_or (i ∷ p) (sym z j) 0))

-- the lane's point on a source axis
point_at : (axes : List (Option ℕ)) (p offsets : List ℕ) (k : ℕ) → k < length offsets →
    (length (lane_point axes p offsets) ≡ length offsets) × (get_or (lane_point axes p offsets) k 0 ≡ option_map_or (λ i. get_or offsets k 0 + i) (lane_coordinate axes p k) (get_or offsets k 0))
point_at [] p offsets k l = (refl, refl)
point_at (None ∷ axes) [] offsets k l = (refl, refl)
point_at (Some a ∷ axes) [] offsets k l = (refl, refl)
point_at (None ∷ axes) (i ∷ p) offsets k l = point_at axes p offsets k l
point_at (Some a ∷ axes) (i ∷ p) offsets k l =
    let rest = point_at axes p offsets k l in (
      length-set (lane_point axes p offsets) a (get_or offsets a 0 + i) ∙ rest.0,
      ⊎_elim
          (λ (e : a ≡ k). subst (λ m. get_or (set (lane_point axes p offsets) a (get_or offsets a 0 + i)) m 0 ≡ option_map_or (λ i. get_or offsets m 0 + i) (if a == m then Some i else lane_coordinate axes p m) (get_or offsets m 0)) e
          (get_or-set_same (lane_point axes p offsets) a (get_or offsets a 0 + i) 0 (omega (arith, rest.0, l, e))
          ∙ (λ j. option_map_or (λ i. get_or offsets a 0 + i) (if sym (eq-eqb a a refl) j then Some i else lane_coordinate axes p a) (get_or offsets a 0))))
          (λ n. get_or-set_other (lane_point axes p offsets) a k (get_or offsets a 0 + i) 0 (λ e. n (sym e)) ∙ rest.1
          ∙ (λ j. option_map_or (λ i. get_or offsets k 0 + i) (if sym (ne_eqb a k n) j then Some i else lane_coordinate axes p k) (get_or offsets k 0))) (cases_eq a k),
    )

zeros_get : (rs : List ℕ) (k : ℕ) → get_or (zeros rs) k 0 ≡ 0
zeros_get [] k = refl
zeros_get (r ∷ rs) zero = refl
zeros_get (r ∷ rs) (suc k) = zeros_get rs k

pub picks_get : (rs p : List ℕ) (k : ℕ) → k < length rs → get_or (picks rs p) k 0 ≡ get_or p (get_or rs k 0) 0
picks_get [] p k l = absurd (omega arith)
picks_get (r ∷ rs) p zero l = refl
picks_get (r ∷ rs) p (suc k) l = picks_get rs p k (omega arith)

pub lane_get : (dims rs p : List ℕ) (k : ℕ) → k < length rs → get_or (lane_picks dims rs p) k 0 ≡ get_or p (place_of (get_or rs k 0) 0 dims) 0
lane_get dims [] p k l = absurd (omega arith)
lane_get dims (r ∷ rs) p zero l = refl
lane_get dims (r ∷ rs) p (suc k) l = lane_get dims rs p k (omega arith)

module _ (dims rs : List ℕ) (once : IsOnce rs) (all : (k : ℕ) → k < length rs → has dims (get_or rs k 0) ≡ true) (p : List ℕ) (long : length dims ≡ length p) where
  -- a lane's point of the source
  pub lane_point_is : (offsets : List ℕ) → offsets ≡ zeros rs → lane_point (axes_in dims rs) p offsets ≡ lane_picks dims rs p
  lane_point_is offsets e =
      let size : length offsets ≡ length rs = ap length e ∙ length-map rs (λ _. 0) in
      by size rs refl
    where
      point_length : (axes : List (Option ℕ)) (p offsets : List ℕ) → length (lane_point axes p offsets) ≡ length offsets
      point_length [] p offsets = refl
      point_length (None ∷ axes) [] offsets = refl
      point_length (Some a ∷ axes) [] offsets = refl
      point_length (None ∷ axes) (i ∷ p) offsets = point_length axes p offsets
      point_length (Some a ∷ axes) (i ∷ p) offsets = length-set (lane_point axes p offsets) a (get_or offsets a 0 + i) ∙ point_length axes p offsets

      by : length offsets ≡ length rs → (qs : List ℕ) → qs ≡ rs → lane_point (axes_in dims rs) p offsets ≡ lane_picks dims rs p
      by size qs same = lists_same 0 (lane_point (axes_in dims rs) p offsets) (lane_picks dims rs p)
          (point_length (axes_in dims rs) p offsets ∙ size ∙ sym (length-map rs (λ r. get_or p (place_of r 0 dims) 0)))
          (λ k l. let m : k < length rs = omega (arith, l, point_length (axes_in dims rs) p offsets, size) in
          let zero_at : get_or offsets k 0 ≡ 0 = (λ j. get_or (e j) k 0) ∙ zeros_get rs k in
          (point_at (axes_in dims rs) p offsets k (omega (arith, m, size))).1
          ∙ (λ j. option_map_or (λ i. get_or offsets k 0 + i) (coordinate_is rs once k m dims p long (all k m) j) (get_or offsets k 0))
          ∙ omega (arith, zero_at) ∙ sym (lane_get dims rs p k m))

  -- and of the mask
  pub mask_point_is : mask_point (axes_in dims rs) (length rs) p ≡ lane_picks dims rs p
  mask_point_is = go (length rs) 0 (λ k l. coordinate_is rs once (0 + k) (omega (arith, l)) dims p long (all (0 + k) (omega (arith, l)))) ∙ whole rs 0
    where
      go : (n a : ℕ) → ((k : ℕ) → k < n → lane_coordinate (axes_in dims rs) p (a + k) ≡ Some (get_or p (place_of (get_or rs (a + k) 0) 0 dims) 0)) →
          filter_map (lane_coordinate (axes_in dims rs) p) (count_up a n) ≡ map (λ k. get_or p (place_of (get_or rs k 0) 0 dims) 0) (count_up a n)
      go zero a h = refl
      go (suc n) a h =
          let z : a + 0 ≡ a = omega arith in
          let first : lane_coordinate (axes_in dims rs) p a ≡ Some (get_or p (place_of (get_or rs a 0) 0 dims) 0) = subst (λ m. lane_coordinate (axes_in dims rs) p m ≡ Some (get_or p (place_of (get_or rs m 0) 0 dims) 0)) z (h 0 (omega arith)) in
          let rest = go n (a + 1) (λ k l. let m : (a + 1) + k ≡ a + suc k = omega arith in
          subst (λ m. lane_coordinate (axes_in dims rs) p m ≡ Some (get_or p (place_of (get_or rs m 0) 0 dims) 0)) (sym m) (h (suc k) (omega arith))) in
          cons_some (lane_coordinate (axes_in dims rs) p a) (get_or p (place_of (get_or rs a 0) 0 dims) 0) (count_up (a + 1) n) first ∙ ap (λ l. get_or p (place_of (get_or rs a 0) 0 dims) 0 ∷ l) rest
        where
          cons_some : (o : Option ℕ) (v : ℕ) (ks : List ℕ) → o ≡ Some v → cons_option o (filter_map (lane_coordinate (axes_in dims rs) p) ks) ≡ v ∷ filter_map (lane_coordinate (axes_in dims rs) p) ks
          cons_some o v ks e = λ j. cons_option (e j) (filter_map (lane_coordinate (axes_in dims rs) p) ks)

      shifted : (qs : List ℕ) (r a n : ℕ) → map (λ k. get_or p (place_of (get_or (r ∷ qs) k 0) 0 dims) 0) (count_up (suc a) n) ≡ map (λ k. get_or p (place_of (get_or qs k 0) 0 dims) 0) (count_up a n)
      shifted qs r a zero = refl
      shifted qs r a (suc n) = ap (λ l. get_or p (place_of (get_or qs a 0) 0 dims) 0 ∷ l) ((let z : suc a + 1 ≡ suc (a + 1) = omega arith in λ j. map (λ k. get_or p (place_of (get_or (r ∷ qs) k 0) 0 dims) 0) (count_up (z j) n)) ∙ shifted qs r (a + 1) n)

      whole : (qs : List ℕ) (n : ℕ) → map (λ k. get_or p (place_of (get_or qs k 0) 0 dims) 0) (count_up 0 (length qs)) ≡ lane_picks dims qs p
      whole [] n = refl
      whole (q ∷ qs) n = ap (λ l. get_or p (place_of q 0 dims) 0 ∷ l) (shifted qs q 0 (length qs) ∙ whole qs n)

-- A MASK
pub on_is : (extents lanes : List ℕ) (m : Option Datum) (q : List ℕ) → IsMask extents lanes m → InBox lanes q → is_on m q ≡ is_inside extents q
unfolding mask_of
on_is extents lanes None q h b = sym (inside_true extents q (subst (λ es. InBox es q) (sym h) b))
on_is extents lanes (Some m) q h b = (λ j. element (h j) q == 1) ∙ ap (λ n. n == 1) (at-tabulate lanes q (λ p. bit_of (is_inside extents p)) b) ∙ bit (is_inside extents q)
  where
    bit : (b : Bool) → (bit_of b == 1) ≡ b
    bit true = refl
    bit false = refl
