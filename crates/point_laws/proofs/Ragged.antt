-- The tiles hold each point of the box once.
use Rattle.std.proofs.Common.{◌≡◌, ℕ, zero, suc, ◌+◌, ◌-◌, ◌*◌, ◌/◌, ◌<◌, ◌≤◌, ◌==◌, min, Bool, true, ◌&&◌, List, [], ◌∷◌, map, filter, IsPermutation, refl, sym, ◌∙◌, subst, arith, add-mul, ⊎_elim}
use Rattle.std.specs.Prelude.{flat_map}
use Rattle.std.proofs.Math.Nat.{mul_comm, mul-le-mul_right, div-lt_iff_lt-mul}
use Rattle.std.proofs.lemmas.Bool.{eq-eqb, ne_eqb, cases_lt}
use Rattle.mlir_meaning.specs.Grids.{points, plus, lies_in, same_point, InBox, Fits, Each}
use Rattle.mlir_meaning.proofs.Grids.{each_more, each_point}
use Rattle.point_laws.specs.Tiles.{tile_count, tile_box, tile_of, tile_offsets, tile_sizes}
use Rattle.point_laws.proofs.Lists.{filter-same, flat_map-same}
use Rattle.point_laws.proofs.Groups.{InOne, groups_permute}
use Rattle.point_laws.proofs.Windows.{tested, tested_in, tested_before, tested_after, points_in_window, point_once}

-- ONE DIMENSION
pub tiles_end : (extent t : ℕ) → 0 < t → extent ≤ tile_count extent t * t
tiles_end extent t h = omega (arith, mul_comm (tile_count extent t) t)

pub tile_begins : (extent t k : ℕ) → 0 < t → k < tile_count extent t → k * t < extent
tile_begins extent t k h l = omega (arith, mul_comm (tile_count extent t) t, mul-le-mul_right {m = k + 1} {n = tile_count extent t} t (omega arith), add-mul k 1 t)

-- a coordinate lies in tile k where k is its quotient
pub tile_tested : (e t k i : ℕ) → 0 < t → i < e → k * t < e → tested (k * t) (min (e - k * t) t) i ≡ ((i / t) == k)
tile_tested e t k i h l begins =
    let next : (k + 1) * t ≡ k * t + t = omega (arith, add-mul k 1 t) in
    ⊎_elim (λ b. tested_before (k * t) (min (e - k * t) t) i b ∙ sym (ne_eqb (i / t) k (λ x. omega (arith, (div-lt_iff_lt-mul {k = t} {x = i} {y = k} h).1 b))))
    (λ b. ⊎_elim
    (λ c. tested_in (k * t) (min (e - k * t) t) i b (omega arith)
    ∙ sym (eq-eqb (i / t) k (omega (arith, (div-lt_iff_lt-mul {k = t} {x = i} {y = k + 1} h).1 (omega arith), not_less b))))
    (λ c. tested_after (k * t) (min (e - k * t) t) i (omega arith) ∙ sym (ne_eqb (i / t) k (λ x. not_next c (omega arith)))) (cases_lt i (k * t + t)))
    (cases_lt i (k * t))
  where
    not_less : k * t ≤ i → k ≤ i / t
    not_less b = ⊎_elim (λ (c : i / t < k). absurd (omega (arith, (div-lt_iff_lt-mul {k = t} {x = i} {y = k} h).0 c))) (λ c. c) (cases_lt (i / t) k)

    not_next : k * t + t ≤ i → i / t < k + 1 → ⊥
    not_next c b = omega (arith, (div-lt_iff_lt-mul {k = t} {x = i} {y = k + 1} h).0 b, add-mul k 1 t)

pub whole_tested : (e i : ℕ) → i < e → tested 0 e i ≡ true
whole_tested e i h = tested_in 0 e i (omega arith) (omega arith)

-- ALL DIMENSIONS
-- a point lies in a tile exactly where that is its tile
pub lies_in_tile : (es ts p q : List ℕ) → InBox es p → InBox (tile_box es ts) q → lies_in (tile_offsets es ts q) (tile_sizes es ts q) p ≡ same_point (tile_of p ts) q
lies_in_tile [] ts [] [] h k = refl
lies_in_tile (e ∷ es) [] (i ∷ p) q h k = λ j. whole_tested e i h.0 j && lies_in_tile es [] p q h.1 k j
lies_in_tile (e ∷ es) (zero ∷ ts) (i ∷ p) q h k = λ j. whole_tested e i h.0 j && lies_in_tile es ts p q h.1 k j
lies_in_tile (e ∷ es) (suc t ∷ ts) (i ∷ p) (n ∷ q) h k =
    λ j. tile_tested e (suc t) n i (omega arith) h.0 (tile_begins e (suc t) n (omega arith) k.0) j && lies_in_tile es ts p q h.1 k.1 j
lies_in_tile [] ts [] (n ∷ q) h k = absurd k
lies_in_tile [] ts (i ∷ p) q h k = absurd h
lies_in_tile (e ∷ es) ts [] q h k = absurd h
lies_in_tile (e ∷ es) (suc t ∷ ts) (i ∷ p) [] h k = absurd k

-- its tile is one of the tiles
pub tile_of_in : (es ts p : List ℕ) → InBox es p → InBox (tile_box es ts) (tile_of p ts)
tile_of_in [] ts [] h = tt
tile_of_in (e ∷ es) [] (i ∷ p) h = tile_of_in es [] p h.1
tile_of_in (e ∷ es) (zero ∷ ts) (i ∷ p) h = tile_of_in es ts p h.1
tile_of_in (e ∷ es) (suc t ∷ ts) (i ∷ p) h =
    ((div-lt_iff_lt-mul {k = suc t} {x = i} {y = tile_count e (suc t)} (omega arith)).1 (omega (arith, h.0, tiles_end e (suc t) (omega arith))), tile_of_in es ts p h.1)
tile_of_in [] ts (i ∷ p) h = absurd h
tile_of_in (e ∷ es) ts [] h = absurd h

-- a tile lies in the box
pub tile_fits : (es ts q : List ℕ) → InBox (tile_box es ts) q → Fits es (tile_offsets es ts q) (tile_sizes es ts q)
tile_fits [] ts q h = tt
tile_fits (e ∷ es) [] q h = (omega arith, tile_fits es [] q h)
tile_fits (e ∷ es) (zero ∷ ts) q h = (omega arith, tile_fits es ts q h)
tile_fits (e ∷ es) (suc t ∷ ts) (k ∷ q) h = (omega (arith, tile_begins e (suc t) k (omega arith) h.0), tile_fits es ts q h.1)
tile_fits (e ∷ es) (suc t ∷ ts) [] h = absurd h

module _ (es ts : List ℕ) where
  abbrev pub in_tile : List ℕ → List ℕ → Bool
  in_tile q p = same_point (tile_of p ts) q

  pub each_in_one : Each (InOne in_tile (points (tile_box es ts))) (points es)
  each_in_one =
      each_more (InBox es) (InOne in_tile (points (tile_box es ts))) (λ p h. (tile_of p ts, point_once (tile_box es ts) (tile_of p ts) (tile_of_in es ts p h))) (points es) (each_point es)

  -- the points of a tile, in order
  pub tile_points : (q : List ℕ) → InBox (tile_box es ts) q → filter (in_tile q) (points es) ≡ map (λ p. plus p (tile_offsets es ts q)) (points (tile_sizes es ts q))
  tile_points q h =
      filter-same (in_tile q) (lies_in (tile_offsets es ts q) (tile_sizes es ts q)) (points es)
      (each_more (InBox es) (λ p. in_tile q p ≡ lies_in (tile_offsets es ts q) (tile_sizes es ts q) p) (λ p b. sym (lies_in_tile es ts p q b h)) (points es) (each_point es))
      ∙ points_in_window es (tile_offsets es ts q) (tile_sizes es ts q) (tile_fits es ts q h)

  -- RAGGED POINTS
  pub ragged : IsPermutation (points es) (flat_map (λ q. map (λ p. plus p (tile_offsets es ts q)) (points (tile_sizes es ts q))) (points (tile_box es ts)))
  ragged =
      subst (IsPermutation (points es))
      (flat_map-same (λ q. filter (in_tile q) (points es)) (λ q. map (λ p. plus p (tile_offsets es ts q)) (points (tile_sizes es ts q))) (points (tile_box es ts))
      (each_more (InBox (tile_box es ts)) (λ q. filter (in_tile q) (points es) ≡ map (λ p. plus p (tile_offsets es ts q)) (points (tile_sizes es ts q))) tile_points (points (tile_box es ts)) (each_point (tile_box es ts))))
      (groups_permute in_tile (points (tile_box es ts)) (points es) each_in_one)
