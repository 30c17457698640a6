-- Tiles at multiples of a size, the last one ragged, in several dimensions at once. Dimension d of a box of extents
-- `es` is cut by the size at place d of `ts`; a size of 0, or a missing one, leaves it whole. A tile has one
-- coordinate for each dimension that is cut.
use Rattle.std.specs.Prelude.{◌≡◌, ℕ, zero, suc, ◌+◌, ◌-◌, ◌*◌, ◌/◌, min, List, [], ◌∷◌, map, ◌<◌, ◌==◌, Bool, true, false, not, length, slice_index}
use Rattle.mlir_meaning.specs.Grids.{Fits}

-- how many tiles of a size an extent has
abbrev pub tile_count : ℕ → ℕ → ℕ
tile_count extent size = (extent + (size - 1)) / size

-- the extent and the size of each dimension that is cut
abbrev pub cut_dims : List ℕ → List ℕ → List (ℕ × ℕ)
cut_dims [] ts = []
cut_dims (e ∷ es) [] = cut_dims es []
cut_dims (e ∷ es) (zero ∷ ts) = cut_dims es ts
cut_dims (e ∷ es) (suc t ∷ ts) = (e, suc t) ∷ cut_dims es ts

abbrev pub counts : List (ℕ × ℕ) → List ℕ
counts = map (λ d. tile_count d.0 d.1)

-- the box of the tiles
abbrev pub tile_box : List ℕ → List ℕ → List ℕ
tile_box es ts = counts (cut_dims es ts)

-- the tile in which a point lies
abbrev pub tile_of : List ℕ → List ℕ → List ℕ
tile_of [] ts = []
tile_of (i ∷ p) [] = tile_of p []
tile_of (i ∷ p) (zero ∷ ts) = tile_of p ts
tile_of (i ∷ p) (suc t ∷ ts) = (i / suc t) ∷ tile_of p ts

-- where a tile begins
abbrev pub tile_offsets : List ℕ → List ℕ → List ℕ → List ℕ
tile_offsets [] ts q = []
tile_offsets (e ∷ es) [] q = 0 ∷ tile_offsets es [] q
tile_offsets (e ∷ es) (zero ∷ ts) q = 0 ∷ tile_offsets es ts q
tile_offsets (e ∷ es) (suc t ∷ ts) [] = 0 ∷ tile_offsets es ts []
tile_offsets (e ∷ es) (suc t ∷ ts) (k ∷ q) = (k * suc t) ∷ tile_offsets es ts q

-- its sizes
abbrev pub tile_sizes : List ℕ → List ℕ → List ℕ → List ℕ
tile_sizes [] ts q = []
tile_sizes (e ∷ es) [] q = e ∷ tile_sizes es [] q
tile_sizes (e ∷ es) (zero ∷ ts) q = e ∷ tile_sizes es ts q
tile_sizes (e ∷ es) (suc t ∷ ts) [] = e ∷ tile_sizes es ts []
tile_sizes (e ∷ es) (suc t ∷ ts) (k ∷ q) = min (e - k * suc t) (suc t) ∷ tile_sizes es ts q

-- whether a dimension has a size other than 0
abbrev pub is_cut : List ℕ → ℕ → Bool
is_cut ts d = not (slice_index ts d == 0)

-- a region of a box: whole but in the dimensions that are cut, and not empty there
pub record Cut (cut : ℕ → Bool) (box os ns : List ℕ) : Type 0 where
  pub fits : Fits box os ns
  pub still : (d : ℕ) → cut d ≡ false → (slice_index os d ≡ 0) × (slice_index ns d ≡ slice_index box d)
  pub filled : (d : ℕ) → cut d ≡ true → d < length box → 0 < slice_index ns d
