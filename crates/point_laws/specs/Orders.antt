-- Points and boxes in another order of their dimensions: new dimension k is old dimension order[k].
use Rattle.std.specs.Prelude.{ℕ, ◌==◌, ◌&&◌, nat_lt, Bool, List, map, length, slice_index_or}
use Rattle.std.specs.List.{list_all}
use Rattle.mlir_meaning.specs.Grids.{count_up}
use Rattle.mlir_meaning.specs.Points.{place_of}

-- the new dimension of an old one
abbrev pub turned : List ℕ → ℕ → ℕ
turned order d = place_of d 0 order

-- the old dimension of a new one
abbrev pub origin : List ℕ → ℕ → ℕ
origin order k = slice_index_or order k 0

-- each old dimension stands in the order, and each place is that of what stands there
abbrev pub stands_once : List ℕ → ℕ → ℕ → Bool
stands_once order n k = nat_lt (turned order k) n && (origin order (turned order k) == k)
    && (nat_lt (origin order k) n && (turned order (origin order k) == k))

-- a permutation of n dimensions
abbrev pub is_order : List ℕ → ℕ → Bool
is_order order n = (length order == n) && list_all (stands_once order n) (count_up 0 n)

-- the coordinates of a point, and extents, from one order to the other
abbrev pub old_point : List ℕ → List ℕ → List ℕ
old_point order q = map (λ d. slice_index_or q (turned order d) 0) (count_up 0 (length order))

abbrev pub new_point : List ℕ → List ℕ → List ℕ
new_point order p = map (λ k. slice_index_or p (origin order k) 0) (count_up 0 (length order))
