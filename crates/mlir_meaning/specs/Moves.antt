-- Operations that move elements (Tensor manual; Linalg manual on packs).
use Rattle.std.specs.Prelude.{ℕ, ◌+◌, ◌*◌, ◌/◌, ◌%◌, List, [], ◌∷◌, ◌++◌, length, take, drop, slice_index, slice_set, if◌then◌else◌}
use Rattle.mlir_meaning.specs.Grids.{Grid, at, tabulate, plus, minus, is_inside, lies_in}
use Rattle.mlir_meaning.specs.States.{Datum, Cells, width_of}

-- the grid of another datum of the same width
abbrev pub like : Datum → Grid → Datum
like d g = Cells (width_of d) g

-- the source at the point plus the offsets (Tensor manual, "tensor.extract_slice", with strides of 1)
unfoldable pub slice_of : Grid → List ℕ → List ℕ → Grid
slice_of g offsets sizes = tabulate sizes (λ p. at g (plus p offsets))

-- the tile at the point less the offsets inside its region, and the destination elsewhere (Tensor manual, "tensor.insert_slice"). The
-- region begins at the offsets and has the tile's extents, which are the sizes.
unfoldable pub insert_into : Grid → List ℕ → Grid → Grid
insert_into tile offsets g =
    tabulate g.extents (λ p. if lies_in offsets tile.extents p then at tile (minus p offsets) else at g p)

-- the source inside its box, and else the value (Tensor manual, "tensor.pad", with low padding 0)
unfoldable pub pad_of : Grid → List ℕ → ℕ → Grid
pad_of g high value = tabulate (plus g.extents high) (λ p. if is_inside g.extents p then at g p else value)

-- zeros (Tensor manual, "tensor.empty", whose contents MLIR leaves open)
unfoldable pub empty_of : List ℕ → Grid
empty_of extents = tabulate extents (λ p. 0)

-- PACKS: axis d of a point is cut by a tile into an outer coordinate, in its place, and an inner one, after all axes
-- the point of an outer point and inner coordinates
abbrev pub unpacked_point : List ℕ → List ℕ → List ℕ → List ℕ → List ℕ
unpacked_point (d ∷ ds) (t ∷ ts) (i ∷ is) outer = slice_set (unpacked_point ds ts is outer) d (slice_index outer d * t + i)
unpacked_point _ _ _ outer = outer

-- the outer coordinates of a point
abbrev pub outer_point : List ℕ → List ℕ → List ℕ → List ℕ
outer_point (d ∷ ds) (t ∷ ts) p = slice_set (outer_point ds ts p) d (slice_index p d / t)
outer_point _ _ p = p

-- the inner coordinates of a point
abbrev pub inner_point : List ℕ → List ℕ → List ℕ → List ℕ
inner_point (d ∷ ds) (t ∷ ts) p = (slice_index p d % t) ∷ inner_point ds ts p
inner_point _ _ p = []

-- the source at the point that is packed, or the value where that leaves its box (Linalg manual, "linalg.pack")
unfoldable pub pack_of : Grid → List ℕ → List ℕ → List ℕ → ℕ → Grid
pack_of g extents dims tiles value =
    let rank = length g.extents in
    let source_point : List ℕ → List ℕ = λ p. unpacked_point dims tiles (drop rank p) (take rank p) in
    tabulate extents (λ p. if is_inside g.extents (source_point p) then at g (source_point p) else value)

-- the source at the packed point (Linalg manual, "linalg.unpack")
unfoldable pub unpack_of : Grid → List ℕ → List ℕ → List ℕ → Grid
unpack_of g extents dims tiles = tabulate extents (λ p. at g (outer_point dims tiles p ++ inner_point dims tiles p))
