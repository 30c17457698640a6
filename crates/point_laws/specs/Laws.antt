-- The laws. Each is the contract of a function in `src/laws.rt`.
use Rattle.std.specs.Prelude.{length, ◌≡◌, ℕ, ◌<◌, ◌^◌, ◌&&◌, ◌||◌, Bool, false, List, ◌∷◌, ◌++◌, map, flat_map, fold, filter, Option, option_and_then, IsPermutation, true}
use Rattle.affine_maps.specs.Shape.{MapShape}
use Rattle.payload_ops.specs.Combine.{joined}
use Rattle.payload_laws.specs.Combiners.{neutral_of}
use Rattle.payload_ops.specs.Shape.{PayloadShape}
use Rattle.payload_ops.specs.declared.kinds.Combiner.{Combiner}
use Rattle.mlir_meaning.specs.Grids.{is_inside, points, plus, lies_in, same_point, InBox, Fits, Each}
use Rattle.mlir_meaning.specs.Structured.{fold_points, generic_step}
use Rattle.mlir_meaning.specs.declared.values.Datum.{Datum}
use Rattle.point_laws.specs.Boxes.{Grows}
use Rattle.point_laws.specs.Orders.{is_order, old_point, new_point}
use Rattle.point_laws.specs.Folds.{AgreesInside, Swaps, Combines, then_step}
use Rattle.point_laws.specs.Tiles.{tile_box, tile_of, tile_offsets, tile_sizes, is_cut, Cut}

-- RAGGED POINTS
-- a box's points are, each once, those of its tiles, moved by their offsets
abbrev pub RaggedPoints : Type 0
RaggedPoints = (es ts : List ℕ) →
    IsPermutation (points es) (flat_map (λ q. map (λ p. plus p (tile_offsets es ts q)) (points (tile_sizes es ts q)))
    (points (tile_box es ts)))

-- a point lies in its own tile, and in no other
abbrev pub LiesInOneTile : Type 0
LiesInOneTile = (es ts p q : List ℕ) → InBox es p → InBox (tile_box es ts) q →
    lies_in (tile_offsets es ts q) (tile_sizes es ts q) p ≡ same_point (tile_of p ts) q

-- the points of a region are those of its sizes moved, in the same order
abbrev pub RegionKeepsOrder : Type 0
RegionKeepsOrder = (es os ns : List ℕ) → Fits es os ns →
    filter (lies_in os ns) (points es) ≡ map (λ p. plus p os) (points ns)

-- each tile lies in the box, whole where it isn't cut
abbrev pub TilesFit : Type 0
TilesFit = (es ts q : List ℕ) → InBox (tile_box es ts) q →
    Cut (is_cut ts) es (tile_offsets es ts q) (tile_sizes es ts q)

-- CUT FOLDS
-- whatever the order of the points
abbrev pub FoldsInAnyOrder : Type 0
FoldsInAnyOrder = (step : ℕ → List ℕ → Option ℕ) → Swaps (then_step step) → (ps qs : List (List ℕ)) →
    IsPermutation ps qs → (a : ℕ) → fold_points step qs a ≡ fold_points step ps a

-- the points that pass one test and then those that pass another, which exclude each other, are all that pass either
abbrev pub FoldsInParts : Type 0
FoldsInParts = (step : ℕ → List ℕ → Option ℕ) → Swaps (then_step step) → (S W : List ℕ → Bool) (ps : List (List ℕ)) →
    Each (λ p. (S p && W p) ≡ false) ps →
    (a : ℕ) → option_and_then (fold_points step (filter W ps)) (fold_points step (filter S ps) a)
    ≡ fold_points step (filter (λ p. S p || W p) ps) a

-- a generic's step by a payload with a combiner
abbrev pub CombinersSwap : Type 0
CombinersSwap = (maps : List MapShape) (ins : List Datum) (captured : List ℕ) (payload : PayloadShape) →
    Combines payload → Swaps (then_step (generic_step maps ins captured payload))

-- a neutral term may be added anywhere
abbrev pub NeutralAnywhere : Type 0
NeutralAnywhere = (c : Combiner) (w : ℕ) (xs ys : List ℕ) (a : ℕ) → a < 2 ^ w →
    fold (joined c w) a (xs ++ neutral_of c w ∷ ys) ≡ fold (joined c w) a (xs ++ ys)

-- BOXES THAT HOLD OTHERS AT 0
-- the points of the greater box that lie in the smaller one are its points, in the same order
abbrev pub SmallerKeepsOrder : Type 0
SmallerKeepsOrder = (es ns : List ℕ) → Grows es ns → filter (is_inside es) (points ns) ≡ points es

-- the fold of the element at e over the greater box is that over the smaller one, where the steps agree on the
-- smaller one and each further point keeps the element; `within` may say what the elements are
abbrev pub FurtherPointsKeep : Type 0
FurtherPointsKeep = (within : ℕ → Bool) (step step' : ℕ → List ℕ → Option ℕ) (out : List ℕ → List ℕ)
    (es ns e : List ℕ) → Grows es ns →
    ((p : List ℕ) → InBox ns p → same_point (out p) e ≡ true →
    AgreesInside (λ a. within a ≡ true) step step' (is_inside es) p) →
    (a : ℕ) → within a ≡ true →
    fold_points step' (filter (λ p. same_point (out p) e) (points ns)) a
    ≡ fold_points step (filter (λ p. same_point (out p) e) (points es)) a

-- ORDERS OF DIMENSIONS
abbrev pub OrdersPermute : Type 0
OrdersPermute = (order box : List ℕ) → is_order order (length box) ≡ true →
    IsPermutation (points box) (map (old_point order) (points (new_point order box)))
