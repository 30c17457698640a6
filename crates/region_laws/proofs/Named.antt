-- The tile of a named operation is of its kind: its generic on tiles has the same maps, since they select dimensions.
use Rattle.std.proofs.Common.{◌≡◌, ℕ, Bool, true, false, List, [], ◌∷◌, Option, if◌then◌else◌, refl, ap, sym, ◌∙◌, zero, suc, ◌+◌, ◌++◌, map, length, get_or, arith}
use Rattle.affine_maps.specs.Shape.{MapShape}
use Rattle.mlir_ir.specs.declared.tree.Iter.TheVariants.{Parallel, Reduction}
use Rattle.mlir_ir.specs.declared.tree.OpKind.{Generic}
use Rattle.mlir_ir.specs.declared.tree.ValueId.{ValueId}
use Rattle.mlir_meaning.specs.Meaning.{kind_meaning, values_in}
use Rattle.mlir_meaning.specs.Moves.{slice_of}
use Rattle.mlir_meaning.specs.Points.{select_map, place_of, kept}
use Rattle.mlir_meaning.specs.States.{width_of, State, grid_of}
use Rattle.mlir_meaning.specs.Structured.{matmul_form, multiply_add, generic_of, batch_matmul_form, fill_form, transpose_form, broadcast_form, copying}
use Rattle.mlir_meaning.specs.declared.values.Datum.{Datum}
use Rattle.mlir_meaning.specs.declared.values.Datum.TheVariants.{Number, Bits, Cells}
use Rattle.mlir_meaning.proofs.Named.{matmul_is, batch_matmul_is, fill_is, transpose_is, broadcast_is}
use Rattle.region_laws.specs.Operands.{is_sliced, offsets_of, sizes_of, operand_tile, inner_map}
use Rattle.region_laws.specs.Bodies.{Slice, slice_names}
use Rattle.region_laws.proofs.Outputs.{inner_selected}
use Rattle.std.specs.Prelude.{replicate}
use Rattle.std.proofs.lemmas.List.{map-append, length-map}
use Rattle.affine_maps.specs.Map.{dimension, dimensions, identity_of}
use Rattle.mlir_ir.specs.declared.tree.Ty.{Ty}
use Rattle.mlir_meaning.specs.Grids.{count_up}
use Rattle.mlir_meaning.specs.declared.values.Grid.{Grid}
use Rattle.point_laws.specs.Boxes.{picks}
use Rattle.point_laws.proofs.Tables.{count_length}
use Rattle.region_laws.specs.Laws.{MatmulTileIsMatmul, BatchMatmulTileIsBatchMatmul, FillTileIsFill, TransposeTileIsTranspose, BroadcastTileIsBroadcast}

abbrev first_of : List Datum → Datum
first_of [] = Bits 0
first_of (d ∷ ds) = d

-- a tile has the width of its operand
tile_width : (cut : ℕ → Bool) (os ns : List ℕ) (m : MapShape) (x : Datum) → width_of (operand_tile cut os ns m x) ≡ width_of x
tile_width cut os ns m (Number n) = refl
tile_width cut os ns m (Bits n) = refl
tile_width cut os ns m (Cells width g) = by (is_sliced cut m.results)
  where
    by : (s : Bool) → width_of (if s then Cells width (slice_of g (offsets_of cut os m.results) (sizes_of cut ns m.results g.extents)) else Cells width g) ≡ width
    by true = refl
    by false = refl

-- THE TILES OF PRODUCTS
pub matmul_means : MatmulTileIsMatmul
unfolding matmul_form
matmul_means box cut os ns x y width va vb fs names rank u rs outs g tiled at_out shape =
    let first : u.values va.0 ≡ operand_tile cut os ns (select_map 3 (0 ∷ 2 ∷ [])) x = ap first_of ((λ j. values_in u.values (sym names j)) ∙ tiled) in
    let narrow : width_of (u.values va.0) ≡ width_of x = ap width_of first ∙ tile_width cut os ns (select_map 3 (0 ∷ 2 ∷ [])) x in
    matmul_is va vb outs rs u
    ∙ (λ j. kind_meaning (generic_of (matmul_form (narrow j) (width_of (at_out j))) (va ∷ vb ∷ []) outs) rs u)
    ∙ (λ j. kind_meaning (Generic (sym (inner_selected cut 3 (0 ∷ 2 ∷ [])) j ∷ sym (inner_selected cut 3 (2 ∷ 1 ∷ [])) j ∷ select_map (sym rank j) (0 ∷ 1 ∷ []) ∷ []) (Parallel ∷ Parallel ∷ Reduction ∷ []) (sym names j) outs []
    (multiply_add (width_of x) width)) rs u)

pub batch_matmul_means : BatchMatmulTileIsBatchMatmul
unfolding batch_matmul_form
batch_matmul_means box cut os ns x y width va vb fs names rank u rs outs g tiled at_out shape =
    let first : u.values va.0 ≡ operand_tile cut os ns (select_map 4 (0 ∷ 1 ∷ 3 ∷ [])) x = ap first_of ((λ j. values_in u.values (sym names j)) ∙ tiled) in
    let narrow : width_of (u.values va.0) ≡ width_of x = ap width_of first ∙ tile_width cut os ns (select_map 4 (0 ∷ 1 ∷ 3 ∷ [])) x in
    batch_matmul_is va vb outs rs u
    ∙ (λ j. kind_meaning (generic_of (batch_matmul_form (narrow j) (width_of (at_out j))) (va ∷ vb ∷ []) outs) rs u)
    ∙ (λ j. kind_meaning (Generic (sym (inner_selected cut 4 (0 ∷ 1 ∷ 3 ∷ [])) j ∷ sym (inner_selected cut 4 (0 ∷ 3 ∷ 2 ∷ [])) j ∷ select_map (sym rank j) (0 ∷ 1 ∷ 2 ∷ []) ∷ [])
    (Parallel ∷ Parallel ∷ Parallel ∷ Reduction ∷ []) (sym names j) outs [] (multiply_add (width_of x) width)) rs u)

-- THE TILES OF COPIES
count_last : (a n : ℕ) → count_up a (suc n) ≡ count_up a n ++ (a + n) ∷ []
count_last a zero = let e : a ≡ a + 0 = omega arith in λ j. e j ∷ []
count_last a (suc n) = let e : (a + 1) + n ≡ a + suc n = omega arith in (λ j. a ∷ count_last (a + 1) n j) ∙ (λ j. a ∷ (count_up (a + 1) n ++ e j ∷ []))

pub dimensions_are : (n : ℕ) → dimensions n ≡ map dimension (count_up 0 n)
dimensions_are zero = refl
dimensions_are (suc n) =
    (λ j. dimensions_are n j ++ dimension n ∷ []) ∙ sym (map-append dimension (count_up 0 n) (n ∷ []))
    ∙ ap (map dimension) (let z : n ≡ 0 + n = omega arith in (λ j. count_up 0 n ++ z j ∷ []) ∙ sym (count_last 0 n))

pub identity_selects : (n : ℕ) → identity_of n ≡ select_map n (count_up 0 n)
identity_selects n = λ j. record { dims = n; results = dimensions_are n j }

-- the rank of the output's tile
tile_rank : (n : ℕ) (ns : List ℕ) (g : Grid) → g.extents ≡ picks (count_up 0 n) ns → length g.extents ≡ n
tile_rank n ns g shape = ap length shape ∙ length-map (count_up 0 n) (λ d. get_or ns d 0) ∙ count_length 0 n

-- one input, whose map selects dimensions
copied : (n : ℕ) (cut : ℕ → Bool) (ds : List ℕ) (v : ValueId) (fs : List (ValueId × Option Slice)) (outs : ValueId) (width : ℕ) (rs : List (ValueId × Ty)) (u : State) → slice_names fs ≡ v ∷ [] →
    kind_meaning (Generic (select_map n ds ∷ identity_of n ∷ []) (replicate n Parallel) (v ∷ []) outs [] (copying width)) rs u
    ≡ kind_meaning (Generic (inner_map cut (select_map n ds) ∷ select_map n (count_up 0 n) ∷ []) (replicate n Parallel) (slice_names fs) outs [] (copying width)) rs u
copied n cut ds v fs outs width rs u names = λ j.
    kind_meaning (Generic (sym (inner_selected cut n ds) j ∷ identity_selects n j ∷ []) (replicate n Parallel) (sym names j) outs [] (copying width)) rs u

pub fill_means : FillTileIsFill
unfolding fill_form
fill_means box cut os ns x width v fs names u rs outs g tiled at_out shape =
    let n : ℕ = length box in
    fill_is v outs rs u
    ∙ (λ j. kind_meaning (generic_of (fill_form (width_of (at_out j)) (length (grid_of (at_out j)).extents)) (v ∷ []) outs) rs u)
    ∙ (λ j. kind_meaning (generic_of (fill_form width (tile_rank n ns g shape j)) (v ∷ []) outs) rs u)
    ∙ copied n cut [] v fs outs width rs u names

pub transpose_means : TransposeTileIsTranspose
unfolding transpose_form
transpose_means box cut os ns order x width v fs names rank u rs outs g tiled at_out shape =
    let n : ℕ = length box in
    transpose_is v outs order rs u
    ∙ (λ j. kind_meaning (generic_of (transpose_form (width_of (at_out j)) order) (v ∷ []) outs) rs u)
    ∙ (λ j. kind_meaning (Generic (select_map (rank j) (map (λ axis. place_of axis 0 order) (count_up 0 (rank j))) ∷ identity_of (rank j) ∷ []) (replicate (rank j) Parallel) (v ∷ []) outs [] (copying width)) rs u)
    ∙ copied n cut (map (λ axis. place_of axis 0 order) (count_up 0 n)) v fs outs width rs u names

pub broadcast_means : BroadcastTileIsBroadcast
unfolding broadcast_form
broadcast_means box cut os ns added x width v fs names u rs outs g tiled at_out shape =
    let n : ℕ = length box in
    broadcast_is v outs added rs u
    ∙ (λ j. kind_meaning (generic_of (broadcast_form (width_of (at_out j)) (length (grid_of (at_out j)).extents) added) (v ∷ []) outs) rs u)
    ∙ (λ j. kind_meaning (generic_of (broadcast_form width (tile_rank n ns g shape j) added) (v ∷ []) outs) rs u)
    ∙ copied n cut (kept added 0 (count_up 0 n)) v fs outs width rs u names
