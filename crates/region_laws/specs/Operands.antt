-- Tiles of operands, through their maps. A region of a box is given by offsets and sizes, with the dimensions that
-- it cuts: the others are whole.
use Rattle.std.specs.Prelude.{◌≡◌, ℕ, ◌+◌, ◌-◌, ◌*◌, ◌<◌, ℤ, pos, Bool, true, false, ◌||◌, List, [], ◌∷◌, ◌++◌, map, length, Option, Some, None, slice_index, if◌then◌else◌, ◌⊎◌, ⊤}
use Rattle.affine_maps.specs.Shape.{MapShape}
use Rattle.affine_maps.specs.Value.{value_at}
use Rattle.affine_maps.specs.declared.map.Expr.{Expr}
use Rattle.mlir_meaning.specs.Grids.{plus, InBox, Each}
use Rattle.mlir_meaning.specs.Points.{to_nat, map_point, dimension_of, selects, has, select_map}
use Rattle.mlir_meaning.specs.States.{element, grid_of}
use Rattle.mlir_meaning.specs.Structured.{operand_extent}
use Rattle.mlir_meaning.specs.declared.values.Datum.{Datum}
use Rattle.mlir_meaning.specs.declared.values.Datum.TheVariants.{Number, Bits, Cells}
use Rattle.mlir_meaning.specs.Moves.{slice_of}
use Rattle.mlir_meaning.specs.declared.values.Grid.{Grid}
use Rattle.payload_ops.specs.Shape.{PayloadShape}
use Rattle.payload_ops.specs.Values.{payload_value}
use Rattle.point_laws.specs.Boxes.{NoPoints, picks}

abbrev pub names_cut : (ℕ → Bool) → List (ℕ × ℤ) → Bool
names_cut cut [] = false
names_cut cut (t ∷ terms) = cut t.0 || names_cut cut terms

-- the sum of `c * (size - 1)`: how far the greatest point of the sizes is from the least
abbrev pub reach : List (ℕ × ℤ) → List ℕ → ℕ
reach [] ns = 0
reach (t ∷ terms) ns = to_nat t.1 * (slice_index ns t.0 - 1) + reach terms ns

-- an axis that names a dimension that is cut begins at its expression's value at the offsets, and reaches as far as
-- the sizes do
abbrev pub axis_offset : (ℕ → Bool) → List ℕ → Expr → ℕ
axis_offset cut os e = if names_cut cut e.terms then to_nat (value_at e (map pos os)) else 0

abbrev pub axis_size : (ℕ → Bool) → List ℕ → Expr → ℕ → ℕ
axis_size cut ns e x = if names_cut cut e.terms then reach e.terms ns + 1 else x

-- and in the tile its expression has no constant
abbrev pub axis_inner : (ℕ → Bool) → Expr → Expr
axis_inner cut e = record { constant = if names_cut cut e.terms then pos 0 else e.constant; terms = e.terms }

abbrev pub offsets_of : (ℕ → Bool) → List ℕ → List Expr → List ℕ
offsets_of cut os = map (axis_offset cut os)

abbrev pub sizes_of : (ℕ → Bool) → List ℕ → List Expr → List ℕ → List ℕ
sizes_of cut ns (e ∷ es) (x ∷ xs) = axis_size cut ns e x ∷ sizes_of cut ns es xs
sizes_of cut ns _ _ = []

abbrev pub inner_map : (ℕ → Bool) → MapShape → MapShape
inner_map cut m = record { dims = m.dims; results = map (axis_inner cut) m.results }

abbrev pub inner_maps : (ℕ → Bool) → List MapShape → List MapShape
inner_maps cut = map (inner_map cut)

-- an operand that names no dimension that is cut is used whole
abbrev pub is_sliced : (ℕ → Bool) → List Expr → Bool
is_sliced cut [] = false
is_sliced cut (e ∷ es) = names_cut cut e.terms || is_sliced cut es

abbrev pub operand_tile : (ℕ → Bool) → List ℕ → List ℕ → MapShape → Datum → Datum
operand_tile cut os ns m (Cells width g) =
    if is_sliced cut m.results
    then Cells width (slice_of g (offsets_of cut os m.results) (sizes_of cut ns m.results g.extents)) else Cells width g
operand_tile cut os ns m (Number n) = Number n
operand_tile cut os ns m (Bits b) = Bits b

abbrev pub operand_tiles : (ℕ → Bool) → List ℕ → List ℕ → List MapShape → List Datum → List Datum
operand_tiles cut os ns (m ∷ ms) (x ∷ xs) = operand_tile cut os ns m x ∷ operand_tiles cut os ns ms xs
operand_tiles cut os ns _ _ = []

-- AN OPERAND of an operation before and after a step: its map before, the padding value that it is given, what it
-- holds before and after
pub record Operand : Type 0 where
  pub axes : MapShape
  pub value : ℕ
  pub old : Datum
  pub new : Datum

abbrev pub maps_in : List Operand → List MapShape
maps_in os = map (λ (o : Operand). o.axes) os

abbrev pub olds : List Operand → List Datum
olds os = map (λ (o : Operand). o.old) os

abbrev pub news : List Operand → List Datum
news os = map (λ (o : Operand). o.new) os

-- those of an operation on a tile, from its maps and what its operands hold: no padding, and the operand's tile after
abbrev pub tiled_operands : (ℕ → Bool) → List ℕ → List ℕ → List MapShape → List Datum → List Operand
tiled_operands cut os ns (m ∷ ms) (x ∷ xs) =
    record { axes = m; value = 0; old = x; new = operand_tile cut os ns m x } ∷ tiled_operands cut os ns ms xs
tiled_operands cut os ns _ _ = []

-- WHAT IS KNOWN OF OPERANDS
-- no number of an expression is negative, and its terms name dimensions
abbrev pub ArePlain : ℕ → List (ℕ × ℤ) → Type 0
ArePlain dims = Each (λ t. (t.1 ≡ pos (to_nat t.1)) × (t.0 < dims))

abbrev pub IsPlain : ℕ → Expr → Type 0
IsPlain dims e = (e.constant ≡ pos (to_nat e.constant)) × ArePlain dims e.terms

-- an axis that one dimension alone selects has its extent; of any other, the greatest value on the box lies below
-- the extent, or there are no points
abbrev pub ReadsBy : List ℕ → Expr → ℕ → Option ℕ → Type 0
ReadsBy box e x (Some d) = (d < length box) × (x ≡ slice_index box d)
ReadsBy box e x None = (to_nat e.constant + reach e.terms box < x) ⊎ NoPoints box

abbrev pub ReadsAxis : List ℕ → Expr → ℕ → Type 0
ReadsAxis box e x = ReadsBy box e x (dimension_of e)

abbrev pub ReadsAxes : List ℕ → List Expr → List ℕ → Type 0
ReadsAxes box [] [] = ⊤
ReadsAxes box (e ∷ es) (x ∷ xs) = ReadsAxis box e x × ReadsAxes box es xs
ReadsAxes box _ _ = ⊥

-- an operand that is read inside its extents at each point of the box; a scalar always is
abbrev pub IsRead : List ℕ → MapShape → Datum → Type 0
IsRead box m (Cells width g) = Each (IsPlain (length box)) m.results
    × ((p : List ℕ) → InBox box p → InBox g.extents (map_point m p))
IsRead box m _ = ⊤

abbrev pub AreRead : List ℕ → List MapShape → List Datum → Type 0
AreRead box [] [] = ⊤
AreRead box (m ∷ ms) (x ∷ xs) = IsRead box m x × AreRead box ms xs
AreRead box _ _ = ⊥

-- each axis that dimension d alone selects has this extent
abbrev pub AxesHave : ℕ → ℕ → List Expr → List ℕ → Type 0
AxesHave d n (e ∷ es) (x ∷ xs) = (selects d e ≡ true → x ≡ n) × AxesHave d n es xs
AxesHave d n _ _ = ⊤

abbrev pub AllHave : ℕ → ℕ → List MapShape → List Datum → Type 0
AllHave d n (m ∷ ms) (x ∷ xs) = AxesHave d n m.results (grid_of x).extents × AllHave d n ms xs
AllHave d n _ _ = ⊤

abbrev pub IsThere : Option ℕ → Type 0
IsThere None = ⊥
IsThere (Some m) = ⊤

-- each dimension is alone in some axis, and the axes that it alone selects have its extent
pub record HasBox (box : List ℕ) (maps : List MapShape) (operands : List Datum) : Type 0 where
  pub agrees : (d : ℕ) → d < length box → AllHave d (slice_index box d) maps operands
  pub selected : (d : ℕ) → d < length box → IsThere (operand_extent d maps operands)

-- what the tile of an operand has at a point, the operand has at the point moved
abbrev pub IsTile : List ℕ → List ℕ → MapShape → Datum → MapShape → Datum → Type 0
IsTile os ns m x m' x' = (p : List ℕ) → InBox ns p → element x' (map_point m' p) ≡ element x (map_point m (plus p os))

-- the dimensions that are cut are the output's
abbrev pub CutsOutput : (ℕ → Bool) → List ℕ → List ℕ → Type 0
CutsOutput cut box ds = (d : ℕ) → d < length box → cut d ≡ true → has ds d ≡ true

-- WHAT IS KNOWN OF A GENERIC IN A STATE
-- its maps: those of the inputs, and the output's
abbrev pub maps_of : List MapShape → List ℕ → List ℕ → List MapShape
maps_of ms box ds = ms ++ select_map (length box) ds ∷ []

-- its operands have the extents of its box, each dimension is alone in some axis, and it reads inside its operands
pub record IsTyped (box : List ℕ) (ms : List MapShape) (ds : List ℕ) (ins : List Datum) (width : ℕ)
    (g : Grid) : Type 0 where
  pub read : AreRead box ms ins
  pub has_box : HasBox box (maps_of ms box ds) (ins ++ Cells width g ∷ [])
  pub selects : Each (λ d. d < length box) ds
  pub extents : g.extents ≡ picks ds box

-- the same, by what is known of each axis
abbrev pub AxesFit : List ℕ → MapShape → Datum → Type 0
AxesFit box m (Cells width g) = Each (IsPlain (length box)) m.results × ReadsAxes box m.results g.extents
AxesFit box m _ = ⊤

abbrev pub AllFit : List ℕ → List MapShape → List Datum → Type 0
AllFit box [] [] = ⊤
AllFit box (m ∷ ms) (x ∷ xs) = AxesFit box m x × AllFit box ms xs
AllFit box _ _ = ⊥

pub record FitsBox (box : List ℕ) (ms : List MapShape) (ds : List ℕ) (ins : List Datum) (width : ℕ)
    (g : Grid) : Type 0 where
  pub inputs : AllFit box ms ins
  pub selects : Each (λ d. d < length box) ds
  pub extents : g.extents ≡ picks ds box
  pub alone : (d : ℕ) → d < length box → IsThere (operand_extent d (maps_of ms box ds) (ins ++ Cells width g ∷ []))

-- a payload that gives at a point what another gives at the point moved
abbrev pub IsMoved : List ℕ → List ℕ → PayloadShape → List ℕ → PayloadShape → List ℕ → Type 0
IsMoved os ns payload captured payload' captured' = (p : List ℕ) → InBox ns p → (ins : List ℕ) (out : ℕ) →
    payload_value payload' (record { point = p; outer = captured'; ins = ins; out = out })
    ≡ payload_value payload (record { point = plus p os; outer = captured; ins = ins; out = out })
