-- What the innermost body of a tiled generic does, and the loops around it.
use Rattle.std.specs.Prelude.{◌≡◌, ℕ, Bool, List, ◌∷◌, Option}
use Rattle.mlir_ir.specs.declared.tree.Op.{Op}
use Rattle.mlir_ir.specs.declared.tree.Ty.{Ty}
use Rattle.mlir_ir.specs.declared.tree.ValueId.{ValueId}
use Rattle.mlir_meaning.specs.Contexts.{for_op}
use Rattle.mlir_meaning.specs.Grids.{InBox}
use Rattle.mlir_meaning.specs.Loops.{ForallHead, forall_state, insertions_of}
use Rattle.mlir_meaning.specs.Meaning.{run}
use Rattle.mlir_meaning.specs.States.{State}
use Rattle.mlir_meaning.specs.declared.values.Grid.{Grid}
use Rattle.mlir_meaning.specs.declared.values.Datum.TheVariants.{Cells}
use Rattle.point_laws.specs.Tiles.{tile_offsets, tile_sizes, counts}
use Rattle.region_laws.specs.Regions.{tile, tile_step, whole_step}
use Rattle.point_laws.specs.Boxes.{picks}
use Rattle.region_laws.specs.Instances.{Instance, step_of}
use Rattle.region_laws.specs.Nests.{Level, level_loop, nest_body, ended, Knows, HasNumber, Bounded, AreNew, InTurn, last_arg, noted}

-- the operation that is the whole nest
abbrev pub nest_op : ValueId → Ty → Level → List Level → List Op → ValueId → Op
nest_op lower ty l ls inner current = for_op (level_loop lower ty current l) (nest_body lower ty ls inner l.arg)

-- the tile of a region of a generic, from a tensor
abbrev pub region_tile : Instance → List ℕ → List ℕ → Grid → Option Grid
region_tile g os ns = tile (picks g.ds) (step_of g) os ns (picks g.ds os) (picks g.ds ns)

-- one tile of which the output is sliced, and one of which it isn't
abbrev pub sliced_tile : (ℕ → List ℕ → Option ℕ) → List ℕ → List ℕ → List ℕ → List ℕ → Grid → Option Grid
sliced_tile step box ts ds q =
    tile_step (picks ds) step (tile_offsets box ts q) (tile_sizes box ts q) (picks ds (tile_offsets box ts q))
    (picks ds (tile_sizes box ts q))

abbrev pub whole_tile : (ℕ → List ℕ → Option ℕ) → List ℕ → List ℕ → List ℕ → List ℕ → Grid → Option Grid
whole_tile step box ts ds q = whole_step (picks ds) step (tile_offsets box ts q) (tile_sizes box ts q)

-- and one from a tensor's start
abbrev pub started_tile : (ℕ → List ℕ → Option ℕ) → List ℕ → List ℕ → List ℕ → Grid → List ℕ → Option Grid
started_tile step box ts ds start q =
    tile (picks ds) step (tile_offsets box ts q) (tile_sizes box ts q) (picks ds (tile_offsets box ts q))
    (picks ds (tile_sizes box ts q)) start

-- in each state that comes to it the innermost body does the tile of its variables
abbrev pub RunsTiles : (ℕ → Bool) → State → List (ℕ × ℕ) → List Level → ValueId → ℕ → List ℕ →
    (List ℕ → Grid → Option Grid) → List Op → Type 0
RunsTiles N u dims ls current width es one inner = (q : List ℕ) (s : State) (cells : List ℕ) → InBox (counts dims) q →
    Knows N u s → InTurn dims ls q s →
    s.values (last_arg ls current).0 ≡ Cells width (record { extents = es; cells = cells }) →
    run inner s ≡ ended (Cells width) (one q (record { extents = es; cells = cells }))

-- and the body of a `scf.forall` notes the tile down
abbrev pub NotesTiles : State → ForallHead → List (ℕ × ℕ) → (List ℕ → List ℕ) → (List ℕ → Option Grid) → List Op →
    Type 0
NotesTiles u h dims offsets made_tile inner = (q : List ℕ) → InBox (counts dims) q →
    insertions_of (run inner (forall_state u h q)) ≡ noted (offsets q) (made_tile q)

-- A NEST OVER THE TILES OF A TENSOR: the bounds are there, the loops' names are new, the innermost body does one
-- tile, and the nest starts from the tensor
pub record IsNest (N : ℕ → Bool) (u : State) (dims : List (ℕ × ℕ)) (lower : ValueId) (l : Level) (ls : List Level)
    (current : ValueId) (width : ℕ) (g : Grid) (one : List ℕ → Grid → Option Grid) (inner : List Op) : Type 0 where
  pub low : HasNumber N u lower 0
  pub bounds : Bounded N u dims (l ∷ ls)
  pub new : AreNew N (l ∷ ls)
  pub runs : RunsTiles N u dims (l ∷ ls) current width g.extents one inner
  pub start : u.values current.0 ≡ Cells width g
