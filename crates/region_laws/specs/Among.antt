-- Loops that carry or share several values, of which one is made by tiles: the others are kept, or written by others.
use Rattle.std.specs.Prelude.{◌≡◌, ℕ, zero, suc, ◌==◌, ◌&&◌, Bool, true, false, List, [], ◌∷◌, ◌++◌, map, filter, length, slice_get, Option, Some, None, Result, Ok, Err, ◌⊎◌, ⊤}
use Rattle.std.specs.List.{list_any}
use Rattle.mlir_ir.specs.declared.tree.Op.{Op}
use Rattle.mlir_ir.specs.declared.tree.Ty.{Ty}
use Rattle.mlir_ir.specs.declared.tree.ValueId.{ValueId}
use Rattle.mlir_meaning.specs.Grids.{lies_in, InBox}
use Rattle.mlir_meaning.specs.Loops.{ForallHead, arguments, starts}
use Rattle.mlir_meaning.specs.Meaning.{run}
use Rattle.mlir_meaning.specs.States.{State, Outcome, Goes, Ends, Fails, defines}
use Rattle.mlir_meaning.specs.declared.answer.Fault.{Fault}
use Rattle.mlir_meaning.specs.declared.answer.Fault.TheVariants.{Division}
use Rattle.mlir_meaning.specs.declared.values.Datum.{Datum}
use Rattle.mlir_meaning.specs.declared.values.Datum.TheVariants.{Cells}
use Rattle.mlir_meaning.specs.declared.values.Grid.{Grid}
use Rattle.mlir_meaning.specs.declared.values.Insertion.{Insertion}
use Rattle.point_laws.specs.Tiles.{counts}
use Rattle.region_laws.specs.Nests.{Knows, HasNumber, AreBounds, VarsAt, AreNewVars, with_value, Turns, args_of, result_names}

-- a loop fails, or gives its results, of which number k is r
abbrev pub GivesAt : ℕ → Option Datum → List (ValueId × Ty) → State → Outcome → Type 0
GivesAt k r rs s o = ((f : Fault) × (o ≡ Fails f)) ⊎ ((ds : List Datum) × (o ≡ defines rs s ds) × (slice_get ds k ≡ r))

-- ONE `scf.forall`
-- the state in which the body of a tile begins: each argument holds what its output starts from
pub record BeginsAmong (N : ℕ → Bool) (u : State) (ds : List (ℕ × ℕ)) (h : ForallHead) (q : List ℕ)
    (s : State) : Type 0 where
  pub knows : Knows N u s
  pub vars : VarsAt ds h.vars q s
  pub start : (k : ℕ) (arg : ValueId) (d : Datum) → slice_get (arguments h.shared) k ≡ Some arg →
      slice_get (starts u.values h.shared) k ≡ Some d → s.values arg.0 ≡ d
  pub shared : s.shared ≡ arguments h.shared
  pub inserts : s.inserts ≡ []

-- the insertions into the output of position k
abbrev pub into : ℕ → List Insertion → List Insertion
into k is = filter (λ (i : Insertion). i.output == k) is

-- a body that doesn't fail leaves one tile for the output of position k, among any insertions into other outputs
abbrev pub NotedAt : ℕ → List ℕ → Option Grid → Result (List Insertion) Fault → Type 0
NotedAt k offsets made_tile (Err f) = ⊤
NotedAt k offsets None (Ok is) = ⊥
NotedAt k offsets (Some t) (Ok is) = into k is ≡ record { output = k; tile = t; offsets = offsets } ∷ []

-- a body that doesn't fail leaves one insertion into the output of position k, at this region
abbrev pub InsertsAt : ℕ → List ℕ → List ℕ → Result (List Insertion) Fault → Type 0
InsertsAt k offsets sizes (Err f) = ⊤
InsertsAt k offsets sizes (Ok is) = (i : Insertion) × (into k is ≡ i ∷ []) × (i.offsets ≡ offsets) × (i.tile.extents ≡ sizes)

-- the output of position k starts from another value
abbrev pub restarted : ℕ → ValueId → List (ValueId × Ty × ValueId) → List (ValueId × Ty × ValueId)
restarted k v [] = []
restarted zero v (c ∷ cs) = (c.0, c.1, v) ∷ cs
restarted (suc k) v (c ∷ cs) = c ∷ restarted k v cs

-- an insertion into the output of position k that has an element in its region
abbrev pub writes : ℕ → List ℕ → Insertion → Bool
writes k e i = (i.output == k) && lies_in i.offsets i.tile.extents e

-- a body that doesn't fail leaves one
abbrev pub IsWritten : ℕ → List ℕ → Result (List Insertion) Fault → Type 0
IsWritten k e (Err f) = ⊤
IsWritten k e (Ok is) = list_any (writes k e) is ≡ true

-- NESTS OF `scf.for`
abbrev pub TurnsBounded : (ℕ → Bool) → State → List (ℕ × ℕ) → List Turns → Type 0
TurnsBounded N u ds ls = AreBounds N u ds (map (λ (l : Turns). (l.upper, l.step)) ls)

abbrev pub nothing_known : ℕ → Bool
nothing_known v = false

-- each loop carries n values; its variable and its arguments are new, and its results are other values than each other
abbrev pub AreNewTurns : ℕ → (ℕ → Bool) → List Turns → Type 0
AreNewTurns n N [] = ⊤
AreNewTurns n N (l ∷ ls) = (N l.var.0 ≡ false) × AreNewVars (with_value N l.var) (args_of l.carried)
    × AreNewVars nothing_known (result_names l.carried) × (length l.carried ≡ n) × AreNewTurns n (with_value N l.var) ls

abbrev pub TurnsAt : List (ℕ × ℕ) → List Turns → List ℕ → State → Type 0
TurnsAt ds ls q s = VarsAt ds (map (λ (l : Turns). l.var) ls) q s

-- what the innermost body carries
abbrev pub last_args : List Turns → List ValueId → List ValueId
last_args [] currents = currents
last_args (l ∷ ls) currents = last_args ls (args_of l.carried)

-- a body that doesn't fail ends with n values, of which number k is this tensor
abbrev pub EndsAt : ℕ → ℕ → ℕ → Option Grid → Outcome → Type 0
EndsAt n k width o (Goes s) = ⊥
EndsAt n k width o (Fails f) = ⊤
EndsAt n k width None (Ends ds) = ⊥
EndsAt n k width (Some g) (Ends ds) = (length ds ≡ n) × (slice_get ds k ≡ Some (Cells width g))

-- in each state that comes to it the innermost body does the tile of its variables into value k, and with the others
-- whatever it does
abbrev pub RunsTilesAt : (ℕ → Bool) → State → List (ℕ × ℕ) → List Turns → List ValueId → ℕ → ℕ → List ℕ →
    (List ℕ → Grid → Option Grid) → List Op → Type 0
RunsTilesAt N u dims ls currents k width es one inner = (q : List ℕ) (s : State) (a : ValueId) (cells : List ℕ) →
    InBox (counts dims) q → Knows N u s → TurnsAt dims ls q s → slice_get (last_args ls currents) k ≡ Some a →
    s.values a.0 ≡ Cells width (record { extents = es; cells = cells }) →
    EndsAt (length currents) k width (one q (record { extents = es; cells = cells })) (run inner s)

-- A NEST OVER THE TILES OF VALUE k: the bounds are there, the loops' names are new, the innermost body does one tile,
-- and the nest starts from the tensor
pub record IsNestAt (N : ℕ → Bool) (u : State) (dims : List (ℕ × ℕ)) (lower : ValueId) (l : Turns) (ls : List Turns)
    (currents : List ValueId) (k width : ℕ) (g : Grid) (one : List ℕ → Grid → Option Grid)
    (inner : List Op) : Type 0 where
  pub low : HasNumber N u lower 0
  pub bounds : TurnsBounded N u dims (l ∷ ls)
  pub new : AreNewTurns (length currents) N (l ∷ ls)
  pub runs : RunsTilesAt N u dims (l ∷ ls) currents k width g.extents one inner
  pub current : ValueId
  pub at : slice_get currents k ≡ Some current
  pub start : u.values current.0 ≡ Cells width g

-- OPERATIONS THAT MAKE A TILE
-- what follows a tensor that may trap
abbrev pub then_grid : Option Grid → (Grid → Outcome) → Outcome
then_grid None rest = Fails Division
then_grid (Some g) rest = rest g

-- run first, before anything, they trap or go on with the tensor as value r, and keep the values of the set
pub record MakesTile (M : ℕ → Bool) (t : State) (ops : List Op) (r : ValueId) (width : ℕ)
    (o : Option Grid) : Type 0 where
  pub state : Grid → State
  pub runs : (rest : List Op) → run (ops ++ rest) t ≡ then_grid o (λ g. run rest (state g))
  pub knows : (g : Grid) → Knows M t (state g)
  pub holds : (g : Grid) → (state g).values r.0 ≡ Cells width g
  pub shared : (g : Grid) → (state g).shared ≡ t.shared
  pub inserts : (g : Grid) → (state g).inserts ≡ t.inserts
