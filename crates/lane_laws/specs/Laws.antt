-- The laws. Each is the contract of a function in `src/laws.rt`.
use Rattle.std.specs.Prelude.{◌≡◌, ℕ, ◌<◌, ◌^◌, not, Bool, true, false, List, [], ◌∷◌, length, take, Some}
use Rattle.mlir_base.specs.Types.{bits_of}
use Rattle.payload_laws.specs.Combiners.{combining, neutral_of}
use Rattle.payload_ops.specs.declared.kinds.Combiner.{Combiner}
use Rattle.payload_ops.specs.declared.step.Arg.{Arg}
use Rattle.payload_ops.specs.declared.step.Arg.TheVariants.{Input}
use Rattle.payload_ops.specs.declared.step.StepOp.TheVariants.{Select}
use Rattle.mlir_meaning.specs.declared.values.Grid.{Grid}
use Rattle.mlir_meaning.specs.declared.values.Datum.{Datum}
use Rattle.mlir_meaning.specs.declared.values.Datum.TheVariants.{Bits, Cells}
use Rattle.mlir_meaning.specs.Grids.{at, tabulate, count_up, InBox, Each}
use Rattle.mlir_meaning.specs.Points.{has, kept}
use Rattle.mlir_meaning.specs.Vectors.{mask_of, elementwise_result, reduction_of}
use Rattle.point_laws.specs.Boxes.{picks}
use Rattle.region_laws.specs.Instances.{result_of}
use Rattle.lane_laws.specs.Lanes.{IsOnce, lane_of, lane_arg, lane_steps, IsLanePayload, AreVectors, lane_picks, AreAmong, lane_vectors, ReadVector, WriteBack, IsChosen, AreOutputs}
use Rattle.lane_laws.specs.Lanes.{OnVectors, IsVectorized, IsOutputVector, dimensions, whole}

-- a read under a mask of its source's extents has at a lane the source's element, and 0 past its end
abbrev pub ReadsUnderMask : Type 0
ReadsUnderMask = (vs dims rs : List ℕ) (g v : Grid) (q : List ℕ) → IsOnce rs → AreAmong dims rs →
    length g.extents ≡ length rs →
    ReadVector vs dims rs g v → InBox (picks dims vs) q → at v q ≡ lane_of g (lane_picks dims rs q)

-- reads, the payload lane by lane and the write are the generic, where all dimensions are parallel; the output is
-- read where o says so
abbrev pub LanesAreGeneric : Type 0
LanesAreGeneric = (g : OnVectors) (N : ℕ → Bool) → IsVectorized g N → (o : Bool) (vector : Datum) →
    (o ≡ true → IsOutputVector g vector) →
    IsLanePayload N o g.payload → AreVectors N o g.payload (lane_vectors g.inputs) vector →
    AreAmong g.ds (dimensions g) →
    (all : List Datum) × (lane_steps (lane_vectors g.inputs) vector g.lanes g.payload.steps [] ≡ Some all)
    × ((v w : Grid) → lane_arg (lane_vectors g.inputs) vector all g.payload.yielded ≡ Cells g.width v →
    v.extents ≡ g.lanes →
    WriteBack g.lanes (dimensions g) g.ds g.out v w → result_of (whole g) ≡ Some (Cells g.width w))

-- with reductions: the steps before the one that joins, a choice S of the term T or the neutral value, the
-- reduction from the output's vector A, and the write w
abbrev pub ReducedLanesAreGeneric : Type 0
ReducedLanesAreGeneric = (g : OnVectors) (N : ℕ → Bool) → IsVectorized g N →
    IsLanePayload N true g.payload → AreVectors N false g.payload (lane_vectors g.inputs) (Bits 0) →
    (reds : List ℕ) (c : Combiner) (t : Arg) → combining g.payload.steps g.payload.yielded ≡ Some (c, t) →
    let par = kept reds 0 (dimensions g) in
    let bits = bits_of g.payload.out in
    AreOutputs (length g.box) g.ds par → ((e : List ℕ) → InBox g.out.extents e → at g.out e < 2 ^ bits) →
    (y : ℕ) × (all : List Datum) × (lane_steps (lane_vectors g.inputs) (Bits 0) g.lanes (take y g.payload.steps) []
    ≡ Some all)
    × ((T S A w : Grid) → lane_arg (lane_vectors g.inputs) (Bits 0) all t ≡ Cells bits T →
    IsChosen g.box g.lanes (neutral_of c bits) T S →
    ReadVector g.lanes par g.ds g.out A → WriteBack g.lanes par g.ds g.out (reduction_of c bits S A reds) w →
    result_of (whole g) ≡ Some (Cells g.width w))

-- a mask of the box chooses the term in it, and the value elsewhere
abbrev pub MasksChoose : Type 0
MasksChoose = (box vs : List ℕ) (width e : ℕ) (T : Grid) →
    let args = Cells 1 (mask_of box vs) ∷ Cells width T ∷ Cells width (tabulate vs (λ p. e)) ∷ [] in
    (S : Grid) × (elementwise_result (Select (Input 0) (Input 1) (Input 2)) args width vs ≡ Some (Cells width S))
    × IsChosen box vs e T S

-- the dimensions that a reduction keeps are the output's, where a dimension is a reduction exactly if the output's
-- map doesn't select it
abbrev pub KeptAreOutputs : Type 0
KeptAreOutputs = (n : ℕ) (ds reds : List ℕ) → Each (λ d. d < n) ds → ((d : ℕ) → d < n → has reds d ≡ not (has ds d)) →
    AreOutputs n ds (kept reds 0 (count_up 0 n))
