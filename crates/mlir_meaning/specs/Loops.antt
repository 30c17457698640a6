-- Loops, around the meaning of their bodies (SCF manual, "scf.for" and "scf.forall").
use Rattle.std.specs.Prelude.{ℕ, zero, suc, ◌+◌, ◌-◌, ◌/◌, ◌==◌, ℤ, pos, ◌+ℤ◌, ◌-ℤ◌, ◌*ℤ◌, List, [], ◌∷◌, ◌++◌, map, fold, position, Option, Some, None, Result, Ok, Err, if◌then◌else◌}
use Rattle.mlir_ir.specs.declared.tree.Ty.{Ty}
use Rattle.mlir_ir.specs.declared.tree.ValueId.{ValueId}
use Rattle.mlir_ir.specs.declared.tree.Idx.{Idx}
use Rattle.mlir_meaning.specs.Grids.{Grid, points}
use Rattle.mlir_meaning.specs.Points.{to_nat}
use Rattle.mlir_meaning.specs.States.{Datum, Number, Cells, Insertion, State, Outcome, Goes, Ends, Fails, number_in, indices_in, set, set_all, defines, then_ends, then_made}
use Rattle.mlir_meaning.specs.Moves.{insert_into}
use Rattle.mlir_meaning.specs.declared.answer.Fault.{Fault}
use Rattle.mlir_meaning.specs.declared.answer.Fault.TheVariants.{Stuck}

-- how many numbers from `lower` by `step` lie below `upper`; none where the step is 0 or less
abbrev pub trips : ℤ → ℤ → ℤ → ℕ
trips lower upper step = (to_nat (upper -ℤ lower) + (to_nat step - 1)) / to_nat step

-- the carried or shared values: their names in the body
abbrev pub arguments : List (ValueId × Ty × ValueId) → List ValueId
arguments = map (λ c. c.0)

-- the values that they start as
abbrev pub starts : (ℕ → Datum) → List (ValueId × Ty × ValueId) → List Datum
starts e = map (λ c. e (c.2).0)

-- FOR (SCF manual, "scf.for")
-- a `scf.for` without its body
pub record ForHead : Type 0 where
  pub var : ValueId
  pub lower : ValueId
  pub upper : ValueId
  pub step : ValueId
  pub carried : List (ValueId × Ty × ValueId)

-- the fold over n turns from a number on, each from the values that the one before ended with
abbrev pub turns : (ℤ → List Datum → Outcome) → ℤ → ℕ → ℤ → List Datum → Outcome
turns body step zero number ds = Ends ds
turns body step (suc n) number ds = then_ends (body number ds) (turns body step n (number +ℤ step))

-- the state in which a turn begins
abbrev pub for_state : State → ForHead → ℤ → List Datum → State
for_state s h number ds = record { values = set_all (set s.values h.var.0 (Number number)) (arguments h.carried) ds; shared = []; inserts = [] }

abbrev pub for_trips : State → ForHead → ℕ
for_trips s h = trips (number_in s.values h.lower) (number_in s.values h.upper) (number_in s.values h.step)

unfoldable pub for_meaning : ForHead → (State → Outcome) → List (ValueId × Ty) → State → Outcome
for_meaning h body rs s =
    then_ends
    (turns (λ number ds. body (for_state s h number ds)) (number_in s.values h.step) (for_trips s h) (number_in s.values h.lower) (starts s.values h.carried))
    (defines rs s)

-- FORALL (SCF manual, "scf.forall")
-- a `scf.forall` without its body
pub record ForallHead : Type 0 where
  pub vars : List ValueId
  pub lower : List Idx
  pub upper : List Idx
  pub step : List Idx
  pub shared : List (ValueId × Ty × ValueId)

-- how many numbers each variable takes
abbrev pub trip_counts : List ℤ → List ℤ → List ℤ → List ℕ
trip_counts (l ∷ ls) (u ∷ us) (t ∷ ts) = trips l u t ∷ trip_counts ls us ts
trip_counts _ _ _ = []

abbrev pub forall_box : State → ForallHead → List ℕ
forall_box s h = trip_counts (indices_in s.values h.lower) (indices_in s.values h.upper) (indices_in s.values h.step)

-- the variables' numbers at a point of that box
abbrev pub numbers_at : List ℤ → List ℤ → List ℕ → List Datum
numbers_at (l ∷ ls) (t ∷ ts) (i ∷ p) = Number (l +ℤ (pos i *ℤ t)) ∷ numbers_at ls ts p
numbers_at _ _ _ = []

-- the state in which a body begins: the shared outputs are at their starts
abbrev pub forall_state : State → ForallHead → List ℕ → State
forall_state s h p = record {
  values = set_all (set_all s.values (arguments h.shared) (starts s.values h.shared)) h.vars (numbers_at (indices_in s.values h.lower) (indices_in s.values h.step) p);
  shared = arguments h.shared;
  inserts = [];
}

-- the insertions that a body leaves
abbrev pub insertions_of : Outcome → Result (List Insertion) Fault
insertions_of (Goes s) = Ok s.inserts
insertions_of (Ends ds) = Err Stuck
insertions_of (Fails f) = Err f

abbrev pub result_append : List Insertion → Result (List Insertion) Fault → Result (List Insertion) Fault
result_append is (Ok js) = Ok (is ++ js)
result_append is (Err f) = Err f

-- those of all bodies in order, or the first failure
abbrev pub gathered : List (Result (List Insertion) Fault) → Result (List Insertion) Fault
gathered [] = Ok []
gathered (Ok is ∷ rest) = result_append is (gathered rest)
gathered (Err f ∷ rest) = Err f

-- the insertions into the output of a position, one after another
abbrev pub inserted : List Insertion → ℕ → Grid → Grid
inserted is output g = fold (λ g i. if i.output == output then insert_into i.tile i.offsets g else g) g is

abbrev pub inserted_datum : List Insertion → ℕ → Datum → Datum
inserted_datum is output (Cells width g) = Cells width (inserted is output g)
inserted_datum is output d = d

-- the outputs from a position on
abbrev pub inserted_data : List Insertion → ℕ → List Datum → List Datum
inserted_data is output [] = []
inserted_data is output (d ∷ ds) = inserted_datum is output d ∷ inserted_data is (output + 1) ds

-- every body from the shared starts, and then the insertions, both in lexicographic order of the variables
unfoldable pub forall_meaning : ForallHead → (State → Outcome) → List (ValueId × Ty) → State → Outcome
forall_meaning h body rs s =
    then_made
    (gathered (map (λ p. insertions_of (body (forall_state s h p))) (points (forall_box s h))))
    (λ is. defines rs s (inserted_data is 0 (starts s.values h.shared)))

-- the position of a shared output, by its name in the body
abbrev pub output_of : State → ValueId → Option ℕ
output_of s dest = position (λ (v : ValueId). v.0 == dest.0) s.shared

-- an insertion of a `scf.forall` is noted down (Tensor manual, "tensor.parallel_insert_slice"); there is none elsewhere
abbrev pub insertion_noted : Option ℕ → Grid → List ℕ → State → Outcome
insertion_noted None tile offsets s = Fails Stuck
insertion_noted (Some output) tile offsets s =
    Goes (record { values = s.values; shared = s.shared; inserts = s.inserts ++ record { output = output; tile = tile; offsets = offsets } ∷ [] })
