-- What values hold while a function runs, and how a run goes on.
use Rattle.std.specs.Prelude.{ℕ, ◌==◌, ◌^◌, nat_le, unsigned_abs, Bool, ℤ, pos, List, [], ◌∷◌, map, Option, Some, None, Result, Ok, Err, if◌then◌else◌}
use Rattle.payload_ops.specs.Bits.{reduce}
use Rattle.mlir_meaning.specs.Grids.{Grid, at}
use Rattle.mlir_meaning.specs.declared.answer.Fault.{Fault}
use Rattle.mlir_meaning.specs.declared.answer.Fault.TheVariants.{Division, Stuck}
pub use Rattle.mlir_meaning.specs.declared.values.Datum.{Datum}
pub use Rattle.mlir_meaning.specs.declared.values.Datum.TheVariants.{Number, Bits, Cells}
pub use Rattle.mlir_meaning.specs.declared.values.Insertion.{Insertion}
use Rattle.mlir_ir.specs.declared.tree.Ty.{Ty}
use Rattle.mlir_ir.specs.declared.tree.ValueId.{ValueId}
use Rattle.mlir_ir.specs.declared.tree.Idx.{Idx}
use Rattle.mlir_ir.specs.declared.tree.Idx.TheVariants.{Literal, Value}

-- the values by their numbers; and, in the body of a `scf.forall`, the names of its shared outputs and the insertions so far
pub record State : Type 0 where
  pub values : ℕ → Datum
  pub shared : List ValueId
  pub inserts : List Insertion

-- a run goes on in a state, ends its body with values, or fails
pub data Outcome : Type 0 where
  Goes : State → Outcome
  Ends : List Datum → Outcome
  Fails : Fault → Outcome

-- VALUES
abbrev pub number_of : Datum → ℤ
number_of (Number n) = n
number_of _ = pos 0

abbrev pub grid_of : Datum → Grid
grid_of (Cells width g) = g
grid_of _ = record { extents = []; cells = [] }

abbrev pub width_of : Datum → ℕ
width_of (Cells width g) = width
width_of _ = 1

-- the element at a point; a scalar has one, and a payload sees an `index` as a number of 64 bits
abbrev pub element : Datum → List ℕ → ℕ
element (Number n) p = reduce 64 n
element (Bits b) p = b
element (Cells width g) p = at g p

abbrev pub number_in : (ℕ → Datum) → ValueId → ℤ
number_in e v = number_of (e v.0)

-- an entry of a list of offsets, sizes or bounds
abbrev pub index_in : (ℕ → Datum) → Idx → ℤ
index_in e (Literal n) = n
index_in e (Value v) = number_in e v

abbrev pub indices_in : (ℕ → Datum) → List Idx → List ℤ
indices_in e is = map (index_in e) is

abbrev pub set : (ℕ → Datum) → ℕ → Datum → ℕ → Datum
set e v d w = if w == v then d else e w

abbrev pub set_all : (ℕ → Datum) → List ValueId → List Datum → ℕ → Datum
set_all e [] ds = e
set_all e (v ∷ vs) [] = e
set_all e (v ∷ vs) (d ∷ ds) = set_all (set e v.0 d) vs ds

-- the names that an operation defines
abbrev pub names_of : List (ValueId × Ty) → List ValueId
names_of rs = map (λ r. r.0) rs

-- RUNS
-- the run goes on with the results defined
abbrev pub defines : List (ValueId × Ty) → State → List Datum → Outcome
defines rs s ds = Goes (record { values = set_all s.values (names_of rs) ds; shared = s.shared; inserts = s.inserts })

-- an operation with one result; None is the division trap
abbrev pub made : List (ValueId × Ty) → State → Option Datum → Outcome
made rs s None = Fails Division
made rs s (Some d) = defines rs s (d ∷ [])

-- an operation with an `index` result; what computes one beyond plus and minus 2^62 is stuck
abbrev pub is_index : ℤ → Bool
is_index n = nat_le (unsigned_abs n) (2 ^ 62)

abbrev pub indexed : List (ValueId × Ty) → State → ℤ → Outcome
indexed rs s n = if is_index n then defines rs s (Number n ∷ []) else Fails Stuck

abbrev pub then_goes : Outcome → (State → Outcome) → Outcome
then_goes (Goes s) k = k s
then_goes (Ends ds) k = Ends ds
then_goes (Fails f) k = Fails f

-- a body's end is waited for
abbrev pub then_ends : Outcome → (List Datum → Outcome) → Outcome
then_ends (Goes s) k = Fails Stuck
then_ends (Ends ds) k = k ds
then_ends (Fails f) k = Fails f

-- a result is waited for
abbrev pub then_made : {A : Type 0} → Result A Fault → (A → Outcome) → Outcome
then_made (Ok a) k = k a
then_made (Err f) k = Fails f
