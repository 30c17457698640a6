-- A place in a body, at any depth of loops, and the states in which a run comes to it.
use Rattle.std.specs.Prelude.{◌≡◌, ℕ, zero, suc, ◌⊎◌, ℤ, ◌+ℤ◌, List, ◌∷◌, ◌++◌}
use Rattle.mlir_ir.specs.Shape.{FuncShape}
use Rattle.mlir_ir.specs.declared.tree.Op.{Op}
use Rattle.mlir_ir.specs.declared.tree.OpId.{OpId}
use Rattle.mlir_ir.specs.declared.tree.Ty.{Ty}
use Rattle.mlir_ir.specs.declared.tree.ValueId.{ValueId}
use Rattle.mlir_ir.specs.declared.tree.OpKind.{For, Forall}
use Rattle.mlir_meaning.specs.Grids.{InBox}
use Rattle.mlir_meaning.specs.States.{Datum, State, Outcome, Goes, Ends, number_in}
use Rattle.mlir_meaning.specs.Loops.{ForHead, ForallHead, for_state, for_trips, forall_state, forall_box, starts}
use Rattle.mlir_meaning.specs.Meaning.{run}

-- loops without their bodies
pub record ForLoop : Type 0 where
  pub id : OpId
  pub results : List (ValueId × Ty)
  pub head : ForHead

pub record ForallLoop : Type 0 where
  pub id : OpId
  pub results : List (ValueId × Ty)
  pub head : ForallHead

abbrev pub for_op : ForLoop → List Op → Op
for_op l body = record { id = l.id; results = l.results; kind = For l.head.var l.head.lower l.head.upper l.head.step l.head.carried body }

abbrev pub forall_op : ForallLoop → List Op → Op
forall_op l body =
    record { id = l.id; results = l.results; kind = Forall l.head.vars l.head.lower l.head.upper l.head.step l.head.shared body }

-- what stands before and after the place, in each of the loops around it
pub data Context : Type 0 where
  Here : List Op → List Op → Context
  InFor : List Op → ForLoop → Context → List Op → Context
  InForall : List Op → ForallLoop → Context → List Op → Context

-- the body with these operations at the place
abbrev pub plug : Context → List Op → List Op
plug (Here before after) xs = before ++ (xs ++ after)
plug (InFor before l inner after) xs = before ++ (for_op l (plug inner xs) ∷ after)
plug (InForall before l inner after) xs = before ++ (forall_op l (plug inner xs) ∷ after)

abbrev pub func_at : FuncShape → Context → List Op → FuncShape
func_at f k xs = record { name = f.name; params = f.params; results = f.results; body = plug k xs }

-- among n turns from a number on, one begins with number m and the values es
abbrev pub TurnBegins : (ℤ → List Datum → Outcome) → ℤ → ℕ → ℤ → List Datum → ℤ → List Datum → Type 0
TurnBegins body step zero number ds m es = ⊥
TurnBegins body step (suc n) number ds m es =
    ((number ≡ m) × (ds ≡ es)) ⊎ ((fs : List Datum) × (body number ds ≡ Ends fs) × TurnBegins body step n (number +ℤ step) fs m es)

-- a turn of the loop begins with number m and the values es
abbrev pub ForBegins : ForHead → (State → Outcome) → State → ℤ → List Datum → Type 0
ForBegins h body s m es =
    TurnBegins (λ number ds. body (for_state s h number ds)) (number_in s.values h.step) (for_trips s h) (number_in s.values h.lower)
    (starts s.values h.carried) m es

-- run from s with these operations at the place, the body comes to the place in state u
abbrev pub Reaches : Context → List Op → State → State → Type 0
Reaches (Here before after) xs s u = run before s ≡ Goes u
Reaches (InFor before l inner after) xs s u =
    (t : State) × (run before s ≡ Goes t)
    × (m : ℤ) × (es : List Datum) × ForBegins l.head (run (plug inner xs)) t m es × Reaches inner xs (for_state t l.head m es) u
Reaches (InForall before l inner after) xs s u =
    (t : State) × (run before s ≡ Goes t) × (p : List ℕ) × InBox (forall_box t l.head) p × Reaches inner xs (forall_state t l.head p) u
