-- The laws of verified functions and of steps. Each is the contract of a function in `src/laws.rt`.
use Rattle.std.specs.Prelude.{◌≡◌, ◌≢◌, ◌<◌, List, ◌∷◌, length, ℕ, ◌≤◌, false, [], ◌++◌, Some, true}
use Rattle.mlir_ir.specs.Shape.{FuncShape, TensorShape}
use Rattle.mlir_ir.specs.declared.tree.Op.{Op}
use Rattle.mlir_ir.specs.declared.tree.Module.{Module}
use Rattle.mlir_meaning.specs.Grids.{Each}
use Rattle.mlir_meaning.specs.States.{State, names_of}
use Rattle.mlir_meaning.specs.Meaning.{initial_state, kind_meaning, meaning, run}
use Rattle.mlir_meaning.specs.Contexts.{Context, Here, InFor, InForall, plug, Reaches}
use Rattle.mlir_verify.specs.Place.{type_among}
use Rattle.mlir_verify.specs.Rules.{IsVerified}
use Rattle.verified_runs.specs.Typed.{AreTyped, AreOf, IsTypedAnswer, types_of}
use Rattle.verified_runs.specs.Passes.{OpPasses, FuncPasses, scope_in, Scope, BodyPasses, scope_after}
use Rattle.mlir_ir.specs.Count.{find_op}
use Rattle.mlir_ir.specs.declared.tree.OpId.{OpId}
use Rattle.mlir_ir.specs.declared.tree.Ty.{Ty}
use Rattle.mlir_meaning.specs.Names.{DoesNotName, AlikeThrough}
use Rattle.mlir_meaning.specs.Loops.{arguments}
use Rattle.mlir_meaning.specs.Replacement.{AroundReadsOnly, AfterDefinesOnly}
use Rattle.mlir_meaning.specs.Renaming.{reused_ops, reused_after}
use Rattle.mlir_verify.specs.Ends.{is_return}
use Rattle.affine_maps.specs.Permutation.{is_among}
use Rattle.mlir_verify.specs.Names.{numbers}
use Rattle.mlir_ir.specs.declared.tree.ValueId.{ValueId}
use Rattle.verified_runs.specs.Forms.{Structured, kind_of, structured_of}
use Rattle.verified_runs.specs.Asks.{Asks}
use Rattle.verified_runs.specs.Edits.{Edit, moved, Step, edited_func}
use Rattle.verified_runs.specs.Fresh.{above_op, above_func, fresh_value, below}

-- no rule fails in a verified module, operation by operation
abbrev pub VerifiedPasses : Type 0
VerifiedPasses = (m : Module) → IsVerified m → Each FuncPasses m.funcs

-- run on inputs of its parameters' types, a function that passes comes to each place with each value in scope of its
-- type
abbrev pub ComesTyped : Type 0
ComesTyped = (f : FuncShape) (k : Context) (xs : List Op) (inputs : List TensorShape) (u : State) →
    FuncPasses f → f.body ≡ plug k xs → AreOf (types_of f.params) inputs →
    Reaches k xs (initial_state f.params inputs) u →
    AreTyped (type_among (scope_in f.params k)) u

-- and what stands there passes
abbrev pub PlacePasses : Type 0
PlacePasses = (f : FuncShape) (k : Context) (o : Op) (os : List Op) →
    FuncPasses f → f.body ≡ plug k (o ∷ os) → (wanted : List _) × OpPasses (scope_in f.params k) wanted o

-- it ends in tensors of its result types or in the trap, and never otherwise
abbrev pub EndsTyped : Type 0
EndsTyped =
    (f : FuncShape) (inputs : List TensorShape) → FuncPasses f → AreOf (types_of f.params) inputs →
    IsTypedAnswer f.results (meaning f inputs)

-- what the operation at a place asks holds in each state in which a run comes to it
abbrev pub ComesSafe : Type 0
ComesSafe = (f : FuncShape) (k : Context) (o : Op) (os : List Op) (inputs : List TensorShape) (u : State) →
    FuncPasses f → f.body ≡ plug k (o ∷ os) → AreOf (types_of f.params) inputs →
    Reaches k (o ∷ os) (initial_state f.params inputs) u → Asks o.kind u

-- no operation before a place, and no loop around it, defines the value
abbrev pub NotDefined : ℕ → Context → Type 0
NotDefined v (Here before after) = Each (λ (o : Op). DoesNotName v (names_of o.results)) before
NotDefined v (InFor before l inner after) =
    Each (λ (o : Op). DoesNotName v (names_of o.results)) before × (v ≢ l.head.var.0) × DoesNotName v (arguments l.head.carried) × NotDefined v inner
NotDefined v (InForall before l inner after) =
    Each (λ (o : Op). DoesNotName v (names_of o.results)) before × DoesNotName v (arguments l.head.shared) × DoesNotName v l.head.vars × NotDefined v inner

-- such a value holds at the place what it held before, through loops too
abbrev pub ComesKept : Type 0
ComesKept =
    (k : Context) (xs : List Op) (s u : State) (v : ℕ) → NotDefined v k → Reaches k xs s u → u.values v ≡ s.values v

-- what stands around a place reads only numbers below a fresh one
abbrev pub AroundIsBelow : Type 0
AroundIsBelow =
    (f : FuncShape) (k : Context) (xs : List Op) (n : ℕ) → FuncPasses f → f.body ≡ plug k xs → above_func f ≤ n →
    AroundReadsOnly (below n) k

-- what is defined after a place is another number than each that is in scope there, or that the operations there define
abbrev pub LaterAreOther : Type 0
LaterAreOther = (f : FuncShape) (k : Context) (xs : List Op) → FuncPasses f → f.body ≡ plug k xs →
    AfterDefinesOnly (λ v. is_among v (numbers (scope_after (scope_in f.params k) xs)) ≡ false) k

-- where a renaming keeps the numbers in scope at a place, renaming uses everywhere is renaming them there and after it
abbrev pub RenamedAfter : Type 0
RenamedAfter = (f : FuncShape) (k : Context) (xs : List Op) (g : ℕ → ℕ) → FuncPasses f → f.body ≡ plug k xs →
    ((v : ℕ) → is_among v (numbers (scope_in f.params k)) ≡ true → g v ≡ v) →
    reused_ops g (plug k xs) ≡ plug (reused_after g k) (reused_ops g xs)

-- NAMED OPERATIONS
-- an operation means the generic that it is by the types in scope, in each state in which they hold
abbrev pub NamedMeansGeneric : Type 0
NamedMeansGeneric =
    (scope : Scope) (wanted : List Ty) (o : Op) (g : Structured) (u : State) → OpPasses scope wanted o →
    structured_of (type_among scope) o.kind ≡ Some g →
    AreTyped (type_among scope) u → kind_meaning (kind_of g) o.results u ≡ kind_meaning o.kind o.results u

-- and that generic passes, with results of the same types under new numbers
abbrev pub GenericPasses : Type 0
GenericPasses =
    (scope : Scope) (wanted : List Ty) (o : Op) (g : Structured) (i : OpId) (results : List (ValueId × Ty)) →
    OpPasses scope wanted o → structured_of (type_among scope) o.kind ≡ Some g → types_of results ≡ types_of o.results →
    Each (λ r. is_among (r.0).0 (numbers scope) ≡ false) results →
    OpPasses scope wanted (record { id = i; results = results; kind = kind_of g })

-- STEPS
-- run in each typed state, the new operations end as the target does, keep every number below n, and give the
-- target's results under
-- new numbers
pub record HasSameEffect (n : ℕ) (scope : Scope) (o : Op) (e : Edit) : Type 0 where
  pub fresh : Each (λ v. n ≤ v.0) e.values
  pub same : (u : State) → AreTyped (type_among scope) u → AlikeThrough (below n) (moved (names_of o.results) e.values) (run (o ∷ []) u) (run e.ops u)

-- what a step owes at its target: its effect on typed states, where the target passes the verifier
abbrev pub IsRight : ℕ → OpId → Step → List Op → Type 0
IsRight n i step body = (scope : Scope) (wanted : List Ty) (o : Op) (e : Edit) →
    find_op i body ≡ Some o → OpPasses scope wanted o → above_op o ≤ n → step scope o ≡ Some e →
    HasSameEffect n scope o e

abbrev pub KeepsMeaning : OpId → Step → FuncShape → Type 0
KeepsMeaning i step f =
    (inputs : List TensorShape) → AreOf (types_of f.params) inputs →
    meaning (edited_func i step f) inputs ≡ meaning f inputs

-- once for all steps
abbrev pub StepKeepsMeaning : Type 0
StepKeepsMeaning = (f : FuncShape) (i : OpId) (step : Step) (n : ℕ) →
    FuncPasses f → above_func f ≤ n → IsRight n i step f.body → KeepsMeaning i step f

-- so every function of a verified module keeps its meaning
abbrev pub ModuleKeepsMeaning : Type 0
ModuleKeepsMeaning = (m : Module) (i : OpId) (step : Step) → IsVerified m →
    ((body : List Op) → IsRight (fresh_value m.funcs) i step body) → Each (KeepsMeaning i step) m.funcs

-- the second scope has the types of the first under other numbers, and no more of the numbers below n
pub record Retypes (n : ℕ) (f : ℕ → ℕ) (old other : Scope) : Type 0 where
  pub types : (v : ℕ) → v < n → type_among other (f v) ≡ type_among old v
  pub none : (v : ℕ) → v < n → is_among v (numbers old) ≡ false → is_among v (numbers other) ≡ false

-- what a step owes so that what it forms passes the verifier: the new operations pass before whatever passes after
-- them, and their values
-- have the types of the target's results
pub record PassesThere (n : ℕ) (scope : Scope) (wanted : List Ty) (o : Op) (e : Edit) : Type 0 where
  pub fresh : Each (λ v. n ≤ v.0) e.values
  pub back : ℕ → ℕ
  pub returns : (v : ℕ) → v < n → back (moved (names_of o.results) e.values v) ≡ v
  pub front : (rest : List Op) → 0 < length rest → BodyPasses (scope_after scope e.ops) wanted rest → BodyPasses scope wanted (e.ops ++ rest)
  pub retypes : Retypes n (moved (names_of o.results) e.values) (scope ++ o.results) (scope_after scope e.ops)

-- once for all steps: a target isn't a terminator
abbrev pub FormedPasses : Type 0
FormedPasses = (f : FuncShape) (i : OpId) (step : Step) (n : ℕ) → FuncPasses f → above_func f ≤ n →
    ((scope : Scope) (o : Op) (e : Edit) → OpPasses scope f.results o → above_op o ≤ n → step scope o ≡ Some e → (is_return o.kind ≡ false) × PassesThere n scope f.results o e) →
    FuncPasses (edited_func i step f)
