-- The steps that change the module, as the code takes them, and what it answers for their targets.
use Rattle.std.specs.Prelude.{◌≡◌, ◌==◌, nat_lt, Bool, true, false, List, [], ◌∷◌, length, Result, Ok, Err}
use Rattle.std.specs.List.{list_all}
use Rattle.mlir_ir.specs.declared.tree.Module.{Module}
use Rattle.mlir_ir.specs.declared.tree.OpId.{OpId}
use Rattle.rewrite_base.specs.declared.error.StepError.{StepError}
use Rattle.step_passes.specs.Exchanging.{Exchanging}
use Rattle.step_passes.specs.Steps.{generalizing, interchanging}
use Rattle.transform_handles.specs.declared.target.Target.{Target}
use Rattle.transform_handles.specs.declared.target.Target.TheVariants.{Root, Function, Operation}
use Rattle.script_run.specs.declared.transforms.Exchange.{Exchange}
use Rattle.script_run.specs.declared.transforms.Exchange.TheVariants.{Generalize, Interchange}
use Rattle.script_run.specs.declared.transforms.Transform.{Transform}
use Rattle.script_run.specs.declared.transforms.Transform.TheVariants as transform
use Rattle.script_run.specs.Outcomes.{Refuses}
use Rattle.script_run.specs.Steps.{StepAt, TargetStep, at_target, generalize_at, interchange_at, fuse_at}

abbrev pub step_of : Exchange → StepAt
step_of Generalize = generalize_at
step_of (Interchange order) = interchange_at order.now

abbrev pub target_step : Transform → TargetStep
target_step (transform.Exchange x) = at_target (step_of x)
target_step transform.FuseElementwise = fuse_at

-- EXCHANGES
abbrev pub exchanging_of : Exchange → Exchanging
exchanging_of Generalize = generalizing
exchanging_of (Interchange order) = interchanging order.now

-- the operations before the first target that is none
abbrev pub front : List Target → List OpId
front [] = []
front (Root ∷ ts) = []
front (Function k ∷ ts) = []
front (Operation i ∷ ts) = i ∷ front ts

abbrev pub are_operations : List Target → Bool
are_operations [] = true
are_operations (Root ∷ ts) = false
are_operations (Function k ∷ ts) = false
are_operations (Operation i ∷ ts) = are_operations ts

-- FUSING
abbrev pub function_stands : Module → Target → Bool
function_stands m Root = true
function_stands m (Function k) = nat_lt k (length m.funcs)
function_stands m (Operation i) = true

abbrev pub functions_stand : Module → List Target → Bool
functions_stand m ts = list_all (function_stands m) ts

-- the module that is answered, where the function gives itself, unless memory ran out
abbrev pub Fuses : Target → Result Module StepError → Result (Module × List Target) StepError → Type 0
Fuses t (Ok m) r = r ≡ Ok (m, t ∷ [])
Fuses t (Err e) r = Refuses e r
