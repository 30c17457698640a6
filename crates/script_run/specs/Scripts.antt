-- Scripts: the module that the steps reach, or the first step that is refused.
use Rattle.std.specs.Prelude.{◌≡◌, ℕ, suc, min, Bool, true, false, List, [], ◌∷◌, Option, Some, None, Result, Ok, Err, ⊤, if◌then◌else◌}
use Rattle.std.specs.List.{list_all}
use Rattle.mlir_ir.specs.declared.tree.Module.{Module}
use Rattle.rewrite_base.specs.declared.error.StepError.{StepError}
use Rattle.rewrite_base.specs.declared.error.StepError.TheVariants.{Memory}
use Rattle.script_read.specs.declared.script.Script.{Script}
use Rattle.script_read.specs.declared.script.Step.{Step}
use Rattle.script_read.specs.declared.script.StepKind.{StepKind}
use Rattle.script_read.specs.declared.script.StepKind.TheVariants.{Match, Split, Generalize, Interchange, FuseElementwise}
use Rattle.script_run.specs.declared.error.ScriptError.{ScriptError}
use Rattle.script_run.specs.Sessions.{SessionShape, opened}
use Rattle.script_run.specs.Steps.{after}

-- WHICH STEPS ARE BUILT
abbrev pub is_built : StepKind → Bool
is_built (Match names inside) = true
is_built (Split h) = true
is_built (Generalize h) = true
is_built (Interchange h order) = true
is_built (FuseElementwise h) = true
is_built _ = false

abbrev pub are_built : List Step → Bool
are_built steps = list_all (λ (s : Step). is_built s.kind) steps

-- the number that is told, 2^32 - 1 where it is greater
abbrev pub told : ℕ → ℕ
told k = min k 4294967295

-- the first step that isn't built, where these begin with step k
abbrev pub unbuilt_from : List Step → ℕ → Option ℕ
unbuilt_from [] k = None
unbuilt_from (s ∷ ss) k = if is_built s.kind then unbuilt_from ss (suc k) else Some (told k)

-- RUNS
-- what follows, where step k isn't refused
abbrev pub go_on : ℕ → Result SessionShape StepError → (SessionShape → Result SessionShape ScriptError) → Result SessionShape ScriptError
go_on k (Ok x) f = f x
go_on k (Err e) f = Err (record { step = told k; why = e })

-- after steps that begin with step k
abbrev pub reached : List Step → ℕ → SessionShape → Result SessionShape ScriptError
reached [] k x = Ok x
reached (s ∷ ss) k x = go_on k (after s x) (reached ss (suc k))

abbrev pub module_of : Result SessionShape ScriptError → Result Module ScriptError
module_of (Ok x) = Ok x.module
module_of (Err e) = Err e

-- the module that the script makes of this one. Steps are numbered from 1.
unfoldable pub run : Script → Module → Result Module ScriptError
run s m = module_of (reached s.steps 1 (opened m s.root))

-- the code's answer is that of the definition, unless memory ran out
abbrev pub StopsAt : {A : Type 0} → ScriptError → StepError → Result A ScriptError → Type 0
StopsAt e Memory r = ⊤
StopsAt e why r = r ≡ Err e

abbrev pub Runs : {A : Type 0} → Result A ScriptError → Result A ScriptError → Type 0
Runs (Ok x) r = r ≡ Ok x
Runs (Err e) r = StopsAt e e.why r
