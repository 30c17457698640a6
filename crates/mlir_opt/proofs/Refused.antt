-- From one step of the processing to the next.
use Rattle.std.proofs.Common.{◌≡◌, ◌∙◌, ℕ, Option, Result, Err, ap}
use Rattle.mlir_ir.specs.declared.tree.Module.{Module}
use Rattle.rewrite_base.specs.declared.error.StepError.{StepError}
use Rattle.rewrite_base.specs.declared.error.StepError.TheVariants as why
use Rattle.script_read.specs.declared.script.Script.{Script}
use Rattle.script_run.specs.declared.error.ScriptError.{ScriptError}
use Rattle.script_run.specs.Scripts.{StopsAt, Runs}
use Rattle.mlir_opt.specs.declared.refusal.Refusal.{Refusal}
use Rattle.mlir_opt.specs.declared.refusal.Refusal.TheVariants.{Limit, Text, Verify, NoScript, Step, Memory}
use Rattle.mlir_opt.specs.declared.refusal.StepFault.TheVariants as steps
use Rattle.mlir_opt.specs.declared.refusal.TextError.{TextError}
use Rattle.mlir_opt.specs.declared.refusal.TextError.TheVariants as text
use Rattle.mlir_opt.specs.declared.request.Output.{Output}
use Rattle.mlir_opt.specs.Processed.{step_refusal, given_by, written_with}
use Rattle.mlir_opt.specs.Steps.{IsTextError, RefusedAs}

-- a refusal that is stated
stated_refusal : {A : Type 0} (r : Result A Refusal) (stated : Refusal) (e : TextError) → r ≡ Err stated → IsTextError stated e → RefusedAs r e
stated_refusal r stated (text.Limit which) h same = h ∙ ap Err same
stated_refusal r stated (text.Text line column fault) h same = h ∙ ap Err same
stated_refusal r stated (text.Verify rule op) h same = h ∙ ap Err same
stated_refusal r stated text.NoScript h same = h ∙ ap Err same
stated_refusal r stated (text.Step step fault) h same = h ∙ ap Err same
stated_refusal r stated text.Memory h same = tt

-- want of memory is told as that alone
no_memory : {A : Type 0} (r : Result A Refusal) (e : TextError) → IsTextError Memory e → RefusedAs r e
no_memory r (text.Limit which) same = absurd (cc same)
no_memory r (text.Text line column fault) same = absurd (cc same)
no_memory r (text.Verify rule op) same = absurd (cc same)
no_memory r text.NoScript same = absurd (cc same)
no_memory r (text.Step step fault) same = absurd (cc same)
no_memory r text.Memory same = tt

given_at : (r : Result Module ScriptError) (step : ℕ) (w : StepError) (e : TextError) → StopsAt (record { step = step; why = w }) w r → IsTextError (step_refusal step w) e → RefusedAs (given_by r) e
given_at r step (why.Rule rule op) e stops same = stated_refusal (given_by r) (Step step (steps.Rule rule)) e (ap given_by stops) same
given_at r step (why.Limit which) e stops same = stated_refusal (given_by r) (Step step (steps.Limit which)) e (ap given_by stops) same
given_at r step why.Memory e stops same = no_memory (given_by r) e same

-- a script that is refused
pub given_refused : (r : Result Module ScriptError) (error : ScriptError) (e : TextError) → Runs {A = Module} (Err error) r → IsTextError (step_refusal error.step error.why) e → RefusedAs (given_by r) e
given_refused r error e runs same = given_at r error.step error.why e runs same

-- a module that isn't formed is a file that isn't written
pub written_refused : (output : Output) (script : Option Script) (r : Result Module Refusal) (e : TextError) → RefusedAs r e → RefusedAs (written_with output script r) e
written_refused output script r (text.Limit which) h = ap (written_with output script) h
written_refused output script r (text.Text line column fault) h = ap (written_with output script) h
written_refused output script r (text.Verify rule op) h = ap (written_with output script) h
written_refused output script r text.NoScript h = ap (written_with output script) h
written_refused output script r (text.Step step fault) h = ap (written_with output script) h
written_refused output script r text.Memory h = tt
