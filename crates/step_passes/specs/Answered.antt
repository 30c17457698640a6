-- What the code answers for steps at operations.
use Rattle.std.specs.Prelude.{◌≡◌, Result, Ok, Err, ⊤}
use Rattle.mlir_ir.specs.declared.tree.Module.{Module}
use Rattle.rewrite_base.specs.declared.error.StepError.{StepError}
use Rattle.rewrite_base.specs.declared.error.StepError.TheVariants.{Memory}
use Rattle.rewrite_base.specs.declared.made.Made.{Made}
use Rattle.step_passes.specs.Sequences.{Outcome}

-- only want of memory is free
abbrev pub Answered : Result (Module × Made) StepError → Outcome → Type 0
Answered (Ok x) r = r ≡ Ok (x.0, x.1.ops)
Answered (Err Memory) r = ⊤
Answered (Err why) r = r ≡ Err why
