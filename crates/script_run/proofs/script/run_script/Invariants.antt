use Rattle.script_run.proofs.Agreeing.{Left}
use Rattle.script_run.proofs.script.run_script.Given as goal

abbrev pub invariant-loop-before : goal.invariant-loop-before
invariant-loop-before l = Left l.s l.fn.c l.session l.before
