use Rattle.std.proofs.Common.{◌≡◌, suc, drop}
use Rattle.script_run.specs.Scripts.{unbuilt_from}
use Rattle.script_run.proofs.script.first_unbuilt.Given as goal

abbrev pub invariant-loop-before : goal.invariant-loop-before
invariant-loop-before l = unbuilt_from (drop l.before l.s.steps) (suc l.before) ≡ unbuilt_from l.s.steps 1
