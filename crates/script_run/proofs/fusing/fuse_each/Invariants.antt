use Rattle.script_run.proofs.Agreeing.{Through}
use Rattle.script_run.proofs.fusing.fuse_each.Given as goal

abbrev pub invariant-loop-t : goal.invariant-loop-t
invariant-loop-t l = Through l.targets l.fn.c l.module l.given l.t-index
