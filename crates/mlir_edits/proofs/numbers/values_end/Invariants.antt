use Rattle.std.proofs.Common.{◌≡◌, max, drop}
use Rattle.verified_runs.specs.Fresh.{fresh_value}
use Rattle.mlir_edits.proofs.numbers.values_end.Given as goal

abbrev pub invariant-loop-f : goal.invariant-loop-f
invariant-loop-f l = max l.end (fresh_value (drop l.f-index l.m.funcs)) ≡ fresh_value l.m.funcs
