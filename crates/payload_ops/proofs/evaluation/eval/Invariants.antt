use Rattle.std.proofs.Common.{◌≡◌, ◌≤◌, [], Some, length, take}
use Rattle.payload_ops.specs.Values.{steps_values}
use Rattle.payload_ops.proofs.evaluation.eval.Given as goal

-- the values so far are those of the steps so far
abbrev pub invariant-loop-i : goal.invariant-loop-i
invariant-loop-i l = record {
  room : length l.p.steps ≤ length l.scratch;
  values : steps_values l.p (record { point = l.point; outer = l.outer; ins = l.ins; out = l.out }) (take l.i l.p.steps) [] ≡ Some (take l.i l.scratch);
}
