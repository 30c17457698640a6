use Rattle.std.proofs.Common.{◌≡◌, take}
use Rattle.std.specs.Prelude.{option_copied}
use Rattle.mlir_verify.specs.Place.{type_among}
use Rattle.verified_runs.specs.Passes.{scope_after}
use Rattle.mlir_edits.proofs.scope.type_after.Given as goal

abbrev pub invariant-loop-op : goal.invariant-loop-op
invariant-loop-op l = option_copied l.found ≡ type_among (scope_after l.params (take l.op-index l.ops)) l.v.0
