use Rattle.std.proofs.Common.{◌≡◌, drop, take}
use Rattle.mlir_edits.specs.Places.{scope_before}
use Rattle.fuse_elementwise.specs.Spots.{first_spot, spot_from}
use Rattle.fuse_elementwise.proofs.finding.first_pair.Given as goal

abbrev pub invariant-loop-consumer : goal.invariant-loop-consumer
invariant-loop-consumer l =
    spot_from (scope_before l.f l.consumer) l.f.body (take l.consumer l.f.body) (drop l.consumer l.f.body) ≡ first_spot l.f
