use Rattle.std.proofs.Common.{◌≡◌, length}
use Rattle.mlir_payload.specs.Payload.{more_args}
use Rattle.mlir_payload.proofs.payloads.read_more_args.Given as goal

abbrev pub invariant-loop-wanted : goal.invariant-loop-wanted
invariant-loop-wanted l = more_args l.close l.outer l.names l.wanted l.rest ≡ more_args l.close l.outer l.fn.names l.locals l.args

abbrev pub decreases-loop-wanted : goal.decreases-loop-wanted
decreases-loop-wanted l = length l.wanted
