use Rattle.std.proofs.Common.{◌≡◌, length}
use Rattle.mlir_read.specs.Resolve.{more_return_types}
use Rattle.mlir_read.proofs.functions.read_more_return_types.Given as goal

abbrev pub invariant-loop-wanted : goal.invariant-loop-wanted
invariant-loop-wanted l = more_return_types l.close l.names l.wanted l.rest ≡ more_return_types l.close l.names l.values l.types

abbrev pub decreases-loop-wanted : goal.decreases-loop-wanted
decreases-loop-wanted l = length l.wanted
