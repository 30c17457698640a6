use Rattle.std.proofs.Common.{◌≡◌, length}
use Rattle.mlir_resolve.specs.Generics.{more_types}
use Rattle.mlir_resolve.proofs.generics.read_more_types.Given as goal

abbrev pub invariant-loop-wanted : goal.invariant-loop-wanted
invariant-loop-wanted l = more_types l.close l.names l.wanted l.rest ≡ more_types l.close l.names l.inputs l.types

abbrev pub decreases-loop-wanted : goal.decreases-loop-wanted
decreases-loop-wanted l = length l.wanted
