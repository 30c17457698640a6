use Rattle.std.proofs.Common.{◌≡◌, take}
use Rattle.mlir_meaning.specs.States.{names_of}
use Rattle.rewrite_base.proofs.exchange.names_of.Given as goal

abbrev pub invariant-loop-d : goal.invariant-loop-d
invariant-loop-d l = l.names ≡ names_of (take l.d-index l.definitions)
