use Rattle.std.proofs.Common.{◌≡◌, drop}
use Rattle.mlir_scope.specs.Words.{first_named, predicate_text}
use Rattle.mlir_scope.proofs.words.predicate_among.Given as goal

abbrev pub invariant-loop-predicate : goal.invariant-loop-predicate
invariant-loop-predicate l = first_named predicate_text l.text (drop l.predicate-index l.predicates) ≡ first_named predicate_text l.text l.predicates
