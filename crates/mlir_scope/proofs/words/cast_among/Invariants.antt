use Rattle.std.proofs.Common.{◌≡◌, drop}
use Rattle.mlir_scope.specs.Words.{first_named, cast_text}
use Rattle.mlir_scope.proofs.words.cast_among.Given as goal

abbrev pub invariant-loop-cast : goal.invariant-loop-cast
invariant-loop-cast l = first_named cast_text l.text (drop l.cast-index l.casts) ≡ first_named cast_text l.text l.casts
