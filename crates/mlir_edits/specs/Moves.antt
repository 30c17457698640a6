-- Which values' uses become uses of which others, as a function of numbers.
use Rattle.std.specs.Prelude.{ℕ}
use Rattle.mlir_meaning.specs.States.{names_of}
use Rattle.verified_runs.specs.Edits.{moved}
use Rattle.mlir_edits.specs.declared.moves.Moves.{Moves}

abbrev pub through : Moves → ℕ → ℕ
through m = moved (names_of m.from.now) m.to.now
