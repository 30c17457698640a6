use Rattle.std.proofs.Common.{◌≡◌, ◌==◌, drop}
use Rattle.std.specs.List.{list_all}
use Rattle.mlir_print.proofs.constants.are_all.Given as goal

abbrev pub invariant-loop-other : goal.invariant-loop-other
invariant-loop-other l = list_all (λ x. x == l.cell) (drop l.other-index l.cells) ≡ list_all (λ x. x == l.cell) l.cells
