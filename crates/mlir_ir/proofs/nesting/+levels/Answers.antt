use Rattle.mlir_ir.proofs.Trees.{levels-For, levels-Forall}
use Rattle.mlir_ir.proofs.nesting.+levels.Goals as goal

pub levels_inside-returns-in-For : goal.levels_inside-returns-in-For
levels_inside-returns-in-For t c = simp (c.in-For.is, levels-For, ← c.as_slice.ensures) c.levels_of.ensures

pub levels_inside-returns-in-Forall : goal.levels_inside-returns-in-Forall
levels_inside-returns-in-Forall t c = simp (c.in-Forall.is, levels-Forall, ← c.as_slice-in-Forall.ensures) c.levels_of-in-Forall.ensures
