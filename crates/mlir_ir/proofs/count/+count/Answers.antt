use Rattle.mlir_ir.proofs.Trees.{count-For, count-Forall}
use Rattle.mlir_ir.proofs.count.+count.Goals as goal

pub count_in-returns-in-For : goal.count_in-returns-in-For
count_in-returns-in-For t c = simp (c.in-For.is, count-For, ← c.as_slice.ensures) c.count_body.ensures

pub count_in-returns-in-Forall : goal.count_in-returns-in-Forall
count_in-returns-in-Forall t c = simp (c.in-Forall.is, count-Forall, ← c.as_slice-in-Forall.ensures) c.count_body-in-Forall.ensures
