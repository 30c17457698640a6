use Rattle.mlir_ir.proofs.Trees.{find-For, find-Forall}
use Rattle.mlir_ir.proofs.look.+look.Goals as goal

pub find_within-returns-in-For : goal.find_within-returns-in-For
find_within-returns-in-For t c = simp (c.in-For.is, find-For, ← c.as_slice.ensures) c.find_body.ensures

pub find_within-returns-in-Forall : goal.find_within-returns-in-Forall
find_within-returns-in-Forall t c = simp (c.in-Forall.is, find-Forall, ← c.as_slice-in-Forall.ensures) c.find_body-in-Forall.ensures
