use Rattle.std.proofs.Common.{◌∙◌, ap}
use Rattle.std.specs.List.{list_any}
use Rattle.mlir_ir.specs.declared.tree.Op.{Op}
use Rattle.rewrite_base.specs.Limits.{has_long_payload}
use Rattle.rewrite_base.proofs.Trees.{long-For, long-Forall}
use Rattle.rewrite_base.proofs.limits.+payloads.Goals as goal

pub has_long_payload-returns-in-For : goal.has_long_payload-returns-in-For
has_long_payload-returns-in-For t c = simp (c.in-For.is, long-For, ← c.as_slice.ensures) c.have_long_payload.ensures

pub has_long_payload-returns-in-Forall : goal.has_long_payload-returns-in-Forall
has_long_payload-returns-in-Forall t c = simp (c.in-Forall.is, long-Forall, ← c.as_slice-in-Forall.ensures) c.have_long_payload-in-Forall.ensures
