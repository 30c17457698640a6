use Rattle.std.proofs.Common.{◌≡◌, drop}
use Rattle.std.specs.List.{list_any}
use Rattle.mlir_ir.specs.declared.tree.Op.{Op}
use Rattle.rewrite_base.specs.Limits.{has_long_payload}
use Rattle.rewrite_base.proofs.limits.+payloads.Given as goal

abbrev pub invariant-have_long_payload-loop-op : goal.invariant-have_long_payload-loop-op
invariant-have_long_payload-loop-op l = list_any (λ (o : Op). has_long_payload o.kind) l.ops ≡ list_any (λ (o : Op). has_long_payload o.kind) (drop l.op-index l.ops)
