use Rattle.std.proofs.Common.{◌≡◌, drop}
use Rattle.std.specs.List.{list_any}
use Rattle.mlir_ir.specs.Shape.{FuncShape}
use Rattle.mlir_ir.specs.declared.tree.Op.{Op}
use Rattle.rewrite_base.specs.Limits.{has_long_payload}
use Rattle.rewrite_base.proofs.limits.has_long_payloads.Given as goal

abbrev pub invariant-loop-f : goal.invariant-loop-f
invariant-loop-f l = list_any (λ (f : FuncShape). list_any (λ (o : Op). has_long_payload o.kind) f.body) l.m.funcs ≡ list_any (λ (f : FuncShape). list_any (λ (o : Op). has_long_payload o.kind) f.body) (drop l.f-index l.m.funcs)
