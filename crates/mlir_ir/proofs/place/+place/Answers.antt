use Rattle.std.proofs.Common.{arith, ap, ◌∙◌}
use Rattle.mlir_ir.specs.Count.{names, operands, uses_kind, uses_op}
use Rattle.mlir_ir.proofs.Trees.{uses-For, uses-Forall}
use Rattle.mlir_ir.proofs.place.+place.Goals as goal

pub uses_within-returns-in-For : goal.uses_within-returns-in-For
uses_within-returns-in-For t c =
    let own = ap (λ k. names c.args.v (operands k)) c.in-For.is in
    let body = ap (uses_op c.args.v) c.as_slice.ensures in
    let whole = ap (uses_kind c.args.v) c.in-For.is ∙ uses-For c.args.v c.in-For.var c.in-For.lower c.in-For.upper c.in-For.step c.in-For.carried c.in-For.body in
    omega (arith, own, body, whole, c.own_uses-own.ensures, c.uses_body.ensures, c.saturating_add.ensures)

pub uses_within-returns-in-Forall : goal.uses_within-returns-in-Forall
uses_within-returns-in-Forall t c =
    let own = ap (λ k. names c.args.v (operands k)) c.in-Forall.is in
    let body = ap (uses_op c.args.v) c.as_slice-in-Forall.ensures in
    let whole = ap (uses_kind c.args.v) c.in-Forall.is ∙ uses-Forall c.args.v c.in-Forall.vars c.in-Forall.lower c.in-Forall.upper c.in-Forall.step c.in-Forall.shared c.in-Forall.body in
    omega (arith, own, body, whole, c.own_uses-own.ensures, c.uses_body-in-Forall.ensures, c.saturating_add-in-Forall.ensures)
