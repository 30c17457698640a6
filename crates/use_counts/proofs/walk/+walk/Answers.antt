use Rattle.std.proofs.Common.{◌≡◌, ℕ, sym, ◌+◌, arith, ap, ◌∙◌}
use Rattle.mlir_ir.specs.Count.{names, operands, uses_kind, uses_op}
use Rattle.mlir_ir.specs.declared.tree.ValueId.{ValueId}
use Rattle.mlir_ir.proofs.Trees.{uses-For, uses-Forall}
use Rattle.use_counts.proofs.Walks.{flat_uses, on_ok, own_names, uses_at}
use Rattle.use_counts.proofs.walk.+walk.Goals as goal

pub push_body-loop-op-preserved : goal.push_body-loop-op-preserved
push_body-loop-op-preserved t c = λ v.
    omega (arith, c.in-Ok.ensures v, c.loop-op.invariant v, uses_at v c.args.ops.now c.loop-op.op-index c.op-item.result (omega (arith, c.loop-op-test.true)) c.op-item.is)

pub push_within-returns-in-For : goal.push_within-returns-in-For
push_within-returns-in-For t c =
    on_ok c.push_body.result ((v : ValueId) → names v c.push_body.new.out.items ≡ names v c.push_operands.new.out.items + uses_op v c.as_slice.result.now)
    ((v : ValueId) → names v c.push_body.new.out.items ≡ names v c.args.out.now.items + uses_kind v c.args.kind.now)
    (λ h v.
    let own = own_names v c.args.out.now.items c.push_operands.new.out.items (operands c.args.kind.now) c.in-Ok.ensures in
    let kind = ap (λ k. names v (operands k)) c.in-For.is in
    let body = ap (uses_op v) c.as_slice.ensures in
    let whole = ap (uses_kind v) c.in-For.is ∙ uses-For v c.in-For.var c.in-For.lower c.in-For.upper c.in-For.step c.in-For.carried c.in-For.body in
    omega (arith, h v, own, kind, body, whole)) c.push_body.ensures

pub push_within-returns-in-Forall : goal.push_within-returns-in-Forall
push_within-returns-in-Forall t c =
    on_ok c.push_body-in-Forall.result ((v : ValueId) → names v c.push_body-in-Forall.new.out.items ≡ names v c.push_operands.new.out.items + uses_op v c.as_slice-in-Forall.result.now)
    ((v : ValueId) → names v c.push_body-in-Forall.new.out.items ≡ names v c.args.out.now.items + uses_kind v c.args.kind.now)
    (λ h v.
    let own = own_names v c.args.out.now.items c.push_operands.new.out.items (operands c.args.kind.now) c.in-Ok.ensures in
    let kind = ap (λ k. names v (operands k)) c.in-Forall.is in
    let body = ap (uses_op v) c.as_slice-in-Forall.ensures in
    let whole = ap (uses_kind v) c.in-Forall.is ∙ uses-Forall v c.in-Forall.vars c.in-Forall.lower c.in-Forall.upper c.in-Forall.step c.in-Forall.shared c.in-Forall.body in
    omega (arith, h v, own, kind, body, whole)) c.push_body-in-Forall.ensures

pub push_within-returns-in_default : goal.push_within-returns-in_default
push_within-returns-in_default t c = λ v.
    own_names v c.args.out.now.items c.push_operands.new.out.items (operands c.args.kind.now) c.in-Ok.ensures
    ∙ ap (λ (n : ℕ). names v c.args.out.now.items + n) (sym (flat_uses v c.args.kind.now c.in_default.not-For c.in_default.not-Forall))
