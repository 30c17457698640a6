use Rattle.std.proofs.Common.{◌≡◌, length, List, sym, ap, ◌∙◌, arith}
use Rattle.mlir_print.specs.Names.{Row, row_of, spot}
use Rattle.mlir_print.proofs.Spots.{added}
use Rattle.mlir_print.proofs.names.Rows.add.Goals as goal

pub invariant_of-self-in-Ok : goal.invariant_of-self-in-Ok
invariant_of-self-in-Ok c =
    let n : c.len-at.result ≡ length c.self.inside.rows.items = omega (arith, c.len-at.ensures) in
    λ v. added c.self.inside.rows.items (row_of c.args.value c.args.name c.args.ty.now) _ _ c.len-at.result (λ q. c.in-Ok.ensures.updates.0 q) n c.self.invariant v
    ∙ ap (λ (rs : List Row). spot 0 rs v) (sym c.in_ok-push.ensures.items)
