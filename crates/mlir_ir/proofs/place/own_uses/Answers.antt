use Rattle.std.proofs.Common.{◌++◌, arith, ap, map}
use Rattle.mlir_ir.specs.Count.{names, operands, idx_values}
use Rattle.mlir_ir.proofs.Trees.{names-append}
use Rattle.mlir_ir.proofs.place.own_uses.Goals as goal

pub returns-in-Forall : goal.returns-in-Forall
returns-in-Forall c =
    let v = c.args.v in
    let f = c.in-Forall in
    let l = idx_values f.lower in
    let u = idx_values f.upper in
    let s = idx_values f.step in
    let k = map (λ p. p.2) f.shared in
    let whole = ap (λ k. names v (operands k)) f.is in
    omega (
      arith,
      whole,
      names-append v (l ++ u ++ s) k,
      names-append v (l ++ u) s,
      names-append v l u,
      ap (λ xs. names v (idx_values xs)) c.as_slice-in-Forall.ensures,
      ap (λ xs. names v (idx_values xs)) c.as_slice-in-Forall-2.ensures,
      ap (λ xs. names v (idx_values xs)) c.as_slice-in-Forall-3.ensures,
      ap (λ xs. names v (map (λ p. p.2) xs)) c.as_slice-in-Forall-4.ensures,
      c.in_idxs-in-Forall.ensures,
      c.in_idxs-in-Forall-2.ensures,
      c.in_idxs-in-Forall-3.ensures,
      c.in_starts-in-Forall.ensures,
      c.saturating_add-in-Forall.ensures,
      c.saturating_add-in-Forall-2.ensures,
      c.saturating_add-in-Forall-3.ensures,
    )
