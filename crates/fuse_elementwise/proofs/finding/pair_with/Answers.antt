use Rattle.std.proofs.Common.{ℕ, List, ap, sym, ◌∙◌}
use Rattle.mlir_edits.specs.Places.{scope_before}
use Rattle.mlir_verify.specs.Place.{type_among}
use Rattle.pair_laws.specs.FuseAll.{fits}
use Rattle.pair_laws.specs.Pairs.{fused_op}
use Rattle.fuse_forms.specs.Forms.{structured}
use Rattle.fuse_elementwise.proofs.Searching.{both_hold, second_fails}
use Rattle.fuse_elementwise.proofs.finding.pair_with.Goals as goal

pub returns-then-branch : goal.returns-then-branch
returns-then-branch c =
    let t = type_among (scope_before c.args.f.now c.args.consumer) in
    let p = structured c.args.p.now in
    let q = structured c.args.c.now in
    both_hold _ _ (record { producer = c.args.producer; consumer = c.args.consumer; operand = c.args.k; dims = c.args.dims })
    (sym c.if-not-is_used_once.false ∙ c.is_used_once.ensures)
    (sym c.if-branch.true ∙ c.in_ok-fits.ensures ∙ ap (λ (ds : List ℕ). fits t q (fused_op p q c.args.k c.args.m.now ds)) c.as_slice.ensures)

pub returns-else-branch : goal.returns-else-branch
returns-else-branch c =
    let t = type_among (scope_before c.args.f.now c.args.consumer) in
    let p = structured c.args.p.now in
    let q = structured c.args.c.now in
    second_fails _ _ (record { producer = c.args.producer; consumer = c.args.consumer; operand = c.args.k; dims = c.args.dims })
    (sym c.if-not-is_used_once.false ∙ c.is_used_once.ensures)
    (sym c.if-branch.false ∙ c.in_ok-fits.ensures ∙ ap (λ (ds : List ℕ). fits t q (fused_op p q c.args.k c.args.m.now ds)) c.as_slice.ensures)
