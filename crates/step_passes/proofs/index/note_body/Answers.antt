use Rattle.std.proofs.Common.{◌≡◌, ◌<◌, ◌∙◌, List, length, get_or, subst}
use Rattle.mlir_ir.specs.declared.tree.Op.{Op}
use Rattle.mlir_edits.proofs.Scopes.{scope_goes}
use Rattle.step_passes.specs.Telling.{types_known, exchanging}
use Rattle.step_passes.proofs.Indexing.{body_goes}
use Rattle.step_passes.proofs.index.note_body.Goals as goal

pub loop-op-preserved : goal.loop-op-preserved
loop-op-preserved c =
    let f = c.args.f.now in
    let k = c.loop-op.op-index in
    let o = c.op-item.result in
    let same : c.as_slice-op-items.result.now ≡ f.body = c.as_slice-op-items.ensures ∙ (λ j. (c.f.view_is j).body) in
    let more : k < length f.body = subst (λ (os : List Op). k < length os) same c.loop-op-test.true in
    let here : o ≡ get_or f.body k o = subst (λ (os : List Op). o ≡ get_or os k o) same c.op-item.is in
    record {
      types = λ v.
          scope_goes f.params f.body k o v (types_known c.loop-op.known v) (types_known c.note_op.new.known v) more here
          (c.in_ok-note_op.ensures.types v) (c.loop-op.invariant.types v);
      noted = body_goes (exchanging c.args.step.now) c.args.wanted.now f.params f.body k o (types_known c.loop-op.known) c.args.index.now
          c.loop-op.index c.note_op.new.index more here c.loop-op.invariant.types c.loop-op.invariant.noted c.in_ok-note_op.ensures.noted;
    }
