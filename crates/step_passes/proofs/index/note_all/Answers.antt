use Rattle.std.proofs.Common.{◌≡◌, ◌<◌, List, length, get_or, subst}
use Rattle.mlir_ir.specs.Shape.{FuncShape}
use Rattle.step_passes.specs.Telling.{exchanging}
use Rattle.step_passes.proofs.Indexing.{funcs_go}
use Rattle.step_passes.proofs.index.note_all.Goals as goal

pub loop-f-preserved : goal.loop-f-preserved
loop-f-preserved c =
    let fs = c.args.m.now.funcs in
    let k = c.loop-f.f-index in
    let f = c.f-item.result in
    let same : c.as_slice-f-items.result.now ≡ fs = c.as_slice-f-items.ensures in
    let more : k < length fs = subst (λ (fs : List FuncShape). k < length fs) same c.loop-f-test.true in
    let here : f ≡ get_or fs k f = subst (λ (fs : List FuncShape). f ≡ get_or fs k f) same c.f-item.is in
    funcs_go (exchanging c.args.step.now) c.args.wanted.now fs k f c.args.index.now c.loop-f.index c.note_body.new.index more here
    c.loop-f.invariant c.in_ok-note_body.ensures
