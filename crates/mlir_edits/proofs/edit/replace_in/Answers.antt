use Rattle.std.proofs.Common.{◌≡◌, ◌∙◌, ℕ, List, ◌<◌, length, subst, sym}
use Rattle.mlir_ir.specs.declared.tree.Op.{Op}
use Rattle.verified_runs.specs.Edits.{Edit}
use Rattle.mlir_edits.specs.Replaced.{replaced}
use Rattle.mlir_edits.proofs.edit.replace_in.Goals as goal

pub invariant_of-result : goal.invariant_of-result
invariant_of-result c =
    let n : ℕ = c.args.position in
    let e : Edit = record { ops = c.args.new; values = c.args.values.now } in
    let body : c.f.inside.body ≡ c.args.f.body = λ j. (c.f.view_is j).body in
    subst (λ (os : List Op). 0 < length os) (sym c.in_ok-body.ensures)
    (subst (λ (os : List Op). 0 < length (replaced n e os)) (sym body)
    c.requires.left)
