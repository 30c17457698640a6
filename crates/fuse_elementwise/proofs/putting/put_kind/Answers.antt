use Rattle.std.proofs.Common.{◌<◌, List, length, ap, sym, subst, ◌∙◌}
use Rattle.std.specs.Prelude.{insert}
use Rattle.mlir_ir.specs.declared.tree.Op.{Op}
use Rattle.fuse_elementwise.specs.Turns.{with_kind}
use Rattle.fuse_elementwise.proofs.Bodies.{put_there}
use Rattle.fuse_elementwise.proofs.putting.put_kind.Goals as goal

pub returns-in-Ok : goal.returns-in-Ok
returns-in-Ok c =
    let os : List Op = c.into_vec-ops.result.items in
    c.from_vec.ensures ∙ c.in-Ok.ensures.items
    ∙ ap (λ (l : List Op). insert l c.args.place c.of_kind.result) c.remove-old.ensures.items
    ∙ put_there os c.args.place c.args.kind c.remove-old.result c.of_kind.result (subst (λ (l : List Op). c.args.place < length l) (sym c.into_vec-ops.ensures) c.requires)
    c.remove-old.ensures.value c.of_kind.ensures
    ∙ ap (with_kind c.args.place c.args.kind) c.into_vec-ops.ensures
