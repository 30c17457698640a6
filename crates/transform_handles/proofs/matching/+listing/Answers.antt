use Rattle.std.proofs.Common.{◌∙◌, ◌∷◌, ap}
use Rattle.std.specs.Prelude.{◌||◌}
use Rattle.transform_handles.specs.declared.target.Target.TheVariants.{Operation}
use Rattle.transform_handles.specs.Targets.{has}
use Rattle.transform_handles.specs.Matching.{wants}
use Rattle.transform_handles.proofs.Lists.{items-For, items-Forall, op_lists, body_goes}
use Rattle.transform_handles.proofs.matching.+listing.Goals as goal

pub list_inside-returns-in-For : goal.list_inside-returns-in-For
list_inside-returns-in-For t c = λ around w. simp (c.in-For.is, items-For, ← c.as_slice.ensures) (c.list_body.ensures around w)

pub list_inside-returns-in-Forall : goal.list_inside-returns-in-Forall
list_inside-returns-in-Forall t c = λ around w. simp (c.in-Forall.is, items-Forall, ← c.as_slice-in-Forall.ensures) (c.list_body-in-Forall.ensures around w)

pub list_op-returns : goal.list_op-returns
list_op-returns t c = λ around w.
    let what = c.args.what.now in
    let o = c.args.op.now in
    let entered = c.enters-inside.ensures ∙ ap (λ b. has what.targets (Operation o.id) || b) w in
    op_lists what c.list_inside.result c.args.found.now c.list_item.new.found c.list_inside.new.found o c.name_of.result.now around c.name_of.ensures (c.in-Ok.ensures around w)
    (c.list_inside.ensures (Operation o.id ∷ around) entered)

pub list_body-loop-op-preserved : goal.list_body-loop-op-preserved
list_body-loop-op-preserved t c = λ around w.
    body_goes (wants c.args.what.now) c.args.ops.now c.loop-op.op-index c.op-item.result around c.loop-op.found c.list_op.new.found _ c.loop-op-test.true c.op-item.is
    (c.in-Ok.ensures around w) (c.loop-op.invariant around w)
