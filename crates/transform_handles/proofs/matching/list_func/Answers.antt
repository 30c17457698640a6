use Rattle.std.proofs.Common.{[], ◌∷◌, ◌∙◌, ap, List, subst}
use Rattle.std.specs.Prelude.{◌||◌}
use Rattle.mlir_ir.specs.declared.tree.Op.{Op}
use Rattle.mlir_ir.specs.Shape.{FuncShape}
use Rattle.transform_handles.specs.declared.target.Target.TheVariants.{Root, Function}
use Rattle.transform_handles.specs.Targets.{has}
use Rattle.transform_handles.specs.Items.{function, items_of, picked}
use Rattle.transform_handles.specs.Matching.{Adds, wants}
use Rattle.transform_handles.proofs.Lists.{tree_lists}
use Rattle.transform_handles.proofs.matching.list_func.Goals as goal

pub returns : goal.returns
returns c =
    let what = c.args.what.now in
    let k = c.args.number in
    let body = c.as_slice.ensures ∙ ap (λ (x : FuncShape). x.body) c.f.view_is in
    let entered = c.enters-inside.ensures ∙ ap (λ b. has what.targets (Function k) || b) c.enters-within.ensures in
    let rest = subst (λ (b : List Op). Adds c.list_body.result c.list_item.new.found c.list_body.new.found (picked (wants what) (items_of b (Function k ∷ Root ∷ [])))) body
    (c.list_body.ensures (Function k ∷ Root ∷ []) entered) in
    tree_lists what c.list_body.result c.args.found.now c.list_item.new.found c.list_body.new.found (function k) (items_of c.args.f.now.body (Function k ∷ Root ∷ []))
    (c.in-Ok.ensures (Root ∷ []) c.enters-within.ensures) rest
