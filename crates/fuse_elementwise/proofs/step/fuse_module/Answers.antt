use Rattle.std.proofs.Common.{◌≡◌, ◌<◌, List, length, ap, sym, subst, ◌∙◌}
use Rattle.std.specs.Prelude.{Ok, insert, slice_get}
use Rattle.mlir_ir.specs.Shape.{FuncShape}
use Rattle.mlir_verify.specs.Rules.{IsVerified}
use Rattle.step_results.proofs.Modules.{verified_module}
use Rattle.fuse_elementwise.specs.Fused.{with_func}
use Rattle.fuse_elementwise.proofs.Formed.{func_passes, func_put, func_there, fused_is, put_verifies, stopped_is}
use Rattle.fuse_elementwise.proofs.step.fuse_module.Goals as goal

pub fuse_func-requires : goal.fuse_func-requires
fuse_func-requires c =
    let fs : List FuncShape = c.into_vec-funcs.result.items in
    let below = subst (λ (l : List FuncShape). c.args.func < length l) (sym c.into_vec-funcs.ensures) c.requires.there in
    let there = ap (λ (l : List FuncShape). slice_get l c.args.func) (sym c.into_vec-funcs.ensures) ∙ func_there fs c.args.func c.remove-f.result below c.remove-f.ensures.value in
    func_passes c.args.m.funcs c.args.func c.remove-f.result (verified_module c.args.m c.requires.verified).funcs there

pub returns-in-Ok-insert : goal.returns-in-Ok-insert
returns-in-Ok-insert c =
    let n = c.args.func in
    let fs : List FuncShape = c.into_vec-funcs.result.items in
    let below = subst (λ (l : List FuncShape). n < length l) (sym c.into_vec-funcs.ensures) c.requires.there in
    let there = ap (λ (l : List FuncShape). slice_get l n) (sym c.into_vec-funcs.ensures) ∙ func_there fs n c.remove-f.result below c.remove-f.ensures.value in
    let put : with_func n c.in-Ok.g c.args.m.funcs ≡ c.from_vec.result = sym (c.from_vec.ensures ∙ c.in-Ok-insert.ensures.items
    ∙ ap (λ (l : List FuncShape). insert l n c.in-Ok.g) c.remove-f.ensures.items ∙ func_put fs n c.in-Ok.g below ∙ ap (with_func n c.in-Ok.g) c.into_vec-funcs.ensures) in (
      fused_is n c.args.m c.remove-f.result c.in-Ok.g there c.in-Ok.ensures ∙ (λ j. Ok (record { funcs = put j })),
      subst (λ (l : List FuncShape). IsVerified (record { funcs = l })) put (put_verifies n c.args.m c.remove-f.result c.in-Ok.g c.requires.verified there c.in-Ok.ensures),
    )

pub returns-in-Err : goal.returns-in-Err
returns-in-Err c =
    let fs : List FuncShape = c.into_vec-funcs.result.items in
    let below = subst (λ (l : List FuncShape). c.args.func < length l) (sym c.into_vec-funcs.ensures) c.requires.there in
    let there = ap (λ (l : List FuncShape). slice_get l c.args.func) (sym c.into_vec-funcs.ensures) ∙ func_there fs c.args.func c.remove-f.result below c.remove-f.ensures.value in
    stopped_is c.args.func c.args.m c.remove-f.result c.in-Err.e there c.in-Err.ensures
