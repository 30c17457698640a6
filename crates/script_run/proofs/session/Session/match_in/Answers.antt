use Rattle.std.proofs.Common.{◌∙◌, ap}
use Rattle.mlir_ir.specs.declared.tree.Module.{Module}
use Rattle.transform_handles.specs.Items.{matched}
use Rattle.script_run.specs.Sessions.{SessionShape}
use Rattle.script_run.proofs.Agreeing.{matched_session}
use Rattle.script_run.proofs.session.Session.match_in.Goals as goal

pub add_rows-requires : goal.add_rows-requires
add_rows-requires c =
    let same = c.module.ensures.same ∙ ap (λ (y : SessionShape). y.module) c.self.view_is in
    matched_session c.args.names.now c.as_slice.result.now c.in-Ok-matched.found c.args.results.now c.args.self.now c.in-Ok-one_row.rows.items c.in-Ok.ensures.session
    (c.in-Ok-matched.ensures ∙ ap (λ (m : Module). matched c.args.names.now c.as_slice.result.now m.funcs) same) c.in-Ok-one_row.ensures
