use Rattle.std.proofs.Common.{◌∙◌, [], ◌∷◌, List, map, ap}
use Rattle.transform_handles.specs.declared.target.Target.{Target}
use Rattle.script_run.specs.Steps.{result_rows}
use Rattle.script_run.proofs.Agreeing.{split_session}
use Rattle.script_run.proofs.session.Session.split.Goals as goal

pub add_rows-requires : goal.add_rows-requires
add_rows-requires c =
    let results = c.args.results.now in
    split_session c.in-Ok.targets results c.args.self.now c.in-Ok-split_rows.rows.items c.in-Ok.ensures.session c.in-Ok.ensures.stand
    (c.in-Ok-split_rows.ensures ∙ ap (λ (ts : List Target). result_rows results (map (λ (t : Target). t ∷ []) ts)) c.as_slice.ensures)
