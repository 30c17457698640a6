use Rattle.transform_handles.proofs.Listed.{lists_inside}
use Rattle.transform_handles.proofs.matching.inside.Goals as goal

pub returns : goal.returns
returns c = lists_inside c.list_funcs.result c.in-Ok.targets c.args.targets.now c.args.m.now.funcs c.as_slice.result.now c.as_slice.ensures c.in-Ok.ensures c.list_funcs.ensures
