use Rattle.transform_handles.proofs.Listed.{lists_matched}
use Rattle.transform_handles.proofs.matching.matched.Goals as goal

pub returns : goal.returns
returns c =
    lists_matched c.list_funcs.result c.in-Ok-of.names c.in-Ok.targets c.args.names.now c.args.targets.now c.args.m.now.funcs c.as_slice.result.now c.as_slice.ensures c.in-Ok-of.ensures
    c.in-Ok.ensures c.list_funcs.ensures
