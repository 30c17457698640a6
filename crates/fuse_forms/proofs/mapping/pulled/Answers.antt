use Rattle.std.proofs.Common.{◌≡◌, true, false, ◌∙◌}
use Rattle.fuse_forms.proofs.Composed.{pulled_there}
use Rattle.fuse_forms.proofs.mapping.pulled.Goals as goal

pub unreachable-requires : goal.unreachable-requires
unreachable-requires c =
    let m = c.args.m.now in
    let bad : false ≡ true = c.in-None.ensures.valid.1 (pulled_there c.args.ds.now m c.dims.result c.in_ok-results.results c.as_slice.result.now
    c.results.ensures.kept c.dims.ensures (c.as_slice.ensures ∙ c.results.ensures.value) c.in_ok-results.ensures) in
    absurd (cc bad)
