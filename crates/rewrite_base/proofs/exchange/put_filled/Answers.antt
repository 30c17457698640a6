use Rattle.verified_runs.specs.Edits.{Edit}
use Rattle.mlir_edits.proofs.Bounds.{filled_at}
use Rattle.rewrite_base.proofs.exchange.put_filled.Goals as goal

pub replace_at-requires-clause-left : goal.replace_at-requires-clause-left
replace_at-requires-clause-left c =
    let e : Edit = record { ops = c.args.new; values = c.args.values.now } in
    filled_at c.args.place c.args.m.funcs e c.requires.there c.requires.new
