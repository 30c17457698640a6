use Rattle.std.proofs.Common.{◌∙◌, sym, arith}
use Rattle.text_format.proofs.Runs.{run_stops, run_goes, run_ends}
use Rattle.text_format.proofs.front.run.Goals as goal

pub returns-then-not-belongs-clause-count : goal.returns-then-not-belongs-clause-count
returns-then-not-belongs-clause-count c = run_stops c.args.class c.args.bytes.now c.loop-i.i (omega arith) (sym c.belongs.ensures ∙ c.if-not-belongs.true) c.loop-i.invariant

pub loop-i-preserved : goal.loop-i-preserved
loop-i-preserved c = run_goes c.args.class c.args.bytes.now c.loop-i.i (omega arith) (sym c.belongs.ensures ∙ c.if-not-belongs.false) c.loop-i.invariant

pub returns-clause-count : goal.returns-clause-count
returns-clause-count c = run_ends c.args.class c.args.bytes.now c.loop-i.i (omega arith) (omega arith) c.loop-i.invariant
