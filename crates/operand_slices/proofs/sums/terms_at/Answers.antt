use Rattle.std.proofs.Common.{refl}
use Rattle.operand_slices.proofs.Worth.{terms_step}
use Rattle.operand_slices.proofs.sums.terms_at.Goals as goal

pub loop-term-preserved : goal.loop-term-preserved
loop-term-preserved c =
    terms_step c.args.terms.now c.args.entries.now c.loop-term.term-index c.loop-term.all c.add_at.new.terms _ _ c.loop-term-test.true
    c.in_ok-add_at.ensures refl c.loop-term.invariant
