use Rattle.std.proofs.Common.{None, ◌∙◌, sym, subst}
use Rattle.step_passes.specs.Noting.{IsNoted}
use Rattle.step_passes.proofs.index.index_of.Goals as goal

pub returns : goal.returns
returns c = λ i h. c.in_ok-note_all.ensures i None (c.in_ok-wanted.ensures i.0 ∙ h) (subst (IsNoted None) (sym (c.new-index.ensures i)) tt)
