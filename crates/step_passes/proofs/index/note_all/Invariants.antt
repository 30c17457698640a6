use Rattle.std.proofs.Common.{take}
use Rattle.step_passes.specs.Noting.{Notes}
use Rattle.step_passes.specs.Planned.{told_among}
use Rattle.step_passes.specs.Telling.{exchanging}
use Rattle.step_passes.proofs.index.note_all.Given as goal

abbrev pub invariant-loop-f : goal.invariant-loop-f
invariant-loop-f l = Notes l.wanted (λ i. told_among (exchanging l.step) i (take l.f-index l.m.funcs)) l.fn.index l.index
