use Rattle.std.proofs.Common.{ℤ, map, take}
use Rattle.payload_ops.specs.declared.step.Arg.{Arg}
use Rattle.payload_forms.specs.Uses.{Notes}
use Rattle.payload_forms.proofs.placing.Uses.note_terms.Given as goal

abbrev pub invariant-loop-term : goal.invariant-loop-term
invariant-loop-term l = Notes l.fn.self (map (λ (t : Arg × ℤ). t.0) (take l.term-index l.terms)) l.self
