use Rattle.std.proofs.Common.{◌≡◌, ◌++◌, ℤ, drop, map}
use Rattle.payload_ops.specs.declared.step.Arg.{Arg}
use Rattle.payload_forms.specs.Names.{renamed}
use Rattle.payload_forms.proofs.renaming.Renaming.terms.Given as goal

abbrev pub invariant-loop-term : goal.invariant-loop-term
invariant-loop-term l =
    let moved = map (λ (t : Arg × ℤ). (renamed l.self.inputs l.self.steps.now t.0, t.1)) in
    l.all ++ moved (drop l.term-index l.terms) ≡ moved l.terms
