use Rattle.std.proofs.Common.{◌≡◌, ℤ, Bool, drop}
use Rattle.std.specs.List.{list_all}
use Rattle.payload_laws.specs.Combiners.{avoids}
use Rattle.payload_ops.specs.declared.step.Arg.{Arg}
use Rattle.payload_laws.proofs.combine.terms_avoid.Given as goal

abbrev pub invariant-loop-term : goal.invariant-loop-term
invariant-loop-term l =
    let avoid : Arg × ℤ → Bool = λ t. avoids l.place t.0 in
    list_all avoid l.terms ≡ list_all avoid (drop l.term-index l.terms)
