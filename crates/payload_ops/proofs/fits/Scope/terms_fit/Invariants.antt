use Rattle.std.proofs.Common.{◌≡◌, drop}
use Rattle.std.specs.List.{list_all}
use Rattle.payload_ops.specs.Payload.{arg_type, term_fits}
use Rattle.payload_ops.proofs.fits.Scope.terms_fit.Given as goal

abbrev pub invariant-loop-term : goal.invariant-loop-term
invariant-loop-term l =
    let fits = term_fits (arg_type l.self.ins.now l.self.out.now l.self.earlier.now) in
    list_all fits l.terms ≡ list_all fits (drop l.term-index l.terms)
