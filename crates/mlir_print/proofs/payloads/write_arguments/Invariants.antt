use Rattle.std.proofs.Common.{◌≡◌, ◌++◌, [], drop}
use Rattle.mlir_print.specs.PayloadParts.{arguments_text}
use Rattle.mlir_print.proofs.payloads.write_arguments.Given as goal

abbrev pub invariant-loop-term : goal.invariant-loop-term
invariant-loop-term l =
    l.out.items ++ arguments_text l.inside.args l.inside.results l.inside.payload.now l.before (drop l.term-index l.terms) ≡ l.fn.out.items ++ arguments_text l.inside.args l.inside.results l.inside.payload.now [] l.terms
