use Rattle.std.proofs.Common.{◌≡◌, drop}
use Rattle.mlir_lex.proofs.Loops.{onto_with}
use Rattle.form_resolve.specs.Entries.{more_uses}
use Rattle.form_resolve.proofs.uses.use_more.Given as goal

abbrev pub invariant-loop-next : goal.invariant-loop-next
invariant-loop-next l = onto_with l.found (more_uses l.names l.used (drop l.next-index l.more)) ≡ more_uses l.names l.fn.used l.more
