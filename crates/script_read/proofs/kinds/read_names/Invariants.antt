use Rattle.std.proofs.Common.{◌≡◌, drop}
use Rattle.mlir_lex.specs.Chain.{each}
use Rattle.mlir_lex.proofs.Loops.{onto}
use Rattle.script_read.specs.Kinds.{name_of}
use Rattle.script_read.proofs.kinds.read_names.Given as goal

abbrev pub invariant-loop-quoted : goal.invariant-loop-quoted
invariant-loop-quoted l = onto l.found (each name_of (drop l.quoted-index l.list)) ≡ each name_of l.list
