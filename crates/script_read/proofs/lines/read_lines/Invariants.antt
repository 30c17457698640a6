use Rattle.std.proofs.Common.{◌≡◌, drop}
use Rattle.mlir_lex.specs.Chain.{thread}
use Rattle.mlir_lex.proofs.Loops.{onto_with}
use Rattle.script_read.specs.Resolve.{line_of}
use Rattle.script_read.proofs.lines.read_lines.Given as goal

abbrev pub invariant-loop-line : goal.invariant-loop-line
invariant-loop-line l = onto_with l.found (thread (line_of l.until) l.scope (drop l.line-index l.lines)) ≡ thread (line_of l.until) l.fn.scope l.lines
