use Rattle.std.proofs.Common.{◌≡◌, ◌++◌, drop}
use Rattle.mlir_print.specs.Parts.{body_text}
use Rattle.mlir_print.proofs.text.write_body.Given as goal

abbrev pub invariant-loop-op : goal.invariant-loop-op
invariant-loop-op l = l.out.items ++ body_text l.aliases l.names (drop l.op-index l.body) ≡ l.fn.out.items ++ body_text l.aliases l.fn.names l.body
