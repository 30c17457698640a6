use Rattle.std.proofs.Common.{◌≡◌, ◌++◌, ◌+◌, [], drop}
use Rattle.mlir_print.specs.PayloadParts.{block_args_text}
use Rattle.mlir_print.proofs.payloads.write_block_args.Given as goal

abbrev pub invariant-loop-elem : goal.invariant-loop-elem
invariant-loop-elem l = record {
  same : l.number ≡ l.first + l.elem-index;
  written : l.out.items ++ block_args_text l.before l.number (drop l.elem-index l.inputs) l.output ≡ l.fn.out.items ++ block_args_text [] l.first l.inputs l.output;
}
