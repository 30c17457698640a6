use Rattle.std.proofs.Common.{List, ap, ◌∙◌}
use Rattle.payload_ops.specs.declared.kinds.BinOp.{BinOp}
use Rattle.mlir_scope.specs.Words.{first_named, binary_text, named_binary}
use Rattle.mlir_scope.proofs.words.binary_named.Goals as goal

pub returns : goal.returns
unfolding named_binary
returns c = c.binary_among.ensures ∙ ap (λ (ops : List BinOp). first_named binary_text c.args.text.now ops) c.as_slice.ensures
