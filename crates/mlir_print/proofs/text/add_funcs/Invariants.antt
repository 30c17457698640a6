use Rattle.std.proofs.Common.{◌≡◌, drop}
use Rattle.mlir_print.specs.MapParts.{after_funcs_texts}
use Rattle.mlir_print.proofs.text.add_funcs.Given as goal

abbrev pub invariant-loop-func : goal.invariant-loop-func
invariant-loop-func l = after_funcs_texts l.aliases (drop l.func-index l.funcs) ≡ after_funcs_texts l.fn.aliases l.funcs
