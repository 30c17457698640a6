use Rattle.std.proofs.Common.{◌≡◌, ◌++◌, drop}
use Rattle.mlir_print.specs.Parts.{functions_text}
use Rattle.mlir_print.proofs.text.write_functions.Given as goal

abbrev pub invariant-loop-func : goal.invariant-loop-func
invariant-loop-func l = l.out.items ++ functions_text l.aliases (drop l.func-index l.funcs) ≡ l.fn.out.items ++ functions_text l.aliases l.funcs
