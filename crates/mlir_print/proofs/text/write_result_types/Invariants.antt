use Rattle.std.proofs.Common.{◌≡◌, ◌++◌, [], drop}
use Rattle.mlir_print.specs.Parts.{result_types_text}
use Rattle.mlir_print.proofs.text.write_result_types.Given as goal

abbrev pub invariant-loop-ty : goal.invariant-loop-ty
invariant-loop-ty l = l.out.items ++ result_types_text l.before (drop l.ty-index l.types) ≡ l.fn.out.items ++ result_types_text [] l.types
