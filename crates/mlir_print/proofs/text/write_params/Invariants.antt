use Rattle.std.proofs.Common.{◌≡◌, ◌++◌, [], drop}
use Rattle.mlir_print.specs.Canonical.{after_params}
use Rattle.mlir_print.specs.Parts.{params_text}
use Rattle.mlir_print.proofs.text.write_params.Given as goal

abbrev pub invariant-loop-param : goal.invariant-loop-param
invariant-loop-param l = record {
  written : l.out.items ++ params_text l.before l.names (drop l.param-index l.params) ≡ l.fn.out.items ++ params_text [] l.fn.names l.params;
  named : after_params l.names (drop l.param-index l.params) ≡ after_params l.fn.names l.params;
}
