use Rattle.std.proofs.Common.{length, subst, ap}
use Rattle.mlir_lex.specs.Chain.{Fails}
use Rattle.mlir_resolve.specs.Generics.{typed_inputs, typed_output}
use Rattle.mlir_lex.proofs.Loops.{fails_first, fails_then}
use Rattle.mlir_resolve.proofs.generics.read_operands.Goals as goal

pub returns-in-Err-clause-value : goal.returns-in-Err-clause-value
returns-in-Err-clause-value c =
    fails_then c.in-Err.refused (typed_inputs c.args.names.now c.args.operands.now.inputs) _ _ c.in_ok-ins.ensures
    (fails_first c.in-Err.refused _ _ (subst (λ n. Fails c.in-Err.refused (typed_output c.args.names.now n c.args.operands.now.output)) (ap length c.as_slice.ensures) c.in-Err.ensures.exact))
