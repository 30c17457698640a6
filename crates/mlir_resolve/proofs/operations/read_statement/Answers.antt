use Rattle.mlir_resolve.specs.Operations.{room, name_in}
use Rattle.mlir_scope.proofs.Keeps.{then_ok}
use Rattle.mlir_resolve.proofs.Results.{kind_fits}
use Rattle.mlir_resolve.proofs.operations.read_statement.Goals as goal

pub define_result-requires-clause-held : goal.define_result-requires-clause-held
define_result-requires-clause-held c =
    let s = c.args.scope.now in
    let o = c.args.statement.now.operation in
    let a = then_ok (room c.args.scope.now.ops (name_in c.args.statement.now.operation)) _ (c.in_ok-ty.ty, c.in_ok-ty.kind) c.in_ok-ty.ensures.value in
    kind_fits c.args.aliases.now c.args.scope.now.env c.args.scope.now.values c.args.statement.now.operation (c.in_ok-ty.ty, c.in_ok-ty.kind) a.2
