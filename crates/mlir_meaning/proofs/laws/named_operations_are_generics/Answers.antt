use Rattle.mlir_meaning.proofs.Named.{fill_is, matmul_is, batch_matmul_is, transpose_is, broadcast_is}
use Rattle.mlir_meaning.proofs.laws.named_operations_are_generics.Goals as goal

pub returns-clause-fill : goal.returns-clause-fill
returns-clause-fill c = fill_is

pub returns-clause-matmul : goal.returns-clause-matmul
returns-clause-matmul c = matmul_is

pub returns-clause-batch_matmul : goal.returns-clause-batch_matmul
returns-clause-batch_matmul c = batch_matmul_is

pub returns-clause-transpose : goal.returns-clause-transpose
returns-clause-transpose c = transpose_is

pub returns-clause-broadcast : goal.returns-clause-broadcast
returns-clause-broadcast c = broadcast_is
