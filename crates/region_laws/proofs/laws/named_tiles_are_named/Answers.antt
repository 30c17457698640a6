use Rattle.region_laws.proofs.Named.{matmul_means, batch_matmul_means, fill_means, transpose_means, broadcast_means}
use Rattle.region_laws.proofs.laws.named_tiles_are_named.Goals as goal

pub returns-clause-matmul : goal.returns-clause-matmul
returns-clause-matmul c = matmul_means

pub returns-clause-batch_matmul : goal.returns-clause-batch_matmul
returns-clause-batch_matmul c = batch_matmul_means

pub returns-clause-fill : goal.returns-clause-fill
returns-clause-fill c = fill_means

pub returns-clause-transpose : goal.returns-clause-transpose
returns-clause-transpose c = transpose_means

pub returns-clause-broadcast : goal.returns-clause-broadcast
returns-clause-broadcast c = broadcast_means
