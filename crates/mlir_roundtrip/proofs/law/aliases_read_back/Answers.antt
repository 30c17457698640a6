use Rattle.std.proofs.Common.{[]}
use Rattle.mlir_roundtrip.proofs.Aliases.{one_map, funcs_have, line_found, use_found}
use Rattle.mlir_roundtrip.proofs.law.aliases_read_back.Goals as goal

pub returns-clause-distinct : goal.returns-clause-distinct
returns-clause-distinct c = one_map

pub returns-clause-aliased : goal.returns-clause-aliased
returns-clause-aliased c = funcs_have []

pub returns-clause-defined : goal.returns-clause-defined
returns-clause-defined c = λ s n m at new p. line_found s n m new p at

pub returns-clause-used : goal.returns-clause-used
returns-clause-used c = λ al m at h a p. use_found al m h a p at
