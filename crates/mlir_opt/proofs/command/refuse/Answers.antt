use Rattle.mlir_opt.proofs.Told.{told_unformed}
use Rattle.mlir_opt.proofs.command.refuse.Goals as goal

pub returns-in_default-clause-told : goal.returns-in_default-clause-told
returns-in_default-clause-told g c = told_unformed _ _ _ _ _ c.write_whole.result c.write_whole.ensures.bytes
