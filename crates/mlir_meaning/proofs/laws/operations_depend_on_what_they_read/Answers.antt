use Rattle.mlir_meaning.proofs.Frame.{frame, frame_unused}
use Rattle.mlir_meaning.proofs.Keeps.{keeps_others}
use Rattle.mlir_meaning.proofs.laws.operations_depend_on_what_they_read.Goals as goal

pub returns-clause-alike : goal.returns-clause-alike
returns-clause-alike c = frame

pub returns-clause-unused : goal.returns-clause-unused
returns-clause-unused c = frame_unused

pub returns-clause-kept : goal.returns-clause-kept
returns-clause-kept c = keeps_others
