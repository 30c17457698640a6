use Rattle.printable_steps.proofs.Renumbered.{renumbered_verifies}
use Rattle.printable_steps.proofs.Steps.{read_printable}
use Rattle.printable_steps.proofs.laws.texts_keep_files.Goals as goal

pub returns-clause-read : goal.returns-clause-read
returns-clause-read c = read_printable

pub returns-clause-written : goal.returns-clause-written
returns-clause-written c = renumbered_verifies
