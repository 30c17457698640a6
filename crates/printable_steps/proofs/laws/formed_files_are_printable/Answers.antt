use Rattle.printable_steps.proofs.Steps.{generalized_printable, interchanged_printable}
use Rattle.printable_steps.proofs.laws.formed_files_are_printable.Goals as goal

pub returns-clause-generalized : goal.returns-clause-generalized
returns-clause-generalized c = generalized_printable

pub returns-clause-interchanged : goal.returns-clause-interchanged
returns-clause-interchanged c = interchanged_printable
