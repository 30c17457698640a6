use Rattle.mlir_read.proofs.Whole.{found_in, gives, tells}
use Rattle.mlir_read.proofs.read.read_file.Goals as goal

pub returns-clause-found : goal.returns-clause-found
returns-clause-found c = found_in c.args.text.now c.read_text.result c.read_text.ensures

pub returns-clause-only : goal.returns-clause-only
returns-clause-only c = λ m st. gives c.args.text.now m c.read_text.result c.read_text.ensures st

pub returns-clause-fault : goal.returns-clause-fault
returns-clause-fault c = tells c.args.text.now c.read_text.result c.read_text.ensures
