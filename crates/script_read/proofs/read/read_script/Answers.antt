use Rattle.script_read.proofs.Fronts.{found_in, gives, tells}
use Rattle.script_read.proofs.read.read_script.Goals as goal

pub returns-clause-found : goal.returns-clause-found
returns-clause-found c = found_in c.args.t.now.text c.args.t.now.list c.args.first c.read_front.result c.read_front.ensures

pub returns-clause-only : goal.returns-clause-only
returns-clause-only c = λ s next st. gives c.args.t.now.text c.args.t.now.list c.args.first s next c.read_front.result c.read_front.ensures st

pub returns-clause-fault : goal.returns-clause-fault
returns-clause-fault c = tells c.args.t.now.text c.args.t.now.list c.args.first c.read_front.result c.read_front.ensures
