use Rattle.payload_ops.proofs.Ready.{arg-in_type, input-lt, step-lt}
use Rattle.payload_ops.specs.Evaluation.{given_of}
use Rattle.payload_ops.proofs.evaluation.Arguments.value_of.Goals as goal

pub bounds-self-k : goal.bounds-self-k
bounds-self-k c = input-lt c.args.self.now.payload.now (given_of c.args.self.now) c.args.done.now c.requires.ready c.in-Input.k (rw c.in-Input.is at c.requires.named)

pub bounds-done-k : goal.bounds-done-k
bounds-done-k c = step-lt c.args.self.now.payload.now (given_of c.args.self.now) c.args.done.now c.requires.ready c.in-Step.k (rw c.in-Step.is at c.requires.named)

pub returns-in-Input-clause-in_type : goal.returns-in-Input-clause-in_type
returns-in-Input-clause-in_type c =
    let small = arg-in_type c.args.self.now.payload.now (given_of c.args.self.now) c.args.done.now c.requires.ready c.args.arg c.requires.named in
    rw c.in-Input.is (rw c.in-Input.is at small)

pub returns-in-Step-clause-in_type : goal.returns-in-Step-clause-in_type
returns-in-Step-clause-in_type c =
    let small = arg-in_type c.args.self.now.payload.now (given_of c.args.self.now) c.args.done.now c.requires.ready c.args.arg c.requires.named in
    rw c.in-Step.is (rw c.in-Step.is at small)
