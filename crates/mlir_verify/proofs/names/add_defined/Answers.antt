use Rattle.std.proofs.Common.{ℕ, Bool, true, List, ◌++◌, ap, sym, ◌∙◌, subst, Ok}
use Rattle.mlir_verify.specs.Names.{arguments, numbers, redefines}
use Rattle.mlir_verify.specs.Scope.{Adds}
use Rattle.mlir_verify.proofs.Adding.{adds_then, front_repeats}
use Rattle.mlir_verify.proofs.names.add_defined.Goals as goal

pub returns-in-Ok-true : goal.returns-in-Ok-true
returns-in-Ok-true c = λ known h.
    let front : List ℕ = numbers c.args.op.now.results in
    let a0 = subst (λ (b : Bool). Adds (Ok b) c.add_definitions.new.set (numbers c.as_slice.result.now) known) c.in-Ok-true.field-0-test (c.in-Ok-true.ensures known h) in
    let a = subst (λ (x : List ℕ). Adds (Ok true) c.add_definitions.new.set x known) (ap numbers c.as_slice.ensures) a0 in
    adds_then c.add_arguments.result c.add_definitions.new.set c.add_arguments.new.set front (arguments c.args.op.now.kind) known a (c.add_arguments.ensures (known ++ front) a.1)

pub returns-in-Ok-false : goal.returns-in-Ok-false
returns-in-Ok-false c = λ known h.
    let a0 = subst (λ (b : Bool). Adds (Ok b) c.add_definitions.new.set (numbers c.as_slice.result.now) known) c.in-Ok-false.field-0-test (c.in-Ok-false.ensures known h) in
    front_repeats (numbers c.args.op.now.results) (arguments c.args.op.now.kind) known (ap (λ x. redefines (numbers x) known) (sym c.as_slice.ensures) ∙ a0)
