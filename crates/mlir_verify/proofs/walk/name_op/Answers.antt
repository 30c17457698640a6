use Rattle.std.proofs.Common.{Bool, true, false, [], ◌∷◌, sym, ◌∙◌, subst, Ok}
use Rattle.mlir_verify.specs.Scope.{Adds, types_in}
use Rattle.mlir_verify.proofs.Checking.{one_repeats, op_named, op_named_twice}
use Rattle.mlir_verify.proofs.walk.name_op.Goals as goal

pub returns-in-Ok-false : goal.returns-in-Ok-false
returns-in-Ok-false c = λ values ops hv ho.
    let n = c.args.op.now.id.0 in
    let a = subst (λ (b : Bool). Adds (Ok b) c.add.new.set (n ∷ []) ops) c.in-Ok-false.field-0-test (c.in-Ok-false.ensures ops ho) in
    op_named_twice (types_in c.args.scope.now) c.args.op.now values ops (one_repeats n ops true a)

pub returns : goal.returns
returns c = λ values ops hv ho.
    let n = c.args.op.now.id.0 in
    let a = subst (λ (b : Bool). Adds (Ok b) c.add.new.set (n ∷ []) ops) c.in-Ok-true.field-0-test (c.in-Ok-true.ensures ops ho) in
    op_named c.add_defined.result (record { values = c.add_defined.new.set; ops = c.add.new.set }) (types_in c.args.scope.now) c.args.op.now values ops
    (one_repeats n ops false a.0) (sym c.operands_in_scope.ensures ∙ c.if-not-operands_in_scope.false) a.1 (c.add_defined.ensures values hv)
