use Rattle.std.proofs.Common.{sym, ◌∙◌, refl}
use Rattle.mlir_verify.proofs.Checking.{op_breaks_names, op_broken, op_stands}
use Rattle.mlir_verify.proofs.walk.check_op.Goals as goal

pub returns-in-Ok-false : goal.returns-in-Ok-false
returns-in-Ok-false c = λ before earlier later s e g.
    (op_breaks_names c.args.seen.now c.name_op.new.seen c.args.scope.now before c.args.func.now earlier c.args.op.now later c.in-Ok-false.field-0 s c.in-Ok-false.field-0-test (λ v p x y. c.in-Ok-false.ensures v p x y), refl)

pub returns-in-Ok-Some : goal.returns-in-Ok-Some
returns-in-Ok-Some c = λ before earlier later s e g. (
  op_broken c.args.seen.now c.name_op.new.seen c.args.scope.now before c.args.func.now earlier c.args.op.now later c.in-Ok-true.field-0 c.args.first c.args.last s c.in-Ok-true.field-0-test (λ v p x y. c.in-Ok-true.ensures v p x y) e g
      ∙ sym c.in-Ok-Some.ensures ∙ c.in-Ok-Some.field-0-is,
  refl,
)

pub returns-in-Ok : goal.returns-in-Ok
returns-in-Ok c = λ before earlier later s e g. (
  op_broken c.args.seen.now c.name_op.new.seen c.args.scope.now before c.args.func.now earlier c.args.op.now later c.in-Ok-true.field-0 c.args.first c.args.last s c.in-Ok-true.field-0-test (λ v p x y. c.in-Ok-true.ensures v p x y) e g
      ∙ sym c.in-Ok-None.ensures ∙ c.in-Ok-None.field-0-is,
  op_stands c.args.seen.now c.name_op.new.seen c.args.scope.now c.define.new.scope before c.args.func.now earlier c.args.op.now c.in-Ok-true.field-0 s c.in-Ok-true.field-0-test (λ v p x y. c.in-Ok-true.ensures v p x y)
      c.in-Ok.ensures.types c.in-Ok.ensures.constants,
)
