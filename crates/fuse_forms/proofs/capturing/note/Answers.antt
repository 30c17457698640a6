use Rattle.std.proofs.Common.{sym, ◌∙◌}
use Rattle.std.proofs.lemmas.Result.{on_ok_weaker}
use Rattle.fuse_forms.proofs.Values.{value_there, value_new}
use Rattle.fuse_forms.proofs.capturing.note.Goals as goal

pub returns-then-has : goal.returns-then-has
returns-then-has c = value_there c.args.order.now c.args.v (sym c.has.ensures ∙ c.if-has.true)

pub returns-else-has : goal.returns-else-has
returns-else-has c =
    on_ok_weaker c.add.result (λ e. value_new c.args.order.now c.add.new.self c.args.v (sym c.has.ensures ∙ c.if-has.false) e) c.add.ensures.ok
