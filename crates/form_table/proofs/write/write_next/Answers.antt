use Rattle.std.proofs.Common.{subst, drop, Ok, Option, ℕ}
use Rattle.form_table.specs.Texts.{pointed, text_at, Puts}
use Rattle.form_table.proofs.Bytes.{lays_out, lays_want, lays_none}
use Rattle.form_table.proofs.write.write_next.Goals as goal

pub returns-then-left_out-gt0 : goal.returns-then-left_out-gt0
returns-then-left_out-gt0 c = lays_out c.args.want.now c.args.left_out c.if-left_out-gt0.true (drop c.args.taken c.args.fields.now) c.args.out.now.items

pub returns-in-Some-checked_add : goal.returns-in-Some-checked_add
returns-in-Some-checked_add c =
    let h = subst (λ (o : Option (ℕ × ℕ)). Puts c.args.out.now.items c.write_want.new.out.items (Ok o) (text_at c.args.want.now (pointed c.field_at.result))) c.in-Some.is c.in_ok-skipped.ensures in
    lays_want c.args.want.now c.args.left_out c.in-Some.skipped c.in-Some.used c.if-left_out-gt0.false c.args.fields.now c.args.taken c.in-Some-checked_add.next c.in-Some-checked_add.ensures.1 (pointed c.field_at.result)
    c.field_at.ensures c.args.out.now.items c.write_want.new.out.items h.0 h.1

pub returns-in-None : goal.returns-in-None
returns-in-None c =
    let h = subst (λ (o : Option (ℕ × ℕ)). Puts c.args.out.now.items c.write_want.new.out.items (Ok o) (text_at c.args.want.now (pointed c.field_at.result))) c.in-None.is c.in_ok-skipped.ensures in
    lays_none c.args.want.now c.args.left_out c.if-left_out-gt0.false c.args.fields.now c.args.taken (pointed c.field_at.result) c.field_at.ensures c.args.out.now.items c.write_want.new.out.items h.0 h.1
