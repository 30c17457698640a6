use Rattle.std.proofs.Common.{◌∙◌, sym, drop, ◌++◌, ◌+◌}
use Rattle.std.proofs.lemmas.List.{at_drop_all}
use Rattle.form_table.specs.Texts.{bytes_at}
use Rattle.form_table.proofs.Bytes.{drop_here, lays_all, stuck_all}
use Rattle.form_table.proofs.write.write_parts.Goals as goal

pub returns-in-None : goal.returns-in-None
returns-in-None c =
    stuck_all _ (drop (c.loop-want.want-index + 1) c.args.wants.now) (drop c.loop-want.want-index c.args.wants.now) c.loop-want.left_out c.args.fields.now c.loop-want.taken c.loop-want.out.items c.write_next.new.out.items _ _
    c.in_ok-skipped.ensures c.in-None.is (drop_here c.args.wants.now c.loop-want.want-index _ c.loop-want-test.true) c.loop-want.invariant

pub returns : goal.returns
returns c =
    lays_all c.loop-want.left_out (drop c.loop-want.taken c.args.fields.now) c.loop-want.out.items _
    (sym (at_drop_all (λ ws. c.loop-want.out.items ++ bytes_at ws c.loop-want.left_out (drop c.loop-want.taken c.args.fields.now)) c.args.wants.now c.loop-want.want-index c.loop-want-test.false) ∙ c.loop-want.invariant)
