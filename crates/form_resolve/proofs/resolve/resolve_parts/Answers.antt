use Rattle.std.proofs.Common.{◌∙◌, sym, drop, ◌+◌}
use Rattle.std.proofs.lemmas.List.{at_drop_all}
use Rattle.form_resolve.specs.Resolving.{behind_values, resolved}
use Rattle.form_resolve.proofs.Steps.{fails_all, all_done, not_done, drop_here, drop_out, some_left}
use Rattle.form_resolve.proofs.resolve.resolve_parts.Goals as goal

pub returns-in-Err : goal.returns-in-Err
returns-in-Err c =
    fails_all c.args.aliases.now c.args.names.now _ (drop (c.loop-want.want-index + 1) c.args.wants.now) (drop c.loop-want.want-index c.args.wants.now) c.loop-want.left_out c.loop-want.seen c.loop-want.values c.resolve_next.new.values c.args.parts.now c.loop-want.taken c.resolve_next.new.seen c.in-Err.refused _
    c.in-Err.ensures (drop_here c.args.wants.now c.loop-want.want-index _ c.loop-want-test.true) c.loop-want.invariant

pub returns-then-taken-parts : goal.returns-then-taken-parts
returns-then-taken-parts c =
    let p = c.loop-want in
    all_done c.args.aliases.now c.args.names.now p.left_out p.seen p.values (drop p.taken c.args.parts.now) _ (drop_out c.args.parts.now c.loop-want.taken c.if-taken-parts.true)
    (sym (at_drop_all (λ ws. behind_values c.loop-want.values (resolved c.args.aliases.now c.args.names.now ws c.loop-want.left_out c.loop-want.seen (drop c.loop-want.taken c.args.parts.now))) c.args.wants.now c.loop-want.want-index c.loop-want-test.false) ∙ c.loop-want.invariant)

pub returns-else-taken-parts : goal.returns-else-taken-parts
returns-else-taken-parts c =
    let p = c.loop-want in
    let r = some_left c.args.parts.now c.loop-want.taken c.if-taken-parts.false in
    not_done c.args.aliases.now c.args.names.now p.left_out p.seen p.values (drop p.taken c.args.parts.now) r.1 r.0 _ r.2
    (sym (at_drop_all (λ ws. behind_values c.loop-want.values (resolved c.args.aliases.now c.args.names.now ws c.loop-want.left_out c.loop-want.seen (drop c.loop-want.taken c.args.parts.now))) c.args.wants.now c.loop-want.want-index c.loop-want-test.false) ∙ c.loop-want.invariant)
