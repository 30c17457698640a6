use Rattle.std.proofs.Common.{◌∙◌, sym, drop, ◌+◌}
use Rattle.form_resolve.proofs.Steps.{goes_out, goes_silent, goes_value, goes_none, fails_short, part_fails, drop_index, drop_out}
use Rattle.form_resolve.proofs.resolve.resolve_next.Goals as goal

pub returns-then-left_out-gt0 : goal.returns-then-left_out-gt0
returns-then-left_out-gt0 c = goes_out c.args.aliases.now c.args.names.now c.args.want.now c.args.left_out c.if-left_out-gt0.true c.args.values.now c.args.seen.now (drop c.args.taken c.args.parts.now)

pub returns-in-Some : goal.returns-in-Some
returns-in-Some c = goes_silent c.args.aliases.now c.args.names.now c.args.want.now c.args.left_out c.in-Some.skipped c.if-left_out-gt0.false (sym c.silent.ensures ∙ c.in-Some.is) c.args.values.now c.args.seen.now (drop c.args.taken c.args.parts.now)

pub returns-then-taken-parts : goal.returns-then-taken-parts
returns-then-taken-parts c =
    fails_short c.args.aliases.now c.args.names.now c.args.want.now c.args.left_out c.if-left_out-gt0.false (sym c.silent.ensures ∙ c.in_default.is) c.args.seen.now (drop c.args.taken c.args.parts.now) (drop_out c.args.parts.now c.args.taken c.if-taken-parts.true)

pub returns-in_ok-push-in-Some-value : goal.returns-in_ok-push-in-Some-value
returns-in_ok-push-in-Some-value c =
    goes_value c.args.aliases.now c.args.names.now c.args.want.now c.args.left_out c.in-Ok.skipped c.if-left_out-gt0.false (sym c.silent.ensures ∙ c.in_default.is) c.args.seen.now c.take_part.new.seen _ (drop (c.args.taken + 1) c.args.parts.now) (drop c.args.taken c.args.parts.now)
    (drop_index c.args.parts.now c.args.taken c.index-parts-taken.result c.if-taken-parts.false c.index-parts-taken.is) c.in-Ok.value c.in-Some-value.value c.in-Some-value.is c.in-Ok.ensures c.args.values.now c.push.new.self c.in_ok-push-in-Some-value.ensures.ok

pub returns-in-None : goal.returns-in-None
returns-in-None c =
    goes_none c.args.aliases.now c.args.names.now c.args.want.now c.args.left_out c.in-Ok.skipped c.if-left_out-gt0.false (sym c.silent.ensures ∙ c.in_default.is) c.args.seen.now c.take_part.new.seen _ (drop (c.args.taken + 1) c.args.parts.now) (drop c.args.taken c.args.parts.now)
    (drop_index c.args.parts.now c.args.taken c.index-parts-taken.result c.if-taken-parts.false c.index-parts-taken.is) c.in-Ok.value c.in-None.is c.in-Ok.ensures c.args.values.now

pub returns-in-Err : goal.returns-in-Err
returns-in-Err c =
    part_fails c.args.aliases.now c.args.names.now c.args.want.now c.args.left_out c.if-left_out-gt0.false (sym c.silent.ensures ∙ c.in_default.is) c.args.seen.now c.take_part.new.seen c.args.values.now _ (drop (c.args.taken + 1) c.args.parts.now) c.args.parts.now c.args.taken
    (drop_index c.args.parts.now c.args.taken c.index-parts-taken.result c.if-taken-parts.false c.index-parts-taken.is) c.in-Err.refused c.in-Err.ensures
