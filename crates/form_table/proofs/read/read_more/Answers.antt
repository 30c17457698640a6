use Rattle.std.proofs.Common.{◌∙◌, sym, ap, arith}
use Rattle.text_format.specs.declared.class.Class.TheVariants.{Exactly}
use Rattle.text_format.specs.declared.lexeme.Lexeme.TheVariants.{Comma}
use Rattle.text_format.specs.Formats.{weight, many_at}
use Rattle.text_format.specs.Many.{lighter}
use Rattle.text_format.proofs.Loops.{goes_on, is_done}
use Rattle.form_table.specs.Entries.{next, next-exact}
use Rattle.form_table.specs.PartLaws.{next_begins}
use Rattle.form_table.proofs.read.read_more.Goals as goal

pub loop-alloc-smaller : goal.loop-alloc-smaller
loop-alloc-smaller c =
    let h = lighter (next c.args.element) (next-exact c.args.element).reads (Exactly Comma) (next_begins c.args.element) c.loop-alloc.parser (sym c.sees.ensures ∙ c.loop-alloc-test.true) in
    let m = ap (λ x. weight x.1) c.in_ok-entry.ensures in
    omega (arith, h, m)

pub loop-alloc-preserved : goal.loop-alloc-preserved
loop-alloc-preserved c =
    let e = c.args.element in
    rw c.in_ok-push.ensures.ok (goes_on (next c.args.element) (next-exact c.args.element).reads (Exactly Comma) (next_begins c.args.element) c.loop-alloc.entries c.loop-alloc.parser c.read_next.new.parser c.in_ok-entry.entry
    (many_at (Exactly Comma) (next c.args.element) c.args.parser.now) (sym c.sees.ensures ∙ c.loop-alloc-test.true) c.in_ok-entry.ensures c.loop-alloc.invariant)

pub returns : goal.returns
returns c = is_done (next c.args.element) (Exactly Comma) c.loop-alloc.entries c.loop-alloc.parser (many_at (Exactly Comma) (next c.args.element) c.args.parser.now) (sym c.sees.ensures ∙ c.loop-alloc-test.false) c.loop-alloc.invariant
