use Rattle.std.proofs.Common.{◌∙◌, sym, ap, arith}
use Rattle.text_format.specs.Formats.{weight, many_at}
use Rattle.text_format.specs.Many.{lighter}
use Rattle.text_format.proofs.Loops.{goes_on, is_done}
use Rattle.text_format.proofs.node.many.Goals as goal

pub loop-alloc-smaller : goal.loop-alloc-smaller
loop-alloc-smaller g c =
    let h = lighter g.N.Tree.format g.N.Tree.exact.reads c.args.class c.requires c.loop-alloc.parser (sym c.sees.ensures ∙ c.loop-alloc-test.true) in
    let m = ap (λ x. weight x.1) c.in_ok-item.ensures in
    omega (arith, h, m)

pub loop-alloc-preserved : goal.loop-alloc-preserved
loop-alloc-preserved g c =
    let f = g.N.Tree.format in
    rw c.in_ok-push.ensures.ok (goes_on f g.N.Tree.exact.reads c.args.class c.requires c.loop-alloc.items c.loop-alloc.parser c.read.new.parser c.in_ok-item.item (many_at c.args.class f c.args.parser.now) (sym c.sees.ensures ∙ c.loop-alloc-test.true) c.in_ok-item.ensures c.loop-alloc.invariant)

pub returns : goal.returns
returns g c = is_done g.N.Tree.format c.args.class c.loop-alloc.items c.loop-alloc.parser (many_at c.args.class g.N.Tree.format c.args.parser.now) (sym c.sees.ensures ∙ c.loop-alloc-test.false) c.loop-alloc.invariant
