use Rattle.std.proofs.Common.{◌≡◌, ◌∙◌, sym, ap, refl, arith, true}
use Rattle.text_format.specs.declared.lexeme.Lexeme.TheVariants.{Comma}
use Rattle.text_format.specs.declared.class.Class.TheVariants.{Exactly}
use Rattle.text_format.specs.Formats.{sees, weight, leaf_at, ◌▸◌}
use Rattle.text_format.specs.Exact.{◌▹◌}
use Rattle.text_format.specs.Many.{lighter}
use Rattle.text_format.proofs.Loops.{list_at, goes_on, is_done, closed_open}
use Rattle.text_format.proofs.node.list_with_close.Goals as goal

pub loop-alloc-smaller : goal.loop-alloc-smaller
loop-alloc-smaller g c =
    let f = g.N.Tree.format in
    let e : sees (Exactly Comma) c.loop-alloc.parser ≡ true = sym c.sees-in-loop-alloc.ensures ∙ c.loop-alloc-test.true in
    let h = lighter (Comma ▸ f) (Comma ▹ g.N.Tree.exact).reads (Exactly Comma) (λ x. refl) c.loop-alloc.parser e in
    let m = ap (λ x. weight x.1) (c.in_ok-item.ensures ∙ ap f.read c.fixed.ensures) in
    omega (arith, h, m)

pub loop-alloc-preserved : goal.loop-alloc-preserved
loop-alloc-preserved g c =
    let f = g.N.Tree.format in
    let e : sees (Exactly Comma) c.loop-alloc.parser ≡ true = sym c.sees-in-loop-alloc.ensures ∙ c.loop-alloc-test.true in
    rw c.in_ok-push-2.ensures.ok (goes_on (Comma ▸ f) (Comma ▹ g.N.Tree.exact).reads (Exactly Comma) (λ x. refl) c.loop-alloc.items c.loop-alloc.parser c.read-in-loop-alloc.new.parser c.in_ok-item.item (list_at f c.args.parser.now)
    e (c.in_ok-item.ensures ∙ ap f.read c.fixed.ensures) c.loop-alloc.invariant)

pub returns : goal.returns
returns g c =
    let f = g.N.Tree.format in
    let d = is_done (Comma ▸ f) (Exactly Comma) c.loop-alloc.items c.loop-alloc.parser (list_at f c.args.parser.now) (sym c.sees-in-loop-alloc.ensures ∙ c.loop-alloc-test.false) c.loop-alloc.invariant in
    ap (λ y. ((c.loop-alloc.items, y.0), y.1)) c.leaf-token-2.ensures ∙ ap (λ y. ((y.0, (leaf_at (Exactly c.args.close) y.1).0), (leaf_at (Exactly c.args.close) y.1).1)) d ∙ sym (closed_open f c.args.close c.args.parser.now (sym c.sees.ensures ∙ c.if-sees.false))
