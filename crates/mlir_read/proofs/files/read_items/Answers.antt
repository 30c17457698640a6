use Rattle.std.proofs.Common.{◌≡◌, ◌∙◌, ap, rules, get_or}
use Rattle.mlir_lex.specs.Chain.{behind_these}
use Rattle.mlir_read.specs.Resolve.{item_of}
use Rattle.mlir_read.proofs.Items.{item_step}
use Rattle.mlir_read.proofs.files.read_items.Goals as goal

pub loop-item-preserved : goal.loop-item-preserved
loop-item-preserved c =
    let e : get_or c.args.items.now c.loop-item.item-index c.item-item.result ≡ c.item-item.result = search rules in
    record {
      found = item_step c.loop-item.scope c.read_item.new.scope c.loop-item.found c.read_item.new.found c.args.items.now c.loop-item.item-index c.item-item.result _ c.loop-item-test.true
          (ap (λ x. behind_these c.loop-item.found (item_of c.loop-item.scope x)) e ∙ c.in_ok-read_item.ensures.value) c.loop-item.invariant.found;
      sound = c.in_ok-read_item.ensures.sound;
    }
