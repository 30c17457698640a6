use Rattle.fuse_forms.proofs.Values.{once_of_both}
use Rattle.fuse_forms.proofs.capturing.once.Goals as goal

pub returns : goal.returns
returns c =
    once_of_both c.args.producer.now c.args.consumer.now c.new-order.result c.note_all.new.order c.note_all-2.new.order c.new-order.ensures
    c.in_ok-note_all.ensures c.in_ok-note_all-2.ensures
