use Rattle.payload_forms.proofs.Splices.{spliced_by_parts}
use Rattle.payload_forms.proofs.splicing.spliced_at.Goals as goal

pub returns : goal.returns
returns g c =
    spliced_by_parts c.args.at c.args.others.now c.args.items.now c.new-all.result c.push_all.new.all c.push_all-2.new.all c.push_all-3.new.all c.requires
    c.new-all.ensures c.in_ok-push_all.ensures c.in_ok-push_all-2.ensures c.in_ok-push_all-3.ensures
