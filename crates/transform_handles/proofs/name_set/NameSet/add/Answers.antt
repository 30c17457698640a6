use Rattle.std.proofs.Common.{ap, ◌∙◌}
use Rattle.std.specs.Prelude.{is_some}
use Rattle.std.proofs.lemmas.Map.Text.{hash_map_updates_str}
use Rattle.transform_handles.proofs.Sets.{named_after}
use Rattle.transform_handles.proofs.name_set.NameSet.add.Goals as goal

pub returns-in-Ok : goal.returns-in-Ok
returns-in-Ok c = λ ns h n.
    ap is_some (hash_map_updates_str c.args.name.now c.args.self.now.names c.insert.new.self _ c.in-Ok.ensures.updates n) ∙ named_after _ ns c.args.name.now n (h n)
