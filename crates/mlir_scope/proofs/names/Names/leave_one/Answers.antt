use Rattle.std.proofs.Common.{[], List, ap, ◌∙◌, subst}
use Rattle.std.proofs.lemmas.Map.Text.{hash_map_updates_str}
use Rattle.mlir_scope.specs.Names.{entry, spot, FreshFrom, Entry}
use Rattle.mlir_scope.proofs.Spots.{left}
use Rattle.mlir_scope.proofs.names.Names.leave_one.Goals as goal

pub invariant_of-self : goal.invariant_of-self
invariant_of-self c =
    let i = c.self.invariant in
    let p = c.in-Some.ensures in
    left c.pop_name.new.entries.items (entry c.in-Some.name.now p.0) _ _
    (hash_map_updates_str c.in-Some.name.now c.self.inside.index c.remove.new.self _ c.remove.ensures.updates)
    (λ q. i.0 q ∙ ap (λ (xs : List Entry). spot 0 xs q) p.1)
    (subst (λ (xs : List Entry). FreshFrom [] xs) p.1 i.1)
