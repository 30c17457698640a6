use Rattle.std.proofs.Common.{◌≡◌, [], None, length, List, sym, ap, ◌∙◌, arith, subst}
use Rattle.mlir_scope.specs.Names.{find, entry, spot, FreshFrom, Entry}
use Rattle.mlir_scope.proofs.Spots.{defined, undone, fresh_last}
use Rattle.std.proofs.lemmas.Map.Text.{hash_map_updates_str}
use Rattle.mlir_scope.proofs.names.Names.define.Goals as goal

pub invariant_of-self-in-Ok-push : goal.invariant_of-self-in-Ok-push
invariant_of-self-in-Ok-push c =
    let i = c.self.invariant in
    let p = c.in-Ok-push.ensures.items in
    let n : c.len-at.result ≡ length c.self.inside.entries.items = omega (arith, c.len-at.ensures) in
    let none : find c.self.inside.entries.items c.args.name.now ≡ None = ap (λ (xs : List Entry). find xs c.args.name.now) c.self.view_is ∙ c.requires in (
      (λ q. defined c.self.inside.entries.items c.args.name.now c.args.means _ _ c.len-at.result (hash_map_updates_str c.args.name.now c.self.inside.index c.insert.new.self _ c.in-Ok.ensures.updates) n i.0 none q
          ∙ ap (λ (xs : List Entry). spot 0 xs q) (sym p)),
      subst (λ (xs : List Entry). FreshFrom [] xs) (sym p) (fresh_last [] c.self.inside.entries.items (entry c.args.name.now c.args.means) i.1 none),
    )

pub invariant_of-self-in-Err-push : goal.invariant_of-self-in-Err-push
invariant_of-self-in-Err-push c =
    let i = c.self.invariant in
    let p = c.in-Err-push.ensures.items in
    let none : find c.self.inside.entries.items c.args.name.now ≡ None = ap (λ (xs : List Entry). find xs c.args.name.now) c.self.view_is ∙ c.requires in (
      (λ q. undone c.self.inside.entries.items c.args.name.now _ _ _ c.len-at.result (hash_map_updates_str c.args.name.now c.self.inside.index c.insert.new.self _ c.in-Ok.ensures.updates)
          (hash_map_updates_str c.args.name.now c.insert.new.self c.remove.new.self _ c.remove.ensures.updates) i.0 none q
          ∙ ap (λ (xs : List Entry). spot 0 xs q) (sym p)),
      subst (λ (xs : List Entry). FreshFrom [] xs) (sym p) i.1,
    )
