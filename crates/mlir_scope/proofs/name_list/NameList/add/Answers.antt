use Rattle.std.proofs.Common.{◌≡◌, [], ◌∷◌, None, length, List, ℕ, map, sym, ap, ◌∙◌, arith}
use Rattle.std.proofs.lemmas.List.{length-map, map-append}
use Rattle.std.proofs.lemmas.Map.Text.{hash_map_updates_str}
use Rattle.mlir_scope.specs.Names.{place}
use Rattle.mlir_scope.proofs.Spots.{name_added}
use Rattle.mlir_scope.proofs.name_list.NameList.add.Goals as goal

pub invariant_of-self-in-Ok : goal.invariant_of-self-in-Ok
invariant_of-self-in-Ok c =
    let items = c.self.inside.names.items in
    let n : c.len-at.result ≡ length (map (λ n. n.now) items) = omega (arith, c.len-at.ensures, length-map items (λ n. n.now)) in
    let none : place 0 (map (λ n. n.now) items) c.args.name.now ≡ None = ap (λ (xs : List (List ℕ)). place 0 xs c.args.name.now) c.self.view_is ∙ c.requires in
    λ q. name_added (map (λ n. n.now) items) c.args.name.now _ _ c.len-at.result (hash_map_updates_str c.args.name.now c.self.inside.index c.insert.new.self _ c.in-Ok.ensures.updates) n c.self.invariant none q
    ∙ sym (ap (λ (xs : List (List ℕ)). place 0 xs q) (ap (map (λ n. n.now)) c.in_ok-push.ensures.items ∙ map-append (λ n. n.now) items (c.args.name ∷ [])))
