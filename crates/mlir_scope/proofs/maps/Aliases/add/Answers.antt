use Rattle.std.proofs.Common.{◌≡◌, [], ◌∷◌, ◌++◌, None, length, List, ℕ, sym, ap, subst, ◌∙◌, arith}
use Rattle.std.proofs.lemmas.List.{length-map, map-append}
use Rattle.std.proofs.lemmas.Map.Text.{hash_map_updates_str}
use Rattle.mlir_scope.specs.Names.{place}
use Rattle.mlir_scope.specs.Maps.{AliasShape, aliased, names_of, AreMaps}
use Rattle.affine_maps.specs.Map.{IsMap}
use Rattle.mlir_scope.proofs.MapsFit.{maps_append}
use Rattle.mlir_scope.proofs.AliasSpots.{place_none}
use Rattle.mlir_scope.proofs.Spots.{name_added}
use Rattle.mlir_scope.proofs.maps.Aliases.add.Goals as goal

pub invariant_of-self-in-Ok : goal.invariant_of-self-in-Ok
invariant_of-self-in-Ok c =
    let items = c.self.inside.entries.items in
    let name = c.alias.inside.name.now in
    let same : c.alias.inside.name.now ≡ c.args.alias.name = ap (λ (a : AliasShape). a.name) c.alias.view_is in
    let n : c.len-at.result ≡ length (names_of items) = omega (arith, c.len-at.ensures, length-map items (λ a. a.name)) in
    let none : place 0 (names_of items) name ≡ None =
    place_none 0 items name (ap (λ (q : List ℕ). aliased items q) same ∙ ap (λ (xs : List AliasShape). aliased xs c.args.alias.name) c.self.view_is ∙ c.requires) in (
      λ q. name_added (names_of items) name _ _ c.len-at.result (hash_map_updates_str name c.self.inside.index c.insert.new.self _ c.in-Ok.ensures.updates) n c.self.invariant.0 none q
          ∙ ap (λ (x : List ℕ). place 0 (names_of items ++ x ∷ []) q) same
          ∙ sym (ap (λ (xs : List (List ℕ)). place 0 xs q) (ap (λ (xs : List AliasShape). names_of xs) c.in_ok-push.ensures.items ∙ map-append (λ a. a.name) items (c.args.alias ∷ []))),
      subst (λ (xs : List AliasShape). AreMaps xs) (sym c.in_ok-push.ensures.items) (maps_append items c.args.alias c.self.invariant.1 (subst (λ (a : AliasShape). IsMap a.map) c.alias.view_is c.alias.invariant)),
    )
