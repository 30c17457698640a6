-- The laws of maps: each production's follow from those of its parts.
use Rattle.std.specs.Prelude.{◌≡◌, refl, ◌⊎◌}
use Rattle.std.proofs.Common.{inl, inr}
use Rattle.text_format.specs.declared.class.Class.TheVariants.{Exactly, Alias, MapToken}
use Rattle.text_format.specs.declared.lexeme.Lexeme.TheVariants.{Less, Greater, AffineMap}
use Rattle.text_format.specs.Token.{TokenShape}
use Rattle.text_format.specs.Laws.{IsExact}
use Rattle.text_format.specs.Exact.{leaf-exact, record-exact, either-exact, ◌⊠◌}
use Rattle.text_format.specs.Many.{many-exact}
use Rattle.mlir_syntax.specs.declared.tree.maps.WrittenMap.{WrittenMap}
use Rattle.mlir_syntax.specs.declared.tree.maps.MapUse.{MapUse}
use Rattle.mlir_syntax.specs.declared.tree.maps.MapUse.TheVariants as uses
use Rattle.mlir_syntax.specs.Maps.{map_piece, written_map, made_map_use, map_use_parts, map_use}

pub map_piece-exact : IsExact map_piece
unfolding map_piece
map_piece-exact = record-exact _ _ _ (λ _. refl) (λ _. refl) (leaf-exact MapToken)

pub written_map-exact : IsExact written_map
unfolding written_map map_piece
written_map-exact = record-exact _ _ _ (λ _. refl) (λ _. refl)
    (leaf-exact (Exactly AffineMap) ⊠ leaf-exact (Exactly Less) ⊠ many-exact MapToken map_piece-exact (leaf-exact (Exactly Greater)) (λ _. refl) (λ _. refl))

map_use_back : (x : TokenShape ⊎ WrittenMap) → map_use_parts (made_map_use x) ≡ x
map_use_back (inl t) = refl
map_use_back (inr m) = refl

map_use_forth : (u : MapUse) → made_map_use (map_use_parts u) ≡ u
map_use_forth (uses.Alias t) = refl
map_use_forth (uses.Written m) = refl

pub map_use-exact : IsExact map_use
unfolding map_use written_map
map_use-exact = record-exact _ _ _ map_use_back map_use_forth (either-exact Alias (leaf-exact Alias) written_map-exact (λ _. refl) (λ _. refl))
