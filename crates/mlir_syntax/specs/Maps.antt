-- Maps, as they are used (Affine dialect, "Affine Maps"; MLIR LangRef, "Attribute Value Aliases").
use Rattle.std.specs.Prelude.{◌⊎◌}
use Rattle.std.proofs.Common.{inl, inr}
use Rattle.text_format.specs.declared.class.Class.TheVariants.{Exactly, Alias, MapToken}
use Rattle.text_format.specs.declared.lexeme.Lexeme.TheVariants.{Less, Greater, AffineMap}
use Rattle.text_format.specs.Token.{TokenShape}
use Rattle.text_format.specs.Formats.{Format, leaf, ◌⊗◌, as_record, either, many}
use Rattle.mlir_syntax.specs.declared.tree.maps.MapPiece.{MapPiece}
use Rattle.mlir_syntax.specs.declared.tree.maps.WrittenMap.{WrittenMap}
use Rattle.mlir_syntax.specs.declared.tree.maps.MapUse.{MapUse}
use Rattle.mlir_syntax.specs.declared.tree.maps.MapUse.TheVariants as uses

-- a token of a written map
unfoldable pub map_piece : Format MapPiece
map_piece = as_record (λ t. record { token = t }) (λ p. p.token) (leaf MapToken)

-- affine_map<tokens>; which tokens make a map is told where the tree is resolved
unfoldable pub written_map : Format WrittenMap
written_map = as_record (λ x. record { keyword = x.0; less = x.1.0; tokens = x.1.1.0; greater = x.1.1.1 }) (λ m. (m.keyword, (m.less, (m.tokens, m.greater))))
    (leaf (Exactly AffineMap) ⊗ leaf (Exactly Less) ⊗ many MapToken map_piece (leaf (Exactly Greater)))

abbrev pub made_map_use : TokenShape ⊎ WrittenMap → MapUse
made_map_use (inl t) = uses.Alias t
made_map_use (inr m) = uses.Written m

abbrev pub map_use_parts : MapUse → TokenShape ⊎ WrittenMap
map_use_parts (uses.Alias t) = inl t
map_use_parts (uses.Written m) = inr m

-- #id, or a written map
unfoldable pub map_use : Format MapUse
map_use = as_record made_map_use map_use_parts (either Alias (leaf Alias) written_map)
