-- The laws of generic operations: each production's follow from those of its parts.
use Rattle.std.specs.Prelude.{◌≡◌, true, refl}
use Rattle.text_format.specs.declared.class.Class.TheVariants.{Exactly, Name, Value, TensorType, OperandType, Iterator}
use Rattle.text_format.specs.declared.class.Position.TheVariants as at
use Rattle.text_format.specs.declared.lexeme.Lexeme.TheVariants.{OpenParenthesis, CloseParenthesis, OpenBrace, CloseBrace, OpenBracket, CloseBracket, Comma, Colon, Equals, Arrow, LinalgGeneric, IndexingMaps, IteratorTypes, Ins, Outs}
use Rattle.text_format.specs.Laws.{IsExact, avoids}
use Rattle.text_format.specs.Exact.{leaf-exact, before-exact, record-exact, ◌⊠◌, ◌▹◌}
use Rattle.text_format.specs.Many.{many-exact, optional-exact, list-exact}
use Rattle.mlir_syntax.specs.declared.tree.maps.MapUse.{MapUse}
use Rattle.mlir_syntax.specs.declared.tree.maps.MapUse.TheVariants as uses
use Rattle.mlir_syntax.specs.Maps.{map_use, written_map}
use Rattle.mlir_syntax.specs.MapLaws.{map_use-exact}
use Rattle.mlir_syntax.specs.PayloadLaws.{region-exact}
use Rattle.mlir_syntax.specs.Generics.{iterator_type, next_input, next_type, input_types, inputs, output, operands, generic}

pub iterator_type-exact : IsExact iterator_type
unfolding iterator_type
iterator_type-exact = record-exact _ _ _ (λ _. refl) (λ _. refl) (leaf-exact Iterator)

pub next_input-exact : IsExact next_input
unfolding next_input
next_input-exact = record-exact _ _ _ (λ _. refl) (λ _. refl) (Comma ▹ leaf-exact Value)

pub next_type-exact : IsExact next_type
unfolding next_type
next_type-exact = record-exact _ _ _ (λ _. refl) (λ _. refl) (leaf-exact (Exactly Comma) ⊠ leaf-exact OperandType)

pub input_types-exact : IsExact input_types
unfolding input_types next_type
input_types-exact = record-exact _ _ _ (λ _. refl) (λ _. refl)
    (leaf-exact OperandType ⊠ many-exact (Exactly Comma) next_type-exact (leaf-exact (Exactly CloseParenthesis)) (λ _. refl) (λ _. refl))

pub inputs-exact : IsExact inputs
unfolding inputs next_input
inputs-exact = record-exact _ _ _ (λ _. refl) (λ _. refl)
    (Ins ▹ OpenParenthesis ▹ leaf-exact Value ⊠ many-exact (Exactly Comma) next_input-exact (Colon ▹ input_types-exact) (λ _. refl) (λ _. refl))

pub output-exact : IsExact output
unfolding output
output-exact = record-exact _ _ _ (λ _. refl) (λ _. refl) (Outs ▹ OpenParenthesis ▹ leaf-exact Value ⊠ Colon ▹ before-exact CloseParenthesis (leaf-exact TensorType))

pub operands-exact : IsExact operands
unfolding operands inputs output
operands-exact = record-exact _ _ _ (λ _. refl) (λ _. refl) (optional-exact (Exactly Ins) inputs-exact output-exact (λ _. refl) (λ _. refl))

map_avoids : (u : MapUse) → avoids (Exactly CloseBracket) (map_use.spell u) ≡ true
unfolding map_use written_map
map_avoids (uses.Alias t) = refl
map_avoids (uses.Written m) = refl

pub generic-exact : IsExact generic
unfolding generic iterator_type
generic-exact = record-exact _ _ _ (λ _. refl) (λ _. refl)
    (leaf-exact (Name at.Operation LinalgGeneric)
    ⊠ OpenBrace ▹ IndexingMaps ▹ Equals ▹ OpenBracket ▹ list-exact CloseBracket map_use-exact map_avoids refl
    ⊠ Comma ▹ IteratorTypes ▹ Equals ▹ OpenBracket ▹ list-exact CloseBracket iterator_type-exact (λ _. refl) refl
    ⊠ CloseBrace ▹ operands-exact
    ⊠ OpenBrace ▹ region-exact
    ⊠ CloseBrace ▹ Arrow ▹ leaf-exact TensorType)
