-- The grammar of generic operations (Linalg dialect, "linalg.generic").
use Rattle.text_format.specs.declared.class.Class.TheVariants.{Exactly, Name, Value, TensorType, OperandType, Iterator}
use Rattle.text_format.specs.declared.class.Position.TheVariants as at
use Rattle.text_format.specs.declared.lexeme.Lexeme.TheVariants.{OpenParenthesis, CloseParenthesis, OpenBrace, CloseBrace, OpenBracket, CloseBracket, Comma, Colon, Equals, Arrow, LinalgGeneric, IndexingMaps, IteratorTypes, Ins, Outs}
use Rattle.text_format.specs.Formats.{Format, leaf, before, ◌▸◌, ◌⊗◌, as_record, many, optional, list_before}
use Rattle.mlir_syntax.specs.declared.tree.generics.IteratorType.{IteratorType}
use Rattle.mlir_syntax.specs.declared.tree.generics.NextInput.{NextInput}
use Rattle.mlir_syntax.specs.declared.tree.generics.NextType.{NextType}
use Rattle.mlir_syntax.specs.declared.tree.generics.InputTypes.{InputTypes}
use Rattle.mlir_syntax.specs.declared.tree.generics.Inputs.{Inputs}
use Rattle.mlir_syntax.specs.declared.tree.generics.Output.{Output}
use Rattle.mlir_syntax.specs.declared.tree.generics.Operands.{Operands}
use Rattle.mlir_syntax.specs.declared.tree.generics.Generic.{Generic}
use Rattle.mlir_syntax.specs.Maps.{map_use}
use Rattle.mlir_syntax.specs.Payloads.{region}

-- "parallel" or "reduction"
unfoldable pub iterator_type : Format IteratorType
iterator_type = as_record (λ t. record { word = t }) (λ i. i.word) (leaf Iterator)

-- , %b
unfoldable pub next_input : Format NextInput
next_input = as_record (λ t. record { name = t }) (λ n. n.name) (Comma ▸ leaf Value)

-- , tensor<3xi32>
unfoldable pub next_type : Format NextType
next_type = as_record (λ x. record { comma = x.0; ty = x.1 }) (λ n. (n.comma, n.ty)) (leaf (Exactly Comma) ⊗ leaf OperandType)

-- tensor<3xi32>, i32)
unfoldable pub input_types : Format InputTypes
input_types = as_record (λ x. record { first = x.0; more = x.1.0; close = x.1.1 }) (λ n. (n.first, (n.more, n.close)))
    (leaf OperandType ⊗ many (Exactly Comma) next_type (leaf (Exactly CloseParenthesis)))

-- ins(%a, %b : tensor<3xi32>, i32)
unfoldable pub inputs : Format Inputs
inputs = as_record (λ x. record { first = x.0; more = x.1.0; types = x.1.1 }) (λ i. (i.first, (i.more, i.types)))
    (Ins ▸ OpenParenthesis ▸ leaf Value ⊗ many (Exactly Comma) next_input (Colon ▸ input_types))

-- outs(%o : tensor<3xi32>)
unfoldable pub output : Format Output
output = as_record (λ x. record { name = x.0; ty = x.1 }) (λ o. (o.name, o.ty)) (Outs ▸ OpenParenthesis ▸ leaf Value ⊗ Colon ▸ before CloseParenthesis (leaf TensorType))

-- the inputs, where there are any, and the output
unfoldable pub operands : Format Operands
operands = as_record (λ x. record { inputs = x.0; output = x.1 }) (λ o. (o.inputs, o.output)) (optional (Exactly Ins) inputs output)

-- linalg.generic {indexing_maps = [#id], iterator_types = ["parallel"]} ins(..) outs(..) { region } -> tensor<3xi32>
unfoldable pub generic : Format Generic
generic = as_record (λ x. record { name = x.0; maps = x.1.0; iterators = x.1.1.0; operands = x.1.1.1.0; region = x.1.1.1.1.0; result_type = x.1.1.1.1.1 }) (λ g. (g.name, (g.maps, (g.iterators, (g.operands, (g.region, g.result_type))))))
    (leaf (Name at.Operation LinalgGeneric)
    ⊗ OpenBrace ▸ IndexingMaps ▸ Equals ▸ OpenBracket ▸ list_before CloseBracket map_use
    ⊗ Comma ▸ IteratorTypes ▸ Equals ▸ OpenBracket ▸ list_before CloseBracket iterator_type
    ⊗ CloseBrace ▸ operands
    ⊗ OpenBrace ▸ region
    ⊗ CloseBrace ▸ Arrow ▸ leaf TensorType)
