-- Generic operations as they are written (MLIR Linalg dialect, "linalg.generic").
use Rattle.std.specs.Prelude.{ℕ, List, [], ◌∷◌, map, Some, None, codes}
use Rattle.payload_ops.specs.Shape.{PayloadShape}
use Rattle.affine_maps.specs.Shape.{MapShape}
use Rattle.mlir_ir.specs.declared.tree.Ty.{Ty}
use Rattle.mlir_ir.specs.declared.tree.ValueId.{ValueId}
use Rattle.mlir_ir.specs.declared.tree.Iter.{Iter}
use Rattle.mlir_ir.specs.declared.tree.Iter.TheVariants.{Parallel, Reduction}
use Rattle.text_format.specs.declared.class.Class.TheVariants.{Exactly, Name, Value, OperandType, Iterator}
use Rattle.text_format.specs.declared.class.Position.TheVariants.{Operation as OperationName}
use Rattle.text_format.specs.declared.front.Kind.TheVariants as tokens
use Rattle.text_format.specs.declared.lexeme.Lexeme.TheVariants.{OpenParenthesis, CloseParenthesis, OpenBrace, CloseBrace, OpenBracket, CloseBracket, Comma, Colon, Equals, Arrow, LinalgGeneric, IndexingMaps, IteratorTypes, Ins, Outs}
use Rattle.text_format.specs.Token.{TokenShape}
use Rattle.text_format.specs.Pieces.{Fixed}
use Rattle.mlir_syntax.specs.declared.tree.generics.IteratorType.{IteratorType}
use Rattle.mlir_syntax.specs.declared.tree.generics.NextInput.{NextInput}
use Rattle.mlir_syntax.specs.declared.tree.generics.NextType.{NextType}
use Rattle.mlir_syntax.specs.declared.tree.generics.InputTypes.{InputTypes}
use Rattle.mlir_syntax.specs.declared.tree.generics.Inputs.{Inputs}
use Rattle.mlir_syntax.specs.declared.tree.generics.Output.{Output}
use Rattle.mlir_syntax.specs.declared.tree.generics.Operands.{Operands}
use Rattle.mlir_syntax.specs.declared.tree.generics.Generic.{Generic}
use Rattle.mlir_print.specs.Types.{ty_text}
use Rattle.mlir_print.specs.Names.{Row, name_in, type_in, kind_in}
use Rattle.mlir_print.specs.Maps.{use_at}
use Rattle.mlir_print.specs.Payloads.{region_at}
use Rattle.mlir_print.specs.Returns.{type_at}
use Rattle.text_format.specs.Writers.{Writer, put, keep, lay, gap, space, lay_after, pair, made, each_of, commas, ◌▷◌}

abbrev pub iterator_text : Iter → List ℕ
iterator_text Parallel = codes "\"parallel\""
iterator_text Reduction = codes "\"reduction\""

abbrev pub iterator_at : Iter → Writer IteratorType
iterator_at i = made (λ t. record { word = t }) (put Iterator tokens.Quoted (iterator_text i))

abbrev pub next_input_at : List Row → ValueId → Writer NextInput
next_input_at rows v = made (λ t. record { name = t }) ▷ lay Comma ▷ space ▷ put Value tokens.Value (name_in rows v)

-- the type of an input: a tensor's, or a scalar's
abbrev pub input_type_at : List Row → ValueId → Writer TokenShape
input_type_at rows v = put OperandType (kind_in rows v) (type_in rows v)

abbrev pub next_type_at : List Row → ValueId → Writer NextType
next_type_at rows v = made (λ x. record { comma = x.0; ty = x.1 }) ▷ pair (keep Exactly Comma) ▷ space ▷ input_type_at rows v

abbrev pub input_types_at : List Row → ValueId → List ValueId → Writer InputTypes
input_types_at rows v vs = made (λ x. record { first = x.0; more = x.1.0; close = x.1.1 }) ▷ pair (input_type_at rows v) ▷ pair (each_of (map (next_type_at rows) vs)) ▷ keep Exactly CloseParenthesis

-- `ins(%a, %b : T, T)`
abbrev pub inputs_at : List Row → ValueId → List ValueId → Writer Inputs
inputs_at rows v vs = made (λ x. record { first = x.0; more = x.1.0; types = x.1.1 }) ▷
    lay Ins ▷ lay OpenParenthesis ▷ pair (put Value tokens.Value (name_in rows v)) ▷ pair (each_of (map (next_input_at rows) vs)) ▷ space ▷ lay Colon ▷ space ▷ input_types_at rows v vs

-- `outs(%o : T)`
abbrev pub output_at : List Row → ValueId → Writer Output
output_at rows out = made (λ x. record { name = x.0; ty = x.1 }) ▷
    lay Outs ▷ lay OpenParenthesis ▷ pair (put Value tokens.Value (name_in rows out)) ▷ space ▷ lay Colon ▷ space ▷ lay_after (type_at (type_in rows out)) (Fixed CloseParenthesis ∷ [])

abbrev pub operands_at : List Row → List ValueId → ValueId → Writer Operands
operands_at rows [] out = made (λ o. record { inputs = None; output = o }) (output_at rows out)
operands_at rows (v ∷ vs) out = made (λ x. record { inputs = Some x.0; output = x.1 }) ▷ pair (inputs_at rows v vs) ▷ space ▷ output_at rows out

-- its payload's arguments and results are numbered from a and r on
abbrev pub generic_at : List MapShape → List Row → ℕ → ℕ → Ty → List MapShape → List Iter → List ValueId → ValueId → PayloadShape → Writer Generic
generic_at aliases rows a r ty maps its ins out p =
    made (λ x. record { name = x.0; maps = x.1.0; iterators = x.1.1.0; operands = x.1.1.1.0; region = x.1.1.1.1.0; result_type = x.1.1.1.1.1 }) ▷
    pair (keep (Name OperationName) LinalgGeneric) ▷ space ▷ lay OpenBrace ▷ lay IndexingMaps ▷ space ▷ lay Equals ▷ space ▷ lay OpenBracket ▷ pair (commas (map (use_at aliases) maps)) ▷
    lay CloseBracket ▷ lay Comma ▷ space ▷ lay IteratorTypes ▷ space ▷ lay Equals ▷ space ▷ lay OpenBracket ▷ pair (commas (map iterator_at its)) ▷ lay CloseBracket ▷ lay CloseBrace ▷ space ▷
    pair (operands_at rows ins out) ▷ space ▷ lay OpenBrace ▷ gap (codes "\n    ") ▷ pair (region_at aliases a r p) ▷ gap (codes "\n    ") ▷ lay CloseBrace ▷ space ▷ lay Arrow ▷ space ▷ type_at (ty_text ty)
