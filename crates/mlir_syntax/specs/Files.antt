-- The grammar of functions and whole texts (MLIR LangRef, "Top level Productions"; Func dialect, "func.func", "func.return").
use Rattle.std.specs.Prelude.{◌⊎◌}
use Rattle.std.proofs.Common.{inl, inr}
use Rattle.text_format.specs.declared.class.Class.TheVariants.{Exactly, Name, Value, NewValue, NewValueAt, Symbol, TensorType, ItemStart}
use Rattle.text_format.specs.declared.class.Class.TheVariants as classes
use Rattle.text_format.specs.declared.class.Position.TheVariants as at
use Rattle.text_format.specs.declared.lexeme.Lexeme.TheVariants.{OpenParenthesis, CloseParenthesis, OpenBrace, CloseBrace, Comma, Colon, Equals, Arrow, FuncFunc, Return, FuncReturn, Attributes, WithNamedSequence, NamedSequence}
use Rattle.text_format.specs.declared.lexeme.Lexeme.TheVariants as lexemes
use Rattle.text_format.specs.Token.{TokenShape}
use Rattle.text_format.specs.Formats.{Format, leaf, only, before, ◌▸◌, ◌⊗◌, as_record, either, optional, many, list_before}
use Rattle.text_format.specs.Ends.{all}
use Rattle.mlir_syntax.specs.declared.tree.files.AliasLine.{AliasLine}
use Rattle.mlir_syntax.specs.declared.tree.files.Param.{Param}
use Rattle.mlir_syntax.specs.declared.tree.files.ReturnName.{ReturnName}
use Rattle.mlir_syntax.specs.declared.tree.files.ReturnName.TheVariants.{Short, Long}
use Rattle.mlir_syntax.specs.declared.tree.files.NextResult.{NextResult}
use Rattle.mlir_syntax.specs.declared.tree.files.SeveralResults.{SeveralResults}
use Rattle.mlir_syntax.specs.declared.tree.files.ResultTypes.{ResultTypes}
use Rattle.mlir_syntax.specs.declared.tree.files.ResultTypes.TheVariants.{One, Several}
use Rattle.mlir_syntax.specs.declared.tree.files.NextValue.{NextValue}
use Rattle.mlir_syntax.specs.declared.tree.files.ReturnType.{ReturnType}
use Rattle.mlir_syntax.specs.declared.tree.files.ReturnedValues.{ReturnedValues}
use Rattle.mlir_syntax.specs.declared.tree.files.Returned.{Returned}
use Rattle.mlir_syntax.specs.declared.tree.files.Returned.TheVariants.{Nothing, Values}
use Rattle.mlir_syntax.specs.declared.tree.files.Function.{Function}
use Rattle.mlir_syntax.specs.declared.tree.files.ModuleAttributes.{ModuleAttributes}
use Rattle.mlir_syntax.specs.declared.tree.files.ScriptModule.{ScriptModule}
use Rattle.mlir_syntax.specs.declared.tree.files.FunctionsEnd.{FunctionsEnd}
use Rattle.mlir_syntax.specs.declared.tree.files.ModuleRest.{ModuleRest}
use Rattle.mlir_syntax.specs.declared.tree.files.ModuleRest.TheVariants as rests
use Rattle.mlir_syntax.specs.declared.tree.files.Enclosed.{Enclosed}
use Rattle.mlir_syntax.specs.declared.tree.files.Item.{Item}
use Rattle.mlir_syntax.specs.declared.tree.files.Item.TheVariants as items
use Rattle.mlir_syntax.specs.declared.tree.files.Text.{Text}
use Rattle.mlir_syntax.specs.Maps.{written_map}
use Rattle.mlir_syntax.specs.Operations.{statement}
use Rattle.script_syntax.specs.declared.tree.lines.Sequence.{Sequence}
use Rattle.script_syntax.specs.Lines.{sequence}

-- #id = affine_map<tokens>
unfoldable pub alias_line : Format AliasLine
alias_line = as_record (λ x. record { name = x.0; map = x.1 }) (λ a. (a.name, a.map)) (leaf classes.Alias ⊗ Equals ▸ written_map)

-- %a: tensor<3xi32>
unfoldable pub param : Format Param
param = as_record (λ x. record { name = x.0; ty = x.1 }) (λ p. (p.name, p.ty)) (leaf NewValue ⊗ Colon ▸ leaf TensorType)

abbrev pub made_return : TokenShape ⊎ TokenShape → ReturnName
made_return (inl t) = Long t
made_return (inr t) = Short t

abbrev pub return_parts : ReturnName → TokenShape ⊎ TokenShape
return_parts (Long t) = inl t
return_parts (Short t) = inr t

-- func.return or return
unfoldable pub return_name : Format ReturnName
return_name = as_record made_return return_parts (either (Exactly FuncReturn) (leaf (Exactly FuncReturn)) (leaf (Name at.Statement Return)))

-- , tensor<3xi32>
unfoldable pub next_result : Format NextResult
next_result = as_record (λ t. record { ty = t }) (λ n. n.ty) (Comma ▸ leaf TensorType)

-- (tensor<3xi32>, tensor<3xi32>)
unfoldable pub several_results : Format SeveralResults
several_results = as_record (λ x. record { first = x.0; second = x.1.0; more = x.1.1.0 }) (λ s. (s.first, (s.second, (s.more, tt))))
    (OpenParenthesis ▸ leaf TensorType ⊗ Comma ▸ leaf TensorType ⊗ many (Exactly Comma) next_result (only CloseParenthesis))

abbrev pub made_results : SeveralResults ⊎ TokenShape → ResultTypes
made_results (inl s) = Several s
made_results (inr t) = One t

abbrev pub results_parts : ResultTypes → SeveralResults ⊎ TokenShape
results_parts (Several s) = inl s
results_parts (One t) = inr t

-- -> tensor<3xi32>, or several in parentheses
unfoldable pub result_types : Format ResultTypes
result_types = as_record made_results results_parts (Arrow ▸ either (Exactly OpenParenthesis) several_results (leaf TensorType))

-- , %b
unfoldable pub next_value : Format NextValue
next_value = as_record (λ t. record { name = t }) (λ n. n.name) (Comma ▸ leaf Value)

-- , tensor<3xi32>
unfoldable pub return_type : Format ReturnType
return_type = as_record (λ x. record { comma = x.0; ty = x.1 }) (λ n. (n.comma, n.ty)) (leaf (Exactly Comma) ⊗ leaf TensorType)

-- %a, %b : tensor<3xi32>, tensor<3xi32> }
unfoldable pub returned_values : Format ReturnedValues
returned_values = as_record (λ x. record { first = x.0; more = x.1.0; first_type = x.1.1.0; more_types = x.1.1.1.0; close = x.1.1.1.1 }) (λ r. (r.first, (r.more, (r.first_type, (r.more_types, r.close)))))
    (leaf Value ⊗ many (Exactly Comma) next_value (Colon ▸ leaf TensorType ⊗ many (Exactly Comma) return_type (leaf (Exactly CloseBrace))))

abbrev pub made_returned : ReturnedValues ⊎ TokenShape → Returned
made_returned (inl v) = Values v
made_returned (inr t) = Nothing t

abbrev pub returned_parts : Returned → ReturnedValues ⊎ TokenShape
returned_parts (Values v) = inl v
returned_parts (Nothing t) = inr t

-- the values that are returned, or none, and the brace behind them
unfoldable pub returned : Format Returned
returned = as_record made_returned returned_parts (either Value returned_values (leaf (Exactly CloseBrace)))

-- func.func @f(%a: tensor<3xi32>) -> tensor<3xi32> { statements return %r : tensor<3xi32> }
unfoldable pub function : Format Function
function = as_record (λ x. record { keyword = x.0; name = x.1.0; params = x.1.1.0; results = x.1.1.1.0; statements = x.1.1.1.1.0; return_name = x.1.1.1.1.1.0; returned = x.1.1.1.1.1.1 })
    (λ f. (f.keyword, (f.name, (f.params, (f.results, (f.statements, (f.return_name, f.returned)))))))
    (leaf (Name at.Item FuncFunc)
    ⊗ leaf Symbol
    ⊗ OpenParenthesis ▸ list_before CloseParenthesis param
    ⊗ optional (Exactly Arrow) result_types
    (OpenBrace ▸ many (NewValueAt at.Statement) statement (return_name ⊗ returned)))

-- attributes {transform.with_named_sequence}
unfoldable pub module_attributes : Format ModuleAttributes
module_attributes = as_record (λ t. record { keyword = t }) (λ a. a.keyword) (before CloseBrace (before WithNamedSequence (before OpenBrace (leaf (Exactly Attributes)))))

-- module attributes {transform.with_named_sequence} { script }
unfoldable pub script_module : Format ScriptModule
script_module = as_record (λ x. record { keyword = x.0; script = x.1 }) (λ m. (m.keyword, m.script))
    (leaf (Exactly lexemes.Module) ⊗ Attributes ▸ OpenBrace ▸ WithNamedSequence ▸ CloseBrace ▸ OpenBrace ▸ before CloseBrace sequence)

-- functions }
unfoldable pub functions_end : Format FunctionsEnd
functions_end = as_record (λ x. record { functions = x.0; close = x.1 }) (λ e. (e.functions, e.close)) (many (Exactly FuncFunc) function (leaf (Name at.Item CloseBrace)))

abbrev pub made_rest : (Sequence × FunctionsEnd) ⊎ ((ScriptModule × FunctionsEnd) ⊎ TokenShape) → ModuleRest
made_rest (inl x) = rests.Script x.0 x.1
made_rest (inr (inl x)) = rests.Nested x.0 x.1
made_rest (inr (inr t)) = rests.End t

abbrev pub rest_parts : ModuleRest → (Sequence × FunctionsEnd) ⊎ ((ScriptModule × FunctionsEnd) ⊎ TokenShape)
rest_parts (rests.Script q e) = inl (q, e)
rest_parts (rests.Nested m e) = inr (inl (m, e))
rest_parts (rests.End t) = inr (inr t)

-- the brace that closes a module, or a script and more functions
unfoldable pub module_rest : Format ModuleRest
module_rest = as_record made_rest rest_parts (either (Exactly NamedSequence) (sequence ⊗ functions_end) (either (Exactly lexemes.Module) (script_module ⊗ functions_end) (leaf (Name at.Item CloseBrace))))

-- module { functions }, or with a script; which modules may hold one is told where the tree is resolved
unfoldable pub enclosed : Format Enclosed
enclosed = as_record (λ x. record { keyword = x.0; attributes = x.1.0; brace = x.1.1.0; functions = x.1.1.1.0; rest = x.1.1.1.1 }) (λ e. (e.keyword, (e.attributes, (e.brace, (e.functions, e.rest)))))
    (leaf (Exactly lexemes.Module) ⊗ optional (Exactly Attributes) module_attributes (leaf (Exactly OpenBrace) ⊗ many (Exactly FuncFunc) function module_rest))

abbrev pub made_item : AliasLine ⊎ (Enclosed ⊎ Function) → Item
made_item (inl a) = items.Alias a
made_item (inr (inl m)) = items.Module m
made_item (inr (inr f)) = items.Function f

abbrev pub item_parts : Item → AliasLine ⊎ (Enclosed ⊎ Function)
item_parts (items.Alias a) = inl a
item_parts (items.Module m) = inr (inl m)
item_parts (items.Function f) = inr (inr f)

-- an alias, a module or a function
unfoldable pub item : Format Item
item = as_record made_item item_parts (either classes.Alias alias_line (either (Exactly lexemes.Module) enclosed function))

-- a whole text: items in any order. What may not stand beside a module is told where the tree is resolved
unfoldable pub text : Format Text
text = as_record (λ is. record { items = is }) (λ t. t.items) (all ItemStart item)
