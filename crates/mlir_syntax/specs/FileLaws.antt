-- The laws of functions and whole texts: each production's follow from those of its parts.
use Rattle.std.specs.Prelude.{◌≡◌, true, refl, ◌⊎◌}
use Rattle.std.proofs.Common.{inl, inr}
use Rattle.text_format.specs.declared.class.Class.TheVariants.{Exactly, Name, Value, NewValue, NewValueAt, Symbol, TensorType, ItemStart}
use Rattle.text_format.specs.declared.class.Class.TheVariants as classes
use Rattle.text_format.specs.declared.class.Position.TheVariants as at
use Rattle.text_format.specs.declared.lexeme.Lexeme.TheVariants.{OpenParenthesis, CloseParenthesis, OpenBrace, CloseBrace, Comma, Colon, Equals, Arrow, FuncFunc, Return, FuncReturn, Attributes, WithNamedSequence, NamedSequence}
use Rattle.text_format.specs.declared.lexeme.Lexeme.TheVariants as lexemes
use Rattle.text_format.specs.Token.{TokenShape}
use Rattle.text_format.specs.Formats.{leaf, ◌⊗◌, either}
use Rattle.text_format.specs.Laws.{IsExact, begins, avoids}
use Rattle.text_format.specs.Exact.{leaf-exact, only-exact, before-exact, record-exact, either-exact, ◌⊠◌, ◌▹◌}
use Rattle.text_format.specs.Many.{many-exact, optional-exact, list-exact, avoids_append}
use Rattle.text_format.specs.Ends.{IsWhole, record-whole, all-whole}
use Rattle.mlir_syntax.specs.declared.tree.files.AliasLine.{AliasLine}
use Rattle.mlir_syntax.specs.declared.tree.files.ReturnName.{ReturnName}
use Rattle.mlir_syntax.specs.declared.tree.files.ReturnName.TheVariants.{Short, Long}
use Rattle.mlir_syntax.specs.declared.tree.files.SeveralResults.{SeveralResults}
use Rattle.mlir_syntax.specs.declared.tree.files.ResultTypes.{ResultTypes}
use Rattle.mlir_syntax.specs.declared.tree.files.ResultTypes.TheVariants.{One, Several}
use Rattle.mlir_syntax.specs.declared.tree.files.ReturnedValues.{ReturnedValues}
use Rattle.mlir_syntax.specs.declared.tree.files.Returned.{Returned}
use Rattle.mlir_syntax.specs.declared.tree.files.Returned.TheVariants.{Nothing, Values}
use Rattle.mlir_syntax.specs.declared.tree.files.Function.{Function}
use Rattle.mlir_syntax.specs.declared.tree.files.ScriptModule.{ScriptModule}
use Rattle.mlir_syntax.specs.declared.tree.files.FunctionsEnd.{FunctionsEnd}
use Rattle.mlir_syntax.specs.declared.tree.files.ModuleRest.{ModuleRest}
use Rattle.mlir_syntax.specs.declared.tree.files.ModuleRest.TheVariants as rests
use Rattle.mlir_syntax.specs.declared.tree.files.Enclosed.{Enclosed}
use Rattle.mlir_syntax.specs.declared.tree.files.Item.{Item}
use Rattle.mlir_syntax.specs.declared.tree.files.Item.TheVariants as items
use Rattle.mlir_syntax.specs.Operations.{statement}
use Rattle.mlir_syntax.specs.Files.{alias_line, param, made_return, return_parts, return_name, next_result, several_results, made_results, results_parts, result_types, next_value, return_type, returned_values, made_returned, returned_parts, returned, function, module_attributes, script_module, functions_end, made_rest, rest_parts, module_rest, enclosed, made_item, item_parts, item, text}
use Rattle.mlir_syntax.specs.MapLaws.{written_map-exact}
use Rattle.mlir_syntax.specs.OperationLaws.{statement-exact}
use Rattle.script_syntax.specs.declared.tree.lines.Sequence.{Sequence}
use Rattle.script_syntax.specs.Lines.{sequence}
use Rattle.script_syntax.specs.LineLaws.{sequence-exact}

pub alias_line-exact : IsExact alias_line
unfolding alias_line
alias_line-exact = record-exact _ _ _ (λ _. refl) (λ _. refl) (leaf-exact classes.Alias ⊠ Equals ▹ written_map-exact)

pub param-exact : IsExact param
unfolding param
param-exact = record-exact _ _ _ (λ _. refl) (λ _. refl) (leaf-exact NewValue ⊠ Colon ▹ leaf-exact TensorType)

return_back : (x : TokenShape ⊎ TokenShape) → return_parts (made_return x) ≡ x
return_back (inl t) = refl
return_back (inr t) = refl

return_forth : (r : ReturnName) → made_return (return_parts r) ≡ r
return_forth (Short t) = refl
return_forth (Long t) = refl

pub return_name-exact : IsExact return_name
unfolding return_name
return_name-exact = record-exact _ _ _ return_back return_forth (either-exact (Exactly FuncReturn) (leaf-exact (Exactly FuncReturn)) (leaf-exact (Name at.Statement Return)) (λ _. refl) (λ _. refl))

return_avoids : (r : ReturnName) → avoids (NewValueAt at.Statement) (return_name.spell r) ≡ true
unfolding return_name
return_avoids (Short t) = refl
return_avoids (Long t) = refl

pub next_result-exact : IsExact next_result
unfolding next_result
next_result-exact = record-exact _ _ _ (λ _. refl) (λ _. refl) (Comma ▹ leaf-exact TensorType)

pub several_results-exact : IsExact several_results
unfolding several_results next_result
several_results-exact = record-exact _ _ _ (λ _. refl) (λ _. refl)
    (OpenParenthesis ▹ leaf-exact TensorType ⊠ Comma ▹ leaf-exact TensorType ⊠ many-exact (Exactly Comma) next_result-exact (only-exact CloseParenthesis) (λ _. refl) (λ _. refl))

results_back : (x : SeveralResults ⊎ TokenShape) → results_parts (made_results x) ≡ x
results_back (inl s) = refl
results_back (inr t) = refl

results_forth : (r : ResultTypes) → made_results (results_parts r) ≡ r
results_forth (Several s) = refl
results_forth (One t) = refl

pub result_types-exact : IsExact result_types
unfolding result_types several_results
result_types-exact = record-exact _ _ _ results_back results_forth (Arrow ▹ either-exact (Exactly OpenParenthesis) several_results-exact (leaf-exact TensorType) (λ _. refl) (λ _. refl))

pub next_value-exact : IsExact next_value
unfolding next_value
next_value-exact = record-exact _ _ _ (λ _. refl) (λ _. refl) (Comma ▹ leaf-exact Value)

pub return_type-exact : IsExact return_type
unfolding return_type
return_type-exact = record-exact _ _ _ (λ _. refl) (λ _. refl) (leaf-exact (Exactly Comma) ⊠ leaf-exact TensorType)

pub returned_values-exact : IsExact returned_values
unfolding returned_values next_value return_type
returned_values-exact = record-exact _ _ _ (λ _. refl) (λ _. refl)
    (leaf-exact Value ⊠ many-exact (Exactly Comma) next_value-exact (Colon ▹ leaf-exact TensorType ⊠ many-exact (Exactly Comma) return_type-exact (leaf-exact (Exactly CloseBrace)) (λ _. refl) (λ _. refl)) (λ _. refl) (λ _. refl))

returned_back : (x : ReturnedValues ⊎ TokenShape) → returned_parts (made_returned x) ≡ x
returned_back (inl v) = refl
returned_back (inr t) = refl

returned_forth : (r : Returned) → made_returned (returned_parts r) ≡ r
returned_forth (Values v) = refl
returned_forth (Nothing t) = refl

pub returned-exact : IsExact returned
unfolding returned returned_values
returned-exact = record-exact _ _ _ returned_back returned_forth (either-exact Value returned_values-exact (leaf-exact (Exactly CloseBrace)) (λ _. refl) (λ _. refl))

pub function-exact : IsExact function
unfolding function param statement result_types
function-exact = record-exact _ _ _ (λ _. refl) (λ _. refl)
    (leaf-exact (Name at.Item FuncFunc)
    ⊠ leaf-exact Symbol
    ⊠ OpenParenthesis ▹ list-exact CloseParenthesis param-exact (λ _. refl) refl
    ⊠ optional-exact (Exactly Arrow) result_types-exact
    (OpenBrace ▹ many-exact (NewValueAt at.Statement) statement-exact (return_name-exact ⊠ returned-exact) (λ _. refl)
    (λ y. avoids_append (NewValueAt at.Statement) (return_name.spell y.0) (returned.spell y.1) (return_avoids y.0)))
    (λ _. refl) (λ _. refl))

pub module_attributes-exact : IsExact module_attributes
unfolding module_attributes
module_attributes-exact = record-exact _ _ _ (λ _. refl) (λ _. refl) (before-exact CloseBrace (before-exact WithNamedSequence (before-exact OpenBrace (leaf-exact (Exactly Attributes)))))

pub script_module-exact : IsExact script_module
unfolding script_module
script_module-exact = record-exact _ _ _ (λ _. refl) (λ _. refl) (leaf-exact (Exactly lexemes.Module) ⊠ Attributes ▹ OpenBrace ▹ WithNamedSequence ▹ CloseBrace ▹ OpenBrace ▹ before-exact CloseBrace sequence-exact)

pub functions_end-exact : IsExact functions_end
unfolding functions_end function
functions_end-exact = record-exact _ _ _ (λ _. refl) (λ _. refl) (many-exact (Exactly FuncFunc) function-exact (leaf-exact (Name at.Item CloseBrace)) (λ _. refl) (λ _. refl))

rest_back : (x : (Sequence × FunctionsEnd) ⊎ ((ScriptModule × FunctionsEnd) ⊎ TokenShape)) → rest_parts (made_rest x) ≡ x
rest_back (inl x) = refl
rest_back (inr (inl x)) = refl
rest_back (inr (inr t)) = refl

rest_forth : (r : ModuleRest) → made_rest (rest_parts r) ≡ r
rest_forth (rests.Script q e) = refl
rest_forth (rests.Nested m e) = refl
rest_forth (rests.End t) = refl

no_script : (x : (ScriptModule × FunctionsEnd) ⊎ TokenShape) → avoids (Exactly NamedSequence) ((either (Exactly lexemes.Module) (script_module ⊗ functions_end) (leaf (Name at.Item CloseBrace))).spell x) ≡ true
unfolding script_module
no_script (inl x) = refl
no_script (inr t) = refl

pub module_rest-exact : IsExact module_rest
unfolding module_rest script_module sequence
module_rest-exact = record-exact _ _ _ rest_back rest_forth
    (either-exact (Exactly NamedSequence) (sequence-exact ⊠ functions_end-exact) (either-exact (Exactly lexemes.Module) (script_module-exact ⊠ functions_end-exact) (leaf-exact (Name at.Item CloseBrace)) (λ _. refl) (λ _. refl)) (λ _. refl) no_script)

rest_avoids : (r : ModuleRest) → avoids (Exactly FuncFunc) (module_rest.spell r) ≡ true
unfolding module_rest script_module sequence
rest_avoids (rests.Script q e) = refl
rest_avoids (rests.Nested m e) = refl
rest_avoids (rests.End t) = refl

pub enclosed-exact : IsExact enclosed
unfolding enclosed module_attributes function
enclosed-exact = record-exact _ _ _ (λ _. refl) (λ _. refl)
    (leaf-exact (Exactly lexemes.Module) ⊠ optional-exact (Exactly Attributes) module_attributes-exact (leaf-exact (Exactly OpenBrace) ⊠ many-exact (Exactly FuncFunc) function-exact module_rest-exact (λ _. refl) rest_avoids) (λ _. refl) (λ _. refl))

item_back : (x : AliasLine ⊎ (Enclosed ⊎ Function)) → item_parts (made_item x) ≡ x
item_back (inl a) = refl
item_back (inr (inl m)) = refl
item_back (inr (inr f)) = refl

item_forth : (i : Item) → made_item (item_parts i) ≡ i
item_forth (items.Alias a) = refl
item_forth (items.Module m) = refl
item_forth (items.Function f) = refl

unnamed : (x : Enclosed ⊎ Function) → avoids classes.Alias ((either (Exactly lexemes.Module) enclosed function).spell x) ≡ true
unfolding enclosed function
unnamed (inl m) = refl
unnamed (inr f) = refl

pub item-exact : IsExact item
unfolding item alias_line enclosed function
item-exact = record-exact _ _ _ item_back item_forth
    (either-exact classes.Alias alias_line-exact (either-exact (Exactly lexemes.Module) enclosed-exact function-exact (λ _. refl) (λ _. refl)) (λ _. refl) unnamed)

pub item_begins : (i : Item) → begins ItemStart (item.spell i) ≡ true
unfolding item alias_line enclosed function
item_begins (items.Alias a) = refl
item_begins (items.Module m) = refl
item_begins (items.Function f) = refl

pub text-whole : IsWhole text
unfolding text
text-whole = record-whole _ _ _ (λ _. refl) (λ _. refl) (all-whole ItemStart item-exact item_begins)
