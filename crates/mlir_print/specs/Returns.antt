-- Values between commas, and returns as they are written (MLIR Func dialect, "func.return").
use Rattle.std.specs.Prelude.{ℕ, List, [], ◌∷◌, ◌++◌, map, codes}
use Rattle.mlir_ir.specs.declared.tree.ValueId.{ValueId}
use Rattle.mlir_ir.specs.declared.tree.OpKind.{OpKind}
use Rattle.mlir_ir.specs.declared.tree.OpKind.TheVariants as kinds
use Rattle.text_format.specs.declared.class.Class.TheVariants.{Exactly, Name, Value, TensorType}
use Rattle.text_format.specs.declared.class.Position.TheVariants.{Statement as StatementPlace}
use Rattle.text_format.specs.declared.front.Kind.TheVariants as tokens
use Rattle.text_format.specs.declared.lexeme.Lexeme.TheVariants.{CloseBrace, Comma, Colon, Return as ReturnWord}
use Rattle.text_format.specs.Token.{TokenShape}
use Rattle.mlir_syntax.specs.declared.tree.files.ReturnName.{ReturnName}
use Rattle.mlir_syntax.specs.declared.tree.files.ReturnName.TheVariants.{Short}
use Rattle.mlir_syntax.specs.declared.tree.files.NextValue.{NextValue}
use Rattle.mlir_syntax.specs.declared.tree.files.ReturnType.{ReturnType}
use Rattle.mlir_syntax.specs.declared.tree.files.ReturnedValues.{ReturnedValues}
use Rattle.mlir_syntax.specs.declared.tree.files.Returned.{Returned}
use Rattle.mlir_syntax.specs.declared.tree.files.Returned.TheVariants.{Nothing, Values}
use Rattle.mlir_print.specs.Names.{Row, name_in, type_in}
use Rattle.text_format.specs.Writers.{Writer, put, keep, lay, gap, space, lay_after, pair, made, each_of, unbuilt, unbuilt_text, no_token, ◌▷◌}

-- ---- the bytes

-- between commas; `before` stands before the first
abbrev pub values_text : List Row → List ℕ → List ValueId → List ℕ
values_text rows before [] = []
values_text rows before (v ∷ vs) = before ++ (name_in rows v ++ values_text rows (codes ", ") vs)

abbrev pub types_text : List Row → List ℕ → List ValueId → List ℕ
types_text rows before [] = []
types_text rows before (v ∷ vs) = before ++ (type_in rows v ++ types_text rows (codes ", ") vs)

abbrev pub returned_text : List Row → List ValueId → List ℕ
returned_text rows [] = codes "return"
returned_text rows (v ∷ vs) = codes "return " ++ (values_text rows [] (v ∷ vs) ++ (codes " : " ++ types_text rows [] (v ∷ vs)))

abbrev pub return_text : List Row → OpKind → List ℕ
return_text rows (kinds.Return vs) = returned_text rows vs
return_text rows k = unbuilt_text

-- ---- the end of a function: the return's name, its values, and the brace behind them

abbrev pub type_at : List ℕ → Writer TokenShape
type_at text = put TensorType tokens.Shaped text

abbrev pub Ending : Type 0
Ending = ReturnName × Returned

abbrev pub no_ending : ℕ → Ending
no_ending at = (Short (no_token at), Nothing (no_token at))

-- the brace on a line of its own
abbrev pub closed_at : Writer TokenShape
closed_at = gap (codes "\n  ") ▷ keep Exactly CloseBrace

abbrev pub next_value_at : List Row → ValueId → Writer NextValue
next_value_at rows v = made (λ t. record { name = t }) ▷ lay Comma ▷ space ▷ put Value tokens.Value (name_in rows v)

abbrev pub return_type_at : List Row → ValueId → Writer ReturnType
return_type_at rows v = made (λ x. record { comma = x.0; ty = x.1 }) ▷ pair (keep Exactly Comma) ▷ space ▷ type_at (type_in rows v)

-- `%0, %1 : T, T` and the brace
abbrev pub values_at : List Row → ValueId → List ValueId → Writer ReturnedValues
values_at rows v vs = made (λ x. record { first = x.0; more = x.1.0; first_type = x.1.1.0; more_types = x.1.1.1.0; close = x.1.1.1.1 }) ▷
    pair (put Value tokens.Value (name_in rows v)) ▷ pair (each_of (map (next_value_at rows) vs)) ▷ space ▷ lay Colon ▷ space ▷
    pair (type_at (type_in rows v)) ▷ pair (each_of (map (return_type_at rows) vs)) ▷ closed_at

abbrev pub return_word_at : Writer ReturnName
return_word_at = made Short (keep (Name StatementPlace) ReturnWord)

-- `return %0, %1 : T, T` or `return`, and the brace
abbrev pub returned_at : List Row → List ValueId → Writer Ending
returned_at rows [] = pair return_word_at (made Nothing closed_at)
returned_at rows (v ∷ vs) = pair return_word_at ▷ space ▷ made Values (values_at rows v vs)

abbrev pub return_at : List Row → OpKind → Writer Ending
return_at rows (kinds.Return vs) = returned_at rows vs
return_at rows k = lay_after (unbuilt no_ending) closed_at.pieces
