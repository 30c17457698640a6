-- The canonical text of a module.
use Rattle.std.specs.Prelude.{ℕ, List, [], ◌∷◌, ◌++◌, map, Option, Some, None, codes}
use Rattle.affine_maps.specs.Shape.{MapShape}
use Rattle.mlir_ir.specs.declared.tree.Ty.{Ty}
use Rattle.mlir_ir.specs.declared.tree.ValueId.{ValueId}
use Rattle.mlir_ir.specs.declared.tree.Op.{Op}
use Rattle.mlir_ir.specs.Shape.{FuncShape}
use Rattle.text_format.specs.declared.class.Class.TheVariants.{Exactly, Name, NewValue, Symbol}
use Rattle.text_format.specs.declared.class.Position.TheVariants.{Item as ItemPlace}
use Rattle.text_format.specs.declared.front.Kind.TheVariants as tokens
use Rattle.text_format.specs.declared.lexeme.Lexeme.TheVariants.{OpenParenthesis, CloseParenthesis, OpenBrace, CloseBrace, Comma, Colon, Arrow, Module as ModuleWord, FuncFunc, Attributes, WithNamedSequence}
use Rattle.text_format.specs.Pieces.{Gap, Fixed, bytes_of}
use Rattle.mlir_syntax.specs.declared.tree.files.Param.{Param}
use Rattle.mlir_syntax.specs.declared.tree.operations.Statement.{Statement}
use Rattle.mlir_syntax.specs.declared.tree.files.NextResult.{NextResult}
use Rattle.mlir_syntax.specs.declared.tree.files.ResultTypes.{ResultTypes}
use Rattle.mlir_syntax.specs.declared.tree.files.ResultTypes.TheVariants.{One, Several}
use Rattle.mlir_syntax.specs.declared.tree.files.Function.{Function}
use Rattle.mlir_syntax.specs.declared.tree.files.ScriptModule.{ScriptModule}
use Rattle.mlir_syntax.specs.declared.tree.files.ModuleRest.{ModuleRest}
use Rattle.mlir_syntax.specs.declared.tree.files.ModuleRest.TheVariants as rests
use Rattle.mlir_syntax.specs.declared.tree.files.Enclosed.{Enclosed}
use Rattle.mlir_syntax.specs.declared.tree.files.Item.{Item}
use Rattle.mlir_syntax.specs.declared.tree.files.Item.TheVariants as items
use Rattle.mlir_syntax.specs.declared.tree.files.Text.{Text}
use Rattle.text_format.specs.Token.{TokenShape}
use Rattle.script_read.specs.declared.script.Script.{Script}
use Rattle.script_text.specs.Canonical.{sequence_at}
use Rattle.mlir_file.specs.declared.file.File.{File}
use Rattle.mlir_print.specs.declared.names.Given.TheVariants.{Argument}
use Rattle.mlir_print.specs.Types.{ty_text}
use Rattle.mlir_print.specs.Names.{Names, nothing, given_text, with_argument}
use Rattle.mlir_print.specs.Maps.{with_funcs, alias_lines_at}
use Rattle.mlir_print.specs.Returns.{type_at, Ending, no_ending, closed_at}
use Rattle.mlir_print.specs.Operations.{line_at, last_at, next}
use Rattle.text_format.specs.Writers.{Writer, put, keep, lay, gap, space, lay_after, pair, made, each_of, commas, ◌▷◌}

-- ---- functions (MLIR Func dialect, "func.func")

abbrev pub param_at : Names → Ty → Writer Param
param_at n ty = made (λ x. record { name = x.0; ty = x.1 }) ▷ pair (put NewValue tokens.Value (given_text (Argument n.args))) ▷ lay Colon ▷ space ▷ type_at (ty_text ty)

abbrev pub params_at : Names → List (ValueId × Ty) → List (Writer Param)
params_at n [] = []
params_at n (p ∷ ps) = param_at n p.1 ∷ params_at (with_argument n p.0 p.1) ps

abbrev pub after_params : Names → List (ValueId × Ty) → Names
after_params n [] = n
after_params n (p ∷ ps) = after_params (with_argument n p.0 p.1) ps

abbrev pub after_ops : Names → List Op → Names
after_ops n [] = n
after_ops n (o ∷ os) = after_ops (next n o) os

-- the operations before the last, and the last with the brace behind it, each on a line of its own
abbrev pub Body : Type 0
Body = List Statement × Ending

abbrev pub with_first : Statement → Body → Body
with_first s b = (s ∷ b.0, b.1)

abbrev pub body_at : List MapShape → Names → List Op → Writer Body
body_at aliases n [] = record { pieces = closed_at.pieces; tree = λ at. ([], no_ending at) }
body_at aliases n (o ∷ []) = gap (codes "\n    ") ▷ made (λ e. ([], e)) (last_at aliases n o.results o.kind)
body_at aliases n (o ∷ (p ∷ os)) = gap (codes "\n    ") ▷ made (λ x. with_first x.0 x.1) ▷ pair (line_at aliases n o.results o.kind) (body_at aliases (next n o) (p ∷ os))

abbrev pub next_result_at : Ty → Writer NextResult
next_result_at t = made (λ x. record { ty = x }) ▷ lay Comma ▷ space ▷ type_at (ty_text t)

-- nothing, ` -> T` or ` -> (T, T)`
abbrev pub results_at : List Ty → Writer (Option ResultTypes)
results_at [] = record { pieces = []; tree = λ at. None }
results_at (t ∷ []) = made (λ x. Some (One x)) ▷ space ▷ lay Arrow ▷ space ▷ type_at (ty_text t)
results_at (t ∷ (u ∷ ts)) = made (λ x. Some (Several (record { first = x.0; second = x.1.0; more = x.1.1 }))) ▷ space ▷ lay Arrow ▷ space ▷ lay OpenParenthesis ▷
    pair (type_at (ty_text t)) ▷ lay Comma ▷ space ▷ pair (type_at (ty_text u)) ▷ lay_after (each_of (map next_result_at ts)) (Fixed CloseParenthesis ∷ [])

abbrev pub names_in : FuncShape → Names
names_in f = after_params nothing f.params

abbrev pub function_at : List MapShape → FuncShape → Writer Function
function_at aliases f = made (λ x. record { keyword = x.0; name = x.1.0; params = x.1.1.0; results = x.1.1.1.0; statements = x.1.1.1.1.0; return_name = x.1.1.1.1.1.0; returned = x.1.1.1.1.1.1 }) ▷
    pair (keep (Name ItemPlace) FuncFunc) ▷ space ▷ pair (put Symbol tokens.Symbol (codes "@" ++ f.name)) ▷ lay OpenParenthesis ▷ pair (commas (params_at nothing f.params)) ▷ lay CloseParenthesis ▷
    pair (results_at f.results) ▷ space ▷ lay OpenBrace ▷ body_at aliases (names_in f) f.body

-- ---- modules (MLIR Builtin dialect, "builtin.module"; LangRef, "Top level Productions")

-- each function begins a line
abbrev pub functions_at : List MapShape → List FuncShape → List (Writer Function)
functions_at aliases fs = map (λ f. gap (codes "\n  ") (function_at aliases f)) fs

-- a script, in a module of its own
abbrev pub script_module_at : Script → Writer ScriptModule
script_module_at s = made (λ x. record { keyword = x.0; script = x.1 }) ▷ pair (keep Exactly ModuleWord) ▷ space ▷ lay Attributes ▷ space ▷ lay OpenBrace ▷ lay WithNamedSequence ▷ lay CloseBrace ▷ space ▷ lay OpenBrace ▷
    gap (codes "\n    ") ▷ lay_after (sequence_at 2 s) (Gap (codes "\n  ") ∷ Fixed CloseBrace ∷ [])

-- the brace that closes the module
abbrev pub closing_at : Writer TokenShape
closing_at = gap (codes "\n") ▷ lay_after (keep (Name ItemPlace) CloseBrace) (Gap (codes "\n") ∷ [])

-- what stands behind the functions of a module
abbrev pub rest_at : Option Script → Writer ModuleRest
rest_at None = made rests.End closing_at
rest_at (Some s) = made (λ x. rests.Nested x.0 (record { functions = []; close = x.1 })) ▷ pair (gap (codes "\n  ") (script_module_at s)) closing_at

abbrev pub module_at : List MapShape → List FuncShape → Option Script → Writer Enclosed
module_at aliases fs script = made (λ x. record { keyword = x.0; attributes = None; brace = x.1.0; functions = x.1.1.0; rest = x.1.1.1 }) ▷
    pair (keep Exactly ModuleWord) ▷ space ▷ pair (keep Exactly OpenBrace) ▷ pair (each_of (functions_at aliases fs)) ▷ rest_at script

-- ---- files

-- the aliases of maps that are used, in the order of first use, and then the module
abbrev pub items_at : List MapShape → List FuncShape → Option Script → List (Writer Item)
items_at aliases fs script = map (made items.Alias) (alias_lines_at 0 aliases) ++ made items.Module (module_at aliases fs script) ∷ []

abbrev pub text_with : List MapShape → List FuncShape → Option Script → Writer Text
text_with aliases fs script = made (λ is. record { items = is }) (each_of (items_at aliases fs script))

abbrev pub aliases_of : File → List MapShape
aliases_of f = with_funcs [] f.module.funcs

abbrev pub text_at : File → Writer Text
text_at f = text_with (aliases_of f) f.module.funcs f.script

unfoldable pub text_of : File → List ℕ
text_of f = bytes_of (text_at f).pieces
