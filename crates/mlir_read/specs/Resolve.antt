-- What a tree stands for, or its first fault: one chain in the order of the tokens.
-- Operations and values are numbered 0, 1 and so on through all functions, in the order in which they are defined.
use Rattle.std.specs.Prelude.{ℕ, ◌*◌, ◌≤◌, suc, Bool, true, false, not, ◌&&◌, List, [], ◌∷◌, ◌++◌, map, drop, Result, Ok, Err, Option, Some, None, is_none, is_some, nat_lt}
use Rattle.std.specs.List.{list_all}
use Rattle.mlir_ir.specs.declared.tree.Ty.{Ty}
use Rattle.mlir_ir.specs.declared.tree.ValueId.{ValueId}
use Rattle.mlir_ir.specs.declared.tree.OpKind.TheVariants as kinds
use Rattle.mlir_ir.specs.declared.tree.Op.{Op}
use Rattle.mlir_base.specs.declared.limit.Which.TheVariants as limits
use Rattle.mlir_ir.specs.Shape.{FuncShape}
use Rattle.text_format.specs.Token.{TokenShape}
use Rattle.mlir_syntax.specs.declared.tree.files.AliasLine.{AliasLine}
use Rattle.mlir_syntax.specs.declared.tree.files.ReturnName.{ReturnName}
use Rattle.mlir_syntax.specs.declared.tree.files.ReturnName.TheVariants.{Short, Long}
use Rattle.mlir_syntax.specs.declared.tree.files.ResultTypes.{ResultTypes}
use Rattle.mlir_syntax.specs.declared.tree.files.ResultTypes.TheVariants.{One, Several}
use Rattle.mlir_syntax.specs.declared.tree.files.NextValue.{NextValue}
use Rattle.mlir_syntax.specs.declared.tree.files.ReturnType.{ReturnType}
use Rattle.mlir_syntax.specs.declared.tree.files.ReturnedValues.{ReturnedValues}
use Rattle.mlir_syntax.specs.declared.tree.files.Returned.{Returned}
use Rattle.mlir_syntax.specs.declared.tree.files.Returned.TheVariants.{Nothing, Values}
use Rattle.mlir_syntax.specs.declared.tree.files.Function.{Function}
use Rattle.mlir_syntax.specs.declared.tree.files.ModuleAttributes.{ModuleAttributes}
use Rattle.mlir_syntax.specs.declared.tree.files.ModuleRest.{ModuleRest}
use Rattle.mlir_syntax.specs.declared.tree.files.ModuleRest.TheVariants as rests
use Rattle.mlir_syntax.specs.declared.tree.files.Enclosed.{Enclosed}
use Rattle.mlir_syntax.specs.declared.tree.files.Item.{Item}
use Rattle.mlir_syntax.specs.declared.tree.files.Item.TheVariants as items
use Rattle.mlir_syntax.specs.declared.tree.files.Text.{Text}
use Rattle.script_syntax.specs.declared.tree.lines.Sequence.{Sequence}
use Rattle.script_read.specs.declared.script.Script.{Script}
use Rattle.script_read.specs.Resolve as scripts
use Rattle.mlir_file.specs.declared.file.File.{File}
use Rattle.mlir_scope.specs.declared.names.Scope.{Scope}
use Rattle.mlir_read.specs.declared.files.Stage.{Stage}
use Rattle.mlir_read.specs.declared.files.Stage.TheVariants.{Start, Functions, Scripted, Closed}
use Rattle.mlir_read.specs.declared.files.FileScope.{FileScope}
use Rattle.mlir_lex.specs.declared.fault.Fault.{Fault}
use Rattle.mlir_lex.specs.declared.fault.Fault.TheVariants.{Syntax, Twice, Limit}
use Rattle.mlir_lex.specs.Chain.{and_then, demand, each, thread}
use Rattle.mlir_scope.specs.Names.{Entry, place}
use Rattle.mlir_scope.specs.Maps.{AliasShape, alias_in}
use Rattle.mlir_scope.specs.Types.{type_at}
use Rattle.mlir_scope.specs.Scope.{value_id, typed_as, params_of}
use Rattle.mlir_resolve.specs.Operations.{statements_of, room}

-- ---- names

abbrev pub is_ascii : ℕ → Bool
is_ascii b = nat_lt b 128

abbrev pub named : ℕ → List ℕ → Result (List ℕ) Fault
named at name = and_then (demand (list_all is_ascii name) (Syntax at)) (λ _. Ok name)

-- a symbol without its @
abbrev pub symbol_of : TokenShape → List ℕ
symbol_of t = drop 1 t.text

-- each byte of a symbol is ASCII
abbrev pub name_of : TokenShape → Result (List ℕ) Fault
name_of t = named t.start (symbol_of t)

-- the name, which stands at a place, is none of these
abbrev pub unknown : List (List ℕ) → ℕ → List ℕ → Result (Unit {0}) Fault
unknown names at name = demand (is_none (place 0 names name)) (Twice at)

-- ---- results

-- result k of a function
abbrev pub result_at : ℕ → TokenShape → Result Ty Fault
result_at k t = and_then (demand (nat_lt k 16) (Limit limits.Results t.start)) (λ _. type_at t)

abbrev pub results_from : ℕ → List TokenShape → Result (List Ty) Fault
results_from k [] = Ok []
results_from k (t ∷ ts) = and_then (result_at k t) (λ ty. and_then (results_from (suc k) ts) (λ tys. Ok (ty ∷ tys)))

abbrev pub types_in : Option ResultTypes → List TokenShape
types_in None = []
types_in (Some (One t)) = t ∷ []
types_in (Some (Several s)) = s.first ∷ s.second ∷ map (λ n. n.ty) s.more

abbrev pub results_of : Option ResultTypes → Result (List Ty) Fault
results_of r = results_from 0 (types_in r)

-- ---- the return

abbrev pub word_in : ReturnName → TokenShape
word_in (Short t) = t
word_in (Long t) = t

-- the numbers of the values that are returned
abbrev pub value_ids : List Entry → ReturnedValues → Result (List ValueId) Fault
value_ids env r = and_then (value_id env r.first) (λ v. and_then (each (λ n. value_id env n.name) r.more) (λ vs. Ok (v ∷ vs)))

-- the types behind the first, one for each value; `close` ends them
abbrev pub more_return_types : TokenShape → List Entry → List NextValue → List ReturnType → Result (Unit {0}) Fault
more_return_types close env [] [] = Ok tt
more_return_types close env [] (t ∷ ts) = Err (Syntax t.comma.start)
more_return_types close env (n ∷ ns) [] = Err (Syntax close.start)
more_return_types close env (n ∷ ns) (t ∷ ts) = and_then (typed_as env n.name t.ty) (λ _. more_return_types close env ns ts)

-- the values that are returned, where the types that are written are theirs
abbrev pub returned_of : List Entry → Returned → Result (List ValueId) Fault
returned_of env (Nothing close) = Ok []
returned_of env (Values r) =
    and_then (value_ids env r) (λ vs. and_then (typed_as env r.first r.first_type) (λ _. and_then (more_return_types r.close env r.more r.more_types) (λ _. Ok vs)))

-- the return is the last operation
abbrev pub return_of : Scope → ReturnName → Returned → Result Op Fault
return_of s name r =
    and_then (room s.ops (word_in name)) (λ _. and_then (returned_of s.env r) (λ vs.
    Ok (record { id = record { 0 = s.ops }; results = []; kind = kinds.Return vs })))

-- ---- functions

-- a function's own scope: no names, and the next numbers
abbrev pub opened : FileScope → Scope
opened s = record { env = []; values = s.values; ops = s.ops }

-- behind a function of this name, at whose return its own scope was this one
abbrev pub closed : FileScope → List ℕ → Scope → FileScope
closed s name inner = record { stage = s.stage; aliases = s.aliases; functions = s.functions ++ name ∷ []; values = inner.values; ops = suc inner.ops; script = s.script }

abbrev pub body_of : List AliasShape → Scope → Function → Result (Scope × List Op) Fault
body_of aliases s f =
    and_then (statements_of aliases s f.statements) (λ b. and_then (return_of b.0 f.return_name f.returned) (λ last. Ok (b.0, b.1 ++ last ∷ [])))

abbrev pub function_of : FileScope → Function → Result (FileScope × FuncShape) Fault
function_of s f =
    and_then (name_of f.name) (λ name.
    and_then (unknown s.functions f.name.start (symbol_of f.name)) (λ _.
    and_then (params_of (opened s) f.params) (λ p.
    and_then (results_of f.results) (λ results.
    and_then (body_of s.aliases p.0 f) (λ b.
    Ok (closed s (symbol_of f.name) b.0, record { name = name; params = p.1; results = results; body = b.1 }))))))

abbrev pub functions_of : FileScope → List Function → Result (FileScope × List FuncShape) Fault
functions_of s fs = thread function_of s fs

-- ---- items

abbrev pub alias_of : FileScope → AliasLine → Result FileScope Fault
alias_of s a =
    and_then (alias_in s.aliases a) (λ x. Ok (record { stage = s.stage; aliases = s.aliases ++ x ∷ []; functions = s.functions; values = s.values; ops = s.ops; script = s.script }))

abbrev pub is_closed : Stage → Bool
is_closed Start = false
is_closed Functions = false
is_closed Scripted = false
is_closed Closed = true

abbrev pub at_stage : FileScope → Stage → FileScope
at_stage s stage = record { stage = stage; aliases = s.aliases; functions = s.functions; values = s.values; ops = s.ops; script = s.script }

-- behind a function
abbrev pub function_stage : Stage → Stage
function_stage Start = Functions
function_stage Functions = Functions
function_stage Scripted = Scripted
function_stage Closed = Closed

abbrev pub is_none_of : List Function → Bool
is_none_of [] = true
is_none_of (f ∷ fs) = false

abbrev pub is_script_alone : ModuleRest → Bool
is_script_alone (rests.End t) = false
is_script_alone (rests.Script q e) = is_none_of e.functions
is_script_alone (rests.Nested m e) = false

-- a module that holds a script alone, which may stand beside functions
abbrev pub is_script_module : Enclosed → Bool
is_script_module m = is_some m.attributes && is_none_of m.functions && is_script_alone m.rest

abbrev pub first_stage : Bool → Stage
first_stage true = Scripted
first_stage false = Closed

-- behind a module
abbrev pub module_stage : Stage → Enclosed → Stage
module_stage Start m = first_stage (is_script_module m)
module_stage Functions m = Scripted
module_stage Scripted m = Scripted
module_stage Closed m = Closed

-- ---- scripts

abbrev pub holding : FileScope → Script → FileScope
holding s x = record { stage = s.stage; aliases = s.aliases; functions = s.functions; values = s.values; ops = s.ops; script = Some x }

abbrev pub with_script : FileScope → Sequence → Result FileScope Fault
with_script s q = and_then (scripts.resolve q) (λ x. Ok (holding s x))

-- a script stands in a module with the attribute
abbrev pub may_hold : Option ModuleAttributes → ModuleRest → Result (Unit {0}) Fault
may_hold (Some a) r = Ok tt
may_hold None (rests.Script q e) = Err (Syntax q.keyword.start)
may_hold None (rests.Nested m e) = Ok tt
may_hold None (rests.End t) = Ok tt

abbrev pub rest_of : FileScope → ModuleRest → Result (FileScope × List FuncShape) Fault
rest_of s (rests.End t) = Ok (s, [])
rest_of s (rests.Script q e) = and_then (with_script s q) (λ t. functions_of t e.functions)
rest_of s (rests.Nested m e) = and_then (with_script s m.script) (λ t. functions_of t e.functions)

-- what stands behind a module's first functions
abbrev pub behind_functions : Enclosed → FileScope → Result (FileScope × List FuncShape) Fault
behind_functions m s = and_then (may_hold m.attributes m.rest) (λ _. rest_of s m.rest)

-- these, and what goes on from them
abbrev pub joined : Result (FileScope × List FuncShape) Fault → (FileScope → Result (FileScope × List FuncShape) Fault) → Result (FileScope × List FuncShape) Fault
joined r f = and_then r (λ q. and_then (f q.0) (λ p. Ok (p.0, q.1 ++ p.1)))

-- the first module of a text: functions, and at most one script
abbrev pub outer_of : FileScope → Enclosed → Result (FileScope × List FuncShape) Fault
outer_of s m = joined (functions_of s m.functions) (behind_functions m)

abbrev pub has_attributes : Option ModuleAttributes → TokenShape → Result (Unit {0}) Fault
has_attributes None brace = Err (Syntax brace.start)
has_attributes (Some a) brace = Ok tt

abbrev pub no_function : List Function → Result (Unit {0}) Fault
no_function [] = Ok tt
no_function (f ∷ fs) = Err (Syntax f.keyword.start)

abbrev pub alone_of : FileScope → ModuleRest → Result FileScope Fault
alone_of s (rests.End t) = Err (Syntax t.start)
alone_of s (rests.Script q e) = and_then (with_script s q) (λ t. and_then (no_function e.functions) (λ _. Ok t))
alone_of s (rests.Nested m e) = Err (Syntax m.keyword.start)

-- a module behind a function: a script alone
abbrev pub later_of : FileScope → Enclosed → Result FileScope Fault
later_of s m = and_then (has_attributes m.attributes m.brace) (λ _. and_then (no_function m.functions) (λ _. alone_of s m.rest))

-- a module at this stage
abbrev pub module_of : Stage → FileScope → Enclosed → Result (FileScope × List FuncShape) Fault
module_of Start s m = outer_of (at_stage s (module_stage Start m)) m
module_of Functions s m = and_then (later_of (at_stage s Scripted) m) (λ t. Ok (t, []))
module_of Scripted s m = Err (Syntax m.keyword.start)
module_of Closed s m = Err (Syntax m.keyword.start)

-- ---- texts

-- behind a module stands no function, unless it holds a script alone, and behind a script or a closed module no module
abbrev pub item_of : FileScope → Item → Result (FileScope × List FuncShape) Fault
item_of s (items.Alias a) = and_then (alias_of s a) (λ t. Ok (t, []))
item_of s (items.Function f) =
    and_then (demand (not (is_closed s.stage)) (Syntax f.keyword.start)) (λ _. and_then (function_of (at_stage s (function_stage s.stage)) f) (λ r. Ok (r.0, r.1 ∷ [])))
item_of s (items.Module m) = module_of s.stage s m

abbrev pub items_of : FileScope → List Item → Result (FileScope × List FuncShape) Fault
items_of s [] = Ok (s, [])
items_of s (i ∷ is) = joined (item_of s i) (λ t. items_of t is)

abbrev pub start : FileScope
start = record { stage = Start; aliases = []; functions = []; values = 0; ops = 0; script = None }

-- the functions and the script of a text
abbrev pub resolve : Text → Result File Fault
resolve t = and_then (items_of start t.items) (λ r. Ok (record { «module» = record { funcs = r.1 }; script = r.0.script }))

-- the numbers of a file's values fit
pub record IsFileSound (s : FileScope) : Type 0 where
  pub few : s.values ≤ 65 * s.ops
  pub ops : s.ops ≤ 65536
