-- The files that are read are printable, and have the numbers of their canonical text.
use Rattle.std.proofs.Common.{◌≡◌, ◌<◌, ◌≤◌, subst, ℕ, ◌+◌, suc, Bool, true, not, is_none, List, [], ◌∷◌, ◌++◌, length, map, Option, Some, None, Ok, refl, sym, ap, ◌∙◌, length-append, arith, nat_lt, append_assoc}
use Rattle.std.specs.Prelude.{is_none}
use Rattle.std.specs.List.{AllByRecursion, list_all}
use Rattle.std.proofs.lemmas.Bool.{ltb-true}
use Rattle.mlir_ir.specs.declared.tree.Ty.{Ty}
use Rattle.mlir_ir.specs.declared.tree.ValueId.{ValueId}
use Rattle.mlir_ir.specs.declared.tree.OpKind.TheVariants as kinds
use Rattle.mlir_ir.specs.declared.tree.Op.{Op}
use Rattle.mlir_base.specs.declared.limit.Which.TheVariants as limits
use Rattle.mlir_ir.specs.Shape.{FuncShape}
use Rattle.text_format.specs.Token.{TokenShape}
use Rattle.text_format.specs.Types.{is_word}
use Rattle.text_format.specs.Formats.{spell_many}
use Rattle.mlir_syntax.specs.Operations as operation_grammar
use Rattle.mlir_syntax.specs.Files as file_grammar
use Rattle.mlir_syntax.specs.declared.tree.files.Param.{Param}
use Rattle.mlir_syntax.specs.declared.tree.operations.Statement.{Statement}
use Rattle.mlir_syntax.specs.declared.tree.files.NextValue.{NextValue}
use Rattle.mlir_syntax.specs.declared.tree.files.ReturnName.{ReturnName}
use Rattle.mlir_syntax.specs.declared.tree.files.ReturnType.{ReturnType}
use Rattle.mlir_syntax.specs.declared.tree.files.ReturnedValues.{ReturnedValues}
use Rattle.mlir_syntax.specs.declared.tree.files.Returned.{Returned}
use Rattle.mlir_syntax.specs.declared.tree.files.Returned.TheVariants.{Nothing, Values}
use Rattle.mlir_syntax.specs.declared.tree.files.Function.{Function}
use Rattle.mlir_syntax.specs.declared.tree.files.Item.{Item}
use Rattle.mlir_syntax.specs.declared.tree.files.Item.TheVariants as items
use Rattle.mlir_syntax.specs.declared.tree.files.Text.{Text}
use Rattle.mlir_lex.specs.declared.fault.Fault.TheVariants.{Limit, Syntax, Twice}
use Rattle.mlir_scope.specs.declared.names.Meaning.{Meaning}
use Rattle.mlir_scope.specs.declared.names.Meaning.TheVariants.{Held}
use Rattle.mlir_scope.specs.declared.names.Scope.{Scope}
use Rattle.mlir_read.specs.declared.files.Stage.TheVariants.{Functions, Closed, Start, Scripted}
use Rattle.mlir_read.specs.declared.files.FileScope.{FileScope}
use Rattle.mlir_scope.specs.Maps.{AliasShape, AreMaps, tokens_of, has_symbols, written_map, aliased as alias_named, alias_in}
use Rattle.mlir_scope.specs.Names.{Entry, entry, place}
use Rattle.mlir_lex.specs.Chain.{and_then, demand, each, thread}
use Rattle.mlir_scope.specs.Types.{type_at}
use Rattle.mlir_scope.specs.Scope.{held, IsHeld, fresh, value_id, typed_as, with_value, param_of, params_of}
use Rattle.mlir_resolve.specs.Constants.{result_meaning}
use Rattle.mlir_resolve.specs.Operations.{kind_of, name_in, operation_of, numbered, statement_of, statements_of, room as op_room}
use Rattle.mlir_read.specs.Resolve.{is_ascii, symbol_of, name_of, unknown, result_at, results_from, types_in, results_of, word_in, value_ids, more_return_types, returned_of, return_of, opened, closed, body_of, function_of, functions_of, alias_of, is_closed, at_stage, item_of, items_of, start, resolve, function_stage, module_stage, holding, with_script, may_hold, rest_of, behind_functions, outer_of, has_attributes, no_function, alone_of, later_of, module_of}
use Rattle.mlir_scope.proofs.Keeps.{then_ok}
use Rattle.affine_maps.specs.Shape.{MapShape}
use Rattle.mlir_syntax.specs.declared.tree.files.AliasLine.{AliasLine}
use Rattle.affine_maps.specs.Map.{IsMap}
use Rattle.mlir_scope.proofs.MapsFit.{read_is_map, maps_append}
use Rattle.mlir_resolve.proofs.Results.{kind_fits}
use Rattle.mlir_print.specs.declared.names.Given.{Given}
use Rattle.mlir_print.specs.declared.names.Given.TheVariants.{Argument, Result}
use Rattle.mlir_print.specs.Names.{Names, Row, row_of, nothing, with_argument}
use Rattle.mlir_print.specs.Operations.{names_after, next}
use Rattle.mlir_print.specs.Canonical.{after_params, after_ops}
use Rattle.mlir_print.specs.Renumbered.{number_in, kind_renumbered, results_renumbered, op_renumbered, ops_renumbered, func_renumbered, values_in, funcs_renumbered}
use Rattle.mlir_roundtrip.specs.Printable.{IsTensorType, IsTensorValue, IsPrintableLine, IsPrintableReturn, ArePrintableOps, ArePrintableParams, ArePrintableResults, IsPrintableFunc, ArePrintable, AreNew, operations_in, IsPrintable, IsPrintableScript}
use Rattle.mlir_roundtrip.proofs.ReadTypes.{ok_same, demanded, type_row}
use Rattle.mlir_roundtrip.proofs.Values.{Reads, meaning_held, reads_more}
use Rattle.mlir_roundtrip.proofs.Operations.{IsRanked, ranked, value_is, tensor_is, kind_is}
use Rattle.mlir_roundtrip.proofs.Symbols.{AreLeaves, leaves_left, leaves_right, StatementIs, FunctionIs, ItemIs, RestIs}
use Rattle.script_read.specs.declared.script.Script.{Script}
use Rattle.mlir_file.specs.declared.file.File.{File}
use Rattle.std.proofs.lemmas.List.{append-nil}
use Rattle.mlir_syntax.specs.declared.tree.files.ModuleRest.{ModuleRest}
use Rattle.mlir_syntax.specs.declared.tree.files.ModuleRest.TheVariants as rests
use Rattle.mlir_syntax.specs.declared.tree.files.Enclosed.{Enclosed}
use Rattle.script_syntax.specs.declared.tree.lines.Sequence.{Sequence}
use Rattle.script_read.specs.Resolve as scripts
use Rattle.script_roundtrip.proofs.Readable.{ScriptRead, script_taken}
use Rattle.mlir_roundtrip.specs.Numbered.{script_renumbered, renumbered}
use Rattle.mlir_read.specs.declared.files.Stage.{Stage}

length_last : {A : Type 0} (xs : List A) (y : A) → length (xs ++ y ∷ []) ≡ suc (length xs)
length_last xs y = length-append xs (y ∷ []) ∙ omega arith

module _ (base : ℕ) where
  -- where a text stands, behind k operations
  record At (n : Names) (s : Scope) : Type 0 where
    reads : Reads base n.rows s.env
    values : s.values ≡ base + length n.rows

  -- the next value of a type, whose name stands for it
  at_more : (n m : Names) (s t : Scope) (name : List ℕ) (g : Given) (ty : Ty) (mean : Meaning) → At n s → IsHeld mean → ((at : ℕ) → held at (Some mean) ≡ Ok (s.values, ty)) → m.rows ≡ n.rows ++ row_of (record { 0 = s.values }) g ty ∷ [] → t.env ≡ s.env ++ entry name mean ∷ [] → t.values ≡ suc s.values → At m t
  at_more n m s t name g ty mean a h k r e v =
      let x = a.values in
      let rr : m.rows ≡ n.rows ++ row_of (record { 0 = base + length n.rows }) g ty ∷ [] = r ∙ ap (λ k. n.rows ++ row_of (record { 0 = k }) g ty ∷ []) x in
      let kk : (at : ℕ) → held at (Some mean) ≡ Ok (base + length n.rows, ty) = λ at. k at ∙ ap (λ (j : ℕ). Ok (j, ty)) x in
      let len = ap length rr ∙ length_last n.rows (row_of (record { 0 = base + length n.rows }) g ty) in
      record {
        reads = subst (λ (rows : List Row). Reads base rows t.env) (sym rr) (subst (λ (env : List Entry). Reads base (n.rows ++ row_of (record { 0 = base + length n.rows }) g ty ∷ []) env) (sym e) (reads_more base n.rows s.env name g ty mean a.reads h kk));
        values = omega (arith, v, x, len);
      }

  -- ---- parameters

  record ParamRead (n : Names) (s : Scope) (r : Scope × (ValueId × Ty)) : Type 0 where
    at : At (with_argument n r.1.0 r.1.1) r.0
    ty : IsTensorType r.1.1
    number : r.1.0 ≡ record { 0 = base + length n.rows }
    few : length s.env < 64
    env : length r.0.env ≡ suc (length s.env)
    ops : r.0.ops ≡ s.ops

  param_is : (n : Names) (s : Scope) (p : Param) (r : Scope × (ValueId × Ty)) → At n s → param_of s p ≡ Ok r → ParamRead n s r
  param_is n s p r a h =
      let x = then_ok (fresh s.env p.name) _ r h in
      let y = then_ok (demand (nat_lt (length s.env) 64) (Limit limits.Parameters p.name.start)) _ r x.2 in
      let z = then_ok (type_at p.ty) _ r y.2 in
      subst (λ (q : Scope × (ValueId × Ty)). ParamRead n s q) (ok_same (with_value s p.name.text z.0, (record { 0 = s.values }, z.0)) r z.2)
      (record {
        at = at_more n (with_argument n (record { 0 = s.values }) z.0) s (with_value s p.name.text z.0) p.name.text (Argument n.args) z.0 (Held s.values z.0) a tt (λ at. refl) refl refl refl;
        ty = type_row p.ty z.0 z.1;
        number = ap (λ k. record { 0 = k }) a.values;
        few = ltb-true (length s.env) 64 (demanded (nat_lt (length s.env) 64) (Limit limits.Parameters p.name.start) y.0 y.1);
        env = length_last s.env (entry p.name.text (Held s.values z.0));
        ops = refl;
      })

  record ParamsRead (n : Names) (s : Scope) (r : Scope × List (ValueId × Ty)) : Type 0 where
    at : At (after_params n r.1) r.0
    types : ArePrintableParams r.1
    numbers : results_renumbered (base + length n.rows) r.1 ≡ r.1
    few : length s.env + length r.1 ≤ 64
    ops : r.0.ops ≡ s.ops

  first_param : (n : Names) (s : Scope) (r : Scope × (ValueId × Ty)) (q : Scope × List (ValueId × Ty)) → ParamRead n s r → ParamsRead (with_argument n r.1.0 r.1.1) r.0 q → ParamsRead n s (q.0, r.1 ∷ q.1)
  first_param n s r q p m =
      let len = length_last n.rows (row_of r.1.0 (Argument n.args) r.1.1) in
      let few = m.few in
      let env = p.env in
      let z : suc (base + length n.rows) ≡ base + length (n.rows ++ row_of r.1.0 (Argument n.args) r.1.1 ∷ []) = omega (arith, len) in
      record {
        at = m.at;
        types = (p.ty, m.types);
        numbers = ap (λ k. (record { 0 = base + length n.rows }, r.1.1) ∷ results_renumbered k q.1) z ∙ ap (λ ps. (record { 0 = base + length n.rows }, r.1.1) ∷ ps) m.numbers ∙ ap (λ v. (v, r.1.1) ∷ q.1) (sym p.number);
        few = omega (arith, env);
        ops = m.ops ∙ p.ops;
      }

  params_are : (n : Names) (s : Scope) (ps : List Param) (r : Scope × List (ValueId × Ty)) → At n s → length s.env ≤ 64 → params_of s ps ≡ Ok r → ParamsRead n s r
  params_are n s [] r a le h = subst (λ (q : Scope × List (ValueId × Ty)). ParamsRead n s q) (ok_same (s, []) r h) (record { at = a; types = tt; numbers = refl; few = omega arith; ops = refl })
  params_are n s (p ∷ ps) r a le h =
      let x = then_ok (param_of s p) (λ r. and_then (thread param_of r.0 ps) (λ q. Ok (q.0, r.1 ∷ q.1))) r h in
      let y = then_ok (thread param_of x.0.0 ps) (λ q. Ok (q.0, x.0.1 ∷ q.1)) r x.2 in
      let one = param_is n s p x.0 a x.1 in
      let few = one.few in
      let env = one.env in
      let more = params_are (with_argument n x.0.1.0 x.0.1.1) x.0.0 ps y.0 one.at (omega arith) y.1 in
      subst (λ (q : Scope × List (ValueId × Ty)). ParamsRead n s q) (ok_same (y.0.0, x.0.1 ∷ y.0.1) r y.2) (first_param n s x.0 y.0 one more)

  -- ---- statements

  record OpRead (n : Names) (s : Scope) (r : Scope × Op) : Type 0 where
    at : At (next n r.1) r.0
    ops : r.0.ops ≡ suc s.ops
    line : IsPrintableLine n.rows r.1.results r.1.kind
    number : op_renumbered base s.ops n r.1 ≡ r.1

  operation_leaves : (o : Statement) → StatementIs o → AreLeaves (operation_grammar.operation.spell o.operation)
  unfolding operation_grammar.statement
  operation_leaves o w = w.1

  op_is : (alias : List AliasShape) (n : Names) (s : Scope) (o : Statement) (r : Scope × Op) → At n s → AreMaps alias → StatementIs o → statement_of alias s o ≡ Ok r → OpRead n s r
  op_is alias n s o r a usable w h =
      let x = then_ok (fresh s.env o.result) _ r h in
      let y = then_ok (operation_of alias s o.operation) _ r x.2 in
      let room = then_ok (op_room s.ops (name_in o.operation)) (λ _. kind_of alias s.env o.operation) y.0 y.1 in
      let k = kind_is base n.rows s.env a.reads alias o.operation y.0 usable (operation_leaves o w) room.2 in
      let z : length n.rows + base ≡ s.values = omega (arith, a.values) in
      subst (λ (q : Scope × Op). OpRead n s q) (ok_same (numbered s o.result.text y.0) r y.2)
      (record {
        at = at_more n (next n (numbered s o.result.text y.0).1) s (numbered s o.result.text y.0).0 o.result.text (Result n.results) y.0.0 (result_meaning s.values y.0.0 y.0.1) a
            (kind_fits alias s.env s.values o.operation y.0 room.2) (meaning_held s.values y.0.0 y.0.1) refl refl refl;
        ops = refl;
        line = k.printable;
        number = ap (λ v. record { id = record { 0 = s.ops }; results = (record { 0 = v }, y.0.0) ∷ []; kind = kind_renumbered (number_in base n.rows) y.0.1 }) z
            ∙ ap (λ q. record { id = record { 0 = s.ops }; results = (record { 0 = s.values }, y.0.0) ∷ []; kind = q }) k.number;
      })

  -- ---- the return

  record ReturnRead (n : Names) (s : Scope) (o : Op) : Type 0 where
    results : o.results ≡ []
    kind : IsPrintableReturn n.rows o.kind
    number : op_renumbered base s.ops n o ≡ o
    few : s.ops < 65536

  abbrev returning : ℕ → List ValueId → Op
  returning k vs = record { id = record { 0 = k }; results = []; kind = kinds.Return vs }

  record ValuesRead (rows : List Row) (vs : List ValueId) : Type 0 where
    are_defined : AllByRecursion (IsTensorValue rows) vs
    numbers : map (number_in base rows) vs ≡ vs

  value_more : (rows : List Row) (env : List Entry) → Reads base rows env → (t ty : TokenShape) (v : ValueId) (vs : List ValueId) (u : Unit {0}) → IsRanked ty → value_id env t ≡ Ok v → typed_as env t ty ≡ Ok u → ValuesRead rows vs → ValuesRead rows (v ∷ vs)
  value_more rows env r t ty v vs u c h k m =
      let d = value_is base rows env r t v h in
      record {
        are_defined = (tensor_is base rows env r t ty v u c h k, m.are_defined);
        numbers = ap (λ (w : ValueId). w ∷ map (number_in base rows) vs) d.number ∙ ap (λ (us : List ValueId). v ∷ us) m.numbers;
      }

  values_are : (close : TokenShape) (rows : List Row) (env : List Entry) → Reads base rows env → (ns : List NextValue) (ts : List ReturnType) (vs : List ValueId) (u : Unit {0}) → AllByRecursion (λ t. IsRanked t.ty) ts → each (λ n. value_id env n.name) ns ≡ Ok vs
      → more_return_types close env ns ts ≡ Ok u → ValuesRead rows vs
  values_are close rows env r [] ts vs u c h k = subst (λ (us : List ValueId). ValuesRead rows us) (ok_same [] vs h) (record { are_defined = tt; numbers = refl })
  values_are close rows env r (n ∷ ns) [] vs u c h k = absurd (cc k)
  values_are close rows env r (n ∷ ns) (t ∷ ts) vs u c h k =
      let x = then_ok (value_id env n.name) (λ y. and_then (each (λ n. value_id env n.name) ns) (λ ys. Ok (y ∷ ys))) vs h in
      let y = then_ok (each (λ n. value_id env n.name) ns) (λ ys. Ok (x.0 ∷ ys)) vs x.2 in
      let z = then_ok (typed_as env n.name t.ty) (λ _. more_return_types close env ns ts) u k in
      subst (λ (us : List ValueId). ValuesRead rows us) (ok_same (x.0 ∷ y.0) vs y.2) (value_more rows env r n.name t.ty x.0 y.0 z.0 c.0 x.1 z.1 (values_are close rows env r ns ts y.0 u c.1 y.1 z.2))

  ranked_types : (ts : List ReturnType) → AreLeaves (spell_many file_grammar.return_type ts) → AllByRecursion (λ t. IsRanked t.ty) ts
  unfolding file_grammar.return_type
  ranked_types [] h = tt
  ranked_types (t ∷ ts) h = (ranked t.ty h.1.0, ranked_types ts h.1.1)

  returned_types : (t : ReturnedValues) → AreLeaves (file_grammar.returned.spell (Values t)) → IsRanked t.first_type × AllByRecursion (λ t. IsRanked t.ty) t.more_types
  unfolding file_grammar.returned file_grammar.returned_values
  returned_types t h =
      let a = leaves_right (spell_many file_grammar.next_value t.more) _ h.1 in
      (ranked t.first_type a.0, ranked_types t.more_types (leaves_left (spell_many file_grammar.return_type t.more_types) _ a.1))

  returned_are : (rows : List Row) (env : List Entry) → Reads base rows env → (t : Returned) (vs : List ValueId) → AreLeaves (file_grammar.returned.spell t) → returned_of env t ≡ Ok vs → ValuesRead rows vs
  returned_are rows env r (Nothing close) vs w h = subst (λ (us : List ValueId). ValuesRead rows us) (ok_same [] vs h) (record { are_defined = tt; numbers = refl })
  returned_are rows env r (Values t) vs w h =
      let c = returned_types t w in
      let x = then_ok (value_ids env t) _ vs h in
      let y = then_ok (typed_as env t.first t.first_type) _ vs x.2 in
      let z = then_ok (more_return_types t.close env t.more t.more_types) _ vs y.2 in
      let a = then_ok (value_id env t.first) (λ v. and_then (each (λ n. value_id env n.name) t.more) (λ vs. Ok (v ∷ vs))) x.0 x.1 in
      let b = then_ok (each (λ n. value_id env n.name) t.more) (λ vs. Ok (a.0 ∷ vs)) x.0 a.2 in
      subst (λ (us : List ValueId). ValuesRead rows us) (ok_same x.0 vs z.2)
      (subst (λ (us : List ValueId). ValuesRead rows us) (ok_same (a.0 ∷ b.0) x.0 b.2) (value_more rows env r t.first t.first_type a.0 b.0 y.0 c.0 a.1 y.1 (values_are t.close rows env r t.more t.more_types b.0 z.0 c.1 b.1 z.1)))

  return_is : (n : Names) (s : Scope) (name : ReturnName) (t : Returned) (o : Op) → At n s → AreLeaves (file_grammar.returned.spell t) → return_of s name t ≡ Ok o → ReturnRead n s o
  return_is n s name t o a w h =
      let x = then_ok (op_room s.ops (word_in name)) _ o h in
      let y = then_ok (returned_of s.env t) _ o x.2 in
      let v = returned_are n.rows s.env a.reads t y.0 w y.1 in
      subst (λ (q : Op). ReturnRead n s q) (ok_same (returning s.ops y.0) o y.2)
      (record {
        results = refl;
        kind = v.are_defined;
        number = ap (λ u. returning s.ops u) v.numbers;
        few = ltb-true s.ops 65536 (demanded (nat_lt s.ops 65536) (Limit limits.Operations (word_in name).start) x.0 x.1);
      })

  -- ---- bodies

  cons_ops : (n : Names) (o : Op) (rest : List Op) → 0 < length rest → IsPrintableLine n.rows o.results o.kind → ArePrintableOps (next n o) rest → ArePrintableOps n (o ∷ rest)
  cons_ops n o [] lt k h = absurd (omega arith)
  cons_ops n o (p ∷ os) lt k h = (k, h)

  -- the operations that come from a scope, and the scope behind them
  record BodyRead (n : Names) (s : Scope) (r : Scope × List Op) : Type 0 where
    ops : ArePrintableOps n r.1
    numbers : ops_renumbered base s.ops n r.1 ≡ r.1
    few : s.ops + length r.1 ≤ 65536
    some : 0 < length r.1
    values : r.0.values ≡ base + length (after_ops n r.1).rows
    last : suc r.0.ops ≡ s.ops + length r.1

  first_op : (n : Names) (s t u : Scope) (o : Op) (os : List Op) → OpRead n s (t, o) → BodyRead (next n o) t (u, os) → BodyRead n s (u, o ∷ os)
  first_op n s t u o os p b =
      let few = b.few in
      let e = p.ops in
      let last = b.last in
      record {
        ops = cons_ops n o os b.some p.line b.ops;
        numbers = ap (λ k. op_renumbered base s.ops n o ∷ ops_renumbered base k (next n o) os) (sym p.ops) ∙ ap (λ xs. op_renumbered base s.ops n o ∷ xs) b.numbers ∙ ap (λ q. q ∷ os) p.number;
        few = omega (arith, e, few);
        some = omega arith;
        values = b.values;
        last = omega (arith, e, last);
      }

  only_op : (n : Names) (s : Scope) (last : Op) → At n s → ReturnRead n s last → BodyRead n s (s, last ∷ [])
  only_op n s last a z =
      let lt = z.few in
      record {
        ops = (z.results, z.kind);
        numbers = ap (λ (o : Op). o ∷ []) z.number;
        few = omega arith;
        some = omega arith;
        values = a.values ∙ ap (λ (rs : List (ValueId × Ty)). base + length (names_after n rs last.kind).rows) (sym z.results);
        last = omega arith;
      }

  body_is : (alias : List AliasShape) (n : Names) (s : Scope) (name : ReturnName) (t : Returned) (ss : List Statement) (r : Scope × List Op) (last : Op) → At n s → AreMaps alias → AllByRecursion StatementIs ss → AreLeaves (file_grammar.returned.spell t) → statements_of alias s ss ≡ Ok r → return_of r.0 name t ≡ Ok last → BodyRead n s (r.0, r.1 ++ last ∷ [])
  body_is alias n s name t [] r last a usable ws w h e =
      let same = ok_same (s, []) r h in
      let z = return_is n s name t last a w (ap (λ (q : Scope × List Op). return_of q.0 name t) same ∙ e) in
      subst (λ (q : Scope × List Op). BodyRead n s (q.0, q.1 ++ last ∷ [])) same (only_op n s last a z)
  body_is alias n s name t (o ∷ ss) r last a usable ws w h e =
      let x = then_ok (statement_of alias s o) (λ r. and_then (thread (statement_of alias) r.0 ss) (λ q. Ok (q.0, r.1 ∷ q.1))) r h in
      let y = then_ok (thread (statement_of alias) x.0.0 ss) (λ q. Ok (q.0, x.0.1 ∷ q.1)) r x.2 in
      let same = ok_same (y.0.0, x.0.1 ∷ y.0.1) r y.2 in
      let one = op_is alias n s o x.0 a usable ws.0 x.1 in
      let more = body_is alias (next n x.0.1) x.0.0 name t ss y.0 last one.at usable ws.1 w y.1 (ap (λ (q : Scope × List Op). return_of q.0 name t) same ∙ e) in
      subst (λ (q : Scope × List Op). BodyRead n s (q.0, q.1 ++ last ∷ [])) same (first_op n s x.0.0 y.0.0 x.0.1 (y.0.1 ++ last ∷ []) one more)

  whole_body : (alias : List AliasShape) (n : Names) (s : Scope) (f : Function) (r : Scope × List Op) → At n s → AreMaps alias → FunctionIs f → body_of alias s f ≡ Ok r → BodyRead n s r
  whole_body alias n s f r a usable w h =
      let b = then_ok (statements_of alias s f.statements) (λ b. and_then (return_of b.0 f.return_name f.returned) (λ last. Ok (b.0, b.1 ++ last ∷ []))) r h in
      let l = then_ok (return_of b.0.0 f.return_name f.returned) (λ last. Ok (b.0.0, b.0.1 ++ last ∷ [])) r b.2 in
      subst (λ (q : Scope × List Op). BodyRead n s q) (ok_same (b.0.0, b.0.1 ++ l.0 ∷ []) r l.2) (body_is alias n s f.return_name f.returned f.statements b.0 l.0 a usable w.statements w.returned b.1 l.1)

-- ---- results

results_are : (k : ℕ) (ts : List TokenShape) (tys : List Ty) → k ≤ 16 → results_from k ts ≡ Ok tys → ArePrintableResults tys × (k + length tys ≤ 16)
results_are k [] tys le h = subst (λ (xs : List Ty). ArePrintableResults xs × (k + length xs ≤ 16)) (ok_same [] tys h) (tt, omega arith)
results_are k (t ∷ ts) tys le h =
    let a = then_ok (result_at k t) (λ ty. and_then (results_from (suc k) ts) (λ tys. Ok (ty ∷ tys))) tys h in
    let b = then_ok (results_from (suc k) ts) (λ tys. Ok (a.0 ∷ tys)) tys a.2 in
    let c = then_ok (demand (nat_lt k 16) (Limit limits.Results t.start)) (λ _. type_at t) a.0 a.1 in
    let lt = ltb-true k 16 (demanded (nat_lt k 16) (Limit limits.Results t.start) c.0 c.1) in
    let r = results_are (suc k) ts b.0 (omega arith) b.1 in
    subst (λ (xs : List Ty). ArePrintableResults xs × (k + length xs ≤ 16)) (ok_same (a.0 ∷ b.0) tys b.2) ((type_row t a.0 c.2, r.0), omega (arith, r.1))

-- ---- functions

-- a function that comes from a file's scope, and the scope behind it
record FuncRead (s : FileScope) (r : FileScope × FuncShape) : Type 0 where
  printable : IsPrintableFunc r.1
  new : place 0 s.functions r.1.name ≡ None
  number : func_renumbered s.values s.ops r.1 ≡ r.1
  functions : r.0.functions ≡ s.functions ++ r.1.name ∷ []
  aliases : r.0.aliases ≡ s.aliases
  values : r.0.values ≡ s.values + values_in r.1
  ops : r.0.ops ≡ s.ops + length r.1.body
  few : s.ops + length r.1.body ≤ 65536
  script : r.0.script ≡ s.script

abbrev func_of : List ℕ → List (ValueId × Ty) → List Ty → List Op → FuncShape
func_of name params results body = record { name = name; params = params; results = results; body = body }

begun : (s : FileScope) → At s.values nothing (opened s)
begun s = record { reads = record { outer = tt; values = λ q at x h. absurd (cc h) }; values = omega arith }

is_unknown : (names : List (List ℕ)) (at : ℕ) (name : List ℕ) (u : Unit {0}) → unknown names at name ≡ Ok u → place 0 names name ≡ None
is_unknown names at name u h = by (place 0 names name) (demanded (is_none (place 0 names name)) (Twice at) u h)
  where
    by : (o : Option ℕ) → is_none o ≡ true → o ≡ None
    by None e = refl
    by (Some n) e = absurd (cc e)

function_is : (s : FileScope) (f : Function) (m : FileScope × FuncShape) → AreMaps s.aliases → FunctionIs f → function_of s f ≡ Ok m → FuncRead s m
function_is s f m usable w h =
    let x = then_ok (name_of f.name) _ m h in
    let x1 = then_ok (demand (list_all is_ascii (symbol_of f.name)) (Syntax f.name.start)) _ x.0 x.1 in
    let name = ok_same (symbol_of f.name) x.0 x1.2 in
    let u = then_ok (unknown s.functions f.name.start (symbol_of f.name)) _ m x.2 in
    let p = then_ok (params_of (opened s) f.params) _ m u.2 in
    let t = then_ok (results_of f.results) _ m p.2 in
    let b = then_ok (body_of s.aliases p.0.0 f) _ m t.2 in
    let ps = params_are s.values nothing (opened s) f.params p.0 (begun s) (omega arith) p.1 in
    let rs = results_are 0 (types_in f.results) t.0 (omega arith) t.1 in
    let body = whole_body s.values s.aliases (after_params nothing p.0.1) p.0.0 f b.0 ps.at usable w b.1 in
    let at_start = ps.ops in
    let few = ps.few in
    let few_ops = body.few in
    let last = body.last in
    let z : s.values + 0 ≡ s.values = omega arith in
    let new = is_unknown s.functions f.name.start (symbol_of f.name) u.0 u.1 in
    subst (λ (q : FileScope × FuncShape). FuncRead s q) (ok_same (closed s (symbol_of f.name) b.0.0, func_of x.0 p.0.1 t.0 b.0.1) m b.2)
    (record {
      printable = record {
        name = subst (λ (q : List ℕ). is_word q ≡ true) name w.name;
        few_params = omega arith;
        params = ps.types;
        few_results = omega (arith, rs.1);
        results = rs.0;
        few_ops = omega arith;
        ops = body.ops;
      };
      new = ap (place 0 s.functions) (sym name) ∙ new;
      number = ap (λ (v : ℕ). func_of x.0 (results_renumbered v p.0.1) t.0 (ops_renumbered s.values s.ops (after_params nothing p.0.1) b.0.1)) (sym z)
          ∙ ap (λ ps. func_of x.0 ps t.0 (ops_renumbered s.values s.ops (after_params nothing p.0.1) b.0.1)) ps.numbers
          ∙ ap (λ k. func_of x.0 p.0.1 t.0 (ops_renumbered s.values k (after_params nothing p.0.1) b.0.1)) (sym ps.ops)
          ∙ ap (func_of x.0 p.0.1 t.0) body.numbers;
      functions = ap (λ (q : List ℕ). s.functions ++ q ∷ []) name;
      aliases = refl;
      values = body.values;
      ops = omega (arith, at_start, last);
      few = omega (arith, at_start, few_ops);
      script = refl;
    })

-- ---- files

-- what comes from a file's scope on
record FuncsRead (s : FileScope) (fs : List FuncShape) : Type 0 where
  printable : ArePrintable fs
  names : AreNew s.functions fs
  numbers : funcs_renumbered s.values s.ops fs ≡ fs
  few : s.ops + operations_in fs ≤ 65536

-- the scopes differ in their stage or their aliases alone
same_read : (s t : FileScope) (fs : List FuncShape) → s.functions ≡ t.functions → s.values ≡ t.values → s.ops ≡ t.ops → FuncsRead t fs → FuncsRead s fs
same_read s t fs e v k r =
    let few = r.few in
    record {
      printable = r.printable;
      names = subst (λ (names : List (List ℕ)). AreNew names fs) (sym e) r.names;
      numbers = ap (λ (n : ℕ). funcs_renumbered n s.ops fs) v ∙ ap (λ (n : ℕ). funcs_renumbered t.values n fs) k ∙ r.numbers;
      few = omega (arith, k, few);
    }

first_func : (s : FileScope) (r : FileScope × FuncShape) (fs : List FuncShape) → FuncRead s r → FuncsRead r.0 fs → FuncsRead s (r.1 ∷ fs)
first_func s r fs f m =
    let few = m.few in
    let ops = f.ops in
    record {
      printable = (f.printable, m.printable);
      names = (f.new, subst (λ (names : List (List ℕ)). AreNew names fs) f.functions m.names);
      numbers = ap (λ (v : ℕ). func_renumbered s.values s.ops r.1 ∷ funcs_renumbered v (s.ops + length r.1.body) fs) (sym f.values)
          ∙ ap (λ (k : ℕ). func_renumbered s.values s.ops r.1 ∷ funcs_renumbered r.0.values k fs) (sym f.ops)
          ∙ ap (λ (gs : List FuncShape). func_renumbered s.values s.ops r.1 ∷ gs) m.numbers ∙ ap (λ (g : FuncShape). g ∷ fs) f.number;
      few = omega (arith, ops, few);
    }

-- a script that was read, if there is one
abbrev HasRead : Option Script → Type 0
HasRead None = Unit {0}
HasRead (Some x) = ScriptRead x

-- the scope behind has few operations, and what comes from it comes behind
record Leads (s : FileScope) (r : FileScope × List FuncShape) : Type 0 where
  few : r.0.ops ≤ 65536
  usable : AreMaps r.0.aliases
  onto : (fs : List FuncShape) → FuncsRead r.0 fs → FuncsRead s (r.1 ++ fs)
  script : HasRead s.script → HasRead r.0.script

no_func : (s : FileScope) → s.ops ≤ 65536 → AreMaps s.aliases → Leads s (s, [])
no_func s le usable = record { few = le; usable = usable; onto = λ fs r. r; script = λ h. h }

more_funcs : (s : FileScope) (r : FileScope × FuncShape) (q : FileScope × List FuncShape) → FuncRead s r → Leads r.0 q → Leads s (q.0, r.1 ∷ q.1)
more_funcs s r q f m = record { few = m.few; usable = m.usable; onto = λ fs h. first_func s r (q.1 ++ fs) f (m.onto fs h); script = λ h. m.script (subst HasRead (sym f.script) h) }

both_lead : (s : FileScope) (r q : FileScope × List FuncShape) → Leads s r → Leads r.0 q → Leads s (q.0, r.1 ++ q.1)
both_lead s r q l m = record {
  few = m.few;
  usable = m.usable;
  onto = λ fs h. subst (λ (xs : List FuncShape). FuncsRead s xs) (sym (append_assoc r.1 q.1 fs)) (l.onto (q.1 ++ fs) (m.onto fs h));
  script = λ h. m.script (l.script h);
}

functions_are : (s : FileScope) (xs : List Function) (r : FileScope × List FuncShape) → s.ops ≤ 65536 → AreMaps s.aliases → AllByRecursion FunctionIs xs → functions_of s xs ≡ Ok r → Leads s r
functions_are s [] r le usable w h = subst (λ (q : FileScope × List FuncShape). Leads s q) (ok_same (s, []) r h) (no_func s le usable)
functions_are s (x ∷ xs) r le usable w h =
    let a = then_ok (function_of s x) (λ r. and_then (thread function_of r.0 xs) (λ q. Ok (q.0, r.1 ∷ q.1))) r h in
    let b = then_ok (thread function_of a.0.0 xs) (λ q. Ok (q.0, a.0.1 ∷ q.1)) r a.2 in
    let f = function_is s x a.0 usable w.0 a.1 in
    let ops = f.ops in
    let few = f.few in
    let more = functions_are a.0.0 xs b.0 (omega (arith, ops, few)) (subst (λ (q : List AliasShape). AreMaps q) (sym f.aliases) usable) w.1 b.1 in
    subst (λ (q : FileScope × List FuncShape). Leads s q) (ok_same (b.0.0, a.0.1 ∷ b.0.1) r b.2) (more_funcs s a.0 b.0 f more)

-- from a scope that differs in its stage or its aliases alone
leads_same : (s t : FileScope) (r : FileScope × List FuncShape) → s.functions ≡ t.functions → s.values ≡ t.values → s.ops ≡ t.ops → s.script ≡ t.script → Leads t r → Leads s r
leads_same s t r e v k x l = record { few = l.few; usable = l.usable; onto = λ fs h. same_read s t (r.1 ++ fs) e v k (l.onto fs h); script = λ h. l.script (subst HasRead x h) }

-- ---- modules

script_leads : (s : FileScope) (q : Sequence) (t : FileScope) → s.ops ≤ 65536 → AreMaps s.aliases → with_script s q ≡ Ok t → Leads s (t, [])
script_leads s q t le usable h =
    let x = then_ok (scripts.resolve q) (λ x. Ok (holding s x)) t h in
    subst (λ (u : FileScope). Leads s (u, [])) (ok_same (holding s x.0) t x.2) (record { few = le; usable = usable; onto = λ fs k. same_read s (holding s x.0) fs refl refl refl k; script = λ k. script_taken q x.0 x.1 })

ended_leads : (s : FileScope) (q : Sequence) (fs : List Function) (r : FileScope × List FuncShape) → s.ops ≤ 65536 → AreMaps s.aliases → AllByRecursion FunctionIs fs
    → and_then (with_script s q) (λ t. functions_of t fs) ≡ Ok r → Leads s r
ended_leads s q fs r le usable w h =
    let x = then_ok (with_script s q) (λ t. functions_of t fs) r h in
    let l = script_leads s q x.0 le usable x.1 in
    both_lead s (x.0, []) r l (functions_are x.0 fs r l.few l.usable w x.2)

rest_leads : (s : FileScope) (m : ModuleRest) (r : FileScope × List FuncShape) → s.ops ≤ 65536 → AreMaps s.aliases → RestIs m → rest_of s m ≡ Ok r → Leads s r
rest_leads s (rests.End t) r le usable w h = subst (λ (q : FileScope × List FuncShape). Leads s q) (ok_same (s, []) r h) (no_func s le usable)
rest_leads s (rests.Script q e) r le usable w h = ended_leads s q e.functions r le usable w h
rest_leads s (rests.Nested m e) r le usable w h = ended_leads s m.script e.functions r le usable w h

outer_leads : (s : FileScope) (m : Enclosed) (r : FileScope × List FuncShape) → s.ops ≤ 65536 → AreMaps s.aliases → ItemIs (items.Module m) → outer_of s m ≡ Ok r → Leads s r
outer_leads s m r le usable w h =
    let x = then_ok (functions_of s m.functions) (λ q. and_then (behind_functions m q.0) (λ p. Ok (p.0, q.1 ++ p.1))) r h in
    let y = then_ok (behind_functions m x.0.0) (λ p. Ok (p.0, x.0.1 ++ p.1)) r x.2 in
    let z = then_ok (may_hold m.attributes m.rest) (λ _. rest_of x.0.0 m.rest) y.0 y.1 in
    let l = functions_are s m.functions x.0 le usable w.0 x.1 in
    subst (λ (q : FileScope × List FuncShape). Leads s q) (ok_same (y.0.0, x.0.1 ++ y.0.1) r y.2) (both_lead s x.0 y.0 l (rest_leads x.0.0 m.rest y.0 l.few l.usable w.1 z.2))

alone_leads : (s : FileScope) (m : ModuleRest) (t : FileScope) → s.ops ≤ 65536 → AreMaps s.aliases → alone_of s m ≡ Ok t → Leads s (t, [])
alone_leads s (rests.End c) t le usable h = absurd (cc h)
alone_leads s (rests.Script q e) t le usable h =
    let x = then_ok (with_script s q) (λ t. and_then (no_function e.functions) (λ _. Ok t)) t h in
    let y = then_ok (no_function e.functions) (λ _. Ok x.0) t x.2 in
    subst (λ (u : FileScope). Leads s (u, [])) (ok_same x.0 t y.2) (script_leads s q x.0 le usable x.1)
alone_leads s (rests.Nested m e) t le usable h = absurd (cc h)

module_leads : (stage : Stage) (s : FileScope) (m : Enclosed) (r : FileScope × List FuncShape) → s.ops ≤ 65536 → AreMaps s.aliases → ItemIs (items.Module m) → module_of stage s m ≡ Ok r → Leads s r
module_leads Start s m r le usable w h = leads_same s (at_stage s (module_stage Start m)) r refl refl refl refl (outer_leads (at_stage s (module_stage Start m)) m r le usable w h)
module_leads Functions s m r le usable w h =
    let x = then_ok (later_of (at_stage s Scripted) m) (λ t. Ok (t, [])) r h in
    let y = then_ok (has_attributes m.attributes m.brace) _ x.0 x.1 in
    let z = then_ok (no_function m.functions) (λ _. alone_of (at_stage s Scripted) m.rest) x.0 y.2 in
    subst (λ (q : FileScope × List FuncShape). Leads s q) (ok_same (x.0, []) r x.2)
    (leads_same s (at_stage s Scripted) (x.0, []) refl refl refl refl (alone_leads (at_stage s Scripted) m.rest x.0 le usable z.2))
module_leads Scripted s m r le usable w h = absurd (cc h)
module_leads Closed s m r le usable w h = absurd (cc h)

-- ---- items

abbrev with_alias : FileScope → AliasShape → FileScope
with_alias s a = record { stage = s.stage; aliases = s.aliases ++ a ∷ []; functions = s.functions; values = s.values; ops = s.ops; script = s.script }

abbrev alias_shape : List ℕ → MapShape → Bool → AliasShape
alias_shape name m symbols = record { name = name; map = m; symbols = symbols }

alias_printable : (aliases : List AliasShape) (a : AliasLine) (x : AliasShape) → alias_in aliases a ≡ Ok x → IsMap x.map
alias_printable aliases a x h =
    let d = then_ok (demand (is_none (alias_named aliases a.name.text)) (Twice a.name.start)) _ x h in
    let m = then_ok (written_map true a.map) _ x d.2 in
    subst (λ (q : AliasShape). IsMap q.map) (ok_same (alias_shape a.name.text m.0 (has_symbols (tokens_of a.map))) x m.2) (read_is_map true (tokens_of a.map) m.0 m.1)

item_is : (s : FileScope) (i : Item) (r : FileScope × List FuncShape) → s.ops ≤ 65536 → AreMaps s.aliases → ItemIs i → item_of s i ≡ Ok r → Leads s r
item_is s (items.Alias a) r le usable w h =
    let x = then_ok (alias_of s a) (λ t. Ok (t, [])) r h in
    let y = then_ok (alias_in s.aliases a) (λ q. Ok (with_alias s q)) x.0 x.1 in
    subst (λ (q : FileScope × List FuncShape). Leads s q) (ok_same (x.0, []) r x.2)
    (subst (λ (t : FileScope). Leads s (t, [])) (ok_same (with_alias s y.0) x.0 y.2)
    (leads_same s (with_alias s y.0) (with_alias s y.0, []) refl refl refl refl (no_func (with_alias s y.0) le (maps_append s.aliases y.0 usable (alias_printable s.aliases a y.0 y.1)))))
item_is s (items.Function f) r le usable w h =
    let x = then_ok (demand (not (is_closed s.stage)) (Syntax f.keyword.start)) _ r h in
    let y = then_ok (function_of (at_stage s (function_stage s.stage)) f) (λ r. Ok (r.0, r.1 ∷ [])) r x.2 in
    let g = function_is (at_stage s (function_stage s.stage)) f y.0 usable w y.1 in
    let ops = g.ops in
    let few = g.few in
    subst (λ (q : FileScope × List FuncShape). Leads s q) (ok_same (y.0.0, y.0.1 ∷ []) r y.2)
    (leads_same s (at_stage s (function_stage s.stage)) (y.0.0, y.0.1 ∷ []) refl refl refl refl
    (more_funcs (at_stage s (function_stage s.stage)) y.0 (y.0.0, []) g (no_func y.0.0 (omega (arith, ops, few)) (subst (λ (q : List AliasShape). AreMaps q) (sym g.aliases) usable))))
item_is s (items.Module m) r le usable w h = module_leads s.stage s m r le usable w h

items_are : (s : FileScope) (is : List Item) (r : FileScope × List FuncShape) → s.ops ≤ 65536 → AreMaps s.aliases → AllByRecursion ItemIs is → items_of s is ≡ Ok r → Leads s r
items_are s [] r le usable w h = subst (λ (q : FileScope × List FuncShape). Leads s q) (ok_same (s, []) r h) (no_func s le usable)
items_are s (i ∷ is) r le usable w h =
    let a = then_ok (item_of s i) (λ q. and_then (items_of q.0 is) (λ p. Ok (p.0, q.1 ++ p.1))) r h in
    let b = then_ok (items_of a.0.0 is) (λ p. Ok (p.0, a.0.1 ++ p.1)) r a.2 in
    let l = item_is s i a.0 le usable w.0 a.1 in
    subst (λ (q : FileScope × List FuncShape). Leads s q) (ok_same (b.0.0, a.0.1 ++ b.0.1) r b.2) (both_lead s a.0 b.0 l (items_are a.0.0 is b.0 l.few l.usable w.1 b.1))

none_behind : (s : FileScope) → s.ops ≤ 65536 → FuncsRead s []
none_behind s le = record { printable = tt; names = tt; numbers = refl; few = omega arith }

pub record FileRead (f : File) : Type 0 where
  pub printable : IsPrintable f
  pub number : renumbered f ≡ f

script_is : (o : Option Script) → HasRead o → IsPrintableScript o × (script_renumbered o ≡ o)
script_is None h = (tt, refl)
script_is (Some x) h = (h.printable, ap (λ (y : Script). Some y) h.number)

abbrev file_of : List FuncShape → Option Script → File
file_of fs script = record { «module» = record { funcs = fs }; script = script }

-- what a tree stands for is printable and numbered as its text, whose tokens are of their classes
pub file_is : (t : Text) (f : File) → AllByRecursion ItemIs t.items → resolve t ≡ Ok f → FileRead f
file_is t f w h =
    let x = then_ok (items_of start t.items) _ f h in
    let l = items_are start t.items x.0 (omega arith) tt w x.1 in
    let r = subst (λ (fs : List FuncShape). FuncsRead start fs) (append-nil x.0.1) (l.onto [] (none_behind x.0.0 l.few)) in
    let few = r.few in
    let s = script_is x.0.0.script (l.script tt) in
    subst (λ (q : File). FileRead q) (ok_same (file_of x.0.1 x.0.0.script) f x.2) (record {
      printable = record { funcs = r.printable; names = r.names; few_ops = omega (arith, few); script = s.0 };
      number = ap (λ (fs : List FuncShape). file_of fs (script_renumbered x.0.0.script)) r.numbers ∙ ap (file_of x.0.1) s.1;
    })
