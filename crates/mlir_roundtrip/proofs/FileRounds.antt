-- The canonical tree of a file stands for the file with the numbers of its text.
use Rattle.std.proofs.Common.{◌≡◌, ◌<◌, ◌≤◌, inl, ℕ, ◌+◌, suc, Bool, true, false, List, [], ◌∷◌, ◌++◌, map, length, None, Result as Answer, Ok, Err, refl, sym, ap, ◌∙◌, length-append, arith, nat_eq, nat_le, nat_lt, Option, Some}
use Rattle.std.specs.List.{AllByRecursion, list_all}
use Rattle.std.proofs.lemmas.Bool.{and_parts, and_from, lt-ltb, le-leb, lt-leb, ne_eqb, ltb-false}
use Rattle.std.proofs.lemmas.List.{append-nil}
use Rattle.affine_maps.specs.Shape.{MapShape}
use Rattle.mlir_ir.specs.declared.tree.Ty.{Ty}
use Rattle.mlir_ir.specs.declared.tree.ValueId.{ValueId}
use Rattle.mlir_ir.specs.declared.tree.OpKind.{OpKind}
use Rattle.mlir_ir.specs.declared.tree.OpKind.TheVariants as kinds
use Rattle.mlir_ir.specs.declared.tree.Op.{Op}
use Rattle.mlir_ir.specs.Shape.{FuncShape}
use Rattle.text_format.specs.Token.{TokenShape}
use Rattle.text_format.specs.Bytes.{is_letter, is_word_byte}
use Rattle.text_format.specs.Types.{is_word}
use Rattle.text_format.specs.Pieces.{bytes_of}
use Rattle.mlir_syntax.specs.declared.tree.files.Param.{Param}
use Rattle.mlir_syntax.specs.declared.tree.files.NextResult.{NextResult}
use Rattle.mlir_syntax.specs.declared.tree.files.NextValue.{NextValue}
use Rattle.mlir_syntax.specs.declared.tree.files.ReturnType.{ReturnType}
use Rattle.mlir_syntax.specs.declared.tree.files.Returned.TheVariants.{Values}
use Rattle.mlir_syntax.specs.declared.tree.files.Function.{Function}
use Rattle.mlir_syntax.specs.declared.tree.files.Item.TheVariants as items
use Rattle.mlir_scope.specs.declared.names.Meaning.TheVariants.{Held}
use Rattle.mlir_scope.specs.declared.names.Scope.{Scope}
use Rattle.mlir_read.specs.declared.files.Stage.TheVariants.{Closed}
use Rattle.mlir_read.specs.declared.files.FileScope.{FileScope}
use Rattle.mlir_lex.specs.declared.fault.Fault.{Fault}
use Rattle.mlir_scope.specs.Maps.{AliasShape}
use Rattle.mlir_scope.specs.Names.{Entry, entry, place}
use Rattle.mlir_lex.specs.Chain.{and_then, each}
use Rattle.mlir_scope.specs.Scope.{params_of, value_id}
use Rattle.mlir_resolve.specs.Operations.{statements_of}
use Rattle.mlir_read.specs.Resolve.{is_ascii, name_of, unknown, results_from, results_of, more_return_types, returned_of, return_of, opened, body_of, function_of, functions_of, items_of, start, resolve, holding, with_script, may_hold, rest_of, behind_functions, joined}
use Rattle.mlir_print.specs.declared.names.Given.TheVariants.{Argument}
use Rattle.mlir_print.specs.Names.{Names, Row, row_of, nothing, with_argument}
use Rattle.text_format.specs.Writers.{each_of, made}
use Rattle.mlir_print.specs.Maps.{with_funcs}
use Rattle.mlir_print.specs.Returns.{Ending, next_value_at, return_type_at, values_at, returned_at}
use Rattle.mlir_print.specs.Operations.{line_at, last_at, names_after, next}
use Rattle.mlir_print.specs.Canonical.{Body, params_at, after_params, after_ops, names_in, body_at, next_result_at, results_at, function_at, functions_at, text_with, text_at, script_module_at, rest_at, module_at}
use Rattle.mlir_print.specs.Renumbered.{number_in, kind_renumbered, results_renumbered, op_renumbered, ops_renumbered, func_renumbered, values_in, funcs_renumbered}
use Rattle.mlir_roundtrip.specs.Printable.{IsTensorType, IsTensorValue, IsPrintableReturn, ArePrintableOps, ArePrintableResults, IsPrintableFunc, ArePrintable, AreNew, operations_in, IsPrintable, IsPrintableScript}
use Rattle.mlir_roundtrip.proofs.Envs.{arg_name, IsCanon, Small, fresh_arg}
use Rattle.mlir_roundtrip.proofs.Rows.{tensor_value, Bound, bound_in}
use Rattle.mlir_roundtrip.specs.Maps.{ArePrintableMaps, FuncsHaveAliases, rows, with_aliases}
use Rattle.mlir_roundtrip.proofs.Aliases.{lines_found}
use Rattle.mlir_roundtrip.proofs.ModuleMaps.{FuncsPrintable, aliases_are}
use Rattle.mlir_roundtrip.proofs.Readable.{readable}
use Rattle.mlir_roundtrip.proofs.Regions.{Laid, each_laid, commas_laid, all_last, canon_more}
use Rattle.mlir_roundtrip.proofs.Rounds.{Agrees, Standing, known, typed_found, id_found, scope, then_is, agrees_more, by_results}
use Rattle.mlir_roundtrip.proofs.MapUses.{AllRead, all_read}
use Rattle.mlir_roundtrip.proofs.Usable.{usable}
use Rattle.script_read.specs.declared.script.Script.{Script}
use Rattle.mlir_file.specs.declared.file.File.{File}
use Rattle.mlir_roundtrip.specs.Numbered.{script_renumbered, renumbered}
use Rattle.mlir_syntax.specs.declared.tree.files.ModuleRest.{ModuleRest}
use Rattle.script_syntax.specs.declared.tree.lines.Sequence.{Sequence}
use Rattle.script_text.specs.Canonical.{sequence_at}
use Rattle.script_roundtrip.specs.Renumbered.{renumbered as renumbered_script}
use Rattle.script_roundtrip.proofs.Rounds.{sequence_found}

length_last : (rows : List Row) (r : Row) → length (rows ++ r ∷ []) ≡ suc (length rows)
length_last rows r = length-append rows (r ∷ []) ∙ omega arith

module _ (base : ℕ) where
  -- ---- the return

  ids_found : (rows : List Row) (env : List Entry) → Agrees base rows env → (vs : List ValueId) (xs : List NextValue) → AllByRecursion (IsTensorValue rows) vs → Laid (map (next_value_at rows) vs) xs → each (λ n. value_id env n.name) xs ≡ Ok (map (number_in base rows) vs)
  ids_found rows env ag [] [] d l = refl
  ids_found rows env ag [] (x ∷ xs) d l = absurd l
  ids_found rows env ag (v ∷ vs) [] d l = absurd l
  ids_found rows env ag (v ∷ vs) (x ∷ xs) d l =
      let one = id_found base rows env v (known base rows env ag v d.0.is_defined) x.name (ap (λ (y : NextValue). y.name.text) l.0.1) in
      rw (one, ids_found rows env ag vs xs d.1 l.1) refl

  return_types_found : (rows : List Row) (env : List Entry) → Agrees base rows env → (close : TokenShape) (vs : List ValueId) (xs : List NextValue) (ys : List ReturnType) → AllByRecursion (IsTensorValue rows) vs → Laid (map (next_value_at rows) vs) xs → Laid (map (return_type_at rows) vs) ys
      → more_return_types close env xs ys ≡ Ok tt
  return_types_found rows env ag close [] [] [] d l m = refl
  return_types_found rows env ag close [] [] (y ∷ ys) d l m = absurd m
  return_types_found rows env ag close [] (x ∷ xs) ys d l m = absurd l
  return_types_found rows env ag close (v ∷ vs) [] ys d l m = absurd l
  return_types_found rows env ag close (v ∷ vs) (x ∷ xs) [] d l m = absurd m
  return_types_found rows env ag close (v ∷ vs) (x ∷ xs) (y ∷ ys) d l m =
      let one = typed_found base rows env v (known base rows env ag v d.0.is_defined) x.name y.ty (ap (λ (z : NextValue). z.name.text) l.0.1) (ap (λ (z : ReturnType). z.ty.text) m.0.1) in
      rw one (return_types_found rows env ag close vs xs ys d.1 l.1 m.1)

  values_found : (rows : List Row) (env : List Entry) → Agrees base rows env → (v : ValueId) (vs : List ValueId) → AllByRecursion (IsTensorValue rows) (v ∷ vs) → (at : ℕ) → returned_of env (Values ((values_at rows v vs).tree at)) ≡ Ok (map (number_in base rows) (v ∷ vs))
  values_found rows env ag v vs d at =
      let r = (values_at rows v vs).tree at in
      let k = known base rows env ag v d.0.is_defined in
      let first = id_found base rows env v k r.first refl in
      let more = ids_found rows env ag vs r.more d.1 (each_laid (map (next_value_at rows) vs) _) in
      let ty = typed_found base rows env v k r.first r.first_type refl refl in
      let tys = return_types_found rows env ag r.close vs r.more r.more_types d.1 (each_laid (map (next_value_at rows) vs) _) (each_laid (map (return_type_at rows) vs) _) in
      rw (first, more, ty, tys) refl

  returned_found : (rows : List Row) (env : List Entry) → Agrees base rows env → (vs : List ValueId) → AllByRecursion (IsTensorValue rows) vs → (at : ℕ) → returned_of env ((returned_at rows vs).tree at).1 ≡ Ok (map (number_in base rows) vs)
  returned_found rows env ag [] d at = refl
  returned_found rows env ag (v ∷ vs) d at = values_found rows env ag v vs d _

  abbrev ending_of : Scope → Ending → Answer Op Fault
  ending_of s e = return_of s e.0 e.1

  last_found : (n : Names) (env : List Entry) (k : ℕ) (rs : List (ValueId × Ty)) (o : OpKind) (al : List MapShape) → Standing base n env → k < 65536 → rs ≡ [] → IsPrintableReturn n.rows o
      → (at : ℕ) → ending_of (scope base n env k) ((last_at al n rs o).tree at) ≡ Ok (record { id = record { 0 = k }; results = results_renumbered (length n.rows + base) rs; kind = kind_renumbered (number_in base n.rows) o })
  last_found n env k rs (kinds.Return vs) al s lt e h at =
      let room = lt-ltb k 65536 lt in
      let found = returned_found n.rows env s.agrees vs h at in
      rw (e, room, found) refl
  last_found n env k rs o al s lt e h at = absurd h

  -- ---- bodies

  abbrev ended_by : Ending → Scope × List Op → Answer (Scope × List Op) Fault
  ended_by e b = and_then (ending_of b.0 e) (λ last. Ok (b.0, b.1 ++ last ∷ []))

  -- the operations, with the return
  abbrev body_run : List AliasShape → Scope → Body → Answer (Scope × List Op) Fault
  body_run alias s t = and_then (statements_of alias s t.0) (λ b. ended_by t.1 b)

  abbrev with_op : Op → Answer (Scope × List Op) Fault → Answer (Scope × List Op) Fault
  with_op y r = and_then r (λ q. Ok (q.0, y ∷ q.1))

  one_before : (y : Op) (e : Ending) (r : Answer (Scope × List Op) Fault) → and_then (with_op y r) (λ b. ended_by e b) ≡ with_op y (and_then r (λ b. ended_by e b))
  one_before y e (Err x) = refl
  one_before y e (Ok q) = by_end (ending_of q.0 e)
    where
      by_end : (l : Answer Op Fault) → and_then l (λ last. Ok (q.0, (y ∷ q.1) ++ last ∷ [])) ≡ with_op y (and_then l (λ last. Ok (q.0, q.1 ++ last ∷ [])))
      by_end (Ok last) = refl
      by_end (Err x) = refl

  -- what comes of a body, and where it leaves the numbers
  record Ran (n : Names) (k : ℕ) (os : List Op) (answer : Answer (Scope × List Op) Fault) : Type 0 where
    inner : Scope
    is_found : answer ≡ Ok (inner, ops_renumbered base k n os)
    values : inner.values ≡ base + length (after_ops n os).rows
    ops : suc inner.ops ≡ k + length os

  body_found : (alias : List AliasShape) (al : List MapShape) (n : Names) (env : List Entry) (k : ℕ) (os : List Op) → Standing base n env → Bound k n → k + length os ≤ 65536 → AllRead alias al os → ArePrintableOps n os
      → (at : ℕ) → Ran n k os (body_run alias (scope base n env k) ((body_at al n os).tree at))
  body_found alias al n env k [] s b le ms h at = absurd h
  body_found alias al n env k (o ∷ []) s b le ms h at =
      let last = last_found n env k o.results o.kind al s (omega arith) h.0 h.1 (at + 5) in
      record {
        inner = scope base n env k;
        is_found = rw last refl;
        values = ap (λ (rs : List (ValueId × Ty)). base + length (names_after n rs o.kind).rows) (sym h.0);
        ops = omega arith;
      }
  body_found alias al n env k (o ∷ (p ∷ os)) s b le ms h at =
      let one = by_results base alias al n env k o.results o.kind s b (omega arith) ms.0 h.0 in
      let more = body_found alias al (next n o) one.0 (suc k) (p ∷ os) one.2 one.3 (omega arith) ms.1 h.1 (at + 5 + length (bytes_of (line_at al n o.results o.kind).pieces)) in
      let ops = more.ops in
      record {
        inner = more.inner;
        is_found = rw (one.1) (one_before (op_renumbered base k n o) ((body_at al (next n o) (p ∷ os)).tree (at + 5 + length (bytes_of (line_at al n o.results o.kind).pieces))).1
            (statements_of alias (scope base (next n o) one.0 (suc k)) ((body_at al (next n o) (p ∷ os)).tree (at + 5 + length (bytes_of (line_at al n o.results o.kind).pieces))).0)
            ∙ ap (with_op (op_renumbered base k n o)) more.is_found);
        values = more.values;
        ops = omega (arith, ops);
      }

  -- ---- parameters

  arg_standing : (n : Names) (env : List Entry) (p : ValueId × Ty) → Standing base n env → Small n.args n.results → IsTensorType p.1 → Standing base (with_argument n p.0 p.1) (env ++ entry (arg_name n.args) (Held (base + length n.rows) p.1) ∷ [])
  arg_standing n env p s small t =
      let none = fresh_arg n.args n.results env small s.canon in
      record {
        agrees = agrees_more base n.rows env (row_of p.0 (Argument n.args) p.1) (Held (base + length n.rows) p.1) s.agrees none (usable p.1 (tensor_value p.1 t)) (λ at. refl);
        canon = all_last (λ e. IsCanon (n.args + 1) n.results e.name) env (entry (arg_name n.args) (Held (base + length n.rows) p.1))
            (canon_more n.args n.results (n.args + 1) n.results (omega arith) (omega arith) env s.canon) (inl (n.args, omega arith, refl));
      }

  params_found : (n : Names) (ps : List (ValueId × Ty)) (env : List Entry) (xs : List Param) (k : ℕ) → Standing base n env → length env ≡ length n.rows → n.args ≡ length n.rows → n.results ≡ 0 → length n.rows + length ps ≤ 64 → AllByRecursion (λ p. IsTensorType p.1) ps → Laid (params_at n ps) xs
      → (env2 : List Entry) × (params_of (scope base n env k) xs ≡ Ok (scope base (after_params n ps) env2 k, results_renumbered (base + length n.rows) ps)) × Standing base (after_params n ps) env2
  params_found n [] env [] k s c a r le t l = (env, refl, s)
  params_found n [] env (x ∷ xs) k s c a r le t l = absurd l
  params_found n (p ∷ ps) env [] k s c a r le t l = absurd l
  params_found n (p ∷ ps) env (x ∷ xs) k s c a r le t l =
      let small : Small n.args n.results = record { args = omega arith; results = omega arith } in
      let none = fresh_arg n.args n.results env small s.canon in
      let room = lt-ltb (length env) 64 (omega arith) in
      let rd = readable p.1 t.0 in
      let len = length_last n.rows (row_of p.0 (Argument n.args) p.1) in
      let longer = length-append env (entry (arg_name n.args) (Held (base + length n.rows) p.1) ∷ []) in
      let y : suc (base + length n.rows) ≡ base + length (n.rows ++ row_of p.0 (Argument n.args) p.1 ∷ []) = omega (arith, len) in
      let more = params_found (with_argument n p.0 p.1) ps (env ++ entry (arg_name n.args) (Held (base + length n.rows) p.1) ∷ []) xs k (arg_standing n env p s small t.0) (omega (arith, len, longer)) (omega (arith, len)) r (omega (arith, len)) t.1 l.1 in
      (more.0, rw (l.0.1, none, room, rd.shaped, y, more.1) refl, more.2)

-- ---- results

more_results_found : (k : ℕ) (ts : List Ty) (xs : List NextResult) → k + length ts ≤ 16 → ArePrintableResults ts → Laid (map next_result_at ts) xs → results_from k (map (λ n. n.ty) xs) ≡ Ok ts
more_results_found k [] [] le h l = refl
more_results_found k [] (x ∷ xs) le h l = absurd l
more_results_found k (t ∷ ts) [] le h l = absurd l
more_results_found k (t ∷ ts) (x ∷ xs) le h l =
    let room = lt-ltb k 16 (omega arith) in
    let rd = readable t h.0 in
    rw (l.0.1, room, rd.shaped, more_results_found (suc k) ts xs (omega arith) h.1 l.1) refl

results_found : (ts : List Ty) → ArePrintableResults ts → length ts ≤ 16 → (at : ℕ) → results_of ((results_at ts).tree at) ≡ Ok ts
results_found [] h le at = refl
results_found (t ∷ []) h le at = let rd = readable t h.0 in rw rd.shaped refl
results_found (t ∷ (u ∷ ts)) h le at =
    let one = readable t h.0 in
    let two = readable u h.1.0 in
    let more : (p : ℕ) → results_from 2 (map (λ n. n.ty) ((each_of (map next_result_at ts)).tree p)) ≡ Ok ts = λ p. more_results_found 2 ts ((each_of (map next_result_at ts)).tree p) (omega arith) h.1.1 (each_laid (map next_result_at ts) p) in
    rw (one.shaped, two.shaped, more) refl

-- ---- functions

letter_low : (b : ℕ) → 128 ≤ b → is_word_byte b ≡ false
letter_low b h =
    let a1 : nat_le 97 b ≡ true = le-leb 97 b (omega arith) in
    let a2 : nat_le b 122 ≡ false = lt-leb b 122 (omega arith) in
    let b1 : nat_le 65 b ≡ true = le-leb 65 b (omega arith) in
    let b2 : nat_le b 90 ≡ false = lt-leb b 90 (omega arith) in
    let c1 : nat_le 48 b ≡ true = le-leb 48 b (omega arith) in
    let c2 : nat_le b 57 ≡ false = lt-leb b 57 (omega arith) in
    let e95 : nat_eq b 95 ≡ false = ne_eqb b 95 (λ e. absurd (omega (arith, e, h))) in
    let e36 : nat_eq b 36 ≡ false = ne_eqb b 36 (λ e. absurd (omega (arith, e, h))) in
    let e46 : nat_eq b 46 ≡ false = ne_eqb b 46 (λ e. absurd (omega (arith, e, h))) in
    rw (a1, a2, b1, b2, c1, c2, e95, e36, e46) refl

ascii_if : (b : ℕ) (t : Bool) → nat_lt b 128 ≡ t → is_word_byte b ≡ true → nat_lt b 128 ≡ true
ascii_if b true e h = e
ascii_if b false e h = let l = ltb-false b 128 e in absurd (cc (letter_low b l, h))

word_ascii : (b : ℕ) → is_word_byte b ≡ true → nat_lt b 128 ≡ true
word_ascii b h = ascii_if b (nat_lt b 128) refl h

bytes_ascii : (bs : List ℕ) → list_all is_word_byte bs ≡ true → list_all is_ascii bs ≡ true
bytes_ascii [] h = refl
bytes_ascii (b ∷ bs) h = let p = and_parts (is_word_byte b) (list_all is_word_byte bs) h in and_from (is_ascii b) (list_all is_ascii bs) (word_ascii b p.0) (bytes_ascii bs p.1)

letter_word : (b : ℕ) → is_letter b ≡ true → is_word_byte b ≡ true
letter_word b e = rw e refl

name_ascii : (name : List ℕ) → is_word name ≡ true → list_all is_ascii name ≡ true
name_ascii [] h = absurd (cc h)
name_ascii (b ∷ bs) h = let p = and_parts (is_letter b) (list_all is_word_byte bs) h in and_from (is_ascii b) (list_all is_ascii bs) (word_ascii b (letter_word b p.0)) (bytes_ascii bs p.1)

abbrev numbered_behind : FileScope → FuncShape → ℕ → ℕ → FileScope
numbered_behind s f v k = record { stage = s.stage; aliases = s.aliases; functions = s.functions ++ f.name ∷ []; values = v; ops = k; script = s.script }

-- behind a function
abbrev behind : FileScope → FuncShape → FileScope
behind s f = numbered_behind s f (s.values + values_in f) (s.ops + length f.body)

function_found : (s : FileScope) (al : List MapShape) (f : FuncShape) → AllRead s.aliases al f.body → IsPrintableFunc f → s.ops + length f.body ≤ 65536 → place 0 s.functions f.name ≡ None
    → (at : ℕ) → function_of s ((function_at al f).tree at) ≡ Ok (behind s f, func_renumbered s.values s.ops f)
function_found s al f ms h le new at =
    let x = (function_at al f).tree at in
    let first : s.values + 0 ≡ s.values = omega arith in
    let ps = params_found s.values nothing f.params [] x.params s.ops (record { agrees = λ v y e. absurd (cc e); canon = tt }) refl refl refl (omega (arith, h.few_params)) h.params (commas_laid (params_at nothing f.params) _) in
    let params : params_of (opened s) ((function_at al f).tree at).params ≡ Ok (scope s.values (names_in f) ps.0 s.ops, results_renumbered s.values f.params) =
    ap (λ (b : ℕ). params_of (record { env = []; values = b; ops = s.ops }) ((function_at al f).tree at).params) (sym first) ∙ ps.1 ∙ ap (λ (b : ℕ). Ok (scope s.values (names_in f) ps.0 s.ops, results_renumbered b f.params)) first in
    let results : (p : ℕ) × (x.results ≡ (results_at f.results).tree p) = (_, refl) in
    let parts : (p : ℕ) × ((x.statements, (x.return_name, x.returned)) ≡ (body_at al (names_in f) f.body).tree p) = (_, refl) in
    let body = body_found s.values s.aliases al (names_in f) ps.0 s.ops f.body ps.2 (bound_in s.ops f.params h.few_params) le ms h.ops parts.0 in
    let whole : body_of s.aliases (scope s.values (names_in f) ps.0 s.ops) ((function_at al f).tree at) ≡ Ok (body.inner, ops_renumbered s.values s.ops (names_in f) f.body) = ap (body_run s.values s.aliases (scope s.values (names_in f) ps.0 s.ops)) parts.1 ∙ body.is_found in
    let name = name_ascii f.name h.name in
    let named : name_of ((function_at al f).tree at).name ≡ Ok f.name = rw name refl in
    let free : unknown s.functions ((function_at al f).tree at).name.start f.name ≡ Ok tt = rw new refl in
    then_is s.values _ f.name _ _ named (then_is s.values _ tt _ _ free (then_is s.values _ (scope s.values (names_in f) ps.0 s.ops, results_renumbered s.values f.params) _ _ params
    (then_is s.values _ f.results _ _ (ap results_of results.1 ∙ results_found f.results h.results h.few_results results.0) (then_is s.values _ (body.inner, ops_renumbered s.values s.ops (names_in f) f.body) _ _ whole
    (ap (λ (v : ℕ). Ok (numbered_behind s f v (suc body.inner.ops), func_renumbered s.values s.ops f)) body.values ∙ ap (λ (k : ℕ). Ok (numbered_behind s f (s.values + values_in f) k, func_renumbered s.values s.ops f)) body.ops)))))

-- the maps of all functions read back
abbrev FuncsRead : List AliasShape → List MapShape → List FuncShape → Type 0
FuncsRead alias al fs = AllByRecursion (λ f. AllRead alias al f.body) fs

functions_found : (s : FileScope) (al : List MapShape) (fs : List FuncShape) (xs : List Function) → FuncsRead s.aliases al fs → ArePrintable fs → AreNew s.functions fs → s.ops + operations_in fs ≤ 65536 → Laid (functions_at al fs) xs
    → (t : FileScope) × (functions_of s xs ≡ Ok (t, funcs_renumbered s.values s.ops fs)) × (t.script ≡ s.script)
functions_found s al [] [] ms h new le l = (s, refl, refl)
functions_found s al [] (x ∷ xs) ms h new le l = absurd l
functions_found s al (f ∷ fs) [] ms h new le l = absurd l
functions_found s al (f ∷ fs) (x ∷ xs) ms h new le l =
    let one = function_found s al f ms.0 h.0 (omega arith) new.0 (l.0.0 + 3) in
    let more = functions_found (behind s f) al fs xs ms.1 h.1 new.1 (omega arith) l.1 in
    (more.0, rw (l.0.1, one, more.1) refl, more.2)

-- ---- texts

funcs_read : (al : List MapShape) (fs : List FuncShape) → FuncsHaveAliases al fs → ArePrintableMaps al → FuncsPrintable fs → FuncsRead (rows 0 al) al fs
funcs_read al [] h a p = tt
funcs_read al (f ∷ fs) h a p = (all_read al f.body h.0 a p.0, funcs_read al fs h.1 a p.1)

abbrev file_of : List FuncShape → Option Script → File
file_of fs script = record { «module» = record { funcs = fs }; script = script }

-- a module behind these aliases
abbrev behind_lines : List AliasShape → FileScope
behind_lines aliases = record { stage = Closed; aliases = aliases; functions = []; values = 0; ops = 0; script = None }

abbrev behind_run : FileScope → ModuleRest → Answer (FileScope × List FuncShape) Fault
behind_run t r = and_then (may_hold None r) (λ _. rest_of t r)

-- what stands behind the functions is the script
rest_found : (script : Option Script) → IsPrintableScript script → (t : FileScope) → t.script ≡ None → (at : ℕ) → (u : FileScope) × (behind_run t ((rest_at script).tree at) ≡ Ok (u, [])) × (u.script ≡ script_renumbered script)
rest_found None p t e at = (t, refl, e)
rest_found (Some s) p t e at =
    let parts : (k : ℕ) × (((script_module_at s).tree (at + 3)).script ≡ (sequence_at 2 s).tree k) = (_, refl) in (
      holding t (renumbered_script s),
      ap (λ (q : Sequence). and_then (with_script t q) (λ v. functions_of v [])) parts.1 ∙ ap (λ (a : Answer Script Fault). and_then (and_then a (λ x. Ok (holding t x))) (λ v. functions_of v [])) (sequence_found 2 s p parts.0),
      refl,
    )

-- a module is read: its functions, and then its script
module_found : (al : List MapShape) (fs : List FuncShape) (script : Option Script) → FuncsRead (rows 0 al) al fs → ArePrintable fs → AreNew [] fs → operations_in fs ≤ 65536 → IsPrintableScript script
    → (at : ℕ) → (u : FileScope) × (items_of (with_aliases start (rows 0 al)) ((each_of (made items.Module (module_at al fs script) ∷ [])).tree at) ≡ Ok (u, funcs_renumbered 0 0 fs)) × (u.script ≡ script_renumbered script)
module_found al fs script ms h new le p at =
    let m = (module_at al fs script).tree at in
    let parts : (k : ℕ) × (m.functions ≡ (each_of (functions_at al fs)).tree k) = (_, refl) in
    let rest : (k : ℕ) × (m.rest ≡ (rest_at script).tree k) = (_, refl) in
    let f = functions_found (behind_lines (rows 0 al)) al fs ((each_of (functions_at al fs)).tree parts.0) ms h new (omega arith) (each_laid (functions_at al fs) parts.0) in
    let r = rest_found script p f.0 f.2 rest.0 in
    let first : functions_of (behind_lines (rows 0 al)) ((module_at al fs script).tree at).functions ≡ Ok (f.0, funcs_renumbered 0 0 fs) = ap (functions_of (behind_lines (rows 0 al))) parts.1 ∙ f.1 in
    let second : behind_functions ((module_at al fs script).tree at) f.0 ≡ Ok (r.0, []) = ap (behind_run f.0) rest.1 ∙ r.1 in (
      r.0,
      ap (λ (x : Answer (FileScope × List FuncShape) Fault). joined (joined x (behind_functions ((module_at al fs script).tree at))) (λ v. Ok (v, []))) first
          ∙ ap (λ (x : Answer (FileScope × List FuncShape) Fault). joined (and_then x (λ q. Ok (q.0, funcs_renumbered 0 0 fs ++ q.1))) (λ v. Ok (v, []))) second
          ∙ ap (λ (xs : List FuncShape). Ok (r.0, xs)) (append-nil (funcs_renumbered 0 0 fs ++ []) ∙ append-nil (funcs_renumbered 0 0 fs)),
      r.2,
    )

abbrev whole_run : Answer (FileScope × List FuncShape) Fault → Answer File Fault
whole_run r = and_then r (λ q. Ok (file_of q.1 q.0.script))

with_found : (al : List MapShape) (fs : List FuncShape) (script : Option Script) → FuncsRead (rows 0 al) al fs → ArePrintableMaps al → ArePrintable fs → AreNew [] fs → operations_in fs ≤ 65536 → IsPrintableScript script
    → (at : ℕ) → resolve ((text_with al fs script).tree at) ≡ Ok (file_of (funcs_renumbered 0 0 fs) (script_renumbered script))
with_found al fs script ms q h new le p at =
    let r = lines_found start 0 al (made items.Module (module_at al fs script) ∷ []) (λ j a. refl) q at in
    let m = module_found al fs script ms h new le p r.0 in
    ap whole_run (r.1 ∙ m.1) ∙ ap (λ (x : Option Script). Ok (file_of (funcs_renumbered 0 0 fs) x)) m.2

-- the tree of the canonical text stands for the file with the numbers of the text
pub text_found : (f : File) → IsPrintable f → (at : ℕ) → resolve ((text_at f).tree at) ≡ Ok (renumbered f)
text_found f h at =
    let a = aliases_are f.module.funcs h.funcs in
    with_found (with_funcs [] f.module.funcs) f.module.funcs f.script (funcs_read (with_funcs [] f.module.funcs) f.module.funcs a.have a.printable a.uses) a.printable h.funcs h.names h.few_ops h.script at
