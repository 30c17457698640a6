-- The pieces of a printable module's canonical text are well spaced: functions and files.
use Rattle.std.proofs.Common.{◌≡◌, ◌<◌, ◌≤◌, ◌^◌, ℕ, ◌+◌, true, List, [], ◌∷◌, ◌++◌, length, map, refl, arith, codes, Ok, Option}
use Rattle.std.specs.List.{AllByRecursion, list_all}
use Rattle.std.proofs.lemmas.Bool.{and_parts, and_from}
use Rattle.affine_maps.specs.Shape.{MapShape}
use Rattle.mlir_ir.specs.declared.tree.Ty.{Ty}
use Rattle.mlir_ir.specs.declared.tree.ValueId.{ValueId}
use Rattle.mlir_ir.specs.declared.tree.OpKind.{OpKind}
use Rattle.mlir_ir.specs.declared.tree.OpKind.TheVariants as kinds
use Rattle.mlir_ir.specs.declared.tree.Op.{Op}
use Rattle.mlir_ir.specs.Shape.{FuncShape}
use Rattle.text_format.specs.declared.class.Class.TheVariants as classes
use Rattle.text_format.specs.declared.class.Position.TheVariants as places
use Rattle.text_format.specs.declared.front.Kind.TheVariants.{Symbol}
use Rattle.text_format.specs.declared.front.ByteClass.TheVariants.{WordByte}
use Rattle.text_format.specs.declared.lexeme.Lexeme.TheVariants as lexemes
use Rattle.text_format.specs.Bytes.{is_letter, is_word_byte}
use Rattle.text_format.specs.Types.{is_word}
use Rattle.text_format.specs.Tokens.{shapes_of}
use Rattle.text_format.specs.Pieces.{IsSpaced, shapes_at}
use Rattle.text_format.proofs.Printed.{shapes_of_pieces}
use Rattle.text_format.proofs.Spacing.{all_in, IsName, IsApart, Opens, arg_name, lexeme_name, none_apart, none_opens, space, fixed_closed, leaf_name, leaf_closed, append_apart, space_opens, fixed_opens, append_opens, symbol_name, whole}
use Rattle.mlir_print.specs.declared.names.Given.TheVariants.{Argument}
use Rattle.mlir_print.specs.Types.{ty_text}
use Rattle.mlir_print.specs.Names.{Names, Row, type_in, with_argument, row_of, nothing}
use Rattle.mlir_print.specs.Maps.{maps_used, with_funcs}
use Rattle.text_format.specs.Writers.{each_of, commas, made}
use Rattle.mlir_print.specs.Returns.{closed_at, next_value_at, return_type_at, returned_at, return_at}
use Rattle.mlir_print.specs.Operations.{line_at, last_at, next}
use Rattle.mlir_print.specs.Canonical.{params_at, after_params, next_result_at, results_at, body_at, function_at, functions_at, module_at, text_with, text_at, text_of, rest_at}
use Rattle.mlir_roundtrip.specs.Printable.{IsTensorValue, IsPrintableReturn, ArePrintableOps, ArePrintableParams, ArePrintableResults, IsPrintableFunc, ArePrintable, IsPrintable, IsPrintableScript}
use Rattle.mlir_roundtrip.proofs.Rows.{RowsFit, rows_fit, tensor_value, Bound, bound_in}
use Rattle.mlir_roundtrip.specs.Maps.{ArePrintableMaps}
use Rattle.mlir_roundtrip.proofs.AliasLines.{lines_apart, funcs_named}
use Rattle.mlir_roundtrip.proofs.ModuleMaps.{aliases_are}
use Rattle.mlir_syntax.specs.declared.tree.files.Item.TheVariants as items
use Rattle.mlir_roundtrip.proofs.Placing.{AreApart, AreOpen, each_apart, commas_apart, value_name, value_closed, row_closed, type_end, typed_end, comma_opens, line_two, line_four, two_opens, four_opens}
use Rattle.mlir_roundtrip.proofs.Spaced.{line_apart}
use Rattle.mlir_roundtrip.proofs.MapUses.{AreNamed}
use Rattle.script_read.specs.declared.script.Script.{Script}
use Rattle.mlir_file.specs.declared.file.File.{File}
use Rattle.mlir_roundtrip.proofs.Scripts.{rest_opens, rest_apart}

-- ---- the end of a function

closed_end : IsApart closed_at.pieces
closed_end = line_two (leaf_name (classes.Exactly lexemes.CloseBrace) (lexeme_name lexemes.CloseBrace refl) none_opens none_apart)

next_values_apart : (rows : List Row) → RowsFit rows → (vs : List ValueId) → AllByRecursion (IsTensorValue rows) vs → AreApart (map (next_value_at rows) vs) × AreOpen (map (next_value_at rows) vs)
next_values_apart rows f [] d = (tt, tt)
next_values_apart rows f (v ∷ vs) d =
    let r = next_values_apart rows f vs d.1 in
    ((fixed_closed lexemes.Comma refl (space (leaf_name classes.Value (value_name rows f v d.0.is_defined) none_opens none_apart)), r.0), (fixed_opens lexemes.Comma refl, r.1))

return_types_apart : (rows : List Row) → RowsFit rows → (vs : List ValueId) → AllByRecursion (IsTensorValue rows) vs → AreApart (map (return_type_at rows) vs) × AreOpen (map (return_type_at rows) vs)
return_types_apart rows f [] d = (tt, tt)
return_types_apart rows f (v ∷ vs) d =
    let r = return_types_apart rows f vs d.1 in
    ((leaf_name (classes.Exactly lexemes.Comma) (lexeme_name lexemes.Comma refl) space_opens (space (type_end (type_in rows v) (value_closed rows f v d.0))), r.0), (comma_opens, r.1))

returned_apart : (rows : List Row) → RowsFit rows → (vs : List ValueId) → AllByRecursion (IsTensorValue rows) vs → IsApart (returned_at rows vs).pieces
returned_apart rows f [] d = leaf_name (classes.Name places.Statement lexemes.Return) (lexeme_name lexemes.Return refl) two_opens closed_end
returned_apart rows f (v ∷ vs) d =
    let n = next_values_apart rows f vs d.1 in
    let t = return_types_apart rows f vs d.1 in
    let ns = each_apart (map (next_value_at rows) vs) n.0 n.1 in
    let ts = each_apart (map (return_type_at rows) vs) t.0 t.1 in
    leaf_name (classes.Name places.Statement lexemes.Return) (lexeme_name lexemes.Return refl) space_opens (space
    (leaf_name classes.Value (value_name rows f v d.0.is_defined) (append_opens (each_of (map (next_value_at rows) vs)).pieces _ ns.1 space_opens)
    (append_apart (each_of (map (next_value_at rows) vs)).pieces _ ns.0 space_opens (space (fixed_closed lexemes.Colon refl (space
    (leaf_closed classes.TensorType (value_closed rows f v d.0) (append_apart (each_of (map (return_type_at rows) vs)).pieces _ ts.0 two_opens closed_end))))))))

return_apart : (rows : List Row) (o : OpKind) → RowsFit rows → IsPrintableReturn rows o → IsApart (return_at rows o).pieces
return_apart rows (kinds.Return vs) f d = returned_apart rows f vs d
return_apart rows o f d = absurd d

last_apart : (al : List MapShape) (n : Names) (rs : List (ValueId × Ty)) (o : OpKind) → RowsFit n.rows → rs ≡ [] → IsPrintableReturn n.rows o → IsApart (last_at al n rs o).pieces
last_apart al n rs o f e h = rw e (return_apart n.rows o f h)

-- ---- functions and modules

abbrev AllNamed : List MapShape → List Op → Type 0
AllNamed al os = AllByRecursion (λ o. AreNamed al (maps_used o.kind)) os

body_apart : (al : List MapShape) (n : Names) (k : ℕ) (os : List Op) → k + length os ≤ 65536 → Bound k n → RowsFit n.rows → AllNamed al os → ArePrintableOps n os → IsApart (body_at al n os).pieces × Opens (body_at al n os).pieces
body_apart al n k [] le b f named h = absurd h
body_apart al n k (o ∷ []) le b f named h = (line_four (last_apart al n o.results o.kind f h.0 h.1), four_opens)
body_apart al n k (o ∷ (p ∷ os)) le b f named h =
    let one = line_apart al n k o.results o.kind (omega arith) b f named.0 h.0 in
    let more = body_apart al (next n o) (k + 1) (p ∷ os) (omega arith) one.2 one.1 named.1 h.1 in
    (line_four (append_apart (line_at al n o.results o.kind).pieces (body_at al (next n o) (p ∷ os)).pieces one.0 more.1 more.0), four_opens)

params_apart : (n : Names) (ps : List (ValueId × Ty)) → n.args + length ps < 2 ^ 64 → RowsFit n.rows → ArePrintableParams ps → AreApart (params_at n ps) × RowsFit (after_params n ps).rows
params_apart n [] s f h = (tt, f)
params_apart n (p ∷ ps) s f h =
    let small : n.args < 2 ^ 64 = omega arith in
    let more = params_apart (with_argument n p.0 p.1) ps (omega arith) (rows_fit n.rows (row_of p.0 (Argument n.args) p.1) f small (tensor_value p.1 h.0)) h.1 in
    ((leaf_name classes.NewValue (arg_name n.args small) (fixed_opens lexemes.Colon refl) (typed_end p.1 h.0), more.0), more.1)

symbol : (name : List ℕ) → is_word name ≡ true → IsName Symbol (codes "@" ++ name)
symbol [] h = absurd (cc h)
symbol (c ∷ cs) h = let p = and_parts (is_letter c) (list_all is_word_byte cs) h in symbol_name c cs p.0 (and_from (is_word_byte c) (all_in WordByte cs) (letter_word c p.0) (word_bytes cs p.1))
  where
    letter_word : (b : ℕ) → is_letter b ≡ true → is_word_byte b ≡ true
    letter_word b e = rw e refl

    word_bytes : (bs : List ℕ) → list_all is_word_byte bs ≡ true → all_in WordByte bs ≡ true
    word_bytes [] e = refl
    word_bytes (b ∷ bs) e = let q = and_parts (is_word_byte b) (list_all is_word_byte bs) e in and_from (is_word_byte b) (all_in WordByte bs) q.0 (word_bytes bs q.1)

more_results_apart : (ts : List Ty) → ArePrintableResults ts → AreApart (map next_result_at ts) × AreOpen (map next_result_at ts)
more_results_apart [] h = (tt, tt)
more_results_apart (t ∷ ts) h =
    let r = more_results_apart ts h.1 in
    ((fixed_closed lexemes.Comma refl (space (type_end (ty_text t) (row_closed t h.0))), r.0), (fixed_opens lexemes.Comma refl, r.1))

results_apart : (ts : List Ty) → ArePrintableResults ts → IsApart (results_at ts).pieces
results_apart [] h = none_apart
results_apart (t ∷ []) h = space (fixed_closed lexemes.Arrow refl (space (type_end (ty_text t) (row_closed t h.0))))
results_apart (t ∷ (u ∷ ts)) h =
    let m = more_results_apart ts h.1.1 in
    let e = each_apart (map next_result_at ts) m.0 m.1 in
    space (fixed_closed lexemes.Arrow refl (space (fixed_closed lexemes.OpenParenthesis refl (leaf_closed classes.TensorType (row_closed t h.0) (fixed_closed lexemes.Comma refl (space (leaf_closed classes.TensorType (row_closed u h.1.0)
    (append_apart (each_of (map next_result_at ts)).pieces _ e.0 (fixed_opens lexemes.CloseParenthesis refl) (fixed_closed lexemes.CloseParenthesis refl none_apart)))))))))

function_apart : (al : List MapShape) (f : FuncShape) → AllNamed al f.body → IsPrintableFunc f → IsApart (function_at al f).pieces
function_apart al f named h =
    let few = h.few_params in
    let ps = params_apart nothing f.params (omega arith) (λ v x e. absurd (cc e)) h.params in
    let body = body_apart al (after_params nothing f.params) 0 f.body (omega (arith, h.few_ops)) (bound_in 0 f.params few) ps.1 named h.ops in
    leaf_name (classes.Name places.Item lexemes.FuncFunc) (lexeme_name lexemes.FuncFunc refl) space_opens (space (leaf_name classes.Symbol (symbol f.name h.name) (fixed_opens lexemes.OpenParenthesis refl) (fixed_closed lexemes.OpenParenthesis refl
    (append_apart (commas (params_at nothing f.params)).pieces _ (commas_apart (params_at nothing f.params) ps.0) (fixed_opens lexemes.CloseParenthesis refl) (fixed_closed lexemes.CloseParenthesis refl
    (append_apart (results_at f.results).pieces _ (results_apart f.results h.results) space_opens (space (fixed_closed lexemes.OpenBrace refl body.0))))))))

abbrev FuncsNamed : List MapShape → List FuncShape → Type 0
FuncsNamed al fs = AllByRecursion (λ f. AllNamed al f.body) fs

functions_apart : (al : List MapShape) (fs : List FuncShape) → FuncsNamed al fs → ArePrintable fs → AreApart (functions_at al fs) × AreOpen (functions_at al fs)
functions_apart al [] named h = (tt, tt)
functions_apart al (f ∷ fs) named h =
    let r = functions_apart al fs named.1 h.1 in
    ((line_two (function_apart al f named.0 h.0), r.0), (two_opens, r.1))

module_apart : (al : List MapShape) (fs : List FuncShape) (script : Option Script) → FuncsNamed al fs → ArePrintable fs → IsPrintableScript script → IsApart (module_at al fs script).pieces
module_apart al fs script named h p =
    let r = functions_apart al fs named h in
    let e = each_apart (functions_at al fs) r.0 r.1 in
    leaf_name (classes.Exactly lexemes.Module) (lexeme_name lexemes.Module refl) space_opens (space
    (leaf_name (classes.Exactly lexemes.OpenBrace) (lexeme_name lexemes.OpenBrace refl) (append_opens (each_of (functions_at al fs)).pieces (rest_at script).pieces e.1 (rest_opens script))
    (append_apart (each_of (functions_at al fs)).pieces (rest_at script).pieces e.0 (rest_opens script) (rest_apart script p))))

whole_module : (al : List MapShape) (fs : List FuncShape) (script : Option Script) → FuncsNamed al fs → ArePrintable fs → IsPrintableScript script → IsApart ((module_at al fs script).pieces ++ [])
whole_module al fs script named h p = append_apart (module_at al fs script).pieces [] (module_apart al fs script named h p) none_opens none_apart

with_apart : (al : List MapShape) (fs : List FuncShape) (script : Option Script) → ArePrintableMaps al → ArePrintable fs → IsPrintableScript script → IsApart (text_with al fs script).pieces
with_apart al fs script p h q = lines_apart 0 al (made items.Module (module_at al fs script) ∷ []) p (whole_module al fs script (funcs_named al fs) h q)

-- the pieces of the canonical text are well spaced
pub text_spaced : (f : File) → IsPrintable f → IsSpaced (text_at f).pieces []
text_spaced f h =
    let a = aliases_are f.module.funcs h.funcs in
    whole (text_at f).pieces (with_apart (with_funcs [] f.module.funcs) f.module.funcs f.script a.printable h.funcs h.script)

-- its tokens are those that were written
pub text_tokens : (f : File) → IsPrintable f → shapes_of (text_of f) ≡ Ok (shapes_at 0 (text_at f).pieces)
unfolding text_of
text_tokens f h = shapes_of_pieces (text_at f).pieces (text_spaced f h)
