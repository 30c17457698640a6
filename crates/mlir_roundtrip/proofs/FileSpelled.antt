-- The canonical text's tree is spelled by its pieces: functions and files.
use Rattle.std.proofs.Common.{◌≡◌, ℕ, ◌+◌, List, [], ◌∷◌, ◌++◌, map, length, Option, refl, sym, ap, ◌∙◌, append_assoc, codes}
use Rattle.affine_maps.specs.Shape.{MapShape}
use Rattle.mlir_ir.specs.declared.tree.Ty.{Ty}
use Rattle.mlir_ir.specs.declared.tree.ValueId.{ValueId}
use Rattle.mlir_ir.specs.declared.tree.OpKind.{OpKind}
use Rattle.mlir_ir.specs.declared.tree.OpKind.TheVariants as kinds
use Rattle.mlir_ir.specs.declared.tree.Op.{Op}
use Rattle.mlir_ir.specs.Shape.{FuncShape}
use Rattle.text_format.specs.declared.class.Class.{Class}
use Rattle.text_format.specs.declared.class.Class.TheVariants as classes
use Rattle.text_format.specs.declared.class.Position.TheVariants as places
use Rattle.text_format.specs.declared.lexeme.Lexeme.{Lexeme}
use Rattle.text_format.specs.declared.lexeme.Lexeme.TheVariants as lexemes
use Rattle.text_format.specs.Token.{TokenShape}
use Rattle.text_format.specs.Pieces as P
use Rattle.text_format.specs.Pieces.{bytes_of}
use Rattle.text_format.specs.Formats as F
use Rattle.text_format.specs.Formats.{Format, leaf, ◌⊗◌, ◌▸◌, as_record, only, optional, many, spell_many, spell_some}
use Rattle.mlir_syntax.specs.declared.tree.files.NextResult.{NextResult}
use Rattle.mlir_syntax.specs.declared.tree.files.Returned.TheVariants.{Nothing, Values}
use Rattle.mlir_syntax.specs.declared.tree.files.Item.TheVariants as items
use Rattle.mlir_syntax.specs.Operations as operation_grammar
use Rattle.mlir_syntax.specs.Files as file_grammar
use Rattle.mlir_print.specs.Names.{Names, Row, with_argument, nothing}
use Rattle.mlir_print.specs.Types.{ty_text}
use Rattle.text_format.specs.Writers.{Writer, lay, space, lay_after, pair, made, each_of, ◌▷◌}
use Rattle.mlir_print.specs.Maps.{with_funcs}
use Rattle.mlir_print.specs.Returns.{Ending, type_at, closed_at, next_value_at, return_type_at, values_at, return_word_at, returned_at, return_at}
use Rattle.mlir_print.specs.Operations.{line_at, last_at, next}
use Rattle.mlir_print.specs.Canonical.{Body, param_at, params_at, names_in, next_result_at, results_at, body_at, function_at, functions_at, module_at, items_at, text_with, text_at}
use Rattle.mlir_roundtrip.specs.Printable.{IsPrintableReturn, ArePrintableOps, IsPrintableFunc, ArePrintable, IsPrintableScript, IsPrintable}
use Rattle.script_read.specs.declared.script.Script.{Script}
use Rattle.mlir_file.specs.declared.file.File.{File}
use Rattle.mlir_roundtrip.proofs.Scripts.{rest-w}
use Rattle.mlir_roundtrip.proofs.AliasLines.{lines-w}
use Rattle.text_format.proofs.Written.{spelled, spelled_append, IsWritten, AreWritten, put-w, lay-w, gap-w, sp-w, pair-w, made-w, each_spelled, many-w, list-w}
use Rattle.mlir_roundtrip.proofs.Spelled.{line-w}

-- ---- parameters and results

param-w : (n : Names) (ty : Ty) → IsWritten file_grammar.param (param_at n ty)
unfolding file_grammar.param
param-w n ty = made-w _ _ (λ _. refl) (pair-w (put-w _ _ _) (lay-w lexemes.Colon (sp-w (put-w _ _ _))))

params-w : (n : Names) (ps : List (ValueId × Ty)) → AreWritten file_grammar.param (params_at n ps)
params-w n [] = tt
params-w n (p ∷ ps) = (param-w n p.1, params-w (with_argument n p.0 p.1) ps)

-- where an item need not be there
optional-w : {A B : Type 0} (c : Class) (f : Format A) {g : Format B} (v : Writer (Option A)) {u : Writer B} → ((at : ℕ) → spell_some f (v.tree at) ≡ spelled at v.pieces) → IsWritten g u → IsWritten (optional c f g) (pair v u)
optional-w c f {g = g} v {u = u} h k = record {
  law = λ at.
      ap (λ is. is ++ g.spell (u.tree (at + length (bytes_of v.pieces)))) (h at) ∙ ap (λ is. spelled at v.pieces ++ is) (k.law (at + length (bytes_of v.pieces))) ∙ sym (spelled_append v.pieces u.pieces at);
}

-- items, and then a fixed token
abbrev closed_by : {A : Type 0} → Class → Format A → Lexeme → Format (List A)
closed_by c f close = as_record (λ x. x.0) (λ xs. (xs, tt)) (many c f (only close))

closed_by-w : {A : Type 0} (c : Class) (f : Format A) (close : Lexeme) (ws : List (Writer A)) → AreWritten f ws → IsWritten (closed_by c f close) (lay_after (each_of ws) (P.Fixed close ∷ []))
closed_by-w c f close ws h = record { law = λ at. ap (λ is. is ++ F.Fixed close ∷ []) (each_spelled f ws h at) ∙ sym (spelled_append (each_of ws).pieces (P.Fixed close ∷ []) at) }

next_result-w : (t : Ty) → IsWritten file_grammar.next_result (next_result_at t)
unfolding file_grammar.next_result
next_result-w t = made-w _ _ (λ _. refl) (lay-w lexemes.Comma (sp-w (put-w _ _ _)))

next_results-w : (ts : List Ty) → AreWritten file_grammar.next_result (map next_result_at ts)
next_results-w [] = tt
next_results-w (t ∷ ts) = (next_result-w t, next_results-w ts)

-- behind the parameters, where there are several results
abbrev several : Ty → Ty → List Ty → Writer (TokenShape × (TokenShape × List NextResult))
several t u ts = space ▷ lay lexemes.Arrow ▷ space ▷ lay lexemes.OpenParenthesis ▷ pair (type_at (ty_text t)) ▷ lay lexemes.Comma ▷ space ▷ pair (type_at (ty_text u)) ▷ lay_after (each_of (map next_result_at ts)) (P.Fixed lexemes.CloseParenthesis ∷ [])

abbrev several_format : Format (TokenShape × (TokenShape × List NextResult))
several_format = lexemes.Arrow ▸ lexemes.OpenParenthesis ▸ leaf classes.TensorType ⊗ lexemes.Comma ▸ leaf classes.TensorType ⊗ closed_by (classes.Exactly lexemes.Comma) file_grammar.next_result lexemes.CloseParenthesis

several-w : (t u : Ty) (ts : List Ty) → IsWritten several_format (several t u ts)
several-w t u ts = sp-w (lay-w lexemes.Arrow (sp-w (lay-w lexemes.OpenParenthesis (pair-w (put-w _ _ _) (lay-w lexemes.Comma (sp-w (pair-w (put-w _ _ _) (closed_by-w (classes.Exactly lexemes.Comma) file_grammar.next_result lexemes.CloseParenthesis (map next_result_at ts) (next_results-w ts)))))))))

results_spelled : (ts : List Ty) (at : ℕ) → spell_some file_grammar.result_types ((results_at ts).tree at) ≡ spelled at (results_at ts).pieces
unfolding file_grammar.result_types file_grammar.several_results
results_spelled [] at = refl
results_spelled (t ∷ []) at = refl
results_spelled (t ∷ (u ∷ ts)) at = (several-w t u ts).law at

-- ---- bodies

-- what ends a function
abbrev ending : Format Ending
ending = file_grammar.return_name ⊗ file_grammar.returned

short-w : IsWritten file_grammar.return_name return_word_at
unfolding file_grammar.return_name
short-w = record { law = λ at. refl }

next_value-w : (rows : List Row) (v : ValueId) → IsWritten file_grammar.next_value (next_value_at rows v)
unfolding file_grammar.next_value
next_value-w rows v = made-w _ _ (λ _. refl) (lay-w lexemes.Comma (sp-w (put-w _ _ _)))

next_values-w : (rows : List Row) (vs : List ValueId) → AreWritten file_grammar.next_value (map (next_value_at rows) vs)
next_values-w rows [] = tt
next_values-w rows (v ∷ vs) = (next_value-w rows v, next_values-w rows vs)

return_type-w : (rows : List Row) (v : ValueId) → IsWritten file_grammar.return_type (return_type_at rows v)
unfolding file_grammar.return_type
return_type-w rows v = made-w _ _ (λ _. refl) (pair-w (put-w _ _ _) (sp-w (put-w _ _ _)))

return_types-w : (rows : List Row) (vs : List ValueId) → AreWritten file_grammar.return_type (map (return_type_at rows) vs)
return_types-w rows [] = tt
return_types-w rows (v ∷ vs) = (return_type-w rows v, return_types-w rows vs)

values-w : (rows : List Row) (v : ValueId) (vs : List ValueId) → IsWritten file_grammar.returned_values (values_at rows v vs)
unfolding file_grammar.returned_values
values-w rows v vs = made-w _ _ (λ _. refl) (pair-w (put-w _ _ _) (many-w _ file_grammar.next_value (map (next_value_at rows) vs) (next_values-w rows vs)
    (sp-w (lay-w lexemes.Colon (sp-w (pair-w (put-w _ _ _) (many-w _ file_grammar.return_type (map (return_type_at rows) vs) (return_types-w rows vs) (gap-w (codes "\n  ") (put-w _ _ _)))))))))

nothing-w : IsWritten file_grammar.returned (made Nothing closed_at)
unfolding file_grammar.returned
nothing-w = record { law = λ at. refl }

some-w : (rows : List Row) (v : ValueId) (vs : List ValueId) → IsWritten file_grammar.returned (made Values (values_at rows v vs))
unfolding file_grammar.returned
some-w rows v vs = let w = values-w rows v vs in record { law = λ at. w.law at }

returned-w : (rows : List Row) (vs : List ValueId) → IsWritten ending (returned_at rows vs)
returned-w rows [] = pair-w short-w nothing-w
returned-w rows (v ∷ vs) = pair-w short-w (sp-w (some-w rows v vs))

return-w : (rows : List Row) (o : OpKind) → IsPrintableReturn rows o → IsWritten ending (return_at rows o)
return-w rows (kinds.Return vs) h = returned-w rows vs
return-w rows o h = absurd h

last-w : (al : List MapShape) (n : Names) (rs : List (ValueId × Ty)) (o : OpKind) → rs ≡ [] → IsPrintableReturn n.rows o → IsWritten ending (last_at al n rs o)
last-w al n rs o e h = rw e (return-w n.rows o h)

abbrev statements : Format Body
statements = many (classes.NewValueAt places.Statement) operation_grammar.statement ending

body-w : (al : List MapShape) (n : Names) (os : List Op) → ArePrintableOps n os → IsWritten statements (body_at al n os)
body-w al n [] h = absurd h
body-w al n (o ∷ []) h = let l = last-w al n o.results o.kind h.0 h.1 in record { law = λ at. l.law (at + 5) }
body-w al n (o ∷ (p ∷ os)) h =
    let one = line-w al n o.results o.kind h.0 in
    let more = body-w al (next n o) (p ∷ os) h.1 in
    record {
      law = λ at.
          append_assoc (operation_grammar.statement.spell ((line_at al n o.results o.kind).tree (at + 5))) _ _
          ∙ ap (λ is. is ++ statements.spell ((body_at al (next n o) (p ∷ os)).tree (at + 5 + length (bytes_of (line_at al n o.results o.kind).pieces)))) (one.law (at + 5))
          ∙ ap (λ is. spelled (at + 5) (line_at al n o.results o.kind).pieces ++ is) (more.law (at + 5 + length (bytes_of (line_at al n o.results o.kind).pieces)))
          ∙ sym (spelled_append (line_at al n o.results o.kind).pieces (body_at al (next n o) (p ∷ os)).pieces (at + 5));
    }

-- ---- functions and modules

function-w : (al : List MapShape) (f : FuncShape) → IsPrintableFunc f → IsWritten file_grammar.function (function_at al f)
unfolding file_grammar.function
function-w al f h = made-w _ _ (λ _. refl) (pair-w (put-w _ _ _) (sp-w (pair-w (put-w _ _ _) (lay-w lexemes.OpenParenthesis (list-w lexemes.CloseParenthesis file_grammar.param (params_at nothing f.params) (params-w nothing f.params)
    (optional-w _ file_grammar.result_types (results_at f.results) (results_spelled f.results) (sp-w (lay-w lexemes.OpenBrace (body-w al (names_in f) f.body h.ops)))))))))

functions-w : (al : List MapShape) (fs : List FuncShape) → ArePrintable fs → AreWritten file_grammar.function (functions_at al fs)
functions-w al [] h = tt
functions-w al (f ∷ fs) h = (gap-w (codes "\n  ") (function-w al f h.0), functions-w al fs h.1)

enclosed-w : (al : List MapShape) (fs : List FuncShape) (script : Option Script) → ArePrintable fs → IsPrintableScript script → IsWritten file_grammar.enclosed (module_at al fs script)
unfolding file_grammar.enclosed
enclosed-w al fs script h p =
    let w = pair-w (put-w (classes.Exactly lexemes.Module) _ _) (sp-w (pair-w (put-w (classes.Exactly lexemes.OpenBrace) _ _) (many-w (classes.Exactly lexemes.FuncFunc) file_grammar.function (functions_at al fs) (functions-w al fs h) (rest-w script p)))) in
    record { law = λ at. w.law at }

-- ---- texts

module-w : (al : List MapShape) (fs : List FuncShape) (script : Option Script) → ArePrintable fs → IsPrintableScript script → IsWritten file_grammar.item (made items.Module (module_at al fs script))
unfolding file_grammar.item
module-w al fs script h p = let w = enclosed-w al fs script h p in record { law = λ at. w.law at }

items-w : (al : List MapShape) (fs : List FuncShape) (script : Option Script) → ArePrintable fs → IsPrintableScript script → AreWritten file_grammar.item (items_at al fs script)
items-w al fs script h p = lines-w 0 al (made items.Module (module_at al fs script) ∷ []) (module-w al fs script h p, tt)

text-w : (al : List MapShape) (fs : List FuncShape) (script : Option Script) → AreWritten file_grammar.item (items_at al fs script) → IsWritten file_grammar.text (text_with al fs script)
unfolding file_grammar.text
text-w al fs script h = record { law = λ at. each_spelled file_grammar.item (items_at al fs script) h at }

-- the tree of the canonical text is spelled by its pieces
pub text_spelled : (f : File) → IsPrintable f → IsWritten file_grammar.text (text_at f)
text_spelled f h =
    text-w (with_funcs [] f.module.funcs) f.module.funcs f.script (items-w (with_funcs [] f.module.funcs) f.module.funcs f.script h.funcs h.script)
