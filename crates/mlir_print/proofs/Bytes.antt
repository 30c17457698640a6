-- The pieces of a canonical text have the bytes that are written.
use Rattle.std.proofs.Common.{◌≡◌, ℕ, ◌+◌, List, [], ◌∷◌, ◌++◌, map, Option, Some, None, refl, sym, ap, ◌∙◌, append_assoc, codes}
use Rattle.std.proofs.lemmas.List.{append-nil}
use Rattle.affine_maps.specs.Shape.{MapShape}
use Rattle.affine_text.specs.Text.{text_of_map}
use Rattle.mlir_ir.specs.declared.tree.Ty.{Ty}
use Rattle.mlir_ir.specs.declared.tree.ValueId.{ValueId}
use Rattle.mlir_ir.specs.declared.tree.OpKind.{OpKind}
use Rattle.mlir_ir.specs.declared.tree.OpKind.TheVariants as kinds
use Rattle.mlir_ir.specs.declared.tree.Op.{Op}
use Rattle.script_read.specs.declared.script.Script.{Script}
use Rattle.script_text.specs.Canonical.{sequence_at}
use Rattle.mlir_file.specs.declared.file.File.{File}
use Rattle.mlir_ir.specs.Shape.{FuncShape}
use Rattle.text_format.specs.declared.lexeme.Lexeme.TheVariants.{CloseBrace}
use Rattle.text_format.specs.Pieces.{Piece, Gap, Fixed, bytes_of}
use Rattle.mlir_syntax.specs.declared.tree.files.Item.{Item}
use Rattle.mlir_syntax.specs.declared.tree.files.Item.TheVariants as items
use Rattle.mlir_print.specs.declared.names.Given.TheVariants.{Result}
use Rattle.mlir_print.specs.Types.{ty_text}
use Rattle.mlir_print.specs.Names.{Names, Row, given_text, name_in, type_in, with_argument}
use Rattle.mlir_print.specs.Maps.{alias_line_at, alias_lines_at}
use Rattle.mlir_print.specs.Operations.{defined_at, line_at, last_at, next}
use Rattle.mlir_print.specs.Canonical.{params_at, body_at, results_at, function_at, functions_at, closing_at, rest_at, module_at, text_with, aliases_of, text_of, next_result_at}
use Rattle.text_format.specs.Writers.{Writer, each_of, commas, after_comma, made}
use Rattle.mlir_print.specs.MapParts.{alias_line_text, alias_lines_text, after_funcs_texts}
use Rattle.mlir_print.specs.OperationParts.{defined_text, line_text_by, line_text}
use Rattle.mlir_print.specs.Parts.{params_text, body_text, results_text, opening_text, signature_text, func_text, function_text, functions_text, rest_text, module_text, whole_text, result_types_text}
use Rattle.mlir_print.specs.Returns.{values_text, types_text, returned_text, return_text, closed_at, next_value_at, return_type_at, returned_at, return_at}
use Rattle.mlir_print.proofs.Texts.{funcs_texts}
use Rattle.mlir_print.proofs.PayloadBytes.{bytes_append, alias_line_bytes}
use Rattle.mlir_print.proofs.OperationBytes.{operation_bytes}

-- ---- lines

defined_bytes : (al : List MapShape) (n : Names) (ty : Ty) (k : OpKind) → bytes_of (defined_at al n ty k).pieces ≡ defined_text (map text_of_map al) n ty k
unfolding defined_text
defined_bytes al n ty k = ap (λ (t : List ℕ). given_text (Result n.results) ++ (codes " = " ++ t)) (operation_bytes al n ty k)

-- behind a return
abbrev closing : List ℕ
closing = codes "\n  }"

further_values : (rows : List Row) (vs : List ValueId) → bytes_of (each_of (map (next_value_at rows) vs)).pieces ≡ values_text rows (codes ", ") vs
further_values rows [] = refl
further_values rows (v ∷ vs) = ap (λ (t : List ℕ). codes ", " ++ (name_in rows v ++ t)) (further_values rows vs)

further_types : (rows : List Row) (vs : List ValueId) → bytes_of (each_of (map (return_type_at rows) vs)).pieces ≡ types_text rows (codes ", ") vs
further_types rows [] = refl
further_types rows (v ∷ vs) = ap (λ (t : List ℕ). codes ", " ++ (type_in rows v ++ t)) (further_types rows vs)

returned_bytes : (rows : List Row) (vs : List ValueId) → bytes_of (returned_at rows vs).pieces ≡ returned_text rows vs ++ closing
returned_bytes rows [] = refl
returned_bytes rows (v ∷ vs) = simp (bytes_append, further_values, further_types, append_assoc)

return_bytes : (rows : List Row) (k : OpKind) → bytes_of (return_at rows k).pieces ≡ return_text rows k ++ closing
return_bytes rows (kinds.Return vs) = returned_bytes rows vs
return_bytes rows k = refl

line_bytes : (al : List MapShape) (n : Names) (rs : List (ValueId × Ty)) (k : OpKind) → bytes_of (line_at al n rs k).pieces ≡ line_text_by (map text_of_map al) n rs k
line_bytes al n [] k = append-nil (return_text n.rows k)
line_bytes al n (r ∷ []) k = defined_bytes al n r.1 k
line_bytes al n (r ∷ (s ∷ rs)) k = refl

last_bytes : (al : List MapShape) (n : Names) (rs : List (ValueId × Ty)) (k : OpKind) → bytes_of (last_at al n rs k).pieces ≡ line_text_by (map text_of_map al) n rs k ++ closing
last_bytes al n [] k = return_bytes n.rows k
last_bytes al n (r ∷ []) k = bytes_append (defined_at al n r.1 k).pieces closed_at.pieces ∙ ap (λ (t : List ℕ). t ++ closing) (defined_bytes al n r.1 k)
last_bytes al n (r ∷ (s ∷ rs)) k = refl

-- ---- functions

more_params : (n : Names) (ps : List (ValueId × Ty)) → bytes_of (each_of (map after_comma (params_at n ps))).pieces ≡ params_text (codes ", ") n ps
more_params n [] = refl
more_params n (p ∷ ps) = simp (more_params (with_argument n p.0 p.1) ps, append_assoc)

params_bytes : (n : Names) (ps : List (ValueId × Ty)) → bytes_of (commas (params_at n ps)).pieces ≡ params_text [] n ps
params_bytes n [] = refl
params_bytes n (p ∷ ps) = simp (more_params (with_argument n p.0 p.1) ps, append_assoc)

body_bytes : (al : List MapShape) (n : Names) (os : List Op) → bytes_of (body_at al n os).pieces ≡ body_text (map text_of_map al) n os ++ closing
unfolding line_text
body_bytes al n [] = refl
body_bytes al n (o ∷ []) = ap (λ (t : List ℕ). codes "\n    " ++ t) (last_bytes al n o.results o.kind ∙ ap (λ (t : List ℕ). t ++ closing) (sym (append-nil (line_text_by (map text_of_map al) n o.results o.kind))))
body_bytes al n (o ∷ (p ∷ os)) = ap (λ (t : List ℕ). codes "\n    " ++ t) (bytes_append (line_at al n o.results o.kind).pieces (body_at al (next n o) (p ∷ os)).pieces
    ∙ ap (λ (t : List ℕ). t ++ bytes_of (body_at al (next n o) (p ∷ os)).pieces) (line_bytes al n o.results o.kind) ∙ ap (λ (t : List ℕ). line_text_by (map text_of_map al) n o.results o.kind ++ t) (body_bytes al (next n o) (p ∷ os))
    ∙ sym (append_assoc (line_text_by (map text_of_map al) n o.results o.kind) (body_text (map text_of_map al) (next n o) (p ∷ os)) closing))

more_results : (ts : List Ty) → bytes_of (each_of (map next_result_at ts)).pieces ≡ result_types_text (codes ", ") ts
more_results [] = refl
more_results (t ∷ ts) = ap (λ (b : List ℕ). codes ", " ++ (ty_text t ++ b)) (more_results ts)

results_bytes : (ts : List Ty) → bytes_of (results_at ts).pieces ≡ results_text ts
results_bytes [] = refl
results_bytes (t ∷ []) = ap (λ (b : List ℕ). codes " -> " ++ b) (append-nil (ty_text t))
results_bytes (t ∷ (u ∷ ts)) = simp (bytes_append, more_results, append_assoc)

function_bytes : (al : List MapShape) (f : FuncShape) → bytes_of (function_at al f).pieces ≡ function_text (map text_of_map al) f
unfolding func_text signature_text opening_text
function_bytes al f = simp (bytes_append, params_bytes, results_bytes, body_bytes, append_assoc)

functions_bytes : (al : List MapShape) (fs : List FuncShape) → bytes_of (each_of (functions_at al fs)).pieces ≡ functions_text (map text_of_map al) fs
functions_bytes al [] = refl
functions_bytes al (f ∷ fs) = ap (λ (t : List ℕ). codes "\n  " ++ t) (bytes_append (function_at al f).pieces (each_of (functions_at al fs)).pieces
    ∙ ap (λ (t : List ℕ). t ++ bytes_of (each_of (functions_at al fs)).pieces) (function_bytes al f) ∙ ap (λ (t : List ℕ). function_text (map text_of_map al) f ++ t) (functions_bytes al fs))

script_bytes : (ps : List Piece) → bytes_of ((ps ++ (Gap (codes "\n  ") ∷ Fixed CloseBrace ∷ [])) ++ closing_at.pieces) ≡ bytes_of ps ++ codes "\n  }\n}\n"
script_bytes ps =
    bytes_append (ps ++ (Gap (codes "\n  ") ∷ Fixed CloseBrace ∷ [])) closing_at.pieces ∙ ap (λ (t : List ℕ). t ++ codes "\n}\n") (bytes_append ps (Gap (codes "\n  ") ∷ Fixed CloseBrace ∷ [])) ∙ append_assoc (bytes_of ps) (codes "\n  }") (codes "\n}\n")

rest_bytes : (script : Option Script) → bytes_of (rest_at script).pieces ≡ rest_text script
rest_bytes None = refl
rest_bytes (Some s) = ap (λ (t : List ℕ). codes "\n  module attributes {transform.with_named_sequence} {\n    " ++ t) (script_bytes (sequence_at 2 s).pieces)

module_bytes : (al : List MapShape) (fs : List FuncShape) (script : Option Script) → bytes_of (module_at al fs script).pieces ≡ module_text (map text_of_map al) fs script
module_bytes al fs script =
    ap (λ (t : List ℕ). codes "module {" ++ t) (bytes_append (each_of (functions_at al fs)).pieces (rest_at script).pieces ∙ ap (λ (t : List ℕ). t ++ bytes_of (rest_at script).pieces) (functions_bytes al fs)
    ∙ ap (λ (t : List ℕ). functions_text (map text_of_map al) fs ++ t) (rest_bytes script))

-- the aliases, and then more items
items_bytes : (n : ℕ) (ms : List MapShape) (ws : List (Writer Item)) → bytes_of (each_of (map (made items.Alias) (alias_lines_at n ms) ++ ws)).pieces ≡ alias_lines_text n (map text_of_map ms) ++ bytes_of (each_of ws).pieces
items_bytes n [] ws = refl
items_bytes n (m ∷ ms) ws = bytes_append (alias_line_at n m).pieces (each_of (map (made items.Alias) (alias_lines_at (n + 1) ms) ++ ws)).pieces
    ∙ ap (λ (t : List ℕ). t ++ bytes_of (each_of (map (made items.Alias) (alias_lines_at (n + 1) ms) ++ ws)).pieces) (alias_line_bytes n m)
    ∙ ap (λ (t : List ℕ). alias_line_text n (text_of_map m) ++ t) (items_bytes (n + 1) ms ws)
    ∙ sym (append_assoc (alias_line_text n (text_of_map m)) (alias_lines_text (n + 1) (map text_of_map ms)) (bytes_of (each_of ws).pieces))

with_bytes : (al : List MapShape) (fs : List FuncShape) (script : Option Script) → bytes_of (text_with al fs script).pieces ≡ whole_text (map text_of_map al) fs script
with_bytes al fs script = items_bytes 0 al (made items.Module (module_at al fs script) ∷ [])
    ∙ ap (λ (t : List ℕ). alias_lines_text 0 (map text_of_map al) ++ t) (bytes_append (module_at al fs script).pieces [] ∙ append-nil (bytes_of (module_at al fs script).pieces) ∙ module_bytes al fs script)

pub text_bytes : (f : File) → text_of f ≡ whole_text (after_funcs_texts [] f.module.funcs) f.module.funcs f.script
unfolding text_of
text_bytes f = with_bytes (aliases_of f) f.module.funcs f.script ∙ ap (λ (ts : List (List ℕ)). whole_text ts f.module.funcs f.script) (sym (funcs_texts [] f.module.funcs))
