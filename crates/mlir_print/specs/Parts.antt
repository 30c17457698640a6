-- The bytes of functions and whole texts, in the order in which they are written.
use Rattle.std.specs.Prelude.{ℕ, List, [], ◌∷◌, ◌++◌, Option, Some, None, codes}
use Rattle.mlir_ir.specs.declared.tree.Ty.{Ty}
use Rattle.mlir_ir.specs.declared.tree.ValueId.{ValueId}
use Rattle.mlir_ir.specs.declared.tree.Op.{Op}
use Rattle.mlir_ir.specs.Shape.{FuncShape}
use Rattle.text_format.specs.Pieces.{bytes_of}
use Rattle.script_read.specs.declared.script.Script.{Script}
use Rattle.script_text.specs.Canonical.{sequence_at}
use Rattle.mlir_print.specs.declared.names.Given.TheVariants.{Argument}
use Rattle.mlir_print.specs.Types.{ty_text}
use Rattle.mlir_print.specs.Names.{Names, nothing, given_text, with_argument}
use Rattle.mlir_print.specs.Operations.{next}
use Rattle.mlir_print.specs.Canonical.{after_params}
use Rattle.mlir_print.specs.MapParts.{alias_lines_text}
use Rattle.mlir_print.specs.OperationParts.{line_text}

abbrev pub param_text : Names → Ty → List ℕ
param_text n ty = given_text (Argument n.args) ++ (codes ": " ++ ty_text ty)

abbrev pub params_text : List ℕ → Names → List (ValueId × Ty) → List ℕ
params_text before n [] = []
params_text before n (p ∷ ps) = before ++ (param_text n p.1 ++ params_text (codes ", ") (with_argument n p.0 p.1) ps)

abbrev pub body_text : List (List ℕ) → Names → List Op → List ℕ
body_text ts n [] = []
body_text ts n (o ∷ os) = codes "\n    " ++ (line_text ts n o ++ body_text ts (next n o) os)

-- between commas; `before` stands before the first
abbrev pub result_types_text : List ℕ → List Ty → List ℕ
result_types_text before [] = []
result_types_text before (t ∷ ts) = before ++ (ty_text t ++ result_types_text (codes ", ") ts)

abbrev pub results_text : List Ty → List ℕ
results_text [] = []
results_text (t ∷ []) = codes " -> " ++ ty_text t
results_text (t ∷ (u ∷ ts)) = codes " -> (" ++ (result_types_text [] (t ∷ (u ∷ ts)) ++ codes ")")

unfoldable pub opening_text : List ℕ → List ℕ
opening_text name = codes "func.func @" ++ (name ++ codes "(")

unfoldable pub signature_text : List ℕ → List (ValueId × Ty) → List Ty → List ℕ
signature_text name params results = opening_text name ++ (params_text [] nothing params ++ (codes ")" ++ results_text results))

unfoldable pub func_text : List (List ℕ) → List ℕ → List (ValueId × Ty) → List Ty → List Op → List ℕ
func_text ts name params results body = signature_text name params results ++ (codes " {" ++ (body_text ts (after_params nothing params) body ++ codes "\n  }"))

abbrev pub function_text : List (List ℕ) → FuncShape → List ℕ
function_text ts f = func_text ts f.name f.params f.results f.body

abbrev pub functions_text : List (List ℕ) → List FuncShape → List ℕ
functions_text ts [] = []
functions_text ts (f ∷ fs) = codes "\n  " ++ (function_text ts f ++ functions_text ts fs)

abbrev pub rest_text : Option Script → List ℕ
rest_text None = codes "\n}\n"
rest_text (Some s) = codes "\n  module attributes {transform.with_named_sequence} {\n    " ++ (bytes_of (sequence_at 2 s).pieces ++ codes "\n  }\n}\n")

abbrev pub module_text : List (List ℕ) → List FuncShape → Option Script → List ℕ
module_text ts fs script = codes "module {" ++ (functions_text ts fs ++ rest_text script)

abbrev pub whole_text : List (List ℕ) → List FuncShape → Option Script → List ℕ
whole_text ts fs script = alias_lines_text 0 ts ++ module_text ts fs script
