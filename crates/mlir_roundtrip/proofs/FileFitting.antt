-- Each token of a printable module's canonical text is of the class that the grammar wants there: functions and files.
use Rattle.std.proofs.Common.{◌≡◌, ◌<◌, ◌≤◌, ◌^◌, ℕ, ◌+◌, List, [], ◌∷◌, ◌++◌, length, map, refl, arith, Option}
use Rattle.std.specs.List.{AllByRecursion}
use Rattle.affine_maps.specs.Shape.{MapShape}
use Rattle.mlir_ir.specs.declared.tree.Ty.{Ty}
use Rattle.mlir_ir.specs.declared.tree.ValueId.{ValueId}
use Rattle.mlir_ir.specs.declared.tree.OpKind.{OpKind}
use Rattle.mlir_ir.specs.declared.tree.OpKind.TheVariants as kinds
use Rattle.mlir_ir.specs.declared.tree.Op.{Op}
use Rattle.mlir_ir.specs.Shape.{FuncShape}
use Rattle.mlir_print.specs.declared.names.Given.TheVariants.{Argument}
use Rattle.mlir_print.specs.Names.{Names, Row, with_argument, row_of, nothing}
use Rattle.text_format.specs.Writers.{each_of, commas, made}
use Rattle.mlir_syntax.specs.declared.tree.files.Item.TheVariants as items
use Rattle.mlir_print.specs.Maps.{with_funcs}
use Rattle.mlir_print.specs.Returns.{next_value_at, return_type_at, returned_at, return_at}
use Rattle.mlir_print.specs.Operations.{line_at, last_at, next}
use Rattle.mlir_print.specs.Canonical.{params_at, after_params, next_result_at, results_at, body_at, function_at, functions_at, module_at, text_with, text_at, rest_at}
use Rattle.mlir_roundtrip.specs.Printable.{IsTensorValue, IsPrintableReturn, ArePrintableOps, ArePrintableParams, ArePrintableResults, IsPrintableFunc, ArePrintable, IsPrintable, IsPrintableScript}
use Rattle.mlir_roundtrip.proofs.Rows.{RowsFit, rows_fit, tensor_value, Bound, bound_in}
use Rattle.mlir_roundtrip.proofs.AliasLines.{lines_fit}
use Rattle.mlir_roundtrip.proofs.Readable.{row_shaped}
use Rattle.text_format.proofs.Written.{LeavesFit, AreFit, both_fit, each_fit, commas_fit}
use Rattle.mlir_roundtrip.proofs.Leaves.{given_new}
use Rattle.mlir_roundtrip.proofs.Fitting.{value_type, line_fit}
use Rattle.script_read.specs.declared.script.Script.{Script}
use Rattle.mlir_file.specs.declared.file.File.{File}
use Rattle.mlir_roundtrip.proofs.Scripts.{rest_fits}

-- ---- the end of a function

next_values_fit : (rows : List Row) (vs : List ValueId) → AreFit (map (next_value_at rows) vs)
next_values_fit rows [] = tt
next_values_fit rows (v ∷ vs) = ((refl, tt), next_values_fit rows vs)

return_types_fit : (rows : List Row) → RowsFit rows → (vs : List ValueId) → AllByRecursion (IsTensorValue rows) vs → AreFit (map (return_type_at rows) vs)
return_types_fit rows f [] d = tt
return_types_fit rows f (v ∷ vs) d = ((refl, (value_type rows f v d.0, tt)), return_types_fit rows f vs d.1)

returned_fit : (rows : List Row) → RowsFit rows → (vs : List ValueId) → AllByRecursion (IsTensorValue rows) vs → LeavesFit (returned_at rows vs).pieces
returned_fit rows f [] d = (refl, (refl, tt))
returned_fit rows f (v ∷ vs) d = (
  refl,
  (
    refl,
    both_fit (each_of (map (next_value_at rows) vs)).pieces _ (each_fit (map (next_value_at rows) vs) (next_values_fit rows vs))
        (value_type rows f v d.0, both_fit (each_of (map (return_type_at rows) vs)).pieces _ (each_fit (map (return_type_at rows) vs) (return_types_fit rows f vs d.1)) (refl, tt)),
  ),
)

return_fit : (rows : List Row) (o : OpKind) → RowsFit rows → IsPrintableReturn rows o → LeavesFit (return_at rows o).pieces
return_fit rows (kinds.Return vs) f d = returned_fit rows f vs d
return_fit rows o f d = absurd d

last_fit : (al : List MapShape) (n : Names) (rs : List (ValueId × Ty)) (o : OpKind) → RowsFit n.rows → rs ≡ [] → IsPrintableReturn n.rows o → LeavesFit (last_at al n rs o).pieces
last_fit al n rs o f e h = rw e (return_fit n.rows o f h)

-- ---- functions and modules

body_fit : (al : List MapShape) (n : Names) (k : ℕ) (os : List Op) → k + length os ≤ 65536 → Bound k n → RowsFit n.rows → ArePrintableOps n os → LeavesFit (body_at al n os).pieces
body_fit al n k [] le b f h = absurd h
body_fit al n k (o ∷ []) le b f h = last_fit al n o.results o.kind f h.0 h.1
body_fit al n k (o ∷ (p ∷ os)) le b f h =
    let one = line_fit al n k o.results o.kind (omega arith) b f h.0 in
    both_fit (line_at al n o.results o.kind).pieces (body_at al (next n o) (p ∷ os)).pieces one.0 (body_fit al (next n o) (k + 1) (p ∷ os) (omega arith) one.2 one.1 h.1)

params_fit : (n : Names) (ps : List (ValueId × Ty)) → n.args + length ps < 2 ^ 64 → RowsFit n.rows → ArePrintableParams ps → AreFit (params_at n ps) × RowsFit (after_params n ps).rows
params_fit n [] s f h = (tt, f)
params_fit n (p ∷ ps) s f h =
    let small : n.args < 2 ^ 64 = omega arith in
    let more = params_fit (with_argument n p.0 p.1) ps (omega arith) (rows_fit n.rows (row_of p.0 (Argument n.args) p.1) f small (tensor_value p.1 h.0)) h.1 in
    (((given_new (Argument n.args) small, (row_shaped p.1 h.0, tt)), more.0), more.1)

more_results_fit : (ts : List Ty) → ArePrintableResults ts → AreFit (map next_result_at ts)
more_results_fit [] h = tt
more_results_fit (t ∷ ts) h = ((row_shaped t h.0, tt), more_results_fit ts h.1)

results_fit : (ts : List Ty) → ArePrintableResults ts → LeavesFit (results_at ts).pieces
results_fit [] h = tt
results_fit (t ∷ []) h = (row_shaped t h.0, tt)
results_fit (t ∷ (u ∷ ts)) h = (row_shaped t h.0, (row_shaped u h.1.0, both_fit (each_of (map next_result_at ts)).pieces _ (each_fit (map next_result_at ts) (more_results_fit ts h.1.1)) tt))

function_fit : (al : List MapShape) (f : FuncShape) → IsPrintableFunc f → LeavesFit (function_at al f).pieces
function_fit al f h =
    let few = h.few_params in
    let ps = params_fit nothing f.params (omega arith) (λ v x e. absurd (cc e)) h.params in
    let body = body_fit al (after_params nothing f.params) 0 f.body (omega (arith, h.few_ops)) (bound_in 0 f.params few) ps.1 h.ops in
    (refl, (refl, both_fit (commas (params_at nothing f.params)).pieces _ (commas_fit (params_at nothing f.params) ps.0) (both_fit (results_at f.results).pieces _ (results_fit f.results h.results) body)))

functions_fit : (al : List MapShape) (fs : List FuncShape) → ArePrintable fs → AreFit (functions_at al fs)
functions_fit al [] h = tt
functions_fit al (f ∷ fs) h = (function_fit al f h.0, functions_fit al fs h.1)

module_fit : (al : List MapShape) (fs : List FuncShape) (script : Option Script) → ArePrintable fs → IsPrintableScript script → LeavesFit ((module_at al fs script).pieces ++ [])
module_fit al fs script h p =
    both_fit (module_at al fs script).pieces [] (refl, (refl, both_fit (each_of (functions_at al fs)).pieces (rest_at script).pieces (each_fit (functions_at al fs) (functions_fit al fs h)) (rest_fits script p))) tt

with_fit : (al : List MapShape) (fs : List FuncShape) (script : Option Script) → ArePrintable fs → IsPrintableScript script → LeavesFit (text_with al fs script).pieces
with_fit al fs script h p = lines_fit 0 al (made items.Module (module_at al fs script) ∷ []) (module_fit al fs script h p)

-- each token of the canonical text is of its class
pub text_fits : (f : File) → IsPrintable f → LeavesFit (text_at f).pieces
text_fits f h = with_fit (with_funcs [] f.module.funcs) f.module.funcs f.script h.funcs h.script
