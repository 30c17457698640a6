-- Every function keeps its meaning through a script.
use Rattle.std.proofs.Common.{◌≡◌, ℕ, zero, suc, List, [], ◌∷◌, map, length, Option, Some, None, Result, Ok, Err, refl, ap, sym, subst, ◌∙◌}
use Rattle.std.specs.Prelude.{slice_get}
use Rattle.std.proofs.lemmas.Option.{same_Some, none-some}
use Rattle.mlir_ir.specs.Shape.{FuncShape}
use Rattle.mlir_ir.specs.declared.tree.Module.{Module}
use Rattle.mlir_ir.specs.declared.tree.OpId.{OpId}
use Rattle.mlir_ir.specs.declared.tree.Ty.{Ty}
use Rattle.mlir_ir.specs.declared.tree.ValueId.{ValueId}
use Rattle.mlir_meaning.specs.Grids.{Each}
use Rattle.verified_runs.specs.Edits.{Step, edited_func}
use Rattle.verified_runs.specs.Fresh.{fresh_op, fresh_value}
use Rattle.verified_runs.specs.Laws.{KeepsMeaning}
use Rattle.verified_runs.specs.Passes.{FuncPasses}
use Rattle.verified_runs.specs.Typed.{AreOf, types_of}
use Rattle.verified_runs.proofs.Verified.{verified_passes}
use Rattle.mlir_verify.specs.Rules.{IsVerified}
use Rattle.pair_laws.specs.FuseAll.{Stop, Pair, first_pair, fuse_pair, fuse_next, fuse_from, fuse_all}
use Rattle.pair_laws.proofs.Ending.{same_ok, goes_on}
use Rattle.pair_laws.proofs.Keeping.{fuse_all_keeps}
use Rattle.fuse_elementwise.specs.Fused.{with_func, formed_by, fused_at, fused_in}
use Rattle.structured_steps.specs.Generalize.{generalize}
use Rattle.structured_steps.specs.Interchange.{interchange}
use Rattle.structured_steps.specs.Steps.{generalized, interchanged_in}
use Rattle.structured_steps.proofs.Generalized.{generalize_keeps}
use Rattle.structured_steps.proofs.Interchanged.{interchange_keeps}
use Rattle.script_run.specs.Laws.{IsSameFunction, AreSameFunctions, RunKeepsMeaning}
use Rattle.script_run.proofs.Fused.{ok_module}
use Rattle.script_run.proofs.Kept.{IsKept}
use Rattle.script_run.proofs.Running.{run_verifies}

same_self : (fs : List FuncShape) → AreSameFunctions fs fs
same_self [] = tt
same_self (f ∷ fs) = (record { name = refl; params = refl; results = refl; means = λ inputs typed. refl }, same_self fs)

function_then : (f g h : FuncShape) → IsSameFunction f g → IsSameFunction g h → IsSameFunction f h
function_then f g h a b = record {
  name = b.name ∙ a.name;
  params = b.params ∙ a.params;
  results = b.results ∙ a.results;
  means = λ inputs typed. b.means inputs (subst (λ (ps : List (ValueId × Ty)). AreOf (types_of ps) inputs) (sym a.params) typed) ∙ a.means inputs typed;
}

same_then : (fs gs hs : List FuncShape) → AreSameFunctions fs gs → AreSameFunctions gs hs → AreSameFunctions fs hs
same_then [] [] [] a b = tt
same_then [] [] (h ∷ hs) a b = absurd b
same_then [] (g ∷ gs) hs a b = absurd a
same_then (f ∷ fs) [] hs a b = absurd a
same_then (f ∷ fs) (g ∷ gs) [] a b = absurd b
same_then (f ∷ fs) (g ∷ gs) (h ∷ hs) a b = (function_then f g h a.0 b.0, same_then fs gs hs a.1 b.1)

-- a step that keeps the meaning of every function
edited_same : (i : OpId) (step : Step) (fs : List FuncShape) → Each (KeepsMeaning i step) fs → AreSameFunctions fs (map (edited_func i step) fs)
edited_same i step [] h = tt
edited_same i step (f ∷ fs) h = (record { name = refl; params = refl; results = refl; means = λ inputs typed. h.0 inputs typed }, edited_same i step fs h.1)

-- a function with its pairs fused
record HasSignature (f g : FuncShape) : Type 0 where
  pub name : g.name ≡ f.name
  pub params : g.params ≡ f.params
  pub results : g.results ≡ f.results

signature_kept : (n : ℕ) (f g : FuncShape) → fuse_from n f ≡ Ok g → HasSignature f g
signature_kept zero f g h = subst (HasSignature f) (same_ok f g (fuse_from zero f) refl h) (record { name = refl; params = refl; results = refl })
signature_kept (suc n) f g h = by (λ e k. signature_kept n e g k) (first_pair f) refl h where
  by : ((e : FuncShape) → fuse_from n e ≡ Ok g → HasSignature e g) → (o : Option Pair) → first_pair f ≡ o → fuse_next (fuse_from n) f o ≡ Ok g → HasSignature f g
  by again None q k = subst (HasSignature f) (same_ok f g (fuse_next (fuse_from n) f None) refl k) (record { name = refl; params = refl; results = refl })
  by again (Some x) q k = let more = again (fuse_pair f x) (goes_on (fuse_from n) f g x k).rest in record { name = more.name; params = more.params; results = more.results }

fused_function : (f g : FuncShape) → FuncPasses f → fuse_all f ≡ Ok g → IsSameFunction f g
fused_function f g h e =
    let s = signature_kept (length f.body) f g e in
    record { name = s.name; params = s.params; results = s.results; means = λ inputs typed. fuse_all_keeps f g h e inputs typed }

fused_among : (fs : List FuncShape) (k : ℕ) (f g : FuncShape) → Each FuncPasses fs → slice_get fs k ≡ Some f → fuse_all f ≡ Ok g → AreSameFunctions fs (with_func k g fs)
fused_among [] zero f g h t e = absurd (none-some f t)
fused_among [] (suc k) f g h t e = absurd (none-some f t)
fused_among (x ∷ fs) zero f g h t e = (fused_function x g h.0 (ap fuse_all (same_Some x f t) ∙ e), same_self fs)
fused_among (x ∷ fs) (suc k) f g h t e = ((same_self (x ∷ [])).0, fused_among fs k f g h.1 t e)

fused_same : (k : ℕ) (m n : Module) → IsVerified m → fused_in k m ≡ Ok n → AreSameFunctions m.funcs n.funcs
fused_same k m n verified h = by_func (slice_get m.funcs k) refl h where
  by_form : (f : FuncShape) → slice_get m.funcs k ≡ Some f → (r : Result FuncShape Stop) → fuse_all f ≡ r → formed_by k m r ≡ Ok n → AreSameFunctions m.funcs n.funcs
  by_form f t (Err x) d e = absurd cc
  by_form f t (Ok g) d e =
      subst (λ (x : Module). AreSameFunctions m.funcs x.funcs) (ok_module (record { funcs = with_func k g m.funcs }) n e) (fused_among m.funcs k f g (verified_passes m verified) t d)

  by_func : (x : Option FuncShape) → slice_get m.funcs k ≡ x → fused_at k m x ≡ Ok n → AreSameFunctions m.funcs n.funcs
  by_func None t e = subst (λ (x : Module). AreSameFunctions m.funcs x.funcs) (ok_module m n e) (same_self m.funcs)
  by_func (Some f) t e = by_form f t (fuse_all f) refl e

abbrev FunctionsOf : Module → Module → Type 0
FunctionsOf m n = AreSameFunctions m.funcs n.funcs

functions_kept : (m : Module) → IsKept (FunctionsOf m)
functions_kept m = record {
  generalize = λ n i verified q stands rule limit.
      same_then m.funcs n.funcs (generalized i n).funcs q (edited_same i (generalize (fresh_op n.funcs) (fresh_value n.funcs)) n.funcs (generalize_keeps n i verified));
  interchange = λ n i order verified q stands rule limit.
      same_then m.funcs n.funcs (interchanged_in i order n).funcs q (edited_same i (interchange order (fresh_op n.funcs) (fresh_value n.funcs)) n.funcs (interchange_keeps n i order verified));
  fuse = λ n formed k verified q there limit. same_then m.funcs n.funcs formed.funcs q (fused_same k n formed verified there);
}

pub run_keeps_functions : RunKeepsMeaning
run_keeps_functions s m n verified e =
    let kept = run_verifies (FunctionsOf m) (functions_kept m) s m n verified e in
    (kept.0, kept.1 (same_self m.funcs))
