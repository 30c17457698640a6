-- What generalizing forms from a verified module verifies.
use Rattle.std.proofs.Common.{◌≡◌, ℕ, Bool, true, false, List, Option, Some, None, refl, subst, arith}
use Rattle.std.specs.List.{list_all}
use Rattle.std.proofs.lemmas.Bool.{and_parts}
use Rattle.std.proofs.lemmas.Option.{same_Some}
use Rattle.mlir_ir.specs.declared.tree.Op.{Op}
use Rattle.mlir_ir.specs.declared.tree.Ty.{Ty}
use Rattle.mlir_ir.specs.declared.tree.ValueId.{ValueId}
use Rattle.mlir_verify.specs.Limits.{is_small_type, has_few_dimensions}
use Rattle.mlir_verify.specs.Place.{type_among}
use Rattle.verified_runs.specs.Edits.{renumbered, anew}
use Rattle.verified_runs.specs.Forms.{Structured, kind_of, structured_of, is_generic}
use Rattle.verified_runs.specs.Fresh.{fresh_value, fresh_op}
use Rattle.verified_runs.specs.Passes.{Scope}
use Rattle.verified_runs.proofs.NamedLaws.{generic_passes}
use Rattle.structured_steps.specs.Generalize.{generalizes, generalize}
use Rattle.step_results.specs.Edits.{IsTarget, FitsThere, Fits}
use Rattle.step_results.specs.Laws.{GeneralizedVerifies}
use Rattle.step_results.proofs.Anew.{renumbered_types, fresh_results, generic_fits, structured_one, structured_goes_on, structured_few}
use Rattle.step_results.proofs.Edits.{edits_verify}
use Rattle.step_results.proofs.Small.{numbers_below}

-- a structured operation's generic in its place
pub structured_fits : (n k : ℕ) (scope : Scope) (wanted : List Ty) (o : Op) (g : Structured) → IsTarget n scope wanted o → structured_of (type_among scope) o.kind ≡ Some g → FitsThere n k scope wanted o (anew k n (kind_of g) o)
structured_fits n k scope wanted o g target q =
    let t = type_among scope in
    let limits = and_parts (list_all (λ (r : ValueId × Ty). is_small_type r.1) o.results) (has_few_dimensions o.kind) target.small in
    generic_fits n k g scope wanted o target (structured_one t target.passes.constants wanted o.results o.kind g q target.passes.typed) (structured_goes_on t target.passes.constants wanted o.results o.kind g q)
    (structured_few t target.passes.constants wanted o.results limits.0 o.kind g q target.passes.typed limits.1)
    (generic_passes scope wanted o g (record { 0 = k }) (renumbered n o.results) target.passes q (renumbered_types n o.results)
    (fresh_results n n scope o.results (omega arith) (numbers_below scope n target.scope_below)))

pub generalize_fits : (n k : ℕ) → Fits n k (generalize k n)
generalize_fits n k scope wanted o e target made = by_form (is_generic o.kind) (structured_of (type_among scope) o.kind) refl made where
  by_form : (b : Bool) (g : Option Structured) → structured_of (type_among scope) o.kind ≡ g → generalizes k n b g o ≡ Some e → FitsThere n k scope wanted o e
  by_form true g q h = absurd cc
  by_form false None q h = absurd cc
  by_form false (Some g) q h = subst (FitsThere n k scope wanted o) (same_Some _ e h) (structured_fits n k scope wanted o g target q)

pub generalized_verifies : GeneralizedVerifies
generalized_verifies m i verified = edits_verify m i (generalize (fresh_op m.funcs) (fresh_value m.funcs)) verified (generalize_fits (fresh_value m.funcs) (fresh_op m.funcs))
