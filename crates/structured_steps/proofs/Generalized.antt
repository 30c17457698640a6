-- Generalizing keeps the meaning of every function of a verified module.
use Rattle.std.proofs.Common.{◌≡◌, ℕ, Bool, true, false, List, Option, Some, None, refl, subst}
use Rattle.std.proofs.lemmas.Option.{same_Some}
use Rattle.mlir_ir.specs.declared.tree.Op.{Op}
use Rattle.mlir_ir.specs.declared.tree.OpId.{OpId}
use Rattle.mlir_verify.specs.Place.{type_among}
use Rattle.verified_runs.specs.Forms.{Structured, kind_of, structured_of, is_generic}
use Rattle.verified_runs.specs.Edits.{renumbered}
use Rattle.verified_runs.specs.Laws.{IsRight, HasSameEffect}
use Rattle.verified_runs.specs.Fresh.{fresh_op, fresh_value}
use Rattle.verified_runs.proofs.Named.{same_kind}
use Rattle.verified_runs.proofs.Results.{anew_same}
use Rattle.verified_runs.proofs.Steps.{module_keeps}
use Rattle.structured_steps.specs.Generalize.{generalizes, generalize}
use Rattle.structured_steps.specs.Laws.{GeneralizeKeepsMeaning}

pub generalize_right : (op n : ℕ) (i : OpId) (body : List Op) → IsRight n i (generalize op n) body
generalize_right op n i body scope wanted o e found passes small made = by_form (is_generic o.kind) refl (structured_of (type_among scope) o.kind) refl made where
  by_form : (b : Bool) → is_generic o.kind ≡ b → (g : Option Structured) → structured_of (type_among scope) o.kind ≡ g → generalizes op n b g o ≡ Some e → HasSameEffect n scope o e
  by_form true p g q h = absurd cc
  by_form false p None q h = absurd cc
  by_form false p (Some g) q h =
      subst (HasSameEffect n scope o) (same_Some _ e h)
      (anew_same n op (kind_of g) scope o (λ u k. same_kind scope u k o.results (renumbered n o.results) o.kind passes.constants wanted g passes.typed q p))

pub generalize_keeps : GeneralizeKeepsMeaning
generalize_keeps m i verified = module_keeps m i (generalize (fresh_op m.funcs) (fresh_value m.funcs)) verified (generalize_right (fresh_op m.funcs) (fresh_value m.funcs) i)
