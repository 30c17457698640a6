-- What the code answers of an operation is what is told of it.
use Rattle.std.proofs.Common.{◌≡◌, ℕ, ◌||◌, Bool, true, false, List, Option, Some, None, refl}
use Rattle.std.specs.Prelude.{is_some, not, if◌then◌else◌}
use Rattle.mlir_ir.specs.declared.tree.OpKind.{OpKind, Generic}
use Rattle.mlir_verify.specs.Place.{Types}
use Rattle.verified_runs.specs.Forms.{Structured, kind_of, structured_of, is_generic}
use Rattle.structured_steps.specs.declared.rule.StepRule.TheVariants.{WrongKind, Permutation, ReductionOrder}
use Rattle.structured_steps.specs.Interchange.{breaks_permutation, breaks_reduction_order, interchanged}
use Rattle.structured_steps.specs.Steps.{broken_order}
use Rattle.rewrite_base.specs.Turns.{IsUnfit}
use Rattle.step_passes.specs.declared.told.Told.TheVariants.{Stays}
use Rattle.step_passes.specs.Planned.{told_at}
use Rattle.step_passes.specs.Steps.{generic_of, generalizing, turned_of}
use Rattle.step_passes.specs.Telling.{Tells}
use Rattle.step_passes.specs.Telling as telling

generic_has_form : (t : Types) (kind : OpKind) → is_generic kind ≡ true → is_some (structured_of t kind) ≡ true
unfolding structured_of
generic_has_form t (Generic maps iterators ins outs captured payload) h = refl
generic_has_form t kind h = absurd cc

pub stays_told : (t : Types) (kind : OpKind) → is_generic kind ≡ true → Tells (told_at generalizing t kind) Stays
stays_told t kind h = ((λ j. if not (generic_has_form t kind h j) then Some WrongKind else None), (λ j. generic_of (h j) (structured_of t kind)))

pub unfit_told : (order : List ℕ) (s : Option Structured) → broken_order order s ≡ None → IsUnfit order s →
    telling.IsUnfit (turned_of order s)
unfit_told order None h f = f
unfit_told order (Some g) h f = by_rules (breaks_permutation order g) (breaks_reduction_order order g) h where
  by_rules : (a b : Bool) → (if a then Some Permutation else (if b then Some ReductionOrder else None)) ≡ None →
      telling.IsUnfit (if a || b then None else Some (kind_of (interchanged order g)))
  by_rules true b q = absurd cc
  by_rules false true q = absurd cc
  by_rules false false q = f
