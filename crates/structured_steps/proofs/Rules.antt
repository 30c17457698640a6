-- A step forms exactly where no rule is broken.
use Rattle.std.proofs.Common.{◌≡◌, ℕ, ◌||◌, Bool, true, false, List, Option, Some, None, refl}
use Rattle.std.specs.Prelude.{is_some, is_none, if◌then◌else◌}
use Rattle.mlir_ir.specs.declared.tree.Op.{Op}
use Rattle.structured_steps.specs.declared.rule.StepRule.TheVariants.{Permutation, ReductionOrder}
use Rattle.verified_runs.specs.Forms.{Structured, kind_of}
use Rattle.verified_runs.specs.Edits.{anew}
use Rattle.structured_steps.specs.Interchange.{as_generic, breaks_permutation, breaks_reduction_order, interchanged, interchanges}
use Rattle.structured_steps.specs.Steps.{broken_order}
use Rattle.structured_steps.specs.Laws.{RulesDecide}

decided : (order : List ℕ) (op n : ℕ) (o : Op) (g : Option Structured) → is_some (interchanges order op n g o) ≡ is_none (broken_order order g)
decided order op n o None = refl
decided order op n o (Some g) = by_tests (breaks_permutation order g) (breaks_reduction_order order g) where
  by_tests : (a b : Bool) → is_some (if a || b then None else Some (anew op n (kind_of (interchanged order g)) o)) ≡ is_none (if a then Some Permutation else (if b then Some ReductionOrder else None))
  by_tests true b = refl
  by_tests false true = refl
  by_tests false false = refl

pub rules_decide : RulesDecide
rules_decide order op n scope o = decided order op n o (as_generic o.kind)
