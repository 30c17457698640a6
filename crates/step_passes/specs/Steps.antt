-- The steps `generalize` and `interchange` as exchanges.
use Rattle.std.specs.Prelude.{ℕ, ◌||◌, not, is_some, Bool, true, false, List, Option, Some, None, if◌then◌else◌}
use Rattle.mlir_ir.specs.declared.tree.OpKind.{OpKind}
use Rattle.verified_runs.specs.Forms.{Structured, kind_of, structured_of, is_generic}
use Rattle.structured_steps.specs.declared.rule.StepRule.TheVariants.{WrongKind}
use Rattle.structured_steps.specs.Interchange.{as_generic, breaks_permutation, breaks_reduction_order, interchanged}
use Rattle.structured_steps.specs.Steps.{broken_order}
use Rattle.step_passes.specs.Exchanging.{Exchanging}

abbrev pub generic_of : Bool → Option Structured → Option OpKind
generic_of true g = None
generic_of false None = None
generic_of false (Some g) = Some (kind_of g)

abbrev pub generalizing : Exchanging
generalizing = record {
  breaks = λ t kind. if not (is_some (structured_of t kind)) then Some WrongKind else None;
  stays = is_generic;
  becomes = λ t kind. generic_of (is_generic kind) (structured_of t kind);
}

abbrev pub turned_of : List ℕ → Option Structured → Option OpKind
turned_of order None = None
turned_of order (Some g) = if breaks_permutation order g || breaks_reduction_order order g then None else Some (kind_of (interchanged order g))

abbrev pub interchanging : List ℕ → Exchanging
interchanging order = record {
  breaks = λ t kind. broken_order order (as_generic kind);
  stays = λ kind. false;
  becomes = λ t kind. turned_of order (as_generic kind);
}
