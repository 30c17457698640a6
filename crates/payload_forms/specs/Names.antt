-- What the code's tables say: how steps move, and how arguments are renamed.
use Rattle.std.specs.Prelude.{ℕ, ◌+◌, ◌==◌, List, Option, Some, None, if◌then◌else◌}
use Rattle.affine_maps.specs.declared.map.Expr.{Expr}
use Rattle.payload_ops.specs.declared.step.Arg.{Arg}
use Rattle.payload_ops.specs.declared.step.Arg.TheVariants.{Input, Out, Step}
use Rattle.payload_ops.specs.declared.step.PayloadStep.{PayloadStep}
use Rattle.payload_forms.specs.declared.joining.Joining.{Joining}
use Rattle.payload_forms.specs.declared.renaming.Inputs.{Inputs}
use Rattle.payload_forms.specs.declared.renaming.Inputs.TheVariants.{Kept, After, Spliced}
use Rattle.payload_forms.specs.Moved.{number_at, own_index}
use Rattle.payload_forms.specs.Joined.{other, producer_index, Joint}

-- the steps that a `linalg.index` becomes: itself, or an `affine.apply` of the expression of its dimension
abbrev pub indices_of : Option (List Expr) → ℕ → ℕ → List PayloadStep
indices_of None = own_index
indices_of (Some es) = producer_index es

abbrev pub input_to : Inputs → ℕ → Arg
input_to Kept i = Input i
input_to (After n) i = Input (n + i)
input_to (Spliced k n a) i = if i == k then a else Input (other k n i)

-- an argument under its new name, where the steps have these numbers
abbrev pub renamed : Inputs → List ℕ → Arg → Arg
renamed inputs numbers (Input i) = input_to inputs i
renamed inputs numbers Out = Out
renamed inputs numbers (Step i) = Step (number_at numbers i)

-- what two payloads are joined by
abbrev pub joint : Joining → Joint
joint j = record {
  input = j.input;
  exprs = j.exprs.now;
  captured = j.captured;
  of_producer = number_at j.of_producer.now;
  of_consumer = number_at j.of_consumer.now;
}
