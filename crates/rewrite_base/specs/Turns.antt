-- An operation in another order of its dimensions, in code.
use Rattle.std.specs.Prelude.{◌≡◌, ℕ, List, Option, Some, None}
use Rattle.mlir_ir.specs.declared.tree.OpKind.{OpKind}
use Rattle.verified_runs.specs.Forms.{Structured, kind_of}
use Rattle.structured_steps.specs.Interchange.{interchanged}
use Rattle.structured_steps.specs.Steps.{broken_order}
use Rattle.rewrite_base.specs.declared.turn.Turn.{Turn}
use Rattle.rewrite_base.specs.declared.turn.Turn.TheVariants.{Breaks, Unfit, Becomes}
use Rattle.rewrite_base.specs.Shapes.{StructuredFits}

-- what is formed of an operation, by the generic that it is
abbrev pub TurnsInto : List ℕ → Option Structured → OpKind → Type 0
TurnsInto order None kind = ⊥
TurnsInto order (Some g) kind = kind ≡ kind_of (interchanged order g)

abbrev pub IsUnfit : List ℕ → Option Structured → Type 0
IsUnfit order None = ⊥
IsUnfit order (Some g) = StructuredFits (interchanged order g) → ⊥

abbrev pub Turns : List ℕ → Option Structured → Turn → Type 0
Turns order g (Breaks rule) = broken_order order g ≡ Some rule
Turns order g Unfit = (broken_order order g ≡ None) × IsUnfit order g
Turns order g (Becomes kind) = (broken_order order g ≡ None) × TurnsInto order g kind
