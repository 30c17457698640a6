-- The step `generalize`: the target as a generic with the same operands (Transform manual, "transform.structured.generalize").
use Rattle.std.specs.Prelude.{ℕ, Bool, true, false, is_some, not, Option, Some, None}
use Rattle.mlir_ir.specs.declared.tree.Op.{Op}
use Rattle.mlir_verify.specs.Place.{Types, type_among}
use Rattle.verified_runs.specs.Edits.{Edit, Step, anew}
use Rattle.verified_runs.specs.Forms.{Structured, kind_of, structured_of, is_generic}

-- the target's kind is wrong exactly where it has no such form
abbrev pub has_wrong_kind : Types → Op → Bool
has_wrong_kind t o = not (is_some (structured_of t o.kind))

abbrev pub generalizes : ℕ → ℕ → Bool → Option Structured → Op → Option Edit
generalizes op value true g o = None
generalizes op value false None o = None
generalizes op value false (Some g) o = Some (anew op value (kind_of g) o)

-- a generic stays as it is
abbrev pub generalize : ℕ → ℕ → Step
generalize op value scope o = generalizes op value (is_generic o.kind) (structured_of (type_among scope) o.kind) o
