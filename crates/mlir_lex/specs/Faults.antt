-- The first fault of a text that was read into a tree: one of the tree, or the stop of its reading.
use Rattle.std.specs.Prelude.{◌≡◌, ℕ, Bool, true, false, Result, Ok, Err, Option, Some, None, nat_lt}
use Rattle.text_format.specs.declared.class.Reason.{Reason}
use Rattle.text_format.specs.declared.class.Reason.TheVariants as reasons
use Rattle.text_format.specs.Formats.{Stop}
use Rattle.mlir_lex.specs.declared.fault.Fault.{Fault}
use Rattle.mlir_lex.specs.declared.fault.Fault.TheVariants as faults
use Rattle.mlir_lex.specs.declared.read_error.ReadError.{ReadError}
use Rattle.mlir_lex.specs.declared.read_error.ReadError.TheVariants as errors

-- the last token that a fault speaks of. A literal's range is decided by its type behind it
abbrev pub reach_of : Fault → ℕ
reach_of (faults.Syntax at) = at
reach_of (faults.Unsupported at) = at
reach_of (faults.UnknownName at) = at
reach_of (faults.Twice at) = at
reach_of (faults.TypeDiffers at) = at
reach_of (faults.Number at by) = by
reach_of (faults.Limit which at) = at

abbrev pub fault_error : Fault → ReadError
fault_error (faults.Syntax at) = errors.Syntax at
fault_error (faults.Unsupported at) = errors.Unsupported at
fault_error (faults.UnknownName at) = errors.UnknownName at
fault_error (faults.Twice at) = errors.Twice at
fault_error (faults.TypeDiffers at) = errors.TypeDiffers at
fault_error (faults.Number at by) = errors.Number at
fault_error (faults.Limit which at) = errors.Limit which

abbrev pub stop_by : ℕ → Reason → ReadError
stop_by at reasons.Syntax = errors.Syntax at
stop_by at reasons.Unsupported = errors.Unsupported at

abbrev pub stop_error : Stop → ReadError
stop_error p = stop_by p.at p.why

abbrev pub earlier : Bool → Fault → Stop → ReadError
earlier true e p = fault_error e
earlier false e p = stop_error p

-- Behind the stop the tree is filled up with tokens that stand at its place.
-- Where the filled tree has a fault that speaks of no token from that place on, it is the first; else the stop is.
abbrev pub first_of : {A : Type 0} → Result A Fault → Option Stop → Result A ReadError
first_of (Ok m) None = Ok m
first_of (Err e) None = Err (fault_error e)
first_of (Ok m) (Some p) = Err (stop_error p)
first_of (Err e) (Some p) = Err (earlier (nat_lt (reach_of e) p.at) e p)

-- ---- what the code answers

-- the refusal is this one, or for want of memory
abbrev pub Refuses : {A : Type 0} → ReadError → Result A ReadError → Type 0
Refuses errors.Memory r = Unit {0}
Refuses (errors.Byte at) r = r ≡ Err (errors.Byte at)
Refuses (errors.Unclosed at) r = r ≡ Err (errors.Unclosed at)
Refuses (errors.Syntax at) r = r ≡ Err (errors.Syntax at)
Refuses (errors.Unsupported at) r = r ≡ Err (errors.Unsupported at)
Refuses (errors.UnknownName at) r = r ≡ Err (errors.UnknownName at)
Refuses (errors.Twice at) r = r ≡ Err (errors.Twice at)
Refuses (errors.TypeDiffers at) r = r ≡ Err (errors.TypeDiffers at)
Refuses (errors.Number at) r = r ≡ Err (errors.Number at)
Refuses (errors.Limit which) r = r ≡ Err (errors.Limit which)

-- what is read, or the fault, unless memory ran out
abbrev pub Reads : {A : Type 0} → Result A ReadError → Result A ReadError → Type 0
Reads (Ok m) r = r ≡ Ok m
Reads (Err e) r = Refuses e r
