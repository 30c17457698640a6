-- What the loops over a shelf and over a sink read and write, and why they refuse.
use Rattle.std.specs.Prelude.{◌≡◌, ◌<◌, ◌≤◌, ℕ, List, ◌++◌, take, length, ⊤}
use Rattle.std.specs.Prelude.{Some, None, Ok, Err, Result, Option, Vec}
use Rattle.std.specs.declared.alloc.Global.{Global}
use Rattle.std.specs.Io.KnownBytes.{Appends, Consumes}
use Rattle.mlir_streams.specs.Causes.{Rose}
use Rattle.mlir_streams.specs.declared.reading.FetchError.{FetchError}
use Rattle.mlir_streams.specs.declared.reading.FetchError.TheVariants as fetch
use Rattle.mlir_streams.specs.declared.sink.WriteError.{WriteError}
use Rattle.mlir_streams.specs.declared.sink.WriteError.TheVariants as write

-- Where the shelf tells what was left unread, the text is all of it, and it is over the limit exactly where it has
-- more bytes than that.
abbrev pub ReadsWhole : ℕ → Option (List ℕ) → Result (Vec ℕ Global) FetchError → Type 0
ReadsWhole limit None result = ⊤
ReadsWhole limit (Some left) (Ok text) = (text.items ≡ left) × (length left ≤ limit)
ReadsWhole limit (Some left) (Err fetch.Limit) = limit < length left
ReadsWhole limit (Some left) (Err fetch.Failed) = ⊤
ReadsWhole limit (Some left) (Err fetch.Memory) = ⊤

-- a text grew by this many bytes, which were taken off the front of what was left unread
abbrev pub AddsConsumed : ℕ → List ℕ → List ℕ → Option (List ℕ) → Option (List ℕ) → Type 0
AddsConsumed taken before now old new =
    (bytes : List ℕ) × (now ≡ before ++ bytes) × (length bytes ≡ taken) × Consumes old new bytes

-- at most this many bytes were taken off the front of what was left unread
abbrev pub ConsumesAtMost : ℕ → Option (List ℕ) → Option (List ℕ) → Type 0
ConsumesAtMost most old new = (bytes : List ℕ) × Consumes old new bytes × (length bytes ≤ most)

-- Reading failed only where the count of faults rose, and with any other answer it stays.
abbrev pub FetchCause : {T : Type 0} → ℕ → ℕ → Result T FetchError → Type 0
FetchCause before now (Ok _) = now ≡ before
FetchCause before now (Err fetch.Failed) = Rose before now
FetchCause before now (Err fetch.Limit) = now ≡ before
FetchCause before now (Err fetch.Memory) = now ≡ before

-- the known bytes grow by a prefix of these
abbrev pub AppendsPart : Option (List ℕ) → Option (List ℕ) → List ℕ → Type 0
AppendsPart old new bytes = (n : ℕ) × Appends old new (take n bytes)

-- all bytes were written, or a prefix of them where the sink refused
abbrev pub AppendsOrPart : {T E : Type 0} → Option (List ℕ) → Option (List ℕ) → List ℕ → Result T E
    → Type 0
AppendsOrPart old new bytes (Ok _) = Appends old new bytes
AppendsOrPart old new bytes (Err _) = AppendsPart old new bytes

-- A whole write failed only where the count of faults rose, and with any other answer it stays.
abbrev pub WholeCause : {T : Type 0} → ℕ → ℕ → Result T WriteError → Type 0
WholeCause before now (Ok _) = now ≡ before
WholeCause before now (Err write.Failed) = Rose before now
WholeCause before now (Err write.Memory) = now ≡ before
