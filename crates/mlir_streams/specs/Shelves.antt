-- What the calls of a shelf do to what is left unread, and why they refuse.
use Rattle.std.specs.Prelude.{◌≡◌, ℕ, List, ⊤, Some, None, Ok, Err, Result, Option, IsSome}
use Rattle.mlir_streams.specs.Causes.{Rose}
use Rattle.mlir_streams.specs.declared.shelf.OpenError.{OpenError}
use Rattle.mlir_streams.specs.declared.shelf.OpenError.TheVariants.{Absent, Failed, Memory}
use Rattle.mlir_streams.specs.declared.shelf.Failed.{Failed as ReadFailed}

-- contents by name; the empty name is standard input
abbrev pub Files : Type 0
Files = List ℕ → Option (List ℕ)

-- Where the shelf tells its files, opening one leaves the whole of it unread, and it is absent exactly where no file
-- has the name.
abbrev pub OpenLeaves : {T : Type 0} → Option Files → List ℕ → Option (List ℕ) → Result T OpenError
    → Type 0
OpenLeaves None name left result = ⊤
OpenLeaves (Some files) name left (Ok _) = IsSome (files name) × (left ≡ files name)
OpenLeaves (Some files) name left (Err Absent) = files name ≡ None
OpenLeaves (Some files) name left (Err Failed) = ⊤
OpenLeaves (Some files) name left (Err Memory) = ⊤

-- `Failed` comes only where the count of faults rose, and with any other answer it stays.
abbrev pub OpenCause : {T : Type 0} → ℕ → ℕ → Result T OpenError → Type 0
OpenCause before now (Ok _) = now ≡ before
OpenCause before now (Err Absent) = now ≡ before
OpenCause before now (Err Failed) = Rose before now
OpenCause before now (Err Memory) = now ≡ before

-- Where the names aren't told, `Absent` comes only where the count of absences rose.
abbrev pub AbsenceCause : {T : Type 0} → Option Files → ℕ → ℕ → Result T OpenError → Type 0
AbsenceCause (Some files) before now result = ⊤
AbsenceCause None before now (Ok _) = ⊤
AbsenceCause None before now (Err Absent) = Rose before now
AbsenceCause None before now (Err Failed) = ⊤
AbsenceCause None before now (Err Memory) = ⊤

-- A read failed only where the count of faults rose, and with any other answer it stays.
abbrev pub ReadCause : {T : Type 0} → ℕ → ℕ → Result T ReadFailed → Type 0
ReadCause before now (Ok _) = now ≡ before
ReadCause before now (Err _) = Rose before now
