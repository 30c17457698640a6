-- What a caller sees of a call.
use Rattle.std.specs.Prelude.{◌≡◌, ◌≢◌, ◌⊎◌, ℕ, List, [], ⊤, Option, Some, None}
use Rattle.std.specs.Io.KnownBytes.{Appends}
use Rattle.mlir_streams.specs.Causes.{Rose}
use Rattle.mlir_streams.specs.Loops.{AppendsPart}
use Rattle.mlir_streams.specs.Shelves.{Files}
use Rattle.mlir_opt.specs.Answer.{Answer, answer}
use Rattle.mlir_opt.specs.Causes.{AddsSomeLine}
use Rattle.mlir_opt.specs.Counts.{Counts, HasRisen}
use Rattle.mlir_opt.specs.Refusals.{line_of, status_of}
use Rattle.mlir_opt.specs.Steps.{AreFiles}
use Rattle.mlir_opt.specs.declared.refusal.Refusal.{Refusal}
use Rattle.mlir_opt.specs.declared.refusal.Refusal.TheVariants.{ReadFailed, WriteFailed, Memory}

-- the status is 4, or the status and the bytes are those of the answer
abbrev pub IsAnswered : Answer → Option (List ℕ) → Option (List ℕ) → ℕ → Type 0
IsAnswered stated old new status = (status ≡ 4) ⊎ ((status ≡ stated.status) × Appends old new stated.out)

-- Where no call on the shelf or on `out` failed, the answer is the stated one.
abbrev pub IsAnsweredUnlessFault : Answer → Counts → Option (List ℕ) → Option (List ℕ) → ℕ → Type 0
IsAnsweredUnlessFault stated counts old new status = (HasRisen counts.read_faults → ⊥) → (HasRisen counts.write_faults → ⊥) → IsAnswered stated old new status

-- a prefix of this line was added, and the whole of it unless the count of faults rose
pub record AddsLine (line : List ℕ) (old new : Option (List ℕ)) (before now : ℕ) : Type 0 where
  pub part : AppendsPart old new line
  pub whole : (Rose before now → ⊥) → Appends old new line

-- The line of the answer, where no call on the shelf or on `out` failed; else the line of the fault.
abbrev pub HasExactLine : Answer → Counts → Option (List ℕ) → Option (List ℕ) → ℕ → ℕ → ℕ → Type 0
HasExactLine stated counts old new before now status =
    ((counts.read_faults.1 ≡ counts.read_faults.0) × (counts.write_faults.1 ≡ counts.write_faults.0) × (status ≡ stated.status) × AddsLine stated.line old new before now)
    ⊎ (HasRisen counts.read_faults × (status ≡ 3) × AddsLine (line_of ReadFailed) old new before now)
    ⊎ (HasRisen counts.write_faults × (status ≡ 3) × AddsLine (line_of WriteFailed) old new before now)

-- The answer, where the shelf tells its files: the status and the bytes on `out` are the stated ones unless memory was
-- wanting or a call failed.
abbrev pub AnswersWhereTold : Option Files → List (List ℕ) → Counts → Option (List ℕ) → Option (List ℕ) → ℕ → Type 0
AnswersWhereTold None words counts old new status = ⊤
AnswersWhereTold (Some files) words counts old new status = IsAnsweredUnlessFault (answer words files) counts old new status

-- The exact line, where the shelf tells its files and memory wasn't wanting.
abbrev pub ExactLineWhereTold : Option Files → List (List ℕ) → Counts → Option (List ℕ) → Option (List ℕ) → ℕ → ℕ → ℕ → Type 0
ExactLineWhereTold None words counts old new before now status = ⊤
ExactLineWhereTold (Some files) words counts old new before now status =
    status ≢ 4 → HasExactLine (answer words files) counts old new before now status

-- The bytes on `out`, where the shelf tells its files: a prefix of the stated ones, however the call ended.
abbrev pub PrefixWhereTold : Option Files → List (List ℕ) → Option (List ℕ) → Option (List ℕ) → Type 0
PrefixWhereTold None words old new = ⊤
PrefixWhereTold (Some files) words old new = AppendsPart old new (answer words files).out

-- The line in every call: none under status 0, and else a prefix of one refusal's.
abbrev pub AddsNoneOrSomeLine : List (List ℕ) → Option Files → Counts → Option (List ℕ) → Option (List ℕ) → ℕ → Type 0
AddsNoneOrSomeLine words told counts old new status =
    ((status ≡ 0) × Appends old new []) ⊎ AddsSomeLine words told counts old new status

-- The answer in every call: that over the files that the shelf tells, or over some where it tells none.
abbrev pub AnswersForSome : Option Files → List (List ℕ) → Counts → Option (List ℕ) → Option (List ℕ) → ℕ → Type 0
AnswersForSome told words counts old new status =
    (files : Files) × AreFiles told files × IsAnsweredUnlessFault (answer words files) counts old new status × AppendsPart old new (answer words files).out

-- A refusal was told. Want of memory may come in its place.
pub record IsTold (refusal : Refusal) (old new : Option (List ℕ)) (before now status : ℕ) : Type 0 where
  pub ended : (status ≡ status_of refusal) ⊎ (status ≡ 4)
  pub line : status ≢ 4 → AddsLine (line_of refusal) old new before now
  pub said : ((status ≡ 4) × AppendsPart old new (line_of Memory)) ⊎ AppendsPart old new (line_of refusal)
