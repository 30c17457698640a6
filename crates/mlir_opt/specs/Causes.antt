-- When each refusal comes.
use Rattle.std.specs.Prelude.{◌≡◌, ◌⊎◌, ℕ, List, false, ⊤, Option, Some, None, Result, Ok, Err}
use Rattle.mlir_streams.specs.Loops.{AppendsPart}
use Rattle.mlir_streams.specs.Shelves.{Files}
use Rattle.mlir_opt.specs.Answer.{verdict}
use Rattle.mlir_opt.specs.Asked.{CommandShape, name_of, asked, is_command}
use Rattle.mlir_opt.specs.Counts.{Counts, HasRisen}
use Rattle.mlir_opt.specs.Refusals.{line_of, status_of}
use Rattle.mlir_opt.specs.Steps.{AreFiles}
use Rattle.mlir_opt.specs.declared.refusal.Refusal.{Refusal}
use Rattle.mlir_opt.specs.declared.refusal.Refusal.TheVariants.{Words, FileAbsent, ReadFailed, Limit, Text, Verify, NoScript, Step, WriteFailed, Memory}

-- The file isn't among those that the shelf tells. Where it tells none, its count of absences rose.
abbrev pub IsAbsent : Option Files → List ℕ → ℕ × ℕ → Type 0
IsAbsent None name absences = HasRisen absences
IsAbsent (Some files) name absences = files name ≡ None

-- the same of the file that the words ask for
abbrev pub AskedIsAbsent : Option CommandShape → Option Files → ℕ × ℕ → Type 0
AskedIsAbsent None told absences = ⊥
AskedIsAbsent (Some command) told absences = IsAbsent told (name_of command.source) absences

-- The verdict is this refusal, over the files that the shelf tells, or over some where it tells none.
abbrev pub IsVerdict : Option Files → List (List ℕ) → Refusal → Type 0
IsVerdict told words refusal = (files : Files) × AreFiles told files × (verdict words files ≡ Err refusal)

-- Why a refusal came, from the words, what the shelf told, and the counts. Want of memory has no cause that is told.
abbrev pub HasCause : Refusal → List (List ℕ) → Option Files → Counts → Type 0
HasCause Words words told counts = is_command words ≡ false
HasCause FileAbsent words told counts = AskedIsAbsent (asked words) told counts.absent_files
HasCause ReadFailed words told counts = HasRisen counts.read_faults
HasCause (Limit which) words told counts = IsVerdict told words (Limit which)
HasCause (Text line column fault) words told counts = IsVerdict told words (Text line column fault)
HasCause (Verify rule op) words told counts = IsVerdict told words (Verify rule op)
HasCause NoScript words told counts = IsVerdict told words NoScript
HasCause (Step step why) words told counts = IsVerdict told words (Step step why)
HasCause WriteFailed words told counts = HasRisen counts.write_faults
HasCause Memory words told counts = ⊤

-- a run that was refused has its cause
abbrev pub RunCause : {T : Type 0} → Result T Refusal → List (List ℕ) → Option Files → Counts → Type 0
RunCause (Ok _) words told counts = ⊤
RunCause (Err refusal) words told counts = HasCause refusal words told counts

-- What was added is a prefix of the line of one refusal, which has its status, or 4, and its cause.
abbrev pub AddsSomeLine : List (List ℕ) → Option Files → Counts → Option (List ℕ) → Option (List ℕ) → ℕ → Type 0
AddsSomeLine words told counts old new status =
    (refusal : Refusal) × ((status ≡ status_of refusal) ⊎ (status ≡ 4)) × HasCause refusal words told counts × AppendsPart old new (line_of refusal)
