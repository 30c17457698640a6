-- How the steps of a run end.
use Rattle.std.specs.Prelude.{◌≡◌, ◌⊎◌, ℕ, List, [], ⊤, IsSome, Option, Some, None, Result, Ok, Err, Vec}
use Rattle.std.specs.declared.alloc.Global.{Global}
use Rattle.std.specs.Io.KnownBytes.{Appends, Keeps}
use Rattle.mlir_base.specs.declared.limit.Which.TheVariants.{Bytes}
use Rattle.mlir_ir.specs.declared.tree.Module.{Module}
use Rattle.mlir_streams.specs.Causes.{Rose, Counted}
use Rattle.mlir_streams.specs.Loops.{AppendsPart, ConsumesAtMost}
use Rattle.mlir_streams.specs.Shelves.{Files}
use Rattle.mlir_words.specs.declared.request.WordsError.{WordsError}
use Rattle.mlir_words.specs.declared.request.WordsError.TheVariants as words
use Rattle.mlir_opt.specs.Answer.{input_of, verdict}
use Rattle.mlir_opt.specs.Asked.{CommandShape, name_of, command_shape}
use Rattle.mlir_opt.specs.Counts.{HasRisen}
use Rattle.mlir_opt.specs.declared.request.Command.{Command}
use Rattle.mlir_opt.specs.declared.refusal.FileError.{FileError}
use Rattle.mlir_opt.specs.declared.refusal.FileError.TheVariants as input
use Rattle.mlir_opt.specs.declared.refusal.TextError.{TextError}
use Rattle.mlir_opt.specs.declared.refusal.TextError.TheVariants as text
use Rattle.mlir_opt.specs.declared.refusal.Refusal.{Refusal}
use Rattle.mlir_opt.specs.declared.refusal.Refusal.TheVariants.{Words, FileAbsent, ReadFailed, Limit, Text, Verify, NoScript, Step, WriteFailed, Memory}

-- These are the files that the shelf tells, or any where it tells none.
abbrev pub AreFiles : Option Files → Files → Type 0
AreFiles None files = ⊤
AreFiles (Some told) files = files ≡ told

-- A file was read as stated. A read fault and want of memory may come in its place.
abbrev pub InputIs : Result (List ℕ) Refusal → Result (Vec ℕ Global) FileError → Type 0
InputIs stated (Ok read) = stated ≡ Ok read.items
InputIs stated (Err input.Absent) = stated ≡ Err FileAbsent
InputIs stated (Err input.Limit) = stated ≡ Err (Limit Bytes)
InputIs stated (Err input.Failed) = ⊤
InputIs stated (Err input.Memory) = ⊤

-- the same over the files of a shelf
abbrev pub IsInput : Option Files → List ℕ → Result (Vec ℕ Global) FileError → Type 0
IsInput told name result = (files : Files) × AreFiles told files × InputIs (input_of (files name)) result

-- A read fault came only where the count rose, and else the count stays.
abbrev pub InputCause : {T : Type 0} → ℕ → ℕ → Result T FileError → Type 0
InputCause before now (Ok _) = now ≡ before
InputCause before now (Err input.Absent) = now ≡ before
InputCause before now (Err input.Limit) = now ≡ before
InputCause before now (Err input.Failed) = Rose before now
InputCause before now (Err input.Memory) = now ≡ before

-- Where the names aren't told, a file was absent only where the count of absences rose.
abbrev pub InputAbsence : {T : Type 0} → Option Files → ℕ → ℕ → Result T FileError → Type 0
InputAbsence None before now (Err input.Absent) = Rose before now
InputAbsence files before now result = ⊤

-- Where the shelf tells its files: at most 4,194,305 bytes of the file of this name were taken, and this is left of it.
abbrev pub TakesFrom : Option Files → List ℕ → Option (List ℕ) → Type 0
TakesFrom None name left = ⊤
TakesFrom (Some files) name left = IsSome (files name) × ConsumesAtMost 4194305 (files name) left

-- the file was opened and read so, or nothing was read
abbrev pub ReadsFrom : Option Files → List ℕ → Option (List ℕ) → Option (List ℕ) → Type 0
ReadsFrom told name old new = Keeps old new ⊎ TakesFrom told name new

-- The one file that is read is the command's.
abbrev pub ReadsOnly : Option CommandShape → Option Files → Option (List ℕ) → Option (List ℕ) → Type 0
ReadsOnly None told old new = Keeps old new
ReadsOnly (Some command) told old new = ReadsFrom told (name_of command.source) old new

-- A file is opened once at most, and none where the words make no command.
abbrev pub OpensOnce : Option CommandShape → ℕ → ℕ → Type 0
OpensOnce None before now = now ≡ before
OpensOnce (Some command) before now = Counted before now ⊎ (now ≡ before)

-- The command that the words make, or `Words` exactly where they make none; want of memory is free.
abbrev pub AsksFor : Option CommandShape → Result Command WordsError → Type 0
AsksFor stated (Ok command) = stated ≡ Some (command_shape command)
AsksFor stated (Err words.Words) = stated ≡ None
AsksFor stated (Err words.Memory) = ⊤

-- A text was refused as stated. Want of memory may come in its place.
abbrev pub IsTextError : Refusal → TextError → Type 0
IsTextError stated (text.Limit which) = stated ≡ Limit which
IsTextError stated (text.Text line column fault) = stated ≡ Text line column fault
IsTextError stated (text.Verify rule op) = stated ≡ Verify rule op
IsTextError stated text.NoScript = stated ≡ NoScript
IsTextError stated (text.Step step why) = stated ≡ Step step why
IsTextError stated text.Memory = ⊤

-- What is stated is this refusal. Want of memory may come in its place.
abbrev pub RefusedAs : {A : Type 0} → Result A Refusal → TextError → Type 0
RefusedAs stated (text.Limit which) = stated ≡ Err (Limit which)
RefusedAs stated (text.Text line column fault) = stated ≡ Err (Text line column fault)
RefusedAs stated (text.Verify rule op) = stated ≡ Err (Verify rule op)
RefusedAs stated text.NoScript = stated ≡ Err NoScript
RefusedAs stated (text.Step step why) = stated ≡ Err (Step step why)
RefusedAs stated text.Memory = ⊤

-- A module was formed as stated.
abbrev pub FormedAs : Result Module Refusal → Result Module TextError → Type 0
FormedAs stated (Ok m) = stated ≡ Ok m
FormedAs stated (Err e) = RefusedAs stated e

-- A text was processed as stated.
abbrev pub ProcessIs : Result (List ℕ) Refusal → Result (Vec ℕ Global) TextError → Type 0
ProcessIs stated (Ok bytes) = stated ≡ Ok bytes.items
ProcessIs stated (Err e) = RefusedAs stated e

-- A run ended as stated. A fault and want of memory may come in its place, and a write fault only where some bytes
-- are stated. The stated bytes were written, or a prefix of them where the write was cut off.
abbrev pub RunIs : {T : Type 0} → Result (List ℕ) Refusal → Option (List ℕ) → Option (List ℕ) → Result T Refusal → Type 0
RunIs (Ok bytes) old new (Ok _) = Appends old new bytes
RunIs (Ok bytes) old new (Err WriteFailed) = AppendsPart old new bytes
RunIs (Ok bytes) old new (Err Memory) = AppendsPart old new bytes
RunIs (Ok bytes) old new (Err ReadFailed) = Appends old new []
RunIs (Ok bytes) old new (Err Words) = ⊥
RunIs (Ok bytes) old new (Err FileAbsent) = ⊥
RunIs (Ok bytes) old new (Err (Limit which)) = ⊥
RunIs (Ok bytes) old new (Err (Text line column fault)) = ⊥
RunIs (Ok bytes) old new (Err (Verify rule op)) = ⊥
RunIs (Ok bytes) old new (Err NoScript) = ⊥
RunIs (Ok bytes) old new (Err (Step step why)) = ⊥
RunIs (Err stated) old new (Ok _) = ⊥
RunIs (Err stated) old new (Err refusal) = Appends old new [] × ((refusal ≡ stated) ⊎ (refusal ≡ ReadFailed) ⊎ (refusal ≡ Memory))

-- the same over the files of a shelf
abbrev pub IsRun : {T : Type 0} → Option Files → List (List ℕ) → Option (List ℕ) → Option (List ℕ) → Result T Refusal → Type 0
IsRun told words old new result = (files : Files) × AreFiles told files × RunIs (verdict words files) old new result

-- A read fault came only where the count rose, and else the count stays.
abbrev pub ReadFaultCause : {T : Type 0} → ℕ × ℕ → Result T Refusal → Type 0
ReadFaultCause count (Err ReadFailed) = HasRisen count
ReadFaultCause count result = count.1 ≡ count.0

-- A write fault came only where the count rose, and else the count stays.
abbrev pub WriteFaultCause : {T : Type 0} → ℕ × ℕ → Result T Refusal → Type 0
WriteFaultCause count (Err WriteFailed) = HasRisen count
WriteFaultCause count result = count.1 ≡ count.0
