-- The answer to a command line over files.
use Rattle.std.specs.Prelude.{ℕ, List, [], nat_lt, length, if◌then◌else◌, Option, Some, None, Result, Ok, Err}
use Rattle.mlir_base.specs.declared.limit.Which.TheVariants.{Bytes}
use Rattle.mlir_streams.specs.Shelves.{Files}
use Rattle.mlir_opt.specs.Asked.{CommandShape, name_of, asked}
use Rattle.mlir_opt.specs.Processed.{processed}
use Rattle.mlir_opt.specs.Refusals.{line_of, status_of}
use Rattle.mlir_opt.specs.declared.refusal.Refusal.{Refusal}
use Rattle.mlir_opt.specs.declared.refusal.Refusal.TheVariants.{Words, FileAbsent, Limit}

-- the exit status, the bytes on `out`, and the line on `err`, which has no byte under status 0
pub record Answer : Type 0 where
  pub status : ℕ
  pub out : List ℕ
  pub line : List ℕ

-- a file's text, of 4,194,304 bytes at most
abbrev pub input_of : Option (List ℕ) → Result (List ℕ) Refusal
input_of None = Err FileAbsent
input_of (Some text) = if nat_lt 4194304 (length text) then Err (Limit Bytes) else Ok text

-- what is written for an input
abbrev pub output_of : CommandShape → Result (List ℕ) Refusal → Result (List ℕ) Refusal
output_of command (Ok text) = processed command.transform command.output text
output_of command (Err refusal) = Err refusal

-- what is written for a command
abbrev pub verdict_on : Files → Option CommandShape → Result (List ℕ) Refusal
verdict_on files None = Err Words
verdict_on files (Some command) = output_of command (input_of (files (name_of command.source)))

-- what is written, or the first refusal
abbrev pub verdict : List (List ℕ) → Files → Result (List ℕ) Refusal
verdict words files = verdict_on files (asked words)

abbrev pub answer_of : Result (List ℕ) Refusal → Answer
answer_of (Ok bytes) = record { status = 0; out = bytes; line = [] }
answer_of (Err refusal) = record { status = status_of refusal; out = []; line = line_of refusal }

abbrev pub answer : List (List ℕ) → Files → Answer
answer words files = answer_of (verdict words files)
