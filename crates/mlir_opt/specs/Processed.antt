-- What is made of a text: it is read, verified, transformed by its script where that is asked for, and written.
use Rattle.std.specs.Prelude.{ℕ, List, take, Bool, true, false, Option, Some, None, Result, Ok, Err}
use Rattle.mlir_file.specs.declared.file.File.{File}
use Rattle.mlir_ir.specs.declared.tree.Module.{Module}
use Rattle.mlir_ir.specs.declared.tree.OpId.{OpId}
use Rattle.mlir_lex.specs.declared.read_error.ReadError.{ReadError}
use Rattle.mlir_lex.specs.declared.read_error.ReadError.TheVariants as errors
use Rattle.mlir_read.specs.Reading.{reading}
use Rattle.mlir_verify.specs.declared.rule.Rule.{Rule}
use Rattle.mlir_verify.specs.Rules.{first_broken}
use Rattle.mlir_print.specs.Canonical.{text_of}
use Rattle.rewrite_base.specs.declared.error.StepError.{StepError}
use Rattle.rewrite_base.specs.declared.error.StepError.TheVariants as why
use Rattle.script_read.specs.declared.script.Script.{Script}
use Rattle.script_run.specs.declared.error.ScriptError.{ScriptError}
use Rattle.script_run.specs.Scripts.{run, unbuilt_from}
use Rattle.mlir_opt.specs.Places.{line_after, column_after}
use Rattle.mlir_opt.specs.declared.refusal.Fault.{Fault}
use Rattle.mlir_opt.specs.declared.refusal.Fault.TheVariants as faults
use Rattle.mlir_opt.specs.declared.refusal.StepFault.TheVariants as steps
use Rattle.mlir_opt.specs.declared.refusal.Refusal.{Refusal}
use Rattle.mlir_opt.specs.declared.refusal.Refusal.TheVariants.{Limit, Text, Verify, NoScript, Step, Memory}
use Rattle.mlir_opt.specs.declared.request.Output.{Output}
use Rattle.mlir_opt.specs.declared.request.Output.TheVariants.{CanonicalText}

-- READING
-- a fault at a place of a text
abbrev pub at_place : List ℕ → ℕ → Fault → Refusal
at_place source at fault = Text (line_after (take at source)) (column_after (take at source)) fault

-- why a text isn't read
abbrev pub read_refusal : List ℕ → ReadError → Refusal
read_refusal source (errors.Byte at) = at_place source at faults.Byte
read_refusal source (errors.Unclosed at) = at_place source at faults.Unclosed
read_refusal source (errors.Syntax at) = at_place source at faults.Syntax
read_refusal source (errors.Unsupported at) = at_place source at faults.Unsupported
read_refusal source (errors.UnknownName at) = at_place source at faults.UnknownName
read_refusal source (errors.Twice at) = at_place source at faults.Twice
read_refusal source (errors.TypeDiffers at) = at_place source at faults.TypeDiffers
read_refusal source (errors.Number at) = at_place source at faults.Number
read_refusal source (errors.Limit which) = Limit which
read_refusal source errors.Memory = Memory

-- SCRIPTS
-- why a step is refused
abbrev pub step_refusal : ℕ → StepError → Refusal
step_refusal step (why.Rule rule op) = Step step (steps.Rule rule)
step_refusal step (why.Limit which) = Step step (steps.Limit which)
step_refusal step why.Memory = Memory

abbrev pub given_by : Result Module ScriptError → Result Module Refusal
given_by (Ok m) = Ok m
given_by (Err e) = Err (step_refusal e.step e.why)

-- no step is applied where one isn't built
abbrev pub given_unless : Option ℕ → Script → Module → Result Module Refusal
given_unless (Some step) s m = Err (Step step steps.Unsupported)
given_unless None s m = given_by (run s m)

-- the module that is written of a verified one: the same, or, where that is asked for, the one that the script gives
abbrev pub transformed : Bool → Option Script → Module → Result Module Refusal
transformed false script m = Ok m
transformed true None m = Err NoScript
transformed true (Some s) m = given_unless (unbuilt_from s.steps 1) s m

-- MODULES AND FILES
abbrev pub unless_broken : Option (Rule × OpId) → Result Module Refusal → Result Module Refusal
unless_broken None next = next
unless_broken (Some x) next = Err (Verify x.0 x.1.0)

-- the module that is written of one, which has to verify
abbrev pub formed : Bool → Option Script → Module → Result Module Refusal
formed transform script m = unless_broken (first_broken m) (transformed transform script m)

abbrev pub with_script : Option Script → Module → File
with_script script m = record { «module» = m; script = script }

-- what is written of a file
abbrev pub written : Output → File → List ℕ
written CanonicalText f = text_of f

-- the script stays in the file
abbrev pub written_with : Output → Option Script → Result Module Refusal → Result (List ℕ) Refusal
written_with output script (Ok m) = Ok (written output (with_script script m))
written_with output script (Err refusal) = Err refusal

abbrev pub file_output : Bool → Output → File → Result (List ℕ) Refusal
file_output transform output f = written_with output f.script (formed transform f.script f.module)

abbrev pub text_output : Bool → Output → List ℕ → Result File ReadError → Result (List ℕ) Refusal
text_output transform output source (Ok f) = file_output transform output f
text_output transform output source (Err e) = Err (read_refusal source e)

-- the bytes that are written for a text, or why it is refused
unfoldable pub processed : Bool → Output → List ℕ → Result (List ℕ) Refusal
processed transform output source = text_output transform output source (reading source)
