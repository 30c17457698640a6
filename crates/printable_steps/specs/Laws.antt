-- The laws of files with what steps form. Each is the contract of a function in `src/laws.rt`.
use Rattle.std.specs.Prelude.{ℕ, List}
use Rattle.mlir_ir.specs.declared.tree.Module.{Module}
use Rattle.mlir_ir.specs.declared.tree.OpId.{OpId}
use Rattle.mlir_file.specs.declared.file.File.{File}
use Rattle.mlir_read.specs.Reading.{StandsFor}
use Rattle.mlir_roundtrip.specs.Numbered.{renumbered}
use Rattle.mlir_roundtrip.specs.Printable.{IsPrintable}
use Rattle.mlir_verify.specs.Rules.{IsVerified}
use Rattle.structured_steps.specs.Steps.{generalized, interchanged_in}

-- the file with another module and the same script
abbrev pub with_module : File → Module → File
with_module f m = record { «module» = m; script = f.script }

abbrev pub ReadPrintable : Type 0
ReadPrintable = (source : List ℕ) (f : File) → StandsFor source f → IsPrintable f

-- the module that is formed is verified too (`step_results`), so that the laws go on through a chain of steps
abbrev pub GeneralizedPrintable : Type 0
GeneralizedPrintable = (f : File) (i : OpId) → IsPrintable f → IsVerified f.module → IsPrintable (with_module f (generalized i f.module))

abbrev pub InterchangedPrintable : Type 0
InterchangedPrintable = (f : File) (i : OpId) (order : List ℕ) → IsPrintable f → IsVerified f.module → IsPrintable (with_module f (interchanged_in i order f.module))

-- what the canonical text stands for has the numbers of the text, and its module verifies too
abbrev pub RenumberedVerifies : Type 0
RenumberedVerifies = (f : File) → IsPrintable f → IsVerified f.module → IsVerified (renumbered f).module
