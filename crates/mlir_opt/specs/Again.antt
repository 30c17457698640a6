-- What is written is read again: it stands for a file whose module verifies, and whose functions give what they gave.
use Rattle.std.specs.Prelude.{◌≡◌, ℕ, List, Bool, true, false, Some, Ok}
use Rattle.mlir_file.specs.declared.file.File.{File}
use Rattle.mlir_ir.specs.declared.tree.Module.{Module}
use Rattle.mlir_read.specs.Reading.{StandsFor}
use Rattle.mlir_roundtrip.specs.Numbered.{renumbered}
use Rattle.mlir_streams.specs.Shelves.{Files}
use Rattle.mlir_verify.specs.Rules.{IsVerified}
use Rattle.renumbered_meaning.specs.Laws.{MeanTheSame}
use Rattle.mlir_opt.specs.Answer.{answer}
use Rattle.mlir_opt.specs.Asked.{CommandShape, name_of, asked}
use Rattle.mlir_opt.specs.Processed.{transformed, with_script}

-- The file that is written: the one that was read; or, after its script, that file with the script's module, under the
-- numbers of the canonical text.
abbrev pub written_file : Bool → File → Module → File
written_file false f m = f
written_file true f m = renumbered (with_script f.script m)

-- The text of the file that the words name stands for a file whose module verifies, and the stated bytes for the one that is
-- made of it. Its module verifies too, and each of its functions has the name and the types of the original, and gives on all
-- inputs of these types exactly the original's tensors or its trap.
pub record ReadsAgain (words : List (List ℕ)) (files : Files) : Type 0 where
  pub command : CommandShape
  pub asks : asked words ≡ Some command
  pub text : List ℕ
  pub there : files (name_of command.source) ≡ Some text
  pub read : File
  pub stands : StandsFor text read
  pub verifies : IsVerified read.module
  pub given : Module
  pub transforms : transformed command.transform read.script read.module ≡ Ok given
  pub again : File
  pub is_stated : again ≡ written_file command.transform read given
  pub stands_again : StandsFor (answer words files).out again
  pub verifies_again : IsVerified again.module
  pub functions : MeanTheSame read.module.funcs again.module.funcs
