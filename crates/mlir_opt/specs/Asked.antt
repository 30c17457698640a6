-- What words ask for, of what is built.
use Rattle.std.specs.Prelude.{ℕ, List, [], Bool, is_some, option_and_then, option_map, Option, Some, None}
use Rattle.mlir_words.specs.Request.{RequestShape, sample_of, module_of, SourceShape, standard_input, named_file, TaskShape, print, lowering, running, source_shape, request_of}
use Rattle.mlir_opt.specs.declared.request.Command.{Command}
use Rattle.mlir_opt.specs.declared.request.Output.{Output}
use Rattle.mlir_opt.specs.declared.request.Output.TheVariants.{CanonicalText}

-- where a module's text comes from, whether its script is applied, and what is written of it then
pub record CommandShape : Type 0 where
  pub source : SourceShape
  pub transform : Bool
  pub output : Output

-- the name of the file; standard input has the empty name
abbrev pub name_of : SourceShape → List ℕ
name_of standard_input = []
name_of (named_file name) = name

-- what is written for a task, where that is built
abbrev pub written_for : TaskShape → Option Output
written_for print = Some CanonicalText
written_for (lowering function) = None
written_for (running function input workers) = None

-- the command that a request makes, where it is built
abbrev pub built : RequestShape → Option CommandShape
built (sample_of k) = None
built (module_of from transform task) = option_map (λ output. record { source = from; transform = transform; output = output }) (written_for task)

-- The command that the words make. There is none where they make no request, or one that isn't built.
unfoldable pub asked : List (List ℕ) → Option CommandShape
asked words = option_and_then built (request_of words)

-- whether the words are a command
abbrev pub is_command : List (List ℕ) → Bool
is_command words = is_some (asked words)

-- a command in code
abbrev pub command_shape : Command → CommandShape
command_shape c = record { source = source_shape c.source; transform = c.transform; output = c.output }
