-- The request that the words of a command line make: the rules on the options' values, and on which
-- options stand together.
use Rattle.std.specs.Prelude.{◌≡◌, ◌≤◌, ◌==◌, ◌&&◌, ℕ, Bool, true, false, not, codes, nat_le}
use Rattle.std.specs.Prelude.{List, [], ◌∷◌, Option, Some, None, option_map, option_and_then, ⊤}
use Rattle.std.specs.Prelude.{Result, Ok, Err, if◌then◌else◌}
use Rattle.std.specs.List.{list_all}
use Rattle.std.specs.Str.{bytes_eq}
use Rattle.std.specs.Str.Parse.{digits_value}
use Rattle.mlir_words.specs.Asked.{Options, Text, asked}
use Rattle.mlir_words.specs.declared.request.Request.{Request}
use Rattle.mlir_words.specs.declared.request.Request.TheVariants as request
use Rattle.mlir_words.specs.declared.request.Source.{Source}
use Rattle.mlir_words.specs.declared.request.Source.TheVariants as source
use Rattle.mlir_words.specs.declared.request.Task.{Task}
use Rattle.mlir_words.specs.declared.request.Task.TheVariants as task
use Rattle.mlir_words.specs.declared.request.WordsError.{WordsError}
use Rattle.mlir_words.specs.declared.request.WordsError.TheVariants.{Words, Memory}

-- where a text comes from
pub data SourceShape : Type 0 where
  standard_input : SourceShape
  named_file : Text → SourceShape

-- what is done with the module; a run has a function's name, its input and its workers
pub data TaskShape : Type 0 where
  print : TaskShape
  lowering : Text → TaskShape
  running : Text → Option SourceShape → ℕ → TaskShape

-- a sample of a size, or a module's file, whether its script is applied, and the task
pub data RequestShape : Type 0 where
  sample_of : ℕ → RequestShape
  module_of : SourceShape → Bool → TaskShape → RequestShape

-- ---- values

-- a name that isn't empty
abbrev pub nonempty : Text → Option Text
nonempty [] = None
nonempty (byte ∷ rest) = Some (byte ∷ rest)

-- `-` is standard input, and no file has the empty name
abbrev pub source_named : Text → Option SourceShape
source_named [] = None
source_named (byte ∷ rest) = Some
    (if bytes_eq (byte ∷ rest) (codes "-") then standard_input else named_file (byte ∷ rest))

abbrev pub is_digit : ℕ → Bool
is_digit byte = nat_le 48 byte && nat_le byte 57

-- decimal digits, without a sign and without a leading 0
abbrev pub is_numeral : Text → Bool
is_numeral [] = false
is_numeral (byte ∷ rest) = not (byte == 48) && list_all is_digit (byte ∷ rest)

-- a number from 1 to 64
abbrev pub number_of : Text → Option ℕ
number_of text = if is_numeral text && nat_le (digits_value 10 text) 64
    then Some (digits_value 10 text) else None

-- ---- a module's request

-- without a FILE the module comes from standard input
abbrev pub module_source : Option Text → Option SourceShape
module_source None = Some standard_input
module_source (Some text) = source_named text

-- the input isn't read from standard input where the module is
abbrev pub apart : SourceShape → SourceShape → Option SourceShape
apart standard_input standard_input = None
apart from input = Some input

abbrev pub input_source : SourceShape → Option Text → Option (Option SourceShape)
input_source from None = Some None
input_source from (Some text) =
    option_map (λ input. Some input) (option_and_then (apart from) (source_named text))

-- one worker, where none are asked for
abbrev pub worker_count : Option Text → Option ℕ
worker_count None = Some 1
worker_count (Some text) = number_of text

abbrev pub run_task : Text → SourceShape → Options → Option TaskShape
run_task function from options =
    option_and_then (λ name. option_and_then (λ input. option_map (λ count. running name input count)
    (worker_count options.workers)) (input_source from options.input)) (nonempty function)

-- `--input` and `--workers` stand with `--run` alone
abbrev pub without_run : Option Text → Option Text → Option TaskShape → Option TaskShape
without_run None None task = task
without_run _ _ task = None

-- `--lower` and `--run` don't stand together
abbrev pub task_by : Option Text → Option Text → SourceShape → Options → Option TaskShape
task_by None None from options = without_run options.input options.workers (Some print)
task_by (Some function) None from options = without_run options.input options.workers
    (option_map (λ name. lowering name) (nonempty function))
task_by None (Some function) from options = run_task function from options
task_by (Some _) (Some _) from options = None

abbrev pub module_request : Options → SourceShape → Option RequestShape
module_request options from =
    option_map (module_of from options.transform) (task_by options.lower options.run from options)

-- ---- the request

-- these words, among which `--sample` stands, are `--sample=K` or `--sample` and K
abbrev pub is_sample_alone : List Text → Bool
is_sample_alone (word ∷ []) = true
is_sample_alone (word ∷ size ∷ []) = bytes_eq word (codes "--sample")
is_sample_alone _ = false

abbrev pub sample_request : Bool → Text → Option RequestShape
sample_request alone size = if alone then option_map (λ k. sample_of k) (number_of size) else None

abbrev pub request_by : Bool → Option Text → Options → Option RequestShape
request_by alone (Some size) options = sample_request alone size
request_by alone None options = option_and_then (module_request options) (module_source options.file)

-- the request of a command line's words, of which the first is the program's name
abbrev pub request_of : List Text → Option RequestShape
request_of [] = None
request_of (program ∷ words) = option_and_then
    (λ options. request_by (is_sample_alone words) options.sample options) (asked words)

-- ---- what is answered

abbrev pub source_shape : Source → SourceShape
source_shape source.StandardInput = standard_input
source_shape (source.File name) = named_file name.now

abbrev pub task_shape : Task → TaskShape
task_shape task.Print = print
task_shape (task.Lower function) = lowering function.now
task_shape (task.Run function input workers) =
    running function.now (option_map source_shape input) workers

abbrev pub request_shape : Request → RequestShape
request_shape (request.Sample k) = sample_of k
request_shape (request.Module file transform task) =
    module_of (source_shape file) transform (task_shape task)

-- the numbers of a task and of a request are 1 to 64
abbrev pub IsInRange : ℕ → Type 0
IsInRange n = (1 ≤ n) × (n ≤ 64)

abbrev pub IsTaskInRange : Task → Type 0
IsTaskInRange (task.Run function input workers) = IsInRange workers
IsTaskInRange _ = ⊤

abbrev pub IsRequestInRange : Request → Type 0
IsRequestInRange (request.Sample k) = IsInRange k
IsRequestInRange (request.Module file transform task) = IsTaskInRange task

-- the answer is the request, or `Words` exactly where there is none; want of memory is free
abbrev pub Answers : Option RequestShape → Result Request WordsError → Type 0
Answers wanted (Ok given) = wanted ≡ Some (request_shape given)
Answers wanted (Err Words) = wanted ≡ None
Answers wanted (Err Memory) = ⊤
