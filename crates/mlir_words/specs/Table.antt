-- The table of commands, row by row, with any values and in any order of the words, and what is
-- refused.
use Rattle.std.specs.Prelude.{◌≡◌, ℕ, Bool, true, false, not, codes, List, [], ◌∷◌, ◌++◌, drop, Option}
use Rattle.std.specs.Prelude.{Some, None, Result, option_map}
use Rattle.std.specs.List.{AllByRecursion, flat_map}
use Rattle.std.specs.List.Sorted.{IsPermutation}
use Rattle.mlir_words.specs.Asked.{Item, Options, Part, Text, asked, each_once, file, form_of, input}
use Rattle.mlir_words.specs.Asked.{lower, refused, run, sample, transform_interpreter, workers}
use Rattle.mlir_words.specs.Request.{Answers, SourceShape, input_source, is_sample_alone}
use Rattle.mlir_words.specs.Request.{lowering, module_of, module_source, nonempty, number_of, print}
use Rattle.mlir_words.specs.Request.{running, sample_of, standard_input, worker_count}
use Rattle.mlir_words.specs.Spelled.{Ending, IsSpelled, Spelled, is_option, is_plain_word, item_of}
use Rattle.mlir_words.specs.Spelled.{option_word, spelled, spelled_items, words_of}
use Rattle.mlir_words.specs.declared.request.Request.{Request}
use Rattle.mlir_words.specs.declared.request.WordsError.{WordsError}

-- the words behind the program's name spell these items, in some order
pub record Spells (words : List Text) (given : List Item) : Type 0 where
  pub program : Text
  pub all : List Spelled
  pub ending : Ending
  pub spells : AllByRecursion IsSpelled all
  pub order : IsPermutation given (spelled_items all ending)
  pub are : words ≡ program ∷ spelled all ending

abbrev pub flag_if : Bool → List Item
flag_if true = (transform_interpreter, []) ∷ []
flag_if false = []

abbrev pub item_if : Part → Option Text → List Item
item_if part None = []
item_if part (Some text) = (part, text) ∷ []

-- `[--transform-interpreter] [FILE]`
abbrev pub printed_items : Bool → Option Text → List Item
printed_items transform named = flag_if transform ++ item_if file named

-- `[--transform-interpreter] --lower=NAME [FILE]`
abbrev pub lowered_items : Bool → Text → Option Text → List Item
lowered_items transform function named =
    flag_if transform ++ (lower, function) ∷ item_if file named

-- `[--transform-interpreter] --run=NAME [--input=FILE] [--workers=N] [FILE]`
abbrev pub run_items : Bool → Text → Option Text → Option Text → Option Text → List Item
run_items transform function read count named = flag_if transform
    ++ (run, function) ∷ (item_if input read ++ (item_if workers count ++ item_if file named))

-- words that spell a row of the table are read as the row says
pub record ReadsRows (words : List Text) (result : Result Request WordsError) : Type 0 where
  pub printed : (transform : Bool) (named : Option Text) (from : SourceShape)
      → Spells words (printed_items transform named) → module_source named ≡ Some from
      → Answers (Some (module_of from transform print)) result
  pub lowered : (transform : Bool) (function : Text) (named : Option Text) (from : SourceShape)
      → Spells words (lowered_items transform function named) → module_source named ≡ Some from
      → nonempty function ≡ Some function
      → Answers (Some (module_of from transform (lowering function))) result
  pub run : (transform : Bool) (function : Text) (read count named : Option Text)
      (from : SourceShape) (input : Option SourceShape) (workers : ℕ)
      → Spells words (run_items transform function read count named)
      → module_source named ≡ Some from → nonempty function ≡ Some function
      → input_source from read ≡ Some input → worker_count count ≡ Some workers
      → Answers (Some (module_of from transform (running function input workers))) result
  pub sampled : (program size : Text) (spelling : Spelled) → IsSpelled spelling
      → item_of spelling ≡ (sample, size) → words ≡ program ∷ words_of spelling
      → Answers (option_map (λ k. sample_of k) (number_of size)) result

-- what is refused of words that ask for these options
pub data IsRefused (words : List Text) (options : Options) : Type 0 where
  sample_with_others : (size : Text) → options.sample ≡ Some size
      → is_sample_alone words ≡ false → IsRefused words options
  sample_without_number : (size : Text) → options.sample ≡ Some size → number_of size ≡ None
      → IsRefused words options
  empty_file : options.sample ≡ None → options.file ≡ Some [] → IsRefused words options
  lower_and_run : (function other : Text) → options.sample ≡ None
      → options.lower ≡ Some function → options.run ≡ Some other → IsRefused words options
  empty_lower : options.sample ≡ None → options.lower ≡ Some [] → IsRefused words options
  empty_run : options.sample ≡ None → options.run ≡ Some [] → IsRefused words options
  input_without_run : (text : Text) → options.sample ≡ None → options.run ≡ None
      → options.input ≡ Some text → IsRefused words options
  workers_without_run : (text : Text) → options.sample ≡ None → options.run ≡ None
      → options.workers ≡ Some text → IsRefused words options
  empty_input : options.sample ≡ None → options.input ≡ Some [] → IsRefused words options
  standard_input_twice : options.sample ≡ None → options.input ≡ Some (codes "-")
      → module_source options.file ≡ Some standard_input → IsRefused words options
  workers_without_number : (text : Text) → options.sample ≡ None → options.workers ≡ Some text
      → number_of text ≡ None → IsRefused words options

-- no word is left for an option's value, or the next one begins with `-` and is longer
abbrev pub lacks_value : List Text → Bool
lacks_value [] = true
lacks_value (word ∷ rest) = not (is_plain_word word)

-- words are refused that are none, that give a part twice, in which a word begins with `-` and is
-- no option, in which an option stands without its value, that give two files or more behind `--`,
-- and that ask for what is refused
pub record RefusesWords (words : List Text) (result : Result Request WordsError) : Type 0 where
  pub none : words ≡ [] → Answers None result
  pub twice : (given : List Item) → Spells words given → each_once given ≡ false
      → Answers None result
  pub unknown : (program : Text) (all : List Spelled) (word : Text) (rest : List Text)
      → AllByRecursion IsSpelled all → form_of word ≡ refused
      → words ≡ program ∷ (flat_map words_of all ++ word ∷ rest) → Answers None result
  pub valueless : (program : Text) (all : List Spelled) (part : Part) (rest : List Text)
      → AllByRecursion IsSpelled all → is_option part ≡ true → lacks_value rest ≡ true
      → words ≡ program ∷ (flat_map words_of all ++ option_word part ∷ rest) → Answers None result
  pub many_files : (program : Text) (all : List Spelled) (first second : Text) (rest : List Text)
      → AllByRecursion IsSpelled all
      → words ≡ program ∷ (flat_map words_of all ++ codes "--" ∷ first ∷ second ∷ rest)
      → Answers None result
  pub asking : (options : Options) → asked (drop 1 words) ≡ Some options
      → IsRefused (drop 1 words) options → Answers None result
