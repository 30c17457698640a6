-- The command as `clap` sees it, and what its matches give.
use Rattle.std.specs.Prelude.{◌≡◌, ℕ, Bool, true, false, List, [], ◌∷◌, Option, Some, None, codes}
use Rattle.std.specs.Prelude.{Result, Ok, Err, option_map, ⊤}
use Rattle.std.specs.List.{fold}
use Rattle.std.specs.Str.{bytes_eq}
use Rattle.clap.specs.Words.{App, Row, Rule, first_of, new_app, new_rule, with_rule}
use Rattle.clap.specs.declared.builder.ArgAction.TheVariants.{Set, SetTrue}
use Rattle.mlir_words.specs.Asked.{Options}
use Rattle.mlir_words.specs.declared.given.Given.{Given}
use Rattle.mlir_words.specs.declared.request.WordsError.{WordsError}
use Rattle.mlir_words.specs.declared.request.WordsError.TheVariants.{Words, Memory}

abbrev pub flag_rule : List ℕ → Rule
flag_rule name = record (new_rule name) { long = Some name; action = Some SetTrue }

abbrev pub option_rule : List ℕ → Rule
option_rule name = record (new_rule name) { long = Some name; action = Some Set }

abbrev pub file_rule : Rule
file_rule = record (new_rule (codes "file")) { action = Some Set }

-- a command with no arguments, help or version
abbrev pub bare_app : App
bare_app = record {
  top = record (new_app (codes "mlir_opt")).top {
    disable_help_flag = true;
    disable_version_flag = true;
  };
  subs = [];
}

-- the command: a flag, five options with a value, and a file
abbrev pub the_app : App
the_app = fold with_rule bare_app (flag_rule (codes "transform-interpreter")
    ∷ option_rule (codes "lower") ∷ option_rule (codes "run") ∷ option_rule (codes "input")
    ∷ option_rule (codes "workers") ∷ option_rule (codes "sample") ∷ file_rule ∷ [])

abbrev pub is_set : Option (List ℕ) → Bool
is_set None = false
is_set (Some text) = bytes_eq text (codes "true")

-- what the rows of the matches say
abbrev pub options_in : List Row → Options
options_in rows = record {
  transform = is_set (first_of (codes "transform-interpreter") rows);
  lower = first_of (codes "lower") rows;
  run = first_of (codes "run") rows;
  input = first_of (codes "input") rows;
  workers = first_of (codes "workers") rows;
  sample = first_of (codes "sample") rows;
  file = first_of (codes "file") rows;
}

abbrev pub options_given : Given → Options
options_given given = record {
  transform = given.transform;
  lower = option_map (λ s. s.now) given.lower;
  run = option_map (λ s. s.now) given.run;
  input = option_map (λ s. s.now) given.input;
  workers = option_map (λ s. s.now) given.workers;
  sample = option_map (λ s. s.now) given.sample;
  file = option_map (λ s. s.now) given.file;
}

-- the options that are asked for, or `Words` exactly where none are; want of memory is free
abbrev pub Gives : Option Options → Result Given WordsError → Type 0
Gives wanted (Ok given) = wanted ≡ Some (options_given given)
Gives wanted (Err Words) = wanted ≡ None
Gives wanted (Err Memory) = ⊤
