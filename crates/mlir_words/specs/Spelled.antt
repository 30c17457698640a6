-- How the words of a command line spell what they give.
use Rattle.std.specs.Prelude.{◌≡◌, ◌==◌, Bool, true, false, not, codes, List, [], ◌∷◌, ◌++◌, map}
use Rattle.std.specs.Prelude.{⊤}
use Rattle.std.specs.List.{flat_map}
use Rattle.mlir_words.specs.Asked.{Item, Part, Text, transform_interpreter, lower, run, input}
use Rattle.mlir_words.specs.Asked.{workers, sample, file}

-- the flag, `--name=value`, `--name` and its value as the next word, and a file
pub data Spelled : Type 0 where
  flag_word : Spelled
  joined : Part → Text → Spelled
  parted : Part → Text → Spelled
  file_word : Text → Spelled

-- behind the options: nothing, `--`, or `--` and a file
pub data Ending : Type 0 where
  nothing_behind : Ending
  dashes : Ending
  file_behind : Text → Ending

-- the parts that take a value
abbrev pub is_option : Part → Bool
is_option transform_interpreter = false
is_option file = false
is_option _ = true

abbrev pub option_word : Part → Text
option_word lower = codes "--lower"
option_word run = codes "--run"
option_word input = codes "--input"
option_word workers = codes "--workers"
option_word sample = codes "--sample"
option_word _ = codes "--transform-interpreter"

abbrev pub words_of : Spelled → List Text
words_of flag_word = codes "--transform-interpreter" ∷ []
words_of (joined part text) = (option_word part ++ 61 ∷ text) ∷ []
words_of (parted part text) = option_word part ∷ text ∷ []
words_of (file_word text) = text ∷ []

abbrev pub item_of : Spelled → Item
item_of flag_word = (transform_interpreter, [])
item_of (joined part text) = (part, text)
item_of (parted part text) = (part, text)
item_of (file_word text) = (file, text)

abbrev pub ending_words : Ending → List Text
ending_words nothing_behind = []
ending_words dashes = codes "--" ∷ []
ending_words (file_behind text) = codes "--" ∷ text ∷ []

abbrev pub ending_items : Ending → List Item
ending_items nothing_behind = []
ending_items dashes = []
ending_items (file_behind text) = (file, text) ∷ []

-- the word is `-`, or doesn't begin with it
abbrev pub is_plain_word : Text → Bool
is_plain_word [] = true
is_plain_word (byte ∷ []) = true
is_plain_word (byte ∷ next ∷ rest) = not (byte == 45)

-- a value behind `=` may be any text
abbrev pub IsSpelled : Spelled → Type 0
IsSpelled flag_word = ⊤
IsSpelled (joined part text) = is_option part ≡ true
IsSpelled (parted part text) = (is_option part ≡ true) × (is_plain_word text ≡ true)
IsSpelled (file_word text) = is_plain_word text ≡ true

-- the words of a command line behind the program's name, and what they give
abbrev pub spelled : List Spelled → Ending → List Text
spelled all ending = flat_map words_of all ++ ending_words ending

abbrev pub spelled_items : List Spelled → Ending → List Item
spelled_items all ending = map item_of all ++ ending_items ending
