-- What the words of a command line ask for, read from left to right: six options and a file.
use Rattle.std.specs.Prelude.{◌==◌, ◌&&◌, ℕ, Bool, true, not, codes, List, [], ◌∷◌, ◌++◌}
use Rattle.std.specs.Prelude.{Option, Some, None, option_map, option_and_then, if◌then◌else◌, find}
use Rattle.std.specs.List.{list_any, before_first, after_first}
use Rattle.std.specs.Str.{bytes_eq}

abbrev pub Text : Type 0
Text = List ℕ

-- what a word can give: the flag `--transform-interpreter`, five options with a value, the file
pub data Part : Type 0 where
  transform_interpreter : Part
  lower : Part
  run : Part
  input : Part
  workers : Part
  sample : Part
  file : Part

-- ---- one word

-- the option of this name, in full
abbrev pub option_named : Text → Option Part
option_named name = if bytes_eq (codes "transform-interpreter") name then Some transform_interpreter
    else (if bytes_eq (codes "lower") name then Some lower
    else (if bytes_eq (codes "run") name then Some run
    else (if bytes_eq (codes "input") name then Some input
    else (if bytes_eq (codes "workers") name then Some workers
    else (if bytes_eq (codes "sample") name then Some sample else None)))))

-- a word by its form: `--`, the flag, `--name=value`, `--name`, another word that begins with `-`
-- and is longer, and a word that is no option
pub data Form : Type 0 where
  ends : Form
  flag : Form
  attached : Part → Text → Form
  awaits : Part → Form
  refused : Form
  plain : Form

-- the flag takes no value
abbrev pub option_form : Part → Option Text → Form
option_form transform_interpreter None = flag
option_form transform_interpreter (Some value) = refused
option_form part None = awaits part
option_form part (Some value) = attached part value

abbrev pub named_form : Option Part → Option Text → Form
named_form None value = refused
named_form (Some part) value = option_form part value

abbrev pub is_equals : ℕ → Bool
is_equals byte = byte == 61

-- what stands behind the first `=`
abbrev pub attached_value : Text → Option Text
attached_value text = if list_any is_equals text then Some (after_first is_equals text) else None

-- the form by what follows two dashes, by what follows one, and by the whole word
abbrev pub long_form : Text → Form
long_form [] = ends
long_form (byte ∷ rest) =
    named_form (option_named (before_first is_equals (byte ∷ rest))) (attached_value (byte ∷ rest))

abbrev pub dashed_form : Text → Form
dashed_form [] = plain
dashed_form (byte ∷ rest) = if byte == 45 then long_form rest else refused

abbrev pub form_of : Text → Form
form_of [] = plain
form_of (byte ∷ rest) = if byte == 45 then dashed_form rest else plain

-- ---- the words

-- what the next word may be: anything, a file behind `--`, or the value of an option
pub data Expects : Type 0 where
  anything : Expects
  only_file : Expects
  value_of : Part → Expects

-- a part that words give, with its value; the flag's is empty
abbrev pub Item : Type 0
Item = Part × Text

abbrev pub gives : Part → Text → Option (List Item) → Option (List Item)
gives part value = option_map (λ rest. (part, value) ∷ rest)

-- a word by its form, where anything may stand
abbrev pub word_read : Form → Text → (Expects → Option (List Item)) → Option (List Item)
word_read ends word next = next only_file
word_read flag word next = gives transform_interpreter [] (next anything)
word_read (attached part value) word next = gives part value (next anything)
word_read (awaits part) word next = next (value_of part)
word_read refused word next = None
word_read plain word next = gives file word (next anything)

-- the value of an option, which is no option itself
abbrev pub value_read : Form → Part → Text → (Expects → Option (List Item)) → Option (List Item)
value_read plain part word next = gives part word (next anything)
value_read _ part word next = None

abbrev pub next_read : Expects → Text → (Expects → Option (List Item)) → Option (List Item)
next_read anything word next = word_read (form_of word) word next
next_read only_file word next = gives file word (next only_file)
next_read (value_of part) word next = value_read (form_of word) part word next

-- no word is left
abbrev pub end_read : Expects → Option (List Item)
end_read (value_of part) = None
end_read _ = Some []

-- what the words give, from left to right
unfoldable pub items : List Text → Expects → Option (List Item)
items [] expects = end_read expects
items (word ∷ rest) expects = next_read expects word (items rest)

-- ---- each part at most once

-- the parts, told apart by a number
abbrev pub place : Part → ℕ
place transform_interpreter = 0
place lower = 1
place run = 2
place input = 3
place workers = 4
place sample = 5
place file = 6

abbrev pub is_of : Part → Item → Bool
is_of part item = place item.0 == place part

abbrev pub has : Part → List Item → Bool
has part = list_any (is_of part)

-- none of the items is of a part that was given before it
unfoldable pub differ_after : List Item → List Item → Bool
differ_after before [] = true
differ_after before (item ∷ rest) =
    not (has item.0 before) && differ_after (before ++ item ∷ []) rest

abbrev pub each_once : List Item → Bool
each_once = differ_after []

-- ---- what they ask for

pub record Options : Type 0 where
  pub transform : Bool
  pub lower : Option Text
  pub run : Option Text
  pub input : Option Text
  pub workers : Option Text
  pub sample : Option Text
  pub file : Option Text

abbrev pub value : Part → List Item → Option Text
value part all = option_map (λ item. item.1) (find (is_of part) all)

abbrev pub options_by : List Item → Options
options_by all = record {
  transform = has transform_interpreter all;
  lower = value lower all;
  run = value run all;
  input = value input all;
  workers = value workers all;
  sample = value sample all;
  file = value file all;
}

abbrev pub options_once : List Item → Option Options
options_once all = if each_once all then Some (options_by all) else None

-- what the words after the program's name ask for
abbrev pub asked : List Text → Option Options
asked words = option_and_then options_once (items words anything)
