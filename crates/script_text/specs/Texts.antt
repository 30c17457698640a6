-- The bytes of steps, in the order in which they are written (MLIR Transform dialect).
use Rattle.std.specs.Prelude.{ℕ, zero, suc, ◌+◌, ℤ, List, [], ◌∷◌, ◌++◌, length, Option, Some, None, codes, decimal}
use Rattle.std.specs.Fmt.{signed_decimal}
use Rattle.text_format.specs.Numerals.{numeral}
use Rattle.text_format.specs.Writers.{unbuilt_text}
use Rattle.script_read.specs.declared.script.HandleId.{HandleId}
use Rattle.script_read.specs.declared.script.PadArgs.{PadArgs}
use Rattle.script_read.specs.declared.script.StepKind.{StepKind}
use Rattle.script_read.specs.declared.script.StepKind.TheVariants as kinds
use Rattle.script_read.specs.declared.script.Step.{Step}
use Rattle.script_read.specs.declared.script.Script.{Script}
use Rattle.script_text.specs.declared.names.Given.TheVariants.{Single}
use Rattle.script_text.specs.declared.names.Row.{Row}
use Rattle.script_text.specs.Names.{given_text, name_in, start, rows_of, next_of}

-- ---- lists

abbrev pub numbers_text : List ℕ → List ℕ → List ℕ
numbers_text before [] = []
numbers_text before (n ∷ ns) = before ++ (decimal n ++ numbers_text (codes ", ") ns)

unfoldable pub list_text : List ℕ → List ℕ
list_text ns = codes "[" ++ (numbers_text [] ns ++ codes "]")

unfoldable pub value_text : ℤ → ℕ → List ℕ
value_text v w = signed_decimal v ++ (codes " : i" ++ decimal w)

abbrev pub values_text : List ℕ → List (ℤ × ℕ) → List ℕ
values_text before [] = []
values_text before (v ∷ vs) = before ++ (value_text v.0 v.1 ++ values_text (codes ", ") vs)

unfoldable pub quoted_text : List ℕ → List ℕ
quoted_text name = codes "\"" ++ (name ++ codes "\"")

abbrev pub quoted_texts : List ℕ → List (List ℕ) → List ℕ
quoted_texts before [] = []
quoted_texts before (n ∷ ns) = before ++ (quoted_text n ++ quoted_texts (codes ", ") ns)

-- ---- types

-- the text, so many times
abbrev pub repeated : ℕ → List ℕ → List ℕ
repeated zero text = []
repeated (suc n) text = text ++ repeated n text

unfoldable pub to_one_text : List ℕ
to_one_text = codes " : (!transform.any_op) -> !transform.any_op"

unfoldable pub to_two_text : List ℕ
to_two_text = codes " : (!transform.any_op) -> (!transform.any_op, !transform.any_op)"

unfoldable pub both_to_two_text : List ℕ
both_to_two_text = codes " : (!transform.any_op, !transform.any_op) -> (!transform.any_op, !transform.any_op)"

unfoldable pub to_three_text : List ℕ
to_three_text = codes " : (!transform.any_op) -> (!transform.any_op, !transform.any_op, !transform.any_op)"

-- up to the second of the results
abbrev pub open_text : List ℕ
open_text = codes " : (!transform.any_op) -> (!transform.any_op, !transform.any_op"

-- of two results, and so many more
unfoldable pub to_many_text : ℕ → List ℕ
to_many_text more = open_text ++ (repeated more (codes ", !transform.any_op") ++ codes ")")

-- ---- steps, without their types

unfoldable pub match_text : List Row → List (List ℕ) → HandleId → List ℕ
match_text rows names h = codes "transform.structured.match ops{[" ++ (quoted_texts [] names ++ (codes "]} in " ++ name_in rows h))

unfoldable pub handle_text : List ℕ → List Row → HandleId → List ℕ
handle_text word rows h = word ++ name_in rows h

-- a step with a list: its name, its handle, what stands before the list, and the list
unfoldable pub sized_text : List ℕ → List Row → HandleId → List ℕ → List ℕ → List ℕ
sized_text word rows h before ns = word ++ (name_in rows h ++ (before ++ list_text ns))

unfoldable pub fuse_text : List Row → HandleId → HandleId → List ℕ
fuse_text rows p h = codes "transform.structured.fuse_into_containing_op " ++ (name_in rows p ++ (codes " into " ++ name_in rows h))

unfoldable pub dims_text : List ℕ → List ℕ
dims_text ns = codes "], padding_dimensions = " ++ list_text ns

unfoldable pub multiples_text : List ℕ → List ℕ
multiples_text ns = codes ", pad_to_multiple_of = " ++ list_text ns

unfoldable pub pad_args_text : PadArgs → List ℕ
pad_args_text a = values_text [] a.values ++ (dims_text a.dims ++ multiples_text a.multiples)

unfoldable pub pad_text : List Row → HandleId → PadArgs → List ℕ
pad_text rows h a = codes "transform.structured.pad " ++ (name_in rows h ++ (codes " {padding_values = [" ++ (pad_args_text a ++ codes ", copy_back_op = \"none\"}")))

unfoldable pub vector_list_text : List ℕ → List ℕ
vector_list_text ns = codes " vector_sizes " ++ list_text ns

abbrev pub vector_sizes_text : Option (List ℕ) → List ℕ
vector_sizes_text None = []
vector_sizes_text (Some ns) = vector_list_text ns

unfoldable pub vectorize_text : List Row → HandleId → Option (List ℕ) → List ℕ
vectorize_text rows h sizes = codes "transform.structured.vectorize " ++ (name_in rows h ++ (vector_sizes_text sizes ++ codes " : !transform.any_op"))

unfoldable pub split_text : List Row → HandleId → List ℕ
split_text rows h = handle_text (codes "transform.split_handle ") rows h

unfoldable pub tile_for_text : List Row → HandleId → List ℕ → List ℕ
tile_for_text rows h ns = sized_text (codes "transform.structured.tile_using_for ") rows h (codes " tile_sizes ") ns

unfoldable pub generalize_text : List Row → HandleId → List ℕ
generalize_text rows h = handle_text (codes "transform.structured.generalize ") rows h

unfoldable pub pass_text : List Row → HandleId → List ℕ
pass_text rows h = handle_text (codes "transform.apply_registered_pass \"linalg-fuse-elementwise-ops\" to ") rows h

unfoldable pub interchange_text : List Row → HandleId → List ℕ → List ℕ
interchange_text rows h ns = sized_text (codes "transform.structured.interchange ") rows h (codes " iterator_interchange = ") ns

unfoldable pub pack_text : List Row → HandleId → List ℕ → List ℕ
pack_text rows h ns = sized_text (codes "transform.structured.pack ") rows h (codes " packed_sizes = ") ns

unfoldable pub tile_forall_text : List Row → HandleId → List ℕ → List ℕ
tile_forall_text rows h ns = sized_text (codes "transform.structured.tile_using_forall ") rows h (codes " tile_sizes ") ns

-- ---- with their types, by the number of results. What no text spells is written as `?`

abbrev pub none_text : List Row → StepKind → List ℕ
none_text rows (kinds.Vectorize h sizes) = vectorize_text rows h sizes
none_text rows k = unbuilt_text

abbrev pub one_text : List Row → StepKind → List ℕ
one_text rows (kinds.Match names h) = match_text rows names h ++ to_one_text
one_text rows (kinds.Split h) = split_text rows h ++ to_one_text
one_text rows (kinds.Generalize h) = generalize_text rows h ++ to_one_text
one_text rows (kinds.Interchange h order) = interchange_text rows h order ++ to_one_text
one_text rows (kinds.TileFor h ns) = tile_for_text rows h ns ++ to_one_text
one_text rows (kinds.Pack h ns) = pack_text rows h ns ++ to_one_text
one_text rows (kinds.FuseElementwise h) = pass_text rows h ++ to_one_text
one_text rows k = unbuilt_text

-- behind two results, these
abbrev pub group_text : List Row → List HandleId → StepKind → List ℕ
group_text rows more (kinds.Split h) = split_text rows h ++ to_many_text (length more)
group_text rows more (kinds.TileFor h ns) = tile_for_text rows h ns ++ to_many_text (length more)
group_text rows more (kinds.TileForall h ns) = tile_forall_text rows h ns ++ to_two_text
group_text rows more (kinds.FuseInto p h) = fuse_text rows p h ++ both_to_two_text
group_text rows more (kinds.Pad h a) = pad_text rows h a ++ to_three_text
group_text rows more k = unbuilt_text

-- ---- lines

-- the results of a step, where the next have number n
abbrev pub results_text : ℕ → List HandleId → List ℕ
results_text n [] = []
results_text n (h ∷ []) = given_text (Single n) ++ codes " = "
results_text n (h ∷ (g ∷ hs)) = given_text (Single n) ++ (codes ":" ++ (numeral (length (h ∷ (g ∷ hs))) ++ codes " = "))

abbrev pub kind_text : List Row → List HandleId → StepKind → List ℕ
kind_text rows [] k = none_text rows k
kind_text rows (h ∷ []) k = one_text rows k
kind_text rows (h ∷ (g ∷ hs)) k = group_text rows hs k

abbrev pub step_text : List Row → ℕ → Step → List ℕ
step_text rows n s = results_text n s.results ++ kind_text rows s.results s.kind

-- a line at this depth
unfoldable pub new_line : ℕ → List ℕ
new_line depth = codes "\n" ++ repeated depth (codes "  ")

abbrev pub steps_text : ℕ → List Row → ℕ → List Step → List ℕ
steps_text depth rows n [] = []
steps_text depth rows n (s ∷ ss) = new_line depth ++ (step_text rows n s ++ steps_text depth (rows ++ rows_of n s.results) (next_of n s.results) ss)

-- ---- scripts

unfoldable pub opening_text : List ℕ
opening_text = codes "transform.named_sequence @__transform_main(%arg0: !transform.any_op {transform.readonly}) {"

unfoldable pub closing_text : ℕ → List ℕ
closing_text depth = new_line (suc depth) ++ (codes "transform.yield" ++ (new_line depth ++ codes "}"))

-- a sequence at a depth; its steps stand one level deeper
abbrev pub sequence_text : ℕ → Script → List ℕ
sequence_text depth s = opening_text ++ (steps_text (suc depth) (start s.root) 0 s.steps ++ closing_text depth)
