-- The pieces of a canonical text have the bytes that are written.
use Rattle.std.proofs.Common.{◌≡◌, ℕ, zero, suc, ◌+◌, List, [], ◌∷◌, ◌++◌, map, length, Option, Some, None, refl, sym, ap, ◌∙◌, append_assoc, codes, decimal}
use Rattle.std.specs.Prelude.{ℤ, pos, negsuc}
use Rattle.std.specs.Fmt.{signed_decimal}
use Rattle.std.proofs.lemmas.List.{append-nil}
use Rattle.text_format.specs.declared.lexeme.Lexeme.{Lexeme}
use Rattle.text_format.specs.declared.lexeme.Lexeme.TheVariants.{StructuredGeneralize, StructuredInterchange, StructuredPack, TileUsingForall, SplitHandle, IteratorInterchange, PackedSizes, TileSizes}
use Rattle.text_format.specs.Numerals.{numeral}
use Rattle.text_format.specs.Pieces.{Piece, bytes_of}
use Rattle.text_format.specs.Writers.{Writer, each_of, commas, after_comma}
use Rattle.text_format.proofs.Written.{bytes_append}
use Rattle.script_read.specs.declared.script.HandleId.{HandleId}
use Rattle.script_read.specs.declared.script.PadArgs.{PadArgs}
use Rattle.script_read.specs.declared.script.StepKind.{StepKind}
use Rattle.script_read.specs.declared.script.StepKind.TheVariants as kinds
use Rattle.script_read.specs.declared.script.Step.{Step}
use Rattle.script_read.specs.declared.script.Script.{Script}
use Rattle.script_text.specs.declared.names.Row.{Row}
use Rattle.script_text.specs.Names.{name_in, start, rows_of, next_of}
use Rattle.script_text.specs.Texts.{numbers_text, list_text, value_text, values_text, quoted_text, quoted_texts, repeated, to_one_text, to_two_text, both_to_two_text, to_three_text, to_many_text, match_text, handle_text, sized_text, fuse_text, dims_text, multiples_text, pad_args_text, pad_text, vector_list_text, vectorize_text, split_text, generalize_text, pass_text, interchange_text, tile_for_text, tile_forall_text, pack_text, none_text, one_text, group_text, results_text, kind_text, step_text, new_line, steps_text, opening_text, closing_text, sequence_text}
use Rattle.script_text.specs.Steps.{signed_at, number_at, numbers_at, pad_value_at, quoted_at, to_any_pieces, to_one_pieces, to_two_pieces, both_to_two_pieces, to_three_pieces, next_types_at, group_types_at, handle_step_at, pass_step_at, match_step_at, sized_step_at, tiled_step_at, tile_for_step_at, fuse_step_at, multiples_at, pad_step_at, vectorize_step_at, one_at, group_step_at}
use Rattle.script_text.specs.Canonical.{none_at, line_at, lines_at, sequence_at}

-- ---- lists

signed_bytes : (v : ℤ) → bytes_of (signed_at v).pieces ≡ signed_decimal v
signed_bytes (pos n) = append-nil (decimal n)
signed_bytes (negsuc n) = ap (λ (t : List ℕ). 45 ∷ t) (append-nil (decimal (suc n)))

more_numbers : (ns : List ℕ) → bytes_of (each_of (map after_comma (map number_at ns))).pieces ≡ numbers_text (codes ", ") ns
more_numbers [] = refl
more_numbers (n ∷ ns) = ap (λ (t : List ℕ). codes ", " ++ (decimal n ++ t)) (more_numbers ns)

numbers_bytes : (ns : List ℕ) → bytes_of (commas (map number_at ns)).pieces ≡ numbers_text [] ns
numbers_bytes [] = refl
numbers_bytes (n ∷ ns) = ap (λ (t : List ℕ). decimal n ++ t) (more_numbers ns)

-- a list, and what comes behind it
list_bytes : (ns : List ℕ) (ps : List Piece) → bytes_of ((numbers_at ns).pieces ++ ps) ≡ list_text ns ++ bytes_of ps
unfolding list_text
list_bytes ns ps =
    bytes_append (numbers_at ns).pieces ps
    ∙ ap (λ (t : List ℕ). 91 ∷ t ++ bytes_of ps) (bytes_append (commas (map number_at ns)).pieces _ ∙ ap (λ (t : List ℕ). t ++ codes "]") (numbers_bytes ns))

list_alone : (ns : List ℕ) → bytes_of (numbers_at ns).pieces ≡ list_text ns
unfolding list_text
list_alone ns = ap (λ (t : List ℕ). 91 ∷ t) (bytes_append (commas (map number_at ns)).pieces _ ∙ ap (λ (t : List ℕ). t ++ codes "]") (numbers_bytes ns))

value_bytes : (v : ℤ × ℕ) → bytes_of (pad_value_at v).pieces ≡ value_text v.0 v.1
unfolding value_text
value_bytes v = bytes_append (signed_at v.0).pieces _ ∙ ap (λ (t : List ℕ). t ++ (codes " : i" ++ (decimal v.1 ++ []))) (signed_bytes v.0) ∙ ap (λ (t : List ℕ). signed_decimal v.0 ++ (codes " : i" ++ t)) (append-nil (decimal v.1))

more_values : (vs : List (ℤ × ℕ)) → bytes_of (each_of (map after_comma (map pad_value_at vs))).pieces ≡ values_text (codes ", ") vs
more_values [] = refl
more_values (v ∷ vs) = ap (λ (t : List ℕ). codes ", " ++ t) (bytes_append (pad_value_at v).pieces _ ∙ ap (λ (t : List ℕ). t ++ bytes_of (each_of (map after_comma (map pad_value_at vs))).pieces) (value_bytes v) ∙ ap (λ (t : List ℕ). value_text v.0 v.1 ++ t) (more_values vs))

values_bytes : (vs : List (ℤ × ℕ)) → bytes_of (commas (map pad_value_at vs)).pieces ≡ values_text [] vs
values_bytes [] = refl
values_bytes (v ∷ vs) = bytes_append (pad_value_at v).pieces _ ∙ ap (λ (t : List ℕ). t ++ bytes_of (each_of (map after_comma (map pad_value_at vs))).pieces) (value_bytes v) ∙ ap (λ (t : List ℕ). value_text v.0 v.1 ++ t) (more_values vs)

more_quoted : (ns : List (List ℕ)) → bytes_of (each_of (map after_comma (map quoted_at ns))).pieces ≡ quoted_texts (codes ", ") ns
unfolding quoted_text
more_quoted [] = refl
more_quoted (n ∷ ns) = ap (λ (t : List ℕ). codes ", " ++ (quoted_text n ++ t)) (more_quoted ns)

quoted_bytes : (ns : List (List ℕ)) → bytes_of (commas (map quoted_at ns)).pieces ≡ quoted_texts [] ns
unfolding quoted_text
quoted_bytes [] = refl
quoted_bytes (n ∷ ns) = ap (λ (t : List ℕ). quoted_text n ++ t) (more_quoted ns)

-- ---- steps, and what comes behind them

-- two parts
behind : (ps qs : List Piece) (t u : List ℕ) → bytes_of ps ≡ t → bytes_of qs ≡ u → bytes_of (ps ++ qs) ≡ t ++ u
behind ps qs t u e f = bytes_append ps qs ∙ ap (λ (x : List ℕ). x ++ bytes_of qs) e ∙ ap (λ (x : List ℕ). t ++ x) f

split_bytes : (rows : List Row) (h : HandleId) → bytes_of (handle_step_at SplitHandle rows h).pieces ≡ split_text rows h
unfolding split_text handle_text
split_bytes rows h = ap (λ (t : List ℕ). codes "transform.split_handle " ++ t) (append-nil (name_in rows h))

generalize_bytes : (rows : List Row) (h : HandleId) → bytes_of (handle_step_at StructuredGeneralize rows h).pieces ≡ generalize_text rows h
unfolding generalize_text handle_text
generalize_bytes rows h = ap (λ (t : List ℕ). codes "transform.structured.generalize " ++ t) (append-nil (name_in rows h))

pass_bytes : (rows : List Row) (h : HandleId) → bytes_of (pass_step_at rows h).pieces ≡ pass_text rows h
unfolding pass_text handle_text
pass_bytes rows h = ap (λ (t : List ℕ). codes "transform.apply_registered_pass \"linalg-fuse-elementwise-ops\" to " ++ t) (append-nil (name_in rows h))

interchange_bytes : (rows : List Row) (h : HandleId) (ns : List ℕ) → bytes_of (sized_step_at StructuredInterchange IteratorInterchange rows h ns).pieces ≡ interchange_text rows h ns
unfolding interchange_text sized_text
interchange_bytes rows h ns = ap (λ (t : List ℕ). codes "transform.structured.interchange " ++ (name_in rows h ++ (codes " iterator_interchange = " ++ t))) (list_alone ns)

pack_bytes : (rows : List Row) (h : HandleId) (ns : List ℕ) → bytes_of (sized_step_at StructuredPack PackedSizes rows h ns).pieces ≡ pack_text rows h ns
unfolding pack_text sized_text
pack_bytes rows h ns = ap (λ (t : List ℕ). codes "transform.structured.pack " ++ (name_in rows h ++ (codes " packed_sizes = " ++ t))) (list_alone ns)

tile_forall_bytes : (rows : List Row) (h : HandleId) (ns : List ℕ) → bytes_of (tiled_step_at TileUsingForall TileSizes rows h ns).pieces ≡ tile_forall_text rows h ns
unfolding tile_forall_text sized_text
tile_forall_bytes rows h ns = ap (λ (t : List ℕ). codes "transform.structured.tile_using_forall " ++ (name_in rows h ++ (codes " tile_sizes " ++ t))) (list_alone ns)

tile_for_bytes : (rows : List Row) (h : HandleId) (ns : List ℕ) → bytes_of (tile_for_step_at rows h ns).pieces ≡ tile_for_text rows h ns
unfolding tile_for_text sized_text
tile_for_bytes rows h ns = ap (λ (t : List ℕ). codes "transform.structured.tile_using_for " ++ (name_in rows h ++ (codes " tile_sizes " ++ t))) (list_alone ns)

fuse_bytes : (rows : List Row) (p h : HandleId) → bytes_of (fuse_step_at rows p h).pieces ≡ fuse_text rows p h
unfolding fuse_text
fuse_bytes rows p h = ap (λ (t : List ℕ). codes "transform.structured.fuse_into_containing_op " ++ (name_in rows p ++ (codes " into " ++ t))) (append-nil (name_in rows h))

match_bytes : (rows : List Row) (names : List (List ℕ)) (h : HandleId) → bytes_of (match_step_at rows names h).pieces ≡ match_text rows names h
unfolding match_text
match_bytes rows names h =
    ap (λ (t : List ℕ). codes "transform.structured.match ops{[" ++ t)
    (behind (commas (map quoted_at names)).pieces _ (quoted_texts [] names) (codes "]} in " ++ name_in rows h) (quoted_bytes names) (ap (λ (t : List ℕ). codes "]} in " ++ t) (append-nil (name_in rows h))))

multiples_bytes : (ns : List ℕ) → bytes_of (multiples_at ns).pieces ≡ codes "pad_to_multiple_of = " ++ (list_text ns ++ codes ",")
multiples_bytes ns = ap (λ (t : List ℕ). codes "pad_to_multiple_of = " ++ t) (list_bytes ns _)

pad_bytes : (rows : List Row) (h : HandleId) (a : PadArgs) → bytes_of (pad_step_at rows h a).pieces ≡ pad_text rows h a
unfolding pad_text pad_args_text dims_text multiples_text
pad_bytes rows h a =
    ap (λ (t : List ℕ). codes "transform.structured.pad " ++ (name_in rows h ++ (codes " {padding_values = [" ++ t)))
    (behind (commas (map pad_value_at a.values)).pieces _ (values_text [] a.values) (codes "], padding_dimensions = " ++ (list_text a.dims ++ (codes ", pad_to_multiple_of = " ++ (list_text a.multiples ++ codes ", copy_back_op = \"none\"}")))) (values_bytes a.values)
    (ap (λ (t : List ℕ). codes "], padding_dimensions = " ++ t)
    (list_bytes a.dims _ ∙ ap (λ (t : List ℕ). list_text a.dims ++ (codes ", " ++ t))
    (behind (multiples_at a.multiples).pieces _ (codes "pad_to_multiple_of = " ++ (list_text a.multiples ++ codes ",")) (codes " copy_back_op = \"none\"}") (multiples_bytes a.multiples) refl
    ∙ ap (λ (t : List ℕ). codes "pad_to_multiple_of = " ++ t) (append_assoc (list_text a.multiples) (codes ",") (codes " copy_back_op = \"none\"}")))))
    ∙ sym (append_assoc (values_text [] a.values) ((codes "], padding_dimensions = " ++ list_text a.dims) ++ (codes ", pad_to_multiple_of = " ++ list_text a.multiples)) (codes ", copy_back_op = \"none\"}")
    ∙ ap (λ (t : List ℕ). values_text [] a.values ++ t) (append_assoc (codes "], padding_dimensions = " ++ list_text a.dims) (codes ", pad_to_multiple_of = " ++ list_text a.multiples) (codes ", copy_back_op = \"none\"}"))))

vectorize_bytes : (rows : List Row) (h : HandleId) (sizes : Option (List ℕ)) → bytes_of (vectorize_step_at rows h sizes).pieces ≡ vectorize_text rows h sizes
unfolding vectorize_text vector_list_text
vectorize_bytes rows h None = refl
vectorize_bytes rows h (Some ns) =
    ap (λ (t : List ℕ). codes "transform.structured.vectorize " ++ (name_in rows h ++ (codes " vector_sizes " ++ t))) (list_bytes ns _)

-- ---- with their types

types_bytes : (n : ℕ) → bytes_of (each_of (next_types_at n)).pieces ≡ repeated n (codes ", !transform.any_op")
types_bytes zero = refl
types_bytes (suc n) = ap (λ (t : List ℕ). codes ", !transform.any_op" ++ t) (types_bytes n)

group_types_bytes : (n : ℕ) → bytes_of (group_types_at n).pieces ≡ codes " (!transform.any_op, !transform.any_op" ++ (repeated n (codes ", !transform.any_op") ++ codes ")")
group_types_bytes n = ap (λ (t : List ℕ). codes " (!transform.any_op, !transform.any_op" ++ t) (behind (each_of (next_types_at n)).pieces _ (repeated n (codes ", !transform.any_op")) (codes ")") (types_bytes n) refl)

many_bytes : (ps : List Piece) (t : List ℕ) (n : ℕ) → bytes_of ps ≡ t → bytes_of ((ps ++ to_any_pieces []) ++ (group_types_at n).pieces) ≡ t ++ to_many_text n
unfolding to_many_text
many_bytes ps t n e =
    behind (ps ++ to_any_pieces []) (group_types_at n).pieces (t ++ codes " : (!transform.any_op) ->") (codes " (!transform.any_op, !transform.any_op" ++ (repeated n (codes ", !transform.any_op") ++ codes ")"))
    (behind ps (to_any_pieces []) t (codes " : (!transform.any_op) ->") e refl) (group_types_bytes n)
    ∙ append_assoc t (codes " : (!transform.any_op) ->") (codes " (!transform.any_op, !transform.any_op" ++ (repeated n (codes ", !transform.any_op") ++ codes ")"))

one_bytes : (rows : List Row) (k : StepKind) → bytes_of (one_at rows k).pieces ≡ one_text rows k
unfolding to_one_text
one_bytes rows (kinds.Match names h) = behind (match_step_at rows names h).pieces to_one_pieces (match_text rows names h) to_one_text (match_bytes rows names h) refl
one_bytes rows (kinds.Split h) = behind (handle_step_at SplitHandle rows h).pieces to_one_pieces (split_text rows h) to_one_text (split_bytes rows h) refl
one_bytes rows (kinds.Generalize h) = behind (handle_step_at StructuredGeneralize rows h).pieces to_one_pieces (generalize_text rows h) to_one_text (generalize_bytes rows h) refl
one_bytes rows (kinds.Interchange h ns) = behind (sized_step_at StructuredInterchange IteratorInterchange rows h ns).pieces to_one_pieces (interchange_text rows h ns) to_one_text (interchange_bytes rows h ns) refl
one_bytes rows (kinds.TileFor h ns) = behind (tile_for_step_at rows h ns).pieces to_one_pieces (tile_for_text rows h ns) to_one_text (tile_for_bytes rows h ns) refl
one_bytes rows (kinds.Pack h ns) = behind (sized_step_at StructuredPack PackedSizes rows h ns).pieces to_one_pieces (pack_text rows h ns) to_one_text (pack_bytes rows h ns) refl
one_bytes rows (kinds.FuseElementwise h) = behind (pass_step_at rows h).pieces to_one_pieces (pass_text rows h) to_one_text (pass_bytes rows h) refl
one_bytes rows k = refl

group_bytes : (rows : List Row) (hs : List HandleId) (k : StepKind) → bytes_of (group_step_at rows (length hs) k).pieces ≡ group_text rows hs k
unfolding to_two_text both_to_two_text to_three_text
group_bytes rows hs (kinds.Split h) = many_bytes (handle_step_at SplitHandle rows h).pieces (split_text rows h) (length hs) (split_bytes rows h)
group_bytes rows hs (kinds.TileFor h ns) = many_bytes (tile_for_step_at rows h ns).pieces (tile_for_text rows h ns) (length hs) (tile_for_bytes rows h ns)
group_bytes rows hs (kinds.TileForall h ns) = behind (tiled_step_at TileUsingForall TileSizes rows h ns).pieces to_two_pieces (tile_forall_text rows h ns) to_two_text (tile_forall_bytes rows h ns) refl
group_bytes rows hs (kinds.FuseInto p h) = behind (fuse_step_at rows p h).pieces both_to_two_pieces (fuse_text rows p h) both_to_two_text (fuse_bytes rows p h) refl
group_bytes rows hs (kinds.Pad h a) = behind (pad_step_at rows h a).pieces to_three_pieces (pad_text rows h a) to_three_text (pad_bytes rows h a) refl
group_bytes rows hs k = refl

none_bytes : (rows : List Row) (k : StepKind) → bytes_of (none_at rows k).pieces ≡ none_text rows k
none_bytes rows (kinds.Vectorize h sizes) = vectorize_bytes rows h sizes
none_bytes rows k = refl

-- ---- lines

line_bytes : (rows : List Row) (n : ℕ) (hs : List HandleId) (k : StepKind) → bytes_of (line_at rows n hs k).pieces ≡ results_text n hs ++ kind_text rows hs k
line_bytes rows n [] k = none_bytes rows k
line_bytes rows n (h ∷ []) k = ap (λ (t : List ℕ). (codes "%" ++ decimal n) ++ (codes " = " ++ t)) (one_bytes rows k) ∙ sym (append_assoc (codes "%" ++ decimal n) (codes " = ") (one_text rows k))
line_bytes rows n (h ∷ (g ∷ hs)) k =
    let d = numeral (length (h ∷ (g ∷ hs))) in
    ap (λ (t : List ℕ). (codes "%" ++ decimal n) ++ (codes ":" ++ (numeral (length (h ∷ (g ∷ hs))) ++ (codes " = " ++ t)))) (group_bytes rows hs k)
    ∙ ap (λ (t : List ℕ). (codes "%" ++ decimal n) ++ (codes ":" ++ t)) (sym (append_assoc (numeral (length (h ∷ (g ∷ hs)))) (codes " = ") (group_text rows hs k)))
    ∙ sym (append_assoc (codes "%" ++ decimal n) (codes ":" ++ (numeral (length (h ∷ (g ∷ hs))) ++ codes " = ")) (group_text rows hs k))

lines_bytes : (depth : ℕ) (rows : List Row) (n : ℕ) (ss : List Step) → bytes_of (each_of (lines_at depth rows n ss)).pieces ≡ steps_text depth rows n ss
lines_bytes depth rows n [] = refl
lines_bytes depth rows n (s ∷ ss) =
    ap (λ (t : List ℕ). new_line depth ++ t) (behind (line_at rows n s.results s.kind).pieces _ (step_text rows n s) (steps_text depth (rows ++ rows_of n s.results) (next_of n s.results) ss) (line_bytes rows n s.results s.kind) (lines_bytes depth (rows ++ rows_of n s.results) (next_of n s.results) ss))

pub sequence_bytes : (depth : ℕ) (s : Script) → sequence_text depth s ≡ bytes_of (sequence_at depth s).pieces
unfolding opening_text closing_text
sequence_bytes depth s =
    sym (ap (λ (t : List ℕ). opening_text ++ t) (behind (each_of (lines_at (suc depth) (start s.root) 0 s.steps)).pieces _ (steps_text (suc depth) (start s.root) 0 s.steps) (closing_text depth) (lines_bytes (suc depth) (start s.root) 0 s.steps) refl))
