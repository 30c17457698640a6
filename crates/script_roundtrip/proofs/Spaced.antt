-- The pieces of a printable script's canonical text are well spaced.
use Rattle.std.proofs.Common.{◌≡◌, ◌<◌, ◌≤◌, ◌^◌, ◌==◌, ℕ, zero, suc, ◌+◌, ◌-◌, Bool, true, false, ◌||◌, List, [], ◌∷◌, ◌++◌, map, length, Option, Some, None, refl, sym, ap, subst, ◌∙◌, inl, inr, ◌⊎◌, arith, codes, decimal, nat_le}
use Rattle.std.specs.Prelude.{ℤ, pos, negsuc}
use Rattle.std.specs.Str.{bytes_eq}
use Rattle.std.specs.List.{AllByRecursion, list_all, list_any}
use Rattle.std.proofs.lemmas.Bool.{and_parts, ne_eqb, leb-true}
use Rattle.std.proofs.lemmas.Slice.Eq.{bytes_eq-Decides}
use Rattle.std.proofs.Math.Pow.{pow_mono}
use Rattle.std.proofs.Math.Nat.{one-le-pow}
use Rattle.text_format.specs.declared.class.Class.{Class}
use Rattle.text_format.specs.declared.class.Class.TheVariants as classes
use Rattle.text_format.specs.declared.class.Position.TheVariants as places
use Rattle.text_format.specs.declared.front.Kind.TheVariants.{Value, Number, Word, Mark, Quoted}
use Rattle.text_format.specs.declared.front.ByteClass.TheVariants.{Digit, Printable}
use Rattle.text_format.specs.declared.lexeme.Lexeme.{Lexeme}
use Rattle.text_format.specs.declared.lexeme.Lexeme.TheVariants as lexemes
use Rattle.text_format.specs.Lexemes.{lexeme_kind, lexeme_text}
use Rattle.text_format.specs.Bytes.{is_blank, is_digit, belongs}
use Rattle.text_format.specs.Pieces.{Piece, Gap, Fixed, Leaf, bytes_of}
use Rattle.text_format.specs.Writers.{Writer, each_of, commas}
use Rattle.text_format.proofs.Spacing.{all_in, IsName, IsApart, Opens, value_name, result_name, result_part_name, integer_type_name, decimal_name, decimal_some, decimal_in_digits, numeral_name, number_name, minus_ends, quoted_closed, is_minus, lexeme_name, none_apart, none_opens, gap_apart, space, fixed_closed, fixed_word, leaf_name, leaf_closed, append_apart, append_opens, space_opens, fixed_opens, leaf_opens}
use Rattle.text_format.proofs.Written.{AreApart, AreOpen, each_apart, commas_apart}
use Rattle.script_read.specs.declared.script.HandleId.{HandleId}
use Rattle.script_read.specs.declared.script.PadArgs.{PadArgs}
use Rattle.script_read.specs.declared.script.StepKind.{StepKind}
use Rattle.script_read.specs.declared.script.StepKind.TheVariants as kinds
use Rattle.script_read.specs.declared.script.Step.{Step}
use Rattle.script_read.specs.declared.script.Script.{Script}
use Rattle.script_read.specs.Kinds.{match_words, match_arith_words, is_match_name}
use Rattle.script_text.specs.declared.names.Given.{Given}
use Rattle.script_text.specs.declared.names.Given.TheVariants.{Root, Single, Part}
use Rattle.script_text.specs.declared.names.Row.{Row}
use Rattle.script_text.specs.Names.{given_text, name_or, name_in, start, rows_of, next_of}
use Rattle.script_text.specs.Texts.{repeated, new_line}
use Rattle.script_text.specs.Steps.{signed_at, number_at, numbers_at, pad_value_at, quoted_at, next_type_at, next_types_at, group_types_at, handle_step_at, pass_step_at, match_step_at, sized_step_at, tiled_step_at, tile_for_step_at, fuse_step_at, multiples_at, pad_step_at, vectorize_step_at, one_at, group_step_at, to_any_pieces, to_one_pieces, to_two_pieces, both_to_two_pieces, to_three_pieces, any_op_pieces, no_copy_pieces}
use Rattle.script_text.specs.Canonical.{none_at, line_at, lines_at, sequence_at}
use Rattle.script_roundtrip.specs.Printable.{IsDefined, AreSizes, IsLiteral, IsPadValue, ArePadArgs, AreVectorSizes, IsPrintableKind, HasResults, ArePrintable, IsPrintable}
use Rattle.script_roundtrip.proofs.Rows.{IsSmall, AreSmall, look_small, small_append, rows_small}
use Rattle.script_roundtrip.proofs.Fitting.{next_small}

-- ---- names, numbers and quoted texts

root_name : IsName Value (codes "%arg0")
root_name = value_name (codes "arg0") (omega arith) refl

given_name : (g : Given) → IsSmall g → IsName Value (given_text g)
given_name Root s = root_name
given_name (Single n) s = result_name n s
given_name (Part n k) s = result_part_name n k s

handle_name : (rows : List Row) (h : HandleId) → AreSmall rows → IsDefined rows h → IsName Value (name_in rows h)
handle_name rows h s d = subst (λ o. IsName Value (name_or o)) (sym d.1) (given_name d.0.name (look_small rows h.0 d.0 s d.1))

-- a handle at the end
handle_end : (rows : List Row) (h : HandleId) → AreSmall rows → IsDefined rows h → IsApart (Leaf classes.Value Value (name_in rows h) ∷ [])
handle_end rows h s d = leaf_name classes.Value (handle_name rows h s d) none_opens none_apart

-- and a space behind it
handle_apart : (rows : List Row) (h : HandleId) {ps : List Piece} → AreSmall rows → IsDefined rows h → IsApart ps → IsApart (Leaf classes.Value Value (name_in rows h) ∷ Gap (codes " ") ∷ ps)
handle_apart rows h s d a = leaf_name classes.Value (handle_name rows h s d) space_opens (space a)

-- a fixed word that the tree keeps, and a space behind it
word_apart : (c : Class) (l : Lexeme) {ps : List Piece} → is_minus l ≡ false → IsApart ps → IsApart (Leaf c (lexeme_kind l) (lexeme_text l) ∷ Gap (codes " ") ∷ ps)
word_apart c l e a = leaf_name c (lexeme_name l e) space_opens (space a)

-- a fixed word
fixed_apart : (l : Lexeme) {ps : List Piece} → is_minus l ≡ false → IsApart ps → IsApart (Fixed l ∷ Gap (codes " ") ∷ ps)
fixed_apart l e a = fixed_word l e space_opens (space a)

not_greater : (d : ℕ) → is_digit d ≡ true → (d == 62) ≡ false
not_greater d h = let hi : d ≤ 57 = leb-true d 57 (and_parts (nat_le 48 d) (nat_le d 57) h).1 in ne_eqb d 62 (λ e. absurd (omega (arith, e, hi)))

minus_apart : (c k : Class) (ds : List ℕ) → 0 < length ds → all_in Digit ds ≡ true → IsApart (Leaf c Mark (codes "-") ∷ Leaf k Number ds ∷ [])
minus_apart c k [] some a = absurd (omega arith)
minus_apart c k (d ∷ ds) some a =
    let n = leaf_name k (number_name (d ∷ ds) some a) none_opens none_apart in
    record { spaced = λ rest s. (minus_ends d ((ds ++ []) ++ rest) (not_greater d (and_parts (belongs Digit d) (all_in Digit ds) a).0), n.spaced rest s) }

abbrev IsSmallNumber : ℤ → Type 0
IsSmallNumber (pos n) = n < 2 ^ 64
IsSmallNumber (negsuc n) = suc n < 2 ^ 64

signed_apart : (v : ℤ) → IsSmallNumber v → IsApart (signed_at v).pieces
signed_apart (pos n) s = leaf_name classes.Number (decimal_name n s) none_opens none_apart
signed_apart (negsuc n) s = minus_apart (classes.Exactly lexemes.Minus) classes.Number (decimal (suc n)) (decimal_some (suc n) s) (decimal_in_digits (suc n) s)

signeds_apart : (ns : List ℕ) → AreSizes ns → AreApart (map number_at ns)
signeds_apart [] p = tt
signeds_apart (n ∷ ns) p = (signed_apart (pos n) (omega (arith, p.0)), signeds_apart ns p.1)

-- a list, and what opens behind it
numbers_apart : (ns : List ℕ) → AreSizes ns → IsApart (numbers_at ns).pieces
numbers_apart ns p =
    fixed_closed lexemes.OpenBracket refl (append_apart (commas (map number_at ns)).pieces (Fixed lexemes.CloseBracket ∷ []) (commas_apart (map number_at ns) (signeds_apart ns p)) (fixed_opens lexemes.CloseBracket refl) (fixed_closed lexemes.CloseBracket refl none_apart))

literal_small : (v : ℤ) (w : ℕ) → w ≤ 64 → IsLiteral v w → IsSmallNumber v
literal_small (pos n) w s l = let p : 2 ^ w ≤ 2 ^ 64 = pow_mono s in omega (arith, l, one-le-pow w 2 (omega arith))
literal_small (negsuc n) w s l = let q : w - 1 ≤ 63 = omega arith in let p : 2 ^ (w - 1) ≤ 2 ^ 63 = pow_mono q in omega (arith, l)

pad_value_apart : (v : ℤ × ℕ) → IsPadValue v → IsApart (pad_value_at v).pieces
pad_value_apart v p =
    append_apart (signed_at v.0).pieces _ (signed_apart v.0 (literal_small v.0 v.1 p.1 p.2)) space_opens
    (space (fixed_closed lexemes.Colon refl (space (leaf_name classes.IntegerType (integer_type_name v.1 (omega (arith, p.1))) none_opens none_apart))))

pad_values_apart : (vs : List (ℤ × ℕ)) → AllByRecursion IsPadValue vs → AreApart (map pad_value_at vs)
pad_values_apart [] p = tt
pad_values_apart (v ∷ vs) p = (pad_value_apart v p.0, pad_values_apart vs p.1)

either_true : (b c : Bool) → b || c ≡ true → (b ≡ true) ⊎ (c ≡ true)
either_true true c h = inl refl
either_true false c h = inr h

listed : (ws : List (List ℕ)) (text : List ℕ) → list_all (all_in Printable) ws ≡ true → list_any (bytes_eq text) ws ≡ true → all_in Printable text ≡ true
listed [] text a e = absurd (cc e)
listed (w ∷ ws) text a e =
    let p = and_parts (all_in Printable w) (list_all (all_in Printable) ws) a in
    elim (either_true (bytes_eq text w) (list_any (bytes_eq text) ws) e) [
      | inl h ↦ ap (all_in Printable) ((bytes_eq-Decides text w).0 h) ∙ p.0
      | inr h ↦ listed ws text p.1 h
    ]

name_printable : (n : List ℕ) → is_match_name n ≡ true → all_in Printable n ≡ true
name_printable n h =
    elim (either_true (list_any (bytes_eq n) match_words) (list_any (bytes_eq n) match_arith_words) h) [
      | inl a ↦ listed match_words n refl a
      | inr a ↦ listed match_arith_words n refl a
    ]

quoteds_apart : (ns : List (List ℕ)) → AllByRecursion (λ n. is_match_name n ≡ true) ns → AreApart (map quoted_at ns)
quoteds_apart [] p = tt
quoteds_apart (n ∷ ns) p = (leaf_closed classes.Quoted (quoted_closed n (name_printable n p.0)) none_apart, quoteds_apart ns p.1)

-- ---- types

any_op_apart : {ps : List Piece} → Opens ps → IsApart ps → IsApart (Fixed lexemes.AnyOp ∷ ps)
any_op_apart o a = fixed_word lexemes.AnyOp refl o a

close_apart : {ps : List Piece} → IsApart ps → IsApart (Fixed lexemes.CloseParenthesis ∷ ps)
close_apart a = fixed_closed lexemes.CloseParenthesis refl a

-- , !transform.any_op
type_apart : {ps : List Piece} → Opens ps → IsApart ps → IsApart (Fixed lexemes.Comma ∷ Gap (codes " ") ∷ Fixed lexemes.AnyOp ∷ ps)
type_apart o a = fixed_closed lexemes.Comma refl (space (any_op_apart o a))

comma_opens : {ps : List Piece} → Opens (Fixed lexemes.Comma ∷ ps)
comma_opens = fixed_opens lexemes.Comma refl

close_opens : {ps : List Piece} → Opens (Fixed lexemes.CloseParenthesis ∷ ps)
close_opens = fixed_opens lexemes.CloseParenthesis refl

to_any_apart : {ps : List Piece} → IsApart ps → IsApart (to_any_pieces ps)
to_any_apart a = space (fixed_closed lexemes.Colon refl (space (fixed_closed lexemes.OpenParenthesis refl (any_op_apart close_opens (close_apart (space (fixed_closed lexemes.Arrow refl a)))))))

-- (!transform.any_op, !transform.any_op
open_apart : {ps : List Piece} → Opens ps → IsApart ps → IsApart (Gap (codes " ") ∷ Fixed lexemes.OpenParenthesis ∷ Fixed lexemes.AnyOp ∷ Fixed lexemes.Comma ∷ Gap (codes " ") ∷ Fixed lexemes.AnyOp ∷ ps)
open_apart o a = space (fixed_closed lexemes.OpenParenthesis refl (any_op_apart comma_opens (type_apart o a)))

to_one_apart : IsApart to_one_pieces
to_one_apart = to_any_apart (space (any_op_apart none_opens none_apart))

to_two_apart : IsApart to_two_pieces
to_two_apart = to_any_apart (open_apart close_opens (close_apart none_apart))

both_to_two_apart : IsApart both_to_two_pieces
both_to_two_apart = space (fixed_closed lexemes.Colon refl (space (fixed_closed lexemes.OpenParenthesis refl (any_op_apart comma_opens (type_apart close_opens (close_apart (space (fixed_closed lexemes.Arrow refl (open_apart close_opens (close_apart none_apart))))))))))

to_three_apart : IsApart to_three_pieces
to_three_apart = to_any_apart (open_apart comma_opens (type_apart close_opens (close_apart none_apart)))

-- a step, and its types
typed_apart : (ps qs : List Piece) → IsApart ps → IsApart (Gap (codes " ") ∷ qs) → IsApart (ps ++ Gap (codes " ") ∷ qs)
typed_apart ps qs a b = append_apart ps (Gap (codes " ") ∷ qs) a space_opens b

next_comma_opens : {ps : List Piece} → Opens (Leaf (classes.Exactly lexemes.Comma) (lexeme_kind lexemes.Comma) (lexeme_text lexemes.Comma) ∷ ps)
next_comma_opens = leaf_opens (classes.Exactly lexemes.Comma) (lexeme_kind lexemes.Comma) (lexeme_text lexemes.Comma) refl

next_type_apart : IsApart next_type_at.pieces
next_type_apart = leaf_name (classes.Exactly lexemes.Comma) (lexeme_name lexemes.Comma refl) space_opens (space (any_op_apart none_opens none_apart))

types_apart : (n : ℕ) → AreApart (next_types_at n) × AreOpen (next_types_at n)
types_apart zero = (tt, tt)
types_apart (suc n) = let r = types_apart n in ((next_type_apart, r.0), (next_comma_opens, r.1))

abbrev close_piece : List Piece
close_piece = Leaf (classes.Exactly lexemes.CloseParenthesis) (lexeme_kind lexemes.CloseParenthesis) (lexeme_text lexemes.CloseParenthesis) ∷ []

close_piece_opens : Opens close_piece
close_piece_opens = leaf_opens (classes.Exactly lexemes.CloseParenthesis) (lexeme_kind lexemes.CloseParenthesis) (lexeme_text lexemes.CloseParenthesis) refl

group_types_apart : (n : ℕ) → IsApart (group_types_at n).pieces
group_types_apart n =
    let r = types_apart n in
    let e = each_apart (next_types_at n) r.0 r.1 in
    let c = leaf_name (classes.Exactly lexemes.CloseParenthesis) (lexeme_name lexemes.CloseParenthesis refl) none_opens none_apart in
    open_apart (append_opens (each_of (next_types_at n)).pieces close_piece e.1 close_piece_opens) (append_apart (each_of (next_types_at n)).pieces close_piece e.0 close_piece_opens c)

-- ---- steps

handle_step_apart : (l : Lexeme) (rows : List Row) (h : HandleId) → is_minus l ≡ false → AreSmall rows → IsDefined rows h → IsApart (handle_step_at l rows h).pieces
handle_step_apart l rows h e s d = word_apart _ l e (handle_end rows h s d)

pass_apart : (rows : List Row) (h : HandleId) → AreSmall rows → IsDefined rows h → IsApart (pass_step_at rows h).pieces
pass_apart rows h s d = word_apart _ lexemes.ApplyRegisteredPass refl (fixed_apart lexemes.FuseElementwiseOps refl (fixed_apart lexemes.To refl (handle_end rows h s d)))

match_apart : (rows : List Row) (names : List (List ℕ)) (h : HandleId) → AreSmall rows → AllByRecursion (λ n. is_match_name n ≡ true) names → IsDefined rows h → IsApart (match_step_at rows names h).pieces
match_apart rows names h s p d =
    word_apart _ lexemes.StructuredMatch refl (fixed_word lexemes.Ops refl (fixed_opens lexemes.OpenBrace refl) (fixed_closed lexemes.OpenBrace refl (fixed_closed lexemes.OpenBracket refl
    (append_apart (commas (map quoted_at names)).pieces _ (commas_apart (map quoted_at names) (quoteds_apart names p)) (fixed_opens lexemes.CloseBracket refl)
    (fixed_closed lexemes.CloseBracket refl (fixed_closed lexemes.CloseBrace refl (space (fixed_apart lexemes.In refl (handle_end rows h s d)))))))))

sized_apart : (l word : Lexeme) (rows : List Row) (h : HandleId) (ns : List ℕ) → is_minus l ≡ false → is_minus word ≡ false → AreSmall rows → IsDefined rows h → AreSizes ns → IsApart (sized_step_at l word rows h ns).pieces
sized_apart l word rows h ns e f s d p = word_apart _ l e (handle_apart rows h s d (fixed_apart word f (fixed_closed lexemes.Equals refl (space (numbers_apart ns p)))))

tiled_apart : (l word : Lexeme) (rows : List Row) (h : HandleId) (ns : List ℕ) → is_minus l ≡ false → is_minus word ≡ false → AreSmall rows → IsDefined rows h → AreSizes ns → IsApart (tiled_step_at l word rows h ns).pieces
tiled_apart l word rows h ns e f s d p = word_apart _ l e (handle_apart rows h s d (fixed_apart word f (numbers_apart ns p)))

tile_for_apart : (rows : List Row) (h : HandleId) (ns : List ℕ) → AreSmall rows → IsDefined rows h → AreSizes ns → IsApart (tile_for_step_at rows h ns).pieces
tile_for_apart rows h ns s d p = word_apart _ lexemes.TileUsingFor refl (handle_apart rows h s d (word_apart _ lexemes.TileSizes refl (numbers_apart ns p)))

fuse_apart : (rows : List Row) (q h : HandleId) → AreSmall rows → IsDefined rows q → IsDefined rows h → IsApart (fuse_step_at rows q h).pieces
fuse_apart rows q h s d e = word_apart _ lexemes.FuseIntoContainingOp refl (handle_apart rows q s d (fixed_apart lexemes.Into refl (handle_end rows h s e)))

no_copy_apart : IsApart no_copy_pieces
no_copy_apart = space (fixed_apart lexemes.CopyBackOp refl (fixed_closed lexemes.Equals refl (space (fixed_closed lexemes.QuotedNone refl (fixed_closed lexemes.CloseBrace refl none_apart)))))

multiples_apart : (ns : List ℕ) → AreSizes ns → IsApart (multiples_at ns).pieces
multiples_apart ns p =
    fixed_apart lexemes.PadToMultipleOf refl (fixed_closed lexemes.Equals refl (space (append_apart (numbers_at ns).pieces (Fixed lexemes.Comma ∷ []) (numbers_apart ns p) comma_opens (fixed_closed lexemes.Comma refl none_apart))))

pad_apart : (rows : List Row) (h : HandleId) (a : PadArgs) → AreSmall rows → IsDefined rows h → ArePadArgs a → IsApart (pad_step_at rows h a).pieces
pad_apart rows h a s d p =
    word_apart _ lexemes.StructuredPad refl (handle_apart rows h s d (fixed_closed lexemes.OpenBrace refl (fixed_apart lexemes.PaddingValues refl (fixed_closed lexemes.Equals refl (space (fixed_closed lexemes.OpenBracket refl
    (append_apart (commas (map pad_value_at a.values)).pieces _ (commas_apart (map pad_value_at a.values) (pad_values_apart a.values p.values)) (fixed_opens lexemes.CloseBracket refl)
    (fixed_closed lexemes.CloseBracket refl (fixed_closed lexemes.Comma refl (space (fixed_apart lexemes.PaddingDimensions refl (fixed_closed lexemes.Equals refl (space
    (append_apart (numbers_at a.dims).pieces _ (numbers_apart a.dims p.dims) comma_opens (fixed_closed lexemes.Comma refl (space
    (append_apart (multiples_at a.multiples).pieces no_copy_pieces (multiples_apart a.multiples p.multiples) space_opens no_copy_apart)))))))))))))))))

any_op_pieces_apart : IsApart any_op_pieces
any_op_pieces_apart = space (fixed_closed lexemes.Colon refl (space (any_op_apart none_opens none_apart)))

vectorize_apart : (rows : List Row) (h : HandleId) (sizes : Option (List ℕ)) → AreSmall rows → IsDefined rows h → AreVectorSizes sizes → IsApart (vectorize_step_at rows h sizes).pieces
vectorize_apart rows h None s d p = word_apart _ lexemes.StructuredVectorize refl (handle_apart rows h s d (fixed_closed lexemes.Colon refl (space (any_op_apart none_opens none_apart))))
vectorize_apart rows h (Some ns) s d p =
    word_apart _ lexemes.StructuredVectorize refl (handle_apart rows h s d (fixed_apart lexemes.VectorSizes refl (append_apart (numbers_at ns).pieces any_op_pieces (numbers_apart ns p) space_opens any_op_pieces_apart)))

one_apart : (rows : List Row) (k : StepKind) → AreSmall rows → HasResults k 1 → IsPrintableKind rows k → IsApart (one_at rows k).pieces
one_apart rows (kinds.Match names h) s e p = typed_apart (match_step_at rows names h).pieces _ (match_apart rows names h s p.0 p.1) to_one_apart
one_apart rows (kinds.Split h) s e p = typed_apart (handle_step_at lexemes.SplitHandle rows h).pieces _ (handle_step_apart lexemes.SplitHandle rows h refl s p) to_one_apart
one_apart rows (kinds.Generalize h) s e p = typed_apart (handle_step_at lexemes.StructuredGeneralize rows h).pieces _ (handle_step_apart lexemes.StructuredGeneralize rows h refl s p) to_one_apart
one_apart rows (kinds.Interchange h ns) s e p = typed_apart (sized_step_at lexemes.StructuredInterchange lexemes.IteratorInterchange rows h ns).pieces _ (sized_apart lexemes.StructuredInterchange lexemes.IteratorInterchange rows h ns refl refl s p.0 p.1) to_one_apart
one_apart rows (kinds.TileFor h ns) s e p = typed_apart (tile_for_step_at rows h ns).pieces _ (tile_for_apart rows h ns s p.0 p.1) to_one_apart
one_apart rows (kinds.Pack h ns) s e p = typed_apart (sized_step_at lexemes.StructuredPack lexemes.PackedSizes rows h ns).pieces _ (sized_apart lexemes.StructuredPack lexemes.PackedSizes rows h ns refl refl s p.0 p.1) to_one_apart
one_apart rows (kinds.FuseElementwise h) s e p = typed_apart (pass_step_at rows h).pieces _ (pass_apart rows h s p) to_one_apart
one_apart rows (kinds.TileForall h ns) s e p = absurd (omega (arith, e))
one_apart rows (kinds.FuseInto q h) s e p = absurd (omega (arith, e))
one_apart rows (kinds.Pad h a) s e p = absurd (omega (arith, e))
one_apart rows (kinds.Vectorize h ns) s e p = absurd (omega (arith, e))

many_apart : (ps : List Piece) (n : ℕ) → IsApart ps → IsApart ((ps ++ to_any_pieces []) ++ (group_types_at n).pieces)
many_apart ps n a = append_apart (ps ++ to_any_pieces []) (group_types_at n).pieces (append_apart ps (to_any_pieces []) a space_opens (to_any_apart none_apart)) space_opens (group_types_apart n)

group_apart : (rows : List Row) (n : ℕ) (k : StepKind) → AreSmall rows → HasResults k (suc (suc n)) → IsPrintableKind rows k → IsApart (group_step_at rows n k).pieces
group_apart rows n (kinds.Split h) s e p = many_apart (handle_step_at lexemes.SplitHandle rows h).pieces n (handle_step_apart lexemes.SplitHandle rows h refl s p)
group_apart rows n (kinds.TileFor h ns) s e p = many_apart (tile_for_step_at rows h ns).pieces n (tile_for_apart rows h ns s p.0 p.1)
group_apart rows n (kinds.TileForall h ns) s e p = typed_apart (tiled_step_at lexemes.TileUsingForall lexemes.TileSizes rows h ns).pieces _ (tiled_apart lexemes.TileUsingForall lexemes.TileSizes rows h ns refl refl s p.0 p.1) to_two_apart
group_apart rows n (kinds.FuseInto q h) s e p = typed_apart (fuse_step_at rows q h).pieces _ (fuse_apart rows q h s p.0 p.1) both_to_two_apart
group_apart rows n (kinds.Pad h a) s e p = typed_apart (pad_step_at rows h a).pieces _ (pad_apart rows h a s p.0 p.1) to_three_apart
group_apart rows n (kinds.Match names h) s e p = absurd (omega (arith, e))
group_apart rows n (kinds.Generalize h) s e p = absurd (omega (arith, e))
group_apart rows n (kinds.Interchange h ns) s e p = absurd (omega (arith, e))
group_apart rows n (kinds.Pack h ns) s e p = absurd (omega (arith, e))
group_apart rows n (kinds.Vectorize h ns) s e p = absurd (omega (arith, e))
group_apart rows n (kinds.FuseElementwise h) s e p = absurd (omega (arith, e))

none_result_apart : (rows : List Row) (k : StepKind) → AreSmall rows → HasResults k 0 → IsPrintableKind rows k → IsApart (none_at rows k).pieces
none_result_apart rows (kinds.Vectorize h ns) s e p = vectorize_apart rows h ns s p.0 p.1
none_result_apart rows (kinds.Match names h) s e p = absurd (omega (arith, e))
none_result_apart rows (kinds.Split h) s e p = absurd (omega (arith, e))
none_result_apart rows (kinds.Generalize h) s e p = absurd (omega (arith, e))
none_result_apart rows (kinds.Interchange h ns) s e p = absurd (omega (arith, e))
none_result_apart rows (kinds.TileFor h ns) s e p = absurd (omega (arith, e))
none_result_apart rows (kinds.TileForall h ns) s e p = absurd (omega (arith, e))
none_result_apart rows (kinds.FuseInto q h) s e p = absurd (omega (arith, e))
none_result_apart rows (kinds.Pad h a) s e p = absurd (omega (arith, e))
none_result_apart rows (kinds.Pack h ns) s e p = absurd (omega (arith, e))
none_result_apart rows (kinds.FuseElementwise h) s e p = absurd (omega (arith, e))

-- ---- lines

line_apart : (rows : List Row) (n : ℕ) (hs : List HandleId) (k : StepKind) → AreSmall rows → n < 2 ^ 64 → HasResults k (length hs) → IsPrintableKind rows k → IsApart (line_at rows n hs k).pieces
line_apart rows n [] k s m e p = none_result_apart rows k s e p
line_apart rows n (h ∷ []) k s m e p =
    leaf_name (classes.NewValueAt places.ScriptStatement) (result_name n m) space_opens (space (fixed_closed lexemes.Equals refl (space (one_apart rows k s e p))))
line_apart rows n (h ∷ (g ∷ hs)) k s m e p =
    leaf_name (classes.NewValueAt places.ScriptStatement) (result_name n m) (fixed_opens lexemes.Colon refl) (fixed_closed lexemes.Colon refl
    (leaf_name classes.Number (numeral_name (length (h ∷ (g ∷ hs)))) space_opens (space (fixed_closed lexemes.Equals refl (space (group_apart rows (length hs) k s e p))))))

blanks : (depth : ℕ) → AllByRecursion (λ b. is_blank b ≡ true) (repeated depth (codes "  "))
blanks zero = tt
blanks (suc depth) = (refl, (refl, blanks depth))

new_line_apart : (depth : ℕ) {ps : List Piece} → IsApart ps → IsApart (Gap (new_line depth) ∷ ps)
unfolding new_line
new_line_apart depth a = gap_apart (refl, blanks depth) a

new_line_opens : (depth : ℕ) {ps : List Piece} → Opens (Gap (new_line depth) ∷ ps)
unfolding new_line
new_line_opens depth = record { opens = λ rest s. refl }

lines_apart : (depth : ℕ) (rows : List Row) (n : ℕ) (ss : List Step) → AreSmall rows → n + length ss < 2 ^ 64 → ArePrintable rows n ss → AreApart (lines_at depth rows n ss) × AreOpen (lines_at depth rows n ss)
lines_apart depth rows n [] s m p = (tt, tt)
lines_apart depth rows n (x ∷ ss) s m p =
    let small : n < 2 ^ 64 = omega arith in
    let r = lines_apart depth (rows ++ rows_of n x.results) (next_of n x.results) ss (small_append rows (rows_of n x.results) s (rows_small n x.results small)) (next_small n x.results (length ss) m) p.1 in
    ((new_line_apart depth (line_apart rows n x.results x.kind s small p.0.count p.0.kind), r.0), (new_line_opens depth, r.1))

pub sequence_apart : (depth : ℕ) (s : Script) → IsPrintable s → IsApart (sequence_at depth s).pieces
sequence_apart depth s p =
    let r = lines_apart (suc depth) (start s.root) 0 s.steps (tt, tt) (omega (arith, p.few)) p.steps in
    let e = each_apart (lines_at (suc depth) (start s.root) 0 s.steps) r.0 r.1 in
    word_apart _ lexemes.NamedSequence refl (fixed_word lexemes.TransformMain refl (fixed_opens lexemes.OpenParenthesis refl) (fixed_closed lexemes.OpenParenthesis refl
    (leaf_name classes.NewValue root_name (fixed_opens lexemes.Colon refl) (fixed_closed lexemes.Colon refl (space (fixed_apart lexemes.AnyOp refl (fixed_closed lexemes.OpenBrace refl
    (fixed_word lexemes.Readonly refl (fixed_opens lexemes.CloseBrace refl) (fixed_closed lexemes.CloseBrace refl (close_apart (space (fixed_closed lexemes.OpenBrace refl
    (append_apart (each_of (lines_at (suc depth) (start s.root) 0 s.steps)).pieces _ e.0 (new_line_opens (suc depth))
    (new_line_apart (suc depth) (leaf_name (classes.Name places.ScriptStatement lexemes.TransformYield) (lexeme_name lexemes.TransformYield refl) (new_line_opens depth) (new_line_apart depth (fixed_closed lexemes.CloseBrace refl none_apart)))))))))))))))))
