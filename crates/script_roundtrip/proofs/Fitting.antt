-- Each token of a printable script's canonical text is of the class that the grammar wants there.
use Rattle.std.proofs.Common.{◌≡◌, ◌<◌, ◌≤◌, ◌^◌, ℕ, zero, suc, ◌+◌, true, List, [], ◌∷◌, ◌++◌, map, length, Option, Some, None, refl, ap, ◌∙◌, arith}
use Rattle.std.specs.Prelude.{ℤ, pos, negsuc}
use Rattle.std.specs.List.{AllByRecursion}
use Rattle.text_format.specs.declared.lexeme.Lexeme.TheVariants as lexemes
use Rattle.text_format.specs.Types.{is_some}
use Rattle.text_format.specs.Pieces.{Piece, Fixed, Gap}
use Rattle.text_format.specs.Writers.{Writer, each_of, commas}
use Rattle.text_format.proofs.Written.{LeavesFit, both_fit, AreFit, each_fit, commas_fit}
use Rattle.script_read.specs.declared.script.HandleId.{HandleId}
use Rattle.script_read.specs.declared.script.PadArgs.{PadArgs}
use Rattle.script_read.specs.declared.script.StepKind.{StepKind}
use Rattle.script_read.specs.declared.script.StepKind.TheVariants as kinds
use Rattle.script_read.specs.declared.script.Step.{Step}
use Rattle.script_read.specs.declared.script.Script.{Script}
use Rattle.script_text.specs.declared.names.Row.{Row}
use Rattle.script_text.specs.Names.{start, rows_of, next_of}
use Rattle.script_text.specs.Texts.{new_line}
use Rattle.script_text.specs.Steps.{signed_at, number_at, numbers_at, pad_value_at, quoted_at, next_types_at, group_types_at, handle_step_at, pass_step_at, match_step_at, sized_step_at, tiled_step_at, tile_for_step_at, fuse_step_at, multiples_at, pad_step_at, vectorize_step_at, one_at, group_step_at, to_any_pieces, to_one_pieces, to_two_pieces, both_to_two_pieces, to_three_pieces, any_op_pieces, no_copy_pieces}
use Rattle.script_text.specs.Canonical.{none_at, line_at, lines_at, sequence_at}
use Rattle.script_roundtrip.specs.Printable.{IsPadValue, ArePadArgs, IsPrintableKind, ArePrintable, IsPrintable}
use Rattle.script_roundtrip.proofs.Rows.{new_name, width_read}

signed_fits : (v : ℤ) → LeavesFit (signed_at v).pieces
signed_fits (pos n) = (refl, tt)
signed_fits (negsuc n) = (refl, (refl, tt))

signeds_fit : (ns : List ℕ) → AreFit (map number_at ns)
signeds_fit [] = tt
signeds_fit (n ∷ ns) = ((refl, tt), signeds_fit ns)

numbers_fit : (ns : List ℕ) → LeavesFit (numbers_at ns).pieces
numbers_fit ns = both_fit (commas (map number_at ns)).pieces (Fixed lexemes.CloseBracket ∷ []) (commas_fit (map number_at ns) (signeds_fit ns)) tt

pad_value_fits : (v : ℤ × ℕ) → IsPadValue v → LeavesFit (pad_value_at v).pieces
pad_value_fits v p = both_fit (signed_at v.0).pieces _ (signed_fits v.0) (ap is_some (width_read v.1 p.0 p.1), tt)

pad_values_fit : (vs : List (ℤ × ℕ)) → AllByRecursion IsPadValue vs → AreFit (map pad_value_at vs)
pad_values_fit [] p = tt
pad_values_fit (v ∷ vs) p = (pad_value_fits v p.0, pad_values_fit vs p.1)

quoteds_fit : (ns : List (List ℕ)) → AreFit (map quoted_at ns)
quoteds_fit [] = tt
quoteds_fit (n ∷ ns) = ((refl, tt), quoteds_fit ns)

types_fit : (n : ℕ) → AreFit (next_types_at n)
types_fit zero = tt
types_fit (suc n) = ((refl, tt), types_fit n)

group_types_fit : (n : ℕ) → LeavesFit (group_types_at n).pieces
group_types_fit n = both_fit (each_of (next_types_at n)).pieces _ (each_fit (next_types_at n) (types_fit n)) (refl, tt)

match_fits : (rows : List Row) (names : List (List ℕ)) (h : HandleId) → LeavesFit (match_step_at rows names h).pieces
match_fits rows names h = (refl, both_fit (commas (map quoted_at names)).pieces _ (commas_fit (map quoted_at names) (quoteds_fit names)) (refl, tt))

multiples_fit : (ns : List ℕ) → LeavesFit (multiples_at ns).pieces
multiples_fit ns = both_fit (numbers_at ns).pieces (Fixed lexemes.Comma ∷ []) (numbers_fit ns) tt

pad_fits : (rows : List Row) (h : HandleId) (a : PadArgs) → ArePadArgs a → LeavesFit (pad_step_at rows h a).pieces
pad_fits rows h a p = (
  refl,
  (
    refl,
    both_fit (commas (map pad_value_at a.values)).pieces _ (commas_fit (map pad_value_at a.values) (pad_values_fit a.values p.values))
        (both_fit (numbers_at a.dims).pieces _ (numbers_fit a.dims) (both_fit (multiples_at a.multiples).pieces no_copy_pieces (multiples_fit a.multiples) tt)),
  ),
)

vectorize_fits : (rows : List Row) (h : HandleId) (sizes : Option (List ℕ)) → LeavesFit (vectorize_step_at rows h sizes).pieces
vectorize_fits rows h None = (refl, (refl, tt))
vectorize_fits rows h (Some ns) = (refl, (refl, both_fit (numbers_at ns).pieces any_op_pieces (numbers_fit ns) tt))

one_fits : (rows : List Row) (k : StepKind) → LeavesFit (one_at rows k).pieces
one_fits rows (kinds.Match names h) = both_fit (match_step_at rows names h).pieces to_one_pieces (match_fits rows names h) tt
one_fits rows (kinds.Split h) = (refl, (refl, tt))
one_fits rows (kinds.Generalize h) = (refl, (refl, tt))
one_fits rows (kinds.Interchange h ns) = (refl, (refl, both_fit (numbers_at ns).pieces to_one_pieces (numbers_fit ns) tt))
one_fits rows (kinds.TileFor h ns) = (refl, (refl, (refl, both_fit (numbers_at ns).pieces to_one_pieces (numbers_fit ns) tt)))
one_fits rows (kinds.Pack h ns) = (refl, (refl, both_fit (numbers_at ns).pieces to_one_pieces (numbers_fit ns) tt))
one_fits rows (kinds.FuseElementwise h) = (refl, (refl, tt))
one_fits rows k = tt

group_fits : (rows : List Row) (n : ℕ) (k : StepKind) → IsPrintableKind rows k → LeavesFit (group_step_at rows n k).pieces
group_fits rows n (kinds.Split h) p = (refl, (refl, group_types_fit n))
group_fits rows n (kinds.TileFor h ns) p = both_fit ((tile_for_step_at rows h ns).pieces ++ to_any_pieces []) (group_types_at n).pieces (both_fit (tile_for_step_at rows h ns).pieces (to_any_pieces []) (refl, (refl, (refl, numbers_fit ns))) tt) (group_types_fit n)
group_fits rows n (kinds.TileForall h ns) p = (refl, (refl, both_fit (numbers_at ns).pieces to_two_pieces (numbers_fit ns) tt))
group_fits rows n (kinds.FuseInto q h) p = (refl, (refl, (refl, tt)))
group_fits rows n (kinds.Pad h a) p = both_fit (pad_step_at rows h a).pieces to_three_pieces (pad_fits rows h a p.1) tt
group_fits rows n k p = tt

none_fits : (rows : List Row) (k : StepKind) → LeavesFit (none_at rows k).pieces
none_fits rows (kinds.Vectorize h sizes) = vectorize_fits rows h sizes
none_fits rows k = tt

pub line_fits : (rows : List Row) (n : ℕ) (hs : List HandleId) (k : StepKind) → n < 2 ^ 64 → IsPrintableKind rows k → LeavesFit (line_at rows n hs k).pieces
line_fits rows n [] k s p = none_fits rows k
line_fits rows n (h ∷ []) k s p = (new_name n s, one_fits rows k)
line_fits rows n (h ∷ (g ∷ hs)) k s p = (new_name n s, (refl, group_fits rows (length hs) k p))

pub next_small : (n : ℕ) (hs : List HandleId) (m : ℕ) → n + suc m < 2 ^ 64 → next_of n hs + m < 2 ^ 64
next_small n [] m s = omega arith
next_small n (h ∷ hs) m s = omega arith

lines_fit : (depth : ℕ) (rows : List Row) (n : ℕ) (ss : List Step) → n + length ss < 2 ^ 64 → ArePrintable rows n ss → AreFit (lines_at depth rows n ss)
lines_fit depth rows n [] s p = tt
lines_fit depth rows n (x ∷ ss) s p =
    (line_fits rows n x.results x.kind (omega arith) p.0.kind, lines_fit depth (rows ++ rows_of n x.results) (next_of n x.results) ss (next_small n x.results (length ss) s) p.1)

pub sequence_fits : (depth : ℕ) (s : Script) → IsPrintable s → LeavesFit (sequence_at depth s).pieces
sequence_fits depth s p =
    (refl, (refl, both_fit (each_of (lines_at (suc depth) (start s.root) 0 s.steps)).pieces _ (each_fit (lines_at (suc depth) (start s.root) 0 s.steps) (lines_fit (suc depth) (start s.root) 0 s.steps (omega (arith, p.few)) p.steps)) (refl, tt)))
