-- The canonical text's tree is spelled by its pieces.
use Rattle.std.proofs.Common.{◌≡◌, ◌<◌, ℕ, zero, suc, ◌+◌, ◌⊎◌, inl, inr, List, [], ◌∷◌, ◌++◌, map, length, Option, Some, None, refl, sym, ap, ◌∙◌, arith, codes}
use Rattle.std.specs.Prelude.{ℤ, pos, negsuc}
use Rattle.std.specs.List.{AllByRecursion}
use Rattle.text_format.specs.declared.class.Class.{Class}
use Rattle.text_format.specs.declared.class.Class.TheVariants as classes
use Rattle.text_format.specs.declared.class.Position.TheVariants as places
use Rattle.text_format.specs.declared.lexeme.Lexeme.{Lexeme}
use Rattle.text_format.specs.declared.lexeme.Lexeme.TheVariants as lexemes
use Rattle.text_format.specs.Pieces as P
use Rattle.text_format.specs.Pieces.{Piece, bytes_of}
use Rattle.text_format.specs.Formats.{Format, leaf, only, ◌⊗◌, ◌▸◌, optional, spell_many}
use Rattle.text_format.specs.Formats as F
use Rattle.text_format.specs.Writers.{Writer, each_of, commas, pair, made, lay_after}
use Rattle.text_format.proofs.Written.{spelled, spelled_append, IsWritten, put-w, lay-w, gap-w, sp-w, pair-w, made-w, before-w, behind-w, blank-w, AreWritten, many-w, list-w, list_end-w}
use Rattle.script_syntax.specs.Literals as literals
use Rattle.script_syntax.specs.Steps as steps
use Rattle.script_syntax.specs.Results as results
use Rattle.script_syntax.specs.Lines as lines
use Rattle.script_syntax.specs.declared.tree.steps.HandleStep.{HandleStep}
use Rattle.script_syntax.specs.declared.tree.steps.TileForStep.{TileForStep}
use Rattle.script_syntax.specs.declared.tree.results.ManyResults.{ManyResults}
use Rattle.script_syntax.specs.declared.tree.results.ManyResults.TheVariants as any
use Rattle.script_read.specs.declared.script.HandleId.{HandleId}
use Rattle.script_read.specs.declared.script.PadArgs.{PadArgs}
use Rattle.script_read.specs.declared.script.StepKind.{StepKind}
use Rattle.script_read.specs.declared.script.StepKind.TheVariants as kinds
use Rattle.script_read.specs.declared.script.Step.{Step}
use Rattle.script_read.specs.declared.script.Script.{Script}
use Rattle.script_text.specs.declared.names.Row.{Row}
use Rattle.script_text.specs.Names.{start, rows_of, next_of}
use Rattle.script_text.specs.Texts.{new_line}
use Rattle.script_text.specs.Steps.{signed_at, number_at, numbers_at, pad_value_at, quoted_at, next_type_at, next_types_at, more_types_at, group_types_at, handle_step_at, pass_step_at, match_step_at, sized_step_at, tiled_step_at, tile_for_step_at, fuse_step_at, multiples_at, pad_step_at, vector_sizes_at, vectorize_step_at, one_at, many_at, group_step_at, to_any_pieces, to_one_pieces, to_two_pieces, both_to_two_pieces, to_three_pieces, any_op_pieces, no_copy_pieces}
use Rattle.script_text.specs.Canonical.{none_at, line_at, lines_at, sequence_at}
use Rattle.script_roundtrip.specs.Printable.{HasResults, ArePrintable, IsPrintable}

-- ---- literals

signed-w : (v : ℤ) → IsWritten literals.signed (signed_at v)
unfolding literals.signed
signed-w (pos n) = record { law = λ at. refl }
signed-w (negsuc n) = record { law = λ at. refl }

signeds-w : (ns : List ℕ) → AreWritten literals.signed (map number_at ns)
signeds-w [] = tt
signeds-w (n ∷ ns) = (signed-w (pos n), signeds-w ns)

numbers-w : (ns : List ℕ) → IsWritten literals.numbers (numbers_at ns)
unfolding literals.numbers
numbers-w ns = lay-w lexemes.OpenBracket (list_end-w lexemes.CloseBracket literals.signed (map number_at ns) (signeds-w ns))

pad_value-w : (v : ℤ × ℕ) → IsWritten literals.pad_value (pad_value_at v)
unfolding literals.pad_value
pad_value-w v = made-w _ _ (λ _. refl) (pair-w (signed-w v.0) (sp-w (lay-w lexemes.Colon (sp-w (put-w _ _ _)))))

pad_values-w : (vs : List (ℤ × ℕ)) → AreWritten literals.pad_value (map pad_value_at vs)
pad_values-w [] = tt
pad_values-w (v ∷ vs) = (pad_value-w v, pad_values-w vs)

quoted-w : (n : List ℕ) → IsWritten literals.quoted_name (quoted_at n)
unfolding literals.quoted_name
quoted-w n = made-w _ _ (λ _. refl) (put-w _ _ _)

quoteds-w : (ns : List (List ℕ)) → AreWritten literals.quoted_name (map quoted_at ns)
quoteds-w [] = tt
quoteds-w (n ∷ ns) = (quoted-w n, quoteds-w ns)

-- ---- steps

handle_step-w : (l : Lexeme) (rows : List Row) (h : HandleId) → IsWritten (steps.handle_step l) (handle_step_at l rows h)
unfolding steps.handle_step
handle_step-w l rows h = made-w _ _ (λ _. refl) (pair-w (put-w _ _ _) (sp-w (put-w _ _ _)))

pass_step-w : (rows : List Row) (h : HandleId) → IsWritten steps.pass_step (pass_step_at rows h)
unfolding steps.pass_step
pass_step-w rows h = made-w _ _ (λ _. refl) (pair-w (put-w _ _ _) (sp-w (lay-w lexemes.FuseElementwiseOps (sp-w (lay-w lexemes.To (sp-w (put-w _ _ _)))))))

match_step-w : (rows : List Row) (names : List (List ℕ)) (h : HandleId) → IsWritten steps.match_step (match_step_at rows names h)
unfolding steps.match_step
match_step-w rows names h = made-w _ _ (λ _. refl) (pair-w (put-w _ _ _) (sp-w (lay-w lexemes.Ops (lay-w lexemes.OpenBrace (lay-w lexemes.OpenBracket
    (list-w lexemes.CloseBracket literals.quoted_name (map quoted_at names) (quoteds-w names) (lay-w lexemes.CloseBrace (sp-w (lay-w lexemes.In (sp-w (put-w _ _ _)))))))))))

sized_step-w : (l word : Lexeme) (rows : List Row) (h : HandleId) (ns : List ℕ) → IsWritten (steps.sized_step l word) (sized_step_at l word rows h ns)
unfolding steps.sized_step
sized_step-w l word rows h ns = made-w _ _ (λ _. refl) (pair-w (put-w _ _ _) (sp-w (pair-w (put-w _ _ _) (sp-w (lay-w word (sp-w (lay-w lexemes.Equals (sp-w (numbers-w ns)))))))))

tiled_step-w : (l word : Lexeme) (rows : List Row) (h : HandleId) (ns : List ℕ) → IsWritten (steps.tiled_step l word) (tiled_step_at l word rows h ns)
unfolding steps.tiled_step
tiled_step-w l word rows h ns = made-w _ _ (λ _. refl) (pair-w (put-w _ _ _) (sp-w (pair-w (put-w _ _ _) (sp-w (lay-w word (sp-w (numbers-w ns)))))))

tile_for_step-w : (rows : List Row) (h : HandleId) (ns : List ℕ) → IsWritten steps.tile_for_step (tile_for_step_at rows h ns)
unfolding steps.tile_for_step
tile_for_step-w rows h ns =
    let w = pair-w (put-w (steps.step_name lexemes.TileUsingFor) _ _) (sp-w (pair-w (put-w classes.Value _ _) (sp-w (pair-w (put-w (classes.Exactly lexemes.TileSizes) _ _) (sp-w (numbers-w ns)))))) in
    record { law = λ at. w.law at }

fuse_step-w : (rows : List Row) (p h : HandleId) → IsWritten steps.fuse_step (fuse_step_at rows p h)
unfolding steps.fuse_step
fuse_step-w rows p h = made-w _ _ (λ _. refl) (pair-w (put-w _ _ _) (sp-w (pair-w (put-w _ _ _) (sp-w (lay-w lexemes.Into (sp-w (put-w _ _ _)))))))

multiples-w : (ns : List ℕ) → IsWritten steps.multiples (multiples_at ns)
unfolding steps.multiples
multiples-w ns = made-w _ _ (λ _. refl) (lay-w lexemes.PadToMultipleOf (sp-w (lay-w lexemes.Equals (sp-w (before-w lexemes.Comma _ (λ at. refl) (numbers-w ns))))))

-- an item that is there, and fixed tokens behind it
some-w : {A : Type 0} (c : Class) {f : Format A} {v : Writer A} (g : Format (Unit {0})) (ps : List Piece) → ((at : ℕ) → spelled at ps ≡ g.spell tt) → IsWritten f v → IsWritten (optional c f g) (made (λ x. (Some x, tt)) (lay_after v ps))
some-w c {f = f} {v = v} g ps e h = record { law = λ at. ap (λ is. is ++ g.spell tt) (h.law at) ∙ ap (λ is. spelled at v.pieces ++ is) (sym (e (at + length (bytes_of v.pieces)))) ∙ sym (spelled_append v.pieces ps at) }

abbrev no_copy : Format (Unit {0})
no_copy = lexemes.CopyBackOp ▸ lexemes.Equals ▸ lexemes.QuotedNone ▸ only lexemes.CloseBrace

pad_step-w : (rows : List Row) (h : HandleId) (a : PadArgs) → IsWritten steps.pad_step (pad_step_at rows h a)
unfolding steps.pad_step
pad_step-w rows h a =
    let w = pair-w (put-w (steps.step_name lexemes.StructuredPad) _ _) (sp-w (pair-w (put-w classes.Value _ _)
    (sp-w (lay-w lexemes.OpenBrace (lay-w lexemes.PaddingValues (sp-w (lay-w lexemes.Equals (sp-w (lay-w lexemes.OpenBracket (list-w lexemes.CloseBracket literals.pad_value (map pad_value_at a.values) (pad_values-w a.values)
    (lay-w lexemes.Comma (sp-w (lay-w lexemes.PaddingDimensions (sp-w (lay-w lexemes.Equals (sp-w (pair-w (numbers-w a.dims)
    (lay-w lexemes.Comma (sp-w (some-w (classes.Exactly lexemes.PadToMultipleOf) no_copy no_copy_pieces (λ at. refl) (multiples-w a.multiples))))))))))))))))))))) in
    record { law = λ at. w.law at }

vector_sizes-w : (ns : List ℕ) → IsWritten steps.vector_sizes (vector_sizes_at ns)
unfolding steps.vector_sizes
vector_sizes-w ns = made-w _ _ (λ _. refl) (lay-w lexemes.VectorSizes (sp-w (numbers-w ns)))

vectorize_step-w : (rows : List Row) (h : HandleId) (sizes : Option (List ℕ)) → IsWritten steps.vectorize_step (vectorize_step_at rows h sizes)
unfolding steps.vectorize_step
vectorize_step-w rows h None = record { law = λ at. refl }
vectorize_step-w rows h (Some ns) =
    let w = pair-w (put-w (classes.Name places.ScriptStatement lexemes.StructuredVectorize) _ _) (sp-w (pair-w (put-w classes.Value _ _) (sp-w (some-w (classes.Exactly lexemes.VectorSizes) (lexemes.Colon ▸ only lexemes.AnyOp) any_op_pieces (λ at. refl) (vector_sizes-w ns))))) in
    record { law = λ at. w.law at }

-- ---- with their types

to_one-w : {A : Type 0} {f : Format A} {v : Writer A} → IsWritten f v → IsWritten (results.typed f results.to_one) (lay_after v to_one_pieces)
unfolding results.to_one
to_one-w h = behind-w results.to_one to_one_pieces (λ at. refl) h

to_two-w : {A : Type 0} {f : Format A} {v : Writer A} → IsWritten f v → IsWritten (results.typed f results.to_two) (lay_after v to_two_pieces)
unfolding results.to_two
to_two-w h = behind-w results.to_two to_two_pieces (λ at. refl) h

both_to_two-w : {A : Type 0} {f : Format A} {v : Writer A} → IsWritten f v → IsWritten (results.typed f results.both_to_two) (lay_after v both_to_two_pieces)
unfolding results.both_to_two
both_to_two-w h = behind-w results.both_to_two both_to_two_pieces (λ at. refl) h

to_three-w : {A : Type 0} {f : Format A} {v : Writer A} → IsWritten f v → IsWritten (results.typed f results.to_three) (lay_after v to_three_pieces)
unfolding results.to_three
to_three-w h = behind-w results.to_three to_three_pieces (λ at. refl) h

to_any-w : {A : Type 0} {f : Format A} {v : Writer A} → IsWritten f v → IsWritten (results.typed f results.to_any) (lay_after v (to_any_pieces []))
unfolding results.to_any
to_any-w h = behind-w results.to_any (to_any_pieces []) (λ at. refl) h

next_type-w : IsWritten results.next_type next_type_at
unfolding results.next_type
next_type-w = made-w _ _ (λ _. refl) (before-w lexemes.AnyOp _ (λ at. refl) (put-w _ _ _))

next_types-w : (n : ℕ) → AreWritten results.next_type (next_types_at n)
next_types-w zero = tt
next_types-w (suc n) = (next_type-w, next_types-w n)

more_types-w : (n : ℕ) → IsWritten results.more_types (more_types_at n)
unfolding results.more_types
more_types-w n = made-w _ _ (λ _. refl) (many-w _ results.next_type (next_types_at n) (next_types-w n) (put-w _ _ _))

group_types-w : (n : ℕ) → IsWritten results.group_types (group_types_at n)
unfolding results.group_types
group_types-w n =
    let w = sp-w (lay-w lexemes.OpenParenthesis (lay-w lexemes.AnyOp (lay-w lexemes.Comma (sp-w (lay-w lexemes.AnyOp (more_types-w n)))))) in
    record { law = λ at. w.law at }

many_split-w : {v : Writer HandleStep} → IsWritten (steps.handle_step lexemes.SplitHandle) v → IsWritten results.many_results (made any.Split v)
unfolding results.many_results
many_split-w h = record { law = λ at. h.law at }

many_tile-w : {v : Writer TileForStep} → IsWritten steps.tile_for_step v → IsWritten results.many_results (made any.TileFor v)
unfolding results.many_results
many_tile-w h = record { law = λ at. h.law at }

many-at-w : (n : ℕ) {v : Writer ManyResults} → IsWritten results.many_results v → IsWritten results.group_step (many_at v n)
unfolding results.group_step
many-at-w n h = let w = pair-w (to_any-w h) (group_types-w n) in record { law = λ at. w.law at }

one-w : (rows : List Row) (k : StepKind) → HasResults k 1 → IsWritten results.one_result (one_at rows k)
unfolding results.one_result
one-w rows (kinds.Match names h) e = let w = to_one-w (match_step-w rows names h) in record { law = λ at. w.law at }
one-w rows (kinds.Split h) e = let w = to_one-w (handle_step-w lexemes.SplitHandle rows h) in record { law = λ at. w.law at }
one-w rows (kinds.Generalize h) e = let w = to_one-w (handle_step-w lexemes.StructuredGeneralize rows h) in record { law = λ at. w.law at }
one-w rows (kinds.Interchange h ns) e = let w = to_one-w (sized_step-w lexemes.StructuredInterchange lexemes.IteratorInterchange rows h ns) in record { law = λ at. w.law at }
one-w rows (kinds.TileFor h ns) e = let w = to_one-w (tile_for_step-w rows h ns) in record { law = λ at. w.law at }
one-w rows (kinds.Pack h ns) e = let w = to_one-w (sized_step-w lexemes.StructuredPack lexemes.PackedSizes rows h ns) in record { law = λ at. w.law at }
one-w rows (kinds.FuseElementwise h) e = let w = to_one-w (pass_step-w rows h) in record { law = λ at. w.law at }
one-w rows (kinds.TileForall h ns) e = absurd (omega (arith, e))
one-w rows (kinds.FuseInto p h) e = absurd (omega (arith, e))
one-w rows (kinds.Pad h a) e = absurd (omega (arith, e))
one-w rows (kinds.Vectorize h ns) e = absurd (omega (arith, e))

group-w : (rows : List Row) (n : ℕ) (k : StepKind) → HasResults k (suc (suc n)) → IsWritten results.group_step (group_step_at rows n k)
unfolding results.group_step
group-w rows n (kinds.Split h) e = many-at-w n (many_split-w (handle_step-w lexemes.SplitHandle rows h))
group-w rows n (kinds.TileFor h ns) e = many-at-w n (many_tile-w (tile_for_step-w rows h ns))
group-w rows n (kinds.TileForall h ns) e = let w = to_two-w (tiled_step-w lexemes.TileUsingForall lexemes.TileSizes rows h ns) in record { law = λ at. w.law at }
group-w rows n (kinds.FuseInto p h) e = let w = both_to_two-w (fuse_step-w rows p h) in record { law = λ at. w.law at }
group-w rows n (kinds.Pad h a) e = let w = to_three-w (pad_step-w rows h a) in record { law = λ at. w.law at }
group-w rows n (kinds.Match names h) e = absurd (omega (arith, e))
group-w rows n (kinds.Generalize h) e = absurd (omega (arith, e))
group-w rows n (kinds.Interchange h ns) e = absurd (omega (arith, e))
group-w rows n (kinds.Pack h ns) e = absurd (omega (arith, e))
group-w rows n (kinds.Vectorize h ns) e = absurd (omega (arith, e))
group-w rows n (kinds.FuseElementwise h) e = absurd (omega (arith, e))

-- ---- lines

none-w : (rows : List Row) (k : StepKind) → HasResults k 0 → IsWritten lines.line (none_at rows k)
unfolding lines.line
none-w rows (kinds.Vectorize h ns) e = let w = vectorize_step-w rows h ns in record { law = λ at. w.law at }
none-w rows (kinds.Match names h) e = absurd (omega (arith, e))
none-w rows (kinds.Split h) e = absurd (omega (arith, e))
none-w rows (kinds.Generalize h) e = absurd (omega (arith, e))
none-w rows (kinds.Interchange h ns) e = absurd (omega (arith, e))
none-w rows (kinds.TileFor h ns) e = absurd (omega (arith, e))
none-w rows (kinds.TileForall h ns) e = absurd (omega (arith, e))
none-w rows (kinds.FuseInto p h) e = absurd (omega (arith, e))
none-w rows (kinds.Pad h a) e = absurd (omega (arith, e))
none-w rows (kinds.Pack h ns) e = absurd (omega (arith, e))
none-w rows (kinds.FuseElementwise h) e = absurd (omega (arith, e))

pub line-w : (rows : List Row) (n : ℕ) (hs : List HandleId) (k : StepKind) → HasResults k (length hs) → IsWritten lines.line (line_at rows n hs k)
unfolding lines.line lines.named_step results.behind_first results.group
line-w rows n [] k e = none-w rows k e
line-w rows n (h ∷ []) k e =
    let w = pair-w (put-w (classes.NewValueAt places.ScriptStatement) _ _) (sp-w (lay-w lexemes.Equals (sp-w (one-w rows k e)))) in
    record { law = λ at. w.law at }
line-w rows n (h ∷ (g ∷ hs)) k e =
    let w = pair-w (put-w (classes.NewValueAt places.ScriptStatement) _ _) (lay-w lexemes.Colon (pair-w (put-w classes.Number _ _) (sp-w (lay-w lexemes.Equals (sp-w (group-w rows (length hs) k e)))))) in
    record { law = λ at. w.law at }

lines-w : (depth : ℕ) (rows : List Row) (n : ℕ) (ss : List Step) → ArePrintable rows n ss → AreWritten lines.line (lines_at depth rows n ss)
lines-w depth rows n [] p = tt
lines-w depth rows n (s ∷ ss) p = (gap-w (new_line depth) (line-w rows n s.results s.kind p.0.count), lines-w depth (rows ++ rows_of n s.results) (next_of n s.results) ss p.1)

-- the tree of the canonical text is spelled by its pieces
pub sequence_spelled : (depth : ℕ) (s : Script) → IsPrintable s → IsWritten lines.sequence (sequence_at depth s)
unfolding lines.sequence
sequence_spelled depth s p = made-w _ _ (λ _. refl) (pair-w (put-w _ _ _) (sp-w (lay-w lexemes.TransformMain (lay-w lexemes.OpenParenthesis (pair-w (put-w _ _ _)
    (lay-w lexemes.Colon (sp-w (lay-w lexemes.AnyOp (sp-w (lay-w lexemes.OpenBrace (lay-w lexemes.Readonly (lay-w lexemes.CloseBrace (lay-w lexemes.CloseParenthesis (sp-w (lay-w lexemes.OpenBrace
    (many-w _ lines.line (lines_at (suc depth) (start s.root) 0 s.steps) (lines-w (suc depth) (start s.root) 0 s.steps p.steps) (gap-w (new_line (suc depth)) (before-w lexemes.CloseBrace _ (λ at. refl) (put-w _ _ _)))))))))))))))))))
