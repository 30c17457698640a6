-- Steps as they are written, with the trees that they stand for (MLIR Transform dialect).
use Rattle.std.specs.Prelude.{ℕ, zero, suc, ℤ, pos, negsuc, List, [], ◌∷◌, ◌++◌, map, length, Option, Some, None, codes, decimal}
use Rattle.text_format.specs.declared.class.Class.TheVariants.{Exactly, Name, Value, NewValueAt, Number, IntegerType, Quoted}
use Rattle.text_format.specs.declared.class.Position.TheVariants as at
use Rattle.text_format.specs.declared.front.Kind.TheVariants as tokens
use Rattle.text_format.specs.declared.lexeme.Lexeme.{Lexeme}
use Rattle.text_format.specs.declared.lexeme.Lexeme.TheVariants.{OpenParenthesis, CloseParenthesis, OpenBrace, CloseBrace, OpenBracket, CloseBracket, Comma, Colon, Equals, Arrow, Minus, AnyOp, StructuredMatch, StructuredGeneralize, StructuredInterchange, TileUsingFor, TileUsingForall, FuseIntoContainingOp, StructuredPad, StructuredPack, StructuredVectorize, SplitHandle, ApplyRegisteredPass, FuseElementwiseOps, To, Ops, In, Into, IteratorInterchange, TileSizes, PackedSizes, VectorSizes, PaddingValues, PaddingDimensions, PadToMultipleOf, CopyBackOp, QuotedNone}
use Rattle.text_format.specs.Pieces.{Piece, Gap, Fixed}
use Rattle.text_format.specs.Token.{TokenShape}
use Rattle.text_format.specs.Writers.{Writer, put, keep, lay, gap, space, lay_after, pair, made, each_of, commas, unbuilt, no_token, ◌▷◌}
use Rattle.script_syntax.specs.declared.tree.literals.Signed.{Signed}
use Rattle.script_syntax.specs.declared.tree.literals.PadValue.{PadValue}
use Rattle.script_syntax.specs.declared.tree.literals.QuotedName.{QuotedName}
use Rattle.script_syntax.specs.declared.tree.steps.HandleStep.{HandleStep}
use Rattle.script_syntax.specs.declared.tree.steps.MatchStep.{MatchStep}
use Rattle.script_syntax.specs.declared.tree.steps.SizedStep.{SizedStep}
use Rattle.script_syntax.specs.declared.tree.steps.TileForStep.{TileForStep}
use Rattle.script_syntax.specs.declared.tree.steps.FuseStep.{FuseStep}
use Rattle.script_syntax.specs.declared.tree.steps.Multiples.{Multiples}
use Rattle.script_syntax.specs.declared.tree.steps.PadStep.{PadStep}
use Rattle.script_syntax.specs.declared.tree.steps.VectorSizes as sizes
use Rattle.script_syntax.specs.declared.tree.steps.VectorizeStep.{VectorizeStep}
use Rattle.script_syntax.specs.declared.tree.results.NextType.{NextType}
use Rattle.script_syntax.specs.declared.tree.results.MoreTypes.{MoreTypes}
use Rattle.script_syntax.specs.declared.tree.results.OneResult.{OneResult}
use Rattle.script_syntax.specs.declared.tree.results.OneResult.TheVariants as one
use Rattle.script_syntax.specs.declared.tree.results.ManyResults.{ManyResults}
use Rattle.script_syntax.specs.declared.tree.results.ManyResults.TheVariants as any
use Rattle.script_syntax.specs.declared.tree.results.GroupTypes.{GroupTypes}
use Rattle.script_syntax.specs.declared.tree.results.GroupTypes.TheVariants as types
use Rattle.script_syntax.specs.declared.tree.results.GroupStep.{GroupStep}
use Rattle.script_syntax.specs.declared.tree.results.GroupStep.TheVariants as grouped
use Rattle.script_syntax.specs.Steps.{step_name}
use Rattle.script_read.specs.declared.script.HandleId.{HandleId}
use Rattle.script_read.specs.declared.script.PadArgs.{PadArgs}
use Rattle.script_read.specs.declared.script.StepKind.{StepKind}
use Rattle.script_read.specs.declared.script.StepKind.TheVariants as kinds
use Rattle.script_text.specs.declared.names.Row.{Row}
use Rattle.script_text.specs.Names.{name_in}

-- ---- literals

abbrev pub signed_at : ℤ → Writer Signed
signed_at (pos n) = made (λ t. record { minus = None; digits = t }) (put Number tokens.Number (decimal n))
signed_at (negsuc n) = made (λ x. record { minus = Some x.0; digits = x.1 }) ▷ pair (keep Exactly Minus) (put Number tokens.Number (decimal (suc n)))

abbrev pub number_at : ℕ → Writer Signed
number_at n = signed_at (pos n)

-- [1, 0]
abbrev pub numbers_at : List ℕ → Writer (List Signed)
numbers_at ns = lay OpenBracket ▷ lay_after (commas (map number_at ns)) (Fixed CloseBracket ∷ [])

-- 0 : i32
abbrev pub pad_value_at : ℤ × ℕ → Writer PadValue
pad_value_at v = made (λ x. record { value = x.0; ty = x.1 }) ▷ pair (signed_at v.0) ▷ space ▷ lay Colon ▷ space ▷ put IntegerType tokens.Word (codes "i" ++ decimal v.1)

-- "linalg.generic"
abbrev pub quoted_at : List ℕ → Writer QuotedName
quoted_at name = made (λ t. record { text = t }) (put Quoted tokens.Quoted (codes "\"" ++ (name ++ codes "\"")))

abbrev pub handle_at : List Row → HandleId → Writer TokenShape
handle_at rows h = put Value tokens.Value (name_in rows h)

-- ---- types

abbrev pub to_any_pieces : List Piece → List Piece
to_any_pieces ps = Gap (codes " ") ∷ Fixed Colon ∷ Gap (codes " ") ∷ Fixed OpenParenthesis ∷ Fixed AnyOp ∷ Fixed CloseParenthesis ∷ Gap (codes " ") ∷ Fixed Arrow ∷ ps

-- a further type
abbrev pub type_pieces : List Piece → List Piece
type_pieces ps = Fixed Comma ∷ Gap (codes " ") ∷ Fixed AnyOp ∷ ps

-- (!transform.any_op, !transform.any_op
abbrev pub open_pieces : List Piece → List Piece
open_pieces ps = Gap (codes " ") ∷ Fixed OpenParenthesis ∷ Fixed AnyOp ∷ type_pieces ps

abbrev pub to_one_pieces : List Piece
to_one_pieces = to_any_pieces (Gap (codes " ") ∷ Fixed AnyOp ∷ [])

abbrev pub to_two_pieces : List Piece
to_two_pieces = to_any_pieces (open_pieces (Fixed CloseParenthesis ∷ []))

abbrev pub both_to_two_pieces : List Piece
both_to_two_pieces = Gap (codes " ") ∷ Fixed Colon ∷ Gap (codes " ") ∷ Fixed OpenParenthesis ∷ Fixed AnyOp ∷ type_pieces (Fixed CloseParenthesis ∷ Gap (codes " ") ∷ Fixed Arrow ∷ open_pieces (Fixed CloseParenthesis ∷ []))

abbrev pub to_three_pieces : List Piece
to_three_pieces = to_any_pieces (open_pieces (type_pieces (Fixed CloseParenthesis ∷ [])))

abbrev pub next_type_at : Writer NextType
next_type_at = made (λ t. record { comma = t }) ▷ lay_after (keep Exactly Comma) (Gap (codes " ") ∷ Fixed AnyOp ∷ [])

abbrev pub next_types_at : ℕ → List (Writer NextType)
next_types_at zero = []
next_types_at (suc n) = next_type_at ∷ next_types_at n

abbrev pub more_types_at : ℕ → Writer MoreTypes
more_types_at n = made (λ x. record { more = x.0; close = x.1 }) ▷ pair (each_of (next_types_at n)) (keep Exactly CloseParenthesis)

-- of two results, and so many more
abbrev pub group_types_at : ℕ → Writer GroupTypes
group_types_at n = made types.Several ▷ space ▷ lay OpenParenthesis ▷ lay AnyOp ▷ lay Comma ▷ space ▷ lay AnyOp ▷ more_types_at n

-- ---- steps, without their types

abbrev pub handle_step_at : Lexeme → List Row → HandleId → Writer HandleStep
handle_step_at l rows h = made (λ x. record { name = x.0; target = x.1 }) ▷ pair (keep step_name l) ▷ space ▷ handle_at rows h

abbrev pub pass_step_at : List Row → HandleId → Writer HandleStep
pass_step_at rows h = made (λ x. record { name = x.0; target = x.1 }) ▷ pair (keep step_name ApplyRegisteredPass) ▷ space ▷ lay FuseElementwiseOps ▷ space ▷ lay To ▷ space ▷ handle_at rows h

abbrev pub match_step_at : List Row → List (List ℕ) → HandleId → Writer MatchStep
match_step_at rows names h = made (λ x. record { name = x.0; names = x.1.0; target = x.1.1 }) ▷
    pair (keep step_name StructuredMatch) ▷ space ▷ lay Ops ▷ lay OpenBrace ▷ lay OpenBracket ▷ pair (commas (map quoted_at names)) ▷ lay CloseBracket ▷ lay CloseBrace ▷ space ▷ lay In ▷ space ▷ handle_at rows h

abbrev pub sized_step_at : Lexeme → Lexeme → List Row → HandleId → List ℕ → Writer SizedStep
sized_step_at l word rows h ns = made (λ x. record { name = x.0; target = x.1.0; sizes = x.1.1 }) ▷
    pair (keep step_name l) ▷ space ▷ pair (handle_at rows h) ▷ space ▷ lay word ▷ space ▷ lay Equals ▷ space ▷ numbers_at ns

abbrev pub tiled_step_at : Lexeme → Lexeme → List Row → HandleId → List ℕ → Writer SizedStep
tiled_step_at l word rows h ns = made (λ x. record { name = x.0; target = x.1.0; sizes = x.1.1 }) ▷
    pair (keep step_name l) ▷ space ▷ pair (handle_at rows h) ▷ space ▷ lay word ▷ space ▷ numbers_at ns

abbrev pub tile_for_step_at : List Row → HandleId → List ℕ → Writer TileForStep
tile_for_step_at rows h ns = made (λ x. record { name = x.0; target = x.1.0; word = Some x.1.1.0; sizes = x.1.1.1 }) ▷
    pair (keep step_name TileUsingFor) ▷ space ▷ pair (handle_at rows h) ▷ space ▷ pair (keep Exactly TileSizes) ▷ space ▷ numbers_at ns

abbrev pub fuse_step_at : List Row → HandleId → HandleId → Writer FuseStep
fuse_step_at rows p h = made (λ x. record { name = x.0; producer = x.1.0; containing = x.1.1 }) ▷
    pair (keep step_name FuseIntoContainingOp) ▷ space ▷ pair (handle_at rows p) ▷ space ▷ lay Into ▷ space ▷ handle_at rows h

abbrev pub multiples_at : List ℕ → Writer Multiples
multiples_at ns = made (λ x. record { list = x }) ▷ lay PadToMultipleOf ▷ space ▷ lay Equals ▷ space ▷ lay_after (numbers_at ns) (Fixed Comma ∷ [])

-- = "none"}
abbrev pub no_copy_pieces : List Piece
no_copy_pieces = Gap (codes " ") ∷ Fixed CopyBackOp ∷ Gap (codes " ") ∷ Fixed Equals ∷ Gap (codes " ") ∷ Fixed QuotedNone ∷ Fixed CloseBrace ∷ []

abbrev pub pad_step_at : List Row → HandleId → PadArgs → Writer PadStep
pad_step_at rows h a = made (λ x. record { name = x.0; target = x.1.0; values = x.1.1.0; dimensions = x.1.1.1.0; multiples = Some x.1.1.1.1 }) ▷
    pair (keep step_name StructuredPad) ▷ space ▷ pair (handle_at rows h) ▷
    space ▷ lay OpenBrace ▷ lay PaddingValues ▷ space ▷ lay Equals ▷ space ▷ lay OpenBracket ▷ pair (commas (map pad_value_at a.values)) ▷ lay CloseBracket ▷
    lay Comma ▷ space ▷ lay PaddingDimensions ▷ space ▷ lay Equals ▷ space ▷ pair (numbers_at a.dims) ▷
    lay Comma ▷ space ▷ lay_after (multiples_at a.multiples) no_copy_pieces

abbrev pub vector_sizes_at : List ℕ → Writer sizes.VectorSizes
vector_sizes_at ns = made (λ x. record { list = x }) ▷ lay VectorSizes ▷ space ▷ numbers_at ns

-- : !transform.any_op
abbrev pub any_op_pieces : List Piece
any_op_pieces = Gap (codes " ") ∷ Fixed Colon ∷ Gap (codes " ") ∷ Fixed AnyOp ∷ []

abbrev pub vectorize_step_at : List Row → HandleId → Option (List ℕ) → Writer VectorizeStep
vectorize_step_at rows h None = made (λ x. record { name = x.0; target = x.1; sizes = None }) ▷
    pair (keep (Name at.ScriptStatement) StructuredVectorize) ▷ space ▷ lay_after (handle_at rows h) any_op_pieces
vectorize_step_at rows h (Some ns) = made (λ x. record { name = x.0; target = x.1.0; sizes = Some x.1.1 }) ▷
    pair (keep (Name at.ScriptStatement) StructuredVectorize) ▷ space ▷ pair (handle_at rows h) ▷ space ▷ lay_after (vector_sizes_at ns) any_op_pieces

-- ---- with their types

abbrev pub split_at : List Row → HandleId → Writer HandleStep
split_at rows h = handle_step_at SplitHandle rows h

abbrev pub no_handle_step : ℕ → HandleStep
no_handle_step at = record { name = no_token at; target = no_token at }

-- a step with one result
abbrev pub one_at : List Row → StepKind → Writer OneResult
one_at rows (kinds.Match names h) = made one.Match ▷ lay_after (match_step_at rows names h) to_one_pieces
one_at rows (kinds.Split h) = made one.Split ▷ lay_after (split_at rows h) to_one_pieces
one_at rows (kinds.Generalize h) = made one.Generalize ▷ lay_after (handle_step_at StructuredGeneralize rows h) to_one_pieces
one_at rows (kinds.Interchange h order) = made one.Interchange ▷ lay_after (sized_step_at StructuredInterchange IteratorInterchange rows h order) to_one_pieces
one_at rows (kinds.TileFor h ns) = made one.TileFor ▷ lay_after (tile_for_step_at rows h ns) to_one_pieces
one_at rows (kinds.Pack h ns) = made one.Pack ▷ lay_after (sized_step_at StructuredPack PackedSizes rows h ns) to_one_pieces
one_at rows (kinds.FuseElementwise h) = made one.FuseElementwise ▷ lay_after (pass_step_at rows h) to_one_pieces
one_at rows k = unbuilt (λ at. one.Split (no_handle_step at))

abbrev pub many_at : Writer ManyResults → ℕ → Writer GroupStep
many_at w n = made (λ x. grouped.Many x.0 x.1) ▷ pair (lay_after w (to_any_pieces [])) (group_types_at n)

abbrev pub no_group_step : ℕ → GroupStep
no_group_step at = grouped.Many (any.Split (no_handle_step at)) (types.One (no_token at))

-- a step with two results, and so many more
abbrev pub group_step_at : List Row → ℕ → StepKind → Writer GroupStep
group_step_at rows n (kinds.Split h) = many_at (made any.Split (split_at rows h)) n
group_step_at rows n (kinds.TileFor h ns) = many_at (made any.TileFor (tile_for_step_at rows h ns)) n
group_step_at rows n (kinds.TileForall h ns) = made grouped.TileForall ▷ lay_after (tiled_step_at TileUsingForall TileSizes rows h ns) to_two_pieces
group_step_at rows n (kinds.FuseInto p h) = made grouped.FuseInto ▷ lay_after (fuse_step_at rows p h) both_to_two_pieces
group_step_at rows n (kinds.Pad h a) = made grouped.Pad ▷ lay_after (pad_step_at rows h a) to_three_pieces
group_step_at rows n k = unbuilt no_group_step
