-- The steps that may stand behind so many names of results, with the types of their operands and results (MLIR Transform dialect).
use Rattle.std.specs.Prelude.{◌⊎◌}
use Rattle.std.proofs.Common.{inl, inr}
use Rattle.text_format.specs.declared.class.Class.TheVariants.{Exactly, NewValue, Number}
use Rattle.text_format.specs.declared.lexeme.Lexeme.TheVariants.{OpenParenthesis, CloseParenthesis, Comma, Colon, Equals, Arrow, AnyOp, StructuredMatch, StructuredGeneralize, StructuredInterchange, TileUsingFor, TileUsingForall, FuseIntoContainingOp, StructuredPad, StructuredPack, SplitHandle, IteratorInterchange, TileSizes, PackedSizes}
use Rattle.text_format.specs.Token.{TokenShape}
use Rattle.text_format.specs.Formats.{Format, leaf, only, before, ◌▸◌, ◌⊗◌, as_record, either, many}
use Rattle.script_syntax.specs.declared.tree.steps.HandleStep.{HandleStep}
use Rattle.script_syntax.specs.declared.tree.steps.MatchStep.{MatchStep}
use Rattle.script_syntax.specs.declared.tree.steps.SizedStep.{SizedStep}
use Rattle.script_syntax.specs.declared.tree.steps.TileForStep.{TileForStep}
use Rattle.script_syntax.specs.declared.tree.steps.FuseStep.{FuseStep}
use Rattle.script_syntax.specs.declared.tree.steps.PadStep.{PadStep}
use Rattle.script_syntax.specs.declared.tree.results.NextResult.{NextResult}
use Rattle.script_syntax.specs.declared.tree.results.NextType.{NextType}
use Rattle.script_syntax.specs.declared.tree.results.MoreTypes.{MoreTypes}
use Rattle.script_syntax.specs.declared.tree.results.OneResult.{OneResult}
use Rattle.script_syntax.specs.declared.tree.results.OneResult.TheVariants as one
use Rattle.script_syntax.specs.declared.tree.results.TwoResults.{TwoResults}
use Rattle.script_syntax.specs.declared.tree.results.TwoResults.TheVariants as two
use Rattle.script_syntax.specs.declared.tree.results.ThreeResults.{ThreeResults}
use Rattle.script_syntax.specs.declared.tree.results.ThreeResults.TheVariants as three
use Rattle.script_syntax.specs.declared.tree.results.ManyResults.{ManyResults}
use Rattle.script_syntax.specs.declared.tree.results.ManyResults.TheVariants as any
use Rattle.script_syntax.specs.declared.tree.results.GroupTypes.{GroupTypes}
use Rattle.script_syntax.specs.declared.tree.results.GroupTypes.TheVariants as types
use Rattle.script_syntax.specs.declared.tree.results.GroupStep.{GroupStep}
use Rattle.script_syntax.specs.declared.tree.results.GroupStep.TheVariants as grouped
use Rattle.script_syntax.specs.declared.tree.results.Group.{Group}
use Rattle.script_syntax.specs.declared.tree.results.Further.{Further}
use Rattle.script_syntax.specs.declared.tree.results.BehindThird.{BehindThird}
use Rattle.script_syntax.specs.declared.tree.results.BehindThird.TheVariants as third_rest
use Rattle.script_syntax.specs.declared.tree.results.Third.{Third}
use Rattle.script_syntax.specs.declared.tree.results.BehindSecond.{BehindSecond}
use Rattle.script_syntax.specs.declared.tree.results.BehindSecond.TheVariants as second_rest
use Rattle.script_syntax.specs.declared.tree.results.Second.{Second}
use Rattle.script_syntax.specs.declared.tree.results.BehindFirst.{BehindFirst}
use Rattle.script_syntax.specs.declared.tree.results.BehindFirst.TheVariants as first_rest
use Rattle.script_syntax.specs.Steps.{step_name, handle_step, pass_step, match_step, sized_step, tiled_step, tile_for_step, fuse_step, pad_step}

-- ---- types

-- fixed tokens
abbrev pub Fixed : Type 0
Fixed = Format (Unit {0})

-- a step, and its types behind it
abbrev pub typed : {A : Type 0} → Format A → Fixed → Format A
typed f g = as_record (λ x. x.0) (λ y. (y, tt)) (f ⊗ g)

-- : (!transform.any_op) -> !transform.any_op
unfoldable pub to_one : Fixed
to_one = Colon ▸ OpenParenthesis ▸ AnyOp ▸ CloseParenthesis ▸ Arrow ▸ only AnyOp

-- : (!transform.any_op) -> (!transform.any_op, !transform.any_op)
unfoldable pub to_two : Fixed
to_two = Colon ▸ OpenParenthesis ▸ AnyOp ▸ CloseParenthesis ▸ Arrow ▸ OpenParenthesis ▸ AnyOp ▸ Comma ▸ AnyOp ▸ only CloseParenthesis

-- : (!transform.any_op, !transform.any_op) -> (!transform.any_op, !transform.any_op)
unfoldable pub both_to_two : Fixed
both_to_two = Colon ▸ OpenParenthesis ▸ AnyOp ▸ Comma ▸ AnyOp ▸ CloseParenthesis ▸ Arrow ▸ OpenParenthesis ▸ AnyOp ▸ Comma ▸ AnyOp ▸ only CloseParenthesis

-- : (!transform.any_op) -> (!transform.any_op, !transform.any_op, !transform.any_op)
unfoldable pub to_three : Fixed
to_three = Colon ▸ OpenParenthesis ▸ AnyOp ▸ CloseParenthesis ▸ Arrow ▸ OpenParenthesis ▸ AnyOp ▸ Comma ▸ AnyOp ▸ Comma ▸ AnyOp ▸ only CloseParenthesis

-- : (!transform.any_op) -> (!transform.any_op, !transform.any_op, !transform.any_op, !transform.any_op
unfoldable pub to_four : Fixed
to_four = Colon ▸ OpenParenthesis ▸ AnyOp ▸ CloseParenthesis ▸ Arrow ▸ OpenParenthesis ▸ AnyOp ▸ Comma ▸ AnyOp ▸ Comma ▸ AnyOp ▸ Comma ▸ only AnyOp

-- : (!transform.any_op) ->
unfoldable pub to_any : Fixed
to_any = Colon ▸ OpenParenthesis ▸ AnyOp ▸ CloseParenthesis ▸ only Arrow

-- , !transform.any_op
unfoldable pub next_type : Format NextType
next_type = as_record (λ t. record { comma = t }) (λ n. n.comma) (before AnyOp (leaf (Exactly Comma)))

-- , !transform.any_op, !transform.any_op)
unfoldable pub more_types : Format MoreTypes
more_types = as_record (λ x. record { more = x.0; close = x.1 }) (λ m. (m.more, m.close)) (many (Exactly Comma) next_type (leaf (Exactly CloseParenthesis)))

-- ---- behind one name

abbrev pub OneSum : Type 0
OneSum = MatchStep ⊎ (HandleStep ⊎ (HandleStep ⊎ (TileForStep ⊎ (SizedStep ⊎ (SizedStep ⊎ HandleStep)))))

abbrev pub made_one : OneSum → OneResult
made_one (inl s) = one.Match s
made_one (inr (inl s)) = one.Split s
made_one (inr (inr (inl s))) = one.Generalize s
made_one (inr (inr (inr (inl s)))) = one.TileFor s
made_one (inr (inr (inr (inr (inl s))))) = one.Interchange s
made_one (inr (inr (inr (inr (inr (inl s)))))) = one.Pack s
made_one (inr (inr (inr (inr (inr (inr s)))))) = one.FuseElementwise s

abbrev pub one_parts : OneResult → OneSum
one_parts (one.Match s) = inl s
one_parts (one.Split s) = inr (inl s)
one_parts (one.Generalize s) = inr (inr (inl s))
one_parts (one.TileFor s) = inr (inr (inr (inl s)))
one_parts (one.Interchange s) = inr (inr (inr (inr (inl s))))
one_parts (one.Pack s) = inr (inr (inr (inr (inr (inl s)))))
one_parts (one.FuseElementwise s) = inr (inr (inr (inr (inr (inr s)))))

abbrev pub one_from_pack : Format (SizedStep ⊎ HandleStep)
one_from_pack = either (step_name StructuredPack) (typed (sized_step StructuredPack PackedSizes) to_one) (typed pass_step to_one)

abbrev pub one_from_interchange : Format (SizedStep ⊎ (SizedStep ⊎ HandleStep))
one_from_interchange = either (step_name StructuredInterchange) (typed (sized_step StructuredInterchange IteratorInterchange) to_one) one_from_pack

abbrev pub one_from_tile_for : Format (TileForStep ⊎ (SizedStep ⊎ (SizedStep ⊎ HandleStep)))
one_from_tile_for = either (step_name TileUsingFor) (typed tile_for_step to_one) one_from_interchange

abbrev pub one_from_generalize : Format (HandleStep ⊎ (TileForStep ⊎ (SizedStep ⊎ (SizedStep ⊎ HandleStep))))
one_from_generalize = either (step_name StructuredGeneralize) (typed (handle_step StructuredGeneralize) to_one) one_from_tile_for

abbrev pub one_from_split : Format (HandleStep ⊎ (HandleStep ⊎ (TileForStep ⊎ (SizedStep ⊎ (SizedStep ⊎ HandleStep)))))
one_from_split = either (step_name SplitHandle) (typed (handle_step SplitHandle) to_one) one_from_generalize

abbrev pub one_from_match : Format (MatchStep ⊎ (HandleStep ⊎ (HandleStep ⊎ (TileForStep ⊎ (SizedStep ⊎ (SizedStep ⊎ HandleStep))))))
one_from_match = either (step_name StructuredMatch) (typed match_step to_one) one_from_split

unfoldable pub one_result : Format OneResult
one_result = as_record made_one one_parts one_from_match

-- ---- behind two

abbrev pub made_two : HandleStep ⊎ (TileForStep ⊎ (SizedStep ⊎ FuseStep)) → TwoResults
made_two (inl s) = two.Split s
made_two (inr (inl s)) = two.TileFor s
made_two (inr (inr (inl s))) = two.TileForall s
made_two (inr (inr (inr s))) = two.FuseInto s

abbrev pub two_parts : TwoResults → HandleStep ⊎ (TileForStep ⊎ (SizedStep ⊎ FuseStep))
two_parts (two.Split s) = inl s
two_parts (two.TileFor s) = inr (inl s)
two_parts (two.TileForall s) = inr (inr (inl s))
two_parts (two.FuseInto s) = inr (inr (inr s))

abbrev pub two_from_tile_forall : Format (SizedStep ⊎ FuseStep)
two_from_tile_forall = either (step_name TileUsingForall) (typed (tiled_step TileUsingForall TileSizes) to_two) (typed fuse_step both_to_two)

abbrev pub two_from_tile_for : Format (TileForStep ⊎ (SizedStep ⊎ FuseStep))
two_from_tile_for = either (step_name TileUsingFor) (typed tile_for_step to_two) two_from_tile_forall

abbrev pub two_from_split : Format (HandleStep ⊎ (TileForStep ⊎ (SizedStep ⊎ FuseStep)))
two_from_split = either (step_name SplitHandle) (typed (handle_step SplitHandle) to_two) two_from_tile_for

unfoldable pub two_results : Format TwoResults
two_results = as_record made_two two_parts two_from_split

-- ---- behind three

abbrev pub made_three : HandleStep ⊎ (TileForStep ⊎ PadStep) → ThreeResults
made_three (inl s) = three.Split s
made_three (inr (inl s)) = three.TileFor s
made_three (inr (inr s)) = three.Pad s

abbrev pub three_parts : ThreeResults → HandleStep ⊎ (TileForStep ⊎ PadStep)
three_parts (three.Split s) = inl s
three_parts (three.TileFor s) = inr (inl s)
three_parts (three.Pad s) = inr (inr s)

abbrev pub three_from_tile_for : Format (TileForStep ⊎ PadStep)
three_from_tile_for = either (step_name TileUsingFor) (typed tile_for_step to_three) (typed pad_step to_three)

abbrev pub three_from_split : Format (HandleStep ⊎ (TileForStep ⊎ PadStep))
three_from_split = either (step_name SplitHandle) (typed (handle_step SplitHandle) to_three) three_from_tile_for

unfoldable pub three_results : Format ThreeResults
three_results = as_record made_three three_parts three_from_split

-- ---- behind more

abbrev pub made_many : HandleStep ⊎ TileForStep → ManyResults
made_many (inl s) = any.Split s
made_many (inr s) = any.TileFor s

abbrev pub many_parts : ManyResults → HandleStep ⊎ TileForStep
many_parts (any.Split s) = inl s
many_parts (any.TileFor s) = inr s

-- without its types
unfoldable pub many_results : Format ManyResults
many_results = as_record made_many many_parts (either (step_name SplitHandle) (handle_step SplitHandle) tile_for_step)

-- , %name
unfoldable pub next_result : Format NextResult
next_result = as_record (λ t. record { name = t }) (λ n. n.name) (Comma ▸ leaf NewValue)

-- , %d, %e = step, and types from the fifth on
unfoldable pub further : Format Further
further = as_record (λ x. record { name = x.0; names = x.1.0; step = x.1.1.0; types = x.1.1.1 }) (λ f. (f.name, (f.names, (f.step, f.types))))
    (Comma ▸ leaf NewValue ⊗ many (Exactly Comma) next_result (Equals ▸ typed many_results to_four ⊗ more_types))

-- ---- behind one name for all results

abbrev pub made_types : TokenShape ⊎ MoreTypes → GroupTypes
made_types (inl t) = types.One t
made_types (inr m) = types.Several m

abbrev pub types_parts : GroupTypes → TokenShape ⊎ MoreTypes
types_parts (types.One t) = inl t
types_parts (types.Several m) = inr m

-- one type, or two or more in parentheses
unfoldable pub group_types : Format GroupTypes
group_types = as_record made_types types_parts (either (Exactly AnyOp) (leaf (Exactly AnyOp)) (OpenParenthesis ▸ AnyOp ▸ Comma ▸ AnyOp ▸ more_types))

abbrev pub GroupSum : Type 0
GroupSum = SizedStep ⊎ (FuseStep ⊎ (PadStep ⊎ (ManyResults × GroupTypes)))

abbrev pub made_group : GroupSum → GroupStep
made_group (inl s) = grouped.TileForall s
made_group (inr (inl s)) = grouped.FuseInto s
made_group (inr (inr (inl s))) = grouped.Pad s
made_group (inr (inr (inr x))) = grouped.Many x.0 x.1

abbrev pub group_parts : GroupStep → GroupSum
group_parts (grouped.TileForall s) = inl s
group_parts (grouped.FuseInto s) = inr (inl s)
group_parts (grouped.Pad s) = inr (inr (inl s))
group_parts (grouped.Many s t) = inr (inr (inr (s, t)))

abbrev pub group_of_many : Format (ManyResults × GroupTypes)
group_of_many = typed many_results to_any ⊗ group_types

abbrev pub group_from_pad : Format (PadStep ⊎ (ManyResults × GroupTypes))
group_from_pad = either (step_name StructuredPad) (typed pad_step to_three) group_of_many

abbrev pub group_from_fuse : Format (FuseStep ⊎ (PadStep ⊎ (ManyResults × GroupTypes)))
group_from_fuse = either (step_name FuseIntoContainingOp) (typed fuse_step both_to_two) group_from_pad

abbrev pub group_from_tile_forall : Format GroupSum
group_from_tile_forall = either (step_name TileUsingForall) (typed (tiled_step TileUsingForall TileSizes) to_two) group_from_fuse

unfoldable pub group_step : Format GroupStep
group_step = as_record made_group group_parts group_from_tile_forall

-- :3 = step
unfoldable pub group : Format Group
group = as_record (λ x. record { count = x.0; step = x.1 }) (λ g. (g.count, g.step)) (Colon ▸ leaf Number ⊗ Equals ▸ group_step)

-- ---- what stands behind the names

abbrev pub made_behind_third : ThreeResults ⊎ Further → BehindThird
made_behind_third (inl s) = third_rest.Step s
made_behind_third (inr f) = third_rest.More f

abbrev pub behind_third_parts : BehindThird → ThreeResults ⊎ Further
behind_third_parts (third_rest.Step s) = inl s
behind_third_parts (third_rest.More f) = inr f

unfoldable pub behind_third : Format BehindThird
behind_third = as_record made_behind_third behind_third_parts (either (Exactly Equals) (Equals ▸ three_results) further)

unfoldable pub third : Format Third
third = as_record (λ x. record { name = x.0; rest = x.1 }) (λ t. (t.name, t.rest)) (Comma ▸ leaf NewValue ⊗ behind_third)

abbrev pub made_behind_second : TwoResults ⊎ Third → BehindSecond
made_behind_second (inl s) = second_rest.Step s
made_behind_second (inr t) = second_rest.More t

abbrev pub behind_second_parts : BehindSecond → TwoResults ⊎ Third
behind_second_parts (second_rest.Step s) = inl s
behind_second_parts (second_rest.More t) = inr t

unfoldable pub behind_second : Format BehindSecond
behind_second = as_record made_behind_second behind_second_parts (either (Exactly Equals) (Equals ▸ two_results) third)

unfoldable pub second : Format Second
second = as_record (λ x. record { name = x.0; rest = x.1 }) (λ s. (s.name, s.rest)) (Comma ▸ leaf NewValue ⊗ behind_second)

abbrev pub made_behind_first : OneResult ⊎ (Second ⊎ Group) → BehindFirst
made_behind_first (inl s) = first_rest.Step s
made_behind_first (inr (inl s)) = first_rest.More s
made_behind_first (inr (inr g)) = first_rest.Group g

abbrev pub behind_first_parts : BehindFirst → OneResult ⊎ (Second ⊎ Group)
behind_first_parts (first_rest.Step s) = inl s
behind_first_parts (first_rest.More s) = inr (inl s)
behind_first_parts (first_rest.Group g) = inr (inr g)

-- = step, or , %b and so on, or :3 = step
unfoldable pub behind_first : Format BehindFirst
behind_first = as_record made_behind_first behind_first_parts (either (Exactly Equals) (Equals ▸ one_result) (either (Exactly Comma) second group))
