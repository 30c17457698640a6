-- The laws of steps behind the names of their results: each production's follow from those of its parts.
use Rattle.std.specs.Prelude.{◌≡◌, true, refl, ◌⊎◌}
use Rattle.std.proofs.Common.{inl, inr}
use Rattle.text_format.specs.declared.class.Class.{Class}
use Rattle.text_format.specs.declared.class.Class.TheVariants.{Exactly, NewValue, Number}
use Rattle.text_format.specs.declared.lexeme.Lexeme.TheVariants.{OpenParenthesis, CloseParenthesis, Comma, Colon, Equals, Arrow, AnyOp, StructuredMatch, StructuredGeneralize, StructuredInterchange, TileUsingFor, TileUsingForall, FuseIntoContainingOp, StructuredPad, StructuredPack, SplitHandle, IteratorInterchange, TileSizes, PackedSizes}
use Rattle.text_format.specs.Token.{TokenShape}
use Rattle.text_format.specs.Classes.{apart}
use Rattle.text_format.specs.Formats.{Format, ◌⊗◌, either}
use Rattle.text_format.specs.Laws.{IsExact, avoids}
use Rattle.text_format.specs.Exact.{leaf-exact, only-exact, before-exact, record-exact, either-exact, ◌⊠◌, ◌▹◌}
use Rattle.text_format.specs.Many.{many-exact}
use Rattle.script_syntax.specs.declared.tree.steps.HandleStep.{HandleStep}
use Rattle.script_syntax.specs.declared.tree.steps.MatchStep.{MatchStep}
use Rattle.script_syntax.specs.declared.tree.steps.SizedStep.{SizedStep}
use Rattle.script_syntax.specs.declared.tree.steps.TileForStep.{TileForStep}
use Rattle.script_syntax.specs.declared.tree.steps.FuseStep.{FuseStep}
use Rattle.script_syntax.specs.declared.tree.steps.PadStep.{PadStep}
use Rattle.script_syntax.specs.declared.tree.results.MoreTypes.{MoreTypes}
use Rattle.script_syntax.specs.declared.tree.results.OneResult.{OneResult}
use Rattle.script_syntax.specs.declared.tree.results.OneResult.TheVariants as one
use Rattle.script_syntax.specs.declared.tree.results.TwoResults.{TwoResults}
use Rattle.script_syntax.specs.declared.tree.results.TwoResults.TheVariants as two
use Rattle.script_syntax.specs.declared.tree.results.ThreeResults.{ThreeResults}
use Rattle.script_syntax.specs.declared.tree.results.ThreeResults.TheVariants as three
use Rattle.script_syntax.specs.declared.tree.results.ManyResults.{ManyResults}
use Rattle.script_syntax.specs.declared.tree.results.ManyResults.TheVariants as any
use Rattle.script_syntax.specs.declared.tree.results.GroupTypes.{GroupTypes}
use Rattle.script_syntax.specs.declared.tree.results.GroupTypes.TheVariants as types
use Rattle.script_syntax.specs.declared.tree.results.GroupStep.{GroupStep}
use Rattle.script_syntax.specs.declared.tree.results.GroupStep.TheVariants as grouped
use Rattle.script_syntax.specs.declared.tree.results.Group.{Group}
use Rattle.script_syntax.specs.declared.tree.results.Further.{Further}
use Rattle.script_syntax.specs.declared.tree.results.BehindThird.{BehindThird}
use Rattle.script_syntax.specs.declared.tree.results.BehindThird.TheVariants as third_rest
use Rattle.script_syntax.specs.declared.tree.results.Third.{Third}
use Rattle.script_syntax.specs.declared.tree.results.BehindSecond.{BehindSecond}
use Rattle.script_syntax.specs.declared.tree.results.BehindSecond.TheVariants as second_rest
use Rattle.script_syntax.specs.declared.tree.results.Second.{Second}
use Rattle.script_syntax.specs.declared.tree.results.BehindFirst.{BehindFirst}
use Rattle.script_syntax.specs.declared.tree.results.BehindFirst.TheVariants as first_rest
use Rattle.script_syntax.specs.Steps.{step_name, handle_step, pass_step, match_step, sized_step, tiled_step, tile_for_step, fuse_step, pad_step}
use Rattle.script_syntax.specs.StepLaws.{handle_step-exact, pass_step-exact, match_step-exact, sized_step-exact, tiled_step-exact, tile_for_step-exact, fuse_step-exact, pad_step-exact}
use Rattle.script_syntax.specs.Results.{Fixed, typed, to_one, to_two, both_to_two, to_three, to_four, to_any, next_type, more_types, OneSum, made_one, one_parts, one_result, made_two, two_parts, two_results, made_three, three_parts, three_results, made_many, many_parts, many_results, next_result, further, made_types, types_parts, group_types, GroupSum, made_group, group_parts, group_step, group, one_from_pack, one_from_interchange, one_from_tile_for, one_from_generalize, one_from_split, one_from_match, two_from_tile_forall, two_from_tile_for, two_from_split, three_from_tile_for, three_from_split, group_from_pad, group_from_fuse, group_from_tile_forall, group_of_many, made_behind_third, behind_third_parts, behind_third, third, made_behind_second, behind_second_parts, behind_second, second, made_behind_first, behind_first_parts, behind_first}

-- ---- types

pub typed-exact : {A : Type 0} {f : Format A} {g : Fixed} → IsExact f → IsExact g → IsExact (typed f g)
typed-exact {A} {f} {g} p q = record-exact (λ x. x.0) (λ y. (y, tt)) (f ⊗ g) (λ _. refl) (λ _. refl) (p ⊠ q)

pub to_one-exact : IsExact to_one
unfolding to_one
to_one-exact = Colon ▹ OpenParenthesis ▹ AnyOp ▹ CloseParenthesis ▹ Arrow ▹ only-exact AnyOp

pub to_two-exact : IsExact to_two
unfolding to_two
to_two-exact = Colon ▹ OpenParenthesis ▹ AnyOp ▹ CloseParenthesis ▹ Arrow ▹ OpenParenthesis ▹ AnyOp ▹ Comma ▹ AnyOp ▹ only-exact CloseParenthesis

pub both_to_two-exact : IsExact both_to_two
unfolding both_to_two
both_to_two-exact = Colon ▹ OpenParenthesis ▹ AnyOp ▹ Comma ▹ AnyOp ▹ CloseParenthesis ▹ Arrow ▹ OpenParenthesis ▹ AnyOp ▹ Comma ▹ AnyOp ▹ only-exact CloseParenthesis

pub to_three-exact : IsExact to_three
unfolding to_three
to_three-exact = Colon ▹ OpenParenthesis ▹ AnyOp ▹ CloseParenthesis ▹ Arrow ▹ OpenParenthesis ▹ AnyOp ▹ Comma ▹ AnyOp ▹ Comma ▹ AnyOp ▹ only-exact CloseParenthesis

pub to_four-exact : IsExact to_four
unfolding to_four
to_four-exact = Colon ▹ OpenParenthesis ▹ AnyOp ▹ CloseParenthesis ▹ Arrow ▹ OpenParenthesis ▹ AnyOp ▹ Comma ▹ AnyOp ▹ Comma ▹ AnyOp ▹ Comma ▹ only-exact AnyOp

pub to_any-exact : IsExact to_any
unfolding to_any
to_any-exact = Colon ▹ OpenParenthesis ▹ AnyOp ▹ CloseParenthesis ▹ only-exact Arrow

pub next_type-exact : IsExact next_type
unfolding next_type
next_type-exact = record-exact _ _ _ (λ _. refl) (λ _. refl) (before-exact AnyOp (leaf-exact (Exactly Comma)))

pub more_types-exact : IsExact more_types
unfolding more_types next_type
more_types-exact = record-exact _ _ _ (λ _. refl) (λ _. refl) (many-exact (Exactly Comma) next_type-exact (leaf-exact (Exactly CloseParenthesis)) (λ _. refl) (λ _. refl))

-- ---- behind one name

one_back : (x : OneSum) → one_parts (made_one x) ≡ x
one_back (inl s) = refl
one_back (inr (inl s)) = refl
one_back (inr (inr (inl s))) = refl
one_back (inr (inr (inr (inl s)))) = refl
one_back (inr (inr (inr (inr (inl s))))) = refl
one_back (inr (inr (inr (inr (inr (inl s)))))) = refl
one_back (inr (inr (inr (inr (inr (inr s)))))) = refl

one_forth : (s : OneResult) → made_one (one_parts s) ≡ s
one_forth (one.Match s) = refl
one_forth (one.Split s) = refl
one_forth (one.Generalize s) = refl
one_forth (one.TileFor s) = refl
one_forth (one.Interchange s) = refl
one_forth (one.Pack s) = refl
one_forth (one.FuseElementwise s) = refl

one_from_pack-exact : IsExact one_from_pack
unfolding sized_step pass_step
one_from_pack-exact = either-exact (step_name StructuredPack) (typed-exact (sized_step-exact StructuredPack PackedSizes) to_one-exact) (typed-exact pass_step-exact to_one-exact) (λ _. refl) (λ _. refl)

apart_one_interchange : (x : SizedStep ⊎ HandleStep) → avoids (step_name StructuredInterchange) (one_from_pack.spell x) ≡ true
unfolding sized_step pass_step
apart_one_interchange (inl s) = refl
apart_one_interchange (inr s) = refl

one_from_interchange-exact : IsExact one_from_interchange
unfolding sized_step pass_step
one_from_interchange-exact = either-exact (step_name StructuredInterchange) (typed-exact (sized_step-exact StructuredInterchange IteratorInterchange) to_one-exact) one_from_pack-exact (λ _. refl) apart_one_interchange

apart_one_tile_for : (x : SizedStep ⊎ (SizedStep ⊎ HandleStep)) → avoids (step_name TileUsingFor) (one_from_interchange.spell x) ≡ true
unfolding tile_for_step sized_step pass_step
apart_one_tile_for (inl s) = refl
apart_one_tile_for (inr (inl s)) = refl
apart_one_tile_for (inr (inr s)) = refl

one_from_tile_for-exact : IsExact one_from_tile_for
unfolding tile_for_step sized_step pass_step
one_from_tile_for-exact = either-exact (step_name TileUsingFor) (typed-exact tile_for_step-exact to_one-exact) one_from_interchange-exact (λ _. refl) apart_one_tile_for

apart_one_generalize : (x : TileForStep ⊎ (SizedStep ⊎ (SizedStep ⊎ HandleStep))) → avoids (step_name StructuredGeneralize) (one_from_tile_for.spell x) ≡ true
unfolding handle_step tile_for_step sized_step pass_step
apart_one_generalize (inl s) = refl
apart_one_generalize (inr (inl s)) = refl
apart_one_generalize (inr (inr (inl s))) = refl
apart_one_generalize (inr (inr (inr s))) = refl

one_from_generalize-exact : IsExact one_from_generalize
unfolding handle_step tile_for_step sized_step pass_step
one_from_generalize-exact = either-exact (step_name StructuredGeneralize) (typed-exact (handle_step-exact StructuredGeneralize) to_one-exact) one_from_tile_for-exact (λ _. refl) apart_one_generalize

apart_one_split : (x : HandleStep ⊎ (TileForStep ⊎ (SizedStep ⊎ (SizedStep ⊎ HandleStep)))) → avoids (step_name SplitHandle) (one_from_generalize.spell x) ≡ true
unfolding handle_step tile_for_step sized_step pass_step
apart_one_split (inl s) = refl
apart_one_split (inr (inl s)) = refl
apart_one_split (inr (inr (inl s))) = refl
apart_one_split (inr (inr (inr (inl s)))) = refl
apart_one_split (inr (inr (inr (inr s)))) = refl

one_from_split-exact : IsExact one_from_split
unfolding handle_step tile_for_step sized_step pass_step
one_from_split-exact = either-exact (step_name SplitHandle) (typed-exact (handle_step-exact SplitHandle) to_one-exact) one_from_generalize-exact (λ _. refl) apart_one_split

apart_one_match : (x : HandleStep ⊎ (HandleStep ⊎ (TileForStep ⊎ (SizedStep ⊎ (SizedStep ⊎ HandleStep))))) → avoids (step_name StructuredMatch) (one_from_split.spell x) ≡ true
unfolding match_step handle_step tile_for_step sized_step pass_step
apart_one_match (inl s) = refl
apart_one_match (inr (inl s)) = refl
apart_one_match (inr (inr (inl s))) = refl
apart_one_match (inr (inr (inr (inl s)))) = refl
apart_one_match (inr (inr (inr (inr (inl s))))) = refl
apart_one_match (inr (inr (inr (inr (inr s))))) = refl

one_from_match-exact : IsExact one_from_match
unfolding match_step handle_step tile_for_step sized_step pass_step
one_from_match-exact = either-exact (step_name StructuredMatch) (typed-exact match_step-exact to_one-exact) one_from_split-exact (λ _. refl) apart_one_match

pub one_result-exact : IsExact one_result
unfolding one_result
one_result-exact = record-exact _ _ _ one_back one_forth one_from_match-exact

-- ---- behind two

two_back : (x : HandleStep ⊎ (TileForStep ⊎ (SizedStep ⊎ FuseStep))) → two_parts (made_two x) ≡ x
two_back (inl s) = refl
two_back (inr (inl s)) = refl
two_back (inr (inr (inl s))) = refl
two_back (inr (inr (inr s))) = refl

two_forth : (s : TwoResults) → made_two (two_parts s) ≡ s
two_forth (two.Split s) = refl
two_forth (two.TileFor s) = refl
two_forth (two.TileForall s) = refl
two_forth (two.FuseInto s) = refl

two_from_tile_forall-exact : IsExact two_from_tile_forall
unfolding tiled_step fuse_step
two_from_tile_forall-exact = either-exact (step_name TileUsingForall) (typed-exact (tiled_step-exact TileUsingForall TileSizes) to_two-exact) (typed-exact fuse_step-exact both_to_two-exact) (λ _. refl) (λ _. refl)

apart_two_tile_for : (x : SizedStep ⊎ FuseStep) → avoids (step_name TileUsingFor) (two_from_tile_forall.spell x) ≡ true
unfolding tile_for_step tiled_step fuse_step
apart_two_tile_for (inl s) = refl
apart_two_tile_for (inr s) = refl

two_from_tile_for-exact : IsExact two_from_tile_for
unfolding tile_for_step tiled_step fuse_step
two_from_tile_for-exact = either-exact (step_name TileUsingFor) (typed-exact tile_for_step-exact to_two-exact) two_from_tile_forall-exact (λ _. refl) apart_two_tile_for

apart_two_split : (x : TileForStep ⊎ (SizedStep ⊎ FuseStep)) → avoids (step_name SplitHandle) (two_from_tile_for.spell x) ≡ true
unfolding handle_step tile_for_step tiled_step fuse_step
apart_two_split (inl s) = refl
apart_two_split (inr (inl s)) = refl
apart_two_split (inr (inr s)) = refl

two_from_split-exact : IsExact two_from_split
unfolding handle_step tile_for_step tiled_step fuse_step
two_from_split-exact = either-exact (step_name SplitHandle) (typed-exact (handle_step-exact SplitHandle) to_two-exact) two_from_tile_for-exact (λ _. refl) apart_two_split

pub two_results-exact : IsExact two_results
unfolding two_results
two_results-exact = record-exact _ _ _ two_back two_forth two_from_split-exact

-- ---- behind three

three_back : (x : HandleStep ⊎ (TileForStep ⊎ PadStep)) → three_parts (made_three x) ≡ x
three_back (inl s) = refl
three_back (inr (inl s)) = refl
three_back (inr (inr s)) = refl

three_forth : (s : ThreeResults) → made_three (three_parts s) ≡ s
three_forth (three.Split s) = refl
three_forth (three.TileFor s) = refl
three_forth (three.Pad s) = refl

three_from_tile_for-exact : IsExact three_from_tile_for
unfolding tile_for_step pad_step
three_from_tile_for-exact = either-exact (step_name TileUsingFor) (typed-exact tile_for_step-exact to_three-exact) (typed-exact pad_step-exact to_three-exact) (λ _. refl) (λ _. refl)

apart_three_split : (x : TileForStep ⊎ PadStep) → avoids (step_name SplitHandle) (three_from_tile_for.spell x) ≡ true
unfolding handle_step tile_for_step pad_step
apart_three_split (inl s) = refl
apart_three_split (inr s) = refl

three_from_split-exact : IsExact three_from_split
unfolding handle_step tile_for_step pad_step
three_from_split-exact = either-exact (step_name SplitHandle) (typed-exact (handle_step-exact SplitHandle) to_three-exact) three_from_tile_for-exact (λ _. refl) apart_three_split

pub three_results-exact : IsExact three_results
unfolding three_results
three_results-exact = record-exact _ _ _ three_back three_forth three_from_split-exact

-- ---- behind more

many_back : (x : HandleStep ⊎ TileForStep) → many_parts (made_many x) ≡ x
many_back (inl s) = refl
many_back (inr s) = refl

many_forth : (s : ManyResults) → made_many (many_parts s) ≡ s
many_forth (any.Split s) = refl
many_forth (any.TileFor s) = refl

pub many_results-exact : IsExact many_results
unfolding many_results handle_step tile_for_step
many_results-exact = record-exact _ _ _ many_back many_forth (either-exact (step_name SplitHandle) (handle_step-exact SplitHandle) tile_for_step-exact (λ _. refl) (λ _. refl))

pub next_result-exact : IsExact next_result
unfolding next_result
next_result-exact = record-exact _ _ _ (λ _. refl) (λ _. refl) (Comma ▹ leaf-exact NewValue)

pub further-exact : IsExact further
unfolding further next_result
further-exact = record-exact _ _ _ (λ _. refl) (λ _. refl)
    (Comma ▹ leaf-exact NewValue ⊠ many-exact (Exactly Comma) next_result-exact (Equals ▹ typed-exact many_results-exact to_four-exact ⊠ more_types-exact) (λ _. refl) (λ _. refl))

-- ---- behind one name for all results

types_back : (x : TokenShape ⊎ MoreTypes) → types_parts (made_types x) ≡ x
types_back (inl t) = refl
types_back (inr m) = refl

types_forth : (t : GroupTypes) → made_types (types_parts t) ≡ t
types_forth (types.One t) = refl
types_forth (types.Several m) = refl

pub group_types-exact : IsExact group_types
unfolding group_types
group_types-exact = record-exact _ _ _ types_back types_forth
    (either-exact (Exactly AnyOp) (leaf-exact (Exactly AnyOp)) (OpenParenthesis ▹ AnyOp ▹ Comma ▹ AnyOp ▹ more_types-exact) (λ _. refl) (λ _. refl))

group_back : (x : GroupSum) → group_parts (made_group x) ≡ x
group_back (inl s) = refl
group_back (inr (inl s)) = refl
group_back (inr (inr (inl s))) = refl
group_back (inr (inr (inr x))) = refl

group_forth : (s : GroupStep) → made_group (group_parts s) ≡ s
group_forth (grouped.TileForall s) = refl
group_forth (grouped.FuseInto s) = refl
group_forth (grouped.Pad s) = refl
group_forth (grouped.Many s t) = refl

-- how a step with any number of results begins
apart_many : (c : Class) → apart (step_name SplitHandle) c ≡ true → apart (step_name TileUsingFor) c ≡ true → (x : ManyResults × GroupTypes) → avoids c (group_of_many.spell x) ≡ true
unfolding many_results handle_step tile_for_step
apart_many c p q (any.Split s, t) = p
apart_many c p q (any.TileFor s, t) = q

group_of_many-exact : IsExact group_of_many
group_of_many-exact = typed-exact many_results-exact to_any-exact ⊠ group_types-exact

group_from_pad-exact : IsExact group_from_pad
unfolding pad_step
group_from_pad-exact = either-exact (step_name StructuredPad) (typed-exact pad_step-exact to_three-exact) group_of_many-exact (λ _. refl) (apart_many (step_name StructuredPad) refl refl)

apart_group_fuse : (x : PadStep ⊎ (ManyResults × GroupTypes)) → avoids (step_name FuseIntoContainingOp) (group_from_pad.spell x) ≡ true
unfolding pad_step
apart_group_fuse (inl s) = refl
apart_group_fuse (inr x) = apart_many (step_name FuseIntoContainingOp) refl refl x

group_from_fuse-exact : IsExact group_from_fuse
unfolding fuse_step
group_from_fuse-exact = either-exact (step_name FuseIntoContainingOp) (typed-exact fuse_step-exact both_to_two-exact) group_from_pad-exact (λ _. refl) apart_group_fuse

apart_group_tile_forall : (x : FuseStep ⊎ (PadStep ⊎ (ManyResults × GroupTypes))) → avoids (step_name TileUsingForall) (group_from_fuse.spell x) ≡ true
unfolding fuse_step pad_step
apart_group_tile_forall (inl s) = refl
apart_group_tile_forall (inr (inl s)) = refl
apart_group_tile_forall (inr (inr x)) = apart_many (step_name TileUsingForall) refl refl x

group_from_tile_forall-exact : IsExact group_from_tile_forall
unfolding tiled_step
group_from_tile_forall-exact = either-exact (step_name TileUsingForall) (typed-exact (tiled_step-exact TileUsingForall TileSizes) to_two-exact) group_from_fuse-exact (λ _. refl) apart_group_tile_forall

pub group_step-exact : IsExact group_step
unfolding group_step
group_step-exact = record-exact _ _ _ group_back group_forth group_from_tile_forall-exact

pub group-exact : IsExact group
unfolding group
group-exact = record-exact _ _ _ (λ _. refl) (λ _. refl) (Colon ▹ leaf-exact Number ⊠ Equals ▹ group_step-exact)

-- ---- what stands behind the names

third_back : (x : ThreeResults ⊎ Further) → behind_third_parts (made_behind_third x) ≡ x
third_back (inl s) = refl
third_back (inr f) = refl

third_forth : (s : BehindThird) → made_behind_third (behind_third_parts s) ≡ s
third_forth (third_rest.Step s) = refl
third_forth (third_rest.More f) = refl

pub behind_third-exact : IsExact behind_third
unfolding behind_third further
behind_third-exact = record-exact _ _ _ third_back third_forth (either-exact (Exactly Equals) (Equals ▹ three_results-exact) further-exact (λ _. refl) (λ _. refl))

pub third-exact : IsExact third
unfolding third
third-exact = record-exact _ _ _ (λ _. refl) (λ _. refl) (Comma ▹ leaf-exact NewValue ⊠ behind_third-exact)

second_back : (x : TwoResults ⊎ Third) → behind_second_parts (made_behind_second x) ≡ x
second_back (inl s) = refl
second_back (inr t) = refl

second_forth : (s : BehindSecond) → made_behind_second (behind_second_parts s) ≡ s
second_forth (second_rest.Step s) = refl
second_forth (second_rest.More t) = refl

pub behind_second-exact : IsExact behind_second
unfolding behind_second third
behind_second-exact = record-exact _ _ _ second_back second_forth (either-exact (Exactly Equals) (Equals ▹ two_results-exact) third-exact (λ _. refl) (λ _. refl))

pub second-exact : IsExact second
unfolding second
second-exact = record-exact _ _ _ (λ _. refl) (λ _. refl) (Comma ▹ leaf-exact NewValue ⊠ behind_second-exact)

first_back : (x : OneResult ⊎ (Second ⊎ Group)) → behind_first_parts (made_behind_first x) ≡ x
first_back (inl s) = refl
first_back (inr (inl s)) = refl
first_back (inr (inr g)) = refl

first_forth : (s : BehindFirst) → made_behind_first (behind_first_parts s) ≡ s
first_forth (first_rest.Step s) = refl
first_forth (first_rest.More s) = refl
first_forth (first_rest.Group g) = refl

unequal : (x : Second ⊎ Group) → avoids (Exactly Equals) ((either (Exactly Comma) second group).spell x) ≡ true
unfolding second group
unequal (inl s) = refl
unequal (inr g) = refl

pub behind_first-exact : IsExact behind_first
unfolding behind_first second group
behind_first-exact = record-exact _ _ _ first_back first_forth (either-exact (Exactly Equals) (Equals ▹ one_result-exact) (either-exact (Exactly Comma) second-exact group-exact (λ _. refl) (λ _. refl)) (λ _. refl) unequal)
