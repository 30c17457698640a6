-- The laws of the operations of a payload's steps: each production's follow from those of its parts.
use Rattle.std.specs.Prelude.{◌≡◌, true, refl, ◌⊎◌}
use Rattle.std.proofs.Common.{inl, inr}
use Rattle.text_format.specs.declared.class.Class.TheVariants.{Exactly, Name, BinaryName, CastName, Value, ElementType, Predicate, Number}
use Rattle.text_format.specs.declared.class.Position.TheVariants.{PayloadStep}
use Rattle.text_format.specs.declared.lexeme.Lexeme.TheVariants.{OpenParenthesis, CloseParenthesis, OpenBracket, CloseBracket, Comma, Colon, To, ArithConstant, ArithCmpi, ArithSelect, ArithIndexCast, LinalgIndex, AffineApply}
use Rattle.text_format.specs.declared.lexeme.Lexeme.TheVariants as words
use Rattle.text_format.specs.Laws.{IsExact, avoids}
use Rattle.text_format.specs.Exact.{leaf-exact, before-exact, record-exact, either-exact, ◌⊠◌, ◌▹◌}
use Rattle.text_format.specs.Many.{list-exact, list_with_close-exact}
use Rattle.text_format.specs.Open.{IsOpen, exact-open, record-open, last-open, either-open}
use Rattle.text_format.specs.Formats.{either}
use Rattle.mlir_syntax.specs.declared.tree.steps.BinaryStep.{BinaryStep}
use Rattle.mlir_syntax.specs.declared.tree.steps.ConstantStep.{ConstantStep}
use Rattle.mlir_syntax.specs.declared.tree.steps.CompareStep.{CompareStep}
use Rattle.mlir_syntax.specs.declared.tree.steps.SelectStep.{SelectStep}
use Rattle.mlir_syntax.specs.declared.tree.steps.CastStep.{CastStep}
use Rattle.mlir_syntax.specs.declared.tree.steps.IndexCastStep.{IndexCastStep}
use Rattle.mlir_syntax.specs.declared.tree.steps.IndexStep.{IndexStep}
use Rattle.mlir_syntax.specs.declared.tree.steps.StepOperation.{StepOperation}
use Rattle.mlir_syntax.specs.declared.tree.steps.StepOperation.TheVariants as operations
use Rattle.mlir_syntax.specs.Steps.{constant_step, binary_step, compare_step, select_step, conversion, cast_step, index_cast_step, index_step, apply_operand, apply_symbols, apply_step, index_cast_or, select_or, compare_or, constant_or, binary_or, StepParts, made_step, step_parts, step_operation}
use Rattle.mlir_syntax.specs.LiteralLaws.{scalar_literal-exact}
use Rattle.mlir_syntax.specs.MapLaws.{map_use-exact}

pub constant_step-exact : IsExact constant_step
unfolding constant_step
constant_step-exact = record-exact _ _ _ (λ _. refl) (λ _. refl) (leaf-exact (Name PayloadStep ArithConstant) ⊠ scalar_literal-exact)

pub binary_step-exact : IsExact binary_step
unfolding binary_step
binary_step-exact = record-exact _ _ _ (λ _. refl) (λ _. refl) (leaf-exact (BinaryName PayloadStep) ⊠ leaf-exact Value ⊠ Comma ▹ leaf-exact Value ⊠ Colon ▹ leaf-exact ElementType)

pub compare_step-exact : IsExact compare_step
unfolding compare_step
compare_step-exact = record-exact _ _ _ (λ _. refl) (λ _. refl)
    (leaf-exact (Name PayloadStep ArithCmpi) ⊠ leaf-exact Predicate ⊠ Comma ▹ leaf-exact Value ⊠ Comma ▹ leaf-exact Value ⊠ Colon ▹ leaf-exact ElementType)

pub select_step-exact : IsExact select_step
unfolding select_step
select_step-exact = record-exact _ _ _ (λ _. refl) (λ _. refl)
    (leaf-exact (Name PayloadStep ArithSelect) ⊠ leaf-exact Value ⊠ Comma ▹ leaf-exact Value ⊠ Comma ▹ leaf-exact Value ⊠ Colon ▹ leaf-exact ElementType)

pub conversion-exact : IsExact conversion
unfolding conversion
conversion-exact = record-exact _ _ _ (λ _. refl) (λ _. refl) (leaf-exact Value ⊠ Colon ▹ leaf-exact ElementType ⊠ To ▹ leaf-exact ElementType)

pub cast_step-exact : IsExact cast_step
unfolding cast_step
cast_step-exact = record-exact _ _ _ (λ _. refl) (λ _. refl) (leaf-exact (CastName PayloadStep) ⊠ conversion-exact)

pub index_cast_step-exact : IsExact index_cast_step
unfolding index_cast_step
index_cast_step-exact = record-exact _ _ _ (λ _. refl) (λ _. refl) (leaf-exact (Name PayloadStep ArithIndexCast) ⊠ conversion-exact)

pub index_step-exact : IsExact index_step
unfolding index_step
index_step-exact = record-exact _ _ _ (λ _. refl) (λ _. refl) (leaf-exact (Name PayloadStep LinalgIndex) ⊠ before-exact words.Index (before-exact Colon (leaf-exact Number)))

pub apply_operand-exact : IsExact apply_operand
unfolding apply_operand
apply_operand-exact = record-exact _ _ _ (λ _. refl) (λ _. refl) (leaf-exact Value)

pub apply_symbols-exact : IsExact apply_symbols
unfolding apply_symbols apply_operand
apply_symbols-exact = record-exact _ _ _ (λ _. refl) (λ _. refl) (OpenBracket ▹ list_with_close-exact CloseBracket apply_operand-exact (λ _. refl) refl)

pub apply_step-open : IsOpen (Exactly OpenBracket) apply_step
unfolding apply_step apply_operand apply_symbols
apply_step-open = record-open _ _ _ _ (λ _. refl) (λ _. refl)
    (last-open (Exactly OpenBracket) (leaf-exact (Name PayloadStep AffineApply) ⊠ map_use-exact ⊠ OpenParenthesis ▹ list-exact CloseParenthesis apply_operand-exact (λ _. refl) refl) apply_symbols-exact (λ _. refl))

step_back : (x : StepParts) → step_parts (made_step x) ≡ x
step_back (inl a) = refl
step_back (inr (inl b)) = refl
step_back (inr (inr (inl c))) = refl
step_back (inr (inr (inr (inl c)))) = refl
step_back (inr (inr (inr (inr (inl s))))) = refl
step_back (inr (inr (inr (inr (inr (inl c)))))) = refl
step_back (inr (inr (inr (inr (inr (inr (inl i))))))) = refl
step_back (inr (inr (inr (inr (inr (inr (inr c))))))) = refl

step_forth : (o : StepOperation) → made_step (step_parts o) ≡ o
step_forth (operations.Apply a) = refl
step_forth (operations.Binary b) = refl
step_forth (operations.Constant c) = refl
step_forth (operations.Compare c) = refl
step_forth (operations.Select s) = refl
step_forth (operations.IndexCast c) = refl
step_forth (operations.Index i) = refl
step_forth (operations.Cast c) = refl

-- no later operation begins with an earlier one's name
index_avoids : (x : IndexStep ⊎ CastStep) → avoids (Name PayloadStep ArithIndexCast) ((either (Name PayloadStep LinalgIndex) index_step cast_step).spell x) ≡ true
unfolding index_step cast_step
index_avoids (inl i) = refl
index_avoids (inr c) = refl

cast_avoids : (x : IndexCastStep ⊎ (IndexStep ⊎ CastStep)) → avoids (Name PayloadStep ArithSelect) (index_cast_or.spell x) ≡ true
unfolding index_cast_step index_step cast_step
cast_avoids (inl c) = refl
cast_avoids (inr (inl i)) = refl
cast_avoids (inr (inr c)) = refl

select_avoids : (x : SelectStep ⊎ (IndexCastStep ⊎ (IndexStep ⊎ CastStep))) → avoids (Name PayloadStep ArithCmpi) (select_or.spell x) ≡ true
unfolding select_step index_cast_step index_step cast_step
select_avoids (inl s) = refl
select_avoids (inr (inl c)) = refl
select_avoids (inr (inr (inl i))) = refl
select_avoids (inr (inr (inr c))) = refl

compare_avoids : (x : CompareStep ⊎ (SelectStep ⊎ (IndexCastStep ⊎ (IndexStep ⊎ CastStep)))) → avoids (Name PayloadStep ArithConstant) (compare_or.spell x) ≡ true
unfolding compare_step select_step index_cast_step index_step cast_step
compare_avoids (inl c) = refl
compare_avoids (inr (inl s)) = refl
compare_avoids (inr (inr (inl c))) = refl
compare_avoids (inr (inr (inr (inl i)))) = refl
compare_avoids (inr (inr (inr (inr c)))) = refl

constant_avoids : (x : ConstantStep ⊎ (CompareStep ⊎ (SelectStep ⊎ (IndexCastStep ⊎ (IndexStep ⊎ CastStep))))) → avoids (BinaryName PayloadStep) (constant_or.spell x) ≡ true
unfolding constant_step compare_step select_step index_cast_step index_step cast_step
constant_avoids (inl c) = refl
constant_avoids (inr (inl c)) = refl
constant_avoids (inr (inr (inl s))) = refl
constant_avoids (inr (inr (inr (inl c)))) = refl
constant_avoids (inr (inr (inr (inr (inl i))))) = refl
constant_avoids (inr (inr (inr (inr (inr c))))) = refl

binary_avoids : (x : BinaryStep ⊎ (ConstantStep ⊎ (CompareStep ⊎ (SelectStep ⊎ (IndexCastStep ⊎ (IndexStep ⊎ CastStep)))))) → avoids (Name PayloadStep AffineApply) (binary_or.spell x) ≡ true
unfolding binary_step constant_step compare_step select_step index_cast_step index_step cast_step
binary_avoids (inl b) = refl
binary_avoids (inr (inl c)) = refl
binary_avoids (inr (inr (inl c))) = refl
binary_avoids (inr (inr (inr (inl s)))) = refl
binary_avoids (inr (inr (inr (inr (inl c))))) = refl
binary_avoids (inr (inr (inr (inr (inr (inl i)))))) = refl
binary_avoids (inr (inr (inr (inr (inr (inr c)))))) = refl

pub step_operation-open : IsOpen (Exactly OpenBracket) step_operation
unfolding step_operation constant_step binary_step compare_step select_step index_cast_step index_step cast_step apply_step
step_operation-open =
    let index = either-exact (Name PayloadStep LinalgIndex) index_step-exact cast_step-exact (λ _. refl) (λ _. refl) in
    let cast = either-exact (Name PayloadStep ArithIndexCast) index_cast_step-exact index (λ _. refl) index_avoids in
    let select = either-exact (Name PayloadStep ArithSelect) select_step-exact cast (λ _. refl) cast_avoids in
    let compare = either-exact (Name PayloadStep ArithCmpi) compare_step-exact select (λ _. refl) select_avoids in
    let constant = either-exact (Name PayloadStep ArithConstant) constant_step-exact compare (λ _. refl) compare_avoids in
    let binary = either-exact (BinaryName PayloadStep) binary_step-exact constant (λ _. refl) constant_avoids in
    record-open _ _ _ _ step_back step_forth (either-open (Name PayloadStep AffineApply) (Exactly OpenBracket) apply_step-open (exact-open (Exactly OpenBracket) binary) (λ _. refl) binary_avoids)
