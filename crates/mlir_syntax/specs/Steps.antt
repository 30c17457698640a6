-- The grammar of the operations of a payload's steps (MLIR Arith dialect; Linalg dialect, "linalg.index"; Affine dialect, "affine.apply").
use Rattle.std.specs.Prelude.{◌⊎◌}
use Rattle.std.proofs.Common.{inl, inr}
use Rattle.text_format.specs.declared.class.Class.TheVariants.{Exactly, Name, BinaryName, CastName, Value, ElementType, Predicate, Number}
use Rattle.text_format.specs.declared.class.Position.TheVariants.{PayloadStep}
use Rattle.text_format.specs.declared.lexeme.Lexeme.TheVariants.{OpenParenthesis, CloseParenthesis, OpenBracket, CloseBracket, Comma, Colon, To, ArithConstant, ArithCmpi, ArithSelect, ArithIndexCast, LinalgIndex, AffineApply}
use Rattle.text_format.specs.declared.lexeme.Lexeme.TheVariants as words
use Rattle.text_format.specs.Formats.{Format, leaf, before, ◌▸◌, ◌⊗◌, as_record, either, list_before, list_with_close}
use Rattle.text_format.specs.Ends.{with_last}
use Rattle.mlir_syntax.specs.declared.tree.steps.ConstantStep.{ConstantStep}
use Rattle.mlir_syntax.specs.declared.tree.steps.BinaryStep.{BinaryStep}
use Rattle.mlir_syntax.specs.declared.tree.steps.CompareStep.{CompareStep}
use Rattle.mlir_syntax.specs.declared.tree.steps.SelectStep.{SelectStep}
use Rattle.mlir_syntax.specs.declared.tree.steps.Conversion.{Conversion}
use Rattle.mlir_syntax.specs.declared.tree.steps.CastStep.{CastStep}
use Rattle.mlir_syntax.specs.declared.tree.steps.IndexCastStep.{IndexCastStep}
use Rattle.mlir_syntax.specs.declared.tree.steps.IndexStep.{IndexStep}
use Rattle.mlir_syntax.specs.declared.tree.steps.ApplyOperand.{ApplyOperand}
use Rattle.mlir_syntax.specs.declared.tree.steps.ApplySymbols.{ApplySymbols}
use Rattle.mlir_syntax.specs.declared.tree.steps.ApplyStep.{ApplyStep}
use Rattle.mlir_syntax.specs.declared.tree.steps.StepOperation.{StepOperation}
use Rattle.mlir_syntax.specs.declared.tree.steps.StepOperation.TheVariants as operations
use Rattle.mlir_syntax.specs.Literals.{scalar_literal}
use Rattle.mlir_syntax.specs.Maps.{map_use}

-- arith.constant -5 : i32
unfoldable pub constant_step : Format ConstantStep
constant_step = as_record (λ x. record { name = x.0; literal = x.1 }) (λ c. (c.name, c.literal)) (leaf (Name PayloadStep ArithConstant) ⊗ scalar_literal)

-- arith.addi %x, %y : i32
unfoldable pub binary_step : Format BinaryStep
binary_step = as_record (λ x. record { name = x.0; left = x.1.0; right = x.1.1.0; ty = x.1.1.1 }) (λ b. (b.name, (b.left, (b.right, b.ty))))
    (leaf (BinaryName PayloadStep) ⊗ leaf Value ⊗ Comma ▸ leaf Value ⊗ Colon ▸ leaf ElementType)

-- arith.cmpi slt, %x, %y : i32
unfoldable pub compare_step : Format CompareStep
compare_step = as_record (λ x. record { name = x.0; predicate = x.1.0; left = x.1.1.0; right = x.1.1.1.0; ty = x.1.1.1.1 }) (λ c. (c.name, (c.predicate, (c.left, (c.right, c.ty)))))
    (leaf (Name PayloadStep ArithCmpi) ⊗ leaf Predicate ⊗ Comma ▸ leaf Value ⊗ Comma ▸ leaf Value ⊗ Colon ▸ leaf ElementType)

-- arith.select %c, %x, %y : i32
unfoldable pub select_step : Format SelectStep
select_step = as_record (λ x. record { name = x.0; condition = x.1.0; chosen = x.1.1.0; other = x.1.1.1.0; ty = x.1.1.1.1 }) (λ s. (s.name, (s.condition, (s.chosen, (s.other, s.ty)))))
    (leaf (Name PayloadStep ArithSelect) ⊗ leaf Value ⊗ Comma ▸ leaf Value ⊗ Comma ▸ leaf Value ⊗ Colon ▸ leaf ElementType)

-- %x : i8 to i32
unfoldable pub conversion : Format Conversion
conversion = as_record (λ x. record { value = x.0; from = x.1.0; to = x.1.1 }) (λ c. (c.value, (c.from, c.to)))
    (leaf Value ⊗ Colon ▸ leaf ElementType ⊗ To ▸ leaf ElementType)

-- arith.extsi %x : i8 to i32
unfoldable pub cast_step : Format CastStep
cast_step = as_record (λ x. record { name = x.0; conversion = x.1 }) (λ c. (c.name, c.conversion)) (leaf (CastName PayloadStep) ⊗ conversion)

-- arith.index_cast %i : index to i32
unfoldable pub index_cast_step : Format IndexCastStep
index_cast_step = as_record (λ x. record { name = x.0; conversion = x.1 }) (λ c. (c.name, c.conversion)) (leaf (Name PayloadStep ArithIndexCast) ⊗ conversion)

-- linalg.index 0 : index
unfoldable pub index_step : Format IndexStep
index_step = as_record (λ x. record { name = x.0; dimension = x.1 }) (λ i. (i.name, i.dimension))
    (leaf (Name PayloadStep LinalgIndex) ⊗ before words.Index (before Colon (leaf Number)))

-- %i
unfoldable pub apply_operand : Format ApplyOperand
apply_operand = as_record (λ t. record { name = t }) (λ o. o.name) (leaf Value)

-- [%i, %j]
unfoldable pub apply_symbols : Format ApplySymbols
apply_symbols = as_record (λ x. record { operands = x.0; close = x.1 }) (λ s. (s.operands, s.close)) (OpenBracket ▸ list_with_close CloseBracket apply_operand)

-- affine.apply #id(%i, %j)[%k]; the brackets need not be there
unfoldable pub apply_step : Format ApplyStep
apply_step = as_record (λ x. record { name = x.0.0; map = x.0.1.0; operands = x.0.1.1; symbols = x.1 }) (λ a. ((a.name, (a.map, a.operands)), a.symbols))
    (with_last (Exactly OpenBracket) (leaf (Name PayloadStep AffineApply) ⊗ map_use ⊗ OpenParenthesis ▸ list_before CloseParenthesis apply_operand) apply_symbols)

-- the operations by their names
abbrev pub StepParts : Type 0
StepParts = ApplyStep ⊎ (BinaryStep ⊎ (ConstantStep ⊎ (CompareStep ⊎ (SelectStep ⊎ (IndexCastStep ⊎ (IndexStep ⊎ CastStep))))))

abbrev pub made_step : StepParts → StepOperation
made_step (inl a) = operations.Apply a
made_step (inr (inl b)) = operations.Binary b
made_step (inr (inr (inl c))) = operations.Constant c
made_step (inr (inr (inr (inl c)))) = operations.Compare c
made_step (inr (inr (inr (inr (inl s))))) = operations.Select s
made_step (inr (inr (inr (inr (inr (inl c)))))) = operations.IndexCast c
made_step (inr (inr (inr (inr (inr (inr (inl i))))))) = operations.Index i
made_step (inr (inr (inr (inr (inr (inr (inr c))))))) = operations.Cast c

abbrev pub step_parts : StepOperation → StepParts
step_parts (operations.Apply a) = inl a
step_parts (operations.Binary b) = inr (inl b)
step_parts (operations.Constant c) = inr (inr (inl c))
step_parts (operations.Compare c) = inr (inr (inr (inl c)))
step_parts (operations.Select s) = inr (inr (inr (inr (inl s))))
step_parts (operations.IndexCast c) = inr (inr (inr (inr (inr (inl c)))))
step_parts (operations.Index i) = inr (inr (inr (inr (inr (inr (inl i))))))
step_parts (operations.Cast c) = inr (inr (inr (inr (inr (inr (inr c))))))

abbrev pub index_cast_or : Format (IndexCastStep ⊎ (IndexStep ⊎ CastStep))
index_cast_or = either (Name PayloadStep ArithIndexCast) index_cast_step (either (Name PayloadStep LinalgIndex) index_step cast_step)

abbrev pub select_or : Format (SelectStep ⊎ (IndexCastStep ⊎ (IndexStep ⊎ CastStep)))
select_or = either (Name PayloadStep ArithSelect) select_step index_cast_or

abbrev pub compare_or : Format (CompareStep ⊎ (SelectStep ⊎ (IndexCastStep ⊎ (IndexStep ⊎ CastStep))))
compare_or = either (Name PayloadStep ArithCmpi) compare_step select_or

abbrev pub constant_or : Format (ConstantStep ⊎ (CompareStep ⊎ (SelectStep ⊎ (IndexCastStep ⊎ (IndexStep ⊎ CastStep)))))
constant_or = either (Name PayloadStep ArithConstant) constant_step compare_or

abbrev pub binary_or : Format (BinaryStep ⊎ (ConstantStep ⊎ (CompareStep ⊎ (SelectStep ⊎ (IndexCastStep ⊎ (IndexStep ⊎ CastStep))))))
binary_or = either (BinaryName PayloadStep) binary_step constant_or

-- one of the operations; what none begins with is refused as a cast's name
unfoldable pub step_operation : Format StepOperation
step_operation = as_record made_step step_parts (either (Name PayloadStep AffineApply) apply_step binary_or)
