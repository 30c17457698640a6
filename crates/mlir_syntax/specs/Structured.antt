-- The grammar of structured operations that have a name of their own (Linalg dialect, "linalg.fill", "linalg.matmul", "linalg.batch_matmul", "linalg.transpose" and "linalg.broadcast").
use Rattle.text_format.specs.declared.class.Class.TheVariants.{Name, Value, TensorType, ElementType}
use Rattle.text_format.specs.declared.class.Position.TheVariants as at
use Rattle.text_format.specs.declared.lexeme.Lexeme.TheVariants.{OpenParenthesis, CloseParenthesis, OpenBracket, CloseBracket, Comma, Colon, Equals, Arrow, Ins, LinalgFill, LinalgMatmul, LinalgBatchMatmul, LinalgTranspose, LinalgBroadcast, Permutation, Dimensions}
use Rattle.text_format.specs.Formats.{Format, leaf, ◌▸◌, ◌⊗◌, as_record, list_before}
use Rattle.mlir_syntax.specs.declared.tree.structured.Fill.{Fill}
use Rattle.mlir_syntax.specs.declared.tree.structured.Factors.{Factors}
use Rattle.mlir_syntax.specs.declared.tree.structured.Matmul.{Matmul}
use Rattle.mlir_syntax.specs.declared.tree.structured.BatchMatmul.{BatchMatmul}
use Rattle.mlir_syntax.specs.declared.tree.structured.SourceAndOutput.{SourceAndOutput}
use Rattle.mlir_syntax.specs.declared.tree.structured.Transpose.{Transpose}
use Rattle.mlir_syntax.specs.declared.tree.structured.Broadcast.{Broadcast}
use Rattle.mlir_syntax.specs.Literals.{signed_number}
use Rattle.mlir_syntax.specs.Generics.{output}

-- linalg.fill ins(%c : i32) outs(%o : tensor<3xi32>) -> tensor<3xi32>
unfoldable pub fill : Format Fill
fill = as_record (λ x. record { name = x.0; value = x.1.0; value_type = x.1.1.0; output = x.1.1.1.0; result_type = x.1.1.1.1 }) (λ f. (f.name, (f.value, (f.value_type, (f.output, f.result_type)))))
    (leaf (Name at.Operation LinalgFill) ⊗ Ins ▸ OpenParenthesis ▸ leaf Value ⊗ Colon ▸ leaf ElementType ⊗ CloseParenthesis ▸ output ⊗ Arrow ▸ leaf TensorType)

-- ins(%a, %b : tensor<2x3xi32>, tensor<3x4xi32>) outs(%o : tensor<2x4xi32>) -> tensor<2x4xi32>
unfoldable pub factors : Format Factors
factors = as_record (λ x. record { left = x.0; right = x.1.0; left_type = x.1.1.0; right_type = x.1.1.1.0; output = x.1.1.1.1.0; result_type = x.1.1.1.1.1 }) (λ f. (f.left, (f.right, (f.left_type, (f.right_type, (f.output, f.result_type))))))
    (Ins ▸ OpenParenthesis ▸ leaf Value ⊗ Comma ▸ leaf Value ⊗ Colon ▸ leaf TensorType ⊗ Comma ▸ leaf TensorType ⊗ CloseParenthesis ▸ output ⊗ Arrow ▸ leaf TensorType)

-- linalg.matmul factors
unfoldable pub matmul : Format Matmul
matmul = as_record (λ x. record { name = x.0; factors = x.1 }) (λ m. (m.name, m.factors)) (leaf (Name at.Operation LinalgMatmul) ⊗ factors)

-- linalg.batch_matmul factors
unfoldable pub batch_matmul : Format BatchMatmul
batch_matmul = as_record (λ x. record { name = x.0; factors = x.1 }) (λ m. (m.name, m.factors)) (leaf (Name at.Operation LinalgBatchMatmul) ⊗ factors)

-- ins(%a : tensor<3xi32>) outs(%o : tensor<3xi32>)
unfoldable pub source_and_output : Format SourceAndOutput
source_and_output = as_record (λ x. record { source = x.0; source_type = x.1.0; output = x.1.1 }) (λ s. (s.source, (s.source_type, s.output)))
    (Ins ▸ OpenParenthesis ▸ leaf Value ⊗ Colon ▸ leaf TensorType ⊗ CloseParenthesis ▸ output)

-- linalg.transpose operands permutation = [1, 0]
unfoldable pub transpose : Format Transpose
transpose = as_record (λ x. record { name = x.0; operands = x.1.0; axes = x.1.1 }) (λ t. (t.name, (t.operands, t.axes)))
    (leaf (Name at.Operation LinalgTranspose) ⊗ source_and_output ⊗ Permutation ▸ Equals ▸ OpenBracket ▸ list_before CloseBracket signed_number)

-- linalg.broadcast operands dimensions = [0]
unfoldable pub broadcast : Format Broadcast
broadcast = as_record (λ x. record { name = x.0; operands = x.1.0; axes = x.1.1 }) (λ b. (b.name, (b.operands, b.axes)))
    (leaf (Name at.Operation LinalgBroadcast) ⊗ source_and_output ⊗ Dimensions ▸ Equals ▸ OpenBracket ▸ list_before CloseBracket signed_number)
