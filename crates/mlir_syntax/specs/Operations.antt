-- The grammar of operations (MLIR LangRef, "Operations").
use Rattle.std.specs.Prelude.{◌⊎◌}
use Rattle.std.proofs.Common.{inl, inr}
use Rattle.text_format.specs.declared.class.Class.TheVariants.{Name, NewValueAt, TensorType}
use Rattle.text_format.specs.declared.class.Position.TheVariants as at
use Rattle.text_format.specs.declared.lexeme.Lexeme.TheVariants.{OpenParenthesis, CloseParenthesis, Colon, Equals, TensorEmpty, ArithConstant, LinalgGeneric, LinalgFill, LinalgMatmul, LinalgBatchMatmul, LinalgTranspose}
use Rattle.text_format.specs.Formats.{Format, leaf, ◌▸◌, ◌⊗◌, as_record, either}
use Rattle.mlir_syntax.specs.declared.tree.constants.Constant.{Constant}
use Rattle.mlir_syntax.specs.declared.tree.generics.Generic.{Generic}
use Rattle.mlir_syntax.specs.declared.tree.structured.Fill.{Fill}
use Rattle.mlir_syntax.specs.declared.tree.structured.Matmul.{Matmul}
use Rattle.mlir_syntax.specs.declared.tree.structured.BatchMatmul.{BatchMatmul}
use Rattle.mlir_syntax.specs.declared.tree.structured.Transpose.{Transpose}
use Rattle.mlir_syntax.specs.declared.tree.structured.Broadcast.{Broadcast}
use Rattle.mlir_syntax.specs.declared.tree.operations.Empty.{Empty}
use Rattle.mlir_syntax.specs.declared.tree.operations.Operation.{Operation}
use Rattle.mlir_syntax.specs.declared.tree.operations.Operation.TheVariants as operations
use Rattle.mlir_syntax.specs.declared.tree.operations.Statement.{Statement}
use Rattle.mlir_syntax.specs.Constants.{constant}
use Rattle.mlir_syntax.specs.Generics.{generic}
use Rattle.mlir_syntax.specs.Structured.{fill, matmul, batch_matmul, transpose, broadcast}

-- tensor.empty() : tensor<3xi32>
unfoldable pub empty : Format Empty
empty = as_record (λ x. record { name = x.0; ty = x.1 }) (λ e. (e.name, e.ty))
    (leaf (Name at.Operation TensorEmpty) ⊗ OpenParenthesis ▸ CloseParenthesis ▸ Colon ▸ leaf TensorType)

-- the operations behind linalg.generic, each told by its name
abbrev pub Named : Type 0
Named = Fill ⊎ (Matmul ⊎ (BatchMatmul ⊎ (Transpose ⊎ Broadcast)))

unfoldable pub named : Format Named
named = either (Name at.Operation LinalgFill) fill (either (Name at.Operation LinalgMatmul) matmul (either (Name at.Operation LinalgBatchMatmul) batch_matmul (either (Name at.Operation LinalgTranspose) transpose broadcast)))

abbrev pub made_operation : Constant ⊎ (Empty ⊎ (Generic ⊎ Named)) → Operation
made_operation (inl c) = operations.Constant c
made_operation (inr (inl e)) = operations.Empty e
made_operation (inr (inr (inl g))) = operations.Generic g
made_operation (inr (inr (inr (inl f)))) = operations.Fill f
made_operation (inr (inr (inr (inr (inl m))))) = operations.Matmul m
made_operation (inr (inr (inr (inr (inr (inl b)))))) = operations.BatchMatmul b
made_operation (inr (inr (inr (inr (inr (inr (inl t))))))) = operations.Transpose t
made_operation (inr (inr (inr (inr (inr (inr (inr b))))))) = operations.Broadcast b

abbrev pub operation_parts : Operation → Constant ⊎ (Empty ⊎ (Generic ⊎ Named))
operation_parts (operations.Constant c) = inl c
operation_parts (operations.Empty e) = inr (inl e)
operation_parts (operations.Generic g) = inr (inr (inl g))
operation_parts (operations.Fill f) = inr (inr (inr (inl f)))
operation_parts (operations.Matmul m) = inr (inr (inr (inr (inl m))))
operation_parts (operations.BatchMatmul b) = inr (inr (inr (inr (inr (inl b)))))
operation_parts (operations.Transpose t) = inr (inr (inr (inr (inr (inr (inl t))))))
operation_parts (operations.Broadcast b) = inr (inr (inr (inr (inr (inr (inr b))))))

-- an operation, by its name; the refusal of a name that none has is that of the last
unfoldable pub operation : Format Operation
operation = as_record made_operation operation_parts (either (Name at.Operation ArithConstant) constant (either (Name at.Operation TensorEmpty) empty (either (Name at.Operation LinalgGeneric) generic named)))

-- %r = operation
unfoldable pub statement : Format Statement
statement = as_record (λ x. record { result = x.0; operation = x.1 }) (λ s. (s.result, s.operation)) (leaf (NewValueAt at.Statement) ⊗ Equals ▸ operation)
