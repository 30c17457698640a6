-- The laws of operations: each production's follow from those of its parts.
use Rattle.std.specs.Prelude.{◌≡◌, true, refl, ◌⊎◌}
use Rattle.std.proofs.Common.{inl, inr}
use Rattle.text_format.specs.declared.class.Class.TheVariants.{Name, NewValueAt, TensorType}
use Rattle.text_format.specs.declared.class.Position.TheVariants as at
use Rattle.text_format.specs.declared.lexeme.Lexeme.TheVariants.{OpenParenthesis, CloseParenthesis, Colon, Equals, TensorEmpty, ArithConstant, LinalgGeneric, LinalgFill, LinalgMatmul, LinalgBatchMatmul, LinalgTranspose}
use Rattle.text_format.specs.Formats.{spell_either, either}
use Rattle.text_format.specs.Laws.{IsExact, avoids}
use Rattle.text_format.specs.Exact.{leaf-exact, record-exact, either-exact, ◌⊠◌, ◌▹◌}
use Rattle.mlir_syntax.specs.declared.tree.constants.Constant.{Constant}
use Rattle.mlir_syntax.specs.declared.tree.generics.Generic.{Generic}
use Rattle.mlir_syntax.specs.declared.tree.structured.Transpose.{Transpose}
use Rattle.mlir_syntax.specs.declared.tree.structured.Broadcast.{Broadcast}
use Rattle.mlir_syntax.specs.declared.tree.structured.BatchMatmul.{BatchMatmul}
use Rattle.mlir_syntax.specs.declared.tree.structured.Matmul.{Matmul}
use Rattle.mlir_syntax.specs.declared.tree.operations.Empty.{Empty}
use Rattle.mlir_syntax.specs.declared.tree.operations.Operation.{Operation}
use Rattle.mlir_syntax.specs.declared.tree.operations.Operation.TheVariants as operations
use Rattle.mlir_syntax.specs.Constants.{constant}
use Rattle.mlir_syntax.specs.ConstantLaws.{constant-exact}
use Rattle.mlir_syntax.specs.Generics.{generic}
use Rattle.mlir_syntax.specs.GenericLaws.{generic-exact}
use Rattle.mlir_syntax.specs.Structured.{fill, matmul, batch_matmul, transpose, broadcast}
use Rattle.mlir_syntax.specs.StructuredLaws.{fill-exact, matmul-exact, batch_matmul-exact, transpose-exact, broadcast-exact}
use Rattle.mlir_syntax.specs.Operations.{empty, Named, named, made_operation, operation_parts, operation, statement}

pub empty-exact : IsExact empty
unfolding empty
empty-exact = record-exact _ _ _ (λ _. refl) (λ _. refl) (leaf-exact (Name at.Operation TensorEmpty) ⊠ OpenParenthesis ▹ CloseParenthesis ▹ Colon ▹ leaf-exact TensorType)

last_transpose : (x : Transpose ⊎ Broadcast) → avoids (Name at.Operation LinalgBatchMatmul) (spell_either transpose broadcast x) ≡ true
unfolding transpose broadcast
last_transpose (inl t) = refl
last_transpose (inr b) = refl

last_batch : (x : BatchMatmul ⊎ (Transpose ⊎ Broadcast)) → avoids (Name at.Operation LinalgMatmul) (spell_either batch_matmul (either (Name at.Operation LinalgTranspose) transpose broadcast) x) ≡ true
unfolding batch_matmul transpose broadcast
last_batch (inl m) = refl
last_batch (inr (inl t)) = refl
last_batch (inr (inr b)) = refl

last_matmul : (x : Matmul ⊎ (BatchMatmul ⊎ (Transpose ⊎ Broadcast)))
    → avoids (Name at.Operation LinalgFill) (spell_either matmul (either (Name at.Operation LinalgBatchMatmul) batch_matmul (either (Name at.Operation LinalgTranspose) transpose broadcast)) x) ≡ true
unfolding matmul batch_matmul transpose broadcast
last_matmul (inl m) = refl
last_matmul (inr (inl m)) = refl
last_matmul (inr (inr (inl t))) = refl
last_matmul (inr (inr (inr b))) = refl

pub named-exact : IsExact named
unfolding named fill matmul batch_matmul transpose broadcast
named-exact = either-exact (Name at.Operation LinalgFill) fill-exact
    (either-exact (Name at.Operation LinalgMatmul) matmul-exact
    (either-exact (Name at.Operation LinalgBatchMatmul) batch_matmul-exact
    (either-exact (Name at.Operation LinalgTranspose) transpose-exact broadcast-exact (λ _. refl) (λ _. refl)) (λ _. refl) last_transpose) (λ _. refl) last_batch) (λ _. refl) last_matmul

named_generic : (x : Named) → avoids (Name at.Operation LinalgGeneric) (named.spell x) ≡ true
unfolding named fill matmul batch_matmul transpose broadcast
named_generic (inl f) = refl
named_generic (inr (inl m)) = refl
named_generic (inr (inr (inl m))) = refl
named_generic (inr (inr (inr (inl t)))) = refl
named_generic (inr (inr (inr (inr b)))) = refl

named_empty : (x : Named) → avoids (Name at.Operation TensorEmpty) (named.spell x) ≡ true
unfolding named fill matmul batch_matmul transpose broadcast
named_empty (inl f) = refl
named_empty (inr (inl m)) = refl
named_empty (inr (inr (inl m))) = refl
named_empty (inr (inr (inr (inl t)))) = refl
named_empty (inr (inr (inr (inr b)))) = refl

named_constant : (x : Named) → avoids (Name at.Operation ArithConstant) (named.spell x) ≡ true
unfolding named fill matmul batch_matmul transpose broadcast
named_constant (inl f) = refl
named_constant (inr (inl m)) = refl
named_constant (inr (inr (inl m))) = refl
named_constant (inr (inr (inr (inl t)))) = refl
named_constant (inr (inr (inr (inr b)))) = refl

behind_empty : (x : Generic ⊎ Named) → avoids (Name at.Operation TensorEmpty) (spell_either generic named x) ≡ true
unfolding generic
behind_empty (inl g) = refl
behind_empty (inr n) = named_empty n

behind_constant : (x : Empty ⊎ (Generic ⊎ Named)) → avoids (Name at.Operation ArithConstant) (spell_either empty (either (Name at.Operation LinalgGeneric) generic named) x) ≡ true
unfolding empty generic
behind_constant (inl e) = refl
behind_constant (inr (inl g)) = refl
behind_constant (inr (inr n)) = named_constant n

operation_back : (x : Constant ⊎ (Empty ⊎ (Generic ⊎ Named))) → operation_parts (made_operation x) ≡ x
operation_back (inl c) = refl
operation_back (inr (inl e)) = refl
operation_back (inr (inr (inl g))) = refl
operation_back (inr (inr (inr (inl f)))) = refl
operation_back (inr (inr (inr (inr (inl m))))) = refl
operation_back (inr (inr (inr (inr (inr (inl b)))))) = refl
operation_back (inr (inr (inr (inr (inr (inr (inl t))))))) = refl
operation_back (inr (inr (inr (inr (inr (inr (inr b))))))) = refl

operation_forth : (o : Operation) → made_operation (operation_parts o) ≡ o
operation_forth (operations.Constant c) = refl
operation_forth (operations.Empty e) = refl
operation_forth (operations.Generic g) = refl
operation_forth (operations.Fill f) = refl
operation_forth (operations.Matmul m) = refl
operation_forth (operations.BatchMatmul b) = refl
operation_forth (operations.Transpose t) = refl
operation_forth (operations.Broadcast b) = refl

pub operation-exact : IsExact operation
unfolding operation constant empty generic
operation-exact = record-exact _ _ _ operation_back operation_forth
    (either-exact (Name at.Operation ArithConstant) constant-exact
    (either-exact (Name at.Operation TensorEmpty) empty-exact
    (either-exact (Name at.Operation LinalgGeneric) generic-exact named-exact (λ _. refl) named_generic) (λ _. refl) behind_empty) (λ _. refl) behind_constant)

pub statement-exact : IsExact statement
unfolding statement
statement-exact = record-exact _ _ _ (λ _. refl) (λ _. refl) (leaf-exact (NewValueAt at.Statement) ⊠ Equals ▹ operation-exact)
