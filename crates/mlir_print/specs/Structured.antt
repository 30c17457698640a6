-- Structured operations that have a name of their own, as they are written (MLIR Linalg dialect, "linalg.fill", "linalg.matmul", "linalg.batch_matmul", "linalg.transpose" and "linalg.broadcast").
use Rattle.std.specs.Prelude.{ℕ, pos, List, [], ◌∷◌, map}
use Rattle.mlir_ir.specs.declared.tree.Ty.{Ty}
use Rattle.mlir_ir.specs.declared.tree.ValueId.{ValueId}
use Rattle.text_format.specs.declared.class.Class.TheVariants.{Name, Value, ElementType}
use Rattle.text_format.specs.declared.class.Position.TheVariants.{Operation as OperationName}
use Rattle.text_format.specs.declared.front.Kind.TheVariants as tokens
use Rattle.text_format.specs.declared.lexeme.Lexeme.TheVariants.{OpenParenthesis, CloseParenthesis, OpenBracket, CloseBracket, Comma, Colon, Equals, Arrow, Ins, LinalgFill, LinalgMatmul, LinalgBatchMatmul, LinalgTranspose, LinalgBroadcast, Permutation, Dimensions}
use Rattle.text_format.specs.Pieces.{Fixed}
use Rattle.mlir_syntax.specs.declared.tree.literals.SignedNumber.{SignedNumber}
use Rattle.mlir_syntax.specs.declared.tree.structured.Fill.{Fill}
use Rattle.mlir_syntax.specs.declared.tree.structured.Factors.{Factors}
use Rattle.mlir_syntax.specs.declared.tree.structured.Matmul.{Matmul}
use Rattle.mlir_syntax.specs.declared.tree.structured.BatchMatmul.{BatchMatmul}
use Rattle.mlir_syntax.specs.declared.tree.structured.SourceAndOutput.{SourceAndOutput}
use Rattle.mlir_syntax.specs.declared.tree.structured.Transpose.{Transpose}
use Rattle.mlir_syntax.specs.declared.tree.structured.Broadcast.{Broadcast}
use Rattle.mlir_print.specs.Types.{ty_text}
use Rattle.mlir_print.specs.Names.{Row, name_in, type_in}
use Rattle.mlir_print.specs.Literals.{number_at}
use Rattle.mlir_print.specs.Generics.{output_at}
use Rattle.mlir_print.specs.Returns.{type_at}
use Rattle.text_format.specs.Writers.{Writer, put, keep, lay, space, lay_after, pair, made, commas, ◌▷◌}

-- `linalg.fill ins(%c : i32) outs(%o : T) -> T`
abbrev pub fill_at : List Row → Ty → ValueId → ValueId → Writer Fill
fill_at rows ty v out = made (λ x. record { name = x.0; value = x.1.0; value_type = x.1.1.0; output = x.1.1.1.0; result_type = x.1.1.1.1 }) ▷
    pair (keep (Name OperationName) LinalgFill) ▷ space ▷ lay Ins ▷ lay OpenParenthesis ▷ pair (put Value tokens.Value (name_in rows v)) ▷ space ▷ lay Colon ▷ space ▷ pair (put ElementType tokens.Word (type_in rows v)) ▷ lay CloseParenthesis ▷ space ▷
    pair (output_at rows out) ▷ space ▷ lay Arrow ▷ space ▷ type_at (ty_text ty)

-- `ins(%a, %b : T, T) outs(%o : T) -> T`
abbrev pub factors_at : List Row → Ty → ValueId → ValueId → ValueId → Writer Factors
factors_at rows ty a b out = made (λ x. record { left = x.0; right = x.1.0; left_type = x.1.1.0; right_type = x.1.1.1.0; output = x.1.1.1.1.0; result_type = x.1.1.1.1.1 }) ▷
    lay Ins ▷ lay OpenParenthesis ▷ pair (put Value tokens.Value (name_in rows a)) ▷ lay Comma ▷ space ▷ pair (put Value tokens.Value (name_in rows b)) ▷ space ▷ lay Colon ▷ space ▷
    pair (type_at (type_in rows a)) ▷ lay Comma ▷ space ▷ pair (type_at (type_in rows b)) ▷ lay CloseParenthesis ▷ space ▷ pair (output_at rows out) ▷ space ▷ lay Arrow ▷ space ▷ type_at (ty_text ty)

abbrev pub matmul_at : List Row → Ty → ValueId → ValueId → ValueId → Writer Matmul
matmul_at rows ty a b out = made (λ x. record { name = x.0; factors = x.1 }) ▷ pair (keep (Name OperationName) LinalgMatmul) ▷ space ▷ factors_at rows ty a b out

abbrev pub batch_matmul_at : List Row → Ty → ValueId → ValueId → ValueId → Writer BatchMatmul
batch_matmul_at rows ty a b out = made (λ x. record { name = x.0; factors = x.1 }) ▷ pair (keep (Name OperationName) LinalgBatchMatmul) ▷ space ▷ factors_at rows ty a b out

-- `ins(%a : T) outs(%o : T)`
abbrev pub moved_at : List Row → ValueId → ValueId → Writer SourceAndOutput
moved_at rows a out = made (λ x. record { source = x.0; source_type = x.1.0; output = x.1.1 }) ▷
    lay Ins ▷ lay OpenParenthesis ▷ pair (put Value tokens.Value (name_in rows a)) ▷ space ▷ lay Colon ▷ space ▷ pair (type_at (type_in rows a)) ▷ lay CloseParenthesis ▷ space ▷ output_at rows out

abbrev pub axis_at : ℕ → Writer SignedNumber
axis_at n = number_at (pos n)

-- `[1, 0]`, behind its first bracket
abbrev pub axes_at : List ℕ → Writer (List SignedNumber)
axes_at axes = lay_after (commas (map axis_at axes)) (Fixed CloseBracket ∷ [])

abbrev pub transpose_at : List Row → ValueId → ValueId → List ℕ → Writer Transpose
transpose_at rows a out order = made (λ x. record { name = x.0; operands = x.1.0; axes = x.1.1 }) ▷
    pair (keep (Name OperationName) LinalgTranspose) ▷ space ▷ pair (moved_at rows a out) ▷ space ▷ lay Permutation ▷ space ▷ lay Equals ▷ space ▷ lay OpenBracket ▷ axes_at order

abbrev pub broadcast_at : List Row → ValueId → ValueId → List ℕ → Writer Broadcast
broadcast_at rows a out dims = made (λ x. record { name = x.0; operands = x.1.0; axes = x.1.1 }) ▷
    pair (keep (Name OperationName) LinalgBroadcast) ▷ space ▷ pair (moved_at rows a out) ▷ space ▷ lay Dimensions ▷ space ▷ lay Equals ▷ space ▷ lay OpenBracket ▷ axes_at dims
