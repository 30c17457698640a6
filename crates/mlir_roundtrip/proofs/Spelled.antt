-- An operation's tree is spelled by its pieces.
use Rattle.std.proofs.Common.{ℕ, ◌+◌, pos, List, [], ◌∷◌, map, refl, sym, ◌∙◌}
use Rattle.std.specs.List.{AllByRecursion}
use Rattle.mlir_base.specs.declared.types.ElemTy.{ElemTy}
use Rattle.payload_ops.specs.Shape.{PayloadShape}
use Rattle.affine_maps.specs.Shape.{MapShape}
use Rattle.mlir_ir.specs.declared.tree.Ty.{Ty}
use Rattle.mlir_ir.specs.declared.tree.Ty.TheVariants.{Scalar, Tensor, Vector}
use Rattle.mlir_ir.specs.declared.tree.ValueId.{ValueId}
use Rattle.mlir_ir.specs.declared.tree.Iter.{Iter}
use Rattle.mlir_ir.specs.declared.tree.OpKind.{OpKind}
use Rattle.mlir_ir.specs.declared.tree.OpKind.TheVariants as kinds
use Rattle.text_format.specs.declared.lexeme.Lexeme.TheVariants as lexemes
use Rattle.text_format.specs.Pieces as P
use Rattle.mlir_syntax.specs.declared.tree.constants.Literal.{Literal}
use Rattle.mlir_syntax.specs.declared.tree.constants.Literal.TheVariants as literals
use Rattle.mlir_syntax.specs.declared.tree.constants.Constant.{Constant}
use Rattle.mlir_syntax.specs.declared.tree.operations.Empty.{Empty}
use Rattle.mlir_syntax.specs.declared.tree.generics.Generic.{Generic}
use Rattle.mlir_syntax.specs.declared.tree.structured.Fill.{Fill}
use Rattle.mlir_syntax.specs.declared.tree.structured.Matmul.{Matmul}
use Rattle.mlir_syntax.specs.declared.tree.structured.BatchMatmul.{BatchMatmul}
use Rattle.mlir_syntax.specs.declared.tree.structured.Transpose.{Transpose}
use Rattle.mlir_syntax.specs.declared.tree.structured.Broadcast.{Broadcast}
use Rattle.mlir_syntax.specs.declared.tree.operations.Operation.{Operation}
use Rattle.mlir_syntax.specs.declared.tree.operations.Operation.TheVariants as operations
use Rattle.text_format.specs.Formats.{list_before}
use Rattle.mlir_syntax.specs.Literals as literal_grammar
use Rattle.mlir_syntax.specs.Maps as map_grammar
use Rattle.mlir_syntax.specs.Constants as constant_grammar
use Rattle.mlir_syntax.specs.Generics as generic_grammar
use Rattle.mlir_syntax.specs.Structured as structured_grammar
use Rattle.mlir_syntax.specs.Operations as operation_grammar
use Rattle.mlir_print.specs.Names.{Names, Row}
use Rattle.text_format.specs.Writers.{Writer, made, commas}
use Rattle.mlir_print.specs.Literals.{literal_at}
use Rattle.mlir_print.specs.Maps.{use_at}
use Rattle.mlir_print.specs.Constants.{Word, word_at, dense_words, dense_at, constant_at}
use Rattle.mlir_print.specs.Generics.{iterator_at, next_input_at, next_type_at, input_types_at, inputs_at, output_at, operands_at, generic_at}
use Rattle.mlir_print.specs.Structured.{fill_at, factors_at, matmul_at, batch_matmul_at, moved_at, axis_at, axes_at, transpose_at, broadcast_at}
use Rattle.mlir_print.specs.Operations.{empty_at, scalar_if, constant_if, operation_at, line_at}
use Rattle.mlir_roundtrip.specs.Printable.{IsPrintableStep, IsPrintableScalar, IsPrintableConstant, IsPrintableKind, IsPrintableLine}
use Rattle.text_format.proofs.Written.{spelled_append, IsWritten, AreWritten, put-w, lay-w, gap-w, sp-w, pair-w, made-w, before-w, blank-w, many-w, list-w, commas_spelled}
use Rattle.mlir_roundtrip.proofs.MapUses.{uses-w}
use Rattle.mlir_roundtrip.proofs.PayloadSpelled.{number-w, literal-w, region-w}

-- ---- constants

word-w : (x : Word) → IsWritten constant_grammar.dense_piece (word_at x)
unfolding constant_grammar.dense_piece
word-w x = blank-w (P.Gap x.behind ∷ []) (λ at. refl) (made-w _ _ (λ _. refl) (put-w _ _ _))

words-w : (xs : List Word) → AreWritten constant_grammar.dense_piece (map word_at xs)
words-w [] = tt
words-w (x ∷ xs) = (word-w x, words-w xs)

dense-w : (xs : List Word) (ty : Ty) → IsWritten constant_grammar.dense_literal (dense_at xs ty)
unfolding constant_grammar.dense_literal
dense-w xs ty = made-w _ _ (λ _. refl) (lay-w lexemes.Dense (lay-w lexemes.Less (many-w _ constant_grammar.dense_piece (map word_at xs) (words-w xs)
    (pair-w (put-w _ _ _) (sp-w (lay-w lexemes.Colon (sp-w (put-w _ _ _))))))))

as_dense-w : (xs : List Word) (ty : Ty) → IsWritten constant_grammar.literal (made literals.Dense (dense_at xs ty))
unfolding constant_grammar.literal
as_dense-w xs ty = let h = dense-w xs ty in record { law = λ at. h.law at }

as_scalar-w : (e : ElemTy) (v : ℕ) → IsWritten constant_grammar.literal (made literals.Scalar (literal_at e v))
unfolding constant_grammar.literal
as_scalar-w e v = let h = literal-w e v in record { law = λ at. h.law at }

constant-w : {w : Writer Literal} → IsWritten constant_grammar.literal w → IsWritten constant_grammar.constant (constant_at w)
unfolding constant_grammar.constant
constant-w h = made-w _ _ (λ _. refl) (pair-w (put-w _ _ _) (sp-w h))

-- ---- generic operations

iterators-w : (its : List Iter) → AreWritten generic_grammar.iterator_type (map iterator_at its)
unfolding generic_grammar.iterator_type
iterators-w [] = tt
iterators-w (i ∷ is) = (made-w _ _ (λ _. refl) (put-w _ _ _), iterators-w is)

next_input-w : (rows : List Row) (v : ValueId) → IsWritten generic_grammar.next_input (next_input_at rows v)
unfolding generic_grammar.next_input
next_input-w rows v = made-w _ _ (λ _. refl) (lay-w lexemes.Comma (sp-w (put-w _ _ _)))

next_inputs-w : (rows : List Row) (vs : List ValueId) → AreWritten generic_grammar.next_input (map (next_input_at rows) vs)
next_inputs-w rows [] = tt
next_inputs-w rows (v ∷ vs) = (next_input-w rows v, next_inputs-w rows vs)

next_type-w : (rows : List Row) (v : ValueId) → IsWritten generic_grammar.next_type (next_type_at rows v)
unfolding generic_grammar.next_type
next_type-w rows v = made-w _ _ (λ _. refl) (pair-w (put-w _ _ _) (sp-w (put-w _ _ _)))

next_types-w : (rows : List Row) (vs : List ValueId) → AreWritten generic_grammar.next_type (map (next_type_at rows) vs)
next_types-w rows [] = tt
next_types-w rows (v ∷ vs) = (next_type-w rows v, next_types-w rows vs)

input_types-w : (rows : List Row) (v : ValueId) (vs : List ValueId) → IsWritten generic_grammar.input_types (input_types_at rows v vs)
unfolding generic_grammar.input_types
input_types-w rows v vs = made-w _ _ (λ _. refl) (pair-w (put-w _ _ _) (many-w _ generic_grammar.next_type (map (next_type_at rows) vs) (next_types-w rows vs) (put-w _ _ _)))

inputs-w : (rows : List Row) (v : ValueId) (vs : List ValueId) → IsWritten generic_grammar.inputs (inputs_at rows v vs)
unfolding generic_grammar.inputs
inputs-w rows v vs = made-w _ _ (λ _. refl) (lay-w lexemes.Ins (lay-w lexemes.OpenParenthesis (pair-w (put-w _ _ _) (many-w _ generic_grammar.next_input (map (next_input_at rows) vs) (next_inputs-w rows vs)
    (sp-w (lay-w lexemes.Colon (sp-w (input_types-w rows v vs))))))))

output-w : (rows : List Row) (out : ValueId) → IsWritten generic_grammar.output (output_at rows out)
unfolding generic_grammar.output
output-w rows out = made-w _ _ (λ _. refl) (lay-w lexemes.Outs (lay-w lexemes.OpenParenthesis (pair-w (put-w _ _ _) (sp-w (lay-w lexemes.Colon (sp-w (before-w lexemes.CloseParenthesis _ (λ at. refl) (put-w _ _ _))))))))

operands-w : (rows : List Row) (ins : List ValueId) (out : ValueId) → IsWritten generic_grammar.operands (operands_at rows ins out)
unfolding generic_grammar.operands
operands-w rows [] out = let h = output-w rows out in record { law = λ at. h.law at }
operands-w rows (v ∷ vs) out = let h = pair-w (inputs-w rows v vs) (sp-w (output-w rows out)) in record { law = λ at. h.law at }

generic-w : (al : List MapShape) (rows : List Row) (a r : ℕ) (ty : Ty) (ms : List MapShape) (its : List Iter) (ins : List ValueId) (out : ValueId) (p : PayloadShape) → AllByRecursion IsPrintableStep p.steps → IsWritten generic_grammar.generic (generic_at al rows a r ty ms its ins out p)
unfolding generic_grammar.generic
generic-w al rows a r ty ms its ins out p h = made-w _ _ (λ _. refl) (pair-w (put-w _ _ _) (sp-w (lay-w lexemes.OpenBrace (lay-w lexemes.IndexingMaps (sp-w (lay-w lexemes.Equals (sp-w (lay-w lexemes.OpenBracket (list-w lexemes.CloseBracket map_grammar.map_use (map (use_at al) ms) (uses-w al ms)
    (lay-w lexemes.Comma (sp-w (lay-w lexemes.IteratorTypes (sp-w (lay-w lexemes.Equals (sp-w (lay-w lexemes.OpenBracket (list-w lexemes.CloseBracket generic_grammar.iterator_type (map iterator_at its) (iterators-w its)
    (lay-w lexemes.CloseBrace (sp-w (pair-w (operands-w rows ins out) (sp-w (lay-w lexemes.OpenBrace (gap-w _ (pair-w (region-w al a r p h) (gap-w _ (lay-w lexemes.CloseBrace (sp-w (lay-w lexemes.Arrow (sp-w (put-w _ _ _))))))))))))))))))))))))))))))

-- ---- structured operations with a name of their own

fill-w : (rows : List Row) (ty : Ty) (v out : ValueId) → IsWritten structured_grammar.fill (fill_at rows ty v out)
unfolding structured_grammar.fill
fill-w rows ty v out = made-w _ _ (λ _. refl) (pair-w (put-w _ _ _) (sp-w (lay-w lexemes.Ins (lay-w lexemes.OpenParenthesis (pair-w (put-w _ _ _) (sp-w (lay-w lexemes.Colon (sp-w (pair-w (put-w _ _ _) (lay-w lexemes.CloseParenthesis (sp-w
    (pair-w (output-w rows out) (sp-w (lay-w lexemes.Arrow (sp-w (put-w _ _ _))))))))))))))))

factors-w : (rows : List Row) (ty : Ty) (a b out : ValueId) → IsWritten structured_grammar.factors (factors_at rows ty a b out)
unfolding structured_grammar.factors
factors-w rows ty a b out = made-w _ _ (λ _. refl) (lay-w lexemes.Ins (lay-w lexemes.OpenParenthesis (pair-w (put-w _ _ _) (lay-w lexemes.Comma (sp-w (pair-w (put-w _ _ _) (sp-w (lay-w lexemes.Colon (sp-w
    (pair-w (put-w _ _ _) (lay-w lexemes.Comma (sp-w (pair-w (put-w _ _ _) (lay-w lexemes.CloseParenthesis (sp-w (pair-w (output-w rows out) (sp-w (lay-w lexemes.Arrow (sp-w (put-w _ _ _))))))))))))))))))))

moved-w : (rows : List Row) (a out : ValueId) → IsWritten structured_grammar.source_and_output (moved_at rows a out)
unfolding structured_grammar.source_and_output
moved-w rows a out = made-w _ _ (λ _. refl) (lay-w lexemes.Ins (lay-w lexemes.OpenParenthesis (pair-w (put-w _ _ _) (sp-w (lay-w lexemes.Colon (sp-w (pair-w (put-w _ _ _) (lay-w lexemes.CloseParenthesis (sp-w (output-w rows out))))))))))

each_axis-w : (axes : List ℕ) → AreWritten literal_grammar.signed_number (map axis_at axes)
each_axis-w [] = tt
each_axis-w (n ∷ ns) = (number-w (pos n), each_axis-w ns)

axes-w : (axes : List ℕ) → IsWritten (list_before lexemes.CloseBracket literal_grammar.signed_number) (axes_at axes)
axes-w axes = record {
  law = λ at.
      commas_spelled lexemes.CloseBracket literal_grammar.signed_number (map axis_at axes) (each_axis-w axes) at ∙ sym (spelled_append (commas (map axis_at axes)).pieces (P.Fixed lexemes.CloseBracket ∷ []) at);
}

transpose-w : (rows : List Row) (a out : ValueId) (order : List ℕ) → IsWritten structured_grammar.transpose (transpose_at rows a out order)
unfolding structured_grammar.transpose
transpose-w rows a out order = made-w _ _ (λ _. refl) (pair-w (put-w _ _ _) (sp-w (pair-w (moved-w rows a out) (sp-w (lay-w lexemes.Permutation (sp-w (lay-w lexemes.Equals (sp-w (lay-w lexemes.OpenBracket (axes-w order))))))))))

broadcast-w : (rows : List Row) (a out : ValueId) (dims : List ℕ) → IsWritten structured_grammar.broadcast (broadcast_at rows a out dims)
unfolding structured_grammar.broadcast
broadcast-w rows a out dims = made-w _ _ (λ _. refl) (pair-w (put-w _ _ _) (sp-w (pair-w (moved-w rows a out) (sp-w (lay-w lexemes.Dimensions (sp-w (lay-w lexemes.Equals (sp-w (lay-w lexemes.OpenBracket (axes-w dims))))))))))

matmul-w : (rows : List Row) (ty : Ty) (a b out : ValueId) → IsWritten structured_grammar.matmul (matmul_at rows ty a b out)
unfolding structured_grammar.matmul
matmul-w rows ty a b out = made-w _ _ (λ _. refl) (pair-w (put-w _ _ _) (sp-w (factors-w rows ty a b out)))

batch_matmul-w : (rows : List Row) (ty : Ty) (a b out : ValueId) → IsWritten structured_grammar.batch_matmul (batch_matmul_at rows ty a b out)
unfolding structured_grammar.batch_matmul
batch_matmul-w rows ty a b out = made-w _ _ (λ _. refl) (pair-w (put-w _ _ _) (sp-w (factors-w rows ty a b out)))

-- ---- operations

empty-w : (ty : Ty) → IsWritten operation_grammar.empty (empty_at ty)
unfolding operation_grammar.empty
empty-w ty = made-w _ _ (λ _. refl) (pair-w (put-w _ _ _) (lay-w lexemes.OpenParenthesis (lay-w lexemes.CloseParenthesis (sp-w (lay-w lexemes.Colon (sp-w (put-w _ _ _)))))))

abbrev Writes : Writer Operation → Type 0
Writes w = IsWritten operation_grammar.operation w

as_constant-w : {v : Writer Constant} → IsWritten constant_grammar.constant v → Writes (made operations.Constant v)
unfolding operation_grammar.operation
as_constant-w h = record { law = λ at. h.law at }

as_empty-w : {v : Writer Empty} → IsWritten operation_grammar.empty v → Writes (made operations.Empty v)
unfolding operation_grammar.operation
as_empty-w h = record { law = λ at. h.law at }

as_generic-w : {v : Writer Generic} → IsWritten generic_grammar.generic v → Writes (made operations.Generic v)
unfolding operation_grammar.operation
as_generic-w h = record { law = λ at. h.law at }

as_fill-w : {v : Writer Fill} → IsWritten structured_grammar.fill v → Writes (made operations.Fill v)
unfolding operation_grammar.operation operation_grammar.named
as_fill-w h = record { law = λ at. h.law at }

as_matmul-w : {v : Writer Matmul} → IsWritten structured_grammar.matmul v → Writes (made operations.Matmul v)
unfolding operation_grammar.operation operation_grammar.named
as_matmul-w h = record { law = λ at. h.law at }

as_batch_matmul-w : {v : Writer BatchMatmul} → IsWritten structured_grammar.batch_matmul v → Writes (made operations.BatchMatmul v)
unfolding operation_grammar.operation operation_grammar.named
as_batch_matmul-w h = record { law = λ at. h.law at }

as_transpose-w : {v : Writer Transpose} → IsWritten structured_grammar.transpose v → Writes (made operations.Transpose v)
unfolding operation_grammar.operation operation_grammar.named
as_transpose-w h = record { law = λ at. h.law at }

as_broadcast-w : {v : Writer Broadcast} → IsWritten structured_grammar.broadcast v → Writes (made operations.Broadcast v)
unfolding operation_grammar.operation operation_grammar.named
as_broadcast-w h = record { law = λ at. h.law at }

scalar-w : (e : ElemTy) (cells : List ℕ) → IsPrintableScalar e cells → Writes (scalar_if e cells)
scalar-w e [] h = absurd h
scalar-w e (v ∷ []) h = as_constant-w (constant-w (as_scalar-w e v))
scalar-w e (v ∷ (u ∷ vs)) h = absurd h

constant_if-w : (ty : Ty) (cells : List ℕ) → IsPrintableConstant ty cells → Writes (constant_if ty cells)
constant_if-w (Scalar e) cells h = scalar-w e cells h
constant_if-w (Tensor es w) cells h = as_constant-w (constant-w (as_dense-w (dense_words w es cells) (Tensor es w)))
constant_if-w (Vector ns w) cells h = absurd h

operation-w : (al : List MapShape) (n : Names) (ty : Ty) (o : OpKind) → IsPrintableKind n.rows ty o → Writes (operation_at al n ty o)
operation-w al n ty (kinds.Constant cells) h = constant_if-w ty cells h
operation-w al n ty (kinds.Empty []) h = as_empty-w (empty-w ty)
operation-w al n ty (kinds.Empty (v ∷ vs)) h = absurd (cc (h.0))
operation-w al n ty (kinds.Generic maps its ins out [] p) h = as_generic-w (generic-w al n.rows n.args (n.results + 1) ty maps its ins out p h.steps)
operation-w al n ty (kinds.Generic maps its ins out (c ∷ cs) p) h = absurd (cc (h.not_captured))
operation-w al n ty (kinds.Fill v out) h = as_fill-w (fill-w n.rows ty v out)
operation-w al n ty (kinds.Matmul a b out) h = as_matmul-w (matmul-w n.rows ty a b out)
operation-w al n ty (kinds.BatchMatmul a b out) h = as_batch_matmul-w (batch_matmul-w n.rows ty a b out)
operation-w al n ty (kinds.Transpose a out order) h = as_transpose-w (transpose-w n.rows a out order)
operation-w al n ty (kinds.Broadcast a out dims) h = as_broadcast-w (broadcast-w n.rows a out dims)
operation-w al n ty o h = absurd h

pub line-w : (al : List MapShape) (n : Names) (rs : List (ValueId × Ty)) (o : OpKind) → IsPrintableLine n.rows rs o → IsWritten operation_grammar.statement (line_at al n rs o)
unfolding operation_grammar.statement
line-w al n [] o h = absurd h
line-w al n (r ∷ []) o h = made-w _ _ (λ _. refl) (pair-w (put-w _ _ _) (sp-w (lay-w lexemes.Equals (sp-w (operation-w al n r.1 o h)))))
line-w al n (r ∷ (s ∷ rs)) o h = absurd h
