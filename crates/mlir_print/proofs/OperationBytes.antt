-- The pieces of operations have the bytes that are written.
use Rattle.std.proofs.Common.{◌≡◌, ℕ, ◌+◌, List, [], ◌∷◌, ◌++◌, map, refl, ap, ◌∙◌, append_assoc, codes, decimal}
use Rattle.std.proofs.lemmas.List.{append-nil}
use Rattle.mlir_base.specs.declared.types.ElemTy.{ElemTy}
use Rattle.payload_ops.specs.Shape.{PayloadShape}
use Rattle.affine_maps.specs.Shape.{MapShape}
use Rattle.affine_text.specs.Text.{text_of_map}
use Rattle.mlir_ir.specs.declared.tree.Ty.{Ty}
use Rattle.mlir_ir.specs.declared.tree.Ty.TheVariants.{Scalar, Tensor, Vector}
use Rattle.mlir_ir.specs.declared.tree.Extent.{Extent}
use Rattle.mlir_ir.specs.declared.tree.ValueId.{ValueId}
use Rattle.mlir_ir.specs.declared.tree.Iter.{Iter}
use Rattle.mlir_ir.specs.declared.tree.OpKind.{OpKind}
use Rattle.mlir_ir.specs.declared.tree.OpKind.TheVariants as kinds
use Rattle.text_format.specs.declared.class.Class.TheVariants.{TensorType}
use Rattle.text_format.specs.declared.front.Kind.TheVariants.{Shaped}
use Rattle.text_format.specs.declared.lexeme.Lexeme.TheVariants.{OpenBrace, CloseBrace, OpenBracket, CloseBracket, Comma, Equals, Arrow, IteratorTypes}
use Rattle.text_format.specs.Pieces.{Piece, Gap, Fixed, Leaf, bytes_of}
use Rattle.mlir_print.specs.Types.{ty_text}
use Rattle.mlir_print.specs.Names.{Names, Row, name_in, type_in}
use Rattle.mlir_print.specs.Maps.{use_at}
use Rattle.mlir_print.specs.Constants.{Word, dense_words, words_text, word_at, dense_at}
use Rattle.mlir_print.specs.Payloads.{region_at}
use Rattle.mlir_print.specs.Generics.{iterator_text, iterator_at, next_input_at, next_type_at, inputs_at, output_at, operands_at, generic_at}
use Rattle.mlir_print.specs.Structured.{fill_at, factors_at, axis_at, transpose_at, broadcast_at}
use Rattle.mlir_print.specs.Operations.{scalar_if, constant_if, generic_if, empty_if, operation_at}
use Rattle.mlir_print.specs.Returns.{values_text, types_text}
use Rattle.text_format.specs.Writers.{each_of, commas, after_comma}
use Rattle.mlir_print.specs.MapParts.{uses_text}
use Rattle.mlir_print.specs.PayloadParts.{region_text}
use Rattle.mlir_print.specs.GenericParts.{ins_text, outs_text, operands_text, iterators_text, maps_text, traits_text, head_text, tail_text, generic_text}
use Rattle.mlir_print.specs.StructuredParts.{source_text, moved_text, into_text, fill_text, two_names_text, two_types_text, factors_text, axes_text, transpose_text, broadcast_text}
use Rattle.mlir_print.specs.OperationParts.{empty_text_if, scalar_text_if, dense_text, constant_text_if, generic_text_if, operation_text}
use Rattle.mlir_print.proofs.PayloadBytes.{bytes_append, uses_bytes, literal_bytes, region_bytes}

-- ---- generic operations

more_values : (rows : List Row) (vs : List ValueId) → bytes_of (each_of (map (next_input_at rows) vs)).pieces ≡ values_text rows (codes ", ") vs
more_values rows [] = refl
more_values rows (v ∷ vs) = ap (λ (t : List ℕ). codes ", " ++ (name_in rows v ++ t)) (more_values rows vs)

more_types : (rows : List Row) (vs : List ValueId) → bytes_of (each_of (map (next_type_at rows) vs)).pieces ≡ types_text rows (codes ", ") vs
more_types rows [] = refl
more_types rows (v ∷ vs) = ap (λ (t : List ℕ). codes ", " ++ (type_in rows v ++ t)) (more_types rows vs)

inputs_bytes : (rows : List Row) (v : ValueId) (vs : List ValueId) → bytes_of (inputs_at rows v vs).pieces ≡ ins_text rows (v ∷ vs)
unfolding ins_text
inputs_bytes rows v vs = simp (bytes_append, more_values, more_types, append_assoc)

output_bytes : (rows : List Row) (out : ValueId) → bytes_of (output_at rows out).pieces ≡ outs_text rows out
unfolding outs_text
output_bytes rows out = refl

operands_bytes : (rows : List Row) (ins : List ValueId) (out : ValueId) → bytes_of (operands_at rows ins out).pieces ≡ operands_text rows ins out
operands_bytes rows [] out = output_bytes rows out
operands_bytes rows (v ∷ vs) out = bytes_append (inputs_at rows v vs).pieces _ ∙ ap (λ (t : List ℕ). t ++ (codes " " ++ bytes_of (output_at rows out).pieces)) (inputs_bytes rows v vs) ∙ ap (λ (t : List ℕ). ins_text rows (v ∷ vs) ++ (codes " " ++ t)) (output_bytes rows out)

more_iterators : (its : List Iter) → bytes_of (each_of (map after_comma (map iterator_at its))).pieces ≡ iterators_text (codes ", ") its
more_iterators [] = refl
more_iterators (i ∷ its) = ap (λ (t : List ℕ). codes ", " ++ (iterator_text i ++ t)) (more_iterators its)

iterators_bytes : (its : List Iter) → bytes_of (commas (map iterator_at its)).pieces ≡ iterators_text [] its
iterators_bytes [] = refl
iterators_bytes (i ∷ its) = ap (λ (t : List ℕ). iterator_text i ++ t) (more_iterators its)

-- two parts
two : (ps qs : List Piece) (a b : List ℕ) → bytes_of ps ≡ a → bytes_of qs ≡ b → bytes_of (ps ++ qs) ≡ a ++ b
two ps qs a b e f = bytes_append ps qs ∙ ap (λ (t : List ℕ). t ++ bytes_of qs) e ∙ ap (λ (t : List ℕ). a ++ t) f

abbrev behind_region : Ty → List Piece
behind_region ty = Gap (codes "\n    ") ∷ Fixed CloseBrace ∷ Gap (codes " ") ∷ Fixed Arrow ∷ Gap (codes " ") ∷ Leaf TensorType Shaped (ty_text ty) ∷ []

abbrev behind_operands : List MapShape → ℕ → ℕ → PayloadShape → Ty → List Piece
behind_operands al a r p ty = Gap (codes " ") ∷ Fixed OpenBrace ∷ Gap (codes "\n    ") ∷ ((region_at al a r p).pieces ++ behind_region ty)

abbrev behind_iterators : List MapShape → List Row → List ValueId → ValueId → ℕ → ℕ → PayloadShape → Ty → List Piece
behind_iterators al rows ins out a r p ty = Fixed CloseBracket ∷ Fixed CloseBrace ∷ Gap (codes " ") ∷ ((operands_at rows ins out).pieces ++ behind_operands al a r p ty)

abbrev behind_maps : List MapShape → List Row → List Iter → List ValueId → ValueId → ℕ → ℕ → PayloadShape → Ty → List Piece
behind_maps al rows its ins out a r p ty = Fixed CloseBracket ∷ Fixed Comma ∷ Gap (codes " ") ∷ Fixed IteratorTypes ∷ Gap (codes " ") ∷ Fixed Equals ∷ Gap (codes " ") ∷ Fixed OpenBracket ∷ ((commas (map iterator_at its)).pieces ++ behind_iterators al rows ins out a r p ty)

abbrev region_on : List MapShape → ℕ → ℕ → PayloadShape → Ty → List ℕ
region_on al a r p ty = codes " {\n    " ++ (region_text (map text_of_map al) a r p ++ (codes "\n    } -> " ++ ty_text ty))

region_is : (al : List MapShape) (a r : ℕ) (p : PayloadShape) (ty : Ty) → bytes_of (behind_operands al a r p ty) ≡ region_on al a r p ty
region_is al a r p ty = ap (λ (t : List ℕ). codes " {\n    " ++ t) (two (region_at al a r p).pieces (behind_region ty) (region_text (map text_of_map al) a r p) (codes "\n    } -> " ++ ty_text ty) (region_bytes al a r p) (ap (λ (t : List ℕ). codes "\n    } -> " ++ t) (append-nil (ty_text ty))))

operands_is : (al : List MapShape) (rows : List Row) (ins : List ValueId) (out : ValueId) (a r : ℕ) (p : PayloadShape) (ty : Ty)
    → bytes_of (behind_iterators al rows ins out a r p ty) ≡ codes "]} " ++ (operands_text rows ins out ++ region_on al a r p ty)
operands_is al rows ins out a r p ty = ap (λ (t : List ℕ). codes "]} " ++ t) (two (operands_at rows ins out).pieces (behind_operands al a r p ty) (operands_text rows ins out) (region_on al a r p ty) (operands_bytes rows ins out) (region_is al a r p ty))

maps_is : (al : List MapShape) (rows : List Row) (its : List Iter) (ins : List ValueId) (out : ValueId) (a r : ℕ) (p : PayloadShape) (ty : Ty)
    → bytes_of (behind_maps al rows its ins out a r p ty) ≡ codes "], iterator_types = [" ++ (iterators_text [] its ++ (codes "]} " ++ (operands_text rows ins out ++ region_on al a r p ty)))
maps_is al rows its ins out a r p ty = ap (λ (t : List ℕ). codes "], iterator_types = [" ++ t) (two (commas (map iterator_at its)).pieces (behind_iterators al rows ins out a r p ty) (iterators_text [] its) (codes "]} " ++ (operands_text rows ins out ++ region_on al a r p ty)) (iterators_bytes its) (operands_is al rows ins out a r p ty))

generic_is : (al : List MapShape) (rows : List Row) (a r : ℕ) (ty : Ty) (ms : List MapShape) (its : List Iter) (ins : List ValueId) (out : ValueId) (p : PayloadShape)
    → bytes_of (generic_at al rows a r ty ms its ins out p).pieces ≡ codes "linalg.generic {indexing_maps = [" ++ (uses_text (map text_of_map al) [] ms ++ (codes "], iterator_types = [" ++ (iterators_text [] its ++ (codes "]} " ++ (operands_text rows ins out ++ region_on al a r p ty)))))
generic_is al rows a r ty ms its ins out p =
    ap (λ (t : List ℕ). codes "linalg.generic {indexing_maps = [" ++ t)
    (two (commas (map (use_at al) ms)).pieces (behind_maps al rows its ins out a r p ty) (uses_text (map text_of_map al) [] ms) (codes "], iterator_types = [" ++ (iterators_text [] its ++ (codes "]} " ++ (operands_text rows ins out ++ region_on al a r p ty)))) (uses_bytes al ms) (maps_is al rows its ins out a r p ty))

grouped : (u i o g : List ℕ)
    → codes "linalg.generic {indexing_maps = [" ++ (u ++ (codes "], iterator_types = [" ++ (i ++ (codes "]} " ++ (o ++ g)))))
    ≡ (codes "linalg.generic " ++ (((codes "{indexing_maps = [" ++ (u ++ codes "]")) ++ (codes ", iterator_types = [" ++ (i ++ codes "]}"))) ++ (codes " " ++ o))) ++ g
grouped u i o g = simp append_assoc

generic_bytes : (al : List MapShape) (n : Names) (ty : Ty) (ms : List MapShape) (its : List Iter) (ins : List ValueId) (out : ValueId) (p : PayloadShape)
    → bytes_of (generic_at al n.rows n.args (n.results + 1) ty ms its ins out p).pieces ≡ generic_text (map text_of_map al) n ty ms its ins out p
unfolding generic_text head_text tail_text traits_text maps_text
generic_bytes al n ty ms its ins out p =
    generic_is al n.rows n.args (n.results + 1) ty ms its ins out p ∙ grouped (uses_text (map text_of_map al) [] ms) (iterators_text [] its) (operands_text n.rows ins out) (region_on al n.args (n.results + 1) p ty)

-- ---- structured operations

fill_bytes : (rows : List Row) (ty : Ty) (v out : ValueId) → bytes_of (fill_at rows ty v out).pieces ≡ fill_text rows ty v out
unfolding fill_text source_text into_text outs_text
fill_bytes rows ty v out = simp (bytes_append, append_assoc, append-nil)

factors_bytes : (rows : List Row) (ty : Ty) (a b out : ValueId) → bytes_of (factors_at rows ty a b out).pieces ≡ factors_text rows ty a b out
unfolding factors_text two_names_text two_types_text into_text outs_text
factors_bytes rows ty a b out = simp (bytes_append, append_assoc, append-nil)

more_axes : (ns : List ℕ) → bytes_of (each_of (map after_comma (map axis_at ns))).pieces ≡ axes_text (codes ", ") ns
more_axes [] = refl
more_axes (n ∷ ns) = ap (λ (t : List ℕ). codes ", " ++ (decimal n ++ t)) (more_axes ns)

axes_bytes : (ns : List ℕ) → bytes_of (commas (map axis_at ns)).pieces ≡ axes_text [] ns
axes_bytes [] = refl
axes_bytes (n ∷ ns) = ap (λ (t : List ℕ). decimal n ++ t) (more_axes ns)

transpose_bytes : (rows : List Row) (a out : ValueId) (order : List ℕ) → bytes_of (transpose_at rows a out order).pieces ≡ transpose_text rows a out order
unfolding transpose_text moved_text source_text outs_text
transpose_bytes rows a out order = simp (bytes_append, axes_bytes, append_assoc, append-nil)

broadcast_bytes : (rows : List Row) (a out : ValueId) (dims : List ℕ) → bytes_of (broadcast_at rows a out dims).pieces ≡ broadcast_text rows a out dims
unfolding broadcast_text moved_text source_text outs_text
broadcast_bytes rows a out dims = simp (bytes_append, axes_bytes, append_assoc, append-nil)

-- ---- constants

words_bytes : (xs : List Word) → bytes_of (each_of (map word_at xs)).pieces ≡ words_text xs
words_bytes [] = refl
words_bytes (x ∷ xs) = ap (λ (t : List ℕ). x.text ++ (x.behind ++ t)) (words_bytes xs)

dense_bytes : (es : List Extent) (w : ℕ) (cells : List ℕ) → codes "arith.constant " ++ bytes_of (dense_at (dense_words w es cells) (Tensor es w)).pieces ≡ dense_text es w cells
unfolding dense_text
dense_bytes es w cells =
    ap (λ (t : List ℕ). codes "arith.constant dense<" ++ t)
    (two (each_of (map word_at (dense_words w es cells))).pieces _ (words_text (dense_words w es cells)) (codes "> : " ++ ty_text (Tensor es w)) (words_bytes (dense_words w es cells)) (ap (λ (t : List ℕ). codes "> : " ++ t) (append-nil (ty_text (Tensor es w)))))

scalar_bytes : (e : ElemTy) (cells : List ℕ) → bytes_of (scalar_if e cells).pieces ≡ scalar_text_if e cells
scalar_bytes e [] = refl
scalar_bytes e (v ∷ []) = ap (λ (t : List ℕ). codes "arith.constant " ++ t) (literal_bytes e v)
scalar_bytes e (v ∷ (u ∷ vs)) = refl

constant_bytes : (ty : Ty) (cells : List ℕ) → bytes_of (constant_if ty cells).pieces ≡ constant_text_if ty cells
constant_bytes (Scalar e) cells = scalar_bytes e cells
constant_bytes (Tensor es w) cells = dense_bytes es w cells
constant_bytes (Vector ns w) cells = refl

-- ---- operations

empty_bytes : (sizes : List ValueId) (ty : Ty) → bytes_of (empty_if sizes ty).pieces ≡ empty_text_if sizes ty
empty_bytes [] ty = simp append-nil
empty_bytes (v ∷ vs) ty = refl

generic_if_bytes : (captured : List ValueId) (al : List MapShape) (n : Names) (ty : Ty) (ms : List MapShape) (its : List Iter) (ins : List ValueId) (out : ValueId) (p : PayloadShape)
    → bytes_of (generic_if captured al n ty ms its ins out p).pieces ≡ generic_text_if captured (map text_of_map al) n ty ms its ins out p
generic_if_bytes [] al n ty ms its ins out p = generic_bytes al n ty ms its ins out p
generic_if_bytes (c ∷ cs) al n ty ms its ins out p = refl

pub operation_bytes : (al : List MapShape) (n : Names) (ty : Ty) (k : OpKind) → bytes_of (operation_at al n ty k).pieces ≡ operation_text (map text_of_map al) n ty k
unfolding operation_text
operation_bytes al n ty (kinds.Constant cells) = constant_bytes ty cells
operation_bytes al n ty (kinds.Empty sizes) = empty_bytes sizes ty
operation_bytes al n ty (kinds.Generic maps its ins out captured p) = generic_if_bytes captured al n ty maps its ins out p
operation_bytes al n ty (kinds.Fill v out) = fill_bytes n.rows ty v out
operation_bytes al n ty (kinds.Matmul a b out) = ap (λ (t : List ℕ). codes "linalg.matmul " ++ t) (factors_bytes n.rows ty a b out)
operation_bytes al n ty (kinds.BatchMatmul a b out) = ap (λ (t : List ℕ). codes "linalg.batch_matmul " ++ t) (factors_bytes n.rows ty a b out)
operation_bytes al n ty (kinds.Transpose a out order) = transpose_bytes n.rows a out order
operation_bytes al n ty (kinds.Broadcast a out dims) = broadcast_bytes n.rows a out dims
operation_bytes al n ty k = refl
