-- The pieces of a printable operation are well spaced.
use Rattle.std.proofs.Common.{◌≡◌, ◌<◌, ◌≤◌, ◌^◌, ◌+◌, ℕ, true, List, [], ◌∷◌, map, refl, sym, subst, arith, codes, false}
use Rattle.std.specs.List.{AllByRecursion}
use Rattle.mlir_base.specs.declared.types.ElemTy.{ElemTy}
use Rattle.mlir_base.specs.declared.types.ElemTy.TheVariants.{Int, Index}
use Rattle.mlir_base.specs.Types.{is_value}
use Rattle.payload_ops.specs.Shape.{PayloadShape}
use Rattle.affine_maps.specs.Shape.{MapShape}
use Rattle.mlir_ir.specs.declared.tree.Ty.{Ty}
use Rattle.mlir_ir.specs.declared.tree.Ty.TheVariants.{Scalar, Tensor, Vector}
use Rattle.mlir_ir.specs.declared.tree.ValueId.{ValueId}
use Rattle.mlir_ir.specs.declared.tree.Iter.{Iter}
use Rattle.mlir_ir.specs.declared.tree.Iter.TheVariants.{Parallel, Reduction}
use Rattle.mlir_ir.specs.declared.tree.OpKind.{OpKind}
use Rattle.mlir_ir.specs.declared.tree.OpKind.TheVariants as kinds
use Rattle.text_format.specs.declared.class.Class.TheVariants as classes
use Rattle.text_format.specs.declared.class.Position.TheVariants as places
use Rattle.text_format.specs.declared.front.Kind.TheVariants.{Shaped, Alias}
use Rattle.text_format.specs.declared.lexeme.Lexeme.{Lexeme}
use Rattle.text_format.specs.declared.lexeme.Lexeme.TheVariants as lexemes
use Rattle.text_format.specs.Lexemes.{lexeme_kind, lexeme_text}
use Rattle.text_format.specs.Pieces.{Piece, Gap, Fixed, Leaf}
use Rattle.text_format.proofs.Spacing.{IsName, IsApart, result_name, decimal_name, lexeme_name, none_apart, none_opens, space, fixed_closed, fixed_word, leaf_name, leaf_closed, append_apart, append_opens, space_opens, fixed_opens, quoted_closed, is_minus}
use Rattle.mlir_scope.specs.Types.{elem_of}
use Rattle.mlir_print.specs.declared.names.Given.TheVariants.{Result}
use Rattle.mlir_print.specs.Types.{ty_text}
use Rattle.mlir_print.specs.Names.{Names, Row, row_of}
use Rattle.mlir_print.specs.Maps.{use_at, steps_maps, maps_used, alias_of}
use Rattle.mlir_roundtrip.proofs.Regions.{all_split}
use Rattle.text_format.specs.Writers.{each_of, commas}
use Rattle.mlir_print.specs.Payloads.{region_at}
use Rattle.mlir_print.specs.Generics.{iterator_at, next_input_at, next_type_at, input_types_at, inputs_at, output_at, operands_at, generic_at}
use Rattle.mlir_print.specs.Structured.{fill_at, factors_at, moved_at, axis_at, axes_at, transpose_at, broadcast_at}
use Rattle.mlir_print.specs.Operations.{empty_at, scalar_if, constant_if, operation_at, line_at, names_after}
use Rattle.mlir_roundtrip.specs.Printable.{IsTensorType, IsIntegerType, IsValueType, IsDefined, row_or, elem_in, IsTensorValue, IsPrintableScalar, IsPrintableConstant, IsPrintableFill, IsPrintableProduct, IsPrintableMove, IsPrintableKind, IsPrintableLine}
use Rattle.mlir_roundtrip.proofs.Rows.{Bound, RowsFit, bound_next, inner_few, kind_type, rows_fit}
use Rattle.mlir_roundtrip.proofs.Placing.{AreApart, AreOpen, IsSmallElem, close_end, close_opens, close_piece, comma_opens, commas_apart, each_apart, four_opens, line_four, integer_small, operand_name, row_closed, type_end, typed_end, value_closed, value_name, value_word}
use Rattle.mlir_roundtrip.proofs.PayloadSpaced.{PayloadSmall, literal_apart, payload_small, region_apart}
use Rattle.mlir_roundtrip.proofs.MapUses.{AreNamed, uses_apart}
use Rattle.mlir_roundtrip.proofs.DenseWords.{dense_apart}

abbrev pub AreDefined : List Row → List ValueId → Type 0
AreDefined rows vs = AllByRecursion (IsDefined rows) vs

-- an operation's name
name_apart : (l : Lexeme) {ps : List Piece} → is_minus l ≡ false → IsApart ps → IsApart (Leaf (classes.Name places.Operation l) (lexeme_kind l) (lexeme_text l) ∷ Gap (codes " ") ∷ ps)
name_apart l e h = leaf_name (classes.Name places.Operation l) (lexeme_name l e) space_opens (space h)

-- the type of the result, behind the arrow
arrow_type : (ty : Ty) → IsTensorType ty → IsApart (Fixed lexemes.Arrow ∷ Gap (codes " ") ∷ Leaf classes.TensorType Shaped (ty_text ty) ∷ [])
arrow_type ty t = fixed_closed lexemes.Arrow refl (space (type_end (ty_text ty) (row_closed ty t)))

-- ---- operands

inputs_on : (rows : List Row) → RowsFit rows → (vs : List ValueId) → AreDefined rows vs → AreApart (map (next_input_at rows) vs) × AreOpen (map (next_input_at rows) vs)
inputs_on rows f [] d = (tt, tt)
inputs_on rows f (v ∷ vs) d =
    let r = inputs_on rows f vs d.1 in
    ((fixed_closed lexemes.Comma refl (space (leaf_name classes.Value (value_name rows f v d.0) none_opens none_apart)), r.0), (fixed_opens lexemes.Comma refl, r.1))

types_apart : (rows : List Row) → RowsFit rows → (vs : List ValueId) → AreDefined rows vs → AreApart (map (next_type_at rows) vs) × AreOpen (map (next_type_at rows) vs)
types_apart rows f [] d = (tt, tt)
types_apart rows f (v ∷ vs) d =
    let r = types_apart rows f vs d.1 in
    ((leaf_name (classes.Exactly lexemes.Comma) (lexeme_name lexemes.Comma refl) space_opens (space (leaf_name classes.OperandType (operand_name rows f v d.0) none_opens none_apart)), r.0), (comma_opens, r.1))

input_types_apart : (rows : List Row) → RowsFit rows → (v : ValueId) (vs : List ValueId) → IsDefined rows v → AreDefined rows vs → IsApart (input_types_at rows v vs).pieces
input_types_apart rows f v vs d ds =
    let t = types_apart rows f vs ds in
    let e = each_apart (map (next_type_at rows) vs) t.0 t.1 in
    leaf_name classes.OperandType (operand_name rows f v d) (append_opens (each_of (map (next_type_at rows) vs)).pieces (close_piece ∷ []) e.1 close_opens)
    (append_apart (each_of (map (next_type_at rows) vs)).pieces (close_piece ∷ []) e.0 close_opens close_end)

inputs_apart : (rows : List Row) → RowsFit rows → (v : ValueId) (vs : List ValueId) → IsDefined rows v → AreDefined rows vs → IsApart (inputs_at rows v vs).pieces
inputs_apart rows f v vs d ds =
    let i = inputs_on rows f vs ds in
    let e = each_apart (map (next_input_at rows) vs) i.0 i.1 in
    fixed_word lexemes.Ins refl (fixed_opens lexemes.OpenParenthesis refl) (fixed_closed lexemes.OpenParenthesis refl
    (leaf_name classes.Value (value_name rows f v d) (append_opens (each_of (map (next_input_at rows) vs)).pieces _ e.1 space_opens)
    (append_apart (each_of (map (next_input_at rows) vs)).pieces _ e.0 space_opens (space (fixed_closed lexemes.Colon refl (space (input_types_apart rows f v vs d ds)))))))

output_apart : (rows : List Row) → RowsFit rows → (out : ValueId) → IsTensorValue rows out → IsApart (output_at rows out).pieces
output_apart rows f out t =
    fixed_word lexemes.Outs refl (fixed_opens lexemes.OpenParenthesis refl) (fixed_closed lexemes.OpenParenthesis refl (leaf_name classes.Value (value_name rows f out t.is_defined) space_opens (space (fixed_closed lexemes.Colon refl (space
    (leaf_closed classes.TensorType (value_closed rows f out t) (fixed_closed lexemes.CloseParenthesis refl none_apart)))))))

operands_apart : (rows : List Row) → RowsFit rows → (ins : List ValueId) (out : ValueId) → AreDefined rows ins → IsTensorValue rows out → IsApart (operands_at rows ins out).pieces
operands_apart rows f [] out d t = output_apart rows f out t
operands_apart rows f (v ∷ vs) out d t = append_apart (inputs_at rows v vs).pieces _ (inputs_apart rows f v vs d.0 d.1) space_opens (space (output_apart rows f out t))

-- ---- generic operations

iterators_apart : (its : List Iter) → AreApart (map iterator_at its)
iterators_apart [] = tt
iterators_apart (Parallel ∷ is) = (leaf_closed classes.Iterator (quoted_closed (codes "parallel") refl) none_apart, iterators_apart is)
iterators_apart (Reduction ∷ is) = (leaf_closed classes.Iterator (quoted_closed (codes "reduction") refl) none_apart, iterators_apart is)

-- what stands behind the maps
behind_uses : {ps : List Piece} → IsApart ps → IsApart (Fixed lexemes.CloseBracket ∷ Fixed lexemes.Comma ∷ Gap (codes " ") ∷ Fixed lexemes.IteratorTypes ∷ Gap (codes " ") ∷ Fixed lexemes.Equals ∷ Gap (codes " ") ∷ Fixed lexemes.OpenBracket ∷ ps)
behind_uses h =
    fixed_closed lexemes.CloseBracket refl (fixed_closed lexemes.Comma refl (space (fixed_word lexemes.IteratorTypes refl space_opens (space (fixed_closed lexemes.Equals refl (space (fixed_closed lexemes.OpenBracket refl h)))))))

close_region : (ty : Ty) → IsTensorType ty → IsApart (Gap (codes "\n    ") ∷ Fixed lexemes.CloseBrace ∷ Gap (codes " ") ∷ Fixed lexemes.Arrow ∷ Gap (codes " ") ∷ Leaf classes.TensorType Shaped (ty_text ty) ∷ [])
close_region ty t = line_four (fixed_closed lexemes.CloseBrace refl (space (arrow_type ty t)))

generic_apart : (al : List MapShape) (rows : List Row) (a r : ℕ) (ty : Ty) (ms : List MapShape) (its : List Iter) (ins : List ValueId) (out : ValueId) (p : PayloadShape)
    → RowsFit rows → IsTensorType ty → AreNamed al ms → AreDefined rows ins → IsTensorValue rows out → PayloadSmall al a r p → IsApart (generic_at al rows a r ty ms its ins out p).pieces
generic_apart al rows a r ty ms its ins out p f t named ds dd s =
    name_apart lexemes.LinalgGeneric refl (fixed_closed lexemes.OpenBrace refl (fixed_word lexemes.IndexingMaps refl space_opens (space (fixed_closed lexemes.Equals refl (space (fixed_closed lexemes.OpenBracket refl
    (append_apart (commas (map (use_at al) ms)).pieces _ (commas_apart (map (use_at al) ms) (uses_apart al ms named)) (fixed_opens lexemes.CloseBracket refl)
    (behind_uses (append_apart (commas (map iterator_at its)).pieces _ (commas_apart (map iterator_at its) (iterators_apart its)) (fixed_opens lexemes.CloseBracket refl) (fixed_closed lexemes.CloseBracket refl (fixed_closed lexemes.CloseBrace refl (space
    (append_apart (operands_at rows ins out).pieces _ (operands_apart rows f ins out ds dd) space_opens (space (fixed_closed lexemes.OpenBrace refl (line_four
    (append_apart (region_at al a r p).pieces _ (region_apart al a r p s) four_opens (close_region ty t))))))))))))))))))

-- ---- structured operations with a name of their own

fill_apart : (rows : List Row) → RowsFit rows → (ty : Ty) (v out : ValueId) → IsPrintableFill rows ty v out → IsApart (fill_at rows ty v out).pieces
fill_apart rows f ty v out h =
    name_apart lexemes.LinalgFill refl (fixed_word lexemes.Ins refl (fixed_opens lexemes.OpenParenthesis refl) (fixed_closed lexemes.OpenParenthesis refl
    (leaf_name classes.Value (value_name rows f v h.value.is_defined) space_opens (space (fixed_closed lexemes.Colon refl (space
    (leaf_name classes.ElementType (value_word rows f v h.value) (fixed_opens lexemes.CloseParenthesis refl) (fixed_closed lexemes.CloseParenthesis refl (space
    (append_apart (output_at rows out).pieces _ (output_apart rows f out h.output) space_opens (space (arrow_type ty h.result))))))))))))

factors_apart : (rows : List Row) → RowsFit rows → (ty : Ty) (a b out : ValueId) → IsPrintableProduct rows ty a b out → IsApart (factors_at rows ty a b out).pieces
factors_apart rows f ty a b out h =
    fixed_word lexemes.Ins refl (fixed_opens lexemes.OpenParenthesis refl) (fixed_closed lexemes.OpenParenthesis refl
    (leaf_name classes.Value (value_name rows f a h.left.is_defined) (fixed_opens lexemes.Comma refl) (fixed_closed lexemes.Comma refl (space
    (leaf_name classes.Value (value_name rows f b h.right.is_defined) space_opens (space (fixed_closed lexemes.Colon refl (space
    (leaf_closed classes.TensorType (value_closed rows f a h.left) (fixed_closed lexemes.Comma refl (space (leaf_closed classes.TensorType (value_closed rows f b h.right) (fixed_closed lexemes.CloseParenthesis refl (space
    (append_apart (output_at rows out).pieces _ (output_apart rows f out h.output) space_opens (space (arrow_type ty h.result)))))))))))))))))

moved_apart : (rows : List Row) → RowsFit rows → (a out : ValueId) → IsTensorValue rows a → IsTensorValue rows out → IsApart (moved_at rows a out).pieces
moved_apart rows f a out d t =
    fixed_word lexemes.Ins refl (fixed_opens lexemes.OpenParenthesis refl) (fixed_closed lexemes.OpenParenthesis refl
    (leaf_name classes.Value (value_name rows f a d.is_defined) space_opens (space (fixed_closed lexemes.Colon refl (space
    (leaf_closed classes.TensorType (value_closed rows f a d) (fixed_closed lexemes.CloseParenthesis refl (space (output_apart rows f out t)))))))))

each_axis : (axes : List ℕ) → AllByRecursion (λ n. n ≤ 1048576) axes → AreApart (map axis_at axes)
each_axis [] h = tt
each_axis (n ∷ ns) h = (leaf_name classes.Number (decimal_name n (omega (arith, h.0))) none_opens none_apart, each_axis ns h.1)

axes_apart : (axes : List ℕ) → AllByRecursion (λ n. n ≤ 1048576) axes → IsApart (axes_at axes).pieces
axes_apart axes h = append_apart (commas (map axis_at axes)).pieces _ (commas_apart (map axis_at axes) (each_axis axes h)) (fixed_opens lexemes.CloseBracket refl) (fixed_closed lexemes.CloseBracket refl none_apart)

transpose_apart : (rows : List Row) → RowsFit rows → (ty : Ty) (a out : ValueId) (order : List ℕ) → IsPrintableMove rows ty a out order → IsApart (transpose_at rows a out order).pieces
transpose_apart rows f ty a out order h =
    name_apart lexemes.LinalgTranspose refl (append_apart (moved_at rows a out).pieces _ (moved_apart rows f a out h.source h.output) space_opens
    (space (fixed_word lexemes.Permutation refl space_opens (space (fixed_closed lexemes.Equals refl (space (fixed_closed lexemes.OpenBracket refl (axes_apart order h.near))))))))

broadcast_apart : (rows : List Row) → RowsFit rows → (ty : Ty) (a out : ValueId) (dims : List ℕ) → IsPrintableMove rows ty a out dims → IsApart (broadcast_at rows a out dims).pieces
broadcast_apart rows f ty a out dims h =
    name_apart lexemes.LinalgBroadcast refl (append_apart (moved_at rows a out).pieces _ (moved_apart rows f a out h.source h.output) space_opens
    (space (fixed_word lexemes.Dimensions refl space_opens (space (fixed_closed lexemes.Equals refl (space (fixed_closed lexemes.OpenBracket refl (axes_apart dims h.near))))))))

-- ---- constants

integer_apart : (e : ElemTy) (v : ℕ) → IsIntegerType e → is_value e v ≡ true → IsApart (scalar_if e (v ∷ [])).pieces
integer_apart (Int w) v h k = name_apart lexemes.ArithConstant refl (literal_apart (Int w) v h k)
integer_apart Index v h k = absurd h

scalar_apart : (e : ElemTy) (cells : List ℕ) → IsPrintableScalar e cells → IsApart (scalar_if e cells).pieces
scalar_apart e [] h = absurd h
scalar_apart e (v ∷ []) h = integer_apart e v h.0 h.1
scalar_apart e (v ∷ (u ∷ vs)) h = absurd h

constant_apart : (ty : Ty) (cells : List ℕ) → IsPrintableConstant ty cells → IsApart (constant_if ty cells).pieces
constant_apart (Scalar e) cells h = scalar_apart e cells h
constant_apart (Tensor es w) cells h = let t = h.result in name_apart lexemes.ArithConstant refl (dense_apart w es cells (Tensor es w) t.most h.values t)
constant_apart (Vector ns w) cells h = absurd h

-- ---- one operation, where k stand before it

empty_apart : (ty : Ty) → IsTensorType ty → IsApart (empty_at ty).pieces
empty_apart ty r = leaf_name (classes.Name places.Operation lexemes.TensorEmpty) (lexeme_name lexemes.TensorEmpty refl) (fixed_opens lexemes.OpenParenthesis refl) (fixed_closed lexemes.OpenParenthesis refl (fixed_closed lexemes.CloseParenthesis refl (space (typed_end ty r))))

value_elem : (ty : Ty) → IsValueType ty → IsSmallElem (elem_of ty)
value_elem (Scalar e) h = integer_small e h
value_elem (Tensor es w) h = let le = h.most in omega arith
value_elem (Vector ns w) h = absurd h

defined_elem : (rows : List Row) → RowsFit rows → (v : ValueId) → IsDefined rows v → IsSmallElem (elem_in rows v)
defined_elem rows f v d = subst (λ o. IsSmallElem (elem_of (row_or o).ty)) (sym d.1) (value_elem d.0.ty (f v.0 d.0 d.1).1)

defined_elems : (rows : List Row) → RowsFit rows → (vs : List ValueId) → AreDefined rows vs → AllByRecursion IsSmallElem (map (elem_in rows) vs)
defined_elems rows f [] d = tt
defined_elems rows f (v ∷ vs) d = (defined_elem rows f v d.0, defined_elems rows f vs d.1)

kind_apart : (al : List MapShape) (n : Names) (k : ℕ) (ty : Ty) (o : OpKind) → k < 65536 → Bound k n → RowsFit n.rows → AreNamed al (maps_used o) → IsPrintableKind n.rows ty o → IsApart (operation_at al n ty o).pieces
kind_apart al n k ty (kinds.Constant cells) lt b f named h = constant_apart ty cells h
kind_apart al n k ty (kinds.Empty []) lt b f named h = empty_apart ty h.1
kind_apart al n k ty (kinds.Empty (v ∷ vs)) lt b f named h = absurd (cc (h.0))
kind_apart al n k ty (kinds.Generic maps its ins out (c ∷ cs) p) lt b f named h = absurd (cc (h.not_captured))
kind_apart al n k ty (kinds.Generic maps its ins out [] p) lt b f named h =
    let ba = b.args in
    let br = b.results in
    let i = inner_few n.rows ty (kinds.Generic maps its ins out [] p) h in
    let si = subst (λ (es : List ElemTy). AllByRecursion IsSmallElem es) (sym h.ins_typed) (defined_elems n.rows f ins h.ins_defined) in
    let so = subst (λ e. IsSmallElem e) (sym h.out_typed) (defined_elem n.rows f out h.output.is_defined) in
    let names = all_split (λ m. IsName Alias (alias_of al m)) maps (steps_maps p.steps) named in
    let ps = payload_small al n.args (n.results + 1) p (omega (arith, i.0)) (omega (arith, i.1)) si so names.1 h.payload h.steps in
    generic_apart al n.rows n.args (n.results + 1) ty maps its ins out p f h.result names.0 h.ins_defined h.output ps
kind_apart al n k ty (kinds.Fill v out) lt b f named h = fill_apart n.rows f ty v out h
kind_apart al n k ty (kinds.Matmul x y out) lt b f named h = name_apart lexemes.LinalgMatmul refl (factors_apart n.rows f ty x y out h)
kind_apart al n k ty (kinds.BatchMatmul x y out) lt b f named h = name_apart lexemes.LinalgBatchMatmul refl (factors_apart n.rows f ty x y out h)
kind_apart al n k ty (kinds.Transpose a out order) lt b f named h = transpose_apart n.rows f ty a out order h
kind_apart al n k ty (kinds.Broadcast a out dims) lt b f named h = broadcast_apart n.rows f ty a out dims h
kind_apart al n k ty o lt b f named h = absurd h

pub line_apart : (al : List MapShape) (n : Names) (k : ℕ) (rs : List (ValueId × Ty)) (o : OpKind) → k < 65536 → Bound k n → RowsFit n.rows → AreNamed al (maps_used o) → IsPrintableLine n.rows rs o
    → IsApart (line_at al n rs o).pieces × RowsFit (names_after n rs o).rows × Bound (k + 1) (names_after n rs o)
line_apart al n k [] o lt b f named h = absurd h
line_apart al n k (r ∷ []) o lt b f named h =
    let br = b.results in
    let small : n.results < 2 ^ 64 = omega arith in (
      leaf_name (classes.NewValueAt places.Statement) (result_name n.results small) space_opens (space (fixed_closed lexemes.Equals refl (space (kind_apart al n k r.1 o lt b f named h)))),
      rows_fit n.rows (row_of r.0 (Result n.results) r.1) f small (kind_type n.rows f r.1 o h),
      bound_next k n r o b h,
    )
line_apart al n k (r ∷ (s ∷ rs)) o lt b f named h = absurd h
