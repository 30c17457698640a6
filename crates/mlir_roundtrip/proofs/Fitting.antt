-- Each token of a printable operation's canonical text is of the class that the grammar wants there.
use Rattle.std.proofs.Common.{◌≡◌, ◌<◌, ◌^◌, ℕ, ◌+◌, Bool, true, false, ◌||◌, List, [], ◌∷◌, map, refl, sym, ap, ◌∙◌, subst, arith, nat_le}
use Rattle.std.specs.List.{AllByRecursion}
use Rattle.std.proofs.lemmas.Bool.{and_parts, leb-true}
use Rattle.mlir_base.specs.declared.types.ElemTy.{ElemTy}
use Rattle.mlir_base.specs.declared.types.ElemTy.TheVariants.{Int, Index}
use Rattle.affine_maps.specs.Shape.{MapShape}
use Rattle.mlir_ir.specs.declared.tree.Ty.{Ty}
use Rattle.mlir_ir.specs.declared.tree.Ty.TheVariants.{Scalar, Tensor, Vector}
use Rattle.mlir_ir.specs.declared.tree.ValueId.{ValueId}
use Rattle.mlir_ir.specs.declared.tree.Iter.{Iter}
use Rattle.mlir_ir.specs.declared.tree.Iter.TheVariants.{Parallel, Reduction}
use Rattle.mlir_ir.specs.declared.tree.OpKind.{OpKind}
use Rattle.mlir_ir.specs.declared.tree.OpKind.TheVariants as kinds
use Rattle.text_format.specs.declared.class.Class.TheVariants as classes
use Rattle.text_format.specs.Classes.{holds}
use Rattle.text_format.specs.Types.{is_some, width_of, element_of, extents_of}
use Rattle.mlir_scope.specs.Types.{elem_of}
use Rattle.mlir_print.specs.declared.names.Given.TheVariants.{Result}
use Rattle.mlir_print.specs.Types.{ty_text, type_kind}
use Rattle.mlir_print.specs.Names.{Names, Row, type_in, kind_in, type_or, kind_or, row_of}
use Rattle.mlir_print.specs.Maps.{use_at}
use Rattle.text_format.specs.Writers.{each_of, commas}
use Rattle.mlir_print.specs.Payloads.{region_at}
use Rattle.mlir_print.specs.Constants.{word_at, dense_words}
use Rattle.mlir_print.specs.Generics.{iterator_at, next_input_at, next_type_at, inputs_at, output_at, operands_at}
use Rattle.mlir_print.specs.Structured.{axis_at, axes_at}
use Rattle.mlir_print.specs.Operations.{scalar_if, constant_if, operation_at, line_at, names_after}
use Rattle.mlir_roundtrip.specs.Printable.{IsIntegerType, IsValueType, IsScalar, IsDefined, row_or, row_in, elem_in, IsTensorValue, IsScalarValue, IsPrintableScalar, IsPrintableConstant, IsPrintableKind, IsPrintableLine}
use Rattle.mlir_roundtrip.proofs.Readable.{elem_some, row_shaped, width_read}
use Rattle.mlir_roundtrip.proofs.Rows.{Bound, RowsFit, bound_next, defined_type, inner_few, kind_type, rows_fit, tensor_type, type_there}
use Rattle.text_format.proofs.Written.{AreFit, LeavesFit, both_fit, commas_fit, each_fit}
use Rattle.mlir_roundtrip.proofs.Leaves.{IsWrittenElem, given_new}
use Rattle.mlir_roundtrip.proofs.PayloadFitting.{literal_fits, region_fit}
use Rattle.mlir_roundtrip.proofs.MapUses.{uses_fit}
use Rattle.mlir_roundtrip.proofs.DenseWords.{dense_words_fit}

-- ---- types

integer_elem : (e : ElemTy) → IsIntegerType e → IsWrittenElem e
integer_elem (Int w) h = let p = and_parts (nat_le 1 w) (nat_le w 64) h in elem_some w (leb-true 1 w p.0) (leb-true w 64 p.1)
integer_elem Index h = absurd h

value_elem : (ty : Ty) → IsValueType ty → IsWrittenElem (elem_of ty)
value_elem (Scalar e) h = integer_elem e h
value_elem (Tensor es w) h = elem_some w h.some h.most
value_elem (Vector ns w) h = absurd h

elem_written : (rows : List Row) → RowsFit rows → (v : ValueId) → IsDefined rows v → IsWrittenElem (elem_in rows v)
elem_written rows f v d = subst (λ o. IsWrittenElem (elem_of (row_or o).ty)) (sym d.1) (value_elem d.0.ty (f v.0 d.0 d.1).1)

elems_written : (rows : List Row) → RowsFit rows → (vs : List ValueId) → AllByRecursion (IsDefined rows) vs → AllByRecursion IsWrittenElem (map (elem_in rows) vs)
elems_written rows f [] d = tt
elems_written rows f (v ∷ vs) d = (elem_written rows f v d.0, elems_written rows f vs d.1)

-- the type of a tensor
pub value_type : (rows : List Row) → RowsFit rows → (v : ValueId) → IsTensorValue rows v → is_some (extents_of (type_in rows v)) ≡ true
value_type rows f v t = ap (λ (text : List ℕ). is_some (extents_of text)) (type_there rows v t.is_defined) ∙ row_shaped (row_in rows v).ty (tensor_type rows f v t)

either_false : (b : Bool) → b ≡ true → (b || false) || false ≡ true
either_false b h = rw h refl

integer_fits : (e : ElemTy) → IsIntegerType e → holds classes.OperandType (type_kind (Scalar e)) (ty_text (Scalar e)) ≡ true
integer_fits (Int w) h =
    let p = and_parts (nat_le 1 w) (nat_le w 64) h in
    either_false (is_some (width_of (ty_text (Scalar (Int w))))) (ap is_some (width_read w (leb-true 1 w p.0) (leb-true w 64 p.1)))
integer_fits Index h = absurd h

type_fits : (ty : Ty) → IsValueType ty → holds classes.OperandType (type_kind ty) (ty_text ty) ≡ true
type_fits (Scalar e) h = integer_fits e h
type_fits (Tensor es w) h = row_shaped (Tensor es w) h
type_fits (Vector ns w) h = absurd h

-- the type of an input
operand_type : (rows : List Row) → RowsFit rows → (v : ValueId) → IsDefined rows v → holds classes.OperandType (kind_in rows v) (type_in rows v) ≡ true
operand_type rows f v d = subst (λ o. holds classes.OperandType (kind_or o) (type_or o) ≡ true) (sym d.1) (type_fits d.0.ty (f v.0 d.0 d.1).1)

scalar_fits : (ty : Ty) → IsValueType ty → IsScalar ty → is_some (element_of (ty_text ty)) ≡ true
scalar_fits (Scalar e) h s = integer_elem e h
scalar_fits ty h s = absurd s

-- the type of an integer
scalar_type : (rows : List Row) → RowsFit rows → (v : ValueId) → IsScalarValue rows v → is_some (element_of (type_in rows v)) ≡ true
scalar_type rows f v s = ap (λ (text : List ℕ). is_some (element_of text)) (type_there rows v s.is_defined) ∙ scalar_fits (row_in rows v).ty (defined_type rows f v s.is_defined) s.is_scalar

-- ---- operands

inputs_fit : (rows : List Row) (vs : List ValueId) → AreFit (map (next_input_at rows) vs)
inputs_fit rows [] = tt
inputs_fit rows (v ∷ vs) = ((refl, tt), inputs_fit rows vs)

types_fit : (rows : List Row) → RowsFit rows → (vs : List ValueId) → AllByRecursion (IsDefined rows) vs → AreFit (map (next_type_at rows) vs)
types_fit rows f [] d = tt
types_fit rows f (v ∷ vs) d = ((refl, (operand_type rows f v d.0, tt)), types_fit rows f vs d.1)

output_fit : (rows : List Row) → RowsFit rows → (out : ValueId) → IsTensorValue rows out → LeavesFit (output_at rows out).pieces
output_fit rows f out t = (refl, (value_type rows f out t, tt))

operands_fit : (rows : List Row) → RowsFit rows → (ins : List ValueId) (out : ValueId) → AllByRecursion (IsDefined rows) ins → IsTensorValue rows out → LeavesFit (operands_at rows ins out).pieces
operands_fit rows f [] out d t = output_fit rows f out t
operands_fit rows f (v ∷ vs) out d t =
    both_fit (inputs_at rows v vs).pieces _ (
      refl,
      both_fit (each_of (map (next_input_at rows) vs)).pieces _ (each_fit (map (next_input_at rows) vs) (inputs_fit rows vs))
          (operand_type rows f v d.0, both_fit (each_of (map (next_type_at rows) vs)).pieces _ (each_fit (map (next_type_at rows) vs) (types_fit rows f vs d.1)) (refl, tt)),
    )
    (output_fit rows f out t)

iterators_fit : (its : List Iter) → AreFit (map iterator_at its)
iterators_fit [] = tt
iterators_fit (Parallel ∷ is) = ((refl, tt), iterators_fit is)
iterators_fit (Reduction ∷ is) = ((refl, tt), iterators_fit is)

axis_fits : (axes : List ℕ) → AreFit (map axis_at axes)
axis_fits [] = tt
axis_fits (n ∷ ns) = ((refl, tt), axis_fits ns)

axes_fit : (axes : List ℕ) → LeavesFit (axes_at axes).pieces
axes_fit axes = both_fit (commas (map axis_at axes)).pieces _ (commas_fit (map axis_at axes) (axis_fits axes)) tt

-- ---- operations

integer_constant_fit : (e : ElemTy) (v : ℕ) → IsIntegerType e → LeavesFit (scalar_if e (v ∷ [])).pieces
integer_constant_fit e v h = (refl, literal_fits e v (integer_elem e h))

scalar_fit : (e : ElemTy) (cells : List ℕ) → IsPrintableScalar e cells → LeavesFit (scalar_if e cells).pieces
scalar_fit e [] h = absurd h
scalar_fit e (v ∷ []) h = integer_constant_fit e v h.0
scalar_fit e (v ∷ (u ∷ vs)) h = absurd h

constant_fit : (ty : Ty) (cells : List ℕ) → IsPrintableConstant ty cells → LeavesFit (constant_if ty cells).pieces
constant_fit (Scalar e) cells h = scalar_fit e cells h
constant_fit (Tensor es w) cells h =
    (refl, both_fit (each_of (map word_at (dense_words w es cells))).pieces _ (each_fit (map word_at (dense_words w es cells)) (dense_words_fit w es cells)) (refl, (row_shaped (Tensor es w) h.result, tt)))
constant_fit (Vector ns w) cells h = absurd h

kind_fit : (al : List MapShape) (n : Names) (k : ℕ) (ty : Ty) (o : OpKind) → k < 65536 → Bound k n → RowsFit n.rows → IsPrintableKind n.rows ty o → LeavesFit (operation_at al n ty o).pieces
kind_fit al n k ty (kinds.Constant cells) lt b f h = constant_fit ty cells h
kind_fit al n k ty (kinds.Empty []) lt b f h = (refl, (row_shaped ty h.1, tt))
kind_fit al n k ty (kinds.Empty (v ∷ vs)) lt b f h = absurd (cc (h.0))
kind_fit al n k ty (kinds.Generic maps its ins out (c ∷ cs) p) lt b f h = absurd (cc (h.not_captured))
kind_fit al n k ty (kinds.Generic maps its ins out [] p) lt b f h =
    let ba = b.args in
    let br = b.results in
    let i = inner_few n.rows ty (kinds.Generic maps its ins out [] p) h in
    let gs = subst (λ (es : List ElemTy). AllByRecursion IsWrittenElem es) (sym h.ins_typed) (elems_written n.rows f ins h.ins_defined) in
    let go = subst (λ e. IsWrittenElem e) (sym h.out_typed) (elem_written n.rows f out h.output.is_defined) in
    let region = region_fit al n.args (n.results + 1) p (omega (arith, i.0)) (omega (arith, i.1)) gs go h.payload h.steps in (
      refl,
      both_fit (commas (map (use_at al) maps)).pieces _ (commas_fit (map (use_at al) maps) (uses_fit al maps))
          (both_fit (commas (map iterator_at its)).pieces _ (commas_fit (map iterator_at its) (iterators_fit its))
          (both_fit (operands_at n.rows ins out).pieces _ (operands_fit n.rows f ins out h.ins_defined h.output)
          (both_fit (region_at al n.args (n.results + 1) p).pieces _ region (row_shaped ty h.result, tt)))),
    )
kind_fit al n k ty (kinds.Fill v out) lt b f h = (refl, (refl, (scalar_type n.rows f v h.value, (refl, (value_type n.rows f out h.output, (row_shaped ty h.result, tt))))))
kind_fit al n k ty (kinds.Matmul x y out) lt b f h = (refl, (refl, (refl, (value_type n.rows f x h.left, (value_type n.rows f y h.right, (refl, (value_type n.rows f out h.output, (row_shaped ty h.result, tt))))))))
kind_fit al n k ty (kinds.BatchMatmul x y out) lt b f h = (refl, (refl, (refl, (value_type n.rows f x h.left, (value_type n.rows f y h.right, (refl, (value_type n.rows f out h.output, (row_shaped ty h.result, tt))))))))
kind_fit al n k ty (kinds.Transpose a out order) lt b f h = (refl, (refl, (value_type n.rows f a h.source, (refl, (value_type n.rows f out h.output, axes_fit order)))))
kind_fit al n k ty (kinds.Broadcast a out dims) lt b f h = (refl, (refl, (value_type n.rows f a h.source, (refl, (value_type n.rows f out h.output, axes_fit dims)))))
kind_fit al n k ty o lt b f h = absurd h

pub line_fit : (al : List MapShape) (n : Names) (k : ℕ) (rs : List (ValueId × Ty)) (o : OpKind) → k < 65536 → Bound k n → RowsFit n.rows → IsPrintableLine n.rows rs o
    → LeavesFit (line_at al n rs o).pieces × RowsFit (names_after n rs o).rows × Bound (k + 1) (names_after n rs o)
line_fit al n k [] o lt b f h = absurd h
line_fit al n k (r ∷ []) o lt b f h =
    let br = b.results in
    let small : n.results < 2 ^ 64 = omega arith in
    ((given_new (Result n.results) small, kind_fit al n k r.1 o lt b f h), rows_fit n.rows (row_of r.0 (Result n.results) r.1) f small (kind_type n.rows f r.1 o h), bound_next k n r o b h)
line_fit al n k (r ∷ (s ∷ rs)) o lt b f h = absurd h
