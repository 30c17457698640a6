-- The constants that are read are printable.
use Rattle.std.proofs.Common.{◌≡◌, ◌+◌, ◌*◌, ◌==◌, ◌^◌, ℕ, zero, suc, Bool, true, false, cond, List, [], ◌∷◌, length, Option, Some, None, Result as Answer, Ok, refl, sym, ap, subst, ◌∙◌, arith, codes, nat_le}
use Rattle.std.specs.Prelude.{replicate}
use Rattle.std.specs.List.{AllByRecursion}
use Rattle.std.specs.Str.{bytes_eq}
use Rattle.std.proofs.Math.Nat.{suc-mul, zero-mul}
use Rattle.std.proofs.lemmas.Bool.{eqb-true, lt-ltb}
use Rattle.std.proofs.lemmas.List.{length-replicate}
use Rattle.std.proofs.lemmas.Slice.Eq.{bytes_eq-Decides}
use Rattle.mlir_base.specs.declared.types.ElemTy.{ElemTy}
use Rattle.mlir_base.specs.declared.types.ElemTy.TheVariants.{Int, Index}
use Rattle.payload_ops.specs.Bits.{reduce}
use Rattle.mlir_base.specs.Types.{is_value}
use Rattle.payload_ops.proofs.Words.{reduce-lt}
use Rattle.mlir_ir.specs.declared.tree.Ty.{Ty}
use Rattle.mlir_ir.specs.declared.tree.Ty.TheVariants.{Scalar, Tensor, Vector}
use Rattle.mlir_ir.specs.declared.tree.Extent.{Extent}
use Rattle.mlir_ir.specs.declared.tree.Extent.TheVariants.{Fixed as FixedExtent, Any}
use Rattle.mlir_ir.specs.declared.tree.OpKind.{OpKind}
use Rattle.mlir_ir.specs.declared.tree.OpKind.TheVariants as kinds
use Rattle.mlir_base.specs.declared.limit.Which.TheVariants as limits
use Rattle.text_format.specs.declared.types.RankedShape.{RankedShape}
use Rattle.text_format.specs.Token.{TokenShape}
use Rattle.text_format.specs.Types.{extents_of, ranked_from, width_of, integer, element_of, is_some}
use Rattle.mlir_syntax.specs.declared.tree.constants.DensePiece.{DensePiece}
use Rattle.mlir_syntax.specs.declared.tree.constants.DenseLiteral.{DenseLiteral}
use Rattle.mlir_syntax.specs.declared.tree.constants.Literal.{Literal}
use Rattle.mlir_syntax.specs.declared.tree.constants.Literal.TheVariants as literals
use Rattle.mlir_syntax.specs.declared.tree.literals.ScalarLiteral.{ScalarLiteral}
use Rattle.mlir_syntax.specs.declared.tree.literals.ScalarLiteral.TheVariants as scalars
use Rattle.mlir_lex.specs.declared.fault.Fault.{Fault}
use Rattle.mlir_lex.specs.declared.fault.Fault.TheVariants.{Syntax, Unsupported, Number, Limit}
use Rattle.mlir_lex.specs.Chain.{demand, each}
use Rattle.mlir_resolve.specs.declared.dense.Mark.{Mark}
use Rattle.mlir_resolve.specs.declared.dense.Mark.TheVariants as marks
use Rattle.mlir_resolve.specs.declared.dense.Wanted.TheVariants as wanted
use Rattle.mlir_scope.specs.Types.{type_at, extent_at, elements, shape_type}
use Rattle.mlir_scope.specs.Literals.{digits_value, most_of, signed_by, place_of_number, is_in_range, value_in, elem_from, elem_at, truth_of, literal_of}
use Rattle.mlir_resolve.specs.Constants.{mark_of, Stand, behind, by_stand, nested_from, bit_of, truth_in, number_in, onto_elements, element_by, elements_from, is_shape_mark, onto_mark, shape_marks, behind_element, behind_open, behind_close, and_behind, times, behind_nested, is_end, cells_by, cells_in, shape_width, width_found, elements_width, constant, of_integer, scalar_of, dense_of, constant_of}
use Rattle.mlir_scope.proofs.Keeps.{then_ok}
use Rattle.mlir_scope.proofs.Ranges.{element_written, literal_is, literal_value}
use Rattle.mlir_print.specs.Names.{Row}
use Rattle.mlir_roundtrip.specs.Printable.{IsIntegerType, IsPrintableKind}
use Rattle.mlir_roundtrip.proofs.ReadTypes.{ok_same, demanded, type_row}
use Rattle.mlir_roundtrip.proofs.DenseWords.{AreValues}

-- ---- integers

elem_found : (at : ℕ) (o : Option ElemTy) (e : ElemTy) → elem_from at o ≡ Ok e → o ≡ Some e
elem_found at None e h = absurd (cc h)
elem_found at (Some x) e h = ap (λ y. Some y) (ok_same x e h)

no_index : (o : Option ℕ) → integer o ≡ Some Index → ⊥
no_index None h = absurd (cc h)
no_index (Some w) h = absurd (cc h)

-- the word index is no integer type's
index_if : (text : List ℕ) (b : Bool) → bytes_eq text (codes "index") ≡ b → cond b (Some Index) (integer (width_of text)) ≡ Some Index → is_some (width_of text) ≡ true → ⊥
index_if text true e h k =
    let same : text ≡ codes "index" = (bytes_eq-Decides text (codes "index")).0 e in
    let none : is_some (width_of text) ≡ false = ap (λ (t : List ℕ). is_some (width_of t)) same in
    absurd (cc (sym none ∙ k))
index_if text false e h k = no_index (width_of text) h

integer_is : (text : List ℕ) (e : ElemTy) → element_of text ≡ Some e → is_some (width_of text) ≡ true → IsIntegerType e
integer_is text (Int w) h k = element_written text (Int w) h
integer_is text Index h k = absurd (index_if text (bytes_eq text (codes "index")) refl h k)

integer_read : (s : ScalarLiteral) (x : ElemTy × ℕ) (u : Unit {0}) → of_integer s ≡ Ok u → literal_of s ≡ Ok x → IsIntegerType x.0
integer_read (scalars.Boolean t) x u h k = subst (λ (y : ElemTy × ℕ). IsIntegerType y.0) (ok_same (Int 1, truth_of t.text) x k) refl
integer_read (scalars.Number n) x u h k =
    let e = then_ok (elem_at n.ty) _ x k in
    let d = then_ok (demand (is_in_range e.0 n.number) (Number (place_of_number n.number) n.ty.start)) _ x e.2 in
    subst (λ (y : ElemTy × ℕ). IsIntegerType y.0) (ok_same (e.0, value_in e.0 n.number) x d.2) (integer_is n.ty.text e.0 (elem_found n.ty.start (element_of n.ty.text) e.0 e.1) (demanded (is_some (width_of n.ty.text)) (Syntax n.ty.start) u h))

scalar_is : (rows : List Row) (s : ScalarLiteral) (k : Ty × OpKind) → scalar_of s ≡ Ok k → IsPrintableKind rows k.0 k.1
scalar_is rows s k h =
    let a = then_ok (of_integer s) _ k h in
    let b = then_ok (literal_of s) _ k a.2 in
    subst (λ (x : Ty × OpKind). IsPrintableKind rows x.0 x.1) (ok_same (constant (Scalar b.0.0) (b.0.1 ∷ [])) k b.2) (integer_read s b.0 a.0 a.1 b.1, literal_value b.0.0 b.0.1 (literal_is s b.0 b.1))

-- ---- the elements of a dense literal

-- how many elements there are among the marks
abbrev count : List Mark → ℕ
count [] = 0
count (marks.Truth b ∷ ms) = suc (count ms)
count (marks.Digits ∷ ms) = suc (count ms)
count (m ∷ ms) = count ms

record Elements (w : ℕ) (cs : List ℕ) (ms : List Mark) : Type 0 where
  are_values : AreValues w cs
  many : length cs ≡ count ms

bit_value : (w : ℕ) (b : Bool) → w ≡ 1 → is_value (Int w) (bit_of b) ≡ true
bit_value w true e = subst (λ n. is_value (Int n) 1 ≡ true) (sym e) refl
bit_value w false e = subst (λ n. is_value (Int n) 0 ≡ true) (sym e) refl

truth_value : (w at ty : ℕ) (b : Bool) (c : ℕ) → truth_in w at ty b ≡ Ok c → is_value (Int w) c ≡ true
truth_value w at ty b c h =
    let d = then_ok (demand (w == 1) (Number at ty)) _ c h in
    subst (λ x. is_value (Int w) x ≡ true) (ok_same (bit_of b) c d.2) (bit_value w b (eqb-true w 1 (demanded (w == 1) (Number at ty) d.0 d.1)))

number_value : (w at ty : ℕ) (negative : Bool) (digits : List ℕ) (c : ℕ) → number_in w at ty negative digits ≡ Ok c → is_value (Int w) c ≡ true
number_value w at ty negative digits c h =
    let d = then_ok (demand (nat_le (digits_value digits) (most_of negative (Int w))) (Number at ty)) _ c h in
    subst (λ x. is_value (Int w) x ≡ true) (ok_same (reduce w (signed_by negative (digits_value digits))) c d.2) (lt-ltb (reduce w (signed_by negative (digits_value digits))) (2 ^ w) (reduce-lt w (signed_by negative (digits_value digits))))

abbrev Gives : ℕ → (Option ℕ → Answer (List ℕ) Fault) → List Mark → Type 0
Gives w go ms = (minus : Option ℕ) (cs : List ℕ) → go minus ≡ Ok cs → Elements w cs ms

one_more : (w : ℕ) (r : Answer ℕ Fault) (go : Option ℕ → Answer (List ℕ) Fault) (ms : List Mark) (cs : List ℕ) → ((c : ℕ) → r ≡ Ok c → is_value (Int w) c ≡ true) → Gives w go ms → onto_elements r (go None) ≡ Ok cs
    → AreValues w cs × (length cs ≡ suc (count ms))
one_more w r go ms cs v g h =
    let a = then_ok r _ cs h in
    let b = then_ok (go None) _ cs a.2 in
    let e = g None b.0 b.1 in
    subst (λ (xs : List ℕ). AreValues w xs × (length xs ≡ suc (count ms))) (ok_same (a.0 ∷ b.0) cs b.2) ((v a.0 a.1, e.are_values), ap suc e.many)

element_is : (w ty : ℕ) (minus : Option ℕ) (t : TokenShape) (go : Option ℕ → Answer (List ℕ) Fault) (ms : List Mark) (m : Mark) (cs : List ℕ) → Gives w go ms → element_by w ty minus t go m ≡ Ok cs → Elements w cs (onto_mark (is_shape_mark m) m ms)
element_is w ty minus t go ms (marks.Truth b) cs g h = let o = one_more w (truth_in w t.start ty b) go ms cs (λ c k. truth_value w t.start ty b c k) g h in record { are_values = o.0; many = o.1 }
element_is w ty minus t go ms marks.Digits cs g h = let o = one_more w _ go ms cs (λ c k. number_value w _ ty _ t.text c k) g h in record { are_values = o.0; many = o.1 }
element_is w ty minus t go ms marks.Minus cs g h = g (Some t.start) cs h
element_is w ty minus t go ms marks.Open cs g h = let e = g None cs h in record { are_values = e.are_values; many = e.many }
element_is w ty minus t go ms marks.Close cs g h = let e = g None cs h in record { are_values = e.are_values; many = e.many }
element_is w ty minus t go ms marks.Comma cs g h = g None cs h

elements_are : (w ty : ℕ) (minus : Option ℕ) (ps : List DensePiece) (cs : List ℕ) → elements_from w ty minus ps ≡ Ok cs → Elements w cs (shape_marks ps)
unfolding elements_from
elements_are w ty minus [] cs h = subst (λ (xs : List ℕ). Elements w xs []) (ok_same [] cs h) (record { are_values = tt; many = refl })
elements_are w ty minus (p ∷ ps) cs h =
    element_is w ty minus p.token (λ m. elements_from w ty m ps) (shape_marks ps) (mark_of p.token.text) cs (λ m xs k. elements_are w ty m ps xs k) h

-- ---- the nesting of a dense literal

some_behind : (o : Option (List Mark)) (f : List Mark → Option (List Mark)) (y : List Mark) → and_behind o f ≡ Some y → (x : List Mark) × (o ≡ Some x) × (f x ≡ Some y)
some_behind None f y h = absurd (cc h)
some_behind (Some x) f y h = (x, refl, h)

abbrev Counts : ℕ → (List Mark → Option (List Mark)) → Type 0
Counts size f = (ms rest : List Mark) → f ms ≡ Some rest → count ms ≡ size + count rest

element_counts : Counts 1 behind_element
element_counts (marks.Truth b ∷ ms) rest h = let e : ms ≡ rest = cc h in let k = ap count e in omega arith
element_counts (marks.Digits ∷ ms) rest h = let e : ms ≡ rest = cc h in let k = ap count e in omega arith
element_counts ms rest h = absurd (cc h)

times_counts : (size : ℕ) (f : List Mark → Option (List Mark)) → Counts size f → (n : ℕ) → Counts (n * size) (times n f)
times_counts size f c zero ms rest h = let e : ms ≡ rest = cc h in let k = ap count e in let z = zero-mul size in omega (arith, k, z)
times_counts size f c (suc n) ms rest h =
    let a = some_behind (f ms) (times n f) rest h in
    let one = c ms a.0 a.1 in
    let more = times_counts size f c n a.0 rest a.2 in
    let m = suc-mul n size in
    omega (arith, one, more, m)

open_counts : (ms rest : List Mark) → behind_open ms ≡ Some rest → count ms ≡ count rest
open_counts (marks.Open ∷ ms) rest h = let e : ms ≡ rest = cc h in ap count e
open_counts ms rest h = absurd (cc h)

close_counts : (ms rest : List Mark) → behind_close ms ≡ Some rest → count ms ≡ count rest
close_counts (marks.Close ∷ ms) rest h = let e : ms ≡ rest = cc h in ap count e
close_counts ms rest h = absurd (cc h)

nested_counts : (es : List Extent) → Counts (elements es) (behind_nested es)
unfolding behind_nested
nested_counts [] ms rest h = element_counts ms rest h
nested_counts (FixedExtent n ∷ es) ms rest h =
    let a = some_behind (behind_open ms) _ rest h in
    let b = some_behind (times n (behind_nested es) a.0) behind_close rest a.2 in
    let x = open_counts ms a.0 a.1 in
    let y = times_counts (elements es) (behind_nested es) (nested_counts es) n a.0 b.0 b.1 in
    let z = close_counts b.0 rest b.2 in
    omega (arith, x, y, z)
nested_counts (Any ∷ es) ms rest h = absurd (cc h)

-- a literal that isn't a list begins with an element
abbrev IsFirst : List Mark → Type 0
IsFirst [] = Unit {0}
IsFirst (marks.Close ∷ ms) = ⊥
IsFirst (marks.Comma ∷ ms) = ⊥
IsFirst (marks.Minus ∷ ms) = ⊥
IsFirst (m ∷ ms) = Unit {0}

digits_first : (close : TokenShape) (ps : List DensePiece) (u : Unit {0}) → nested_from close wanted.Number 0 ps ≡ Ok u → IsFirst (shape_marks ps)
unfolding nested_from behind
digits_first close [] u h = absurd (cc h)
digits_first close (p ∷ ps) u h = by (mark_of p.token.text) h
  where
    by : (m : Mark) → by_stand p.token.start (λ (s : Stand). nested_from close s.0 s.1 ps) (behind wanted.Number 0 m) ≡ Ok u → IsFirst (onto_mark (is_shape_mark m) m (shape_marks ps))
    by marks.Digits k = tt
    by m k = absurd (cc k)

first_is : (close : TokenShape) (ps : List DensePiece) (u : Unit {0}) → nested_from close wanted.Whole 0 ps ≡ Ok u → IsFirst (shape_marks ps)
unfolding nested_from behind
first_is close [] u h = tt
first_is close (p ∷ ps) u h = by (mark_of p.token.text) h
  where
    by : (m : Mark) → by_stand p.token.start (λ (s : Stand). nested_from close s.0 s.1 ps) (behind wanted.Whole 0 m) ≡ Ok u → IsFirst (onto_mark (is_shape_mark m) m (shape_marks ps))
    by marks.Open k = tt
    by (marks.Truth b) k = tt
    by marks.Digits k = tt
    by marks.Minus k = digits_first close ps u k
    by m k = absurd (cc k)

-- ---- the cells

record Cells (w : ℕ) (es : List Extent) (cells : List ℕ) : Type 0 where
  are_values : AreValues w cells
  many : length cells ≡ elements es

all_replicated : (P : ℕ → Type 0) (n c : ℕ) → P c → AllByRecursion P (replicate n c)
all_replicated P zero c h = tt
all_replicated P (suc n) c h = (h, all_replicated P n c h)

ended : (o : Option (List Mark)) → is_end o ≡ true → o ≡ Some []
ended None h = absurd (cc h)
ended (Some []) h = refl
ended (Some (m ∷ ms)) h = absurd (cc h)

repeated : (w : ℕ) (es : List Extent) (c : ℕ) (cells : List ℕ) → is_value (Int w) c ≡ true → ◌≡◌ {A = Answer (List ℕ) Fault} (Ok (replicate (elements es) c)) (Ok cells) → Cells w es cells
repeated w es c cells v h =
    subst (λ (xs : List ℕ). Cells w es xs) (ok_same (replicate (elements es) c) cells h) (record { are_values = all_replicated (λ x. is_value (Int w) x ≡ true) (elements es) c v; many = length-replicate (elements es) c })

cells_are : (w ty : ℕ) (es : List Extent) (cs : List ℕ) (ms : List Mark) (cells : List ℕ) → Elements w cs ms → IsFirst ms → cells_by ty es cs ms ≡ Ok cells → Cells w es cells
cells_are w ty es cs [] cells e f h =
    let d = then_ok (demand (elements es == 0) (Unsupported ty)) _ cells h in
    let none = eqb-true (elements es) 0 (demanded (elements es == 0) (Unsupported ty) d.0 d.1) in
    subst (λ (xs : List ℕ). Cells w es xs) (ok_same [] cells d.2) (record { are_values = tt; many = sym none })
cells_are w ty es cs (marks.Open ∷ ms) cells e f h =
    let d = then_ok (demand (is_end (behind_nested es (marks.Open ∷ ms))) (Unsupported ty)) _ cells h in
    let n = nested_counts es (marks.Open ∷ ms) [] (ended (behind_nested es (marks.Open ∷ ms)) (demanded (is_end (behind_nested es (marks.Open ∷ ms))) (Unsupported ty) d.0 d.1)) in
    let m = e.many in
    subst (λ (xs : List ℕ). Cells w es xs) (ok_same cs cells d.2) (record { are_values = e.are_values; many = omega (arith, m, n) })
cells_are w ty es [] (marks.Truth b ∷ ms) cells e f h = absurd (omega (arith, e.many))
cells_are w ty es [] (marks.Digits ∷ ms) cells e f h = absurd (omega (arith, e.many))
cells_are w ty es (c ∷ cs) (marks.Truth b ∷ ms) cells e f h = repeated w es c cells e.are_values.0 h
cells_are w ty es (c ∷ cs) (marks.Digits ∷ ms) cells e f h = repeated w es c cells e.are_values.0 h
cells_are w ty es cs (m ∷ ms) cells e f h = absurd f

same_width : (at : ℕ) (o : Option RankedShape) (w : ℕ) (es : List Extent) (v : ℕ) → width_found at (shape_width o) ≡ Ok w → shape_type at o ≡ Ok (Tensor es v) → w ≡ v
same_width at None w es v h k = absurd (cc h)
same_width at (Some s) w es v h k =
    let a = then_ok (demand (nat_le (length s.extents) 8) (Limit limits.Rank at)) _ (Tensor es v) k in
    let b = then_ok (each (extent_at at) s.extents) _ (Tensor es v) a.2 in
    let c = then_ok (demand (nat_le (elements b.0) 4194304) (Limit limits.Elements at)) _ (Tensor es v) b.2 in
    sym (ok_same s.width w h) ∙ widths (Tensor b.0 s.width) (Tensor es v) (ok_same (Tensor b.0 s.width) (Tensor es v) c.2)
  where
    width : Ty → ℕ
    width (Tensor es w) = w
    width ty = 0

    widths : (t u : Ty) → t ≡ u → width t ≡ width u
    widths t u e = ap width e

tensor_is : (rows : List Row) (d : DenseLiteral) (w : ℕ) (cs : List ℕ) (ty : Ty) (cells : List ℕ) → IsFirst (shape_marks d.tokens) → elements_width d.ty ≡ Ok w → Elements w cs (shape_marks d.tokens) → type_at d.ty ≡ Ok ty → cells_in d.ty.start ty cs (shape_marks d.tokens) ≡ Ok cells
    → IsPrintableKind rows ty (constant ty cells).1
tensor_is rows d w cs (Scalar e) cells f h k t c = absurd (cc c)
tensor_is rows d w cs (Vector ns v) cells f h k t c = absurd (cc c)
tensor_is rows d w cs (Tensor es v) cells f h k t c =
    let found = cells_are w d.ty.start es cs (shape_marks d.tokens) cells k f c in
    let same = same_width d.ty.start (ranked_from (extents_of d.ty.text)) w es v h t in
    record { result = type_row d.ty (Tensor es v) t; many = found.many; values = subst (λ n. AreValues n cells) same found.are_values }

dense_is : (rows : List Row) (d : DenseLiteral) (k : Ty × OpKind) → dense_of d ≡ Ok k → IsPrintableKind rows k.0 k.1
dense_is rows d k h =
    let a = then_ok (nested_from d.greater wanted.Whole 0 d.tokens) _ k h in
    let b = then_ok (elements_width d.ty) _ k a.2 in
    let c = then_ok (elements_from b.0 d.ty.start None d.tokens) _ k b.2 in
    let e = then_ok (type_at d.ty) _ k c.2 in
    let f = then_ok (cells_in d.ty.start e.0 c.0 (shape_marks d.tokens)) _ k e.2 in
    subst (λ (x : Ty × OpKind). IsPrintableKind rows x.0 x.1) (ok_same (constant e.0 f.0) k f.2)
    (tensor_is rows d b.0 c.0 e.0 f.0 (first_is d.greater d.tokens a.0 a.1) b.1 (elements_are b.0 d.ty.start None d.tokens c.0 c.1) e.1 f.1)

-- ---- constants

abbrev pub IsConstant : OpKind → Type 0
IsConstant (kinds.Constant cells) = Unit {0}
IsConstant k = ⊥

pub constant_kind : (l : Literal) (k : Ty × OpKind) → constant_of l ≡ Ok k → IsConstant k.1
constant_kind (literals.Dense d) k h =
    let a = then_ok (nested_from d.greater wanted.Whole 0 d.tokens) _ k h in
    let b = then_ok (elements_width d.ty) _ k a.2 in
    let c = then_ok (elements_from b.0 d.ty.start None d.tokens) _ k b.2 in
    let e = then_ok (type_at d.ty) _ k c.2 in
    let f = then_ok (cells_in d.ty.start e.0 c.0 (shape_marks d.tokens)) _ k e.2 in
    subst (λ (x : Ty × OpKind). IsConstant x.1) (ok_same (constant e.0 f.0) k f.2) tt
constant_kind (literals.Scalar s) k h =
    let a = then_ok (of_integer s) _ k h in
    let b = then_ok (literal_of s) _ k a.2 in
    subst (λ (x : Ty × OpKind). IsConstant x.1) (ok_same (constant (Scalar b.0.0) (b.0.1 ∷ [])) k b.2) tt

pub constant_is : (rows : List Row) (l : Literal) (k : Ty × OpKind) → constant_of l ≡ Ok k → IsPrintableKind rows k.0 k.1
constant_is rows (literals.Dense d) k h = dense_is rows d k h
constant_is rows (literals.Scalar s) k h = scalar_is rows s k h
