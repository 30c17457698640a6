-- The canonical tree of a constant stands for the constant.
use Rattle.std.proofs.Common.{◌≡◌, ◌<◌, ◌≤◌, ◌+◌, ◌==◌, ℕ, suc, Bool, true, false, List, [], ◌∷◌, ◌++◌, take, length, Some, None, Ok, refl, sym, ap, subst, ◌∙◌, arith, nat_le}
use Rattle.std.specs.Prelude.{replicate}
use Rattle.std.specs.List.{list_all}
use Rattle.std.proofs.lemmas.Bool.{and_parts, eq-eqb, eqb-true, leb-true}
use Rattle.std.proofs.lemmas.List.{append-nil}
use Rattle.std.proofs.Math.Seq.{take-length}
use Rattle.mlir_base.specs.declared.types.ElemTy.{ElemTy}
use Rattle.mlir_base.specs.declared.types.ElemTy.TheVariants.{Int, Index}
use Rattle.mlir_base.specs.Types.{is_elem, is_value}
use Rattle.mlir_ir.specs.declared.tree.Ty.{Ty}
use Rattle.mlir_ir.specs.declared.tree.Ty.TheVariants.{Scalar, Tensor, Vector}
use Rattle.mlir_ir.specs.declared.tree.Extent.{Extent}
use Rattle.mlir_ir.specs.declared.tree.Extent.TheVariants.{Fixed as FixedExtent, Any}
use Rattle.mlir_ir.specs.declared.tree.OpKind.TheVariants as kinds
use Rattle.text_format.specs.Token.{TokenShape}
use Rattle.text_format.specs.Types.{extents_of, ranked_from, width_of, is_some}
use Rattle.mlir_syntax.specs.declared.tree.constants.DenseLiteral.{DenseLiteral}
use Rattle.mlir_resolve.specs.declared.dense.Mark.{Mark}
use Rattle.mlir_resolve.specs.declared.dense.Mark.TheVariants as marks
use Rattle.mlir_resolve.specs.declared.dense.Wanted.TheVariants as wanted
use Rattle.mlir_lex.specs.Chain.{and_then}
use Rattle.mlir_scope.specs.Types.{type_at, elements, shape_type}
use Rattle.mlir_resolve.specs.Constants.{nested_from, elements_from, shape_marks, behind_element, behind_nested, cells_by, shape_width, width_found, elements_width, of_integer, dense_of}
use Rattle.mlir_resolve.specs.Operations.{kind_of}
use Rattle.mlir_scope.specs.Maps.{AliasShape}
use Rattle.mlir_scope.specs.Names.{Entry}
use Rattle.mlir_print.specs.Types.{ty_text, elem_text}
use Rattle.mlir_print.specs.Literals.{literal_if}
use Rattle.mlir_print.specs.Constants.{Word, element_words, nested_words, is_splat, dense_if, dense_at}
use Rattle.mlir_print.specs.Operations.{scalar_if, constant_if}
use Rattle.mlir_roundtrip.specs.Printable.{IsKeptTensor, IsIntegerType, IsPrintableDense, IsPrintableScalar, IsPrintableConstant}
use Rattle.mlir_roundtrip.proofs.DenseRead.{pieces_at, IsWidth, Nests, Gives, Shapes, element_nests, nested_nests, element_gives, nested_gives, element_shapes, nested_shapes}
use Rattle.mlir_roundtrip.proofs.Numbers.{literal_read}
use Rattle.mlir_roundtrip.proofs.Readable.{readable, type_read, width_read}

-- ---- dense literals

-- the parts of a literal, and the literal
dense_goes : (d : DenseLiteral) (es : List Extent) (w : ℕ) (cs : List ℕ) (ms : List Mark) (cells : List ℕ) → IsKeptTensor es w → d.ty.text ≡ ty_text (Tensor es w) → nested_from d.greater wanted.Whole 0 d.tokens ≡ Ok tt
    → elements_from w d.ty.start None d.tokens ≡ Ok cs → shape_marks d.tokens ≡ ms → cells_by d.ty.start es cs ms ≡ Ok cells → dense_of d ≡ Ok (Tensor es w, kinds.Constant cells)
dense_goes d es w cs ms cells h e nested elems shape found =
    let width : elements_width d.ty ≡ Ok w =
    ap (λ (text : List ℕ). width_found d.ty.start (shape_width (ranked_from (extents_of text)))) e ∙ ap (λ o. width_found d.ty.start (shape_width (ranked_from o))) (type_read es w h)
    in
    let r = readable (Tensor es w) h in
    let shaped : type_at d.ty ≡ Ok (Tensor es w) = ap (λ (text : List ℕ). shape_type d.ty.start (ranked_from (extents_of text))) e ∙ r.shaped d.ty.start in
    rw (nested, width, elems, shaped, shape, found) refl

all_same : (c : ℕ) (cs : List ℕ) → list_all (λ x. x == c) cs ≡ true → replicate (length cs) c ≡ cs
all_same c [] h = refl
all_same c (x ∷ cs) h =
    let p = and_parts (x == c) (list_all (λ x. x == c) cs) h in
    ap (λ (xs : List ℕ). c ∷ xs) (all_same c cs p.1) ∙ ap (λ y. y ∷ cs) (sym (eqb-true x c p.0))

-- equal cells
splat_cells : (c : ℕ) (cs : List ℕ) → is_splat (c ∷ cs) ≡ true → replicate (suc (length cs)) c ≡ c ∷ cs
splat_cells c [] h = absurd (cc h)
splat_cells c (d ∷ cs) h = ap (λ (xs : List ℕ). c ∷ xs) (all_same c (d ∷ cs) h)

width_of_kept : (es : List Extent) (w : ℕ) → IsKeptTensor es w → IsWidth w
width_of_kept es w h = record { some = h.some; most = h.most }

-- ---- whole literals

none_nests : (close : TokenShape) → (nested_from close wanted.Whole 0 [] ≡ Ok tt) × (nested_from close wanted.Behind 0 [] ≡ Ok tt)
unfolding nested_from
none_nests close = (refl, refl)

none_gives : (w ty : ℕ) → elements_from w ty None [] ≡ Ok []
unfolding elements_from
none_gives w ty = refl

whole_nests : (close : TokenShape) (xs : List Word) (at : ℕ) → Nests close wanted.Whole 0 xs [] → nested_from close wanted.Whole 0 (pieces_at xs at) ≡ Ok tt
whole_nests close xs at h = ap (λ (ws : List Word). nested_from close wanted.Whole 0 (pieces_at ws at)) (sym (append-nil xs)) ∙ (h at).1 ∙ (none_nests close).1

whole_gives : (w ty : ℕ) (cs : List ℕ) (xs : List Word) (at : ℕ) → Gives w ty cs xs [] → elements_from w ty None (pieces_at xs at) ≡ Ok cs
whole_gives w ty cs xs at h =
    ap (λ (ws : List Word). elements_from w ty None (pieces_at ws at)) (sym (append-nil xs)) ∙ (h at).1 ∙ ap (λ r. and_then r (λ (ds : List ℕ). Ok (cs ++ ds))) (none_gives w ty) ∙ ap (λ (ds : List ℕ). Ok ds) (append-nil cs)

whole_element : (xs : List Word) (at : ℕ) → Shapes behind_element xs [] → behind_element (shape_marks (pieces_at xs at)) ≡ Some []
whole_element xs at h = ap (λ (ws : List Word). behind_element (shape_marks (pieces_at ws at))) (sym (append-nil xs)) ∙ (h at).1

whole_shapes : (es : List Extent) (xs : List Word) (at : ℕ) → Shapes (behind_nested es) xs [] → behind_nested es (shape_marks (pieces_at xs at)) ≡ Some []
whole_shapes es xs at h = ap (λ (ws : List Word). behind_nested es (shape_marks (pieces_at ws at))) (sym (append-nil xs)) ∙ (h at).1

by_element : (ty : ℕ) (es : List Extent) (c : ℕ) (cs : List ℕ) (ms rest : List Mark) → behind_element ms ≡ Some rest → cells_by ty es (c ∷ cs) ms ≡ Ok (replicate (elements es) c)
by_element ty es c cs (marks.Truth b ∷ ms) rest h = refl
by_element ty es c cs (marks.Digits ∷ ms) rest h = refl
by_element ty es c cs ms rest h = absurd (cc h)

by_nested : (ty : ℕ) (e : Extent) (es : List Extent) (cs : List ℕ) (ms : List Mark) → behind_nested (e ∷ es) ms ≡ Some [] → cells_by ty (e ∷ es) cs ms ≡ Ok cs
unfolding behind_nested
by_nested ty Any es cs ms h = absurd (cc h)
by_nested ty (FixedExtent n) es cs (marks.Open ∷ ms) h = rw h refl
by_nested ty (FixedExtent n) es cs ms h = absurd (cc h)

-- one element, as often as there are elements
element_found : (es : List Extent) (w c : ℕ) (cells : List ℕ) → IsKeptTensor es w → is_value (Int w) c ≡ true → replicate (elements es) c ≡ cells → (at : ℕ) → dense_of ((dense_at (element_words w c) (Tensor es w)).tree at) ≡ Ok (Tensor es w, kinds.Constant cells)
element_found es w c cells h k e at =
    let d = (dense_at (element_words w c) (Tensor es w)).tree at in
    let n = width_of_kept es w h in
    dense_goes ((dense_at (element_words w c) (Tensor es w)).tree at) es w (c ∷ []) _ cells h refl (whole_nests d.greater (element_words w c) _ (element_nests d.greater wanted.Whole 0 w c [] tt n k))
    (whole_gives w d.ty.start (c ∷ []) (element_words w c) _ (element_gives w d.ty.start c [] n k)) refl
    (by_element d.ty.start es c [] _ [] (whole_element (element_words w c) _ (element_shapes w c [] n k)) ∙ ap (λ (xs : List ℕ). Ok xs) e)

none_found : (es : List Extent) (w : ℕ) → IsKeptTensor es w → elements es ≡ 0 → (at : ℕ) → dense_of ((dense_at [] (Tensor es w)).tree at) ≡ Ok (Tensor es w, kinds.Constant [])
none_found es w h e at =
    let d = (dense_at [] (Tensor es w)).tree at in
    let none = eq-eqb (elements es) 0 e in
    dense_goes ((dense_at [] (Tensor es w)).tree at) es w [] [] [] h refl (none_nests d.greater).0 (none_gives w d.ty.start) refl (rw none refl)

nested_found : (e : Extent) (es : List Extent) (w : ℕ) (cells : List ℕ) → IsPrintableDense (e ∷ es) w cells → (at : ℕ) → dense_of ((dense_at (nested_words w (e ∷ es) cells) (Tensor (e ∷ es) w)).tree at) ≡ Ok (Tensor (e ∷ es) w, kinds.Constant cells)
nested_found e es w cells h at =
    let d = (dense_at (nested_words w (e ∷ es) cells) (Tensor (e ∷ es) w)).tree at in
    let n = width_of_kept (e ∷ es) w h.result in
    let t = h.result in
    let long = t.rank in
    let rank : 0 + length (e ∷ es) ≤ 8 = omega arith in
    let some : elements (e ∷ es) ≤ length cells = omega (arith, h.many) in
    let all : take (elements (e ∷ es)) cells ≡ cells = ap (λ j. take j cells) (sym h.many) ∙ take-length cells in
    dense_goes ((dense_at (nested_words w (e ∷ es) cells) (Tensor (e ∷ es) w)).tree at) (e ∷ es) w cells _ cells h.result refl
    (whole_nests d.greater (nested_words w (e ∷ es) cells) _ (nested_nests d.greater 0 w (e ∷ es) n rank wanted.Whole cells [] tt h.values some))
    (whole_gives w d.ty.start cells (nested_words w (e ∷ es) cells) _ (subst (λ (cs : List ℕ). Gives w d.ty.start cs (nested_words w (e ∷ es) cells) []) all (nested_gives w d.ty.start (e ∷ es) n cells [] h.values some))) refl
    (by_nested d.ty.start e es cells _ (whole_shapes (e ∷ es) (nested_words w (e ∷ es) cells) _ (nested_shapes w (e ∷ es) t.extents n cells [] h.values some)))

one_cell : (c : ℕ) (cs : List ℕ) → length (c ∷ cs) ≡ 1 → c ∷ [] ≡ c ∷ cs
one_cell c [] h = refl
one_cell c (d ∷ cs) h = absurd (omega arith)

scalar_cells : (w c : ℕ) (cs : List ℕ) → nested_words w [] (c ∷ cs) ≡ element_words w c
unfolding nested_words
scalar_cells w c cs = refl

dense_if_found : (b : Bool) (es : List Extent) (w : ℕ) (cells : List ℕ) → is_splat cells ≡ b → IsPrintableDense es w cells → (at : ℕ) → dense_of ((dense_at (dense_if b w es cells) (Tensor es w)).tree at) ≡ Ok (Tensor es w, kinds.Constant cells)
dense_if_found b es w [] e h at = none_found es w h.result (sym h.many) at
dense_if_found true es w (c ∷ cs) e h at = element_found es w c (c ∷ cs) h.result h.values.0 (ap (λ n. replicate n c) (sym h.many) ∙ splat_cells c cs e) at
dense_if_found false [] w (c ∷ cs) e h at =
    ap (λ (xs : List Word). dense_of ((dense_at xs (Tensor [] w)).tree at)) (scalar_cells w c cs) ∙ element_found [] w c (c ∷ cs) h.result h.values.0 (one_cell c cs h.many) at
dense_if_found false (x ∷ es) w (c ∷ cs) e h at = nested_found x es w (c ∷ cs) h at

-- ---- constants

of_integer_found : (b : Bool) (w v at : ℕ) → 0 < w → w ≤ 64 → of_integer ((literal_if b (Int w) v).tree at) ≡ Ok tt
of_integer_found true w v at lo hi = refl
of_integer_found false w v at lo hi = let k : is_some (width_of (elem_text (Int w))) ≡ true = ap is_some (width_read w lo hi) in rw k refl

integer_found : (aliases : List AliasShape) (env : List Entry) (e : ElemTy) (v : ℕ) → IsIntegerType e → is_value e v ≡ true → (at : ℕ) → kind_of aliases env ((scalar_if e (v ∷ [])).tree at) ≡ Ok (Scalar e, kinds.Constant (v ∷ []))
unfolding kind_of
integer_found aliases env (Int w) v h k at =
    let p = and_parts (nat_le 1 w) (nat_le w 64) h in
    rw (of_integer_found (is_elem (Int w) (Int 1)) w v _ (leb-true 1 w p.0) (leb-true w 64 p.1), literal_read (Int w) v _ h k refl) refl
integer_found aliases env Index v h k at = absurd h

scalar_found : (aliases : List AliasShape) (env : List Entry) (e : ElemTy) (cells : List ℕ) → IsPrintableScalar e cells → (at : ℕ) → kind_of aliases env ((scalar_if e cells).tree at) ≡ Ok (Scalar e, kinds.Constant cells)
scalar_found aliases env e [] h at = absurd h
scalar_found aliases env e (v ∷ []) h at = integer_found aliases env e v h.0 h.1 at
scalar_found aliases env e (v ∷ (u ∷ vs)) h at = absurd h

tensor_found : (aliases : List AliasShape) (env : List Entry) (es : List Extent) (w : ℕ) (cells : List ℕ) → IsPrintableDense es w cells → (at : ℕ) → kind_of aliases env ((constant_if (Tensor es w) cells).tree at) ≡ Ok (Tensor es w, kinds.Constant cells)
unfolding kind_of
tensor_found aliases env es w cells h at = dense_if_found (is_splat cells) es w cells refl h _

pub constant_found : (aliases : List AliasShape) (env : List Entry) (ty : Ty) (cells : List ℕ) → IsPrintableConstant ty cells → (at : ℕ) → kind_of aliases env ((constant_if ty cells).tree at) ≡ Ok (ty, kinds.Constant cells)
constant_found aliases env (Scalar e) cells h at = scalar_found aliases env e cells h at
constant_found aliases env (Tensor es w) cells h at = tensor_found aliases env es w cells h at
constant_found aliases env (Vector ns w) cells h at = absurd h
