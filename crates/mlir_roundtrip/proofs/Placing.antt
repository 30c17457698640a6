-- Pieces that are well spaced: lists, names, types and lines.
use Rattle.std.proofs.Common.{◌≡◌, ◌<◌, ◌^◌, ℕ, true, List, [], ◌∷◌, ◌++◌, map, refl, sym, subst, arith, codes, decimal, nat_le}
use Rattle.std.specs.List.{AllByRecursion}
use Rattle.std.proofs.lemmas.Bool.{and_parts, leb-true}
use Rattle.mlir_base.specs.declared.types.ElemTy.{ElemTy}
use Rattle.mlir_base.specs.declared.types.ElemTy.TheVariants.{Int, Index}
use Rattle.mlir_ir.specs.declared.tree.Ty.{Ty}
use Rattle.mlir_ir.specs.declared.tree.Ty.TheVariants.{Scalar, Tensor, Vector}
use Rattle.mlir_ir.specs.declared.tree.Extent.{Extent}
use Rattle.mlir_ir.specs.declared.tree.Extent.TheVariants.{Fixed as FixedExtent, Any}
use Rattle.mlir_ir.specs.declared.tree.ValueId.{ValueId}
use Rattle.text_format.specs.declared.class.Class.TheVariants as classes
use Rattle.text_format.specs.declared.front.Kind.TheVariants.{Word, Value, Shaped}
use Rattle.text_format.specs.declared.front.ByteClass.TheVariants.{LineBefore}
use Rattle.text_format.specs.declared.lexeme.Lexeme.TheVariants as lexemes
use Rattle.text_format.specs.Lexemes.{lexeme_kind, lexeme_text}
use Rattle.text_format.specs.Pieces.{Piece, Gap, Fixed, Leaf}
use Rattle.text_format.proofs.Spacing.{IsName, IsClosed, IsApart, Opens, arg_name, result_name, integer_type_name, word_name, in_line, decimal_in_line, all_in_append, tensor_closed, lexeme_name, none_apart, none_opens, gap_apart, space, fixed_closed, leaf_name, leaf_closed, append_apart, append_opens, fixed_opens, leaf_opens}
use Rattle.mlir_print.specs.declared.names.Given.{Given}
use Rattle.mlir_print.specs.declared.names.Given.TheVariants.{Argument, Result}
use Rattle.mlir_print.specs.Types.{ty_text, type_kind, elem_text, extents_text}
use Rattle.mlir_print.specs.Names.{Row, given_text, name_in, type_in, kind_in, name_or, type_or, kind_or}
use Rattle.text_format.specs.Writers.{Writer, each_of, commas, after_comma}
use Rattle.mlir_roundtrip.specs.Printable.{AreKept, IsTensorType, IsIntegerType, IsValueType, IsScalar, IsDefined, IsTensorValue, IsScalarValue, row_in}
use Rattle.mlir_roundtrip.proofs.Readable.{type_text}
use Rattle.mlir_roundtrip.proofs.Rows.{IsSmall, RowsFit, type_there, tensor_type, defined_type}

-- ---- lists of writers

abbrev pub AreApart : {A : Type 0} → List (Writer A) → Type 0
AreApart ws = AllByRecursion (λ w. IsApart w.pieces) ws

abbrev pub AreOpen : {A : Type 0} → List (Writer A) → Type 0
AreOpen ws = AllByRecursion (λ w. Opens w.pieces) ws

pub each_apart : {A : Type 0} (ws : List (Writer A)) → AreApart ws → AreOpen ws → IsApart (each_of ws).pieces × Opens (each_of ws).pieces
each_apart [] a o = (none_apart, none_opens)
each_apart (w ∷ ws) a o = let r = each_apart ws a.1 o.1 in (append_apart w.pieces (each_of ws).pieces a.0 r.1 r.0, append_opens w.pieces (each_of ws).pieces o.0 r.1)

pub commas_on : {A : Type 0} (ws : List (Writer A)) → AreApart ws → IsApart (each_of (map after_comma ws)).pieces × Opens (each_of (map after_comma ws)).pieces
commas_on [] a = (none_apart, none_opens)
commas_on (w ∷ ws) a =
    let r = commas_on ws a.1 in
    (fixed_closed lexemes.Comma refl (space (append_apart w.pieces (each_of (map after_comma ws)).pieces a.0 r.1 r.0)), fixed_opens lexemes.Comma refl)

pub commas_apart : {A : Type 0} (ws : List (Writer A)) → AreApart ws → IsApart (commas ws).pieces
commas_apart [] a = none_apart
commas_apart (w ∷ ws) a = let r = commas_on ws a.1 in append_apart w.pieces (each_of (map after_comma ws)).pieces a.0 r.1 r.0

-- ---- names and types

pub given_name : (g : Given) → IsSmall g → IsName Value (given_text g)
given_name (Argument n) s = arg_name n s
given_name (Result n) s = result_name n s

pub extents_in_line : (es : List Extent) → AreKept es → in_line (extents_text es) ≡ true
extents_in_line [] h = refl
extents_in_line (FixedExtent n ∷ es) h = all_in_append (LineBefore 62) (decimal n) (codes "x" ++ extents_text es) (decimal_in_line n (omega (arith, h.0))) (extents_in_line es h.1)
extents_in_line (Any ∷ es) h = absurd h

pub row_closed : (ty : Ty) → IsTensorType ty → IsClosed Shaped (ty_text ty)
row_closed (Tensor es w) h =
    let inside = all_in_append (LineBefore 62) (extents_text es) (codes "i" ++ decimal w) (extents_in_line es h.extents) (decimal_in_line w (omega (arith, h.most))) in
    subst (λ (t : List ℕ). IsClosed Shaped t) (sym (type_text es w)) (tensor_closed (extents_text es ++ (codes "i" ++ decimal w)) inside)
row_closed ty h = absurd h

abbrev pub IsSmallElem : ElemTy → Type 0
IsSmallElem (Int w) = w < 2 ^ 64
IsSmallElem Index = Unit {0}

pub elem_name : (e : ElemTy) → IsSmallElem e → IsName Word (elem_text e)
elem_name (Int w) s = integer_type_name w s
elem_name Index s = word_name 105 (codes "ndex") refl refl refl (λ rest. refl) refl

pub type_end : (text : List ℕ) → IsClosed Shaped text → IsApart (Leaf classes.TensorType Shaped text ∷ [])
type_end text c = leaf_closed classes.TensorType c none_apart

pub elem_end : (e : ElemTy) → IsSmallElem e → IsApart (Leaf classes.ElementType Word (elem_text e) ∷ [])
elem_end e s = leaf_name classes.ElementType (elem_name e s) none_opens none_apart

pub typed_end : (ty : Ty) → IsTensorType ty → IsApart (Fixed lexemes.Colon ∷ Gap (codes " ") ∷ Leaf classes.TensorType Shaped (ty_text ty) ∷ [])
typed_end ty r = fixed_closed lexemes.Colon refl (space (type_end (ty_text ty) (row_closed ty r)))

pub elem_typed : (e : ElemTy) → IsSmallElem e → IsApart (Fixed lexemes.Colon ∷ Gap (codes " ") ∷ Leaf classes.ElementType Word (elem_text e) ∷ [])
elem_typed e s = fixed_closed lexemes.Colon refl (space (elem_end e s))

pub value_name : (rows : List Row) → RowsFit rows → (v : ValueId) → IsDefined rows v → IsName Value (name_in rows v)
value_name rows f v d = subst (λ o. IsName Value (name_or o)) (sym d.1) (given_name d.0.name (f v.0 d.0 d.1).0)

pub value_closed : (rows : List Row) → RowsFit rows → (v : ValueId) → IsTensorValue rows v → IsClosed Shaped (type_in rows v)
value_closed rows f v t = subst (λ (text : List ℕ). IsClosed Shaped text) (sym (type_there rows v t.is_defined)) (row_closed (row_in rows v).ty (tensor_type rows f v t))

pub integer_small : (e : ElemTy) → IsIntegerType e → IsSmallElem e
integer_small (Int w) h = let p = and_parts (nat_le 1 w) (nat_le w 64) h in let le = leb-true w 64 p.1 in omega arith
integer_small Index h = absurd h

-- the text of a value's type is a token of its kind
type_name : (ty : Ty) → IsValueType ty → IsName (type_kind ty) (ty_text ty)
type_name (Scalar e) h = elem_name e (integer_small e h)
type_name (Tensor es w) h = let c = row_closed (Tensor es w) h in record { ends = λ rest s. c.ends rest }
type_name (Vector ns w) h = absurd h

pub operand_name : (rows : List Row) → RowsFit rows → (v : ValueId) → IsDefined rows v → IsName (kind_in rows v) (type_in rows v)
operand_name rows f v d = subst (λ o. IsName (kind_or o) (type_or o)) (sym d.1) (type_name d.0.ty (f v.0 d.0 d.1).1)

scalar_name : (ty : Ty) → IsValueType ty → IsScalar ty → IsName Word (ty_text ty)
scalar_name (Scalar e) h s = elem_name e (integer_small e h)
scalar_name ty h s = absurd s

pub value_word : (rows : List Row) → RowsFit rows → (v : ValueId) → IsScalarValue rows v → IsName Word (type_in rows v)
value_word rows f v s = subst (λ (text : List ℕ). IsName Word text) (sym (type_there rows v s.is_defined)) (scalar_name (row_in rows v).ty (defined_type rows f v s.is_defined) s.is_scalar)

-- ---- marks and lines

pub comma_opens : {ps : List Piece} → Opens (Leaf (classes.Exactly lexemes.Comma) (lexeme_kind lexemes.Comma) (lexeme_text lexemes.Comma) ∷ ps)
comma_opens = leaf_opens (classes.Exactly lexemes.Comma) (lexeme_kind lexemes.Comma) (lexeme_text lexemes.Comma) refl

pub close_end : IsApart (Leaf (classes.Exactly lexemes.CloseParenthesis) (lexeme_kind lexemes.CloseParenthesis) (lexeme_text lexemes.CloseParenthesis) ∷ [])
close_end = leaf_name (classes.Exactly lexemes.CloseParenthesis) (lexeme_name lexemes.CloseParenthesis refl) none_opens none_apart

pub close_opens : Opens (Leaf (classes.Exactly lexemes.CloseParenthesis) (lexeme_kind lexemes.CloseParenthesis) (lexeme_text lexemes.CloseParenthesis) ∷ [])
close_opens = leaf_opens (classes.Exactly lexemes.CloseParenthesis) (lexeme_kind lexemes.CloseParenthesis) (lexeme_text lexemes.CloseParenthesis) refl

abbrev pub close_piece : Piece
close_piece = Leaf (classes.Exactly lexemes.CloseParenthesis) (lexeme_kind lexemes.CloseParenthesis) (lexeme_text lexemes.CloseParenthesis)

pub line_four : {ps : List Piece} → IsApart ps → IsApart (Gap (codes "\n    ") ∷ ps)
line_four h = gap_apart (refl, (refl, (refl, (refl, (refl, tt))))) h

pub line_two : {ps : List Piece} → IsApart ps → IsApart (Gap (codes "\n  ") ∷ ps)
line_two h = gap_apart (refl, (refl, (refl, tt))) h

pub four_opens : {ps : List Piece} → Opens (Gap (codes "\n    ") ∷ ps)
four_opens = record { opens = λ rest s. refl }

pub two_opens : {ps : List Piece} → Opens (Gap (codes "\n  ") ∷ ps)
two_opens = record { opens = λ rest s. refl }
