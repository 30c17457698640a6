-- Which types a token of a class may stand for.
use Rattle.std.proofs.Common.{◌≡◌, ◌≤◌, ◌-◌, ℕ, Bool, true, false, cond, ◌&&◌, List, [], ◌∷◌, length, take, drop, Option, Some, None, Ok, refl, ap, arith, codes, nat_lt}
use Rattle.std.specs.Str.{bytes_eq}
use Rattle.std.proofs.lemmas.Bool.{ltb-false}
use Rattle.std.proofs.lemmas.Slice.Eq.{bytes_eq-Decides}
use Rattle.mlir_base.specs.declared.types.ElemTy.{ElemTy}
use Rattle.mlir_base.specs.declared.types.ElemTy.TheVariants.{Index}
use Rattle.payload_ops.specs.Payload.{has_type}
use Rattle.text_format.specs.declared.types.RankedShape.{RankedShape}
use Rattle.text_format.specs.Token.{TokenShape}
use Rattle.text_format.specs.Types.{is_some, integer, width_of, element_of, inside, extents_in, extents_of, ranked_from}
use Rattle.mlir_ir.specs.declared.tree.Ty.{Ty}
use Rattle.mlir_ir.specs.declared.tree.Ty.TheVariants.{Scalar, Tensor, Vector}
use Rattle.mlir_lex.specs.declared.fault.Fault.TheVariants.{TypeDiffers}
use Rattle.mlir_scope.specs.Types.{is_shape}
use Rattle.mlir_scope.specs.Scope.{same_operand}
use Rattle.mlir_roundtrip.specs.Printable.{IsTensor, IsScalar}
use Rattle.mlir_roundtrip.proofs.ReadTypes.{demanded}

-- ---- an element type is short, and a shaped one is long

short_width : (text : List ℕ) → is_some (integer (width_of text)) ≡ true → length text ≤ 5
short_width [] h = absurd (cc h)
short_width (i ∷ []) h = absurd (cc h)
short_width (i ∷ (a ∷ [])) h = omega arith
short_width (i ∷ (a ∷ (b ∷ []))) h = omega arith
short_width (i ∷ (a ∷ (b ∷ (c ∷ rest)))) h = absurd (cc h)

short_if : (text : List ℕ) (b : Bool) → bytes_eq text (codes "index") ≡ b → is_some (cond b (Some Index) (integer (width_of text))) ≡ true → length text ≤ 5
short_if text true e h = let k : length text ≡ 5 = ap (λ (t : List ℕ). length t) ((bytes_eq-Decides text (codes "index")).0 e) in omega arith
short_if text false e h = short_width text h

short : (text : List ℕ) → is_some (element_of text) ≡ true → length text ≤ 5
short text h = short_if text (bytes_eq text (codes "index")) refl h

long_if : (text : List ℕ) (b c : Bool) (o : Option (List ℕ × ℕ)) → nat_lt (length text) 8 ≡ b → is_some (cond (cond b false c) o None) ≡ true → 8 ≤ length text
long_if text true c o e h = absurd (cc h)
long_if text false c o e h = ltb-false (length text) 8 e

long : (text : List ℕ) → is_some (extents_of text) ≡ true → 8 ≤ length text
unfolding extents_of
long text h = long_if text (nat_lt (length text) 8) (bytes_eq (take 7 text) (codes "tensor<") && bytes_eq (drop (length text - 1) text) (codes ">")) (extents_in (inside text) None) refl h

not_both : (text : List ℕ) → is_some (extents_of text) ≡ true → is_some (element_of text) ≡ true → ⊥
not_both text h k = let a = long text h in let b = short text k in absurd (omega arith)

-- ---- the types of values

has_some : (o : Option ElemTy) (e : ElemTy) → has_type o e ≡ true → is_some o ≡ true
has_some None e h = absurd (cc h)
has_some (Some x) e h = refl

shape_some : (o : Option (List ℕ × ℕ)) (ty : Ty) → is_shape (ranked_from o) ty ≡ true → is_some o ≡ true
shape_some None ty h = absurd (cc h)
shape_some (Some p) ty h = refl

no_vector : (o : Option RankedShape) (ns : List ℕ) (w : ℕ) → is_shape o (Vector ns w) ≡ true → ⊥
no_vector None ns w h = absurd (cc h)
no_vector (Some s) ns w h = absurd (cc h)

-- what is written as a tensor's type is one
pub tensor_typed : (ty : Ty) (t : TokenShape) (u : Unit {0}) → is_some (extents_of t.text) ≡ true → same_operand ty t ≡ Ok u → IsTensor ty
tensor_typed (Scalar e) t u c h = absurd (not_both t.text c (has_some (element_of t.text) e (demanded (has_type (element_of t.text) e) (TypeDiffers t.start) u h)))
tensor_typed (Tensor es w) t u c h = tt
tensor_typed (Vector ns w) t u c h = absurd (no_vector (ranked_from (extents_of t.text)) ns w (demanded (is_shape (ranked_from (extents_of t.text)) (Vector ns w)) (TypeDiffers t.start) u h))

-- what is written as an element type is one
pub scalar_typed : (ty : Ty) (t : TokenShape) (u : Unit {0}) → is_some (element_of t.text) ≡ true → same_operand ty t ≡ Ok u → IsScalar ty
scalar_typed (Scalar e) t u c h = tt
scalar_typed (Tensor es w) t u c h = absurd (not_both t.text (shape_some (extents_of t.text) (Tensor es w) (demanded (is_shape (ranked_from (extents_of t.text)) (Tensor es w)) (TypeDiffers t.start) u h)) c)
scalar_typed (Vector ns w) t u c h = absurd (no_vector (ranked_from (extents_of t.text)) ns w (demanded (is_shape (ranked_from (extents_of t.text)) (Vector ns w)) (TypeDiffers t.start) u h))
