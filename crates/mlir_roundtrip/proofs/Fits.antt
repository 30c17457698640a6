-- What the types of a payload's arguments and steps are.
use Rattle.std.proofs.Common.{◌≡◌, ◌<◌, ◌⊎◌, inl, inr, ℕ, suc, zero, true, List, [], ◌∷◌, ◌++◌, length, Option, Some, None, refl, ap, ◌∙◌, arith}
use Rattle.std.specs.Prelude.{slice_get}
use Rattle.std.specs.Option.{option_map}
use Rattle.std.proofs.lemmas.Bool.{eqb-true}
use Rattle.mlir_base.specs.declared.types.ElemTy.{ElemTy}
use Rattle.mlir_base.specs.declared.types.ElemTy.TheVariants.{Int, Index}
use Rattle.payload_ops.specs.declared.step.Arg.{Arg}
use Rattle.payload_ops.specs.declared.step.PayloadStep.{PayloadStep}
use Rattle.mlir_base.specs.Types.{is_elem}
use Rattle.payload_ops.specs.Payload.{arg_type, has_type, have_one_type, is_narrower, is_widening, is_narrowing, is_cast}
use Rattle.mlir_payload.proofs.Fitting.{arg_more}
use Rattle.mlir_print.specs.Types.{elem_text}
use Rattle.mlir_print.specs.Payloads.{elem_or}

pub same_elem : (f t : ElemTy) → is_elem f t ≡ true → f ≡ t
same_elem (Int v) (Int w) h = ap Int (eqb-true v w h)
same_elem (Int v) Index h = absurd (cc h)
same_elem Index (Int w) h = absurd (cc h)
same_elem Index Index h = refl

pub found_type : (o : Option ElemTy) (t : ElemTy) → has_type o t ≡ true → o ≡ Some t
found_type None t h = absurd (cc h)
found_type (Some f) t h = ap (λ x. Some x) (same_elem f t h)

pub get_below : {A : Type 0} (xs : List A) (j : ℕ) (x : A) → slice_get xs j ≡ Some x → j < length xs
get_below [] j x h = absurd (cc h)
get_below (y ∷ xs) zero x h = omega arith
get_below (y ∷ xs) (suc j) x h = let r = get_below xs j x h in omega arith

pub get_last : {A : Type 0} (xs : List A) (y x : A) (j : ℕ) → slice_get (xs ++ y ∷ []) j ≡ Some x → (slice_get xs j ≡ Some x) ⊎ ((j ≡ length xs) × (y ≡ x))
get_last [] y x zero h = inr (refl, cc h)
get_last [] y x (suc j) h = absurd (cc h)
get_last (z ∷ xs) y x zero h = inl h
get_last (z ∷ xs) y x (suc j) h = shift (get_last xs y x j h)
  where
    shift : (slice_get xs j ≡ Some x) ⊎ ((j ≡ length xs) × (y ≡ x)) → (slice_get xs j ≡ Some x) ⊎ ((suc j ≡ suc (length xs)) × (y ≡ x))
    shift (inl k) = inl k
    shift (inr p) = inr (ap suc p.0, p.1)

pub mapped : {A B : Type 0} (f : A → B) (o : Option A) (y : B) → option_map f o ≡ Some y → (x : A) × (o ≡ Some x) × (f x ≡ y)
mapped f None y h = absurd (cc h)
mapped f (Some x) y h = (x, refl, cc h)

-- ---- what the operands of a step that fits are

pub one_found : (o p : Option ElemTy) → have_one_type o p ≡ true → (t : ElemTy) × (o ≡ Some t) × (p ≡ Some t)
one_found None p h = absurd (cc h)
one_found (Some t) p h = (t, refl, found_type p t h)

pub widening_found : (o : Option ElemTy) (t : ElemTy) → is_widening o t ≡ true → (f : ElemTy) × (o ≡ Some f) × (is_narrower f t ≡ true)
widening_found None t h = absurd (cc h)
widening_found (Some f) t h = (f, refl, h)

pub narrowing_found : (o : Option ElemTy) (t : ElemTy) → is_narrowing o t ≡ true → (f : ElemTy) × (o ≡ Some f) × (is_narrower t f ≡ true)
narrowing_found None t h = absurd (cc h)
narrowing_found (Some f) t h = (f, refl, h)

pub cast_found : (o : Option ElemTy) (t : ElemTy) → is_cast o t ≡ true → (f : ElemTy) × (o ≡ Some f) × (is_cast (Some f) t ≡ true)
cast_found None t h = absurd (cc h)
cast_found (Some f) t h = (f, refl, h)

-- the text of the type of what an argument names is that type's
pub arg_text : (ins : List ElemTy) (out : ElemTy) (earlier more all : List PayloadStep) (x : Arg) (t : ElemTy) → all ≡ earlier ++ more → arg_type ins out earlier x ≡ Some t → elem_or (arg_type ins out all x) ≡ elem_text t
arg_text ins out earlier more all x t e h =
    ap (λ (ss : List PayloadStep). elem_or (arg_type ins out ss x)) e ∙ ap elem_or (arg_more ins out earlier more x t h)
