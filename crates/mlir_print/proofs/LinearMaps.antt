-- The maps of linear steps.
use Rattle.std.proofs.Common.{◌≡◌, ◌≤◌, ℕ, ◌+◌, suc, ℤ, true, ◌&&◌, List, [], ◌∷◌, ◌++◌, length, Option, refl, subst, arith, Some, None, IsSome, IfSome, ap, ◌∙◌}
use Rattle.std.specs.List.{list_all}
use Rattle.std.proofs.lemmas.Bool.{and_parts, and_from, le-leb, lt-ltb}
use Rattle.mlir_base.specs.Numbers.{is_in_range, is_coefficient}
use Rattle.mlir_base.specs.declared.types.ElemTy.{ElemTy}
use Rattle.mlir_base.specs.declared.types.ElemTy.TheVariants.{Index as IndexType}
use Rattle.payload_ops.specs.declared.step.Arg.{Arg}
use Rattle.payload_ops.specs.declared.step.StepOp.{StepOp}
use Rattle.payload_ops.specs.declared.step.StepOp.TheVariants as ops
use Rattle.payload_ops.specs.declared.step.PayloadStep.{PayloadStep}
use Rattle.payload_ops.specs.Shape.{PayloadShape}
use Rattle.mlir_base.specs.Types.{is_elem}
use Rattle.payload_ops.specs.Payload.{arg_type, has_type, term_fits, op_fits, steps_fit, payload_fits}
use Rattle.affine_maps.specs.declared.map.Expr.{Expr}
use Rattle.affine_maps.specs.Shape.{MapShape}
use Rattle.affine_maps.specs.Map.{terms_fit, IsMap}
use Rattle.mlir_print.specs.Maps.{linear_terms, linear_map, has_map_numbers}
use Rattle.mlir_print.specs.MapParts.{with_text, with_texts}
use Rattle.affine_text.specs.Text.{text_of_map}

-- ---- the numbers of a step that fits are those of a map

coefficients : (at : Arg → Option ElemTy) (ts : List (Arg × ℤ)) → list_all (term_fits at) ts ≡ true → list_all (λ t. is_coefficient t.1) ts ≡ true
coefficients at [] h = refl
coefficients at (t ∷ ts) h =
    let p = and_parts (term_fits at t) (list_all (term_fits at) ts) h in
    and_from _ _ (and_parts (has_type (at t.0) IndexType) (is_coefficient t.1) p.0).1 (coefficients at ts p.1)

pub op_numbers : (at : Arg → Option ElemTy) (e : ElemTy) (o : StepOp) → op_fits at e o ≡ true → has_map_numbers o ≡ true
op_numbers at e (ops.Linear c ts) h =
    let p = and_parts (is_elem e IndexType && is_in_range c) (list_all (term_fits at) ts) h in
    and_from _ _ (and_parts (is_elem e IndexType) (is_in_range c) p.0).1 (coefficients at ts p.1)
op_numbers at e o h = refl

steps_numbers : (ins : List ElemTy) (out : ElemTy) (ss earlier : List PayloadStep) → steps_fit ins out ss earlier ≡ true → list_all (λ (s : PayloadStep). has_map_numbers s.op) ss ≡ true
steps_numbers ins out [] earlier h = refl
steps_numbers ins out (s ∷ ss) earlier h =
    let p = and_parts (op_fits (arg_type ins out earlier) s.ty s.op) (steps_fit ins out ss (earlier ++ s ∷ [])) h in
    and_from _ _ (op_numbers (arg_type ins out earlier) s.ty s.op p.0) (steps_numbers ins out ss (earlier ++ s ∷ []) p.1)

pub payload_numbers : (p : PayloadShape) → payload_fits p ≡ true → list_all (λ (s : PayloadStep). has_map_numbers s.op) p.steps ≡ true
payload_numbers p h = steps_numbers p.ins p.out p.steps [] (and_parts (steps_fit p.ins p.out p.steps []) (has_type (arg_type p.ins p.out p.steps p.yielded) p.out) h).0

-- ---- the map

terms_are : (ts : List (Arg × ℤ)) (d dims : ℕ) → d + length ts ≤ dims → list_all (λ t. is_coefficient t.1) ts ≡ true → terms_fit dims (linear_terms d ts) d ≡ true
terms_are [] d dims le h = refl
terms_are (t ∷ ts) d dims le h =
    let p = and_parts (is_coefficient t.1) (list_all (λ t. is_coefficient t.1) ts) h in
    let z : suc d ≡ d + 1 = omega arith in
    let more = subst (λ k. terms_fit dims (linear_terms (suc d) ts) k ≡ true) z (terms_are ts (suc d) dims (omega arith) p.1) in
    and_from _ _ (and_from _ _ (and_from _ _ (le-leb d d (omega arith)) (lt-ltb d dims (omega arith))) p.0) more

pub linear_is_map : (c : ℤ) (ts : List (Arg × ℤ)) → has_map_numbers (ops.Linear c ts) ≡ true → IsMap (linear_map c ts)
linear_is_map c ts h =
    let p = and_parts (is_in_range c) (list_all (λ t. is_coefficient t.1) ts) h in
    and_from _ _ (and_from _ _ p.0 (terms_are ts 0 (length ts) (omega arith) p.1)) refl

-- ---- aliases of two lists

pub texts_append : (ts : List (List ℕ)) (xs ys : List MapShape) → with_texts ts (xs ++ ys) ≡ with_texts (with_texts ts xs) ys
texts_append ts [] ys = refl
texts_append ts (x ∷ xs) ys = texts_append (with_text ts (text_of_map x)) xs ys

-- ---- the map of a step's terms

made_map : (o : Option MapShape) (m : MapShape) → (IsMap m → IsSome o) → IfSome o (λ x. x ≡ m) → IsMap m → o ≡ Some m
made_map None m v e h = absurd (cc (v h))
made_map (Some x) m v e h = ap (λ (y : MapShape). Some y) e

abbrev shape : ℕ → List Expr → MapShape
shape dims results = record { dims = dims; results = results }

pub linear_made : (o : Option MapShape) (dims : ℕ) (results : List Expr) (c : ℤ) (ts : List (Arg × ℤ)) → dims ≡ length ts → results ≡ record { constant = c; terms = linear_terms 0 ts } ∷ [] → (IsMap (shape dims results) → IsSome o)
    → IfSome o (λ m. m ≡ shape dims results) → has_map_numbers (ops.Linear c ts) ≡ true → o ≡ Some (linear_map c ts)
linear_made o dims results c ts d r valid value h =
    let e : shape dims results ≡ linear_map c ts = ap (λ (n : ℕ). shape n results) d ∙ ap (shape (length ts)) r in
    made_map o (linear_map c ts) (subst (λ (m : MapShape). IsMap m → IsSome o) e valid) (subst (λ (m : MapShape). IfSome o (λ x. x ≡ m)) e value) (linear_is_map c ts h)
