-- What a payload's steps are, one by one: each fits those before it, and has the value that these give it.
use Rattle.std.proofs.Common.{◌≡◌, ℕ, zero, suc, ◌+◌, ◌<◌, true, List, [], ◌∷◌, ◌++◌, length, get_or, take, drop, Option, Some, None, refl, ap, sym, ◌∙◌, subst, arith, append_assoc, length-append}
use Rattle.std.proofs.lemmas.List.{append-nil, get_or_at, take_at}
use Rattle.std.proofs.lemmas.Bool.{and_parts}
use Rattle.std.proofs.lemmas.Option.{none-some, same_Some, option_and_then_some}
use Rattle.std.specs.Prelude.{slice_get}
use Rattle.std.specs.Option.{option_and_then}
use Rattle.payload_ops.specs.Payload.{arg_type, op_fits, steps_fit}
use Rattle.payload_ops.specs.Shape.{PayloadShape}
use Rattle.payload_ops.specs.Values.{Given, step_value, steps_values}
use Rattle.mlir_base.specs.declared.types.ElemTy.{ElemTy}
use Rattle.payload_ops.specs.declared.step.PayloadStep.{PayloadStep}

-- ---- lists
pub slice_get-none : {A : Type 0} (k : ℕ) (x : A) → slice_get [] k ≡ Some x → ⊥
slice_get-none zero x e = none-some x e
slice_get-none (suc k) x e = none-some x e

-- a list about one of its elements
pub around : {A : Type 0} (xs : List A) (k : ℕ) (x : A) → slice_get xs k ≡ Some x → xs ≡ take k xs ++ x ∷ drop (suc k) xs
around [] k x e = absurd (slice_get-none k x e)
around (y ∷ ys) zero x e = ap (λ z. z ∷ ys) (same_Some y x e)
around (y ∷ ys) (suc k) x e = ap (λ zs. y ∷ zs) (around ys k x e)

pub slice_get-take : {A : Type 0} (xs : List A) (n k : ℕ) (x : A) → slice_get (take n xs) k ≡ Some x → (k < n) × (slice_get xs k ≡ Some x)
slice_get-take [] zero k x e = absurd (slice_get-none k x e)
slice_get-take [] (suc n) k x e = absurd (slice_get-none k x e)
slice_get-take (y ∷ ys) zero k x e = absurd (slice_get-none k x e)
slice_get-take (y ∷ ys) (suc n) zero x e = (omega arith, e)
slice_get-take (y ∷ ys) (suc n) (suc k) x e = let h = slice_get-take ys n k x e in (omega arith, h.1)

-- ---- options
pub and_then_same : {A B : Type 0} (o : Option A) (k l : A → Option B) → ((a : A) → o ≡ Some a → k a ≡ l a) → option_and_then k o ≡ option_and_then l o
and_then_same None k l h = refl
and_then_same (Some a) k l h = h a refl

pub and_then_assoc : {A B C : Type 0} (o : Option A) (f : A → Option B) (g : B → Option C) → option_and_then g (option_and_then f o) ≡ option_and_then (λ a. option_and_then g (f a)) o
and_then_assoc None f g = refl
and_then_assoc (Some a) f g = refl

-- ---- steps
pub fits_at : (ins : List ElemTy) (out : ElemTy) (steps earlier : List PayloadStep) → steps_fit ins out steps earlier ≡ true → (k : ℕ) (s : PayloadStep) →
    slice_get steps k ≡ Some s → op_fits (arg_type ins out (earlier ++ take k steps)) s.ty s.op ≡ true
fits_at ins out [] earlier h k s e = absurd (slice_get-none k s e)
fits_at ins out (x ∷ xs) earlier h zero s e =
    subst (λ l. op_fits (arg_type ins out l) s.ty s.op ≡ true) (sym (append-nil earlier))
    (subst (λ z. op_fits (arg_type ins out earlier) z.ty z.op ≡ true) (same_Some x s e) (and_parts _ _ h).0)
fits_at ins out (x ∷ xs) earlier h (suc k) s e =
    subst (λ l. op_fits (arg_type ins out l) s.ty s.op ≡ true) (append_assoc earlier (x ∷ []) (take k xs))
    (fits_at ins out xs (earlier ++ x ∷ []) (and_parts _ _ h).1 k s e)

pub steps_values-append : (p : PayloadShape) (g : Given) (xs ys : List PayloadStep) (done : List ℕ) →
    steps_values p g (xs ++ ys) done ≡ option_and_then (steps_values p g ys) (steps_values p g xs done)
steps_values-append p g [] ys done = refl
steps_values-append p g (x ∷ xs) ys done =
    and_then_same (step_value p g done x) _ _ (λ v _. steps_values-append p g xs ys (done ++ v ∷ []))
    ∙ sym (and_then_assoc (step_value p g done x) (λ v. steps_values p g xs (done ++ v ∷ [])) (steps_values p g ys))

-- the values of all steps begin with those of the earlier ones, and there is one for each step
pub values_begin : (p : PayloadShape) (g : Given) (steps : List PayloadStep) (done all : List ℕ) → steps_values p g steps done ≡ Some all →
    (rest : List ℕ) × (all ≡ done ++ rest) × (length rest ≡ length steps)
values_begin p g [] done all e = ([], sym (same_Some done all e) ∙ sym (append-nil done), refl)
values_begin p g (s ∷ steps) done all e =
    option_and_then_some (λ v. steps_values p g steps (done ++ v ∷ [])) (step_value p g done s) all e (λ v _ r.
    let h : (rest : List ℕ) × (all ≡ (done ++ v ∷ []) ++ rest) × (length rest ≡ length steps) = values_begin p g steps (done ++ v ∷ []) all r in
    (v ∷ h.0, h.1 ∙ append_assoc done (v ∷ []) h.0, ap suc h.2))

-- a step has the value that the earlier ones give it
pub value_at : (p : PayloadShape) (g : Given) (steps : List PayloadStep) (done all : List ℕ) → steps_values p g steps done ≡ Some all → (k : ℕ) (s : PayloadStep) →
    slice_get steps k ≡ Some s → step_value p g (take (length done + k) all) s ≡ Some (get_or all (length done + k) 0)
value_at p g [] done all e k s at = absurd (slice_get-none k s at)
value_at p g (x ∷ steps) done all e zero s at =
    option_and_then_some (λ v. steps_values p g steps (done ++ v ∷ [])) (step_value p g done x) all e (λ v first r.
    let h : (rest : List ℕ) × (all ≡ (done ++ v ∷ []) ++ rest) × (length rest ≡ length steps) = values_begin p g steps (done ++ v ∷ []) all r in
    let split : all ≡ done ++ v ∷ h.0 = h.1 ∙ append_assoc done (v ∷ []) h.0 in
    let n : length done ≡ length done + 0 = omega arith in
    let front : take (length done + 0) all ≡ done = ap (take (length done + 0)) split ∙ take_at done (v ∷ h.0) (length done + 0) n in
    let here : get_or all (length done + 0) 0 ≡ v = ap (λ l. get_or l (length done + 0) 0) split ∙ get_or_at done v h.0 0 (length done + 0) n in
    (λ j. step_value p g (front j) (sym (same_Some x s at) j)) ∙ first ∙ ap (λ m. Some m) (sym here))
value_at p g (x ∷ steps) done all e (suc k) s at =
    option_and_then_some (λ v. steps_values p g steps (done ++ v ∷ [])) (step_value p g done x) all e (λ v _ r.
    let n : length (done ++ v ∷ []) + k ≡ length done + suc k = omega (arith, length-append done (v ∷ [])) in
    subst (λ m. step_value p g (take m all) s ≡ Some (get_or all m 0)) n (value_at p g steps (done ++ v ∷ []) all r k s at))
