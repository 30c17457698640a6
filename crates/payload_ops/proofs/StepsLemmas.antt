-- The values of steps, taken one after the other.
use Rattle.std.proofs.Common.{◌≡◌, ℕ, ◌+◌, ◌<◌, List, [], ◌∷◌, ◌++◌, take, drop, set, get_or, length, Option, Some, None, option_map, option_and_then, refl, sym, ap, ◌∙◌, take-append-drop}
use Rattle.std.proofs.lemmas.List.{take_more, take_more_set, drop_more}
use Rattle.payload_ops.specs.Shape.{PayloadShape}
use Rattle.payload_ops.specs.Values.{Given, arg_value, step_value, steps_values, payload_value}
use Rattle.payload_ops.specs.declared.step.PayloadStep.{PayloadStep}

chained : {A B C : Type 0} (f : A → Option B) (k : B → Option C) (o : Option A) → option_and_then (λ x. option_and_then k (f x)) o ≡ option_and_then k (option_and_then f o)
chained f k None = refl
chained f k (Some x) = refl

same_after : {A B : Type 0} (f k : A → Option B) (o : Option A) → ((x : A) → f x ≡ k x) → option_and_then f o ≡ option_and_then k o
same_after f k None h = refl
same_after f k (Some x) h = h x

-- the values of two runs of steps
pub steps_values-append : (p : PayloadShape) (g : Given) (xs ys : List PayloadStep) (done : List ℕ)
    → steps_values p g (xs ++ ys) done ≡ option_and_then (steps_values p g ys) (steps_values p g xs done)
steps_values-append p g [] ys done = refl
steps_values-append p g (x ∷ xs) ys done =
    same_after (λ v. steps_values p g (xs ++ ys) (done ++ v ∷ [])) (λ v. option_and_then (steps_values p g ys) (steps_values p g xs (done ++ v ∷ []))) (step_value p g done x)
    (λ v. steps_values-append p g xs ys (done ++ v ∷ []))
    ∙ chained (λ v. steps_values p g xs (done ++ v ∷ [])) (steps_values p g ys) (step_value p g done x)

-- one more step, which has a value
pub steps_values-more : (p : PayloadShape) (g : Given) (scratch : List ℕ) (i v : ℕ) (s : PayloadStep) → i < length p.steps → i < length scratch → s ≡ get_or p.steps i s
    → steps_values p g (take i p.steps) [] ≡ Some (take i scratch) → step_value p g (take i scratch) s ≡ Some v
    → steps_values p g (take (i + 1) p.steps) [] ≡ Some (take (i + 1) (set scratch i v))
steps_values-more p g scratch i v s h k is so_far e =
    ap (λ l. steps_values p g l []) (take_more p.steps i s h ∙ ap (λ x. take i p.steps ++ x ∷ []) (sym is))
    ∙ steps_values-append p g (take i p.steps) (s ∷ []) []
    ∙ ap (option_and_then (steps_values p g (s ∷ []))) so_far
    ∙ ap (option_and_then (λ x. Some (take i scratch ++ x ∷ []))) e
    ∙ ap Some (sym (take_more_set scratch i v k))

-- a step that traps
pub steps_values-trap : (p : PayloadShape) (g : Given) (done : List ℕ) (i : ℕ) (s : PayloadStep) → i < length p.steps → s ≡ get_or p.steps i s
    → steps_values p g (take i p.steps) [] ≡ Some done → step_value p g done s ≡ None → payload_value p g ≡ None
steps_values-trap p g done i s h is so_far e =
    let rest = drop (i + 1) p.steps in
    let split : p.steps ≡ take i p.steps ++ s ∷ rest = sym (take-append-drop i p.steps) ∙ ap (λ l. take i p.steps ++ l) (drop_more p.steps i s h ∙ ap (λ x. x ∷ rest) (sym is)) in
    ap (option_map (λ all. arg_value g all p.yielded))
    (ap (λ l. steps_values p g l []) split
    ∙ steps_values-append p g (take i p.steps) (s ∷ rest) []
    ∙ ap (option_and_then (steps_values p g (s ∷ rest))) so_far
    ∙ ap (option_and_then (λ v. steps_values p g rest (done ++ v ∷ []))) e)
