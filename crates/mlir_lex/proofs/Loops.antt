-- Loops over lists, and faults that go through.
use Rattle.std.proofs.Common.{◌≡◌, ◌<◌, ◌≤◌, ℕ, ◌+◌, suc, zero, List, [], ◌∷◌, ◌++◌, length, Result, Ok, Err, refl, sym, ap, ◌∙◌, arith, append_assoc, get_or, drop}
use Rattle.std.proofs.lemmas.List.{append-nil}
use Rattle.std.proofs.Math.Seq.{drop-cons}
use Rattle.mlir_lex.specs.declared.fault.Fault.{Fault}
use Rattle.mlir_lex.specs.declared.fault.Refused.{Refused}
use Rattle.mlir_lex.specs.declared.fault.Refused.TheVariants.{At, Memory}
use Rattle.mlir_lex.specs.Chain.{and_then, each, thread, Fails}

pub through : {A B : Type 0} (e : Refused) (r : Result A Fault) (s : Result B Fault) → ((x : Fault) → r ≡ Err x → s ≡ Err x) → Fails e r → Fails e s
through Memory r s f h = tt
through (At x) r s f h = f x h

-- a fault of the first goes through
pub fails_first : {A B : Type 0} (e : Refused) (r : Result A Fault) (f : A → Result B Fault) → Fails e r → Fails e (and_then r f)
fails_first e r f h = through e r (and_then r f) (λ x k. rw k refl) h

-- a fault of the second goes through
pub fails_then : {A B : Type 0} (e : Refused) (r : Result A Fault) (x : A) (f : A → Result B Fault) → r ≡ Ok x → Fails e (f x) → Fails e (and_then r f)
fails_then e r x f k h = rw k h

abbrev pub onto : {B : Type 0} → List B → Result (List B) Fault → Result (List B) Fault
onto acc r = and_then r (λ ys. Ok (acc ++ ys))

onto_one : {B : Type 0} (acc : List B) (y : B) (r : Result (List B) Fault) → onto acc (and_then r (λ ys. Ok (y ∷ ys))) ≡ onto (acc ++ y ∷ []) r
onto_one acc y (Ok ys) = ap (λ zs. Ok zs) (sym (append_assoc acc (y ∷ []) ys))
onto_one acc y (Err e) = refl

pub each_step : {A B : Type 0} (f : A → Result B Fault) (acc : List B) (xs : List A) (i : ℕ) (d : A) (y : B) → i < length xs → f (get_or xs i d) ≡ Ok y → onto acc (each f (drop i xs)) ≡ onto (acc ++ y ∷ []) (each f (drop (i + 1) xs))
each_step f acc xs i d y h e =
    let z : suc i ≡ i + 1 = omega arith in
    ap (λ zs. onto acc (each f zs)) (drop-cons xs i d h) ∙ ap (λ r. onto acc (and_then r (λ y. and_then (each f (drop (suc i) xs)) (λ ys. Ok (y ∷ ys))))) e
    ∙ onto_one acc y (each f (drop (suc i) xs)) ∙ ap (λ j. onto (acc ++ y ∷ []) (each f (drop j xs))) z

pub each_fails : {A B : Type 0} (f : A → Result B Fault) (acc : List B) (xs : List A) (i : ℕ) (d : A) (e : Refused) (all : Result (List B) Fault) → i < length xs → onto acc (each f (drop i xs)) ≡ all → Fails e (f (get_or xs i d)) → Fails e all
each_fails f acc xs i d e all h inv k =
    through e (f (get_or xs i d)) all (λ x q. sym inv ∙ ap (λ zs. onto acc (each f zs)) (drop-cons xs i d h) ∙ ap (λ r. onto acc (and_then r (λ y. and_then (each f (drop (suc i) xs)) (λ ys. Ok (y ∷ ys))))) q) k

drop_none : {A : Type 0} (i : ℕ) → drop {A = A} i [] ≡ []
drop_none zero = refl
drop_none (suc i) = refl

pub drop_all : {A : Type 0} (xs : List A) (i : ℕ) → length xs ≤ i → drop i xs ≡ []
drop_all [] i h = drop_none i
drop_all (x ∷ xs) zero h = absurd (omega arith)
drop_all (x ∷ xs) (suc i) h = drop_all xs i (omega arith)

pub each_done : {A B : Type 0} (f : A → Result B Fault) (acc : List B) (xs : List A) (i : ℕ) → length xs ≤ i → onto acc (each f (drop i xs)) ≡ Ok acc
each_done f acc xs i h = ap (λ zs. onto acc (each f zs)) (drop_all xs i h) ∙ ap (λ zs. Ok zs) (append-nil acc)

-- ---- from state to state

abbrev pub onto_with : {S B : Type 0} → List B → Result (S × List B) Fault → Result (S × List B) Fault
onto_with acc r = and_then r (λ q. Ok (q.0, acc ++ q.1))

with_one : {S B : Type 0} (acc : List B) (y : B) (r : Result (S × List B) Fault) → onto_with acc (and_then r (λ q. Ok (q.0, y ∷ q.1))) ≡ onto_with (acc ++ y ∷ []) r
with_one acc y (Ok q) = ap (λ zs. Ok (q.0, zs)) (sym (append_assoc acc (y ∷ []) q.1))
with_one acc y (Err e) = refl

pub thread_step : {S A B : Type 0} (f : S → A → Result (S × B) Fault) (acc : List B) (s : S) (xs : List A) (i : ℕ) (d : A) (t : S) (y : B) → i < length xs → f s (get_or xs i d) ≡ Ok (t, y)
    → onto_with acc (thread f s (drop i xs)) ≡ onto_with (acc ++ y ∷ []) (thread f t (drop (i + 1) xs))
thread_step f acc s xs i d t y h e =
    let z : suc i ≡ i + 1 = omega arith in
    ap (λ zs. onto_with acc (thread f s zs)) (drop-cons xs i d h) ∙ ap (λ r. onto_with acc (and_then r (λ r. and_then (thread f r.0 (drop (suc i) xs)) (λ q. Ok (q.0, r.1 ∷ q.1))))) e
    ∙ with_one acc y (thread f t (drop (suc i) xs)) ∙ ap (λ j. onto_with (acc ++ y ∷ []) (thread f t (drop j xs))) z

pub thread_fails : {S A B : Type 0} (f : S → A → Result (S × B) Fault) (acc : List B) (s : S) (xs : List A) (i : ℕ) (d : A) (e : Refused) (all : Result (S × List B) Fault) → i < length xs → onto_with acc (thread f s (drop i xs)) ≡ all → Fails e (f s (get_or xs i d)) → Fails e all
thread_fails f acc s xs i d e all h inv k =
    through e (f s (get_or xs i d)) all (λ x q. sym inv ∙ ap (λ zs. onto_with acc (thread f s zs)) (drop-cons xs i d h) ∙ ap (λ r. onto_with acc (and_then r (λ r. and_then (thread f r.0 (drop (suc i) xs)) (λ q. Ok (q.0, r.1 ∷ q.1))))) q) k

pub thread_done : {S A B : Type 0} (f : S → A → Result (S × B) Fault) (acc : List B) (s : S) (xs : List A) (i : ℕ) → length xs ≤ i → onto_with acc (thread f s (drop i xs)) ≡ Ok (s, acc)
thread_done f acc s xs i h = ap (λ zs. onto_with acc (thread f s zs)) (drop_all xs i h) ∙ ap (λ zs. Ok (s, zs)) (append-nil acc)
