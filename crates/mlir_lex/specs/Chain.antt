-- Definitions that may find a fault, one after the other, and what the code answers for them.
use Rattle.std.specs.Prelude.{◌≡◌, Bool, true, false, List, [], ◌∷◌, ◌++◌, Result, Ok, Err}
use Rattle.mlir_lex.specs.declared.fault.Fault.{Fault}
use Rattle.mlir_lex.specs.declared.fault.Refused.{Refused}
use Rattle.mlir_lex.specs.declared.fault.Refused.TheVariants.{At, Memory}

-- the second, where the first finds no fault
abbrev pub and_then : {A B : Type 0} → Result A Fault → (A → Result B Fault) → Result B Fault
and_then (Ok x) f = f x
and_then (Err e) f = Err e

-- a test, and the fault where it fails
abbrev pub demand : Bool → Fault → Result (Unit {0}) Fault
demand true e = Ok tt
demand false e = Err e

-- each of a list, in order
abbrev pub each : {A B : Type 0} → (A → Result B Fault) → List A → Result (List B) Fault
each f [] = Ok []
each f (x ∷ xs) = and_then (f x) (λ y. and_then (each f xs) (λ ys. Ok (y ∷ ys)))

-- each of a list, in order, from state to state
abbrev pub thread : {S A B : Type 0} → (S → A → Result (S × B) Fault) → S → List A → Result (S × List B) Fault
thread f s [] = Ok (s, [])
thread f s (x ∷ xs) = and_then (f s x) (λ r. and_then (thread f r.0 xs) (λ q. Ok (q.0, r.1 ∷ q.1)))

-- the refusal is for this fault, or for want of memory
abbrev pub Fails : {A : Type 0} → Refused → Result A Fault → Type 0
Fails Memory r = Unit {0}
Fails (At e) r = r ≡ Err e

-- the code's answer is that of the definition, unless memory ran out
abbrev pub Agree : {A : Type 0} → Result A Refused → Result A Fault → Type 0
Agree (Ok x) r = r ≡ Ok x
Agree (Err e) r = Fails e r

-- the same where the code has left a state beside its answer
abbrev pub Leaves : {S A : Type 0} → S → Result A Refused → Result (S × A) Fault → Type 0
Leaves s (Ok x) r = r ≡ Ok (s, x)
Leaves s (Err e) r = Fails e r

-- the same where the state is the answer
abbrev pub Becomes : {S : Type 0} → S → Result (Unit {0}) Refused → Result S Fault → Type 0
Becomes s (Ok x) r = r ≡ Ok s
Becomes s (Err e) r = Fails e r

-- the second part behind these
abbrev pub behind_these : {S B : Type 0} → List B → Result (S × List B) Fault → Result (S × List B) Fault
behind_these before r = and_then r (λ q. Ok (q.0, before ++ q.1))

-- the same where the code has left a state, and has added to a list
abbrev pub Adds : {S B : Type 0} → S → List B → List B → Result (Unit {0}) Refused → Result (S × List B) Fault → Type 0
Adds s before all (Ok x) r = behind_these before r ≡ Ok (s, all)
Adds s before all (Err e) r = Fails e r
