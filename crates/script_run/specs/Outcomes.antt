-- What steps give or why they are refused, one after the other, and what the code answers for it.
use Rattle.std.specs.Prelude.{◌≡◌, Bool, true, false, None, Result, Ok, Err, ⊤}
use Rattle.structured_steps.specs.declared.rule.StepRule.{StepRule}
use Rattle.rewrite_base.specs.declared.error.StepError.{StepError}
use Rattle.rewrite_base.specs.declared.error.StepError.TheVariants.{Rule, Memory}

-- the second, where the first isn't refused
abbrev pub and_then : {A B : Type 0} → Result A StepError → (A → Result B StepError) → Result B StepError
and_then (Ok x) f = f x
and_then (Err e) f = Err e

-- a rule that isn't broken at an operation
abbrev pub breaks : {A : Type 0} → StepRule → Result A StepError
breaks rule = Err (Rule rule None)

-- a test, and the rule that is broken where it fails
abbrev pub demand : Bool → StepRule → Result (Unit {0}) StepError
demand true rule = Ok tt
demand false rule = breaks rule

-- the refusal is this one, or want of memory
abbrev pub Refuses : {A : Type 0} → StepError → Result A StepError → Type 0
Refuses Memory r = ⊤
Refuses e r = r ≡ Err e

-- the code's answer is that of the definition, unless memory ran out
abbrev pub Agrees : {A : Type 0} → Result A StepError → Result A StepError → Type 0
Agrees (Ok x) r = r ≡ Ok x
Agrees (Err e) r = Refuses e r

-- the same where the code leaves the new state as its answer, and the old one where it refuses
abbrev pub Becomes : {S : Type 0} → S → S → Result (Unit {0}) StepError → Result S StepError → Type 0
Becomes old new (Ok x) r = r ≡ Ok new
Becomes old new (Err e) r = (new ≡ old) × Refuses e r
