-- Values of the atoms that agree with the facts, and what a bound promises of them.
use Rattle.std.specs.Prelude.{ℕ, ◌<◌, ℤ, pos, ◌+ℤ◌, ◌*ℤ◌, ◌<ℤ◌, ◌≤ℤ◌, ◌≡◌, List, [], ◌∷◌, length, Option, Some, None, ⊤, ◌⊎◌}
use Rattle.index_forms.specs.declared.form.LinForm.{LinForm}
use Rattle.index_forms.specs.declared.form.Fact.{Fact}
use Rattle.index_forms.specs.declared.form.Fact.TheVariants.{Loop, Least, Extent}
use Rattle.index_forms.specs.Forms.{value_of}
use Rattle.index_forms.specs.Bounds.{fact_at}

abbrev pub AtMost : ℤ → List LinForm → (ℕ → ℤ) → Type 0
AtMost v [] env = ⊤
AtMost v (g ∷ gs) env = (v ≤ℤ value_of g env) × AtMost v gs env

abbrev pub OneOf : ℤ → List LinForm → (ℕ → ℤ) → Type 0
OneOf v [] env = ⊥
OneOf v (g ∷ gs) env = (v ≡ value_of g env) ⊎ OneOf v gs env

abbrev pub Holds : Fact → ℤ → (ℕ → ℤ) → Type 0
Holds (Loop lower upper step) v env = ((j : ℕ) × (v ≡ value_of lower env +ℤ pos j *ℤ step)) × (v <ℤ value_of upper env)
Holds (Least terms) v env = AtMost v terms env × OneOf v terms env
Holds (Extent most) v env = (pos 0 ≤ℤ v) × (v ≤ℤ most)

abbrev pub Agrees : List Fact → (ℕ → ℤ) → Type 0
Agrees facts env = (k : ℕ) → k < length facts → Holds (fact_at facts k) (env k) env

-- a number that no value of the form passes, and one that each reaches, whatever values agree with the facts
abbrev pub IsAbove : List Fact → LinForm → Option ℤ → Type 0
IsAbove facts f None = ⊤
IsAbove facts f (Some b) = (env : ℕ → ℤ) → Agrees facts env → value_of f env ≤ℤ b

abbrev pub IsBelow : List Fact → LinForm → Option ℤ → Type 0
IsBelow facts f None = ⊤
IsBelow facts f (Some b) = (env : ℕ → ℤ) → Agrees facts env → b ≤ℤ value_of f env
