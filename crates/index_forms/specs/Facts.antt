-- Which facts may stand together, read by the normal forms of their forms.
use Rattle.std.specs.Prelude.{ℕ, suc, ◌≡◌, ◌<◌, pos, ◌<ℤ◌, ◌≤ℤ◌, List, [], ◌∷◌, length, map, IsTrue, ⊤}
use Rattle.index_forms.specs.declared.form.Fact.{Fact}
use Rattle.index_forms.specs.declared.form.Fact.TheVariants.{Loop, Least, Extent}
use Rattle.index_forms.specs.Forms.{normal}
use Rattle.index_forms.specs.Limit.{in_limit, IsForm, AreForms}
use Rattle.index_forms.specs.Bounds.{fact_at}

abbrev pub IsFact : ℕ → Fact → Type 0
IsFact n (Loop lower upper step) = IsForm n lower × IsForm n upper × (pos 0 <ℤ step) × IsTrue (in_limit step)
IsFact n (Least terms) = (0 < length terms) × AreForms n terms
IsFact n (Extent most) = (pos 0 ≤ℤ most) × IsTrue (in_limit most)

abbrev pub AreFacts : List Fact → Type 0
AreFacts facts = (k : ℕ) → k < length facts → IsFact k (fact_at facts k)

abbrev pub normal_fact : Fact → Fact
normal_fact (Loop lower upper step) = Loop (normal lower) (normal upper) step
normal_fact (Least terms) = Least (map normal terms)
normal_fact (Extent most) = Extent most

abbrev pub normal_facts : List Fact → List Fact
normal_facts facts = map normal_fact facts

-- each fact, the first one that of the n-th atom, speaks of earlier atoms alone
abbrev pub FactsFrom : ℕ → List Fact → Type 0
FactsFrom n [] = ⊤
FactsFrom n (f ∷ fs) = IsFact n f × FactsFrom (suc n) fs

-- two minima of the same forms would be one atom
abbrev pub Differ : Fact → Fact → Type 0
Differ (Least a) (Least b) = ¬ (a ≡ b)
Differ (Least a) (Loop lower upper step) = ⊤
Differ (Least a) (Extent most) = ⊤
Differ (Loop lower upper step) g = ⊤
Differ (Extent most) g = ⊤

abbrev pub AllDiffer : Fact → List Fact → Type 0
AllDiffer f [] = ⊤
AllDiffer f (g ∷ gs) = Differ f g × AllDiffer f gs

abbrev pub Distinct : List Fact → Type 0
Distinct [] = ⊤
Distinct (f ∷ fs) = AllDiffer f fs × Distinct fs

abbrev pub AreKnown : List Fact → Type 0
AreKnown facts = FactsFrom 0 (normal_facts facts) × Distinct (normal_facts facts)

-- the normal forms of facts that may stand together
abbrev pub AreNormal : List Fact → Type 0
AreNormal facts = AreKnown facts × (normal_facts facts ≡ facts)
