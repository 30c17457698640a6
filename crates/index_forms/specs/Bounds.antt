-- The bounds that follow from facts by elimination, the greatest atom first.
use Rattle.std.specs.Prelude.{ℕ, zero, suc, ◌+◌, ◌==◌, ◌&&◌, nat_le, Bool, true, false, ℤ, pos, negsuc, neg_ℤ, ◌+ℤ◌, ◌-ℤ◌, ◌*ℤ◌, int_lt, int_div, List, [], ◌∷◌, length, slice_index_or, Option, Some, None, if◌then◌else◌}
use Rattle.std.specs.Int.{int_min, int_max}
use Rattle.std.specs.List.{fold}
use Rattle.index_forms.specs.declared.form.LinForm.{LinForm}
use Rattle.index_forms.specs.declared.form.Fact.{Fact}
use Rattle.index_forms.specs.declared.form.Fact.TheVariants.{Loop, Least, Extent}
use Rattle.index_forms.specs.Forms.{form, number, scaled, plus, is_number}
use Rattle.index_forms.specs.Limit.{checked, within}

-- the last value of a loop's variable, or a form that none of them passes
abbrev pub loop_end : LinForm → LinForm → ℤ → LinForm
loop_end lower upper step =
    form (if is_number lower && is_number upper && int_lt lower.constant upper.constant
    then lower.constant +ℤ int_div (upper.constant -ℤ lower.constant -ℤ pos 1) step *ℤ step
    else upper.constant -ℤ pos 1) upper.terms

-- the forms that may take the place of an atom with the coefficient `a`
abbrev pub choices : Fact → ℤ → List LinForm
choices (Loop lower upper step) a = (if int_lt (pos 0) a then loop_end lower upper step else lower) ∷ []
choices (Least terms) a = terms
choices (Extent most) a = number (if int_lt (pos 0) a then most else pos 0) ∷ []

abbrev pub fact_at : List Fact → ℕ → Fact
fact_at facts k = slice_index_or facts k (Extent (pos 0))

-- the least where one is enough, and the greatest where all are needed
abbrev pub join : Bool → Option ℤ → Option ℤ → Option ℤ
join true None y = y
join true (Some a) None = Some a
join true (Some a) (Some b) = Some (int_min a b)
join false None y = None
join false (Some a) None = None
join false (Some a) (Some b) = Some (int_max a b)

abbrev pub combined : Bool → List (Option ℤ) → Option ℤ
combined one [] = None
combined one (x ∷ xs) = fold (join one) x xs

abbrev pub bounds_of : (LinForm → Option ℤ) → ℤ → List (ℕ × ℤ) → ℤ → List LinForm → List (Option ℤ)
bounds_of rest c ts a [] = []
bounds_of rest c ts a (g ∷ gs) = rest (plus (form c ts) a g) ∷ bounds_of rest c ts a gs

abbrev pub met_of : (LinForm → ℕ) → ℤ → List (ℕ × ℤ) → ℤ → List LinForm → ℕ
met_of rest c ts a [] = 0
met_of rest c ts a (g ∷ gs) = rest (plus (form c ts) a g) + met_of rest c ts a gs

-- an upper bound of a form whose atoms are below `n`
abbrev pub bound_step : (LinForm → Option ℤ) → Fact → ℕ → ℤ → List (ℕ × ℤ) → Option ℤ
bound_step rest fact k c [] = rest (form c [])
bound_step rest fact k c (t ∷ ts) =
    if t.0 == k then combined (int_lt (pos 0) t.1) (bounds_of rest c ts t.1 (choices fact t.1)) else rest (form c (t ∷ ts))

abbrev pub ended : ℤ → List (ℕ × ℤ) → Option ℤ
ended c [] = Some c
ended c (t ∷ ts) = None

unfoldable pub bound : List Fact → ℕ → LinForm → Option ℤ
bound facts zero f = if within f then ended f.constant f.terms else None
bound facts (suc k) f = if within f then bound_step (bound facts k) (fact_at facts k) k f.constant f.terms else None

-- how many forms the elimination meets
abbrev pub met_step : (LinForm → ℕ) → Fact → ℕ → ℤ → List (ℕ × ℤ) → ℕ
met_step rest fact k c [] = rest (form c [])
met_step rest fact k c (t ∷ ts) =
    if t.0 == k then 1 + met_of rest c ts t.1 (choices fact t.1) else rest (form c (t ∷ ts))

unfoldable pub forms_met : List Fact → ℕ → LinForm → ℕ
forms_met facts zero f = 1
forms_met facts (suc k) f = if within f then met_step (forms_met facts k) (fact_at facts k) k f.constant f.terms else 1

abbrev pub upper_of : List Fact → LinForm → Option ℤ
upper_of facts f = if nat_le (forms_met facts (length facts) f) 4096 then bound facts (length facts) f else None

abbrev pub negated : LinForm → LinForm
negated f = form (neg_ℤ f.constant) (scaled (negsuc 0) f.terms)

abbrev pub negated_bound : Option ℤ → Option ℤ
negated_bound None = None
negated_bound (Some b) = checked (pos 0 -ℤ b)

abbrev pub lower_of : List Fact → LinForm → Option ℤ
lower_of facts f = negated_bound (upper_of facts (negated f))
