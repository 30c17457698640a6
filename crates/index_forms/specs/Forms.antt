-- Linear forms: their values, normal forms and sums.
use Rattle.std.specs.Prelude.{ℕ, zero, suc, ◌<◌, ◌==◌, max, Bool, true, false, ℤ, pos, negsuc, ◌+ℤ◌, ◌*ℤ◌, List, [], ◌∷◌, if◌then◌else◌, ⊤}
use Rattle.index_forms.specs.declared.form.LinForm.{LinForm}

-- VALUES
abbrev pub terms_value : List (ℕ × ℤ) → (ℕ → ℤ) → ℤ
terms_value [] env = pos 0
terms_value (t ∷ ts) env = (t.1 *ℤ env t.0) +ℤ terms_value ts env

abbrev pub value_of : LinForm → (ℕ → ℤ) → ℤ
value_of f env = f.constant +ℤ terms_value f.terms env

abbrev pub form : ℤ → List (ℕ × ℤ) → LinForm
form c ts = record { constant = c; terms = ts }

abbrev pub number : ℤ → LinForm
number c = record { constant = c; terms = [] }

-- TERMS
-- a coefficient 0 has no term
abbrev pub keep : ℕ → ℤ → List (ℕ × ℤ) → List (ℕ × ℤ)
keep k (pos zero) ts = ts
keep k (pos (suc n)) ts = (k, pos (suc n)) ∷ ts
keep k (negsuc n) ts = (k, negsuc n) ∷ ts

abbrev pub scaled : ℤ → List (ℕ × ℤ) → List (ℕ × ℤ)
scaled c [] = []
scaled c (t ∷ ts) = (t.0, c *ℤ t.1) ∷ scaled c ts

-- NORMAL FORMS: a term for each atom, from the greatest down, with the sum of its coefficients, and none with the coefficient 0
abbrev pub coefficient : List (ℕ × ℤ) → ℕ → ℤ
coefficient [] k = pos 0
coefficient (t ∷ ts) k = (if t.0 == k then t.1 else pos 0) +ℤ coefficient ts k

-- each atom of the terms is below it
abbrev pub top : List (ℕ × ℤ) → ℕ
top [] = 0
top (t ∷ ts) = max (suc t.0) (top ts)

-- the terms of the atoms below `n`, with these coefficients
unfoldable pub terms_below : (ℕ → ℤ) → ℕ → List (ℕ × ℤ)
terms_below coefficients zero = []
terms_below coefficients (suc n) = keep n (coefficients n) (terms_below coefficients n)

abbrev pub collected : List (ℕ × ℤ) → ℕ → List (ℕ × ℤ)
collected ts n = terms_below (coefficient ts) n

abbrev pub normal : LinForm → LinForm
normal f = form f.constant (collected f.terms (top f.terms))

-- SUMS: in f + c * g each atom has the coefficient in f, and c times that in g
abbrev pub sum_coefficient : List (ℕ × ℤ) → ℤ → List (ℕ × ℤ) → ℕ → ℤ
sum_coefficient ts c gs k = coefficient ts k +ℤ c *ℤ coefficient gs k

unfoldable pub sum_terms : List (ℕ × ℤ) → ℤ → List (ℕ × ℤ) → List (ℕ × ℤ)
sum_terms ts c gs = terms_below (sum_coefficient ts c gs) (max (top ts) (top gs))

abbrev pub plus : LinForm → ℤ → LinForm → LinForm
plus f c g = form (f.constant +ℤ c *ℤ g.constant) (sum_terms f.terms c g.terms)

-- atoms fall, below `n`
abbrev pub Falls : ℕ → List (ℕ × ℤ) → Type 0
Falls n [] = ⊤
Falls n (t ∷ ts) = (t.0 < n) × Falls t.0 ts

abbrev pub is_nil : List (ℕ × ℤ) → Bool
is_nil [] = true
is_nil (t ∷ ts) = false

abbrev pub is_number : LinForm → Bool
is_number f = is_nil f.terms
