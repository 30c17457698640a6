-- A linear form in a multiple, by the greatest magnitude of the form's numbers.
use Rattle.std.specs.Prelude.{◌≡◌, ℕ, ◌+◌, ◌*◌, ◌^◌, ◌<◌, ◌≤◌, Bool, true, false, ◌&&◌, ℤ, nat_le, ◌*ℤ◌, ◌+ℤ◌, unsigned_abs, max, List, [], ◌∷◌, map, Result, Ok, Err}
use Rattle.mlir_base.specs.Numbers.{is_in_range, is_coefficient}
use Rattle.mlir_base.specs.declared.memory.Memory.{Memory}
use Rattle.affine_maps.specs.declared.map.Expr.{Expr}
use Rattle.affine_text.specs.declared.reading.multiple.Multiple.{Multiple}
use Rattle.affine_text.specs.declared.reading.fault.MapError.TheVariants as faults
use Rattle.affine_text.specs.declared.reading.fault.NoProduct.{NoProduct}
use Rattle.affine_text.specs.declared.reading.fault.NoProduct.TheVariants as products
use Rattle.affine_text.specs.Collected.{scaled, has_terms, form_in_range, terms_in_range, coefficient, plus_term, plus_terms, plus_form}
use Rattle.affine_text.specs.Meaning.{product_of, one_form}

abbrev pub greatest_from : ℕ → List (ℕ × ℤ) → ℕ
greatest_from n [] = n
greatest_from n (t ∷ ts) = greatest_from (max n (unsigned_abs t.1)) ts

abbrev pub greatest_of : Expr → ℕ
greatest_of e = greatest_from (unsigned_abs e.constant) e.terms

-- the dimensions stand in rising order, from `low` on
abbrev pub ascends : ℕ → List (ℕ × ℤ) → Bool
ascends low [] = true
ascends low (t ∷ ts) = nat_le low t.0 && ascends (t.0 + 1) ts

-- each number times n
abbrev pub times_terms : ℤ → List (ℕ × ℤ) → List (ℕ × ℤ)
times_terms n ts = map (λ t. (t.0, n *ℤ t.1)) ts

abbrev pub are_coefficients : List (ℕ × ℤ) → Bool
are_coefficients [] = true
are_coefficients (t ∷ ts) = is_coefficient t.1 && are_coefficients ts

-- its numbers are in range, no coefficient is 0, and the dimensions stand in rising order
abbrev pub is_sum : Expr → Bool
is_sum e = is_in_range e.constant && are_coefficients e.terms

abbrev pub is_collected : Expr → Bool
is_collected e = is_sum e && ascends 0 e.terms

-- the form that a multiple is
abbrev pub value_of : Multiple → Expr
value_of m = scaled m.by m.form

-- the form is 1 or has terms, and its multiple is in range
pub record IsMultiple (m : Multiple) : Type 0 where
  pub most : m.greatest ≡ greatest_of m.form
  pub some : 0 < m.greatest
  pub few : m.greatest ≤ 2 ^ 31
  pub in_range : unsigned_abs m.by * m.greatest ≤ 2 ^ 31
  pub one : has_terms m.form ≡ false → m.form ≡ one_form
  pub ordered : ascends 0 m.form.terms ≡ true

abbrev pub multiple_of : ℤ → Multiple → Multiple
multiple_of by m = record { by = by; form = m.form; greatest = m.greatest }

-- what multiplying answers
abbrev pub Multiplies : Expr → Expr → Result Expr NoProduct → Type 0
Multiplies e f (Ok m) = (at : ℕ) → product_of at e f ≡ Ok m
Multiplies e f (Err products.Form) = (at : ℕ) → product_of at e f ≡ Err (faults.Form at)
Multiplies e f (Err products.Range) = (at : ℕ) → product_of at e f ≡ Err (faults.Range at)

-- the same of the multiples
abbrev pub TimesGives : Multiple → Multiple → Result Multiple NoProduct → Type 0
TimesGives m n (Ok r) = IsMultiple r × ((at : ℕ) → product_of at (value_of m) (value_of n) ≡ Ok (value_of r))
TimesGives m n (Err products.Form) = (at : ℕ) → product_of at (value_of m) (value_of n) ≡ Err (faults.Form at)
TimesGives m n (Err products.Range) = (at : ℕ) → product_of at (value_of m) (value_of n) ≡ Err (faults.Range at)

abbrev pub with_constant : Expr → ℤ → Expr
with_constant e c = record { constant = c; terms = e.terms }

abbrev pub with_terms : Expr → List (ℕ × ℤ) → Expr
with_terms e ts = record { constant = e.constant; terms = ts }

-- what adding one term answers, and what the sum is then
abbrev pub AddsTerm : Expr → ℕ → ℤ → Result Bool Memory → Expr → Type 0
AddsTerm e k c (Ok true) sum = sum ≡ with_terms e (plus_term e.terms k c)
AddsTerm e k c (Ok false) sum = is_in_range (coefficient e.terms k +ℤ c) ≡ false
AddsTerm e k c (Err m) sum = Unit {0}

-- the same of several terms
abbrev pub AddsTerms : Expr → List (ℕ × ℤ) → Result Bool Memory → Expr → Type 0
AddsTerms e ts (Ok true) sum = sum ≡ with_terms e (plus_terms e.terms ts)
AddsTerms e ts (Ok false) sum = terms_in_range (plus_terms e.terms ts) ≡ false
AddsTerms e ts (Err m) sum = Unit {0}

-- and of a form
abbrev pub Adds : Expr → Expr → Result Bool Memory → Expr → Type 0
Adds e f (Ok true) sum = (form_in_range (plus_form e f) ≡ true) × (sum ≡ plus_form e f)
Adds e f (Ok false) sum = form_in_range (plus_form e f) ≡ false
Adds e f (Err m) sum = Unit {0}
