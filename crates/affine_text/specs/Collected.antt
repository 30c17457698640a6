-- Linear forms with their terms collected: each dimension at most once, in rising order, and no coefficient 0.
use Rattle.std.specs.Prelude.{ℕ, Bool, true, false, ◌&&◌, ℤ, pos, negsuc, ◌+ℤ◌, ◌*ℤ◌, nat_eq, unsigned_abs, List, [], ◌∷◌, map, if◌then◌else◌, unwrap_or}
use Rattle.std.specs.Map.{lookup, remove_entry}
use Rattle.std.specs.Ordering.{nat_cmp}
use Rattle.std.specs.BTreeMap.{insert_entry, is_at}
use Rattle.mlir_base.specs.Numbers.{is_in_range}
use Rattle.affine_maps.specs.declared.map.Expr.{Expr}

abbrev pub is_zero : ℤ → Bool
is_zero n = nat_eq (unsigned_abs n) 0

abbrev pub constant_form : ℤ → Expr
constant_form n = record { constant = n; terms = [] }

abbrev pub dimension_form : ℕ → Expr
dimension_form k = record { constant = pos 0; terms = (k, pos 1) ∷ [] }

abbrev pub are_some : List (ℕ × ℤ) → Bool
are_some [] = false
are_some (t ∷ ts) = true

abbrev pub has_terms : Expr → Bool
has_terms e = are_some e.terms

abbrev pub terms_in_range : List (ℕ × ℤ) → Bool
terms_in_range [] = true
terms_in_range (t ∷ ts) = is_in_range t.1 && terms_in_range ts

-- all its numbers lie within plus and minus 2^31
abbrev pub form_in_range : Expr → Bool
form_in_range e = is_in_range e.constant && terms_in_range e.terms

-- the coefficient of a dimension, which is 0 where there is no term
unfoldable pub coefficient : List (ℕ × ℤ) → ℕ → ℤ
coefficient ts k = unwrap_or (lookup (is_at (nat_cmp k)) ts) (pos 0)

-- the dimension's coefficient becomes c; one of 0 is no term
unfoldable pub with_coefficient : List (ℕ × ℤ) → ℕ → ℤ → List (ℕ × ℤ)
with_coefficient ts k c = if is_zero c then remove_entry (is_at (nat_cmp k)) ts else insert_entry nat_cmp ts k c

unfoldable pub plus_term : List (ℕ × ℤ) → ℕ → ℤ → List (ℕ × ℤ)
plus_term ts k c = with_coefficient ts k (coefficient ts k +ℤ c)

unfoldable pub plus_terms : List (ℕ × ℤ) → List (ℕ × ℤ) → List (ℕ × ℤ)
plus_terms ts [] = ts
plus_terms ts (u ∷ us) = plus_terms (plus_term ts u.0 u.1) us

abbrev pub plus_form : Expr → Expr → Expr
plus_form e f = record { constant = e.constant +ℤ f.constant; terms = plus_terms e.terms f.terms }

-- each number times n
unfoldable pub scaled : ℤ → Expr → Expr
scaled n e = if is_zero n then constant_form (pos 0) else record { constant = n *ℤ e.constant; terms = map (λ t. (t.0, n *ℤ t.1)) e.terms }

abbrev pub negative_form : Expr → Expr
negative_form e = scaled (negsuc 0) e

-- the product of two forms of which one has no term
abbrev pub times_form : Expr → Expr → Expr
times_form e f = if has_terms f then scaled e.constant f else scaled f.constant e
