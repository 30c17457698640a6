-- The composition of two maps (Affine manual, "Affine Maps"): the map whose value at a point is the outer map's value at the
-- inner map's value there.
use Rattle.std.specs.Prelude.{ℕ, zero, suc, ◌==◌, ◌&&◌, Bool, ℤ, pos, negsuc, ◌+ℤ◌, List, [], ◌∷◌, map, slice_index_or, if◌then◌else◌}
use Rattle.std.specs.List.{list_all}
use Rattle.mlir_base.specs.Numbers.{is_in_range}
use Rattle.affine_maps.specs.Shape.{MapShape}
use Rattle.affine_maps.specs.Value.{weighted_sum}
use Rattle.affine_maps.specs.declared.map.Expr.{Expr}

-- the sum of a dimension's coefficients
abbrev pub coefficient : List (ℕ × ℤ) → ℕ → ℤ
coefficient [] d = pos 0
coefficient (t ∷ ts) d = (if t.0 == d then t.1 else pos 0) +ℤ coefficient ts d

-- a coefficient 0 has no term
abbrev pub with_term : ℕ → ℤ → List (ℕ × ℤ) → List (ℕ × ℤ)
with_term d (pos zero) ts = ts
with_term d (pos (suc n)) ts = (d, pos (suc n)) ∷ ts
with_term d (negsuc n) ts = (d, negsuc n) ∷ ts

-- the terms with these coefficients of n dimensions from `low` on, in rising order
unfoldable pub terms_from : (ℕ → ℤ) → ℕ → ℕ → List (ℕ × ℤ)
terms_from coefficients low zero = []
terms_from coefficients low (suc n) = with_term low (coefficients low) (terms_from coefficients (suc low) n)

-- the result that takes the place of dimension k of the outer map
abbrev pub result_at : List Expr → ℕ → Expr
result_at results k = slice_index_or results k (record { constant = pos 0; terms = [] })

abbrev pub composed_constant : List Expr → Expr → ℤ
composed_constant inner e = e.constant +ℤ weighted_sum e.terms (λ k. (result_at inner k).constant)

abbrev pub composed_coefficient : List Expr → Expr → ℕ → ℤ
composed_coefficient inner e d = weighted_sum e.terms (λ k. coefficient (result_at inner k).terms d)

abbrev pub composed_expr : ℕ → List Expr → Expr → Expr
composed_expr dims inner e = record { constant = composed_constant inner e; terms = terms_from (composed_coefficient inner e) 0 dims }

abbrev pub composed : MapShape → MapShape → MapShape
composed outer inner = record { dims = inner.dims; results = map (composed_expr inner.dims inner.results) outer.results }

-- no number lies beyond plus and minus 2^31
abbrev pub has_small_numbers : Expr → Bool
has_small_numbers e = is_in_range e.constant && list_all (λ t. is_in_range t.1) e.terms
