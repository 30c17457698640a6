-- The value of an expression and of a map at a point (Affine manual, "Affine Expressions" and "Affine Maps").
use Rattle.std.specs.Prelude.{ℕ, ℤ, pos, ◌+ℤ◌, ◌*ℤ◌, List, [], ◌∷◌, map, slice_index_or, Bool, nat_le, unsigned_abs, ◌^◌}
use Rattle.affine_maps.specs.Shape.{MapShape}
use Rattle.affine_maps.specs.declared.map.Expr.{Expr}

-- a point is the list of its coordinates
abbrev pub coordinate : List ℤ → ℕ → ℤ
coordinate point k = slice_index_or point k (pos 0)

-- within plus and minus 2^20
abbrev pub is_coordinate : ℤ → Bool
is_coordinate z = nat_le (unsigned_abs z) (2 ^ 20)

-- the sum, over the terms, of the coefficient times the number of the dimension
abbrev pub weighted_sum : List (ℕ × ℤ) → (ℕ → ℤ) → ℤ
weighted_sum [] numbers = pos 0
weighted_sum (t ∷ ts) numbers = (t.1 *ℤ numbers t.0) +ℤ weighted_sum ts numbers

abbrev pub value_at : Expr → List ℤ → ℤ
value_at e point = e.constant +ℤ weighted_sum e.terms (coordinate point)

abbrev pub map_value : MapShape → List ℤ → List ℤ
map_value m point = map (λ e. value_at e point) m.results
