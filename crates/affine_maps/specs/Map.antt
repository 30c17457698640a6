-- Which expressions a map may have (Affine manual, "Affine Expressions" and "Affine Maps").
use Rattle.std.specs.Prelude.{ℕ, zero, suc, ◌+◌, ℤ, pos, Bool, true, ◌&&◌, nat_lt, nat_le, IsTrue, List, [], ◌∷◌, ◌++◌}
use Rattle.std.specs.List.{list_all}
use Rattle.mlir_base.specs.Numbers.{is_in_range, is_coefficient}
use Rattle.affine_maps.specs.Shape.{MapShape}
use Rattle.affine_maps.specs.declared.map.Expr.{Expr}

-- the terms name dimensions from `low` on and below `dims`, each at most once and in rising order
abbrev pub terms_fit : ℕ → List (ℕ × ℤ) → ℕ → Bool
terms_fit dims [] low = true
terms_fit dims (t ∷ ts) low = nat_le low t.0 && nat_lt t.0 dims && is_coefficient t.1 && terms_fit dims ts (t.0 + 1)

abbrev pub expr_fits : ℕ → Expr → Bool
expr_fits dims e = is_in_range e.constant && terms_fit dims e.terms 0

abbrev pub map_fits : MapShape → Bool
map_fits m = list_all (expr_fits m.dims) m.results

abbrev pub IsMap : MapShape → Type 0
IsMap m = IsTrue (map_fits m)

-- dimension k alone
abbrev pub dimension : ℕ → Expr
dimension k = record { constant = pos 0; terms = (k, pos 1) ∷ [] }

-- the first n dimensions, in order
abbrev pub dimensions : ℕ → List Expr
dimensions zero = []
dimensions (suc n) = dimensions n ++ dimension n ∷ []

-- (d0, .., d(n-1)) -> (d0, .., d(n-1))
abbrev pub identity_of : ℕ → MapShape
identity_of n = record { dims = n; results = dimensions n }
