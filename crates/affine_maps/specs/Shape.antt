-- The data of an affine map.
use Rattle.std.specs.Prelude.{ℕ, ℤ, List, refl}
use Rattle.std.specs.Coded.{Coded, code_by, coded×, coded_ℕ, coded_ℤ, coded_list}
use Rattle.affine_maps.specs.declared.map.Expr.{Expr}

pub record MapShape : Type 0 where
  pub dims : ℕ
  pub results : List Expr

-- how the logic stores an expression and a map
abbrev pub expr_code : Coded Expr
expr_code = code_by (ℤ × List (ℕ × ℤ)) (coded× coded_ℤ (coded_list (coded× coded_ℕ coded_ℤ)))
    (λ e. (e.constant, e.terms)) (λ p. record { constant = p.0; terms = p.1 }) (λ _. refl)

abbrev pub map_code : Coded MapShape
map_code = code_by (ℕ × List Expr) (coded× coded_ℕ (coded_list expr_code)) (λ e. (e.dims, e.results)) (λ p. record { dims = p.0; results = p.1 }) (λ _. refl)
