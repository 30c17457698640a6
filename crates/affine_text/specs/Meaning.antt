-- What the text of a map means: linear forms with their terms collected, or the first fault of its expressions
-- (Affine manual, "Affine Expressions": one side of a product is a constant).
use Rattle.std.specs.Prelude.{ℕ, Bool, true, false, ◌&&◌, pos, List, [], ◌∷◌, ◌++◌, length, if◌then◌else◌, unwrap_or, Result, Ok, Err}
use Rattle.std.specs.Str.Parse.{digits_value}
use Rattle.affine_maps.specs.Shape.{MapShape}
use Rattle.affine_maps.specs.declared.map.Expr.{Expr}
use Rattle.affine_text.specs.declared.reading.fault.MapError.{MapError}
use Rattle.affine_text.specs.declared.reading.fault.MapError.TheVariants.{Form, Range}
use Rattle.affine_text.specs.Grammar.{Factor, Name, Number, Negative, Group, Factors, NoFactor, Times, Products, NoProduct, Plus, Minus, Sum, Starts, factor_end, factors_end, dimension_of, Items, Empty, From, MapTree, names_in}
use Rattle.affine_text.specs.Collected.{constant_form, dimension_form, has_terms, form_in_range, plus_form, negative_form, times_form}

-- first the one, and then, unless it is at fault, what is made of it
abbrev pub and_then : {A B : Type 0} → Result A MapError → (A → Result B MapError) → Result B MapError
and_then (Ok x) next = next x
and_then (Err fault) next = Err fault

-- a subexpression whose numbers leave plus and minus 2^31 is at fault at its last token
unfoldable pub in_range : ℕ → Expr → Result Expr MapError
in_range at e = if form_in_range e then Ok e else Err (Range at)

-- a product both of whose sides have a term is no linear form
unfoldable pub product_of : ℕ → Expr → Expr → Result Expr MapError
product_of at e f = if has_terms e && has_terms f then Err (Form at) else in_range at (times_form e f)

-- the sum of two forms, or their difference
unfoldable pub sum_of : Bool → ℕ → Expr → Expr → Result Expr MapError
sum_of subtracts at e f = in_range at (plus_form e (if subtracts then negative_form f else f))

abbrev pub negative_of : Expr → Result Expr MapError
negative_of e = Ok (negative_form e)

abbrev pub name_form : List (List ℕ) → List ℕ → Expr
name_form names name = dimension_form (unwrap_or (dimension_of names name) 0)

-- a number above 2^31 is at fault
abbrev pub number_form : ℕ → List ℕ → Result Expr MapError
number_form at digits = in_range at (constant_form (pos (digits_value 10 digits)))

-- a sum begins at 0, and a product at 1
abbrev pub zero_form : Expr
zero_form = constant_form (pos 0)

abbrev pub one_form : Expr
one_form = constant_form (pos 1)

unfoldable mutual
  pub factor_form : Factor → List (List ℕ) → Result Expr MapError
  factor_form (Name at text) names = Ok (name_form names text)
  factor_form (Number at digits) names = number_form at digits
  factor_form (Negative at f) names = and_then (factor_form f names) negative_of
  factor_form (Group at s close) names = sum_form s names

  -- the product of this form and the other factors, from left to right
  pub factors_form : Factors → List (List ℕ) → Expr → Result Expr MapError
  factors_form NoFactor names e = Ok e
  factors_form (Times at f fs) names e = and_then (factor_form f names) (λ g. and_then (product_of (factor_end f) e g) (factors_form fs names))

  -- the sum of this form and the other products, from left to right
  pub products_form : Products → List (List ℕ) → Expr → Result Expr MapError
  products_form NoProduct names e = Ok e
  products_form (Plus at f fs ps) names e =
      and_then (factor_form f names) (λ g. and_then (product_of (factor_end f) one_form g) (λ h. and_then (factors_form fs names h) (λ q. and_then (sum_of false (factors_end fs (factor_end f)) e q) (products_form ps names))))
  products_form (Minus at f fs ps) names e =
      and_then (factor_form f names) (λ g. and_then (product_of (factor_end f) one_form g) (λ h. and_then (factors_form fs names h) (λ q. and_then (sum_of true (factors_end fs (factor_end f)) e q) (products_form ps names))))

  pub sum_form : Sum → List (List ℕ) → Result Expr MapError
  sum_form (Starts f fs ps) names =
      and_then (factor_form f names) (λ g. and_then (product_of (factor_end f) one_form g) (λ h. and_then (factors_form fs names h) (λ q. and_then (sum_of false (factors_end fs (factor_end f)) zero_form q) (products_form ps names))))

-- the map of these results and of those that follow
abbrev pub other_results : List (ℕ × Sum) → List (List ℕ) → List Expr → Result MapShape MapError
other_results [] names done = Ok (record { dims = length names; results = done })
other_results (s ∷ ss) names done = and_then (sum_form s.1 names) (λ e. other_results ss names (done ++ e ∷ []))

abbrev pub results_form : Items Sum → List (List ℕ) → Result MapShape MapError
results_form Empty names = Ok (record { dims = length names; results = [] })
results_form (From s ss) names = and_then (sum_form s names) (λ e. other_results ss names (e ∷ []))

-- the map that the text means, or the first fault of its expressions
abbrev pub meaning : MapTree → Result MapShape MapError
meaning x = results_form x.results (names_in x)
