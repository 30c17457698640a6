-- Maps that select dimensions (MLIR, "AffineMap": a projected permutation is a subset of the dimensions, in any order).
use Rattle.std.specs.Prelude.{ℕ, ◌≡◌, ◌==◌, ◌&&◌, ◌||◌, not, is_some, Bool, false, pos, ℤ, List, [], ◌∷◌, map, Option, Some, None, if◌then◌else◌}
use Rattle.std.specs.Ordering.{int_eq}
use Rattle.std.specs.List.{list_all, list_any, filter_map}
use Rattle.affine_maps.specs.Shape.{MapShape}
use Rattle.affine_maps.specs.Map.{dimension}
use Rattle.affine_maps.specs.declared.map.Expr.{Expr}

-- the dimension of a lone term with the coefficient 1
abbrev pub dimension_of_terms : List (ℕ × ℤ) → Option ℕ
dimension_of_terms [] = None
dimension_of_terms (t ∷ []) = if int_eq t.1 (pos 1) then Some t.0 else None
dimension_of_terms (t ∷ u ∷ ts) = None

-- the dimension that an expression is alone
abbrev pub dimension_of : Expr → Option ℕ
dimension_of e = if int_eq e.constant (pos 0) then dimension_of_terms e.terms else None

-- the dimensions that a map's results are alone
abbrev pub dimensions_of : List Expr → List ℕ
dimensions_of = filter_map dimension_of

abbrev pub is_among : ℕ → List ℕ → Bool
is_among n ns = list_any (λ m. m == n) ns

-- whether a number stands twice
abbrev pub repeats : List ℕ → Bool
repeats [] = false
repeats (n ∷ ns) = is_among n ns || repeats ns

-- each result is one dimension alone, and none repeats
abbrev pub is_projected_permutation : MapShape → Bool
is_projected_permutation m = list_all (λ e. is_some (dimension_of e)) m.results && not (repeats (dimensions_of m.results))

-- the results are dimensions, and none stands twice
abbrev pub IsProjectedPermutation : MapShape → Type 0
IsProjectedPermutation m = (ds : List ℕ) × (m.results ≡ map dimension ds) × (repeats ds ≡ false)
