-- Values computed apart from this program: of a map at a point, of compositions, and which maps only select dimensions.
use Rattle.std.specs.Prelude.{ℕ, ℤ, pos, negsuc, Bool, true, false, List, [], ◌∷◌}
use Rattle.std.proofs.Common.{◌≡◌, refl}
use Rattle.affine_maps.specs.Compose.{terms_from, composed_expr, has_small_numbers}
use Rattle.affine_maps.specs.Permutation.{is_projected_permutation}
use Rattle.affine_maps.specs.Shape.{MapShape}
use Rattle.affine_maps.specs.Value.{map_value}
use Rattle.affine_maps.specs.declared.map.Expr.{Expr}

abbrev expr : ℤ → List (ℕ × ℤ) → Expr
expr c ts = record { constant = c; terms = ts }

-- (d0, d1) -> (7 + d0 * 3 - d1 * 2, d1)
abbrev example : MapShape
example = record { dims = 2; results = expr (pos 7) ((0, pos 3) ∷ (1, negsuc 1) ∷ []) ∷ expr (pos 0) ((1, pos 1) ∷ []) ∷ [] }

at_origin : map_value example (pos 0 ∷ pos 0 ∷ []) ≡ pos 7 ∷ pos 0 ∷ []
at_origin = refl

at_point : map_value example (pos 4 ∷ pos 9 ∷ []) ≡ pos 1 ∷ pos 9 ∷ []
at_point = refl

at_negative : map_value example (negsuc 4 ∷ pos 1 ∷ []) ≡ negsuc 9 ∷ pos 1 ∷ []
at_negative = refl

-- 1 + d0 * 2 - d1 of d0 + d1 and 3 + d1
collects : composed_expr 2 (expr (pos 0) ((0, pos 1) ∷ (1, pos 1) ∷ []) ∷ expr (pos 3) ((1, pos 1) ∷ []) ∷ []) (expr (pos 1) ((0, pos 2) ∷ (1, negsuc 0) ∷ [])) ≡
    expr (negsuc 1) ((0, pos 2) ∷ (1, pos 1) ∷ [])
unfolding terms_from
collects = refl

-- d0 - d1 of the same number twice
vanishes : composed_expr 2 (expr (pos 5) ((0, pos 2) ∷ []) ∷ expr (pos 5) ((0, pos 2) ∷ []) ∷ []) (expr (pos 0) ((0, pos 1) ∷ (1, negsuc 0) ∷ [])) ≡ expr (pos 0) []
unfolding terms_from
vanishes = refl

greatest : has_small_numbers (composed_expr 2 (expr (pos 0) ((0, pos 2) ∷ []) ∷ []) (expr (pos 0) ((0, pos 1073741824) ∷ []))) ≡ true
unfolding terms_from
greatest = refl

too_great : has_small_numbers (composed_expr 2 (expr (pos 0) ((0, pos 3) ∷ []) ∷ []) (expr (pos 0) ((0, pos 1073741824) ∷ []))) ≡ false
unfolding terms_from
too_great = refl

abbrev pair : List (ℕ × ℤ) → List (ℕ × ℤ) → ℤ → MapShape
pair first second c = record { dims = 3; results = expr (pos 0) first ∷ expr c second ∷ [] }

selects : is_projected_permutation (pair ((2, pos 1) ∷ []) ((0, pos 1) ∷ []) (pos 0)) ≡ true
selects = refl

twice : is_projected_permutation (pair ((1, pos 1) ∷ []) ((1, pos 1) ∷ []) (pos 0)) ≡ false
twice = refl

stretched : is_projected_permutation (pair ((0, pos 2) ∷ []) ((1, pos 1) ∷ []) (pos 0)) ≡ false
stretched = refl

shifted : is_projected_permutation (pair ((0, pos 1) ∷ []) ((1, pos 1) ∷ []) (pos 3)) ≡ false
shifted = refl
