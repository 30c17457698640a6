-- Affine maps at points, and maps whose results are dimensions (Affine manual, "Affine Maps").
use Rattle.std.specs.Prelude.{ℕ, ◌+◌, ◌==◌, ℤ, pos, negsuc, Bool, false, List, [], ◌∷◌, map, Option, Some, None, if◌then◌else◌}
use Rattle.std.specs.List.{list_any}
use Rattle.std.specs.Option.{option_map_or}
use Rattle.affine_maps.specs.Shape.{MapShape}
use Rattle.affine_maps.specs.Value.{map_value}
use Rattle.affine_maps.specs.Map.{dimension}
use Rattle.affine_maps.specs.declared.map.Expr.{Expr}

-- a number as a coordinate, an offset or a size; one below 0 counts as 0
abbrev pub to_nat : ℤ → ℕ
to_nat (pos n) = n
to_nat (negsuc n) = 0

-- the map's value at a point
abbrev pub map_point : MapShape → List ℕ → List ℕ
map_point m p = map to_nat (map_value m (map pos p))

abbrev pub is_one : ℤ → Bool
is_one (pos n) = n == 1
is_one (negsuc n) = false

abbrev pub is_zero : ℤ → Bool
is_zero (pos n) = n == 0
is_zero (negsuc n) = false

-- the dimension of a lone term with the coefficient 1
abbrev pub lone_dimension : List (ℕ × ℤ) → Option ℕ
lone_dimension [] = None
lone_dimension (t ∷ []) = if is_one t.1 then Some t.0 else None
lone_dimension (t ∷ u ∷ ts) = None

-- the dimension that an expression is alone
abbrev pub dimension_of : Expr → Option ℕ
dimension_of e = if is_zero e.constant then lone_dimension e.terms else None

-- the expression is dimension d alone
abbrev pub selects : ℕ → Expr → Bool
selects d e = option_map_or (λ k. k == d) (dimension_of e) false

-- whether a list of numbers has this one
abbrev pub has : List ℕ → ℕ → Bool
has ns n = list_any (λ m. m == n) ns

-- what stands at the axes that aren't named, in order; `axis` is the number of the first
abbrev pub kept : {A : Type 0} → List ℕ → ℕ → List A → List A
kept named axis [] = []
kept named axis (x ∷ xs) = if has named axis then kept named (axis + 1) xs else x ∷ kept named (axis + 1) xs

-- the place of the first axis of this number, counted from `place`; the length where it isn't there
abbrev pub place_of : ℕ → ℕ → List ℕ → ℕ
place_of axis place [] = place
place_of axis place (n ∷ ns) = if n == axis then place else place_of axis (place + 1) ns

-- the map to these dimensions
abbrev pub select_map : ℕ → List ℕ → MapShape
select_map dims ds = record { dims = dims; results = map dimension ds }
