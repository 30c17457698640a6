-- Expressions that are one dimension alone.
use Rattle.std.proofs.Common.{◌≡◌, ℕ, ◌+◌, ◌*◌, ◌==◌, ℤ, pos, negsuc, ◌+ℤ◌, ◌*ℤ◌, Bool, true, false, List, [], ◌∷◌, map, get_or, Option, Some, None, refl, ap, ◌∙◌, arith}
use Rattle.std.specs.Prelude.{if◌then◌else◌}
use Rattle.std.specs.Option.{option_map_or}
use Rattle.std.proofs.lemmas.Bool.{eqb-true, false≢true}
use Rattle.std.proofs.lemmas.Option.{none-some, same_Some}
use Rattle.affine_maps.specs.Value.{value_at, weighted_sum, coordinate}
use Rattle.affine_maps.specs.declared.map.Expr.{Expr}
use Rattle.mlir_meaning.specs.Points.{to_nat, is_one, is_zero, lone_dimension, dimension_of}
use Rattle.point_laws.proofs.Tables.{get_or-pos}

if_some : (b : Bool) (o : Option ℕ) (d : ℕ) → (if b then o else None) ≡ Some d → (b ≡ true) × (o ≡ Some d)
if_some true o d h = (refl, h)
if_some false o d h = absurd (none-some d h)

zero_of : (z : ℤ) → is_zero z ≡ true → z ≡ pos 0
zero_of (pos n) h = ap pos (eqb-true n 0 h)
zero_of (negsuc n) h = absurd (false≢true h)

one_of : (z : ℤ) → is_one z ≡ true → z ≡ pos 1
one_of (pos n) h = ap pos (eqb-true n 1 h)
one_of (negsuc n) h = absurd (false≢true h)

lone_terms : (ts : List (ℕ × ℤ)) (d : ℕ) → lone_dimension ts ≡ Some d → ts ≡ (d, pos 1) ∷ []
lone_terms [] d h = absurd (none-some d h)
lone_terms (t ∷ []) d h = let both : (is_one t.1 ≡ true) × (Some t.0 ≡ Some d) = if_some (is_one t.1) (Some t.0) d h in λ j. (same_Some t.0 d both.1 j, one_of t.1 both.0 j) ∷ []
lone_terms (t ∷ u ∷ ts) d h = absurd (none-some d h)

-- dimension d alone
pub lone_parts : (e : Expr) (d : ℕ) → dimension_of e ≡ Some d → (e.constant ≡ pos 0) × (e.terms ≡ (d, pos 1) ∷ [])
lone_parts e d h = let both : (is_zero e.constant ≡ true) × (lone_dimension e.terms ≡ Some d) = if_some (is_zero e.constant) (lone_dimension e.terms) d h in (zero_of e.constant both.0, lone_terms e.terms d both.1)

pub lone_value : (e : Expr) (d : ℕ) (p : List ℕ) → dimension_of e ≡ Some d → to_nat (value_at e (map pos p)) ≡ get_or p d 0
lone_value e d p h =
    let parts : (e.constant ≡ pos 0) × (e.terms ≡ (d, pos 1) ∷ []) = lone_parts e d h in
    let z : 0 + (1 * get_or p d 0 + 0) ≡ get_or p d 0 = omega arith in
    (λ j. to_nat (parts.0 j +ℤ weighted_sum (parts.1 j) (coordinate (map pos p)))) ∙ (λ k. to_nat (pos 0 +ℤ ((pos 1 *ℤ get_or-pos p d k) +ℤ pos 0))) ∙ z

pub selected_some : (o : Option ℕ) (d : ℕ) → option_map_or (λ k. k == d) o false ≡ true → o ≡ Some d
selected_some None d h = absurd (false≢true h)
selected_some (Some k) d h = ap (λ n. Some n) (eqb-true k d h)
