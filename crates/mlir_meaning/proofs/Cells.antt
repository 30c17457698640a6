-- Setting one cell of a grid.
use Rattle.std.proofs.Common.{◌≡◌, ℕ, ◌==◌, ◌&&◌, true, List, [], ◌∷◌, get_or, refl, ap, sym, ◌∙◌, arith}
use Rattle.std.specs.Prelude.{◌≢◌, slice_set}
use Rattle.std.proofs.lemmas.Bool.{eqb-true, eq-eqb, and_parts}
use Rattle.std.proofs.lemmas.List.{get_or-set_same, get_or-set_other, length-set}
use Rattle.mlir_meaning.specs.Grids.{Grid, points, place, at, same_point, InBox, IsFull}
use Rattle.mlir_meaning.proofs.Grids.{place_lt, point_at, at-inside}

-- points of one box at one place are one point
pub place_injective : (es p q : List ℕ) → InBox es p → InBox es q → place es p ≡ place es q → p ≡ q
place_injective es p q hp hq e = sym (point_at es p hp) ∙ ap (λ k. get_or (points es) k []) e ∙ point_at es q hq

-- the grid with another element at a point
abbrev pub set_at : Grid → List ℕ → ℕ → Grid
set_at g p x = record { extents = g.extents; cells = slice_set g.cells (place g.extents p) x }

pub at-set_same : (g : Grid) (p : List ℕ) (x : ℕ) → IsFull g → InBox g.extents p → at (set_at g p x) p ≡ x
at-set_same g p x full b = at-inside (set_at g p x) p b ∙ get_or-set_same g.cells (place g.extents p) x 0 (omega (arith, place_lt g.extents p b))

pub at-set_other : (g : Grid) (p q : List ℕ) (x : ℕ) → InBox g.extents p → InBox g.extents q → q ≢ p → at (set_at g p x) q ≡ at g q
at-set_other g p q x hp hq apart =
    at-inside (set_at g p x) q hq
    ∙ get_or-set_other g.cells (place g.extents p) (place g.extents q) x 0 (λ e. apart (place_injective g.extents q p hq hp e))
    ∙ sym (at-inside g q hq)

pub set_at-full : (g : Grid) (p : List ℕ) (x : ℕ) → IsFull g → IsFull (set_at g p x)
set_at-full g p x full = length-set g.cells (place g.extents p) x ∙ full

-- THE TEST
pub same_point-refl : (p : List ℕ) → same_point p p ≡ true
same_point-refl [] = refl
same_point-refl (i ∷ p) = λ j. eq-eqb i i refl j && same_point-refl p j

pub same_point-true : (p q : List ℕ) → same_point p q ≡ true → p ≡ q
same_point-true [] [] h = refl
same_point-true (i ∷ p) (k ∷ q) h =
    let both : ((i == k) ≡ true) × (same_point p q ≡ true) = and_parts (i == k) (same_point p q) h in
    λ j. eqb-true i k both.0 j ∷ same_point-true p q both.1 j
same_point-true [] (k ∷ q) h = cc
same_point-true (i ∷ p) [] h = cc
