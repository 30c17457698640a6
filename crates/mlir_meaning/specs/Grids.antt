-- Boxes, their points in lexicographic order, and grids: the cells of a tensor or a vector in row-major order
-- (Builtin manual, "RankedTensorType" and "VectorType"). A box is given by its extents, a point by its coordinates.
use Rattle.std.specs.Prelude.{◌≡◌, ℕ, zero, suc, ◌+◌, ◌-◌, ◌*◌, ◌<◌, ◌≤◌, ◌==◌, ◌&&◌, nat_lt, Bool, true, false, List, [], ◌∷◌, map, flat_map, length, slice_index, Option, Some, option_map, option_and_then, if◌then◌else◌, ⊤}
use Rattle.mlir_ir.specs.Shape.{volume}
pub use Rattle.mlir_meaning.specs.declared.values.Grid.{Grid}

-- n numbers, from `first` on
abbrev pub count_up : ℕ → ℕ → List ℕ
count_up first zero = []
count_up first (suc n) = first ∷ count_up (first + 1) n

-- the points of a box, in lexicographic order
abbrev pub points : List ℕ → List (List ℕ)
points [] = [] ∷ []
points (e ∷ es) = flat_map (λ i. map (λ p. i ∷ p) (points es)) (count_up 0 e)

-- the place of a point in row-major order
abbrev pub place : List ℕ → List ℕ → ℕ
place [] p = 0
place (e ∷ es) [] = 0
place (e ∷ es) (i ∷ p) = i * volume es + place es p

-- whether the point lies in the box
abbrev pub is_inside : List ℕ → List ℕ → Bool
is_inside [] [] = true
is_inside (e ∷ es) (i ∷ p) = nat_lt i e && is_inside es p
is_inside _ _ = false

-- what a grid gives at a point outside its box
abbrev pub outside : ℕ
outside = 0

-- the element at a point of the box; at any other no cell is read
abbrev pub at : Grid → List ℕ → ℕ
at g p = if is_inside g.extents p then slice_index g.cells (place g.extents p) else outside

-- the grid with this element at each point
abbrev pub tabulate : List ℕ → (List ℕ → ℕ) → Grid
tabulate es f = record { extents = es; cells = map f (points es) }

-- all values, if each is there
abbrev pub all_some : {A : Type 0} → List (Option A) → Option (List A)
all_some [] = Some []
all_some (x ∷ xs) = option_and_then (λ a. option_map (λ rest. a ∷ rest) (all_some xs)) x

-- the grid with this element at each point, if each is there
abbrev pub settled : List ℕ → (List ℕ → Option ℕ) → Option Grid
settled es f = option_map (λ cells. record { extents = es; cells = cells }) (all_some (map f (points es)))

-- one cell for each point
abbrev pub IsFull : Grid → Type 0
IsFull g = length g.cells ≡ volume g.extents

abbrev pub same_point : List ℕ → List ℕ → Bool
same_point [] [] = true
same_point (i ∷ p) (j ∷ q) = (i == j) && same_point p q
same_point _ _ = false

-- coordinate by coordinate
abbrev pub plus : List ℕ → List ℕ → List ℕ
plus [] q = []
plus (i ∷ p) [] = i ∷ p
plus (i ∷ p) (j ∷ q) = (i + j) ∷ plus p q

abbrev pub minus : List ℕ → List ℕ → List ℕ
minus [] q = []
minus (i ∷ p) [] = i ∷ p
minus (i ∷ p) (j ∷ q) = (i - j) ∷ minus p q

-- whether the point lies in the region of these sizes at these offsets
abbrev pub lies_in : List ℕ → List ℕ → List ℕ → Bool
lies_in (o ∷ os) (n ∷ ns) (i ∷ p) = nat_lt o (i + 1) && nat_lt i (o + n) && lies_in os ns p
lies_in _ _ _ = true

-- the point lies in the box
abbrev pub InBox : List ℕ → List ℕ → Type 0
InBox [] [] = ⊤
InBox (e ∷ es) (i ∷ p) = (i < e) × InBox es p
InBox _ _ = ⊥

-- the region of these sizes at these offsets lies in the box
abbrev pub Fits : List ℕ → List ℕ → List ℕ → Type 0
Fits [] [] [] = ⊤
Fits (e ∷ es) (o ∷ os) (n ∷ ns) = (o + n ≤ e) × Fits es os ns
Fits _ _ _ = ⊥

-- it holds of each; std's `All` goes by index and doesn't compute
abbrev pub Each : {X : Type 0} → (X → Type 0) → List X → Type 0
Each P [] = ⊤
Each P (x ∷ xs) = P x × Each P xs
