-- The points of a box and their places, and the cells of a tabulated grid.
use Rattle.std.proofs.Common.{◌≡◌, ℕ, zero, suc, ◌+◌, ◌*◌, ◌<◌, ◌≤◌, List, [], ◌∷◌, ◌++◌, map, length, get_or, Option, Some, ⊎_elim, Bool, true, false, nat_lt, refl, ap, sym, ◌∙◌, arith, length-append, zero-add, add-zero, suc-mul, add-mul, zero-mul, suc-add}
use Rattle.std.specs.Prelude.{flat_map, option_map, if◌then◌else◌}
use Rattle.std.proofs.Math.Nat.{mul_comm}
use Rattle.std.proofs.lemmas.Bool.{lt-ltb, ltb-true, and_parts, and_from, cases_Bool, false≢true}
use Rattle.std.proofs.lemmas.Nat.{mul-add-lt}
use Rattle.std.proofs.lemmas.List.{length-map, map-append, get_or_append_left, get_or-append-add, get_or-map}
use Rattle.mlir_ir.specs.Shape.{volume}
use Rattle.mlir_meaning.specs.Grids.{Grid, count_up, points, place, is_inside, outside, at, tabulate, all_some, settled, IsFull, InBox, Each}

pub map-map : {A B C : Type 0} (f : B → C) (g : A → B) (xs : List A) → map f (map g xs) ≡ map (λ x. f (g x)) xs
map-map f g [] = refl
map-map f g (x ∷ xs) = λ j. f (g x) ∷ map-map f g xs j

-- EACH
pub each-append : {X : Type 0} (P : X → Type 0) (xs ys : List X) → Each P xs → Each P ys → Each P (xs ++ ys)
each-append P [] ys h k = k
each-append P (x ∷ xs) ys h k = (h.0, each-append P xs ys h.1 k)

pub each-map : {X Y : Type 0} (P : Y → Type 0) (f : X → Y) (xs : List X) → Each (λ x. P (f x)) xs → Each P (map f xs)
each-map P f [] h = tt
each-map P f (x ∷ xs) h = (h.0, each-map P f xs h.1)

pub each_more : {X : Type 0} (P Q : X → Type 0) → ((x : X) → P x → Q x) → (xs : List X) → Each P xs → Each Q xs
each_more P Q f [] h = tt
each_more P Q f (x ∷ xs) h = (f x h.0, each_more P Q f xs h.1)

pub map_same : {X Y : Type 0} (f g : X → Y) (xs : List X) → Each (λ x. f x ≡ g x) xs → map f xs ≡ map g xs
map_same f g [] h = refl
map_same f g (x ∷ xs) h = λ j. h.0 j ∷ map_same f g xs h.1 j

-- POINTS AND PLACES
module _ (es : List ℕ) where
  abbrev row : ℕ → List (List ℕ)
  row i = map (λ p. i ∷ p) (points es)

  row_length : (i : ℕ) → length (points es) ≡ volume es → length (row i) ≡ volume es
  row_length i h = length-map (points es) (λ p. i ∷ p) ∙ h

  rows_length : (a n : ℕ) → length (points es) ≡ volume es → length (flat_map row (count_up a n)) ≡ n * volume es
  rows_length a zero h = grind arith
  rows_length a (suc n) h =
      omega (arith, length-append (row a) (flat_map row (count_up (a + 1) n)), row_length a h, rows_length (a + 1) n h, suc-mul n (volume es))

  row_at : (a n i j : ℕ) → length (points es) ≡ volume es → i < n → j < volume es →
      get_or (flat_map row (count_up a n)) (i * volume es + j) [] ≡ (a + i) ∷ get_or (points es) j []
  row_at a zero i j h lt ltj = absurd (omega arith)
  row_at a (suc n) zero j h lt ltj =
      let first : get_or (row a ++ flat_map row (count_up (a + 1) n)) j [] ≡ get_or (row a) j [] =
      get_or_append_left (row a) _ [] j (omega (arith, row_length a h)) in
      let e : 0 * volume es + j ≡ j = grind arith in
      rw e (first ∙ get_or-map (λ p. a ∷ p) (points es) j [] [] (omega (arith, h)) ∙ ap (λ k. k ∷ get_or (points es) j []) (sym (add-zero a)))
  row_at a (suc n) (suc i) j h lt ltj =
      let rest = flat_map row (count_up (a + 1) n) in
      let e : suc i * volume es + j ≡ length (row a) + (i * volume es + j) = omega (arith, suc-mul i (volume es), row_length a h) in
      let k : (a + 1) + i ≡ a + suc i = omega arith in
      rw e (get_or-append-add (row a) rest (i * volume es + j) [] ∙ row_at (a + 1) n i j h (omega arith) ltj ∙ ap (λ m. m ∷ get_or (points es) j []) k)

-- a box has as many points as its volume
pub points_length : (es : List ℕ) → length (points es) ≡ volume es
points_length [] = refl
points_length (e ∷ es) = rows_length es 0 e (points_length es)

-- the place of a point of the box lies below its volume
pub place_lt : (es p : List ℕ) → InBox es p → place es p < volume es
place_lt [] [] h = omega arith
place_lt (e ∷ es) (i ∷ p) h = omega (arith, mul-add-lt i (volume es) (place es p) e h.0 (place_lt es p h.1), mul_comm (volume es) e)
place_lt [] (i ∷ p) h = absurd h
place_lt (e ∷ es) [] h = absurd h

-- a point of the box stands at its place in the list of points
pub point_at : (es p : List ℕ) → InBox es p → get_or (points es) (place es p) [] ≡ p
point_at [] [] h = refl
point_at (e ∷ es) (i ∷ p) h =
    row_at es 0 e i (place es p) (points_length es) h.0 (place_lt es p h.1) ∙ (λ j. zero-add i j ∷ point_at es p h.1 j)
point_at [] (i ∷ p) h = absurd h
point_at (e ∷ es) [] h = absurd h

each_rows : (e : ℕ) (es : List ℕ) → Each (InBox es) (points es) → (m a : ℕ) → a + m ≤ e →
    Each (InBox (e ∷ es)) (flat_map (λ i. map (λ p. i ∷ p) (points es)) (count_up a m))
each_rows e es rest zero a le = tt
each_rows e es rest (suc m) a le =
    each-append (InBox (e ∷ es)) (map (λ p. a ∷ p) (points es)) _
    (each-map (InBox (e ∷ es)) (λ p. a ∷ p) (points es) (each_more (InBox es) (λ p. InBox (e ∷ es) (a ∷ p)) (λ p h. (omega arith, h)) (points es) rest))
    (each_rows e es rest m (a + 1) (omega arith))

-- the points of a box lie in it
pub each_point : (es : List ℕ) → Each (InBox es) (points es)
each_point [] = (tt, tt)
each_point (e ∷ es) = each_rows e es (each_point es) e 0 (omega arith)

count_up-append : (m n a : ℕ) → count_up a m ++ count_up (a + m) n ≡ count_up a (m + n)
count_up-append zero n a = λ j. count_up (add-zero a j) (sym (zero-add n) j)
count_up-append (suc m) n a =
    let e : a + suc m ≡ (a + 1) + m = omega arith in
    ap (λ xs. a ∷ xs) (ap (λ b. count_up (a + 1) m ++ count_up b n) e ∙ count_up-append m n (a + 1)) ∙ sym (ap (count_up a) (suc-add m n))

count_up-moved : (b n a c : ℕ) → c ≡ b + a → map (λ i. b + i) (count_up a n) ≡ count_up c n
count_up-moved b zero a c e = refl
count_up-moved b (suc n) a c e = λ j. sym e j ∷ count_up-moved b n (a + 1) (c + 1) (omega arith) j

rows_placed : (e : ℕ) (es : List ℕ) → map (place es) (points es) ≡ count_up 0 (volume es) → (m a : ℕ) →
    map (place (e ∷ es)) (flat_map (λ i. map (λ p. i ∷ p) (points es)) (count_up a m)) ≡ count_up (a * volume es) (m * volume es)
rows_placed e es h zero a = sym (ap (count_up (a * volume es)) (zero-mul (volume es)))
rows_placed e es h (suc m) a =
    let v : ℕ = volume es in
    let next : (a + 1) * v ≡ a * v + v = omega (arith, add-mul a 1 v) in
    let size : v + m * v ≡ suc m * v = omega (arith, suc-mul m v) in
    map-append (place (e ∷ es)) (map (λ p. a ∷ p) (points es)) _
    ∙ (λ j. (map-map (place (e ∷ es)) (λ p. a ∷ p) (points es)
    ∙ sym (map-map (λ i. a * v + i) (place es) (points es)) ∙ ap (map (λ i. a * v + i)) h ∙ count_up-moved (a * v) v 0 (a * v) (omega arith)) j
    ++ (rows_placed e es h m (a + 1) ∙ ap (λ b. count_up b (m * v)) next) j)
    ∙ count_up-append v (m * v) (a * v) ∙ ap (count_up (a * v)) size

-- the places of the points, in order, count up
pub places_of_points : (es : List ℕ) → map (place es) (points es) ≡ count_up 0 (volume es)
places_of_points [] = refl
places_of_points (e ∷ es) = rows_placed e es (places_of_points es) e 0 ∙ ap (λ b. count_up b (e * volume es)) (zero-mul (volume es))

-- THE TEST
pub inside_true : (es p : List ℕ) → InBox es p → is_inside es p ≡ true
inside_true [] [] h = refl
inside_true (e ∷ es) (i ∷ p) h = and_from (nat_lt i e) (is_inside es p) (lt-ltb i e h.0) (inside_true es p h.1)
inside_true [] (i ∷ p) h = absurd h
inside_true (e ∷ es) [] h = absurd h

pub inside_in : (es p : List ℕ) → is_inside es p ≡ true → InBox es p
inside_in [] [] h = tt
inside_in (e ∷ es) (i ∷ p) h =
    let both : (nat_lt i e ≡ true) × (is_inside es p ≡ true) = and_parts (nat_lt i e) (is_inside es p) h in (ltb-true i e both.0, inside_in es p both.1)
inside_in [] (i ∷ p) h = absurd (false≢true h)
inside_in (e ∷ es) [] h = absurd (false≢true h)

pub outside_false : (es p : List ℕ) → (InBox es p → ⊥) → is_inside es p ≡ false
outside_false es p out = ⊎_elim (λ t. absurd (out (inside_in es p t))) (λ f. f) (cases_Bool (is_inside es p))

-- ELEMENTS
-- the element at a point of the box is the cell at its place
pub at-inside : (g : Grid) (p : List ℕ) → InBox g.extents p → at g p ≡ get_or g.cells (place g.extents p) 0
at-inside g p h = λ j. if inside_true g.extents p h j then get_or g.cells (place g.extents p) 0 else outside

pub at-outside : (g : Grid) (p : List ℕ) → (InBox g.extents p → ⊥) → at g p ≡ outside
at-outside g p h = λ j. if outside_false g.extents p h j then get_or g.cells (place g.extents p) 0 else outside

each_get : (P : ℕ → Type 0) (cells : List ℕ) → Each P cells → P 0 → (k : ℕ) → P (get_or cells k 0)
each_get P [] h z k = z
each_get P (c ∷ cells) h z zero = h.0
each_get P (c ∷ cells) h z (suc k) = each_get P cells h.1 z k

-- what holds of each cell, and of what stands outside, holds of each element
pub at-each : (P : ℕ → Type 0) (g : Grid) → Each P g.cells → P outside → (p : List ℕ) → P (at g p)
at-each P g h z p = either (is_inside g.extents p)
  where
    either : (b : Bool) → P (if b then get_or g.cells (place g.extents p) 0 else outside)
    either true = each_get P g.cells h z (place g.extents p)
    either false = z

-- TABLES
-- the element of a table at a point of its box
pub at-tabulate : (es p : List ℕ) (f : List ℕ → ℕ) → InBox es p → at (tabulate es f) p ≡ f p
at-tabulate es p f h =
    at-inside (tabulate es f) p h
    ∙ get_or-map f (points es) (place es p) [] 0 (omega (arith, place_lt es p h, points_length es)) ∙ ap f (point_at es p h)

pub tabulate_full : (es : List ℕ) (f : List ℕ → ℕ) → IsFull (tabulate es f)
tabulate_full es f = length-map (points es) f ∙ points_length es

-- tables of functions that agree on the box
pub tabulate_same : (es : List ℕ) (f g : List ℕ → ℕ) → ((p : List ℕ) → InBox es p → f p ≡ g p) → tabulate es f ≡ tabulate es g
tabulate_same es f g e =
    let cells : map f (points es) ≡ map g (points es) = map_same f g (points es) (each_more (InBox es) (λ p. f p ≡ g p) e (points es) (each_point es)) in
    λ j. record { extents = es; cells = cells j }

all_read : (cells : List ℕ) → map (λ k. get_or cells k 0) (count_up 0 (length cells)) ≡ cells
all_read [] = refl
all_read (x ∷ cells) =
    let turn : map (λ k. suc k) (count_up 0 (length cells)) ≡ count_up 1 (length cells) = (λ j. map (λ k. sym (one_more k) j) (count_up 0 (length cells))) ∙ count_up-moved 1 (length cells) 0 1 (omega arith) in
    ap (λ xs. x ∷ xs) (ap (map (λ k. get_or (x ∷ cells) k 0)) (sym turn) ∙ map-map (λ k. get_or (x ∷ cells) k 0) (λ k. suc k) (count_up 0 (length cells)) ∙ all_read cells)
  where
    one_more : (k : ℕ) → 1 + k ≡ suc k
    one_more k = omega arith

-- a grid with one cell for each point is the table of its own elements
pub tabulated : (g : Grid) → IsFull g → tabulate g.extents (at g) ≡ g
tabulated g h =
    let cells : map (at g) (points g.extents) ≡ g.cells =
    map_same (at g) (λ p. get_or g.cells (place g.extents p) 0) (points g.extents)
    (each_more (InBox g.extents) (λ p. at g p ≡ get_or g.cells (place g.extents p) 0) (at-inside g) (points g.extents) (each_point g.extents))
    ∙ sym (map-map (λ k. get_or g.cells k 0) (place g.extents) (points g.extents)) ∙ ap (map (λ k. get_or g.cells k 0)) (places_of_points g.extents ∙ sym (ap (count_up 0) h))
    ∙ all_read g.cells in
    λ j. record { extents = g.extents; cells = cells j }

-- TABLES THAT MAY TRAP
pub settled_same : (es : List ℕ) (h k : List ℕ → Option ℕ) → ((p : List ℕ) → InBox es p → h p ≡ k p) → settled es h ≡ settled es k
settled_same es h k e =
    ap (λ os. option_map (λ cells. record { extents = es; cells = cells }) (all_some os))
    (map_same h k (points es) (each_more (InBox es) (λ p. h p ≡ k p) e (points es) (each_point es)))

all_some_map : {X : Type 0} (k : X → ℕ) (xs : List X) → all_some (map (λ x. Some (k x)) xs) ≡ Some (map k xs)
all_some_map k [] = refl
all_some_map k (x ∷ xs) = ap (λ o. option_map (λ ys. k x ∷ ys) o) (all_some_map k xs)

pub settled_some : (es : List ℕ) (h : List ℕ → Option ℕ) (k : List ℕ → ℕ) → ((p : List ℕ) → InBox es p → h p ≡ Some (k p)) → settled es h ≡ Some (tabulate es k)
settled_some es h k e =
    settled_same es h (λ p. Some (k p)) e ∙ ap (λ o. option_map (λ cells. record { extents = es; cells = cells }) o) (all_some_map k (points es))
