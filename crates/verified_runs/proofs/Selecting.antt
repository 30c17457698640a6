-- Maps that select dimensions: their axes, and what the rules V5 to V8 ask of them.
use Rattle.std.proofs.Common.{◌≡◌, ℕ, zero, suc, ◌+◌, ◌<◌, ◌≤◌, ◌==◌, ◌||◌, ◌&&◌, Bool, true, false, List, [], ◌∷◌, ◌++◌, map, length, replicate, Option, Some, None, refl, ap, sym, subst, ◌∙◌, arith, eq-eqb, eqb-true, lt-ltb, zero-add}
use Rattle.std.specs.Prelude.{is_some, pos, slice_get, if◌then◌else◌}
use Rattle.std.specs.List.{list_all, zip, filter_map, enumerate_from}
use Rattle.std.proofs.lemmas.Bool.{and_parts, and_from, ne_eqb, le-leb}
use Rattle.mlir_base.specs.Numbers.{is_coefficient}
use Rattle.std.proofs.lemmas.List.{length-map}
use Rattle.std.proofs.lemmas.Option.{slice_get_within, same_Some}
use Rattle.affine_maps.specs.Map.{expr_fits, map_fits, dimension, dimensions, identity_of}
use Rattle.affine_maps.specs.Permutation.{is_among, repeats, is_projected_permutation, dimensions_of}
use Rattle.affine_maps.proofs.Permuting.{from_dimensions}
use Rattle.mlir_ir.specs.Count.{first}
use Rattle.mlir_ir.specs.declared.tree.Extent.{Extent}
use Rattle.mlir_ir.specs.declared.tree.Extent.TheVariants.{Fixed, Any}
use Rattle.mlir_ir.specs.declared.tree.Iter.TheVariants.{Parallel}
use Rattle.mlir_meaning.specs.Grids.{count_up, Each}
use Rattle.mlir_meaning.specs.Points.{select_map}
use Rattle.mlir_verify.specs.Tensors.{is_fixed}
use Rattle.mlir_verify.specs.Maps.{Axis, axis, extent_of, is_not_negative, is_iterator}
use Rattle.mlir_verify.specs.Extents.{is_same_extent, has_extent, are_same_extents}
use Rattle.mlir_verify.specs.Windows.{Extents, stays_in}

-- DIMENSIONS IN ORDER
counted_more : (a n : ℕ) → count_up a (suc n) ≡ count_up a n ++ (a + n) ∷ []
counted_more a zero = λ j. (let e : a ≡ a + 0 = omega arith in e) j ∷ []
counted_more a (suc n) = ap (λ (xs : List ℕ). a ∷ xs) (counted_more (a + 1) n ∙ (λ j. count_up (a + 1) n ++ (let e : a + 1 + n ≡ a + suc n = omega arith in e) j ∷ []))

mapped_last : {A B : Type 0} (f : A → B) (xs : List A) (x : A) → map f (xs ++ x ∷ []) ≡ map f xs ++ f x ∷ []
mapped_last f [] x = refl
mapped_last f (y ∷ ys) x = ap (λ zs. f y ∷ zs) (mapped_last f ys x)

pub counted_dimensions : (n : ℕ) → dimensions n ≡ map dimension (count_up 0 n)
counted_dimensions zero = refl
counted_dimensions (suc n) =
    (λ j. counted_dimensions n j ++ dimension n ∷ [])
    ∙ sym (ap (map dimension) (counted_more 0 n) ∙ mapped_last dimension (count_up 0 n) (0 + n) ∙ (λ j. map dimension (count_up 0 n) ++ dimension (zero-add n j) ∷ []))

-- the identity selects the dimensions in order
pub identity_selects : (n : ℕ) → identity_of n ≡ select_map n (count_up 0 n)
identity_selects n = λ j. record { dims = n; results = counted_dimensions n j }

pub count_length : (a n : ℕ) → length (count_up a n) ≡ n
count_length a zero = refl
count_length a (suc n) = ap suc (count_length (a + 1) n)

counted_among : (a n d : ℕ) → d < n → is_among (a + d) (count_up a n) ≡ true
counted_among a zero d l = absurd (omega arith)
counted_among a (suc n) zero l = λ j. eq-eqb a (a + 0) (omega arith) j || is_among (a + 0) (count_up (a + 1) n)
counted_among a (suc n) (suc d) l = or_true _ _ (ap (λ k. is_among k (count_up (a + 1) n)) (let e : a + suc d ≡ a + 1 + d = omega arith in e) ∙ counted_among (a + 1) n d (omega arith)) where
  or_true : (b c : Bool) → c ≡ true → (b || c) ≡ true
  or_true true c e = refl
  or_true false c e = e

counted_after : (q a n : ℕ) → q < a → is_among q (count_up a n) ≡ false
counted_after q a zero l = refl
counted_after q a (suc n) l = λ j. ne_eqb a q (λ e. absurd (omega (arith, e, l))) j || counted_after q (a + 1) n (omega arith) j

pub counted_distinct : (a n : ℕ) → repeats (count_up a n) ≡ false
counted_distinct a zero = refl
counted_distinct a (suc n) = λ j. counted_after a (a + 1) n (omega arith) j || counted_distinct (a + 1) n j

counted_below : (a n m : ℕ) → a + n ≤ m → Each (λ d. d < m) (count_up a n)
counted_below a zero m l = tt
counted_below a (suc n) m l = (omega arith, counted_below (a + 1) n m (omega arith))

-- V2: a map that selects dimensions that are there is one
one_fits : (n d : ℕ) → d < n → expr_fits n (dimension d) ≡ true
one_fits n d l = λ j. le-leb 0 d (omega arith) j && lt-ltb d n l j && is_coefficient (pos 1) && true

all_fit : (n : ℕ) (ds : List ℕ) → Each (λ d. d < n) ds → list_all (expr_fits n) (map dimension ds) ≡ true
all_fit n [] h = refl
all_fit n (d ∷ ds) h = and_from (expr_fits n (dimension d)) (list_all (expr_fits n) (map dimension ds)) (one_fits n d h.0) (all_fit n ds h.1)

pub selecting_is_map : (n : ℕ) (ds : List ℕ) → Each (λ d. d < n) ds → map_fits (select_map n ds) ≡ true
selecting_is_map n ds h = all_fit n ds h

pub identity_is_map : (n : ℕ) → map_fits (identity_of n) ≡ true
identity_is_map n = ap map_fits (identity_selects n) ∙ selecting_is_map n (count_up 0 n) (counted_below 0 n n (omega arith))

-- V5
pub none_negative : (ds : List ℕ) → list_all is_not_negative (map dimension ds) ≡ true
none_negative [] = refl
none_negative (d ∷ ds) = none_negative ds

pub selected_length : (n : ℕ) (ds : List ℕ) → length (select_map n ds).results ≡ length ds
selected_length n ds = length-map ds dimension

pub identity_permutes : (n : ℕ) → is_projected_permutation (identity_of n) ≡ true
identity_permutes n = from_dimensions (identity_of n) (count_up 0 n, counted_dimensions n, counted_distinct 0 n)

selected_dimensions : (ds : List ℕ) → dimensions_of (map dimension ds) ≡ ds
selected_dimensions [] = refl
selected_dimensions (d ∷ ds) = ap (λ (xs : List ℕ). d ∷ xs) (selected_dimensions ds)

-- V6: each dimension of the identity is parallel
all_parallel : (test : ℕ → Bool) (a n : ℕ) → ((d : ℕ) → d < n → test (a + d) ≡ true) → list_all (λ i. is_iterator i.1 (test i.0)) (enumerate_from a (replicate n Parallel)) ≡ true
all_parallel test a zero h = refl
all_parallel test a (suc n) h =
    and_from _ _ (ap test (let e : a ≡ a + 0 = omega arith in e) ∙ h 0 (omega arith))
    (all_parallel test (a + 1) n (λ d l. ap test (let e : a + 1 + d ≡ a + suc d = omega arith in e) ∙ h (suc d) (omega arith)))

pub identity_parallel : (n : ℕ) → list_all (λ i. is_iterator i.1 (is_among i.0 (dimensions_of (identity_of n).results))) (enumerate_from 0 (replicate n Parallel)) ≡ true
identity_parallel n = all_parallel (λ k. is_among k (dimensions_of (dimensions n))) 0 n
    (λ d l. ap (λ xs. is_among (0 + d) xs) (ap dimensions_of (counted_dimensions n) ∙ selected_dimensions (count_up 0 n)) ∙ counted_among 0 n d l)

-- AXES
pub selected_axes : (ds : List ℕ) (xs : List Extent) → filter_map axis (zip (map dimension ds) xs) ≡ zip ds xs
selected_axes [] xs = refl
selected_axes (d ∷ ds) [] = refl
selected_axes (d ∷ ds) (x ∷ xs) = ap (λ (front : List Axis). (d, x) ∷ front) (selected_axes ds xs)

pub same_is : (x y : Extent) → is_same_extent x y ≡ true → x ≡ y
same_is (Fixed m) (Fixed n) h = ap Fixed (eqb-true m n h)
same_is (Fixed m) Any h = absurd cc
same_is Any y h = absurd cc

pub same_left : (x y : Extent) → is_same_extent x y ≡ true → is_same_extent x x ≡ true
same_left (Fixed m) (Fixed n) h = eq-eqb m m refl
same_left (Fixed m) Any h = absurd cc
same_left Any y h = absurd cc

pub has_is : (o : Option Extent) (x : Extent) → has_extent o x ≡ true → o ≡ Some x
has_is None x h = absurd cc
has_is (Some y) x h = ap Some (same_is y x h)

fixed_same : (x : Extent) → is_fixed x ≡ true → is_same_extent x x ≡ true
fixed_same (Fixed n) h = eq-eqb n n refl
fixed_same Any h = absurd cc

fixed_at : (ys : List Extent) (d : ℕ) (x : Extent) → list_all is_fixed ys ≡ true → slice_get ys d ≡ Some x → is_same_extent x x ≡ true
fixed_at [] d x h e = absurd cc
fixed_at (y ∷ ys) zero x h e = subst (λ z. is_same_extent z z ≡ true) (same_Some y x e) (fixed_same y (and_parts (is_fixed y) _ h).0)
fixed_at (y ∷ ys) (suc d) x h e = fixed_at ys d x (and_parts (is_fixed y) _ h).1 e

-- extents that are the same are fixed
pub same_fixed : (xs ys : List Extent) → are_same_extents xs ys ≡ true → list_all is_fixed xs ≡ true
same_fixed xs ys h =
    let both = and_parts (length xs == length ys) _ h in each xs ys (eqb-true (length xs) (length ys) both.0) both.1 where
      one : (x y : Extent) → is_same_extent x y ≡ true → is_fixed x ≡ true
      one (Fixed m) y h = refl
      one Any y h = absurd cc

      each : (xs ys : List Extent) → length xs ≡ length ys → list_all (λ (z : Extent × Extent). is_same_extent z.0 z.1) (zip xs ys) ≡ true → list_all is_fixed xs ≡ true
      each [] ys l h = refl
      each (x ∷ xs) [] l h = absurd (omega arith)
      each (x ∷ xs) (y ∷ ys) l h = let both = and_parts (is_same_extent x y) _ h in and_from _ _ (one x y both.0) (each xs ys (omega arith) both.1)

-- the numbers of axes from a on, each with its extent
each_numbered : (P : Axis → Type 0) (a : ℕ) (zs : List Extent) → ((d : ℕ) (z : Extent) → slice_get zs d ≡ Some z → P (a + d, z)) → Each P (zip (count_up a (length zs)) zs)
each_numbered P a [] h = tt
each_numbered P a (z ∷ zs) h = (
  subst (λ k. P (k, z)) (let e : a + 0 ≡ a = omega arith in e) (h 0 z refl),
  each_numbered P (a + 1) zs (λ d x q. subst (λ k. P (k, x)) (let e : a + suc d ≡ a + 1 + d = omega arith in e) (h (suc d) x q)),
)

numbered_extent : (a : ℕ) (zs : List Extent) (d : ℕ) → extent_of (zip (count_up a (length zs)) zs) (a + d) ≡ slice_get zs d
numbered_extent a [] d = refl
numbered_extent a (z ∷ zs) zero = λ j. if eq-eqb a (a + 0) (omega arith) j then Some z else extent_of (zip (count_up (a + 1) (length zs)) zs) (a + 0)
numbered_extent a (z ∷ zs) (suc d) =
    (λ j. if ne_eqb a (a + suc d) (λ e. absurd (omega (arith, e))) j then Some z else extent_of (zip (count_up (a + 1) (length zs)) zs) (a + suc d))
    ∙ ap (extent_of (zip (count_up (a + 1) (length zs)) zs)) (let e : a + suc d ≡ a + 1 + d = omega arith in e) ∙ numbered_extent (a + 1) zs d

pub extent_append : (front bs : List Axis) (d : ℕ) → extent_of (front ++ bs) d ≡ first (extent_of front d) (extent_of bs d)
extent_append [] bs d = refl
extent_append (a ∷ front) bs d = by_test (a.0 == d) (extent_append front bs d) where
  by_test : (b : Bool) → extent_of (front ++ bs) d ≡ first (extent_of front d) (extent_of bs d) → (if b then Some a.1 else extent_of (front ++ bs) d) ≡ first (if b then Some a.1 else extent_of front d) (extent_of bs d)
  by_test true rest = refl
  by_test false rest = rest

-- operands of which each selected axis has the extent of the output's axis of that number
module _ (ys : List Extent) (fixed : list_all is_fixed ys ≡ true) where
  -- the axis is the output's
  abbrev pub Right : Axis → Type 0
  Right a = slice_get ys a.0 ≡ Some a.1

  decided : (front : List Axis) (d : ℕ) → Each Right front → first (extent_of front d) (slice_get ys d) ≡ slice_get ys d
  decided [] d h = refl
  decided (a ∷ front) d h = by_test (a.0 == d) refl (decided front d h.1) where
    by_test : (b : Bool) → (a.0 == d) ≡ b → first (extent_of front d) (slice_get ys d) ≡ slice_get ys d → first (if b then Some a.1 else extent_of front d) (slice_get ys d) ≡ slice_get ys d
    by_test true e rest = sym h.0 ∙ ap (slice_get ys) (eqb-true a.0 d e)
    by_test false e rest = rest

  own : Each Right (zip (count_up 0 (length ys)) ys)
  own = each_numbered Right 0 ys (λ d z e. ap (slice_get ys) (zero-add d) ∙ e)

  -- all axes: those of an input, and the output's own
  abbrev pub all_axes : List Axis → List Axis
  all_axes front = front ++ zip (count_up 0 (length ys)) ys

  pub extents_are : (front : List Axis) → Each Right front → (d : ℕ) → extent_of (all_axes front) d ≡ slice_get ys d
  extents_are front h d =
      extent_append front (zip (count_up 0 (length ys)) ys) d
      ∙ (λ j. first (extent_of front d) ((ap (extent_of (zip (count_up 0 (length ys)) ys)) (sym (zero-add d)) ∙ numbered_extent 0 ys d) j)) ∙ decided front d h

  each_append : (front bs : List Axis) → Each Right front → Each Right bs → Each Right (front ++ bs)
  each_append [] bs h k = k
  each_append (a ∷ front) bs h k = (h.0, each_append front bs h.1 k)

  all_agree : (extents : ℕ → Option Extent) → ((d : ℕ) → extents d ≡ slice_get ys d) → (front : List Axis) → Each Right front → list_all (λ a. has_extent (extents a.0) a.1) front ≡ true
  all_agree extents e [] h = refl
  all_agree extents e (a ∷ front) h =
      and_from _ _ (ap (λ o. has_extent o a.1) (e a.0 ∙ h.0) ∙ fixed_at ys a.0 a.1 fixed h.0) (all_agree extents e front h.1)

  -- V7
  pub axes_fit : (front : List Axis) → Each Right front → list_all (λ a. has_extent (extent_of (all_axes front) a.0) a.1) (all_axes front) ≡ true
  axes_fit front h = all_agree (extent_of (all_axes front)) (extents_are front h) (all_axes front) (each_append front (zip (count_up 0 (length ys)) ys) h own)

  all_there : (extents : ℕ → Option Extent) (a n : ℕ) → ((d : ℕ) → d < n → is_some (extents (a + d)) ≡ true) → list_all (λ i. is_some (extents i.0)) (enumerate_from a (replicate n Parallel)) ≡ true
  all_there extents a zero h = refl
  all_there extents a (suc n) h =
      and_from _ _ (ap (λ k. is_some (extents k)) (let e : a ≡ a + 0 = omega arith in e) ∙ h 0 (omega arith))
      (all_there extents (a + 1) n (λ d l. ap (λ k. is_some (extents k)) (let e : a + 1 + d ≡ a + suc d = omega arith in e) ∙ h (suc d) (omega arith)))

  within : (zs : List Extent) (d : ℕ) → d < length zs → is_some (slice_get zs d) ≡ true
  within [] d l = absurd (omega arith)
  within (z ∷ zs) zero l = refl
  within (z ∷ zs) (suc d) l = within zs d (omega arith)

  -- V5
  pub axes_cover : (front : List Axis) → Each Right front → list_all (λ i. is_some (extent_of (all_axes front) i.0)) (enumerate_from 0 (replicate (length ys) Parallel)) ≡ true
  axes_cover front h = all_there (extent_of (all_axes front)) 0 (length ys)
      (λ d l. ap is_some (extents_are front h (0 + d)) ∙ ap (λ k. is_some (slice_get ys k)) (zero-add d) ∙ within ys d l)

  -- the dimensions of right axes are there
  pub right_below : (ds : List ℕ) (xs : List Extent) → length ds ≡ length xs → Each Right (zip ds xs) → Each (λ d. d < length ys) ds
  right_below [] xs l h = tt
  right_below (d ∷ ds) [] l h = absurd (omega arith)
  right_below (d ∷ ds) (x ∷ xs) l h = (slice_get_within ys d x h.0, right_below ds xs (omega arith) h.1)

-- V8: nothing is left to ask
pub all_stay : (extents : Extents) (ds : List ℕ) (xs : List Extent) → list_all (stays_in extents) (zip (map dimension ds) xs) ≡ true
all_stay extents [] xs = refl
all_stay extents (d ∷ ds) [] = refl
all_stay extents (d ∷ ds) (x ∷ xs) = all_stay extents ds xs
