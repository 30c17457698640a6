-- The points of a box of which some coordinates are fixed, in their order.
use Rattle.std.proofs.Common.{◌≡◌, ◌≢◌, ℕ, zero, suc, ◌+◌, ◌<◌, ◌≤◌, ◌==◌, ◌&&◌, Bool, true, false, List, [], ◌∷◌, ◌++◌, map, length, get_or, filter, Option, Some, None, inl, inr, ⊎_elim, refl, ap, sym, ◌∙◌, arith, append-nil, zero-add, lt-ltb}
use Rattle.std.specs.Prelude.{nat_lt, is_none, flat_map, if◌then◌else◌}
use Rattle.std.specs.List.{list_all}
use Rattle.std.proofs.lemmas.Bool.Decides.{eqb_tells, nat_tests}
use Rattle.std.proofs.lemmas.List.{map-append}
use Rattle.mlir_meaning.specs.Grids.{points, count_up}
use Rattle.mlir_meaning.specs.Points.{place_of}
use Rattle.mlir_meaning.proofs.Grids.{map-map}
use Rattle.structured_steps.proofs.Listed.{IsIn}

-- a number for each dimension that is fixed
abbrev pub matches : List (Option ℕ) → List ℕ → Bool
matches [] p = true
matches (c ∷ cs) [] = false
matches (None ∷ cs) (i ∷ p) = matches cs p
matches (Some v ∷ cs) (i ∷ p) = (i == v) && matches cs p

-- the point with these coordinates in the dimensions that are free
abbrev pub fill : List (Option ℕ) → List ℕ → List ℕ
fill [] r = []
fill (Some v ∷ cs) r = v ∷ fill cs r
fill (None ∷ cs) [] = 0 ∷ fill cs []
fill (None ∷ cs) (i ∷ r) = i ∷ fill cs r

-- the extents of the free dimensions
abbrev pub free : List (Option ℕ) → List ℕ → List ℕ
free [] es = []
free (c ∷ cs) [] = []
free (Some v ∷ cs) (e ∷ es) = free cs es
free (None ∷ cs) (e ∷ es) = e ∷ free cs es

-- what is fixed lies in the box
abbrev pub within : List (Option ℕ) → List ℕ → Bool
within [] es = true
within (c ∷ cs) [] = true
within (None ∷ cs) (e ∷ es) = within cs es
within (Some v ∷ cs) (e ∷ es) = nat_lt v e && within cs es

pub filter_append : {X : Type 0} (P : X → Bool) (xs ys : List X) → filter P (xs ++ ys) ≡ filter P xs ++ filter P ys
filter_append P [] ys = refl
filter_append P (x ∷ xs) ys = by_test (P x) (filter_append P xs ys) where
  by_test : (b : Bool) → filter P (xs ++ ys) ≡ filter P xs ++ filter P ys → (if b then x ∷ filter P (xs ++ ys) else filter P (xs ++ ys)) ≡ (if b then x ∷ filter P xs else filter P xs) ++ filter P ys
  by_test true e = ap (λ l. x ∷ l) e
  by_test false e = e

-- a row for each number, filtered
rows_filtered : {X : Type 0} (P : X → Bool) (row kept : ℕ → List X) → ((i : ℕ) → filter P (row i) ≡ kept i) → (is : List ℕ) → filter P (flat_map row is) ≡ flat_map kept is
rows_filtered P row kept h [] = refl
rows_filtered P row kept h (i ∷ is) = filter_append P (row i) (flat_map row is) ∙ (λ j. h i j ++ rows_filtered P row kept h is j)

rows_none : {X : Type 0} (is : List ℕ) → flat_map (λ i. let none : List X = [] in none) is ≡ []
rows_none [] = refl
rows_none (i ∷ is) = rows_none is

free_row : (cs : List (Option ℕ)) (i : ℕ) (ps : List (List ℕ)) → filter (matches (None ∷ cs)) (map (λ p. i ∷ p) ps) ≡ map (λ p. i ∷ p) (filter (matches cs) ps)
free_row cs i [] = refl
free_row cs i (p ∷ ps) = by_test (matches cs p) (free_row cs i ps) where
  by_test : (b : Bool) → filter (matches (None ∷ cs)) (map (λ p. i ∷ p) ps) ≡ map (λ p. i ∷ p) (filter (matches cs) ps) →
      (if b then (i ∷ p) ∷ filter (matches (None ∷ cs)) (map (λ p. i ∷ p) ps) else filter (matches (None ∷ cs)) (map (λ p. i ∷ p) ps)) ≡ map (λ p. i ∷ p) (if b then p ∷ filter (matches cs) ps else filter (matches cs) ps)
  by_test true e = ap (λ l. (i ∷ p) ∷ l) e
  by_test false e = e

fixed_row : (cs : List (Option ℕ)) (v i : ℕ) (ps : List (List ℕ)) → filter (matches (Some v ∷ cs)) (map (λ p. i ∷ p) ps) ≡ (if i == v then map (λ p. i ∷ p) (filter (matches cs) ps) else [])
fixed_row cs v i ps = by_test (i == v) refl where
  all_pass : (i == v) ≡ true → (ps : List (List ℕ)) → filter (matches (Some v ∷ cs)) (map (λ p. i ∷ p) ps) ≡ map (λ p. i ∷ p) (filter (matches cs) ps)
  all_pass e [] = refl
  all_pass e (p ∷ ps) = (λ j. if e j && matches cs p then (i ∷ p) ∷ filter (matches (Some v ∷ cs)) (map (λ p. i ∷ p) ps) else filter (matches (Some v ∷ cs)) (map (λ p. i ∷ p) ps)) ∙ inner (matches cs p) (all_pass e ps)
    where
      inner : (b : Bool) → filter (matches (Some v ∷ cs)) (map (λ p. i ∷ p) ps) ≡ map (λ p. i ∷ p) (filter (matches cs) ps) →
          (if b then (i ∷ p) ∷ filter (matches (Some v ∷ cs)) (map (λ p. i ∷ p) ps) else filter (matches (Some v ∷ cs)) (map (λ p. i ∷ p) ps)) ≡ map (λ p. i ∷ p) (if b then p ∷ filter (matches cs) ps else filter (matches cs) ps)
      inner true q = ap (λ l. (i ∷ p) ∷ l) q
      inner false q = q

  none_pass : (i == v) ≡ false → (ps : List (List ℕ)) → filter (matches (Some v ∷ cs)) (map (λ p. i ∷ p) ps) ≡ []
  none_pass e [] = refl
  none_pass e (p ∷ ps) = (λ j. if e j && matches cs p then (i ∷ p) ∷ filter (matches (Some v ∷ cs)) (map (λ p. i ∷ p) ps) else filter (matches (Some v ∷ cs)) (map (λ p. i ∷ p) ps)) ∙ none_pass e ps

  by_test : (b : Bool) → (i == v) ≡ b → filter (matches (Some v ∷ cs)) (map (λ p. i ∷ p) ps) ≡ (if i == v then map (λ p. i ∷ p) (filter (matches cs) ps) else [])
  by_test true e = all_pass e ps ∙ sym (λ j. if e j then map (λ p. i ∷ p) (filter (matches cs) ps) else [])
  by_test false e = none_pass e ps ∙ sym (λ j. if e j then map (λ p. i ∷ p) (filter (matches cs) ps) else [])

-- one row among many
module _ {X : Type 0} (v : ℕ) (row : ℕ → List X) where
  abbrev only : ℕ → List X
  only i = if i == v then row i else []

  above_only : (m a : ℕ) → v < a → flat_map only (count_up a m) ≡ []
  above_only zero a l = refl
  above_only (suc m) a l = ⊎_elim (λ t. absurd (let e = t.1 in omega (arith, e, l))) (λ t. (λ j. (if t.0 j then row a else []) ++ flat_map only (count_up (a + 1) m)) ∙ above_only m (a + 1) (omega arith)) (eqb_tells a v)

  one_row : (m a : ℕ) → a ≤ v → flat_map only (count_up a m) ≡ (if nat_lt v (a + m) then row v else [])
  one_row zero a l = let e : nat_lt v (a + 0) ≡ false = grind (arith, nat_tests) in sym (λ j. if e j then row v else [])
  one_row (suc m) a l = ⊎_elim
      (λ t. let e = t.1 in let big : nat_lt v (a + suc m) ≡ true = lt-ltb v (a + suc m) (omega (arith, e)) in
      (λ j. (if t.0 j then row a else []) ++ above_only m (a + 1) (omega (arith, e)) j) ∙ append-nil (row a) ∙ ap row e ∙ sym (λ j. if big j then row v else []))
      (λ t. let e = t.1 in let more : a + 1 ≤ v = apart e in let same : (a + 1) + m ≡ a + suc m = omega arith in
      (λ j. (if t.0 j then row a else []) ++ flat_map only (count_up (a + 1) m)) ∙ one_row m (a + 1) more ∙ ap (λ k. if nat_lt v k then row v else []) same)
      (eqb_tells a v)
    where
      apart : a ≢ v → a + 1 ≤ v
      apart e = omega arith

filled_rows : (cs : List (Option ℕ)) (rs : List (List ℕ)) (is : List ℕ) → map (fill (None ∷ cs)) (flat_map (λ i. map (λ p. i ∷ p) rs) is) ≡ flat_map (λ i. map (λ p. i ∷ p) (map (fill cs) rs)) is
filled_rows cs rs [] = refl
filled_rows cs rs (i ∷ is) =
    map-append (fill (None ∷ cs)) (map (λ p. i ∷ p) rs) (flat_map (λ i. map (λ p. i ∷ p) rs) is)
    ∙ (λ j. (map-map (fill (None ∷ cs)) (λ p. i ∷ p) rs ∙ sym (map-map (λ p. i ∷ p) (fill cs) rs)) j ++ filled_rows cs rs is j)

pub chosen : (cs : List (Option ℕ)) (es : List ℕ) → length cs ≡ length es → filter (matches cs) (points es) ≡ (if within cs es then map (fill cs) (points (free cs es)) else [])
chosen [] [] l = refl
chosen [] (e ∷ es) l = absurd (omega arith)
chosen (c ∷ cs) [] l = absurd (omega arith)
chosen (None ∷ cs) (e ∷ es) l =
    rows_filtered (matches (None ∷ cs)) (λ i. map (λ p. i ∷ p) (points es)) (λ i. map (λ p. i ∷ p) (filter (matches cs) (points es))) (λ i. free_row cs i (points es)) (count_up 0 e)
    ∙ (λ j. flat_map (λ i. map (λ p. i ∷ p) (chosen cs es (omega arith) j)) (count_up 0 e)) ∙ by_test (within cs es)
  where
    by_test : (b : Bool) → flat_map (λ i. map (λ p. i ∷ p) (if b then map (fill cs) (points (free cs es)) else [])) (count_up 0 e) ≡ (if b then map (fill (None ∷ cs)) (flat_map (λ i. map (λ p. i ∷ p) (points (free cs es))) (count_up 0 e)) else [])
    by_test true = sym (filled_rows cs (points (free cs es)) (count_up 0 e))
    by_test false = rows_none (count_up 0 e)
chosen (Some v ∷ cs) (e ∷ es) l =
    rows_filtered (matches (Some v ∷ cs)) (λ i. map (λ p. i ∷ p) (points es)) (λ i. if i == v then map (λ p. i ∷ p) (filter (matches cs) (points es)) else []) (λ i. fixed_row cs v i (points es)) (count_up 0 e)
    ∙ one_row v (λ i. map (λ p. i ∷ p) (filter (matches cs) (points es))) e 0 (omega arith)
    ∙ (λ j. if nat_lt v (zero-add e j) then map (λ p. v ∷ p) (chosen cs es (omega arith) j) else []) ∙ by_tests (nat_lt v e) (within cs es)
  where
    by_tests : (b c : Bool) → (if b then map (λ p. v ∷ p) (if c then map (fill cs) (points (free cs es)) else []) else []) ≡ (if b && c then map (fill (Some v ∷ cs)) (points (free cs es)) else [])
    by_tests true true = map-map (λ p. v ∷ p) (fill cs) (points (free cs es))
    by_tests true false = refl
    by_tests false c = refl

-- DIMENSIONS IN ANY ORDER
module _ (h : ℕ → Option ℕ) where
  abbrev pub is_free : ℕ → Bool
  is_free d = is_none (h d)

  abbrev pub equals : Option ℕ → ℕ → Bool
  equals None i = true
  equals (Some v) i = i == v

  abbrev pub fits : Option ℕ → ℕ → Bool
  fits None e = true
  fits (Some v) e = nat_lt v e

  abbrev pub or_free : Option ℕ → ℕ → ℕ
  or_free None i = i
  or_free (Some v) i = v

  pub matches_all : (c : ℕ → ℕ) (ds : List ℕ) → matches (map h ds) (map c ds) ≡ list_all (λ d. equals (h d) (c d)) ds
  matches_all c [] = refl
  matches_all c (d ∷ ds) = by_choice (h d) (matches_all c ds) where
    by_choice : (x : Option ℕ) → matches (map h ds) (map c ds) ≡ list_all (λ d. equals (h d) (c d)) ds → matches (x ∷ map h ds) (map c (d ∷ ds)) ≡ (equals x (c d) && list_all (λ d. equals (h d) (c d)) ds)
    by_choice None e = e
    by_choice (Some v) e = ap (λ b. (c d == v) && b) e

  pub within_all : (c : ℕ → ℕ) (ds : List ℕ) → within (map h ds) (map c ds) ≡ list_all (λ d. fits (h d) (c d)) ds
  within_all c [] = refl
  within_all c (d ∷ ds) = by_choice (h d) (within_all c ds) where
    by_choice : (x : Option ℕ) → within (map h ds) (map c ds) ≡ list_all (λ d. fits (h d) (c d)) ds → within (x ∷ map h ds) (map c (d ∷ ds)) ≡ (fits x (c d) && list_all (λ d. fits (h d) (c d)) ds)
    by_choice None e = e
    by_choice (Some v) e = ap (λ b. nat_lt v (c d) && b) e

  pub free_is : (c : ℕ → ℕ) (ds : List ℕ) → free (map h ds) (map c ds) ≡ map c (filter is_free ds)
  free_is c [] = refl
  free_is c (d ∷ ds) = by_choice (h d) (free_is c ds) where
    by_choice : (x : Option ℕ) → free (map h ds) (map c ds) ≡ map c (filter is_free ds) → free (x ∷ map h ds) (map c (d ∷ ds)) ≡ map c (if is_none x then d ∷ filter is_free ds else filter is_free ds)
    by_choice None e = ap (λ l. c d ∷ l) e
    by_choice (Some v) e = e

  shift : (d a : ℕ) (ds : List ℕ) → place_of d (a + 1) ds ≡ suc (place_of d a ds)
  shift d a [] = omega arith
  shift d a (c ∷ ds) = by_test (c == d) (shift d (a + 1) ds) where
    by_test : (b : Bool) → place_of d ((a + 1) + 1) ds ≡ suc (place_of d (a + 1) ds) → (if b then a + 1 else place_of d ((a + 1) + 1) ds) ≡ suc (if b then a else place_of d (a + 1) ds)
    by_test true e = omega arith
    by_test false e = e

  -- the coordinate of a dimension, wherever it stands: its number where it is fixed, and else by its rank among the free ones
  pub fill_at : (ds : List ℕ) (r : List ℕ) (d : ℕ) → IsIn d ds → get_or (fill (map h ds) r) (place_of d 0 ds) 0 ≡ or_free (h d) (get_or r (place_of d 0 (filter is_free ds)) 0)
  fill_at [] r d i = absurd i
  fill_at (c ∷ ds) r d i = ⊎_elim (here r) (λ t. there (h c) refl r t (λ s. fill_at ds s d (later t.1 i))) (eqb_tells c d) where
    later : c ≢ d → IsIn d (c ∷ ds) → IsIn d ds
    later apart (inl e) = absurd (apart (sym e))
    later apart (inr j) = j

    here : (r : List ℕ) → ((c == d) ≡ true) × (c ≡ d) → get_or (fill (map h (c ∷ ds)) r) (place_of d 0 (c ∷ ds)) 0 ≡ or_free (h d) (get_or r (place_of d 0 (filter is_free (c ∷ ds))) 0)
    here r t = (λ j. get_or (fill (map h (c ∷ ds)) r) (if t.0 j then 0 else place_of d 1 ds) 0) ∙ by_choice (h c) r ∙ (λ j. or_free (h (t.1 j)) (get_or r (place_of d 0 (if is_none (h c) then c ∷ filter is_free ds else filter is_free ds)) 0)) where
      by_choice : (x : Option ℕ) (r : List ℕ) → get_or (fill (x ∷ map h ds) r) 0 0 ≡ or_free x (get_or r (place_of d 0 (if is_none x then c ∷ filter is_free ds else filter is_free ds)) 0)
      by_choice (Some v) r = refl
      by_choice None [] = refl
      by_choice None (y ∷ r) = sym (λ j. get_or (y ∷ r) (if t.0 j then 0 else place_of d 1 (filter is_free ds)) 0)

    there : (x : Option ℕ) → h c ≡ x → (r : List ℕ) → ((c == d) ≡ false) × (c ≢ d) → ((s : List ℕ) → get_or (fill (map h ds) s) (place_of d 0 ds) 0 ≡ or_free (h d) (get_or s (place_of d 0 (filter is_free ds)) 0)) →
        get_or (fill (map h (c ∷ ds)) r) (place_of d 0 (c ∷ ds)) 0 ≡ or_free (h d) (get_or r (place_of d 0 (filter is_free (c ∷ ds))) 0)
    there x e r t rest =
        (λ j. get_or (fill (e j ∷ map h ds) r) (if t.0 j then 0 else place_of d 1 ds) 0) ∙ ap (λ k. get_or (fill (x ∷ map h ds) r) k 0) (shift d 0 ds) ∙ by_choice x r
        ∙ sym (λ j. or_free (h d) (get_or r (place_of d 0 (if is_none (e j) then c ∷ filter is_free ds else filter is_free ds)) 0)) where
          by_choice : (x : Option ℕ) (r : List ℕ) → get_or (fill (x ∷ map h ds) r) (suc (place_of d 0 ds)) 0 ≡ or_free (h d) (get_or r (place_of d 0 (if is_none x then c ∷ filter is_free ds else filter is_free ds)) 0)
          by_choice (Some v) r = rest r
          by_choice None [] = rest []
          by_choice None (y ∷ r) = rest r ∙ sym ((λ j. or_free (h d) (get_or (y ∷ r) (if t.0 j then 0 else place_of d 1 (filter is_free ds)) 0)) ∙ ap (λ k. or_free (h d) (get_or (y ∷ r) k 0)) (shift d 0 (filter is_free ds)))
