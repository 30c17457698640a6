-- Lists of points in lexicographic order, and the points of a box.
use Rattle.std.proofs.Common.{◌≡◌, ℕ, zero, suc, ◌+◌, ◌<◌, ◌≤◌, Bool, true, false, cond, List, [], ◌∷◌, ◌++◌, map, filter, ◌⊎◌, inl, inr, ⊎_elim, refl, ap, sym, subst, ◌∙◌, arith}
use Rattle.std.specs.Prelude.{⊤, flat_map}
use Rattle.mlir_meaning.specs.Grids.{Each, InBox, points, count_up}
use Rattle.mlir_meaning.proofs.Grids.{each-append, each-map, each_point}
use Rattle.point_laws.proofs.Lists.{each-filter}
use Rattle.point_laws.proofs.Members.{IsIn, AreDistinct, each_in, in_left, in_right, map_in}

-- LEXICOGRAPHIC ORDER
abbrev pub Before : List ℕ → List ℕ → Type 0
Before (i ∷ p) (j ∷ q) = (i < j) ⊎ ((i ≡ j) × Before p q)
Before _ _ = ⊥

pub not_before : (p : List ℕ) → Before p p → ⊥
not_before [] h = h
not_before (i ∷ p) (inl l) = omega (arith, l)
not_before (i ∷ p) (inr h) = not_before p h.1

one_way : (p q : List ℕ) → Before p q → Before q p → ⊥
one_way (i ∷ p) (j ∷ q) (inl l) (inl m) = omega (arith, l, m)
one_way (i ∷ p) (j ∷ q) (inl l) (inr m) = omega (arith, l, m.0)
one_way (i ∷ p) (j ∷ q) (inr l) (inl m) = omega (arith, l.0, m)
one_way (i ∷ p) (j ∷ q) (inr l) (inr m) = one_way p q l.1 m.1
one_way [] q h k = absurd h
one_way (i ∷ p) [] h k = absurd h

abbrev pub AreSorted : List (List ℕ) → Type 0
AreSorted [] = ⊤
AreSorted (p ∷ ps) = Each (Before p) ps × AreSorted ps

pub sorted_distinct : (ps : List (List ℕ)) → AreSorted ps → AreDistinct ps
sorted_distinct [] h = tt
sorted_distinct (p ∷ ps) h = ((λ i. not_before p (each_in (Before p) ps p h.0 i)), sorted_distinct ps h.1)

-- sorted lists with the same members are the same
pub sorted_same : (ps qs : List (List ℕ)) → AreSorted ps → AreSorted qs → ((p : List ℕ) → IsIn p ps → IsIn p qs) → ((q : List ℕ) → IsIn q qs → IsIn q ps) → ps ≡ qs
sorted_same [] [] s t to from = refl
sorted_same [] (q ∷ qs) s t to from = absurd (from q (inl refl))
sorted_same (p ∷ ps) [] s t to from = absurd (to p (inl refl))
sorted_same (p ∷ ps) (q ∷ qs) s t to from =
    let same : p ≡ q = ⊎_elim (λ e. e) (λ i. ⊎_elim (λ e. sym e) (λ j. absurd (one_way p q (each_in (Before p) ps q s.0 j) (each_in (Before q) qs p t.0 i))) (from q (inl refl))) (to p (inl refl)) in
    let rest : ps ≡ qs = sorted_same ps qs s.1 t.1
    (λ x i. ⊎_elim (λ e. absurd (not_before p (each_in (Before p) ps p s.0 (subst (λ z. IsIn z ps) (e ∙ sym same) i)))) (λ k. k) (to x (inr i)))
    (λ x i. ⊎_elim (λ e. absurd (not_before q (each_in (Before q) qs q t.0 (subst (λ z. IsIn z qs) (e ∙ same) i)))) (λ k. k) (from x (inr i))) in
    λ j. same j ∷ rest j

pub filter_sorted : (Q : List ℕ → Bool) (ps : List (List ℕ)) → AreSorted ps → AreSorted (filter Q ps)
filter_sorted Q [] s = tt
filter_sorted Q (p ∷ ps) s = by (Q p) (filter_sorted Q ps s.1)
  where
    by : (b : Bool) → AreSorted (filter Q ps) → AreSorted (cond b (p ∷ filter Q ps) (filter Q ps))
    by true k = (each-filter (Before p) Q ps s.0, k)
    by false k = k

pub map_sorted : (f : List ℕ → List ℕ) (ps : List (List ℕ)) → ((p q : List ℕ) → IsIn p ps → IsIn q ps → Before p q → Before (f p) (f q)) → AreSorted ps → AreSorted (map f ps)
map_sorted f [] k s = tt
map_sorted f (p ∷ ps) k s = (later ps s.0 (λ q i. inr i), map_sorted f ps (λ a b i j. k a b (inr i) (inr j)) s.1)
  where
    later : (qs : List (List ℕ)) → Each (Before p) qs → ((q : List ℕ) → IsIn q qs → IsIn q (p ∷ ps)) → Each (Before (f p)) (map f qs)
    later [] h i = tt
    later (q ∷ qs) h i = (k p q (inl refl) (i q (inl refl)) h.0, later qs h.1 (λ x j. i x (inr j)))

append_sorted : (ps qs : List (List ℕ)) → AreSorted ps → AreSorted qs → Each (λ p. Each (Before p) qs) ps → AreSorted (ps ++ qs)
append_sorted [] qs s t h = t
append_sorted (p ∷ ps) qs s t h = (each-append (Before p) ps qs s.0 h.0, append_sorted ps qs s.1 t h.1)

all_each : {A : Type 0} (P : A → Type 0) (xs : List A) → ((x : A) → P x) → Each P xs
all_each P [] h = tt
all_each P (x ∷ xs) h = (h x, all_each P xs h)

module _ (es : List ℕ) (s : AreSorted (points es)) where
  abbrev row : ℕ → List (List ℕ)
  row i = map (λ p. i ∷ p) (points es)

  row_sorted : (i : ℕ) → AreSorted (row i)
  row_sorted i = map_sorted (λ p. i ∷ p) (points es) (λ p q a b h. inr (refl, h)) s

  rows_after : (i a n : ℕ) → i < a → (p : List ℕ) → Each (Before (i ∷ p)) (flat_map row (count_up a n))
  rows_after i a zero l p = tt
  rows_after i a (suc n) l p =
      each-append (Before (i ∷ p)) (row a) (flat_map row (count_up (a + 1) n)) (each-map (Before (i ∷ p)) (λ q. a ∷ q) (points es) (all_each _ (points es) (λ q. inl l))) (rows_after i (a + 1) n (omega arith) p)

  rows_sorted : (a n : ℕ) → AreSorted (flat_map row (count_up a n))
  rows_sorted a zero = tt
  rows_sorted a (suc n) =
      append_sorted (row a) (flat_map row (count_up (a + 1) n)) (row_sorted a) (rows_sorted (a + 1) n)
      (each-map (λ p. Each (Before p) (flat_map row (count_up (a + 1) n))) (λ p. a ∷ p) (points es) (all_each _ (points es) (λ p. rows_after a (a + 1) n (omega arith) p)))

pub points_sorted : (es : List ℕ) → AreSorted (points es)
points_sorted [] = (tt, tt)
points_sorted (e ∷ es) = rows_sorted es (points_sorted es) 0 e

-- the points of a box are those that lie in it
module _ (es : List ℕ) where
  pub point_inside : (p : List ℕ) → IsIn p (points es) → InBox es p
  point_inside p i = each_in (InBox es) (points es) p (each_point es) i

row_in : {A : Type 0} (f : ℕ → List A) (x : A) (a n k : ℕ) → a ≤ k → k < a + n → IsIn x (f k) → IsIn x (flat_map f (count_up a n))
row_in f x a zero k l m i = absurd (omega arith)
row_in f x a (suc n) k l m i =
    ⊎_elim (λ (e : k ≡ a). in_left x (f a) (flat_map f (count_up (a + 1) n)) (subst (λ j. IsIn x (f j)) e i))
    (λ (g : a < k). in_right x (f a) (flat_map f (count_up (a + 1) n)) (row_in f x (a + 1) n k (omega arith) (omega arith) i)) (same_or_more k a l)
  where
    same_or_more : (k a : ℕ) → a ≤ k → (k ≡ a) ⊎ (a < k)
    same_or_more zero zero l = inl refl
    same_or_more zero (suc a) l = absurd (omega arith)
    same_or_more (suc k) zero l = inr (omega arith)
    same_or_more (suc k) (suc a) l = ⊎_elim (λ e. inl (ap suc e)) (λ g. inr (omega arith)) (same_or_more k a (omega arith))

pub point_in : (es p : List ℕ) → InBox es p → IsIn p (points es)
point_in [] [] h = inl refl
point_in (e ∷ es) (i ∷ p) h = row_in (λ k. map (λ q. k ∷ q) (points es)) (i ∷ p) 0 e i (omega arith) (omega (arith, h.0)) (map_in (λ q. i ∷ q) p (points es) (point_in es p h.1))
point_in [] (i ∷ p) h = absurd h
point_in (e ∷ es) [] h = absurd h
