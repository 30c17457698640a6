-- Lists as tables, and the coordinates of points of boxes.
use Rattle.std.proofs.Common.{◌≡◌, ℕ, zero, suc, ◌+◌, ◌<◌, Bool, true, List, [], ◌∷◌, map, length, get_or, ⊎_elim, refl, ap, sym, subst, ◌∙◌, arith, zero-add, pos, ◌==◌, ◌||◌}
use Rattle.std.specs.List.{list_all}
use Rattle.std.proofs.lemmas.Bool.{and_parts, false≢true, cases_Bool, eqb-true}
use Rattle.std.proofs.lemmas.List.{length-map, get_or-map}
use Rattle.mlir_meaning.specs.Grids.{Each, InBox, count_up, plus, Fits}
use Rattle.affine_maps.specs.Value.{coordinate}
use Rattle.mlir_meaning.specs.Points.{has}
use Rattle.point_laws.specs.Boxes.{picks}

-- TABLES
pub count_length : (a n : ℕ) → length (count_up a n) ≡ n
count_length a zero = refl
count_length a (suc n) = ap suc (count_length (a + 1) n)

pub count_at : (a n k d : ℕ) → k < n → get_or (count_up a n) k d ≡ a + k
count_at a zero k d l = absurd (omega arith)
count_at a (suc n) zero d l = omega arith
count_at a (suc n) (suc k) d l = let e = count_at (a + 1) n k d (omega arith) in omega (arith, e)

pub count_here : (n k d : ℕ) → k < n → get_or (count_up 0 n) k d ≡ k
count_here n k d l = count_at 0 n k d l ∙ zero-add k

pub tabled_at : {A : Type 0} (f : ℕ → A) (n k : ℕ) (d : A) → k < n → get_or (map f (count_up 0 n)) k d ≡ f k
tabled_at f n k d l = get_or-map f (count_up 0 n) k 0 d (omega (arith, count_length 0 n)) ∙ ap f (count_here n k 0 l)

pub tabled_length : {A : Type 0} (f : ℕ → A) (n : ℕ) → length (map f (count_up 0 n)) ≡ n
tabled_length f n = length-map (count_up 0 n) f ∙ count_length 0 n

pub counted_each : (p : ℕ → Bool) (xs : List ℕ) (k : ℕ) → k < length xs → list_all p xs ≡ true → p (get_or xs k 0) ≡ true
counted_each p [] k l h = absurd (omega arith)
counted_each p (x ∷ xs) zero l h = (and_parts (p x) _ h).0
counted_each p (x ∷ xs) (suc k) l h = counted_each p xs k (omega arith) (and_parts (p x) _ h).1

pub counted_all : (p : ℕ → Bool) (n k : ℕ) → list_all p (count_up 0 n) ≡ true → k < n → p k ≡ true
counted_all p n k h l = sym (ap p (count_here n k 0 l)) ∙ counted_each p (count_up 0 n) k (omega (arith, count_length 0 n)) h

pub lists_same : {A : Type 0} (d : A) (xs ys : List A) → length xs ≡ length ys → ((k : ℕ) → k < length xs → get_or xs k d ≡ get_or ys k d) → xs ≡ ys
lists_same d [] [] l h = refl
lists_same d [] (y ∷ ys) l h = absurd (omega arith)
lists_same d (x ∷ xs) [] l h = absurd (omega arith)
lists_same d (x ∷ xs) (y ∷ ys) l h = λ j. h 0 (omega arith) j ∷ lists_same d xs ys (omega arith) (λ k m. h (suc k) (omega arith)) j

-- BOXES BY COORDINATES
pub box_length : (es p : List ℕ) → InBox es p → length p ≡ length es
box_length [] [] h = refl
box_length [] (i ∷ p) h = absurd h
box_length (e ∷ es) [] h = absurd h
box_length (e ∷ es) (i ∷ p) h = ap suc (box_length es p h.1)

pub in_box : (es p : List ℕ) → length p ≡ length es → ((k : ℕ) → k < length es → get_or p k 0 < get_or es k 0) → InBox es p
in_box [] [] l h = tt
in_box [] (i ∷ p) l h = absurd (omega arith)
in_box (e ∷ es) [] l h = absurd (omega arith)
in_box (e ∷ es) (i ∷ p) l h = (h 0 (omega arith), in_box es p (omega arith) (λ k m. h (suc k) (omega arith)))

-- COORDINATES
pub get_or-pos : (p : List ℕ) (d : ℕ) → coordinate (map pos p) d ≡ pos (get_or p d 0)
get_or-pos [] d = refl
get_or-pos (i ∷ p) zero = refl
get_or-pos (i ∷ p) (suc d) = get_or-pos p d

pub get_or-plus : (es os ns p : List ℕ) (d : ℕ) → Fits es os ns → InBox ns p → get_or (plus p os) d 0 ≡ get_or p d 0 + get_or os d 0
get_or-plus [] [] [] [] d h b = refl
get_or-plus (e ∷ es) (o ∷ os) (n ∷ ns) (i ∷ p) zero h b = refl
get_or-plus (e ∷ es) (o ∷ os) (n ∷ ns) (i ∷ p) (suc d) h b = get_or-plus es os ns p d h.1 b.1
get_or-plus [] [] [] (i ∷ p) d h b = absurd b
get_or-plus (e ∷ es) (o ∷ os) (n ∷ ns) [] d h b = absurd b
get_or-plus [] (o ∷ os) ns p d h b = absurd h
get_or-plus [] [] (n ∷ ns) p d h b = absurd h
get_or-plus (e ∷ es) [] ns p d h b = absurd h
get_or-plus (e ∷ es) (o ∷ os) [] p d h b = absurd h

pub get_or-in : (ns p : List ℕ) (d : ℕ) → InBox ns p → d < length ns → get_or p d 0 < get_or ns d 0
get_or-in (e ∷ es) (i ∷ p) zero h l = h.0
get_or-in (e ∷ es) (i ∷ p) (suc d) h l = get_or-in es p d h.1 (omega arith)
get_or-in [] p d h l = absurd (omega arith)
get_or-in (e ∷ es) [] d h l = absurd h

pub fits_length : (es os ns : List ℕ) → Fits es os ns → length ns ≡ length es
fits_length [] [] [] h = refl
fits_length (e ∷ es) (o ∷ os) (n ∷ ns) h = ap suc (fits_length es os ns h.1)
fits_length [] (o ∷ os) ns h = absurd h
fits_length [] [] (n ∷ ns) h = absurd h
fits_length (e ∷ es) [] ns h = absurd h
fits_length (e ∷ es) (o ∷ os) [] h = absurd h

-- a dimension of the output can't, where the output's element is an old one
pub picked_below : (ds box p : List ℕ) (d : ℕ) → InBox (picks ds box) (picks ds p) → has ds d ≡ true → get_or p d 0 < get_or box d 0
picked_below [] box p d b h = absurd (false≢true h)
picked_below (x ∷ ds) box p d b h =
    ⊎_elim (λ t. subst (λ k. get_or p k 0 < get_or box k 0) (eqb-true x d t) b.0)
    (λ f. picked_below ds box p d b.1 ((λ j. sym f j || has ds d) ∙ h)) (cases_Bool (x == d))

pub each_get : (P : ℕ → Type 0) (xs : List ℕ) (k : ℕ) → Each P xs → k < length xs → P (get_or xs k 0)
each_get P [] k h l = absurd (omega arith)
each_get P (x ∷ xs) zero h l = h.0
each_get P (x ∷ xs) (suc k) h l = each_get P xs k h.1 (omega arith)
