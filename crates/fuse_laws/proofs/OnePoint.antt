-- An element of a generic whose output's map takes each dimension once.
use Rattle.std.proofs.Common.{◌≡◌, ℕ, ◌<◌, Bool, true, false, cond, List, [], ◌∷◌, length, get_or, filter, ⊎_elim, inl, inr, refl, ap, sym, subst, ◌∙◌, arith}
use Rattle.std.proofs.lemmas.Bool.{cases_Bool}
use Rattle.std.proofs.lemmas.List.{length-map, get_or-map}
use Rattle.mlir_meaning.specs.Grids.{at, points, InBox, same_point}
use Rattle.mlir_meaning.specs.Structured.{fold_points}
use Rattle.mlir_meaning.proofs.Cells.{same_point-refl, same_point-true}
use Rattle.point_laws.specs.Orders.{origin, old_point, new_point}
use Rattle.point_laws.proofs.Members.{IsIn, AreDistinct}
use Rattle.point_laws.proofs.Tables.{lists_same, tabled_at, tabled_length, box_length}
use Rattle.point_laws.proofs.Sorted.{sorted_distinct, points_sorted, point_in, point_inside}
use Rattle.point_laws.proofs.Turning.{Order, order_of, new_length, new_old, old_new, old_inside}
use Rattle.point_laws.specs.Boxes.{picks}
use Rattle.fuse_laws.specs.Laws.{OnePoint}

-- LISTS
module _ {A : Type 0} (test : A → Bool) where
  passes_none : (xs : List A) → ((y : A) → IsIn y xs → test y ≡ false) → filter test xs ≡ []
  passes_none [] h = refl
  passes_none (x ∷ xs) h = (λ j. cond (h x (inl refl) j) (x ∷ filter test xs) (filter test xs)) ∙ passes_none xs (λ y i. h y (inr i))

  -- one member alone passes
  pub passes_one : (xs : List A) (x : A) → IsIn x xs → AreDistinct xs → test x ≡ true → ((y : A) → IsIn y xs → test y ≡ true → y ≡ x) → filter test xs ≡ x ∷ []
  passes_one [] x i d t h = absurd i
  passes_one (y ∷ ys) x (inl e) d t h =
      (λ j. cond ((ap test (sym e) ∙ t) j) (y ∷ filter test ys) (filter test ys))
      ∙ (λ j. sym e j ∷ passes_none ys (λ z i. ⊎_elim (λ q. absurd (d.0 (subst (λ w. IsIn w ys) (h z (inr i) q ∙ e) i))) (λ f. f) (cases_Bool (test z))) j)
  passes_one (y ∷ ys) x (inr i) d t h =
      (λ j. cond (⊎_elim (λ q. absurd (d.0 (subst (λ w. IsIn w ys) (sym (h y (inl refl) q)) i))) (λ (f : test y ≡ false). f) (cases_Bool (test y)) j) (y ∷ filter test ys) (filter test ys))
      ∙ passes_one ys x i d.1 t (λ z k. h z (inr k))

-- POINTS
pub picks_new : (ds p : List ℕ) → picks ds p ≡ new_point ds p
picks_new ds p =
    lists_same 0 (picks ds p) (new_point ds p) (length-map ds (λ d. get_or p d 0) ∙ sym (tabled_length _ (length ds)))
    (λ k l. let m : k < length ds = omega (arith, l, length-map ds (λ d. get_or p d 0)) in
    get_or-map (λ d. get_or p d 0) ds k 0 0 m ∙ sym (tabled_at (λ i. get_or p (origin ds i) 0) (length ds) k 0 m))

pub one_point : OnePoint
one_point ds box step g e permutes b =
    let n = length box in
    let o : Order ds n = order_of ds n permutes in
    let inside : InBox (new_point ds box) e = subst (λ xs. InBox xs e) (picks_new ds box) b in
    let long : length e ≡ n = box_length (new_point ds box) e inside ∙ new_length ds n o box in
    let p : List ℕ = old_point ds e in
    ap (λ ps. fold_points step ps (at g e))
    (passes_one (λ q. same_point (picks ds q) e) (points box) p (point_in box p (old_inside ds n o box refl e inside)) (sorted_distinct (points box) (points_sorted box))
    ((λ j. same_point ((picks_new ds p ∙ new_old ds n o e long) j) e) ∙ same_point-refl e)
    (λ q i t. sym (old_new ds n o q (box_length box q (point_inside box q i))) ∙ ap (old_point ds) (sym (picks_new ds q) ∙ same_point-true (picks ds q) e t)))
