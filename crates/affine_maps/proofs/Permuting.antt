-- A map is a projected permutation exactly where its results are dimensions that don't repeat.
use Rattle.std.proofs.Common.{◌≡◌, ℕ, ◌&&◌, Bool, true, false, IsTrue, ℤ, pos, List, [], ◌∷◌, map, ap, refl, sym, ◌∙◌, subst, Option, Some, None}
use Rattle.std.specs.Prelude.{not, is_some, if◌then◌else◌}
use Rattle.std.specs.Ordering.{int_eq}
use Rattle.std.specs.List.{list_all, cons_option}
use Rattle.std.proofs.lemmas.Bool.Decides.{Decides-int_eq}
use Rattle.affine_maps.specs.declared.map.Expr.{Expr}
use Rattle.affine_maps.specs.Shape.{MapShape}
use Rattle.affine_maps.specs.Map.{dimension}
use Rattle.affine_maps.specs.Permutation.{dimension_of_terms, dimension_of, dimensions_of, repeats, is_projected_permutation, IsProjectedPermutation}
use Rattle.affine_maps.proofs.Listed.{and_left, and_right, and_both}

int_eq_is : (a b : ℤ) → int_eq a b ≡ true → a ≡ b
int_eq_is a b h = (Decides-int_eq a b).0 h

chosen : (b : Bool) (o : Option ℕ) (k : ℕ) → (if b then o else None) ≡ Some k → (b ≡ true) × (o ≡ Some k)
chosen true o k h = (refl, h)
chosen false o k h = absurd cc

terms_alone : (ts : List (ℕ × ℤ)) (k : ℕ) → dimension_of_terms ts ≡ Some k → ts ≡ (k, pos 1) ∷ []
terms_alone [] k h = absurd cc
terms_alone (t ∷ []) k h =
    let p = chosen (int_eq t.1 (pos 1)) (Some t.0) k h in
    let a : t.0 ≡ k = (let q = p.1 in cc) in
    let b = int_eq_is t.1 (pos 1) p.0 in
    ap (λ (n : ℕ). (n, t.1) ∷ []) a ∙ ap (λ (z : ℤ). (k, z) ∷ []) b
terms_alone (t ∷ u ∷ ts) k h = absurd cc

alone : (e : Expr) (k : ℕ) → dimension_of e ≡ Some k → e ≡ dimension k
alone e k h =
    let p = chosen (int_eq e.constant (pos 0)) (dimension_of_terms e.terms) k h in
    let a = int_eq_is e.constant (pos 0) p.0 in
    let b = terms_alone e.terms k p.1 in
    ap (λ (z : ℤ). let f : Expr = record { constant = z; terms = e.terms } in f) a ∙ ap (λ (ts : List (ℕ × ℤ)). let f : Expr = record { constant = pos 0; terms = ts } in f) b

dimension_alone : (k : ℕ) → dimension_of (dimension k) ≡ Some k
dimension_alone k = refl

dimensions_alone : (ks : List ℕ) → dimensions_of (map dimension ks) ≡ ks
dimensions_alone [] = refl
dimensions_alone (k ∷ ks) = ap (λ (xs : List ℕ). k ∷ xs) (dimensions_alone ks)

all_alone : (ks : List ℕ) → list_all (λ e. is_some (dimension_of e)) (map dimension ks) ≡ true
all_alone [] = refl
all_alone (k ∷ ks) = all_alone ks

are_dimensions : (es : List Expr) → IsTrue (list_all (λ e. is_some (dimension_of e)) es) → es ≡ map dimension (dimensions_of es)
are_dimensions [] h = refl
are_dimensions (e ∷ es) h = by_dimension (dimension_of e) refl (are_dimensions es (and_right _ _ h)) (and_left _ _ h) where
  by_dimension : (o : Option ℕ) → dimension_of e ≡ o → es ≡ map dimension (dimensions_of es) → IsTrue (is_some (dimension_of e)) → e ∷ es ≡ map dimension (cons_option (dimension_of e) (dimensions_of es))
  by_dimension None q r s = absurd (let t = sym s ∙ ap is_some q in cc)
  by_dimension (Some k) q r s =
      ap (λ (x : Expr). x ∷ es) (alone e k q) ∙ ap (λ (xs : List Expr). dimension k ∷ xs) r
      ∙ sym (ap (λ (o : Option ℕ). map dimension (cons_option o (dimensions_of es))) q)

not_true : (b : Bool) → IsTrue (not b) → b ≡ false
not_true true h = absurd cc
not_true false h = refl

pub to_dimensions : (m : MapShape) → IsTrue (is_projected_permutation m) → IsProjectedPermutation m
to_dimensions m h = (dimensions_of m.results, are_dimensions m.results (and_left _ _ h), not_true _ (and_right (list_all (λ e. is_some (dimension_of e)) m.results) _ h))

pub from_dimensions : (m : MapShape) → IsProjectedPermutation m → IsTrue (is_projected_permutation m)
from_dimensions m h =
    subst (λ (es : List Expr). IsTrue (list_all (λ e. is_some (dimension_of e)) es && not (repeats (dimensions_of es)))) (sym h.1)
    (and_both _ _ (all_alone h.0) (ap (λ (ks : List ℕ). not (repeats ks)) (dimensions_alone h.0) ∙ ap not h.2))
