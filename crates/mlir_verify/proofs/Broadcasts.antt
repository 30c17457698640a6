-- The axes of a broadcast that aren't added, one after the other.
use Rattle.std.proofs.Common.{◌≡◌, ℕ, suc, ◌+◌, ◌==◌, ◌&&◌, Bool, true, false, List, ◌∷◌, length, map, refl, ap, sym, ◌∙◌, arith, inl, inr}
use Rattle.std.specs.Prelude.{not, filter, if◌then◌else◌}
use Rattle.std.specs.List.{enumerate_from, list_all, zip}
use Rattle.std.proofs.lemmas.Bool.Decides.{eqb_tells}
use Rattle.affine_maps.specs.Permutation.{is_among}
use Rattle.mlir_ir.specs.declared.tree.Extent.{Extent}
use Rattle.mlir_verify.specs.Extents.{is_same_extent, are_same_extents}

-- the extents from axis k on whose axes aren't named
abbrev pub extents_from : List ℕ → ℕ → List Extent → List Extent
extents_from named k xs = map (λ a. a.1) (filter (λ a. not (is_among a.0 named)) (enumerate_from k xs))

pub named_is_left_out : (named : List ℕ) (k : ℕ) (x : Extent) (xs : List Extent) → is_among k named ≡ true → extents_from named k (x ∷ xs) ≡ extents_from named (k + 1) xs
named_is_left_out named k x xs e =
    ap (λ (b : Bool). map (λ (a : ℕ × Extent). a.1) (if not b then (k, x) ∷ filter (λ a. not (is_among a.0 named)) (enumerate_from (k + 1) xs) else filter (λ a. not (is_among a.0 named)) (enumerate_from (k + 1) xs))) e

pub other_is_kept : (named : List ℕ) (k : ℕ) (x : Extent) (xs : List Extent) → is_among k named ≡ false → extents_from named k (x ∷ xs) ≡ x ∷ extents_from named (k + 1) xs
other_is_kept named k x xs e =
    ap (λ (b : Bool). map (λ (a : ℕ × Extent). a.1) (if not b then (k, x) ∷ filter (λ a. not (is_among a.0 named)) (enumerate_from (k + 1) xs) else filter (λ a. not (is_among a.0 named)) (enumerate_from (k + 1) xs))) e

suc_eq : (m n : ℕ) → (suc m == suc n) ≡ (m == n)
suc_eq m n = elim (eqb_tells m n) as (λ _. (suc m == suc n) ≡ (m == n)) [
  | inl t ↦ elim (eqb_tells (suc m) (suc n)) as (λ _. (suc m == suc n) ≡ (m == n)) [ inl u ↦ u.0 ∙ sym t.0 | inr u ↦ absurd (u.1 (omega arith)) ]
  | inr t ↦ elim (eqb_tells (suc m) (suc n)) as (λ _. (suc m == suc n) ≡ (m == n)) [ inl u ↦ absurd (t.1 (let q = u.1 in omega arith)) | inr u ↦ u.0 ∙ sym t.0 ]
]

and_swaps : (a b c : Bool) → (a && (b && c)) ≡ (b && (a && c))
and_swaps true b c = refl
and_swaps false true c = refl
and_swaps false false c = refl

-- the first extents are the same, and then the rest
pub same_first : (x y : Extent) (xs ys : List Extent) → are_same_extents (x ∷ xs) (y ∷ ys) ≡ (is_same_extent x y && are_same_extents xs ys)
same_first x y xs ys =
    let rest = list_all (λ (z : Extent × Extent). is_same_extent z.0 z.1) (zip xs ys) in
    ap (λ b. b && (is_same_extent x y && rest)) (suc_eq (length xs) (length ys)) ∙ and_swaps (length xs == length ys) (is_same_extent x y) rest
