-- A fold whose terms may change places is the same for every order of its terms, and may be cut anywhere.
use Rattle.std.proofs.Common.{◌≡◌, ℕ, zero, suc, ◌<◌, Bool, true, false, ◌&&◌, ◌||◌, cond, List, [], ◌∷◌, set, swap, length, get_or, fold, filter, IsPermutation, refl, ap, sym, ◌∙◌, arith, Option, Some, None}
use Rattle.std.proofs.lemmas.Bool.{true≢false}
use Rattle.std.proofs.lemmas.List.{set-get_or}
use Rattle.std.proofs.lemmas.List.Sorted.{IsPermutation-keeps}
use Rattle.mlir_meaning.specs.Grids.{Each}
use Rattle.point_laws.specs.Folds.{Swaps}
use Rattle.std.specs.Prelude.{option_and_then}
use Rattle.std.proofs.lemmas.List.Folds.{fold_stays}

without : {X : Type 0} → List X → ℕ → List X
without [] i = []
without (x ∷ xs) zero = xs
without (x ∷ xs) (suc i) = x ∷ without xs i

module _ {A X : Type 0} (f : A → X → A) (swaps : Swaps f) where
  pub fold_late : (x : X) (xs : List X) (a : A) → fold f (f a x) xs ≡ f (fold f a xs) x
  fold_late x [] a = refl
  fold_late x (y ∷ ys) a = ap (λ b. fold f b ys) (swaps a x y) ∙ fold_late x ys (f a y)

  -- ORDERS
  fold_set : (xs : List X) (i : ℕ) (x : X) → i < length xs → (a : A) → fold f a (set xs i x) ≡ f (fold f a (without xs i)) x
  unfolding without
  fold_set [] i x l a = absurd (omega arith)
  fold_set (y ∷ xs) zero x l a = fold_late x xs a
  fold_set (y ∷ xs) (suc i) x l a = fold_set xs i x (omega arith) (f a y)

  turn_two : (xs : List X) (j : ℕ) (x y : X) → j < length xs → (a : A) → fold f (f a y) (set xs j x) ≡ fold f (f a x) (set xs j y)
  turn_two xs j x y l a =
      fold_set xs j x l (f a y) ∙ ap (λ b. f b x) (fold_late y (without xs j) a) ∙ swaps (fold f a (without xs j)) y x
      ∙ ap (λ b. f b y) (sym (fold_late x (without xs j) a)) ∙ sym (fold_set xs j y l (f a x))

  exchanged : (xs : List X) (i j : ℕ) (x y d : X) → i < length xs → j < length xs → get_or xs i d ≡ x → get_or xs j d ≡ y → (a : A) → fold f a (set (set xs i y) j x) ≡ fold f a xs
  exchanged [] i j x y d l m e g a = absurd (omega arith)
  exchanged (z ∷ xs) zero zero x y d l m e g a = λ k. fold f (f a (sym e k)) xs
  exchanged (z ∷ xs) zero (suc j) x y d l m e g a =
      turn_two xs j x y (omega arith) a ∙ (λ k. fold f (f a (sym e k)) (set xs j (sym g k))) ∙ ap (fold f (f a z)) (set-get_or xs j d)
  exchanged (z ∷ xs) (suc i) zero x y d l m e g a =
      turn_two xs i y x (omega arith) a ∙ (λ k. fold f (f a (sym g k)) (set xs i (sym e k))) ∙ ap (fold f (f a z)) (set-get_or xs i d)
  exchanged (z ∷ xs) (suc i) (suc j) x y d l m e g a = exchanged xs i j x y d (omega arith) (omega arith) e g (f a z)

  swapped : (l : List X) (i j : ℕ) → i < length l → j < length l → (a : A) → fold f a (swap l i j) ≡ fold f a l
  swapped [] i j p q a = absurd (omega arith)
  swapped (d ∷ ys) i j p q a = exchanged (d ∷ ys) i j (get_or (d ∷ ys) i d) (get_or (d ∷ ys) j d) d p q refl refl a

  pub fold_any_order : (xs ys : List X) → IsPermutation xs ys → (a : A) → fold f a ys ≡ fold f a xs
  fold_any_order xs ys same a = IsPermutation-keeps xs (λ l. fold f a l ≡ fold f a xs) refl (λ l i j p q h. swapped l i j p q a ∙ h) ys same

  -- CUTS
  cut_one : (b c : Bool) (x : X) (ss ws us : List X) → (b && c) ≡ false → ((a : A) → fold f (fold f a ss) ws ≡ fold f a us) →
      (a : A) → fold f (fold f a (cond b (x ∷ ss) ss)) (cond c (x ∷ ws) ws) ≡ fold f a (cond (b || c) (x ∷ us) us)
  cut_one true true x ss ws us apart rest a = absurd (true≢false apart)
  cut_one true false x ss ws us apart rest a = rest (f a x)
  cut_one false true x ss ws us apart rest a = ap (λ b. fold f b ws) (sym (fold_late x ss a)) ∙ rest (f a x)
  cut_one false false x ss ws us apart rest a = rest a

  -- a fold over what passes one of two tests that exclude each other
  pub fold_cut : (S W : X → Bool) (xs : List X) → Each (λ x. (S x && W x) ≡ false) xs →
      (a : A) → fold f (fold f a (filter S xs)) (filter W xs) ≡ fold f a (filter (λ x. S x || W x) xs)
  fold_cut S W [] apart a = refl
  fold_cut S W (x ∷ xs) apart a = cut_one (S x) (W x) x _ _ _ apart.0 (fold_cut S W xs apart.1) a

pub fold_from : {A Q : Type 0} (one : Q → A → Option A) (qs : List Q) (o : Option A) →
    fold (λ o q. option_and_then (one q) o) o qs ≡ option_and_then (λ a. fold (λ o q. option_and_then (one q) o) (Some a) qs) o
fold_from one qs None = fold_stays (λ o q. option_and_then (one q) o) None (λ q. refl) qs
fold_from one qs (Some a) = refl
