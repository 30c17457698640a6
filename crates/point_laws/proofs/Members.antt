-- Members of lists, and when lists are permutations of one another.
use Rattle.std.proofs.Common.{◌≡◌, Bool, true, false, cond, List, [], ◌∷◌, ◌++◌, map, filter, ◌⊎◌, inl, inr, ⊎_elim, IsPermutation, refl, ap, sym, subst, ◌∙◌}
use Rattle.std.specs.Prelude.{⊤}
use Rattle.std.proofs.lemmas.List.Sorted.{IsPermutation-refl, IsPermutation-cons, IsPermutation-middle, IsPermutation-trans}
use Rattle.mlir_meaning.specs.Grids.{Each}

-- MEMBERS
module _ {A : Type 0} where
  abbrev pub IsIn : A → List A → Type 0
  IsIn x [] = ⊥
  IsIn x (y ∷ ys) = (x ≡ y) ⊎ IsIn x ys

  abbrev pub AreDistinct : List A → Type 0
  AreDistinct [] = ⊤
  AreDistinct (x ∷ xs) = (IsIn x xs → ⊥) × AreDistinct xs

  pub each_in : (P : A → Type 0) (xs : List A) (x : A) → Each P xs → IsIn x xs → P x
  each_in P [] x h i = absurd i
  each_in P (y ∷ ys) x h (inl e) = subst P (sym e) h.0
  each_in P (y ∷ ys) x h (inr i) = each_in P ys x h.1 i

  pub in_left : (x : A) (xs ys : List A) → IsIn x xs → IsIn x (xs ++ ys)
  in_left x [] ys i = absurd i
  in_left x (y ∷ xs) ys (inl e) = inl e
  in_left x (y ∷ xs) ys (inr i) = inr (in_left x xs ys i)

  pub in_right : (x : A) (xs ys : List A) → IsIn x ys → IsIn x (xs ++ ys)
  in_right x [] ys i = i
  in_right x (y ∷ xs) ys i = inr (in_right x xs ys i)

  -- the part of a list without one of its members
  record Without (x : A) (ys : List A) : Type 0 where
    rest : List A
    permuted : IsPermutation ys (x ∷ rest)
    fewer : (y : A) → IsIn y rest → IsIn y ys
    others : (y : A) → IsIn y ys → (y ≡ x) ⊎ IsIn y rest
    apart : AreDistinct ys → AreDistinct rest × (IsIn x rest → ⊥)

module _ {A : Type 0} where
  without : (x : A) (ys : List A) → IsIn x ys → Without x ys
  without x [] i = absurd i
  without x (y ∷ ys) (inl e) = record {
    rest = ys;
    permuted = subst (λ z. IsPermutation (z ∷ ys) (x ∷ ys)) e (IsPermutation-refl (x ∷ ys));
    fewer = λ z i. inr i;
    others = λ z i. ⊎_elim (λ q. inl (q ∙ sym e)) (λ j. inr j) i;
    apart = λ d. (d.1, λ i. d.0 (subst (λ z. IsIn z ys) e i));
  }
  without x (y ∷ ys) (inr i) =
      let w = without x ys i in
      record {
        rest = y ∷ w.rest;
        permuted = IsPermutation-trans (y ∷ ys) (y ∷ x ∷ w.rest) (x ∷ y ∷ w.rest) (IsPermutation-cons y ys (x ∷ w.rest) w.permuted) (IsPermutation-middle (y ∷ []) x w.rest);
        fewer = λ z j. ⊎_elim (λ q. inl q) (λ k. inr (w.fewer z k)) j;
        others = λ z j. ⊎_elim (λ q. inr (inl q)) (λ k. ⊎_elim (λ e. inl e) (λ m. inr (inr m)) (w.others z k)) j;
        apart = λ d. let more = w.apart d.1 in
            (((λ j. d.0 (w.fewer y j)), more.0), λ j. ⊎_elim (λ q. d.0 (subst (λ z. IsIn z ys) q i)) (λ k. more.1 k) j);
      }

  -- lists without repeats that have the same members
  pub same_members : (xs ys : List A) → AreDistinct xs → AreDistinct ys → ((x : A) → IsIn x xs → IsIn x ys) → ((y : A) → IsIn y ys → IsIn y xs) → IsPermutation ys xs
  same_members [] [] d e to from = IsPermutation-refl []
  same_members [] (y ∷ ys) d e to from = absurd (from y (inl refl))
  same_members (x ∷ xs) ys d e to from =
      let w = without x ys (to x (inl refl)) in
      let apart = w.apart e in
      IsPermutation-trans ys (x ∷ w.rest) (x ∷ xs) w.permuted
      (IsPermutation-cons x w.rest xs (same_members xs w.rest d.1 apart.0
      (λ z i. ⊎_elim (λ (q : z ≡ x). absurd (d.0 (subst (λ v. IsIn v xs) q i))) (λ k. k) (w.others z (to z (inr i))))
      (λ z i. ⊎_elim (λ (q : z ≡ x). absurd (apart.1 (subst (λ v. IsIn v w.rest) q i))) (λ k. k) (from z (w.fewer z i)))))

module _ {A B : Type 0} (f : A → B) where
  pub map_in : (x : A) (xs : List A) → IsIn x xs → IsIn (f x) (map f xs)
  map_in x [] i = absurd i
  map_in x (y ∷ ys) (inl e) = inl (ap f e)
  map_in x (y ∷ ys) (inr i) = inr (map_in x ys i)

  pub map_from : (z : B) (xs : List A) → IsIn z (map f xs) → (x : A) × IsIn x xs × (z ≡ f x)
  map_from z [] i = absurd i
  map_from z (y ∷ ys) (inl e) = (y, inl refl, e)
  map_from z (y ∷ ys) (inr i) = let r = map_from z ys i in (r.0, inr r.1, r.2)

  pub distinct_map : (xs : List A) → ((x y : A) → IsIn x xs → IsIn y xs → f x ≡ f y → x ≡ y) → AreDistinct xs → AreDistinct (map f xs)
  distinct_map [] injective d = tt
  distinct_map (x ∷ xs) injective d = (
    (λ i. let r = map_from (f x) xs i in d.0 (subst (λ z. IsIn z xs) (sym (injective x r.0 (inl refl) (inr r.1) r.2)) r.1)),
    distinct_map xs (λ a b i j. injective a b (inr i) (inr j)) d.1,
  )

module _ {A : Type 0} (Q : A → Bool) where
  pub filter_in : (x : A) (xs : List A) → IsIn x xs → Q x ≡ true → IsIn x (filter Q xs)
  filter_in x [] i t = absurd i
  filter_in x (y ∷ ys) (inl e) t = subst (λ b. IsIn x (cond b (y ∷ filter Q ys) (filter Q ys))) (sym t ∙ ap Q e) (inl e)
  filter_in x (y ∷ ys) (inr i) t = by (Q y) (filter_in x ys i t)
    where
      by : (b : Bool) → IsIn x (filter Q ys) → IsIn x (cond b (y ∷ filter Q ys) (filter Q ys))
      by true k = inr k
      by false k = k

  pub filter_from : (x : A) (xs : List A) → IsIn x (filter Q xs) → IsIn x xs × (Q x ≡ true)
  filter_from x [] i = absurd i
  filter_from x (y ∷ ys) i = by (filter_from x ys) (Q y) refl i
    where
      by : (IsIn x (filter Q ys) → IsIn x ys × (Q x ≡ true)) → (b : Bool) → Q y ≡ b → IsIn x (cond b (y ∷ filter Q ys) (filter Q ys)) → IsIn x (y ∷ ys) × (Q x ≡ true)
      by rest true t (inl e) = (inl e, ap Q e ∙ t)
      by rest true t (inr k) = let r = rest k in (inr r.0, r.1)
      by rest false t k = let r = rest k in (inr r.0, r.1)
