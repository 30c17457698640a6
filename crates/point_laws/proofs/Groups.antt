-- A list in groups, where each element is in one group.
use Rattle.std.proofs.Common.{◌≡◌, Bool, true, false, cond, List, [], ◌∷◌, ◌++◌, map, fold, filter, IsPermutation, refl, ap, sym, ◌∙◌, subst, append_assoc, append-nil}
use Rattle.std.specs.Prelude.{flat_map}
use Rattle.std.proofs.lemmas.List.Sorted.{IsPermutation-refl, IsPermutation-trans, IsPermutation-append_left, IsPermutation-append_right, IsPermutation-append_comm}
use Rattle.mlir_meaning.specs.Grids.{Each}
use Rattle.point_laws.specs.Folds.{Swaps}
use Rattle.point_laws.proofs.Lists.{flat_map_none, filter-same, filter_all, filter_none, fold-flat_map}
use Rattle.point_laws.proofs.Folds.{fold_any_order}

abbrev only : {X : Type 0} → Bool → X → List X
only b x = cond b (x ∷ []) []

front : {X : Type 0} (b : Bool) (x : X) (xs : List X) → cond b (x ∷ xs) xs ≡ only b x ++ xs
front true x xs = refl
front false x xs = refl

pub filter_const : {X : Type 0} (b : Bool) (xs : List X) → filter (λ _. b) xs ≡ cond b xs []
filter_const true xs = filter_all xs
filter_const false xs = filter_none xs

module _ {Q X : Type 0} where
  two_joins : (f g : Q → List X) (qs : List Q) → IsPermutation (flat_map f qs ++ flat_map g qs) (flat_map (λ q. f q ++ g q) qs)
  two_joins f g [] = IsPermutation-refl []
  two_joins f g (q ∷ qs) =
      let F : List X = flat_map f qs in
      let G : List X = flat_map g qs in
      let FG : List X = flat_map (λ q. f q ++ g q) qs in
      let late : IsPermutation (F ++ (g q ++ G)) (g q ++ FG) =
      subst (λ l. IsPermutation l (g q ++ FG)) (append_assoc F (g q) G)
      (IsPermutation-trans _ ((g q ++ F) ++ G) _ (IsPermutation-append_left G (F ++ g q) (g q ++ F) (IsPermutation-append_comm F (g q)))
      (subst (λ l. IsPermutation l (g q ++ FG)) (sym (append_assoc (g q) F G)) (IsPermutation-append_right (g q) (F ++ G) FG (two_joins f g qs)))) in
      subst (λ l. IsPermutation l ((f q ++ g q) ++ FG)) (sym (append_assoc (f q) F (g q ++ G)))
      (subst (λ l. IsPermutation (f q ++ (F ++ (g q ++ G))) l) (sym (append_assoc (f q) (g q) FG)) (IsPermutation-append_right (f q) (F ++ (g q ++ G)) (g q ++ FG) late))

  joined_only : (t : Q → Bool) (x : X) (qs : List Q) → flat_map (λ q. only (t q) x) qs ≡ map (λ _. x) (filter t qs)
  joined_only t x [] = refl
  joined_only t x (q ∷ qs) = one (t q) (joined_only t x qs)
    where
      one : (b : Bool) → flat_map (λ q. only (t q) x) qs ≡ map (λ _. x) (filter t qs) → only b x ++ flat_map (λ q. only (t q) x) qs ≡ map (λ _. x) (cond b (q ∷ filter t qs) (filter t qs))
      one true e = ap (λ l. x ∷ l) e
      one false e = e

  -- each element of xs passes the test of one q
  abbrev pub InOne : (Q → X → Bool) → List Q → X → Type 0
  InOne T qs x = (k : Q) × (filter (λ q. T q x) qs ≡ k ∷ [])

  pub groups_permute : (T : Q → X → Bool) (qs : List Q) (xs : List X) → Each (InOne T qs) xs → IsPermutation xs (flat_map (λ q. filter (T q) xs) qs)
  groups_permute T qs [] h = subst (λ l. IsPermutation [] l) (sym (flat_map_none X qs)) (IsPermutation-refl [])
  groups_permute T qs (x ∷ xs) h =
      let rest : List X = flat_map (λ q. filter (T q) xs) qs in
      let first : flat_map (λ q. only (T q x) x) qs ≡ x ∷ [] = joined_only (λ q. T q x) x qs ∙ ap (map (λ _. x)) h.0.1 in
      IsPermutation-trans (x ∷ xs) (x ∷ rest) _ (IsPermutation-append_right (x ∷ []) xs rest (groups_permute T qs xs h.1))
      (subst (λ l. IsPermutation (l ++ rest) (flat_map (λ q. filter (T q) (x ∷ xs)) qs)) first
      (subst (λ l. IsPermutation (flat_map (λ q. only (T q x) x) qs ++ rest) l) (λ j. flat_map (λ q. sym (front (T q x) x (filter (T q) xs)) j) qs)
      (two_joins (λ q. only (T q x) x) (λ q. filter (T q) xs) qs)))

  -- where all elements are in one group, the groups are the list
  all_or_none : (t : Q → Bool) (xs : List X) (qs : List Q) → flat_map (λ q. cond (t q) xs []) qs ≡ flat_map (λ _. xs) (filter t qs)
  all_or_none t xs [] = refl
  all_or_none t xs (q ∷ qs) = one (t q) (all_or_none t xs qs)
    where
      one : (b : Bool) → flat_map (λ q. cond (t q) xs []) qs ≡ flat_map (λ _. xs) (filter t qs) →
          cond b xs [] ++ flat_map (λ q. cond (t q) xs []) qs ≡ flat_map (λ _. xs) (cond b (q ∷ filter t qs) (filter t qs))
      one true e = ap (λ l. xs ++ l) e
      one false e = e

  pub groups_are : (T : Q → X → Bool) (t : Q → Bool) (qs : List Q) (xs : List X) → ((q : Q) → Each (λ x. T q x ≡ t q) xs) → (k : Q) → filter t qs ≡ k ∷ [] →
      flat_map (λ q. filter (T q) xs) qs ≡ xs
  groups_are T t qs xs same k one =
      (λ j. flat_map (λ q. (filter-same (T q) (λ _. t q) xs (same q) ∙ filter_const (t q) xs) j) qs)
      ∙ all_or_none t xs qs ∙ ap (flat_map (λ _. xs)) one ∙ append-nil xs

  -- folds over groups
  pub fold_groups : {A : Type 0} (f : A → X → A) → Swaps f → (T : Q → X → Bool) (qs : List Q) (xs : List X) → Each (InOne T qs) xs →
      (a : A) → fold (λ a q. fold f a (filter (T q) xs)) a qs ≡ fold f a xs
  fold_groups f swaps T qs xs h a =
      sym (fold-flat_map f (λ q. filter (T q) xs) qs a) ∙ fold_any_order f swaps xs (flat_map (λ q. filter (T q) xs) qs) (groups_permute T qs xs h) a

  pub fold_one_group : {A : Type 0} (f : A → X → A) (T : Q → X → Bool) (t : Q → Bool) (qs : List Q) (xs : List X) → ((q : Q) → Each (λ x. T q x ≡ t q) xs) → (k : Q) → filter t qs ≡ k ∷ [] →
      (a : A) → fold (λ a q. fold f a (filter (T q) xs)) a qs ≡ fold f a xs
  fold_one_group f T t qs xs same k one a =
      sym (fold-flat_map f (λ q. filter (T q) xs) qs a) ∙ ap (fold f a) (groups_are T t qs xs same k one)
