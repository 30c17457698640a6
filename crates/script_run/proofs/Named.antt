-- Targets, by what stands in a module and what is named.
use Rattle.std.proofs.Common.{◌≡◌, ℕ, ◌==◌, ◌&&◌, Bool, true, false, cond, not, List, [], ◌∷◌, ◌++◌, map, Option, Some, None, refl, sym, ◌∙◌, eqb-true, eq-eqb}
use Rattle.std.specs.Prelude.{◌||◌, is_some, filter}
use Rattle.std.specs.List.{list_all, list_any}
use Rattle.std.proofs.lemmas.Bool.{and_parts, or_parts, ne_eqb, eqb-false}
use Rattle.mlir_ir.specs.Count.{first}
use Rattle.mlir_ir.specs.declared.tree.Op.{Op}
use Rattle.transform_handles.specs.Targets.{is_same, is_one_of}
use Rattle.transform_handles.specs.declared.target.Target.{Target}
use Rattle.transform_handles.specs.declared.target.Target.TheVariants.{Root, Function, Operation}
use Rattle.script_run.specs.Sessions.{are_different}

-- TESTS
pub or_true : (a : Bool) → (a || true) ≡ true
or_true true = refl
or_true false = refl

pub not_true : (b : Bool) → not b ≡ true → b ≡ false
not_true true e = absurd cc
not_true false e = refl

-- the first part of a choice stays, and the second goes over
pub through : (a b c : Bool) → (b ≡ true → c ≡ true) → (a || b) ≡ true → (a || c) ≡ true
through true b c h e = refl
through false b c h e = h e

-- the same of the first answer
pub first_through : (a b c d : Option Op) → (is_some a ≡ true → is_some c ≡ true) → (is_some b ≡ true → is_some d ≡ true) → is_some (first a b) ≡ true → is_some (first c d) ≡ true
first_through (Some x) b (Some y) d h k e = refl
first_through (Some x) b None d h k e = absurd (let q : false ≡ true = h refl in cc)
first_through None b (Some y) d h k e = refl
first_through None b None d h k e = k e

pub some_of : {A : Type 0} (x : Option A) → is_some x ≡ true → (a : A) × (x ≡ Some a)
some_of None e = absurd cc
some_of (Some a) e = (a, refl)

-- what passes p, and is none of r, passes q
pub all_of : {A : Type 0} (p q r : A → Bool) (xs : List A) → ((x : A) → p x ≡ true → r x ≡ false → q x ≡ true) → list_all p xs ≡ true → list_any r xs ≡ false → list_all q xs ≡ true
all_of p q r [] h a b = refl
all_of p q r (x ∷ xs) h a b =
    let s = and_parts (p x) (list_all p xs) a in
    let d = or_parts (r x) (list_any r xs) b in
    λ j. h x s.0 d.0 j && all_of p q r xs h s.1 d.1 j

pub none_of : {A : Type 0} (p q r : A → Bool) (xs : List A) → ((x : A) → p x ≡ true → r x ≡ false → q x ≡ false) → list_all p xs ≡ true → list_any r xs ≡ false → list_any q xs ≡ false
none_of p q r [] h a b = refl
none_of p q r (x ∷ xs) h a b =
    let s = and_parts (p x) (list_all p xs) a in
    let d = or_parts (r x) (list_any r xs) b in
    λ j. h x s.0 d.0 j || none_of p q r xs h s.1 d.1 j

-- THE SAME TARGET
number_sym : (m n : ℕ) → (m == n) ≡ (n == m)
number_sym m n = by_test (m == n) refl where
  by_test : (b : Bool) → (m == n) ≡ b → (m == n) ≡ (n == m)
  by_test true e = e ∙ sym (eq-eqb n m (sym (eqb-true m n e)))
  by_test false e = e ∙ sym (ne_eqb n m (λ q. eqb-false m n e (sym q)))

pub same_sym : (t u : Target) → is_same t u ≡ is_same u t
same_sym (Function k) (Function n) = number_sym k n
same_sym (Operation i) (Operation j) = number_sym i.0 j.0
same_sym Root Root = refl
same_sym Root (Function n) = refl
same_sym Root (Operation j) = refl
same_sym (Function k) Root = refl
same_sym (Function k) (Operation j) = refl
same_sym (Operation i) Root = refl
same_sym (Operation i) (Function n) = refl

-- one more at the end
pub different_last : (ts : List Target) (t : Target) → are_different ts ≡ true → is_one_of t ts ≡ false → are_different (ts ++ t ∷ []) ≡ true
different_last [] t d e = refl
different_last (u ∷ ts) t d e =
    let both = and_parts (not (is_one_of u ts)) (are_different ts) d in
    let apart = or_parts (is_same u t) (is_one_of t ts) e in
    λ j. not (still u ts t (not_true (is_one_of u ts) both.0) (same_sym t u ∙ apart.0) j) && different_last ts t both.1 apart.1 j
  where
    still : (u : Target) (ts : List Target) (t : Target) → is_one_of u ts ≡ false → is_same t u ≡ false → is_one_of u (ts ++ t ∷ []) ≡ false
    still u [] t a b = λ j. b j || false
    still u (v ∷ ts) t a b = let c = or_parts (is_same v u) (is_one_of u ts) a in λ j. c.0 j || still u ts t c.1 b j

-- PICKED
module _ {A : Type 0} (f : A → Target) (p : A → Bool) where
  pub none_picked : (t : Target) (xs : List A) → is_one_of t (map f xs) ≡ false → is_one_of t (map f (filter p xs)) ≡ false
  none_picked t [] e = refl
  none_picked t (x ∷ xs) e = by_test (p x) refl (none_picked t xs) (or_parts (is_same (f x) t) (is_one_of t (map f xs)) e) where
    by_test : (b : Bool) → p x ≡ b → (is_one_of t (map f xs) ≡ false → is_one_of t (map f (filter p xs)) ≡ false) → (is_same (f x) t ≡ false) × (is_one_of t (map f xs) ≡ false) →
        is_one_of t (map f (filter p (x ∷ xs))) ≡ false
    by_test true q rest d = (λ j. is_one_of t (map f (cond (q j) (x ∷ filter p xs) (filter p xs)))) ∙ (λ j. d.0 j || rest d.1 j)
    by_test false q rest d = (λ j. is_one_of t (map f (cond (q j) (x ∷ filter p xs) (filter p xs)))) ∙ rest d.1

  pub different_picked : (xs : List A) → are_different (map f xs) ≡ true → are_different (map f (filter p xs)) ≡ true
  different_picked [] e = refl
  different_picked (x ∷ xs) e = by_test (p x) refl (different_picked xs) (and_parts (not (is_one_of (f x) (map f xs))) (are_different (map f xs)) e) where
    by_test : (b : Bool) → p x ≡ b → (are_different (map f xs) ≡ true → are_different (map f (filter p xs)) ≡ true) →
        (not (is_one_of (f x) (map f xs)) ≡ true) × (are_different (map f xs) ≡ true) → are_different (map f (filter p (x ∷ xs))) ≡ true
    by_test true q rest d =
        (λ j. are_different (map f (cond (q j) (x ∷ filter p xs) (filter p xs)))) ∙ (λ j. not (none_picked (f x) xs (not_true (is_one_of (f x) (map f xs)) d.0) j) && rest d.1 j)
    by_test false q rest d = (λ j. are_different (map f (cond (q j) (x ∷ filter p xs) (filter p xs)))) ∙ rest d.1

  pub all_picked : (s : Target → Bool) (xs : List A) → list_all s (map f xs) ≡ true → list_all s (map f (filter p xs)) ≡ true
  all_picked s [] e = refl
  all_picked s (x ∷ xs) e = by_test (p x) refl (all_picked s xs) (and_parts (s (f x)) (list_all s (map f xs)) e) where
    by_test : (b : Bool) → p x ≡ b → (list_all s (map f xs) ≡ true → list_all s (map f (filter p xs)) ≡ true) → (s (f x) ≡ true) × (list_all s (map f xs) ≡ true) →
        list_all s (map f (filter p (x ∷ xs))) ≡ true
    by_test true q rest d = (λ j. list_all s (map f (cond (q j) (x ∷ filter p xs) (filter p xs)))) ∙ (λ j. d.0 j && rest d.1 j)
    by_test false q rest d = (λ j. list_all s (map f (cond (q j) (x ∷ filter p xs) (filter p xs)))) ∙ rest d.1
