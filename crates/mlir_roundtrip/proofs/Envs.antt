-- Names in scope: what was found is still found, what is new is found, and the canonical names are new.
use Rattle.std.proofs.Common.{◌≡◌, ◌<◌, ◌^◌, ◌%◌, subst, ℕ, ◌+◌, Bool, true, false, cond, List, [], ◌∷◌, ◌++◌, Option, Some, None, refl, sym, ◌∙◌, arith, decimal}
use Rattle.std.specs.List.{AllByRecursion}
use Rattle.std.specs.Str.{bytes_eq}
use Rattle.std.proofs.Common.{inl, inr, ◌⊎◌}
use Rattle.std.proofs.lemmas.Bool.{cond-true}
use Rattle.std.proofs.lemmas.Slice.Eq.{bytes_eq-Decides}
use Rattle.std.proofs.lemmas.Fmt.{decimal_injective, decimal_by_steps}
use Rattle.mlir_scope.specs.declared.names.Meaning.{Meaning}
use Rattle.mlir_scope.specs.Names.{Entry, entry, find}
use Rattle.mlir_print.specs.declared.names.Given.TheVariants.{Argument, Result}
use Rattle.mlir_print.specs.Names.{given_text}

abbrev pub arg_name : ℕ → List ℕ
arg_name n = given_text (Argument n)

abbrev pub result_name : ℕ → List ℕ
result_name n = given_text (Result n)

pub same_bytes : (q : List ℕ) → bytes_eq q q ≡ true
same_bytes q = (bytes_eq-Decides q q).1 refl

false_if : (b : Bool) → (b ≡ true → ⊥) → b ≡ false
false_if true f = absurd (f refl)
false_if false f = refl

pub other_bytes : (p q : List ℕ) → (p ≡ q → ⊥) → bytes_eq p q ≡ false
other_bytes p q f = false_if (bytes_eq p q) (λ e. f ((bytes_eq-Decides p q).0 e))

more_if : (b : Bool) (m x : Meaning) (o p : Option Meaning) → (o ≡ Some x → p ≡ Some x) → cond b (Some m) o ≡ Some x → cond b (Some m) p ≡ Some x
more_if true m x o p f h = h
more_if false m x o p f h = f h

-- what was found is still found
pub find_more : (xs ys : List Entry) (q : List ℕ) (x : Meaning) → find xs q ≡ Some x → find (xs ++ ys) q ≡ Some x
find_more [] ys q x h = absurd (cc h)
find_more (e ∷ es) ys q x h = more_if (bytes_eq e.name q) e.means x (find es q) (find (es ++ ys) q) (λ k. find_more es ys q x k) h

new_if : (b : Bool) (m : Meaning) (o p x : Option Meaning) → (o ≡ None → p ≡ x) → cond b (Some m) o ≡ None → cond b (Some m) p ≡ x
new_if true m o p x f h = absurd (cc h)
new_if false m o p x f h = f h

-- what is new is found
pub find_new : (xs : List Entry) (q : List ℕ) (m : Meaning) → find xs q ≡ None → find (xs ++ entry q m ∷ []) q ≡ Some m
find_new [] q m h = cond-true (bytes_eq q q) (Some m) None (same_bytes q)
find_new (e ∷ es) q m h = new_if (bytes_eq e.name q) e.means (find es q) (find (es ++ entry q m ∷ []) q) (Some m) (λ k. find_new es q m k) h

-- ---- canonical names

-- one of the first so many names
abbrev pub IsCanon : ℕ → ℕ → List ℕ → Type 0
IsCanon a r n = ((k : ℕ) × (k < a) × (n ≡ arg_name k)) ⊎ ((k : ℕ) × (k < r) × (n ≡ result_name k))

abbrev pub AreCanon : ℕ → ℕ → List Entry → Type 0
AreCanon a r env = AllByRecursion (λ e. IsCanon a r e.name) env

pub record Small (a r : ℕ) : Type 0 where
  pub args : a < 2 ^ 64
  pub results : r < 2 ^ 64

abbrev first_is : ℕ → List ℕ → Type 0
first_is c [] = ⊥
first_is c (b ∷ bs) = b ≡ c

first_kept : (c : ℕ) (ds more : List ℕ) → first_is c (ds ++ more) → first_is c ds ⊎ (ds ≡ [])
first_kept c [] more h = inr refl
first_kept c (b ∷ bs) more h = inl h

abbrev NoLetter : ℕ → List ℕ → Type 0
NoLetter n ds = (first_is 97 ds → ⊥) × (ds ≡ [] → ⊥)

no_letter_more : (ds : List ℕ) (b : ℕ) → (first_is 97 ds → ⊥) × (ds ≡ [] → ⊥) → (first_is 97 (ds ++ b ∷ []) → ⊥) × (ds ++ b ∷ [] ≡ [] → ⊥)
no_letter_more [] b h = absurd (h.1 refl)
no_letter_more (d ∷ ds) b h = (h.0, λ e. absurd (cc e))

no_letter : (n : ℕ) → n < 2 ^ 64 → NoLetter n (decimal n)
no_letter n s = decimal_by_steps NoLetter (λ m small. ((λ (e : 48 + m ≡ 97). absurd (omega arith)), (λ e. absurd (cc e)))) (λ m ds big h. no_letter_more ds (48 + m % 10) h) n s

arg_arg : (j k : ℕ) → j < 2 ^ 64 → k < 2 ^ 64 → arg_name j ≡ arg_name k → j ≡ k
arg_arg j k a b e = decimal_injective j k a b (cc e)

result_result : (j k : ℕ) → j < 2 ^ 64 → k < 2 ^ 64 → result_name j ≡ result_name k → j ≡ k
result_result j k a b e = decimal_injective j k a b (cc e)

arg_result : (j k : ℕ) → k < 2 ^ 64 → arg_name j ≡ result_name k → ⊥
arg_result j k b e =
    let t : 97 ∷ (114 ∷ (103 ∷ decimal j)) ≡ decimal k = cc e in
    (no_letter k b).0 (subst (λ ds. first_is 97 ds) t refl)

none_if : (b : Bool) (m : Meaning) (o : Option Meaning) → b ≡ false → o ≡ None → cond b (Some m) o ≡ None
none_if true m o e h = absurd (cc e)
none_if false m o e h = h

-- an argument's name that comes next is new
pub fresh_arg : (a r : ℕ) (env : List Entry) → Small a r → AreCanon a r env → find env (arg_name a) ≡ None
fresh_arg a r [] s h = refl
fresh_arg a r (e ∷ es) s h = none_if (bytes_eq e.name (arg_name a)) e.means (find es (arg_name a)) (other_bytes e.name (arg_name a) (apart h.0)) (fresh_arg a r es s h.1)
  where
    apart : IsCanon a r e.name → e.name ≡ arg_name a → ⊥
    apart (inl p) q = let k = arg_arg p.0 a (omega (arith, s.args, p.1)) s.args (sym p.2 ∙ q) in absurd (omega (arith, p.1, k))
    apart (inr p) q = arg_result a p.0 (omega (arith, s.results, p.1)) (sym q ∙ p.2)

pub fresh_result : (a r : ℕ) (env : List Entry) → Small a r → AreCanon a r env → find env (result_name r) ≡ None
fresh_result a r [] s h = refl
fresh_result a r (e ∷ es) s h = none_if (bytes_eq e.name (result_name r)) e.means (find es (result_name r)) (other_bytes e.name (result_name r) (apart h.0)) (fresh_result a r es s h.1)
  where
    apart : IsCanon a r e.name → e.name ≡ result_name r → ⊥
    apart (inl p) q = arg_result p.0 r s.results (sym p.2 ∙ q)
    apart (inr p) q = let k = result_result p.0 r (omega (arith, s.results, p.1)) s.results (sym p.2 ∙ q) in absurd (omega (arith, p.1, k))
