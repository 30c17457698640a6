-- The number of a name among those that are declared.
use Rattle.std.proofs.Common.{◌≡◌, ℕ, ◌+◌, suc, Bool, true, false, cond, List, [], ◌∷◌, ◌++◌, length, Option, Some, None, refl, sym, ap, ◌∙◌, arith}
use Rattle.std.specs.Str.{bytes_eq}
use Rattle.std.proofs.lemmas.Slice.Eq.{bytes_eq-Decides}
use Rattle.affine_text.specs.Grammar.{number_from, dimension_of}

last_if : (b c : Bool) (k n : ℕ) (o p : Option ℕ) → (b ≡ true → c ≡ true → ⊥) → p ≡ cond c (Some n) o → cond b (Some k) p ≡ cond c (Some n) (cond b (Some k) o)
last_if true true k n o p f h = absurd (f refl refl)
last_if true false k n o p f h = refl
last_if false c k n o p f h = h

rest_none : (b : Bool) (k : ℕ) (o : Option ℕ) → cond b (Some k) o ≡ None → (b ≡ true → ⊥) × (o ≡ None)
rest_none true k o h = absurd (cc h)
rest_none false k o h = ((λ e. absurd (cc e)), h)

-- a new name stands last
numbers_last : (k : ℕ) (ns : List (List ℕ)) (name q : List ℕ) → number_from k ns name ≡ None → number_from k (ns ++ name ∷ []) q ≡ cond (bytes_eq name q) (Some (k + length ns)) (number_from k ns q)
numbers_last k [] name q h = let z : k ≡ k + 0 = omega arith in ap (λ j. cond (bytes_eq name q) (Some j) None) z
numbers_last k (n ∷ ns) name q h =
    let r = rest_none (bytes_eq n name) k (number_from (suc k) ns name) h in
    let z : suc k + length ns ≡ k + suc (length ns) = omega arith in
    let ih = numbers_last (suc k) ns name q r.1 ∙ ap (λ j. cond (bytes_eq name q) (Some j) (number_from (suc k) ns q)) z in
    last_if (bytes_eq n q) (bytes_eq name q) k (k + suc (length ns)) (number_from (suc k) ns q) (number_from (suc k) (ns ++ name ∷ []) q)
    (λ b c. r.0 ((bytes_eq-Decides n name).1 ((bytes_eq-Decides n q).0 b ∙ sym ((bytes_eq-Decides name q).0 c)))) ih

gone_if : (b : Bool) (o : Option ℕ) → (b ≡ true → o ≡ None) → cond b None o ≡ o
gone_if true o f = sym (f refl)
gone_if false o f = refl

gone : (ns : List (List ℕ)) (name q : List ℕ) → number_from 0 ns name ≡ None → cond (bytes_eq name q) None (number_from 0 ns q) ≡ number_from 0 ns q
gone ns name q h = gone_if (bytes_eq name q) (number_from 0 ns q) (λ b. ap (number_from 0 ns) (sym ((bytes_eq-Decides name q).0 b)) ∙ h)

pub declared_last : (old : List (List ℕ)) (name : List ℕ) (f g : List ℕ → Option ℕ) (n : ℕ) → ((q : List ℕ) → g q ≡ cond (bytes_eq name q) (Some n) (f q)) → n ≡ length old → ((q : List ℕ) → f q ≡ dimension_of old q) → dimension_of old name ≡ None
    → (q : List ℕ) → g q ≡ dimension_of (old ++ name ∷ []) q
unfolding dimension_of
declared_last old name f g n u e i none q =
    let z : n ≡ 0 + length old = omega arith in
    u q ∙ ap (λ k. cond (bytes_eq name q) (Some k) (f q)) z ∙ ap (λ o. cond (bytes_eq name q) (Some (0 + length old)) o) (i q) ∙ sym (numbers_last 0 old name q none)

if_twice : (b : Bool) (n : ℕ) (o : Option ℕ) → cond b None (cond b (Some n) o) ≡ cond b None o
if_twice true n o = refl
if_twice false n o = refl

pub undeclared : (old : List (List ℕ)) (name : List ℕ) (f g h : List ℕ → Option ℕ) (n : ℕ) → ((q : List ℕ) → g q ≡ cond (bytes_eq name q) (Some n) (f q)) → ((q : List ℕ) → h q ≡ cond (bytes_eq name q) None (g q)) → ((q : List ℕ) → f q ≡ dimension_of old q) → dimension_of old name ≡ None
    → (q : List ℕ) → h q ≡ dimension_of old q
unfolding dimension_of
undeclared old name f g h n u v i none q =
    v q ∙ ap (λ o. cond (bytes_eq name q) None o) (u q) ∙ if_twice (bytes_eq name q) n (f q) ∙ ap (λ o. cond (bytes_eq name q) None o) (i q) ∙ gone old name q none
