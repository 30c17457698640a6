-- Lists of numbers of which none stands twice, and a part of one that is replaced by fresh numbers.
use Rattle.std.proofs.Common.{◌≡◌, ℕ, ◌<◌, ◌≤◌, ◌==◌, ◌||◌, Bool, true, false, List, [], ◌∷◌, ◌++◌, refl, ap, sym, ◌∙◌, arith, eqb-true}
use Rattle.std.proofs.lemmas.Bool.{ne_eqb}
use Rattle.affine_maps.specs.Permutation.{is_among}
use Rattle.mlir_meaning.specs.Grids.{Each}
use Rattle.mlir_meaning.proofs.Through.{each_left, each_right}
use Rattle.mlir_verify.specs.Names.{redefines}
use Rattle.mlir_verify.proofs.Adding.{redefines-append}
use Rattle.verified_runs.proofs.ReusedBodies.{or_false}
use Rattle.step_results.specs.Edits.{AreFresh}

pub or_none : (a b : Bool) → a ≡ false → b ≡ false → (a || b) ≡ false
or_none true b h k = absurd cc
or_none false b h k = k

-- MEMBERS
pub among_append : (n : ℕ) (xs ys : List ℕ) → is_among n (xs ++ ys) ≡ (is_among n xs || is_among n ys)
among_append n [] ys = refl
among_append n (x ∷ xs) ys = ap (λ b. (x == n) || b) (among_append n xs ys) ∙ or-assoc (x == n) (is_among n xs) (is_among n ys)
  where
    or-assoc : (a b c : Bool) → (a || (b || c)) ≡ ((a || b) || c)
    or-assoc true b c = refl
    or-assoc false b c = refl

pub among_parts : (n : ℕ) (xs ys : List ℕ) → is_among n (xs ++ ys) ≡ false → (is_among n xs ≡ false) × (is_among n ys ≡ false)
among_parts n xs ys e = or_false _ _ (sym (among_append n xs ys) ∙ e)

pub not_among : (n : ℕ) (xs ys : List ℕ) → is_among n xs ≡ false → is_among n ys ≡ false → is_among n (xs ++ ys) ≡ false
not_among n xs ys h k = among_append n xs ys ∙ or_none _ _ h k

pub among_left : (n : ℕ) (xs ys : List ℕ) → is_among n xs ≡ true → is_among n (xs ++ ys) ≡ true
among_left n xs ys h = among_append n xs ys ∙ ap (λ b. b || is_among n ys) h

pub among_right : (n : ℕ) (xs ys : List ℕ) → is_among n ys ≡ true → is_among n (xs ++ ys) ≡ true
among_right n xs ys h = among_append n xs ys ∙ ap (λ b. is_among n xs || b) h ∙ or_true (is_among n xs)
  where
    or_true : (b : Bool) → (b || true) ≡ true
    or_true true = refl
    or_true false = refl

pub below_absent : (n v : ℕ) (xs : List ℕ) → Each (λ x. x < n) xs → n ≤ v → is_among v xs ≡ false
below_absent n v [] h l = refl
below_absent n v (x ∷ xs) h l = or_none _ _ (ne_eqb x v (λ e. let k = h.0 in absurd (omega (arith, e, l, k)))) (below_absent n v xs h.1 l)

above_absent : (n v : ℕ) (xs : List ℕ) → Each (λ x. n ≤ x) xs → v < n → is_among v xs ≡ false
above_absent n v [] h l = refl
above_absent n v (x ∷ xs) h l = or_none _ _ (ne_eqb x v (λ e. let k = h.0 in absurd (omega (arith, e, l, k)))) (above_absent n v xs h.1 l)

-- NUMBERS THAT STAND ONCE
pub own_parts : (xs ys known : List ℕ) → redefines (xs ++ ys) known ≡ false → (redefines xs known ≡ false) × (redefines ys (known ++ xs) ≡ false)
own_parts xs ys known e = or_false _ _ (sym (redefines-append xs ys known) ∙ e)

pub own_both : (xs ys known : List ℕ) → redefines xs known ≡ false → redefines ys (known ++ xs) ≡ false → redefines (xs ++ ys) known ≡ false
own_both xs ys known h k = redefines-append xs ys known ∙ or_none _ _ h k

-- what is known before doesn't come again
pub known_absent : (n : ℕ) (xs known : List ℕ) → redefines xs known ≡ false → is_among n known ≡ true → is_among n xs ≡ false
known_absent n [] known e h = refl
known_absent n (x ∷ xs) known e h =
    let parts = or_false (is_among x known) _ e in
    by_test (x == n) refl parts.0 (known_absent n xs (known ++ x ∷ []) parts.1 (among_left n known (x ∷ []) h))
  where
    by_test : (b : Bool) → (x == n) ≡ b → is_among x known ≡ false → is_among n xs ≡ false → (b || is_among n xs) ≡ false
    by_test true q f rest = absurd (let z : false ≡ true = sym f ∙ ap (λ m. is_among m known) (eqb-true x n q) ∙ h in cc)
    by_test false q f rest = rest

-- numbers that stay apart from what is known
pub still_own : (P : ℕ → Type 0) (xs known other : List ℕ) → ((v : ℕ) → P v → is_among v known ≡ false → is_among v other ≡ false) → Each P xs →
    redefines xs known ≡ false → redefines xs other ≡ false
still_own P [] known other apart h e = refl
still_own P (x ∷ xs) known other apart h e =
    let parts = or_false (is_among x known) _ e in
    or_none _ _ (apart x h.0 parts.0)
    (still_own P xs (known ++ x ∷ []) (other ++ x ∷ [])
    (λ v p q. let both = among_parts v known (x ∷ []) q in not_among v other (x ∷ []) (apart v p both.0) both.1) h.1 parts.1)

-- fresh numbers in the place of some
pub replaced : (n : ℕ) (front old new back : List ℕ) → redefines (front ++ (old ++ back)) [] ≡ false → Each (λ v. v < n) (front ++ (old ++ back)) → AreFresh n new →
    redefines (front ++ (new ++ back)) [] ≡ false
replaced n front old new back e small fresh =
    let first = own_parts front (old ++ back) [] e in
    let rest = own_parts old back front first.1 in
    let front_small = each_left (λ v. v < n) front (old ++ back) small in
    let back_small = each_right (λ v. v < n) old back (each_right (λ v. v < n) front (old ++ back) small) in
    own_both front (new ++ back) [] first.0
    (own_both new back front
    (still_own (λ v. n ≤ v) new [] front (λ v l q. below_absent n v front front_small l) fresh.above fresh.own)
    (still_own (λ v. v < n) back (front ++ old) (front ++ new)
    (λ v l q. not_among v front new (among_parts v front old q).0 (above_absent n v new fresh.above l)) back_small rest.1))
