-- Items in another order, each of another part, give the same options.
use Rattle.std.proofs.Common.{◌≡◌, ◌∙◌, ◌+◌, ◌<◌, ◌≤◌, ◌&&◌, ◌||◌, ◌==◌, ℕ, zero, suc, Bool, cond, true, false, not, refl, sym, ap, subst, true≢false, List, [], ◌∷◌, ◌++◌, length, Some, None, option_map, arith}
use Rattle.std.specs.Prelude.{find}
use Rattle.std.specs.List.{Contains, slice_index_or, sum_by}
use Rattle.std.specs.List.Sorted.{IsPermutation}
use Rattle.std.proofs.lemmas.List.Sums.{sum_by-cons}
use Rattle.std.proofs.lemmas.Bool.Decides.{nat_tests}
use Rattle.std.proofs.lemmas.List.Sorted.{Contains-permutation, list_any-IsPermutation, sum_by-IsPermutation}
use Rattle.mlir_words.specs.Asked.{Item, Part, Text, transform_interpreter, lower, run, input, workers, sample, file, differ_after, each_once, has, is_of, options_by, place, value}
use Rattle.mlir_words.proofs.Rows.{same_part}
use Rattle.mlir_words.proofs.Walks.{has-append}

-- how often a part is given
abbrev times : Part → List Item → ℕ
times p [] = 0
times p (u ∷ us) = cond (is_of p u) 1 0 + times p us

times_sum : (p : Part) (us : List Item) → times p us ≡ sum_by (λ u. cond (is_of p u) 1 0) us
times_sum p [] = refl
times_sum p (u ∷ us) = ap (λ n. cond (is_of p u) 1 0 + n) (times_sum p us) ∙ sym (sum_by-cons (λ u. cond (is_of p u) 1 0) u us)

-- ---- each at most once, by the counts

pub none_before : (p : Part) (u : Item) (before : List Item) → is_of p u ≡ true → has p (before ++ u ∷ []) ≡ true
none_before p u before is = has-append p before (u ∷ []) ∙ ap (λ b. has p before || (b || false)) is ∙ go (has p before)
  where
    go : (b : Bool) → (b || (true || false)) ≡ true
    go true = refl
    go false = refl

still_before : (p : Part) (u : Item) (before : List Item) → has p before ≡ true → has p (before ++ u ∷ []) ≡ true
still_before p u before is = has-append p before (u ∷ []) ∙ ap (λ b. b || has p (u ∷ [])) is

pub itself : (p : Part) → (place p == place p) ≡ true
itself p = grind (arith, nat_tests)

both : (a b : Bool) → (a && b) ≡ true → (a ≡ true) × (b ≡ true)
both true b h = (refl, h)
both false b h = absurd (true≢false (sym h))

is_off : (a : Bool) → not a ≡ true → a ≡ false
is_off true h = absurd (true≢false (sym h))
is_off false h = refl

once_counts : (p : Part) (before us : List Item) → differ_after before us ≡ true → (times p us ≤ 1) × (has p before ≡ true → times p us ≡ 0)
unfolding differ_after
once_counts p before [] once = (omega arith, λ h. refl)
once_counts p before (u ∷ us) once =
    let parts = both (not (has u.0 before)) (differ_after (before ++ u ∷ []) us) once in
    go (is_of p u) refl (is_off (has u.0 before) parts.0) (once_counts p (before ++ u ∷ []) us parts.1)
  where
    go : (b : Bool) → is_of p u ≡ b → has u.0 before ≡ false → (times p us ≤ 1) × (has p (before ++ u ∷ []) ≡ true → times p us ≡ 0)
        → (cond b 1 0 + times p us ≤ 1) × (has p before ≡ true → cond b 1 0 + times p us ≡ 0)
    go true is first rest =
        let none : times p us ≡ 0 = rest.1 (none_before p u before is) in
        let same : has p before ≡ false = subst (λ q. has q before ≡ false) (same_part u.0 p is) first in
        (omega arith, λ h. absurd (true≢false (sym h ∙ same)))
    go false is first rest = let small : times p us ≤ 1 = rest.0 in (omega arith, λ h. let none : times p us ≡ 0 = rest.1 (still_before p u before h) in omega arith)

counts_once : (before us : List Item) → ((p : Part) → times p us ≤ 1) → ((p : Part) → has p before ≡ true → times p us ≡ 0) → differ_after before us ≡ true
unfolding differ_after
counts_once before [] few none = refl
counts_once before (u ∷ us) few none = go (has u.0 before) refl (counts_once (before ++ u ∷ []) us fewer later)
  where
    tail_le : (b : Bool) (n m : ℕ) → cond b 1 0 + n ≤ m → n ≤ m
    tail_le true n m h = omega arith
    tail_le false n m h = omega arith

    fewer : (p : Part) → times p us ≤ 1
    fewer p = tail_le (is_of p u) (times p us) 1 (few p)

    last : (p : Part) (b h : Bool) → cond b 1 0 + times p us ≤ 1 → (h ≡ true → cond b 1 0 + times p us ≡ 0) → (h || (b || false)) ≡ true → times p us ≡ 0
    last p true h small gone is = omega arith
    last p false true small gone is = let e = gone refl in omega arith
    last p false false small gone is = absurd (true≢false (sym is))

    later : (p : Part) → has p (before ++ u ∷ []) ≡ true → times p us ≡ 0
    later p is = last p (is_of p u) (has p before) (few p) (none p) (sym (has-append p before (u ∷ [])) ∙ is)

    go : (b : Bool) → has u.0 before ≡ b → differ_after (before ++ u ∷ []) us ≡ true → (not b && differ_after (before ++ u ∷ []) us) ≡ true
    go true is rest =
        let zero : cond (place u.0 == place u.0) 1 0 + times u.0 us ≡ 0 = none u.0 is in
        let one : 1 + times u.0 us ≡ 0 = subst (λ b. cond b 1 0 + times u.0 us ≡ 0) (itself u.0) zero in
        absurd (omega arith)
    go false is rest = rest

-- ---- values

member_counts : (p : Part) (v : Text) (us : List Item) (k : ℕ) → k < length us → slice_index_or us k (p, v) ≡ (p, v) → 1 ≤ times p us
member_counts p v [] k lt at = absurd (omega arith)
member_counts p v (u ∷ us) zero lt at =
    let is : is_of p u ≡ true = ap (λ (w : Item). place w.0 == place p) at ∙ itself p in
    subst (λ b. 1 ≤ cond b 1 0 + times p us) (sym is) (omega arith)
member_counts p v (u ∷ us) (suc k) lt at = go (is_of p u) (member_counts p v us k (omega arith) at)
  where
    go : (b : Bool) → 1 ≤ times p us → 1 ≤ cond b 1 0 + times p us
    go true h = omega arith
    go false h = omega arith

-- the value of a part that is given once
pub one_value : (p : Part) (v : Text) (us : List Item) (k : ℕ) → k < length us → slice_index_or us k (p, v) ≡ (p, v) → times p us ≤ 1 → value p us ≡ Some v
one_value p v [] k lt at few = absurd (omega arith)
one_value p v (u ∷ us) zero lt at few =
    let is : is_of p u ≡ true = ap (λ (w : Item). place w.0 == place p) at ∙ itself p in
    rw is (ap (λ (w : Item). Some w.1) at)
one_value p v (u ∷ us) (suc k) lt at few = go (is_of p u) few (member_counts p v us k (omega arith) at) (one_value p v us k (omega arith) at)
  where
    go : (b : Bool) → cond b 1 0 + times p us ≤ 1 → 1 ≤ times p us → (times p us ≤ 1 → value p us ≡ Some v)
        → option_map (λ (w : Item). w.1) (cond b (Some u) (find (is_of p) us)) ≡ Some v
    go true small some rest = absurd (omega arith)
    go false small some rest = let few : times p us ≤ 1 = omega arith in rest few

none_value : (p : Part) (us : List Item) → has p us ≡ false → value p us ≡ None
none_value p [] none = refl
none_value p (u ∷ us) none = go (is_of p u) none (none_value p us)
  where
    go : (b : Bool) → (b || has p us) ≡ false → (has p us ≡ false → value p us ≡ None) → option_map (λ (w : Item). w.1) (cond b (Some u) (find (is_of p) us)) ≡ None
    go true is rest = absurd (true≢false is)
    go false is rest = rest is

has_member : (p : Part) (us : List Item) → has p us ≡ true → (v : Text) × Contains us (p, v) × (value p us ≡ Some v)
has_member p [] some = absurd (true≢false (sym some))
has_member p (u ∷ us) some = go (is_of p u) refl some (has_member p us)
  where
    go : (b : Bool) → is_of p u ≡ b → (b || has p us) ≡ true → (has p us ≡ true → (v : Text) × Contains us (p, v) × (value p us ≡ Some v))
        → (v : Text) × Contains (u ∷ us) (p, v) × (option_map (λ (w : Item). w.1) (cond b (Some u) (find (is_of p) us)) ≡ Some v)
    go true is some rest = (u.1, (0, omega arith, ap (λ q. let w : Item = (q, u.1) in w) (same_part u.0 p is)), refl)
    go false is some rest = let found = rest some in (found.0, (suc found.1.0, omega (arith, found.1.1), found.1.2), found.2)

-- ---- another order

times_same : (p : Part) (us vs : List Item) → IsPermutation us vs → times p vs ≡ times p us
times_same p us vs moved = times_sum p vs ∙ sum_by-IsPermutation (λ u. cond (is_of p u) 1 0) us vs moved ∙ sym (times_sum p us)

once_same : (us vs : List Item) → IsPermutation us vs → each_once us ≡ true → each_once vs ≡ true
once_same us vs moved once = counts_once [] vs
    (λ p. subst (λ n. n ≤ 1) (sym (times_same p us vs moved)) (once_counts p [] us once).0) (λ p h. absurd (true≢false (sym h)))

value_same : (p : Part) (us vs : List Item) → IsPermutation us vs → each_once us ≡ true → value p vs ≡ value p us
value_same p us vs moved once = go (has p us) refl
  where
    few : times p vs ≤ 1
    few = subst (λ n. n ≤ 1) (sym (times_same p us vs moved)) (once_counts p [] us once).0

    go : (b : Bool) → has p us ≡ b → value p vs ≡ value p us
    go true some =
        let found = has_member p us some in
        let at = Contains-permutation us vs (p, found.0) moved found.1 in
        one_value p found.0 vs at.0 at.1 at.2 few ∙ sym found.2
    go false none = none_value p vs (sym (list_any-IsPermutation (is_of p) us vs moved) ∙ none) ∙ sym (none_value p us none)

-- items in another order, each of another part, give the same options
pub any_order : (us vs : List Item) → IsPermutation us vs → each_once us ≡ true → (each_once vs ≡ true) × (options_by vs ≡ options_by us)
any_order us vs moved once = (once_same us vs moved once, options)
  where
    flag_same : has transform_interpreter vs ≡ has transform_interpreter us
    flag_same = sym (list_any-IsPermutation (is_of transform_interpreter) us vs moved)

    options : options_by vs ≡ options_by us
    options = λ i. record {
      transform = flag_same i;
      lower = value_same lower us vs moved once i;
      run = value_same run us vs moved once i;
      input = value_same input us vs moved once i;
      workers = value_same workers us vs moved once i;
      sample = value_same sample us vs moved once i;
      file = value_same file us vs moved once i;
    }
