-- What the text of a map means, where it has no fault, is a map.
use Rattle.std.proofs.Common.{◌≡◌, ℕ, zero, suc, ◌+◌, ◌<◌, ◌≤◌, Bool, true, false, cond, ◌&&◌, ℤ, pos, negsuc, ◌*ℤ◌, ◌+ℤ◌, unsigned_abs, nat_lt, nat_le, List, [], ◌∷◌, ◌++◌, length, map, unwrap_or, Option, Some, None, Result, Ok, Err, refl, sym, subst, ◌∙◌, arith}
use Rattle.std.specs.Prelude.{is_some}
use Rattle.std.specs.Str.{bytes_eq}
use Rattle.std.specs.List.{list_all}
use Rattle.std.specs.Ordering.{nat_cmp, match_ordering}
use Rattle.std.specs.declared.cmp.Ordering.{Ordering}
use Rattle.std.specs.declared.cmp.Ordering.TheVariants.{Less, Equal, Greater}
use Rattle.std.specs.Map.{remove_entry}
use Rattle.std.specs.BTreeMap.{insert_entry, is_at}
use Rattle.std.proofs.lemmas.Cmp.{ranked}
use Rattle.std.proofs.Math.Nat.{mul-pos}
use Rattle.std.proofs.lemmas.Int.{unsigned_abs-mul}
use Rattle.std.proofs.lemmas.Bool.{and_parts, and_from}
use Rattle.std.proofs.lemmas.Bool.Decides.{nat_tests}
use Rattle.std.proofs.lemmas.List.Folds.{list_all-append}
use Rattle.mlir_base.specs.Numbers.{is_in_range, is_coefficient}
use Rattle.affine_maps.specs.Map.{terms_fit, expr_fits, IsMap}
use Rattle.affine_maps.specs.Shape.{MapShape}
use Rattle.affine_maps.specs.declared.map.Expr.{Expr}
use Rattle.affine_text.specs.declared.reading.fault.MapError.{MapError}
use Rattle.affine_text.specs.declared.reading.fault.MapError.TheVariants.{Form, Range}
use Rattle.affine_text.specs.Grammar.{Factor, Name, Number, Negative, Group, Factors, NoFactor, Times, Products, NoProduct, Plus, Minus, Sum, Starts, Items, Empty, From, MapTree, IsMapTree, FactorFits, FactorsFit, ProductsFit, SumFits, OtherSumsFit, SumsFit, factor_end, factors_end, dimension_of, number_from, is_declared, names_in, deepest}
use Rattle.affine_text.specs.Collected.{is_zero, constant_form, has_terms, terms_in_range, form_in_range, coefficient, with_coefficient, plus_term, plus_terms, plus_form, scaled, negative_form, times_form}
use Rattle.affine_text.specs.Meaning.{and_then, in_range, product_of, sum_of, negative_of, name_form, number_form, zero_form, one_form, factor_form, factors_form, products_form, sum_form, other_results, results_form, meaning}

-- ---- terms in order

-- the terms name dimensions from low on and below n, in rising order, and none has coefficient 0
abbrev Ordered : ℕ → ℕ → List (ℕ × ℤ) → Type 0
Ordered n low [] = Unit {0}
Ordered n low (t ∷ ts) = (low ≤ t.0) × (t.0 < n) × (0 < unsigned_abs t.1) × Ordered n (t.0 + 1) ts

weaker : (n low least : ℕ) (ts : List (ℕ × ℤ)) → least ≤ low → Ordered n low ts → Ordered n least ts
weaker n low least [] h o = tt
weaker n low least (t ∷ ts) h o = (omega (arith, h, o.0), o.1, o.2, o.3)

insert_by : (n low k : ℕ) (c : ℤ) (t : ℕ × ℤ) (ts rest : List (ℕ × ℤ)) (o : Ordering) → o ≡ nat_cmp k t.0 → low ≤ k → k < n → 0 < unsigned_abs c → Ordered n low (t ∷ ts) → (t.0 + 1 ≤ k → Ordered n (t.0 + 1) rest)
    → Ordered n low (match_ordering o ((k, c) ∷ t ∷ ts) ((t.0, c) ∷ ts) (t ∷ rest))
insert_by n low k c t ts rest Less e lo hi some o ih = let r : k < t.0 = ranked k t.0 Less e in (lo, hi, some, (omega (arith, r), o.1, o.2, o.3))
insert_by n low k c t ts rest Equal e lo hi some o ih = (o.0, o.1, some, o.3)
insert_by n low k c t ts rest Greater e lo hi some o ih = let r : t.0 < k = ranked k t.0 Greater e in (o.0, o.1, o.2, ih (omega (arith, r)))

insert_kept : (n low k : ℕ) (c : ℤ) (ts : List (ℕ × ℤ)) → low ≤ k → k < n → 0 < unsigned_abs c → Ordered n low ts → Ordered n low (insert_entry nat_cmp ts k c)
insert_kept n low k c [] lo hi some o = (lo, hi, some, tt)
insert_kept n low k c (t ∷ ts) lo hi some o = insert_by n low k c t ts (insert_entry nat_cmp ts k c) (nat_cmp k t.0) refl lo hi some o (λ h. insert_kept n (t.0 + 1) k c ts h hi some o.3)

remove_by : (n low : ℕ) (t : ℕ × ℤ) (ts rest : List (ℕ × ℤ)) (b : Bool) → Ordered n low (t ∷ ts) → Ordered n (t.0 + 1) rest → Ordered n low (cond b ts (t ∷ rest))
remove_by n low t ts rest true o ih = weaker n (t.0 + 1) low ts (omega (arith, o.0)) o.3
remove_by n low t ts rest false o ih = (o.0, o.1, o.2, ih)

remove_kept : (n low k : ℕ) (ts : List (ℕ × ℤ)) → Ordered n low ts → Ordered n low (remove_entry (is_at (nat_cmp k)) ts)
remove_kept n low k [] o = tt
remove_kept n low k (t ∷ ts) o = remove_by n low t ts (remove_entry (is_at (nat_cmp k)) ts) (is_at (nat_cmp k) t.0) o (remove_kept n (t.0 + 1) k ts o.3)

not_zero : (c : ℤ) → is_zero c ≡ false → 0 < unsigned_abs c
not_zero c e = let m = unsigned_abs c in grind (arith, nat_tests)

with_by : (n k : ℕ) (c : ℤ) (ts : List (ℕ × ℤ)) (b : Bool) → is_zero c ≡ b → k < n → Ordered n 0 ts → Ordered n 0 (cond b (remove_entry (is_at (nat_cmp k)) ts) (insert_entry nat_cmp ts k c))
with_by n k c ts true e h o = remove_kept n 0 k ts o
with_by n k c ts false e h o = insert_kept n 0 k c ts (omega arith) h (not_zero c e) o

with_kept : (n k : ℕ) (c : ℤ) (ts : List (ℕ × ℤ)) → k < n → Ordered n 0 ts → Ordered n 0 (with_coefficient ts k c)
unfolding with_coefficient
with_kept n k c ts h o = with_by n k c ts (is_zero c) refl h o

plus_kept : (n low : ℕ) (ts us : List (ℕ × ℤ)) → Ordered n 0 ts → Ordered n low us → Ordered n 0 (plus_terms ts us)
unfolding plus_terms plus_term
plus_kept n low ts [] o p = o
plus_kept n low ts (u ∷ us) o p = plus_kept n (u.0 + 1) (with_coefficient ts u.0 (coefficient ts u.0 +ℤ u.1)) us (with_kept n u.0 (coefficient ts u.0 +ℤ u.1) ts p.1 o) p.3

map_kept : (n low : ℕ) (m : ℤ) (ts : List (ℕ × ℤ)) → 0 < unsigned_abs m → Ordered n low ts → Ordered n low (map (λ t. (t.0, m *ℤ t.1)) ts)
map_kept n low m [] h o = tt
map_kept n low m (t ∷ ts) h o = (o.0, o.1, subst (λ k. 0 < k) (sym (unsigned_abs-mul m t.1)) (mul-pos h o.2), map_kept n (t.0 + 1) m ts h o.3)

-- ---- forms

abbrev IsForm : ℕ → Expr → Type 0
IsForm n e = Ordered n 0 e.terms

scaled_by : (n : ℕ) (m : ℤ) (e : Expr) (b : Bool) → is_zero m ≡ b → IsForm n e → IsForm n (cond b (constant_form (pos 0)) (record { constant = m *ℤ e.constant; terms = map (λ t. (t.0, m *ℤ t.1)) e.terms }))
scaled_by n m e true z o = tt
scaled_by n m e false z o = map_kept n 0 m e.terms (not_zero m z) o

scaled_form : (n : ℕ) (m : ℤ) (e : Expr) → IsForm n e → IsForm n (scaled m e)
unfolding scaled
scaled_form n m e o = scaled_by n m e (is_zero m) refl o

times_by : (n : ℕ) (e f : Expr) (b : Bool) → IsForm n e → IsForm n f → IsForm n (cond b (scaled e.constant f) (scaled f.constant e))
times_by n e f true o p = scaled_form n e.constant f p
times_by n e f false o p = scaled_form n f.constant e o

signed_form : (n : ℕ) (b : Bool) (f : Expr) → IsForm n f → IsForm n (cond b (negative_form f) f)
signed_form n true f o = scaled_form n (negsuc 0) f o
signed_form n false f o = o

plus_form_kept : (n : ℕ) (e f : Expr) → IsForm n e → IsForm n f → IsForm n (plus_form e f)
plus_form_kept n e f o p = plus_kept n 0 e.terms f.terms o p

-- ---- where there is no fault

abbrev AllOk : {A : Type 0} → (A → Type 0) → Result A MapError → Type 0
AllOk P (Ok x) = P x
AllOk P (Err e) = Unit {0}

then_ok : {A B : Type 0} (P : A → Type 0) (Q : B → Type 0) (m : Result A MapError) (k : A → Result B MapError) → AllOk P m → ((x : A) → P x → AllOk Q (k x)) → AllOk Q (and_then m k)
then_ok P Q (Ok x) k p h = h x p
then_ok P Q (Err e) k p h = tt

-- a form in range
abbrev IsRanged : ℕ → Expr → Type 0
IsRanged n e = IsForm n e × (form_in_range e ≡ true)

ranged_by : (n at : ℕ) (e : Expr) (b : Bool) → form_in_range e ≡ b → IsForm n e → AllOk (IsRanged n) (cond b (Ok e) (Err (Range at)))
ranged_by n at e true r o = (o, r)
ranged_by n at e false r o = tt

ranged : (n at : ℕ) (e : Expr) → IsForm n e → AllOk (IsRanged n) (in_range at e)
unfolding in_range
ranged n at e o = ranged_by n at e (form_in_range e) refl o

product_by : (n at : ℕ) (e f : Expr) (b : Bool) → IsForm n e → IsForm n f → AllOk (IsRanged n) (cond b (Err (Form at)) (in_range at (times_form e f)))
product_by n at e f true o p = tt
product_by n at e f false o p = ranged n at (times_form e f) (times_by n e f (has_terms f) o p)

product_ok : (n at : ℕ) (e f : Expr) → IsForm n e → IsForm n f → AllOk (IsRanged n) (product_of at e f)
unfolding product_of
product_ok n at e f o p = product_by n at e f (has_terms e && has_terms f) o p

sum_ok : (n : ℕ) (b : Bool) (at : ℕ) (e f : Expr) → IsForm n e → IsForm n f → AllOk (IsRanged n) (sum_of b at e f)
unfolding sum_of
sum_ok n b at e f o p = ranged n at (plus_form e (cond b (negative_form f) f)) (plus_form_kept n e (cond b (negative_form f) f) o (signed_form n b f p))

-- ---- names

number_by : (k : ℕ) (rest : ℕ) (o : Option ℕ) (b : Bool) (j : ℕ) → (o ≡ Some j → j < suc k + rest) → cond b (Some k) o ≡ Some j → j < k + suc rest
number_by k rest o true j h e = let same : k ≡ j = cc in omega (arith, same)
number_by k rest o false j h e = omega (arith, h e)

number_below : (k : ℕ) (names : List (List ℕ)) (name : List ℕ) (j : ℕ) → number_from k names name ≡ Some j → j < k + length names
number_below k [] name j e = absurd cc
number_below k (n ∷ ns) name j e = number_by k (length ns) (number_from (suc k) ns name) (bytes_eq n name) j (number_below (suc k) ns name j) e

name_by : (n : ℕ) (o : Option ℕ) → ((j : ℕ) → o ≡ Some j → j < n) → is_some o ≡ true → unwrap_or o 0 < n
name_by n None h e = absurd (cc e)
name_by n (Some j) h e = h j refl

name_ok : (names : List (List ℕ)) (name : List ℕ) → is_declared names name ≡ true → IsForm (length names) (name_form names name)
unfolding dimension_of
name_ok names name e = (omega arith, name_by (length names) (number_from 0 names name) (λ j k. omega (arith, number_below 0 names name j k)) e, omega arith, tt)

-- ---- expressions

form_of : (n : ℕ) (m : Result Expr MapError) → AllOk (IsRanged n) m → AllOk (IsForm n) m
form_of n (Ok e) o = o.0
form_of n (Err e) o = tt

-- a product and those behind it
joined_ok : (names : List (List ℕ)) (b : Bool) (f : Factor) (fs : Factors) (ps : Products) (e : Expr) → AllOk (IsForm (length names)) (factor_form f names)
    → ((q : Expr) → IsForm (length names) q → AllOk (IsForm (length names)) (factors_form fs names q)) → ((q : Expr) → IsRanged (length names) q → AllOk (IsRanged (length names)) (products_form ps names q)) → IsForm (length names) e
    → AllOk (IsRanged (length names)) (and_then (factor_form f names) (λ g. and_then (product_of (factor_end f) one_form g) (λ h. and_then (factors_form fs names h) (λ q. and_then (sum_of b (factors_end fs (factor_end f)) e q) (products_form ps names)))))
joined_ok names b f fs ps e first others rest o =
    let n = length names in
    then_ok (IsForm n) (IsRanged n) (factor_form f names) (λ g. and_then (product_of (factor_end f) one_form g) (λ h. and_then (factors_form fs names h) (λ q. and_then (sum_of b (factors_end fs (factor_end f)) e q) (products_form ps names)))) first
    (λ g p. then_ok (IsRanged n) (IsRanged n) (product_of (factor_end f) one_form g) (λ h. and_then (factors_form fs names h) (λ q. and_then (sum_of b (factors_end fs (factor_end f)) e q) (products_form ps names))) (product_ok n (factor_end f) one_form g tt p)
    (λ q r. then_ok (IsForm n) (IsRanged n) (factors_form fs names q) (λ q. and_then (sum_of b (factors_end fs (factor_end f)) e q) (products_form ps names)) (others q r.0)
    (λ x s. then_ok (IsRanged n) (IsRanged n) (sum_of b (factors_end fs (factor_end f)) e x) (products_form ps names) (sum_ok n b (factors_end fs (factor_end f)) e x o s) rest)))

mutual
  unfolding factor_form FactorFits

  factor_ok : (f : Factor) (names : List (List ℕ)) (room : ℕ) → FactorFits f names room → AllOk (IsForm (length names)) (factor_form f names)
  factor_ok (Name at text) names room h = name_ok names text h
  factor_ok (Number at digits) names room h = form_of (length names) (number_form at digits) (ranged (length names) at _ tt)
  factor_ok (Negative at f) names room h = then_ok (IsForm (length names)) (IsForm (length names)) (factor_form f names) negative_of (factor_ok f names room h) (λ e o. scaled_form (length names) (negsuc 0) e o)
  factor_ok (Group at s close) names zero h = absurd h
  factor_ok (Group at s close) names (suc room) h = form_of (length names) (sum_form s names) (sum_is_ok s names room h)

  factors_ok : (fs : Factors) (names : List (List ℕ)) (room : ℕ) (e : Expr) → FactorsFit fs names room → IsForm (length names) e → AllOk (IsForm (length names)) (factors_form fs names e)
  factors_ok NoFactor names room e h o = o
  factors_ok (Times at f fs) names room e h o =
      let n = length names in
      then_ok (IsForm n) (IsForm n) (factor_form f names) (λ g. and_then (product_of (factor_end f) e g) (factors_form fs names)) (factor_ok f names room h.0)
      (λ g p. then_ok (IsRanged n) (IsForm n) (product_of (factor_end f) e g) (factors_form fs names) (product_ok n (factor_end f) e g o p) (λ q r. factors_ok fs names room q h.1 r.0))

  products_ok : (ps : Products) (names : List (List ℕ)) (room : ℕ) (e : Expr) → ProductsFit ps names room → IsRanged (length names) e → AllOk (IsRanged (length names)) (products_form ps names e)
  products_ok NoProduct names room e h o = o
  products_ok (Plus at f fs ps) names room e h o = joined_ok names false f fs ps e (factor_ok f names room h.0) (λ q r. factors_ok fs names room q h.1 r) (λ q r. products_ok ps names room q h.2 r) o.0
  products_ok (Minus at f fs ps) names room e h o = joined_ok names true f fs ps e (factor_ok f names room h.0) (λ q r. factors_ok fs names room q h.1 r) (λ q r. products_ok ps names room q h.2 r) o.0

  sum_is_ok : (s : Sum) (names : List (List ℕ)) (room : ℕ) → SumFits s names room → AllOk (IsRanged (length names)) (sum_form s names)
  sum_is_ok (Starts f fs ps) names room h = joined_ok names false f fs ps zero_form (factor_ok f names room h.0) (λ q r. factors_ok fs names room q h.1 r) (λ q r. products_ok ps names room q h.2 r) tt

-- ---- maps

all_four : (a b c d : Bool) → a ≡ true → b ≡ true → c ≡ true → d ≡ true → (a && b && c && d) ≡ true
all_four a b c d e f g h = rw (e, f, g, h) refl

terms_ok : (n low : ℕ) (ts : List (ℕ × ℤ)) → Ordered n low ts → terms_in_range ts ≡ true → terms_fit n ts low ≡ true
terms_ok n low [] o r = refl
terms_ok n low (t ∷ ts) o r =
    let p = and_parts (is_in_range t.1) (terms_in_range ts) r in
    let lo : nat_le low t.0 ≡ true = lower low t.0 o.0 in
    let hi : nat_lt t.0 n ≡ true = below t.0 n o.1 in
    let some : nat_lt 0 (unsigned_abs t.1) ≡ true = below 0 (unsigned_abs t.1) o.2 in
    all_four (nat_le low t.0) (nat_lt t.0 n) (is_coefficient t.1) (terms_fit n ts (t.0 + 1)) lo hi (and_from (nat_lt 0 (unsigned_abs t.1)) (is_in_range t.1) some p.0) (terms_ok n (t.0 + 1) ts o.3 p.1)
  where
    lower : (a b : ℕ) → a ≤ b → nat_le a b ≡ true
    lower a b h = grind (arith, nat_tests)

    below : (a b : ℕ) → a < b → nat_lt a b ≡ true
    below a b h = grind (arith, nat_tests)

expr_ok : (n : ℕ) (e : Expr) → IsRanged n e → expr_fits n e ≡ true
expr_ok n e o =
    let p = and_parts (is_in_range e.constant) (terms_in_range e.terms) o.1 in
    and_from (is_in_range e.constant) (terms_fit n e.terms 0) p.0 (terms_ok n 0 e.terms o.0 p.1)

one_more : (n : ℕ) (done : List Expr) (e : Expr) → list_all (expr_fits n) done ≡ true → expr_fits n e ≡ true → list_all (expr_fits n) (done ++ e ∷ []) ≡ true
one_more n done e h k = list_all-append (expr_fits n) done (e ∷ []) ∙ and_from (list_all (expr_fits n) done) (list_all (expr_fits n) (e ∷ [])) h (and_from (expr_fits n e) true k refl)

others_ok : (ss : List (ℕ × Sum)) (names : List (List ℕ)) (room : ℕ) (done : List Expr) → OtherSumsFit ss names room → list_all (expr_fits (length names)) done ≡ true → AllOk IsMap (other_results ss names done)
others_ok [] names room done h k = k
others_ok (s ∷ ss) names room done h k =
    then_ok (IsRanged (length names)) IsMap (sum_form s.1 names) (λ e. other_results ss names (done ++ e ∷ [])) (sum_is_ok s.1 names room h.0)
    (λ e o. others_ok ss names room (done ++ e ∷ []) h.1 (one_more (length names) done e k (expr_ok (length names) e o)))

results_ok : (rs : Items Sum) (names : List (List ℕ)) (room : ℕ) → SumsFit rs names room → AllOk IsMap (results_form rs names)
results_ok Empty names room h = refl
results_ok (From s ss) names room h =
    then_ok (IsRanged (length names)) IsMap (sum_form s names) (λ e. other_results ss names (e ∷ [])) (sum_is_ok s names room h.0)
    (λ e o. others_ok ss names room (e ∷ []) h.1 (and_from (expr_fits (length names) e) true (expr_ok (length names) e o) refl))

pub meaning_is_map : (symbols : Bool) (x : MapTree) (m : MapShape) → IsMapTree symbols x → meaning x ≡ Ok m → IsMap m
meaning_is_map symbols x m is e = subst (AllOk IsMap) e (results_ok x.results (names_in x) deepest is.results)
