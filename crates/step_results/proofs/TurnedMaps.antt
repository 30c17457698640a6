-- Maps whose dimensions are in another order are maps, and select the dimensions at their new places.
use Rattle.std.proofs.Common.{◌≡◌, ◌≢◌, ℕ, ◌+◌, ◌<◌, ◌≤◌, ◌==◌, ◌&&◌, Bool, true, false, not, ℤ, pos, List, [], ◌∷◌, map, Option, Some, None, option_map, ⊎_elim, refl, ap, sym, ◌∙◌, arith, ltb-true, lt-ltb, leb-true, leb-false, le-leb}
use Rattle.std.specs.Prelude.{◌||◌, nat_le, nat_lt, int_le, is_some, if◌then◌else◌}
use Rattle.std.specs.Ordering.{int_eq}
use Rattle.std.specs.List.{list_all, cons_option}
use Rattle.std.proofs.lemmas.Bool.{and_parts, and_from}
use Rattle.std.proofs.lemmas.Bool.Decides.{eqb_tells, nat_tests}
use Rattle.affine_maps.specs.Shape.{MapShape}
use Rattle.affine_maps.specs.Map.{terms_fit, expr_fits, map_fits}
use Rattle.affine_maps.specs.Permutation.{dimension_of_terms, dimension_of, dimensions_of, is_among, repeats, is_projected_permutation}
use Rattle.affine_maps.specs.declared.map.Expr.{Expr}
use Rattle.mlir_base.specs.Numbers.{is_in_range, is_coefficient}
use Rattle.mlir_meaning.specs.Grids.{Each}
use Rattle.mlir_verify.specs.Maps.{is_not_negative}
use Rattle.structured_steps.specs.Interchange.{turned, origin, insert_term, turned_terms, turned_expr, turned_map}
use Rattle.structured_steps.proofs.Turning.{Order, past}
use Rattle.verified_runs.proofs.ReusedBodies.{or_false}
use Rattle.step_results.proofs.Numbers.{or_none}

-- what the test of a first term says
pub record FitsFirst (n : ℕ) (t : ℕ × ℤ) (ts : List (ℕ × ℤ)) (low : ℕ) : Type 0 where
  pub from : low ≤ t.0
  pub to : t.0 < n
  pub factor : is_coefficient t.1 ≡ true
  pub rest : terms_fit n ts (t.0 + 1) ≡ true

pub first_fits : (n : ℕ) (t : ℕ × ℤ) (ts : List (ℕ × ℤ)) (low : ℕ) → terms_fit n (t ∷ ts) low ≡ true → FitsFirst n t ts low
first_fits n t ts low h =
    let p = and_parts (nat_le low t.0 && nat_lt t.0 n && is_coefficient t.1) (terms_fit n ts (t.0 + 1)) h in
    let q = and_parts (nat_le low t.0 && nat_lt t.0 n) (is_coefficient t.1) p.0 in
    let r = and_parts (nat_le low t.0) (nat_lt t.0 n) q.0 in
    record { from = leb-true low t.0 r.0; to = ltb-true t.0 n r.1; factor = q.1; rest = p.1 }

fit_on : (n : ℕ) (t : ℕ × ℤ) (ts : List (ℕ × ℤ)) (low : ℕ) → FitsFirst n t ts low → terms_fit n (t ∷ ts) low ≡ true
fit_on n t ts low h = and_from _ _ (and_from _ _ (and_from _ _ (le-leb low t.0 h.from) (lt-ltb t.0 n h.to)) h.factor) h.rest

-- INSERTING
each_inserted : (P : ℕ × ℤ → Type 0) (t : ℕ × ℤ) (us : List (ℕ × ℤ)) → P t → Each P us → Each P (insert_term t us)
each_inserted P t [] h k = (h, tt)
each_inserted P t (u ∷ us) h k = by_test (nat_le t.0 u.0) (each_inserted P t us h k.1) where
  by_test : (b : Bool) → Each P (insert_term t us) → Each P (if b then t ∷ u ∷ us else u ∷ insert_term t us)
  by_test true r = (h, k)
  by_test false r = (k.0, r)

insert_fits : (n : ℕ) (t : ℕ × ℤ) (us : List (ℕ × ℤ)) (low : ℕ) → terms_fit n us low ≡ true → low ≤ t.0 → t.0 < n → is_coefficient t.1 ≡ true → Each (λ u. t.0 ≢ u.0) us →
    terms_fit n (insert_term t us) low ≡ true
insert_fits n t [] low h a b c d = fit_on n t [] low (record { from = a; to = b; factor = c; rest = refl })
insert_fits n t (u ∷ us) low h a b c d =
    let parts = first_fits n u us low h in
    by_test (nat_le t.0 u.0) refl parts (λ l. insert_fits n t us (u.0 + 1) parts.rest l b c d.1)
  where
    by_test : (v : Bool) → nat_le t.0 u.0 ≡ v → FitsFirst n u us low → (u.0 + 1 ≤ t.0 → terms_fit n (insert_term t us) (u.0 + 1) ≡ true) →
        terms_fit n (if v then t ∷ u ∷ us else u ∷ insert_term t us) low ≡ true
    by_test true q parts rest =
        let l = leb-true t.0 u.0 q in
        let more : t.0 + 1 ≤ u.0 = later d.0 l in
        fit_on n t (u ∷ us) low (record { from = a; to = b; factor = c; rest = fit_on n u us (t.0 + 1) (record { from = more; to = parts.to; factor = parts.factor; rest = parts.rest }) })
      where
        later : t.0 ≢ u.0 → t.0 ≤ u.0 → t.0 + 1 ≤ u.0
        later e l = omega arith
    by_test false q parts rest =
        let l = leb-false t.0 u.0 q in
        fit_on n u (insert_term t us) low (record { from = parts.from; to = parts.to; factor = parts.factor; rest = rest (omega (arith, l)) })

-- a test of coefficients alone
inserted_all : (p : ℤ → Bool) (t : ℕ × ℤ) (us : List (ℕ × ℤ)) → list_all (λ (u : ℕ × ℤ). p u.1) (insert_term t us) ≡ (p t.1 && list_all (λ (u : ℕ × ℤ). p u.1) us)
inserted_all p t [] = refl
inserted_all p t (u ∷ us) = by_test (nat_le t.0 u.0) (inserted_all p t us) where
  swapped : (a b c : Bool) → (a && (b && c)) ≡ (b && (a && c))
  swapped true b c = refl
  swapped false true c = refl
  swapped false false c = refl

  by_test : (b : Bool) → list_all (λ (u : ℕ × ℤ). p u.1) (insert_term t us) ≡ (p t.1 && list_all (λ (u : ℕ × ℤ). p u.1) us) →
      list_all (λ (u : ℕ × ℤ). p u.1) (if b then t ∷ u ∷ us else u ∷ insert_term t us) ≡ (p t.1 && (p u.1 && list_all (λ (u : ℕ × ℤ). p u.1) us))
  by_test true e = refl
  by_test false e = ap (λ c. p u.1 && c) e ∙ swapped (p u.1) (p t.1) (list_all (λ (u : ℕ × ℤ). p u.1) us)

-- DIMENSIONS
some_test : (b : Bool) (k d : ℕ) → (if b then Some k else None) ≡ Some d → k ≡ d
some_test true k d e = cc
some_test false k d e = absurd cc

lone_small : (n : ℕ) (ts : List (ℕ × ℤ)) (low d : ℕ) → terms_fit n ts low ≡ true → dimension_of_terms ts ≡ Some d → d < n
lone_small n [] low d h e = absurd cc
lone_small n (t ∷ []) low d h e =
    let parts = first_fits n t [] low h in
    let same = some_test (int_eq t.1 (pos 1)) t.0 d e in
    let l = parts.to in omega (arith, same, l)
lone_small n (t ∷ u ∷ ts) low d h e = absurd cc

-- a dimension that an expression is alone is one of the map's
pub dimension_small : (n : ℕ) (e : Expr) (d : ℕ) → expr_fits n e ≡ true → dimension_of e ≡ Some d → d < n
dimension_small n e d h q = by_test (int_eq e.constant (pos 0)) q where
  by_test : (b : Bool) → (if b then dimension_of_terms e.terms else None) ≡ Some d → d < n
  by_test true r = lone_small n e.terms 0 d (and_parts (is_in_range e.constant) (terms_fit n e.terms 0) h).1 r
  by_test false r = absurd cc

pub dimensions_small : (n : ℕ) (es : List Expr) → list_all (expr_fits n) es ≡ true → Each (λ d. d < n) (dimensions_of es)
dimensions_small n [] h = tt
dimensions_small n (e ∷ es) h =
    let both = and_parts (expr_fits n e) (list_all (expr_fits n) es) h in
    by_dimension (dimension_of e) refl (dimension_small n e) both.0 (dimensions_small n es both.1)
  where
    by_dimension : (o : Option ℕ) → dimension_of e ≡ o → ((d : ℕ) → expr_fits n e ≡ true → dimension_of e ≡ Some d → d < n) → expr_fits n e ≡ true → Each (λ d. d < n) (dimensions_of es) →
        Each (λ d. d < n) (cons_option o (dimensions_of es))
    by_dimension None q small f rest = rest
    by_dimension (Some d) q small f rest = (small d f q, rest)

-- whatever stands beside it, a term isn't alone
lone_more : (x t : ℕ × ℤ) (ts : List (ℕ × ℤ)) → dimension_of_terms (x ∷ insert_term t ts) ≡ None
lone_more x t [] = refl
lone_more x t (u ∷ us) = by_test (nat_le t.0 u.0) where
  by_test : (b : Bool) → dimension_of_terms (x ∷ (if b then t ∷ u ∷ us else u ∷ insert_term t us)) ≡ None
  by_test true = refl
  by_test false = refl

lone_insert : (t u : ℕ × ℤ) (us : List (ℕ × ℤ)) → dimension_of_terms (insert_term t (u ∷ us)) ≡ None
lone_insert t u us = by_test (nat_le t.0 u.0) where
  by_test : (b : Bool) → dimension_of_terms (if b then t ∷ u ∷ us else u ∷ insert_term t us) ≡ None
  by_test true = refl
  by_test false = lone_more u t us

lone_both : (t u : ℕ × ℤ) (ts : List (ℕ × ℤ)) → dimension_of_terms (insert_term t (insert_term u ts)) ≡ None
lone_both t u [] = lone_insert t u []
lone_both t u (x ∷ ts) = by_test (nat_le u.0 x.0) where
  by_test : (b : Bool) → dimension_of_terms (insert_term t (if b then u ∷ x ∷ ts else x ∷ insert_term u ts)) ≡ None
  by_test true = lone_insert t u (x ∷ ts)
  by_test false = lone_insert t x (insert_term u ts)

module _ (order : List ℕ) (n : ℕ) (o : Order order n) where
  -- a dimension has the new number k exactly where it is the old one at k
  pub turned_test : (j k : ℕ) → k < n → (turned order j == k) ≡ (j == origin order k)
  turned_test j k l = by_test (nat_lt j n) refl where
    forth : j ≡ origin order k → turned order j ≡ k
    forth e = ap (turned order) e ∙ o.once k l

    decided : (turned order j ≡ k → j ≡ origin order k) → (turned order j == k) ≡ (j == origin order k)
    decided back = ⊎_elim
        (λ t. t.0 ∙ sym (⊎_elim (λ u. u.0) (λ u. absurd (u.1 (back t.1))) (eqb_tells j (origin order k))))
        (λ t. t.0 ∙ sym (⊎_elim (λ u. absurd (t.1 (forth u.1))) (λ u. u.0) (eqb_tells j (origin order k))))
        (eqb_tells (turned order j) k)

    by_test : (b : Bool) → nat_lt j n ≡ b → (turned order j == k) ≡ (j == origin order k)
    by_test true e = decided (λ q. sym (o.back j (ltb-true j n e)) ∙ ap (origin order) q)
    by_test false e =
        let m : n ≤ j = grind (arith, nat_tests) in
        decided (λ q. absurd (let p = past order n o j m in omega (arith, p, q, l)))

  -- MAPS
  apart : (d e : ℕ) → d < n → e < n → d ≢ e → turned order d ≢ turned order e
  apart d e k l h q = h (sym (o.back d k) ∙ ap (origin order) q ∙ o.back e l)

  later_apart : (d : ℕ) (ts : List (ℕ × ℤ)) (low : ℕ) → d < low → d < n → terms_fit n ts low ≡ true → Each (λ u. turned order d ≢ turned order u.0) ts
  later_apart d [] low l m h = tt
  later_apart d (u ∷ us) low l m h =
      let parts = first_fits n u us low h in
      let f = parts.from in
      (apart d u.0 m parts.to (λ e. absurd (omega (arith, e, l, f))), later_apart d us (u.0 + 1) (omega (arith, l, f)) m parts.rest)

  each_turned : (P : ℕ × ℤ → Type 0) (ts : List (ℕ × ℤ)) → Each (λ t. P (turned order t.0, t.1)) ts → Each P (turned_terms order ts)
  each_turned P [] h = tt
  each_turned P (t ∷ ts) h = each_inserted P (turned order t.0, t.1) (turned_terms order ts) h.0 (each_turned P ts h.1)

  terms_turned : (ts : List (ℕ × ℤ)) (low : ℕ) → terms_fit n ts low ≡ true → terms_fit n (turned_terms order ts) 0 ≡ true
  terms_turned [] low h = refl
  terms_turned (t ∷ ts) low h =
      let parts = first_fits n t ts low h in
      insert_fits n (turned order t.0, t.1) (turned_terms order ts) 0 (terms_turned ts (t.0 + 1) parts.rest) (omega arith) (o.lands t.0 parts.to) parts.factor
      (each_turned (λ u. turned order t.0 ≢ u.0) ts (later_apart t.0 ts (t.0 + 1) (omega arith) parts.to parts.rest))

  exprs_turned : (es : List Expr) → list_all (expr_fits n) es ≡ true → list_all (expr_fits n) (map (turned_expr order) es) ≡ true
  exprs_turned [] h = refl
  exprs_turned (e ∷ es) h =
      let both = and_parts (expr_fits n e) (list_all (expr_fits n) es) h in
      let own = and_parts (is_in_range e.constant) (terms_fit n e.terms 0) both.0 in
      and_from _ _ (and_from _ _ own.0 (terms_turned e.terms 0 own.1)) (exprs_turned es both.1)

  pub map_turned : (m : MapShape) → m.dims ≡ n → map_fits m ≡ true → map_fits (turned_map order m) ≡ true
  map_turned m d h = ap (λ k. list_all (expr_fits k) (map (turned_expr order) m.results)) d ∙ exprs_turned m.results (sym (ap (λ k. list_all (expr_fits k) m.results) d) ∙ h)

  turned_all : (p : ℤ → Bool) (ts : List (ℕ × ℤ)) → list_all (λ (u : ℕ × ℤ). p u.1) (turned_terms order ts) ≡ list_all (λ (u : ℕ × ℤ). p u.1) ts
  turned_all p [] = refl
  turned_all p (t ∷ ts) = inserted_all p (turned order t.0, t.1) (turned_terms order ts) ∙ ap (λ b. p t.1 && b) (turned_all p ts)

  pub none_negative : (es : List Expr) → list_all is_not_negative (map (turned_expr order) es) ≡ list_all is_not_negative es
  none_negative [] = refl
  none_negative (e ∷ es) = λ j. (int_le (pos 0) e.constant && turned_all (int_le (pos 0)) e.terms j) && none_negative es j

  -- WHAT THEY SELECT
  lone_turned : (ts : List (ℕ × ℤ)) → dimension_of_terms (turned_terms order ts) ≡ option_map (turned order) (dimension_of_terms ts)
  lone_turned [] = refl
  lone_turned (t ∷ []) = by_test (int_eq t.1 (pos 1)) where
    by_test : (b : Bool) → (if b then Some (turned order t.0) else None) ≡ option_map (turned order) (if b then Some t.0 else None)
    by_test true = refl
    by_test false = refl
  lone_turned (t ∷ u ∷ ts) = lone_both (turned order t.0, t.1) (turned order u.0, u.1) (turned_terms order ts)

  pub dimension_turned : (e : Expr) → dimension_of (turned_expr order e) ≡ option_map (turned order) (dimension_of e)
  dimension_turned e = by_test (int_eq e.constant (pos 0)) where
    by_test : (b : Bool) → (if b then dimension_of_terms (turned_terms order e.terms) else None) ≡ option_map (turned order) (if b then dimension_of_terms e.terms else None)
    by_test true = lone_turned e.terms
    by_test false = refl

  some_kept : (d : Option ℕ) → is_some (option_map (turned order) d) ≡ is_some d
  some_kept None = refl
  some_kept (Some k) = refl

  pub alone_turned : (e : Expr) → is_some (dimension_of (turned_expr order e)) ≡ is_some (dimension_of e)
  alone_turned e = ap is_some (dimension_turned e) ∙ some_kept (dimension_of e)

  pub dimensions_turned : (es : List Expr) → dimensions_of (map (turned_expr order) es) ≡ map (turned order) (dimensions_of es)
  dimensions_turned [] = refl
  dimensions_turned (e ∷ es) = (λ j. cons_option (dimension_turned e j) (dimensions_turned es j)) ∙ by_dimension (dimension_of e) where
    by_dimension : (d : Option ℕ) → cons_option (option_map (turned order) d) (map (turned order) (dimensions_of es)) ≡ map (turned order) (cons_option d (dimensions_of es))
    by_dimension None = refl
    by_dimension (Some k) = refl

  pub among_at : (ds : List ℕ) (k : ℕ) → k < n → is_among k (map (turned order) ds) ≡ is_among (origin order k) ds
  among_at [] k l = refl
  among_at (d ∷ ds) k l = λ j. turned_test d k l j || among_at ds k l j

  repeats_turned : (ds : List ℕ) → Each (λ d. d < n) ds → repeats ds ≡ false → repeats (map (turned order) ds) ≡ false
  repeats_turned [] h e = refl
  repeats_turned (d ∷ ds) h e =
      let both = or_false (is_among d ds) (repeats ds) e in
      or_none _ _ (among_at ds (turned order d) (o.lands d h.0) ∙ ap (λ k. is_among k ds) (o.back d h.0) ∙ both.0) (repeats_turned ds h.1 both.1)

  all_alone : (es : List Expr) → list_all (λ e. is_some (dimension_of e)) (map (turned_expr order) es) ≡ list_all (λ e. is_some (dimension_of e)) es
  all_alone [] = refl
  all_alone (e ∷ es) = λ j. alone_turned e j && all_alone es j

  not_true : (b : Bool) → not b ≡ true → b ≡ false
  not_true true h = absurd cc
  not_true false h = refl

  pub projected_turned : (m : MapShape) → list_all (expr_fits n) m.results ≡ true → is_projected_permutation m ≡ true → is_projected_permutation (turned_map order m) ≡ true
  projected_turned m f h =
      let both = and_parts (list_all (λ e. is_some (dimension_of e)) m.results) (not (repeats (dimensions_of m.results))) h in
      and_from _ _ (all_alone m.results ∙ both.0)
      (ap (λ ds. not (repeats ds)) (dimensions_turned m.results) ∙ ap not (repeats_turned (dimensions_of m.results) (dimensions_small n m.results f) (not_true _ both.1)))
