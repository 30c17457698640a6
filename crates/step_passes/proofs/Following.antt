-- The definitions in scope before and after a pass: the same types, under the names that uses have.
use Rattle.std.proofs.Common.{◌≡◌, ℕ, ◌<◌, ◌≤◌, ◌==◌, ◌||◌, Bool, true, false, List, [], ◌∷◌, ◌++◌, Option, Some, None, refl, ap, sym, subst, ◌∙◌, arith, eqb-true, eq-eqb}
use Rattle.std.specs.Prelude.{is_some, if◌then◌else◌}
use Rattle.std.proofs.lemmas.Bool.{ne_eqb}
use Rattle.affine_maps.specs.Permutation.{is_among}
use Rattle.mlir_ir.specs.Count.{first}
use Rattle.mlir_ir.specs.declared.tree.Op.{Op}
use Rattle.mlir_ir.specs.declared.tree.OpId.{OpId}
use Rattle.mlir_ir.specs.declared.tree.OpKind.{OpKind}
use Rattle.mlir_ir.specs.declared.tree.Ty.{Ty}
use Rattle.mlir_ir.specs.declared.tree.ValueId.{ValueId}
use Rattle.mlir_meaning.specs.Grids.{Each}
use Rattle.mlir_verify.specs.Names.{numbers}
use Rattle.mlir_verify.specs.Place.{type_among}
use Rattle.mlir_verify.proofs.Standing.{type_among-append}
use Rattle.verified_runs.specs.Fresh.{above_body}
use Rattle.verified_runs.specs.Passes.{Scope, BodyPasses, scope_after}
use Rattle.verified_runs.proofs.ReusedBodies.{or_false, among_parts, results_kept}
use Rattle.step_results.proofs.Small.{numbers_below}
use Rattle.step_passes.specs.declared.exchange.Exchange.{Exchange}
use Rattle.step_passes.specs.OnePass.{exchange_of, Names, with_name, put, put_by, passed_ops}
use Rattle.step_passes.proofs.Walking.{turned_eqb, IsFresh, found_fresh, names_after}

-- TYPES AND NUMBERS
pub known_same : (xs : Scope) (v : ℕ) → is_some (type_among xs v) ≡ is_among v (numbers xs)
known_same [] v = refl
known_same (d ∷ ds) v = by_test ((d.0).0 == v) (type_among ds v) (known_same ds v) where
  by_test : (b : Bool) (a : Option Ty) → is_some a ≡ is_among v (numbers ds) → is_some (first a (if b then Some d.1 else None)) ≡ (b || is_among v (numbers ds))
  by_test true None h = refl
  by_test true (Some t) h = refl
  by_test false None h = h
  by_test false (Some t) h = h

abbrev pub AreNew : Scope → Scope → Type 0
AreNew scope rs = Each (λ (d : ValueId × Ty). is_among (d.0).0 (numbers scope) ≡ false) rs

-- a number that is known isn't a new one
new_differs : (scope : Scope) (a u : ℕ) → is_among a (numbers scope) ≡ false → is_among u (numbers scope) ≡ true → (a == u) ≡ false
new_differs scope a u h k = by_test (a == u) refl where
  by_test : (b : Bool) → (a == u) ≡ b → b ≡ false
  by_test true e = absurd (let z : false ≡ true = sym h ∙ ap (λ w. is_among w (numbers scope)) (eqb-true a u e) ∙ k in cc)
  by_test false e = refl

new_untyped : (scope rs : Scope) (u : ℕ) → AreNew scope rs → is_among u (numbers scope) ≡ true → type_among rs u ≡ None
new_untyped scope [] u h k = refl
new_untyped scope (d ∷ rs) u h k = λ j. first (new_untyped scope rs u h.1 k j) (if new_differs scope (d.0).0 u h.0 k j then Some d.1 else None)

pub among_small : (n w : ℕ) (vs : List ℕ) → Each (λ v. v < n) vs → is_among w vs ≡ true → w < n
among_small n w [] h e = absurd cc
among_small n w (v ∷ vs) h e = by_test (v == w) refl (among_small n w vs h.1) e where
  by_test : (b : Bool) → (v == w) ≡ b → (is_among w vs ≡ true → w < n) → (b || is_among w vs) ≡ true → w < n
  by_test true q rest k = let l = h.0 in omega (arith, eqb-true v w q, l)
  by_test false q rest k = rest k

-- WHAT FOLLOWS
-- the first definitions are those before a pass, whose numbers are below n
pub record Follows (n : ℕ) (old other : Scope) (g : Names) : Type 0 where
  pub outside : (w : ℕ) → is_among w (numbers old) ≡ false → g w ≡ w
  pub types : (w : ℕ) → w < n → type_among other (g w) ≡ type_among old w
  pub below : Each (λ v. v < n) (numbers old)

module _ (n : ℕ) (old other : Scope) (g : Names) (f : Follows n old other g) where
  carried : (w : ℕ) → is_among w (numbers old) ≡ true → is_among (g w) (numbers other) ≡ true
  carried w h = sym (known_same other (g w)) ∙ ap is_some (f.types w (among_small n w (numbers old) f.below h)) ∙ known_same old w ∙ h

  -- a new number is no name of another value
  pub apart : (a w : ℕ) → is_among a (numbers old) ≡ false → is_among a (numbers other) ≡ false → (w == a) ≡ false → (g w == a) ≡ false
  apart a w h k d = by_test (is_among w (numbers old)) refl where
    by_test : (b : Bool) → is_among w (numbers old) ≡ b → (g w == a) ≡ false
    by_test true e = turned_eqb (g w) a ∙ new_differs other a (g w) k (carried w e)
    by_test false e = ap (λ u. u == a) (f.outside w e) ∙ d

  numbers_after : (rs : Scope) → Each (λ v. v < n) (numbers rs) → Each (λ v. v < n) (numbers (old ++ rs))
  numbers_after rs h = more old f.below where
    more : (xs : Scope) → Each (λ v. v < n) (numbers xs) → Each (λ v. v < n) (numbers (xs ++ rs))
    more [] k = h
    more (x ∷ xs) k = (k.0, more xs k.1)

  follows_same : (rs : Scope) → AreNew old rs → AreNew other rs → Each (λ v. v < n) (numbers rs) → Follows n (old ++ rs) (other ++ rs) g
  follows_same rs new_old new_other small = record {
    outside = λ w h. f.outside w (or_false _ _ (sym (among_parts w old rs) ∙ h)).0;
    types = λ w l. type_among-append other rs (g w) ∙ (λ j. first (here w (is_among w (numbers old)) refl j) (f.types w l j)) ∙ sym (type_among-append old rs w);
    below = numbers_after rs small;
  } where
    here : (w : ℕ) (b : Bool) → is_among w (numbers old) ≡ b → type_among rs (g w) ≡ type_among rs w
    here w true e = new_untyped other rs (g w) new_other (carried w e) ∙ sym (new_untyped old rs w new_old e)
    here w false e = ap (type_among rs) (f.outside w e)

  follows_new : (r : ValueId × Ty) (m : ℕ) → is_among (r.0).0 (numbers old) ≡ false → is_among m (numbers other) ≡ false → n ≤ m → (r.0).0 < n →
      Follows n (old ++ r ∷ []) (other ++ (record { 0 = m }, r.1) ∷ []) (with_name (r.0).0 m g)
  follows_new r m new_old new_other l small = record {
    outside = λ w h.
        let parts = or_false (is_among w (numbers old)) _ (sym (among_parts w old (r ∷ [])) ∙ h) in
        let differs = turned_eqb w (r.0).0 ∙ (or_false ((r.0).0 == w) false parts.1).0 in
        (λ j. if differs j then m else g w) ∙ f.outside w parts.0;
    types = λ w k.
        type_among-append other news (with_name (r.0).0 m g w) ∙ by_test w k (w == (r.0).0) refl ∙ sym (type_among-append old (r ∷ []) w);
    below = numbers_after (r ∷ []) (small, tt);
  } where
    news : Scope
    news = (record { 0 = m }, r.1) ∷ []

    other_number : (w : ℕ) → w < n → (b : Bool) → is_among w (numbers old) ≡ b → (m == g w) ≡ false
    other_number w k true e = new_differs other m (g w) new_other (carried w e)
    other_number w k false e = ap (λ u. m == u) (f.outside w e) ∙ ne_eqb m w (λ q. absurd (omega (arith, q, l, k)))

    by_test : (w : ℕ) → w < n → (b : Bool) → (w == (r.0).0) ≡ b →
        first (type_among news (if b then m else g w)) (type_among other (if b then m else g w)) ≡ first (type_among (r ∷ []) w) (type_among old w)
    by_test w k true e =
        (λ j. first (if eq-eqb m m refl j then Some r.1 else None) (type_among other m))
        ∙ (λ j. first (if (sym (turned_eqb (r.0).0 w ∙ e)) j then Some r.1 else None) (type_among old w))
    by_test w k false e =
        (λ j. first (if other_number w k (is_among w (numbers old)) refl j then Some r.1 else None) (f.types w k j))
        ∙ (λ j. first (if (sym (turned_eqb (r.0).0 w ∙ e)) j then Some r.1 else None) (type_among old w))

  -- behind one operation
  pub follows_put : (x : Option Exchange) (i : OpId) (rs : Scope) (kind : OpKind) (k : ℕ) →
      AreNew old rs → AreNew other (put x g (record { id = i; results = rs; kind = kind }) rs).0.results → Each (λ v. v < n) (numbers rs) →
      ((y : Exchange) → x ≡ Some y → IsFresh n k y) →
      Follows n (old ++ rs) (other ++ (put x g (record { id = i; results = rs; kind = kind }) rs).0.results) (put x g (record { id = i; results = rs; kind = kind }) rs).1
  follows_put None i rs kind k h q small fresh =
      subst (λ ps. Follows n (old ++ rs) (other ++ ps) g) (sym (results_kept g rs)) (follows_same rs h (subst (AreNew other) (results_kept g rs) q) small)
  follows_put (Some y) i [] kind k h q small fresh = follows_same [] h q small
  follows_put (Some y) i (r ∷ []) kind k h q small fresh = follows_new r y.value h.0 q.0 (fresh y refl).0 small.0
  follows_put (Some y) i (r ∷ s ∷ rs) kind k h q small fresh =
      let all : Scope = r ∷ s ∷ rs in
      subst (λ ps. Follows n (old ++ all) (other ++ ps) g) (sym (results_kept g all)) (follows_same all h (subst (AreNew other) (results_kept g all) q) small)

-- before the first operation
pub follows_start : (n : ℕ) (params : Scope) → Each (λ v. v < n) (numbers params) → Follows n params params (λ v. v)
follows_start n params h = record { outside = λ w e. refl; types = λ w l. refl; below = h }

module _ (n k : ℕ) (xs : List Exchange) (fresh : Each (IsFresh n k) xs) (wanted : List Ty) where
  -- behind the first operations of a body
  pub follows_after : (os more : List Op) (old other : Scope) (g : Names) → BodyPasses old wanted (os ++ more) → BodyPasses other wanted (passed_ops xs g (os ++ more)) →
      above_body os ≤ n → Follows n old other g → Follows n (scope_after old os) (scope_after other (passed_ops xs g os)) (names_after xs g os)
  follows_after [] more old other g h q l f = f
  follows_after (o ∷ os) more old other g h q l f =
      follows_after os more (old ++ o.results) (other ++ (put_by xs g o).0.results) (put_by xs g o).1 h.2 q.2 (omega arith)
      (follows_put n old other g f (exchange_of xs o.id.0) o.id o.results o.kind k h.0.news q.0.news (numbers_below o.results n (omega arith))
      (λ y e. found_fresh n k xs o.id.0 y fresh e))
