-- Where an alias stands.
use Rattle.std.proofs.Common.{◌≡◌, ◌<◌, ◌≤◌, ℕ, ◌+◌, ◌-◌, suc, Bool, true, false, cond, List, [], ◌∷◌, length, Option, Some, None, refl, sym, ap, ◌∙◌, arith, get_or}
use Rattle.std.specs.Str.{bytes_eq}
use Rattle.std.proofs.lemmas.Bool.{cond-true, cond-false}
use Rattle.mlir_scope.specs.Names.{place}
use Rattle.mlir_scope.specs.Maps.{AliasShape, aliased, names_of}

none_if : {A B : Type 0} (b : Bool) (x : A) (y : B) (o : Option A) (p : Option B) → (o ≡ None → p ≡ None) → cond b (Some x) o ≡ None → cond b (Some y) p ≡ None
none_if true x y o p f h = absurd (cc h)
none_if false x y o p f h = f h

pub place_none : (k : ℕ) (entries : List AliasShape) (q : List ℕ) → aliased entries q ≡ None → place k (names_of entries) q ≡ None
place_none k [] q h = refl
place_none k (a ∷ entries) q h = none_if (bytes_eq a.name q) a k (aliased entries q) (place (suc k) (names_of entries) q) (λ g. place_none (suc k) entries q g) h

pub none_place : (k : ℕ) (entries : List AliasShape) (q : List ℕ) → place k (names_of entries) q ≡ None → aliased entries q ≡ None
none_place k [] q h = refl
none_place k (a ∷ entries) q h = none_if (bytes_eq a.name q) k a (place (suc k) (names_of entries) q) (aliased entries q) (λ g. none_place (suc k) entries q g) h

pub record At (k : ℕ) (entries : List AliasShape) (q : List ℕ) (i : ℕ) : Type 0 where
  pub low : k ≤ i
  pub high : i < k + length entries
  pub found : (d : AliasShape) → aliased entries q ≡ Some (get_or entries (i - k) d)

at_if : (b : Bool) (k : ℕ) (a : AliasShape) (entries : List AliasShape) (q : List ℕ) (i : ℕ) → bytes_eq a.name q ≡ b → (place (suc k) (names_of entries) q ≡ Some i → At (suc k) entries q i) → cond b (Some k) (place (suc k) (names_of entries) q) ≡ Some i → At k (a ∷ entries) q i
at_if true k a entries q i b f h =
    let same : k ≡ i = cc h in
    let z : i - k ≡ 0 = omega arith in
    record { low = omega arith; high = omega arith; found = λ d. cond-true (bytes_eq a.name q) (Some a) (aliased entries q) b ∙ sym (ap (λ j. Some (get_or (a ∷ entries) j d)) z) }
at_if false k a entries q i b f h =
    let r = f h in
    let z : i - k ≡ suc (i - suc k) = omega (arith, r.low) in
    record { low = omega (arith, r.low); high = omega (arith, r.high); found = λ d. cond-false (bytes_eq a.name q) (Some a) (aliased entries q) b ∙ r.found d ∙ sym (ap (λ j. Some (get_or (a ∷ entries) j d)) z) }

pub place_at : (k : ℕ) (entries : List AliasShape) (q : List ℕ) (i : ℕ) → place k (names_of entries) q ≡ Some i → At k entries q i
place_at k [] q i h = absurd (cc h)
place_at k (a ∷ entries) q i h = at_if (bytes_eq a.name q) k a entries q i refl (λ g. place_at (suc k) entries q i g) h
