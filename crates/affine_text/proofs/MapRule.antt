-- What a map's rule says of each expression and each term.
use Rattle.std.proofs.Common.{◌≡◌, ◌<◌, ◌≤◌, ℕ, ◌+◌, true, ◌&&◌, ℤ, List, [], ◌∷◌, unsigned_abs, nat_le, nat_lt}
use Rattle.std.specs.List.{AllByRecursion, list_all}
use Rattle.std.proofs.lemmas.Bool.{and_parts, leb-true, ltb-true}
use Rattle.mlir_base.specs.Numbers.{is_in_range, is_coefficient}
use Rattle.affine_maps.specs.declared.map.Expr.{Expr}
use Rattle.affine_maps.specs.Map.{terms_fit, expr_fits}

-- its dimension is one of so many, and its coefficient is in range and not 0
pub record IsTerm (dims : ℕ) (t : ℕ × ℤ) : Type 0 where
  pub below : t.0 < dims
  pub some : 0 < unsigned_abs t.1
  pub in_range : is_in_range t.1 ≡ true

abbrev pub AreTerms : ℕ → List (ℕ × ℤ) → Type 0
AreTerms dims ts = AllByRecursion (IsTerm dims) ts

-- the dimensions rise, from `low` on
abbrev pub Rises : ℕ → List (ℕ × ℤ) → Type 0
Rises low [] = Unit {0}
Rises low (t ∷ ts) = (low ≤ t.0) × Rises (t.0 + 1) ts

pub record IsOver (dims : ℕ) (e : Expr) : Type 0 where
  pub constant : is_in_range e.constant ≡ true
  pub terms : AreTerms dims e.terms
  pub rises : Rises 0 e.terms

terms_of : (dims low : ℕ) (ts : List (ℕ × ℤ)) → terms_fit dims ts low ≡ true → AreTerms dims ts × Rises low ts
terms_of dims low [] h = (tt, tt)
terms_of dims low (t ∷ ts) h =
    let p = and_parts (nat_le low t.0 && nat_lt t.0 dims && is_coefficient t.1) (terms_fit dims ts (t.0 + 1)) h in
    let q = and_parts (nat_le low t.0 && nat_lt t.0 dims) (is_coefficient t.1) p.0 in
    let r = and_parts (nat_le low t.0) (nat_lt t.0 dims) q.0 in
    let s = and_parts (nat_lt 0 (unsigned_abs t.1)) (is_in_range t.1) q.1 in
    let more = terms_of dims (t.0 + 1) ts p.1 in
    ((record { below = ltb-true t.0 dims r.1; some = ltb-true 0 (unsigned_abs t.1) s.0; in_range = s.1 }, more.0), (leb-true low t.0 r.0, more.1))

over : (dims : ℕ) (e : Expr) → expr_fits dims e ≡ true → IsOver dims e
over dims e h =
    let p = and_parts (is_in_range e.constant) (terms_fit dims e.terms 0) h in
    let q = terms_of dims 0 e.terms p.1 in
    record { constant = p.0; terms = q.0; rises = q.1 }

pub results_over : (dims : ℕ) (es : List Expr) → list_all (expr_fits dims) es ≡ true → AllByRecursion (IsOver dims) es
results_over dims [] h = tt
results_over dims (e ∷ es) h = let p = and_parts (expr_fits dims e) (list_all (expr_fits dims) es) h in (over dims e p.0, results_over dims es p.1)
