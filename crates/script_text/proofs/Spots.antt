-- Where the last row of a value stands.
use Rattle.std.proofs.Common.{◌≡◌, ◌<◌, ◌≤◌, ℕ, ◌+◌, ◌-◌, suc, Bool, true, false, cond, List, [], ◌∷◌, ◌++◌, length, Option, Some, None, refl, sym, ap, ◌∙◌, arith, get_or, nat_eq}
use Rattle.script_text.specs.declared.names.Row.{Row}
use Rattle.script_text.specs.Names.{spot, look, or_before}

none_both : {A : Type 0} (o p : Option A) → or_before o p ≡ None → (o ≡ None) × (p ≡ None)
none_both (Some x) p h = absurd (cc h)
none_both None p h = (refl, h)

none_if : {A B : Type 0} (b : Bool) (x : A) (y : B) → cond b (Some x) None ≡ None → cond b (Some y) None ≡ None
none_if true x y h = absurd (cc h)
none_if false x y h = refl

pub none_spot : (k : ℕ) (rs : List Row) (v : ℕ) → spot k rs v ≡ None → look rs v ≡ None
none_spot k [] v h = refl
none_spot k (r ∷ rs) v h =
    let p = none_both (spot (suc k) rs v) (cond (nat_eq r.handle v) (Some k) None) h in
    ap (λ o. or_before o (cond (nat_eq r.handle v) (Some r) None)) (none_spot (suc k) rs v p.0) ∙ none_if (nat_eq r.handle v) k r p.1

pub record At (k : ℕ) (rs : List Row) (v : ℕ) (i : ℕ) : Type 0 where
  pub low : k ≤ i
  pub high : i < k + length rs
  pub found : (d : Row) → look rs v ≡ Some (get_or rs (i - k) d)

at_here : (b : Bool) (k : ℕ) (r : Row) (rs : List Row) (v i : ℕ) → nat_eq r.handle v ≡ b → look rs v ≡ None → cond b (Some k) None ≡ Some i → At k (r ∷ rs) v i
at_here true k r rs v i b n h =
    let same : k ≡ i = cc h in
    let z : i - k ≡ 0 = omega arith in
    record { low = omega arith; high = omega arith; found = λ d. ap (λ o. or_before o (cond (nat_eq r.handle v) (Some r) None)) n ∙ ap (λ c. cond c (Some r) None) b ∙ sym (ap (λ j. Some (get_or (r ∷ rs) j d)) z) }
at_here false k r rs v i b n h = absurd (cc h)

at_later : (o : Option ℕ) (k : ℕ) (r : Row) (rs : List Row) (v i : ℕ) → spot (suc k) rs v ≡ o → ((j : ℕ) → spot (suc k) rs v ≡ Some j → At (suc k) rs v j) → or_before o (cond (nat_eq r.handle v) (Some k) None) ≡ Some i → At k (r ∷ rs) v i
at_later (Some j) k r rs v i e f h =
    let a = f j e in
    let same : j ≡ i = cc h in
    let low = a.low in
    let high = a.high in
    let z : i - k ≡ suc (j - suc k) = omega arith in
    record { low = omega arith; high = omega arith; found = λ d. ap (λ o. or_before o (cond (nat_eq r.handle v) (Some r) None)) (a.found d) ∙ sym (ap (λ j. Some (get_or (r ∷ rs) j d)) z) }
at_later None k r rs v i e f h = at_here (nat_eq r.handle v) k r rs v i refl (none_spot (suc k) rs v e) h

pub spot_at : (k : ℕ) (rs : List Row) (v : ℕ) (i : ℕ) → spot k rs v ≡ Some i → At k rs v i
spot_at k [] v i h = absurd (cc h)
spot_at k (r ∷ rs) v i h = at_later (spot (suc k) rs v) k r rs v i refl (λ j g. spot_at (suc k) rs v j g) h

later_if : (b : Bool) (n : ℕ) (o p : Option ℕ) → or_before (cond b (Some n) o) p ≡ cond b (Some n) (or_before o p)
later_if true n o p = refl
later_if false n o p = refl

-- a new row stands last
pub spot_last : (k : ℕ) (rs : List Row) (r : Row) (v : ℕ) → spot k (rs ++ r ∷ []) v ≡ cond (nat_eq r.handle v) (Some (k + length rs)) (spot k rs v)
spot_last k [] r v = let z : k ≡ k + 0 = omega arith in ap (λ j. cond (nat_eq r.handle v) (Some j) None) z
spot_last k (x ∷ rs) r v =
    let z : suc k + length rs ≡ k + suc (length rs) = omega arith in
    ap (λ o. or_before o (cond (nat_eq x.handle v) (Some k) None)) (spot_last (suc k) rs r v ∙ ap (λ j. cond (nat_eq r.handle v) (Some j) (spot (suc k) rs v)) z)
    ∙ later_if (nat_eq r.handle v) (k + suc (length rs)) (spot (suc k) rs v) (cond (nat_eq x.handle v) (Some k) None)

-- a new row, in the map from values to places
pub added : (old : List Row) (r : Row) (f g : ℕ → Option ℕ) (n : ℕ) → ((v : ℕ) → g v ≡ cond (nat_eq r.handle v) (Some n) (f v)) → n ≡ length old → ((v : ℕ) → f v ≡ spot 0 old v)
    → (v : ℕ) → g v ≡ spot 0 (old ++ r ∷ []) v
added old r f g n u e i v =
    let z : n ≡ 0 + length old = omega arith in
    u v ∙ ap (λ k. cond (nat_eq r.handle v) (Some k) (f v)) z ∙ ap (λ o. cond (nat_eq r.handle v) (Some (0 + length old)) o) (i v) ∙ sym (spot_last 0 old r v)
