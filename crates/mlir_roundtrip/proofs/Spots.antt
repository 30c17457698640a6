-- Where the row of a value stands.
use Rattle.std.proofs.Common.{◌≡◌, ℕ, ◌+◌, suc, Bool, true, false, cond, List, [], ◌∷◌, ◌++◌, length, Option, Some, None, refl, ap, ◌∙◌, arith, nat_eq}
use Rattle.mlir_print.specs.Names.{Row, spot, or_before}

or_if : (b : Bool) (n : ℕ) (o p : Option ℕ) → or_before (cond b (Some n) o) p ≡ cond b (Some n) (or_before o p)
or_if true n o p = refl
or_if false n o p = refl

pub spot_last : (k : ℕ) (rows : List Row) (r : Row) (v : ℕ) → spot k (rows ++ r ∷ []) v ≡ cond (nat_eq r.value v) (Some (k + length rows)) (spot k rows v)
spot_last k [] r v = let z : k ≡ k + 0 = omega arith in ap (λ j. cond (nat_eq r.value v) (Some j) None) z
spot_last k (x ∷ rows) r v =
    let z : suc k + length rows ≡ k + suc (length rows) = omega arith in
    ap (λ o. or_before o (cond (nat_eq x.value v) (Some k) None)) (spot_last (suc k) rows r v ∙ ap (λ j. cond (nat_eq r.value v) (Some j) (spot (suc k) rows v)) z)
    ∙ or_if (nat_eq r.value v) (k + suc (length rows)) (spot (suc k) rows v) (cond (nat_eq x.value v) (Some k) None)
