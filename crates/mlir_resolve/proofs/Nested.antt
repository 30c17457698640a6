-- Loops over extents, and over the items of a list.
use Rattle.std.proofs.Common.{◌≡◌, ◌<◌, ◌≤◌, ℕ, ◌+◌, ◌-◌, ◌*◌, suc, List, length, drop, get_or, Option, Some, None, sym, ap, ◌∙◌, arith, mul_assoc}
use Rattle.std.proofs.Math.Seq.{drop-cons}
use Rattle.mlir_ir.specs.declared.tree.Extent.{Extent}
use Rattle.mlir_resolve.specs.declared.dense.Mark.{Mark}
use Rattle.mlir_scope.specs.Types.{counted, elements}
use Rattle.mlir_resolve.specs.Constants.{times, and_behind}

-- one more extent
pub product_step : (es : List Extent) (i : ℕ) (d : Extent) (p q : ℕ) → i < length es → q ≡ p * counted (get_or es i d) → q * elements (drop (i + 1) es) ≡ p * elements (drop i es)
product_step es i d p q lt e =
    let z : suc i ≡ i + 1 = omega arith in
    ap (λ n. n * elements (drop (i + 1) es)) e
    ∙ mul_assoc p (counted (get_or es i d)) (elements (drop (i + 1) es))
    ∙ ap (λ j. p * (counted (get_or es i d) * elements (drop j es))) (sym z)
    ∙ ap (λ xs. p * elements xs) (sym (drop-cons es i d lt))

-- one more item
pub times_step : (n k : ℕ) (f : List Mark → Option (List Mark)) (ms next : List Mark) → k < n → f ms ≡ Some next → times (n - k) f ms ≡ times (n - (k + 1)) f next
times_step n k f ms next lt e =
    let z : n - k ≡ suc (n - (k + 1)) = omega arith in
    ap (λ j. times j f ms) z ∙ ap (λ o. and_behind o (times (n - (k + 1)) f)) e

-- no further item
pub times_fails : (n k : ℕ) (f : List Mark → Option (List Mark)) (ms : List Mark) → k < n → f ms ≡ None → times (n - k) f ms ≡ None
times_fails n k f ms lt e =
    let z : n - k ≡ suc (n - (k + 1)) = omega arith in
    ap (λ j. times j f ms) z ∙ ap (λ o. and_behind o (times (n - (k + 1)) f)) e

pub times_done : (n k : ℕ) (f : List Mark → Option (List Mark)) (ms : List Mark) → n ≤ k → times (n - k) f ms ≡ Some ms
times_done n k f ms le = let z : n - k ≡ 0 = omega arith in ap (λ j. times j f ms) z
