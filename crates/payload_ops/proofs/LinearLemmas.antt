-- A linear step adds its terms one by one, modulo 2^64.
use Rattle.std.proofs.Common.{◌≡◌, ℕ, ◌+◌, ◌^◌, ◌<◌, ◌≤◌, ℤ, pos, ◌+ℤ◌, ◌*ℤ◌, Bool, ◌&&◌, IsTrue, Option, FitsSigned, w64, unsigned_abs, nat_lt, mod-eq_of_lt, leb-true, List, drop, length, get_or, sym, ap, ◌∙◌, arith}
use Rattle.std.proofs.lemmas.Bool.{and_parts}
use Rattle.std.proofs.lemmas.Int.{ints, fits_signed_from_abs}
use Rattle.std.proofs.lemmas.List.{drop_more, drop_all}
use Rattle.std.specs.List.{list_all}
use Rattle.payload_ops.proofs.Words.{reduce-add}
use Rattle.payload_ops.specs.Bits.{reduce}
use Rattle.mlir_base.specs.Numbers.{is_in_range, is_coefficient}
use Rattle.payload_ops.specs.Payload.{has_type, term_fits}
use Rattle.payload_ops.specs.Values.{terms_sum}
use Rattle.mlir_base.specs.declared.types.ElemTy.{ElemTy}
use Rattle.mlir_base.specs.declared.types.ElemTy.TheVariants.{Index as IndexType}
use Rattle.payload_ops.specs.declared.step.Arg.{Arg}

pub terms-more : (value : Arg → ℕ) (terms : List (Arg × ℤ)) (i : ℕ) (d : Arg × ℤ) (sum next v : ℕ) → i < length terms → v ≡ value (get_or terms i d).0
    → next ≡ reduce 64 (pos sum +ℤ ((get_or terms i d).1 *ℤ pos v)) → reduce 64 (pos sum +ℤ terms_sum value (drop i terms)) ≡ reduce 64 (pos next +ℤ terms_sum value (drop (i + 1) terms))
terms-more value terms i d sum next v h read more =
    let t = get_or terms i d in
    let rest = terms_sum value (drop (i + 1) terms) in
    let product = t.1 *ℤ pos v in
    let regroup : pos sum +ℤ (product +ℤ rest) ≡ (pos sum +ℤ product) +ℤ rest = omega (arith, ints) in
    ap (λ l. reduce 64 (pos sum +ℤ terms_sum value l)) (drop_more terms i d h)
    ∙ ap (λ n. reduce 64 (pos sum +ℤ ((t.1 *ℤ pos n) +ℤ rest))) (sym read)
    ∙ ap (reduce 64) regroup
    ∙ sym (reduce-add 64 (pos sum +ℤ product) rest)
    ∙ ap (λ n. reduce 64 (pos n +ℤ rest)) (sym more)

list_all-split : {X : Type 0} (f : X → Bool) (xs : List X) (i : ℕ) (d : X) → i < length xs → IsTrue (list_all f (drop i xs)) → IsTrue (f (get_or xs i d) && list_all f (drop (i + 1) xs))
list_all-split f xs i d h all = sym (ap (list_all f) (drop_more xs i d h)) ∙ all

pub list_all-here : {X : Type 0} (f : X → Bool) (xs : List X) (i : ℕ) (d : X) → i < length xs → IsTrue (list_all f (drop i xs)) → IsTrue (f (get_or xs i d))
list_all-here f xs i d h all = (and_parts (f (get_or xs i d)) (list_all f (drop (i + 1) xs)) (list_all-split f xs i d h all)).0

pub list_all-more : {X : Type 0} (f : X → Bool) (xs : List X) (i : ℕ) (d : X) → i < length xs → IsTrue (list_all f (drop i xs)) → IsTrue (list_all f (drop (i + 1) xs))
list_all-more f xs i d h all = (and_parts (f (get_or xs i d)) (list_all f (drop (i + 1) xs)) (list_all-split f xs i d h all)).1

-- a coefficient is a word
pub coefficient-word : (at : Arg → Option ElemTy) (term : Arg × ℤ) → IsTrue (term_fits at term) → FitsSigned w64 term.1
coefficient-word at term h =
    let parts = and_parts (nat_lt 0 (unsigned_abs term.1)) (is_in_range term.1) (and_parts (has_type (at term.0) IndexType) (is_coefficient term.1) h).1 in
    let small = leb-true (unsigned_abs term.1) (2 ^ 31) parts.1 in
    fits_signed_from_abs w64 term.1 (omega arith)

-- at the end nothing is left to add
pub terms-all : (value : Arg → ℕ) (terms : List (Arg × ℤ)) (i sum : ℕ) (z : ℤ) → length terms ≤ i → sum < 2 ^ 64 → reduce 64 z ≡ reduce 64 (pos sum +ℤ terms_sum value (drop i terms)) → sum ≡ reduce 64 z
unfolding reduce
terms-all value terms i sum z h small e =
    let none : pos sum +ℤ pos 0 ≡ pos sum = omega (arith, ints) in
    sym (e ∙ ap (λ l. reduce 64 (pos sum +ℤ terms_sum value l)) (drop_all i terms h) ∙ ap (reduce 64) none ∙ mod-eq_of_lt small)
