-- Numbers that digits write.
use Rattle.std.proofs.Common.{◌≡◌, ◌<◌, ◌≤◌, ◌+◌, ◌*◌, ◌^◌, ℕ, suc, Bool, true, false, nat_le, List, [], ◌∷◌, length, get_or, drop, cond, ◌&&◌, pos, to_z, w64, Some, None, Ok, Err, refl, sym, ap, subst, ◌∙◌, arith}
use Rattle.std.specs.Char.{digit_value}
use Rattle.std.specs.Str.Parse.{digits_value, digits_value_after}
use Rattle.std.proofs.Math.Seq.{drop-cons}
use Rattle.std.proofs.lemmas.Bool.{cond-true, cond-false}
use Rattle.std.proofs.lemmas.Bool.Decides.{nat_tests}
use Rattle.std.proofs.lemmas.Int.{to_z_pos}
use Rattle.affine_maps.specs.declared.map.Expr.{Expr}
use Rattle.affine_text.specs.declared.reading.fault.MapError.TheVariants.{Range}
use Rattle.affine_text.specs.Collected.{constant_form}
use Rattle.affine_text.specs.Meaning.{in_range, number_form}
use Rattle.affine_text.specs.Feeding.{number_of}

value_grows : (n : ℕ) (ds : List ℕ) → n ≤ digits_value_after 10 n ds
value_grows n [] = omega arith
value_grows n (d ∷ ds) = let more : n * 10 + digit_value d ≤ digits_value_after 10 (n * 10 + digit_value d) ds = value_grows (n * 10 + digit_value d) ds in omega arith

pub one_more : (ds : List ℕ) (i n m v : ℕ) → i < length ds → m ≡ n * 10 + digit_value (get_or ds i 0) → digits_value_after 10 n (drop i ds) ≡ v → digits_value_after 10 m (drop (i + 1) ds) ≡ v
one_more ds i n m v h e w =
    let c : drop i ds ≡ get_or ds i 0 ∷ drop (suc i) ds = drop-cons ds i 0 h in
    let s : i + 1 ≡ suc i = omega arith in
    ap (λ k. digits_value_after 10 m (drop k ds)) s ∙ ap (λ k. digits_value_after 10 k (drop (suc i) ds)) e ∙ sym (ap (digits_value_after 10 n) c) ∙ w

above : (n : ℕ) → 2 ^ 31 < n → nat_le n (2 ^ 31) ≡ false
above n h = grind (arith, nat_tests)

within : (n : ℕ) → n ≤ 2 ^ 31 → nat_le n (2 ^ 31) ≡ true
within n h = grind (arith, nat_tests)

pub too_large : (ds : List ℕ) (i n m : ℕ) → i < length ds → m ≡ n * 10 + digit_value (get_or ds i 0) → digits_value_after 10 n (drop i ds) ≡ digits_value 10 ds → 2 ^ 31 < m → None ≡ number_of ds
too_large ds i n m h e w large =
    let k : m ≤ digits_value_after 10 m (drop (i + 1) ds) = value_grows m (drop (i + 1) ds) in
    let v : digits_value_after 10 m (drop (i + 1) ds) ≡ digits_value 10 ds = one_more ds i n m (digits_value 10 ds) h e w in
    sym (cond-false (nat_le (digits_value 10 ds) (2 ^ 31)) (Some (digits_value 10 ds)) None (above (digits_value 10 ds) (omega (arith, k, v, large))))

pub is_number : (ds : List ℕ) (n : ℕ) → n ≡ digits_value 10 ds → n ≤ 2 ^ 31 → Some n ≡ number_of ds
is_number ds n e h =
    ap Some e ∙ sym (cond-true (nat_le (digits_value 10 ds) (2 ^ 31)) (Some (digits_value 10 ds)) None (within (digits_value 10 ds) (omega (arith, e, h))))

-- ---- the form of a number

formed : (b : Bool) (at v : ℕ) → nat_le v (2 ^ 31) ≡ b → in_range at (constant_form (pos v)) ≡ cond b (Ok (constant_form (pos v))) (Err (Range at))
unfolding in_range
formed true at v e = ap (λ (c : Bool). cond (c && true) (Ok (constant_form (pos v))) (Err (Range at))) e
formed false at v e = ap (λ (c : Bool). cond (c && true) (Ok (constant_form (pos v))) (Err (Range at))) e

stored : (n : ℕ) → n ≤ 2 ^ 31 → to_z w64 n ≡ pos n
stored n h = to_z_pos w64 n (omega (arith, h))

small : (n : ℕ) → nat_le n (2 ^ 31) ≡ true → n ≤ 2 ^ 31
small n e = grind (arith, nat_tests)

some_form : (b : Bool) (at v n : ℕ) (f : Expr) → nat_le v (2 ^ 31) ≡ b → cond b (Some v) None ≡ Some n → f ≡ constant_form (to_z w64 n) → in_range at (constant_form (pos v)) ≡ Ok f
some_form true at v n f e g h =
    let same : v ≡ n = cc in
    let k : to_z w64 n ≡ pos v = stored n (subst (λ m. m ≤ 2 ^ 31) same (small v e)) ∙ ap pos (sym same) in
    formed true at v e ∙ ap Ok (sym (h ∙ ap constant_form k))
some_form false at v n f e g h = absurd cc

no_form : (b : Bool) (at v : ℕ) → nat_le v (2 ^ 31) ≡ b → cond b (Some v) None ≡ None → in_range at (constant_form (pos v)) ≡ Err (Range at)
no_form true at v e g = absurd cc
no_form false at v e g = formed false at v e

pub number_read : (at : ℕ) (ds : List ℕ) (n : ℕ) (f : Expr) → number_of ds ≡ Some n → f ≡ constant_form (to_z w64 n) → number_form at ds ≡ Ok f
number_read at ds n f e h = some_form (nat_le (digits_value 10 ds) (2 ^ 31)) at (digits_value 10 ds) n f refl e h

pub number_far : (at : ℕ) (ds : List ℕ) → number_of ds ≡ None → number_form at ds ≡ Err (Range at)
number_far at ds e = no_form (nat_le (digits_value 10 ds) (2 ^ 31)) at (digits_value 10 ds) refl e
