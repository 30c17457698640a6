-- Words of 64 and 128 bits, and the values of w bits that their low bits are.
use borrow.Author.Differences.{up, down}
use native.Mathlib.Nat.{add-mod-mod}
use Rattle.std.proofs.Common.{le_refl, mul-le-mul_left, div-add-mod', ◌≡◌, ℕ, suc, ◌+◌, ◌-◌, ◌*◌, ◌/◌, ◌%◌, ◌^◌, ◌<◌, ◌≤◌, ℤ, pos, negsuc, ◌+ℤ◌, ◌*ℤ◌, unsigned_abs, FitsSigned, refl, sym, ap, subst, ◌∙◌, arith, pow_pos, pow-add, mod-eq_of_lt, mod-lt, div-le_self, zero-le, ⊎_elim, zero, neg_ℤ, int_div, w64, lt-ltb, le-ltb}
use Rattle.std.specs.Int.{Width, cast_unsigned, cast_signed, IsNonZero, int_wrapping_div}
use Rattle.std.proofs.lemmas.Int.{ints, int_rem_euclid_is, of_z-to_z}
use Rattle.std.proofs.lemmas.Bool.{cases_lt}
use lib.Pow.{mod-mod-pow}
use mir.Val.{bits}
use mir.ValLaws.{half_full, to_z-Fits, of_z_fits}
use lib.Signed.{mag}
use Rattle.payload_ops.specs.Bits.{reduce, signed_of}

-- the low w bits of the low k bits
pub low-low : (w k n : ℕ) → w ≤ k → n % 2 ^ k % 2 ^ w ≡ n % 2 ^ w
low-low w k n h =
    let whole : (k - w) + w ≡ k = omega arith in
    let P : ℕ → Type 0 = λ m. n % 2 ^ m % 2 ^ w ≡ n % 2 ^ w in
    subst P whole (mod-mod-pow n (k - w) w)

-- a power is a multiple of a smaller one
pub pow-split : (w k : ℕ) → w ≤ k → 2 ^ (k - w) * 2 ^ w ≡ 2 ^ k
pow-split w k h = let whole : (k - w) + w ≡ k = omega arith in sym (pow-add 2 (k - w) w) ∙ ap (λ m. 2 ^ m) whole

pub pow-double : (w : ℕ) → 0 < w → 2 ^ w ≡ 2 ^ (w - 1) + 2 ^ (w - 1)
pow-double w h = let whole : (w - 1) + 1 ≡ w = omega arith in ap (λ m. 2 ^ m) (sym whole) ∙ pow-add 2 (w - 1) 1 ∙ omega arith

-- z plus k times 2 ^ w is the natural m
pub reduce_is : (w k m : ℕ) (z : ℤ) → z +ℤ pos (k * 2 ^ w) ≡ pos m → reduce w z ≡ m % 2 ^ w
unfolding reduce
reduce_is w k m z e = ap unsigned_abs (int_rem_euclid_is z (pos (2 ^ w)) (2 ^ w) k m (pow_pos w) refl e)

-- numbers that differ by a multiple of 2 ^ w
pub reduce_same : (w : ℕ) (a b : ℤ) (j k : ℕ) → a +ℤ pos (j * 2 ^ w) ≡ b +ℤ pos (k * 2 ^ w) → reduce w a ≡ reduce w b
reduce_same w a b j k e =
    let m = 2 ^ w in
    let some = pow_pos w in
    let t = down a + down b in
    let far : t * 1 ≤ t * m = mul-le-mul_left t some in
    let n = up a + (j + t) * m - down a in
    let from : (z : ℤ) (i : ℕ) → z +ℤ pos ((i + t) * m) ≡ pos n → reduce w z ≡ n % m = λ z i h. reduce_is w (i + t) n z h in
    from a j (omega (arith, ints)) ∙ sym (from b k (omega (arith, ints)))

reduced : (w : ℕ) (z : ℤ) → (j : ℕ) × (k : ℕ) × (pos (reduce w z) +ℤ pos (j * 2 ^ w) ≡ z +ℤ pos (k * 2 ^ w))
unfolding reduce
reduced w (pos a) = (a / 2 ^ w, 0, omega (arith, ints, div-add-mod' a (2 ^ w)))
reduced w (negsuc a) =
    let small = mod-lt a (pow_pos w) in
    (0, a / 2 ^ w + 1, omega (arith, ints, div-add-mod' a (2 ^ w)))

-- to reduce on the way changes nothing
pub reduce-add : (w : ℕ) (z y : ℤ) → reduce w (pos (reduce w z) +ℤ y) ≡ reduce w (z +ℤ y)
reduce-add w z y = let r = reduced w z in let same = r.2 in reduce_same w (pos (reduce w z) +ℤ y) (z +ℤ y) r.0 r.1 (omega (arith, ints))

-- a word with a multiple of another
pub low-scaled : (s v : ℕ) (z : ℤ) → mag z < 2 ^ 64 → (s + cast_unsigned w64 z * v % 2 ^ 64) % 2 ^ 64 ≡ reduce 64 (pos s +ℤ (z *ℤ pos v))
unfolding reduce
low-scaled s v (pos n) h = add-mod-mod s (n * v) (2 ^ 64)
low-scaled s v (negsuc n) h =
    let d = 2 ^ 64 - suc n in
    let whole : d + suc n ≡ 2 ^ 64 = omega arith in
    let times = ap (λ x. x * v) whole in
    add-mod-mod s (d * v) (2 ^ 64) ∙ sym (reduce_is 64 v (s + d * v) (pos s +ℤ (negsuc n *ℤ pos v)) (omega (arith, ints)))

-- the low bits of a number that is written in two's complement, which need not be in its signed range
pub low-written : (W : Width) (w : ℕ) (z : ℤ) → w ≤ bits W → mag z < 2 ^ bits W → cast_unsigned W z % 2 ^ w ≡ reduce w z
unfolding reduce
low-written W w (pos n) h f = refl
low-written W w (negsuc n) h f =
    let parts : 2 ^ (bits W - w) * 2 ^ w ≡ 2 ^ bits W = pow-split w (bits W) h in
    sym (reduce_is w (2 ^ (bits W - w)) (2 ^ bits W - suc n) (negsuc n) (omega (arith, ints)))

-- the low bits of a signed word
pub low-cast : (W : Width) (w : ℕ) (z : ℤ) → w ≤ bits W → FitsSigned W z → cast_unsigned W z % 2 ^ w ≡ reduce w z
low-cast W w z h f = low-written W w z h (half_full W f.sfits)

-- a signed word as the value of 64 bits that it is congruent to
pub cast-reduced : (z : ℤ) → FitsSigned w64 z → cast_unsigned w64 z ≡ reduce 64 z
cast-reduced z f = sym (mod-eq_of_lt (of_z_fits w64 z f).fits) ∙ low-cast w64 64 z (le_refl 64) f

pub reduce-lt : (w : ℕ) (z : ℤ) → reduce w z < 2 ^ w
unfolding reduce
reduce-lt w (pos n) = mod-lt n (pow_pos w)
reduce-lt w (negsuc n) = let some = pow_pos w in omega arith

-- the signed reading, by the sign
pub signed-low : (w v : ℕ) → v < 2 ^ w → v < 2 ^ (w - 1) → signed_of w v ≡ pos v
unfolding signed_of
signed-low w v h l = rw (mod-eq_of_lt h, lt-ltb v (2 ^ (w - 1)) l) refl

pub signed-high : (w v : ℕ) → v < 2 ^ w → 2 ^ (w - 1) ≤ v → signed_of w v ≡ negsuc (2 ^ w - 1 - v)
unfolding signed_of
signed-high w v h l = rw (mod-eq_of_lt h, le-ltb v (2 ^ (w - 1)) l) (omega (arith, ints))

-- only 0 reads 0
pub signed-nonzero : (w b : ℕ) (z : ℤ) → b < 2 ^ w → 0 < b → z ≡ signed_of w b → FitsSigned w64 z → IsNonZero w64 z
signed-nonzero w b (pos n) h some e f = ⊎_elim
    (λ low. let is : pos n ≡ pos b = e ∙ signed-low w b h low in let same : n ≡ b = cc in omega arith)
    (λ high. let is : pos n ≡ negsuc (2 ^ w - 1 - b) = e ∙ signed-high w b h high in cc)
    (cases_lt b (2 ^ (w - 1)))
signed-nonzero w b (negsuc n) h some e f = let small : n < 2 ^ 63 = f.sfits in omega arith

mag-neg : (n : ℕ) → mag (neg_ℤ (pos n)) ≤ n
mag-neg zero = zero-le
mag-neg (suc n) = omega arith

mag-quotient : (x y : ℤ) → mag (int_div x y) ≤ suc (mag x)
mag-quotient (pos a) (pos b) = omega (arith, div-le_self a b)
mag-quotient (pos a) (negsuc b) = omega (arith, div-le_self a (suc b), mag-neg (a / suc b))
mag-quotient (negsuc a) (pos b) = omega (arith, div-le_self (suc a) b, mag-neg (suc a / b))
mag-quotient (negsuc a) (negsuc b) = omega (arith, div-le_self (suc a) (suc b))

written-lt : (z : ℤ) → mag z < 2 ^ 64 → cast_unsigned w64 z < 2 ^ 64
written-lt (pos n) h = h
written-lt (negsuc n) h = omega arith

-- the low bits of a quotient of words are those of the exact one, also where that leaves the word
pub low-quotient : (w : ℕ) (x y : ℤ) → w ≤ 64 → FitsSigned w64 x → reduce w (int_wrapping_div w64 x y) ≡ reduce w (int_div x y)
low-quotient w x y h f =
    let q = int_div x y in
    let fits : mag x < 2 ^ 63 = f.sfits in
    let small : mag q < 2 ^ 64 = omega (arith, mag-quotient x y) in
    let n = cast_unsigned w64 q in
    let within = written-lt q small in
    sym (low-cast w64 w (cast_signed w64 n) h (to_z-Fits w64 n (record { fits = within })))
    ∙ ap (λ m. m % 2 ^ w) (of_z-to_z w64 n within) ∙ low-written w64 w q h small
