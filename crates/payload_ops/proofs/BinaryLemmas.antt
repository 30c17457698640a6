-- What an operation on two values of w bits gives is a value of w bits.
use Rattle.std.proofs.Common.{◌≡◌, ℕ, zero, suc, ◌+◌, ◌-◌, ◌*◌, ◌%◌, ◌^◌, ◌<◌, ◌≤◌, Bool, true, false, Option, Some, Result, Ok, Err, IfSome, IfOk, if◌then◌else◌, nat_lt, refl, true≢false, zero-lt-suc, ℤ, pos, ◌-ℤ◌, FitsSigned, w64, int_div, sym, subst, ap, ◌∙◌, arith, pow_pos, pow_mono, mod-lt, mod-eq_of_lt, div-le_self}
use Rattle.std.proofs.lemmas.Nat.{and_le_l, or_lt, xor_lt}
use Rattle.std.proofs.lemmas.Int.{ints}
use Rattle.std.specs.Int.{int_wrapping_div}
use native.Mathlib.Nat.{mod-le}
use Rattle.payload_ops.proofs.Words.{reduce-lt, reduce_is, low-low, low-quotient, pow-split}
use Rattle.payload_ops.specs.Bits.{unless, shifted_left, shifted_right, sign_shifted, quotient_traps, reduce, signed_of, on_values, binary_of, Gives}
use Rattle.mlir_base.specs.Types.{minus_one}
use Rattle.payload_ops.specs.declared.kinds.Division.{Division}
use Rattle.payload_ops.specs.declared.kinds.BinOp.{BinOp}
use Rattle.payload_ops.specs.declared.kinds.BinOp.TheVariants.{Addi, Subi, Muli, Divsi, Divui, Remsi, Remui, Andi, Ori, Xori, Shli, Shrsi, Shrui, Maxsi, Maxui, Minsi, Minui}

unless-lt : (t : Bool) (v n : ℕ) → v < n → IfSome (unless t v) (λ x. x < n)
unless-lt true v n h = tt
unless-lt false v n h = h

if-lt : (t : Bool) (x y n : ℕ) → x < n → y < n → (if t then x else y) < n
if-lt true x y n h k = h
if-lt false x y n h k = k

minus_one-lt : (w : ℕ) → minus_one w < 2 ^ w
minus_one-lt w = let some = pow_pos w in omega arith

shifted_left-lt : (w a b : ℕ) → shifted_left w a b < 2 ^ w
shifted_left-lt w a b = if-lt (nat_lt b w) _ 0 (2 ^ w) (mod-lt (a * 2 ^ b) (pow_pos w)) (pow_pos w)

shifted_right-lt : (w a b : ℕ) → a < 2 ^ w → shifted_right w a b < 2 ^ w
shifted_right-lt w a b h = if-lt (nat_lt b w) _ 0 (2 ^ w) (omega (arith, div-le_self a (2 ^ b))) (pow_pos w)

sign_shifted-lt : (w a b : ℕ) → sign_shifted w a b < 2 ^ w
sign_shifted-lt w a b = if-lt (nat_lt b w) _ _ (2 ^ w) (reduce-lt w _) (if-lt (nat_lt a (2 ^ (w - 1))) 0 _ (2 ^ w) (pow_pos w) (minus_one-lt w))

-- the operation stays in the type
pub on_values-lt : (op : BinOp) (w a b : ℕ) → a < 2 ^ w → b < 2 ^ w → IfSome (on_values op w a b) (λ v. v < 2 ^ w)
unfolding on_values
on_values-lt Addi w a b h k = mod-lt (a + b) (pow_pos w)
on_values-lt Subi w a b h k = reduce-lt w _
on_values-lt Muli w a b h k = mod-lt (a * b) (pow_pos w)
on_values-lt Divsi w a b h k = unless-lt _ _ (2 ^ w) (reduce-lt w _)
on_values-lt Divui w a b h k = unless-lt _ _ (2 ^ w) (omega (arith, div-le_self a b))
on_values-lt Remsi w a b h k = unless-lt _ _ (2 ^ w) (reduce-lt w _)
on_values-lt Remui w a b h k = unless-lt _ _ (2 ^ w) (omega (arith, mod-le a b))
on_values-lt Andi w a b h k = omega (arith, and_le_l a b)
on_values-lt Ori w a b h k = or_lt w a b h k
on_values-lt Xori w a b h k = xor_lt w a b h k
on_values-lt Shli w a b h k = shifted_left-lt w a b
on_values-lt Shrsi w a b h k = sign_shifted-lt w a b
on_values-lt Shrui w a b h k = shifted_right-lt w a b h
on_values-lt Maxsi w a b h k = reduce-lt w _
on_values-lt Maxui w a b h k = omega arith
on_values-lt Minsi w a b h k = reduce-lt w _
on_values-lt Minui w a b h k = omega arith

pub binary_of-lt : (op : BinOp) (w a b : ℕ) → IfSome (binary_of op w a b) (λ v. v < 2 ^ w)
binary_of-lt op w a b = on_values-lt op w (a % 2 ^ w) (b % 2 ^ w) (mod-lt a (pow_pos w)) (mod-lt b (pow_pos w))

-- values are their own residues
pub binary_of-values : (op : BinOp) (w a b : ℕ) → a < 2 ^ w → b < 2 ^ w → binary_of op w a b ≡ on_values op w a b
binary_of-values op w a b h k = rw (mod-eq_of_lt h, mod-eq_of_lt k) refl

given-lt : (o : Option ℕ) (r : Result ℕ Division) (n : ℕ) → IfSome o (λ v. v < n) → Gives o r → IfOk r (λ v. v < n)
given-lt o (Ok v) n h e = let P : Option ℕ → Type 0 = λ x. IfSome x (λ v. v < n) in subst P e h
given-lt o (Err e) n h k = tt

-- an answer that gives the operation on values, as both clauses of `binary` say it
pub record GivesValue (op : BinOp) (w a b : ℕ) (r : Result ℕ Division) : Type 0 where
  pub value : Gives (binary_of op w a b) r
  pub in_type : IfOk r (λ v. v < 2 ^ w)

pub gives_value : (op arm : BinOp) (w a b : ℕ) (r : Result ℕ Division) → op ≡ arm → a < 2 ^ w → b < 2 ^ w → Gives (on_values arm w a b) r → GivesValue op w a b r
gives_value op arm w a b r is h k g =
    let given : Gives (binary_of op w a b) r = subst (λ (o : Option ℕ). Gives o r) (sym (binary_of-values op w a b h k ∙ ap (λ x. on_values x w a b) is)) g in
    record { value = given; in_type = given-lt (binary_of op w a b) r (2 ^ w) (binary_of-lt op w a b) given }

-- a difference of words
pub low-difference : (w a b : ℕ) → w ≤ 64 → b < 2 ^ w → (a + (2 ^ 64 - b)) % 2 ^ 64 % 2 ^ w ≡ reduce w (pos a -ℤ pos b)
low-difference w a b h k =
    let most = pow_mono h in
    let parts = pow-split w 64 h in
    low-low w 64 (a + (2 ^ 64 - b)) h ∙ sym (reduce_is w (2 ^ (64 - w)) (a + (2 ^ 64 - b)) (pos a -ℤ pos b) (omega (arith, ints)))

pub unless-false : (t : Bool) (v r : ℕ) → t ≡ false → r ≡ v → unless t v ≡ Some r
unless-false true v r off e = absurd (true≢false off)
unless-false false v r off e = ap Some (sym e)

pub divisor-some : (w a b : ℕ) → quotient_traps w a b ≡ false → 0 < b
divisor-some w a zero off = absurd (true≢false off)
divisor-some w a (suc b) off = zero-lt-suc b

pub quotient-is : (w a b : ℕ) (x y : ℤ) → w ≤ 64 → FitsSigned w64 x → x ≡ signed_of w a → y ≡ signed_of w b → reduce w (int_wrapping_div w64 x y) ≡ reduce w (int_div (signed_of w a) (signed_of w b))
quotient-is w a b x y h f first second = low-quotient w x y h f ∙ (λ i. reduce w (int_div (first i) (second i)))
