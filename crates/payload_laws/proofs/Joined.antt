-- Each combiner is associative and commutative, and has its neutral element.
use Rattle.std.proofs.Common.{◌≡◌, ℕ, zero, suc, ◌+◌, ◌-◌, ◌*◌, ◌%◌, ◌^◌, ◌<◌, ◌≤◌, min, max, bit_and, bit_or, bit_xor, ℤ, pos, ◌-ℤ◌, int_lt, refl, ap, sym, ◌∙◌, ◌⊎◌, inl, inr, arith, add_comm, add_assoc, mul_comm, mul_assoc, mod-eq_of_lt, zero-add, one-mul, ltb, ◌≤ℤ◌, Option, Some, None, IfSome}
use Rattle.std.specs.Int.{int_max, int_min}
use Rattle.std.specs.Option.{option_map_or}
use Rattle.std.proofs.Math.Nat.{max_comm, min_comm, mod-add-mod, add-mod-mod}
use Rattle.std.proofs.lemmas.Nat.{and_comm, or_comm, xor_comm, and_assoc, and_mask, and_mod, or_mod, xor_mod, mul-mod_first, mul-mod_second, pow_pos, mod_below}
use Rattle.std.proofs.lemmas.Nat.Bits.{same_from_bits, bit_at_or}
use Rattle.std.proofs.lemmas.Bool.{lt-ltb, le-ltb, cond_both, cond-true, cond-false, cases_cond, ltb-true, ltb-false}
use Rattle.std.proofs.lemmas.Int.{ints, clamps}
use Rattle.std.specs.Int.Bits.{xor_assoc}
use Rattle.payload_ops.specs.Bits.{reduce, signed_of, on_values, binary_of}
use Rattle.mlir_base.specs.Types.{least_signed, minus_one}
use Rattle.payload_ops.specs.Combine.{joined, operation_of}
use Rattle.payload_laws.specs.Combiners.{neutral_of}
use Rattle.payload_laws.specs.Laws.{IsAssociative, IsCommutative, IsNeutral}
use Rattle.payload_ops.specs.declared.kinds.Combiner.{Combiner}
use Rattle.payload_ops.specs.declared.kinds.Combiner.TheVariants.{Add, Mul, And, Or, Xor, MaxS, MaxU, MinS, MinU}
use Rattle.payload_ops.proofs.BinaryLemmas.{binary_of-lt}
use Rattle.payload_ops.proofs.Residues.{mod_twice, reduce-signed_of, signed_of_low}
use Rattle.payload_ops.proofs.Words.{pow-double, reduce_is, reduce-lt}

-- an operation on readings of numbers, where a result that is written and read again is itself
pub read_assoc : {X : Type 0} (f : X → X → X) (read : ℕ → X) (write : X → ℕ) → ((a b : ℕ) → read (write (f (read a) (read b))) ≡ f (read a) (read b)) →
    ((x y z : X) → f (f x y) z ≡ f x (f y z)) → (a b c : ℕ) → write (f (read (write (f (read a) (read b)))) (read c)) ≡ write (f (read a) (read (write (f (read b) (read c)))))
read_assoc f read write back assoc a b c =
    ap (λ x. write (f x (read c))) (back a b) ∙ ap write (assoc (read a) (read b) (read c)) ∙ sym (ap (λ x. write (f (read a) x)) (back b c))

-- ---- the signed readings

int_max_assoc : (x y z : ℤ) → int_max (int_max x y) z ≡ int_max x (int_max y z)
int_max_assoc x y z = omega (arith, ints, clamps)

int_min_assoc : (x y z : ℤ) → int_min (int_min x y) z ≡ int_min x (int_min y z)
int_min_assoc x y z = omega (arith, ints, clamps)

int_max_comm : (x y : ℤ) → int_max x y ≡ int_max y x
int_max_comm x y = omega (arith, ints, clamps)

int_min_comm : (x y : ℤ) → int_min x y ≡ int_min y x
int_min_comm x y = omega (arith, ints, clamps)

-- the signed readings are read back from the values that they are written to
read_back : (w : ℕ) (z : ℤ) (a b : ℕ) → (z ≡ signed_of w a) ⊎ (z ≡ signed_of w b) → signed_of w (reduce w z) ≡ z
read_back w z a b (inl e) = ap (λ x. signed_of w (reduce w x)) e ∙ ap (signed_of w) (reduce-signed_of w a) ∙ signed_of_low w a ∙ sym e
read_back w z a b (inr e) = ap (λ x. signed_of w (reduce w x)) e ∙ ap (signed_of w) (reduce-signed_of w b) ∙ signed_of_low w b ∙ sym e

greatest_back : (w a b : ℕ) → signed_of w (reduce w (int_max (signed_of w a) (signed_of w b))) ≡ int_max (signed_of w a) (signed_of w b)
greatest_back w a b = read_back w (int_max (signed_of w a) (signed_of w b)) a b (cases_cond (int_lt (signed_of w b) (signed_of w a)) (signed_of w a) (signed_of w b) _ refl)

least_back : (w a b : ℕ) → signed_of w (reduce w (int_min (signed_of w a) (signed_of w b))) ≡ int_min (signed_of w a) (signed_of w b)
least_back w a b = read_back w (int_min (signed_of w a) (signed_of w b)) b a (cases_cond (int_lt (signed_of w b) (signed_of w a)) (signed_of w b) (signed_of w a) _ refl)

-- ---- each combiner as one operation on readings
max_assoc : (a b c : ℕ) → max (max a b) c ≡ max a (max b c)
max_assoc a b c = omega arith

min_assoc : (a b c : ℕ) → min (min a b) c ≡ min a (min b c)
min_assoc a b c = omega arith

or_assoc : (a b c : ℕ) → bit_or (bit_or a b) c ≡ bit_or a (bit_or b c)
or_assoc a b c = same_from_bits _ _ (λ i. omega (arith, bit_at_or (bit_or a b) c i, bit_at_or a b i, bit_at_or a (bit_or b c) i, bit_at_or b c i))

-- the value of w bits of a sum or product in which a part was reduced before
sum_assoc : (w a b c : ℕ) → ((a + b) % 2 ^ w + c) % 2 ^ w ≡ (a + (b + c) % 2 ^ w) % 2 ^ w
sum_assoc w a b c = mod-add-mod (a + b) (2 ^ w) c ∙ ap (λ n. n % 2 ^ w) (add_assoc a b c) ∙ sym (add-mod-mod a (b + c) (2 ^ w))

product_assoc : (w a b c : ℕ) → ((a * b) % 2 ^ w * c) % 2 ^ w ≡ (a * ((b * c) % 2 ^ w)) % 2 ^ w
product_assoc w a b c = mul-mod_first (a * b) c (2 ^ w) ∙ ap (λ n. n % 2 ^ w) (mul_assoc a b c) ∙ sym (mul-mod_second a (b * c) (2 ^ w))

greatest_mod : (w a b : ℕ) → max (a % 2 ^ w) (b % 2 ^ w) % 2 ^ w ≡ max (a % 2 ^ w) (b % 2 ^ w)
greatest_mod w a b = mod-eq_of_lt (omega (arith, mod_below a (2 ^ w) (pow_pos w), mod_below b (2 ^ w) (pow_pos w)))

least_mod : (w a b : ℕ) → min (a % 2 ^ w) (b % 2 ^ w) % 2 ^ w ≡ min (a % 2 ^ w) (b % 2 ^ w)
least_mod w a b = mod-eq_of_lt (omega (arith, mod_below a (2 ^ w) (pow_pos w), mod_below b (2 ^ w) (pow_pos w)))

pub joined_assoc : (c : Combiner) (w : ℕ) → IsAssociative (joined c w)
unfolding on_values
joined_assoc Add w = read_assoc (λ x y. (x + y) % 2 ^ w) (λ n. n % 2 ^ w) (λ n. n) (λ a b. mod_twice (a % 2 ^ w + b % 2 ^ w) w) (sum_assoc w)
joined_assoc Mul w = read_assoc (λ x y. (x * y) % 2 ^ w) (λ n. n % 2 ^ w) (λ n. n) (λ a b. mod_twice (a % 2 ^ w * (b % 2 ^ w)) w) (product_assoc w)
joined_assoc And w = read_assoc bit_and (λ n. n % 2 ^ w) (λ n. n) (λ a b. and_mod (a % 2 ^ w) (b % 2 ^ w) w ∙ (λ j. bit_and (mod_twice a w j) (mod_twice b w j))) (λ a b c. and_assoc c a b)
joined_assoc Or w = read_assoc bit_or (λ n. n % 2 ^ w) (λ n. n) (λ a b. or_mod (a % 2 ^ w) (b % 2 ^ w) w ∙ (λ j. bit_or (mod_twice a w j) (mod_twice b w j))) or_assoc
joined_assoc Xor w = read_assoc bit_xor (λ n. n % 2 ^ w) (λ n. n) (λ a b. xor_mod (a % 2 ^ w) (b % 2 ^ w) w ∙ (λ j. bit_xor (mod_twice a w j) (mod_twice b w j))) xor_assoc
joined_assoc MaxU w = read_assoc max (λ n. n % 2 ^ w) (λ n. n) (greatest_mod w) max_assoc
joined_assoc MinU w = read_assoc min (λ n. n % 2 ^ w) (λ n. n) (least_mod w) min_assoc
joined_assoc MaxS w = read_assoc int_max (λ n. signed_of w (n % 2 ^ w)) (reduce w) (λ a b. signed_of_low w _ ∙ greatest_back w (a % 2 ^ w) (b % 2 ^ w)) int_max_assoc
joined_assoc MinS w = read_assoc int_min (λ n. signed_of w (n % 2 ^ w)) (reduce w) (λ a b. signed_of_low w _ ∙ least_back w (a % 2 ^ w) (b % 2 ^ w)) int_min_assoc

pub joined_comm : (c : Combiner) (w : ℕ) → IsCommutative (joined c w)
unfolding on_values
joined_comm Add w = λ a b. ap (λ n. n % 2 ^ w) (add_comm (a % 2 ^ w) (b % 2 ^ w))
joined_comm Mul w = λ a b. ap (λ n. n % 2 ^ w) (mul_comm (a % 2 ^ w) (b % 2 ^ w))
joined_comm And w = λ a b. and_comm (a % 2 ^ w) (b % 2 ^ w)
joined_comm Or w = λ a b. or_comm (a % 2 ^ w) (b % 2 ^ w)
joined_comm Xor w = λ a b. xor_comm (a % 2 ^ w) (b % 2 ^ w)
joined_comm MaxU w = λ a b. max_comm (a % 2 ^ w) (b % 2 ^ w)
joined_comm MinU w = λ a b. min_comm (a % 2 ^ w) (b % 2 ^ w)
joined_comm MaxS w = λ a b. ap (reduce w) (int_max_comm (signed_of w (a % 2 ^ w)) (signed_of w (b % 2 ^ w)))
joined_comm MinS w = λ a b. ap (reduce w) (int_min_comm (signed_of w (a % 2 ^ w)) (signed_of w (b % 2 ^ w)))

-- ---- neutral elements
pub ones_mod : (w : ℕ) → minus_one w % 2 ^ w ≡ minus_one w
ones_mod w = mod-eq_of_lt (omega (arith, pow_pos w))

pub zero_mod : (w : ℕ) → 0 % 2 ^ w ≡ 0
zero_mod w = mod-eq_of_lt (pow_pos w)

xor_zero : (a : ℕ) → bit_xor 0 a ≡ a
xor_zero a = refl

or_zero : (a : ℕ) → bit_or 0 a ≡ a
or_zero a = refl

-- a value below half the values reads as itself, and another one as itself less their number
signed_low : (w v : ℕ) → 0 < w → v < 2 ^ (w - 1) → signed_of w v ≡ pos v
unfolding signed_of
signed_low w v h l =
    let e : v % 2 ^ w ≡ v = mod-eq_of_lt (omega (arith, pow-double w h)) in
    rw e (cond-true (ltb v (2 ^ (w - 1))) (pos v) (pos v -ℤ pos (2 ^ w)) (lt-ltb v (2 ^ (w - 1)) l))

signed_high : (w v : ℕ) → v < 2 ^ w → 2 ^ (w - 1) ≤ v → signed_of w v ≡ pos v -ℤ pos (2 ^ w)
unfolding signed_of
signed_high w v m l =
    let e : v % 2 ^ w ≡ v = mod-eq_of_lt m in
    rw e (cond-false (ltb v (2 ^ (w - 1))) (pos v) (pos v -ℤ pos (2 ^ w)) (le-ltb v (2 ^ (w - 1)) l))

least_is : (w : ℕ) → 0 < w → signed_of w (least_signed w % 2 ^ w) ≡ pos (2 ^ (w - 1)) -ℤ pos (2 ^ w)
least_is w h = signed_of_low w (least_signed w) ∙ signed_high w (least_signed w) (omega (arith, pow-double w h, pow_pos (w - 1))) (omega arith)

greatest_is : (w : ℕ) → 0 < w → signed_of w ((least_signed w - 1) % 2 ^ w) ≡ pos (2 ^ (w - 1) - 1)
greatest_is w h = signed_of_low w (least_signed w - 1) ∙ signed_low w (least_signed w - 1) h (omega (arith, pow_pos (w - 1)))

-- the signed readings lie between these two
signed_between : (w a : ℕ) → 0 < w → ((pos (2 ^ (w - 1)) -ℤ pos (2 ^ w)) ≤ℤ signed_of w a) × (signed_of w a ≤ℤ pos (2 ^ (w - 1) - 1))
unfolding signed_of
signed_between w a h =
    let v : ℕ = a % 2 ^ w in
    let below : v < 2 ^ w = mod_below a (2 ^ w) (pow_pos w) in
    cond_both (ltb v (2 ^ (w - 1))) (pos v) (pos v -ℤ pos (2 ^ w)) (λ z. ((pos (2 ^ (w - 1)) -ℤ pos (2 ^ w)) ≤ℤ z) × (z ≤ℤ pos (2 ^ (w - 1) - 1)))
    (λ e. (omega (arith, ints, pow-double w h, ltb-true v (2 ^ (w - 1)) e), omega (arith, ints, ltb-true v (2 ^ (w - 1)) e)))
    (λ e. (omega (arith, ints, ltb-false v (2 ^ (w - 1)) e), omega (arith, ints, pow-double w h, pow_pos (w - 1))))

greatest_of : (x y : ℤ) → x ≤ℤ y → int_max x y ≡ y
greatest_of x y h = omega (arith, ints, clamps)

least_of : (x y : ℤ) → y ≤ℤ x → int_min x y ≡ y
least_of x y h = omega (arith, ints, clamps)

-- there is one value of no bits
no_bits : (a b : ℕ) → a < 2 ^ 0 → b < 2 ^ 0 → a ≡ b
no_bits a b l m = omega arith

-- the neutral element joined with a number gives that number's value of w bits
pub neutral_left : (c : Combiner) (w a : ℕ) → joined c w (neutral_of c w) a ≡ a % 2 ^ w
unfolding on_values
neutral_left Add w a = ap (λ n. (n + a % 2 ^ w) % 2 ^ w) (zero_mod w) ∙ ap (λ n. n % 2 ^ w) (zero-add (a % 2 ^ w)) ∙ mod_twice a w
neutral_left Mul w a = mul-mod_first 1 (a % 2 ^ w) (2 ^ w) ∙ ap (λ n. n % 2 ^ w) (one-mul (a % 2 ^ w)) ∙ mod_twice a w
neutral_left And w a = (λ j. bit_and (ones_mod w j) (a % 2 ^ w)) ∙ and_comm (minus_one w) (a % 2 ^ w) ∙ and_mask (a % 2 ^ w) w ∙ mod_twice a w
neutral_left Or w a = (λ j. bit_or (zero_mod w j) (a % 2 ^ w)) ∙ or_zero (a % 2 ^ w)
neutral_left Xor w a = (λ j. bit_xor (zero_mod w j) (a % 2 ^ w)) ∙ xor_zero (a % 2 ^ w)
neutral_left MaxU w a = omega (arith, zero_mod w)
neutral_left MinU w a = omega (arith, ones_mod w, mod_below a (2 ^ w) (pow_pos w))
neutral_left MaxS zero a = no_bits _ _ (reduce-lt 0 _) (mod_below a (2 ^ 0) (pow_pos 0))
neutral_left MaxS (suc v) a =
    let w : ℕ = suc v in
    let h : 0 < w = omega arith in
    let s : ℤ = signed_of w (a % 2 ^ w) in
    (λ j. reduce w (int_max (least_is w h j) s))
    ∙ ap (reduce w) (greatest_of (pos (2 ^ (w - 1)) -ℤ pos (2 ^ w)) s (signed_between w (a % 2 ^ w) h).0) ∙ reduce-signed_of w (a % 2 ^ w) ∙ mod_twice a w
neutral_left MinS zero a = no_bits _ _ (reduce-lt 0 _) (mod_below a (2 ^ 0) (pow_pos 0))
neutral_left MinS (suc v) a =
    let w : ℕ = suc v in
    let h : 0 < w = omega arith in
    let s : ℤ = signed_of w (a % 2 ^ w) in
    (λ j. reduce w (int_min (greatest_is w h j) s))
    ∙ ap (reduce w) (least_of (pos (2 ^ (w - 1) - 1)) s (signed_between w (a % 2 ^ w) h).1) ∙ reduce-signed_of w (a % 2 ^ w) ∙ mod_twice a w

pub joined_neutral : (c : Combiner) (w : ℕ) → IsNeutral w (joined c w) (neutral_of c w)
joined_neutral c w a l =
    let left : joined c w (neutral_of c w) a ≡ a = neutral_left c w a ∙ mod-eq_of_lt l in
    (left, joined_comm c w a (neutral_of c w) ∙ left)

pub neutral_below : (c : Combiner) (w : ℕ) → 0 < w → neutral_of c w < 2 ^ w
neutral_below Add w h = pow_pos w
neutral_below Mul w h = omega (arith, pow-double w h, pow_pos (w - 1))
neutral_below And w h = omega (arith, pow_pos w)
neutral_below Or w h = pow_pos w
neutral_below Xor w h = pow_pos w
neutral_below MaxS w h = omega (arith, pow-double w h, pow_pos (w - 1))
neutral_below MaxU w h = pow_pos w
neutral_below MinS w h = omega (arith, pow-double w h, pow_pos (w - 1))
neutral_below MinU w h = omega (arith, pow_pos w)

pub joined_below : (c : Combiner) (w a b : ℕ) → joined c w a b < 2 ^ w
joined_below c w a b = within (binary_of (operation_of c) w a b) (binary_of-lt (operation_of c) w a b)
  where
    within : (o : Option ℕ) → IfSome o (λ v. v < 2 ^ w) → option_map_or (λ v. v) o 0 < 2 ^ w
    within None h = pow_pos w
    within (Some v) h = h
