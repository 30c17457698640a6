-- A literal that was written reads as its value.
use Rattle.std.proofs.Common.{◌≡◌, ◌<◌, ◌≤◌, ◌^◌, ℕ, ◌-◌, zero, suc, ℤ, pos, negsuc, ◌-ℤ◌, Bool, true, false, ◌||◌, List, Some, Ok, refl, sym, ap, subst, ◌∙◌, arith, decimal, nat_le, nat_lt, mod-eq_of_lt, pow_mono, pow_pos}
use Rattle.std.specs.Str.Parse.{AllDigits}
use Rattle.std.proofs.lemmas.Bool.{and_parts, leb-true, le-leb, ltb-true, ltb-false}
use Rattle.std.proofs.lemmas.Int.{ints}
use Rattle.std.proofs.lemmas.Fmt.{digits_value-decimal}
use Rattle.std.proofs.lemmas.Str.Parse.{IsNumeralModel, numerals_by_fold, tells_digits}
use Rattle.mlir_base.specs.declared.types.ElemTy.{ElemTy}
use Rattle.mlir_base.specs.declared.types.ElemTy.TheVariants.{Int, Index}
use Rattle.payload_ops.specs.Bits.{reduce, signed_of}
use Rattle.mlir_base.specs.Types.{bits_of, is_elem, is_value}
use Rattle.payload_ops.specs.Payload.{has_type}
use Rattle.payload_ops.proofs.Words.{signed-low, signed-high, pow-double}
use Rattle.payload_ops.proofs.Residues.{reduce-signed_of}
use Rattle.text_format.specs.Types.{element_of}
use Rattle.mlir_scope.specs.Literals.{spelled_from, digits_value, is_negative, signed_by, most_of, literal_of, is_near, is_written}
use Rattle.mlir_print.specs.Types.{elem_text}
use Rattle.mlir_print.specs.Literals.{number_at, literal_if, literal_at}
use Rattle.mlir_roundtrip.proofs.Fits.{found_type, same_elem}
use Rattle.mlir_roundtrip.proofs.Readable.{elem_read}

-- ---- digits

abbrev fold : ℕ → List ℕ → ℕ
fold n cs = spelled_from cs n

model : IsNumeralModel (AllDigits 10) (fold 0)
model = numerals_by_fold (AllDigits 10) tells_digits fold (record { empty = λ n. refl; more = λ n c cs r. refl })

pub decimal_value : (n : ℕ) → n < 2 ^ 64 → digits_value (decimal n) ≡ n
decimal_value n s = digits_value-decimal model n s

-- ---- element types

-- the text of the type reads as it
abbrev pub Good : ElemTy → Type 0
Good e = has_type (element_of (elem_text e)) e ≡ true

pub elem_good : (e : ElemTy) → is_written e ≡ true → Good e
elem_good (Int w) h = let p = and_parts (nat_le 1 w) (nat_le w 64) h in elem_read w (leb-true 1 w p.0) (leb-true w 64 p.1)
elem_good Index h = refl

pub good_read : (e : ElemTy) → Good e → element_of (elem_text e) ≡ Some e
good_read e g = found_type (element_of (elem_text e)) e g

-- ---- numbers with a sign

-- the sign and the magnitude of a value
pub record Signed (w v : ℕ) : Type 0 where
  pub negative : Bool
  pub magnitude : ℕ
  pub sign : (at : ℕ) → is_negative ((number_at (signed_of w v)).tree at).sign ≡ negative
  pub digits : (at : ℕ) → digits_value ((number_at (signed_of w v)).tree at).digits.text ≡ magnitude
  pub number : signed_by negative magnitude ≡ signed_of w v
  pub few : (e : ElemTy) → bits_of e ≡ w → is_near e v ≡ true → magnitude ≤ most_of negative e

near_low : (v : ℕ) (a b : Bool) → nat_le v 2147483648 ≡ a → nat_le (2 ^ 64 - 2147483648) v ≡ b → (a || b) ≡ true → v < 2 ^ 63 → v ≤ 2147483648
near_low v true b e f h l = leb-true v 2147483648 e
near_low v false true e f h l = let k = leb-true (2 ^ 64 - 2147483648) v f in absurd (omega arith)
near_low v false false e f h l = absurd (cc h)

near_high : (v : ℕ) (a b : Bool) → nat_le v 2147483648 ≡ a → nat_le (2 ^ 64 - 2147483648) v ≡ b → (a || b) ≡ true → 2 ^ 63 ≤ v → 2 ^ 64 - 2147483648 ≤ v
near_high v a true e f h l = leb-true (2 ^ 64 - 2147483648) v f
near_high v true false e f h l = let k = leb-true v 2147483648 e in absurd (omega arith)
near_high v false false e f h l = absurd (cc h)

low_few : (v w : ℕ) → v < 2 ^ w → v < 2 ^ (w - 1) → (e : ElemTy) → bits_of e ≡ w → is_near e v ≡ true → v ≤ most_of false e
low_few v w l h (Int u) same near = let k = ap (λ n. 2 ^ n) same in omega arith
low_few v w l h Index same near = near_low v _ _ refl refl near (subst (λ n. v < 2 ^ (n - 1)) (sym same) h)

high_few : (v w : ℕ) → 0 < w → v < 2 ^ w → 2 ^ (w - 1) ≤ v → (e : ElemTy) → bits_of e ≡ w → is_near e v ≡ true → 2 ^ w - v ≤ most_of true e
high_few v w some l h (Int u) same near =
    let double = pow-double w some in
    let k : 2 ^ (u - 1) ≡ 2 ^ (w - 1) = ap (λ n. 2 ^ (n - 1)) same in
    omega (arith, double)
high_few v w some l h Index same near =
    let f = near_high v _ _ refl refl near (subst (λ n. 2 ^ (n - 1) ≤ v) (sym same) h) in
    let k : 2 ^ 64 ≡ 2 ^ w = ap (λ n. 2 ^ n) same in
    omega arith

signed_if : (w v : ℕ) (b : Bool) → nat_lt v (2 ^ (w - 1)) ≡ b → 0 < w → w ≤ 64 → v < 2 ^ w → Signed w v
signed_if w v true e some le l =
    let h = ltb-true v (2 ^ (w - 1)) e in
    let most : 2 ^ w ≤ 2 ^ 64 = pow_mono le in
    let z = signed-low w v l h in
    record {
      negative = false;
      magnitude = v;
      sign = λ at. ap (λ (x : ℤ). is_negative ((number_at x).tree at).sign) z;
      digits = λ at. ap (λ (x : ℤ). digits_value ((number_at x).tree at).digits.text) z ∙ decimal_value v (omega arith);
      number = sym z;
      few = low_few v w l h;
    }
signed_if w v false e some le l =
    let h = ltb-false v (2 ^ (w - 1)) e in
    let most : 2 ^ w ≤ 2 ^ 64 = pow_mono le in
    let half : 0 < 2 ^ (w - 1) = pow_pos (w - 1) in
    let z = signed-high w v l h in
    let m : suc (2 ^ w - 1 - v) ≡ 2 ^ w - v = omega arith in
    record {
      negative = true;
      magnitude = 2 ^ w - v;
      sign = λ at. ap (λ (x : ℤ). is_negative ((number_at x).tree at).sign) z;
      digits = λ at. ap (λ (x : ℤ). digits_value ((number_at x).tree at).digits.text) z ∙ decimal_value (suc (2 ^ w - 1 - v)) (omega arith) ∙ m;
      number = ap (λ n. pos 0 -ℤ pos n) (sym m) ∙ below (2 ^ w - 1 - v) ∙ sym z;
      few = high_few v w some l h;
    }
  where
    below : (n : ℕ) → pos 0 -ℤ pos (suc n) ≡ negsuc n
    below n = omega (arith, ints)

pub signed_value : (w v : ℕ) → 0 < w → w ≤ 64 → v < 2 ^ w → Signed w v
signed_value w v some le l = signed_if w v (nat_lt v (2 ^ (w - 1))) refl some le l

-- ---- literals

truth_read : (v at : ℕ) → v < 2 → literal_of ((literal_if true (Int 1) v).tree at) ≡ Ok (Int 1, v)
truth_read zero at l = refl
truth_read (suc zero) at l = refl
truth_read (suc (suc v)) at l = absurd (omega arith)

bits_few : (e : ElemTy) → is_written e ≡ true → (0 < bits_of e) × (bits_of e ≤ 64)
bits_few (Int w) h = let p = and_parts (nat_le 1 w) (nat_le w 64) h in (leb-true 1 w p.0, leb-true w 64 p.1)
bits_few Index h = (omega arith, omega arith)

literal_if_read : (b : Bool) (e : ElemTy) (v at : ℕ) → is_elem e (Int 1) ≡ b → is_written e ≡ true → is_value e v ≡ true → is_near e v ≡ true → literal_of ((literal_if b e v).tree at) ≡ Ok (e, v)
literal_if_read true e v at q t i n =
    let one : e ≡ Int 1 = same_elem e (Int 1) q in
    let l : v < 2 = ltb-true v 2 (subst (λ x. is_value x v ≡ true) one i) in
    subst (λ x. literal_of ((literal_if true x v).tree at) ≡ Ok (x, v)) (sym one) (truth_read v at l)
literal_if_read false e v at q t i n =
    let bits = bits_few e t in
    let l : v < 2 ^ bits_of e = ltb-true v (2 ^ bits_of e) i in
    let s = signed_value (bits_of e) v bits.0 bits.1 l in
    let small : nat_le s.magnitude (most_of s.negative e) ≡ true = le-leb s.magnitude (most_of s.negative e) (s.few e refl n) in
    let value : reduce (bits_of e) (signed_of (bits_of e) v) ≡ v = reduce-signed_of (bits_of e) v ∙ mod-eq_of_lt l in
    rw (good_read e (elem_good e t), s.digits at, s.sign at, small, s.number, value) refl

pub literal_read : (e : ElemTy) (v at : ℕ) → is_written e ≡ true → is_value e v ≡ true → is_near e v ≡ true → literal_of ((literal_at e v).tree at) ≡ Ok (e, v)
literal_read e v at t i n = literal_if_read (is_elem e (Int 1)) e v at refl t i n
