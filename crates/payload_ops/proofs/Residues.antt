-- Operations, comparisons and signed readings read their arguments modulo 2^w.
use Rattle.std.proofs.Common.{◌≡◌, ℕ, ◌%◌, ◌^◌, ◌-◌, ◌==◌, not, nat_lt, nat_le, mod-eq_of_lt, pos, ◌-ℤ◌, ltb, ◌∙◌, arith}
use Rattle.std.proofs.lemmas.Bool.{cond_both}
use Rattle.std.proofs.lemmas.Int.{ints}
use Rattle.std.proofs.lemmas.Nat.{pow_pos, mod_below}
use Rattle.std.specs.Prelude.{int_lt, int_le}
use Rattle.payload_ops.specs.Bits.{on_values, binary_of, compares, reduce, signed_of}
use Rattle.payload_ops.proofs.Words.{reduce_is}
use Rattle.payload_ops.specs.declared.kinds.BinOp.{BinOp}
use Rattle.payload_ops.specs.declared.kinds.Predicate.{Predicate}
use Rattle.payload_ops.specs.declared.kinds.Predicate.TheVariants.{Eq, Ne, Slt, Sle, Sgt, Sge, Ult, Ule, Ugt, Uge}

pub mod_twice : (a w : ℕ) → a % 2 ^ w % 2 ^ w ≡ a % 2 ^ w
mod_twice a w = mod-eq_of_lt (mod_below a (2 ^ w) (pow_pos w))

pub signed_of_low : (w a : ℕ) → signed_of w (a % 2 ^ w) ≡ signed_of w a
unfolding signed_of
signed_of_low w a = rw (mod_twice a w)

pub binary_of_low : (op : BinOp) (w a b : ℕ) → binary_of op w (a % 2 ^ w) (b % 2 ^ w) ≡ binary_of op w a b
binary_of_low op w a b = λ j. on_values op w (mod_twice a w j) (mod_twice b w j)

pub compares_low : (q : Predicate) (w a b : ℕ) → compares q w (a % 2 ^ w) (b % 2 ^ w) ≡ compares q w a b
unfolding compares
compares_low Eq w a b = λ j. mod_twice a w j == mod_twice b w j
compares_low Ne w a b = λ j. not (mod_twice a w j == mod_twice b w j)
compares_low Slt w a b = λ j. int_lt (signed_of_low w a j) (signed_of_low w b j)
compares_low Sle w a b = λ j. int_le (signed_of_low w a j) (signed_of_low w b j)
compares_low Sgt w a b = λ j. int_lt (signed_of_low w b j) (signed_of_low w a j)
compares_low Sge w a b = λ j. int_le (signed_of_low w b j) (signed_of_low w a j)
compares_low Ult w a b = λ j. nat_lt (mod_twice a w j) (mod_twice b w j)
compares_low Ule w a b = λ j. nat_le (mod_twice a w j) (mod_twice b w j)
compares_low Ugt w a b = λ j. nat_lt (mod_twice b w j) (mod_twice a w j)
compares_low Uge w a b = λ j. nat_le (mod_twice b w j) (mod_twice a w j)

-- a value is the one that its signed reading is congruent to
pub reduce-signed_of : (w a : ℕ) → reduce w (signed_of w a) ≡ a % 2 ^ w
unfolding signed_of
reduce-signed_of w a =
    let v : ℕ = a % 2 ^ w in
    cond_both (ltb v (2 ^ (w - 1))) (pos v) (pos v -ℤ pos (2 ^ w)) (λ z. reduce w z ≡ v)
    (λ e. reduce_is w 0 v (pos v) (omega (arith, ints)) ∙ mod_twice a w)
    (λ e. reduce_is w 1 v (pos v -ℤ pos (2 ^ w)) (omega (arith, ints)) ∙ mod_twice a w)
