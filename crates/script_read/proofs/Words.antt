-- Numbers that fit a word, and those that don't.
use Rattle.std.proofs.Common.{◌≡◌, ◌<◌, ◌≤◌, ◌^◌, ◌-◌, ◌+◌, ◌*◌, ℕ, suc, List, [], ◌∷◌, length, drop, get_or, Bool, true, false, not, ◌&&◌, cond, Option, Some, None, refl, sym, ap, ◌∙◌, arith, nat_eq, nat_le, nat_lt}
use Rattle.std.proofs.lemmas.Bool.{ltb-false, lt-leb, lt-ltb, le-leb, le-ltb, ne_eqb, cond-false}
use Rattle.std.proofs.Math.Pow.{pow_mono}
use Rattle.std.proofs.Math.Seq.{drop-cons}
use Rattle.mlir_base.specs.Types.{minus_one, least_signed}
use Rattle.text_format.specs.Token.{TokenShape}
use Rattle.script_read.specs.Resolve.{is_count_by}
use Rattle.script_read.specs.Numbers.{number_from, word_of, is_size, is_literal}

word_if : (b : Bool) (n m : ℕ) → cond b (Some n) None ≡ Some m → n ≡ m
word_if true n m h = cc h
word_if false n m h = absurd (cc h)

pub word_is : (n m : ℕ) → word_of n ≡ Some m → n ≡ m
word_is n m h = word_if (nat_lt n (2 ^ 64)) n m h

large_if : (b : Bool) (n : ℕ) → nat_lt n (2 ^ 64) ≡ b → cond b (Some n) None ≡ None → 2 ^ 64 ≤ n
large_if true n e h = absurd (cc h)
large_if false n e h = ltb-false n (2 ^ 64) e

pub word_large : (n : ℕ) → word_of n ≡ None → 2 ^ 64 ≤ n
word_large n h = large_if (nat_lt n (2 ^ 64)) n refl h

pub no_size : (m : Option TokenShape) (n : ℕ) → word_of n ≡ None → is_size m n ≡ false
no_size None n h = let l = word_large n h in lt-leb n 1048576 (omega arith)
no_size (Some t) n h = let l = word_large n h in ne_eqb n 0 (λ e. absurd (omega arith))

pub no_literal : (w : ℕ) → w ≤ 64 → (m : Option TokenShape) (n : ℕ) → word_of n ≡ None → is_literal w m n ≡ false
no_literal w s None n h = let l = word_large n h in let p : 2 ^ w ≤ 2 ^ 64 = pow_mono s in lt-leb n (2 ^ w - 1) (omega arith)
no_literal w s (Some t) n h = let l = word_large n h in let q : w - 1 ≤ 63 = omega arith in let p : 2 ^ (w - 1) ≤ 2 ^ 63 = pow_mono q in lt-leb n (2 ^ (w - 1)) (omega arith)

number_grows : (bs : List ℕ) (n : ℕ) → n ≤ number_from n bs
number_grows [] n = omega arith
number_grows (b ∷ bs) n = let h = number_grows bs (n * 10 + (b - 48)) in omega (arith, h)

large_word : (n : ℕ) → 2 ^ 64 ≤ n → word_of n ≡ None
large_word n h = cond-false (nat_lt n (2 ^ 64)) (Some n) None (le-ltb n (2 ^ 64) h)

-- digits that go past a word
pub number_past : (text : List ℕ) (i d n : ℕ) → i < length text → 2 ^ 64 ≤ n * 10 + (get_or text i d - 48) → word_of (number_from n (drop i text)) ≡ None
number_past text i d n h large =
    let g = number_grows (drop (suc i) text) (n * 10 + (get_or text i d - 48)) in
    ap (λ (bs : List ℕ). word_of (number_from n bs)) (drop-cons text i d h) ∙ large_word (number_from (n * 10 + (get_or text i d - 48)) (drop (suc i) text)) (omega (arith, g, large))

-- no such number is a result of a group
pub no_part : (n m end : ℕ) → end < 2 ^ 64 → word_of m ≡ None → nat_lt (n + m) end ≡ false
no_part n m end s h = let l = word_large m h in le-ltb (n + m) end (omega arith)

larger_if : (b : Bool) (n c : ℕ) → 2 ^ 64 ≤ n → c < 2 ^ 64 → is_count_by b c n ≡ not b
larger_if true n c l s = ne_eqb n c (λ e. absurd (omega arith))
larger_if false n c l s = le-leb c n (omega arith)

-- so many results are more than any step shows
pub large_count : (b : Bool) (n c : ℕ) → c < 2 ^ 64 → word_of n ≡ None → nat_lt 1 n && is_count_by b c n ≡ not b
large_count b n c s h =
    let l = word_large n h in
    let one : nat_lt 1 n ≡ true = lt-ltb 1 n (omega arith) in
    rw one (larger_if b n c l s)
