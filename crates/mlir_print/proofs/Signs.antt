-- Values and the numbers that they stand for.
use Rattle.std.proofs.Common.{◌≡◌, ◌<◌, ◌^◌, ◌%◌, ℕ, pos, refl, arith, mod-eq_of_lt}
use Rattle.std.proofs.lemmas.Int.{ints}
use Rattle.std.proofs.lemmas.Nat.{mod_below, pow_pos}
use Rattle.payload_ops.specs.Bits.{reduce, signed_of}
use Rattle.payload_ops.proofs.Words.{reduce_is}

pub reduced : (w v : ℕ) → reduce w (pos v) ≡ v % 2 ^ w
reduced w v = reduce_is w 0 v (pos v) (omega (arith, ints))

-- the sign is read from the low bits
pub signed_low : (w v : ℕ) → signed_of w (v % 2 ^ w) ≡ signed_of w v
unfolding signed_of
signed_low w v =
    let below : v % 2 ^ w < 2 ^ w = mod_below v (2 ^ w) (pow_pos w) in
    let same : v % 2 ^ w % 2 ^ w ≡ v % 2 ^ w = mod-eq_of_lt below in
    rw same refl
