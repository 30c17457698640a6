-- The numbers of a linear form: an affine expression, or a linear step of a payload.
use Rattle.std.specs.Prelude.{ℤ, Bool, ◌&&◌, nat_le, nat_lt, unsigned_abs, ◌^◌}

-- within plus and minus 2^31
abbrev pub is_in_range : ℤ → Bool
is_in_range n = nat_le (unsigned_abs n) (2 ^ 31)

-- the same, and other than 0
abbrev pub is_coefficient : ℤ → Bool
is_coefficient n = nat_lt 0 (unsigned_abs n) && is_in_range n
