-- The types of elements, and the values of a type (Builtin manual, "IntegerType" and "IndexType"). A value of w bits is a
-- number below 2^w.
use Rattle.std.specs.Prelude.{ℕ, ◌-◌, ◌^◌, Bool, true, false, nat_lt, ◌==◌}
use Rattle.mlir_base.specs.declared.types.ElemTy.{ElemTy}
use Rattle.mlir_base.specs.declared.types.ElemTy.TheVariants.{Int, Index}

-- the bits of a type's values; `index` has 64
abbrev pub bits_of : ElemTy → ℕ
bits_of (Int w) = w
bits_of Index = 64

abbrev pub is_value : ElemTy → ℕ → Bool
is_value t v = nat_lt v (2 ^ bits_of t)

-- the same type
abbrev pub is_elem : ElemTy → ElemTy → Bool
is_elem (Int v) (Int w) = v == w
is_elem (Int v) Index = false
is_elem Index (Int w) = false
is_elem Index Index = true

-- the values of w bits that read the least number and -1 in two's complement
abbrev pub least_signed : ℕ → ℕ
least_signed w = 2 ^ (w - 1)

abbrev pub minus_one : ℕ → ℕ
minus_one w = 2 ^ w - 1
