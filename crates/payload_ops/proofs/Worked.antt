-- Values computed apart from this program, at the edges of four widths (Arith manual).
use Rattle.std.specs.Prelude.{ℕ, ℤ, pos, negsuc, Bool, true, false, List, [], ◌∷◌, Option, Some, None, map}
use Rattle.std.proofs.Common.{◌≡◌, refl}
use Rattle.payload_ops.specs.Bits.{reduce, signed_of, on_values, binary_of, compares}
use Rattle.payload_ops.specs.declared.kinds.BinOp.{BinOp}
use Rattle.payload_ops.specs.declared.kinds.BinOp.TheVariants.{Addi, Subi, Muli, Divsi, Divui, Remsi, Remui, Andi, Ori, Xori, Shli, Shrsi, Shrui, Maxsi, Maxui, Minsi, Minui}
use Rattle.payload_ops.specs.declared.kinds.Predicate.{Predicate}
use Rattle.payload_ops.specs.declared.kinds.Predicate.TheVariants.{Eq, Ne, Slt, Sle, Sgt, Sge, Ult, Ule, Ugt, Uge}

abbrev results : BinOp → ℕ → List (ℕ × ℕ) → List (Option ℕ)
results op w = map (λ (r : ℕ × ℕ). binary_of op w r.0 r.1)

addi-1 : results Addi 1 ((0, 0) ∷ (0, 1) ∷ (1, 0) ∷ (1, 1) ∷ []) ≡
    Some 0 ∷ Some 1 ∷ Some 1 ∷ Some 0 ∷ []
unfolding on_values reduce signed_of
addi-1 = refl

addi-8 : results Addi 8 ((255, 1) ∷ (128, 255) ∷ (127, 1) ∷ (0, 255) ∷ (128, 128) ∷ []) ≡
    Some 0 ∷ Some 127 ∷ Some 128 ∷ Some 255 ∷ Some 0 ∷ []
unfolding on_values reduce signed_of
addi-8 = refl

addi-32 : results Addi 32 ((4294967295, 1) ∷ (2147483648, 4294967295) ∷ (2147483647, 1) ∷ (0, 4294967295) ∷ (2147483648, 2147483648) ∷ []) ≡
    Some 0 ∷ Some 2147483647 ∷ Some 2147483648 ∷ Some 4294967295 ∷ Some 0 ∷ []
unfolding on_values reduce signed_of
addi-32 = refl

addi-64 : results Addi 64 ((18446744073709551615, 1) ∷ (9223372036854775808, 18446744073709551615) ∷ (9223372036854775807, 1) ∷ (0, 18446744073709551615) ∷ (9223372036854775808, 9223372036854775808) ∷ []) ≡
    Some 0 ∷ Some 9223372036854775807 ∷ Some 9223372036854775808 ∷ Some 18446744073709551615 ∷ Some 0 ∷ []
unfolding on_values reduce signed_of
addi-64 = refl

subi-1 : results Subi 1 ((0, 0) ∷ (0, 1) ∷ (1, 0) ∷ (1, 1) ∷ []) ≡
    Some 0 ∷ Some 1 ∷ Some 1 ∷ Some 0 ∷ []
unfolding on_values reduce signed_of
subi-1 = refl

subi-8 : results Subi 8 ((255, 1) ∷ (128, 255) ∷ (127, 1) ∷ (0, 255) ∷ (128, 128) ∷ []) ≡
    Some 254 ∷ Some 129 ∷ Some 126 ∷ Some 1 ∷ Some 0 ∷ []
unfolding on_values reduce signed_of
subi-8 = refl

subi-32 : results Subi 32 ((4294967295, 1) ∷ (2147483648, 4294967295) ∷ (2147483647, 1) ∷ (0, 4294967295) ∷ (2147483648, 2147483648) ∷ []) ≡
    Some 4294967294 ∷ Some 2147483649 ∷ Some 2147483646 ∷ Some 1 ∷ Some 0 ∷ []
unfolding on_values reduce signed_of
subi-32 = refl

subi-64 : results Subi 64 ((18446744073709551615, 1) ∷ (9223372036854775808, 18446744073709551615) ∷ (9223372036854775807, 1) ∷ (0, 18446744073709551615) ∷ (9223372036854775808, 9223372036854775808) ∷ []) ≡
    Some 18446744073709551614 ∷ Some 9223372036854775809 ∷ Some 9223372036854775806 ∷ Some 1 ∷ Some 0 ∷ []
unfolding on_values reduce signed_of
subi-64 = refl

muli-1 : results Muli 1 ((0, 0) ∷ (0, 1) ∷ (1, 0) ∷ (1, 1) ∷ []) ≡
    Some 0 ∷ Some 0 ∷ Some 0 ∷ Some 1 ∷ []
unfolding on_values reduce signed_of
muli-1 = refl

muli-8 : results Muli 8 ((255, 1) ∷ (128, 255) ∷ (127, 1) ∷ (0, 255) ∷ (128, 128) ∷ []) ≡
    Some 255 ∷ Some 128 ∷ Some 127 ∷ Some 0 ∷ Some 0 ∷ []
unfolding on_values reduce signed_of
muli-8 = refl

muli-32 : results Muli 32 ((4294967295, 1) ∷ (2147483648, 4294967295) ∷ (2147483647, 1) ∷ (0, 4294967295) ∷ (2147483648, 2147483648) ∷ []) ≡
    Some 4294967295 ∷ Some 2147483648 ∷ Some 2147483647 ∷ Some 0 ∷ Some 0 ∷ []
unfolding on_values reduce signed_of
muli-32 = refl

muli-64 : results Muli 64 ((18446744073709551615, 1) ∷ (9223372036854775808, 18446744073709551615) ∷ (9223372036854775807, 1) ∷ (0, 18446744073709551615) ∷ (9223372036854775808, 9223372036854775808) ∷ []) ≡
    Some 18446744073709551615 ∷ Some 9223372036854775808 ∷ Some 9223372036854775807 ∷ Some 0 ∷ Some 0 ∷ []
unfolding on_values reduce signed_of
muli-64 = refl

divsi-1 : results Divsi 1 ((0, 0) ∷ (0, 1) ∷ (1, 0) ∷ (1, 1) ∷ []) ≡
    None ∷ Some 0 ∷ None ∷ None ∷ []
unfolding on_values reduce signed_of
divsi-1 = refl

divsi-8 : results Divsi 8 ((128, 255) ∷ (249, 2) ∷ (127, 255) ∷ (7, 254) ∷ (255, 0) ∷ (255, 128) ∷ []) ≡
    None ∷ Some 253 ∷ Some 129 ∷ Some 253 ∷ None ∷ Some 0 ∷ []
unfolding on_values reduce signed_of
divsi-8 = refl

divsi-32 : results Divsi 32 ((2147483648, 4294967295) ∷ (4294967289, 2) ∷ (2147483647, 4294967295) ∷ (7, 4294967294) ∷ (4294967295, 0) ∷ (4294967295, 2147483648) ∷ []) ≡
    None ∷ Some 4294967293 ∷ Some 2147483649 ∷ Some 4294967293 ∷ None ∷ Some 0 ∷ []
unfolding on_values reduce signed_of
divsi-32 = refl

divsi-64 : results Divsi 64 ((9223372036854775808, 18446744073709551615) ∷ (18446744073709551609, 2) ∷ (9223372036854775807, 18446744073709551615) ∷ (7, 18446744073709551614) ∷ (18446744073709551615, 0) ∷ (18446744073709551615, 9223372036854775808) ∷ []) ≡
    None ∷ Some 18446744073709551613 ∷ Some 9223372036854775809 ∷ Some 18446744073709551613 ∷ None ∷ Some 0 ∷ []
unfolding on_values reduce signed_of
divsi-64 = refl

divui-1 : results Divui 1 ((0, 0) ∷ (0, 1) ∷ (1, 0) ∷ (1, 1) ∷ []) ≡
    None ∷ Some 0 ∷ None ∷ Some 1 ∷ []
unfolding on_values reduce signed_of
divui-1 = refl

divui-8 : results Divui 8 ((128, 255) ∷ (249, 2) ∷ (127, 255) ∷ (7, 254) ∷ (255, 0) ∷ (255, 128) ∷ []) ≡
    Some 0 ∷ Some 124 ∷ Some 0 ∷ Some 0 ∷ None ∷ Some 1 ∷ []
unfolding on_values reduce signed_of
divui-8 = refl

divui-32 : results Divui 32 ((2147483648, 4294967295) ∷ (4294967289, 2) ∷ (2147483647, 4294967295) ∷ (7, 4294967294) ∷ (4294967295, 0) ∷ (4294967295, 2147483648) ∷ []) ≡
    Some 0 ∷ Some 2147483644 ∷ Some 0 ∷ Some 0 ∷ None ∷ Some 1 ∷ []
unfolding on_values reduce signed_of
divui-32 = refl

divui-64 : results Divui 64 ((9223372036854775808, 18446744073709551615) ∷ (18446744073709551609, 2) ∷ (9223372036854775807, 18446744073709551615) ∷ (7, 18446744073709551614) ∷ (18446744073709551615, 0) ∷ (18446744073709551615, 9223372036854775808) ∷ []) ≡
    Some 0 ∷ Some 9223372036854775804 ∷ Some 0 ∷ Some 0 ∷ None ∷ Some 1 ∷ []
unfolding on_values reduce signed_of
divui-64 = refl

remsi-1 : results Remsi 1 ((0, 0) ∷ (0, 1) ∷ (1, 0) ∷ (1, 1) ∷ []) ≡
    None ∷ Some 0 ∷ None ∷ Some 0 ∷ []
unfolding on_values reduce signed_of
remsi-1 = refl

remsi-8 : results Remsi 8 ((128, 255) ∷ (249, 2) ∷ (127, 255) ∷ (7, 254) ∷ (255, 0) ∷ (255, 128) ∷ []) ≡
    Some 0 ∷ Some 255 ∷ Some 0 ∷ Some 1 ∷ None ∷ Some 255 ∷ []
unfolding on_values reduce signed_of
remsi-8 = refl

remsi-32 : results Remsi 32 ((2147483648, 4294967295) ∷ (4294967289, 2) ∷ (2147483647, 4294967295) ∷ (7, 4294967294) ∷ (4294967295, 0) ∷ (4294967295, 2147483648) ∷ []) ≡
    Some 0 ∷ Some 4294967295 ∷ Some 0 ∷ Some 1 ∷ None ∷ Some 4294967295 ∷ []
unfolding on_values reduce signed_of
remsi-32 = refl

remsi-64 : results Remsi 64 ((9223372036854775808, 18446744073709551615) ∷ (18446744073709551609, 2) ∷ (9223372036854775807, 18446744073709551615) ∷ (7, 18446744073709551614) ∷ (18446744073709551615, 0) ∷ (18446744073709551615, 9223372036854775808) ∷ []) ≡
    Some 0 ∷ Some 18446744073709551615 ∷ Some 0 ∷ Some 1 ∷ None ∷ Some 18446744073709551615 ∷ []
unfolding on_values reduce signed_of
remsi-64 = refl

remui-1 : results Remui 1 ((0, 0) ∷ (0, 1) ∷ (1, 0) ∷ (1, 1) ∷ []) ≡
    None ∷ Some 0 ∷ None ∷ Some 0 ∷ []
unfolding on_values reduce signed_of
remui-1 = refl

remui-8 : results Remui 8 ((128, 255) ∷ (249, 2) ∷ (127, 255) ∷ (7, 254) ∷ (255, 0) ∷ (255, 128) ∷ []) ≡
    Some 128 ∷ Some 1 ∷ Some 127 ∷ Some 7 ∷ None ∷ Some 127 ∷ []
unfolding on_values reduce signed_of
remui-8 = refl

remui-32 : results Remui 32 ((2147483648, 4294967295) ∷ (4294967289, 2) ∷ (2147483647, 4294967295) ∷ (7, 4294967294) ∷ (4294967295, 0) ∷ (4294967295, 2147483648) ∷ []) ≡
    Some 2147483648 ∷ Some 1 ∷ Some 2147483647 ∷ Some 7 ∷ None ∷ Some 2147483647 ∷ []
unfolding on_values reduce signed_of
remui-32 = refl

remui-64 : results Remui 64 ((9223372036854775808, 18446744073709551615) ∷ (18446744073709551609, 2) ∷ (9223372036854775807, 18446744073709551615) ∷ (7, 18446744073709551614) ∷ (18446744073709551615, 0) ∷ (18446744073709551615, 9223372036854775808) ∷ []) ≡
    Some 9223372036854775808 ∷ Some 1 ∷ Some 9223372036854775807 ∷ Some 7 ∷ None ∷ Some 9223372036854775807 ∷ []
unfolding on_values reduce signed_of
remui-64 = refl

andi-1 : results Andi 1 ((0, 0) ∷ (0, 1) ∷ (1, 0) ∷ (1, 1) ∷ []) ≡
    Some 0 ∷ Some 0 ∷ Some 0 ∷ Some 1 ∷ []
unfolding on_values reduce signed_of
andi-1 = refl

andi-8 : results Andi 8 ((128, 255) ∷ (127, 128) ∷ (0, 255) ∷ (253, 6) ∷ []) ≡
    Some 128 ∷ Some 0 ∷ Some 0 ∷ Some 4 ∷ []
unfolding on_values reduce signed_of
andi-8 = refl

andi-32 : results Andi 32 ((2147483648, 4294967295) ∷ (2147483647, 2147483648) ∷ (0, 4294967295) ∷ (4294967293, 6) ∷ []) ≡
    Some 2147483648 ∷ Some 0 ∷ Some 0 ∷ Some 4 ∷ []
unfolding on_values reduce signed_of
andi-32 = refl

andi-64 : results Andi 64 ((9223372036854775808, 18446744073709551615) ∷ (9223372036854775807, 9223372036854775808) ∷ (0, 18446744073709551615) ∷ (18446744073709551613, 6) ∷ []) ≡
    Some 9223372036854775808 ∷ Some 0 ∷ Some 0 ∷ Some 4 ∷ []
unfolding on_values reduce signed_of
andi-64 = refl

ori-1 : results Ori 1 ((0, 0) ∷ (0, 1) ∷ (1, 0) ∷ (1, 1) ∷ []) ≡
    Some 0 ∷ Some 1 ∷ Some 1 ∷ Some 1 ∷ []
unfolding on_values reduce signed_of
ori-1 = refl

ori-8 : results Ori 8 ((128, 255) ∷ (127, 128) ∷ (0, 255) ∷ (253, 6) ∷ []) ≡
    Some 255 ∷ Some 255 ∷ Some 255 ∷ Some 255 ∷ []
unfolding on_values reduce signed_of
ori-8 = refl

ori-32 : results Ori 32 ((2147483648, 4294967295) ∷ (2147483647, 2147483648) ∷ (0, 4294967295) ∷ (4294967293, 6) ∷ []) ≡
    Some 4294967295 ∷ Some 4294967295 ∷ Some 4294967295 ∷ Some 4294967295 ∷ []
unfolding on_values reduce signed_of
ori-32 = refl

ori-64 : results Ori 64 ((9223372036854775808, 18446744073709551615) ∷ (9223372036854775807, 9223372036854775808) ∷ (0, 18446744073709551615) ∷ (18446744073709551613, 6) ∷ []) ≡
    Some 18446744073709551615 ∷ Some 18446744073709551615 ∷ Some 18446744073709551615 ∷ Some 18446744073709551615 ∷ []
unfolding on_values reduce signed_of
ori-64 = refl

xori-1 : results Xori 1 ((0, 0) ∷ (0, 1) ∷ (1, 0) ∷ (1, 1) ∷ []) ≡
    Some 0 ∷ Some 1 ∷ Some 1 ∷ Some 0 ∷ []
unfolding on_values reduce signed_of
xori-1 = refl

xori-8 : results Xori 8 ((128, 255) ∷ (127, 128) ∷ (0, 255) ∷ (253, 6) ∷ []) ≡
    Some 127 ∷ Some 255 ∷ Some 255 ∷ Some 251 ∷ []
unfolding on_values reduce signed_of
xori-8 = refl

xori-32 : results Xori 32 ((2147483648, 4294967295) ∷ (2147483647, 2147483648) ∷ (0, 4294967295) ∷ (4294967293, 6) ∷ []) ≡
    Some 2147483647 ∷ Some 4294967295 ∷ Some 4294967295 ∷ Some 4294967291 ∷ []
unfolding on_values reduce signed_of
xori-32 = refl

xori-64 : results Xori 64 ((9223372036854775808, 18446744073709551615) ∷ (9223372036854775807, 9223372036854775808) ∷ (0, 18446744073709551615) ∷ (18446744073709551613, 6) ∷ []) ≡
    Some 9223372036854775807 ∷ Some 18446744073709551615 ∷ Some 18446744073709551615 ∷ Some 18446744073709551611 ∷ []
unfolding on_values reduce signed_of
xori-64 = refl

shli-1 : results Shli 1 ((0, 0) ∷ (0, 1) ∷ (1, 0) ∷ (1, 1) ∷ []) ≡
    Some 0 ∷ Some 0 ∷ Some 1 ∷ Some 0 ∷ []
unfolding on_values reduce signed_of
shli-1 = refl

shli-8 : results Shli 8 ((255, 0) ∷ (128, 7) ∷ (133, 2) ∷ (255, 8) ∷ (127, 8) ∷ (3, 9) ∷ (128, 255) ∷ []) ≡
    Some 255 ∷ Some 0 ∷ Some 20 ∷ Some 0 ∷ Some 0 ∷ Some 0 ∷ Some 0 ∷ []
unfolding on_values reduce signed_of
shli-8 = refl

shli-32 : results Shli 32 ((4294967295, 0) ∷ (2147483648, 31) ∷ (2147483653, 2) ∷ (4294967295, 32) ∷ (2147483647, 32) ∷ (3, 33) ∷ (2147483648, 4294967295) ∷ []) ≡
    Some 4294967295 ∷ Some 0 ∷ Some 20 ∷ Some 0 ∷ Some 0 ∷ Some 0 ∷ Some 0 ∷ []
unfolding on_values reduce signed_of
shli-32 = refl

shli-64 : results Shli 64 ((18446744073709551615, 0) ∷ (9223372036854775808, 63) ∷ (9223372036854775813, 2) ∷ (18446744073709551615, 64) ∷ (9223372036854775807, 64) ∷ (3, 65) ∷ (9223372036854775808, 18446744073709551615) ∷ []) ≡
    Some 18446744073709551615 ∷ Some 0 ∷ Some 20 ∷ Some 0 ∷ Some 0 ∷ Some 0 ∷ Some 0 ∷ []
unfolding on_values reduce signed_of
shli-64 = refl

shrsi-1 : results Shrsi 1 ((0, 0) ∷ (0, 1) ∷ (1, 0) ∷ (1, 1) ∷ []) ≡
    Some 0 ∷ Some 0 ∷ Some 1 ∷ Some 1 ∷ []
unfolding on_values reduce signed_of
shrsi-1 = refl

shrsi-8 : results Shrsi 8 ((255, 0) ∷ (128, 7) ∷ (133, 2) ∷ (255, 8) ∷ (127, 8) ∷ (3, 9) ∷ (128, 255) ∷ []) ≡
    Some 255 ∷ Some 255 ∷ Some 225 ∷ Some 255 ∷ Some 0 ∷ Some 0 ∷ Some 255 ∷ []
unfolding on_values reduce signed_of
shrsi-8 = refl

shrsi-32 : results Shrsi 32 ((4294967295, 0) ∷ (2147483648, 31) ∷ (2147483653, 2) ∷ (4294967295, 32) ∷ (2147483647, 32) ∷ (3, 33) ∷ (2147483648, 4294967295) ∷ []) ≡
    Some 4294967295 ∷ Some 4294967295 ∷ Some 3758096385 ∷ Some 4294967295 ∷ Some 0 ∷ Some 0 ∷ Some 4294967295 ∷ []
unfolding on_values reduce signed_of
shrsi-32 = refl

shrsi-64 : results Shrsi 64 ((18446744073709551615, 0) ∷ (9223372036854775808, 63) ∷ (9223372036854775813, 2) ∷ (18446744073709551615, 64) ∷ (9223372036854775807, 64) ∷ (3, 65) ∷ (9223372036854775808, 18446744073709551615) ∷ []) ≡
    Some 18446744073709551615 ∷ Some 18446744073709551615 ∷ Some 16140901064495857665 ∷ Some 18446744073709551615 ∷ Some 0 ∷ Some 0 ∷ Some 18446744073709551615 ∷ []
unfolding on_values reduce signed_of
shrsi-64 = refl

shrui-1 : results Shrui 1 ((0, 0) ∷ (0, 1) ∷ (1, 0) ∷ (1, 1) ∷ []) ≡
    Some 0 ∷ Some 0 ∷ Some 1 ∷ Some 0 ∷ []
unfolding on_values reduce signed_of
shrui-1 = refl

shrui-8 : results Shrui 8 ((255, 0) ∷ (128, 7) ∷ (133, 2) ∷ (255, 8) ∷ (127, 8) ∷ (3, 9) ∷ (128, 255) ∷ []) ≡
    Some 255 ∷ Some 1 ∷ Some 33 ∷ Some 0 ∷ Some 0 ∷ Some 0 ∷ Some 0 ∷ []
unfolding on_values reduce signed_of
shrui-8 = refl

shrui-32 : results Shrui 32 ((4294967295, 0) ∷ (2147483648, 31) ∷ (2147483653, 2) ∷ (4294967295, 32) ∷ (2147483647, 32) ∷ (3, 33) ∷ (2147483648, 4294967295) ∷ []) ≡
    Some 4294967295 ∷ Some 1 ∷ Some 536870913 ∷ Some 0 ∷ Some 0 ∷ Some 0 ∷ Some 0 ∷ []
unfolding on_values reduce signed_of
shrui-32 = refl

shrui-64 : results Shrui 64 ((18446744073709551615, 0) ∷ (9223372036854775808, 63) ∷ (9223372036854775813, 2) ∷ (18446744073709551615, 64) ∷ (9223372036854775807, 64) ∷ (3, 65) ∷ (9223372036854775808, 18446744073709551615) ∷ []) ≡
    Some 18446744073709551615 ∷ Some 1 ∷ Some 2305843009213693953 ∷ Some 0 ∷ Some 0 ∷ Some 0 ∷ Some 0 ∷ []
unfolding on_values reduce signed_of
shrui-64 = refl

maxsi-1 : results Maxsi 1 ((0, 0) ∷ (0, 1) ∷ (1, 0) ∷ (1, 1) ∷ []) ≡
    Some 0 ∷ Some 0 ∷ Some 0 ∷ Some 1 ∷ []
unfolding on_values reduce signed_of
maxsi-1 = refl

maxsi-8 : results Maxsi 8 ((128, 127) ∷ (255, 0) ∷ (127, 255) ∷ []) ≡
    Some 127 ∷ Some 0 ∷ Some 127 ∷ []
unfolding on_values reduce signed_of
maxsi-8 = refl

maxsi-32 : results Maxsi 32 ((2147483648, 2147483647) ∷ (4294967295, 0) ∷ (2147483647, 4294967295) ∷ []) ≡
    Some 2147483647 ∷ Some 0 ∷ Some 2147483647 ∷ []
unfolding on_values reduce signed_of
maxsi-32 = refl

maxsi-64 : results Maxsi 64 ((9223372036854775808, 9223372036854775807) ∷ (18446744073709551615, 0) ∷ (9223372036854775807, 18446744073709551615) ∷ []) ≡
    Some 9223372036854775807 ∷ Some 0 ∷ Some 9223372036854775807 ∷ []
unfolding on_values reduce signed_of
maxsi-64 = refl

maxui-1 : results Maxui 1 ((0, 0) ∷ (0, 1) ∷ (1, 0) ∷ (1, 1) ∷ []) ≡
    Some 0 ∷ Some 1 ∷ Some 1 ∷ Some 1 ∷ []
unfolding on_values reduce signed_of
maxui-1 = refl

maxui-8 : results Maxui 8 ((128, 127) ∷ (255, 0) ∷ (127, 255) ∷ []) ≡
    Some 128 ∷ Some 255 ∷ Some 255 ∷ []
unfolding on_values reduce signed_of
maxui-8 = refl

maxui-32 : results Maxui 32 ((2147483648, 2147483647) ∷ (4294967295, 0) ∷ (2147483647, 4294967295) ∷ []) ≡
    Some 2147483648 ∷ Some 4294967295 ∷ Some 4294967295 ∷ []
unfolding on_values reduce signed_of
maxui-32 = refl

maxui-64 : results Maxui 64 ((9223372036854775808, 9223372036854775807) ∷ (18446744073709551615, 0) ∷ (9223372036854775807, 18446744073709551615) ∷ []) ≡
    Some 9223372036854775808 ∷ Some 18446744073709551615 ∷ Some 18446744073709551615 ∷ []
unfolding on_values reduce signed_of
maxui-64 = refl

minsi-1 : results Minsi 1 ((0, 0) ∷ (0, 1) ∷ (1, 0) ∷ (1, 1) ∷ []) ≡
    Some 0 ∷ Some 1 ∷ Some 1 ∷ Some 1 ∷ []
unfolding on_values reduce signed_of
minsi-1 = refl

minsi-8 : results Minsi 8 ((128, 127) ∷ (255, 0) ∷ (127, 255) ∷ []) ≡
    Some 128 ∷ Some 255 ∷ Some 255 ∷ []
unfolding on_values reduce signed_of
minsi-8 = refl

minsi-32 : results Minsi 32 ((2147483648, 2147483647) ∷ (4294967295, 0) ∷ (2147483647, 4294967295) ∷ []) ≡
    Some 2147483648 ∷ Some 4294967295 ∷ Some 4294967295 ∷ []
unfolding on_values reduce signed_of
minsi-32 = refl

minsi-64 : results Minsi 64 ((9223372036854775808, 9223372036854775807) ∷ (18446744073709551615, 0) ∷ (9223372036854775807, 18446744073709551615) ∷ []) ≡
    Some 9223372036854775808 ∷ Some 18446744073709551615 ∷ Some 18446744073709551615 ∷ []
unfolding on_values reduce signed_of
minsi-64 = refl

minui-1 : results Minui 1 ((0, 0) ∷ (0, 1) ∷ (1, 0) ∷ (1, 1) ∷ []) ≡
    Some 0 ∷ Some 0 ∷ Some 0 ∷ Some 1 ∷ []
unfolding on_values reduce signed_of
minui-1 = refl

minui-8 : results Minui 8 ((128, 127) ∷ (255, 0) ∷ (127, 255) ∷ []) ≡
    Some 127 ∷ Some 0 ∷ Some 127 ∷ []
unfolding on_values reduce signed_of
minui-8 = refl

minui-32 : results Minui 32 ((2147483648, 2147483647) ∷ (4294967295, 0) ∷ (2147483647, 4294967295) ∷ []) ≡
    Some 2147483647 ∷ Some 0 ∷ Some 2147483647 ∷ []
unfolding on_values reduce signed_of
minui-32 = refl

minui-64 : results Minui 64 ((9223372036854775808, 9223372036854775807) ∷ (18446744073709551615, 0) ∷ (9223372036854775807, 18446744073709551615) ∷ []) ≡
    Some 9223372036854775807 ∷ Some 0 ∷ Some 9223372036854775807 ∷ []
unfolding on_values reduce signed_of
minui-64 = refl

wraps : map (λ (r : ℕ × ℤ). reduce r.0 r.1) ((1, pos 3) ∷ (1, negsuc 0) ∷ (8, negsuc 0) ∷ (8, pos 256) ∷ (8, negsuc 128) ∷ (32, negsuc 2147483647) ∷ (64, negsuc 0) ∷ (64, pos 18446744073709551616) ∷ (64, negsuc 170141183460469231731687303715884105727) ∷ (64, pos 170141183460469231731687303715884105727) ∷ []) ≡
    1 ∷ 1 ∷ 255 ∷ 0 ∷ 127 ∷ 2147483648 ∷ 18446744073709551615 ∷ 0 ∷ 0 ∷ 18446744073709551615 ∷ []
unfolding reduce
wraps = refl

reads_signed : map (λ (r : ℕ × ℕ). signed_of r.0 r.1) ((1, 0) ∷ (1, 1) ∷ (8, 127) ∷ (8, 128) ∷ (8, 255) ∷ (32, 2147483647) ∷ (32, 2147483648) ∷ (64, 9223372036854775807) ∷ (64, 9223372036854775808) ∷ (64, 18446744073709551615) ∷ []) ≡
    pos 0 ∷ negsuc 0 ∷ pos 127 ∷ negsuc 127 ∷ negsuc 0 ∷ pos 2147483647 ∷ negsuc 2147483647 ∷ pos 9223372036854775807 ∷ negsuc 9223372036854775807 ∷ negsuc 0 ∷ []
unfolding signed_of
reads_signed = refl

-- 0 and 1 of one bit, 128 and 127 and then 5 and 5 of 8, and the greatest word and 0
abbrev holds : Predicate → List Bool
holds q = compares q 1 0 1 ∷ compares q 8 128 127 ∷ compares q 8 5 5 ∷ compares q 64 18446744073709551615 0 ∷ []

eq-holds : holds Eq ≡ false ∷ false ∷ true ∷ false ∷ []
unfolding compares signed_of
eq-holds = refl

ne-holds : holds Ne ≡ true ∷ true ∷ false ∷ true ∷ []
unfolding compares signed_of
ne-holds = refl

slt-holds : holds Slt ≡ false ∷ true ∷ false ∷ true ∷ []
unfolding compares signed_of
slt-holds = refl

sle-holds : holds Sle ≡ false ∷ true ∷ true ∷ true ∷ []
unfolding compares signed_of
sle-holds = refl

sgt-holds : holds Sgt ≡ true ∷ false ∷ false ∷ false ∷ []
unfolding compares signed_of
sgt-holds = refl

sge-holds : holds Sge ≡ true ∷ false ∷ true ∷ false ∷ []
unfolding compares signed_of
sge-holds = refl

ult-holds : holds Ult ≡ true ∷ false ∷ false ∷ false ∷ []
unfolding compares signed_of
ult-holds = refl

ule-holds : holds Ule ≡ true ∷ false ∷ true ∷ false ∷ []
unfolding compares signed_of
ule-holds = refl

ugt-holds : holds Ugt ≡ false ∷ true ∷ false ∷ true ∷ []
unfolding compares signed_of
ugt-holds = refl

uge-holds : holds Uge ≡ false ∷ true ∷ true ∷ true ∷ []
unfolding compares signed_of
uge-holds = refl
