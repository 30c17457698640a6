-- What the forms of a tile are worth where the values are known.
use Rattle.std.specs.Prelude.{◌≡◌, ℕ, ℤ, pos, ◌+ℤ◌, ◌-ℤ◌, List, Option, Some, None, slice_get}
use Rattle.affine_maps.specs.Value.{weighted_sum}
use Rattle.affine_maps.specs.declared.map.Expr.{Expr}
use Rattle.index_forms.specs.Forms.{value_of}
use Rattle.mlir_ir.specs.declared.tree.Idx.{Idx}
use Rattle.mlir_ir.specs.declared.tree.Idx.TheVariants.{Literal, Value}
use Rattle.operand_slices.specs.Slices.{offset_of, size_of}

-- what an entry is worth
abbrev pub worth : (ℕ → ℤ) → Option Idx → ℤ
worth env (Some (Literal n)) = n
worth env (Some (Value v)) = env v.0
worth env None = pos 0

abbrev pub worth_at : (ℕ → ℤ) → List Idx → ℕ → ℤ
worth_at env xs d = worth env (slice_get xs d)

-- an offset is the expression's value at the offsets
abbrev pub OffsetsAreAtOffsets : Type 0
OffsetsAreAtOffsets = (e : Expr) (offsets : List Idx) (env : ℕ → ℤ) → value_of (offset_of offsets e) env
    ≡ e.constant +ℤ weighted_sum e.terms (worth_at env offsets)

-- a size is one more than what the expression grows by, from the first point of the sizes to the last
abbrev pub SizesReach : Type 0
SizesReach = (e : Expr) (sizes : List Idx) (env : ℕ → ℤ) → value_of (size_of sizes e) env
    ≡ pos 1 +ℤ weighted_sum e.terms (λ d. worth_at env sizes d -ℤ pos 1)
