-- The tile of an operand, by its map and by the offset and the size of each dimension. A dimension that isn't tiled has the offset 0
-- and its extent as its size. The forms' atoms are the numbers of values.
use Rattle.std.specs.Prelude.{ℕ, ◌^◌, nat_le, unsigned_abs, Bool, true, false, ℤ, pos, ◌+ℤ◌, ◌-ℤ◌, List, [], ◌∷◌, ◌++◌, map, Option, Some, None, slice_get, slice_index_or, if◌then◌else◌}
use Rattle.std.specs.List.{list_any, zip}
use Rattle.affine_maps.specs.Shape.{MapShape}
use Rattle.affine_maps.specs.Value.{weighted_sum}
use Rattle.affine_maps.specs.declared.map.Expr.{Expr}
use Rattle.index_forms.specs.Forms.{form, number}
use Rattle.index_forms.specs.declared.form.LinForm.{LinForm}
use Rattle.mlir_ir.specs.declared.tree.Idx.{Idx}
use Rattle.mlir_ir.specs.declared.tree.Idx.TheVariants.{Literal, Value}

-- ENTRIES: a literal is a number, and a value a term
abbrev pub number_of : Option Idx → ℤ
number_of (Some (Literal n)) = n
number_of _ = pos 0

abbrev pub terms_of : ℤ → Option Idx → List (ℕ × ℤ)
terms_of c (Some (Value v)) = (v.0, c) ∷ []
terms_of c _ = []

abbrev pub form_of : Idx → LinForm
form_of i = form (number_of (Some i)) (terms_of (pos 1) (Some i))

-- the number of dimension d in a list with an entry for each
abbrev pub number_at : List Idx → ℕ → ℤ
number_at xs d = number_of (slice_get xs d)

-- the values in a sum of coefficients times entries
abbrev pub terms_at : List (ℕ × ℤ) → List Idx → List (ℕ × ℤ)
terms_at [] xs = []
terms_at (t ∷ ts) xs = terms_of t.1 (slice_get xs t.0) ++ terms_at ts xs

-- a literal within plus and minus 2^21
abbrev pub is_near : Idx → Bool
is_near (Literal n) = nat_le (unsigned_abs n) (2 ^ 21)
is_near (Value v) = true

-- AXES
abbrev pub is_tiled : List Bool → ℕ → Bool
is_tiled tiled d = slice_index_or tiled d false

abbrev pub names_tiled : List Bool → Expr → Bool
names_tiled tiled e = list_any (λ t. is_tiled tiled t.0) e.terms

-- the expression at the offsets
abbrev pub offset_of : List Idx → Expr → LinForm
offset_of offsets e = form (e.constant +ℤ weighted_sum e.terms (number_at offsets)) (terms_at e.terms offsets)

-- the sum of `c * (size - 1)` over its dimensions, plus 1
abbrev pub size_of : List Idx → Expr → LinForm
size_of sizes e = form (pos 1 +ℤ weighted_sum e.terms (λ d. number_at sizes d -ℤ pos 1)) (terms_at e.terms sizes)

-- an axis without a tiled dimension is whole
abbrev pub axis_slice : List Idx → List Idx → List Bool → Expr × Idx → LinForm × LinForm
axis_slice offsets sizes tiled x =
    if names_tiled tiled x.0 then (offset_of offsets x.0, size_of sizes x.0) else (number (pos 0), form_of x.1)

-- THE OPERAND, which is used whole where its map names no tiled dimension
abbrev pub operand_slice : MapShape → List Idx → List Idx → List Idx → List Bool → Option (List (LinForm × LinForm))
operand_slice m extents offsets sizes tiled =
    if list_any (names_tiled tiled) m.results then Some (map (axis_slice offsets sizes tiled) (zip m.results extents)) else None
