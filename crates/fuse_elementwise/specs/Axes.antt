-- An axis by the dimension that selects it, and the dimension of a map's first result.
use Rattle.std.specs.Prelude.{ℕ, List, [], ◌∷◌, Option, Some, None}
use Rattle.affine_maps.specs.Permutation.{dimension_of}
use Rattle.affine_maps.specs.declared.map.Expr.{Expr}
use Rattle.mlir_ir.specs.declared.tree.Extent.{Extent}
use Rattle.mlir_verify.specs.Maps.{Axis}

abbrev pub axis_of : Option ℕ → Extent → List Axis
axis_of None x = []
axis_of (Some d) x = (d, x) ∷ []

abbrev pub first_dimension : List Expr → Option ℕ
first_dimension [] = None
first_dimension (e ∷ es) = dimension_of e
