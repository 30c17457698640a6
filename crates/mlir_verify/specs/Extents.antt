-- V7: axes that one dimension selects have equal extents, and so have results and their destinations, and values returned
-- and the results of their function (Linalg, "Structured operations"; Func, "func.return").
use Rattle.std.specs.Prelude.{ℕ, ◌==◌, ◌&&◌, not, Bool, true, false, List, [], ◌∷◌, length, map, filter, slice_get, Option, Some, None}
use Rattle.std.specs.List.{list_all, zip, enumerate_from}
use Rattle.affine_maps.specs.Permutation.{is_among}
use Rattle.mlir_ir.specs.declared.tree.Extent.{Extent}
use Rattle.mlir_ir.specs.declared.tree.Extent.TheVariants.{Fixed}
use Rattle.mlir_ir.specs.declared.tree.OpKind.{OpKind, Generic, Fill, Matmul, BatchMatmul, Transpose, Broadcast, Return}
use Rattle.mlir_ir.specs.declared.tree.Ty.{Ty}
use Rattle.mlir_ir.specs.declared.tree.ValueId.{ValueId}
use Rattle.mlir_verify.specs.Place.{Types}
use Rattle.mlir_verify.specs.Tensors.{extents_of, result_type}
use Rattle.mlir_verify.specs.Maps.{Axis, axes, extent_of}

-- extents that are known to be equal
abbrev pub is_same_extent : Extent → Extent → Bool
is_same_extent (Fixed m) (Fixed n) = m == n
is_same_extent _ _ = false

abbrev pub has_extent : Option Extent → Extent → Bool
has_extent None x = false
has_extent (Some y) x = is_same_extent y x

-- each axis has the extent of the dimension that selects it
abbrev pub axes_agree : List Axis → Bool
axes_agree all = list_all (λ a. has_extent (extent_of all a.0) a.1) all

abbrev pub are_same_extents : List Extent → List Extent → Bool
are_same_extents xs ys = length xs == length ys && list_all (λ x. is_same_extent x.0 x.1) (zip xs ys)

abbrev pub has_extents_of : Option Ty → Option Ty → Bool
has_extents_of s t = are_same_extents (extents_of s) (extents_of t)

-- (m, k) times (k, n) into (m, n)
abbrev pub is_product : List Extent → List Extent → List Extent → Bool
is_product (am ∷ ak ∷ []) (bk ∷ bn ∷ []) (m ∷ n ∷ []) = is_same_extent am m && (is_same_extent ak bk && is_same_extent bn n)
is_product _ _ _ = false

-- the same with one more axis in front
abbrev pub is_batch_product : List Extent → List Extent → List Extent → Bool
is_batch_product (x ∷ a) (y ∷ b) (z ∷ out) = is_same_extent x z && (is_same_extent y z && is_product a b out)
is_batch_product _ _ _ = false

-- axis k of the output is axis order[k] of the source
abbrev pub is_transposed : List ℕ → List Extent → List Extent → Bool
is_transposed order source out = list_all (λ x. has_extent (slice_get source x.0) x.1) (zip order out)

-- the extents of the axes that aren't named
abbrev pub extents_without : List ℕ → List Extent → List Extent
extents_without named xs = map (λ a. a.1) (filter (λ a. not (is_among a.0 named)) (enumerate_from 0 xs))

-- the output's axes that aren't added are the source's, in order
abbrev pub is_broadcast : List ℕ → List Extent → List Extent → Bool
is_broadcast added source out = are_same_extents (extents_without added out) source

abbrev pub keeps_output : Types → List (ValueId × Ty) → ValueId → Bool
keeps_output t results outs = has_extents_of (t outs.0) (result_type results)

unfoldable pub keeps_extents : Types → List Ty → List (ValueId × Ty) → OpKind → Bool
keeps_extents t wanted results (Generic maps iterators ins outs captured payload) = axes_agree (axes t maps ins outs) && keeps_output t results outs
keeps_extents t wanted results (Fill value outs) = keeps_output t results outs
keeps_extents t wanted results (Matmul a b outs) = is_product (extents_of (t a.0)) (extents_of (t b.0)) (extents_of (t outs.0)) && keeps_output t results outs
keeps_extents t wanted results (BatchMatmul a b outs) = is_batch_product (extents_of (t a.0)) (extents_of (t b.0)) (extents_of (t outs.0)) && keeps_output t results outs
keeps_extents t wanted results (Transpose source outs order) = is_transposed order (extents_of (t source.0)) (extents_of (t outs.0)) && keeps_output t results outs
keeps_extents t wanted results (Broadcast source outs dims) = is_broadcast dims (extents_of (t source.0)) (extents_of (t outs.0)) && keeps_output t results outs
keeps_extents t wanted results (Return values) = list_all (λ x. has_extents_of (t (x.0).0) (Some x.1)) (zip values wanted)
keeps_extents t wanted results _ = true

unfoldable pub breaks_extents : Types → List Ty → List (ValueId × Ty) → OpKind → Bool
breaks_extents t wanted results kind = not (keeps_extents t wanted results kind)
