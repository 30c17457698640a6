-- Whether a generic fits depends on the types of its operands alone.
use Rattle.std.proofs.Common.{◌≡◌, ℕ, suc, ◌&&◌, Bool, not, List, [], ◌∷◌, ◌++◌, length, Option, None, Some, refl, ap}
use Rattle.std.specs.Prelude.{nat_le, is_some}
use Rattle.std.specs.List.{list_all, zip, flat_map, enumerate_from}
use Rattle.affine_maps.specs.Permutation.{is_projected_permutation}
use Rattle.affine_maps.specs.Shape.{MapShape}
use Rattle.mlir_ir.specs.declared.tree.Iter.{Iter}
use Rattle.mlir_ir.specs.declared.tree.ValueId.{ValueId}
use Rattle.mlir_meaning.specs.Grids.{Each}
use Rattle.mlir_verify.specs.Extents.{axes_agree}
use Rattle.mlir_verify.specs.Maps.{Axis, axes, breaks_maps, cover_dimensions, extent_of, fit_operands, fits_operand, on_output, operand_axes, output_axes, output_map}
use Rattle.mlir_verify.specs.Place.{Types}
use Rattle.verified_runs.specs.Forms.{Structured, kind_of}
use Rattle.pair_laws.specs.FuseAll.{fits}

module _ (t s : Types) where
  abbrev pub Alike : ValueId → Type 0
  Alike v = s v.0 ≡ t v.0

  inputs_same : (maps : List MapShape) (ins : List ValueId) → Each Alike ins →
      flat_map (λ (x : MapShape × ValueId). operand_axes x.0 (s (x.1).0)) (zip maps ins) ≡ flat_map (λ (x : MapShape × ValueId). operand_axes x.0 (t (x.1).0)) (zip maps ins)
  inputs_same [] ins h = refl
  inputs_same (m ∷ maps) [] h = refl
  inputs_same (m ∷ maps) (v ∷ ins) h = λ j. operand_axes m (h.0 j) ++ inputs_same maps ins h.1 j

  axes_same : (maps : List MapShape) (ins : List ValueId) (outs : ValueId) → Each Alike ins → Alike outs → axes s maps ins outs ≡ axes t maps ins outs
  axes_same maps ins outs h k = λ j. inputs_same maps ins h j ++ output_axes (output_map maps) (k j)

  operands_same : (n : ℕ) (ins : List ValueId) (maps : List MapShape) → Each Alike ins →
      list_all (λ (x : ValueId × MapShape). fits_operand n x.1 (s (x.0).0)) (zip ins maps) ≡ list_all (λ (x : ValueId × MapShape). fits_operand n x.1 (t (x.0).0)) (zip ins maps)
  operands_same n [] maps h = refl
  operands_same n (v ∷ ins) [] h = refl
  operands_same n (v ∷ ins) (m ∷ maps) h = λ j. fits_operand n m (h.0 j) && operands_same n ins maps h.1 j

  breaks_same : (g : Structured) → Each Alike g.ins → Alike g.outs → breaks_maps s (kind_of g) ≡ breaks_maps t (kind_of g)
  unfolding breaks_maps fit_operands cover_dimensions
  breaks_same g h k =
      let n = length g.iterators in
      λ j. not ((operands_same n g.ins g.maps h j && on_output (output_map g.maps) (λ m. fits_operand n m (k j) && is_projected_permutation m))
      && list_all (λ (i : ℕ × Iter). is_some (extent_of (axes_same g.maps g.ins g.outs h k j) i.0)) (enumerate_from 0 g.iterators))

  pub fits_same : (c g : Structured) → Each Alike c.ins → Alike c.outs → Each Alike g.ins → Alike g.outs → fits s c g ≡ fits t c g
  fits_same c g h k l m =
      λ j. not (breaks_same g l m j)
      && (axes_agree (axes_same c.maps c.ins c.outs h k j ++ axes_same g.maps g.ins g.outs l m j)
      && (nat_le (suc (length g.ins)) 64 && nat_le (length g.payload.steps) 1024))
