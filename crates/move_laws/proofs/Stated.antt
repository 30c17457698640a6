-- The laws of pads and packs as they are stated.
use Rattle.std.proofs.Common.{◌≡◌, ℕ, List, length, [], ◌∷◌, ◌++◌, ap, ◌∙◌}
use Rattle.std.specs.Prelude.{option_map}
use Rattle.mlir_ir.specs.declared.tree.OpKind.{ExtractSlice, Generic, Unpack}
use Rattle.mlir_meaning.specs.Points.{select_map}
use Rattle.mlir_meaning.specs.States.{Goes, made}
use Rattle.mlir_meaning.specs.Structured.{generic_result}
use Rattle.mlir_meaning.specs.declared.values.Datum.TheVariants.{Cells}
use Rattle.point_laws.proofs.Inside.{grow_length}
use Rattle.region_laws.specs.Bodies.{after}
use Rattle.region_laws.specs.Instances.{result_of}
use Rattle.region_laws.specs.Operands.{maps_of, maps_in, news}
use Rattle.move_laws.specs.Laws.{PaddedIsGeneric, PaddedInputsAreGeneric, PackedIsGeneric, PackedInputsAreGeneric, PaddedRunsAsGeneric, PackedRunsAsGeneric}
use Rattle.move_laws.specs.Pads.{padded, unpadded}
use Rattle.move_laws.specs.Packs.{packed, output_tiles, cut_axes, cut_sizes, unpacked}
use Rattle.move_laws.proofs.Operations.{result_then, slice_back, unpack_back}
use Rattle.move_laws.proofs.PadLaw.{pad_kept, inputs_pad_kept}
use Rattle.move_laws.proofs.PackLaw.{pack_kept, inputs_pack_kept}
use Rattle.move_laws.specs.Operands.{Moved}
use Rattle.move_laws.specs.Laws.{Pair, HoldsInstance}
use Rattle.region_laws.specs.Instances.{Instance}
use Rattle.point_laws.specs.Boxes.{Grows}
use Rattle.mlir_meaning.specs.States.{State}
use Rattle.mlir_meaning.specs.Meaning.{kind_meaning}
use Rattle.mlir_meaning.proofs.States.{set_same, generic_runs}

-- the greater box has as many dimensions
same_rank : (m : Moved) (box' : List ℕ) → Grows m.box box' →
    result_of (padded m box') ≡ generic_result (maps_of (maps_in m.inputs) m.box m.ds) (length m.box) (news m.inputs) (Cells m.width m.new) m.captured m.payload
same_rank m box' grows =
    let long = grow_length m.box box' grows in
    λ j. generic_result (maps_in m.inputs ++ select_map (long j) m.ds ∷ []) (long j) (news m.inputs) (Cells m.width m.new) m.captured m.payload

pub padded_is : PaddedIsGeneric
padded_is m box' value p =
    ap (option_map (unpadded m.old.extents)) (same_rank m box' p.pads.grows)
    ∙ pad_kept m.box box' m.inputs m.ds m.width value m.old m.new p.pads m.captured m.payload p.cannot p.kept

pub padded_inputs : PaddedInputsAreGeneric
padded_inputs m box' value p same =
    same_rank m box' p.pads.grows ∙ inputs_pad_kept m.box box' m.inputs m.ds m.width value m.old m.new p.pads m.captured m.payload p.cannot p.kept same

pub packed_is : PackedIsGeneric
packed_is m ts p = pack_kept m.box ts m.inputs m.ds m.width m.old m.new p.packs m.captured m.payload p.free p.cannot p.kept

pub packed_inputs : PackedInputsAreGeneric
packed_inputs m ts p none = inputs_pack_kept m.box ts m.inputs m.ds m.width m.old m.new p.packs m.captured m.payload p.free p.cannot p.kept none

-- IN A STATE
module _ (s : State) (n : Pair) (g : Instance) (h : HoldsInstance s n g) where
  pub new_runs : kind_meaning (Generic (maps_of g.maps g.box g.ds) n.iterators n.ins n.outs n.names g.payload) ((n.result, n.ty) ∷ []) s
      ≡ made ((n.result, n.ty) ∷ []) s (result_of g)
  new_runs =
      generic_runs s ((n.result, n.ty) ∷ []) (maps_of g.maps g.box g.ds) n.iterators n.ins n.outs n.names g.payload g.ins (Cells g.width g.out) g.captured h.ins h.outs h.captured
      ∙ (λ j. made ((n.result, n.ty) ∷ []) s (generic_result (maps_of g.maps g.box g.ds) (h.rank j) g.ins (Cells g.width g.out) g.captured g.payload))

pub padded_runs : PaddedRunsAsGeneric
padded_runs m box' value p s n h offsets sizes back = (
  result_of (padded m box'),
  result_then s n.back n.back_ty n.id n.back_id n.result n.ty _ (ExtractSlice n.result offsets sizes) _ (unpadded m.old.extents) (new_runs s n (padded m box') h)
      (λ d. slice_back (after s n.result d) n.back n.back_ty n.result offsets sizes m.old.extents (back d).0 (back d).1
      ∙ ap (λ x. Goes (after (after s n.result d) n.back (unpadded m.old.extents x))) (set_same s.values n.result.0 d)),
  padded_is m box' value p,
)

pub packed_runs : PackedRunsAsGeneric
packed_runs m ts p s n h old_outs back =
    let sizes = output_tiles ts m.ds in (
      result_of (packed m ts),
      result_then s n.back n.back_ty n.id n.back_id n.result n.ty _ (Unpack n.result old_outs (cut_axes sizes) (cut_sizes sizes)) _ (unpacked m.old.extents sizes m.width)
          (new_runs s n (packed m ts) h)
          (λ d. unpack_back (after s n.result d) n.back n.back_ty n.result old_outs sizes m.width m.old (back d)
          ∙ ap (λ x. Goes (after (after s n.result d) n.back (unpacked m.old.extents sizes m.width x))) (set_same s.values n.result.0 d)),
      packed_is m ts p,
    )
