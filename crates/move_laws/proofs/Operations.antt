-- The kinds of operations that pads and packs form, in a state: each defines the grid of which the laws speak. With `builds_one` each is one
-- operation of a body.
use Rattle.std.proofs.Common.{◌≡◌, ℕ, List, [], ◌∷◌, Option, Some, None, refl, ap, ◌∙◌}
use Rattle.mlir_ir.specs.declared.tree.Idx.{Idx}
use Rattle.mlir_ir.specs.declared.tree.OpId.{OpId}
use Rattle.mlir_ir.specs.declared.tree.OpKind.{OpKind, ExtractSlice, Pad, Pack, Unpack}
use Rattle.mlir_ir.specs.declared.tree.Ty.{Ty}
use Rattle.mlir_ir.specs.declared.tree.ValueId.{ValueId}
use Rattle.mlir_meaning.specs.Meaning.{kind_meaning, run, places_in, scalar_in, optional_scalar}
use Rattle.mlir_meaning.specs.Moves.{slice_of, pad_of, pack_of, unpack_of}
use Rattle.mlir_meaning.specs.States.{State, Goes, made, then_goes, grid_of, width_of}
use Rattle.mlir_meaning.specs.declared.values.Datum.{Datum}
use Rattle.mlir_meaning.specs.declared.values.Datum.TheVariants.{Cells}
use Rattle.mlir_meaning.specs.declared.values.Grid.{Grid}
use Rattle.region_laws.specs.Bodies.{after}
use Rattle.point_laws.specs.Boxes.{zeros}
use Rattle.move_laws.specs.Packs.{cut_axes, cut_sizes, unpacked}
use Rattle.move_laws.specs.Pads.{unpadded}
use Rattle.move_laws.specs.Laws.{moved_on}

module _ (s : State) (v : ValueId) (ty : Ty) where
  pub pad_means : (source : ValueId) (high : List Idx) (value : ValueId) (width : ℕ) (g : Grid) (hs : List ℕ) (c : ℕ) → s.values source.0 ≡ Cells width g → places_in s.values high ≡ hs → scalar_in s.values value ≡ c →
      kind_meaning (Pad source high value) ((v, ty) ∷ []) s ≡ Goes (after s v (Cells width (pad_of g hs c)))
  unfolding kind_meaning
  pad_means source high value width g hs c is at_high at_value = λ j. Goes (after s v (Cells (width_of (is j)) (pad_of (grid_of (is j)) (at_high j) (at_value j))))

  pub pack_means : (source dest : ValueId) (value : Option ValueId) (dims tiles : List ℕ) (width : ℕ) (g e : Grid) (es : List ℕ) (c : ℕ) → s.values source.0 ≡ Cells width g → s.values dest.0 ≡ Cells width e → e.extents ≡ es →
      optional_scalar s.values value ≡ c → kind_meaning (Pack source dest value dims tiles) ((v, ty) ∷ []) s ≡ Goes (after s v (Cells width (pack_of g es dims tiles c)))
  unfolding kind_meaning
  pack_means source dest value dims tiles width g e es c is at_dest shape at_value =
      (λ j. Goes (after s v (Cells (width_of (at_dest j)) (pack_of (grid_of (is j)) (grid_of (at_dest j)).extents dims tiles (at_value j)))))
      ∙ (λ j. Goes (after s v (Cells width (pack_of g (shape j) dims tiles c))))

  -- the generic and the operation that moves its result back: together they are the old generic
  pub result_then : (id id' : OpId) (r : ValueId) (tr : Ty) (kind move : OpKind) (x : Option Datum) (F : Datum → Datum) → kind_meaning kind ((r, tr) ∷ []) s ≡ made ((r, tr) ∷ []) s x →
      ((d : Datum) → kind_meaning move ((v, ty) ∷ []) (after s r d) ≡ Goes (after (after s r d) v (F d))) →
      run (record { id = id; results = (r, tr) ∷ []; kind = kind } ∷ record { id = id'; results = (v, ty) ∷ []; kind = move } ∷ []) s ≡ moved_on s r v F x
  unfolding run
  result_then id id' r tr kind move x F is moves = ap (λ o. then_goes o (run (record { id = id'; results = (v, ty) ∷ []; kind = move } ∷ []))) is ∙ by x
    where
      by : (x : Option Datum) → then_goes (made ((r, tr) ∷ []) s x) (run (record { id = id'; results = (v, ty) ∷ []; kind = move } ∷ [])) ≡ moved_on s r v F x
      by None = refl
      by (Some d) = ap (λ o. then_goes o (run [])) (moves d)

-- the slice at 0 with the old sizes, and the unpack into the old output
module _ (s : State) (v : ValueId) (ty : Ty) where
  pub slice_back : (r : ValueId) (offsets sizes : List Idx) (es : List ℕ) → places_in s.values offsets ≡ zeros es → places_in s.values sizes ≡ es →
      kind_meaning (ExtractSlice r offsets sizes) ((v, ty) ∷ []) s ≡ Goes (after s v (unpadded es (s.values r.0)))
  unfolding kind_meaning
  slice_back r offsets sizes es at_offsets at_sizes = λ j. Goes (after s v (Cells (width_of (s.values r.0)) (slice_of (grid_of (s.values r.0)) (at_offsets j) (at_sizes j))))

  pub unpack_back : (r outs : ValueId) (ts : List ℕ) (width : ℕ) (g : Grid) → s.values outs.0 ≡ Cells width g →
      kind_meaning (Unpack r outs (cut_axes ts) (cut_sizes ts)) ((v, ty) ∷ []) s ≡ Goes (after s v (unpacked g.extents ts width (s.values r.0)))
  unfolding kind_meaning
  unpack_back r outs ts width g is = λ j. Goes (after s v (Cells (width_of (is j)) (unpack_of (grid_of (s.values r.0)) (grid_of (is j)).extents (cut_axes ts) (cut_sizes ts))))
