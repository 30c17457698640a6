-- The kinds of operations on vectors in a state: each defines the grid of which the laws speak. With `builds_one` each is one operation of a body.
use Rattle.std.proofs.Common.{◌≡◌, ℕ, List, [], ◌∷◌, Option, Some, ap, ◌∙◌}
use Rattle.affine_maps.specs.Shape.{MapShape}
use Rattle.payload_ops.specs.declared.kinds.Combiner.{Combiner}
use Rattle.payload_ops.specs.declared.step.StepOp.{StepOp}
use Rattle.mlir_ir.specs.declared.tree.OpKind.{CreateMask, TransferRead, TransferWrite, Elementwise, MultiReduction}
use Rattle.mlir_ir.specs.declared.tree.Ty.{Ty}
use Rattle.mlir_ir.specs.declared.tree.Ty.TheVariants.{Vector}
use Rattle.mlir_ir.specs.declared.tree.ValueId.{ValueId}
use Rattle.mlir_meaning.specs.Meaning.{kind_meaning, values_in, sizes_in, scalar_in, optional_value}
use Rattle.mlir_meaning.specs.States.{State, Goes, made, grid_of, width_of}
use Rattle.mlir_meaning.specs.Vectors.{mask_of, read_of, write_of, elementwise_result, reduction_of}
use Rattle.mlir_meaning.specs.declared.values.Datum.{Datum}
use Rattle.mlir_meaning.specs.declared.values.Datum.TheVariants.{Cells}
use Rattle.mlir_meaning.specs.declared.values.Grid.{Grid}
use Rattle.region_laws.specs.Bodies.{after}

module _ (s : State) (v : ValueId) (ty : Ty) where
  pub mask_means : (sizes : List ValueId) (lanes ns : List ℕ) → sizes_in s.values sizes ≡ ns → kind_meaning (CreateMask sizes) ((v, Vector lanes 1) ∷ []) s ≡ Goes (after s v (Cells 1 (mask_of ns lanes)))
  unfolding kind_meaning
  mask_means sizes lanes ns at_sizes = λ j. Goes (after s v (Cells 1 (mask_of (at_sizes j) lanes)))

  pub read_means : (source : ValueId) (offsets : List ValueId) (padding : ValueId) (mask : Option ValueId) (m : MapShape) (lanes : List ℕ) (width c : ℕ) (g : Grid) (os : List ℕ) (k : Option Datum) →
      s.values source.0 ≡ Cells width g → sizes_in s.values offsets ≡ os → scalar_in s.values padding ≡ c → optional_value s.values mask ≡ k →
      kind_meaning (TransferRead source offsets padding mask m) ((v, Vector lanes width) ∷ []) s ≡ Goes (after s v (Cells width (read_of g os c k m lanes)))
  unfolding kind_meaning
  read_means source offsets padding mask m lanes width c g os k is at_offsets at_padding at_mask =
      λ j. Goes (after s v (Cells (width_of (is j)) (read_of (grid_of (is j)) (at_offsets j) (at_padding j) (at_mask j) m lanes)))

  pub write_means : (value dest : ValueId) (offsets : List ValueId) (mask : Option ValueId) (m : MapShape) (width w : ℕ) (x g : Grid) (os : List ℕ) (k : Option Datum) →
      s.values value.0 ≡ Cells w x → s.values dest.0 ≡ Cells width g → sizes_in s.values offsets ≡ os → optional_value s.values mask ≡ k →
      kind_meaning (TransferWrite value dest offsets mask m) ((v, ty) ∷ []) s ≡ Goes (after s v (Cells width (write_of x os k m g)))
  unfolding kind_meaning
  write_means value dest offsets mask m width w x g os k at_value is at_offsets at_mask =
      λ j. Goes (after s v (Cells (width_of (is j)) (write_of (grid_of (at_value j)) (at_offsets j) (at_mask j) m (grid_of (is j)))))

  pub lanes_mean : (op : StepOp) (args : List ValueId) (lanes : List ℕ) (width : ℕ) (ds : List Datum) (d : Datum) → values_in s.values args ≡ ds → elementwise_result op ds width lanes ≡ Some d →
      kind_meaning (Elementwise op args) ((v, Vector lanes width) ∷ []) s ≡ Goes (after s v d)
  unfolding kind_meaning
  lanes_mean op args lanes width ds d are is = (λ j. made ((v, Vector lanes width) ∷ []) s (elementwise_result op (are j) width lanes)) ∙ ap (made ((v, Vector lanes width) ∷ []) s) is

  pub reduction_means : (kind : Combiner) (source acc : ValueId) (dims : List ℕ) (w width : ℕ) (x a : Grid) → s.values source.0 ≡ Cells w x → s.values acc.0 ≡ Cells width a →
      kind_meaning (MultiReduction kind source acc dims) ((v, ty) ∷ []) s ≡ Goes (after s v (Cells width (reduction_of kind width x a dims)))
  unfolding kind_meaning
  reduction_means kind source acc dims w width x a is at_acc =
      λ j. Goes (after s v (Cells (width_of (at_acc j)) (reduction_of kind (width_of (at_acc j)) (grid_of (is j)) (grid_of (at_acc j)) dims)))
