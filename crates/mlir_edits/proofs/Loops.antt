-- A loop with its uses renamed, by its body as a list of operations.
use Rattle.std.proofs.Common.{◌≡◌, ℕ, List, [], ◌∷◌, refl, ap, sym, ◌∙◌}
use mathlib.Core.Former.{Count}
use Rattle.mlir_ir.specs.declared.tree.Op.{Op}
use Rattle.mlir_ir.specs.declared.tree.Ty.{Ty}
use Rattle.mlir_ir.specs.declared.tree.Idx.{Idx}
use Rattle.mlir_ir.specs.declared.tree.ValueId.{ValueId}
use Rattle.mlir_ir.specs.declared.tree.OpKind.{OpKind, For, For', Forall, Forall', Row_of-Op, end_of-Op, more_of-Op, items-the_row-Op, items_hidden-the_row-Op-0, items_shown-the_row-Op-0, roll-out-OpKind}
use Rattle.mlir_ir.specs.declared.tree.OpKind as kinds
use Rattle.mlir_meaning.specs.Renaming.{value, values, indices, arguments_renamed, renamed, renamed_row, renamed_op, renamed_ops}
use Rattle.mlir_meaning.proofs.Bodies.{row_of}

-- an operation whose body is given as a list
abbrev rebuilt : OpKind → OpKind
rebuilt (For' v l u s c shape row) = For v l u s c (items-the_row-Op _ row)
rebuilt (Forall' v l u s c shape row) = Forall v l u s c (items-the_row-Op _ row)
rebuilt kind = kind

rebuilt-is : (kind : OpKind) → rebuilt kind ≡ kind
unfolding kinds.roll-OpKind denote.Hole.Carrier.roll kinds.out-OpKind denote.Hole.Carrier.out
rebuilt-is (For' v l u s c shape row) = ap (λ (body : List Op). For v l u s c body) (sym (items_shown-the_row-Op-0 shape row)) ∙ roll-out-OpKind (For' v l u s c shape row)
rebuilt-is (Forall' v l u s c shape row) = ap (λ (body : List Op). Forall v l u s c body) (sym (items_shown-the_row-Op-0 shape row)) ∙ roll-out-OpKind (Forall' v l u s c shape row)
rebuilt-is kind = refl

module _ (f g h : ℕ → ℕ) where
  items_renamed : (n : Count) (row : Row_of-Op n) → items-the_row-Op n (renamed_row f g h row) ≡ renamed_ops f g h (items-the_row-Op n row)
  unfolding renamed
  items_renamed n end_of-Op = refl
  items_renamed n (more_of-Op id results kind rest) =
      ap (λ (os : List Op). renamed_op f g h (record { id = id; results = results; kind = kind }) ∷ os) (items_renamed _ rest)

  pub renamed-For : (v l u s : ValueId) (c : List (ValueId × Ty × ValueId)) (body : List Op) →
      renamed f g h (For v l u s c body) ≡ For (value h v) (value g l) (value g u) (value g s) (arguments_renamed f g h c) (renamed_ops f g h body)
  unfolding renamed
  renamed-For v l u s c body =
      let row = row_of (For v l u s c body) in
      sym (rebuilt-is (renamed f g h (For v l u s c body)))
      ∙ ap (λ (os : List Op). For (value h v) (value g l) (value g u) (value g s) (arguments_renamed f g h c) os)
      (items_renamed row.0 row.1 ∙ ap (renamed_ops f g h) (items_hidden-the_row-Op-0 body))

  pub renamed-Forall : (vs : List ValueId) (l u s : List Idx) (c : List (ValueId × Ty × ValueId)) (body : List Op) →
      renamed f g h (Forall vs l u s c body) ≡ Forall (values h vs) (indices g l) (indices g u) (indices g s) (arguments_renamed f g h c) (renamed_ops f g h body)
  unfolding renamed
  renamed-Forall vs l u s c body =
      let row = row_of (Forall vs l u s c body) in
      sym (rebuilt-is (renamed f g h (Forall vs l u s c body)))
      ∙ ap (λ (os : List Op). Forall (values h vs) (indices g l) (indices g u) (indices g s) (arguments_renamed f g h c) os)
      (items_renamed row.0 row.1 ∙ ap (renamed_ops f g h) (items_hidden-the_row-Op-0 body))
