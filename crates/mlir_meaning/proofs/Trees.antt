-- What a loop reads and defines, by its body as a list of operations.
use Rattle.std.proofs.Common.{◌≡◌, ℕ, Bool, List, refl, ap, ◌∙◌}
use mathlib.Core.Former.{Count}
use Rattle.mlir_ir.specs.declared.tree.Op.{Op}
use Rattle.mlir_ir.specs.declared.tree.OpKind.{Row_of-Op, end_of-Op, more_of-Op, items-the_row-Op, items_hidden-the_row-Op-0}
use Rattle.mlir_meaning.specs.Grids.{Each}
use Rattle.mlir_meaning.specs.Loops.{ForHead, ForallHead, arguments}
use Rattle.mlir_meaning.specs.Names.{AreIn, ReadsOnly, RowReadsOnly, OpsReadOnly, DefinesOnly, RowDefinesOnly, OpsDefineOnly}
use Rattle.mlir_meaning.specs.Replacement.{for_operands, forall_operands}
use Rattle.mlir_meaning.specs.States.{names_of}
use Rattle.mlir_meaning.proofs.Bodies.{row_of, for_kind, forall_kind}

module _ (N : ℕ → Bool) where
  row_reads-is : (n : Count) (row : Row_of-Op n) → RowReadsOnly N row ≡ OpsReadOnly N (items-the_row-Op n row)
  unfolding ReadsOnly
  row_reads-is n end_of-Op = refl
  row_reads-is n (more_of-Op id rs kind rest) = λ j. ReadsOnly N kind × row_reads-is _ rest j

  pub reads-for : (h : ForHead) (body : List Op) → ReadsOnly N (for_kind h body) ≡ (AreIn N (for_operands h) × OpsReadOnly N body)
  unfolding ReadsOnly
  reads-for h body =
      let row = row_of (for_kind h body) in
      λ j. AreIn N (for_operands h) × (row_reads-is row.0 row.1 ∙ ap (OpsReadOnly N) (items_hidden-the_row-Op-0 body)) j

  pub reads-forall : (h : ForallHead) (body : List Op) → ReadsOnly N (forall_kind h body) ≡ (AreIn N (forall_operands h) × OpsReadOnly N body)
  unfolding ReadsOnly
  reads-forall h body =
      let row = row_of (forall_kind h body) in
      λ j. AreIn N (forall_operands h) × (row_reads-is row.0 row.1 ∙ ap (OpsReadOnly N) (items_hidden-the_row-Op-0 body)) j

module _ (D : ℕ → Type 0) where
  row_defines-is : (n : Count) (row : Row_of-Op n) → RowDefinesOnly D row ≡ OpsDefineOnly D (items-the_row-Op n row)
  unfolding DefinesOnly
  row_defines-is n end_of-Op = refl
  row_defines-is n (more_of-Op id rs kind rest) = λ j. (Each (λ v. D v.0) (names_of rs) × DefinesOnly D kind) × row_defines-is _ rest j

  pub defines-for : (h : ForHead) (body : List Op) → DefinesOnly D (for_kind h body) ≡ (D h.var.0 × Each (λ v. D v.0) (arguments h.carried) × OpsDefineOnly D body)
  unfolding DefinesOnly
  defines-for h body =
      let row = row_of (for_kind h body) in
      λ j. D h.var.0 × Each (λ v. D v.0) (arguments h.carried) × (row_defines-is row.0 row.1 ∙ ap (OpsDefineOnly D) (items_hidden-the_row-Op-0 body)) j

  pub defines-forall : (h : ForallHead) (body : List Op) →
      DefinesOnly D (forall_kind h body) ≡ (Each (λ v. D v.0) h.vars × Each (λ v. D v.0) (arguments h.shared) × OpsDefineOnly D body)
  unfolding DefinesOnly
  defines-forall h body =
      let row = row_of (forall_kind h body) in
      λ j. Each (λ v. D v.0) h.vars × Each (λ v. D v.0) (arguments h.shared) × (row_defines-is row.0 row.1 ∙ ap (OpsDefineOnly D) (items_hidden-the_row-Op-0 body)) j
