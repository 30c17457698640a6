-- Payloads inside a loop, by its body as a list of operations.
use Rattle.std.proofs.Common.{◌≡◌, Bool, List, refl, ap, ◌∙◌}
use Rattle.std.specs.Prelude.{◌||◌}
use Rattle.std.specs.List.{list_any}
use mathlib.Core.Former.{Count}
use Rattle.mlir_ir.specs.declared.tree.Op.{Op}
use Rattle.mlir_ir.specs.declared.tree.Ty.{Ty}
use Rattle.mlir_ir.specs.declared.tree.Idx.{Idx}
use Rattle.mlir_ir.specs.declared.tree.ValueId.{ValueId}
use Rattle.mlir_ir.specs.declared.tree.OpKind.{OpKind, For, For', Forall, Forall', Row_of-Op, end_of-Op, more_of-Op, items-the_row-Op, items_hidden-the_row-Op-0}
use Rattle.mlir_meaning.proofs.Bodies.{row_of}
use Rattle.rewrite_base.specs.Limits.{has_long_payload, has_long_row}

abbrev long_body : List Op → Bool
long_body = list_any (λ (o : Op). has_long_payload o.kind)

long_row-is : (n : Count) (row : Row_of-Op n) → has_long_row row ≡ long_body (items-the_row-Op n row)
long_row-is n end_of-Op = refl
long_row-is n (more_of-Op id results kind rest) = ap (λ b. has_long_payload kind || b) (long_row-is _ rest)

pub long-For : (i l u s : ValueId) (c : List (ValueId × Ty × ValueId)) (body : List Op) → has_long_payload (For i l u s c body) ≡ list_any (λ (o : Op). has_long_payload o.kind) body
long-For i l u s c body = let row = row_of (For i l u s c body) in long_row-is row.0 row.1 ∙ ap long_body (items_hidden-the_row-Op-0 body)

pub long-Forall : (vs : List ValueId) (l u s : List Idx) (c : List (ValueId × Ty × ValueId)) (body : List Op) →
    has_long_payload (Forall vs l u s c body) ≡ list_any (λ (o : Op). has_long_payload o.kind) body
long-Forall vs l u s c body = let row = row_of (Forall vs l u s c body) in long_row-is row.0 row.1 ∙ ap long_body (items_hidden-the_row-Op-0 body)
