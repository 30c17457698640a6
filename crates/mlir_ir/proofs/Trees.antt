-- What stands inside a loop, by its body as a list of operations.
use Rattle.std.proofs.Common.{◌==◌, ◌++◌, Some, ◌≡◌, ◌+◌, max, List, refl, ap, sym, ◌∙◌}
use Rattle.std.specs.Prelude.{if◌then◌else◌}
use Rattle.std.proofs.lemmas.List.Sums.{sum_by-cons, sum_by-append}
use mathlib.Core.Former.{Count}
use Rattle.mlir_ir.specs.Count.{count_inside, count_row, ops_count, first, find_inside, find_row, find_op, names, operands, uses_kind, uses_row, uses_op}
use Rattle.mlir_ir.specs.Depth.{levels_inside, levels_row, levels_of}
use Rattle.mlir_ir.specs.declared.tree.OpId.{OpId}
use Rattle.mlir_ir.specs.declared.tree.Op.{Op}
use Rattle.mlir_ir.specs.declared.tree.Ty.{Ty}
use Rattle.mlir_ir.specs.declared.tree.Idx.{Idx}
use Rattle.mlir_ir.specs.declared.tree.ValueId.{ValueId}
use Rattle.mlir_ir.specs.declared.tree.OpKind.{OpKind, For, For', Forall, Forall', Row_of-Op, end_of-Op, more_of-Op, items-the_row-Op, items_hidden-the_row-Op-0}

abbrev row_of : OpKind → (n : Count) × Row_of-Op n
row_of (For' i l u s c shape row) = (_, row)
row_of (Forall' i l u s c shape row) = (_, row)
row_of _ = (_, end_of-Op)

pub count_row-is : (n : Count) (row : Row_of-Op n) → count_row row ≡ ops_count (items-the_row-Op n row)
count_row-is n end_of-Op = refl
count_row-is n (more_of-Op id results kind rest) =
    ap (λ k. (1 + count_inside kind) + k) (count_row-is _ rest) ∙ sym (sum_by-cons (λ (o : Op). 1 + count_inside o.kind) (record { id = id; results = results; kind = kind }) (items-the_row-Op _ rest))

pub count-For : (i l u s : ValueId) (c : List (ValueId × Ty × ValueId)) (body : List Op) → count_inside (For i l u s c body) ≡ ops_count body
count-For i l u s c body = let row = row_of (For i l u s c body) in count_row-is row.0 row.1 ∙ ap ops_count (items_hidden-the_row-Op-0 body)

pub count-Forall : (vs : List ValueId) (l u s : List Idx) (c : List (ValueId × Ty × ValueId)) (body : List Op) → count_inside (Forall vs l u s c body) ≡ ops_count body
count-Forall vs l u s c body = let row = row_of (Forall vs l u s c body) in count_row-is row.0 row.1 ∙ ap ops_count (items_hidden-the_row-Op-0 body)

pub levels_row-is : (n : Count) (row : Row_of-Op n) → levels_row row ≡ levels_of (items-the_row-Op n row)
levels_row-is n end_of-Op = refl
levels_row-is n (more_of-Op id results kind rest) = ap (λ k. max (1 + levels_inside kind) k) (levels_row-is _ rest)

pub levels-For : (i l u s : ValueId) (c : List (ValueId × Ty × ValueId)) (body : List Op) → levels_inside (For i l u s c body) ≡ levels_of body
levels-For i l u s c body = let row = row_of (For i l u s c body) in levels_row-is row.0 row.1 ∙ ap levels_of (items_hidden-the_row-Op-0 body)

pub levels-Forall : (vs : List ValueId) (l u s : List Idx) (c : List (ValueId × Ty × ValueId)) (body : List Op) → levels_inside (Forall vs l u s c body) ≡ levels_of body
levels-Forall vs l u s c body = let row = row_of (Forall vs l u s c body) in levels_row-is row.0 row.1 ∙ ap levels_of (items_hidden-the_row-Op-0 body)

pub find_row-is : (i : OpId) (n : Count) (row : Row_of-Op n) → find_row i row ≡ find_op i (items-the_row-Op n row)
find_row-is i n end_of-Op = refl
find_row-is i n (more_of-Op id results kind rest) =
    ap (λ k. if id.0 == i.0 then Some (record { id = id; results = results; kind = kind }) else first (find_inside i kind) k) (find_row-is i _ rest)

pub find-For : (id : OpId) (i l u s : ValueId) (c : List (ValueId × Ty × ValueId)) (body : List Op) → find_inside id (For i l u s c body) ≡ find_op id body
find-For id i l u s c body = let row = row_of (For i l u s c body) in find_row-is id row.0 row.1 ∙ ap (find_op id) (items_hidden-the_row-Op-0 body)

pub find-Forall : (id : OpId) (vs : List ValueId) (l u s : List Idx) (c : List (ValueId × Ty × ValueId)) (body : List Op) → find_inside id (Forall vs l u s c body) ≡ find_op id body
find-Forall id vs l u s c body = let row = row_of (Forall vs l u s c body) in find_row-is id row.0 row.1 ∙ ap (find_op id) (items_hidden-the_row-Op-0 body)

pub uses_row-is : (v : ValueId) (n : Count) (row : Row_of-Op n) → uses_row v row ≡ uses_op v (items-the_row-Op n row)
uses_row-is v n end_of-Op = refl
uses_row-is v n (more_of-Op id results kind rest) =
    ap (λ k. uses_kind v kind + k) (uses_row-is v _ rest) ∙ sym (sum_by-cons (λ (o : Op). uses_kind v o.kind) (record { id = id; results = results; kind = kind }) (items-the_row-Op _ rest))

pub uses-For : (v : ValueId) (i l u s : ValueId) (c : List (ValueId × Ty × ValueId)) (body : List Op) →
    uses_kind v (For i l u s c body) ≡ names v (operands (For i l u s c body)) + uses_op v body
uses-For v i l u s c body = let row = row_of (For i l u s c body) in ap (λ k. names v (operands (For i l u s c body)) + k) (uses_row-is v row.0 row.1 ∙ ap (uses_op v) (items_hidden-the_row-Op-0 body))

pub uses-Forall : (v : ValueId) (vs : List ValueId) (l u s : List Idx) (c : List (ValueId × Ty × ValueId)) (body : List Op) →
    uses_kind v (Forall vs l u s c body) ≡ names v (operands (Forall vs l u s c body)) + uses_op v body
uses-Forall v vs l u s c body = let row = row_of (Forall vs l u s c body) in ap (λ k. names v (operands (Forall vs l u s c body)) + k) (uses_row-is v row.0 row.1 ∙ ap (uses_op v) (items_hidden-the_row-Op-0 body))

pub names-append : (v : ValueId) (xs ys : List ValueId) → names v (xs ++ ys) ≡ names v xs + names v ys
names-append v xs ys = sum_by-append _ xs ys
