-- The body of a loop, as a list of operations.
use Rattle.std.proofs.Common.{◌≡◌, List, refl, ap, ◌∙◌}
use mathlib.Core.Former.{Count}
use Rattle.mlir_meaning.specs.Loops.{ForHead, ForallHead, for_meaning, forall_meaning}
use Rattle.mlir_meaning.specs.Meaning.{kind_meaning, row_meaning, run}
use Rattle.mlir_meaning.specs.States.{then_goes}
use Rattle.mlir_ir.specs.declared.tree.Op.{Op}
use Rattle.mlir_ir.specs.declared.tree.OpKind.{OpKind, For, For', Forall, Forall', Row_of-Op, end_of-Op, more_of-Op, items-the_row-Op, items_hidden-the_row-Op-0}

-- the row in which a loop holds its body
abbrev pub row_of : OpKind → (n : Count) × Row_of-Op n
row_of (For' i l u s c shape row) = (_, row)
row_of (Forall' i l u s c shape row) = (_, row)
row_of _ = (_, end_of-Op)

abbrev pub for_kind : ForHead → List Op → OpKind
for_kind h body = For h.var h.lower h.upper h.step h.carried body

abbrev pub forall_kind : ForallHead → List Op → OpKind
forall_kind h body = Forall h.vars h.lower h.upper h.step h.shared body

row_meaning-is : (n : Count) (row : Row_of-Op n) → row_meaning row ≡ run (items-the_row-Op n row)
unfolding kind_meaning run
row_meaning-is n end_of-Op = refl
row_meaning-is n (more_of-Op id rs kind rest) = λ i. λ s. then_goes (kind_meaning kind rs s) (row_meaning-is _ rest i)

-- a `scf.for` and a `scf.forall` mean what their heads and the run of their bodies give
pub meaning-for : (h : ForHead) (body : List Op) → kind_meaning (for_kind h body) ≡ for_meaning h (run body)
unfolding kind_meaning run
meaning-for h body =
    let row = row_of (for_kind h body) in ap (for_meaning h) (row_meaning-is row.0 row.1 ∙ ap run (items_hidden-the_row-Op-0 body))

pub meaning-forall : (h : ForallHead) (body : List Op) → kind_meaning (forall_kind h body) ≡ forall_meaning h (run body)
unfolding kind_meaning run
meaning-forall h body =
    let row = row_of (forall_kind h body) in ap (forall_meaning h) (row_meaning-is row.0 row.1 ∙ ap run (items_hidden-the_row-Op-0 body))

-- the row of a loop's body runs as the body does
pub for_row-is : (h : ForHead) (body : List Op) → row_meaning (row_of (for_kind h body)).1 ≡ run body
unfolding kind_meaning run
for_row-is h body = let row = row_of (for_kind h body) in row_meaning-is row.0 row.1 ∙ ap run (items_hidden-the_row-Op-0 body)

pub forall_row-is : (h : ForallHead) (body : List Op) → row_meaning (row_of (forall_kind h body)).1 ≡ run body
unfolding kind_meaning run
forall_row-is h body = let row = row_of (forall_kind h body) in row_meaning-is row.0 row.1 ∙ ap run (items_hidden-the_row-Op-0 body)
