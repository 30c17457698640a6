use Rattle.std.proofs.Common.{◌≡◌, ◌≤◌, ◌+◌, ◌-◌, length}
use Rattle.std.specs.Io.KnownBytes.{Consumes}
use Rattle.mlir_streams.proofs.reading.read_whole.Given as goal

-- what was read so far is what the shelf no longer has left
abbrev pub invariant-loop-text : goal.invariant-loop-text
invariant-loop-text g l = record {
  so_far : Consumes (g.S.Shelf.left l.fn.shelf) (g.S.Shelf.left l.shelf) l.text.items;
  within : length l.text.items ≤ l.limit + 1;
  same_files : g.S.Shelf.files l.shelf ≡ g.S.Shelf.files l.fn.shelf;
  no_fault : g.S.Shelf.faults l.shelf ≡ g.S.Shelf.faults l.fn.shelf;
  same_opens : g.S.Shelf.opens l.shelf ≡ g.S.Shelf.opens l.fn.shelf;
  absences_later : g.S.Shelf.absences l.fn.shelf ≤ g.S.Shelf.absences l.shelf;
}

abbrev pub decreases-loop-text : goal.decreases-loop-text
decreases-loop-text g l = l.limit + 1 - length l.text.items
