use Rattle.std.proofs.Common.{◌≡◌, ◌≤◌, drop}
use Rattle.text_format.specs.Types.{least_extent, number_at}
use Rattle.text_format.proofs.types.number_at.Given as goal

abbrev pub invariant-loop-i : goal.invariant-loop-i
invariant-loop-i l =
    (least_extent (number_at (drop l.i l.bytes) l.number).0 ≡ least_extent (number_at l.fn.bytes 0).0) × ((number_at (drop l.i l.bytes) l.number).1 ≡ (number_at l.fn.bytes 0).1) × (l.number ≤ 1048577)
