use Rattle.std.proofs.Common.{◌≡◌, drop}
use Rattle.std.specs.Prelude.{option_copied}
use Rattle.mlir_ir.specs.Count.{first}
use Rattle.transform_handles.specs.Handles.{row_of}
use Rattle.transform_handles.proofs.handles.last_row.Given as goal

abbrev pub invariant-loop-row : goal.invariant-loop-row
invariant-loop-row l = first (row_of (drop l.row-index l.rows) l.h) (option_copied l.found) ≡ row_of l.rows l.h
