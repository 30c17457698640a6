use Rattle.std.proofs.Common.{◌≡◌, ◌≤◌, ◌+◌, take}
use Rattle.mlir_opt.specs.Places.{line_after, column_after}
use Rattle.mlir_opt.proofs.place.place_after.Given as goal

abbrev pub invariant-loop-byte : goal.invariant-loop-byte
invariant-loop-byte l = record {
  line : l.line ≡ line_after (take l.byte-index l.bytes);
  column : l.column ≡ column_after (take l.byte-index l.bytes);
  line_fits : l.line ≤ l.byte-index + 1;
  column_fits : l.column ≤ l.byte-index + 1;
}
