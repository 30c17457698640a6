-- Bytes that are read in parts.
use Rattle.std.proofs.Common.{ℕ, ◌+◌, ◌≤◌, List, ◌++◌, length, Option, arith, length-append}
use Rattle.std.specs.Io.KnownBytes.{Consumes}
use Rattle.std.proofs.KnownBytes.{Consumes-trans}
use Rattle.mlir_streams.specs.Loops.{ConsumesAtMost}

-- first some bytes, and then at most as many as are left of the limit
pub taken_after : (old mid new : Option (List ℕ)) (bytes : List ℕ) (room most : ℕ) → Consumes old mid bytes → ConsumesAtMost room mid new → length bytes + room ≤ most → ConsumesAtMost most old new
taken_after old mid new bytes room most first more fits =
    (bytes ++ more.0, Consumes-trans old mid new bytes more.0 first more.1, omega (arith, length-append bytes more.0, more.2, fits))
