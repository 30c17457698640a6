-- Why the write of a sink refuses, and when its count of faults rises.
use Rattle.std.specs.Prelude.{◌≡◌, ℕ, zero, suc, List, [], ◌∷◌, Ok, Err, Result}
use Rattle.mlir_streams.specs.Causes.{Rose}
use Rattle.mlir_streams.specs.declared.sink.WriteError.{WriteError}
use Rattle.mlir_streams.specs.declared.sink.WriteError.TheVariants.{Failed, Memory}

-- A write failed only where the count of faults rose. The write of no byte of a piece that isn't empty raises it too,
-- and with any other answer it stays.
abbrev pub WriteCause : ℕ → ℕ → List ℕ → Result ℕ WriteError → Type 0
WriteCause before now [] (Ok _) = now ≡ before
WriteCause before now (byte ∷ bytes) (Ok zero) = Rose before now
WriteCause before now (byte ∷ bytes) (Ok (suc n)) = now ≡ before
WriteCause before now bytes (Err Failed) = Rose before now
WriteCause before now bytes (Err Memory) = now ≡ before
