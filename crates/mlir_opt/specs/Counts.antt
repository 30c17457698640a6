-- The counts that a call of `mlir_opt` may raise.
use Rattle.std.specs.Prelude.{ℕ}
use Rattle.mlir_streams.specs.Causes.{Rose}

-- faults of the shelf, faults of `out`, and absent files of the shelf: each before the call, and after it
pub record Counts : Type 0 where
  pub read_faults : ℕ × ℕ
  pub write_faults : ℕ × ℕ
  pub absent_files : ℕ × ℕ

-- a count, before a call and after it, rose in the call
abbrev pub HasRisen : ℕ × ℕ → Type 0
HasRisen count = Rose count.0 count.1
