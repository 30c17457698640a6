-- The numbers that uses of values have, in code.
use Rattle.std.specs.Prelude.{ℕ, Option, Some, None}
use Rattle.std.specs.BTreeMap as tree
use Rattle.std.specs.Ordering.{nat_cmp}
use Rattle.step_passes.specs.declared.moves.NewNames.{NewNames}
use Rattle.step_passes.specs.OnePass.{Names}

abbrev pub or_own : Option ℕ → ℕ → ℕ
or_own (Some n) w = n
or_own None w = w

abbrev pub name_in : NewNames → Names
name_in s w = or_own (tree.get nat_cmp s.map w) w
