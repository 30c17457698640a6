-- How often each value is used, by its number.
use Rattle.std.specs.Prelude.{ℕ}
use Rattle.std.specs.BTreeMap as tree
use Rattle.std.specs.Map.{count_at}
use Rattle.std.specs.Ordering.{nat_cmp}
use Rattle.use_counts.specs.declared.counts.UseCounts.{UseCounts}

abbrev pub count_in : UseCounts → ℕ → ℕ
count_in s = count_at (tree.get nat_cmp s.counts)
