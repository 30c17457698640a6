use Rattle.std.proofs.Common.{◌≡◌, [], ◌∷◌, ◌++◌, map, drop}
use Rattle.script_run.specs.Steps.{result_rows}
use Rattle.script_run.proofs.rows.split_rows.Given as goal

abbrev pub invariant-loop-k : goal.invariant-loop-k
invariant-loop-k l = l.rows.items ++ result_rows (drop l.k l.results) (map (λ t. t ∷ []) (drop l.k l.targets)) ≡ result_rows l.results (map (λ t. t ∷ []) l.targets)
