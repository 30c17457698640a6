use Rattle.std.proofs.Common.{◌≡◌, [], ◌∷◌, ◌++◌, drop}
use Rattle.std.specs.Prelude.{option_to_list}
use Rattle.script_run.specs.Steps.{result_rows}
use Rattle.script_run.proofs.rows.one_row.Given as goal

abbrev pub invariant-loop-h : goal.invariant-loop-h
invariant-loop-h l = l.rows.items ++ result_rows (drop l.h-index l.results) (option_to_list l.given) ≡ result_rows l.results (l.fn.targets ∷ [])
