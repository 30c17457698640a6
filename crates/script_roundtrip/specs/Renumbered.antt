-- A script with the numbers of its canonical text: handles are numbered 0, 1 and so on in the order in which it defines them.
use Rattle.std.specs.Prelude.{ℕ, List, [], ◌∷◌, ◌++◌, length, unwrap_or}
use Rattle.script_read.specs.declared.script.HandleId.{HandleId}
use Rattle.script_read.specs.declared.script.StepKind.{StepKind}
use Rattle.script_read.specs.declared.script.StepKind.TheVariants as kinds
use Rattle.script_read.specs.declared.script.Step.{Step}
use Rattle.script_read.specs.declared.script.Script.{Script}
use Rattle.script_read.specs.Scope.{handle_id}
use Rattle.script_read.specs.Resolve.{ids}
use Rattle.script_text.specs.declared.names.Row.{Row}
use Rattle.script_text.specs.Names.{spot, start, rows_of, next_of}

-- a handle's number; one that isn't defined has that of the root
abbrev pub number_in : List Row → HandleId → HandleId
number_in rows h = handle_id (unwrap_or (spot 0 rows h.0) 0)

abbrev pub kind_renumbered : (HandleId → HandleId) → StepKind → StepKind
kind_renumbered f (kinds.Match names h) = kinds.Match names (f h)
kind_renumbered f (kinds.Split h) = kinds.Split (f h)
kind_renumbered f (kinds.Generalize h) = kinds.Generalize (f h)
kind_renumbered f (kinds.Interchange h ns) = kinds.Interchange (f h) ns
kind_renumbered f (kinds.TileFor h ns) = kinds.TileFor (f h) ns
kind_renumbered f (kinds.TileForall h ns) = kinds.TileForall (f h) ns
kind_renumbered f (kinds.FuseInto p h) = kinds.FuseInto (f p) (f h)
kind_renumbered f (kinds.Pad h a) = kinds.Pad (f h) a
kind_renumbered f (kinds.Pack h ns) = kinds.Pack (f h) ns
kind_renumbered f (kinds.Vectorize h ns) = kinds.Vectorize (f h) ns
kind_renumbered f (kinds.FuseElementwise h) = kinds.FuseElementwise (f h)

abbrev pub step_renumbered : List Row → Step → Step
step_renumbered rows s = record { results = ids (length rows) (length s.results); kind = kind_renumbered (number_in rows) s.kind }

-- the steps behind these handles, where the next results have number n
abbrev pub steps_renumbered : List Row → ℕ → List Step → List Step
steps_renumbered rows n [] = []
steps_renumbered rows n (s ∷ ss) = step_renumbered rows s ∷ steps_renumbered (rows ++ rows_of n s.results) (next_of n s.results) ss

abbrev pub renumbered : Script → Script
renumbered s = record { root = handle_id 0; steps = steps_renumbered (start s.root) 0 s.steps }
