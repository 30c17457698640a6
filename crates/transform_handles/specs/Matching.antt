-- What the walk over a module's operations looks for and adds.
use Rattle.std.specs.Prelude.{◌≡◌, ℕ, Bool, true, List, ◌++◌, Option, Some, None, Result, Ok, Err, ⊤}
use Rattle.std.specs.List.{list_any}
use Rattle.mlir_base.specs.declared.memory.Memory.{Memory}
use Rattle.transform_handles.specs.declared.matching.Wanted.{Wanted}
use Rattle.transform_handles.specs.declared.name_set.NameSet.{NameSet}
use Rattle.transform_handles.specs.declared.target.Target.{Target}
use Rattle.transform_handles.specs.Names.{has_name}
use Rattle.transform_handles.specs.Targets.{has}
use Rattle.transform_handles.specs.Items.{Item, picked, is_listed}

abbrev pub names_by : Option NameSet → List ℕ → Bool
names_by None n = true
names_by (Some s) n = has_name s.names n

abbrev pub wants : Wanted → Item → Bool
wants w = is_listed (names_by w.names) (has w.targets)

abbrev pub Adds : Result (Unit {0}) Memory → List Target → List Target → List Target → Type 0
Adds (Ok x) old new ts = new ≡ old ++ ts
Adds (Err e) old new ts = ⊤

-- what is looked for was added, of the items that have these around them and are within a target or not
abbrev pub Lists : Result (Unit {0}) Memory → Wanted → Bool → List Target → List Target → (List Target → List Item) → Type 0
Lists r w within old new items = (around : List Target) → within ≡ list_any (has w.targets) around → Adds r old new (picked (wants w) (items around))
