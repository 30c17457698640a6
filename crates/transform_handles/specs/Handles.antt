-- Handles, which of them are live, and how they die (Transform manual, "Handle invalidation").
use Rattle.std.specs.Prelude.{ℕ, ◌==◌, Bool, List, [], ◌∷◌, ◌++◌, map, Option, Some, None, if◌then◌else◌}
use Rattle.std.specs.List.{list_any}
use Rattle.mlir_ir.specs.Count.{first}
use Rattle.mlir_ir.specs.Shape.{FuncShape}
use Rattle.transform_handles.specs.declared.target.Target.{Target}
use Rattle.transform_handles.specs.Targets.{is_one_of}
use Rattle.transform_handles.specs.Items.{inside}

-- a handle that was defined, by its number, and what it names; None once it is dead
abbrev pub Row : Type 0
Row = ℕ × Option (List Target)

abbrev pub row_if : Bool → Row → Option Row
row_if b r = if b then Some r else None

-- the last definition of a handle
abbrev pub row_of : List Row → ℕ → Option Row
row_of [] h = None
row_of (r ∷ rs) h = first (row_of rs h) (row_if (r.0 == h) r)

abbrev pub targets_in : Option Row → Option (List Target)
targets_in None = None
targets_in (Some r) = r.1

-- what a handle names; None where it isn't known or is dead
abbrev pub named : List Row → ℕ → Option (List Target)
named rows h = targets_in (row_of rows h)

abbrev pub kept : (Target → Bool) → Option (List Target) → Option (List Target)
kept gone None = None
kept gone (Some ts) = if list_any gone ts then None else Some ts

-- a handle dies where it names what is gone
abbrev pub left : (Target → Bool) → Row → Row
left gone r = (r.0, kept gone r.1)

-- consuming targets kills each handle that names one of them, or anything inside one
unfoldable pub consumed : List Target → List FuncShape → List Row → List Row
consumed ts fs rows = map (left (λ t. is_one_of t (ts ++ inside ts fs))) rows
