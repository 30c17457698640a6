-- The first fault of the parts of an operation.
use Rattle.std.specs.Prelude.{◌≡◌, ℕ, List, [], ◌∷◌, ◌++◌, ◌⊎◌, Err, Option, Some, None}
use Rattle.form_table.specs.declared.part.Entry as table
use Rattle.form_table.specs.declared.part.Entry.TheVariants as entries
use Rattle.form_table.specs.declared.part.Next.{Next}
use Rattle.form_table.specs.declared.part.Part.{Part}
use Rattle.form_table.specs.declared.part.Part.TheVariants as parts
use Rattle.form_table.specs.declared.want.Want.{Want}
use Rattle.form_resolve.specs.declared.value.Seen.{Seen}
use Rattle.mlir_lex.specs.declared.fault.Fault.{Fault}
use Rattle.mlir_lex.specs.Faults.{reach_of}
use Rattle.mlir_scope.specs.Names.{Entry}
use Rattle.mlir_scope.specs.Maps.{AliasShape}
use Rattle.form_resolve.specs.Entries.{misfit, entry_place}
use Rattle.form_resolve.specs.Resolving.{resolved}

-- ---- where a fault lies

-- the place is that of the entry; where a written map has its fault is told with the text of maps
abbrev pub IsAtEntry : ℕ → table.Entry → Type 0
IsAtEntry n (entries.Map m) = Unit {0}
IsAtEntry n e = n ≡ entry_place e

abbrev pub IsAtFirst : ℕ → Option table.Entry → Type 0
IsAtFirst n None = ⊥
IsAtFirst n (Some e) = IsAtEntry n e

-- that of one of the entries, or of the comma before it
abbrev pub IsAmong : ℕ → List Next → Type 0
IsAmong n [] = ⊥
IsAmong n (x ∷ xs) = (n ≡ x.comma.start) ⊎ (IsAtEntry n x.entry ⊎ IsAmong n xs)

-- that of a token of the part
abbrev pub IsWithin : ℕ → Part → Type 0
IsWithin n (parts.One e) = IsAtEntry n e
IsWithin n (parts.Listed o xs close) = IsAtFirst n o ⊎ (IsAmong n xs ⊎ (n ≡ close.start))
IsWithin n (parts.More xs) = IsAmong n xs
IsWithin n (parts.Dense ds) = ⊥
IsWithin n (parts.There b) = ⊥

-- ---- which fault is the first

-- It lies in a part, and stays whatever stands behind that part; those before it have none: without it, parts are wanted alone.
pub record IsFirstFault (aliases : List AliasShape) (env : List Entry) (ws : List Want) (k : ℕ) (s : Seen) (ps : List Part) (fault : Fault) : Type 0 where
  pub before : List Part
  pub part : Part
  pub behind : List Part
  pub parts_are : ps ≡ before ++ part ∷ behind
  pub none_before : resolved aliases env ws k s before ≡ Err misfit
  pub decided : (others : List Part) → resolved aliases env ws k s (before ++ part ∷ others) ≡ Err fault
  pub within : IsWithin (reach_of fault) part
