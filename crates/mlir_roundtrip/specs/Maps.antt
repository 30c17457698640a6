-- The maps that a text spells, and their aliases.
use Rattle.std.specs.Prelude.{◌≡◌, ℕ, ◌+◌, Bool, true, false, List, [], ◌∷◌}
use Rattle.std.specs.List.{AllByRecursion, list_any}
use Rattle.std.specs.Str.{bytes_eq}
use Rattle.affine_maps.specs.Shape.{MapShape}
use Rattle.affine_maps.specs.Map.{IsMap}
use Rattle.affine_text.specs.Text.{text_of_map}
use Rattle.mlir_ir.specs.declared.tree.Op.{Op}
use Rattle.mlir_ir.specs.Shape.{FuncShape}
use Rattle.mlir_read.specs.declared.files.FileScope.{FileScope}
use Rattle.mlir_scope.specs.Maps.{AliasShape}
use Rattle.mlir_print.specs.Maps.{alias_text, maps_used}

-- the maps that have a text
abbrev pub ArePrintableMaps : List MapShape → Type 0
ArePrintableMaps ms = AllByRecursion IsMap ms

-- ---- each map that is used has an alias

abbrev pub is_text_of : MapShape → MapShape → Bool
is_text_of m x = bytes_eq (text_of_map m) (text_of_map x)

abbrev pub HasAlias : List MapShape → MapShape → Type 0
HasAlias al m = list_any (is_text_of m) al ≡ true

abbrev pub HaveAliases : List MapShape → List MapShape → Type 0
HaveAliases al ms = AllByRecursion (HasAlias al) ms

abbrev pub OpsHaveAliases : List MapShape → List Op → Type 0
OpsHaveAliases al os = AllByRecursion (λ o. HaveAliases al (maps_used o.kind)) os

abbrev pub FuncsHaveAliases : List MapShape → List FuncShape → Type 0
FuncsHaveAliases al fs = AllByRecursion (λ f. OpsHaveAliases al f.body) fs

-- ---- what the aliases' lines stand for

abbrev pub row : ℕ → MapShape → AliasShape
row n m = record { name = alias_text n; map = m; symbols = false }

-- from number n on
abbrev pub rows : ℕ → List MapShape → List AliasShape
rows n [] = []
rows n (m ∷ ms) = row n m ∷ rows (n + 1) ms

abbrev pub with_aliases : FileScope → List AliasShape → FileScope
with_aliases s entries = record { stage = s.stage; aliases = entries; functions = s.functions; values = s.values; ops = s.ops; script = s.script }
