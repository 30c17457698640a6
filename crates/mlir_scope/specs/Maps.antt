-- The maps of a file: aliases in scope, and maps as they are written (MLIR LangRef, "Attribute Value Aliases"; Affine dialect, "Affine Maps").
use Rattle.std.specs.Prelude.{ℕ, Bool, true, false, not, ◌&&◌, List, [], ◌∷◌, ◌++◌, map, codes, Result, Ok, Err, Option, Some, None, if◌then◌else◌, is_none, refl}
use Rattle.std.specs.Str.{bytes_eq}
use Rattle.std.specs.Coded.{Coded, code_by, coded×, coded_ℕ, coded_list, coded_bool}
use Rattle.std.specs.List.{AllByRecursion}
use Rattle.affine_maps.specs.Shape.{MapShape, map_code}
use Rattle.affine_maps.specs.Map.{IsMap}
use Rattle.affine_text.specs.declared.reading.fault.MapError.{MapError}
use Rattle.affine_text.specs.declared.reading.fault.MapError.TheVariants as errors
use Rattle.affine_text.specs.Grammar.{Items, Empty, From, Declared, Symbols}
use Rattle.affine_text.specs.OfTokens.{map_of_tokens}
use Rattle.text_format.specs.declared.front.Kind.TheVariants as kinds
use Rattle.text_format.specs.Classes.{is_kind}
use Rattle.text_format.specs.Token.{TokenShape}
use Rattle.mlir_syntax.specs.declared.tree.maps.WrittenMap.{WrittenMap}
use Rattle.mlir_syntax.specs.declared.tree.maps.MapUse.{MapUse}
use Rattle.mlir_syntax.specs.declared.tree.maps.MapUse.TheVariants as uses
use Rattle.mlir_syntax.specs.declared.tree.files.AliasLine.{AliasLine}
use Rattle.mlir_lex.specs.declared.fault.Fault.{Fault}
use Rattle.mlir_lex.specs.declared.fault.Fault.TheVariants.{Syntax, Unsupported, UnknownName, Twice, Number}
use Rattle.mlir_lex.specs.Chain.{and_then, demand}

-- ---- written maps

-- the tokens of a written map, from affine_map to its >
abbrev pub tokens_of : WrittenMap → List TokenShape
tokens_of m = m.keyword ∷ m.less ∷ (map (λ p. p.token) m.tokens ++ m.greater ∷ [])

-- a fault of a map's text, at its token: there is none for want of memory
abbrev pub map_fault : MapError → Fault
map_fault (errors.BadText at) = Syntax at
map_fault (errors.Form at) = Unsupported at
map_fault (errors.Range at) = Number at at
map_fault errors.Memory = Syntax 0

abbrev pub map_or_fault : Result MapShape MapError → Result MapShape Fault
map_or_fault (Ok m) = Ok m
map_or_fault (Err e) = Err (map_fault e)

-- the map that the tokens spell, with symbols where they are allowed
abbrev pub written_map : Bool → WrittenMap → Result MapShape Fault
written_map symbols m = map_or_fault (map_of_tokens symbols (tokens_of m))

abbrev pub is_mark : List ℕ → TokenShape → Bool
is_mark text t = is_kind kinds.Mark t.kind && bytes_eq t.text text

-- behind an opening bracket stands a symbol
abbrev pub symbols_behind : Bool → List TokenShape → Bool
symbols_behind b [] = false
symbols_behind true (t ∷ ts) = not (is_mark (codes "]") t)
symbols_behind false (t ∷ ts) = symbols_behind (is_mark (codes "[") t) ts

-- a map of these tokens has symbols
abbrev pub has_symbols : List TokenShape → Bool
has_symbols ts = symbols_behind false ts

abbrev pub are_some : Items Declared → Bool
are_some Empty = false
are_some (From d ds) = true

-- the symbols of a map's tree
abbrev pub symbols_in : Option Symbols → Bool
symbols_in None = false
symbols_in (Some s) = are_some s.names

-- ---- aliases in scope: a list, to which a new alias is appended

pub record AliasShape : Type 0 where
  pub name : List ℕ
  pub map : MapShape
  pub symbols : Bool

abbrev pub alias_code : Coded AliasShape
alias_code = code_by (List ℕ × (MapShape × Bool)) (coded× (coded_list coded_ℕ) (coded× map_code coded_bool)) (λ a. (a.name, (a.map, a.symbols))) (λ p. record { name = p.0; map = p.1.0; symbols = p.1.1 }) (λ _. refl)

-- the first alias of the name
abbrev pub aliased : List AliasShape → List ℕ → Option AliasShape
aliased [] name = None
aliased (a ∷ entries) name = if bytes_eq a.name name then Some a else aliased entries name

-- each map keeps the rule on maps
abbrev pub AreMaps : List AliasShape → Type 0
AreMaps entries = AllByRecursion (λ a. IsMap a.map) entries

abbrev pub names_of : List AliasShape → List (List ℕ)
names_of entries = map (λ a. a.name) entries

-- the alias that a line defines, whose name none of these has
abbrev pub alias_in : List AliasShape → AliasLine → Result AliasShape Fault
alias_in aliases a =
    and_then (demand (is_none (aliased aliases a.name.text)) (Twice a.name.start)) (λ _. and_then (written_map true a.map) (λ m.
    Ok (record { name = a.name.text; map = m; symbols = has_symbols (tokens_of a.map) })))

-- ---- uses

-- the map of an alias that is used at a place, if it has no symbols
abbrev pub alias_map : ℕ → Option AliasShape → Result MapShape Fault
alias_map at None = Err (UnknownName at)
alias_map at (Some a) = and_then (demand (not a.symbols) (Unsupported at)) (λ _. Ok a.map)

-- the map of an alias in scope, or a written one; a map without symbols
abbrev pub map_of : List AliasShape → MapUse → Result MapShape Fault
map_of aliases (uses.Alias t) = alias_map t.start (aliased aliases t.text)
map_of aliases (uses.Written m) = written_map false m

-- the map of an alias that is used where maps may have symbols
abbrev pub alias_map_with_symbols : ℕ → Option AliasShape → Result MapShape Fault
alias_map_with_symbols at None = Err (UnknownName at)
alias_map_with_symbols at (Some a) = Ok a.map

-- the map of an alias in scope, or a written one; its symbols are its last dimensions
abbrev pub map_with_symbols : List AliasShape → MapUse → Result MapShape Fault
map_with_symbols aliases (uses.Alias t) = alias_map_with_symbols t.start (aliased aliases t.text)
map_with_symbols aliases (uses.Written m) = written_map true m

-- where a use begins
abbrev pub use_start : MapUse → ℕ
use_start (uses.Alias t) = t.start
use_start (uses.Written m) = m.keyword.start
