-- The maps that operations use, each by its alias.
use Rattle.std.proofs.Common.{◌≡◌, subst, ℕ, Bool, true, false, not, List, [], ◌∷◌, map, Option, Some, None, Ok, refl, cond}
use Rattle.std.specs.List.{AllByRecursion}
use Rattle.std.specs.Str.{bytes_eq}
use Rattle.affine_maps.specs.Shape.{MapShape}
use Rattle.affine_maps.specs.Map.{IsMap}
use Rattle.mlir_ir.specs.declared.tree.Op.{Op}
use Rattle.text_format.specs.declared.class.Class.TheVariants as classes
use Rattle.text_format.specs.declared.front.Kind.TheVariants.{Alias}
use Rattle.text_format.proofs.Spacing.{IsName, none_apart, none_opens, leaf_name}
use Rattle.mlir_syntax.specs.declared.tree.maps.MapUse.{MapUse}
use Rattle.mlir_syntax.specs.declared.tree.maps.MapUse.TheVariants as uses
use Rattle.mlir_syntax.specs.Maps as map_grammar
use Rattle.mlir_lex.specs.declared.fault.Fault.TheVariants.{Unsupported}
use Rattle.mlir_lex.specs.Chain.{demand, each}
use Rattle.mlir_scope.specs.Maps.{AliasShape, aliased, AreMaps, alias_map, map_of, tokens_of}
use Rattle.mlir_scope.proofs.Keeps.{then_ok}
use Rattle.mlir_scope.proofs.MapsFit.{read_is_map}
use Rattle.mlir_print.specs.Maps.{use_at, alias_of, maps_used}
use Rattle.mlir_roundtrip.specs.Maps.{ArePrintableMaps, HaveAliases, OpsHaveAliases, rows}
use Rattle.mlir_roundtrip.proofs.Aliases.{MapRead, alias_found}
use Rattle.text_format.proofs.Written.{IsWritten, AreWritten}
use Rattle.text_format.proofs.Written.{AreFit}
use Rattle.mlir_roundtrip.proofs.Placing.{AreApart}
use Rattle.mlir_roundtrip.proofs.ReadTypes.{ok_same}
use Rattle.mlir_roundtrip.proofs.Regions.{Laid}

-- ---- spelled, of their class, and well spaced

pub use-w : (al : List MapShape) (m : MapShape) → IsWritten map_grammar.map_use (use_at al m)
unfolding map_grammar.map_use
use-w al m = record { law = λ at. refl }

pub uses-w : (al ms : List MapShape) → AreWritten map_grammar.map_use (map (use_at al) ms)
uses-w al [] = tt
uses-w al (m ∷ ms) = (use-w al m, uses-w al ms)

pub uses_fit : (al ms : List MapShape) → AreFit (map (use_at al) ms)
uses_fit al [] = tt
uses_fit al (m ∷ ms) = ((refl, tt), uses_fit al ms)

abbrev pub AreNamed : List MapShape → List MapShape → Type 0
AreNamed al ms = AllByRecursion (λ m. IsName Alias (alias_of al m)) ms

pub uses_apart : (al ms : List MapShape) → AreNamed al ms → AreApart (map (use_at al) ms)
uses_apart al [] a = tt
uses_apart al (m ∷ ms) a = (leaf_name classes.Alias a.0 none_opens none_apart, uses_apart al ms a.1)

-- ---- read

-- the aliases stand for these maps
abbrev pub MapsRead : List AliasShape → List MapShape → List MapShape → Type 0
MapsRead alias al ms = AllByRecursion (MapRead alias al) ms

pub maps_read : (al ms : List MapShape) → HaveAliases al ms → ArePrintableMaps al → ArePrintableMaps ms → MapsRead (rows 0 al) al ms
maps_read al [] h a p = tt
maps_read al (m ∷ ms) h a p = (alias_found al m h.0 a p.0, maps_read al ms h.1 a p.1)

-- so their uses read back
pub uses_read : (alias : List AliasShape) (al ms : List MapShape) → MapsRead alias al ms → (us : List MapUse) → Laid (map (use_at al) ms) us → each (map_of alias) us ≡ Ok ms
uses_read alias al [] r [] l = refl
uses_read alias al [] r (u ∷ us) l = absurd l
uses_read alias al (m ∷ ms) r [] l = absurd l
uses_read alias al (m ∷ ms) r (u ∷ us) l = rw (l.0.1, r.0.1, uses_read alias al ms r.1 us l.1) refl

-- the maps of all operations read back
abbrev pub AllRead : List AliasShape → List MapShape → List Op → Type 0
AllRead alias al os = AllByRecursion (λ o. MapsRead alias al (maps_used o.kind)) os

abbrev pub ArePrintableUses : List Op → Type 0
ArePrintableUses os = AllByRecursion (λ o. ArePrintableMaps (maps_used o.kind)) os

pub all_read : (al : List MapShape) (os : List Op) → OpsHaveAliases al os → ArePrintableMaps al → ArePrintableUses os → AllRead (rows 0 al) al os
all_read al [] h a p = tt
all_read al (o ∷ os) h a p = (maps_read al (maps_used o.kind) h.0 a p.0, all_read al os h.1 a p.1)

-- ---- what is read

abbrev IsUsable : Option AliasShape → Type 0
IsUsable None = Unit {0}
IsUsable (Some a) = IsMap a.map

usable_if : (b : Bool) (a : AliasShape) (o : Option AliasShape) → IsMap a.map → IsUsable o → IsUsable (cond b (Some a) o)
usable_if true a o p q = p
usable_if false a o p q = q

usable_alias : (aliases : List AliasShape) (name : List ℕ) → AreMaps aliases → IsUsable (aliased aliases name)
usable_alias [] name u = tt
usable_alias (a ∷ aliases) name u = usable_if (bytes_eq a.name name) a (aliased aliases name) u.0 (usable_alias aliases name u.1)

alias_printable : (at : ℕ) (o : Option AliasShape) (m : MapShape) → IsUsable o → alias_map at o ≡ Ok m → IsMap m
alias_printable at None m u h = absurd (cc h)
alias_printable at (Some a) m u h =
    let d = then_ok (demand (not a.symbols) (Unsupported at)) (λ _. Ok a.map) m h in
    subst (λ (x : MapShape). IsMap x) (ok_same a.map m d.2) u

map_printable : (aliases : List AliasShape) (u : MapUse) (m : MapShape) → AreMaps aliases → map_of aliases u ≡ Ok m → IsMap m
map_printable aliases (uses.Alias t) m a h = alias_printable t.start (aliased aliases t.text) m (usable_alias aliases t.text a) h
map_printable aliases (uses.Written w) m a h = read_is_map false (tokens_of w) m h

-- what uses of maps stand for
pub maps_are : (aliases : List AliasShape) (us : List MapUse) (ms : List MapShape) → AreMaps aliases → each (map_of aliases) us ≡ Ok ms → ArePrintableMaps ms
maps_are aliases [] ms a h = subst (λ (xs : List MapShape). ArePrintableMaps xs) (ok_same [] ms h) tt
maps_are aliases (u ∷ us) ms a h =
    let x = then_ok (map_of aliases u) _ ms h in
    let y = then_ok (each (map_of aliases) us) _ ms x.2 in
    subst (λ (xs : List MapShape). ArePrintableMaps xs) (ok_same (x.0 ∷ y.0) ms y.2) (map_printable aliases u x.0 a x.1, maps_are aliases us y.0 a y.1)
