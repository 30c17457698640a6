-- The maps that are read keep the rule on maps.
use Rattle.std.proofs.Common.{◌≡◌, ℕ, Bool, true, false, cond, List, [], ◌∷◌, ◌++◌, Option, Some, None, Result, Ok, Err, refl, sym, ap, subst}
use Rattle.std.specs.Str.{bytes_eq}
use Rattle.affine_maps.specs.Shape.{MapShape}
use Rattle.affine_maps.specs.Map.{IsMap}
use Rattle.affine_text.specs.declared.reading.fault.MapError.{MapError}
use Rattle.affine_text.specs.declared.reading.fault.MapError.TheVariants.{BadText}
use Rattle.affine_text.specs.Meaning.{and_then as and_read}
use Rattle.affine_text.specs.Feeding.{ReaderShape, first_reader, is_whole, map_read}
use Rattle.affine_text.specs.OfTokens.{last_start, read_all, whole_map, map_of_tokens}
use Rattle.affine_text.proofs.Lists.{whole_is_map}
use Rattle.text_format.specs.Token.{TokenShape}
use Rattle.mlir_syntax.specs.declared.tree.maps.MapUse.{MapUse}
use Rattle.mlir_syntax.specs.declared.tree.maps.MapUse.TheVariants as uses
use Rattle.mlir_scope.specs.Maps.{tokens_of, map_or_fault, AliasShape, aliased, AreMaps, alias_map_with_symbols, map_with_symbols}
use Rattle.mlir_scope.proofs.Keeps.{ok_same}

abbrev got : MapShape → Result MapShape MapError → MapShape
got d (Ok m) = m
got d (Err e) = d

ok_map : (m o : MapShape) → ◌≡◌ {A = Result MapShape MapError} (Ok m) (Ok o) → m ≡ o
ok_map m o h = ap (got m) h

by_end : (b : Bool) (m o : MapShape) (e : MapError) → cond b (Ok m) (Err e) ≡ Ok o → (b ≡ true) × (m ≡ o)
by_end true m o e h = (refl, ok_map m o h)
by_end false m o e h = absurd (cc h)

tokens_map : (symbols : Bool) (ts : List TokenShape) (m : MapShape) → map_of_tokens symbols ts ≡ Ok m → IsMap m
unfolding map_of_tokens
tokens_map symbols ts m h = by (read_all ts (first_reader symbols)) refl h
  where
    by : (r : Result ReaderShape MapError) → read_all ts (first_reader symbols) ≡ r → and_read r (whole_map (last_start ts 0)) ≡ Ok m → IsMap m
    by (Ok r) e g =
        let k = by_end (is_whole r.spot.place) (map_read r) m (BadText (last_start ts 0)) g in
        subst (λ (x : MapShape). IsMap x) k.1 (whole_is_map symbols ts r (sym e) k.0)
    by (Err f) e g = absurd (cc g)

read_map : (r : Result MapShape MapError) (m : MapShape) → map_or_fault r ≡ Ok m → r ≡ Ok m
read_map (Ok x) m h = ap (λ (y : MapShape). Ok y) (ok_same x m h)
read_map (Err e) m h = absurd (cc h)

pub read_is_map : (symbols : Bool) (ts : List TokenShape) (m : MapShape) → map_or_fault (map_of_tokens symbols ts) ≡ Ok m → IsMap m
read_is_map symbols ts m h = tokens_map symbols ts m (read_map (map_of_tokens symbols ts) m h)

-- ---- aliases

pub maps_append : (entries : List AliasShape) (a : AliasShape) → AreMaps entries → IsMap a.map → AreMaps (entries ++ a ∷ [])
maps_append [] a h k = (k, tt)
maps_append (x ∷ entries) a h k = (h.0, maps_append entries a h.1 k)

found_if : (b : Bool) (x m : AliasShape) (o : Option AliasShape) → IsMap x.map → (o ≡ Some m → IsMap m.map) → cond b (Some x) o ≡ Some m → IsMap m.map
found_if true x m o h f g = let same : x ≡ m = cc g in subst (λ (n : AliasShape). IsMap n.map) same h
found_if false x m o h f g = f g

found_is_map : (entries : List AliasShape) (q : List ℕ) (m : AliasShape) → AreMaps entries → aliased entries q ≡ Some m → IsMap m.map
found_is_map [] q m h k = absurd (cc k)
found_is_map (x ∷ entries) q m h k = found_if (bytes_eq x.name q) x m (aliased entries q) h.0 (λ g. found_is_map entries q m h.1 g) k

named_is_map : (at : ℕ) (o : Option AliasShape) (m : MapShape) → ((a : AliasShape) → o ≡ Some a → IsMap a.map) → alias_map_with_symbols at o ≡ Ok m → IsMap m
named_is_map at None m f h = absurd (cc h)
named_is_map at (Some a) m f h = subst (λ (x : MapShape). IsMap x) (ok_same a.map m h) (f a refl)

-- a map that is used where it may have symbols
pub used_is_map : (aliases : List AliasShape) (u : MapUse) (m : MapShape) → AreMaps aliases → map_with_symbols aliases u ≡ Ok m → IsMap m
used_is_map aliases (uses.Alias t) m h g = named_is_map t.start (aliased aliases t.text) m (λ a e. found_is_map aliases t.text a h e) g
used_is_map aliases (uses.Written w) m h g = read_is_map true (tokens_of w) m g
