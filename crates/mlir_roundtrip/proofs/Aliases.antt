-- The aliases of a module: each map that is used has one, under a name of its own, whose line reads back.
use Rattle.std.proofs.Common.{◌≡◌, ◌<◌, ◌≤◌, ℕ, zero, suc, ◌+◌, Bool, true, false, cond, not, ◌||◌, List, [], ◌∷◌, ◌++◌, map, length, Option, Some, None, Result, Ok, Err, refl, sym, ap, subst, ◌∙◌, arith, append_assoc}
use Rattle.std.specs.Prelude.{position, unwrap_or}
use Rattle.std.specs.List.{AllByRecursion, list_any, position_or_len}
use Rattle.std.specs.Str.{bytes_eq}
use Rattle.std.proofs.lemmas.List.{append-nil}
use Rattle.std.proofs.lemmas.Bool.{lt-ltb}
use Rattle.std.proofs.lemmas.Slice.Eq.{bytes_eq-Decides}
use Rattle.text_format.specs.Numerals.{numeral}
use Rattle.text_format.proofs.Numerals.{numeral_some, numeral_injective}
use Rattle.affine_maps.specs.Shape.{MapShape}
use Rattle.affine_maps.specs.Map.{IsMap}
use Rattle.affine_text.specs.Text.{text_of_map}
use Rattle.affine_text.specs.Faults.{IsMapText, stream_of}
use Rattle.affine_text.proofs.OneReading.{map_and_map}
use Rattle.affine_text.proofs.ReadsBack.{reads_back}
use Rattle.mlir_ir.specs.declared.tree.Op.{Op}
use Rattle.mlir_ir.specs.Shape.{FuncShape}
use Rattle.text_format.specs.Pieces.{bytes_of}
use Rattle.mlir_syntax.specs.declared.tree.files.Item.{Item}
use Rattle.mlir_syntax.specs.declared.tree.files.Item.TheVariants as items
use Rattle.mlir_lex.specs.declared.fault.Fault.{Fault}
use Rattle.mlir_lex.specs.Chain.{and_then}
use Rattle.mlir_read.specs.declared.files.FileScope.{FileScope}
use Rattle.mlir_scope.specs.Maps.{AliasShape, aliased, alias_map, map_of}
use Rattle.mlir_read.specs.Resolve.{alias_of, joined, items_of}
use Rattle.mlir_print.specs.Maps.{alias_line_at, alias_lines_at, alias_text, alias_number, alias_of as text_of_alias, use_at, with_map, with_maps, with_ops, with_funcs, maps_used}
use Rattle.text_format.specs.Writers.{Writer, each_of, made}
use Rattle.mlir_roundtrip.specs.Maps.{ArePrintableMaps, is_text_of, HasAlias, HaveAliases, OpsHaveAliases, FuncsHaveAliases, row, rows, with_aliases}
use Rattle.mlir_roundtrip.proofs.Maps.{written_found, no_symbols}

-- ---- maps of one text are one

pub one_map : (m o : MapShape) → IsMap m → IsMap o → text_of_map m ≡ text_of_map o → m ≡ o
one_map m o p q e =
    let a = reads_back m [] true p in
    let b = reads_back o [] true q in
    (map_and_map true (stream_of (text_of_map m ++ [])) m o (length (text_of_map m)) (length (text_of_map o)) a
    (subst (λ (t : List ℕ). IsMapText true (stream_of (t ++ [])) o (length (text_of_map o))) (sym e) b)).0

-- ---- each map that is used has an alias

or_true : (b : Bool) → b || true ≡ true
or_true true = refl
or_true false = refl

any_more : (p : MapShape → Bool) (ms more : List MapShape) → list_any p ms ≡ true → list_any p (ms ++ more) ≡ true
any_more p [] more h = absurd (cc h)
any_more p (m ∷ ms) more h = by (p m) (any_more p ms more) h
  where
    by : (b : Bool) → (list_any p ms ≡ true → list_any p (ms ++ more) ≡ true) → b || list_any p ms ≡ true → b || list_any p (ms ++ more) ≡ true
    by true f k = refl
    by false f k = f k

any_last : (p : MapShape → Bool) (ms : List MapShape) (m : MapShape) → p m ≡ true → list_any p (ms ++ m ∷ []) ≡ true
any_last p [] m h = rw h refl
any_last p (x ∷ ms) m h = rw (any_last p ms m h) (or_true (p x))

kept_if : (b : Bool) (p : MapShape → Bool) (ms : List MapShape) (u : MapShape) → list_any p ms ≡ true → list_any p (cond b ms (ms ++ u ∷ [])) ≡ true
kept_if true p ms u h = h
kept_if false p ms u h = any_more p ms (u ∷ []) h

new_if : (b : Bool) (ms : List MapShape) (u : MapShape) → list_any (is_text_of u) ms ≡ b → list_any (is_text_of u) (cond b ms (ms ++ u ∷ [])) ≡ true
new_if true ms u h = h
new_if false ms u h = any_last (is_text_of u) ms u ((bytes_eq-Decides (text_of_map u) (text_of_map u)).1 refl)

map_keeps : (ms : List MapShape) (u m : MapShape) → HasAlias ms m → HasAlias (with_map ms u) m
map_keeps ms u m h = kept_if (list_any (is_text_of u) ms) (is_text_of m) ms u h

maps_keep : (ms us : List MapShape) (m : MapShape) → HasAlias ms m → HasAlias (with_maps ms us) m
maps_keep ms [] m h = h
maps_keep ms (u ∷ us) m h = maps_keep (with_map ms u) us m (map_keeps ms u m h)

ops_keep : (ms : List MapShape) (os : List Op) (m : MapShape) → HasAlias ms m → HasAlias (with_ops ms os) m
ops_keep ms [] m h = h
ops_keep ms (o ∷ os) m h = ops_keep (with_maps ms (maps_used o.kind)) os m (maps_keep ms (maps_used o.kind) m h)

funcs_keep : (ms : List MapShape) (fs : List FuncShape) (m : MapShape) → HasAlias ms m → HasAlias (with_funcs ms fs) m
funcs_keep ms [] m h = h
funcs_keep ms (f ∷ fs) m h = funcs_keep (with_ops ms f.body) fs m (ops_keep ms f.body m h)

-- what keeps each alias keeps those of a list
all_keep : (al more : List MapShape) → ((m : MapShape) → HasAlias al m → HasAlias more m) → (us : List MapShape) → HaveAliases al us → HaveAliases more us
all_keep al more k [] h = tt
all_keep al more k (u ∷ us) h = (k u h.0, all_keep al more k us h.1)

ops_all_keep : (al more : List MapShape) → ((m : MapShape) → HasAlias al m → HasAlias more m) → (os : List Op) → OpsHaveAliases al os → OpsHaveAliases more os
ops_all_keep al more k [] h = tt
ops_all_keep al more k (o ∷ os) h = (all_keep al more k (maps_used o.kind) h.0, ops_all_keep al more k os h.1)

maps_have : (ms us : List MapShape) → HaveAliases (with_maps ms us) us
maps_have ms [] = tt
maps_have ms (u ∷ us) = (maps_keep (with_map ms u) us u (new_if (list_any (is_text_of u) ms) ms u refl), maps_have (with_map ms u) us)

ops_have : (ms : List MapShape) (os : List Op) → OpsHaveAliases (with_ops ms os) os
ops_have ms [] = tt
ops_have ms (o ∷ os) = (all_keep (with_maps ms (maps_used o.kind)) (with_ops (with_maps ms (maps_used o.kind)) os) (ops_keep (with_maps ms (maps_used o.kind)) os) (maps_used o.kind) (maps_have ms (maps_used o.kind)), ops_have (with_maps ms (maps_used o.kind)) os)

-- each map that the functions use has an alias
pub funcs_have : (ms : List MapShape) (fs : List FuncShape) → FuncsHaveAliases (with_funcs ms fs) fs
funcs_have ms [] = tt
funcs_have ms (f ∷ fs) = (ops_all_keep (with_ops ms f.body) (with_funcs (with_ops ms f.body) fs) (funcs_keep (with_ops ms f.body) fs) f.body (ops_have ms f.body), funcs_have (with_ops ms f.body) fs)

-- ---- the maps that have aliases are those that are used

module _ (P : MapShape → Type 0) where
  abbrev pub All : List MapShape → Type 0
  All ms = AllByRecursion P ms

  abbrev pub OpsAll : List Op → Type 0
  OpsAll os = AllByRecursion (λ o. All (maps_used o.kind)) os

  abbrev pub FuncsAll : List FuncShape → Type 0
  FuncsAll fs = AllByRecursion (λ f. OpsAll f.body) fs

  all_last : (ms : List MapShape) (m : MapShape) → All ms → P m → All (ms ++ m ∷ [])
  all_last [] m a p = (p, tt)
  all_last (x ∷ ms) m a p = (a.0, all_last ms m a.1 p)

  all_if : (b : Bool) (ms : List MapShape) (m : MapShape) → All ms → P m → All (cond b ms (ms ++ m ∷ []))
  all_if true ms m a p = a
  all_if false ms m a p = all_last ms m a p

  maps_all : (ms us : List MapShape) → All ms → All us → All (with_maps ms us)
  maps_all ms [] a b = a
  maps_all ms (u ∷ us) a b = maps_all (with_map ms u) us (all_if (list_any (is_text_of u) ms) ms u a b.0) b.1

  ops_all : (ms : List MapShape) (os : List Op) → All ms → OpsAll os → All (with_ops ms os)
  ops_all ms [] a b = a
  ops_all ms (o ∷ os) a b = ops_all (with_maps ms (maps_used o.kind)) os (maps_all ms (maps_used o.kind) a b.0) b.1

  pub funcs_all : (ms : List MapShape) (fs : List FuncShape) → All ms → FuncsAll fs → All (with_funcs ms fs)
  funcs_all ms [] a b = a
  funcs_all ms (f ∷ fs) a b = funcs_all (with_ops ms f.body) fs (ops_all ms f.body a b.0) b.1

-- ---- names of aliases differ

alias_apart : (j k : ℕ) → alias_text j ≡ alias_text k → j ≡ k
alias_apart zero zero e = refl
alias_apart zero (suc k) e =
    let some = numeral_some (suc k) in
    let none : numeral (suc k) ≡ [] = cc e in
    absurd (omega (arith, some, ap (λ (ds : List ℕ). length ds) none))
alias_apart (suc j) zero e =
    let some = numeral_some (suc j) in
    let none : numeral (suc j) ≡ [] = cc e in
    absurd (omega (arith, some, ap (λ (ds : List ℕ). length ds) none))
alias_apart (suc j) (suc k) e = numeral_injective (suc j) (suc k) (cc e)

other_if : (b : Bool) → (b ≡ true → ⊥) → b ≡ false
other_if true f = absurd (f refl)
other_if false f = refl

-- an earlier alias has another name
other_name : (j k : ℕ) → j < k → bytes_eq (alias_text j) (alias_text k) ≡ false
other_name j k lt = other_if (bytes_eq (alias_text j) (alias_text k)) (λ b. let same = alias_apart j k ((bytes_eq-Decides (alias_text j) (alias_text k)).0 b) in absurd (omega (arith, same, lt)))

-- ---- what the aliases' lines stand for

-- no alias has the name of this number or of a later one
abbrev NoneFrom : ℕ → List AliasShape → Type 0
NoneFrom n entries = (j : ℕ) → n ≤ j → aliased entries (alias_text j) ≡ None

aliased_if : (b : Bool) (a : AliasShape) (o p : Option AliasShape) → cond b (Some a) o ≡ None → (o ≡ None → p ≡ None) → cond b (Some a) p ≡ None
aliased_if true a o p h f = absurd (cc h)
aliased_if false a o p h f = f h

aliased_last : (entries : List AliasShape) (a : AliasShape) (q : List ℕ) → aliased entries q ≡ None → bytes_eq a.name q ≡ false → aliased (entries ++ a ∷ []) q ≡ None
aliased_last [] a q h e = rw e refl
aliased_last (x ∷ entries) a q h e = aliased_if (bytes_eq x.name q) x (aliased entries q) (aliased (entries ++ a ∷ []) q) h (λ k. aliased_last entries a q k e)

none_next : (n : ℕ) (entries : List AliasShape) (m : MapShape) → NoneFrom n entries → NoneFrom (n + 1) (entries ++ row n m ∷ [])
none_next n entries m h = λ j le. aliased_last entries (row n m) (alias_text j) (h j (omega arith)) (other_name n j (omega arith))

-- the line of an alias defines it
pub line_found : (s : FileScope) (n : ℕ) (m : MapShape) → aliased s.aliases (alias_text n) ≡ None → IsMap m → (at : ℕ) → alias_of s ((alias_line_at n m).tree at) ≡ Ok (with_aliases s (s.aliases ++ row n m ∷ []))
line_found s n m new p at = rw (new, (λ (k : ℕ). written_found m true k p), (λ (k : ℕ). no_symbols m k)) refl

none_before : (r : Result (FileScope × List FuncShape) Fault) → and_then r (λ q. Ok (q.0, [] ++ q.1)) ≡ r
none_before (Ok q) = refl
none_before (Err e) = refl

abbrev behind_line : List Item → Result FileScope Fault → Result (FileScope × List FuncShape) Fault
behind_line more r = joined (and_then {A = FileScope} {B = FileScope × List FuncShape} r (λ t. Ok (t, []))) (λ t. items_of t more)

-- behind the aliases' lines the aliases are those of the maps
pub lines_found : (s : FileScope) (n : ℕ) (ms : List MapShape) (ws : List (Writer Item)) → NoneFrom n s.aliases → ArePrintableMaps ms → (at : ℕ)
    → (k : ℕ) × (items_of s ((each_of (map (made items.Alias) (alias_lines_at n ms) ++ ws)).tree at) ≡ items_of (with_aliases s (s.aliases ++ rows n ms)) ((each_of ws).tree k))
lines_found s n [] ws new p at = (at, ap (λ (entries : List AliasShape). items_of (with_aliases s entries) ((each_of ws).tree at)) (sym (append-nil s.aliases)))
lines_found s n (m ∷ ms) ws new p at =
    let here = at + length (bytes_of (alias_line_at n m).pieces) in
    let later = (each_of (map (made items.Alias) (alias_lines_at (n + 1) ms) ++ ws)).tree (at + length (bytes_of (alias_line_at n m).pieces)) in
    let next = with_aliases s (s.aliases ++ row n m ∷ []) in
    let more = lines_found (with_aliases s (s.aliases ++ row n m ∷ [])) (n + 1) ms ws (none_next n s.aliases m new) p.1 (at + length (bytes_of (alias_line_at n m).pieces)) in (
      more.0,
      ap (behind_line later) (line_found s n m (new n (omega arith)) p.0 at) ∙ none_before (items_of next later) ∙ more.1
          ∙ ap (λ (entries : List AliasShape). items_of (with_aliases s entries) ((each_of ws).tree more.0)) (append_assoc s.aliases (row n m ∷ []) (rows (n + 1) ms)),
    )

-- ---- uses

-- the first map of the list whose text is this one's
below_if : (b : Bool) (n len : ℕ) → (b ≡ false → n < len) → cond (not b) (1 + n) 0 < suc len
below_if true n len f = omega arith
below_if false n len f = let h = f refl in omega (arith, h)

first_below : (p : MapShape → Bool) (al : List MapShape) → list_any p al ≡ true → position_or_len p al < length al
first_below p [] h = absurd (cc h)
first_below p (x ∷ al) h = below_if (p x) (position_or_len p al) (length al) (λ e. first_below p al (rest (p x) e h))
  where
    rest : (b : Bool) → b ≡ false → b || list_any p al ≡ true → list_any p al ≡ true
    rest true e k = absurd (cc e)
    rest false e k = k

first_is : (p : MapShape → Bool) (al : List MapShape) → list_any p al ≡ true → unwrap_or (position p al) 0 ≡ position_or_len p al
first_is p al h = rw (lt-ltb (position_or_len p al) (length al) (first_below p al h)) refl

-- the alias that is found, and its map
record Found (p : MapShape → Bool) (k : ℕ) (al : List MapShape) : Type 0 where
  x : MapShape
  found : aliased (rows k al) (alias_text (k + position_or_len p al)) ≡ Some (row (k + position_or_len p al) x)
  passes : p x ≡ true
  printable : IsMap x

found_row : (p : MapShape → Bool) (k : ℕ) (al : List MapShape) → list_any p al ≡ true → ArePrintableMaps al → Found p k al
found_row p k [] h a = absurd (cc h)
found_row p k (x ∷ al) h a = by (p x) refl (λ (g : list_any p al ≡ true). found_row p (k + 1) al g a.1) h
  where
    by : (b : Bool) → p x ≡ b → (list_any p al ≡ true → Found p (k + 1) al) → b || list_any p al ≡ true → Found p k (x ∷ al)
    by true e f g =
        let z : k + 0 ≡ k = omega arith in
        record { x = x; found = rw (e, z, (bytes_eq-Decides (alias_text k) (alias_text k)).1 refl) refl; passes = e; printable = a.0 }
    by false e f g =
        let r = f g in
        let z : k + (1 + position_or_len p al) ≡ k + 1 + position_or_len p al = omega arith in
        record { x = r.x; found = rw (e, z, other_name k (k + 1 + position_or_len p al) (omega arith)) r.found; passes = r.passes; printable = r.printable }

-- the alias that stands for a map
abbrev pub MapRead : List AliasShape → List MapShape → MapShape → Type 0
MapRead alias al m = (n : ℕ) × (aliased alias (text_of_alias al m) ≡ Some (row n m))

pub alias_found : (al : List MapShape) (m : MapShape) → HasAlias al m → ArePrintableMaps al → IsMap m → MapRead (rows 0 al) al m
alias_found al m h a p =
    let r = found_row (is_text_of m) 0 al h a in
    let z : alias_number al m ≡ 0 + position_or_len (is_text_of m) al = first_is (is_text_of m) al h ∙ zero_first (position_or_len (is_text_of m) al) in (
      0 + position_or_len (is_text_of m) al,
      ap (λ (n : ℕ). aliased (rows 0 al) (alias_text n)) z ∙ r.found ∙ ap (λ (x : MapShape). Some (row (0 + position_or_len (is_text_of m) al) x)) (sym (one_map m r.x p r.printable ((bytes_eq-Decides (text_of_map m) (text_of_map r.x)).0 r.passes))),
    )
  where
    zero_first : (n : ℕ) → n ≡ 0 + n
    zero_first n = omega arith

-- a use of a map stands for that map
pub use_found : (al : List MapShape) (m : MapShape) → HasAlias al m → ArePrintableMaps al → IsMap m → (at : ℕ) → map_of (rows 0 al) ((use_at al m).tree at) ≡ Ok m
use_found al m h a p at = ap (alias_map at) (alias_found al m h a p).1
