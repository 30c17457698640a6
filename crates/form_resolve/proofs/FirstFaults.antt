-- A fault of the parts of an operation is the first.
use Rattle.std.proofs.Common.{◌≡◌, ℕ, zero, suc, Bool, true, false, not, List, [], ◌∷◌, ◌++◌, length, drop, inl, inr, Result, Ok, Err, Option, Some, None, refl, sym, ap, ◌∙◌, subst, nat_lt, nat_le, nat_eq, ◌==◌, ◌-◌, ◌<◌, ◌≤◌, length-append, arith}
use Rattle.std.specs.List.{AllByRecursion}
use Rattle.std.proofs.lemmas.Bool.{and_parts, ltb-true}
use Rattle.mlir_base.specs.declared.limit.Which.TheVariants as limits
use Rattle.mlir_base.specs.declared.types.ElemTy.{ElemTy}
use Rattle.text_format.specs.declared.class.Class.{Class}
use Rattle.text_format.specs.declared.class.Class.TheVariants as classes
use Rattle.text_format.specs.declared.types.RankedShape.{RankedShape}
use Rattle.text_format.specs.declared.types.Extent as written
use Rattle.text_format.specs.declared.types.Extent.TheVariants as extents
use Rattle.text_format.specs.Types.{extents_of, ranked_from}
use Rattle.text_format.specs.Token.{TokenShape}
use Rattle.form_table.specs.declared.part.Entry as table
use Rattle.form_table.specs.declared.part.Entry.TheVariants as entries
use Rattle.form_table.specs.declared.part.Next.{Next}
use Rattle.form_table.specs.declared.part.Part.{Part}
use Rattle.form_table.specs.declared.part.Part.TheVariants as parts
use Rattle.form_table.specs.declared.part.WrittenMap.{WrittenMap}
use Rattle.form_table.specs.declared.want.Element.{Element}
use Rattle.form_table.specs.declared.want.Element.TheVariants as elements
use Rattle.form_table.specs.declared.want.Role.{Role}
use Rattle.form_table.specs.declared.want.Role.TheVariants.{Used, TypeOf, ResultType, OutputType, Held, Repeated}
use Rattle.form_table.specs.declared.want.Want.{Want}
use Rattle.form_table.specs.declared.want.Want.TheVariants as wants
use Rattle.form_resolve.specs.declared.value.Value.{Value}
use Rattle.form_resolve.specs.declared.value.Value.TheVariants.{Typed, Numbers, Indices, Maps, Iterators, Literal, There}
use Rattle.form_resolve.specs.declared.value.Seen.{Seen}
use Rattle.mlir_ir.specs.declared.tree.Ty.{Ty}
use Rattle.mlir_ir.specs.declared.tree.Ty.TheVariants.{Scalar, Tensor, Vector}
use Rattle.mlir_ir.specs.declared.tree.ValueId.{ValueId}
use Rattle.mlir_lex.specs.declared.fault.Fault.{Fault}
use Rattle.mlir_lex.specs.declared.fault.Fault.TheVariants.{Syntax, Unsupported, TypeDiffers, Number, Limit}
use Rattle.mlir_lex.specs.Chain.{and_then, demand, each}
use Rattle.mlir_lex.specs.Faults.{reach_of}
use Rattle.mlir_scope.specs.declared.names.Meaning.{Meaning}
use Rattle.mlir_scope.specs.declared.names.Meaning.TheVariants as meanings
use Rattle.mlir_scope.specs.Names.{Entry, find}
use Rattle.mlir_scope.specs.Maps.{AliasShape, aliased, alias_map}
use Rattle.mlir_scope.specs.Scope.{held, value, value_id, type_of, typed_as, operand_of, same_operand}
use Rattle.mlir_scope.specs.Types.{type_at, shape_type, extent_at, elements as count_elements}
use Rattle.mlir_scope.specs.Literals.{digits_value}
use Rattle.form_resolve.specs.Entries.{misfit, entry_place, is_axis, number_at, axis, is_number, as_value, index, behind as onto, listed, one_repeated, more_repeated, entries_repeated, repeated, map_entry, iterator_entry, iterators_from, iterators_of, use_of, next_use, more_uses, typed_at, type_of_at, last_of, output_type, type_entry, more_types}
use Rattle.form_resolve.specs.Forms.{IsEntry, AreEntries, IsList, IsPart, left_out, silent, IsNextPart, AreParts, one_means, list_means, more_means, want_means, used_behind, all_mean}
use Rattle.form_resolve.specs.Resolving.{Standing, a_value, with_count, token_stands, entry_stands, held_stand, listed_stand, more_stand, kept_stands, stands, with_some, resolved}
use Rattle.form_resolve.specs.FirstFaults.{IsAtEntry, IsAmong, IsWithin, IsFirstFault}
use Rattle.form_resolve.proofs.Steps.{resolved_silent, resolved_short, resolved_part}

-- ---- chains

-- each fault of it has this
abbrev pub Every : {A : Type 0} → (Fault → Type 0) → Result A Fault → Type 0
Every P (Ok x) = Unit {0}
Every P (Err e) = P e

-- what it answers has this
abbrev pub Gives : {A : Type 0} → (A → Type 0) → Result A Fault → Type 0
Gives Q (Ok x) = Q x
Gives Q (Err e) = Unit {0}

chain : {A B : Type 0} (P : Fault → Type 0) (r : Result A Fault) (f : A → Result B Fault) → Every P r → ((x : A) → r ≡ Ok x → Every P (f x)) → Every P (and_then r f)
chain P (Ok x) f h k = k x refl
chain P (Err e) f h k = h

test : (P : Fault → Type 0) (b : Bool) (e : Fault) → P e → Every P (demand b e)
test P true e h = tt
test P false e h = h

more : {A : Type 0} (P Q : Fault → Type 0) (r : Result A Fault) → Every P r → ((e : Fault) → P e → Q e) → Every Q r
more P Q (Ok x) h k = tt
more P Q (Err e) h k = k e h

gives_then : {A B : Type 0} (Q : B → Type 0) (r : Result A Fault) (f : A → Result B Fault) → ((x : A) → r ≡ Ok x → Gives Q (f x)) → Gives Q (and_then r f)
gives_then Q (Ok x) f k = k x refl
gives_then Q (Err e) f k = tt

of_given : {A : Type 0} (Q : A → Type 0) (r : Result A Fault) (x : A) → r ≡ Ok x → Gives Q r → Q x
of_given Q r x e h = subst (λ q. Gives Q q) e h

-- ---- at a token

-- the fault speaks of no token but this
abbrev At : ℕ → Fault → Type 0
At n e = reach_of e ≡ n

held_at : (at : ℕ) (o : Option Meaning) → Every (At at) (held at o)
held_at at (Some (meanings.Held n ty)) = tt
held_at at (Some (meanings.Constant n e v)) = tt
held_at at (Some (meanings.Local a e)) = refl
held_at at None = refl

value_at : (env : List Entry) (t : TokenShape) → Every (At t.start) (value env t)
value_at env t = held_at t.start (find env t.text)

id_at : (env : List Entry) (t : TokenShape) → Every (At t.start) (value_id env t)
id_at env t = chain (At t.start) (value env t) _ (value_at env t) (λ v e. tt)

operand_at : (env : List Entry) (k : ℕ) (t : TokenShape) → Every (At t.start) (operand_of env k t)
operand_at env k t = chain (At t.start) (value env t) _ (value_at env t) (λ v e. chain (At t.start) (demand (nat_lt k 64) (Limit limits.Operands t.start)) _ (test (At t.start) (nat_lt k 64) _ (refl)) (λ u f. tt))

-- the values that are used are known
abbrev AreKnown : List Entry → List TokenShape → Type 0
AreKnown env ts = AllByRecursion (λ t. (x : ℕ × Ty) × (value env t ≡ Ok x)) ts

same_at : (ty : Ty) (t : TokenShape) → Every (At t.start) (same_operand ty t)
same_at (Scalar e) t = test (At t.start) _ (TypeDiffers t.start) (refl)
same_at (Tensor es w) t = test (At t.start) _ (TypeDiffers t.start) (refl)
same_at (Vector ns w) t = test (At t.start) _ (TypeDiffers t.start) (refl)

typed_by : (env : List Entry) (t ty : TokenShape) (x : ℕ × Ty) → value env t ≡ Ok x → Every (At ty.start) (typed_as env t ty)
typed_by env t ty x e = subst (λ (r : Result (ℕ × Ty) Fault). Every (At ty.start) (and_then r (λ v. same_operand v.1 ty))) (sym e) (same_at x.1 ty)

type_by : (env : List Entry) (t : TokenShape) (at : ℕ) (x : ℕ × Ty) → value env t ≡ Ok x → Every (At at) (type_of env t)
type_by env t at x e = subst (λ (r : Result (ℕ × Ty) Fault). Every (At at) (and_then r (λ v. Ok v.1))) (sym e) tt

typed_known : (env : List Entry) (ts : List TokenShape) (ty : TokenShape) → 0 < length ts → AreKnown env ts → Every (At ty.start) (typed_at env ts ty)
typed_known env [] ty z h = absurd (omega (arith, z))
typed_known env (t ∷ ts) ty z h = typed_by env t ty h.0.0 h.0.1

type_known : (env : List Entry) (ts : List TokenShape) (at : ℕ) → 0 < length ts → AreKnown env ts → Every (At at) (type_of_at env ts)
type_known env [] at z h = absurd (omega (arith, z))
type_known env (t ∷ ts) at z h = type_by env t at h.0.0 h.0.1

known_drop : (env : List Entry) (k : ℕ) (ts : List TokenShape) → AreKnown env ts → AreKnown env (drop k ts)
known_drop env zero ts h = h
known_drop env (suc k) [] h = tt
known_drop env (suc k) (t ∷ ts) h = known_drop env k ts h.1

known_last : (env : List Entry) (ts : List TokenShape) (t : TokenShape) → AreKnown env ts → (x : ℕ × Ty) → value env t ≡ Ok x → AreKnown env (ts ++ t ∷ [])
known_last env [] t h x e = ((x, e), tt)
known_last env (u ∷ ts) t h x e = (h.0, known_last env ts t h.1 x e)

drop_some : {A : Type 0} (k : ℕ) (xs : List A) → k < length xs → 0 < length (drop k xs)
drop_some zero xs h = h
drop_some (suc k) [] h = absurd (omega (arith, h))
drop_some (suc k) (x ∷ xs) h = drop_some k xs (omega (arith, h))

output_at : (env : List Entry) (ts : List TokenShape) (ty : TokenShape) → 0 < length ts → AreKnown env ts → Every (At ty.start) (output_type env ts ty)
output_at env ts ty z h =
    let k = known_drop env (length ts - 1) ts h in
    let d = drop_some (length ts - 1) ts (omega (arith, z)) in
    chain (At ty.start) (typed_at env (last_of ts) ty) _ (typed_known env (last_of ts) ty d k) (λ u e. type_known env (last_of ts) ty.start d k)

extent_there : (at : ℕ) (x : written.Extent) → Every (At at) (extent_at at x)
extent_there at (extents.Fixed n) = tt
extent_there at extents.TooLarge = refl

each_there : {A B : Type 0} (P : Fault → Type 0) (f : A → Result B Fault) → ((x : A) → Every P (f x)) → (xs : List A) → Every P (each f xs)
each_there P f one [] = tt
each_there P f one (x ∷ xs) = chain P (f x) _ (one x) (λ y e. chain P (each f xs) _ (each_there P f one xs) (λ ys k. tt))

shape_there : (at : ℕ) (o : Option RankedShape) → Every (At at) (shape_type at o)
shape_there at None = refl
shape_there at (Some s) =
    chain (At at) (demand (nat_le (length s.extents) 8) (Limit limits.Rank at)) _ (test (At at) _ _ (refl)) (λ u e.
    chain (At at) (each (extent_at at) s.extents) _ (each_there (At at) (extent_at at) (extent_there at) s.extents) (λ es k.
    chain (At at) (demand (nat_le (count_elements es) 4194304) (Limit limits.Elements at)) _ (test (At at) _ _ (refl)) (λ v m. tt)))

type_there : (t : TokenShape) → Every (At t.start) (type_at t)
type_there t = shape_there t.start (ranked_from (extents_of t.text))

-- ---- at an entry

abbrev AtEntry : table.Entry → Fault → Type 0
AtEntry x e = IsAtEntry (reach_of e) x

number_there : (negative : Bool) (at : ℕ) (digits : TokenShape) → Every (At at) (number_at negative at digits)
number_there negative at digits = chain (At at) (demand (is_axis negative (digits_value digits.text)) (Number at at)) _ (test (At at) _ _ refl) (λ u e. tt)

axis_there : (x : table.Entry) → IsEntry elements.Literal x → Every (AtEntry x) (axis x)
axis_there (entries.Token t) h = absurd h
axis_there (entries.Number None digits) h = number_there false digits.start digits
axis_there (entries.Number (Some minus) digits) h = number_there true minus.start digits
axis_there (entries.Map m) h = absurd h

unsupported_there : (x : table.Entry) → AtEntry x (Unsupported (entry_place x))
unsupported_there (entries.Token t) = refl
unsupported_there (entries.Number minus digits) = refl
unsupported_there (entries.Map m) = tt

syntax_there : (x : table.Entry) → AtEntry x (Syntax (entry_place x))
syntax_there (entries.Token t) = refl
syntax_there (entries.Number minus digits) = refl
syntax_there (entries.Map m) = tt

is_number_there : (n : ℕ) (x : table.Entry) → IsEntry elements.Literal x → Every (AtEntry x) (is_number n x)
is_number_there n x h = chain (AtEntry x) (axis x) _ (axis_there x h) (λ m e. test (AtEntry x) (nat_eq m n) (Unsupported (entry_place x)) (unsupported_there x))

as_value_there : (x : table.Entry) (r : Result ℕ Fault) → Every (AtEntry x) r → Every (AtEntry x) (as_value r)
as_value_there x r h = chain (AtEntry x) r _ h (λ n e. tt)

index_there : (env : List Entry) (x : table.Entry) → IsEntry elements.Index x → Every (AtEntry x) (index env x)
index_there env (entries.Token t) h = chain (At t.start) (value_id env t) _ (id_at env t) (λ v e. tt)
index_there env (entries.Number minus digits) h = as_value_there (entries.Number minus digits) (axis (entries.Number minus digits)) (axis_there (entries.Number minus digits) tt)
index_there env (entries.Map m) h = absurd h

alias_there : (at : ℕ) (o : Option AliasShape) → Every (At at) (alias_map at o)
alias_there at None = refl
alias_there at (Some a) = chain (At at) (demand (not a.symbols) (Unsupported at)) (λ _. Ok a.map) (test (At at) (not a.symbols) (Unsupported at) refl) (λ u e. tt)

anywhere : {A : Type 0} (m : WrittenMap) (r : Result A Fault) → Every (AtEntry (entries.Map m)) r
anywhere m (Ok x) = tt
anywhere m (Err e) = tt

map_there : (al : List AliasShape) (x : table.Entry) → IsEntry elements.Map x → Every (AtEntry x) (map_entry al x)
map_there al (entries.Token t) h = alias_there t.start (aliased al t.text)
map_there al (entries.Number minus digits) h = absurd h
map_there al (entries.Map m) h = anywhere m (map_entry al (entries.Map m))

iterator_there : (c : Class) (k : ℕ) (x : table.Entry) → IsEntry (elements.Leaf c) x → Every (AtEntry x) (iterator_entry k x)
iterator_there c k (entries.Token t) h = chain (At t.start) (demand (nat_lt k 12) (Limit limits.Loops t.start)) _ (test (At t.start) _ _ refl) (λ u e. tt)
iterator_there c k (entries.Number minus digits) h = absurd h
iterator_there c k (entries.Map m) h = absurd h

use_there : (c : Class) (env : List Entry) (ts : List TokenShape) (x : table.Entry) → IsEntry (elements.Leaf c) x → Every (AtEntry x) (next_use env ts x)
use_there c env ts (entries.Token t) h = chain (At t.start) (operand_of env (length ts) t) _ (operand_at env (length ts) t) (λ v e. tt)
use_there c env ts (entries.Number minus digits) h = absurd h
use_there c env ts (entries.Map m) h = absurd h

type_entry_there : (c : Class) (env : List Entry) (t : TokenShape) (x : table.Entry) → IsEntry (elements.Leaf c) x → (v : ℕ × Ty) → value env t ≡ Ok v → Every (AtEntry x) (type_entry env t x)
type_entry_there c env t (entries.Token ty) h v e = typed_by env t ty v e
type_entry_there c env t (entries.Number minus digits) h v e = absurd h
type_entry_there c env t (entries.Map m) h v e = absurd h

-- ---- among entries

abbrev Among : List Next → Fault → Type 0
Among xs e = IsAmong (reach_of e) xs

at_first : (x : Next) (xs : List Next) (e : Fault) → AtEntry x.entry e → Among (x ∷ xs) e
at_first x xs e h = inr (inl h)

at_comma : (x : Next) (xs : List Next) → Among (x ∷ xs) (Syntax x.comma.start)
at_comma x xs = inl refl

at_others : (x : Next) (xs : List Next) (e : Fault) → Among xs e → Among (x ∷ xs) e
at_others x xs e h = inr (inr h)

first_among : {A : Type 0} (x : Next) (xs : List Next) (r : Result A Fault) → Every (AtEntry x.entry) r → Every (Among (x ∷ xs)) r
first_among x xs r h = more (AtEntry x.entry) (Among (x ∷ xs)) r h (at_first x xs)

others_among : {A : Type 0} (x : Next) (xs : List Next) (r : Result A Fault) → Every (Among xs) r → Every (Among (x ∷ xs)) r
others_among x xs r h = more (Among xs) (Among (x ∷ xs)) r h (at_others x xs)

each_among : {B : Type 0} (k : Element) (f : table.Entry → Result B Fault) → ((x : table.Entry) → IsEntry k x → Every (AtEntry x) (f x)) → (xs : List Next) → AreEntries k xs → Every (Among xs) (each (λ (x : Next). f x.entry) xs)
each_among k f one [] h = tt
each_among k f one (x ∷ xs) h =
    chain (Among (x ∷ xs)) (f x.entry) _ (first_among x xs (f x.entry) (one x.entry h.0)) (λ y e.
    chain (Among (x ∷ xs)) (each (λ (z : Next). f z.entry) xs) _ (others_among x xs _ (each_among k f one xs h.1)) (λ ys q. tt))

iterators_among : (c : Class) (k : ℕ) (xs : List Next) → AreEntries (elements.Leaf c) xs → Every (Among xs) (iterators_from k xs)
iterators_among c k [] h = tt
iterators_among c k (x ∷ xs) h =
    chain (Among (x ∷ xs)) (iterator_entry k x.entry) _ (first_among x xs (iterator_entry k x.entry) (iterator_there c k x.entry h.0)) (λ y e.
    chain (Among (x ∷ xs)) (iterators_from (suc k) xs) _ (others_among x xs (iterators_from (suc k) xs) (iterators_among c (suc k) xs h.1)) (λ ys j. tt))

uses_among : (c : Class) (env : List Entry) (ts : List TokenShape) (xs : List Next) → AreEntries (elements.Leaf c) xs → Every (Among xs) (more_uses env ts xs)
uses_among c env ts [] h = tt
uses_among c env ts (x ∷ xs) h =
    chain (Among (x ∷ xs)) (next_use env ts x.entry) _ (first_among x xs (next_use env ts x.entry) (use_there c env ts x.entry h.0)) (λ r e.
    chain (Among (x ∷ xs)) (more_uses env r.0 xs) _ (others_among x xs (more_uses env r.0 xs) (uses_among c env r.0 xs h.1)) (λ q k. tt))

types_among : (c : Class) (env : List Entry) (ts : List TokenShape) (xs : List Next) → AreEntries (elements.Leaf c) xs → AreKnown env ts → Every (Among xs) (more_types env ts xs)
types_among c env ts [] a h = tt
types_among c env [] (x ∷ xs) a h = at_comma x xs
types_among c env (t ∷ ts) (x ∷ xs) a h =
    chain (Among (x ∷ xs)) (type_entry env t x.entry) _ (first_among x xs (type_entry env t x.entry) (type_entry_there c env t x.entry a.0 h.0.0 h.0.1)) (λ u e.
    others_among x xs (more_types env ts xs) (types_among c env ts xs a.1 h.1))

one_among : (n left : ℕ) (x : Next) (xs : List Next) → IsEntry elements.Literal x.entry → Every (Among (x ∷ xs)) (one_repeated n left x.comma.start x.entry)
one_among n left x xs h =
    chain (Among (x ∷ xs)) (demand (nat_lt 0 left) (Syntax x.comma.start)) _ (test (Among (x ∷ xs)) _ _ (at_comma x xs)) (λ u e.
    chain (Among (x ∷ xs)) (is_number n x.entry) _ (first_among x xs (is_number n x.entry) (is_number_there n x.entry h)) (λ v k. tt))

repeated_among : (n left : ℕ) (xs : List Next) → AreEntries elements.Literal xs → Every (Among xs) (more_repeated n left xs)
repeated_among n left [] h = tt
repeated_among n left (x ∷ xs) h =
    chain (Among (x ∷ xs)) (one_repeated n left x.comma.start x.entry) _ (one_among n left x xs h.0) (λ m e. others_among x xs (more_repeated n m xs) (repeated_among n m xs h.1))

-- ---- in a list

abbrev Within : Part → Fault → Type 0
Within p e = IsWithin (reach_of e) p

behind_within : {B : Type 0} (P : Fault → Type 0) (ys : List B) (r : Result (List B) Fault) → Every P r → Every P (onto ys r)
behind_within P ys r h = chain P r _ h (λ zs e. tt)

first_within : {A : Type 0} (x : table.Entry) (xs : List Next) (close : TokenShape) (r : Result A Fault) → Every (AtEntry x) r → Every (Within (parts.Listed (Some x) xs close)) r
first_within x xs close r h = more (AtEntry x) (Within (parts.Listed (Some x) xs close)) r h (λ e k. inl k)

others_within : {A : Type 0} (o : Option table.Entry) (xs : List Next) (close : TokenShape) (r : Result A Fault) → Every (Among xs) r → Every (Within (parts.Listed o xs close)) r
others_within o xs close r h = more (Among xs) (Within (parts.Listed o xs close)) r h (λ e k. inr (inl k))

listed_within : {B : Type 0} (k : Element) (f : table.Entry → Result B Fault) → ((x : table.Entry) → IsEntry k x → Every (AtEntry x) (f x)) → (o : Option table.Entry) (xs : List Next) (close : TokenShape) → IsList k o xs → Every (Within (parts.Listed o xs close)) (listed f o xs)
listed_within k f one None [] close h = tt
listed_within k f one None (x ∷ xs) close h = absurd h
listed_within k f one (Some x) xs close h =
    let P = Within (parts.Listed (Some x) xs close) in
    chain P (f x) _ (first_within x xs close (f x) (one x h.0)) (λ y e. behind_within P (y ∷ []) (each (λ (z : Next). f z.entry) xs) (others_within (Some x) xs close _ (each_among k f one xs h.1)))

iterators_within : (c : Class) (o : Option table.Entry) (xs : List Next) (close : TokenShape) → IsList (elements.Leaf c) o xs → Every (Within (parts.Listed o xs close)) (iterators_of o xs)
iterators_within c None [] close h = tt
iterators_within c None (x ∷ xs) close h = absurd h
iterators_within c (Some x) xs close h =
    let P = Within (parts.Listed (Some x) xs close) in
    chain P (iterator_entry 0 x) _ (first_within x xs close (iterator_entry 0 x) (iterator_there c 0 x h.0)) (λ y e. behind_within P (y ∷ []) (iterators_from 1 xs) (others_within (Some x) xs close (iterators_from 1 xs) (iterators_among c 1 xs h.1)))

entries_within : (n left : ℕ) (o : Option table.Entry) (xs : List Next) (close : TokenShape) → IsList elements.Literal o xs → Every (Within (parts.Listed o xs close)) (entries_repeated n left o xs)
entries_within n left None [] close h = tt
entries_within n left None (x ∷ xs) close h = absurd h
entries_within n left (Some x) xs close h =
    let P = Within (parts.Listed (Some x) xs close) in
    chain P (one_repeated n left (entry_place x) x) _ (first_within x xs close (one_repeated n left (entry_place x) x)
    (chain (AtEntry x) (demand (nat_lt 0 left) (Syntax (entry_place x))) _ (test (AtEntry x) _ _ (syntax_there x)) (λ u e. chain (AtEntry x) (is_number n x) _ (is_number_there n x h.0) (λ v k. tt))))
    (λ m e. others_within (Some x) xs close (more_repeated n m xs) (repeated_among n m xs h.1))

repeated_within : (n count : ℕ) (o : Option table.Entry) (xs : List Next) (close : TokenShape) → IsList elements.Literal o xs → Every (Within (parts.Listed o xs close)) (repeated n count o xs close)
repeated_within n count o xs close h =
    let P = Within (parts.Listed o xs close) in
    chain P (entries_repeated n count o xs) _ (entries_within n count o xs close h) (λ left e. test P (left == 0) (Syntax close.start) (inr (inr refl)))

-- ---- in a part

-- the values that are used are known, and are so many at least
pub record Ready (env : List Entry) (u : ℕ) (s : Seen) : Type 0 where
  pub known : AreKnown env s.used
  pub many : u ≤ length s.used

leaf_within : (env : List Entry) (c : Class) (r : Role) (u : ℕ) (s : Seen) (t : TokenShape) → Ready env u s → one_means (elements.Leaf c) r u ≡ true → Every (At t.start) (token_stands env r s t)
unfolding token_stands
leaf_within env c Used u s t d m = chain (At t.start) (use_of env s.used t) _ (chain (At t.start) (operand_of env (length s.used) t) _ (operand_at env (length s.used) t) (λ v e. tt)) (λ v e. tt)
leaf_within env c (TypeOf k) u s t d m =
    let few = ltb-true k u m in
    chain (At t.start) (typed_at env (drop k s.used) t) _ (typed_known env (drop k s.used) t (drop_some k s.used (omega (arith, few, d.many))) (known_drop env k s.used d.known)) (λ v e. tt)
leaf_within env c ResultType u s t d m = chain (At t.start) (type_at t) _ (type_there t) (λ v e. tt)
leaf_within env c OutputType u s t d m = let some = ltb-true 0 u m in chain (At t.start) (output_type env s.used t) _ (output_at env s.used t (omega (arith, some, d.many)) d.known) (λ v e. tt)
leaf_within env c Held u s t d m = absurd (cc m)
leaf_within env c (Repeated n) u s t d m = absurd (cc m)

number_within : (env : List Entry) (r : Role) (u : ℕ) (s : Seen) (x : table.Entry) → IsEntry elements.Literal x → one_means elements.Literal r u ≡ true → Every (Within (parts.One x)) (entry_stands env r s x)
number_within env Held u s (entries.Number m d) h k = tt
number_within env Used u s (entries.Number m d) h k = absurd (cc k)
number_within env (TypeOf n) u s (entries.Number m d) h k = absurd (cc k)
number_within env ResultType u s (entries.Number m d) h k = absurd (cc k)
number_within env OutputType u s (entries.Number m d) h k = absurd (cc k)
number_within env (Repeated n) u s (entries.Number m d) h k = absurd (cc k)
number_within env r u s (entries.Token t) h k = absurd h
number_within env r u s (entries.Map m) h k = absurd h

entry_within : (env : List Entry) (k : Element) (r : Role) (u : ℕ) (s : Seen) (x : table.Entry) → Ready env u s → IsEntry k x → one_means k r u ≡ true → Every (Within (parts.One x)) (entry_stands env r s x)
entry_within env (elements.Leaf c) r u s (entries.Token t) d h m = leaf_within env c r u s t d m
entry_within env (elements.Leaf c) r u s (entries.Number n ds) d h m = absurd h
entry_within env (elements.Leaf c) r u s (entries.Map w) d h m = absurd h
entry_within env elements.Literal r u s x d h m = number_within env r u s x h m
entry_within env elements.Index r u s x d h m = absurd (cc m)
entry_within env elements.Map r u s x d h m = absurd (cc m)

list_within : (al : List AliasShape) (env : List Entry) (k : Element) (r : Role) (s : Seen) (o : Option table.Entry) (xs : List Next) (close : TokenShape) → IsList k o xs → list_means k r ≡ true → Every (Within (parts.Listed o xs close)) (listed_stand al env k r s o xs close)
unfolding held_stand
list_within al env elements.Literal Held s o xs close h m = chain _ (listed axis o xs) _ (listed_within elements.Literal axis axis_there o xs close h) (λ ns e. tt)
list_within al env elements.Index Held s o xs close h m = chain _ (listed (index env) o xs) _ (listed_within elements.Index (index env) (index_there env) o xs close h) (λ ns e. tt)
list_within al env elements.Map Held s o xs close h m = chain _ (listed (map_entry al) o xs) _ (listed_within elements.Map (map_entry al) (map_there al) o xs close h) (λ ns e. tt)
list_within al env (elements.Leaf classes.Iterator) Held s o xs close h m = chain _ (iterators_of o xs) _ (iterators_within classes.Iterator o xs close h) (λ ns e. tt)
list_within al env elements.Literal (Repeated n) s o xs close h m = chain _ (repeated n s.count o xs close) _ (repeated_within n s.count o xs close h) (λ u k. tt)
list_within al env k r s o xs close h m = absurd (cc m)

more_within : (env : List Entry) (k : Element) (r : Role) (s : Seen) (xs : List Next) → AreKnown env s.used → AreEntries k xs → more_means k r ≡ true → Every (Within (parts.More xs)) (more_stand env r s xs)
more_within env (elements.Leaf c) Used s xs d h m = chain (Within (parts.More xs)) (more_uses env s.used xs) _ (uses_among c env s.used xs h) (λ u e. tt)
more_within env (elements.Leaf c) (TypeOf n) s xs d h m = chain (Within (parts.More xs)) (more_types env (drop n s.used) xs) _ (types_among c env (drop n s.used) xs h (known_drop env n s.used d)) (λ u e. tt)
more_within env k r s xs d h m = absurd (cc m)

kept_within : (s : Seen) (x : table.Entry) → Every (Within (parts.One x)) (kept_stands s x)
kept_within s x = chain (AtEntry x) (demand (s.missing == 0) (Syntax (entry_place x))) _ (test (AtEntry x) (s.missing == 0) (Syntax (entry_place x)) (syntax_there x)) (λ u e. tt)

part_within : (al : List AliasShape) (env : List Entry) (w : Want) (u : ℕ) (s : Seen) (p : Part) → Ready env u s → IsPart w p → want_means w u ≡ true → Every (Within p) (stands al env w s p)
unfolding stands
part_within al env (wants.One k r) u s (parts.One x) d h m = entry_within env k r u s x d h m
part_within al env (wants.Kept l) u s (parts.One x) d h m = kept_within s x
part_within al env (wants.Listed k close r) u s (parts.Listed o xs t) d h m = list_within al env k r s o xs t h m
part_within al env (wants.More k r) u s (parts.More xs) d h m = more_within env k r s xs d.known h m
part_within al env wants.Dense u s (parts.Dense ds) d h m = tt
part_within al env (wants.Maybe l n) u s (parts.There b) d h m = tt
part_within al env w u s p d h m = absurd h

-- ---- behind a part

-- what is seen behind a part, where so many values are used, and how many wants are left out
pub record Goes (env : List Entry) (u n : ℕ) (x : Standing) : Type 0 where
  pub ready : Ready env u x.1.1
  pub skipped : x.1.0 ≡ n

operand_known : (env : List Entry) (k : ℕ) (t : TokenShape) (r : Result (ℕ × Ty) Fault) → value env t ≡ r → (y : ValueId × ElemTy) → operand_of env k t ≡ Ok y → (x : ℕ × Ty) × (value env t ≡ Ok x)
operand_known env k t (Ok x) e y h = (x, e)
operand_known env k t (Err f) e y h = absurd (cc (h, e))

-- more values are used, which are known
abbrev Adds : List Entry → List TokenShape → List TokenShape → Type 0
Adds env ts us = AreKnown env us × (length ts ≤ length us)

abbrev AddsOne : List Entry → List TokenShape → List TokenShape → Type 0
AddsOne env ts us = AreKnown env us × (length us ≡ suc (length ts))

use_known : (env : List Entry) (ts : List TokenShape) (t : TokenShape) → AreKnown env ts → Gives (λ v. AddsOne env ts v.0) (use_of env ts t)
use_known env ts t h =
    gives_then (λ v. AddsOne env ts v.0) (operand_of env (length ts) t) _ (λ y e. let k = operand_known env (length ts) t (value env t) refl y e in (known_last env ts t h k.0 k.1, length-append ts (t ∷ []) ∙ omega arith))

next_known : (env : List Entry) (ts : List TokenShape) (x : table.Entry) → AreKnown env ts → Gives (λ v. AddsOne env ts v.0) (next_use env ts x)
next_known env ts (entries.Token t) h = use_known env ts t h
next_known env ts (entries.Number minus digits) h = tt
next_known env ts (entries.Map m) h = tt

uses_known : (env : List Entry) (ts : List TokenShape) (xs : List Next) → AreKnown env ts → Gives (λ v. Adds env ts v.0) (more_uses env ts xs)
uses_known env ts [] h = (h, omega arith)
uses_known env ts (x ∷ xs) h =
    gives_then (λ v. Adds env ts v.0) (next_use env ts x.entry) _ (λ r e.
    let a = of_given (λ v. AddsOne env ts v.0) (next_use env ts x.entry) r e (next_known env ts x.entry h) in
    gives_then (λ v. Adds env ts v.0) (more_uses env r.0 xs) _ (λ q k.
    let b = of_given (λ v. Adds env r.0 v.0) (more_uses env r.0 xs) q k (uses_known env r.0 xs a.0) in
    (b.0, omega (arith, a.1, b.1))))

stays : (env : List Entry) (u : ℕ) (s : Seen) (o : Option Value) → Ready env u s → Goes env u zero (o, (zero, s))
stays env u s o d = record { ready = d; skipped = refl }

token_goes : (env : List Entry) (k : Element) (r : Role) (u : ℕ) (s : Seen) (t : TokenShape) → Ready env u s → Gives (Goes env (used_behind (wants.One k r) u) zero) (token_stands env r s t)
unfolding token_stands
token_goes env k Used u s t d =
    gives_then (Goes env (suc u) zero) (use_of env s.used t) _ (λ v e.
    let a = of_given (λ v. AddsOne env s.used v.0) (use_of env s.used t) v e (use_known env s.used t d.known) in
    record { ready = record { known = a.0; many = omega (arith, a.1, d.many) }; skipped = refl })
token_goes env k (TypeOf n) u s t d = gives_then (Goes env u zero) (typed_at env (drop n s.used) t) _ (λ v e. stays env u s None d)
token_goes env k ResultType u s t d = gives_then (Goes env u zero) (type_at t) _ (λ v e. stays env u s (Some (Typed v)) d)
token_goes env k OutputType u s t d = gives_then (Goes env u zero) (output_type env s.used t) _ (λ v e. stays env u s (Some (Typed v)) d)
token_goes env k Held u s t d = tt
token_goes env k (Repeated n) u s t d = tt

entry_goes : (env : List Entry) (k : Element) (r : Role) (u : ℕ) (s : Seen) (x : table.Entry) → Ready env u s → Gives (Goes env (used_behind (wants.One k r) u) zero) (entry_stands env r s x)
entry_goes env k r u s (entries.Token t) d = token_goes env k r u s t d
entry_goes env k Held u s (entries.Number m ds) d = stays env u s (Some Literal) d
entry_goes env k Used u s (entries.Number m ds) d = tt
entry_goes env k (TypeOf n) u s (entries.Number m ds) d = tt
entry_goes env k ResultType u s (entries.Number m ds) d = tt
entry_goes env k OutputType u s (entries.Number m ds) d = tt
entry_goes env k (Repeated n) u s (entries.Number m ds) d = tt
entry_goes env k Used u s (entries.Map m) d = tt
entry_goes env k (TypeOf n) u s (entries.Map m) d = tt
entry_goes env k ResultType u s (entries.Map m) d = tt
entry_goes env k OutputType u s (entries.Map m) d = tt
entry_goes env k Held u s (entries.Map m) d = tt
entry_goes env k (Repeated n) u s (entries.Map m) d = tt

counts : (env : List Entry) (u n : ℕ) (s : Seen) (v : Value) → Ready env u s → Goes env u zero (a_value v (with_count s n))
counts env u n s v d = record { ready = record { known = d.known; many = d.many }; skipped = refl }

held_goes : (al : List AliasShape) (env : List Entry) (k : Element) (u : ℕ) (s : Seen) (o : Option table.Entry) (xs : List Next) → Ready env u s → Gives (Goes env u zero) (held_stand al env k s o xs)
unfolding held_stand
held_goes al env elements.Literal u s o xs d = gives_then (Goes env u zero) (listed axis o xs) _ (λ v e. counts env u (length v) s (Numbers v) d)
held_goes al env elements.Index u s o xs d = gives_then (Goes env u zero) (listed (index env) o xs) _ (λ v e. counts env u (length v) s (Indices v) d)
held_goes al env elements.Map u s o xs d = gives_then (Goes env u zero) (listed (map_entry al) o xs) _ (λ v e. counts env u (length v) s (Maps v) d)
held_goes al env (elements.Leaf classes.Iterator) u s o xs d = gives_then (Goes env u zero) (iterators_of o xs) _ (λ v e. counts env u (length v) s (Iterators v) d)
held_goes al env (elements.Leaf c) u s o xs d = tt

list_goes : (al : List AliasShape) (env : List Entry) (k : Element) (r : Role) (u : ℕ) (s : Seen) (o : Option table.Entry) (xs : List Next) (close : TokenShape) → Ready env u s → Gives (Goes env u zero) (listed_stand al env k r s o xs close)
list_goes al env k Held u s o xs close d = held_goes al env k u s o xs d
list_goes al env k (Repeated n) u s o xs close d = gives_then (Goes env u zero) (repeated n s.count o xs close) _ (λ v e. stays env u s None d)
list_goes al env k Used u s o xs close d = tt
list_goes al env k (TypeOf n) u s o xs close d = tt
list_goes al env k ResultType u s o xs close d = tt
list_goes al env k OutputType u s o xs close d = tt

more_goes : (env : List Entry) (r : Role) (u : ℕ) (s : Seen) (xs : List Next) → Ready env u s → Gives (Goes env u zero) (more_stand env r s xs)
more_goes env Used u s xs d =
    gives_then (Goes env u zero) (more_uses env s.used xs) _ (λ v e.
    let a = of_given (λ v. Adds env s.used v.0) (more_uses env s.used xs) v e (uses_known env s.used xs d.known) in
    record { ready = record { known = a.0; many = omega (arith, a.1, d.many) }; skipped = refl })
more_goes env (TypeOf n) u s xs d = gives_then (Goes env u zero) (more_types env (drop n s.used) xs) _ (λ v e. record { ready = record { known = d.known; many = d.many }; skipped = refl })
more_goes env ResultType u s xs d = tt
more_goes env OutputType u s xs d = tt
more_goes env Held u s xs d = tt
more_goes env (Repeated n) u s xs d = tt

kept_goes : (env : List Entry) (u : ℕ) (s : Seen) (x : table.Entry) → Ready env u s → Gives (Goes env u zero) (kept_stands s x)
kept_goes env u s x d = gives_then (Goes env u zero) (demand (s.missing == 0) (Syntax (entry_place x))) _ (λ v e. stays env u s None d)

part_goes : (al : List AliasShape) (env : List Entry) (w : Want) (u : ℕ) (s : Seen) (p : Part) → Ready env u s → IsPart w p → Gives (Goes env (used_behind w u) (left_out w p)) (stands al env w s p)
unfolding stands
part_goes al env (wants.One k r) u s (parts.One x) d h = entry_goes env k r u s x d
part_goes al env (wants.Kept l) u s (parts.One x) d h = kept_goes env u s x d
part_goes al env (wants.Listed k close r) u s (parts.Listed o xs t) d h = list_goes al env k r u s o xs t d
part_goes al env (wants.More k r) u s (parts.More xs) d h = more_goes env r u s xs d
part_goes al env wants.Dense u s (parts.Dense ds) d h = stays env u s (Some Literal) d
part_goes al env (wants.Maybe l n) u s (parts.There true) d h = stays env u s (Some (There true)) d
part_goes al env (wants.Maybe l n) u s (parts.There false) d h = record { ready = d; skipped = refl }
part_goes al env w u s p d h = absurd h

-- ---- forms

mean_silent : (w : Want) (n : ℕ) → silent w ≡ Some n → (ws : List Want) (u : ℕ) → all_mean (w ∷ ws) zero u ≡ true → all_mean ws n u ≡ true
mean_silent (wants.Fixed l) n q ws u h = let k : zero ≡ n = cc q in subst (λ m. all_mean ws m u ≡ true) k h
mean_silent wants.Space n q ws u h = let k : zero ≡ n = cc q in subst (λ m. all_mean ws m u ≡ true) k h
mean_silent (wants.Jump m) n q ws u h = let k : m ≡ n = cc q in subst (λ i. all_mean ws i u ≡ true) k h
mean_silent (wants.Kept l) n q ws u h = absurd (cc q)
mean_silent (wants.One k r) n q ws u h = absurd (cc q)
mean_silent (wants.Listed k c r) n q ws u h = absurd (cc q)
mean_silent (wants.More k r) n q ws u h = absurd (cc q)
mean_silent wants.Dense n q ws u h = absurd (cc q)
mean_silent (wants.Maybe l m) n q ws u h = absurd (cc q)

mean_part : (w : Want) (p : Part) → IsPart w p → (ws : List Want) (u : ℕ) → all_mean (w ∷ ws) zero u ≡ true → (want_means w u ≡ true) × (all_mean ws (left_out w p) (used_behind w u) ≡ true)
mean_part (wants.One k r) (parts.One x) i ws u h = and_parts (one_means k r u) (all_mean ws zero (used_behind (wants.One k r) u)) h
mean_part (wants.Kept l) (parts.One x) i ws u h = (refl, h)
mean_part (wants.Listed k c r) (parts.Listed o xs t) i ws u h = and_parts (list_means k r) (all_mean ws zero u) h
mean_part (wants.More k r) (parts.More xs) i ws u h = and_parts (more_means k r) (all_mean ws zero u) h
mean_part wants.Dense (parts.Dense ds) i ws u h = (refl, h)
mean_part (wants.Maybe l n) (parts.There true) i ws u h = (refl, (and_parts (all_mean ws zero u) (all_mean ws n u) h).0)
mean_part (wants.Maybe l n) (parts.There false) i ws u h = (refl, (and_parts (all_mean ws zero u) (all_mean ws n u) h).1)
mean_part w p i ws u h = absurd i

-- ---- several parts

with_error : (o : Option Value) (r : Result (List Value) Fault) (e : Fault) → with_some o r ≡ Err e → r ≡ Err e
with_error None r e h = h
with_error (Some v) (Ok vs) e h = absurd (cc h)
with_error (Some v) (Err f) e h = let k : f ≡ e = cc h in ap (λ g. Err g) k

error_with : (o : Option Value) (r : Result (List Value) Fault) (e : Fault) → r ≡ Err e → with_some o r ≡ Err e
error_with None r e h = h
error_with (Some v) r e h = ap (λ q. and_then q (λ vs. Ok (v ∷ vs))) h

module _ (al : List AliasShape) (env : List Entry) where
  abbrev First : List Want → ℕ → Seen → List Part → Fault → Type 0
  First ws k s ps e = IsFirstFault al env ws k s ps e

  first_silent : (w : Want) (n : ℕ) → silent w ≡ Some n → (ws : List Want) (s : Seen) (ps : List Part) (e : Fault) → First ws n s ps e → First (w ∷ ws) zero s ps e
  first_silent w n q ws s ps e h = record {
    before = h.before;
    part = h.part;
    behind = h.behind;
    parts_are = h.parts_are;
    none_before = resolved_silent al env w n q ws s h.before ∙ h.none_before;
    decided = λ others. resolved_silent al env w n q ws s (h.before ++ h.part ∷ others) ∙ h.decided others;
    within = h.within;
  }

  first_later : (w : Want) → silent w ≡ None → (ws : List Want) (s : Seen) (p : Part) (ps : List Part) (x : Standing) → stands al env w s p ≡ Ok x → (e : Fault) → First ws x.1.0 x.1.1 ps e → First (w ∷ ws) zero s (p ∷ ps) e
  first_later w q ws s p ps x st e h =
      let go : (qs : List Part) (f : Fault) → resolved al env ws x.1.0 x.1.1 qs ≡ Err f → resolved al env (w ∷ ws) zero s (p ∷ qs) ≡ Err f
      = λ qs f k. resolved_part al env w q ws s p qs ∙ ap (λ r. and_then r (λ y. with_some y.0 (resolved al env ws y.1.0 y.1.1 qs))) st ∙ error_with x.0 (resolved al env ws x.1.0 x.1.1 qs) f k in
      record {
        before = p ∷ h.before;
        part = h.part;
        behind = h.behind;
        parts_are = ap (λ qs. p ∷ qs) h.parts_are;
        none_before = go h.before misfit h.none_before;
        decided = λ others. go (h.before ++ h.part ∷ others) e (h.decided others);
        within = h.within;
      }

  first_here : (w : Want) → silent w ≡ None → (ws : List Want) (s : Seen) (p : Part) (ps : List Part) (e : Fault) → stands al env w s p ≡ Err e → Within p e → First (w ∷ ws) zero s (p ∷ ps) e
  first_here w q ws s p ps e st h = record {
    before = [];
    part = p;
    behind = ps;
    parts_are = refl;
    none_before = resolved_short al env w q ws s;
    decided = λ others. resolved_part al env w q ws s p others ∙ ap (λ r. and_then r (λ y. with_some y.0 (resolved al env ws y.1.0 y.1.1 others))) st;
    within = h;
  }

  abbrev Behind : List Want → Fault → Type 0
  Behind ws e = (n u : ℕ) (t : Seen) (qs : List Part) → Ready env u t → AreParts ws n qs → all_mean ws n u ≡ true → resolved al env ws n t qs ≡ Err e → First ws n t qs e

  first_by : (w : Want) → silent w ≡ None → (ws : List Want) (u : ℕ) (s : Seen) (p : Part) (ps : List Part) (e : Fault) → Ready env u s → IsPart w p → AreParts ws (left_out w p) ps → all_mean (w ∷ ws) zero u ≡ true → Behind ws e
      → (r : Result Standing Fault) → stands al env w s p ≡ r → and_then r (λ y. with_some y.0 (resolved al env ws y.1.0 y.1.1 ps)) ≡ Err e → First (w ∷ ws) zero s (p ∷ ps) e
  first_by w q ws u s p ps e d i j m go (Ok x) st k =
      let g = of_given (Goes env (used_behind w u) (left_out w p)) (stands al env w s p) x st (part_goes al env w u s p d i) in
      let b = with_error x.0 (resolved al env ws x.1.0 x.1.1 ps) e k in
      let here = subst (λ n. AreParts ws n ps) (sym g.skipped) j in
      let means = subst (λ n. all_mean ws n (used_behind w u) ≡ true) (sym g.skipped) (mean_part w p i ws u m).1 in
      first_later w q ws s p ps x st e (go x.1.0 (used_behind w u) x.1.1 ps g.ready here means b)
  first_by w q ws u s p ps e d i j m go (Err f) st k =
      let same : f ≡ e = cc k in
      let st2 : stands al env w s p ≡ Err e = st ∙ ap (λ g. Err g) same in
      first_here w q ws s p ps e st2 (subst (λ r. Every (Within p) r) st2 (part_within al env w u s p d i (mean_part w p i ws u m).0))

  first_part : (w : Want) → silent w ≡ None → (ws : List Want) (u : ℕ) (s : Seen) (ps : List Part) (e : Fault) → Ready env u s → IsNextPart w None ps (λ n qs. AreParts ws n qs) → all_mean (w ∷ ws) zero u ≡ true → Behind ws e
      → resolved al env (w ∷ ws) zero s ps ≡ Err e → First (w ∷ ws) zero s ps e
  first_part w q ws u s [] e d i m go k = absurd i
  first_part w q ws u s (p ∷ ps) e d i m go k = first_by w q ws u s p ps e d i.0 i.1 m go (stands al env w s p) refl (sym (resolved_part al env w q ws s p ps) ∙ k)

  first_want : (w : Want) (o : Option ℕ) → silent w ≡ o → (ws : List Want) (u : ℕ) (s : Seen) (ps : List Part) (e : Fault) → Ready env u s → IsNextPart w o ps (λ n qs. AreParts ws n qs) → all_mean (w ∷ ws) zero u ≡ true → Behind ws e
      → resolved al env (w ∷ ws) zero s ps ≡ Err e → First (w ∷ ws) zero s ps e
  first_want w (Some n) q ws u s ps e d i m go k = first_silent w n q ws s ps e (go n u s ps d i (mean_silent w n q ws u m) (sym (resolved_silent al env w n q ws s ps) ∙ k))
  first_want w None q ws u s ps e d i m go k = first_part w q ws u s ps e d i m go k

  first_skipped : (w : Want) (ws : List Want) (n : ℕ) (s : Seen) (ps : List Part) (e : Fault) → First ws n s ps e → First (w ∷ ws) (suc n) s ps e
  unfolding resolved
  first_skipped w ws n s ps e h = record { before = h.before; part = h.part; behind = h.behind; parts_are = h.parts_are; none_before = h.none_before; decided = h.decided; within = h.within }

  pub first_fault : (ws : List Want) (k u : ℕ) (s : Seen) (ps : List Part) (e : Fault) → Ready env u s → AreParts ws k ps → all_mean ws k u ≡ true → resolved al env ws k s ps ≡ Err e → First ws k s ps e
  unfolding resolved AreParts
  first_fault [] k u s [] e d i m q = absurd (cc q)
  first_fault [] k u s (p ∷ ps) e d i m q = absurd i
  first_fault (w ∷ ws) (suc n) u s ps e d i m q = first_skipped w ws n s ps e (first_fault ws n u s ps e d i m q)
  first_fault (w ∷ ws) zero u s ps e d i m q = first_want w (silent w) refl ws u s ps e d i m (λ n v t qs a b c f. first_fault ws n v t qs e a b c f) q
