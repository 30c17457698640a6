-- What an entry of a list stands for, and the types that are written for values, or the first fault.
use Rattle.std.specs.Prelude.{ℕ, suc, ◌-◌, pos, Bool, true, false, nat_le, nat_lt, nat_eq, ◌==◌, List, [], ◌∷◌, ◌++◌, map, codes, length, drop, Result, Ok, Err, Option, Some, None}
use Rattle.std.specs.Str.{bytes_eq}
use Rattle.mlir_base.specs.declared.types.ElemTy.{ElemTy}
use Rattle.mlir_base.specs.declared.limit.Which.TheVariants as limits
use Rattle.affine_maps.specs.Shape.{MapShape}
use Rattle.mlir_ir.specs.declared.tree.Ty.{Ty}
use Rattle.mlir_ir.specs.declared.tree.Idx.{Idx}
use Rattle.mlir_ir.specs.declared.tree.Idx.TheVariants as indices
use Rattle.mlir_ir.specs.declared.tree.Iter.{Iter}
use Rattle.mlir_ir.specs.declared.tree.Iter.TheVariants.{Parallel, Reduction}
use Rattle.mlir_ir.specs.declared.tree.ValueId.{ValueId}
use Rattle.text_format.specs.Token.{TokenShape}
use Rattle.form_table.specs.declared.part.Entry as parts
use Rattle.form_table.specs.declared.part.Entry.TheVariants as entries
use Rattle.form_table.specs.declared.part.Next.{Next}
use Rattle.form_table.specs.declared.part.MapPiece as read
use Rattle.form_table.specs.declared.part.WrittenMap as table
use Rattle.mlir_syntax.specs.declared.tree.maps.MapPiece.{MapPiece}
use Rattle.mlir_syntax.specs.declared.tree.maps.WrittenMap.{WrittenMap}
use Rattle.mlir_syntax.specs.declared.tree.maps.MapUse.TheVariants as uses
use Rattle.mlir_lex.specs.declared.fault.Fault.{Fault}
use Rattle.mlir_lex.specs.declared.fault.Fault.TheVariants.{Syntax, Unsupported, Number, Limit}
use Rattle.mlir_lex.specs.Chain.{and_then, demand, each, thread}
use Rattle.mlir_scope.specs.Names.{Entry}
use Rattle.mlir_scope.specs.Scope.{value_id, operand_of, type_of, typed_as}
use Rattle.mlir_scope.specs.Literals.{digits_value}
use Rattle.mlir_scope.specs.Maps.{AliasShape, map_of}

-- what isn't of the form; no reader gives it, and it stands for a fault behind all tokens
abbrev pub misfit : Fault
misfit = Syntax 4294967295

-- ---- numbers

abbrev pub entry_place : parts.Entry → ℕ
entry_place (entries.Token t) = t.start
entry_place (entries.Number None digits) = digits.start
entry_place (entries.Number (Some minus) digits) = minus.start
entry_place (entries.Map m) = m.keyword.start

-- an axis or an entry of an order lies from 0 to 1,048,576
abbrev pub is_axis : Bool → ℕ → Bool
is_axis false n = nat_le n 1048576
is_axis true n = n == 0

abbrev pub number_at : Bool → ℕ → TokenShape → Result ℕ Fault
number_at negative at digits = and_then (demand (is_axis negative (digits_value digits.text)) (Number at at)) (λ _. Ok (digits_value digits.text))

abbrev pub axis : parts.Entry → Result ℕ Fault
axis (entries.Number None digits) = number_at false digits.start digits
axis (entries.Number (Some minus) digits) = number_at true minus.start digits
axis (entries.Token t) = Err misfit
axis (entries.Map m) = Err misfit

-- an entry that must be this number
abbrev pub is_number : ℕ → parts.Entry → Result (Unit {0}) Fault
is_number wanted e = and_then (axis e) (λ n. demand (nat_eq n wanted) (Unsupported (entry_place e)))

-- ---- values or numbers

abbrev pub as_value : Result ℕ Fault → Result Idx Fault
as_value r = and_then r (λ n. Ok (indices.Literal (pos n)))

abbrev pub index : List Entry → parts.Entry → Result Idx Fault
index env (entries.Token t) = and_then (value_id env t) (λ v. Ok (indices.Value v))
index env (entries.Number minus digits) = as_value (axis (entries.Number minus digits))
index env (entries.Map m) = Err misfit

-- ---- lists

-- these, and those behind them
abbrev pub behind : {B : Type 0} → List B → Result (List B) Fault → Result (List B) Fault
behind ys r = and_then r (λ zs. Ok (ys ++ zs))

abbrev pub next_axis : Next → Result ℕ Fault
next_axis x = axis x.entry

abbrev pub next_index : List Entry → Next → Result Idx Fault
next_index env x = index env x.entry

-- each entry of a list
abbrev pub listed : {B : Type 0} → (parts.Entry → Result B Fault) → Option parts.Entry → List Next → Result (List B) Fault
listed f None xs = behind [] (each (λ x. f x.entry) xs)
listed f (Some e) xs = and_then (f e) (λ y. behind (y ∷ []) (each (λ x. f x.entry) xs))

-- one of so many entries, which must be this number: a fault at the place of a surplus one. How many are left
abbrev pub one_repeated : ℕ → ℕ → ℕ → parts.Entry → Result ℕ Fault
one_repeated wanted left at e = and_then (demand (nat_lt 0 left) (Syntax at)) (λ _. and_then (is_number wanted e) (λ _. Ok (left - 1)))

-- the same of entries, each behind a comma
abbrev pub more_repeated : ℕ → ℕ → List Next → Result ℕ Fault
more_repeated wanted left [] = Ok left
more_repeated wanted left (x ∷ xs) = and_then (one_repeated wanted left x.comma.start x.entry) (λ n. more_repeated wanted n xs)

abbrev pub entries_repeated : ℕ → ℕ → Option parts.Entry → List Next → Result ℕ Fault
entries_repeated wanted left None xs = more_repeated wanted left xs
entries_repeated wanted left (Some e) xs = and_then (one_repeated wanted left (entry_place e) e) (λ n. more_repeated wanted n xs)

-- so many entries are this number: too few are missed at the closing token
abbrev pub repeated : ℕ → ℕ → Option parts.Entry → List Next → TokenShape → Result (Unit {0}) Fault
repeated wanted count o xs close = and_then (entries_repeated wanted count o xs) (λ left. demand (left == 0) (Syntax close.start))

-- ---- maps

-- the same, as maps are read elsewhere in a text
abbrev pub as_piece : read.MapPiece → MapPiece
as_piece p = record { token = p.token }

abbrev pub as_written : table.WrittenMap → WrittenMap
as_written m = record { keyword = m.keyword; less = m.less; tokens = map as_piece m.tokens; greater = m.greater }

-- the map of an alias in scope, or a written one; a map without symbols
abbrev pub map_entry : List AliasShape → parts.Entry → Result MapShape Fault
map_entry aliases (entries.Token t) = map_of aliases (uses.Alias t)
map_entry aliases (entries.Map m) = map_of aliases (uses.Written (as_written m))
map_entry aliases (entries.Number minus digits) = Err misfit

abbrev pub next_map : List AliasShape → Next → Result MapShape Fault
next_map aliases x = map_entry aliases x.entry

-- ---- iterators

abbrev pub iterator_in : Bool → Iter
iterator_in true = Parallel
iterator_in false = Reduction

-- iterator k
abbrev pub iterator_of : ℕ → TokenShape → Result Iter Fault
iterator_of k t = and_then (demand (nat_lt k 12) (Limit limits.Loops t.start)) (λ _. Ok (iterator_in (bytes_eq t.text (codes "\"parallel\""))))

abbrev pub iterator_entry : ℕ → parts.Entry → Result Iter Fault
iterator_entry k (entries.Token t) = iterator_of k t
iterator_entry k (entries.Number minus digits) = Err misfit
iterator_entry k (entries.Map m) = Err misfit

-- from number k on
abbrev pub iterators_from : ℕ → List Next → Result (List Iter) Fault
iterators_from k [] = Ok []
iterators_from k (x ∷ xs) = and_then (iterator_entry k x.entry) (λ i. and_then (iterators_from (suc k) xs) (λ is. Ok (i ∷ is)))

abbrev pub iterators_of : Option parts.Entry → List Next → Result (List Iter) Fault
iterators_of None xs = behind [] (iterators_from 0 xs)
iterators_of (Some e) xs = and_then (iterator_entry 0 e) (λ i. behind (i ∷ []) (iterators_from 1 xs))

-- ---- values that are used

-- one more value behind these: its number and the type of its elements
abbrev pub use_of : List Entry → List TokenShape → TokenShape → Result (List TokenShape × (ValueId × ElemTy)) Fault
use_of env used t = and_then (operand_of env (length used) t) (λ v. Ok (used ++ t ∷ [], v))

abbrev pub next_use : List Entry → List TokenShape → parts.Entry → Result (List TokenShape × (ValueId × ElemTy)) Fault
next_use env used (entries.Token t) = use_of env used t
next_use env used (entries.Number minus digits) = Err misfit
next_use env used (entries.Map m) = Err misfit

abbrev pub more_uses : List Entry → List TokenShape → List Next → Result (List TokenShape × List (ValueId × ElemTy)) Fault
more_uses env used xs = thread (λ ts x. next_use env ts x.entry) used xs

-- ---- types

-- the type that is written for the first of these values is its type
abbrev pub typed_at : List Entry → List TokenShape → TokenShape → Result (Unit {0}) Fault
typed_at env [] ty = Err misfit
typed_at env (t ∷ ts) ty = typed_as env t ty

-- the type of the first of these values
abbrev pub type_of_at : List Entry → List TokenShape → Result Ty Fault
type_of_at env [] = Err misfit
type_of_at env (t ∷ ts) = type_of env t

abbrev pub last_of : List TokenShape → List TokenShape
last_of used = drop (length used - 1) used

-- the type that is written is that of the last value
abbrev pub output_type : List Entry → List TokenShape → TokenShape → Result Ty Fault
output_type env used ty = and_then (typed_at env (last_of used) ty) (λ _. type_of_at env (last_of used))

-- the type that is written for a value is its type
abbrev pub type_entry : List Entry → TokenShape → parts.Entry → Result (Unit {0}) Fault
type_entry env t (entries.Token ty) = typed_as env t ty
type_entry env t (entries.Number minus digits) = Err misfit
type_entry env t (entries.Map m) = Err misfit

-- the types of these values, one for each: a fault at the surplus comma. How many are missing
abbrev pub more_types : List Entry → List TokenShape → List Next → Result ℕ Fault
more_types env ts [] = Ok (length ts)
more_types env [] (x ∷ xs) = Err (Syntax x.comma.start)
more_types env (t ∷ ts) (x ∷ xs) = and_then (type_entry env t x.entry) (λ _. more_types env ts xs)
