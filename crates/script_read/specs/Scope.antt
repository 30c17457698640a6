-- The handles of a script in scope (Transform dialect, "transform.named_sequence": handles are values, used behind their definition).
use Rattle.std.specs.Prelude.{ℕ, ◌+◌, suc, List, [], ◌∷◌, ◌++◌, Result, Ok, Err, Option, Some, None, is_none, nat_lt, if◌then◌else◌}
use Rattle.text_format.specs.Token.{TokenShape}
use Rattle.mlir_lex.specs.declared.fault.Fault.{Fault}
use Rattle.mlir_lex.specs.declared.fault.Fault.TheVariants.{UnknownName, Twice}
use Rattle.mlir_lex.specs.Chain.{and_then, demand}
use Rattle.script_syntax.specs.declared.tree.results.NextResult.{NextResult}
use Rattle.script_read.specs.declared.script.HandleId.{HandleId}
use Rattle.script_read.specs.declared.names.Meaning.{Meaning}
use Rattle.script_read.specs.declared.names.Meaning.TheVariants.{One, Group}
use Rattle.script_read.specs.declared.names.Scope.{Scope}
use Rattle.script_read.specs.Names.{Entry, entry, find, parted}
use Rattle.script_read.specs.Numbers.{number_of}

abbrev pub handle_id : ℕ → HandleId
handle_id n = record { 0 = n }

-- ---- definitions

-- no name of this text is in scope
abbrev pub fresh : List Entry → TokenShape → Result (Unit {0}) Fault
fresh env t = demand (is_none (find env t.text)) (Twice t.start)

-- the next handle has this name
abbrev pub with_handle : Scope → List ℕ → Scope
with_handle s name = record { env = s.env ++ entry name (One s.next) ∷ []; next = suc s.next; steps = s.steps }

-- the next handles, so many, have this name
abbrev pub with_group : Scope → List ℕ → ℕ → Scope
with_group s name count = record { env = s.env ++ entry name (Group s.next (s.next + count)) ∷ []; next = s.next + count; steps = s.steps }

abbrev pub define : Scope → TokenShape → Result Scope Fault
define s t = and_then (fresh s.env t) (λ _. Ok (with_handle s t.text))

abbrev pub define_each : Scope → List NextResult → Result Scope Fault
define_each s [] = Ok s
define_each s (n ∷ ns) = and_then (define s n.name) (λ d. define_each d ns)

-- ---- uses

-- of the handles from `first` up to `end`, the one that the digits number
abbrev pub part_of : ℕ → ℕ → List ℕ → Option HandleId
part_of first end digits = if nat_lt (first + number_of digits) end then Some (handle_id (first + number_of digits)) else None

-- A name stands for a handle, and a group's name with a number for one of the group.
abbrev pub stands_for : Option Meaning → Option (List ℕ) → Option HandleId
stands_for (Some (One n)) None = Some (handle_id n)
stands_for (Some (Group first end)) (Some digits) = part_of first end digits
stands_for _ _ = None

-- A step uses handles that were defined before it: their numbers lie below `next`, that of its first result.
abbrev pub known : ℕ → ℕ → Option HandleId → Result HandleId Fault
known next at None = Err (UnknownName at)
known next at (Some h) = and_then (demand (nat_lt h.0 next) (UnknownName at)) (λ _. Ok h)

abbrev pub handle : List Entry → ℕ → TokenShape → Result HandleId Fault
handle env next t = known next t.start (stands_for (find env (parted t.text).0) (parted t.text).1)
