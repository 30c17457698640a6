-- What the parts of an operation stand for, or their first fault: one chain in the order of the tokens.
use Rattle.std.specs.Prelude.{◌≡◌, ℕ, Bool, zero, suc, ◌==◌, true, false, List, [], ◌∷◌, ◌++◌, length, Result, Ok, Err, Option, Some, None, drop}
use Rattle.text_format.specs.declared.class.Class.TheVariants.{Iterator}
use Rattle.text_format.specs.Token.{TokenShape}
use Rattle.form_table.specs.declared.part.Entry as table
use Rattle.form_table.specs.declared.part.Entry.TheVariants as entries
use Rattle.form_table.specs.declared.part.Next.{Next}
use Rattle.form_table.specs.declared.part.Part.{Part}
use Rattle.form_table.specs.declared.part.Part.TheVariants as parts
use Rattle.form_table.specs.declared.want.Element.{Element}
use Rattle.form_table.specs.declared.want.Element.TheVariants as elements
use Rattle.form_table.specs.declared.want.Role.{Role}
use Rattle.form_table.specs.declared.want.Role.TheVariants.{Used, TypeOf, ResultType, OutputType, Held, Repeated}
use Rattle.form_table.specs.declared.want.Want.{Want}
use Rattle.form_table.specs.declared.want.Want.TheVariants as wants
use Rattle.form_resolve.specs.declared.value.Value.{Value}
use Rattle.form_resolve.specs.declared.value.Value.TheVariants.{Id, MoreIds, Typed, Numbers, Indices, Maps, Iterators, Literal, There}
use Rattle.form_resolve.specs.declared.value.Seen.{Seen}
use Rattle.mlir_lex.specs.declared.fault.Fault.{Fault}
use Rattle.mlir_lex.specs.declared.fault.Fault.TheVariants.{Syntax}
use Rattle.mlir_lex.specs.declared.fault.Refused.{Refused}
use Rattle.mlir_lex.specs.declared.fault.Refused.TheVariants.{At, Memory}
use Rattle.mlir_lex.specs.Chain.{and_then, demand, Fails}
use Rattle.mlir_scope.specs.Names.{Entry}
use Rattle.mlir_scope.specs.Maps.{AliasShape}
use Rattle.mlir_scope.specs.Types.{type_at}
use Rattle.form_resolve.specs.Forms.{silent}
use Rattle.form_resolve.specs.Entries.{misfit, entry_place, axis, index, listed, repeated, map_entry, iterators_of, use_of, more_uses, more_types, typed_at, output_type}

-- ---- what is seen

abbrev pub nothing_seen : Seen
nothing_seen = record { used = []; count = zero; missing = zero }

abbrev pub with_used : Seen → List TokenShape → Seen
with_used s ts = record { used = ts; count = s.count; missing = s.missing }

abbrev pub with_count : Seen → ℕ → Seen
with_count s n = record { used = s.used; count = n; missing = s.missing }

abbrev pub with_missing : Seen → ℕ → Seen
with_missing s n = record { used = s.used; count = s.count; missing = n }

-- ---- one part

-- what a part stands for, if anything, how many wants are left out behind it, and what is seen then
abbrev pub Standing : Type 0
Standing = Option Value × (ℕ × Seen)

abbrev pub a_value : Value → Seen → Standing
a_value v s = (Some v, (zero, s))

abbrev pub no_value : Seen → Standing
no_value s = (None, (zero, s))

-- a token, by its role
unfoldable pub token_stands : List Entry → Role → Seen → TokenShape → Result Standing Fault
token_stands env Used s t = and_then (use_of env s.used t) (λ u. Ok (a_value (Id u.1.0 u.1.1) (with_used s u.0)))
token_stands env (TypeOf k) s t = and_then (typed_at env (drop k s.used) t) (λ _. Ok (no_value s))
token_stands env ResultType s t = and_then (type_at t) (λ ty. Ok (a_value (Typed ty) s))
token_stands env OutputType s t = and_then (output_type env s.used t) (λ ty. Ok (a_value (Typed ty) s))
token_stands env Held s t = Err misfit
token_stands env (Repeated n) s t = Err misfit

-- an entry that stands alone; what a number is, the type behind it tells
abbrev pub entry_stands : List Entry → Role → Seen → table.Entry → Result Standing Fault
entry_stands env r s (entries.Token t) = token_stands env r s t
entry_stands env Held s (entries.Number minus digits) = Ok (a_value Literal s)
entry_stands env r s e = Err misfit

-- the entries of a list that the operation holds, by what they are
unfoldable pub held_stand : List AliasShape → List Entry → Element → Seen → Option table.Entry → List Next → Result Standing Fault
held_stand aliases env elements.Literal s o xs = and_then (listed axis o xs) (λ ns. Ok (a_value (Numbers ns) (with_count s (length ns))))
held_stand aliases env elements.Index s o xs = and_then (listed (index env) o xs) (λ is. Ok (a_value (Indices is) (with_count s (length is))))
held_stand aliases env elements.Map s o xs = and_then (listed (map_entry aliases) o xs) (λ ms. Ok (a_value (Maps ms) (with_count s (length ms))))
held_stand aliases env (elements.Leaf Iterator) s o xs = and_then (iterators_of o xs) (λ is. Ok (a_value (Iterators is) (with_count s (length is))))
held_stand aliases env (elements.Leaf c) s o xs = Err misfit

abbrev pub listed_stand : List AliasShape → List Entry → Element → Role → Seen → Option table.Entry → List Next → TokenShape → Result Standing Fault
listed_stand aliases env e Held s o xs close = held_stand aliases env e s o xs
listed_stand aliases env e (Repeated n) s o xs close = and_then (repeated n s.count o xs close) (λ _. Ok (no_value s))
listed_stand aliases env e r s o xs close = Err misfit

-- entries behind another
abbrev pub more_stand : List Entry → Role → Seen → List Next → Result Standing Fault
more_stand env Used s xs = and_then (more_uses env s.used xs) (λ u. Ok (a_value (MoreIds u.1) (with_used s u.0)))
more_stand env (TypeOf k) s xs = and_then (more_types env (drop k s.used) xs) (λ n. Ok (no_value (with_missing s n)))
more_stand env r s xs = Err misfit

-- a kept token: types that are missing are missed there
abbrev pub kept_stands : Seen → table.Entry → Result Standing Fault
kept_stands s x = and_then (demand (s.missing == 0) (Syntax (entry_place x))) (λ _. Ok (no_value s))

abbrev pub choice_stands : ℕ → Seen → Bool → Standing
choice_stands n s true = (Some (There true), (zero, s))
choice_stands n s false = (Some (There false), (n, s))

-- a part, by its want
unfoldable pub stands : List AliasShape → List Entry → Want → Seen → Part → Result Standing Fault
stands aliases env (wants.One e r) s (parts.One x) = entry_stands env r s x
stands aliases env (wants.Kept l) s (parts.One x) = kept_stands s x
stands aliases env (wants.Listed e close r) s (parts.Listed o xs t) = listed_stand aliases env e r s o xs t
stands aliases env (wants.More e r) s (parts.More xs) = more_stand env r s xs
stands aliases env wants.Dense s (parts.Dense ds) = Ok (a_value Literal s)
stands aliases env (wants.Maybe l n) s (parts.There b) = Ok (choice_stands n s b)
stands aliases env w s p = Err misfit

-- ---- the parts of a form

abbrev pub with_some : Option Value → Result (List Value) Fault → Result (List Value) Fault
with_some None r = r
with_some (Some v) r = and_then r (λ vs. Ok (v ∷ vs))

-- a want that isn't left out, and what is behind it
abbrev pub taken : List AliasShape → List Entry → Want → Option ℕ → Seen → List Part → (ℕ → Seen → List Part → Result (List Value) Fault) → Result (List Value) Fault
taken al env w (Some k) s ps behind = behind k s ps
taken al env w None s [] behind = Err misfit
taken al env w None s (p ∷ ps) behind = and_then (stands al env w s p) (λ x. with_some x.0 (behind x.1.0 x.1.1 ps))

-- what these parts stand for, for these wants, where the first k are left out
unfoldable pub resolved : List AliasShape → List Entry → List Want → ℕ → Seen → List Part → Result (List Value) Fault
resolved al env [] k s [] = Ok []
resolved al env [] k s (p ∷ ps) = Err misfit
resolved al env (w ∷ ws) (suc k) s ps = resolved al env ws k s ps
resolved al env (w ∷ ws) zero s ps = taken al env w (silent w) s ps (λ k t qs. resolved al env ws k t qs)

-- ---- what the code answers

-- the values so far before those that follow
abbrev pub behind_values : List Value → Result (List Value) Fault → Result (List Value) Fault
behind_values vs r = and_then r (λ us. Ok (vs ++ us))

-- the code has left what is seen then
abbrev pub Stood : Seen → Result (Option Value × ℕ) Refused → Result Standing Fault → Type 0
Stood s (Ok x) r = r ≡ Ok (x.0, (x.1, s))
Stood s (Err e) r = Fails e r

-- the code has gone from a want to those behind it, past so many parts, or has found the first fault
abbrev pub Goes : List AliasShape → List Entry → Want → ℕ → Seen → List Value → List Part → ℕ → Seen → List Value → Result (ℕ × ℕ) Refused → Type 0
Goes al env w k s vs ps gone new us (Ok x) = (ws : List Want) → behind_values us (resolved al env ws x.0 new (drop x.1 ps)) ≡ behind_values vs (resolved al env (w ∷ ws) k s (drop gone ps))
Goes al env w k s vs ps gone new us (Err Memory) = Unit {0}
Goes al env w k s vs ps gone new us (Err (At e)) = (ws : List Want) → resolved al env (w ∷ ws) k s (drop gone ps) ≡ Err e
