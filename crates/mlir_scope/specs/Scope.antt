-- The values of a function in scope (MLIR LangRef, "High-Level Structure": a value is used where its definition dominates).
use Rattle.std.specs.Prelude.{◌≡◌, true, ℕ, ◌+◌, ◌≤◌, suc, List, [], ◌∷◌, ◌++◌, Result, Ok, Err, Option, Some, None, is_none, nat_lt, ◌*◌, length}
use Rattle.mlir_base.specs.declared.types.ElemTy.{ElemTy}
use Rattle.mlir_ir.specs.declared.tree.Ty.{Ty}
use Rattle.mlir_ir.specs.declared.tree.Ty.TheVariants.{Scalar}
use Rattle.mlir_ir.specs.declared.tree.ValueId.{ValueId}
use Rattle.mlir_base.specs.declared.limit.Which.TheVariants as limits
use Rattle.text_format.specs.Token.{TokenShape}
use Rattle.mlir_syntax.specs.declared.tree.files.Param.{Param}
use Rattle.mlir_scope.specs.declared.names.Meaning.{Meaning}
use Rattle.mlir_scope.specs.declared.names.Meaning.TheVariants.{Held, Constant, Local}
use Rattle.mlir_scope.specs.declared.names.Scope.{Scope}
use Rattle.mlir_lex.specs.declared.fault.Fault.{Fault}
use Rattle.mlir_lex.specs.declared.fault.Fault.TheVariants.{UnknownName, Twice, Limit}
use Rattle.mlir_lex.specs.Chain.{and_then, demand, thread}
use Rattle.mlir_scope.specs.Names.{Entry, entry, find}
use Rattle.std.specs.List.{AllByRecursion}
use Rattle.mlir_scope.specs.Types.{type_at, same_type, same_elem, elem_of}
use Rattle.mlir_scope.specs.Literals.{is_literal}

-- no name of this text is in scope
abbrev pub fresh : List Entry → TokenShape → Result (Unit {0}) Fault
fresh env t = demand (is_none (find env t.text)) (Twice t.start)

abbrev pub held : ℕ → Option Meaning → Result (ℕ × Ty) Fault
held at (Some (Held n ty)) = Ok (n, ty)
held at (Some (Constant n e v)) = Ok (n, Scalar e)
held at (Some (Local a e)) = Err (UnknownName at)
held at None = Err (UnknownName at)

-- the number and the type of a value of the function
abbrev pub value : List Entry → TokenShape → Result (ℕ × Ty) Fault
value env t = held t.start (find env t.text)

-- the type that is written is this one, of a scalar or of a tensor
abbrev pub same_operand : Ty → TokenShape → Result (Unit {0}) Fault
same_operand (Scalar e) t = same_elem e t
same_operand ty t = same_type ty t

-- the type that is written for a value is the value's
abbrev pub typed_as : List Entry → TokenShape → TokenShape → Result (Unit {0}) Fault
typed_as env name ty = and_then (value env name) (λ v. same_operand v.1 ty)

-- the number of a value of the function
abbrev pub value_id : List Entry → TokenShape → Result ValueId Fault
value_id env t = and_then (value env t) (λ v. Ok (record { 0 = v.0 }))

-- the type of a value of the function
abbrev pub type_of : List Entry → TokenShape → Result Ty Fault
type_of env t = and_then (value env t) (λ v. Ok v.1)

-- operand k of a generic: its number and its element type
abbrev pub operand_of : List Entry → ℕ → TokenShape → Result (ValueId × ElemTy) Fault
operand_of env k t =
    and_then (value env t) (λ v. and_then (demand (nat_lt k 64) (Limit limits.Operands t.start)) (λ _. Ok (record { 0 = v.0 }, elem_of v.1)))

-- the next value has this name and this type
abbrev pub with_value : Scope → List ℕ → Ty → Scope
with_value s name ty = record { env = s.env ++ entry name (Held s.values ty) ∷ []; values = suc s.values; ops = s.ops }

-- a parameter; the names so far are those before it
abbrev pub param_of : Scope → Param → Result (Scope × (ValueId × Ty)) Fault
param_of s p =
    and_then (fresh s.env p.name) (λ _. and_then (demand (nat_lt (length s.env) 64) (Limit limits.Parameters p.name.start)) (λ _.
    and_then (type_at p.ty) (λ ty. Ok (with_value s p.name.text ty, (record { 0 = s.values }, ty)))))

abbrev pub params_of : Scope → List Param → Result (Scope × List (ValueId × Ty)) Fault
params_of s ps = thread param_of s ps

abbrev pub IsHeld : Meaning → Type 0
IsHeld (Held n ty) = Unit {0}
IsHeld (Constant n e v) = is_literal e v ≡ true
IsHeld (Local a e) = ⊥

-- outside of payloads each name stands for a value of the function, and each constant has a value of its type
abbrev pub IsOuter : List Entry → Type 0
IsOuter env = AllByRecursion (λ e. IsHeld e.means) env

-- the numbers of a function's values fit: each function before it has an operation, and each operation brings at most 65 values
pub record IsSound (s : Scope) : Type 0 where
  pub outer : IsOuter s.env
  pub few : s.values ≤ 64 + 65 * s.ops
  pub ops : s.ops ≤ 65536

-- the same where the names so far are parameters
pub record IsOpening (s : Scope) : Type 0 where
  pub outer : IsOuter s.env
  pub few : s.values ≤ length s.env + 65 * s.ops
  pub params : length s.env ≤ 64
  pub ops : s.ops ≤ 65536
