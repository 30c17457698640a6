-- What an operation of a tree stands for, or its first fault: one chain in the order of the tokens.
-- Operations and values are numbered 0, 1 and so on in the order in which they are defined.
use Rattle.std.specs.Prelude.{ℕ, suc, List, [], ◌∷◌, ◌++◌, Result, Ok, nat_lt}
use Rattle.mlir_ir.specs.declared.tree.Ty.{Ty}
use Rattle.mlir_ir.specs.declared.tree.OpKind.{OpKind}
use Rattle.mlir_ir.specs.declared.tree.OpKind.TheVariants as kinds
use Rattle.mlir_ir.specs.declared.tree.Op.{Op}
use Rattle.mlir_base.specs.declared.limit.Which.TheVariants as limits
use Rattle.text_format.specs.Token.{TokenShape}
use Rattle.mlir_syntax.specs.declared.tree.operations.Operation.{Operation}
use Rattle.mlir_syntax.specs.declared.tree.operations.Operation.TheVariants as operations
use Rattle.mlir_syntax.specs.declared.tree.operations.Statement.{Statement}
use Rattle.mlir_scope.specs.declared.names.Scope.{Scope}
use Rattle.mlir_lex.specs.declared.fault.Fault.{Fault}
use Rattle.mlir_lex.specs.declared.fault.Fault.TheVariants.{Limit}
use Rattle.mlir_lex.specs.Chain.{and_then, demand, thread}
use Rattle.mlir_scope.specs.Names.{Entry, entry}
use Rattle.mlir_scope.specs.Maps.{AliasShape}
use Rattle.mlir_scope.specs.Types.{type_at}
use Rattle.mlir_scope.specs.Scope.{fresh}
use Rattle.mlir_resolve.specs.Constants.{constant_of, result_meaning}
use Rattle.mlir_resolve.specs.Generics.{generic_of}
use Rattle.mlir_resolve.specs.Structured.{fill_of, product_of, transpose_of, broadcast_of}

-- one more operation is within the limit
abbrev pub room : ℕ → TokenShape → Result (Unit {0}) Fault
room ops t = demand (nat_lt ops 65536) (Limit limits.Operations t.start)

-- where the operation's name stands
abbrev pub name_in : Operation → TokenShape
name_in (operations.Constant c) = c.name
name_in (operations.Empty e) = e.name
name_in (operations.Generic g) = g.name
name_in (operations.Fill f) = f.name
name_in (operations.Matmul m) = m.name
name_in (operations.BatchMatmul m) = m.name
name_in (operations.Transpose t) = t.name
name_in (operations.Broadcast b) = b.name

-- the type of the result, and the operation
unfoldable pub kind_of : List AliasShape → List Entry → Operation → Result (Ty × OpKind) Fault
kind_of aliases env (operations.Constant c) = constant_of c.literal
kind_of aliases env (operations.Empty e) = and_then (type_at e.ty) (λ ty. Ok (ty, kinds.Empty []))
kind_of aliases env (operations.Generic g) = generic_of aliases env g
kind_of aliases env (operations.Fill f) = fill_of env f
kind_of aliases env (operations.Matmul m) = product_of kinds.Matmul env m.factors
kind_of aliases env (operations.BatchMatmul m) = product_of kinds.BatchMatmul env m.factors
kind_of aliases env (operations.Transpose t) = transpose_of env t
kind_of aliases env (operations.Broadcast b) = broadcast_of env b

abbrev pub operation_of : List AliasShape → Scope → Operation → Result (Ty × OpKind) Fault
operation_of aliases s o = and_then (room s.ops (name_in o)) (λ _. kind_of aliases s.env o)

-- the scope behind the next operation, whose result has this name and this type
abbrev pub next_scope : Scope → List ℕ → Ty → OpKind → Scope
next_scope s name ty kind = record { env = s.env ++ entry name (result_meaning s.values ty kind) ∷ []; values = suc s.values; ops = suc s.ops }

abbrev pub numbered_op : ℕ → ℕ → Ty → OpKind → Op
numbered_op number value ty kind = record { id = record { 0 = number }; results = (record { 0 = value }, ty) ∷ []; kind = kind }

-- the next operation gives the next value
abbrev pub numbered : Scope → List ℕ → Ty × OpKind → Scope × Op
numbered s name k = (next_scope s name k.0 k.1, numbered_op s.ops s.values k.0 k.1)

abbrev pub statement_of : List AliasShape → Scope → Statement → Result (Scope × Op) Fault
statement_of aliases s o = and_then (fresh s.env o.result) (λ _. and_then (operation_of aliases s o.operation) (λ k. Ok (numbered s o.result.text k)))

abbrev pub statements_of : List AliasShape → Scope → List Statement → Result (Scope × List Op) Fault
statements_of aliases s os = thread (statement_of aliases) s os
