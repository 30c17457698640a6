-- What holds of the values that a tree defines.
use Rattle.std.proofs.Common.{ℕ, List, [], ◌∷◌}
use Rattle.mlir_ir.specs.declared.tree.Op.{Op}
use Rattle.mlir_ir.specs.declared.tree.ValueId.{ValueId}
use Rattle.mlir_ir.specs.declared.tree.OpKind.{OpKind, For', Forall', Row_of-Op, end_of-Op, more_of-Op}
use Rattle.mlir_meaning.specs.Grids.{Each}
use Rattle.mlir_meaning.specs.Loops.{arguments}
use Rattle.mlir_meaning.specs.Names.{DefinesOnly, RowDefinesOnly, OpsDefineOnly}
use Rattle.mlir_meaning.specs.States.{names_of}
use Rattle.mlir_meaning.proofs.Grids.{each_more}

pub each_any : {X : Type 0} (P : X → Type 0) → ((x : X) → P x) → (xs : List X) → Each P xs
each_any P f [] = tt
each_any P f (x ∷ xs) = (f x, each_any P f xs)

-- what holds of any value
module _ (D : ℕ → Type 0) (any : (v : ℕ) → D v) where
  each_value : (vs : List ValueId) → Each (λ v. D v.0) vs
  each_value = each_any (λ (v : ValueId). D v.0) (λ v. any v.0)

  mutual
    unfolding DefinesOnly

    defines_any : (kind : OpKind) → DefinesOnly D kind
    defines_any (For' var lower upper step carried shape row) = (any var.0, each_value (arguments carried), row_any row)
    defines_any (Forall' vars lower upper step shared shape row) = (each_value vars, each_value (arguments shared), row_any row)
    defines_any _ = tt

    row_any : {n : _} (row : Row_of-Op n) → RowDefinesOnly D row
    row_any end_of-Op = tt
    row_any (more_of-Op id rs kind rest) = ((each_value (names_of rs), defines_any kind), row_any rest)

  pub ops_any : (os : List Op) → OpsDefineOnly D os
  ops_any = each_any _ (λ o. (each_value (names_of o.results), defines_any o.kind))

-- what follows from what holds
module _ (D E : ℕ → Type 0) (more : (v : ℕ) → D v → E v) where
  each_value_more : (vs : List ValueId) → Each (λ v. D v.0) vs → Each (λ v. E v.0) vs
  each_value_more = each_more (λ (v : ValueId). D v.0) (λ v. E v.0) (λ v. more v.0)

  mutual
    unfolding DefinesOnly

    defines_more : (kind : OpKind) → DefinesOnly D kind → DefinesOnly E kind
    defines_more (For' var lower upper step carried shape row) h = (more var.0 h.0, each_value_more (arguments carried) h.1, row_more row h.2)
    defines_more (Forall' vars lower upper step shared shape row) h = (each_value_more vars h.0, each_value_more (arguments shared) h.1, row_more row h.2)
    defines_more _ h = tt

    row_more : {n : _} (row : Row_of-Op n) → RowDefinesOnly D row → RowDefinesOnly E row
    row_more end_of-Op h = tt
    row_more (more_of-Op id rs kind rest) h = ((each_value_more (names_of rs) h.0.0, defines_more kind h.0.1), row_more rest h.1)

  pub ops_more : (os : List Op) → OpsDefineOnly D os → OpsDefineOnly E os
  ops_more = each_more _ _ (λ (o : Op) h. (each_value_more (names_of o.results) h.0, defines_more o.kind h.1))
