-- A verified module by its functions: bodies that pass, numbers that don't repeat, and limits that are kept.
use Rattle.std.specs.Prelude.{◌≡◌, ◌&&◌, Bool, true, false, List, []}
use Rattle.std.specs.List.{flat_map, list_all}
use Rattle.mlir_ir.specs.Shape.{FuncShape}
use Rattle.mlir_ir.specs.declared.tree.Module.{Module}
use Rattle.mlir_meaning.specs.Grids.{Each}
use Rattle.mlir_verify.specs.Names.{redefines, defined_in, ids}
use Rattle.mlir_verify.specs.Limits.{has_small_signature, is_small_op}
use Rattle.verified_runs.specs.Passes.{FuncPasses}

-- the signature and each operation keep the limits
abbrev pub is_small_func : FuncShape → Bool
is_small_func f = has_small_signature f && list_all is_small_op f.body

-- no number of a value stands twice, and none of an operation
pub record HasOwnNumbers (fs : List FuncShape) : Type 0 where
  pub values : redefines (defined_in fs) [] ≡ false
  pub ops : redefines (flat_map (λ f. ids f.body) fs) [] ≡ false

pub record ModulePasses (m : Module) : Type 0 where
  pub funcs : Each FuncPasses m.funcs
  pub numbers : HasOwnNumbers m.funcs
  pub small : list_all is_small_func m.funcs ≡ true
