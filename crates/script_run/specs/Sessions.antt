-- Sessions: a module, and handles with the targets in it that they name (Transform manual, "Transform Dialect").
use Rattle.std.specs.Prelude.{◌≡◌, ◌&&◌, not, is_some, nat_lt, Bool, true, List, [], ◌∷◌, length, Option, Some, None}
use Rattle.std.specs.List.{list_all}
use Rattle.mlir_ir.specs.Count.{find_in}
use Rattle.mlir_ir.specs.declared.tree.Module.{Module}
use Rattle.mlir_verify.specs.Rules.{IsVerified}
use Rattle.transform_handles.specs.Targets.{is_one_of}
use Rattle.transform_handles.specs.Handles.{Row}
use Rattle.transform_handles.specs.declared.target.Target.{Target}
use Rattle.transform_handles.specs.declared.target.Target.TheVariants.{Root, Function, Operation}
use Rattle.script_read.specs.declared.script.HandleId.{HandleId}

-- the rows are the handles in the order of their definition
pub record SessionShape : Type 0 where
  pub «module» : Module
  pub rows : List Row

-- the first handle names the module
abbrev pub opened : Module → HandleId → SessionShape
opened m root = record { «module» = m; rows = (root.0, Some (Root ∷ [])) ∷ [] }

-- WHAT EACH SESSION KEEPS
-- a target stands in the module
abbrev pub stands_in : Module → Target → Bool
stands_in m Root = true
stands_in m (Function k) = nat_lt k (length m.funcs)
stands_in m (Operation i) = is_some (find_in i m.funcs)

-- none is named twice
abbrev pub are_different : List Target → Bool
are_different [] = true
are_different (t ∷ ts) = not (is_one_of t ts) && are_different ts

abbrev pub are_targets : Module → List Target → Bool
are_targets m ts = list_all (stands_in m) ts && are_different ts

-- a dead handle names nothing
abbrev pub are_named : Module → Option (List Target) → Bool
are_named m None = true
are_named m (Some ts) = are_targets m ts

-- the module verifies, and each live handle names different targets that stand in it
abbrev pub IsSession : SessionShape → Type 0
IsSession x = IsVerified x.module × (list_all (λ (r : Row). are_named x.module r.1) x.rows ≡ true)
