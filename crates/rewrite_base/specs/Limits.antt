-- The limits on modules that a step may pass, in their order. They are the product's own. The limits on ranks, dimensions,
-- extents and elements are V14, which a formed module keeps.
use Rattle.std.specs.Prelude.{ℕ, ◌^◌, ◌||◌, nat_lt, Bool, false, List, [], ◌∷◌, length, Option, Some, None, if◌then◌else◌}
use Rattle.std.specs.List.{list_any}
use Rattle.mlir_base.specs.declared.limit.Which.{Which}
use Rattle.mlir_base.specs.declared.limit.Which.TheVariants.{Operations, Depth, PayloadSteps}
use Rattle.mlir_ir.specs.Count.{module_count}
use Rattle.mlir_ir.specs.Depth.{depth_of}
use Rattle.mlir_ir.specs.Shape.{FuncShape}
use Rattle.mlir_ir.specs.declared.tree.Module.{Module}
use Rattle.mlir_ir.specs.declared.tree.Op.{Op}
use Rattle.mlir_ir.specs.declared.tree.OpKind.{OpKind, Generic, For', Forall', Row_of-Op, end_of-Op, more_of-Op}
use Rattle.verified_runs.specs.Fresh.{fresh_value, fresh_op}

-- a number of a value or of an operation is 2^31 or more
abbrev pub has_large_numbers : List FuncShape → Bool
has_large_numbers fs = nat_lt (2 ^ 31) (fresh_value fs) || nat_lt (2 ^ 31) (fresh_op fs)

abbrev pub has_many_operations : List FuncShape → Bool
has_many_operations fs = nat_lt 65536 (module_count fs)

-- an operation with more than 64 loops around it
abbrev pub is_deep : List FuncShape → Bool
is_deep fs = nat_lt 64 (depth_of fs)

abbrev mutual
  -- a payload of more than 1,024 steps, at an operation of this kind or inside it
  pub has_long_payload : OpKind → Bool
  has_long_payload (Generic maps iterators ins outs captured payload) = nat_lt 1024 (length payload.steps)
  has_long_payload (For' v l u s c shape row) = has_long_row row
  has_long_payload (Forall' v l u s c shape row) = has_long_row row
  has_long_payload _ = false

  pub has_long_row : {n : _} → Row_of-Op n → Bool
  has_long_row end_of-Op = false
  has_long_row (more_of-Op id results kind rest) = has_long_payload kind || has_long_row rest

abbrev pub has_long_payloads : List FuncShape → Bool
has_long_payloads fs = list_any (λ (f : FuncShape). list_any (λ (o : Op). has_long_payload o.kind) f.body) fs

-- the first limit that a formed module passes
abbrev pub passed : List FuncShape → Option Which
passed fs =
    if has_many_operations fs then Some Operations
    else (if is_deep fs then Some Depth else (if has_long_payloads fs then Some PayloadSteps else None))

-- the first limit that a step passes which forms the second module from the first
abbrev pub limit_of : Module → Module → Option Which
limit_of m formed = if has_large_numbers m.funcs then Some Operations else passed formed.funcs
