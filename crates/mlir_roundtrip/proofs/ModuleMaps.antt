-- The maps of a printable module and their aliases.
use Rattle.std.proofs.Common.{◌≡◌, true, List, [], ◌∷◌}
use Rattle.std.specs.List.{AllByRecursion, list_all}
use Rattle.std.proofs.lemmas.Bool.{and_parts}
use Rattle.payload_ops.specs.declared.step.StepOp.{StepOp}
use Rattle.payload_ops.specs.declared.step.StepOp.TheVariants as ops
use Rattle.payload_ops.specs.declared.step.PayloadStep.{PayloadStep}
use Rattle.affine_maps.specs.Map.{IsMap}
use Rattle.mlir_ir.specs.declared.tree.Ty.{Ty}
use Rattle.mlir_ir.specs.declared.tree.ValueId.{ValueId}
use Rattle.mlir_ir.specs.declared.tree.OpKind.{OpKind}
use Rattle.mlir_ir.specs.declared.tree.OpKind.TheVariants as kinds
use Rattle.mlir_ir.specs.declared.tree.Op.{Op}
use Rattle.mlir_ir.specs.Shape.{FuncShape}
use Rattle.mlir_print.specs.Names.{Names, Row}
use Rattle.mlir_print.specs.Operations.{next}
use Rattle.mlir_print.specs.Canonical.{names_in}
use Rattle.mlir_print.specs.Maps.{has_map_numbers, op_maps, steps_maps, with_funcs, maps_used}
use Rattle.mlir_print.proofs.LinearMaps.{payload_numbers, linear_is_map}
use Rattle.mlir_roundtrip.specs.Maps.{ArePrintableMaps, FuncsHaveAliases}
use Rattle.mlir_roundtrip.specs.Printable.{IsPrintableKind, IsPrintableLine, IsPrintableReturn, ArePrintableOps, ArePrintable}
use Rattle.mlir_roundtrip.proofs.Aliases.{funcs_all, funcs_have}
use Rattle.mlir_roundtrip.proofs.Regions.{all_both}

-- ---- the maps of a payload's steps

op_printable : (o : StepOp) → has_map_numbers o ≡ true → ArePrintableMaps (op_maps o)
op_printable (ops.Linear c ts) h = (linear_is_map c ts h, tt)
op_printable o h = tt

steps_printable : (ss : List PayloadStep) → list_all (λ (s : PayloadStep). has_map_numbers s.op) ss ≡ true → ArePrintableMaps (steps_maps ss)
steps_printable [] h = tt
steps_printable (s ∷ ss) h =
    let p = and_parts (has_map_numbers s.op) (list_all (λ (s : PayloadStep). has_map_numbers s.op) ss) h in
    all_both IsMap (op_maps s.op) (steps_maps ss) (op_printable s.op p.0) (steps_printable ss p.1)

-- ---- the maps of operations

abbrev pub OpsPrintable : List Op → Type 0
OpsPrintable os = AllByRecursion (λ o. ArePrintableMaps (maps_used o.kind)) os

abbrev pub FuncsPrintable : List FuncShape → Type 0
FuncsPrintable fs = AllByRecursion (λ f. OpsPrintable f.body) fs

kind_maps : (rows : List Row) (ty : Ty) (k : OpKind) → IsPrintableKind rows ty k → ArePrintableMaps (maps_used k)
kind_maps rows ty (kinds.Generic maps its ins out captured p) h = all_both IsMap maps (steps_maps p.steps) h.maps_printable (steps_printable p.steps (payload_numbers p h.payload))
kind_maps rows ty k h = tt

line_maps : (rows : List Row) (rs : List (ValueId × Ty)) (k : OpKind) → IsPrintableLine rows rs k → ArePrintableMaps (maps_used k)
line_maps rows [] k h = absurd h
line_maps rows (r ∷ []) k h = kind_maps rows r.1 k h
line_maps rows (r ∷ (s ∷ rs)) k h = absurd h

return_maps : (rows : List Row) (k : OpKind) → IsPrintableReturn rows k → ArePrintableMaps (maps_used k)
return_maps rows (kinds.Generic maps its ins out captured p) h = absurd h
return_maps rows k h = tt

ops_printable : (n : Names) (os : List Op) → ArePrintableOps n os → OpsPrintable os
ops_printable n [] h = absurd h
ops_printable n (o ∷ []) h = (return_maps n.rows o.kind h.1, tt)
ops_printable n (o ∷ (p ∷ os)) h = (line_maps n.rows o.results o.kind h.0, ops_printable (next n o) (p ∷ os) h.1)

funcs_printable : (fs : List FuncShape) → ArePrintable fs → FuncsPrintable fs
funcs_printable [] h = tt
funcs_printable (f ∷ fs) h = (ops_printable (names_in f) f.body h.0.ops, funcs_printable fs h.1)

-- the aliases of a printable module
pub record AliasesAre (fs : List FuncShape) : Type 0 where
  pub printable : ArePrintableMaps (with_funcs [] fs)
  pub uses : FuncsPrintable fs
  pub have : FuncsHaveAliases (with_funcs [] fs) fs

pub aliases_are : (fs : List FuncShape) → ArePrintable fs → AliasesAre fs
aliases_are fs h = let uses = funcs_printable fs h in record { printable = funcs_all IsMap [] fs tt uses; uses = uses; have = funcs_have [] fs }
