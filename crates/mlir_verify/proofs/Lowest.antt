-- The lowest rule of an operation, put together from the parts.
use Rattle.std.proofs.Common.{◌≡◌, Bool, true, false, Some, None, refl, ap}
use Rattle.std.specs.Prelude.{if◌then◌else◌}
use Rattle.mlir_ir.specs.Count.{first}
use Rattle.mlir_verify.specs.declared.rule.Rule.TheVariants.{V1, V5, V6, V7, V8, V14}
use Rattle.mlir_verify.specs.Place.{Place, is_first, is_last, type_of}
use Rattle.mlir_verify.specs.Names.{breaks_names}
use Rattle.mlir_verify.specs.Constants.{constants_before}
use Rattle.mlir_verify.specs.Types.{breaks_types}
use Rattle.mlir_verify.specs.Ends.{breaks_end, breaks_signature}
use Rattle.mlir_verify.specs.Maps.{breaks_maps, breaks_iterators}
use Rattle.mlir_verify.specs.Extents.{breaks_extents}
use Rattle.mlir_verify.specs.Windows.{breaks_windows}
use Rattle.mlir_verify.specs.Limits.{breaks_limits}
use Rattle.mlir_verify.specs.Rules.{broken}
use Rattle.mlir_verify.specs.Stages.{lowest_loop_rule, lowest_type_rule, broken_loops, broken_below}

-- the limits come last
limits_last : (maps iterators extents windows limits : Bool) →
    (if maps then Some V5 else (if iterators then Some V6 else (if extents then Some V7 else (if windows then Some V8 else (if limits then Some V14 else None)))))
    ≡ first (lowest_loop_rule maps iterators extents windows) (if limits then Some V14 else None)
limits_last true i e w l = refl
limits_last false true e w l = refl
limits_last false false true w l = refl
limits_last false false false true l = refl
limits_last false false false false l = refl

-- V1 comes first, and then the others
pub broken-at : (p : Place) → broken p ≡ (if breaks_names p then Some V1 else broken_below (is_first p) (is_last p) (type_of p) (constants_before p) p.func p.op)
unfolding broken broken_below broken_loops breaks_types breaks_end breaks_signature breaks_limits
broken-at p =
    let t = type_of p in
    ap (λ o. if breaks_names p then Some V1 else lowest_type_rule (breaks_types p) (breaks_end p) (breaks_signature p) o)
    (limits_last (breaks_maps t p.op.kind) (breaks_iterators p.op.kind) (breaks_extents t p.func.results p.op.results p.op.kind) (breaks_windows t p.op.kind) (breaks_limits p))
