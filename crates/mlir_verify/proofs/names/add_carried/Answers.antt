use Rattle.std.proofs.Common.{◌+◌, [], ◌∷◌, map, ap, arith, drop}
use Rattle.std.proofs.lemmas.List.{drop_all}
use Rattle.mlir_ir.specs.declared.tree.ValueId.{ValueId}
use Rattle.mlir_ir.specs.declared.tree.Ty.{Ty}
use Rattle.mlir_verify.proofs.Walks.{opened}
use Rattle.mlir_verify.proofs.Adding.{adding_at, adding_goes, adding_stops, adding_ends}
use Rattle.mlir_verify.proofs.names.add_carried.Goals as goal

pub returns-in-Ok-false : goal.returns-in-Ok-false
returns-in-Ok-false c = λ known h.
    let o = opened c.args.carried.now c.loop-c.c-index c.c-item.result (omega arith) c.c-item.is in
    let rest = map (λ (x : ValueId × Ty × ValueId). (x.0).0) (drop (c.loop-c.c-index + 1) c.args.carried.now) in
    let w = adding_at c.loop-c.set _ ((c.c-item.result.0).0 ∷ rest) (map (λ (x : ValueId × Ty × ValueId). (x.0).0) c.args.carried.now) known (ap (map (λ (x : ValueId × Ty × ValueId). (x.0).0)) o) (c.loop-c.invariant known h) in
    adding_stops c.loop-c.set c.add.new.set ((c.c-item.result.0).0 ∷ []) rest (map (λ (x : ValueId × Ty × ValueId). (x.0).0) c.args.carried.now) known c.in-Ok-false.field-0 c.in-Ok-false.field-0-test (λ k s. c.in-Ok-false.ensures k s) w

pub loop-c-preserved : goal.loop-c-preserved
loop-c-preserved c = λ known h.
    let o = opened c.args.carried.now c.loop-c.c-index c.c-item.result (omega arith) c.c-item.is in
    let rest = map (λ (x : ValueId × Ty × ValueId). (x.0).0) (drop (c.loop-c.c-index + 1) c.args.carried.now) in
    let w = adding_at c.loop-c.set _ ((c.c-item.result.0).0 ∷ rest) (map (λ (x : ValueId × Ty × ValueId). (x.0).0) c.args.carried.now) known (ap (map (λ (x : ValueId × Ty × ValueId). (x.0).0)) o) (c.loop-c.invariant known h) in
    adding_goes c.loop-c.set c.add.new.set ((c.c-item.result.0).0 ∷ []) rest (map (λ (x : ValueId × Ty × ValueId). (x.0).0) c.args.carried.now) known c.in-Ok-true.field-0 c.in-Ok-true.field-0-test (λ k s. c.in-Ok-true.ensures k s) w

pub returns : goal.returns
returns c = λ known h.
    adding_ends c.loop-c.set (map (λ (x : ValueId × Ty × ValueId). (x.0).0) c.args.carried.now) known
    (adding_at c.loop-c.set _ [] (map (λ (x : ValueId × Ty × ValueId). (x.0).0) c.args.carried.now) known (ap (map (λ (x : ValueId × Ty × ValueId). (x.0).0)) (drop_all c.loop-c.c-index c.args.carried.now (omega arith))) (c.loop-c.invariant known h))
