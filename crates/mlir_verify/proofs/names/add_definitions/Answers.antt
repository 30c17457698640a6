use Rattle.std.proofs.Common.{◌+◌, [], ◌∷◌, ap, arith, drop}
use Rattle.std.proofs.lemmas.List.{drop_all}
use Rattle.mlir_verify.specs.Names.{numbers}
use Rattle.mlir_verify.proofs.Walks.{opened}
use Rattle.mlir_verify.proofs.Adding.{adding_at, adding_goes, adding_stops, adding_ends}
use Rattle.mlir_verify.proofs.names.add_definitions.Goals as goal

pub returns-in-Ok-false : goal.returns-in-Ok-false
returns-in-Ok-false c = λ known h.
    let o = opened c.args.definitions.now c.loop-d.d-index c.d-item.result (omega arith) c.d-item.is in
    let rest = numbers (drop (c.loop-d.d-index + 1) c.args.definitions.now) in
    let w = adding_at c.loop-d.set _ ((c.d-item.result.0).0 ∷ rest) (numbers c.args.definitions.now) known (ap (numbers) o) (c.loop-d.invariant known h) in
    adding_stops c.loop-d.set c.add.new.set ((c.d-item.result.0).0 ∷ []) rest (numbers c.args.definitions.now) known c.in-Ok-false.field-0 c.in-Ok-false.field-0-test (λ k s. c.in-Ok-false.ensures k s) w

pub loop-d-preserved : goal.loop-d-preserved
loop-d-preserved c = λ known h.
    let o = opened c.args.definitions.now c.loop-d.d-index c.d-item.result (omega arith) c.d-item.is in
    let rest = numbers (drop (c.loop-d.d-index + 1) c.args.definitions.now) in
    let w = adding_at c.loop-d.set _ ((c.d-item.result.0).0 ∷ rest) (numbers c.args.definitions.now) known (ap (numbers) o) (c.loop-d.invariant known h) in
    adding_goes c.loop-d.set c.add.new.set ((c.d-item.result.0).0 ∷ []) rest (numbers c.args.definitions.now) known c.in-Ok-true.field-0 c.in-Ok-true.field-0-test (λ k s. c.in-Ok-true.ensures k s) w

pub returns : goal.returns
returns c = λ known h.
    adding_ends c.loop-d.set (numbers c.args.definitions.now) known
    (adding_at c.loop-d.set _ [] (numbers c.args.definitions.now) known (ap (numbers) (drop_all c.loop-d.d-index c.args.definitions.now (omega arith))) (c.loop-d.invariant known h))
