use Rattle.std.proofs.Common.{◌≡◌, ℕ, ◌+◌, List, [], ◌∷◌, map, ap, arith, drop, get_or, add-one}
use Rattle.std.proofs.Math.Seq.{drop-cons}
use Rattle.std.proofs.lemmas.List.{drop_all}
use Rattle.mlir_ir.specs.declared.tree.ValueId.{ValueId}
use Rattle.mlir_verify.proofs.Adding.{adding_at, adding_goes, adding_stops, adding_ends}
use Rattle.mlir_verify.proofs.names.add_values.Goals as goal

pub returns-in-Ok-false : goal.returns-in-Ok-false
returns-in-Ok-false c = λ known h.
    let d : ValueId = record { 0 = 0 } in
    let n : ℕ = (get_or c.args.values.now c.loop-v.v-index d).0 in
    let whole : List ℕ = map (λ (v : ValueId). v.0) c.args.values.now in
    let rest : List ℕ = map (λ (v : ValueId). v.0) (drop (c.loop-v.v-index + 1) c.args.values.now) in
    let o : drop c.loop-v.v-index c.args.values.now ≡ get_or c.args.values.now c.loop-v.v-index d ∷ drop (c.loop-v.v-index + 1) c.args.values.now = rw add-one (drop-cons c.args.values.now c.loop-v.v-index d (omega arith)) in
    let w = adding_at c.loop-v.set _ (n ∷ rest) whole known (ap (map (λ (v : ValueId). v.0)) o) (c.loop-v.invariant known h) in
    adding_stops c.loop-v.set c.add.new.set (n ∷ []) rest whole known c.in-Ok-false.field-0 c.in-Ok-false.field-0-test (λ k s. c.in-Ok-false.ensures k s) w

pub loop-v-preserved : goal.loop-v-preserved
loop-v-preserved c = λ known h.
    let d : ValueId = record { 0 = 0 } in
    let n : ℕ = (get_or c.args.values.now c.loop-v.v-index d).0 in
    let whole : List ℕ = map (λ (v : ValueId). v.0) c.args.values.now in
    let rest : List ℕ = map (λ (v : ValueId). v.0) (drop (c.loop-v.v-index + 1) c.args.values.now) in
    let o : drop c.loop-v.v-index c.args.values.now ≡ get_or c.args.values.now c.loop-v.v-index d ∷ drop (c.loop-v.v-index + 1) c.args.values.now = rw add-one (drop-cons c.args.values.now c.loop-v.v-index d (omega arith)) in
    let w = adding_at c.loop-v.set _ (n ∷ rest) whole known (ap (map (λ (v : ValueId). v.0)) o) (c.loop-v.invariant known h) in
    adding_goes c.loop-v.set c.add.new.set (n ∷ []) rest whole known c.in-Ok-true.field-0 c.in-Ok-true.field-0-test (λ k s. c.in-Ok-true.ensures k s) w

pub returns : goal.returns
returns c = λ known h.
    let whole : List ℕ = map (λ (v : ValueId). v.0) c.args.values.now in
    adding_ends c.loop-v.set whole known
    (adding_at c.loop-v.set _ [] whole known (ap (map (λ (v : ValueId). v.0)) (drop_all c.loop-v.v-index c.args.values.now (omega arith))) (c.loop-v.invariant known h))
