use Rattle.std.specs.Prelude.{⊤}
use Rattle.std.proofs.Common.{◌+◌, [], ◌∷◌, ◌≡◌, get_or, drop, arith}
use Rattle.std.proofs.lemmas.List.{drop_more}
use Rattle.mlir_ir.specs.declared.tree.OpId.{OpId}
use Rattle.verified_runs.specs.Fresh.{fresh_value, fresh_op}
use Rattle.step_passes.specs.Noting.{noted_in}
use Rattle.step_passes.specs.Planned.{told_among, planned}
use Rattle.step_passes.specs.Telling.{exchanging}
use Rattle.step_passes.proofs.Drafts.{starts, all_left, left_here, first_left, noted_fits, turn_goes, turn_fails, one_less}
use Rattle.step_passes.proofs.plan.plan_of.Goals as goal

pub loop-op-init : goal.loop-op-init
loop-op-init c =
    let e = exchanging c.args.step.now in
    let m = c.args.m.now in
    record {
      whole = starts (planned e m c.args.ops.now) c.new.result c.new-2.result c.values_end.result c.ops_end.result (fresh_value m.funcs) (fresh_op m.funcs)
          c.new.ensures c.new-2.ensures c.values_end.ensures c.ops_end.ensures;
      left = all_left e m c.in-Ok.index c.args.ops.now c.requires.targets c.in-Ok.ensures;
      own = c.passed-own.ensures;
    }

pub turn_at-requires : goal.turn_at-requires
turn_at-requires c =
    let e = exchanging c.args.step.now in
    let m = c.args.m.now in
    let is = c.args.ops.now in
    let k = c.loop-op.op-index in
    let i : OpId = get_or is k (record { 0 = 0 }) in
    let split : drop k is ≡ i ∷ drop (k + 1) is = drop_more is k (record { 0 = 0 }) (omega (arith, c.loop-op-test.true)) in
    let here = first_left e m c.loop-op.index (drop (k + 1) is) i
    (left_here e m c.loop-op.index (drop k is) (drop (k + 1) is) i split c.loop-op.invariant.left) in
    noted_fits c.args.step.now m c.requires.verified i (noted_in c.loop-op.index i) here.0 here.1

pub returns-in-Err : goal.returns-in-Err
returns-in-Err c =
    let e = exchanging c.args.step.now in
    let m = c.args.m.now in
    let is = c.args.ops.now in
    let k = c.loop-op.op-index in
    let i : OpId = get_or is k (record { 0 = 0 }) in
    let split : drop k is ≡ i ∷ drop (k + 1) is = drop_more is k (record { 0 = 0 }) (omega (arith, c.loop-op-test.true)) in
    let here = first_left e m c.loop-op.index (drop (k + 1) is) i
    (left_here e m c.loop-op.index (drop k is) (drop (k + 1) is) i split c.loop-op.invariant.left) in
    turn_fails ⊤ e m c.loop-op.draft c.turn_at.new.draft i (drop k is) (drop (k + 1) is) c.passed-own.result
    (planned e m is [] (fresh_value m.funcs) (fresh_op m.funcs)) c.in-Err.e split c.loop-op.invariant.own c.loop-op.invariant.whole (c.in-Err.ensures.turn (told_among e i m.funcs) here.1)

pub loop-op-preserved : goal.loop-op-preserved
loop-op-preserved c =
    let e = exchanging c.args.step.now in
    let m = c.args.m.now in
    let is = c.args.ops.now in
    let k = c.loop-op.op-index in
    let i : OpId = get_or is k (record { 0 = 0 }) in
    let split : drop k is ≡ i ∷ drop (k + 1) is = drop_more is k (record { 0 = 0 }) (omega (arith, c.loop-op-test.true)) in
    let left = left_here e m c.loop-op.index (drop k is) (drop (k + 1) is) i split c.loop-op.invariant.left in
    let here = first_left e m c.loop-op.index (drop (k + 1) is) i left in
    record {
      whole = turn_goes e m c.loop-op.draft c.turn_at.new.draft i (drop k is) (drop (k + 1) is) c.passed-own.result
          (planned e m is [] (fresh_value m.funcs) (fresh_op m.funcs)) split c.loop-op.invariant.own c.loop-op.invariant.whole (c.in-Ok-turn_at.ensures.turn (told_among e i m.funcs) here.1);
      left = one_less e m c.loop-op.index c.turn_at.new.index i (drop (k + 1) is) c.in-Ok-turn_at.ensures.others left;
      own = c.loop-op.invariant.own;
    }
