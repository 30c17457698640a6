use Rattle.std.proofs.Common.{◌≡◌, ◌+◌, ◌<◌, length, lt-ltb, List, [], ◌∷◌, ◌++◌, drop, take, Option, ap, sym, ◌∙◌, subst, arith}
use Rattle.std.proofs.lemmas.List.{drop_all, take_all}
use Rattle.mlir_ir.specs.Shape.{FuncShape}
use Rattle.mlir_ir.specs.declared.tree.Op.{Op}
use Rattle.mlir_verify.specs.declared.rule.Rule.{Rule}
use Rattle.mlir_verify.specs.Place.{places_of}
use Rattle.mlir_verify.specs.Rules.{first_broken_of, stands_at}
use Rattle.mlir_verify.specs.Walk.{Stands}
use Rattle.mlir_verify.proofs.Checking.{places_open, first_is, last_is, taken, func_fails, func_ends}
use Rattle.mlir_verify.proofs.walk.check_body.Goals as goal

pub returns-in-Err : goal.returns-in-Err
returns-in-Err c = λ before s.
    let os = c.as_slice-body.result.now in
    let k = c.loop-k.k in
    let o = c.index-body-k.result in
    let i = c.loop-k.invariant before s in
    let b : os ≡ c.args.func.now.body = c.as_slice-body.ensures ∙ ap (λ (x : FuncShape). x.body) c.func.view_is in
    let a = c.in-Err.ensures before (take k os) (drop (k + 1) os) i.0 (first_is os k (omega arith)) (last_is os k (omega arith)) in
    func_fails c.in-Err.e c.check_op.new.seen c.check_op.new.seen c.check_op.new.scope before c.args.func.now (take k os) o (drop (k + 1) os) _ a
    (sym (places_open os k o before c.args.func.now (omega arith) c.index-body-k.is) ∙ i.1 ∙ ap (λ (x : List Op). first_broken_of (places_of x [] before c.args.func.now)) b)

pub loop-k-preserved : goal.loop-k-preserved
loop-k-preserved c = λ before s.
    let os = c.as_slice-body.result.now in
    let k = c.loop-k.k in
    let o = c.index-body-k.result in
    let i = c.loop-k.invariant before s in
    let t = taken os k o (omega arith) c.index-body-k.is in
    let a = c.in-Ok.ensures before (take k os) (drop (k + 1) os) i.0 (first_is os k (omega arith)) (last_is os k (omega arith)) in
    let rest = first_broken_of (places_of (drop (k + 1) os) (take k os ++ o ∷ []) before c.args.func.now) in (
      subst (λ (x : List Op). Stands c.check_op.new.seen c.check_op.new.scope before c.args.func.now x) (sym t) a.1,
      ap (λ (x : List Op). first_broken_of (places_of (drop (k + 1) os) x before c.args.func.now)) t
          ∙ sym (places_open os k o before c.args.func.now (omega arith) c.index-body-k.is ∙ ap (λ (x : Option Rule). stands_at o.id x rest) a.0) ∙ i.1,
    )

pub returns : goal.returns
returns c = λ before s.
    let os = c.as_slice-body.result.now in
    let k = c.loop-k.k in
    let i = c.loop-k.invariant before s in
    let b : os ≡ c.args.func.now.body = c.as_slice-body.ensures ∙ ap (λ (x : FuncShape). x.body) c.func.view_is in
    let d = drop_all k os (omega arith) in (
      sym (i.1 ∙ ap (λ (x : List Op). first_broken_of (places_of x [] before c.args.func.now)) b)
          ∙ ap (λ (x : List Op). first_broken_of (places_of x (take k os) before c.args.func.now)) d,
      func_ends c.loop-k.seen c.loop-k.scope before c.args.func.now (take k os) (take_all k os (omega arith) ∙ b) i.0,
      lt-ltb 0 (length c.args.func.now.body) (subst (λ (x : FuncShape). 0 < length x.body) c.func.view_is c.func.invariant),
    )
