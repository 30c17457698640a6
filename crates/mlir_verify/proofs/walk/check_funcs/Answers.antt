use Rattle.std.proofs.Common.{◌+◌, List, [], ◌∷◌, ◌++◌, drop, take, Option, ap, sym, ◌∙◌, subst, arith}
use Rattle.std.proofs.lemmas.List.{drop_all, take_all}
use Rattle.std.specs.List.{list_all}
use Rattle.mlir_ir.specs.Shape.{FuncShape}
use Rattle.mlir_ir.specs.Count.{first}
use Rattle.mlir_ir.specs.declared.tree.OpId.{OpId}
use Rattle.mlir_verify.specs.declared.rule.Rule.{Rule}
use Rattle.mlir_verify.specs.Place.{places_from}
use Rattle.mlir_verify.specs.Rules.{first_broken_of, has_body}
use Rattle.mlir_verify.specs.Walk.{IsBefore}
use Rattle.mlir_verify.proofs.Checking.{funcs_open, funcs_fail, taken, bodies_last}
use Rattle.mlir_verify.proofs.walk.check_funcs.Goals as goal

pub returns-in-Err : goal.returns-in-Err
returns-in-Err c =
    let fs = c.args.funcs.now in
    let k = c.loop-func.func-index in
    let f = c.func-item.result in
    funcs_fail c.in-Err.e c.check_func.new.seen (take k fs) f _ fs (c.in-Err.ensures (take k fs) c.loop-func.invariant.0)
    (sym (funcs_open fs k f (omega arith) c.func-item.is) ∙ c.loop-func.invariant.1)

pub loop-func-preserved : goal.loop-func-preserved
loop-func-preserved c =
    let fs = c.args.funcs.now in
    let k = c.loop-func.func-index in
    let f = c.func-item.result in
    let t = taken fs k f (omega arith) c.func-item.is in
    let a = c.in-Ok.ensures (take k fs) c.loop-func.invariant.0 in
    let rest = first_broken_of (places_from (drop (k + 1) fs) (take k fs ++ f ∷ [])) in (
      subst (λ (x : List FuncShape). IsBefore c.check_func.new.seen x) (sym t) a.1,
      ap (λ (x : List FuncShape). first_broken_of (places_from (drop (k + 1) fs) x)) t
          ∙ sym (funcs_open fs k f (omega arith) c.func-item.is ∙ ap (λ (x : Option (Rule × OpId)). first x rest) a.0) ∙ c.loop-func.invariant.1,
      ap (list_all has_body) t ∙ bodies_last (take k fs) f c.loop-func.invariant.2 a.2,
    )

pub returns : goal.returns
returns c =
    let fs = c.args.funcs.now in
    let k = c.loop-func.func-index in (
      sym c.loop-func.invariant.1 ∙ ap (λ (x : List FuncShape). first_broken_of (places_from x (take k fs))) (drop_all k fs (omega arith)),
      ap (list_all has_body) (sym (take_all k fs (omega arith))) ∙ c.loop-func.invariant.2,
    )
