use Rattle.std.proofs.Common.{◌≡◌, ◌∷◌, [], ◌++◌, List, length, sym, ap, subst, ◌∙◌, append_assoc, append-nil, arith, rules}
use Rattle.std.specs.Vec.Iter.{into_iter_items}
use Rattle.mlir_verify.specs.Names.{redefines, ids}
use Rattle.mlir_ir.specs.declared.tree.Op.{Op}
use Rattle.step_passes.specs.Naming.{name_in}
use Rattle.step_passes.specs.OnePass.{passed_ops}
use Rattle.step_passes.specs.Pending.{AreLeft}
use Rattle.step_passes.proofs.Carrying.{none_left, one_longer, Walked, walked_first, walked_more}
use Rattle.step_passes.proofs.carry.put_all.Goals as goal

pub loop-op-preserved : goal.loop-op-preserved
loop-op-preserved c =
    let at = c.loop-op in
    let o = c.in-Some.op in
    let steps : into_iter_items at.op-iterator ≡ o ∷ into_iter_items c.next.new.self = c.in-Some.ensures.steps.0 in
    let whole : at.yielded ++ (o ∷ into_iter_items c.next.new.self) ≡ c.args.body = rw (← steps) at.invariant.whole in
    record {
      whole = append_assoc at.yielded (o ∷ []) _ ∙ whole;
      count = let was = at.invariant.count in let gone = c.in-Some.ensures.steps.1 in let short = ap length steps in omega arith;
      many = ap length c.in_ok-push.ensures.ok ∙ one_longer at.all at.yielded c.replace-new.result.0 o at.invariant.many;
      walked = λ xs gone own left.
          subst (λ (new : List Op). Walked xs gone (at.yielded ++ o ∷ []) new (name_in c.rename.new.names) c.replace-new.new.left) (sym c.in_ok-push.ensures.ok)
          (walked_more xs gone at.yielded (into_iter_items c.next.new.self) at.all o c.replace-new.result.0 (name_in at.names) (name_in c.rename.new.names) at.left c.replace-new.new.left
          (ap (λ os. redefines (ids os) gone) whole ∙ own) (at.invariant.walked xs gone own left)
          (c.replace-new.ensures.replaced.0, c.in_ok-rename.ensures ∙ c.replace-new.ensures.replaced.1) c.replace-new.ensures.others);
    }

pub loop-op-init : goal.loop-op-init
loop-op-init c = record {
  whole = search rules;
  count = search rules;
  many = ap length c.new-all.ensures;
  walked = λ xs gone own left. subst (λ (new : List Op). Walked xs gone [] new (name_in c.own_names-names.result) c.args.left.now) (sym c.new-all.ensures)
      (walked_first xs gone (name_in c.own_names-names.result) c.args.left.now c.own_names-names.ensures left);
}

pub returns-clause-passed : goal.returns-clause-passed
returns-clause-passed c =
    let at = c.loop-op in
    let none : into_iter_items at.op-iterator ≡ [] = none_left (into_iter_items at.op-iterator) (sym at.invariant.count ∙ c.in-None.ensures.steps.0) in
    let whole : at.yielded ≡ c.args.body = sym (append-nil at.yielded) ∙ rw (← none) at.invariant.whole in
    λ xs gone own left. let w = at.invariant.walked xs gone own left in
    subst (λ (os : List Op). (at.all ≡ passed_ops xs (λ n. n) os) × AreLeft xs (gone ++ ids os) at.left) whole (w.ops, w.left)

pub returns-clause-many : goal.returns-clause-many
returns-clause-many c =
    let at = c.loop-op in
    let none : into_iter_items at.op-iterator ≡ [] = none_left (into_iter_items at.op-iterator) (sym at.invariant.count ∙ c.in-None.ensures.steps.0) in
    let whole : at.yielded ≡ c.args.body = sym (append-nil at.yielded) ∙ rw (← none) at.invariant.whole in
    at.invariant.many ∙ ap length whole
