use Rattle.std.proofs.Common.{◌≡◌, ◌∷◌, [], ◌++◌, false, List, length, map, sym, ap, ◌∙◌, append_assoc, append-nil, arith, rules}
use Rattle.std.specs.Vec.Iter.{into_iter_items}
use Rattle.std.proofs.lemmas.List.{map-append}
use Rattle.mlir_ir.specs.Shape.{FuncShape}
use Rattle.mlir_verify.specs.Names.{redefines}
use Rattle.step_results.proofs.Modules.{verified_module}
use Rattle.step_passes.specs.OnePass.{passed_func}
use Rattle.step_passes.specs.Pending.{all_ids}
use Rattle.step_passes.proofs.Carrying.{none_left, passed_more}
use Rattle.step_passes.proofs.carry.carry_out.Goals as goal

pub loop-f-init : goal.loop-f-init
loop-f-init c = record {
  whole = search rules;
  count = search rules;
  passed = c.new-all.ensures;
  left = λ i a. c.in_ok-left.ensures i;
}

pub loop-f-preserved : goal.loop-f-preserved
loop-f-preserved c =
    let at = c.loop-f in
    let f = c.in-Some.f in
    let xs = c.args.exchanges in
    let steps : into_iter_items at.f-iterator ≡ f ∷ into_iter_items c.next.new.self = c.in-Some.ensures.steps.0 in
    let whole : at.yielded ++ (f ∷ into_iter_items c.next.new.self) ≡ c.args.m.funcs =
    rw (← steps) at.invariant.whole ∙ c.into_iter-f-iterator.ensures.into_iter_gives.0 ∙ c.into_vec-f-items.ensures in
    let own : redefines (all_ids (at.yielded ++ (f ∷ into_iter_items c.next.new.self))) [] ≡ false =
    ap (λ fs. redefines (all_ids fs) []) whole ∙ (verified_module c.args.m c.requires).numbers.ops in
    let done = passed_more xs at.yielded (into_iter_items c.next.new.self) f c.in_ok-new.new at.left c.pass_func.new.left own at.invariant.left c.in_ok-new.ensures in
    record {
      whole = append_assoc at.yielded (f ∷ []) _ ∙ whole ∙ sym c.into_vec-f-items.ensures ∙ sym c.into_iter-f-iterator.ensures.into_iter_gives.0;
      count = let was = at.invariant.count in let gone = c.in-Some.ensures.steps.1 in let short = ap length steps in omega arith;
      passed =
          c.in_ok-push.ensures.ok
          ∙ (λ j. at.invariant.passed j ++ done.0 j ∷ [])
          ∙ sym (map-append (passed_func xs) at.yielded (f ∷ []));
      left = done.1;
    }

pub returns : goal.returns
returns c =
    let at = c.loop-f in
    let none : into_iter_items at.f-iterator ≡ [] = none_left (into_iter_items at.f-iterator) (sym at.invariant.count ∙ c.in-None.ensures.steps.0) in
    let whole : at.yielded ≡ c.args.m.funcs =
    sym (append-nil at.yielded) ∙ rw (← none) at.invariant.whole ∙ c.into_iter-f-iterator.ensures.into_iter_gives.0 ∙ c.into_vec-f-items.ensures in
    ap (λ (fs : List FuncShape). record { funcs = fs }) (at.invariant.passed ∙ ap (map (passed_func c.args.exchanges)) whole)
