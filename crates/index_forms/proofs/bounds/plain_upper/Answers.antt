use Rattle.std.proofs.Common.{rules, ◌≡◌, ◌<◌, nat_le, Bool, false, None, List, [], length, ap, sym, ◌∙◌, subst, arith}
use Rattle.std.specs.Prelude.{if◌then◌else◌}
use Rattle.std.proofs.lemmas.Bool.Decides.{nat_tests}
use Rattle.index_forms.specs.declared.stack.Frame.{Frame}
use Rattle.index_forms.specs.declared.stack.Turn.{Turn}
use Rattle.index_forms.specs.Bounds.{bound, forms_met}
use Rattle.index_forms.specs.Stack.{finished, all_unmet, turn_bound, turn_met, AreFrames}
use Rattle.index_forms.proofs.Sound.{is_above_bound}
use Rattle.index_forms.proofs.Frames.{finished_more, unmet_more, frames_less, turn_some}
use Rattle.index_forms.proofs.bounds.plain_upper.Goals as goal

pub returns-then-left-eq0-clause-bound : goal.returns-then-left-eq0-clause-bound
returns-then-left-eq0-clause-bound c =
    let m = c.loop-turn.invariant.met in
    let z = c.if-left-eq0.true in
    let t = ap (turn_met c.args.facts.now) c.in-Form.is in
    let s = turn_some c.args.facts.now c.in-Form.form in
    let many : 4096 < forms_met c.args.facts.now (length c.args.facts.now) c.args.f = omega arith in
    let q : nat_le (forms_met c.args.facts.now (length c.args.facts.now) c.args.f) 4096 ≡ false = grind (arith, nat_tests) in
    sym (ap (λ (b : Bool). if b then bound c.args.facts.now (length c.args.facts.now) c.args.f else None) q)

pub up-requires-clause-frame : goal.up-requires-clause-frame
up-requires-clause-frame c = (frames_less c.args.facts.now c.pop.new.self.items c.in-Some.frame (subst (λ (x : List Frame). AreFrames c.args.facts.now x) c.in-Some.ensures.items c.loop-turn.invariant.frames)).1

pub up-requires-clause-stack : goal.up-requires-clause-stack
up-requires-clause-stack c = (frames_less c.args.facts.now c.pop.new.self.items c.in-Some.frame (subst (λ (x : List Frame). AreFrames c.args.facts.now x) c.in-Some.ensures.items c.loop-turn.invariant.frames)).0

pub returns-in-None-clause-sound : goal.returns-in-None-clause-sound
returns-in-None-clause-sound c =
    let n : c.loop-turn.stack.items ≡ [] = search rules in
    let e = ap (λ (x : List Frame). finished c.args.facts.now x (turn_bound c.args.facts.now c.loop-turn.turn)) n ∙ ap (turn_bound c.args.facts.now) c.in-Bound.is in
    is_above_bound c.args.facts.now c.requires.known c.args.f c.in-Bound.bound (sym e ∙ c.loop-turn.invariant.bound)

pub loop-turn-preserved : goal.loop-turn-preserved
loop-turn-preserved c =
    let items = c.in-Some.ensures.items in
    let m = c.loop-turn.invariant.met in
    let t = ap (turn_met c.args.facts.now) c.in-Bound.is in
    let u = ap (all_unmet c.args.facts.now) items ∙ unmet_more c.args.facts.now c.pop.new.self.items c.in-Some.frame in
    let n = c.in_ok-turn-in-Some.ensures.met in
    record {
      bound = c.in_ok-turn-in-Some.ensures.bound ∙ sym (finished_more c.args.facts.now c.pop.new.self.items c.in-Some.frame c.in-Bound.bound)
          ∙ sym (ap (λ (x : List Frame). finished c.args.facts.now x c.in-Bound.bound) items)
          ∙ sym (ap (λ (x : Turn). finished c.args.facts.now c.loop-turn.stack.items (turn_bound c.args.facts.now x)) c.in-Bound.is) ∙ c.loop-turn.invariant.bound;
      met = omega arith;
      frames = c.in_ok-turn-in-Some.ensures.frames.0;
      turn = c.in_ok-turn-in-Some.ensures.frames.1;
    }
