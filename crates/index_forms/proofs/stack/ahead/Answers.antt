use Rattle.std.proofs.Common.{rules, ℕ, ◌+◌, ◌<◌, ◌≤◌, pos, List, length, get_or, ap, sym, ◌∙◌, subst, arith, w64, FitsSigned}
use Rattle.index_forms.specs.declared.form.LinForm.{LinForm}
use Rattle.index_forms.specs.declared.stack.Frame.{Frame}
use Rattle.index_forms.specs.declared.stack.Turn.TheVariants.{Form}
use Rattle.index_forms.specs.Forms.{number}
use Rattle.index_forms.specs.Stack.{replaced, finished, all_unmet, turn_bound, AreFrames}
use Rattle.index_forms.proofs.Frames.{zero_at, chosen_fact, choices_are, Choices, goes, ends, flat, finished_more, unmet_more, frames_more}
use Rattle.index_forms.proofs.stack.ahead.Goals as goal

pub child-requires-clause-fact : goal.child-requires-clause-fact
child-requires-clause-fact c =
    let i = c.requires.frame in
    chosen_fact c.args.facts.now c.requires.known c.args.frame.form.terms c.as_slice.result.now c.index-facts-atom.result c.as_slice.ensures i.0.0 i.1 c.index-facts-atom.is

pub returns-in-Ok-clause-bound : goal.returns-in-Ok-clause-bound
returns-in-Ok-clause-bound c =
    let i = c.requires.frame in
    let fb : FitsSigned w64 (get_or c.as_slice.result.now 0 zero_at).1 = search rules in
    let cs = choices_are c.args.facts.now c.requires.known c.args.frame.form.terms c.as_slice.result.now c.index-facts-atom.result c.as_slice.ensures i.0.0 i.1 c.index-facts-atom.is fb in
    let lt = subst (λ (n : ℕ). c.args.frame.next < n) (c.count.ensures ∙ ap length cs) c.if-frame-count.true in
    let b = c.in_ok-below.ensures ∙ ap (λ (x : List LinForm). replaced c.args.frame.form.constant c.args.frame.form.terms (get_or x c.args.frame.next (number (pos 0)))) cs in
    let g = goes c.args.facts.now c.requires.known c.args.frame.form.constant c.args.frame.form.terms c.args.frame.next c.args.frame.best c.in_ok-below.below i.0.0 i.1 lt b in
    let p = c.in-Ok.ensures.items in
    ap (λ (x : List Frame). finished c.args.facts.now x (turn_bound c.args.facts.now (Form c.in_ok-below.below))) p
    ∙ finished_more c.args.facts.now c.args.stack.now.items _ (turn_bound c.args.facts.now (Form c.in_ok-below.below)) ∙ ap (finished c.args.facts.now c.args.stack.now.items) g.0

pub returns-in-Ok-clause-met : goal.returns-in-Ok-clause-met
returns-in-Ok-clause-met c =
    let i = c.requires.frame in
    let fb : FitsSigned w64 (get_or c.as_slice.result.now 0 zero_at).1 = search rules in
    let cs = choices_are c.args.facts.now c.requires.known c.args.frame.form.terms c.as_slice.result.now c.index-facts-atom.result c.as_slice.ensures i.0.0 i.1 c.index-facts-atom.is fb in
    let lt = subst (λ (n : ℕ). c.args.frame.next < n) (c.count.ensures ∙ ap length cs) c.if-frame-count.true in
    let b = c.in_ok-below.ensures ∙ ap (λ (x : List LinForm). replaced c.args.frame.form.constant c.args.frame.form.terms (get_or x c.args.frame.next (number (pos 0)))) cs in
    let g = goes c.args.facts.now c.requires.known c.args.frame.form.constant c.args.frame.form.terms c.args.frame.next c.args.frame.best c.in_ok-below.below i.0.0 i.1 lt b in
    let p = c.in-Ok.ensures.items in
    let m = ap (all_unmet c.args.facts.now) p ∙ unmet_more c.args.facts.now c.args.stack.now.items _ in
    let q = g.1 in
    omega arith

pub returns-in-Ok-clause-frames : goal.returns-in-Ok-clause-frames
returns-in-Ok-clause-frames c =
    let i = c.requires.frame in
    let fb : FitsSigned w64 (get_or c.as_slice.result.now 0 zero_at).1 = search rules in
    let cs = choices_are c.args.facts.now c.requires.known c.args.frame.form.terms c.as_slice.result.now c.index-facts-atom.result c.as_slice.ensures i.0.0 i.1 c.index-facts-atom.is fb in
    let lt = subst (λ (n : ℕ). c.args.frame.next < n) (c.count.ensures ∙ ap length cs) c.if-frame-count.true in
    let b = c.in_ok-below.ensures ∙ ap (λ (x : List LinForm). replaced c.args.frame.form.constant c.args.frame.form.terms (get_or x c.args.frame.next (number (pos 0)))) cs in
    let g = goes c.args.facts.now c.requires.known c.args.frame.form.constant c.args.frame.form.terms c.args.frame.next c.args.frame.best c.in_ok-below.below i.0.0 i.1 lt b in
    let p = c.in-Ok.ensures.items in
    (subst (λ (x : List Frame). AreFrames c.args.facts.now x) (sym p) (frames_more c.args.facts.now c.args.stack.now.items _ c.requires.stack i), g.2)

pub returns-in-Some-clause-bound : goal.returns-in-Some-clause-bound
returns-in-Some-clause-bound c =
    let i = c.requires.frame in
    let fb : FitsSigned w64 (get_or c.as_slice.result.now 0 zero_at).1 = search rules in
    let cs = choices_are c.args.facts.now c.requires.known c.args.frame.form.terms c.as_slice.result.now c.index-facts-atom.result c.as_slice.ensures i.0.0 i.1 c.index-facts-atom.is fb in
    let le : length (Choices c.args.facts.now c.requires.known c.args.frame.form.terms) ≤ c.args.frame.next = (let q = c.count.ensures ∙ ap length cs in let n = c.if-frame-count.false in omega arith) in
    let d = ends c.args.facts.now c.requires.known c.args.frame.form.constant c.args.frame.form.terms c.args.frame.next c.args.frame.best i.1 le in
    ap (finished c.args.facts.now c.args.stack.now.items) (ap (flat c.args.facts.now c.requires.known) (sym c.in-Some.is) ∙ d.0)

pub returns-in-Some-clause-met : goal.returns-in-Some-clause-met
returns-in-Some-clause-met c =
    let i = c.requires.frame in
    let fb : FitsSigned w64 (get_or c.as_slice.result.now 0 zero_at).1 = search rules in
    let cs = choices_are c.args.facts.now c.requires.known c.args.frame.form.terms c.as_slice.result.now c.index-facts-atom.result c.as_slice.ensures i.0.0 i.1 c.index-facts-atom.is fb in
    let le : length (Choices c.args.facts.now c.requires.known c.args.frame.form.terms) ≤ c.args.frame.next = (let q = c.count.ensures ∙ ap length cs in let n = c.if-frame-count.false in omega arith) in
    let d = ends c.args.facts.now c.requires.known c.args.frame.form.constant c.args.frame.form.terms c.args.frame.next c.args.frame.best i.1 le in
    ap (λ (n : ℕ). n + all_unmet c.args.facts.now c.args.stack.now.items) (sym d.1)

pub returns-clause-bound : goal.returns-clause-bound
returns-clause-bound c =
    let i = c.requires.frame in
    let fb : FitsSigned w64 (get_or c.as_slice.result.now 0 zero_at).1 = search rules in
    let cs = choices_are c.args.facts.now c.requires.known c.args.frame.form.terms c.as_slice.result.now c.index-facts-atom.result c.as_slice.ensures i.0.0 i.1 c.index-facts-atom.is fb in
    let le : length (Choices c.args.facts.now c.requires.known c.args.frame.form.terms) ≤ c.args.frame.next = (let q = c.count.ensures ∙ ap length cs in let n = c.if-frame-count.false in omega arith) in
    let d = ends c.args.facts.now c.requires.known c.args.frame.form.constant c.args.frame.form.terms c.args.frame.next c.args.frame.best i.1 le in
    ap (finished c.args.facts.now c.args.stack.now.items) (ap (flat c.args.facts.now c.requires.known) (sym c.in-None.is) ∙ d.0)

pub returns-clause-met : goal.returns-clause-met
returns-clause-met c =
    let i = c.requires.frame in
    let fb : FitsSigned w64 (get_or c.as_slice.result.now 0 zero_at).1 = search rules in
    let cs = choices_are c.args.facts.now c.requires.known c.args.frame.form.terms c.as_slice.result.now c.index-facts-atom.result c.as_slice.ensures i.0.0 i.1 c.index-facts-atom.is fb in
    let le : length (Choices c.args.facts.now c.requires.known c.args.frame.form.terms) ≤ c.args.frame.next = (let q = c.count.ensures ∙ ap length cs in let n = c.if-frame-count.false in omega arith) in
    let d = ends c.args.facts.now c.requires.known c.args.frame.form.constant c.args.frame.form.terms c.args.frame.next c.args.frame.best i.1 le in
    ap (λ (n : ℕ). n + all_unmet c.args.facts.now c.args.stack.now.items) (sym d.1)
