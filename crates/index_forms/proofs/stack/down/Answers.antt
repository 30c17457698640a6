use Rattle.std.proofs.Common.{rules, ◌≡◌, ℕ, ◌+◌, ◌<◌, ℤ, Option, Some, length, ap, sym, ◌∙◌, subst, arith, w64, FitsSigned}
use Rattle.std.proofs.lemmas.Int.{to_z-of_z}
use Rattle.index_forms.specs.declared.form.LinForm.{LinForm}
use Rattle.index_forms.specs.declared.stack.Turn.{Turn}
use Rattle.index_forms.specs.declared.stack.Turn.TheVariants.{Form}
use Rattle.index_forms.specs.Stack.{finished, all_unmet, turn_bound, turn_met, IsTurn}
use Rattle.index_forms.proofs.Walks.{ok_map}
use Rattle.index_forms.proofs.Frames.{begins, lone}
use Rattle.index_forms.proofs.stack.down.Goals as goal

pub returns-then-len-eq0-clause-bound : goal.returns-then-len-eq0-clause-bound
returns-then-len-eq0-clause-bound c =
    let h = subst (λ (x : Option LinForm). IsTurn c.args.facts.now (Form x)) c.in-Some.is c.requires.form in
    let fc : FitsSigned w64 c.in-Some.form.constant = search rules in
    let l = lone c.args.facts.now c.in-Some.form h (sym c.len.ensures ∙ c.if-len-eq0.true) in
    ap (finished c.args.facts.now c.args.stack.now.items) (ap (λ (x : ℤ). Some x) (to_z-of_z w64 c.in-Some.form.constant fc) ∙ sym (ap (λ (x : Option LinForm). turn_bound c.args.facts.now (Form x)) c.in-Some.is ∙ l.0))

pub returns-then-len-eq0-clause-met : goal.returns-then-len-eq0-clause-met
returns-then-len-eq0-clause-met c =
    let h = subst (λ (x : Option LinForm). IsTurn c.args.facts.now (Form x)) c.in-Some.is c.requires.form in
    let l = lone c.args.facts.now c.in-Some.form h (sym c.len.ensures ∙ c.if-len-eq0.true) in
    let m = ap (λ (x : Option LinForm). turn_met c.args.facts.now (Form x)) c.in-Some.is ∙ l.1 in
    omega arith

pub returns-else-len-eq0-clause-bound : goal.returns-else-len-eq0-clause-bound
returns-else-len-eq0-clause-bound c =
    let h = subst (λ (x : Option LinForm). IsTurn c.args.facts.now (Form x)) c.in-Some.is c.requires.form in
    let n = c.len.ensures in
    let z = c.if-len-eq0.false in
    let k : 0 < length c.in-Some.form.terms = omega arith in
    let b = begins c.args.facts.now c.in-Some.form h k in
    let e = ap (λ (x : Option LinForm). turn_bound c.args.facts.now (Form x)) c.in-Some.is ∙ b.0 in
    ok_map c.ahead.result _ (λ (t : Turn). finished c.args.facts.now c.ahead.new.stack.items (turn_bound c.args.facts.now t) ≡ finished c.args.facts.now c.args.stack.now.items (turn_bound c.args.facts.now (Form c.args.form)))
    (λ (t : Turn) q. q ∙ ap (finished c.args.facts.now c.args.stack.now.items) (sym e)) c.ahead.ensures.bound

pub returns-else-len-eq0-clause-met : goal.returns-else-len-eq0-clause-met
returns-else-len-eq0-clause-met c =
    let h = subst (λ (x : Option LinForm). IsTurn c.args.facts.now (Form x)) c.in-Some.is c.requires.form in
    let n = c.len.ensures in
    let z = c.if-len-eq0.false in
    let k : 0 < length c.in-Some.form.terms = omega arith in
    let b = begins c.args.facts.now c.in-Some.form h k in
    let e = ap (λ (x : Option LinForm). turn_met c.args.facts.now (Form x)) c.in-Some.is ∙ b.1 in
    ok_map c.ahead.result _ (λ (t : Turn). 1 + (turn_met c.args.facts.now t + all_unmet c.args.facts.now c.ahead.new.stack.items) ≡ turn_met c.args.facts.now (Form c.args.form) + all_unmet c.args.facts.now c.args.stack.now.items)
    (λ (t : Turn) q. one_more _ _ _ _ q e) c.ahead.ensures.met where
      one_more : (a u m o : ℕ) → a ≡ u + o → m ≡ 1 + u → 1 + a ≡ m + o
      one_more a u m o q e = omega arith
