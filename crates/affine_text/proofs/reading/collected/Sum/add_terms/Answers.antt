use Rattle.std.proofs.Common.{◌+◌, ◌≡◌, ℕ, ℤ, length, false, refl, sym, ap, subst, arith, List}
use Rattle.affine_text.specs.Collected.{plus_terms, terms_in_range}
use Rattle.affine_text.specs.Multiples.{times_terms}
use Rattle.affine_text.proofs.Adding.{Adding, added_one, added_far, added_all, term_added, term_far}
use Rattle.affine_text.proofs.Multiplying.{multiple_left}
use Rattle.affine_text.proofs.reading.collected.Sum.add_terms.Goals as goal

pub loop-term-init : goal.loop-term-init
loop-term-init c = record { rest = refl; constant = refl; left = multiple_left c.args.multiple.now c.requires }

pub returns-then-not-branch : goal.returns-then-not-branch
returns-then-not-branch c =
    let e = c.as_slice-term-items.ensures in
    subst (λ (ts : List (ℕ × ℤ)). terms_in_range (plus_terms c.args.self.now.terms (times_terms c.args.multiple.now.by ts)) ≡ false) e
    (added_far c.args.multiple.now.by c.as_slice-term-items.result.now c.loop-term.term-index _ c.args.self.now c.loop-term.self (omega arith)
    (subst (λ (ts : List (ℕ × ℤ)). Adding c.args.multiple.now.by ts c.loop-term.term-index c.args.self.now c.loop-term.self) (sym e) c.loop-term.invariant)
    (term_far c.loop-term.self _ _ c.in_ok-add_one.field-0 c.add_one.new.self c.if-not-branch.true c.in_ok-add_one.ensures))

pub loop-term-preserved : goal.loop-term-preserved
loop-term-preserved c =
    let e = c.as_slice-term-items.ensures in
    subst (λ (ts : List (ℕ × ℤ)). Adding c.args.multiple.now.by ts (c.loop-term.term-index + 1) c.args.self.now c.add_one.new.self) e
    (added_one c.args.multiple.now.by c.as_slice-term-items.result.now c.loop-term.term-index _ c.args.self.now c.loop-term.self c.add_one.new.self (omega arith)
    (subst (λ (ts : List (ℕ × ℤ)). Adding c.args.multiple.now.by ts c.loop-term.term-index c.args.self.now c.loop-term.self) (sym e) c.loop-term.invariant)
    (term_added c.loop-term.self _ _ c.in_ok-add_one.field-0 c.add_one.new.self c.if-not-branch.false c.in_ok-add_one.ensures))

pub returns : goal.returns
returns c = added_all c.args.multiple.now.by c.args.multiple.now.form.terms c.loop-term.term-index c.args.self.now c.loop-term.self (omega (arith, ap length c.as_slice-term-items.ensures)) c.loop-term.invariant
