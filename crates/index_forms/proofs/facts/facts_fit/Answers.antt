use Rattle.std.proofs.Common.{◌≡◌, ℕ, ◌+◌, suc, drop, List, ap, sym, subst, arith}
use Rattle.index_forms.specs.declared.form.Fact.{Fact}
use Rattle.index_forms.specs.Facts.{FactsFrom, normal_fact, normal_facts}
use Rattle.index_forms.proofs.Mapped.{mapped, not_yet}
use Rattle.index_forms.proofs.facts.facts_fit.Goals as goal

pub loop-fact-preserved : goal.loop-fact-preserved
loop-fact-preserved c =
    let o = not_yet normal_fact c.args.facts.now c.loop-fact.facts c.loop-fact.fact-index c.fact-item.result c.loop-fact-test.true c.loop-fact.invariant.value in
    let n : suc c.loop-fact.count ≡ c.loop-fact.count + 1 = omega arith in
    record {
      count = ap (λ (k : ℕ). k + 1) c.loop-fact.invariant.count;
      fits = (
        λ h. subst (λ (k : ℕ). FactsFrom k (normal_facts (drop (c.loop-fact.fact-index + 1) c.args.facts.now))) n (subst (λ (x : List Fact). FactsFrom c.loop-fact.count (normal_facts x)) o (c.loop-fact.invariant.fits.0 h)).1,
        λ h. c.loop-fact.invariant.fits.1 (subst (λ (x : List Fact). FactsFrom c.loop-fact.count (normal_facts x)) (sym o) (c.fact_fits.ensures.fits.0 c.if-not-fact_fits.false, subst (λ (k : ℕ). FactsFrom k (normal_facts (drop (c.loop-fact.fact-index + 1) c.args.facts.now))) (sym n) h)),
      );
      value = mapped normal_fact c.args.facts.now c.loop-fact.facts c.loop-fact.fact-index c.fact_fits.new.fact c.fact-item.result c.loop-fact-test.true (c.fact_fits.ensures.value c.if-not-fact_fits.false) c.loop-fact.invariant.value;
    }
