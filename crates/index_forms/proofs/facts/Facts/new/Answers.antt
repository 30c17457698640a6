use Rattle.std.proofs.Common.{List, length, ap, ◌∙◌, subst, arith}
use Rattle.index_forms.specs.declared.form.Fact.{Fact}
use Rattle.index_forms.specs.Facts.{FactsFrom, Distinct, normal_facts}
use Rattle.index_forms.proofs.Known.{are_normal}
use Rattle.index_forms.proofs.Mapped.{whole}
use Rattle.index_forms.proofs.facts.Facts.new.Goals as goal

pub invariant_of-result : goal.invariant_of-result
invariant_of-result c =
    let given = c.as_mut_slice.ensures.value ∙ c.into_vec-all.ensures in
    let a = c.facts_fit.auto.facts in
    let b = ap length c.as_mut_slice.ensures.value in
    let d = c.into_vec-all.result.ok.0 in
    let w = whole c.facts_fit.new.facts _ c.into_vec-all.result.len (omega arith) in
    let e = w ∙ c.facts_fit.ensures.value c.if-not-facts_fit.false ∙ ap normal_facts given in
    are_normal c.args.facts c.from_vec.result (c.from_vec.ensures ∙ e) (
      subst (λ (x : List Fact). FactsFrom 0 (normal_facts x)) given (c.facts_fit.ensures.fits.0 c.if-not-facts_fit.false),
      subst Distinct (c.as_slice.ensures.value ∙ e) (c.are_distinct.ensures.0 c.if-not-are_distinct.false),
    )
