use Rattle.std.proofs.Common.{List, length, subst, sym}
use Rattle.index_forms.specs.declared.form.Fact.{Fact}
use Rattle.index_forms.specs.Forms.{Falls, collected, top}
use Rattle.index_forms.proofs.Collected.{form_below, below_form}
use Rattle.index_forms.proofs.facts.Facts.covers.Goals as goal

pub returns : goal.returns
returns c = (
  λ h. subst (λ (fs : List Fact). Falls (length fs) (collected c.args.f.now.terms (top c.args.f.now.terms))) c.as_slice.ensures.value (form_below c.args.f.now c.as_slice-terms.result.now (length c.as_slice.result.now) c.as_slice-terms.ensures (c.none_from.ensures.0 h)),
  λ h. c.none_from.ensures.1 (below_form c.args.f.now c.as_slice-terms.result.now (length c.as_slice.result.now) c.as_slice-terms.ensures (subst (λ (fs : List Fact). Falls (length fs) (collected c.args.f.now.terms (top c.args.f.now.terms))) (sym c.as_slice.ensures.value) h)),
)
