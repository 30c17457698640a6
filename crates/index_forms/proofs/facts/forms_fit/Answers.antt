use Rattle.std.proofs.Common.{List, map, sym, subst}
use Rattle.index_forms.specs.declared.form.LinForm.{LinForm}
use Rattle.index_forms.specs.Forms.{normal}
use Rattle.index_forms.specs.Limit.{AreForms}
use Rattle.index_forms.proofs.Mapped.{mapped, not_yet}
use Rattle.index_forms.proofs.facts.forms_fit.Goals as goal

pub loop-form-preserved : goal.loop-form-preserved
loop-form-preserved c =
    let o = not_yet normal c.args.forms.now c.loop-form.forms c.loop-form.form-index c.form-item.result c.loop-form-test.true c.loop-form.invariant.value in
    record {
      fits = (
        λ h. (subst (λ (x : List LinForm). AreForms c.args.count (map normal x)) o (c.loop-form.invariant.fits.0 h)).1,
        λ h. c.loop-form.invariant.fits.1 (subst (λ (x : List LinForm). AreForms c.args.count (map normal x)) (sym o) (c.form_fits.ensures.fits.0 c.if-not-form_fits.false, h)),
      );
      value = mapped normal c.args.forms.now c.loop-form.forms c.loop-form.form-index c.form_fits.new.f c.form-item.result c.loop-form-test.true (c.form_fits.ensures.value c.if-not-form_fits.false) c.loop-form.invariant.value;
    }
