use Rattle.std.proofs.Common.{sym, ◌∙◌, subst}
use Rattle.index_forms.specs.Forms.{coefficient, collected, top, Falls}
use Rattle.index_forms.proofs.Limits.{Terms}
use Rattle.index_forms.proofs.Collected.{falls_below}
use Rattle.index_forms.proofs.Gathered.{some_terms}
use Rattle.index_forms.proofs.Sums.{falls_top}
use Rattle.index_forms.proofs.facts.form_fits.Goals as goal

pub is_below-fits-requires : goal.is_below-fits-requires
is_below-fits-requires c =
    let ts = c.into_vec.result.items in
    let e = some_terms (collected ts (top ts)) c.in-Some.terms c.in-Some.ensures in
    subst (λ (x : Terms). Falls (top x) x) (sym (c.as_slice.ensures ∙ e)) (falls_top (top ts) (collected ts (top ts)) (falls_below (coefficient ts) (top ts)))
