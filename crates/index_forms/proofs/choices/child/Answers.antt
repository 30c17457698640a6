use Rattle.std.proofs.Common.{List, get_or, pos, ap, sym, ◌∙◌, subst}
use Rattle.index_forms.specs.declared.form.LinForm.{LinForm}
use Rattle.index_forms.specs.Forms.{Falls}
use Rattle.index_forms.specs.Limit.{IsForm}
use Rattle.index_forms.proofs.Limits.{Terms}
use Rattle.index_forms.proofs.Frames.{least_at}
use Rattle.index_forms.proofs.choices.child.Goals as goal

pub with_first-requires-in-Least-clause-others : goal.with_first-requires-in-Least-clause-others
with_first-requires-in-Least-clause-others c =
    let a = (get_or c.args.f.now.terms 0 (0, pos 0)).0 in
    let is = c.index-as_slice-choice.is ∙ ap (λ (x : List LinForm). get_or x c.args.choice c.index-as_slice-choice.result) c.as_slice-in-Least.ensures in
    let l = least_at a c.args.fact.now c.in-Least.terms c.args.by c.args.choice c.index-as_slice-choice.result c.in-Least.is c.requires.fact c.requires.choice in
    subst (λ (x : Terms). Falls a x) (sym c.as_slice-in-Least-2.ensures) (subst (λ (x : LinForm). IsForm a x) (sym is) l).0
