use Rattle.std.proofs.Common.{rules, ◌≡◌, ◌<◌, pos, length, get_or, refl, sym, ◌∙◌, subst, w64, FitsSigned}
use Rattle.index_forms.specs.Forms.{form}
use Rattle.index_forms.specs.Stack.{replaced}
use Rattle.index_forms.proofs.Limits.{Terms}
use Rattle.index_forms.proofs.Sums.{falls_top}
use Rattle.index_forms.proofs.Walks.{ok_map}
use Rattle.index_forms.proofs.Frames.{replaced_is}
use Rattle.index_forms.proofs.choices.with_first.Goals as goal

pub plus_scaled-requires-clause-second : goal.plus_scaled-requires-clause-second
plus_scaled-requires-clause-second c = falls_top _ c.args.others.now c.requires.others

pub returns : goal.returns
returns c =
    let fc : FitsSigned w64 c.args.f.now.constant = search rules in
    let fb : FitsSigned w64 (get_or c.as_slice-terms.result.now 0 (0, pos 0)).1 = search rules in
    let some : 0 < length c.as_slice-terms.result.now = subst (λ (x : Terms). 0 < length x) (sym c.as_slice-terms.ensures) c.requires.some in
    let e = replaced_is c.args.f.now.constant (get_or c.as_slice-terms.result.now 0 (0, pos 0)).1 c.args.number c.as_slice-terms.result.now c.args.f.now.terms c.args.others.now c.as_slice-terms.ensures some refl fc fb c.ranges.number in
    ok_map c.plus_scaled.result _ (λ r. r ≡ replaced c.args.f.now.constant c.args.f.now.terms (form c.args.number c.args.others.now)) (λ r h. h ∙ e) c.plus_scaled.ensures
