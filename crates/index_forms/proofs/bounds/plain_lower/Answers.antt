use Rattle.index_forms.specs.Forms.{Falls}
use Rattle.index_forms.specs.Limit.{within}
use Rattle.std.proofs.Common.{rules, sym, subst, IsTrue, length}
use Rattle.index_forms.specs.declared.form.LinForm.{LinForm}
use Rattle.index_forms.proofs.Walks.{falls_scaled}
use Rattle.index_forms.proofs.Negative.{negated_within}
use Rattle.index_forms.proofs.Sound.{is_below}
use Rattle.std.proofs.Common.{negsuc}
use Rattle.index_forms.proofs.bounds.plain_lower.Goals as goal

pub plain_upper-requires-clause-falls : goal.plain_upper-requires-clause-falls
plain_upper-requires-clause-falls c = subst (λ (x : LinForm). Falls (length c.args.facts.now) x.terms) (sym c.in_ok-turned.ensures) (falls_scaled (length c.args.facts.now) (negsuc 0) c.args.f.now.terms c.requires.falls)

pub plain_upper-requires-clause-within : goal.plain_upper-requires-clause-within
plain_upper-requires-clause-within c = subst (λ (x : LinForm). IsTrue (within x)) (sym c.in_ok-turned.ensures) (negated_within c.args.f.now c.requires.within)

pub returns-in-Some-clause-sound : goal.returns-in-Some-clause-sound
returns-in-Some-clause-sound c = is_below c.args.facts.now c.requires.known c.args.f.now c.turned_bound.result (search rules)
