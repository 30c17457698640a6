use Rattle.std.proofs.Common.{ℤ, List, Option, sym, subst, ◌∙◌}
use Rattle.index_forms.specs.declared.form.LinForm.{LinForm}
use Rattle.index_forms.specs.declared.form.Fact.{Fact}
use Rattle.index_forms.specs.Forms.{normal}
use Rattle.index_forms.specs.Facts.{AreFacts}
use Rattle.index_forms.specs.Agreement.{IsAbove}
use Rattle.index_forms.proofs.Walks.{none_is, some_is, ok_map}
use Rattle.index_forms.proofs.Known.{are_facts, above, upper_none}
use Rattle.index_forms.proofs.answers.upper.Goals as goal

pub returns-in-None-clause-bound : goal.returns-in-None-clause-bound
returns-in-None-clause-bound c = upper_none c.args.facts.now (normal c.args.f.now) (none_is (normal c.args.f.now) (sym c.in-None.is ∙ c.in_ok-form.ensures))

pub plain_upper-requires-clause-known : goal.plain_upper-requires-clause-known
plain_upper-requires-clause-known c = subst (λ (x : List Fact). AreFacts x) (sym c.as_slice.ensures.value) (are_facts c.args.facts.now c.as_slice.ensures.kept)

pub returns-in-Some-clause-sound : goal.returns-in-Some-clause-sound
returns-in-Some-clause-sound c =
    let g = (some_is (normal c.args.f.now) c.in-Some.form (sym c.in-Some.is ∙ c.in_ok-form.ensures)).0 in
    ok_map c.plain_upper.result (λ b. IsAbove c.as_slice.result.now c.in-Some.form b) (λ b. IsAbove c.args.facts.now c.args.f.now b)
    (λ (x : Option ℤ) h. above c.args.facts.now c.args.f.now x (subst (λ (y : LinForm). IsAbove c.args.facts.now y x) g (subst (λ (z : List Fact). IsAbove z c.in-Some.form x) c.as_slice.ensures.value h))) c.plain_upper.ensures.sound
