use Rattle.std.proofs.Common.{ℤ, List, Option, sym, subst, ◌∙◌}
use Rattle.index_forms.specs.declared.form.LinForm.{LinForm}
use Rattle.index_forms.specs.declared.form.Fact.{Fact}
use Rattle.index_forms.specs.Forms.{normal}
use Rattle.index_forms.specs.Facts.{AreFacts}
use Rattle.index_forms.specs.Agreement.{IsBelow}
use Rattle.index_forms.proofs.Walks.{none_is, some_is, ok_map}
use Rattle.index_forms.proofs.Known.{are_facts, below, lower_none}
use Rattle.index_forms.proofs.answers.lower.Goals as goal

pub returns-in-None-clause-bound : goal.returns-in-None-clause-bound
returns-in-None-clause-bound c = lower_none c.args.facts.now (normal c.args.f.now) (none_is (normal c.args.f.now) (sym c.in-None.is ∙ c.in_ok-form.ensures))

pub plain_lower-requires-clause-known : goal.plain_lower-requires-clause-known
plain_lower-requires-clause-known c = subst (λ (x : List Fact). AreFacts x) (sym c.as_slice.ensures.value) (are_facts c.args.facts.now c.as_slice.ensures.kept)

pub returns-in-Some-clause-sound : goal.returns-in-Some-clause-sound
returns-in-Some-clause-sound c =
    let g = (some_is (normal c.args.f.now) c.in-Some.form (sym c.in-Some.is ∙ c.in_ok-form.ensures)).0 in
    ok_map c.plain_lower.result (λ b. IsBelow c.as_slice.result.now c.in-Some.form b) (λ b. IsBelow c.args.facts.now c.args.f.now b)
    (λ (x : Option ℤ) h. below c.args.facts.now c.args.f.now x (subst (λ (y : LinForm). IsBelow c.args.facts.now y x) g (subst (λ (z : List Fact). IsBelow z c.in-Some.form x) c.as_slice.ensures.value h))) c.plain_lower.ensures.sound
