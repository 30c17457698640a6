use Rattle.std.proofs.Common.{refl}
use Rattle.index_forms.proofs.Known.{loop_differs, extent_differs}
use Rattle.index_forms.proofs.facts.all_differ.Goals as goal

pub returns-in-Loop : goal.returns-in-Loop
returns-in-Loop c = (λ _. loop_differs c.args.f.now c.in-Loop.lower c.in-Loop.upper c.in-Loop.step c.args.others.now c.in-Loop.is, λ _. refl)

pub returns-in-Extent : goal.returns-in-Extent
returns-in-Extent c = (λ _. extent_differs c.args.f.now c.in-Extent.most c.args.others.now c.in-Extent.is, λ _. refl)
