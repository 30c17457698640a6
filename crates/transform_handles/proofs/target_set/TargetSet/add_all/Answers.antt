use Rattle.std.proofs.Common.{◌∙◌, ap, arith}
use Rattle.std.proofs.lemmas.Grind.{common_steps}
use Rattle.transform_handles.specs.Targets.{is_one_of}
use Rattle.transform_handles.proofs.target_set.TargetSet.add_all.Goals as goal

pub loop-t-preserved : goal.loop-t-preserved
loop-t-preserved c = λ ts h t. c.in-Ok.ensures _ (c.loop-t.invariant ts h) t ∙ ap (is_one_of t) (grind (arith, common_steps))
