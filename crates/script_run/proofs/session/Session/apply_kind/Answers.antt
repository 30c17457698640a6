use Rattle.std.proofs.Common.{ℕ, List, sym, subst}
use Rattle.script_read.specs.declared.script.StepKind.{StepKind}
use Rattle.script_run.specs.Outcomes.{Becomes}
use Rattle.script_run.specs.Steps.{at_target, interchange_at, transforms, after_kind}
use Rattle.script_run.proofs.session.Session.apply_kind.Goals as goal

pub returns-in-Interchange : goal.returns-in-Interchange
returns-in-Interchange c =
    let x = c.args.self.now in
    let t = c.transform-in-Interchange in
    subst (λ (k : StepKind). Becomes x t.new.self t.result (after_kind k c.args.results.now x)) (sym c.in-Interchange.is)
    (subst (λ (order : List ℕ). Becomes x t.new.self t.result (transforms (at_target (interchange_at order)) c.in-Interchange.target c.args.results.now x)) c.as_slice-in-Interchange.ensures t.ensures)
