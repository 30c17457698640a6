use Rattle.std.proofs.Common.{◌≡◌, ◌∙◌, ◌<◌, ◌++◌, ℕ, List, ap, subst, sym}
use Rattle.mlir_ir.specs.declared.tree.Op.{Op}
use Rattle.mlir_verify.specs.Names.{redefines, ids}
use Rattle.step_passes.specs.OnePass.{passed_ops}
use Rattle.step_passes.specs.Pending.{AreLeft}
use Rattle.step_passes.proofs.carry.pass_func.Goals as goal

pub invariant_of-result : goal.invariant_of-result
invariant_of-result c = subst (λ (n : ℕ). 0 < n) (sym c.in_ok-body.ensures.many) c.f.invariant

pub returns : goal.returns
returns c = λ xs gone own left.
    let body : c.f.inside.body ≡ c.args.f.body = λ j. (c.f.view_is j).body in
    let done = c.in_ok-body.ensures.passed xs gone (ap (λ os. redefines (ids os) gone) body ∙ own) left in (
      λ j. record {
        name = (c.f.view_is j).name;
        params = (c.f.view_is j).params;
        results = (c.f.view_is j).results;
        body = (done.0 ∙ ap (passed_ops xs (λ n. n)) body) j;
      },
      subst (λ (os : List Op). AreLeft xs (gone ++ ids os) c.put_all.new.left) body done.1,
    )
