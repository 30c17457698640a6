use Rattle.std.proofs.Common.{sym, ◌∙◌, arith}
use Rattle.std.proofs.lemmas.Result.{IfOk-weaker}
use Rattle.payload_forms.proofs.Splices.{spliced_past}
use Rattle.payload_forms.proofs.splicing.spliced.Goals as goal

pub returns-else-at-items : goal.returns-else-at-items
returns-else-at-items g c =
    IfOk-weaker c.copied.result _ _ (λ l e. e ∙ sym (spliced_past c.args.at c.args.others.now c.args.items.now (omega arith))) c.copied.ensures
