use Rattle.std.proofs.Common.{◌≡◌, ◌++◌, take, drop, ◌↔◌, map}
use Rattle.index_forms.specs.Forms.{normal}
use Rattle.index_forms.specs.Limit.{AreForms}
use Rattle.index_forms.proofs.facts.forms_fit.Given as goal

abbrev pub invariant-loop-form : goal.invariant-loop-form
invariant-loop-form l = record {
  fits : AreForms l.count (map normal l.fn.forms) ↔ AreForms l.count (map normal (drop l.form-index l.fn.forms));
  value : l.forms ≡ map normal (take l.form-index l.fn.forms) ++ drop l.form-index l.fn.forms;
}
