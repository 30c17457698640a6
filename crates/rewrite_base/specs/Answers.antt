-- What a step answers on a module: the module that it forms and the operations that stand for its target, or the rule that is
-- broken there, or the limit that is passed.
use Rattle.std.specs.Prelude.{◌≡◌, List, [], ◌∷◌, Option, Some, None, Result, Ok, Err, ⊤, if◌then◌else◌}
use Rattle.mlir_ir.specs.Count.{find_in}
use Rattle.mlir_ir.specs.declared.tree.Module.{Module}
use Rattle.mlir_ir.specs.declared.tree.Op.{Op}
use Rattle.mlir_ir.specs.declared.tree.OpId.{OpId}
use Rattle.verified_runs.specs.Forms.{is_generic}
use Rattle.verified_runs.specs.Fresh.{fresh_op}
use Rattle.structured_steps.specs.Steps.{Rules, broken_of}
use Rattle.rewrite_base.specs.declared.error.StepError.{StepError}
use Rattle.rewrite_base.specs.declared.error.StepError.TheVariants as Failed
use Rattle.rewrite_base.specs.declared.made.Made.{Made}
use Rattle.rewrite_base.specs.Limits.{limit_of}

-- only want of memory is free
abbrev pub Answers : Rules → OpId → Module → Module → List OpId → Result (Module × Made) StepError → Type 0
Answers rules i m formed ops (Ok x) = (broken_of i rules m ≡ None) × (limit_of m formed ≡ None) × (x.0 ≡ formed) × (x.1.ops ≡ ops)
Answers rules i m formed ops (Err (Failed.Rule rule at)) = (broken_of i rules m ≡ Some rule) × (at ≡ Some i)
Answers rules i m formed ops (Err (Failed.Limit which)) = (broken_of i rules m ≡ None) × (limit_of m formed ≡ Some which)
Answers rules i m formed ops (Err Failed.Memory) = ⊤

-- the new operation of a step that forms one
abbrev pub new_op : Module → OpId
new_op m = record { 0 = fresh_op m.funcs }

-- a generic stays as it is
abbrev pub generalized_op : OpId → Module → Option Op → List OpId
generalized_op i m None = []
generalized_op i m (Some o) = (if is_generic o.kind then i else new_op m) ∷ []

-- what stands for the target of `generalize`
abbrev pub made_by_generalize : OpId → Module → List OpId
made_by_generalize i m = generalized_op i m (find_in i m.funcs)

-- what stands for the target of `interchange`
abbrev pub made_by_interchange : Module → List OpId
made_by_interchange m = new_op m ∷ []
