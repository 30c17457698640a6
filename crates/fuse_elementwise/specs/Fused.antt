-- What fusing the pairs of a function answers on a module.
use Rattle.std.specs.Prelude.{◌≡◌, ℕ, zero, suc, List, [], ◌∷◌, slice_get, Option, Some, None, Result, Ok, Err, ⊤, if◌then◌else◌}
use Rattle.mlir_base.specs.declared.limit.Which.{Which}
use Rattle.mlir_base.specs.declared.limit.Which.TheVariants.{Operations, Extent}
use Rattle.mlir_ir.specs.Shape.{FuncShape, TensorShape}
use Rattle.mlir_ir.specs.declared.tree.Module.{Module}
use Rattle.mlir_meaning.specs.Meaning.{meaning}
use Rattle.mlir_verify.specs.Rules.{IsVerified}
use Rattle.verified_runs.specs.Typed.{AreOf, types_of}
use Rattle.structured_steps.specs.declared.rule.StepRule.TheVariants as rules
use Rattle.pair_laws.specs.FuseAll.{fuse_all, Stop}
use Rattle.pair_laws.specs.FuseAll as stop
use Rattle.rewrite_base.specs.Limits.{has_large_numbers, limit_of}
use Rattle.rewrite_base.specs.declared.error.StepError.{StepError}
use Rattle.rewrite_base.specs.declared.error.StepError.TheVariants as failed
use Rattle.rewrite_base.specs.declared.made.Made.{Made}
use Rattle.fuse_elementwise.specs.declared.turn.Stopped.{Stopped}
use Rattle.fuse_elementwise.specs.declared.turn.Stopped.TheVariants as stopped

-- THE MODULE: function n with its pairs fused until none is left
abbrev pub with_func : ℕ → FuncShape → List FuncShape → List FuncShape
with_func n g [] = []
with_func zero g (f ∷ fs) = g ∷ fs
with_func (suc n) g (f ∷ fs) = f ∷ with_func n g fs

abbrev pub formed_by : ℕ → Module → Result FuncShape Stop → Result Module Stop
formed_by n m (Ok g) = Ok (record { funcs = with_func n g m.funcs })
formed_by n m (Err e) = Err e

abbrev pub fused_at : ℕ → Module → Option FuncShape → Result Module Stop
fused_at n m None = Ok m
fused_at n m (Some f) = formed_by n m (fuse_all f)

abbrev pub fused_in : ℕ → Module → Result Module Stop
fused_in n m = fused_at n m (slice_get m.funcs n)

-- THE ANSWER
-- the first limit that is passed, where no rule is broken: a map that needs a number beyond plus and minus 2^31 passes
-- the limit on extents
abbrev pub limit_by : Module → Result Module Stop → Option Which
limit_by m (Ok formed) = limit_of m formed
limit_by m (Err (stop.MayTrap i)) = None
limit_by m (Err stop.LargeNumber) = if has_large_numbers m.funcs then Some Operations else Some Extent

-- no operation stands for the target, which is a function; the rule is broken at the producer. Only want of memory is
-- free.
abbrev pub AnswersFuse : ℕ → Module → Result (Module × Made) StepError → Type 0
AnswersFuse n m (Ok x) = (fused_in n m ≡ Ok x.0) × (limit_by m (fused_in n m) ≡ None) × (x.1.ops ≡ [])
AnswersFuse n m (Err (failed.Rule rule None)) = ⊥
AnswersFuse n m (Err (failed.Rule rule (Some i))) = (rule ≡ rules.MayTrap) × (fused_in n m ≡ Err (stop.MayTrap i))
AnswersFuse n m (Err (failed.Limit which)) = limit_by m (fused_in n m) ≡ Some which
AnswersFuse n m (Err failed.Memory) = ⊤

-- before limits are tested
abbrev pub AnswersModule : ℕ → Module → Result Module Stopped → Type 0
AnswersModule n m (Ok x) = (fused_in n m ≡ Ok x) × IsVerified x
AnswersModule n m (Err (stopped.MayTrap i)) = fused_in n m ≡ Err (stop.MayTrap i)
AnswersModule n m (Err stopped.LargeNumber) = fused_in n m ≡ Err stop.LargeNumber
AnswersModule n m (Err stopped.Memory) = ⊤

-- with a formed module and its limits
abbrev pub WithinFuse : Module → Module → Result (Module × Made) StepError → Type 0
WithinFuse m formed (Ok x) = (x.0 ≡ formed) × (limit_of m formed ≡ None) × (x.1.ops ≡ [])
WithinFuse m formed (Err (failed.Rule rule at)) = ⊥
WithinFuse m formed (Err (failed.Limit which)) = limit_of m formed ≡ Some which
WithinFuse m formed (Err failed.Memory) = ⊤

-- THE LAWS
-- each function means what it meant, on all inputs of its parameters' types
abbrev pub KeepMeanings : List FuncShape → List FuncShape → Type 0
KeepMeanings [] [] = ⊤
KeepMeanings [] (g ∷ gs) = ⊥
KeepMeanings (f ∷ fs) [] = ⊥
KeepMeanings (f ∷ fs) (g ∷ gs) =
    ((inputs : List TensorShape) → AreOf (types_of f.params) inputs → meaning g inputs ≡ meaning f inputs) × KeepMeanings fs gs

abbrev pub FusedKeepsMeaning : Type 0
FusedKeepsMeaning = (n : ℕ) (m formed : Module) → IsVerified m → fused_in n m ≡ Ok formed → KeepMeanings m.funcs formed.funcs

abbrev pub FusedVerifies : Type 0
FusedVerifies = (n : ℕ) (m formed : Module) → IsVerified m → fused_in n m ≡ Ok formed → IsVerified formed
