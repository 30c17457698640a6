-- What a step does to a session: the rule or limit by which it is refused, or the session after it (Transform manual,
-- "Transform Dialect"). A handle's targets are taken in order, each in the module that the ones before it gave.
use Rattle.std.specs.Prelude.{ℕ, ◌==◌, List, [], ◌∷◌, ◌++◌, map, length, Option, Some, None, Result, Ok, Err, if◌then◌else◌}
use Rattle.mlir_base.specs.declared.limit.Which.{Which}
use Rattle.mlir_base.specs.declared.limit.Which.TheVariants.{Operations, Extent}
use Rattle.mlir_ir.specs.declared.tree.Module.{Module}
use Rattle.mlir_ir.specs.declared.tree.OpId.{OpId}
use Rattle.structured_steps.specs.declared.rule.StepRule.{StepRule}
use Rattle.structured_steps.specs.declared.rule.StepRule.TheVariants.{HandleDead, HandleCount, WrongKind, MayTrap}
use Rattle.structured_steps.specs.Steps.{Rules, broken_of, rules_of_generalize, generalized, rules_of_interchange, interchanged_in}
use Rattle.rewrite_base.specs.declared.error.StepError.{StepError}
use Rattle.rewrite_base.specs.declared.error.StepError.TheVariants.{Rule, Limit}
use Rattle.rewrite_base.specs.declared.made.Made.{Made}
use Rattle.rewrite_base.specs.Limits.{limit_of, has_large_numbers}
use Rattle.rewrite_base.specs.Answers.{made_by_generalize, made_by_interchange}
use Rattle.pair_laws.specs.FuseAll.{Stop}
use Rattle.pair_laws.specs.FuseAll as stop
use Rattle.fuse_elementwise.specs.Fused.{fused_in}
use Rattle.transform_handles.specs.Items.{matched}
use Rattle.transform_handles.specs.Handles.{Row, named, consumed}
use Rattle.transform_handles.specs.declared.target.Target.{Target}
use Rattle.transform_handles.specs.declared.target.Target.TheVariants.{Root, Function, Operation}
use Rattle.script_read.specs.declared.script.HandleId.{HandleId}
use Rattle.script_read.specs.declared.script.Step.{Step}
use Rattle.script_read.specs.declared.script.StepKind.{StepKind}
use Rattle.script_read.specs.declared.script.StepKind.TheVariants.{Match, Split, Generalize, Interchange, FuseElementwise}
use Rattle.script_run.specs.Outcomes.{and_then, breaks, demand}
use Rattle.script_run.specs.Sessions.{SessionShape}

-- AT ONE OPERATION
-- the module that a step forms, and the operations that its result handles name for this one
abbrev pub StepAt : Type 0
StepAt = OpId → Module → Result (Module × Made) StepError

-- a rule comes before a limit
abbrev pub decided : OpId → Option StepRule → Option Which → Module → List OpId → Result (Module × Made) StepError
decided i (Some rule) limit formed ops = Err (Rule rule (Some i))
decided i None (Some which) formed ops = Err (Limit which)
decided i None None formed ops = Ok (formed, record { ops = ops })

abbrev pub stepped : Rules → OpId → Module → Module → List OpId → Result (Module × Made) StepError
stepped rules i m formed ops = decided i (broken_of i rules m) (limit_of m formed) formed ops

abbrev pub generalize_at : StepAt
generalize_at i m = stepped rules_of_generalize i m (generalized i m) (made_by_generalize i m)

abbrev pub interchange_at : List ℕ → StepAt
interchange_at order i m = stepped (rules_of_interchange order) i m (interchanged_in i order m) (made_by_interchange m)

-- AT A TARGET
-- the module that a step forms, and the targets that its result handles name for this one
abbrev pub TargetStep : Type 0
TargetStep = Target → Module → Result (Module × List Target) StepError

abbrev pub operations : Module × Made → Module × List Target
operations r = (r.0, map Operation r.1.ops)

-- a step at operations: a module or a function is none
abbrev pub at_target : StepAt → TargetStep
at_target step Root m = breaks WrongKind
at_target step (Function k) m = breaks WrongKind
at_target step (Operation i) m = and_then (step i m) (λ r. Ok (operations r))

-- the limit that a formed module passes, or none
abbrev pub within : Option Which → Module → List Target → Result (Module × List Target) StepError
within (Some which) formed given = Err (Limit which)
within None formed given = Ok (formed, given)

-- a map that needs a number beyond plus and minus 2^31 passes the limit on extents
abbrev pub fused_as : ℕ → Module → Result Module Stop → Result (Module × List Target) StepError
fused_as k m (Ok formed) = within (limit_of m formed) formed (Function k ∷ [])
fused_as k m (Err (stop.MayTrap i)) = Err (Rule MayTrap (Some i))
fused_as k m (Err stop.LargeNumber) = Err (Limit (if has_large_numbers m.funcs then Operations else Extent))

-- the pairs of a function are fused until none is left, and its result is the function
abbrev pub fuse_at : TargetStep
fuse_at Root m = breaks WrongKind
fuse_at (Function k) m = fused_as k m (fused_in k m)
fuse_at (Operation i) m = Err (Rule WrongKind (Some i))

-- AT TARGETS
-- what earlier targets gave stands first
abbrev pub behind : List Target → Result (Module × List Target) StepError → Result (Module × List Target) StepError
behind given r = and_then r (λ q. Ok (q.0, given ++ q.1))

-- at each in turn, and all that they gave
abbrev pub at_each : TargetStep → List Target → Module → Result (Module × List Target) StepError
at_each step [] m = Ok (m, [])
at_each step (t ∷ ts) m = and_then (step t m) (λ r. behind r.1 (at_each step ts r.0))

-- IN A SESSION
-- the targets of a handle
abbrev pub live_or : Option (List Target) → Result (List Target) StepError
live_or None = breaks HandleDead
live_or (Some ts) = Ok ts

abbrev pub targets_of : HandleId → SessionShape → Result (List Target) StepError
targets_of h x = live_or (named x.rows h.0)

-- result handles, each with the targets that it names; those beyond name none
abbrev pub result_rows : List HandleId → List (List Target) → List Row
result_rows [] given = []
result_rows (h ∷ hs) [] = (h.0, Some []) ∷ result_rows hs []
result_rows (h ∷ hs) (ts ∷ given) = (h.0, Some ts) ∷ result_rows hs given

-- after a step that only reads
abbrev pub with_rows : SessionShape → List Row → SessionShape
with_rows x rows = record { «module» = x.module; rows = x.rows ++ rows }

-- after a step that consumed targets and formed a module
abbrev pub moved_on : List Target → Module → List Row → SessionShape → SessionShape
moved_on ts formed rows x = record { «module» = formed; rows = consumed ts x.module.funcs x.rows ++ rows }

abbrev pub matches : List (List ℕ) → HandleId → List HandleId → SessionShape → Result SessionShape StepError
matches names inside results x =
    and_then (targets_of inside x) (λ ts. Ok (with_rows x (result_rows results (matched names ts x.module.funcs ∷ []))))

-- one target to each result
abbrev pub splits : HandleId → List HandleId → SessionShape → Result SessionShape StepError
splits h results x =
    and_then (targets_of h x) (λ ts.
    and_then (demand (length ts == length results) HandleCount) (λ _. Ok (with_rows x (result_rows results (map (λ t. t ∷ []) ts)))))

abbrev pub transforms : TargetStep → HandleId → List HandleId → SessionShape → Result SessionShape StepError
transforms step h results x =
    and_then (targets_of h x) (λ ts.
    and_then (at_each step ts x.module) (λ r. Ok (moved_on ts r.0 (result_rows results (r.1 ∷ [])) x)))

-- the session after a step; no step but these is built, and none is applied
abbrev pub after_kind : StepKind → List HandleId → SessionShape → Result SessionShape StepError
after_kind (Match names inside) results x = matches names inside results x
after_kind (Split h) results x = splits h results x
after_kind (Generalize h) results x = transforms (at_target generalize_at) h results x
after_kind (Interchange h order) results x = transforms (at_target (interchange_at order)) h results x
after_kind (FuseElementwise h) results x = transforms fuse_at h results x
after_kind _ results x = Ok x

unfoldable pub after : Step → SessionShape → Result SessionShape StepError
after s x = after_kind s.kind s.results x
