-- The lines and the statuses of refusals.
use Rattle.std.specs.Prelude.{ℕ, List, [], ◌∷◌, ◌++◌, codes, decimal}
use Rattle.mlir_base.specs.declared.limit.Which.{Which}
use Rattle.mlir_base.specs.declared.limit.Which.TheVariants as which
use Rattle.mlir_opt.specs.declared.refusal.Fault.{Fault}
use Rattle.mlir_opt.specs.declared.refusal.Fault.TheVariants as fault
use Rattle.mlir_verify.specs.declared.rule.Rule.{Rule}
use Rattle.mlir_verify.specs.declared.rule.Rule.TheVariants as rule
use Rattle.structured_steps.specs.declared.rule.StepRule.{StepRule}
use Rattle.structured_steps.specs.declared.rule.StepRule.TheVariants as steps
use Rattle.mlir_opt.specs.declared.refusal.StepFault.{StepFault}
use Rattle.mlir_opt.specs.declared.refusal.StepFault.TheVariants as fault_of
use Rattle.mlir_opt.specs.declared.refusal.Refusal.{Refusal}
use Rattle.mlir_opt.specs.declared.refusal.Refusal.TheVariants.{Words, FileAbsent, ReadFailed, Limit, Text, Verify, NoScript, Step, WriteFailed, Memory}

abbrev pub limit_word : Which → List ℕ
limit_word which.Bytes = codes "bytes"
limit_word which.Operations = codes "operations"
limit_word which.Depth = codes "depth"
limit_word which.Parameters = codes "parameters"
limit_word which.Results = codes "results"
limit_word which.Operands = codes "operands"
limit_word which.PayloadSteps = codes "payload-steps"
limit_word which.ScriptSteps = codes "script-steps"
limit_word which.Rank = codes "rank"
limit_word which.Loops = codes "loops"
limit_word which.Extent = codes "extent"
limit_word which.Elements = codes "elements"
limit_word which.Lanes = codes "lanes"
limit_word which.Cells = codes "cells"
limit_word which.Work = codes "work"

abbrev pub fault_word : Fault → List ℕ
fault_word fault.Byte = codes "byte"
fault_word fault.Unclosed = codes "unclosed"
fault_word fault.Unsupported = codes "unsupported"
fault_word fault.Syntax = codes "syntax"
fault_word fault.UnknownName = codes "unknown-name"
fault_word fault.Twice = codes "twice"
fault_word fault.TypeDiffers = codes "type-differs"
fault_word fault.Number = codes "number"

abbrev pub rule_word : Rule → List ℕ
rule_word rule.V1 = codes "V1"
rule_word rule.V2 = codes "V2"
rule_word rule.V3 = codes "V3"
rule_word rule.V4 = codes "V4"
rule_word rule.V5 = codes "V5"
rule_word rule.V6 = codes "V6"
rule_word rule.V7 = codes "V7"
rule_word rule.V8 = codes "V8"
rule_word rule.V9 = codes "V9"
rule_word rule.V10 = codes "V10"
rule_word rule.V11 = codes "V11"
rule_word rule.V12 = codes "V12"
rule_word rule.V13 = codes "V13"
rule_word rule.V14 = codes "V14"

abbrev pub step_rule_word : StepRule → List ℕ
step_rule_word steps.HandleDead = codes "handle-dead"
step_rule_word steps.HandleCount = codes "handle-count"
step_rule_word steps.WrongKind = codes "wrong-kind"
step_rule_word steps.ResultCount = codes "result-count"
step_rule_word steps.SizeCount = codes "size-count"
step_rule_word steps.Permutation = codes "permutation"
step_rule_word steps.ReductionOrder = codes "reduction-order"
step_rule_word steps.ReductionCombiner = codes "reduction-combiner"
step_rule_word steps.ReductionForall = codes "reduction-forall"
step_rule_word steps.NoLoop = codes "no-loop"
step_rule_word steps.EmptyWindow = codes "empty-window"
step_rule_word steps.Inside = codes "inside"
step_rule_word steps.NotUsedInside = codes "not-used-inside"
step_rule_word steps.Cover = codes "cover"
step_rule_word steps.MayTrap = codes "may-trap"
step_rule_word steps.PadDims = codes "pad-dims"
step_rule_word steps.PadValues = codes "pad-values"
step_rule_word steps.PadWindow = codes "pad-window"
step_rule_word steps.PadNeutral = codes "pad-neutral"
step_rule_word steps.PackWindow = codes "pack-window"
step_rule_word steps.PackIndex = codes "pack-index"
step_rule_word steps.PackDynamic = codes "pack-dynamic"
step_rule_word steps.VectorSize = codes "vector-size"
step_rule_word steps.VectorMap = codes "vector-map"
step_rule_word steps.VectorIndex = codes "vector-index"

-- why a step is refused
abbrev pub step_fault_text : StepFault → List ℕ
step_fault_text fault_of.Unsupported = codes "unsupported"
step_fault_text (fault_of.Rule r) = step_rule_word r
step_fault_text (fault_of.Limit w) = codes "limit " ++ limit_word w

-- a refusal's line, without its line feed
abbrev pub message_of : Refusal → List ℕ
message_of Words = codes "error: words"
message_of FileAbsent = codes "error: file absent"
message_of ReadFailed = codes "error: read failed"
message_of (Limit w) = codes "error: limit " ++ limit_word w
message_of (Text line column f) = codes "error: " ++ decimal line ++ codes ":" ++ decimal column ++ codes ": " ++ fault_word f
message_of (Verify r op) = codes "error: verify " ++ rule_word r ++ codes " at " ++ decimal op
message_of NoScript = codes "error: no script"
message_of (Step step w) = codes "error: step " ++ decimal step ++ codes " " ++ step_fault_text w
message_of WriteFailed = codes "error: write failed"
message_of Memory = codes "error: memory"

-- its line
abbrev pub line_of : Refusal → List ℕ
line_of refusal = message_of refusal ++ 10 ∷ []

-- its exit status
abbrev pub status_of : Refusal → ℕ
status_of Words = 2
status_of FileAbsent = 3
status_of ReadFailed = 3
status_of (Limit w) = 1
status_of (Text line column f) = 1
status_of (Verify r op) = 1
status_of NoScript = 1
status_of (Step step w) = 1
status_of WriteFailed = 3
status_of Memory = 4
