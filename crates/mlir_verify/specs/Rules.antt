-- The verifier's rules, and the first operation at which one fails.
use Rattle.std.specs.Prelude.{◌≡◌, nat_lt, Bool, true, false, List, length, [], ◌∷◌, Option, Some, None, Result, Ok, Err, ⊤, if◌then◌else◌}
use Rattle.std.specs.List.{list_all}
use Rattle.mlir_ir.specs.Shape.{FuncShape}
use Rattle.mlir_ir.specs.declared.tree.Module.{Module}
use Rattle.mlir_ir.specs.declared.tree.OpId.{OpId}
use Rattle.mlir_verify.specs.declared.rule.Rule.{Rule}
use Rattle.mlir_verify.specs.declared.rule.Rule.TheVariants.{V1, V2, V3, V4, V5, V6, V7, V8, V9, V10, V11, V12, V13, V14}
use Rattle.mlir_verify.specs.declared.rule.Refused.{Refused}
use Rattle.mlir_verify.specs.declared.rule.Refused.TheVariants as Refusal
use Rattle.mlir_verify.specs.Place.{Place, places, type_of}
use Rattle.mlir_verify.specs.Names.{breaks_names}
use Rattle.mlir_verify.specs.Types.{breaks_types}
use Rattle.mlir_verify.specs.Ends.{breaks_end, breaks_signature}
use Rattle.mlir_verify.specs.Maps.{breaks_maps, breaks_iterators}
use Rattle.mlir_verify.specs.Extents.{breaks_extents}
use Rattle.mlir_verify.specs.Windows.{breaks_windows}
use Rattle.mlir_verify.specs.Limits.{breaks_limits}

-- whether a rule fails at a place; V9 to V13 speak of no operation that is built
abbrev pub fails : Rule → Place → Bool
fails V1 p = breaks_names p
fails V2 p = breaks_types p
fails V3 p = breaks_end p
fails V4 p = breaks_signature p
fails V5 p = breaks_maps (type_of p) p.op.kind
fails V6 p = breaks_iterators p.op.kind
fails V7 p = breaks_extents (type_of p) p.func.results p.op.results p.op.kind
fails V8 p = breaks_windows (type_of p) p.op.kind
fails V14 p = breaks_limits p
fails _ p = false

abbrev pub rules_in_order : List Rule
rules_in_order = V1 ∷ V2 ∷ V3 ∷ V4 ∷ V5 ∷ V6 ∷ V7 ∷ V8 ∷ V9 ∷ V10 ∷ V11 ∷ V12 ∷ V13 ∷ V14 ∷ []

abbrev pub lowest : List Rule → Place → Option Rule
lowest [] p = None
lowest (r ∷ rs) p = if fails r p then Some r else lowest rs p

-- the lowest rule that fails at a place
unfoldable pub broken : Place → Option Rule
broken p = lowest rules_in_order p

abbrev pub stands_at : OpId → Option Rule → Option (Rule × OpId) → Option (Rule × OpId)
stands_at i (Some r) later = Some (r, i)
stands_at i None later = later

-- the first of the places at which a rule fails, and the lowest such rule there
abbrev pub first_broken_of : List Place → Option (Rule × OpId)
first_broken_of [] = None
first_broken_of (p ∷ ps) = stands_at p.op.id (broken p) (first_broken_of ps)

unfoldable pub first_broken : Module → Option (Rule × OpId)
first_broken m = first_broken_of (places m)

-- a body isn't empty, so that it has a terminator; the type of a function keeps it
abbrev pub has_body : FuncShape → Bool
has_body f = nat_lt 0 (length f.body)

-- no rule fails in the module
abbrev pub IsVerified : Module → Type 0
IsVerified m = (first_broken m ≡ None) × (list_all has_body m.funcs ≡ true)

-- what `verify` answers; only want of memory is free
abbrev pub AnswersVerify : Module → Result Module Refused → Type 0
AnswersVerify m (Ok n) = (n ≡ m) × IsVerified m
AnswersVerify m (Err (Refusal.Rule r i)) = first_broken m ≡ Some (r, i)
AnswersVerify m (Err Refusal.Memory) = ⊤
