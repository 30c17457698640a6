-- What a step makes of an operation, in code, by the types in scope there.
use Rattle.std.specs.Prelude.{◌≡◌, Option, Some, None, ⊤, option_copied}
use Rattle.std.specs.BTreeMap as tree
use Rattle.std.specs.Ordering.{nat_cmp}
use Rattle.affine_maps.specs.Map.{IsMap}
use Rattle.payload_ops.specs.Payload.{IsPayload}
use Rattle.mlir_ir.specs.declared.tree.OpKind.{OpKind, Generic}
use Rattle.mlir_meaning.specs.Grids.{Each}
use Rattle.mlir_verify.specs.Place.{Types}
use Rattle.step_passes.specs.declared.known.KnownTypes.{KnownTypes}
use Rattle.step_passes.specs.declared.told.Step.{Step}
use Rattle.step_passes.specs.declared.told.Step.TheVariants.{Generalize, Interchange}
use Rattle.step_passes.specs.declared.told.Told as code
use Rattle.step_passes.specs.declared.told.Told.TheVariants.{Breaks, Stays, Unfit, Becomes}
use Rattle.step_passes.specs.Exchanging.{Exchanging}
use Rattle.step_passes.specs.Planned.{Told}
use Rattle.step_passes.specs.Steps.{generalizing, interchanging}

abbrev pub types_known : KnownTypes → Types
types_known s v = option_copied (tree.get nat_cmp s.types v)

abbrev pub exchanging : Step → Exchanging
exchanging Generalize = generalizing
exchanging (Interchange order) = interchanging order.now

-- what types keep of a generic
abbrev pub KindFits : OpKind → Type 0
KindFits (Generic maps iterators ins outs captured payload) = Each IsMap maps × IsPayload payload
KindFits _ = ⊤

abbrev pub IsUnfit : Option OpKind → Type 0
IsUnfit None = ⊥
IsUnfit (Some kind) = KindFits kind → ⊥

-- where a rule is broken, nothing else counts
abbrev pub Tells : Told → code.Told → Type 0
Tells t (Breaks rule) = t.0 ≡ Some rule
Tells t Stays = (t.0 ≡ None) × (t.1 ≡ None)
Tells t Unfit = (t.0 ≡ None) × IsUnfit t.1
Tells t (Becomes kind) = (t.0 ≡ None) × (t.1 ≡ Some kind)
