-- Which captured values the first steps of a payload use.
use Rattle.std.specs.Prelude.{◌≡◌, ◌+◌, List, ◌++◌, length}
use Rattle.payload_ops.specs.declared.step.Arg.{Arg}
use Rattle.payload_ops.specs.Payload.{IsPayload}
use Rattle.mlir_meaning.specs.Grids.{count_up}
use Rattle.payload_forms.specs.declared.placing.PlacedPayload.{PlacedPayload}
use Rattle.payload_forms.specs.declared.placing.Uses.{Uses}
use Rattle.payload_forms.specs.Captured.{news}

-- after these arguments of one operation were named
pub record Notes (old : Uses) (args : List Arg) (new : Uses) : Type 0 where
  pub captured : new.captured ≡ old.captured
  pub seen : new.seen ≡ old.seen ++ news old.captured old.seen args
  pub spots : new.spots ≡ old.spots ++ count_up old.next (length (news old.captured old.seen args))
  pub others : new.others ≡ old.others
  pub next : new.next ≡ old.next + length (news old.captured old.seen args)

-- its payload is one
abbrev pub PlacedFits : PlacedPayload → Type 0
PlacedFits p = IsPayload p.payload
