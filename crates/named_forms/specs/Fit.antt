-- Parts that a type keeps together, where they fit.
use Rattle.std.specs.Prelude.{◌≡◌, Option, Some, None}
use Rattle.affine_maps.specs.Map.{IsMap}
use Rattle.payload_ops.specs.Payload.{IsPayload}
use Rattle.mlir_meaning.specs.Grids.{Each}
use Rattle.mlir_meaning.specs.Structured.{Form}

-- what was made of a value; None only where the value doesn't fit
abbrev pub IsFit : {A : Type 0} → (A → Type 0) → Option A → A → Type 0
IsFit P (Some made) a = made ≡ a
IsFit P None a = P a → ⊥

abbrev pub FormFits : Form → Type 0
FormFits f = Each IsMap f.maps × IsPayload f.payload
