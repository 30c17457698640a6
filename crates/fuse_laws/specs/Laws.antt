-- The laws. Each is the contract of a function in `src/laws.rt`.
use Rattle.std.specs.Prelude.{◌≡◌, ℕ, true, List, [], ◌∷◌, length, slice_get, Some, Option}
use Rattle.std.specs.Option.{option_and_then}
use Rattle.payload_ops.specs.Payload.{IsPayload}
use Rattle.payload_ops.specs.Values.{payload_value}
use Rattle.payload_ops.specs.Shape.{PayloadShape}
use Rattle.mlir_meaning.specs.Grids.{at, InBox}
use Rattle.payload_forms.specs.Joined.{spliced, Joint, joined}
use Rattle.fuse_laws.specs.Joined.{Fit, Meets}
use Rattle.affine_maps.specs.Shape.{MapShape}
use Rattle.mlir_meaning.specs.declared.values.Datum.{Datum}
use Rattle.mlir_meaning.specs.declared.values.Grid.{Grid}
use Rattle.mlir_meaning.specs.Structured.{generic_element}
use Rattle.point_laws.specs.Orders.{is_order, old_point}
use Rattle.point_laws.specs.Boxes.{picks}
use Rattle.fuse_laws.specs.Fused.{fused, Fuses}
use Rattle.region_laws.specs.Instances.{Instance, result_of}

-- the joined payload gives at a point what the consumer gives where its input is what the producer gives there, and
-- traps where either does
abbrev pub JoinedGives : Type 0
JoinedGives = (j : Joint) (dims caps width others : ℕ) (producer consumer : PayloadShape) →
    Fit j dims caps width others producer consumer →
    (p q outer outer_p outer_c ins_p ins_c : List ℕ) (out any : ℕ) →
    Meets j dims caps others p q outer outer_p outer_c →
    length ins_p ≡ length producer.ins → length ins_c ≡ length consumer.ins →
    payload_value (joined j producer consumer)
    (record { point = p; outer = outer; ins = spliced j.input ins_p ins_c; out = out })
    ≡ option_and_then (λ v. payload_value consumer
    (record { point = p; outer = outer_c; ins = spliced j.input (v ∷ []) ins_c; out = out }))
    (payload_value producer (record { point = q; outer = outer_p; ins = ins_p; out = any }))

-- and is a payload
abbrev pub JoinedFits : Type 0
JoinedFits = (j : Joint) (dims caps width others : ℕ) (producer consumer : PayloadShape) →
    Fit j dims caps width others producer consumer → IsPayload (joined j producer consumer)

-- THE ONE POINT OF AN ELEMENT
-- where the output's map takes each dimension once, an element is the payload's value at one point: the element's
-- coordinates in the order of the dimensions
abbrev pub OnePoint : Type 0
OnePoint = (ds box : List ℕ) (step : ℕ → List ℕ → Option ℕ) (g : Grid) (e : List ℕ) → is_order ds (length box) ≡ true →
    InBox (picks ds box) e →
    generic_element (picks ds) step box g e ≡ step (at g e) (old_point ds e)

-- the fused generic gives what the consumer gives on the producer's result, or its trap
abbrev pub FusedGives : Type 0
FusedGives = (p c : Instance) (k : ℕ) (m : MapShape) (captured : List ℕ) (of_producer of_consumer : ℕ → ℕ) (r : Datum) →
    Fuses p c k m captured of_producer of_consumer → result_of p ≡ Some r → slice_get c.ins k ≡ Some r →
    result_of (fused p c k m captured of_producer of_consumer) ≡ result_of c
