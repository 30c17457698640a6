-- Operands as records, from an operation's maps and operands.
use Rattle.std.proofs.Common.{[], ◌∷◌, refl}
use Rattle.region_laws.specs.Bodies.{grown}
use Rattle.region_laws.specs.Operands.{operand_tile}
use Rattle.region_laws.specs.Laws.{OperandsAreRecords, InputsAreRecords}
use Rattle.region_laws.proofs.Operands.{operand_is}

pub operands_are_records : OperandsAreRecords
operands_are_records cut box os ns c [] [] h = (refl, refl, refl, tt)
operands_are_records cut box os ns c (m ∷ ms) (x ∷ xs) h =
    let r = operands_are_records cut box os ns c ms xs h.1 in (
      λ j. m ∷ r.0 j,
      λ j. x ∷ r.1 j,
      λ j. operand_tile cut os ns m x ∷ r.2 j,
      (operand_is cut box os ns c m x h.0, r.3),
    )
operands_are_records cut box os ns c [] (x ∷ xs) h = absurd h
operands_are_records cut box os ns c (m ∷ ms) [] h = absurd h

pub inputs_are_records : InputsAreRecords
inputs_are_records N s cut os ns seen [] h = tt
inputs_are_records N s cut os ns seen (i ∷ is) h =
    (h.0.0, h.0.1, h.0.2, h.0.3, inputs_are_records N s cut os ns (grown seen i.slice) is h.1)
