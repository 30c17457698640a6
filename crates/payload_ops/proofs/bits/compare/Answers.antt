-- Each comparison is that of the values, or of their signed readings.
use Rattle.std.proofs.Common.{mod-eq_of_lt, refl, to_z-of_z, FitsSigned, w64}
use Rattle.payload_ops.specs.Bits.{compares}
use Rattle.payload_ops.proofs.bits.compare.Goals as goal

pub returns-in-Eq : goal.returns-in-Eq
unfolding compares
returns-in-Eq c = rw (c.in-Eq.is, mod-eq_of_lt c.requires.first, mod-eq_of_lt c.requires.second) refl

pub returns-in-Ne : goal.returns-in-Ne
unfolding compares
returns-in-Ne c = rw (c.in-Ne.is, mod-eq_of_lt c.requires.first, mod-eq_of_lt c.requires.second) refl

pub returns-in-Ult : goal.returns-in-Ult
unfolding compares
returns-in-Ult c = rw (c.in-Ult.is, mod-eq_of_lt c.requires.first, mod-eq_of_lt c.requires.second) refl

pub returns-in-Ule : goal.returns-in-Ule
unfolding compares
returns-in-Ule c = rw (c.in-Ule.is, mod-eq_of_lt c.requires.first, mod-eq_of_lt c.requires.second) refl

pub returns-in-Ugt : goal.returns-in-Ugt
unfolding compares
returns-in-Ugt c = rw (c.in-Ugt.is, mod-eq_of_lt c.requires.first, mod-eq_of_lt c.requires.second) refl

pub returns-in-Uge : goal.returns-in-Uge
unfolding compares
returns-in-Uge c = rw (c.in-Uge.is, mod-eq_of_lt c.requires.first, mod-eq_of_lt c.requires.second) refl

pub returns-in-Slt : goal.returns-in-Slt
unfolding compares
returns-in-Slt c =
    let first : FitsSigned w64 c.signed.result = record { sfits = c.signed.type_inv } in
    let second : FitsSigned w64 c.signed-in-Slt.result = record { sfits = c.signed-in-Slt.type_inv } in
    rw (c.in-Slt.is, to_z-of_z first, to_z-of_z second, c.signed.ensures, c.signed-in-Slt.ensures) refl

pub returns-in-Sle : goal.returns-in-Sle
unfolding compares
returns-in-Sle c =
    let first : FitsSigned w64 c.signed-in-Sle.result = record { sfits = c.signed-in-Sle.type_inv } in
    let second : FitsSigned w64 c.signed-in-Sle-2.result = record { sfits = c.signed-in-Sle-2.type_inv } in
    rw (c.in-Sle.is, to_z-of_z first, to_z-of_z second, c.signed-in-Sle.ensures, c.signed-in-Sle-2.ensures) refl

pub returns-in-Sgt : goal.returns-in-Sgt
unfolding compares
returns-in-Sgt c =
    let first : FitsSigned w64 c.signed-in-Sgt.result = record { sfits = c.signed-in-Sgt.type_inv } in
    let second : FitsSigned w64 c.signed-in-Sgt-2.result = record { sfits = c.signed-in-Sgt-2.type_inv } in
    rw (c.in-Sgt.is, to_z-of_z first, to_z-of_z second, c.signed-in-Sgt.ensures, c.signed-in-Sgt-2.ensures) refl

pub returns-in-Sge : goal.returns-in-Sge
unfolding compares
returns-in-Sge c =
    let first : FitsSigned w64 c.signed-in-Sge.result = record { sfits = c.signed-in-Sge.type_inv } in
    let second : FitsSigned w64 c.signed-in-Sge-2.result = record { sfits = c.signed-in-Sge-2.type_inv } in
    rw (c.in-Sge.is, to_z-of_z first, to_z-of_z second, c.signed-in-Sge.ensures, c.signed-in-Sge-2.ensures) refl
