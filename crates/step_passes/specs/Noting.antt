-- What the code has noted of targets, by their numbers.
use Rattle.std.specs.Prelude.{◌≡◌, ℕ, ◌==◌, true, Option, Some, None, ⊤, if◌then◌else◌}
use Rattle.std.specs.BTreeMap as tree
use Rattle.std.specs.BTreeSet as sorted
use Rattle.std.specs.BTreeSet.{BTreeSet}
use Rattle.std.specs.Ordering.{nat_cmp}
use Rattle.mlir_ir.specs.Count.{first}
use Rattle.mlir_ir.specs.declared.tree.Op.{Op}
use Rattle.mlir_ir.specs.declared.tree.OpId.{OpId}
use Rattle.mlir_verify.specs.Place.{Types}
use Rattle.step_passes.specs.declared.index.Index.{Index}
use Rattle.step_passes.specs.declared.told.Told as code
use Rattle.step_passes.specs.Exchanging.{Exchanging}
use Rattle.step_passes.specs.Planned.{Told, told_at}
use Rattle.step_passes.specs.Telling.{Tells}

abbrev pub noted_in : Index → OpId → Option code.Told
noted_in s i = tree.get nat_cmp s.told i.0

-- it is noted where it is told, and nothing else
abbrev pub IsNoted : Option Told → Option code.Told → Type 0
IsNoted None None = ⊤
IsNoted None (Some c) = ⊥
IsNoted (Some t) None = ⊥
IsNoted (Some t) (Some c) = Tells t c

-- what is told of the operation of a number, by another one
abbrev pub told_here : Exchanging → Types → Op → OpId → Option Told
told_here e t o i = if o.id.0 == i.0 then Some (told_at e t o.kind) else None

-- of each number in the set, what was told before stays, and else what is told now is noted
abbrev pub Notes : BTreeSet ℕ → (OpId → Option Told) → Index → Index → Type 0
Notes wanted here old new =
    (i : OpId) (before : Option Told) → sorted.contains nat_cmp wanted i.0 ≡ true → IsNoted before (noted_in old i) →
    IsNoted (first before (here i)) (noted_in new i)
