-- One fusion after the other.
use Rattle.std.specs.Prelude.{◌≡◌, ℕ, zero, suc, true, false, List, [], ◌∷◌, Option, Some, None, Result, Ok, Err, ⊤, remove, slice_get}
use Rattle.mlir_ir.specs.Shape.{FuncShape}
use Rattle.mlir_ir.specs.declared.tree.Op.{Op}
use Rattle.mlir_ir.specs.declared.tree.OpKind.{OpKind}
use Rattle.payload_laws.specs.Known.{may_trap}
use Rattle.verified_runs.specs.Forms.{Structured, kind_of}
use Rattle.pair_laws.specs.FuseAll.{first_pair, fuse_all, fuse_pair, fused_of, has_small_maps, Pair}
use Rattle.pair_laws.specs.FuseAll as stop
use Rattle.fuse_elementwise.specs.declared.found.Found.{Found}
use Rattle.fuse_elementwise.specs.declared.turn.Change.{Change}
use Rattle.fuse_elementwise.specs.declared.turn.Next.{Next}
use Rattle.fuse_elementwise.specs.declared.turn.Next.TheVariants as next
use Rattle.fuse_elementwise.specs.declared.turn.Stopped.{Stopped}
use Rattle.fuse_elementwise.specs.declared.turn.Stopped.TheVariants as stopped
use Rattle.fuse_elementwise.specs.declared.turn.Turn.{Turn}
use Rattle.fuse_elementwise.specs.declared.turn.Turn.TheVariants as turn
use Rattle.fuse_elementwise.specs.Spots.{resumed, spot}

-- THE BODY: the operation at place c has another kind, and the one at place p is gone
abbrev pub with_kind : ℕ → OpKind → List Op → List Op
with_kind k kind [] = []
with_kind zero kind (o ∷ os) = record { id = o.id; results = o.results; kind = kind } ∷ os
with_kind (suc k) kind (o ∷ os) = o ∷ with_kind k kind os

abbrev pub fused_body : ℕ → ℕ → OpKind → List Op → List Op
fused_body p c kind os = remove (with_kind c kind os) p

-- a first pair whose producer can't trap, with the two generics
pub record IsPair (f : FuncShape) (found : Found) (p c : Structured) : Type 0 where
  pub pair : Pair
  pub is : first_pair f ≡ Some pair
  pub there : found ≡ spot pair
  pub producer : p ≡ pair.p
  pub consumer : c ≡ pair.c

-- the fused generic of the first pair; None where a map of it needs a large number
abbrev pub Forms : FuncShape → Option Structured → Type 0
Forms f (Some g) = (x : Pair) × (first_pair f ≡ Some x) × (has_small_maps (fused_of x) ≡ true) × (g ≡ fused_of x)
Forms f None = (x : Pair) × (first_pair f ≡ Some x) × (has_small_maps (fused_of x) ≡ false)

-- what changes with the first pair
pub record IsChange (f : FuncShape) (x : Pair) (c : Change) : Type 0 where
  pub from : c.from ≡ resumed f (spot x) x.p
  pub outs : c.outs ≡ x.p.outs
  pub gone : slice_get x.c.ins x.k ≡ Some c.gone

-- WHAT IS NEXT: the first pair, or why it isn't fused, or that none is left
abbrev pub NextIs : FuncShape → Next → Type 0
NextIs f next.Done = first_pair f ≡ None
NextIs f (next.Traps i) = (x : Pair) × (first_pair f ≡ Some x) × (may_trap x.p.payload ≡ true) × (i ≡ x.producer.id)
NextIs f next.Large = (x : Pair) × (first_pair f ≡ Some x) × (may_trap x.p.payload ≡ false) × (has_small_maps (fused_of x) ≡ false)
NextIs f (next.Becomes found kind change) =
    (x : Pair) × (first_pair f ≡ Some x) × (may_trap x.p.payload ≡ false) × (has_small_maps (fused_of x) ≡ true)
    × (found ≡ spot x) × (kind ≡ kind_of (fused_of x)) × IsChange f x change

-- ONE FUSION
abbrev pub TurnIs : FuncShape → Result Turn Stopped → Type 0
TurnIs f (Ok (turn.Stays g)) = (g ≡ f) × (first_pair f ≡ None)
TurnIs f (Ok (turn.Goes g change)) =
    (x : Pair) × (first_pair f ≡ Some x) × (may_trap x.p.payload ≡ false) × (has_small_maps (fused_of x) ≡ true) × (g ≡ fuse_pair f x)
    × IsChange f x change
TurnIs f (Err (stopped.MayTrap i)) = (x : Pair) × (first_pair f ≡ Some x) × (may_trap x.p.payload ≡ true) × (i ≡ x.producer.id)
TurnIs f (Err stopped.LargeNumber) = (x : Pair) × (first_pair f ≡ Some x) × (may_trap x.p.payload ≡ false) × (has_small_maps (fused_of x) ≡ false)
TurnIs f (Err stopped.Memory) = ⊤

-- ALL: only want of memory is free
abbrev pub AnswersFunc : FuncShape → Result FuncShape Stopped → Type 0
AnswersFunc f (Ok g) = fuse_all f ≡ Ok g
AnswersFunc f (Err (stopped.MayTrap i)) = fuse_all f ≡ Err (stop.MayTrap i)
AnswersFunc f (Err stopped.LargeNumber) = fuse_all f ≡ Err stop.LargeNumber
AnswersFunc f (Err stopped.Memory) = ⊤
