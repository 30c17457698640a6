use Rattle.std.proofs.Common.{◌≡◌, List, [], drop, take}
use Rattle.mlir_ir.specs.Shape.{FuncShape}
use Rattle.mlir_verify.specs.Place.{places_of}
use Rattle.mlir_verify.specs.Rules.{first_broken_of}
use Rattle.mlir_verify.specs.Walk.{Stands}
use Rattle.mlir_verify.proofs.walk.check_body.Given as goal

abbrev pub invariant-loop-k : goal.invariant-loop-k
invariant-loop-k l = (before : List FuncShape) → Stands l.fn.seen l.fn.scope before l.func [] →
    Stands l.seen l.scope before l.func (take l.k l.body)
    × (first_broken_of (places_of (drop l.k l.body) (take l.k l.body) before l.func) ≡ first_broken_of (places_of l.body [] before l.func))
