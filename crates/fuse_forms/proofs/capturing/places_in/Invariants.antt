use Rattle.std.proofs.Common.{◌≡◌, map, take}
use Rattle.mlir_ir.specs.declared.tree.ValueId.{ValueId}
use Rattle.mlir_meaning.specs.Points.{place_of}
use Rattle.fuse_forms.proofs.capturing.places_in.Given as goal

abbrev pub invariant-loop-v : goal.invariant-loop-v
invariant-loop-v l = l.places ≡ map (λ (v : ValueId). place_of v.0 0 l.all) (take l.v-index l.values)
