use Rattle.std.proofs.Common.{◌≡◌, drop}
use Rattle.mlir_meaning.specs.Points.{place_of}
use Rattle.fuse_elementwise.proofs.orders.turned.Given as goal

abbrev pub invariant-loop-place : goal.invariant-loop-place
invariant-loop-place l = place_of l.d l.place (drop l.place l.order) ≡ place_of l.d 0 l.order
