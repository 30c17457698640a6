use Rattle.std.proofs.Common.{◌≡◌, drop, take}
use Rattle.mlir_edits.specs.Places.{scope_before}
use Rattle.mlir_verify.specs.Place.{type_among}
use Rattle.fuse_forms.specs.Forms.{structured}
use Rattle.fuse_elementwise.specs.Spots.{spot_among}
use Rattle.fuse_elementwise.proofs.finding.pair_among.Given as goal

abbrev pub invariant-loop-k : goal.invariant-loop-k
invariant-loop-k l =
    spot_among (type_among (scope_before l.f l.consumer)) l.f.body (take l.consumer l.f.body) (structured l.c) l.k (drop l.k l.c.ins.now)
    ≡ spot_among (type_among (scope_before l.f l.consumer)) l.f.body (take l.consumer l.f.body) (structured l.c) 0 l.c.ins.now
