use Rattle.std.proofs.Common.{◌≡◌, map, take}
use Rattle.std.specs.Prelude.{slice_index_or}
use Rattle.fuse_forms.specs.Captures.{value}
use Rattle.fuse_forms.proofs.capturing.values_at.Given as goal

abbrev pub invariant-loop-place : goal.invariant-loop-place
invariant-loop-place l = l.values ≡ map (λ k. value (slice_index_or l.all k 0)) (take l.place-index l.places)
