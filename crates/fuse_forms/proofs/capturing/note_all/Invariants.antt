use Rattle.std.proofs.Common.{◌≡◌, drop}
use Rattle.pair_laws.specs.Pairs.{once}
use Rattle.fuse_forms.specs.Captures.{values_of}
use Rattle.fuse_forms.proofs.capturing.note_all.Given as goal

abbrev pub invariant-loop-v : goal.invariant-loop-v
invariant-loop-v l = once (values_of l.order) (drop l.v-index l.values) ≡ once (values_of l.fn.order) l.values
