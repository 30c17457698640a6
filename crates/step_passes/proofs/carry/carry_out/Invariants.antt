use Rattle.std.proofs.Common.{◌≡◌, ◌++◌, length, map}
use Rattle.std.specs.Vec.Iter.{into_iter_items, into_iter_len}
use Rattle.step_passes.specs.OnePass.{passed_func}
use Rattle.step_passes.specs.Pending.{AreLeft, all_ids}
use Rattle.step_passes.proofs.carry.carry_out.Given as goal

abbrev pub invariant-loop-f : goal.invariant-loop-f
invariant-loop-f l = record {
  whole : l.yielded ++ into_iter_items l.f-iterator ≡ into_iter_items l.initial.f-iterator;
  count : into_iter_len l.f-iterator ≡ length (into_iter_items l.f-iterator);
  passed : l.all ≡ map (passed_func l.fn.exchanges) l.yielded;
  left : AreLeft l.fn.exchanges (all_ids l.yielded) l.left;
}
