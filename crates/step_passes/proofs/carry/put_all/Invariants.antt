use Rattle.std.proofs.Common.{◌≡◌, ℕ, false, List, ◌++◌, length}
use Rattle.std.specs.Vec.Iter.{into_iter_items, into_iter_len}
use Rattle.mlir_verify.specs.Names.{redefines, ids}
use Rattle.step_passes.specs.declared.exchange.Exchange.{Exchange}
use Rattle.step_passes.specs.Naming.{name_in}
use Rattle.step_passes.specs.Pending.{AreLeft}
use Rattle.step_passes.proofs.Carrying.{Walked}
use Rattle.step_passes.proofs.carry.put_all.Given as goal

abbrev pub invariant-loop-op : goal.invariant-loop-op
invariant-loop-op l = record {
  whole : l.yielded ++ into_iter_items l.op-iterator ≡ l.fn.body;
  count : into_iter_len l.op-iterator ≡ length (into_iter_items l.op-iterator);
  many : length l.all ≡ length l.yielded;
  walked : (xs : List Exchange) (gone : List ℕ) → redefines (ids l.fn.body) gone ≡ false → AreLeft xs gone l.fn.left → Walked xs gone l.yielded l.all (name_in l.names) l.left;
}
