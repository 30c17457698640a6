use Rattle.std.proofs.Common.{◌≡◌, ◌+◌, ◌*◌, length}
use Rattle.index_forms.specs.Bounds.{bound, forms_met}
use Rattle.index_forms.specs.Stack.{finished, turn_bound, turn_met, all_unmet, is_bound, AreFrames, IsTurn}
use Rattle.index_forms.proofs.bounds.plain_upper.Given as goal

abbrev pub invariant-loop-turn : goal.invariant-loop-turn
invariant-loop-turn l = record {
  bound : finished l.facts l.stack.items (turn_bound l.facts l.turn) ≡ bound l.facts (length l.facts) l.fn.f;
  met : l.left + forms_met l.facts (length l.facts) l.fn.f ≡ 4096 + (turn_met l.facts l.turn + all_unmet l.facts l.stack.items);
  frames : AreFrames l.facts l.stack.items;
  turn : IsTurn l.facts l.turn;
}

abbrev pub decreases-loop-turn : goal.decreases-loop-turn
decreases-loop-turn l = 2 * l.left + (length l.stack.items + is_bound l.turn)
