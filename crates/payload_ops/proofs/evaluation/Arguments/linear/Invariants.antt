use Rattle.std.proofs.Common.{◌≡◌, ◌^◌, ◌<◌, ◌+ℤ◌, pos, IsTrue, length, take, drop}
use Rattle.std.specs.List.{list_all}
use Rattle.payload_ops.specs.Bits.{reduce}
use Rattle.payload_ops.specs.Evaluation.{given_of}
use Rattle.payload_ops.specs.Payload.{arg_type, term_fits}
use Rattle.payload_ops.specs.Values.{arg_value, terms_sum}
use Rattle.payload_ops.proofs.evaluation.Arguments.linear.Given as goal

-- what is left is added to the sum so far
abbrev pub invariant-loop-term : goal.invariant-loop-term
invariant-loop-term l =
    let value = arg_value (given_of l.self) l.done in
    let fits = term_fits (arg_type l.self.payload.now.ins l.self.payload.now.out (take (length l.done) l.self.payload.now.steps)) in
    record {
      total : reduce 64 (l.fn.constant +ℤ terms_sum value l.terms) ≡ reduce 64 (pos l.sum +ℤ terms_sum value (drop l.term-index l.terms));
      small : l.sum < 2 ^ 64;
      fits : IsTrue (list_all fits (drop l.term-index l.terms));
    }
