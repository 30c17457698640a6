use Rattle.std.proofs.Common.{◌≡◌, ℕ, take}
use Rattle.mlir_verify.specs.Place.{type_among}
use Rattle.verified_runs.specs.Passes.{scope_after}
use Rattle.step_passes.specs.Noting.{Notes}
use Rattle.step_passes.specs.Planned.{told_in}
use Rattle.step_passes.specs.Telling.{types_known, exchanging}
use Rattle.step_passes.proofs.index.note_body.Given as goal

abbrev pub invariant-loop-op : goal.invariant-loop-op
invariant-loop-op l = record {
  types : (v : ℕ) → types_known l.known v ≡ type_among (scope_after l.f.params (take l.op-index l.f.body)) v;
  noted : Notes l.wanted (λ i. told_in (exchanging l.step) i l.f.params (take l.op-index l.f.body)) l.fn.index l.index;
}
