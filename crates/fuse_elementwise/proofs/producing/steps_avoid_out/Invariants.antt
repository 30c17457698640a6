use Rattle.std.proofs.Common.{◌≡◌, drop}
use Rattle.std.specs.List.{list_all}
use Rattle.payload_forms.specs.Moved.{args_of}
use Rattle.pair_laws.specs.FuseAll.{is_not_out}
use Rattle.fuse_elementwise.proofs.producing.steps_avoid_out.Given as goal

abbrev pub invariant-loop-step : goal.invariant-loop-step
invariant-loop-step l =
    list_all (λ s. list_all is_not_out (args_of s.op)) (drop l.step-index l.steps) ≡ list_all (λ s. list_all is_not_out (args_of s.op)) l.steps
