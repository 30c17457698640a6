use Rattle.std.proofs.Common.{◌≡◌, true, [], drop, take}
use Rattle.std.specs.List.{list_all}
use Rattle.mlir_verify.specs.Place.{places_from}
use Rattle.mlir_verify.specs.Rules.{first_broken_of, has_body}
use Rattle.mlir_verify.specs.Walk.{IsBefore}
use Rattle.mlir_verify.proofs.walk.check_funcs.Given as goal

abbrev pub invariant-loop-func : goal.invariant-loop-func
invariant-loop-func l =
    IsBefore l.seen (take l.func-index l.funcs) × (first_broken_of (places_from (drop l.func-index l.funcs) (take l.func-index l.funcs)) ≡ first_broken_of (places_from l.funcs []))
    × (list_all has_body (take l.func-index l.funcs) ≡ true)
