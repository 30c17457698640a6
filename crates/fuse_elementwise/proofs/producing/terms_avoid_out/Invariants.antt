use Rattle.std.proofs.Common.{◌≡◌, drop, map}
use Rattle.std.specs.List.{list_all}
use Rattle.pair_laws.specs.FuseAll.{is_not_out}
use Rattle.fuse_elementwise.proofs.producing.terms_avoid_out.Given as goal

abbrev pub invariant-loop-term : goal.invariant-loop-term
invariant-loop-term l = list_all is_not_out (map (λ t. t.0) (drop l.term-index l.terms)) ≡ list_all is_not_out (map (λ t. t.0) l.terms)
