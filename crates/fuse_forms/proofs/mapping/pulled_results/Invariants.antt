use Rattle.std.proofs.Common.{◌≡◌, ◌++◌, ◌-◌, map, length}
use Rattle.affine_maps.specs.Compose.{result_at}
use Rattle.mlir_meaning.specs.Grids.{count_up}
use Rattle.point_laws.specs.Orders.{turned}
use Rattle.fuse_forms.proofs.mapping.pulled_results.Given as goal

abbrev pub invariant-loop-d : goal.invariant-loop-d
invariant-loop-d l = l.all ++ map (λ d. result_at l.results (turned l.ds d)) (count_up l.d (length l.ds - l.d)) ≡ map (λ d. result_at l.results (turned l.ds d)) (count_up 0 (length l.ds))
