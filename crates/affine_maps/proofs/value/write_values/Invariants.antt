use Rattle.std.proofs.Common.{◌≡◌, ℕ, ◌<◌, pos, map, get_or}
use Rattle.affine_maps.specs.Value.{value_at}
use Rattle.affine_maps.proofs.value.write_values.Given as goal

abbrev pub invariant-loop-i : goal.invariant-loop-i
invariant-loop-i l = (k : ℕ) → k < l.i → get_or l.into k (pos 0) ≡ get_or (map (λ e. value_at e l.point) l.exprs) k (pos 0)
