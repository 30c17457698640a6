use Rattle.std.proofs.Common.{◌≡◌, drop}
use Rattle.affine_maps.specs.Map.{terms_fit}
use Rattle.affine_maps.proofs.map.terms_fit.Given as goal

abbrev pub invariant-loop-term : goal.invariant-loop-term
invariant-loop-term l = terms_fit l.dims l.terms 0 ≡ terms_fit l.dims (drop l.term-index l.terms) l.low
