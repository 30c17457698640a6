use Rattle.std.proofs.Common.{◌≡◌, ◌++◌}
use Rattle.affine_text.specs.Text.{dimensions_text}
use Rattle.affine_text.proofs.text.write_dimensions.Given as goal

abbrev pub invariant-loop-dimension : goal.invariant-loop-dimension
invariant-loop-dimension l = l.out.items ≡ l.initial.out.items ++ dimensions_text l.dimension
