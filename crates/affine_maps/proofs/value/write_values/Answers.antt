use Rattle.std.proofs.Common.{pos, map, arith}
use Rattle.std.proofs.lemmas.List.{ext_get_or, length-map}
use Rattle.affine_maps.specs.declared.map.Expr.{Expr}
use Rattle.affine_maps.specs.Value.{value_at}
use Rattle.affine_maps.proofs.value.write_values.Goals as goal

pub returns : goal.returns
returns c =
    let e = length-map c.args.exprs.now (λ (x : Expr). value_at x c.args.point.now) in
    ext_get_or (pos 0) c.loop-i.into (map (λ (x : Expr). value_at x c.args.point.now) c.args.exprs.now) (omega arith) (λ i h. c.loop-i.invariant i (omega arith))
