use Rattle.std.proofs.Common.{map, sym, ◌∙◌, arith}
use Rattle.affine_maps.specs.Compose.{composed}
use Rattle.affine_maps.specs.Shape.{MapShape}
use Rattle.payload_forms.proofs.Splices.{spliced_past}
use Rattle.fuse_forms.proofs.mapping.fused_maps.Goals as goal

pub returns-in_ok-all : goal.returns-in_ok-all
returns-in_ok-all c =
    c.in_ok-all.ensures
    ∙ sym (spliced_past c.args.k (map (λ (m : MapShape). composed m c.args.inner.now) c.args.producer.now) c.args.consumer.now (omega (arith, c.if-at-consumer.false)))
