use Rattle.std.proofs.Common.{sym, subst, ◌∙◌}
use Rattle.affine_maps.specs.Compose.{composed}
use Rattle.affine_maps.specs.Map.{IsMap}
use Rattle.affine_maps.specs.Shape.{MapShape}
use Rattle.fuse_forms.proofs.Composed.{image_here, not_made}
use Rattle.fuse_forms.proofs.mapping.push_composed.Goals as goal

pub returns-in-Ok-None : goal.returns-in-Ok-None
returns-in-Ok-None c = λ fit.
    let inner = c.args.inner.now in
    let m : MapShape = c.m-item.result in
    let f = λ (m : MapShape). composed m inner in
    not_made m inner (sym c.in-Ok-None.field-0-is ∙ c.in-Ok-None.ensures.map)
    (subst (λ (x : MapShape). IsMap (f x)) (sym c.m-item.is) (image_here IsMap f c.args.maps.now c.loop-m.m-index m c.loop-m-test.true fit))
