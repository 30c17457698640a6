-- A generic of a verified run as a producer.
use Rattle.region_laws.proofs.Stated.{typed_instance}
use Rattle.tile_bridge.specs.Instances.{instance_of}
use Rattle.pair_laws.specs.Laws.{InstancesProduce}

pub instances_produce : InstancesProduce
instances_produce g u i order = record {
  box = (instance_of g u).box;
  placed = record { maps = i.maps; dims = i.rank; out = i.output };
  typed = typed_instance (instance_of g u) i.fits;
  order = order;
}
