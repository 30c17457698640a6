-- Two generics, of which one uses the other's result, as one.
use Rattle.std.specs.Prelude.{◌≡◌, ℕ, ◌<◌, true, List, [], ◌∷◌, ◌++◌, map, length, slice_get, slice_index_or, Some}
use Rattle.affine_maps.specs.Shape.{MapShape}
use Rattle.affine_maps.specs.Map.{IsMap}
use Rattle.affine_maps.specs.Compose.{result_at, composed}
use Rattle.mlir_meaning.specs.Grids.{count_up}
use Rattle.mlir_meaning.specs.declared.values.Datum.TheVariants.{Cells}
use Rattle.point_laws.specs.Orders.{turned, is_order}
use Rattle.region_laws.specs.Operands.{HasBox, maps_of}
use Rattle.payload_forms.specs.Joined.{spliced, Joint, joined}
use Rattle.fuse_laws.specs.Joined.{Fit}
use Rattle.region_laws.specs.Instances.{Instance, IsTypedInstance}

-- THE FUSED GENERIC
-- the producer's dimensions in the consumer's: the inverse of the producer's output map, which takes dimensions ds,
-- after the consumer's map of the operand
abbrev pub pulled : List ℕ → MapShape → MapShape
pulled ds m = record { dims = m.dims; results = map (λ d. result_at m.results (turned ds d)) (count_up 0 (length ds)) }

-- the maps of the inputs: those of the producer's stand in the place of the operand's
abbrev pub fused_maps : ℕ → List ℕ → MapShape → List MapShape → List MapShape → List MapShape
fused_maps k ds m producer consumer = spliced k (map (λ i. composed i (pulled ds m)) producer) consumer

-- how a consumer's operand k with the map m is the producer's result; both have so many captured values
abbrev pub joint : ℕ → List ℕ → MapShape → ℕ → (ℕ → ℕ) → (ℕ → ℕ) → Joint
joint k ds m captured of_producer of_consumer =
    record {
      input = k;
      exprs =
          (pulled ds m).results;
      captured = captured;
      of_producer = of_producer;
      of_consumer = of_consumer;
    }

abbrev pub fused : Instance → Instance → ℕ → MapShape → List ℕ → (ℕ → ℕ) → (ℕ → ℕ) → Instance
fused p c k m captured of_producer of_consumer = record {
  box = c.box;
  maps = fused_maps k p.ds m p.maps c.maps;
  ds = c.ds;
  ins = spliced k p.ins c.ins;
  width = c.width;
  out = c.out;
  captured = captured;
  payload = joined (joint k p.ds m (length captured) of_producer of_consumer) p.payload c.payload;
}

-- what is known of the two
pub record Fuses (p c : Instance) (k : ℕ) (m : MapShape) (captured : List ℕ) (of_producer of_consumer : ℕ →
    ℕ) : Type 0 where
  pub producer : IsTypedInstance p
  pub consumer : IsTypedInstance c
  pub order : is_order p.ds (length p.box) ≡ true
  pub map_there : slice_get c.maps k ≡ Some m
  pub is_map : IsMap m
  pub fit : Fit (joint k p.ds m (length captured) of_producer of_consumer) (length p.box) (length p.captured)
      (length c.box) (length c.captured) p.payload c.payload
  pub producer_outer : (i : ℕ) → i < length p.captured →
      slice_index_or captured (of_producer i) 0 ≡ slice_index_or p.captured i 0
  pub consumer_outer : (i : ℕ) → i < length c.captured →
      slice_index_or captured (of_consumer i) 0 ≡ slice_index_or c.captured i 0
  pub producer_ins : length p.payload.ins ≡ length p.ins
  pub consumer_ins : length c.payload.ins ≡ length c.ins
  -- each dimension has in the fused generic the extent that it has in the consumer
  pub box : HasBox c.box (maps_of (fused_maps k p.ds m p.maps c.maps) c.box c.ds)
      (spliced k p.ins c.ins ++ Cells c.width c.out ∷ [])
