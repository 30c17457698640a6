-- Generics as the code holds them, and when the parts of one fit.
use Rattle.std.specs.Prelude.{◌≡◌, ℕ, Bool, true, false, List, [], ◌++◌, length, map, Result, Ok, Err, ⊤}
use Rattle.affine_maps.specs.Shape.{MapShape}
use Rattle.affine_maps.specs.Map.{IsMap}
use Rattle.affine_maps.specs.Compose.{composed}
use Rattle.affine_maps.specs.declared.map.Expr.{Expr}
use Rattle.mlir_base.specs.declared.memory.Memory.{Memory}
use Rattle.payload_ops.specs.Payload.{IsPayload}
use Rattle.payload_ops.specs.Shape.{PayloadShape}
use Rattle.mlir_meaning.specs.Grids.{Each}
use Rattle.verified_runs.specs.Forms.{Structured}
use Rattle.payload_forms.specs.Captured.{placed, used}
use Rattle.payload_forms.specs.Joined.{Joint, joined, spliced}
use Rattle.payload_forms.specs.declared.placing.PlacedPayload.{PlacedPayload}
use Rattle.tile_bridge.specs.Instances.{input_maps}
use Rattle.pair_laws.specs.Pairs.{captured_of, joined_rest, place_in, value_at_place}
use Rattle.fuse_forms.specs.declared.forming.Formed.{Formed}
use Rattle.fuse_forms.specs.declared.generic.Generic.{Generic}

abbrev pub structured : Generic → Structured
structured g = record {
  maps = g.maps.now;
  iterators = g.iterators.now;
  ins = g.ins.now;
  outs = g.outs;
  captured = g.captured.now;
  payload = g.payload.now;
}

abbrev pub GenericFits : Structured → Type 0
GenericFits g = Each IsMap g.maps × IsPayload g.payload

-- these maps were added; or they aren't all maps
abbrev pub Adds : Result Bool Memory → List MapShape → List MapShape → List MapShape → Type 0
Adds (Ok true) old new wanted = new ≡ old ++ wanted
Adds (Ok false) old new wanted = Each IsMap wanted → ⊥
Adds (Err e) old new wanted = ⊤

-- what the payloads of two generics are joined by, where these expressions give the producer's dimensions
abbrev pub joint_by : Structured → Structured → ℕ → List Expr → Joint
joint_by p c k exprs = record {
  input = k;
  exprs = exprs;
  captured = length (captured_of p c);
  of_producer = place_in (captured_of p c) p.captured;
  of_consumer = place_in (captured_of p c) c.captured;
}

-- the joined payload with each captured value that is used right before its first use, and those values
abbrev pub placed_payload : Joint → PayloadShape → PayloadShape → PlacedPayload
placed_payload j p c = record {
  payload = placed j.captured (joined j p c).ins (joined j p c).out (joined_rest j p c) (joined j p c).yielded;
  used = used j.captured [] (joined_rest j p c);
}

-- the captured values and the payload of the fused generic
abbrev pub formed_of : Structured → Structured → ℕ → List Expr → Formed
formed_of p c k exprs =
    let whole = placed_payload (joint_by p c k exprs) p.payload c.payload in
    record { captured = map (value_at_place (captured_of p c)) whole.used; payload = whole.payload }

abbrev pub FormedFits : Formed → Type 0
FormedFits f = IsPayload f.payload

-- the maps of the fused generic, and the whole of it, where `inner` gives the producer's dimensions
abbrev pub fused_maps : Structured → Structured → ℕ → MapShape → List MapShape
fused_maps p c k inner = spliced k (map (λ i. composed i inner) (input_maps p)) c.maps

abbrev pub fused_by : Structured → Structured → ℕ → MapShape → Structured
fused_by p c k inner =
    let inside = formed_of p c k inner.results in
    record {
      maps = fused_maps p c k inner;
      iterators = c.iterators;
      ins = spliced k p.ins c.ins;
      outs = c.outs;
      captured = inside.captured;
      payload = inside.payload;
    }
