-- Whether a fused generic fits, part by part.
use Rattle.std.specs.Prelude.{◌≡◌, ◌<◌, ◌++◌, ◌&&◌, ℕ, suc, Bool, true, is_some, List, length, nat_le}
use Rattle.std.specs.List.{list_all, enumerate_from}
use Rattle.affine_maps.specs.Shape.{MapShape}
use Rattle.affine_maps.specs.declared.map.Expr.{Expr}
use Rattle.mlir_meaning.specs.Grids.{Each}
use Rattle.mlir_verify.specs.Extents.{axes_agree}
use Rattle.mlir_verify.specs.Maps.{Axis, axes, extent_of, fit_operands}
use Rattle.mlir_verify.specs.Place.{Types, is_empty}
use Rattle.payload_forms.specs.Joined.{spliced}
use Rattle.verified_runs.specs.Forms.{Structured}
use Rattle.fuse_laws.specs.Fused.{pulled}
use Rattle.tile_bridge.specs.Instances.{input_maps}
use Rattle.fuse_forms.specs.Forms.{formed_of, fused_maps}

-- each has a map for each input and one for its output, and the consumer has an input k
pub record AreCounted (p c : Structured) (k : ℕ) : Type 0 where
  pub producer : length p.maps ≡ suc (length p.ins)
  pub consumer : length c.maps ≡ suc (length c.ins)
  pub operand : k < length c.ins

-- the axes of a generic that one dimension alone selects
abbrev pub own_axes : Types → Structured → List Axis
own_axes t g = axes t g.maps g.ins g.outs

-- and those of the fused one
abbrev pub fused_axes : Types → Structured → Structured → ℕ → MapShape → List Axis
fused_axes t p c k inner = axes t (fused_maps p c k inner) (spliced k p.ins c.ins) c.outs

-- each dimension selects one, and each has the extent that its dimension has in the consumer
abbrev pub has_own_axes : Types → Structured → Structured → ℕ → MapShape → Bool
has_own_axes t p c k inner =
    list_all (λ i. is_some (extent_of (fused_axes t p c k inner) i.0)) (enumerate_from 0 c.iterators)
    && axes_agree (own_axes t c ++ fused_axes t p c k inner)

-- the payload of the fused generic is within its limit
abbrev pub has_few_steps : Structured → Structured → ℕ → List Expr → Bool
has_few_steps p c k exprs = nat_le (length (formed_of p c k exprs).payload.steps) 1024

-- what is known of two generics of a verified function, of which the consumer's operand k is the producer's result
pub record AreFused (t : Types) (p c : Structured) (k : ℕ) (m : MapShape) (ds : List ℕ) : Type 0 where
  pub counted : AreCounted p c k
  pub dims : Each (λ (i : MapShape). length ds ≡ i.dims) (input_maps p)
  pub operands : fit_operands t (fused_maps p c k (pulled ds m)) c.iterators (spliced k p.ins c.ins) c.outs ≡ true
  pub p_none : is_empty p.captured ≡ true
  pub c_none : is_empty c.captured ≡ true
