-- Which pair of generics is fused next, and the function in which none is left.
use Rattle.std.specs.Prelude.{ℕ, zero, suc, ◌==◌, Bool, true, false, not, ◌&&◌, nat_le, List, [], ◌∷◌, ◌++◌, length, slice_get, Option, Some, None, option_map, Result, Ok, Err, if◌then◌else◌}
use Rattle.std.specs.List.{list_all}
use Rattle.std.specs.Option.{option_and_then}
use Rattle.affine_maps.specs.Map.{map_fits}
use Rattle.affine_maps.specs.Shape.{MapShape}
use Rattle.payload_laws.specs.Known.{may_trap}
use Rattle.payload_ops.specs.Shape.{PayloadShape}
use Rattle.payload_ops.specs.declared.step.Arg.{Arg}
use Rattle.payload_ops.specs.declared.step.Arg.TheVariants.{Input, Out, Step}
use Rattle.payload_ops.specs.declared.step.PayloadStep.{PayloadStep}
use Rattle.mlir_ir.specs.Count.{first, uses_op}
use Rattle.mlir_ir.specs.Shape.{FuncShape}
use Rattle.mlir_ir.specs.declared.tree.Op.{Op}
use Rattle.mlir_ir.specs.declared.tree.OpId.{OpId}
use Rattle.mlir_ir.specs.declared.tree.OpKind.{OpKind, Generic}
use Rattle.mlir_ir.specs.declared.tree.Ty.{Ty}
use Rattle.mlir_ir.specs.declared.tree.ValueId.{ValueId}
use Rattle.mlir_verify.specs.Place.{Types, type_among}
use Rattle.mlir_verify.specs.Maps.{output_map, output_dimensions, axes, breaks_maps}
use Rattle.mlir_verify.specs.Extents.{axes_agree}
use Rattle.verified_runs.specs.Passes.{Scope}
use Rattle.verified_runs.specs.Forms.{Structured, kind_of}
use Rattle.point_laws.specs.Orders.{is_order}
use Rattle.payload_forms.specs.Moved.{args_of}
use Rattle.tile_bridge.specs.Instances.{input_maps, is_parallel}
use Rattle.pair_laws.specs.Pairs.{fused_op, fused_func}

-- an operation as a generic, if it is one
abbrev pub as_generic : OpKind → Option Structured
as_generic (Generic maps iterators ins outs captured payload) =
    Some (record { maps = maps; iterators = iterators; ins = ins; outs = outs; captured = captured; payload = payload })
as_generic _ = None

-- A PRODUCER
abbrev pub is_not_out : Arg → Bool
is_not_out (Input i) = true
is_not_out Out = false
is_not_out (Step i) = true

-- neither a step nor the yield names the output's element
abbrev pub avoids_out : PayloadShape → Bool
avoids_out p = list_all (λ (s : PayloadStep). list_all is_not_out (args_of s.op)) p.steps && is_not_out p.yielded

-- it has only parallel dimensions and doesn't use its output: the dimensions that its output's map takes. Where the
-- maps fit and each dimension is parallel, the map takes each once.
abbrev pub produces : Structured → Option (List ℕ)
produces g =
    let ds = output_dimensions (output_map g.maps) in
    if list_all is_parallel g.iterators && (avoids_out g.payload && is_order ds (length g.iterators)) then Some ds
    else None

-- THE FUSED GENERIC
-- its maps fit, each axis that one dimension alone selects has the extent that this dimension has in the consumer,
-- and it is within the limits
abbrev pub fits : Types → Structured → Structured → Bool
fits t c g =
    not (breaks_maps t (kind_of g)) && (axes_agree (axes t c.maps c.ins c.outs ++ axes t g.maps g.ins g.outs)
    && (nat_le (suc (length g.ins)) 64 && nat_le (length g.payload.steps) 1024))

-- THE FIRST PAIR
-- an operation among others
pub record Split : Type 0 where
  pub front : List Op
  pub op : Op
  pub ty : Ty
  pub back : List Op

-- an operation that defines this value alone
abbrev pub defined_as : ValueId → List (ValueId × Ty) → Option Ty
defined_as v [] = None
defined_as v (r ∷ []) = if (r.0).0 == v.0 then Some r.1 else None
defined_as v (r ∷ s ∷ rs) = None

abbrev pub split_by : Option Ty → Op → List Op → Option Split → Option Split
split_by (Some ty) o os rest = Some (record { front = []; op = o; ty = ty; back = os })
split_by None o os rest =
    option_map (λ (s : Split). record { front = o ∷ s.front; op = s.op; ty = s.ty; back = s.back }) rest

abbrev pub split_at : ValueId → List Op → Option Split
split_at v [] = None
split_at v (o ∷ os) = split_by (defined_as v o.results) o os (split_at v os)

-- a producer and its consumer, by operand k with the map m; `ds` are the dimensions that the producer's output map
-- takes
pub record Pair : Type 0 where
  pub before : List Op
  pub producer : Op
  pub mid : List Op
  pub consumer : Op
  pub after : List Op
  pub p : Structured
  pub c : Structured
  pub k : ℕ
  pub m : MapShape
  pub ds : List ℕ

abbrev pub fused_of : Pair → Structured
fused_of x = fused_op x.p x.c x.k x.m x.ds

-- operand v at place k of a consumer with these operations before and after it, in a body
abbrev pub pair_at : Types → List Op → List Op → Op → List Op → Structured → ℕ → ValueId → Option Pair
pair_at t body earlier o after c k v =
    option_and_then (λ (s : Split). option_and_then (λ (p : Structured). option_and_then
    (λ (ds : List ℕ). option_and_then (λ (m : MapShape).
    if (uses_op v body == 1) && fits t c (fused_op p c k m ds)
    then Some (record { before = s.front; producer = s.op; mid = s.back; consumer = o; after = after; p = p; c = c; k = k; m = m; ds = ds })
    else None)
    (slice_get (input_maps c) k)) (produces p)) (as_generic s.op.kind)) (split_at v earlier)

abbrev pub pair_among : Types → List Op → List Op → Op → List Op → Structured → ℕ → List ValueId → Option Pair
pair_among t body earlier o after c k [] = None
pair_among t body earlier o after c k (v ∷ vs) = first (pair_at t body earlier o after c k v)
    (pair_among t body earlier o after c (suc k) vs)

abbrev pub pair_of : Types → List Op → List Op → Op → List Op → Option Structured → Option Pair
pair_of t body earlier o after None = None
pair_of t body earlier o after (Some c) = pair_among t body earlier o after c 0 c.ins

-- in tree order, then in operand order. Where loops are built, an operation's own body is searched after its
-- operands, with its own scope.
abbrev pub pair_from : Scope → List Op → List Op → List Op → Option Pair
pair_from scope body earlier [] = None
pair_from scope body earlier (o ∷ os) =
    first (pair_of (type_among scope) body earlier o os (as_generic o.kind))
    (pair_from (scope ++ o.results) body (earlier ++ o ∷ []) os)

abbrev pub first_pair : FuncShape → Option Pair
first_pair f = pair_from f.params f.body [] f.body

abbrev pub fuse_pair : FuncShape → Pair → FuncShape
fuse_pair f x = fused_func f x.before x.mid x.after x.consumer (fused_of x)

-- UNTIL NONE IS LEFT
-- why no function is formed: the producer of a pair may trap, or a map needs a number beyond plus and minus 2^31 (the
-- limit on extents)
pub data Stop : Type 0 where
  MayTrap : OpId → Stop
  LargeNumber : Stop

-- the numbers of its maps are within plus and minus 2^31
abbrev pub has_small_maps : Structured → Bool
has_small_maps g = list_all map_fits g.maps

abbrev pub fuse_next : (FuncShape → Result FuncShape Stop) → FuncShape → Option Pair → Result FuncShape Stop
fuse_next again f None = Ok f
fuse_next again f (Some x) =
    if may_trap x.p.payload then Err (MayTrap x.producer.id)
    else (if has_small_maps (fused_of x) then again (fuse_pair f x) else Err LargeNumber)

abbrev pub fuse_from : ℕ → FuncShape → Result FuncShape Stop
fuse_from zero f = Ok f
fuse_from (suc n) f = fuse_next (fuse_from n) f (first_pair f)

-- each pair takes one operation away
abbrev pub fuse_all : FuncShape → Result FuncShape Stop
fuse_all f = fuse_from (length f.body) f
