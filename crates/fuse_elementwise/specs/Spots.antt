-- Where the first pair stands: the places of its operations in the body, the operand, and the dimensions that the
-- producer's output map takes.
use Rattle.std.specs.Prelude.{◌≡◌, ℕ, suc, ◌+◌, ◌-◌, ◌==◌, ◌&&◌, Bool, is_some, take, drop, List, [], ◌∷◌, ◌++◌, length, slice_get, Option, Some, None, option_map, if◌then◌else◌}
use Rattle.std.specs.Option.{option_and_then}
use Rattle.affine_maps.specs.Shape.{MapShape}
use Rattle.mlir_edits.specs.Places.{scope_before}
use Rattle.mlir_ir.specs.Count.{first, uses_op}
use Rattle.mlir_ir.specs.Shape.{FuncShape}
use Rattle.mlir_ir.specs.declared.tree.Op.{Op}
use Rattle.mlir_ir.specs.declared.tree.ValueId.{ValueId}
use Rattle.mlir_verify.specs.Place.{Types, type_among}
use Rattle.verified_runs.specs.Forms.{Structured}
use Rattle.verified_runs.specs.Passes.{Scope}
use Rattle.tile_bridge.specs.Instances.{input_maps}
use Rattle.pair_laws.specs.FuseAll.{as_generic, fits, produces, Pair, Split, split_at}
use Rattle.pair_laws.specs.Pairs.{fused_op}
use Rattle.fuse_elementwise.specs.Fitting.{AreFused}
use Rattle.fuse_elementwise.specs.declared.found.Found.{Found}

abbrev pub spot : Pair → Found
spot x = record {
  producer = length x.before;
  consumer = length x.before + suc (length x.mid);
  operand = x.k;
  dims = x.ds;
}

-- the operation that defines a value alone, and its place
abbrev pub defined_in : ValueId → List Op → Option (ℕ × Op)
defined_in v os = option_map (λ (s : Split). (length s.front, s.op)) (split_at v os)

abbrev pub spotted_if : Bool → Found → Option Found
spotted_if b x = if b then Some x else None

-- with a generic at a place as the producer of operand k, which is v
abbrev pub spotted : Types → List Op → Structured → ℕ → ValueId → ℕ → ℕ → Structured → Option Found
spotted t body c k v producer consumer p =
    option_and_then (λ (ds : List ℕ). option_and_then (λ (m : MapShape).
    spotted_if ((uses_op v body == 1) && fits t c (fused_op p c k m ds))
    (record { producer = producer; consumer = consumer; operand = k; dims = ds }))
    (slice_get (input_maps c) k)) (produces p)

abbrev pub spot_at : Types → List Op → List Op → Structured → ℕ → ValueId → Option Found
spot_at t body earlier c k v =
    option_and_then (λ (d : ℕ × Op). option_and_then (spotted t body c k v d.0 (length earlier)) (as_generic d.1.kind))
    (defined_in v earlier)

abbrev pub spot_among : Types → List Op → List Op → Structured → ℕ → List ValueId → Option Found
spot_among t body earlier c k [] = None
spot_among t body earlier c k (v ∷ vs) = first (spot_at t body earlier c k v) (spot_among t body earlier c (suc k) vs)

abbrev pub spot_of : Types → List Op → List Op → Option Structured → Option Found
spot_of t body earlier None = None
spot_of t body earlier (Some c) = spot_among t body earlier c 0 c.ins

abbrev pub spot_from : Scope → List Op → List Op → List Op → Option Found
spot_from scope body earlier [] = None
spot_from scope body earlier (o ∷ os) =
    first (spot_of (type_among scope) body earlier (as_generic o.kind))
    (spot_from (scope ++ o.results) body (earlier ++ o ∷ []) os)

-- in tree order, then in operand order
abbrev pub first_spot : FuncShape → Option Found
first_spot f = spot_from f.params f.body [] f.body

-- how often each value is used in a body
abbrev pub IsCounted : (ℕ → ℕ) → List Op → Type 0
IsCounted counts body = (v : ValueId) → counts v.0 ≡ uses_op v body

-- WHERE THE SEARCH GOES ON
-- no pair stands before place n
abbrev pub IsSearched : FuncShape → ℕ → Type 0
IsSearched f n = spot_from (scope_before f n) f.body (take n f.body) (drop n f.body) ≡ first_spot f

-- fusing takes one use of the value that the producer's output starts from. Where a generic defines that value and one
-- use is left, an earlier consumer may form a pair anew.
abbrev pub reopens : List Op → List Op → ValueId → Bool
reopens body earlier v =
    (uses_op v body == 2) && is_some (option_and_then (λ (d : ℕ × Op). as_generic d.1.kind) (defined_in v earlier))

-- elsewhere no consumer before the one that was fused has a pair
abbrev pub resumed : FuncShape → Found → Structured → ℕ
resumed f x p = if reopens f.body (take x.consumer f.body) p.outs then 0 else x.consumer - 1

-- two generics of which one uses the other's result by operand k
abbrev pub Meet : Types → Structured → Structured → ℕ → Type 0
Meet t p c k = (m : MapShape) (ds : List ℕ) → slice_get (input_maps c) k ≡ Some m → produces p ≡ Some ds → AreFused t p c k m ds
