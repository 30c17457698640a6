-- The first pair by places is the first pair.
use Rattle.std.proofs.Common.{◌≡◌, ℕ, suc, ◌+◌, ◌==◌, ◌&&◌, Bool, true, false, List, [], ◌∷◌, ◌++◌, length, Option, Some, None, refl, ap, sym, ◌∙◌, length-append}
use Rattle.std.specs.Prelude.{slice_get, option_map, if◌then◌else◌}
use Rattle.std.specs.Option.{option_and_then}
use Rattle.affine_maps.specs.Shape.{MapShape}
use Rattle.mlir_ir.specs.Count.{first, uses_op}
use Rattle.mlir_ir.specs.Shape.{FuncShape}
use Rattle.mlir_ir.specs.declared.tree.Op.{Op}
use Rattle.mlir_ir.specs.declared.tree.ValueId.{ValueId}
use Rattle.mlir_verify.specs.Place.{Types, type_among}
use Rattle.verified_runs.specs.Forms.{Structured}
use Rattle.verified_runs.specs.Passes.{Scope}
use Rattle.tile_bridge.specs.Instances.{input_maps}
use Rattle.pair_laws.specs.FuseAll.{as_generic, fits, produces, Split, split_at, Pair, pair_at, pair_among, pair_of, pair_from, first_pair}
use Rattle.pair_laws.specs.Pairs.{fused_op}
use Rattle.fuse_elementwise.specs.declared.found.Found.{Found}
use Rattle.fuse_elementwise.specs.Spots.{spot, spotted, spotted_if, spot_at, spot_among, spot_of, spot_from, first_spot}
use Rattle.fuse_elementwise.proofs.Searching.{split_is}

first-map : {A B : Type 0} (f : A → B) (a b : Option A) → option_map f (first a b) ≡ first (option_map f a) (option_map f b)
first-map f None b = refl
first-map f (Some x) b = refl

module _ (t : Types) (body earlier : List Op) (o : Op) (after : List Op) (c : Structured) where
  module _ (k : ℕ) (v : ValueId) (s : Split) (long : length s.front + suc (length s.back) ≡ length earlier) where
    abbrev pair : Structured → List ℕ → MapShape → Option Pair
    pair p ds m =
        if (uses_op v body == 1) && fits t c (fused_op p c k m ds)
        then Some (record { before = s.front; producer = s.op; mid = s.back; consumer = o; after = after; p = p; c = c; k = k; m = m; ds = ds })
        else None

    abbrev place : Structured → List ℕ → MapShape → Option Found
    place p ds m = spotted_if ((uses_op v body == 1) && fits t c (fused_op p c k m ds)) (record { producer = length s.front; consumer = length earlier; operand = k; dims = ds })

    by_test : (p : Structured) (ds : List ℕ) (m : MapShape) → option_map spot (pair p ds m) ≡ place p ds m
    by_test p ds m = by ((uses_op v body == 1) && fits t c (fused_op p c k m ds)) where
      by : (b : Bool) → option_map spot (if b then Some (record { before = s.front; producer = s.op; mid = s.back; consumer = o; after = after; p = p; c = c; k = k; m = m; ds = ds }) else None)
          ≡ spotted_if b (record { producer = length s.front; consumer = length earlier; operand = k; dims = ds })
      by true = λ j. Some (record { producer = length s.front; consumer = long j; operand = k; dims = ds })
      by false = refl

    by_map : (p : Structured) (ds : List ℕ) (r : Option MapShape) → option_map spot (option_and_then (pair p ds) r) ≡ option_and_then (place p ds) r
    by_map p ds None = refl
    by_map p ds (Some m) = by_test p ds m

    by_dims : (p : Structured) (r : Option (List ℕ)) →
        option_map spot (option_and_then (λ (ds : List ℕ). option_and_then (pair p ds) (slice_get (input_maps c) k)) r)
        ≡ option_and_then (λ (ds : List ℕ). option_and_then (place p ds) (slice_get (input_maps c) k)) r
    by_dims p None = refl
    by_dims p (Some ds) = by_map p ds (slice_get (input_maps c) k)

    pub by_generic : (r : Option Structured) →
        option_map spot (option_and_then (λ (p : Structured). option_and_then (λ (ds : List ℕ). option_and_then (pair p ds) (slice_get (input_maps c) k)) (produces p)) r)
        ≡ option_and_then (spotted t body c k v (length s.front) (length earlier)) r
    by_generic None = refl
    by_generic (Some p) = by_dims p (produces p)

  at_same : (k : ℕ) (v : ValueId) → option_map spot (pair_at t body earlier o after c k v) ≡ spot_at t body earlier c k v
  at_same k v = by (split_at v earlier) refl where
    by : (r : Option Split) → split_at v earlier ≡ r →
        option_map spot (option_and_then (λ (s : Split). option_and_then (λ (p : Structured). option_and_then (λ (ds : List ℕ). option_and_then (λ (m : MapShape).
        if (uses_op v body == 1) && fits t c (fused_op p c k m ds)
        then Some (record { before = s.front; producer = s.op; mid = s.back; consumer = o; after = after; p = p; c = c; k = k; m = m; ds = ds })
        else None) (slice_get (input_maps c) k)) (produces p)) (as_generic s.op.kind)) r)
        ≡ option_and_then (λ (d : ℕ × Op). option_and_then (spotted t body c k v d.0 (length earlier)) (as_generic d.1.kind)) (option_map (λ (s : Split). (length s.front, s.op)) r)
    by None q = refl
    by (Some s) q =
        let is = split_is v earlier s q in
        by_generic k v s (sym (ap length is ∙ length-append s.front (s.op ∷ s.back))) (as_generic s.op.kind)

  among_same : (k : ℕ) (vs : List ValueId) → option_map spot (pair_among t body earlier o after c k vs) ≡ spot_among t body earlier c k vs
  among_same k [] = refl
  among_same k (v ∷ vs) =
      first-map spot (pair_at t body earlier o after c k v) (pair_among t body earlier o after c (suc k) vs) ∙ (λ j. first (at_same k v j) (among_same (suc k) vs j))

pub of_same : (t : Types) (body earlier : List Op) (o : Op) (after : List Op) (r : Option Structured) → option_map spot (pair_of t body earlier o after r) ≡ spot_of t body earlier r
of_same t body earlier o after None = refl
of_same t body earlier o after (Some c) = among_same t body earlier o after c 0 c.ins

from_same : (scope : Scope) (body earlier os : List Op) → option_map spot (pair_from scope body earlier os) ≡ spot_from scope body earlier os
from_same scope body earlier [] = refl
from_same scope body earlier (o ∷ os) =
    first-map spot (pair_of (type_among scope) body earlier o os (as_generic o.kind)) (pair_from (scope ++ o.results) body (earlier ++ o ∷ []) os)
    ∙ (λ j. first (of_same (type_among scope) body earlier o os (as_generic o.kind) j) (from_same (scope ++ o.results) body (earlier ++ o ∷ []) os j))

pub same_spot : (f : FuncShape) → option_map spot (first_pair f) ≡ first_spot f
same_spot f = from_same f.params f.body [] f.body
