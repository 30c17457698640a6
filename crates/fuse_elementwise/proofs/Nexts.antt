-- The first pair by its places.
use Rattle.std.proofs.Common.{◌≡◌, ℕ, suc, ◌+◌, ◌<◌, ◌≤◌, Bool, true, false, List, [], ◌∷◌, ◌++◌, length, Option, Some, None, refl, ap, sym, subst, ◌∙◌, arith, append_assoc, length-append}
use Rattle.std.specs.Prelude.{slice_get, option_map}
use Rattle.std.specs.List.{list_all}
use Rattle.std.specs.Option.{option_and_then}
use Rattle.std.proofs.lemmas.Option.{same_Some, none-some}
use Rattle.affine_maps.specs.Map.{map_fits}
use Rattle.affine_maps.specs.Shape.{MapShape}
use Rattle.mlir_ir.specs.Shape.{FuncShape}
use Rattle.mlir_ir.specs.declared.tree.Op.{Op}
use Rattle.mlir_ir.specs.declared.tree.OpId.{OpId}
use Rattle.mlir_ir.specs.declared.tree.ValueId.{ValueId}
use Rattle.mlir_meaning.specs.Grids.{Each}
use Rattle.mlir_verify.specs.Place.{type_among}
use Rattle.payload_laws.specs.Known.{may_trap}
use Rattle.verified_runs.specs.Forms.{Structured, kind_of}
use Rattle.verified_runs.specs.Passes.{BodyPasses, FuncPasses, scope_after}
use Rattle.verified_runs.proofs.Runs.{rest_passes}
use Rattle.tile_bridge.specs.Instances.{input_maps}
use Rattle.pair_laws.specs.FuseAll.{as_generic, first_pair, fused_of, has_small_maps, Pair}
use Rattle.pair_laws.specs.Pairs.{fused_op}
use Rattle.pair_laws.proofs.Formed.{fused_passes}
use Rattle.pair_laws.proofs.Found.{IsFound, pair_found}
use Rattle.pair_laws.proofs.Present.{each_of}
use Rattle.pair_laws.proofs.Rules.{typed_parts}
use Rattle.fuse_forms.specs.Forms.{GenericFits}
use Rattle.fuse_elementwise.specs.declared.found.Found.{Found}
use Rattle.fuse_elementwise.specs.Spots.{spot, first_spot, resumed}
use Rattle.fuse_elementwise.specs.Turns.{Forms, IsChange, IsPair}
use Rattle.fuse_elementwise.specs.declared.turn.Change.{Change}
use Rattle.fuse_elementwise.proofs.Candidates.{fused_here}
use Rattle.fuse_elementwise.proofs.Fusions.{spot_within}
use Rattle.fuse_elementwise.proofs.Spots.{same_spot}

pub of_spot : (f : FuncShape) (found : Found) → Some found ≡ first_spot f → (x : Pair) × (first_pair f ≡ Some x) × (found ≡ spot x)
of_spot f found h = by (first_pair f) refl (h ∙ sym (same_spot f)) where
  by : (r : Option Pair) → first_pair f ≡ r → Some found ≡ option_map spot r → (x : Pair) × (first_pair f ≡ Some x) × (found ≡ spot x)
  by None q k = absurd (none-some found (sym k))
  by (Some x) q k = (x, q, same_Some found (spot x) k)

pub no_spot : (f : FuncShape) → None ≡ first_spot f → first_pair f ≡ None
no_spot f h = by (first_pair f) refl (h ∙ sym (same_spot f)) where
  by : (r : Option Pair) → first_pair f ≡ r → None ≡ option_map spot r → first_pair f ≡ None
  by None q k = q
  by (Some x) q k = absurd (none-some (spot x) k)

at_end : {A : Type 0} (xs : List A) (y : A) (ys : List A) → slice_get (xs ++ (y ∷ ys)) (length xs) ≡ Some y
at_end [] y ys = refl
at_end (x ∷ xs) y ys = at_end xs y ys

module _ (f : FuncShape) (x : Pair) (first : first_pair f ≡ Some x) where
  abbrev found : IsFound f.params f.body x
  found = pair_found f x first

  producer_op : slice_get f.body (length x.before) ≡ Some x.producer
  producer_op = ap (λ (os : List Op). slice_get os (length x.before)) found.is ∙ at_end x.before x.producer (x.mid ++ (x.consumer ∷ x.after))

  consumer_op : slice_get f.body (length x.before + suc (length x.mid)) ≡ Some x.consumer
  consumer_op =
      (λ j. slice_get ((found.is ∙ sym (append_assoc x.before (x.producer ∷ x.mid) (x.consumer ∷ x.after))) j) (sym (length-append x.before (x.producer ∷ x.mid)) j))
      ∙ at_end (x.before ++ (x.producer ∷ x.mid)) x.consumer x.after

  pub producer_there : option_and_then (λ (o : Op). as_generic o.kind) (slice_get f.body (length x.before)) ≡ Some x.p
  producer_there = ap (option_and_then (λ (o : Op). as_generic o.kind)) producer_op ∙ ap as_generic found.p_kind

  pub consumer_there : option_and_then (λ (o : Op). as_generic o.kind) (slice_get f.body (length x.before + suc (length x.mid))) ≡ Some x.c
  consumer_there = ap (option_and_then (λ (o : Op). as_generic o.kind)) consumer_op ∙ ap as_generic found.c_kind

  pub id_there : option_map (λ (o : Op). o.id) (slice_get f.body (length x.before)) ≡ Some x.producer.id
  id_there = ap (option_map (λ (o : Op). o.id)) producer_op

  module _ (passes : FuncPasses f) where
    pub dims_there : Each (λ (i : MapShape). length x.ds ≡ i.dims) (input_maps x.p)
    dims_there =
        (fused_here f passes x.before x.mid x.after x.producer x.consumer found.is x.p x.c found.p_kind found.c_kind x.k found.result found.operand x.m x.ds found.map_there found.producing).dims

    -- its parts fit where its maps are small
    generic_fits : has_small_maps (fused_of x) ≡ true → GenericFits (fused_of x)
    generic_fits small =
        let g = fused_of x in
        let whole = fused_passes f x passes first small in
        let new : Op = record { id = x.consumer.id; results = x.consumer.results; kind = kind_of g } in
        let scope = scope_after f.params (x.before ++ x.mid) in
        let own = (rest_passes f.results (x.before ++ x.mid) (new ∷ x.after) f.params
        (subst (BodyPasses f.params f.results) (sym (append_assoc x.before x.mid (new ∷ x.after))) whole.body)).0 in
        let types = typed_parts (type_among scope) own.constants f.results x.consumer.results g own.typed in
        (each_of map_fits g.maps types.maps, types.payload)

    pub not_small : (GenericFits (fused_of x) → ⊥) → has_small_maps (fused_of x) ≡ false
    not_small h = by (has_small_maps (fused_of x)) refl where
      by : (b : Bool) → has_small_maps (fused_of x) ≡ b → has_small_maps (fused_of x) ≡ false
      by true q = absurd (h (generic_fits q))
      by false q = q

-- AS A PAIR
module _ (f : FuncShape) (found : Found) (p c : Structured) (h : Some found ≡ first_spot f)
    (producer : option_and_then (λ (o : Op). as_generic o.kind) (slice_get f.body found.producer) ≡ Some p)
    (consumer : option_and_then (λ (o : Op). as_generic o.kind) (slice_get f.body found.consumer) ≡ Some c) where
  pub is_pair : IsPair f found p c
  is_pair =
      let x = of_spot f found h in
      record {
        pair = x.0;
        is = x.1;
        there = x.2;
        producer = same_Some p x.0.p (sym producer ∙ (λ j. option_and_then (λ (o : Op). as_generic o.kind) (slice_get f.body (x.2 j).producer)) ∙ producer_there f x.0 x.1);
        consumer = same_Some c x.0.c (sym consumer ∙ (λ j. option_and_then (λ (o : Op). as_generic o.kind) (slice_get f.body (x.2 j).consumer)) ∙ consumer_there f x.0 x.1);
      }

module _ (f : FuncShape) (passes : FuncPasses f) (found : Found) (p c : Structured) (i : IsPair f found p c) where
  pub map_there : slice_get (input_maps c) found.operand ≡ Some i.pair.m
  map_there = (λ j. slice_get (input_maps (i.consumer j)) (i.there j).operand) ∙ (pair_found f i.pair i.is).map_there

  pub dims_here : Each (λ (m : MapShape). length found.dims ≡ m.dims) (input_maps p)
  dims_here =
      subst (λ (z : List ℕ × Structured). Each (λ (m : MapShape). length z.0 ≡ m.dims) (input_maps z.1)) (λ j. ((sym i.there j).dims, sym i.producer j)) (dims_there f i.pair i.is passes)

  pub fused_same : (m : MapShape) → Some m ≡ slice_get (input_maps c) found.operand → fused_op p c found.operand m found.dims ≡ fused_of i.pair
  fused_same m e =
      let same : m ≡ i.pair.m = same_Some m i.pair.m (e ∙ map_there) in
      λ j. fused_op (i.producer j) (i.consumer j) (i.there j).operand (same j) (i.there j).dims

  pub forms_some : (m : MapShape) (g : Structured) → Some m ≡ slice_get (input_maps c) found.operand → g ≡ fused_op p c found.operand m found.dims → list_all map_fits g.maps ≡ true → Forms f (Some g)
  forms_some m g e q small =
      let same = q ∙ fused_same m e in (i.pair, i.is, (λ j. list_all map_fits (sym same j).maps) ∙ small, same)

  pub forms_none : (m : MapShape) → Some m ≡ slice_get (input_maps c) found.operand → (GenericFits (fused_op p c found.operand m found.dims) → ⊥) → Forms f None
  forms_none m e h = (i.pair, i.is, not_small f i.pair i.is passes (λ fits. h (subst GenericFits (sym (fused_same m e)) fits)))

  -- the producer's payload
  pub same_trap : (x : Pair) → first_pair f ≡ Some x → (b : Bool) → may_trap p.payload ≡ b → may_trap x.p.payload ≡ b
  same_trap x e b h =
      let same : x ≡ i.pair = same_Some x i.pair (sym e ∙ i.is) in
      (λ j. may_trap ((ap (λ (y : Pair). y.p) same ∙ sym i.producer) j).payload) ∙ h

-- THE CONSUMER'S PLACE
module _ (f : FuncShape) (found : Found) (p c : Structured) (i : IsPair f found p c) where
  pub behind_there : 0 < found.consumer
  behind_there = subst (λ (s : Found). 0 < s.consumer) (sym i.there) (let l : 0 < length i.pair.before + suc (length i.pair.mid) = omega arith in l)

  pub below_there : found.consumer ≤ length f.body
  below_there = let l = spot_within f i.pair i.is found i.there in omega (arith, l)

  value_there : slice_get c.ins found.operand ≡ slice_get i.pair.c.ins i.pair.k
  value_there = λ j. slice_get (i.consumer j).ins (i.there j).operand

  pub no_value : None ≡ slice_get c.ins found.operand → ⊥
  no_value h = let w = pair_found f i.pair i.is in none-some w.result (h ∙ value_there ∙ w.operand)

  resumed_there : (x : Pair) → first_pair f ≡ Some x → (from : ℕ) → from ≡ resumed f found p → from ≡ resumed f (spot x) x.p
  resumed_there x e from h =
      let same : i.pair ≡ x = same_Some i.pair x (sym i.is ∙ e) in
      h ∙ (λ j. resumed f (i.there j) (i.producer j)) ∙ (λ j. resumed f (spot (same j)) (same j).p)

  pub change_there : (x : Pair) → first_pair f ≡ Some x → (change : Change) (gone : ValueId) → change ≡ record { from = resumed f found p; outs = p.outs; gone = gone } →
      Some gone ≡ slice_get c.ins found.operand → IsChange f x change
  change_there x e change gone h k =
      let same : i.pair ≡ x = same_Some i.pair x (sym i.is ∙ e) in
      record {
        from = (λ j. (h j).from) ∙ resumed_there x e (resumed f found p) refl;
        outs = (λ j. (h j).outs) ∙ (λ j. (i.producer j).outs) ∙ (λ j. (same j).p.outs);
        gone = (λ j. slice_get (sym same j).c.ins (sym same j).k) ∙ sym value_there ∙ sym k ∙ (λ j. Some (sym h j).gone);
      }

-- WHAT CAN'T BE
pub none_there : (f : FuncShape) (found : Found) → Some found ≡ first_spot f → None ≡ option_and_then (λ (o : Op). as_generic o.kind) (slice_get f.body found.producer) → ⊥
none_there f found h e =
    let x = of_spot f found h in
    none-some x.0.p (e ∙ (λ j. option_and_then (λ (o : Op). as_generic o.kind) (slice_get f.body (x.2 j).producer)) ∙ producer_there f x.0 x.1)

pub none_here : (f : FuncShape) (found : Found) → Some found ≡ first_spot f → None ≡ option_and_then (λ (o : Op). as_generic o.kind) (slice_get f.body found.consumer) → ⊥
none_here f found h e =
    let x = of_spot f found h in
    none-some x.0.c (e ∙ (λ j. option_and_then (λ (o : Op). as_generic o.kind) (slice_get f.body (x.2 j).consumer)) ∙ consumer_there f x.0 x.1)

-- a producer that may trap
pub trap_there : (f : FuncShape) (found : Found) (p : Structured) (id : OpId) → Some found ≡ first_spot f →
    option_and_then (λ (o : Op). as_generic o.kind) (slice_get f.body found.producer) ≡ Some p → may_trap p.payload ≡ true →
    Some id ≡ option_map (λ (o : Op). o.id) (slice_get f.body found.producer) →
    (x : Pair) × (first_pair f ≡ Some x) × (may_trap x.p.payload ≡ true) × (id ≡ x.producer.id)
trap_there f found p id h e trap k =
    let x = of_spot f found h in
    let same : p ≡ x.0.p = same_Some p x.0.p (sym e ∙ (λ j. option_and_then (λ (o : Op). as_generic o.kind) (slice_get f.body (x.2 j).producer)) ∙ producer_there f x.0 x.1) in (
      x.0,
      x.1,
      (λ j. may_trap (sym same j).payload) ∙ trap,
      same_Some id x.0.producer.id (k ∙ (λ j. option_map (λ (o : Op). o.id) (slice_get f.body (x.2 j).producer)) ∙ id_there f x.0 x.1),
    )
