-- A generic of a verified function and its consumer, by an operand.
use Rattle.std.proofs.Common.{◌≡◌, ℕ, zero, suc, ◌==◌, ◌&&◌, Bool, true, false, List, [], ◌∷◌, ◌++◌, take, length, Some, ap, sym, subst, ◌∙◌, eqb-true}
use Rattle.std.specs.Prelude.{slice_get, zip}
use Rattle.std.specs.List.{list_all}
use Rattle.std.proofs.lemmas.Bool.{and_parts}
use Rattle.std.proofs.lemmas.Option.{same_Some, none-some, slice_get_within}
use Rattle.affine_maps.specs.Shape.{MapShape}
use Rattle.mlir_ir.specs.Shape.{FuncShape}
use Rattle.mlir_ir.specs.declared.tree.Op.{Op}
use Rattle.mlir_ir.specs.declared.tree.OpKind.{OpKind, Generic}
use Rattle.mlir_ir.specs.declared.tree.ValueId.{ValueId}
use Rattle.mlir_meaning.specs.Grids.{Each}
use Rattle.mlir_meaning.proofs.Grids.{each_more}
use Rattle.mlir_meaning.proofs.Through.{each_left}
use Rattle.mlir_edits.specs.Places.{scope_before}
use Rattle.affine_maps.specs.Permutation.{is_among}
use Rattle.mlir_verify.specs.Maps.{breaks_maps, fits_operand, fit_operands, is_not_negative, output_map, output_dimensions}
use Rattle.mlir_verify.specs.Names.{numbers}
use Rattle.mlir_verify.specs.Place.{Types, type_among}
use Rattle.mlir_verify.specs.Tensors.{extents_of}
use Rattle.verified_runs.specs.Forms.{Structured, kind_of}
use Rattle.verified_runs.specs.Passes.{Scope, OpPasses, BodyPasses, FuncPasses, scope_after}
use Rattle.verified_runs.proofs.Runs.{rest_passes}
use Rattle.point_laws.specs.Orders.{is_order}
use Rattle.fuse_laws.specs.Fused.{pulled}
use Rattle.tile_bridge.specs.Instances.{is_parallel}
use Rattle.pair_laws.specs.FuseAll.{as_generic, avoids_out}
use Rattle.pair_laws.proofs.Found.{some_if}
use Rattle.pair_laws.proofs.Inside.{not_true}
use Rattle.pair_laws.proofs.Names.{each_known}
use Rattle.pair_laws.proofs.Rules.{IsTypedGeneric, typed_parts}
use Rattle.pair_laws.proofs.Scopes.{scope_after-append, type_kept}
use Rattle.fuse_elementwise.specs.Fitting.{AreCounted}
use Rattle.fuse_elementwise.specs.Spots.{Meet}
use Rattle.fuse_elementwise.proofs.Operands.{operands_fit}
use Rattle.fuse_elementwise.proofs.Signs.{pulled_not_negative}

pub generic_is : (kind : OpKind) (g : Structured) → as_generic kind ≡ Some g → kind ≡ kind_of g
generic_is (Generic maps iterators ins outs captured payload) g e = ap kind_of (same_Some _ g e)
generic_is kind g e = absurd cc

-- MAPS OF A VERIFIED GENERIC
fitting_operands : (t : Types) (g : Structured) → breaks_maps t (kind_of g) ≡ false → fit_operands t g.maps g.iterators g.ins g.outs ≡ true
unfolding breaks_maps
fitting_operands t g h = (and_parts (fit_operands t g.maps g.iterators g.ins g.outs) _ (not_true _ h)).0

input_fits : (t : Types) (g : Structured) → fit_operands t g.maps g.iterators g.ins g.outs ≡ true →
    list_all (λ (y : ValueId × MapShape). fits_operand (length g.iterators) y.1 (t (y.0).0)) (zip g.ins g.maps) ≡ true
unfolding fit_operands
input_fits t g h = (and_parts (list_all (λ (y : ValueId × MapShape). fits_operand (length g.iterators) y.1 (t (y.0).0)) (zip g.ins g.maps)) _ h).0

module _ (n : ℕ) (t : Types) where
  abbrev Fit : ValueId × MapShape → Bool
  Fit y = fits_operand n y.1 (t (y.0).0)

  all_dims : (k : ℕ) (vs : List ValueId) (ms : List MapShape) → k ≡ n → list_all Fit (zip vs ms) ≡ true → Each (λ (i : MapShape). k ≡ i.dims) (take (length vs) ms)
  all_dims k [] ms e h = tt
  all_dims k (v ∷ vs) [] e h = tt
  all_dims k (v ∷ vs) (m ∷ ms) e h =
      let parts = and_parts (Fit (v, m)) _ h in
      let shape = (and_parts (m.dims == n && length m.results == length (extents_of (t v.0))) (list_all is_not_negative m.results) parts.0).0 in
      (e ∙ sym (eqb-true m.dims n (and_parts (m.dims == n) _ shape).0), all_dims k vs ms e parts.1)

  one_map : (vs : List ValueId) (ms : List MapShape) (k : ℕ) (m : MapShape) → list_all Fit (zip vs ms) ≡ true → slice_get (take (length vs) ms) k ≡ Some m →
      (m.dims ≡ n) × (list_all is_not_negative m.results ≡ true)
  one_map [] ms zero m h q = absurd (none-some m q)
  one_map [] ms (suc k) m h q = absurd (none-some m q)
  one_map (v ∷ vs) [] zero m h q = absurd (none-some m q)
  one_map (v ∷ vs) [] (suc k) m h q = absurd (none-some m q)
  one_map (v ∷ vs) (x ∷ ms) zero m h q =
      let parts = and_parts (x.dims == n && length x.results == length (extents_of (t v.0))) (list_all is_not_negative x.results) (and_parts (Fit (v, x)) _ h).0 in
      subst (λ (m : MapShape). (m.dims ≡ n) × (list_all is_not_negative m.results ≡ true)) (same_Some x m q) (eqb-true x.dims n (and_parts (x.dims == n) _ parts.0).0, parts.1)
  one_map (v ∷ vs) (x ∷ ms) (suc k) m h q = one_map vs ms k m (and_parts (Fit (v, x)) _ h).1 q

-- THE TWO OPERATIONS
module _ (f : FuncShape) (passes : FuncPasses f) (front mid after : List Op) (po co : Op) (is : f.body ≡ front ++ (po ∷ (mid ++ (co ∷ after))))
    (p c : Structured) (p_kind : po.kind ≡ kind_of p) (c_kind : co.kind ≡ kind_of c) where
  abbrev scope : Scope
  scope = scope_after f.params front

  abbrev later : Scope
  later = scope_after scope (po ∷ mid)

  tail : BodyPasses scope f.results (po ∷ (mid ++ (co ∷ after)))
  tail = rest_passes f.results front (po ∷ (mid ++ (co ∷ after))) f.params (subst (BodyPasses f.params f.results) is passes.body)

  p_op : OpPasses scope f.results (record { id = po.id; results = po.results; kind = kind_of p })
  p_op = subst (λ (kind : OpKind). OpPasses scope f.results (record { id = po.id; results = po.results; kind = kind })) p_kind tail.0

  c_op : OpPasses later f.results (record { id = co.id; results = co.results; kind = kind_of c })
  c_op = subst (λ (kind : OpKind). OpPasses later f.results (record { id = co.id; results = co.results; kind = kind })) c_kind
      (rest_passes f.results (po ∷ mid) (co ∷ after) scope tail).0

  p_types : IsTypedGeneric (type_among scope) p_op.constants po.results p
  p_types = typed_parts (type_among scope) p_op.constants f.results po.results p p_op.typed

  c_types : IsTypedGeneric (type_among later) c_op.constants co.results c
  c_types = typed_parts (type_among later) c_op.constants f.results co.results c c_op.typed

  same : Each (λ (v : ValueId). type_among later v.0 ≡ type_among scope v.0) p.ins
  same =
      each_left (λ (v : ValueId). type_among later v.0 ≡ type_among scope v.0) p.ins (p.outs ∷ p.captured)
      (each_more (λ (v : ValueId). is_among v.0 (numbers scope) ≡ true) (λ (v : ValueId). type_among later v.0 ≡ type_among scope v.0)
      (λ v h. type_kept f.results (po ∷ mid) (co ∷ after) scope v.0 tail h) (p.ins ++ (p.outs ∷ p.captured)) (each_known scope (p.ins ++ (p.outs ∷ p.captured)) p_op.known))

  pub fused_here : (k : ℕ) (v : ValueId) → slice_get c.ins k ≡ Some v → Meet (type_among later) p c k
  fused_here k v operand m ds at producing =
      let tests = some_if (list_all is_parallel p.iterators && (avoids_out p.payload && is_order (output_dimensions (output_map p.maps)) (length p.iterators)))
      (output_dimensions (output_map p.maps)) ds producing in
      let order = (and_parts (avoids_out p.payload) _ (and_parts (list_all is_parallel p.iterators) _ tests.0).1).1 in
      let long : length ds ≡ length p.iterators = ap length (sym tests.1)
      ∙ eqb-true (length (output_dimensions (output_map p.maps))) (length p.iterators) (and_parts (length (output_dimensions (output_map p.maps)) == length p.iterators) _ order).0 in
      let p_fit = fitting_operands (type_among scope) p p_op.maps in
      let c_fit = fitting_operands (type_among later) c c_op.maps in
      let own = one_map (length c.iterators) (type_among later) c.ins c.maps k m (input_fits (type_among later) c c_fit) at in
      let counted : AreCounted p c k = record { producer = p_types.counted; consumer = c_types.counted; operand = slice_get_within c.ins k v operand } in
      record {
        counted = counted;
        dims = all_dims (length p.iterators) (type_among scope) (length ds) p.ins p.maps long (input_fits (type_among scope) p p_fit);
        operands = operands_fit (type_among later) (type_among scope) p c k (pulled ds m) counted own.0 (pulled_not_negative ds m own.1) same p_fit c_fit;
        p_none = p_types.none_captured;
        c_none = c_types.none_captured;
      }

  -- by the place of the consumer
  pub meet : (consumer k : ℕ) (v : ValueId) → take consumer f.body ≡ front ++ (po ∷ mid) → slice_get c.ins k ≡ Some v → Meet (type_among (scope_before f consumer)) p c k
  meet consumer k v e operand =
      subst (λ (s : Scope). Meet (type_among s) p c k) (sym (ap (scope_after f.params) e ∙ scope_after-append f.params front (po ∷ mid))) (fused_here k v operand)
