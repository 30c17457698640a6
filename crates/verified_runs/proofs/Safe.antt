-- What an operation asks holds where it passes and the state is typed.
use Rattle.std.proofs.Common.{◌≡◌, ℕ, suc, ◌==◌, Bool, true, false, not, List, [], ◌∷◌, length, refl, sym, subst, arith, eqb-true}
use Rattle.std.specs.List.{list_all, zip}
use Rattle.std.proofs.lemmas.Bool.{and_parts, and_from}
use Rattle.affine_maps.specs.Shape.{MapShape}
use Rattle.mlir_base.specs.declared.types.ElemTy.{ElemTy}
use Rattle.payload_ops.specs.Shape.{PayloadShape}
use Rattle.mlir_ir.specs.declared.tree.Iter.{Iter}
use Rattle.mlir_ir.specs.declared.tree.Op.{Op}
use Rattle.mlir_ir.specs.declared.tree.OpKind.{OpKind, Constant, Empty, Generic, Fill, Matmul, BatchMatmul, Transpose, Broadcast, Return}
use Rattle.mlir_ir.specs.declared.tree.Ty.{Ty}
use Rattle.mlir_ir.specs.declared.tree.ValueId.{ValueId}
use Rattle.mlir_meaning.specs.Meaning.{values_in}
use Rattle.mlir_meaning.specs.States.{State, width_of}
use Rattle.mlir_meaning.specs.Structured.{Form, rank_of, fill_form, transpose_form, broadcast_form, matmul_form, batch_matmul_form}
use Rattle.mlir_meaning.specs.declared.values.Datum.{Datum}
use Rattle.mlir_verify.specs.Place.{Types, type_among}
use Rattle.mlir_verify.specs.Built.{is_built_kind, is_built}
use Rattle.mlir_verify.specs.Constants.{Constants}
use Rattle.mlir_verify.specs.Tensors as tensors
use Rattle.mlir_verify.specs.Types.{is_input, is_typed}
use Rattle.mlir_verify.specs.Maps.{fit_operands, cover_dimensions, breaks_maps, breaks_iterators}
use Rattle.mlir_verify.specs.Extents.{keeps_extents, breaks_extents}
use Rattle.mlir_verify.specs.Windows.{inputs_stay_in, breaks_windows}
use Rattle.verified_runs.specs.Typed.{AreTyped}
use Rattle.verified_runs.specs.Passes.{Scope, OpPasses}
use Rattle.verified_runs.specs.Forms.{width_in, structured_of}
use Rattle.verified_runs.specs.Asks.{AsksOperands, AsksForm, Asks}
use Rattle.verified_runs.specs.Laws.{ComesSafe}
use Rattle.verified_runs.proofs.Defined.{AllHold}
use Rattle.verified_runs.proofs.Named.{width_is, rank_is, alike_tensor, wide_tensor}
use Rattle.verified_runs.proofs.NamedPasses.{KeepsRules, named_passes}
use Rattle.verified_runs.proofs.Runs.{comes_typed, place_passes}
use Rattle.verified_runs.proofs.Asked.{inputs_have, output_has, is_read, input_read, output_read, Rules, reads_inside, has_box}

not_false : (b : Bool) → not b ≡ false → b ≡ true
not_false true e = refl
not_false false e = absurd cc

all_read : (t : Types) (c : Constants) (ins : List ValueId) (es : List ElemTy) → length ins ≡ length es →
    list_all (λ (x : ValueId × ElemTy). is_input (t (x.0).0) (c (x.0).0) x.1) (zip ins es) ≡ true → list_all (λ (v : ValueId). is_read (t v.0)) ins ≡ true
all_read t c [] es l h = refl
all_read t c (v ∷ ins) [] l h = absurd (omega arith)
all_read t c (v ∷ ins) (e ∷ es) l h =
    let both = and_parts (is_input (t v.0) (c v.0) e) _ h in
    and_from _ _ (input_read (t v.0) (c v.0) e both.0) (all_read t c ins es (omega arith) both.1)

module _ (t : Types) (c : Constants) (wanted : List Ty) (rs : List (ValueId × Ty)) (values : ℕ → Datum) (k : AllHold t values) where
  generic_asks : (maps : List MapShape) (iterators : List Iter) (ins : List ValueId) (outs : ValueId) (captured : List ValueId) (payload : PayloadShape) →
      KeepsRules t c wanted rs (Generic maps iterators ins outs captured payload) → AsksOperands maps (length iterators) payload (values_in values ins) (values outs.0)
  unfolding is_typed breaks_maps fit_operands cover_dimensions breaks_extents keeps_extents breaks_windows inputs_stay_in
  generic_asks maps iterators ins outs captured payload h =
      let both = and_parts _ _ h.typed in
      let generic = and_parts _ _ both.0 in
      let counts = and_parts (length maps == suc (length ins)) _ generic.0 in
      let payloads = and_parts _ _ generic.1 in
      let inputs = and_parts (length ins == length payload.ins) _ payloads.0 in
      let many = eqb-true (length ins) (length payload.ins) inputs.0 in
      let output = (and_parts (tensors.has_elements (t outs.0) payload.out) _ payloads.1).0 in
      let maps_fit = and_parts _ _ (not_false _ h.maps) in
      let operands_fit = and_parts _ _ maps_fit.0 in
      let rules : Rules t maps iterators ins outs = record {
        long = eqb-true (length maps) (suc (length ins)) counts.0;
        made = (and_parts _ _ counts.1).1;
        inputs = operands_fit.0;
        output = operands_fit.1;
        cover = maps_fit.1;
        agree = (and_parts _ _ (not_false _ h.extents)).0;
        windows = not_false _ h.windows;
        input_types = all_read t c ins payload.ins many inputs.1;
        output_type = output_read (t outs.0) payload.out output;
      } in
      record {
        inputs = inputs_have t c values k ins payload.ins many inputs.1;
        output = output_has (t outs.0) payload.out (values outs.0) output (k outs.0);
        inside = reads_inside t values k maps iterators ins outs rules;
        box = has_box t values k maps iterators ins outs rules;
      }

module _ (scope : Scope) (c : Constants) (wanted : List Ty) (rs : List (ValueId × Ty)) (s : State) (k : AreTyped (type_among scope) s) where
  abbrev t : Types
  t = type_among scope

  width_at : (v : ValueId) → tensors.is_tensor (t v.0) ≡ true → width_in (t v.0) ≡ width_of (s.values v.0)
  width_at v h = sym (width_is (t v.0) (s.values v.0) h (k v.0))

  rank_at : (v : ValueId) → tensors.is_tensor (t v.0) ≡ true → tensors.rank_of (t v.0) ≡ rank_of (s.values v.0)
  rank_at v h = sym (rank_is (t v.0) (s.values v.0) h (k v.0))

  kind_asks : (kind : OpKind) → is_built_kind kind ≡ true → is_typed t c wanted rs kind ≡ true → breaks_maps t kind ≡ false → breaks_iterators kind ≡ false →
      keeps_extents t wanted rs kind ≡ true → breaks_extents t wanted rs kind ≡ false → breaks_windows t kind ≡ false → Asks kind s
  unfolding is_typed structured_of fill_form transpose_form broadcast_form matmul_form batch_matmul_form
  kind_asks (Constant cells) b h m i e x w = tt
  kind_asks (Empty sizes) b h m i e x w = tt
  kind_asks (Return vs) b h m i e x w = tt
  kind_asks (Generic maps iterators ins outs captured payload) b h m i e x w =
      generic_asks t c wanted rs s.values k maps iterators ins outs captured payload (record { typed = h; maps = m; iterators = i; extents = x; windows = w })
  kind_asks (Fill value outs) b h m i e x w =
      let out = alike_tensor _ _ (and_parts _ _ h).1 in
      let f : Form = fill_form (width_in (t outs.0)) (tensors.rank_of (t outs.0)) in
      let asks = generic_asks t c wanted rs s.values k f.maps f.iterators (value ∷ []) outs [] f.payload (named_passes t c wanted rs rs (Fill value outs) _ refl h e refl refl) in
      subst (λ g. AsksForm g (s.values value.0 ∷ []) (s.values outs.0)) (λ j. fill_form (width_at outs out j) (rank_at outs out j)) asks
  kind_asks (Matmul p q outs) b h m i e x w =
      let both = and_parts _ _ h in
      let out = alike_tensor _ _ both.1 in
      let source = wide_tensor _ _ (and_parts _ _ (and_parts _ _ both.0).0).0 in
      let f : Form = matmul_form (width_in (t p.0)) (width_in (t outs.0)) in
      let asks = generic_asks t c wanted rs s.values k f.maps f.iterators (p ∷ q ∷ []) outs [] f.payload (named_passes t c wanted rs rs (Matmul p q outs) _ refl h e refl refl) in
      subst (λ g. AsksForm g (s.values p.0 ∷ s.values q.0 ∷ []) (s.values outs.0)) (λ j. matmul_form (width_at p source j) (width_at outs out j)) asks
  kind_asks (BatchMatmul p q outs) b h m i e x w =
      let both = and_parts _ _ h in
      let out = alike_tensor _ _ both.1 in
      let source = wide_tensor _ _ (and_parts _ _ (and_parts _ _ both.0).0).0 in
      let f : Form = batch_matmul_form (width_in (t p.0)) (width_in (t outs.0)) in
      let asks = generic_asks t c wanted rs s.values k f.maps f.iterators (p ∷ q ∷ []) outs [] f.payload (named_passes t c wanted rs rs (BatchMatmul p q outs) _ refl h e refl refl) in
      subst (λ g. AsksForm g (s.values p.0 ∷ s.values q.0 ∷ []) (s.values outs.0)) (λ j. batch_matmul_form (width_at p source j) (width_at outs out j)) asks
  kind_asks (Transpose source outs order) b h m i e x w =
      let out = alike_tensor _ _ (and_parts _ _ h).1 in
      let f : Form = transpose_form (width_in (t outs.0)) order in
      let asks = generic_asks t c wanted rs s.values k f.maps f.iterators (source ∷ []) outs [] f.payload (named_passes t c wanted rs rs (Transpose source outs order) _ refl h e refl refl) in
      subst (λ g. AsksForm g (s.values source.0 ∷ []) (s.values outs.0)) (λ j. transpose_form (width_at outs out j) order) asks
  kind_asks (Broadcast source outs dims) b h m i e x w =
      let out = alike_tensor _ _ (and_parts _ _ h).1 in
      let f : Form = broadcast_form (width_in (t outs.0)) (tensors.rank_of (t outs.0)) dims in
      let asks = generic_asks t c wanted rs s.values k f.maps f.iterators (source ∷ []) outs [] f.payload (named_passes t c wanted rs rs (Broadcast source outs dims) _ refl h e refl refl) in
      subst (λ g. AsksForm g (s.values source.0 ∷ []) (s.values outs.0)) (λ j. broadcast_form (width_at outs out j) (rank_at outs out j) dims) asks
  kind_asks kind b h m i e x w = absurd cc

op_asks : (scope : Scope) (wanted : List Ty) (o : Op) (s : State) → OpPasses scope wanted o → AreTyped (type_among scope) s → Asks o.kind s
unfolding is_built breaks_extents
op_asks scope wanted o s h k =
    kind_asks scope h.constants wanted o.results s k o.kind (and_parts _ _ h.built).0 h.typed h.maps h.iterators (not_false _ h.extents) h.extents h.windows

pub comes_safe : ComesSafe
comes_safe f k o os inputs u passes e i r =
    let there = place_passes f k o os passes e in
    op_asks _ there.0 o u there.1 (comes_typed f k (o ∷ os) inputs u passes e i r)
