-- Structured operations mean what their generics mean, where widths and ranks are those of the types.
use Rattle.std.proofs.Common.{◌≡◌, ℕ, suc, true, false, List, [], ◌∷◌, length, Option, Some, None, refl, ap, sym, subst}
use Rattle.std.proofs.lemmas.Bool.{and_parts}
use Rattle.std.proofs.lemmas.Option.{same_Some}
use Rattle.mlir_ir.specs.declared.tree.Extent.{Extent}
use Rattle.mlir_ir.specs.declared.tree.Extent.TheVariants.{Fixed, Any}
use Rattle.mlir_ir.specs.declared.tree.Ty.{Ty}
use Rattle.mlir_ir.specs.declared.tree.Ty.TheVariants.{Scalar, Tensor, Vector}
use Rattle.mlir_ir.specs.declared.tree.ValueId.{ValueId}
use Rattle.mlir_ir.specs.declared.tree.OpKind.{OpKind, Generic, Fill, Matmul, BatchMatmul, Transpose, Broadcast}
use Rattle.mlir_meaning.specs.States.{State, width_of, made}
use Rattle.mlir_meaning.specs.declared.values.Datum.{Datum}
use Rattle.mlir_meaning.specs.declared.values.Datum.TheVariants.{Number, Bits, Cells}
use Rattle.mlir_meaning.specs.Structured.{Form, form_result, fill_form, matmul_form, batch_matmul_form, transpose_form, broadcast_form, rank_of}
use Rattle.mlir_meaning.specs.Meaning.{values_in, kind_meaning}
use Rattle.mlir_verify.specs.Place.{type_among}
use Rattle.mlir_verify.specs.Constants.{Constants}
use Rattle.mlir_verify.specs.Tensors.{is_alike, are_as_wide, result_type}
use Rattle.mlir_verify.specs.Tensors as tensors
use Rattle.mlir_verify.specs.Types.{is_typed}
use Rattle.verified_runs.specs.Typed.{IsSized, HoldsIn, AreTyped}
use Rattle.verified_runs.specs.Passes.{Scope}
use Rattle.verified_runs.specs.Forms.{Structured, kind_of, of_form, width_in, structured_of, is_generic}
use Rattle.verified_runs.proofs.Results.{HasOne, GivesSame, one_result}

-- TYPES AND DATA
sized_length : (es : List Extent) (ns : List ℕ) → IsSized es ns → length ns ≡ length es
sized_length [] [] h = refl
sized_length [] (n ∷ ns) h = absurd h
sized_length (Fixed m ∷ es) [] h = absurd h
sized_length (Any ∷ es) [] h = absurd h
sized_length (Fixed m ∷ es) (n ∷ ns) h = ap suc (sized_length es ns h.1)
sized_length (Any ∷ es) (n ∷ ns) h = ap suc (sized_length es ns h)

pub width_is : (o : Option Ty) (d : Datum) → tensors.is_tensor o ≡ true → HoldsIn o d → width_of d ≡ width_in o
width_is (Some (Tensor es w)) (Cells v g) t h = h.0
width_is (Some (Tensor es w)) (Number n) t h = absurd h
width_is (Some (Tensor es w)) (Bits b) t h = absurd h
width_is (Some (Scalar e)) d t h = absurd cc
width_is (Some (Vector es w)) d t h = absurd cc
width_is None d t h = absurd cc

pub rank_is : (o : Option Ty) (d : Datum) → tensors.is_tensor o ≡ true → HoldsIn o d → rank_of d ≡ tensors.rank_of o
rank_is (Some (Tensor es w)) (Cells v g) t h = sized_length es g.extents h.1
rank_is (Some (Tensor es w)) (Number n) t h = absurd h
rank_is (Some (Tensor es w)) (Bits b) t h = absurd h
rank_is (Some (Scalar e)) d t h = absurd cc
rank_is (Some (Vector es w)) d t h = absurd cc
rank_is None d t h = absurd cc

pub alike_tensor : (o p : Option Ty) → is_alike o p ≡ true → tensors.is_tensor o ≡ true
alike_tensor (Some (Tensor es w)) p h = refl
alike_tensor (Some (Scalar e)) p h = absurd cc
alike_tensor (Some (Vector es w)) p h = absurd cc
alike_tensor None p h = absurd cc

pub wide_tensor : (o p : Option Ty) → are_as_wide o p ≡ true → tensors.is_tensor o ≡ true
wide_tensor (Some (Tensor es w)) p h = refl
wide_tensor (Some (Scalar e)) p h = absurd cc
wide_tensor (Some (Vector es w)) p h = absurd cc
wide_tensor None p h = absurd cc

-- THE FORMS
module _ (scope : Scope) (u : State) (k : AreTyped (type_among scope) u) (rs qs : List (ValueId × Ty)) where
  abbrev Same : OpKind → Structured → Type 0
  Same kind g = HasOne rs × GivesSame kind (kind_of g) rs qs u

  -- an operation means the generic of its own form, and so of one that is equal
  formed : (kind : OpKind) (f g : Form) (ins : List ValueId) (outs : ValueId) (h : Structured) → is_alike (type_among scope outs.0) (result_type rs) ≡ true → of_form g ins outs ≡ h →
      f ≡ g → kind_meaning kind rs u ≡ made rs u (form_result f (values_in u.values ins) (u.values outs.0)) → Same kind h
  unfolding kind_meaning
  formed kind f g ins outs h out q e was = subst (Same kind) q (
    one_result (type_among scope outs.0) rs out,
    record {
      datum = form_result f (values_in u.values ins) (u.values outs.0);
      was = was;
      is = λ j. made qs u (form_result (sym e j) (values_in u.values ins) (u.values outs.0));
    },
  )

  width_at : (v : ValueId) → tensors.is_tensor (type_among scope v.0) ≡ true → width_of (u.values v.0) ≡ width_in (type_among scope v.0)
  width_at v h = width_is (type_among scope v.0) (u.values v.0) h (k v.0)

  rank_at : (v : ValueId) → tensors.is_tensor (type_among scope v.0) ≡ true → rank_of (u.values v.0) ≡ tensors.rank_of (type_among scope v.0)
  rank_at v h = rank_is (type_among scope v.0) (u.values v.0) h (k v.0)

  pub same_kind : (kind : OpKind) (constants : Constants) (wanted : List Ty) (g : Structured) → is_typed (type_among scope) constants wanted rs kind ≡ true →
      structured_of (type_among scope) kind ≡ Some g → is_generic kind ≡ false → Same kind g
  unfolding kind_meaning is_typed structured_of
  same_kind (Fill value outs) c wanted g t q b =
      let out = (and_parts _ _ t).1 in
      let tensor = alike_tensor _ _ out in
      formed (Fill value outs) _ _ (value ∷ []) outs g out (same_Some _ g q) (λ j. fill_form (width_at outs tensor j) (rank_at outs tensor j)) refl
  same_kind (Matmul x y outs) c wanted g t q b =
      let both = and_parts _ _ t in
      let source = wide_tensor _ _ (and_parts _ _ (and_parts _ _ both.0).0).0 in
      formed (Matmul x y outs) _ _ (x ∷ y ∷ []) outs g both.1 (same_Some _ g q) (λ j. matmul_form (width_at x source j) (width_at outs (alike_tensor _ _ both.1) j)) refl
  same_kind (BatchMatmul x y outs) c wanted g t q b =
      let both = and_parts _ _ t in
      let source = wide_tensor _ _ (and_parts _ _ (and_parts _ _ both.0).0).0 in
      formed (BatchMatmul x y outs) _ _ (x ∷ y ∷ []) outs g both.1 (same_Some _ g q) (λ j. batch_matmul_form (width_at x source j) (width_at outs (alike_tensor _ _ both.1) j)) refl
  same_kind (Transpose source outs order) c wanted g t q b =
      let out = (and_parts _ _ t).1 in
      formed (Transpose source outs order) _ _ (source ∷ []) outs g out (same_Some _ g q) (λ j. transpose_form (width_at outs (alike_tensor _ _ out) j) order) refl
  same_kind (Broadcast source outs dims) c wanted g t q b =
      let out = (and_parts _ _ t).1 in
      let tensor = alike_tensor _ _ out in
      formed (Broadcast source outs dims) _ _ (source ∷ []) outs g out (same_Some _ g q) (λ j. broadcast_form (width_at outs tensor j) (rank_at outs tensor j) dims) refl
  same_kind (Generic maps iterators ins outs captured payload) c wanted g t q b = absurd cc
  same_kind kind c wanted g t q b = absurd cc
