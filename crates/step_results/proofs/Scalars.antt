-- A scalar in scope is a constant, since parameters and the results of all other operations are tensors. So what passes with
-- some constants passes with those that stand before it.
use Rattle.std.proofs.Common.{◌≡◌, ℕ, ◌==◌, ◌&&◌, Bool, true, false, List, [], ◌∷◌, ◌++◌, Option, Some, None, ◌⊎◌, inl, inr, refl, ap, sym, ◌∙◌, length}
use Rattle.std.specs.Prelude.{◌||◌, if◌then◌else◌}
use Rattle.std.specs.List.{list_all, zip}
use Rattle.std.proofs.lemmas.Bool.{and_parts, and_from}
use Rattle.affine_maps.specs.Permutation.{is_among}
use Rattle.mlir_base.specs.declared.types.ElemTy.{ElemTy}
use Rattle.mlir_base.specs.declared.types.ElemTy.TheVariants.{Int, Index}
use Rattle.mlir_ir.specs.Count.{first}
use Rattle.mlir_ir.specs.Shape.{FuncShape}
use Rattle.mlir_ir.specs.declared.tree.Op.{Op}
use Rattle.mlir_ir.specs.declared.tree.OpKind.{OpKind, Constant, Empty, Generic, Fill, Matmul, BatchMatmul, Transpose, Broadcast, Return}
use Rattle.mlir_ir.specs.declared.tree.Ty.{Ty}
use Rattle.mlir_ir.specs.declared.tree.Ty.TheVariants.{Scalar, Tensor, Vector}
use Rattle.mlir_ir.specs.declared.tree.ValueId.{ValueId}
use Rattle.mlir_verify.specs.Place.{Types, type_among, scope_at, is_empty}
use Rattle.mlir_verify.specs.Built.{is_built_kind}
use Rattle.mlir_verify.specs.Constants.{Constants, is_constant, constants_of, constants_at}
use Rattle.mlir_verify.specs.Names.{numbers}
use Rattle.mlir_verify.specs.Named.{is_element}
use Rattle.mlir_verify.specs.Tensors.{is_fixed_tensor, is_tensor, is_alike, result_type}
use Rattle.mlir_verify.specs.Types.{is_input, is_typed_payload, is_typed}
use Rattle.mlir_verify.proofs.Standing.{constants_at-last, scope_at-last, type_among-append}
use Rattle.verified_runs.specs.Passes.{Scope, OpPasses}
use Rattle.verified_runs.proofs.Places.{built_kind}
use Rattle.step_results.proofs.Numbers.{among_left, among_right}

-- each scalar is one of these numbers
abbrev pub AreConstants : Types → List ℕ → Type 0
AreConstants t cs = (v : ℕ) (e : ElemTy) → t v ≡ Some (Scalar e) → is_among v cs ≡ true

-- PARAMETERS
not_fixed : (T : Ty) (e : ElemTy) → is_fixed_tensor T ≡ true → T ≡ Scalar e → ⊥
not_fixed (Scalar d) e h q = absurd cc
not_fixed (Tensor es w) e h q = absurd cc
not_fixed (Vector es w) e h q = absurd cc

some_one : (b : Bool) (T U : Ty) → (if b then Some T else None) ≡ Some U → T ≡ U
some_one true T U q = cc
some_one false T U q = absurd cc

later_or : (o p : Option Ty) (U : Ty) → first o p ≡ Some U → (o ≡ Some U) ⊎ (p ≡ Some U)
later_or None p U q = inr q
later_or (Some T) p U q = inl q

fixed_params : (ds : Scope) → list_all (λ (d : ValueId × Ty). is_fixed_tensor d.1) ds ≡ true → (v : ℕ) (e : ElemTy) → type_among ds v ≡ Some (Scalar e) → ⊥
fixed_params [] h v e q = absurd cc
fixed_params (d ∷ ds) h v e q =
    let both = and_parts (is_fixed_tensor d.1) _ h in
    by_part (later_or (type_among ds v) (if (d.0).0 == v then Some d.1 else None) (Scalar e) q) both.0 (fixed_params ds both.1 v e)
  where
    by_part : (type_among ds v ≡ Some (Scalar e)) ⊎ ((if (d.0).0 == v then Some d.1 else None) ≡ Some (Scalar e)) → is_fixed_tensor d.1 ≡ true → (type_among ds v ≡ Some (Scalar e) → ⊥) → ⊥
    by_part (inl a) f rest = rest a
    by_part (inr a) f rest = not_fixed d.1 e f (some_one ((d.0).0 == v) d.1 (Scalar e) a)

pub params_constant : (f : FuncShape) → list_all (λ (d : ValueId × Ty). is_fixed_tensor d.1) f.params ≡ true → AreConstants (type_among f.params) []
params_constant f h v e q = absurd (fixed_params f.params h v e q)

-- RESULTS
alike_tensor : (o p : Option Ty) → is_alike o p ≡ true → is_tensor p ≡ true
alike_tensor (Some (Tensor xs v)) (Some (Tensor ys w)) h = refl
alike_tensor (Some (Tensor xs v)) (Some (Scalar e)) h = absurd cc
alike_tensor (Some (Tensor xs v)) (Some (Vector ys w)) h = absurd cc
alike_tensor (Some (Tensor xs v)) None h = absurd cc
alike_tensor (Some (Scalar e)) p h = absurd cc
alike_tensor (Some (Vector xs v)) p h = absurd cc
alike_tensor None p h = absurd cc

tensor_not_scalar : (T : Ty) (e : ElemTy) → is_tensor (Some T) ≡ true → T ≡ Scalar e → ⊥
tensor_not_scalar (Scalar d) e h q = absurd cc
tensor_not_scalar (Tensor es w) e h q = absurd cc
tensor_not_scalar (Vector es w) e h q = absurd cc

no_scalar : (rs : Scope) → is_tensor (result_type rs) ≡ true → (v : ℕ) (e : ElemTy) → type_among rs v ≡ Some (Scalar e) → ⊥
no_scalar [] h v e q = absurd cc
no_scalar (r ∷ []) h v e q = tensor_not_scalar r.1 e h (some_one ((r.0).0 == v) r.1 (Scalar e) q)
no_scalar (r ∷ s ∷ rs) h v e q = absurd cc

none_defined : (rs : Scope) → is_empty rs ≡ true → (v : ℕ) (T : Ty) → type_among rs v ≡ Some T → ⊥
none_defined [] h v T q = absurd cc
none_defined (r ∷ rs) h v T q = absurd cc

or_true : (b : Bool) → (b || true) ≡ true
or_true true = refl
or_true false = refl

defined_there : (rs : Scope) (v : ℕ) (T : Ty) → type_among rs v ≡ Some T → is_among v (numbers rs) ≡ true
defined_there [] v T q = absurd cc
defined_there (r ∷ rs) v T q = by_part (later_or (type_among rs v) (if (r.0).0 == v then Some r.1 else None) T q) (defined_there rs v T) where
  here : (b : Bool) → (if b then Some r.1 else None) ≡ Some T → (b || is_among v (numbers rs)) ≡ true
  here true e = refl
  here false e = absurd cc

  by_part : (type_among rs v ≡ Some T) ⊎ ((if (r.0).0 == v then Some r.1 else None) ≡ Some T) → (type_among rs v ≡ Some T → is_among v (numbers rs) ≡ true) → (((r.0).0 == v) || is_among v (numbers rs)) ≡ true
  by_part (inl a) rest = ap (λ b. ((r.0).0 == v) || b) (rest a) ∙ or_true ((r.0).0 == v)
  by_part (inr a) rest = here ((r.0).0 == v) a

module _ (t : Types) (c : Constants) (wanted : List Ty) (rs : Scope) where
  -- an operation other than a constant defines tensors, or nothing
  tensors_made : (kind : OpKind) → is_built_kind kind ≡ true → is_constant kind ≡ false → is_typed t c wanted rs kind ≡ true → (is_empty rs ≡ true) ⊎ (is_tensor (result_type rs) ≡ true)
  unfolding is_typed
  tensors_made (Constant cells) b k h = absurd cc
  tensors_made (Empty sizes) b k h = inr (and_parts (is_empty sizes) _ h).1
  tensors_made (Generic maps iterators ins outs captured payload) b k h = inr (alike_tensor (t outs.0) (result_type rs) (and_parts _ (is_alike (t outs.0) (result_type rs)) h).1)
  tensors_made (Fill value outs) b k h = inr (alike_tensor (t outs.0) (result_type rs) (and_parts _ (is_alike (t outs.0) (result_type rs)) h).1)
  tensors_made (Matmul x y outs) b k h = inr (alike_tensor (t outs.0) (result_type rs) (and_parts _ (is_alike (t outs.0) (result_type rs)) h).1)
  tensors_made (BatchMatmul x y outs) b k h = inr (alike_tensor (t outs.0) (result_type rs) (and_parts _ (is_alike (t outs.0) (result_type rs)) h).1)
  tensors_made (Transpose source outs order) b k h = inr (alike_tensor (t outs.0) (result_type rs) (and_parts _ (is_alike (t outs.0) (result_type rs)) h).1)
  tensors_made (Broadcast source outs dims) b k h = inr (alike_tensor (t outs.0) (result_type rs) (and_parts _ (is_alike (t outs.0) (result_type rs)) h).1)
  tensors_made (Return values) b k h = inl (and_parts (is_empty rs) _ (and_parts _ _ h).0).0
  tensors_made kind b k h = absurd cc

-- a scalar that an operation defines is a constant
own_constant : (scope : Scope) (wanted : List Ty) (o : Op) → OpPasses scope wanted o → AreConstants (type_among o.results) (constants_of o)
own_constant scope wanted o h v e q = by_test (is_constant o.kind) refl where
  by_test : (b : Bool) → is_constant o.kind ≡ b → is_among v (if b then numbers o.results else []) ≡ true
  by_test true p = defined_there o.results v (Scalar e) q
  by_test false p = absurd (by_results (tensors_made (type_among scope) h.constants wanted o.results o.kind (built_kind scope wanted o h) p h.typed)) where
    by_results : (is_empty o.results ≡ true) ⊎ (is_tensor (result_type o.results) ≡ true) → ⊥
    by_results (inl a) = none_defined o.results a v (Scalar e) q
    by_results (inr a) = no_scalar o.results a v e q

pub later_constant : (f : FuncShape) (wanted : List Ty) (earlier : List Op) (o : Op) → OpPasses (scope_at f earlier) wanted o → AreConstants (type_among (scope_at f earlier)) (constants_at earlier) →
    AreConstants (type_among (scope_at f (earlier ++ o ∷ []))) (constants_at (earlier ++ o ∷ []))
later_constant f wanted earlier o h known v e q =
    by_part (later_or (type_among o.results v) (type_among (scope_at f earlier) v) (Scalar e)
    (sym (type_among-append (scope_at f earlier) o.results v) ∙ sym (ap (λ s. type_among s v) (scope_at-last f earlier o)) ∙ q))
  where
    by_part : (type_among o.results v ≡ Some (Scalar e)) ⊎ (type_among (scope_at f earlier) v ≡ Some (Scalar e)) → is_among v (constants_at (earlier ++ o ∷ [])) ≡ true
    by_part (inl a) = ap (is_among v) (constants_at-last earlier o) ∙ among_right v (constants_at earlier) (constants_of o) (own_constant (scope_at f earlier) wanted o h v e a)
    by_part (inr a) = ap (is_among v) (constants_at-last earlier o) ∙ among_left v (constants_at earlier) (constants_of o) (known v e a)

-- TYPES WITH OTHER CONSTANTS
module _ (t : Types) (c d : Constants) (known : (v : ℕ) (e : ElemTy) → t v ≡ Some (Scalar e) → d v ≡ true) where
  input_kept : (v : ℕ) (o : Option Ty) (x : ElemTy) → t v ≡ o → is_input o (c v) x ≡ true → is_input o (d v) x ≡ true
  input_kept v (Some (Tensor es w)) (Int k) q h = h
  input_kept v (Some (Scalar (Int w))) (Int k) q h = and_from (w == k) (d v) (and_parts (w == k) (c v) h).0 (known v (Int w) q)
  input_kept v (Some (Scalar Index)) x q h = absurd cc
  input_kept v (Some (Tensor es w)) Index q h = absurd cc
  input_kept v (Some (Scalar (Int w))) Index q h = absurd cc
  input_kept v (Some (Vector es w)) x q h = absurd cc
  input_kept v None x q h = absurd cc

  inputs_kept : (ins : List ValueId) (xs : List ElemTy) → list_all (λ (x : ValueId × ElemTy). is_input (t (x.0).0) (c (x.0).0) x.1) (zip ins xs) ≡ true →
      list_all (λ (x : ValueId × ElemTy). is_input (t (x.0).0) (d (x.0).0) x.1) (zip ins xs) ≡ true
  inputs_kept [] xs h = refl
  inputs_kept (v ∷ ins) [] h = refl
  inputs_kept (v ∷ ins) (x ∷ xs) h =
      let both = and_parts (is_input (t v.0) (c v.0) x) _ h in
      and_from _ _ (input_kept v.0 (t v.0) x refl both.0) (inputs_kept ins xs both.1)

  filled_kept : (v : ℕ) (o p : Option Ty) → t v ≡ o → (is_element o p && c v) ≡ true → (is_element o p && d v) ≡ true
  filled_kept v (Some (Scalar (Int w))) p q h = and_from (is_element (Some (Scalar (Int w))) p) (d v) (and_parts (is_element (Some (Scalar (Int w))) p) (c v) h).0 (known v (Int w) q)
  filled_kept v (Some (Scalar Index)) p q h = absurd cc
  filled_kept v (Some (Tensor es w)) p q h = absurd cc
  filled_kept v (Some (Vector es w)) p q h = absurd cc
  filled_kept v None p q h = absurd cc

  pub typed_kept : (wanted : List Ty) (rs : Scope) (kind : OpKind) → is_typed t c wanted rs kind ≡ true → is_typed t d wanted rs kind ≡ true
  unfolding is_typed
  typed_kept wanted rs (Constant cells) h = h
  typed_kept wanted rs (Generic maps iterators ins outs captured p) h =
      let both = and_parts _ (is_alike (t outs.0) (result_type rs)) h in
      let parts = and_parts _ (is_typed_payload t c (length iterators) ins outs captured p) both.0 in
      let payload = and_parts (length ins == length p.ins && list_all (λ (x : ValueId × ElemTy). is_input (t (x.0).0) (c (x.0).0) x.1) (zip ins p.ins)) _ parts.1 in
      let inputs = and_parts (length ins == length p.ins) _ payload.0 in
      and_from _ _ (and_from _ _ parts.0 (and_from _ _ (and_from _ _ inputs.0 (inputs_kept ins p.ins inputs.1)) payload.1)) both.1
  typed_kept wanted rs (Fill value outs) h =
      let both = and_parts _ (is_alike (t outs.0) (result_type rs)) h in
      and_from _ _ (filled_kept value.0 (t value.0) (t outs.0) refl both.0) both.1
  typed_kept wanted rs kind h = h
