-- What rule V2 says of a generic, part by part, and what follows of its payload.
use Rattle.std.proofs.Common.{◌≡◌, ℕ, zero, suc, ◌==◌, ◌&&◌, Bool, true, List, [], ◌∷◌, length, Option, Some, None, refl, ap, sym, subst, ◌∙◌, arith, eqb-true, eq-eqb}
use Rattle.std.specs.Prelude.{zip, slice_get}
use Rattle.std.specs.List.{list_all}
use Rattle.std.proofs.lemmas.Bool.{and_parts}
use Rattle.std.proofs.lemmas.Option.{same_Some, none-some}
use Rattle.affine_maps.specs.Map.{map_fits}
use Rattle.payload_ops.specs.Payload.{IsPayload}
use Rattle.payload_ops.specs.Shape.{PayloadShape}
use Rattle.payload_ops.specs.Values.{is_supplied}
use Rattle.payload_ops.specs.declared.step.Arg.{Arg}
use Rattle.payload_ops.specs.declared.step.Arg.TheVariants.{Input, Out, Step}
use Rattle.payload_ops.specs.declared.step.PayloadStep.{PayloadStep}
use Rattle.payload_ops.specs.declared.step.StepOp.{StepOp}
use Rattle.payload_ops.specs.declared.step.StepOp.TheVariants.{Index, Captured}
use Rattle.mlir_base.specs.Types.{bits_of}
use Rattle.mlir_base.specs.declared.types.ElemTy.{ElemTy}
use Rattle.mlir_base.specs.declared.types.ElemTy.TheVariants.{Int, Index as IndexType}
use Rattle.mlir_ir.specs.declared.tree.Ty.{Ty}
use Rattle.mlir_ir.specs.declared.tree.Ty.TheVariants.{Scalar, Tensor, Vector}
use Rattle.mlir_ir.specs.declared.tree.ValueId.{ValueId}
use Rattle.mlir_meaning.specs.Grids.{Each}
use Rattle.mlir_verify.specs.Constants.{Constants}
use Rattle.mlir_verify.specs.Place.{Types, is_empty}
use Rattle.mlir_verify.specs.Tensors.{has_elements, is_alike}
use Rattle.mlir_verify.specs.Types.{is_typed, is_input, names_present, gives_output}
use Rattle.verified_runs.specs.Forms.{Structured, kind_of}
use Rattle.payload_forms.specs.Moved.{args_of}
use Rattle.fuse_laws.specs.Joined.{IsNotOut, IsApart}
use Rattle.pair_laws.specs.FuseAll.{is_not_out, avoids_out}

pub record IsTypedGeneric (t : Types) (c : Constants) (rs : List (ValueId × Ty)) (g : Structured) : Type 0 where
  pub counted : length g.maps ≡ suc (length g.ins)
  pub none_captured : is_empty g.captured ≡ true
  pub maps : list_all map_fits g.maps ≡ true
  pub arity : length g.ins ≡ length g.payload.ins
  pub inputs : list_all (λ (x : ValueId × ElemTy). is_input (t (x.0).0) (c (x.0).0) x.1) (zip g.ins g.payload.ins) ≡ true
  pub output : has_elements (t g.outs.0) g.payload.out ≡ true
  pub steps : list_all (λ (s : PayloadStep). names_present (length g.iterators) (length g.captured) s.op) g.payload.steps ≡ true
  pub payload : IsPayload g.payload
  pub gives : gives_output t rs g.outs ≡ true

module _ (t : Types) (c : Constants) (wanted : List Ty) (rs : List (ValueId × Ty)) (g : Structured) where
  pub typed_parts : is_typed t c wanted rs (kind_of g) ≡ true → IsTypedGeneric t c rs g
  unfolding is_typed
  typed_parts h =
      let whole = and_parts _ _ h in
      let parts = and_parts _ _ whole.0 in
      let front = and_parts (length g.maps == suc (length g.ins)) _ parts.0 in
      let maps = and_parts (is_empty g.captured) _ front.1 in
      let payload = and_parts _ _ parts.1 in
      let operands = and_parts (length g.ins == length g.payload.ins) _ payload.0 in
      let rest = and_parts (has_elements (t g.outs.0) g.payload.out) _ payload.1 in
      let steps = and_parts _ _ rest.1 in
      record {
        counted = eqb-true (length g.maps) (suc (length g.ins)) front.0;
        none_captured = maps.0;
        maps = maps.1;
        arity = eqb-true (length g.ins) (length g.payload.ins) operands.0;
        inputs = operands.1;
        output = rest.0;
        steps = steps.0;
        payload = steps.1;
        gives = whole.1;
      }

  pub typed_whole : IsTypedGeneric t c rs g → is_typed t c wanted rs (kind_of g) ≡ true
  unfolding is_typed
  typed_whole p = λ j.
      ((eq-eqb (length g.maps) (suc (length g.ins)) p.counted j && (p.none_captured j && p.maps j))
      && ((eq-eqb (length g.ins) (length g.payload.ins) p.arity j && p.inputs j) && (p.output j && (p.steps j && p.payload j)))) && p.gives j

-- the type of the input that takes another generic's result
input_type : (o : Option Ty) (ty : Ty) (b : Bool) (e out : ElemTy) → has_elements o out ≡ true → is_alike o (Some ty) ≡ true → is_input (Some ty) b e ≡ true → e ≡ out
input_type (Some (Tensor xs v)) (Tensor ys w) b (Int m) (Int n) h k i =
    ap (λ z. Int z) (sym (eqb-true w m i) ∙ sym (eqb-true v w (and_parts (v == w) _ k).0) ∙ eqb-true v n h)
input_type (Some (Tensor xs v)) (Tensor ys w) b (Int m) IndexType h k i = absurd cc
input_type (Some (Tensor xs v)) (Tensor ys w) b IndexType out h k i = absurd cc
input_type (Some (Tensor xs v)) (Scalar e') b e out h k i = absurd cc
input_type (Some (Tensor xs v)) (Vector ys w) b e out h k i = absurd cc
input_type (Some (Scalar e')) ty b e out h k i = absurd cc
input_type (Some (Vector xs v)) ty b e out h k i = absurd cc
input_type None ty b e out h k i = absurd cc

input_at : (t : Types) (c : Constants) (vs : List ValueId) (es : List ElemTy) (k : ℕ) (v : ValueId) → length vs ≡ length es → list_all (λ (x : ValueId × ElemTy). is_input (t (x.0).0) (c (x.0).0) x.1) (zip vs es) ≡ true →
    slice_get vs k ≡ Some v → (e : ElemTy) × (slice_get es k ≡ Some e) × (is_input (t v.0) (c v.0) e ≡ true)
input_at t c [] es zero v l h q = absurd (none-some v q)
input_at t c [] es (suc k) v l h q = absurd (none-some v q)
input_at t c (x ∷ vs) [] k v l h q = absurd (omega arith)
input_at t c (x ∷ vs) (e ∷ es) zero v l h q = (e, refl, subst (λ (w : ValueId). is_input (t w.0) (c w.0) e ≡ true) (same_Some x v q) (and_parts (is_input (t x.0) (c x.0) e) _ h).0)
input_at t c (x ∷ vs) (e ∷ es) (suc k) v l h q = input_at t c vs es k v (omega arith) (and_parts (is_input (t x.0) (c x.0) e) _ h).1 q

pub input_is_out : (t s : Types) (c : Constants) (vs : List ValueId) (es : List ElemTy) (k : ℕ) (v outs : ValueId) (ty : Ty) (out : ElemTy) → length vs ≡ length es →
    list_all (λ (x : ValueId × ElemTy). is_input (t (x.0).0) (c (x.0).0) x.1) (zip vs es) ≡ true → slice_get vs k ≡ Some v → t v.0 ≡ Some ty → has_elements (s outs.0) out ≡ true → is_alike (s outs.0) (Some ty) ≡ true →
    slice_get es k ≡ Some out
input_is_out t s c vs es k v outs ty out l h q is elements alike =
    let r = input_at t c vs es k v l h q in
    r.1 ∙ ap Some (input_type (s outs.0) ty (c v.0) r.0 out elements alike (sym (ap (λ o. is_input o (c v.0) r.0) is) ∙ r.2))

pub int_out : (o : Option Ty) (e : ElemTy) → has_elements o e ≡ true → e ≡ Int (bits_of e)
int_out (Some (Tensor xs v)) (Int n) h = refl
int_out (Some (Tensor xs v)) IndexType h = absurd cc
int_out (Some (Scalar e')) e h = absurd cc
int_out (Some (Vector xs v)) e h = absurd cc
int_out None e h = absurd cc

-- steps
present_is : (dims caps : ℕ) (op : StepOp) → names_present dims caps op ≡ is_supplied dims caps op
present_is dims caps (Index d) = refl
present_is dims caps (Captured k) = refl
present_is dims caps op = refl

pub steps_supplied : (dims caps : ℕ) (ss : List PayloadStep) → list_all (λ (s : PayloadStep). names_present dims caps s.op) ss ≡ true → Each (λ (s : PayloadStep). is_supplied dims caps s.op ≡ true) ss
steps_supplied dims caps [] h = tt
steps_supplied dims caps (s ∷ ss) h =
    let parts = and_parts (names_present dims caps s.op) _ h in (sym (present_is dims caps s.op) ∙ parts.0, steps_supplied dims caps ss parts.1)

not_out : (a : Arg) → is_not_out a ≡ true → IsNotOut a
not_out (Input i) h = tt
not_out Out h = absurd cc
not_out (Step i) h = tt

args_apart : (args : List Arg) → list_all is_not_out args ≡ true → Each IsNotOut args
args_apart [] h = tt
args_apart (a ∷ args) h = let parts = and_parts (is_not_out a) _ h in (not_out a parts.0, args_apart args parts.1)

steps_apart : (ss : List PayloadStep) → list_all (λ (s : PayloadStep). list_all is_not_out (args_of s.op)) ss ≡ true → Each (λ (s : PayloadStep). Each IsNotOut (args_of s.op)) ss
steps_apart [] h = tt
steps_apart (s ∷ ss) h = let parts = and_parts (list_all is_not_out (args_of s.op)) _ h in (args_apart (args_of s.op) parts.0, steps_apart ss parts.1)

pub payload_apart : (p : PayloadShape) → avoids_out p ≡ true → IsApart p
payload_apart p h =
    let parts = and_parts (list_all (λ (s : PayloadStep). list_all is_not_out (args_of s.op)) p.steps) (is_not_out p.yielded) h in (steps_apart p.steps parts.0, not_out p.yielded parts.1)
