-- A payload whose `linalg.index` are in another order fits where it did.
use Rattle.std.proofs.Common.{◌≡◌, ℕ, ◌&&◌, true, List, [], ◌∷◌, ◌++◌, map, Option, Some, None, option_map, slice_get, refl, ap, sym, ◌∙◌, ltb-true, lt-ltb}
use Rattle.std.specs.List.{list_all}
use Rattle.std.proofs.lemmas.Bool.{and_parts, and_from}
use Rattle.std.proofs.lemmas.List.{map-append}
use Rattle.std.proofs.lemmas.Option.{slice_get-map}
use Rattle.mlir_base.specs.declared.types.ElemTy.{ElemTy}
use Rattle.payload_ops.specs.Payload.{arg_type, has_type, op_fits, steps_fit, payload_fits}
use Rattle.payload_ops.specs.Shape.{PayloadShape}
use Rattle.payload_ops.specs.declared.step.Arg.{Arg}
use Rattle.payload_ops.specs.declared.step.Arg.TheVariants.{Input, Out, Step}
use Rattle.payload_ops.specs.declared.step.PayloadStep.{PayloadStep}
use Rattle.payload_ops.specs.declared.step.StepOp.{StepOp}
use Rattle.payload_ops.specs.declared.step.StepOp.TheVariants.{Const, Index, Captured, Linear, Binary, Compare, Select, SignExtend, ZeroExtend, Truncate, IndexCast}
use Rattle.mlir_verify.specs.Types.{names_present}
use Rattle.structured_steps.specs.Interchange.{turned, turned_op, turned_step, turned_payload}
use Rattle.structured_steps.proofs.Turning.{Order}

module _ (order : List ℕ) where
  type_kept : (s : Option PayloadStep) → option_map (λ (s : PayloadStep). s.ty) (option_map (turned_step order) s) ≡ option_map (λ (s : PayloadStep). s.ty) s
  type_kept None = refl
  type_kept (Some s) = refl

  types_kept : (ins : List ElemTy) (out : ElemTy) (earlier : List PayloadStep) (a : Arg) → arg_type ins out (map (turned_step order) earlier) a ≡ arg_type ins out earlier a
  types_kept ins out earlier (Input k) = refl
  types_kept ins out earlier Out = refl
  types_kept ins out earlier (Step k) = ap (option_map (λ (s : PayloadStep). s.ty)) (slice_get-map (turned_step order) earlier k) ∙ type_kept (slice_get earlier k)

  op_kept : (at : Arg → Option ElemTy) (t : ElemTy) (op : StepOp) → op_fits at t (turned_op order op) ≡ op_fits at t op
  op_kept at t (Index d) = refl
  op_kept at t (Const c) = refl
  op_kept at t (Captured k) = refl
  op_kept at t (Linear c ts) = refl
  op_kept at t (Binary op a b) = refl
  op_kept at t (Compare c a b) = refl
  op_kept at t (Select c a b) = refl
  op_kept at t (SignExtend a) = refl
  op_kept at t (ZeroExtend a) = refl
  op_kept at t (Truncate a) = refl
  op_kept at t (IndexCast a) = refl

  steps_kept : (ins : List ElemTy) (out : ElemTy) (steps earlier : List PayloadStep) → steps_fit ins out (map (turned_step order) steps) (map (turned_step order) earlier) ≡ steps_fit ins out steps earlier
  steps_kept ins out [] earlier = refl
  steps_kept ins out (s ∷ rest) earlier = λ j.
      ((λ i. op_fits (λ a. types_kept ins out earlier a i) s.ty (turned_op order s.op)) ∙ op_kept (arg_type ins out earlier) s.ty s.op) j
      && (ap (steps_fit ins out (map (turned_step order) rest)) (sym (map-append (turned_step order) earlier (s ∷ []))) ∙ steps_kept ins out rest (earlier ++ s ∷ [])) j

  pub payload_kept : (p : PayloadShape) → payload_fits (turned_payload order p) ≡ payload_fits p
  payload_kept p = λ j. steps_kept p.ins p.out p.steps [] j && has_type (types_kept p.ins p.out p.steps p.yielded j) p.out

module _ (order : List ℕ) (n : ℕ) (o : Order order n) where
  name_kept : (captured : ℕ) (op : StepOp) → names_present n captured op ≡ true → names_present n captured (turned_op order op) ≡ true
  name_kept captured (Index d) h = lt-ltb (turned order d) n (o.lands d (ltb-true d n h))
  name_kept captured (Const c) h = h
  name_kept captured (Captured k) h = h
  name_kept captured (Linear c ts) h = h
  name_kept captured (Binary op a b) h = h
  name_kept captured (Compare c a b) h = h
  name_kept captured (Select c a b) h = h
  name_kept captured (SignExtend a) h = h
  name_kept captured (ZeroExtend a) h = h
  name_kept captured (Truncate a) h = h
  name_kept captured (IndexCast a) h = h

  -- the dimensions that steps name are there
  pub names_kept : (captured : ℕ) (steps : List PayloadStep) → list_all (λ (s : PayloadStep). names_present n captured s.op) steps ≡ true →
      list_all (λ (s : PayloadStep). names_present n captured s.op) (map (turned_step order) steps) ≡ true
  names_kept captured [] h = refl
  names_kept captured (s ∷ steps) h =
      let both = and_parts (names_present n captured s.op) (list_all (λ (s : PayloadStep). names_present n captured s.op) steps) h in
      and_from _ _ (name_kept captured s.op both.0) (names_kept captured steps both.1)
