-- A payload whose `linalg.index` are in another order gives at a new point what it gave at the old one.
use Rattle.std.proofs.Common.{◌≡◌, ℕ, ◌%◌, ◌^◌, List, [], ◌∷◌, ◌++◌, map, length, Option, Some, None, option_map, option_and_then, slice_get, refl, ap, sym, ◌∙◌}
use Rattle.std.specs.Option.{option_map_or}
use Rattle.std.proofs.lemmas.Option.{slice_get-map}
use Rattle.mlir_base.specs.Types.{bits_of}
use Rattle.payload_ops.specs.Payload.{arg_type}
use Rattle.payload_ops.specs.Shape.{PayloadShape}
use Rattle.payload_ops.specs.Values.{Given, arg_value, arg_bits, op_value, steps_values, payload_value}
use Rattle.mlir_base.specs.declared.types.ElemTy.{ElemTy}
use Rattle.payload_ops.specs.declared.step.Arg.{Arg}
use Rattle.payload_ops.specs.declared.step.Arg.TheVariants.{Input, Out, Step}
use Rattle.payload_ops.specs.declared.step.PayloadStep.{PayloadStep}
use Rattle.payload_ops.specs.declared.step.StepOp.{StepOp}
use Rattle.payload_ops.specs.declared.step.StepOp.TheVariants.{Const, Index, Captured, Linear, Binary, Compare, Select, SignExtend, ZeroExtend, Truncate, IndexCast}
use Rattle.structured_steps.specs.Interchange.{old_point, turned_op, turned_step, turned_payload}
use Rattle.structured_steps.proofs.Turning.{Order, old_at}

module _ (order : List ℕ) (n : ℕ) (o : Order order n) (p : PayloadShape) where
  types_same : (a : Arg) → arg_type p.ins p.out (map (turned_step order) p.steps) a ≡ arg_type p.ins p.out p.steps a
  types_same (Input k) = refl
  types_same Out = refl
  types_same (Step k) = ap (option_map (λ (s : PayloadStep). s.ty)) (slice_get-map (turned_step order) p.steps k) ∙ kept (slice_get p.steps k) where
    kept : (s : Option PayloadStep) → option_map (λ (s : PayloadStep). s.ty) (option_map (turned_step order) s) ≡ option_map (λ (s : PayloadStep). s.ty) s
    kept None = refl
    kept (Some s) = refl

  bits_same : arg_bits (turned_payload order p) ≡ arg_bits p
  bits_same = λ j a. option_map_or bits_of (types_same a j) 0

  module _ (q outer ins : List ℕ) (out : ℕ) (long : length q ≡ n) where
    new : Given
    new = record { point = q; outer = outer; ins = ins; out = out }

    old : Given
    old = record { point = old_point order q; outer = outer; ins = ins; out = out }

    op_same : (value bits : Arg → ℕ) (t : ElemTy) (op : StepOp) → op_value value bits q outer t (turned_op order op) ≡ op_value value bits (old_point order q) outer t op
    unfolding op_value
    op_same value bits t (Index d) = λ j. Some (sym (old_at order n o q d long) j % 2 ^ 64)
    op_same value bits t (Const c) = refl
    op_same value bits t (Captured k) = refl
    op_same value bits t (Linear c ts) = refl
    op_same value bits t (Binary op a b) = refl
    op_same value bits t (Compare c a b) = refl
    op_same value bits t (Select c a b) = refl
    op_same value bits t (SignExtend a) = refl
    op_same value bits t (ZeroExtend a) = refl
    op_same value bits t (Truncate a) = refl
    op_same value bits t (IndexCast a) = refl

    steps_same : (steps : List PayloadStep) (done : List ℕ) →
        steps_values (turned_payload order p) (record { point = q; outer = outer; ins = ins; out = out }) (map (turned_step order) steps) done
        ≡ steps_values p (record { point = old_point order q; outer = outer; ins = ins; out = out }) steps done
    steps_same [] done = refl
    steps_same (s ∷ rest) done =
        let value : Arg → ℕ = arg_value (record { point = q; outer = outer; ins = ins; out = out }) done in
        λ j. option_and_then (λ v. steps_same rest (done ++ v ∷ []) j)
        (((λ i. op_value value (bits_same i) q outer s.ty (turned_op order s.op)) ∙ op_same value (arg_bits p) s.ty s.op) j)

    pub payload_same : payload_value (turned_payload order p) (record { point = q; outer = outer; ins = ins; out = out })
        ≡ payload_value p (record { point = old_point order q; outer = outer; ins = ins; out = out })
    payload_same = ap (option_map (λ done. arg_value (record { point = q; outer = outer; ins = ins; out = out }) done p.yielded)) (steps_same p.steps [])
