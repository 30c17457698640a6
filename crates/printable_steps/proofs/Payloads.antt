-- The payloads that the steps form have a text: of named operations, and in another order of the dimensions.
use Rattle.std.proofs.Common.{◌≡◌, ℕ, ◌≤◌, ◌==◌, Bool, true, false, List, [], ◌∷◌, map, length, Some, refl, ap, sym, subst, ◌∙◌, arith, ltb-true, le-leb}
use Rattle.std.specs.Prelude.{nat_lt, if◌then◌else◌}
use Rattle.std.specs.List.{AllByRecursion, list_all}
use Rattle.std.proofs.lemmas.Bool.{and_parts, and_from}
use Rattle.std.proofs.lemmas.List.{length-map}
use Rattle.std.proofs.lemmas.Option.{same_Some}
use Rattle.mlir_ir.specs.declared.tree.OpKind.{OpKind, Generic, Fill, Matmul, BatchMatmul, Transpose, Broadcast}
use Rattle.mlir_ir.specs.declared.tree.Ty.{Ty}
use Rattle.mlir_ir.specs.declared.tree.Ty.TheVariants.{Tensor}
use Rattle.mlir_ir.specs.declared.tree.ValueId.{ValueId}
use Rattle.payload_ops.specs.declared.kinds.BinOp.TheVariants.{Addi, Muli, Andi, Ori}
use Rattle.payload_ops.specs.declared.step.Arg.TheVariants.{Input, Out, Step}
use Rattle.payload_ops.specs.declared.step.PayloadStep.{PayloadStep}
use Rattle.payload_ops.specs.declared.step.StepOp.{StepOp}
use Rattle.payload_ops.specs.declared.step.StepOp.TheVariants.{Const, Index, Captured, Linear, Binary, Compare, Select, SignExtend, ZeroExtend, Truncate, IndexCast}
use Rattle.mlir_base.specs.declared.types.ElemTy.{ElemTy}
use Rattle.mlir_base.specs.declared.types.ElemTy.TheVariants.{Int}
use Rattle.mlir_meaning.specs.Structured.{multiply_add_steps, step_of, fill_form, matmul_form, batch_matmul_form, transpose_form, broadcast_form}
use Rattle.mlir_verify.specs.Place.{Types, type_among}
use Rattle.mlir_verify.specs.Types.{names_present}
use Rattle.verified_runs.specs.Forms.{Structured, width_in, structured_of}
use Rattle.verified_runs.specs.Passes.{Scope}
use Rattle.structured_steps.specs.Interchange.{turned_op, turned_step, interchanged}
use Rattle.structured_steps.proofs.Turning.{Order}
use Rattle.mlir_print.specs.Names.{Row}
use Rattle.mlir_scope.specs.Literals.{is_written}
use Rattle.mlir_roundtrip.specs.Printable.{IsTensorType, IsTensorValue, IsPrintableMove, IsPrintableOp, IsPrintableStep, IsPrintableKind, row_in}
use Rattle.mlir_roundtrip.proofs.Rows.{value_tensor}
use Rattle.printable_steps.proofs.Types.{Agree, AreValues, defined_typed, defined_value}
use Rattle.printable_steps.proofs.Generics.{PrintsFew}

-- WIDTHS
written_width : (T : Ty) → IsTensorType T → is_written (Int (width_in (Some T))) ≡ true
written_width (Tensor es w) h = and_from _ _ (let l = h.some in le-leb 1 w (omega (arith, l))) (le-leb w 64 h.most)
written_width T h = absurd h

-- the steps of a product, by whether the width is 1 and whether the inputs are narrower
abbrev some_steps : ℕ → Bool → Bool → List PayloadStep
some_steps w one narrower =
    if one then step_of 1 (Binary Andi (Input 0) (Input 1)) ∷ step_of 1 (Binary Ori Out (Step 0)) ∷ []
    else if narrower then
    step_of w (SignExtend (Input 0)) ∷ step_of w (SignExtend (Input 1)) ∷ step_of w (Binary Muli (Step 0) (Step 1))
    ∷ step_of w (Binary Addi Out (Step 2)) ∷ []
    else step_of w (Binary Muli (Input 0) (Input 1)) ∷ step_of w (Binary Addi Out (Step 0)) ∷ []

each_step : (w : ℕ) (a b : Bool) → is_written (Int w) ≡ true → AllByRecursion IsPrintableStep (some_steps w a b) × (length (some_steps w a b) ≤ 4)
each_step w true b h = ((record { ty = refl; op = tt }, (record { ty = refl; op = tt }, tt)), omega arith)
each_step w false true h = ((record { ty = h; op = tt }, (record { ty = h; op = tt }, (record { ty = h; op = tt }, (record { ty = h; op = tt }, tt)))), omega arith)
each_step w false false h = ((record { ty = h; op = tt }, (record { ty = h; op = tt }, tt)), omega arith)

product_steps : (narrow w : ℕ) → is_written (Int w) ≡ true → AllByRecursion IsPrintableStep (multiply_add_steps narrow w) × (length (multiply_add_steps narrow w) ≤ 4)
product_steps narrow w h = each_step w (w == 1) (nat_lt narrow w) h

module _ (rows : List Row) (scope : Scope) (agree : Agree rows scope) (values : AreValues rows) where
  output_width : (v : ValueId) → IsTensorValue rows v → is_written (Int (width_in (type_among scope v.0))) ≡ true
  output_width v h =
      ap (λ o. is_written (Int (width_in o))) (sym (agree v.0) ∙ defined_typed rows v h.is_defined)
      ∙ written_width (row_in rows v).ty (value_tensor (row_in rows v).ty (defined_value rows values v h.is_defined) h.is_tensor)

  move_result : (ty : Ty) (a out : ValueId) (axes : List ℕ) → IsPrintableMove rows ty a out axes → IsTensorType ty
  move_result ty a out axes p = subst IsTensorType (sym p.result) (value_tensor (row_in rows out).ty (defined_value rows values out (p.output).is_defined) (p.output).is_tensor)

  -- the result of a structured operation is a tensor within the limits
  pub structured_result : (t : Types) (ty : Ty) (kind : OpKind) (g : Structured) → structured_of t kind ≡ Some g → IsPrintableKind rows ty kind → IsTensorType ty
  unfolding structured_of
  structured_result t ty (Generic maps its ins outs captured payload) g q p = p.result
  structured_result t ty (Fill v outs) g q p = p.result
  structured_result t ty (Matmul a b outs) g q p = p.result
  structured_result t ty (BatchMatmul a b outs) g q p = p.result
  structured_result t ty (Transpose a outs order) g q p = move_result ty a outs order p
  structured_result t ty (Broadcast a outs dims) g q p = move_result ty a outs dims p
  structured_result t ty kind g q p = absurd cc

  -- the payload of a structured operation
  pub structured_few : (ty : Ty) (kind : OpKind) (g : Structured) → structured_of (type_among scope) kind ≡ Some g → IsPrintableKind rows ty kind → PrintsFew g
  unfolding structured_of fill_form matmul_form batch_matmul_form transpose_form broadcast_form
  structured_few ty (Generic maps its ins outs captured payload) g q p = subst PrintsFew (same_Some _ g q) (record { few = p.few; steps = p.steps; few_steps = p.few_steps })
  structured_few ty (Fill v outs) g q p = subst PrintsFew (same_Some _ g q) (record { few = omega arith; steps = tt; few_steps = omega arith })
  structured_few ty (Matmul a b outs) g q p =
      let steps = product_steps (width_in (type_among scope a.0)) (width_in (type_among scope outs.0)) (output_width outs p.output) in
      subst PrintsFew (same_Some _ g q) (record { few = omega arith; steps = steps.0; few_steps = (let l = steps.1 in omega (arith, l)) })
  structured_few ty (BatchMatmul a b outs) g q p =
      let steps = product_steps (width_in (type_among scope a.0)) (width_in (type_among scope outs.0)) (output_width outs p.output) in
      subst PrintsFew (same_Some _ g q) (record { few = omega arith; steps = steps.0; few_steps = (let l = steps.1 in omega (arith, l)) })
  structured_few ty (Transpose a outs order) g q p = subst PrintsFew (same_Some _ g q) (record { few = omega arith; steps = tt; few_steps = omega arith })
  structured_few ty (Broadcast a outs dims) g q p = subst PrintsFew (same_Some _ g q) (record { few = omega arith; steps = tt; few_steps = omega arith })
  structured_few ty kind g q p = absurd cc

-- IN ANOTHER ORDER
module _ (order : List ℕ) (n : ℕ) (o : Order order n) (small : n ≤ 12) (captured : ℕ) where
  op_kept : (e : ElemTy) (op : StepOp) → names_present n captured op ≡ true → IsPrintableOp e op → IsPrintableOp e (turned_op order op)
  op_kept e (Index d) h p = let l = o.lands d (ltb-true d n h) in omega (arith, l, small)
  op_kept e (Const c) h p = p
  op_kept e (Captured k) h p = p
  op_kept e (Linear c ts) h p = p
  op_kept e (Binary op a b) h p = p
  op_kept e (Compare c a b) h p = p
  op_kept e (Select c a b) h p = p
  op_kept e (SignExtend a) h p = p
  op_kept e (ZeroExtend a) h p = p
  op_kept e (Truncate a) h p = p
  op_kept e (IndexCast a) h p = p

  steps_kept : (steps : List PayloadStep) → list_all (λ (s : PayloadStep). names_present n captured s.op) steps ≡ true → AllByRecursion IsPrintableStep steps → AllByRecursion IsPrintableStep (map (turned_step order) steps)
  steps_kept [] h p = tt
  steps_kept (s ∷ steps) h p =
      let both = and_parts (names_present n captured s.op) (list_all (λ (s : PayloadStep). names_present n captured s.op) steps) h in
      (record { ty = (p.0).ty; op = op_kept s.ty s.op both.0 (p.0).op }, steps_kept steps both.1 p.1)

  pub interchanged_few : (g : Structured) → list_all (λ (s : PayloadStep). names_present n captured s.op) g.payload.steps ≡ true → PrintsFew g → PrintsFew (interchanged order g)
  interchanged_few g h p = record {
    few = p.few;
    steps = steps_kept g.payload.steps h p.steps;
    few_steps = subst (λ k. k ≤ 1024) (sym (length-map g.payload.steps (turned_step order))) p.few_steps;
  }
