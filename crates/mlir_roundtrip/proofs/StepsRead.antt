-- The steps of a payload that are read are printable.
use Rattle.std.proofs.Common.{◌≡◌, ◌≤◌, subst, ℕ, ◌+◌, suc, true, ◌&&◌, List, [], ◌∷◌, ◌++◌, length, length-append, Option, Some, None, Result as Answer, Ok, refl, arith, nat_lt, nat_le}
use Rattle.std.specs.List.{AllByRecursion}
use Rattle.std.proofs.lemmas.Bool.{and_parts, ltb-true, leb-true}
use Rattle.mlir_base.specs.declared.types.ElemTy.{ElemTy}
use Rattle.mlir_base.specs.declared.types.ElemTy.TheVariants.{Int, Index}
use Rattle.payload_ops.specs.declared.step.Arg.{Arg}
use Rattle.payload_ops.specs.declared.step.Arg.TheVariants as args
use Rattle.payload_ops.specs.declared.step.StepOp.TheVariants as ops
use Rattle.payload_ops.specs.declared.step.PayloadStep.{PayloadStep}
use Rattle.mlir_base.specs.Types.{is_elem, is_value}
use Rattle.payload_ops.specs.Payload.{is_cast}
use Rattle.mlir_base.specs.declared.limit.Which.TheVariants as limits
use Rattle.text_format.specs.Token.{TokenShape}
use Rattle.text_format.specs.Types.{element_of}
use Rattle.mlir_syntax.specs.declared.tree.steps.Conversion.{Conversion}
use Rattle.mlir_syntax.specs.declared.tree.steps.ApplyOperand.{ApplyOperand}
use Rattle.mlir_syntax.specs.declared.tree.steps.ApplyStep.{ApplyStep}
use Rattle.mlir_syntax.specs.declared.tree.steps.StepOperation.{StepOperation}
use Rattle.mlir_syntax.specs.declared.tree.steps.StepOperation.TheVariants as step_operations
use Rattle.mlir_syntax.specs.declared.tree.payloads.Step.{Step}
use Rattle.mlir_syntax.specs.declared.tree.payloads.Region.{Region}
use Rattle.mlir_lex.specs.declared.fault.Fault.{Fault}
use Rattle.mlir_lex.specs.declared.fault.Fault.TheVariants.{Limit, TypeDiffers, Number}
use Rattle.mlir_scope.specs.declared.names.Meaning.{Meaning}
use Rattle.mlir_scope.specs.declared.names.Meaning.TheVariants.{Held, Constant, Local}
use Rattle.mlir_payload.specs.declared.inside.Inside.{Inside}
use Rattle.mlir_scope.specs.declared.words.Cast.{Cast}
use Rattle.mlir_scope.specs.declared.words.Cast.TheVariants as changes
use Rattle.mlir_scope.specs.Names.{Entry, find}
use Rattle.mlir_lex.specs.Chain.{demand, thread}
use Rattle.mlir_scope.specs.Maps.{AliasShape, map_with_symbols, use_start, AreMaps}
use Rattle.mlir_scope.specs.Types.{same_elem}
use Rattle.mlir_scope.specs.Literals.{digits_value, elem_at, literal_of, is_near, is_written}
use Rattle.mlir_scope.specs.Words.{named_binary, named_predicate, named_cast}
use Rattle.mlir_scope.specs.Scope.{IsHeld, IsOuter}
use Rattle.mlir_payload.specs.Steps.{fresh_in, with_step, constant_step, brought, argument_by, argument, named, converted, is_integer, changes_width, cast_op, symbol_operands, fits_operands, only, one_result, stop_of, fault_of_map, fault_at_stop, index_argument, apply_arguments, linear, apply_of, operation_of as step_operation_of, name_in, room as step_room, step_of, stop_behind, steps_of}
use Rattle.mlir_payload.specs.Payload.{locals_of, block_args, stop_before_yield, parts_of}
use Rattle.mlir_scope.proofs.Keeps.{then_ok}
use Rattle.mlir_payload.proofs.Fitting.{found_held}
use Rattle.mlir_scope.proofs.Ranges.{element_written, elem_written, literal_is}
use Rattle.mlir_roundtrip.proofs.Fits.{found_type}
use Rattle.mlir_roundtrip.proofs.Regions.{all_last}
use Rattle.mlir_roundtrip.specs.Printable.{IsPrintableOp, IsPrintableStep}
use Rattle.mlir_roundtrip.proofs.ReadTypes.{ok_same, demanded}

-- the steps so far are printable, and with `more` of them within the limit
record StepsRead (more : ℕ) (s : Inside) : Type 0 where
  printable : AllByRecursion IsPrintableStep s.steps
  few : length s.steps + more ≤ 1024

written_type : (e : ElemTy) (t : TokenShape) (u : Unit {0}) → same_elem e t ≡ Ok u → is_written e ≡ true
written_type e t u h = element_written t.text e (found_type (element_of t.text) e (demanded _ _ u h))

with_read : (more : ℕ) (s : Inside) (name : List ℕ) (p : PayloadStep) → StepsRead (suc more) s → IsPrintableStep p → StepsRead more (with_step s name p)
with_read more s name p h k = record {
  printable = all_last IsPrintableStep s.steps p h.printable k;
  few = let f = h.few in omega (arith, length-append s.steps (p ∷ []));
}

brought_read : (more : ℕ) (s : Inside) (t : TokenShape) (o : Option Meaning) (r : Inside × (Arg × ElemTy)) → StepsRead more s → ((m : Meaning) → o ≡ Some m → IsHeld m) → brought more s t o ≡ Ok r → StepsRead more r.0
brought_read more s t None r h f g = absurd (cc g)
brought_read more s t (Some (Held n ty)) r h f g = absurd (cc g)
brought_read more s t (Some (Local a e)) r h f g = absurd (cc g)
brought_read more s t (Some (Constant n e v)) r h f g =
    let d = then_ok (demand (nat_lt (length s.steps + more) 1024) (Limit limits.PayloadSteps t.start)) _ r g in
    let p = and_parts (is_written e && is_value e v) (is_near e v) (f (Constant n e v) refl) in
    let ty = (and_parts (is_written e) (is_value e v) p.0).0 in
    let lt = ltb-true (length s.steps + more) 1024 (demanded _ _ d.0 d.1) in
    subst (λ (x : Inside × (Arg × ElemTy)). StepsRead more x.0) (ok_same (with_step s t.text (constant_step e v), (args.Step (length s.steps), e)) r d.2)
    (with_read more s t.text (constant_step e v) (record { printable = h.printable; few = omega arith }) (record { ty = ty; op = p.1 }))

argument_read : (outer : List Entry) (more : ℕ) (s : Inside) (t : TokenShape) (r : Inside × (Arg × ElemTy)) → IsOuter outer → StepsRead more s → argument outer more s t ≡ Ok r → StepsRead more r.0
argument_read outer more s t r o h g = by (find s.names t.text) g
  where
    by : (m : Option Meaning) → argument_by outer more s t m ≡ Ok r → StepsRead more r.0
    by None k = brought_read more s t (find outer t.text) r h (λ m e. found_held outer t.text m o e) k
    by (Some (Held n ty)) k = absurd (cc k)
    by (Some (Constant n e v)) k = absurd (cc k)
    by (Some (Local a e)) k = subst (λ (x : Inside × (Arg × ElemTy)). StepsRead more x.0) (ok_same (s, (a, e)) r k) h

converted_read : (outer : List Entry) (s : Inside) (c : Conversion) (r : Inside × (Arg × ElemTy)) → IsOuter outer → StepsRead 1 s → converted outer s c ≡ Ok r → StepsRead 1 r.0
converted_read outer s c r o h g =
    let x = then_ok (argument outer 1 s c.value) _ r g in
    let u = then_ok (same_elem x.0.1.1 c.from) _ r x.2 in
    subst (λ (y : Inside × (Arg × ElemTy)). StepsRead 1 y.0) (ok_same x.0 r u.2) (argument_read outer 1 s c.value x.0 o h x.1)

record StepRead (r : Inside × PayloadStep) : Type 0 where
  before : StepsRead 1 r.0
  step : IsPrintableStep r.1

step_read : (s : Inside) (p : PayloadStep) (r : Inside × PayloadStep) → ◌≡◌ {A = Answer (Inside × PayloadStep) Fault} (Ok (s, p)) (Ok r) → StepsRead 1 s → IsPrintableStep p → StepRead r
step_read s p r e h k = subst (λ (x : Inside × PayloadStep). StepRead x) (ok_same (s, p) r e) (record { before = h; step = k })

cast_printable : (k : Cast) (e : ElemTy) (a : Arg) → IsPrintableOp e (cast_op k a)
cast_printable changes.SignExtend e a = tt
cast_printable changes.ZeroExtend e a = tt
cast_printable changes.Truncate e a = tt

-- ---- affine.apply

index_argument_read : (outer : List Entry) (s : Inside) (o : ApplyOperand) (r : Inside × Arg) → IsOuter outer → StepsRead 1 s → index_argument outer s o ≡ Ok r → StepsRead 1 r.0
index_argument_read outer s o r w h g =
    let x = then_ok (argument outer 1 s o.name) _ r g in
    let d = then_ok (demand (is_elem x.0.1.1 Index) (TypeDiffers o.name.start)) _ r x.2 in
    subst (λ (y : Inside × Arg). StepsRead 1 y.0) (ok_same (x.0.0, x.0.1.0) r d.2) (argument_read outer 1 s o.name x.0 w h x.1)

thread_read : (outer : List Entry) (s : Inside) (os : List ApplyOperand) (r : Inside × List Arg) → IsOuter outer → StepsRead 1 s → thread (index_argument outer) s os ≡ Ok r → StepsRead 1 r.0
thread_read outer s [] r w h g = subst (λ (y : Inside × List Arg). StepsRead 1 y.0) (ok_same (s, []) r g) h
thread_read outer s (o ∷ os) r w h g =
    let x = then_ok (index_argument outer s o) _ r g in
    let y = then_ok (thread (index_argument outer) x.0.0 os) _ r x.2 in
    subst (λ (z : Inside × List Arg). StepsRead 1 z.0) (ok_same (y.0.0, x.0.1 ∷ y.0.1) r y.2) (thread_read outer x.0.0 os y.0 w (index_argument_read outer s o x.0 w h x.1) y.1)

arguments_read : (outer : List Entry) (s : Inside) (a : ApplyStep) (r : Inside × List Arg) → IsOuter outer → StepsRead 1 s → apply_arguments outer s a ≡ Ok r → StepsRead 1 r.0
arguments_read outer s a r w h g =
    let x = then_ok (thread (index_argument outer) s a.operands) _ r g in
    let y = then_ok (thread (index_argument outer) x.0.0 (symbol_operands a.symbols)) _ r x.2 in
    subst (λ (z : Inside × List Arg). StepsRead 1 z.0) (ok_same (y.0.0, x.0.1 ++ y.0.1) r y.2) (thread_read outer x.0.0 (symbol_operands a.symbols) y.0 w (thread_read outer s a.operands x.0 w h x.1) y.1)

apply_read : (alias : List AliasShape) (outer : List Entry) (stop : Option ℕ) (s : Inside) (a : ApplyStep) (r : Inside × PayloadStep) → IsOuter outer → AreMaps alias → StepsRead 1 s → apply_of alias outer stop s a ≡ Ok r → StepRead r
apply_read alias outer stop s a r w usable h g =
    let m = then_ok (map_with_symbols alias a.map) _ r g in
    let e = then_ok (one_result (use_start a.map) (only m.0.results)) _ r m.2 in
    let f = then_ok (fault_of_map (stop_of a.symbols stop) (fits_operands m.0 a) (use_start a.map)) _ r e.2 in
    let x = then_ok (apply_arguments outer s a) _ r f.2 in
    let u = then_ok (fault_at_stop (stop_of a.symbols stop) (fits_operands m.0 a)) _ r x.2 in
    step_read x.0.0 (linear e.0 x.0.1) r u.2 (arguments_read outer s a x.0 w h x.1) (record { ty = refl; op = tt })

step_operation_read : (alias : List AliasShape) (outer : List Entry) (stop : Option ℕ) (s : Inside) (o : StepOperation) (r : Inside × PayloadStep) → IsOuter outer → AreMaps alias → StepsRead 1 s → step_operation_of alias outer stop s o ≡ Ok r → StepRead r
step_operation_read alias outer stop s (step_operations.Constant c) r w usable h g =
    let x = then_ok (literal_of c.literal) _ r g in
    let p = and_parts (is_written x.0.0 && is_value x.0.0 x.0.1) (is_near x.0.0 x.0.1) (literal_is c.literal x.0 x.1) in
    step_read s (constant_step x.0.0 x.0.1) r x.2 h (record { ty = (and_parts (is_written x.0.0) (is_value x.0.0 x.0.1) p.0).0; op = p.1 })
step_operation_read alias outer stop s (step_operations.Binary b) r w usable h g =
    let op = then_ok (named b.name.start (named_binary b.name.text)) _ r g in
    let x = then_ok (argument outer 1 s b.left) _ r op.2 in
    let y = then_ok (argument outer 1 x.0.0 b.right) _ r x.2 in
    let u = then_ok (same_elem x.0.1.1 b.ty) _ r y.2 in
    let v = then_ok (same_elem y.0.1.1 b.ty) _ r u.2 in
    step_read y.0.0 (record { ty = x.0.1.1; op = ops.Binary op.0 x.0.1.0 y.0.1.0 }) r v.2 (argument_read outer 1 x.0.0 b.right y.0 w (argument_read outer 1 s b.left x.0 w h x.1) y.1)
    (record { ty = written_type x.0.1.1 b.ty u.0 u.1; op = tt })
step_operation_read alias outer stop s (step_operations.Compare c) r w usable h g =
    let p = then_ok (named c.predicate.start (named_predicate c.predicate.text)) _ r g in
    let x = then_ok (argument outer 1 s c.left) _ r p.2 in
    let y = then_ok (argument outer 1 x.0.0 c.right) _ r x.2 in
    let u = then_ok (same_elem x.0.1.1 c.ty) _ r y.2 in
    let v = then_ok (same_elem y.0.1.1 c.ty) _ r u.2 in
    step_read y.0.0 (record { ty = Int 1; op = ops.Compare p.0 x.0.1.0 y.0.1.0 }) r v.2 (argument_read outer 1 x.0.0 c.right y.0 w (argument_read outer 1 s c.left x.0 w h x.1) y.1) (record { ty = refl; op = tt })
step_operation_read alias outer stop s (step_operations.Select c) r w usable h g =
    let b = then_ok (argument outer 1 s c.condition) _ r g in
    let x = then_ok (argument outer 1 b.0.0 c.chosen) _ r b.2 in
    let y = then_ok (argument outer 1 x.0.0 c.other) _ r x.2 in
    let u = then_ok (same_elem x.0.1.1 c.ty) _ r y.2 in
    let v = then_ok (same_elem y.0.1.1 c.ty) _ r u.2 in
    let z = then_ok (demand (is_elem b.0.1.1 (Int 1)) (TypeDiffers c.ty.start)) _ r v.2 in
    step_read y.0.0 (record { ty = x.0.1.1; op = ops.Select b.0.1.0 x.0.1.0 y.0.1.0 }) r z.2
    (argument_read outer 1 x.0.0 c.other y.0 w (argument_read outer 1 b.0.0 c.chosen x.0 w (argument_read outer 1 s c.condition b.0 w h b.1) x.1) y.1)
    (record { ty = written_type x.0.1.1 c.ty u.0 u.1; op = tt })
step_operation_read alias outer stop s (step_operations.IndexCast c) r w usable h g =
    let x = then_ok (converted outer s c.conversion) _ r g in
    let to = then_ok (elem_at c.conversion.to) _ r x.2 in
    let d = then_ok (demand (is_cast (Some x.0.1.1) to.0) (TypeDiffers c.conversion.to.start)) _ r to.2 in
    step_read x.0.0 (record { ty = to.0; op = ops.IndexCast x.0.1.0 }) r d.2 (converted_read outer s c.conversion x.0 w h x.1) (record { ty = elem_written c.conversion.to to.0 to.1; op = tt })
step_operation_read alias outer stop s (step_operations.Index i) r w usable h g =
    let d = then_ok (demand (nat_le (digits_value i.dimension.text) 1048576) (Number i.dimension.start i.dimension.start)) _ r g in
    step_read s (record { ty = Index; op = ops.Index (digits_value i.dimension.text) }) r d.2 h (record { ty = refl; op = leb-true _ _ (demanded _ _ d.0 d.1) })
step_operation_read alias outer stop s (step_operations.Apply a) r w usable h g = apply_read alias outer stop s a r w usable h g
step_operation_read alias outer stop s (step_operations.Cast c) r w usable h g =
    let n = then_ok (named c.name.start (named_cast c.name.text)) _ r g in
    let x = then_ok (converted outer s c.conversion) _ r n.2 in
    let i = then_ok (demand (is_integer x.0.1.1) (TypeDiffers c.conversion.from.start)) _ r x.2 in
    let to = then_ok (elem_at c.conversion.to) _ r i.2 in
    let d = then_ok (demand (changes_width n.0 x.0.1.1 to.0) (TypeDiffers c.conversion.to.start)) _ r to.2 in
    step_read x.0.0 (record { ty = to.0; op = cast_op n.0 x.0.1.0 }) r d.2 (converted_read outer s c.conversion x.0 w h x.1) (record { ty = elem_written c.conversion.to to.0 to.1; op = cast_printable n.0 to.0 x.0.1.0 })

steps_read : (alias : List AliasShape) (outer : List Entry) (stop : Option ℕ) (s : Inside) (ts : List Step) (y : Inside) → IsOuter outer → AreMaps alias → StepsRead 0 s → steps_of alias outer stop s ts ≡ Ok y → StepsRead 0 y
steps_read alias outer stop s [] y o usable h g = subst (λ x. StepsRead 0 x) (ok_same s y g) h
steps_read alias outer stop s (t ∷ ts) y o usable h g =
    let n = then_ok (step_of alias outer (stop_behind stop ts) s t) _ y g in
    let f = then_ok (fresh_in outer s.names t.result) _ n.0 n.1 in
    let d = then_ok (step_room s (name_in t.operation)) _ n.0 f.2 in
    let p = then_ok (step_operation_of alias outer (stop_behind stop ts) s t.operation) _ n.0 d.2 in
    let lt = ltb-true (length s.steps) 1024 (demanded _ _ d.0 d.1) in
    let k = step_operation_read alias outer (stop_behind stop ts) s t.operation p.0 o usable (record { printable = h.printable; few = omega arith }) p.1 in
    steps_read alias outer stop n.0 ts y o usable (subst (λ x. StepsRead 0 x) (ok_same (with_step p.0.0 t.result.text p.0.1) n.0 p.2) (with_read 0 p.0.0 t.result.text p.0.1 k.before k.step)) n.2

pub parts_are : (alias : List AliasShape) (outer : List Entry) (ins : List ElemTy) (out : ElemTy) (region : Region) (q : List PayloadStep × Arg) → IsOuter outer → AreMaps alias → parts_of alias outer ins out region ≡ Ok q → AllByRecursion IsPrintableStep q.0 × (length q.0 ≤ 1024)
parts_are alias outer ins out region q o usable h =
    let a = then_ok (block_args outer [] (locals_of 0 ins out) region.args) _ q h in
    let s = then_ok (steps_of alias outer (stop_before_yield region) (record { names = a.0; steps = [] }) region.steps) _ q a.2 in
    let y = then_ok (argument outer 0 s.0 region.yielded) _ q s.2 in
    let u = then_ok (same_elem y.0.1.1 region.yield_type) _ q y.2 in
    let v = then_ok (same_elem out region.yield_type) _ q u.2 in
    let st = steps_read alias outer (stop_before_yield region) (record { names = a.0; steps = [] }) region.steps s.0 o usable (record { printable = tt; few = omega arith }) s.1 in
    let k = argument_read outer 0 s.0 region.yielded y.0 o st y.1 in
    let few = k.few in
    subst (λ (x : List PayloadStep × Arg). AllByRecursion IsPrintableStep x.0 × (length x.0 ≤ 1024)) (ok_same (y.0.0.steps, y.0.1.0) q v.2) (k.printable, omega arith)
