-- Names that are new stay new behind the constants that a step brings into its payload.
use Rattle.std.proofs.Common.{◌≡◌, ℕ, ◌+◌, Bool, true, false, cond, List, [], ◌∷◌, ◌++◌, length, Option, Some, None, Result, Ok, refl, sym, ap, subst, ◌∙◌, nat_lt, nat_le, is_none}
use Rattle.std.specs.Str.{bytes_eq}
use Rattle.std.proofs.lemmas.Slice.Eq.{bytes_eq-Decides}
use Rattle.mlir_base.specs.declared.types.ElemTy.{ElemTy}
use Rattle.mlir_base.specs.declared.types.ElemTy.TheVariants.{Int, Index}
use Rattle.payload_ops.specs.declared.step.Arg.{Arg}
use Rattle.payload_ops.specs.declared.step.Arg.TheVariants as args
use Rattle.payload_ops.specs.declared.step.StepOp.TheVariants as ops
use Rattle.payload_ops.specs.declared.step.PayloadStep.{PayloadStep}
use Rattle.mlir_base.specs.Types.{is_elem}
use Rattle.payload_ops.specs.Payload.{is_cast}
use Rattle.text_format.specs.Token.{TokenShape}
use Rattle.mlir_syntax.specs.declared.tree.steps.Conversion.{Conversion}
use Rattle.mlir_syntax.specs.declared.tree.steps.ApplyOperand.{ApplyOperand}
use Rattle.mlir_syntax.specs.declared.tree.steps.ApplyStep.{ApplyStep}
use Rattle.mlir_syntax.specs.declared.tree.steps.StepOperation.{StepOperation}
use Rattle.mlir_syntax.specs.declared.tree.steps.StepOperation.TheVariants as operations
use Rattle.mlir_base.specs.declared.limit.Which.TheVariants as limits
use Rattle.mlir_lex.specs.declared.fault.Fault.{Fault}
use Rattle.mlir_lex.specs.declared.fault.Fault.TheVariants.{Limit, Twice, TypeDiffers, Number}
use Rattle.mlir_payload.specs.declared.inside.Inside.{Inside}
use Rattle.mlir_scope.specs.declared.names.Meaning.{Meaning}
use Rattle.mlir_scope.specs.declared.names.Meaning.TheVariants.{Held, Constant, Local}
use Rattle.mlir_lex.specs.Chain.{demand, thread}
use Rattle.mlir_scope.specs.Maps.{AliasShape, map_with_symbols, use_start}
use Rattle.mlir_scope.specs.Names.{Entry, entry, find}
use Rattle.mlir_scope.specs.Types.{same_elem}
use Rattle.mlir_scope.specs.Literals.{digits_value, elem_at, literal_of}
use Rattle.mlir_scope.specs.Words.{named_binary, named_predicate, named_cast}
use Rattle.mlir_scope.specs.Scope.{fresh}
use Rattle.mlir_payload.specs.Steps.{fresh_in, with_step, constant_step, brought, argument_by, argument, named, converted, is_integer, changes_width, symbol_operands, fits_operands, only, one_result, stop_of, fault_of_map, fault_at_stop, index_argument, apply_arguments, linear, operation_of}
use Rattle.mlir_scope.proofs.Keeps.{then_ok, ok_same}

new_if : (b : Bool) (x : Meaning) (o p : Option Meaning) → (o ≡ None → p ≡ None) → cond b (Some x) o ≡ None → cond b (Some x) p ≡ None
new_if true x o p f h = absurd (cc h)
new_if false x o p f h = f h

last_if : (b : Bool) (x : Meaning) → (b ≡ true → ⊥) → ◌≡◌ {A = Option Meaning} (cond b (Some x) None) None
last_if true x f = absurd (f refl)
last_if false x f = refl

-- another name is still new
other_new : (env : List Entry) (name : List ℕ) (m : Meaning) (q : List ℕ) → (name ≡ q → ⊥) → find env q ≡ None → find (env ++ entry name m ∷ []) q ≡ None
other_new [] name m q f h = last_if (bytes_eq name q) m (λ b. f ((bytes_eq-Decides name q).0 b))
other_new (e ∷ env) name m q f h = new_if (bytes_eq e.name q) e.means (find env q) (find (env ++ entry name m ∷ []) q) (λ k. other_new env name m q f k) h

module _ (outer : List Entry) (q : List ℕ) (away : find outer q ≡ None) where
  brought_new : (more : ℕ) (s : Inside) (t : TokenShape) (o : Option Meaning) (r : Inside × (Arg × ElemTy)) → find outer t.text ≡ o → find s.names q ≡ None → brought more s t o ≡ Ok r → find r.0.names q ≡ None
  brought_new more s t None r e h g = absurd (cc g)
  brought_new more s t (Some (Held n ty)) r e h g = absurd (cc g)
  brought_new more s t (Some (Local a x)) r e h g = absurd (cc g)
  brought_new more s t (Some (Constant n x v)) r e h g =
      let d = then_ok (demand (nat_lt (length s.steps + more) 1024) (Limit limits.PayloadSteps t.start)) _ r g in
      let differ : t.text ≡ q → ⊥ = λ (k : t.text ≡ q). absurd (cc (sym e ∙ ap (find outer) k ∙ away)) in
      subst (λ (y : Inside × (Arg × ElemTy)). find y.0.names q ≡ None) (ok_same (with_step s t.text (constant_step x v), (args.Step (length s.steps), x)) r d.2) (other_new s.names t.text (Local (args.Step (length s.steps)) x) q differ h)

  argument_new : (more : ℕ) (s : Inside) (t : TokenShape) (r : Inside × (Arg × ElemTy)) → find s.names q ≡ None → argument outer more s t ≡ Ok r → find r.0.names q ≡ None
  argument_new more s t r h g = by (find s.names t.text) g
    where
      by : (m : Option Meaning) → argument_by outer more s t m ≡ Ok r → find r.0.names q ≡ None
      by None k = brought_new more s t (find outer t.text) r refl h k
      by (Some (Held n ty)) k = absurd (cc k)
      by (Some (Constant n e v)) k = absurd (cc k)
      by (Some (Local a e)) k = subst (λ (y : Inside × (Arg × ElemTy)). find y.0.names q ≡ None) (ok_same (s, (a, e)) r k) h

  converted_new : (s : Inside) (c : Conversion) (r : Inside × (Arg × ElemTy)) → find s.names q ≡ None → converted outer s c ≡ Ok r → find r.0.names q ≡ None
  converted_new s c r h g =
      let x = then_ok (argument outer 1 s c.value) _ r g in
      let u = then_ok (same_elem x.0.1.1 c.from) _ r x.2 in
      subst (λ (y : Inside × (Arg × ElemTy)). find y.0.names q ≡ None) (ok_same x.0 r u.2) (argument_new 1 s c.value x.0 h x.1)

  ends : (s : Inside) (p : PayloadStep) (r : Inside × PayloadStep) → ◌≡◌ {A = Result (Inside × PayloadStep) Fault} (Ok (s, p)) (Ok r) → find s.names q ≡ None → find r.0.names q ≡ None
  ends s p r e h = subst (λ (y : Inside × PayloadStep). find y.0.names q ≡ None) (ok_same (s, p) r e) h

  index_new : (s : Inside) (o : ApplyOperand) (r : Inside × Arg) → find s.names q ≡ None → index_argument outer s o ≡ Ok r → find r.0.names q ≡ None
  index_new s o r h g =
      let x = then_ok (argument outer 1 s o.name) _ r g in
      let u = then_ok (demand (is_elem x.0.1.1 Index) (TypeDiffers o.name.start)) _ r x.2 in
      subst (λ (y : Inside × Arg). find y.0.names q ≡ None) (ok_same (x.0.0, x.0.1.0) r u.2) (argument_new 1 s o.name x.0 h x.1)

  indices_new : (os : List ApplyOperand) (s : Inside) (r : Inside × List Arg) → find s.names q ≡ None → thread (index_argument outer) s os ≡ Ok r → find r.0.names q ≡ None
  indices_new [] s r h g = subst (λ (y : Inside × List Arg). find y.0.names q ≡ None) (ok_same (s, []) r g) h
  indices_new (o ∷ os) s r h g =
      let x = then_ok (index_argument outer s o) _ r g in
      let y = then_ok (thread (index_argument outer) x.0.0 os) _ r x.2 in
      subst (λ (z : Inside × List Arg). find z.0.names q ≡ None) (ok_same (y.0.0, x.0.1 ∷ y.0.1) r y.2) (indices_new os x.0.0 y.0 (index_new s o x.0 h x.1) y.1)

  apply_new : (s : Inside) (a : ApplyStep) (r : Inside × List Arg) → find s.names q ≡ None → apply_arguments outer s a ≡ Ok r → find r.0.names q ≡ None
  apply_new s a r h g =
      let x = then_ok (thread (index_argument outer) s a.operands) _ r g in
      let y = then_ok (thread (index_argument outer) x.0.0 (symbol_operands a.symbols)) _ r x.2 in
      subst (λ (z : Inside × List Arg). find z.0.names q ≡ None) (ok_same (y.0.0, x.0.1 ++ y.0.1) r y.2) (indices_new (symbol_operands a.symbols) x.0.0 y.0 (indices_new a.operands s x.0 h x.1) y.1)

  pub operation_new : (aliases : List AliasShape) (stop : Option ℕ) (s : Inside) (o : StepOperation) (r : Inside × PayloadStep) → operation_of aliases outer stop s o ≡ Ok r → find s.names q ≡ None → find r.0.names q ≡ None
  operation_new aliases stop s (operations.Constant c) r g h =
      let x = then_ok (literal_of c.literal) _ r g in
      ends s _ r x.2 h
  operation_new aliases stop s (operations.Binary b) r g h =
      let op = then_ok (named b.name.start (named_binary b.name.text)) _ r g in
      let x = then_ok (argument outer 1 s b.left) _ r op.2 in
      let y = then_ok (argument outer 1 x.0.0 b.right) _ r x.2 in
      let u = then_ok (same_elem x.0.1.1 b.ty) _ r y.2 in
      let v = then_ok (same_elem y.0.1.1 b.ty) _ r u.2 in
      ends y.0.0 _ r v.2 (argument_new 1 x.0.0 b.right y.0 (argument_new 1 s b.left x.0 h x.1) y.1)
  operation_new aliases stop s (operations.Compare c) r g h =
      let p = then_ok (named c.predicate.start (named_predicate c.predicate.text)) _ r g in
      let x = then_ok (argument outer 1 s c.left) _ r p.2 in
      let y = then_ok (argument outer 1 x.0.0 c.right) _ r x.2 in
      let u = then_ok (same_elem x.0.1.1 c.ty) _ r y.2 in
      let v = then_ok (same_elem y.0.1.1 c.ty) _ r u.2 in
      ends y.0.0 _ r v.2 (argument_new 1 x.0.0 c.right y.0 (argument_new 1 s c.left x.0 h x.1) y.1)
  operation_new aliases stop s (operations.Select c) r g h =
      let b = then_ok (argument outer 1 s c.condition) _ r g in
      let x = then_ok (argument outer 1 b.0.0 c.chosen) _ r b.2 in
      let y = then_ok (argument outer 1 x.0.0 c.other) _ r x.2 in
      let u = then_ok (same_elem x.0.1.1 c.ty) _ r y.2 in
      let v = then_ok (same_elem y.0.1.1 c.ty) _ r u.2 in
      let z = then_ok (demand (is_elem b.0.1.1 (Int 1)) (TypeDiffers c.ty.start)) _ r v.2 in
      ends y.0.0 _ r z.2 (argument_new 1 x.0.0 c.other y.0 (argument_new 1 b.0.0 c.chosen x.0 (argument_new 1 s c.condition b.0 h b.1) x.1) y.1)
  operation_new aliases stop s (operations.IndexCast c) r g h =
      let x = then_ok (converted outer s c.conversion) _ r g in
      let to = then_ok (elem_at c.conversion.to) _ r x.2 in
      let d = then_ok (demand (is_cast (Some x.0.1.1) to.0) (TypeDiffers c.conversion.to.start)) _ r to.2 in
      ends x.0.0 _ r d.2 (converted_new s c.conversion x.0 h x.1)
  operation_new aliases stop s (operations.Index i) r g h =
      let d = then_ok (demand (nat_le (digits_value i.dimension.text) 1048576) (Number i.dimension.start i.dimension.start)) _ r g in
      ends s (record { ty = Index; op = ops.Index (digits_value i.dimension.text) }) r d.2 h
  operation_new aliases stop s (operations.Apply a) r g h =
      let m = then_ok (map_with_symbols aliases a.map) _ r g in
      let e = then_ok (one_result (use_start a.map) (only m.0.results)) _ r m.2 in
      let u = then_ok (fault_of_map (stop_of a.symbols stop) (fits_operands m.0 a) (use_start a.map)) _ r e.2 in
      let x = then_ok (apply_arguments outer s a) _ r u.2 in
      let v = then_ok (fault_at_stop (stop_of a.symbols stop) (fits_operands m.0 a)) _ r x.2 in
      ends x.0.0 (linear e.0 x.0.1) r v.2 (apply_new s a x.0 h x.1)
  operation_new aliases stop s (operations.Cast c) r g h =
      let n = then_ok (named c.name.start (named_cast c.name.text)) _ r g in
      let x = then_ok (converted outer s c.conversion) _ r n.2 in
      let i = then_ok (demand (is_integer x.0.1.1) (TypeDiffers c.conversion.from.start)) _ r x.2 in
      let to = then_ok (elem_at c.conversion.to) _ r i.2 in
      let d = then_ok (demand (changes_width n.0 x.0.1.1 to.0) (TypeDiffers c.conversion.to.start)) _ r to.2 in
      ends x.0.0 _ r d.2 (converted_new s c.conversion x.0 h x.1)

none_for : (o : Option Meaning) (at : ℕ) (u : Unit {0}) → demand (is_none o) (Twice at) ≡ Ok u → o ≡ None
none_for None at u h = refl
none_for (Some m) at u h = absurd (cc h)

-- a name that is new in both
pub fresh_both : (outer names : List Entry) (t : TokenShape) (u : Unit {0}) → fresh_in outer names t ≡ Ok u → (find outer t.text ≡ None) × (find names t.text ≡ None)
fresh_both outer names t u h =
    let a = then_ok (fresh outer t) _ u h in
    (none_for (find outer t.text) t.start a.0 a.1, none_for (find names t.text) t.start u a.2)
