-- A payload's tree is spelled by its pieces.
use Rattle.std.proofs.Common.{ℕ, ◌+◌, ℤ, pos, negsuc, Bool, true, false, List, [], ◌∷◌, map, length, None, refl, ◌∙◌, codes}
use Rattle.std.specs.List.{AllByRecursion}
use Rattle.std.proofs.lemmas.List.{append-nil}
use Rattle.mlir_base.specs.declared.types.ElemTy.{ElemTy}
use Rattle.mlir_base.specs.declared.types.ElemTy.TheVariants.{Int}
use Rattle.payload_ops.specs.declared.kinds.BinOp.{BinOp}
use Rattle.payload_ops.specs.declared.kinds.Predicate.{Predicate}
use Rattle.payload_ops.specs.declared.step.Arg.{Arg}
use Rattle.payload_ops.specs.declared.step.StepOp.{StepOp}
use Rattle.payload_ops.specs.declared.step.StepOp.TheVariants as ops
use Rattle.payload_ops.specs.Bits.{signed_of}
use Rattle.mlir_base.specs.Types.{bits_of, is_elem}
use Rattle.payload_ops.specs.declared.step.PayloadStep.{PayloadStep}
use Rattle.payload_ops.specs.Shape.{PayloadShape}
use Rattle.affine_maps.specs.Shape.{MapShape}
use Rattle.text_format.specs.declared.class.Class.TheVariants as classes
use Rattle.text_format.specs.declared.lexeme.Lexeme.TheVariants as lexemes
use Rattle.mlir_syntax.specs.declared.tree.steps.ConstantStep.{ConstantStep}
use Rattle.mlir_syntax.specs.declared.tree.steps.BinaryStep.{BinaryStep}
use Rattle.mlir_syntax.specs.declared.tree.steps.CompareStep.{CompareStep}
use Rattle.mlir_syntax.specs.declared.tree.steps.SelectStep.{SelectStep}
use Rattle.mlir_syntax.specs.declared.tree.steps.CastStep.{CastStep}
use Rattle.mlir_syntax.specs.declared.tree.steps.IndexCastStep.{IndexCastStep}
use Rattle.mlir_syntax.specs.declared.tree.steps.IndexStep.{IndexStep}
use Rattle.mlir_syntax.specs.declared.tree.steps.ApplyStep.{ApplyStep}
use Rattle.mlir_syntax.specs.declared.tree.steps.StepOperation.{StepOperation}
use Rattle.mlir_syntax.specs.declared.tree.steps.StepOperation.TheVariants as steps
use Rattle.mlir_syntax.specs.declared.tree.literals.TypedNumber.{TypedNumber}
use Rattle.mlir_syntax.specs.declared.tree.literals.ScalarLiteral.TheVariants as literals
use Rattle.mlir_syntax.specs.Literals as literal_grammar
use Rattle.mlir_syntax.specs.Steps as step_grammar
use Rattle.mlir_syntax.specs.Payloads as payload_grammar
use Rattle.mlir_print.specs.declared.names.Given.{Given}
use Rattle.mlir_print.specs.Names.{local_name}
use Rattle.mlir_print.specs.Maps.{linear_map}
use Rattle.text_format.specs.Writers.{Writer, keep, made}
use Rattle.mlir_scope.specs.declared.words.Cast.{Cast}
use Rattle.mlir_scope.specs.declared.words.Cast.TheVariants as changes
use Rattle.mlir_print.specs.Literals.{number_at, literal_if, literal_at}
use Rattle.mlir_print.specs.Payloads.{block_arg_at, next_arg_at, next_args_at, block_args_at, type_in, constant_at, binary_at, compare_at, select_at, conversion_at, cast_at, index_cast_at, index_at, apply_operand_at, apply_at, operation_at as step_operation_at, step_at, steps_at, region_at, new_line}
use Rattle.text_format.specs.Pieces as P
use Rattle.text_format.specs.Formats.{Format}
use Rattle.text_format.specs.Ends.{with_last}
use Rattle.mlir_roundtrip.specs.Printable.{IsPrintableOp, IsPrintableStep}
use Rattle.text_format.proofs.Written.{IsWritten, AreWritten, put-w, lay-w, gap-w, sp-w, pair-w, made-w, before-w, many-w, list_end-w}
use Rattle.mlir_roundtrip.proofs.MapUses.{use-w}

block_arg-w : (a : ℕ) (e : ElemTy) → IsWritten payload_grammar.block_arg (block_arg_at a e)
unfolding payload_grammar.block_arg
block_arg-w a e = made-w _ _ (λ _. refl) (pair-w (put-w _ _ _) (lay-w lexemes.Colon (sp-w (put-w _ _ _))))

next_arg-w : (a : ℕ) (e : ElemTy) → IsWritten payload_grammar.next_arg (next_arg_at a e)
unfolding payload_grammar.next_arg
next_arg-w a e = made-w _ _ (λ _. refl) (pair-w (put-w _ _ _) (sp-w (pair-w (put-w _ _ _) (lay-w lexemes.Colon (sp-w (put-w _ _ _))))))

next_args-w : (a : ℕ) (es : List ElemTy) (out : ElemTy) → AreWritten payload_grammar.next_arg (next_args_at a es out)
next_args-w a [] out = (next_arg-w a out, tt)
next_args-w a (e ∷ es) out = (next_arg-w a e, next_args-w (a + 1) es out)

block_args-w : (a : ℕ) (es : List ElemTy) (out : ElemTy) → IsWritten payload_grammar.block_args (block_args_at a es out)
unfolding payload_grammar.block_args
block_args-w a [] out = made-w _ _ (λ _. refl) (pair-w (block_arg-w a out) (many-w _ payload_grammar.next_arg [] tt (put-w _ _ _)))
block_args-w a (e ∷ es) out = made-w _ _ (λ _. refl) (pair-w (block_arg-w a e) (many-w _ payload_grammar.next_arg (next_args_at (a + 1) es out) (next_args-w (a + 1) es out) (put-w _ _ _)))

sign-w : IsWritten literal_grammar.sign (made (λ t. record { minus = t }) (keep classes.Exactly lexemes.Minus))
unfolding literal_grammar.sign
sign-w = made-w _ _ (λ _. refl) (put-w _ _ _)

pub number-w : (z : ℤ) → IsWritten literal_grammar.signed_number (number_at z)
unfolding literal_grammar.signed_number literal_grammar.sign
number-w (pos n) = record { law = λ at. refl }
number-w (negsuc n) = record { law = λ at. refl }

literal_if-w : (b : Bool) (e : ElemTy) (v : ℕ) → IsWritten literal_grammar.scalar_literal (literal_if b e v)
unfolding literal_grammar.scalar_literal literal_grammar.typed_number
literal_if-w true e v = record { law = λ at. refl }
literal_if-w false e v = as_literal-w (made-w _ _ (λ _. refl) (pair-w (number-w (signed_of (bits_of e) v)) (sp-w (lay-w lexemes.Colon (sp-w (put-w _ _ _))))))
  where
    as_literal-w : {w : Writer TypedNumber} → IsWritten literal_grammar.typed_number w → IsWritten literal_grammar.scalar_literal (made literals.Number w)
    as_literal-w h = record { law = λ at. h.law at }

pub literal-w : (e : ElemTy) (v : ℕ) → IsWritten literal_grammar.scalar_literal (literal_at e v)
literal-w e v = literal_if-w (is_elem e (Int 1)) e v

constant-w : (e : ElemTy) (v : ℕ) → IsWritten step_grammar.constant_step (constant_at e v)
unfolding step_grammar.constant_step
constant-w e v = made-w _ _ (λ _. refl) (pair-w (put-w _ _ _) (sp-w (literal-w e v)))

binary-w : (name : Arg → Given) (op : BinOp) (x y : Arg) (e : ElemTy) → IsWritten step_grammar.binary_step (binary_at name op x y e)
unfolding step_grammar.binary_step
binary-w name op x y e = made-w _ _ (λ _. refl) (pair-w (put-w _ _ _) (sp-w (pair-w (put-w _ _ _) (lay-w lexemes.Comma (sp-w (pair-w (put-w _ _ _) (sp-w (lay-w lexemes.Colon (sp-w (put-w _ _ _))))))))))

compare-w : (name : Arg → Given) (type : Arg → List ℕ) (k : Predicate) (x y : Arg) → IsWritten step_grammar.compare_step (compare_at name type k x y)
unfolding step_grammar.compare_step
compare-w name type k x y =
    made-w _ _ (λ _. refl) (pair-w (put-w _ _ _) (sp-w (pair-w (put-w _ _ _) (lay-w lexemes.Comma (sp-w (pair-w (put-w _ _ _) (lay-w lexemes.Comma (sp-w (pair-w (put-w _ _ _) (sp-w (lay-w lexemes.Colon (sp-w (put-w _ _ _)))))))))))))

select-w : (name : Arg → Given) (c x y : Arg) (e : ElemTy) → IsWritten step_grammar.select_step (select_at name c x y e)
unfolding step_grammar.select_step
select-w name c x y e =
    made-w _ _ (λ _. refl) (pair-w (put-w _ _ _) (sp-w (pair-w (put-w _ _ _) (lay-w lexemes.Comma (sp-w (pair-w (put-w _ _ _) (lay-w lexemes.Comma (sp-w (pair-w (put-w _ _ _) (sp-w (lay-w lexemes.Colon (sp-w (put-w _ _ _)))))))))))))

conversion-w : (name : Arg → Given) (type : Arg → List ℕ) (x : Arg) (e : ElemTy) → IsWritten step_grammar.conversion (conversion_at name type x e)
unfolding step_grammar.conversion
conversion-w name type x e = made-w _ _ (λ _. refl) (pair-w (put-w _ _ _) (sp-w (lay-w lexemes.Colon (sp-w (pair-w (put-w _ _ _) (sp-w (lay-w lexemes.To (sp-w (put-w _ _ _)))))))))

cast-w : (name : Arg → Given) (type : Arg → List ℕ) (k : Cast) (x : Arg) (e : ElemTy) → IsWritten step_grammar.cast_step (cast_at name type k x e)
unfolding step_grammar.cast_step
cast-w name type k x e = made-w _ _ (λ _. refl) (pair-w (put-w _ _ _) (sp-w (conversion-w name type x e)))

index_cast-w : (name : Arg → Given) (type : Arg → List ℕ) (x : Arg) (e : ElemTy) → IsWritten step_grammar.index_cast_step (index_cast_at name type x e)
unfolding step_grammar.index_cast_step
index_cast-w name type x e = made-w _ _ (λ _. refl) (pair-w (put-w _ _ _) (sp-w (conversion-w name type x e)))

index-w : (k : ℕ) → IsWritten step_grammar.index_step (index_at k)
unfolding step_grammar.index_step
index-w k = made-w _ _ (λ _. refl) (pair-w (put-w _ _ _) (sp-w (before-w lexemes.Index (P.Gap (codes " ") ∷ P.Fixed lexemes.Index ∷ []) (λ at. refl) (before-w lexemes.Colon (P.Gap (codes " ") ∷ P.Fixed lexemes.Colon ∷ []) (λ at. refl) (put-w _ _ _)))))

operand-w : (name : Arg → Given) (t : Arg × ℤ) → IsWritten step_grammar.apply_operand (apply_operand_at name t)
unfolding step_grammar.apply_operand
operand-w name t = made-w _ _ (λ _. refl) (put-w _ _ _)

operands-w : (name : Arg → Given) (ts : List (Arg × ℤ)) → AreWritten step_grammar.apply_operand (map (apply_operand_at name) ts)
operands-w name [] = tt
operands-w name (t ∷ ts) = (operand-w name t, operands-w name ts)

-- without brackets
no_symbols-w : {A : Type 0} {f : Format A} {v : Writer A} → IsWritten f v → IsWritten (with_last (classes.Exactly lexemes.OpenBracket) f step_grammar.apply_symbols) (made (λ x. (x, None)) v)
no_symbols-w {f = f} {v = v} h = record { law = λ at. append-nil (f.spell (v.tree at)) ∙ h.law at }

apply-w : (al : List MapShape) (name : Arg → Given) (m : MapShape) (ts : List (Arg × ℤ)) → IsWritten step_grammar.apply_step (apply_at al name m ts)
unfolding step_grammar.apply_step
apply-w al name m ts =
    let h = no_symbols-w (pair-w (put-w _ _ _) (sp-w (pair-w (use-w al m) (lay-w lexemes.OpenParenthesis (list_end-w lexemes.CloseParenthesis step_grammar.apply_operand (map (apply_operand_at name) ts) (operands-w name ts)))))) in
    record { law = λ at. h.law at }

abbrev WritesStep : Writer StepOperation → Type 0
WritesStep v = IsWritten step_grammar.step_operation v

as_constant-w : {v : Writer ConstantStep} → IsWritten step_grammar.constant_step v → WritesStep (made steps.Constant v)
unfolding step_grammar.step_operation
as_constant-w h = record { law = λ at. h.law at }

as_binary-w : {v : Writer BinaryStep} → IsWritten step_grammar.binary_step v → WritesStep (made steps.Binary v)
unfolding step_grammar.step_operation
as_binary-w h = record { law = λ at. h.law at }

as_compare-w : {v : Writer CompareStep} → IsWritten step_grammar.compare_step v → WritesStep (made steps.Compare v)
unfolding step_grammar.step_operation
as_compare-w h = record { law = λ at. h.law at }

as_select-w : {v : Writer SelectStep} → IsWritten step_grammar.select_step v → WritesStep (made steps.Select v)
unfolding step_grammar.step_operation
as_select-w h = record { law = λ at. h.law at }

as_index_cast-w : {v : Writer IndexCastStep} → IsWritten step_grammar.index_cast_step v → WritesStep (made steps.IndexCast v)
unfolding step_grammar.step_operation
as_index_cast-w h = record { law = λ at. h.law at }

as_index-w : {v : Writer IndexStep} → IsWritten step_grammar.index_step v → WritesStep (made steps.Index v)
unfolding step_grammar.step_operation
as_index-w h = record { law = λ at. h.law at }

as_cast-w : {v : Writer CastStep} → IsWritten step_grammar.cast_step v → WritesStep (made steps.Cast v)
unfolding step_grammar.step_operation
as_cast-w h = record { law = λ at. h.law at }

as_apply-w : {v : Writer ApplyStep} → IsWritten step_grammar.apply_step v → WritesStep (made steps.Apply v)
unfolding step_grammar.step_operation
as_apply-w h = record { law = λ at. h.law at }

step_operation-w : (al : List MapShape) (name : Arg → Given) (type : Arg → List ℕ) (e : ElemTy) (o : StepOp) → IsPrintableOp e o → WritesStep (step_operation_at al name type e o)
step_operation-w al name type e (ops.Const v) h = as_constant-w (constant-w e v)
step_operation-w al name type e (ops.Index k) h = as_index-w (index-w k)
step_operation-w al name type e (ops.Captured k) h = absurd h
step_operation-w al name type e (ops.Linear c ts) h = as_apply-w (apply-w al name (linear_map c ts) ts)
step_operation-w al name type e (ops.Binary op x y) h = as_binary-w (binary-w name op x y e)
step_operation-w al name type e (ops.Compare k x y) h = as_compare-w (compare-w name type k x y)
step_operation-w al name type e (ops.Select c x y) h = as_select-w (select-w name c x y e)
step_operation-w al name type e (ops.SignExtend x) h = as_cast-w (cast-w name type changes.SignExtend x e)
step_operation-w al name type e (ops.ZeroExtend x) h = as_cast-w (cast-w name type changes.ZeroExtend x e)
step_operation-w al name type e (ops.Truncate x) h = as_cast-w (cast-w name type changes.Truncate x e)
step_operation-w al name type e (ops.IndexCast x) h = as_index_cast-w (index_cast-w name type x e)

step-w : (al : List MapShape) (name : Arg → Given) (type : Arg → List ℕ) (k : ℕ) (s : PayloadStep) → IsPrintableStep s → IsWritten payload_grammar.step (step_at al name type k s.ty s.op)
unfolding payload_grammar.step
step-w al name type k s h = made-w _ _ (λ _. refl) (pair-w (put-w _ _ _) (sp-w (lay-w lexemes.Equals (sp-w (step_operation-w al name type s.ty s.op h.op)))))

steps-w : (al : List MapShape) (name : Arg → Given) (type : Arg → List ℕ) (k : ℕ) (ss : List PayloadStep) → AllByRecursion IsPrintableStep ss → AreWritten payload_grammar.step (steps_at al name type k ss)
steps-w al name type k [] h = tt
steps-w al name type k (s ∷ ss) h = (gap-w new_line (step-w al name type k s h.0), steps-w al name type (k + 1) ss h.1)

pub region-w : (al : List MapShape) (a r : ℕ) (p : PayloadShape) → AllByRecursion IsPrintableStep p.steps → IsWritten payload_grammar.region (region_at al a r p)
unfolding payload_grammar.region
region-w al a r p h = made-w _ _ (λ _. refl) (lay-w lexemes.Bb0 (lay-w lexemes.OpenParenthesis (pair-w (block_args-w a p.ins p.out) (lay-w lexemes.Colon (many-w _ payload_grammar.step (steps_at al (local_name a (length p.ins) r) (type_in p) 0 p.steps) (steps-w al (local_name a (length p.ins) r) (type_in p) 0 p.steps h)
    (gap-w new_line (pair-w (put-w _ _ _) (sp-w (pair-w (put-w _ _ _) (sp-w (lay-w lexemes.Colon (sp-w (put-w _ _ _)))))))))))))
