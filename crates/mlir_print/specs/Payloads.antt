-- Payloads as they are written (MLIR Linalg dialect, "linalg.generic").
use Rattle.std.specs.Prelude.{ℕ, ◌+◌, ℤ, List, [], ◌∷◌, map, length, Option, Some, None, codes, decimal}
use Rattle.mlir_base.specs.declared.types.ElemTy.{ElemTy}
use Rattle.payload_ops.specs.declared.kinds.BinOp.{BinOp}
use Rattle.payload_ops.specs.declared.kinds.Predicate.{Predicate}
use Rattle.payload_ops.specs.declared.step.Arg.{Arg}
use Rattle.payload_ops.specs.declared.step.Arg.TheVariants as args
use Rattle.payload_ops.specs.declared.step.StepOp.{StepOp}
use Rattle.payload_ops.specs.declared.step.StepOp.TheVariants as ops
use Rattle.payload_ops.specs.declared.step.PayloadStep.{PayloadStep}
use Rattle.payload_ops.specs.Shape.{PayloadShape}
use Rattle.payload_ops.specs.Payload.{arg_type}
use Rattle.affine_maps.specs.Shape.{MapShape}
use Rattle.text_format.specs.declared.class.Class.TheVariants.{Exactly, Name, BinaryName, CastName, Value, NewValue, NewValueAt, ElementType, Number, Predicate as PredicateWord}
use Rattle.text_format.specs.declared.class.Position.TheVariants.{PayloadStatement, PayloadStep as StepName}
use Rattle.text_format.specs.declared.front.Kind.TheVariants as tokens
use Rattle.text_format.specs.declared.lexeme.Lexeme.TheVariants.{OpenParenthesis, CloseParenthesis, Comma, Colon, Equals, Bb0, LinalgYield, ArithConstant, ArithCmpi, ArithSelect, ArithIndexCast, LinalgIndex, AffineApply, To, Index as IndexWord}
use Rattle.text_format.specs.Pieces.{Gap, Fixed}
use Rattle.text_format.specs.Token.{TokenShape}
use Rattle.mlir_syntax.specs.declared.tree.payloads.BlockArg.{BlockArg}
use Rattle.mlir_syntax.specs.declared.tree.payloads.NextArg.{NextArg}
use Rattle.mlir_syntax.specs.declared.tree.payloads.BlockArgs.{BlockArgs}
use Rattle.mlir_syntax.specs.declared.tree.payloads.Step.{Step}
use Rattle.mlir_syntax.specs.declared.tree.payloads.Region.{Region}
use Rattle.mlir_syntax.specs.declared.tree.steps.ConstantStep.{ConstantStep}
use Rattle.mlir_syntax.specs.declared.tree.steps.BinaryStep.{BinaryStep}
use Rattle.mlir_syntax.specs.declared.tree.steps.CompareStep.{CompareStep}
use Rattle.mlir_syntax.specs.declared.tree.steps.SelectStep.{SelectStep}
use Rattle.mlir_syntax.specs.declared.tree.steps.Conversion.{Conversion}
use Rattle.mlir_syntax.specs.declared.tree.steps.CastStep.{CastStep}
use Rattle.mlir_syntax.specs.declared.tree.steps.IndexCastStep.{IndexCastStep}
use Rattle.mlir_syntax.specs.declared.tree.steps.IndexStep.{IndexStep}
use Rattle.mlir_syntax.specs.declared.tree.steps.ApplyOperand.{ApplyOperand}
use Rattle.mlir_syntax.specs.declared.tree.steps.ApplyStep.{ApplyStep}
use Rattle.mlir_syntax.specs.declared.tree.steps.StepOperation.{StepOperation}
use Rattle.mlir_syntax.specs.declared.tree.steps.StepOperation.TheVariants as operations
use Rattle.mlir_scope.specs.declared.words.Cast.{Cast}
use Rattle.mlir_scope.specs.declared.words.Cast.TheVariants as changes
use Rattle.mlir_scope.specs.Words.{binary_text, predicate_text, cast_text}
use Rattle.mlir_print.specs.declared.names.Given.{Given}
use Rattle.mlir_print.specs.declared.names.Given.TheVariants.{Argument}
use Rattle.mlir_print.specs.Types.{elem_text}
use Rattle.mlir_print.specs.Names.{given_text, local_name}
use Rattle.mlir_print.specs.Literals.{literal_at}
use Rattle.mlir_print.specs.Maps.{linear_map, use_at}
use Rattle.text_format.specs.Writers.{Writer, put, keep, lay, gap, space, lay_after, pair, made, each_of, commas, unbuilt, unbuilt_text, no_token, ◌▷◌}

abbrev pub new_line : List ℕ
new_line = codes "\n      "

-- ---- the block's arguments, one for each operand

abbrev pub block_arg_at : ℕ → ElemTy → Writer BlockArg
block_arg_at a e = made (λ x. record { name = x.0; ty = x.1 }) ▷ pair (put NewValue tokens.Value (given_text (Argument a))) ▷ lay Colon ▷ space ▷ put ElementType tokens.Word (elem_text e)

abbrev pub next_arg_at : ℕ → ElemTy → Writer NextArg
next_arg_at a e = made (λ x. record { comma = x.0; name = x.1.0; ty = x.1.1 }) ▷ pair (keep Exactly Comma) ▷ space ▷ pair (put NewValue tokens.Value (given_text (Argument a))) ▷ lay Colon ▷ space ▷ put ElementType tokens.Word (elem_text e)

abbrev pub next_args_at : ℕ → List ElemTy → ElemTy → List (Writer NextArg)
next_args_at a [] out = next_arg_at a out ∷ []
next_args_at a (e ∷ es) out = next_arg_at a e ∷ next_args_at (a + 1) es out

abbrev pub args_with : Writer BlockArg → List (Writer NextArg) → Writer BlockArgs
args_with first more = made (λ x. record { first = x.0; more = x.1.0; close = x.1.1 }) ▷ pair first ▷ pair (each_of more) ▷ keep Exactly CloseParenthesis

abbrev pub block_args_at : ℕ → List ElemTy → ElemTy → Writer BlockArgs
block_args_at a [] out = args_with (block_arg_at a out) []
block_args_at a (e ∷ es) out = args_with (block_arg_at a e) (next_args_at (a + 1) es out)

-- ---- operations, where `name` and `type` give the names of arguments and the texts of their types

abbrev pub elem_or : Option ElemTy → List ℕ
elem_or None = unbuilt_text
elem_or (Some e) = elem_text e

-- the text of an argument's type
abbrev pub type_in : PayloadShape → Arg → List ℕ
type_in p x = elem_or (arg_type p.ins p.out p.steps x)

abbrev pub value_at : (Arg → Given) → Arg → Writer TokenShape
value_at name x = put Value tokens.Value (given_text (name x))

abbrev pub elem_at : List ℕ → Writer TokenShape
elem_at text = put ElementType tokens.Word text

-- `arith.constant -5 : i32`
abbrev pub constant_at : ElemTy → ℕ → Writer ConstantStep
constant_at e v = made (λ x. record { name = x.0; literal = x.1 }) ▷ pair (keep (Name StepName) ArithConstant) ▷ space ▷ literal_at e v

-- `arith.addi %x, %y : i32`
abbrev pub binary_at : (Arg → Given) → BinOp → Arg → Arg → ElemTy → Writer BinaryStep
binary_at name op x y e = made (λ x. record { name = x.0; left = x.1.0; right = x.1.1.0; ty = x.1.1.1 }) ▷
    pair (put (BinaryName StepName) tokens.Word (binary_text op)) ▷ space ▷ pair (value_at name x) ▷ lay Comma ▷ space ▷ pair (value_at name y) ▷ space ▷ lay Colon ▷ space ▷ elem_at (elem_text e)

-- `arith.cmpi slt, %x, %y : i32`
abbrev pub compare_at : (Arg → Given) → (Arg → List ℕ) → Predicate → Arg → Arg → Writer CompareStep
compare_at name type p x y = made (λ x. record { name = x.0; predicate = x.1.0; left = x.1.1.0; right = x.1.1.1.0; ty = x.1.1.1.1 }) ▷
    pair (keep (Name StepName) ArithCmpi) ▷ space ▷ pair (put PredicateWord tokens.Word (predicate_text p)) ▷ lay Comma ▷ space ▷
    pair (value_at name x) ▷ lay Comma ▷ space ▷ pair (value_at name y) ▷ space ▷ lay Colon ▷ space ▷ elem_at (type x)

-- `arith.select %c, %x, %y : i32`
abbrev pub select_at : (Arg → Given) → Arg → Arg → Arg → ElemTy → Writer SelectStep
select_at name c x y e = made (λ x. record { name = x.0; condition = x.1.0; chosen = x.1.1.0; other = x.1.1.1.0; ty = x.1.1.1.1 }) ▷
    pair (keep (Name StepName) ArithSelect) ▷ space ▷ pair (value_at name c) ▷ lay Comma ▷ space ▷
    pair (value_at name x) ▷ lay Comma ▷ space ▷ pair (value_at name y) ▷ space ▷ lay Colon ▷ space ▷ elem_at (elem_text e)

-- `%x : i8 to i32`
abbrev pub conversion_at : (Arg → Given) → (Arg → List ℕ) → Arg → ElemTy → Writer Conversion
conversion_at name type x e = made (λ x. record { value = x.0; from = x.1.0; to = x.1.1 }) ▷
    pair (value_at name x) ▷ space ▷ lay Colon ▷ space ▷ pair (elem_at (type x)) ▷ space ▷ lay To ▷ space ▷ elem_at (elem_text e)

-- `arith.extsi %x : i8 to i32`
abbrev pub cast_at : (Arg → Given) → (Arg → List ℕ) → Cast → Arg → ElemTy → Writer CastStep
cast_at name type k x e = made (λ x. record { name = x.0; conversion = x.1 }) ▷ pair (put (CastName StepName) tokens.Word (cast_text k)) ▷ space ▷ conversion_at name type x e

-- `arith.index_cast %i : index to i32`
abbrev pub index_cast_at : (Arg → Given) → (Arg → List ℕ) → Arg → ElemTy → Writer IndexCastStep
index_cast_at name type x e = made (λ x. record { name = x.0; conversion = x.1 }) ▷ pair (keep (Name StepName) ArithIndexCast) ▷ space ▷ conversion_at name type x e

-- `linalg.index 0 : index`
abbrev pub index_at : ℕ → Writer IndexStep
index_at k = made (λ x. record { name = x.0; dimension = x.1 }) ▷
    pair (keep (Name StepName) LinalgIndex) ▷ space ▷ lay_after (lay_after (put Number tokens.Number (decimal k)) (Gap (codes " ") ∷ Fixed Colon ∷ [])) (Gap (codes " ") ∷ Fixed IndexWord ∷ [])

-- `affine.apply #map(%x, %y)`: the map, and an argument for each of its dimensions
abbrev pub apply_operand_at : (Arg → Given) → Arg × ℤ → Writer ApplyOperand
apply_operand_at name t = made (λ t. record { name = t }) (value_at name t.0)

abbrev pub apply_at : List MapShape → (Arg → Given) → MapShape → List (Arg × ℤ) → Writer ApplyStep
apply_at aliases name m ts = made (λ x. record { name = x.0; map = x.1.0; operands = x.1.1; symbols = None }) ▷
    pair (keep (Name StepName) AffineApply) ▷ space ▷ pair (use_at aliases m) ▷ lay OpenParenthesis ▷ lay_after (commas (map (apply_operand_at name) ts)) (Fixed CloseParenthesis ∷ [])

abbrev pub no_operation : ℕ → StepOperation
no_operation at = operations.Index (record { name = no_token at; dimension = no_token at })

abbrev pub operation_at : List MapShape → (Arg → Given) → (Arg → List ℕ) → ElemTy → StepOp → Writer StepOperation
operation_at aliases name type e (ops.Const v) = made operations.Constant (constant_at e v)
operation_at aliases name type e (ops.Index k) = made operations.Index (index_at k)
operation_at aliases name type e (ops.Binary op x y) = made operations.Binary (binary_at name op x y e)
operation_at aliases name type e (ops.Compare p x y) = made operations.Compare (compare_at name type p x y)
operation_at aliases name type e (ops.Select c x y) = made operations.Select (select_at name c x y e)
operation_at aliases name type e (ops.SignExtend x) = made operations.Cast (cast_at name type changes.SignExtend x e)
operation_at aliases name type e (ops.ZeroExtend x) = made operations.Cast (cast_at name type changes.ZeroExtend x e)
operation_at aliases name type e (ops.Truncate x) = made operations.Cast (cast_at name type changes.Truncate x e)
operation_at aliases name type e (ops.IndexCast x) = made operations.IndexCast (index_cast_at name type x e)
operation_at aliases name type e (ops.Linear c ts) = made operations.Apply (apply_at aliases name (linear_map c ts) ts)
operation_at aliases name type e o = unbuilt no_operation

-- ---- steps, each on a line of its own

-- `%s = operation`
abbrev pub step_at : List MapShape → (Arg → Given) → (Arg → List ℕ) → ℕ → ElemTy → StepOp → Writer Step
step_at aliases name type k e o = made (λ x. record { result = x.0; operation = x.1 }) ▷
    pair (put (NewValueAt PayloadStatement) tokens.Value (given_text (name (args.Step k)))) ▷ space ▷ lay Equals ▷ space ▷ operation_at aliases name type e o

abbrev pub steps_at : List MapShape → (Arg → Given) → (Arg → List ℕ) → ℕ → List PayloadStep → List (Writer Step)
steps_at aliases name type k [] = []
steps_at aliases name type k (s ∷ ss) = gap new_line (step_at aliases name type k s.ty s.op) ∷ steps_at aliases name type (k + 1) ss

-- ---- the region, where the numbers of arguments and results begin at a and r

abbrev pub region_with : List MapShape → (Arg → Given) → ℕ → PayloadShape → Writer Region
region_with aliases name a p = made (λ x. record { args = x.0; steps = x.1.0; yield_name = x.1.1.0; yielded = x.1.1.1.0; yield_type = x.1.1.1.1 }) ▷
    lay Bb0 ▷ lay OpenParenthesis ▷ pair (block_args_at a p.ins p.out) ▷ lay Colon ▷ pair (each_of (steps_at aliases name (type_in p) 0 p.steps)) ▷
    gap new_line ▷ pair (keep (Name PayloadStatement) LinalgYield) ▷ space ▷ pair (put Value tokens.Value (given_text (name p.yielded))) ▷ space ▷ lay Colon ▷ space ▷ put ElementType tokens.Word (elem_text p.out)

abbrev pub region_at : List MapShape → ℕ → ℕ → PayloadShape → Writer Region
region_at aliases a r p = region_with aliases (local_name a (length p.ins) r) a p
