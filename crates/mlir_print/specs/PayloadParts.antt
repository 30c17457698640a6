-- The bytes of a payload, in the order in which they are written.
use Rattle.std.specs.Prelude.{ℕ, ◌+◌, ℤ, List, [], ◌∷◌, ◌++◌, length, codes, decimal}
use Rattle.mlir_base.specs.declared.types.ElemTy.{ElemTy}
use Rattle.payload_ops.specs.declared.kinds.BinOp.{BinOp}
use Rattle.payload_ops.specs.declared.kinds.Predicate.{Predicate}
use Rattle.payload_ops.specs.declared.step.Arg.{Arg}
use Rattle.payload_ops.specs.declared.step.Arg.TheVariants as args
use Rattle.payload_ops.specs.declared.step.StepOp.{StepOp}
use Rattle.payload_ops.specs.declared.step.StepOp.TheVariants as ops
use Rattle.payload_ops.specs.declared.step.PayloadStep.{PayloadStep}
use Rattle.payload_ops.specs.Shape.{PayloadShape}
use Rattle.affine_maps.specs.Shape.{MapShape}
use Rattle.mlir_scope.specs.declared.words.Cast.{Cast}
use Rattle.mlir_scope.specs.declared.words.Cast.TheVariants as changes
use Rattle.mlir_scope.specs.Words.{binary_text, predicate_text, cast_text}
use Rattle.mlir_print.specs.declared.names.Given.TheVariants.{Argument}
use Rattle.mlir_print.specs.Types.{elem_text}
use Rattle.mlir_print.specs.Names.{given_text, local_name}
use Rattle.mlir_print.specs.Literals.{literal_text}
use Rattle.mlir_print.specs.Maps.{linear_map}
use Rattle.mlir_print.specs.MapParts.{use_text}
use Rattle.mlir_print.specs.Payloads.{type_in}
use Rattle.text_format.specs.Writers.{unbuilt_text}

abbrev pub block_arg_text : ℕ → ElemTy → List ℕ
block_arg_text a e = given_text (Argument a) ++ (codes ": " ++ elem_text e)

abbrev pub block_args_text : List ℕ → ℕ → List ElemTy → ElemTy → List ℕ
block_args_text before a [] out = before ++ block_arg_text a out
block_args_text before a (e ∷ es) out = before ++ (block_arg_text a e ++ block_args_text (codes ", ") (a + 1) es out)

-- ---- a payload p, where the numbers of its arguments and of its results begin at a and r; `ts` are the texts of the maps that have an alias

abbrev pub local_text : ℕ → ℕ → PayloadShape → Arg → List ℕ
local_text a r p x = given_text (local_name a (length p.ins) r x)

abbrev pub operands_text : ℕ → ℕ → PayloadShape → Arg → Arg → List ℕ
operands_text a r p x y = local_text a r p x ++ (codes ", " ++ local_text a r p y)

abbrev pub typed_text : ℕ → ℕ → PayloadShape → Arg → Arg → List ℕ → List ℕ
typed_text a r p x y text = operands_text a r p x y ++ (codes " : " ++ text)

abbrev pub binary_step_text : ℕ → ℕ → PayloadShape → BinOp → Arg → Arg → ElemTy → List ℕ
binary_step_text a r p op x y e = binary_text op ++ (codes " " ++ typed_text a r p x y (elem_text e))

abbrev pub compare_step_text : ℕ → ℕ → PayloadShape → Predicate → Arg → Arg → List ℕ
compare_step_text a r p k x y = codes "arith.cmpi " ++ (predicate_text k ++ (codes ", " ++ typed_text a r p x y (type_in p x)))

abbrev pub select_step_text : ℕ → ℕ → PayloadShape → Arg → Arg → Arg → ElemTy → List ℕ
select_step_text a r p c x y e = codes "arith.select " ++ (local_text a r p c ++ (codes ", " ++ typed_text a r p x y (elem_text e)))

unfoldable pub conversion_text : ℕ → ℕ → PayloadShape → Arg → ElemTy → List ℕ
conversion_text a r p x e = local_text a r p x ++ (codes " : " ++ (type_in p x ++ (codes " to " ++ elem_text e)))

abbrev pub cast_step_text : ℕ → ℕ → PayloadShape → Cast → Arg → ElemTy → List ℕ
cast_step_text a r p k x e = cast_text k ++ (codes " " ++ conversion_text a r p x e)

abbrev pub index_step_text : ℕ → List ℕ
index_step_text k = codes "linalg.index " ++ (decimal k ++ codes " : index")

-- between commas; `before` stands before the first
abbrev pub arguments_text : ℕ → ℕ → PayloadShape → List ℕ → List (Arg × ℤ) → List ℕ
arguments_text a r p before [] = []
arguments_text a r p before (t ∷ terms) = before ++ (local_text a r p t.0 ++ arguments_text a r p (codes ", ") terms)

unfoldable pub apply_text : List (List ℕ) → ℕ → ℕ → PayloadShape → MapShape → List (Arg × ℤ) → List ℕ
apply_text ts a r p m terms = codes "affine.apply " ++ (use_text ts m ++ (codes "(" ++ (arguments_text a r p [] terms ++ codes ")")))

abbrev pub operation_text : List (List ℕ) → ℕ → ℕ → PayloadShape → ElemTy → StepOp → List ℕ
operation_text ts a r p e (ops.Const v) = codes "arith.constant " ++ literal_text e v
operation_text ts a r p e (ops.Index k) = index_step_text k
operation_text ts a r p e (ops.Binary op x y) = binary_step_text a r p op x y e
operation_text ts a r p e (ops.Compare k x y) = compare_step_text a r p k x y
operation_text ts a r p e (ops.Select c x y) = select_step_text a r p c x y e
operation_text ts a r p e (ops.SignExtend x) = cast_step_text a r p changes.SignExtend x e
operation_text ts a r p e (ops.ZeroExtend x) = cast_step_text a r p changes.ZeroExtend x e
operation_text ts a r p e (ops.Truncate x) = cast_step_text a r p changes.Truncate x e
operation_text ts a r p e (ops.IndexCast x) = codes "arith.index_cast " ++ conversion_text a r p x e
operation_text ts a r p e (ops.Linear c terms) = apply_text ts a r p (linear_map c terms) terms
operation_text ts a r p e o = unbuilt_text

unfoldable pub step_text : List (List ℕ) → ℕ → ℕ → PayloadShape → ℕ → ElemTy → StepOp → List ℕ
step_text ts a r p k e o = local_text a r p (args.Step k) ++ (codes " = " ++ operation_text ts a r p e o)

abbrev pub steps_text : List (List ℕ) → ℕ → ℕ → PayloadShape → ℕ → List PayloadStep → List ℕ
steps_text ts a r p k [] = []
steps_text ts a r p k (s ∷ ss) = codes "\n      " ++ (step_text ts a r p k s.ty s.op ++ steps_text ts a r p (k + 1) ss)

abbrev pub yield_text : ℕ → ℕ → PayloadShape → List ℕ
yield_text a r p = codes "\n      linalg.yield " ++ (local_text a r p p.yielded ++ (codes " : " ++ elem_text p.out))

unfoldable pub block_text : List (List ℕ) → ℕ → ℕ → PayloadShape → List ElemTy → ElemTy → List PayloadStep → List ℕ
block_text ts a r p ins out steps = codes "^bb0(" ++ (block_args_text [] a ins out ++ (codes "):" ++ (steps_text ts a r p 0 steps ++ yield_text a r p)))

abbrev pub region_text : List (List ℕ) → ℕ → ℕ → PayloadShape → List ℕ
region_text ts a r p = block_text ts a r p p.ins p.out p.steps
