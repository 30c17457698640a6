-- Operations as they are written, each on a line of its own.
use Rattle.std.specs.Prelude.{ℕ, ◌+◌, List, [], ◌∷◌, ◌++◌, length}
use Rattle.mlir_base.specs.declared.types.ElemTy.{ElemTy}
use Rattle.payload_ops.specs.Shape.{PayloadShape}
use Rattle.affine_maps.specs.Shape.{MapShape}
use Rattle.mlir_ir.specs.declared.tree.Ty.{Ty}
use Rattle.mlir_ir.specs.declared.tree.Ty.TheVariants.{Scalar, Tensor, Vector}
use Rattle.mlir_ir.specs.declared.tree.ValueId.{ValueId}
use Rattle.mlir_ir.specs.declared.tree.Iter.{Iter}
use Rattle.mlir_ir.specs.declared.tree.OpKind.{OpKind}
use Rattle.mlir_ir.specs.declared.tree.OpKind.TheVariants as kinds
use Rattle.mlir_ir.specs.declared.tree.Op.{Op}
use Rattle.text_format.specs.declared.class.Class.TheVariants.{Name, NewValueAt}
use Rattle.text_format.specs.declared.class.Position.TheVariants.{Statement as StatementPlace, Operation as OperationName}
use Rattle.text_format.specs.declared.front.Kind.TheVariants as tokens
use Rattle.text_format.specs.declared.lexeme.Lexeme.TheVariants.{OpenParenthesis, CloseParenthesis, Colon, Equals, TensorEmpty}
use Rattle.text_format.specs.Pieces.{Gap}
use Rattle.mlir_syntax.specs.declared.tree.constants.Literal.TheVariants as literals
use Rattle.mlir_syntax.specs.declared.tree.operations.Empty.{Empty}
use Rattle.mlir_syntax.specs.declared.tree.operations.Operation.{Operation}
use Rattle.mlir_syntax.specs.declared.tree.operations.Operation.TheVariants as operations
use Rattle.mlir_syntax.specs.declared.tree.operations.Statement.{Statement}
use Rattle.mlir_print.specs.declared.names.Given.TheVariants.{Result}
use Rattle.mlir_print.specs.Types.{ty_text}
use Rattle.mlir_print.specs.Names.{Names, given_text, with_result}
use Rattle.mlir_print.specs.Literals.{literal_at}
use Rattle.mlir_print.specs.Constants.{dense_words, dense_at, constant_at}
use Rattle.mlir_print.specs.Generics.{generic_at}
use Rattle.mlir_print.specs.Structured.{fill_at, matmul_at, batch_matmul_at, transpose_at, broadcast_at}
use Rattle.mlir_print.specs.Returns.{type_at, return_text, Ending, no_ending, closed_at, return_at}
use Rattle.text_format.specs.Writers.{Writer, put, keep, lay, space, lay_after, pair, made, unbuilt, no_token, ◌▷◌}

-- ---- tensor.empty (MLIR Tensor dialect, "tensor.empty")

abbrev pub empty_at : Ty → Writer Empty
empty_at ty = made (λ x. record { name = x.0; ty = x.1 }) ▷ pair (keep (Name OperationName) TensorEmpty) ▷ lay OpenParenthesis ▷ lay CloseParenthesis ▷ space ▷ lay Colon ▷ space ▷ type_at (ty_text ty)

-- ---- one operation

abbrev pub no_operation : ℕ → Operation
no_operation at = operations.Empty (record { name = no_token at; ty = no_token at })

abbrev pub scalar_if : ElemTy → List ℕ → Writer Operation
scalar_if e (v ∷ []) = made operations.Constant (constant_at (made literals.Scalar (literal_at e v)))
scalar_if e cells = unbuilt no_operation

abbrev pub constant_if : Ty → List ℕ → Writer Operation
constant_if (Scalar e) cells = scalar_if e cells
constant_if (Tensor es w) cells = made operations.Constant (constant_at (made literals.Dense (dense_at (dense_words w es cells) (Tensor es w))))
constant_if (Vector ns w) cells = unbuilt no_operation

-- nothing is captured
abbrev pub generic_if : List ValueId → List MapShape → Names → Ty → List MapShape → List Iter → List ValueId → ValueId → PayloadShape → Writer Operation
generic_if [] aliases n ty maps its ins out p = made operations.Generic (generic_at aliases n.rows n.args (n.results + 1) ty maps its ins out p)
generic_if (c ∷ cs) aliases n ty maps its ins out p = unbuilt no_operation

abbrev pub empty_if : List ValueId → Ty → Writer Operation
empty_if [] ty = made operations.Empty (empty_at ty)
empty_if (v ∷ vs) ty = unbuilt no_operation

abbrev pub operation_at : List MapShape → Names → Ty → OpKind → Writer Operation
operation_at aliases n ty (kinds.Constant cells) = constant_if ty cells
operation_at aliases n ty (kinds.Empty sizes) = empty_if sizes ty
operation_at aliases n ty (kinds.Generic maps its ins out captured p) = generic_if captured aliases n ty maps its ins out p
operation_at aliases n ty (kinds.Fill v out) = made operations.Fill (fill_at n.rows ty v out)
operation_at aliases n ty (kinds.Matmul a b out) = made operations.Matmul (matmul_at n.rows ty a b out)
operation_at aliases n ty (kinds.BatchMatmul a b out) = made operations.BatchMatmul (batch_matmul_at n.rows ty a b out)
operation_at aliases n ty (kinds.Transpose a out order) = made operations.Transpose (transpose_at n.rows a out order)
operation_at aliases n ty (kinds.Broadcast a out dims) = made operations.Broadcast (broadcast_at n.rows a out dims)
operation_at aliases n ty k = unbuilt no_operation

-- how many arguments and results an operation names inside
abbrev pub inner_args : OpKind → ℕ
inner_args (kinds.Generic maps its ins out captured p) = length p.ins + 1
inner_args k = 0

abbrev pub inner_results : OpKind → ℕ
inner_results (kinds.Generic maps its ins out captured p) = length p.steps
inner_results k = 0

-- the names behind an operation
abbrev pub names_after : Names → List (ValueId × Ty) → OpKind → Names
names_after n [] k = n
names_after n (r ∷ []) k = with_result n r.0 r.1 (inner_args k) (inner_results k)
names_after n (r ∷ (s ∷ rs)) k = n

abbrev pub next : Names → Op → Names
next n o = names_after n o.results o.kind

-- `%0 = operation`
abbrev pub defined_at : List MapShape → Names → Ty → OpKind → Writer Statement
defined_at aliases n ty k = made (λ x. record { result = x.0; operation = x.1 }) ▷
    pair (put (NewValueAt StatementPlace) tokens.Value (given_text (Result n.results))) ▷ space ▷ lay Equals ▷ space ▷ operation_at aliases n ty k

abbrev pub no_statement : ℕ → Statement
no_statement at = record { result = no_token at; operation = no_operation at }

-- an operation that isn't the last of its function, and one that is
abbrev pub line_at : List MapShape → Names → List (ValueId × Ty) → OpKind → Writer Statement
line_at aliases n [] k = record { pieces = Gap (return_text n.rows k) ∷ []; tree = no_statement }
line_at aliases n (r ∷ []) k = defined_at aliases n r.1 k
line_at aliases n (r ∷ (s ∷ rs)) k = unbuilt no_statement

abbrev pub last_at : List MapShape → Names → List (ValueId × Ty) → OpKind → Writer Ending
last_at aliases n [] k = return_at n.rows k
last_at aliases n (r ∷ []) k = record { pieces = (defined_at aliases n r.1 k).pieces ++ closed_at.pieces; tree = no_ending }
last_at aliases n (r ∷ (s ∷ rs)) k = lay_after (unbuilt no_ending) closed_at.pieces
