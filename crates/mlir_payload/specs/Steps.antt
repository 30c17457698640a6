-- The steps of a payload (MLIR Arith dialect; Linalg dialect, "linalg.index"; Affine dialect, "affine.apply"): what each stands for, or its first fault, in the order of its tokens.
use Rattle.std.specs.Prelude.{ℕ, ℤ, ◌+◌, ◌==◌, Bool, true, false, List, [], ◌∷◌, ◌++◌, length, map, get_or, Result, Ok, Err, Option, Some, None, nat_lt, nat_le, if◌then◌else◌}
use Rattle.mlir_base.specs.declared.types.ElemTy.{ElemTy}
use Rattle.mlir_base.specs.declared.types.ElemTy.TheVariants.{Int, Index as IndexType}
use Rattle.payload_ops.specs.declared.step.Arg.{Arg}
use Rattle.payload_ops.specs.declared.step.Arg.TheVariants as args
use Rattle.payload_ops.specs.declared.step.StepOp.{StepOp}
use Rattle.payload_ops.specs.declared.step.StepOp.TheVariants as ops
use Rattle.payload_ops.specs.declared.step.PayloadStep.{PayloadStep}
use Rattle.mlir_base.specs.Types.{is_elem}
use Rattle.payload_ops.specs.Payload.{is_narrower, is_cast}
use Rattle.affine_maps.specs.declared.map.Expr.{Expr}
use Rattle.affine_maps.specs.Shape.{MapShape}
use Rattle.mlir_base.specs.declared.limit.Which.TheVariants as limits
use Rattle.text_format.specs.Token.{TokenShape}
use Rattle.mlir_syntax.specs.declared.tree.payloads.Step.{Step}
use Rattle.mlir_syntax.specs.declared.tree.steps.BinaryStep.{BinaryStep}
use Rattle.mlir_syntax.specs.declared.tree.steps.CompareStep.{CompareStep}
use Rattle.mlir_syntax.specs.declared.tree.steps.SelectStep.{SelectStep}
use Rattle.mlir_syntax.specs.declared.tree.steps.Conversion.{Conversion}
use Rattle.mlir_syntax.specs.declared.tree.steps.ApplyOperand.{ApplyOperand}
use Rattle.mlir_syntax.specs.declared.tree.steps.ApplySymbols.{ApplySymbols}
use Rattle.mlir_syntax.specs.declared.tree.steps.ApplyStep.{ApplyStep}
use Rattle.mlir_syntax.specs.declared.tree.steps.StepOperation.{StepOperation}
use Rattle.mlir_syntax.specs.declared.tree.steps.StepOperation.TheVariants as operations
use Rattle.mlir_scope.specs.declared.names.Meaning.{Meaning}
use Rattle.mlir_scope.specs.declared.names.Meaning.TheVariants.{Held, Constant, Local}
use Rattle.mlir_payload.specs.declared.inside.Inside.{Inside}
use Rattle.mlir_scope.specs.declared.words.Cast.{Cast}
use Rattle.mlir_scope.specs.declared.words.Cast.TheVariants as changes
use Rattle.mlir_lex.specs.declared.fault.Fault.{Fault}
use Rattle.mlir_lex.specs.declared.fault.Fault.TheVariants.{Syntax, UnknownName, Unsupported, TypeDiffers, Number, Limit}
use Rattle.mlir_lex.specs.Chain.{and_then, demand, thread}
use Rattle.mlir_scope.specs.Names.{Entry, entry, find}
use Rattle.mlir_scope.specs.Maps.{AliasShape, map_with_symbols, use_start}
use Rattle.mlir_scope.specs.Types.{same_elem}
use Rattle.mlir_scope.specs.Scope.{fresh}
use Rattle.mlir_scope.specs.Words.{named_binary, named_predicate, named_cast}
use Rattle.mlir_scope.specs.Literals.{digits_value, elem_at, literal_of}

-- ---- names

-- no name of this text is in scope, in the function or in the payload
abbrev pub fresh_in : List Entry → List Entry → TokenShape → Result (Unit {0}) Fault
fresh_in outer names t = and_then (fresh outer t) (λ _. fresh names t)

-- with one more step, which has this name
abbrev pub with_step : Inside → List ℕ → PayloadStep → Inside
with_step s name p = record { names = s.names ++ entry name (Local (args.Step (length s.steps)) p.ty) ∷ []; steps = s.steps ++ p ∷ [] }

abbrev pub constant_step : ElemTy → ℕ → PayloadStep
constant_step e v = record { ty = e; op = ops.Const v }

-- A scalar constant of the function that is used becomes a step, under its name. No other value of the function is read here.
-- `more` steps are counted beside those so far: the step that uses it, or none.
abbrev pub brought : ℕ → Inside → TokenShape → Option Meaning → Result (Inside × (Arg × ElemTy)) Fault
brought more s t None = Err (UnknownName t.start)
brought more s t (Some (Held n ty)) = Err (Unsupported t.start)
brought more s t (Some (Constant n e v)) =
    and_then (demand (nat_lt (length s.steps + more) 1024) (Limit limits.PayloadSteps t.start)) (λ _. Ok (with_step s t.text (constant_step e v), (args.Step (length s.steps), e)))
brought more s t (Some (Local a e)) = Err (UnknownName t.start)

abbrev pub argument_by : List Entry → ℕ → Inside → TokenShape → Option Meaning → Result (Inside × (Arg × ElemTy)) Fault
argument_by outer more s t None = brought more s t (find outer t.text)
argument_by outer more s t (Some (Local a e)) = Ok (s, (a, e))
argument_by outer more s t (Some (Held n ty)) = Err (UnknownName t.start)
argument_by outer more s t (Some (Constant n e v)) = Err (UnknownName t.start)

-- an argument of the block, an earlier step, or a constant of the function, which becomes a step where it isn't one yet
abbrev pub argument : List Entry → ℕ → Inside → TokenShape → Result (Inside × (Arg × ElemTy)) Fault
argument outer more s t = argument_by outer more s t (find s.names t.text)

-- ---- operations

abbrev pub named : {A : Type 0} → ℕ → Option A → Result A Fault
named at None = Err (Syntax at)
named at (Some x) = Ok x

-- both operands have the type that is written
abbrev pub binary_of : List Entry → Inside → BinaryStep → Result (Inside × PayloadStep) Fault
binary_of outer s b =
    and_then (named b.name.start (named_binary b.name.text)) (λ op.
    and_then (argument outer 1 s b.left) (λ x. and_then (argument outer 1 x.0 b.right) (λ y.
    and_then (same_elem x.1.1 b.ty) (λ _. and_then (same_elem y.1.1 b.ty) (λ _.
    Ok (y.0, record { ty = x.1.1; op = ops.Binary op x.1.0 y.1.0 }))))))

-- both operands have the type that is written; the result is i1
abbrev pub compare_of : List Entry → Inside → CompareStep → Result (Inside × PayloadStep) Fault
compare_of outer s c =
    and_then (named c.predicate.start (named_predicate c.predicate.text)) (λ p.
    and_then (argument outer 1 s c.left) (λ x. and_then (argument outer 1 x.0 c.right) (λ y.
    and_then (same_elem x.1.1 c.ty) (λ _. and_then (same_elem y.1.1 c.ty) (λ _.
    Ok (y.0, record { ty = Int 1; op = ops.Compare p x.1.0 y.1.0 }))))))

-- the condition is i1, and both other operands have the type that is written
abbrev pub select_of : List Entry → Inside → SelectStep → Result (Inside × PayloadStep) Fault
select_of outer s c =
    and_then (argument outer 1 s c.condition) (λ b. and_then (argument outer 1 b.0 c.chosen) (λ x. and_then (argument outer 1 x.0 c.other) (λ y.
    and_then (same_elem x.1.1 c.ty) (λ _. and_then (same_elem y.1.1 c.ty) (λ _.
    and_then (demand (is_elem b.1.1 (Int 1)) (TypeDiffers c.ty.start)) (λ _.
    Ok (y.0, record { ty = x.1.1; op = ops.Select b.1.0 x.1.0 y.1.0 })))))))

-- the operand, with the type that is written for it
abbrev pub converted : List Entry → Inside → Conversion → Result (Inside × (Arg × ElemTy)) Fault
converted outer s c = and_then (argument outer 1 s c.value) (λ x. and_then (same_elem x.1.1 c.from) (λ _. Ok x))

abbrev pub is_integer : ElemTy → Bool
is_integer (Int w) = true
is_integer IndexType = false

-- an extension goes to a wider type, and a truncation to a narrower one
abbrev pub changes_width : Cast → ElemTy → ElemTy → Bool
changes_width changes.SignExtend from to = is_narrower from to
changes_width changes.ZeroExtend from to = is_narrower from to
changes_width changes.Truncate from to = is_narrower to from

abbrev pub cast_op : Cast → Arg → StepOp
cast_op changes.SignExtend a = ops.SignExtend a
cast_op changes.ZeroExtend a = ops.ZeroExtend a
cast_op changes.Truncate a = ops.Truncate a

-- from an integer type to another
abbrev pub cast_of : List Entry → Inside → TokenShape → Conversion → Result (Inside × PayloadStep) Fault
cast_of outer s name c =
    and_then (named name.start (named_cast name.text)) (λ k.
    and_then (converted outer s c) (λ x. and_then (demand (is_integer x.1.1) (TypeDiffers c.from.start)) (λ _.
    and_then (elem_at c.to) (λ to. and_then (demand (changes_width k x.1.1 to) (TypeDiffers c.to.start)) (λ _.
    Ok (x.0, record { ty = to; op = cast_op k x.1.0 }))))))

-- exactly one of the types is index
abbrev pub index_cast_of : List Entry → Inside → Conversion → Result (Inside × PayloadStep) Fault
index_cast_of outer s c =
    and_then (converted outer s c) (λ x. and_then (elem_at c.to) (λ to. and_then (demand (is_cast (Some x.1.1) to) (TypeDiffers c.to.start)) (λ _.
    Ok (x.0, record { ty = to; op = ops.IndexCast x.1.0 }))))

-- a dimension lies from 0 to 1,048,576; which ones the operation has is no matter of reading
abbrev pub index_of : Inside → TokenShape → Result (Inside × PayloadStep) Fault
index_of s d = and_then (demand (nat_le (digits_value d.text) 1048576) (Number d.start d.start)) (λ _. Ok (s, record { ty = IndexType; op = ops.Index (digits_value d.text) }))

-- ---- affine.apply

-- the operands in brackets
abbrev pub symbol_operands : Option ApplySymbols → List ApplyOperand
symbol_operands None = []
symbol_operands (Some b) = b.operands

-- the map has a dimension for each operand, those in brackets counted with the others
abbrev pub fits_operands : MapShape → ApplyStep → Bool
fits_operands m a = m.dims == length a.operands + length (symbol_operands a.symbols)

abbrev pub only : List Expr → Option Expr
only [] = None
only (e ∷ []) = Some e
only (e ∷ f ∷ es) = None

-- a map that is applied has one result
abbrev pub one_result : ℕ → Option Expr → Result Expr Fault
one_result at None = Err (Unsupported at)
one_result at (Some e) = Ok e

-- Where reading stopped, if more operands might have followed: behind a closed bracket none do.
abbrev pub stop_of : Option ApplySymbols → Option ℕ → Option ℕ
stop_of None stop = stop
stop_of (Some b) None = None
stop_of (Some b) (Some stop) = if nat_lt b.close.start stop then None else Some stop

-- A wrong number of operands is a fault of the map. Where reading stopped behind the operands that there are, more may have
-- been meant: then it is none before the stop.
abbrev pub fault_of_map : Option ℕ → Bool → ℕ → Result (Unit {0}) Fault
fault_of_map None fits at = demand fits (Unsupported at)
fault_of_map (Some stop) fits at = Ok tt

abbrev pub fault_at_stop : Option ℕ → Bool → Result (Unit {0}) Fault
fault_at_stop None fits = Ok tt
fault_at_stop (Some stop) fits = demand fits (Syntax stop)

-- an operand has type index
abbrev pub index_argument : List Entry → Inside → ApplyOperand → Result (Inside × Arg) Fault
index_argument outer s o =
    and_then (argument outer 1 s o.name) (λ x. and_then (demand (is_elem x.1.1 IndexType) (TypeDiffers o.name.start)) (λ _. Ok (x.0, x.1.0)))

-- the operands, those in brackets behind the others
abbrev pub apply_arguments : List Entry → Inside → ApplyStep → Result (Inside × List Arg) Fault
apply_arguments outer s a =
    and_then (thread (index_argument outer) s a.operands) (λ x. and_then (thread (index_argument outer) x.0 (symbol_operands a.symbols)) (λ y. Ok (y.0, x.1 ++ y.1)))

-- a dimension's argument with its coefficient
abbrev pub term_on : List Arg → ℕ × ℤ → Arg × ℤ
term_on arguments t = (get_or arguments t.0 args.Out, t.1)

-- a map's result on these arguments, with one term for each dimension that it has
abbrev pub linear : Expr → List Arg → PayloadStep
linear e arguments = record { ty = IndexType; op = ops.Linear e.constant (map (term_on arguments) e.terms) }

-- `stop` is where reading stopped, if it did so before what follows the step
abbrev pub apply_of : List AliasShape → List Entry → Option ℕ → Inside → ApplyStep → Result (Inside × PayloadStep) Fault
apply_of aliases outer stop s a =
    and_then (map_with_symbols aliases a.map) (λ m. and_then (one_result (use_start a.map) (only m.results)) (λ e.
    and_then (fault_of_map (stop_of a.symbols stop) (fits_operands m a) (use_start a.map)) (λ _. and_then (apply_arguments outer s a) (λ r.
    and_then (fault_at_stop (stop_of a.symbols stop) (fits_operands m a)) (λ _. Ok (r.0, linear e r.1))))))

-- ---- one of the operations

abbrev pub operation_of : List AliasShape → List Entry → Option ℕ → Inside → StepOperation → Result (Inside × PayloadStep) Fault
operation_of aliases outer stop s (operations.Constant c) = and_then (literal_of c.literal) (λ x. Ok (s, constant_step x.0 x.1))
operation_of aliases outer stop s (operations.Binary b) = binary_of outer s b
operation_of aliases outer stop s (operations.Compare c) = compare_of outer s c
operation_of aliases outer stop s (operations.Select c) = select_of outer s c
operation_of aliases outer stop s (operations.IndexCast c) = index_cast_of outer s c.conversion
operation_of aliases outer stop s (operations.Index i) = index_of s i.dimension
operation_of aliases outer stop s (operations.Apply a) = apply_of aliases outer stop s a
operation_of aliases outer stop s (operations.Cast c) = cast_of outer s c.name c.conversion

abbrev pub name_in : StepOperation → TokenShape
name_in (operations.Constant c) = c.name
name_in (operations.Binary b) = b.name
name_in (operations.Compare c) = c.name
name_in (operations.Select c) = c.name
name_in (operations.IndexCast c) = c.name
name_in (operations.Index i) = i.name
name_in (operations.Apply a) = a.name
name_in (operations.Cast c) = c.name

-- ---- steps

-- one more step is within the limit
abbrev pub room : Inside → TokenShape → Result (Unit {0}) Fault
room s t = demand (nat_lt (length s.steps) 1024) (Limit limits.PayloadSteps t.start)

-- the next step, which has its name behind it
abbrev pub step_of : List AliasShape → List Entry → Option ℕ → Inside → Step → Result Inside Fault
step_of aliases outer stop s t =
    and_then (fresh_in outer s.names t.result) (λ _. and_then (room s (name_in t.operation)) (λ _. and_then (operation_of aliases outer stop s t.operation) (λ r. Ok (with_step r.0 t.result.text r.1))))

-- reading has not stopped before a next step
abbrev pub stop_behind : Option ℕ → List Step → Option ℕ
stop_behind stop [] = stop
stop_behind stop (t ∷ ts) = None

-- `stop` is where reading stopped, if it did so before what follows the steps
abbrev pub steps_of : List AliasShape → List Entry → Option ℕ → Inside → List Step → Result Inside Fault
steps_of aliases outer stop s [] = Ok s
steps_of aliases outer stop s (t ∷ ts) = and_then (step_of aliases outer (stop_behind stop ts) s t) (λ n. steps_of aliases outer stop n ts)
