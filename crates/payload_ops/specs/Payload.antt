-- Which parts make a payload: the types that its steps and its result have
-- (Linalg manual, "linalg.generic"; Arith manual, the operands of each operation).
use Rattle.std.specs.Prelude.{ℕ, ℤ, ◌^◌, Bool, true, false, ◌&&◌, nat_lt, ◌==◌, IsTrue, List, [], ◌∷◌, ◌++◌, Option, Some, None, slice_get, not}
use Rattle.std.specs.List.{list_all}
use Rattle.std.specs.Option.{option_map}
use Rattle.mlir_base.specs.Types.{is_value, is_elem}
use Rattle.mlir_base.specs.Numbers.{is_in_range, is_coefficient}
use Rattle.payload_ops.specs.Shape.{PayloadShape}
use Rattle.mlir_base.specs.declared.types.ElemTy.{ElemTy}
use Rattle.mlir_base.specs.declared.types.ElemTy.TheVariants.{Int, Index as IndexType}
use Rattle.payload_ops.specs.declared.step.Arg.{Arg}
use Rattle.payload_ops.specs.declared.step.Arg.TheVariants.{Input, Out, Step}
use Rattle.payload_ops.specs.declared.step.PayloadStep.{PayloadStep}
use Rattle.payload_ops.specs.declared.step.StepOp.{StepOp}
use Rattle.payload_ops.specs.declared.step.StepOp.TheVariants.{Const, Index, Captured, Linear, Binary, Compare, Select, SignExtend, ZeroExtend, Truncate, IndexCast}

-- the type of what an argument names, where it names anything
abbrev pub arg_type : List ElemTy → ElemTy → List PayloadStep → Arg → Option ElemTy
arg_type ins out earlier (Input k) = slice_get ins k
arg_type ins out earlier Out = Some out
arg_type ins out earlier (Step k) = option_map (λ (s : PayloadStep). s.ty) (slice_get earlier k)

-- the argument names something, and that has this type
abbrev pub has_type : Option ElemTy → ElemTy → Bool
has_type None t = false
has_type (Some found) t = is_elem found t

abbrev pub have_one_type : Option ElemTy → Option ElemTy → Bool
have_one_type None b = false
have_one_type (Some t) b = has_type b t

-- both are integer types, and the first has fewer bits
abbrev pub is_narrower : ElemTy → ElemTy → Bool
is_narrower (Int v) (Int w) = nat_lt v w
is_narrower (Int v) IndexType = false
is_narrower IndexType t = false

-- to a wider type
abbrev pub is_widening : Option ElemTy → ElemTy → Bool
is_widening None t = false
is_widening (Some found) t = is_narrower found t

-- to a narrower type
abbrev pub is_narrowing : Option ElemTy → ElemTy → Bool
is_narrowing None t = false
is_narrowing (Some found) t = is_narrower t found

-- exactly one side is `index`
abbrev pub is_cast : Option ElemTy → ElemTy → Bool
is_cast None t = false
is_cast (Some (Int v)) t = is_elem t IndexType
is_cast (Some IndexType) t = not (is_elem t IndexType)

-- a term of a linear step: an `index` argument times a coefficient
abbrev pub term_fits : (Arg → Option ElemTy) → Arg × ℤ → Bool
term_fits at term = has_type (at term.0) IndexType && is_coefficient term.1

-- an operation whose value has type t, where `at` gives the types of arguments
abbrev pub op_fits : (Arg → Option ElemTy) → ElemTy → StepOp → Bool
op_fits at t (Const v) = is_value t v
op_fits at t (Index k) = is_elem t IndexType
op_fits at t (Captured k) = is_elem t IndexType
op_fits at t (Linear constant terms) = is_elem t IndexType && is_in_range constant && list_all (term_fits at) terms
op_fits at t (Binary op a b) = has_type (at a) t && has_type (at b) t
op_fits at t (Compare p a b) = is_elem t (Int 1) && have_one_type (at a) (at b)
op_fits at t (Select c a b) = has_type (at c) (Int 1) && has_type (at a) t && has_type (at b) t
op_fits at t (SignExtend a) = is_widening (at a) t
op_fits at t (ZeroExtend a) = is_widening (at a) t
op_fits at t (Truncate a) = is_narrowing (at a) t
op_fits at t (IndexCast a) = is_cast (at a) t

-- each step fits those before it, which are `earlier` and then the front of the list
abbrev pub steps_fit : List ElemTy → ElemTy → List PayloadStep → List PayloadStep → Bool
steps_fit ins out [] earlier = true
steps_fit ins out (s ∷ rest) earlier = op_fits (arg_type ins out earlier) s.ty s.op && steps_fit ins out rest (earlier ++ s ∷ [])

-- the parts of a payload fit together
abbrev pub payload_fits : PayloadShape → Bool
payload_fits p = steps_fit p.ins p.out p.steps [] && has_type (arg_type p.ins p.out p.steps p.yielded) p.out

abbrev pub IsPayload : PayloadShape → Type 0
IsPayload p = IsTrue (payload_fits p)
