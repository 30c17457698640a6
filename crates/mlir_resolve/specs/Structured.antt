-- What a structured operation that has a name of its own stands for, or its first fault: one chain in the order of the tokens.
use Rattle.std.specs.Prelude.{ℕ, Bool, true, false, nat_le, ◌==◌, List, Result, Ok}
use Rattle.mlir_ir.specs.declared.tree.Ty.{Ty}
use Rattle.mlir_ir.specs.declared.tree.ValueId.{ValueId}
use Rattle.mlir_ir.specs.declared.tree.OpKind.{OpKind}
use Rattle.mlir_ir.specs.declared.tree.OpKind.TheVariants as kinds
use Rattle.text_format.specs.Token.{TokenShape}
use Rattle.mlir_syntax.specs.declared.tree.literals.SignedNumber.{SignedNumber}
use Rattle.mlir_syntax.specs.declared.tree.generics.Output.{Output}
use Rattle.mlir_syntax.specs.declared.tree.structured.Fill.{Fill}
use Rattle.mlir_syntax.specs.declared.tree.structured.Factors.{Factors}
use Rattle.mlir_syntax.specs.declared.tree.structured.SourceAndOutput.{SourceAndOutput}
use Rattle.mlir_syntax.specs.declared.tree.structured.Transpose.{Transpose}
use Rattle.mlir_syntax.specs.declared.tree.structured.Broadcast.{Broadcast}
use Rattle.mlir_lex.specs.declared.fault.Fault.{Fault}
use Rattle.mlir_lex.specs.declared.fault.Fault.TheVariants.{Number}
use Rattle.mlir_lex.specs.Chain.{and_then, demand, each}
use Rattle.mlir_scope.specs.Names.{Entry}
use Rattle.mlir_scope.specs.Types.{type_at}
use Rattle.mlir_scope.specs.Literals.{digits_value, is_negative, place_of_number}
use Rattle.mlir_scope.specs.Scope.{value_id, type_of, typed_as}

-- an axis or an entry of an order lies from 0 to 1,048,576
abbrev pub is_axis : Bool → ℕ → Bool
is_axis false n = nat_le n 1048576
is_axis true n = n == 0

abbrev pub axis_of : SignedNumber → Result ℕ Fault
axis_of n = and_then (demand (is_axis (is_negative n.sign) (digits_value n.digits.text)) (Number (place_of_number n) (place_of_number n))) (λ _. Ok (digits_value n.digits.text))

-- a value that is written with its type
abbrev pub typed_id : List Entry → TokenShape → TokenShape → Result ValueId Fault
typed_id env name ty = and_then (value_id env name) (λ v. and_then (typed_as env name ty) (λ _. Ok v))

abbrev pub output_of : List Entry → Output → Result ValueId Fault
output_of env o = typed_id env o.name o.ty

abbrev pub fill_of : List Entry → Fill → Result (Ty × OpKind) Fault
fill_of env f = and_then (typed_id env f.value f.value_type) (λ v. and_then (output_of env f.output) (λ o. and_then (type_at f.result_type) (λ ty. Ok (ty, kinds.Fill v o))))

-- the factors, and the output
abbrev pub factors_of : List Entry → Factors → Result (ValueId × (ValueId × ValueId)) Fault
factors_of env f =
    and_then (value_id env f.left) (λ a. and_then (value_id env f.right) (λ b. and_then (typed_as env f.left f.left_type) (λ _. and_then (typed_as env f.right f.right_type) (λ _.
    and_then (output_of env f.output) (λ o. Ok (a, (b, o)))))))

abbrev pub product_of : (ValueId → ValueId → ValueId → OpKind) → List Entry → Factors → Result (Ty × OpKind) Fault
product_of kind env f = and_then (factors_of env f) (λ x. and_then (type_at f.result_type) (λ ty. Ok (ty, kind x.0 x.1.0 x.1.1)))

-- the source, the output, and the output's type, which is the result's
abbrev pub moved_of : List Entry → SourceAndOutput → Result (ValueId × (ValueId × Ty)) Fault
moved_of env s = and_then (typed_id env s.source s.source_type) (λ a. and_then (output_of env s.output) (λ o. and_then (type_of env s.output.name) (λ ty. Ok (a, (o, ty)))))

abbrev pub transpose_of : List Entry → Transpose → Result (Ty × OpKind) Fault
transpose_of env t = and_then (moved_of env t.operands) (λ x. and_then (each axis_of t.axes) (λ order. Ok (x.1.1, kinds.Transpose x.0 x.1.0 order)))

abbrev pub broadcast_of : List Entry → Broadcast → Result (Ty × OpKind) Fault
broadcast_of env b = and_then (moved_of env b.operands) (λ x. and_then (each axis_of b.axes) (λ dims. Ok (x.1.1, kinds.Broadcast x.0 x.1.0 dims)))
