-- What a generic operation of a tree stands for, or its first fault (Linalg dialect, "linalg.generic"): one chain in the order of the tokens.
use Rattle.std.specs.Prelude.{ℕ, suc, Bool, true, false, List, [], ◌∷◌, map, length, codes, Result, Ok, Err, Option, Some, None, nat_lt}
use Rattle.std.specs.Str.{bytes_eq}
use Rattle.mlir_base.specs.declared.types.ElemTy.{ElemTy}
use Rattle.payload_ops.specs.Shape.{PayloadShape}
use Rattle.affine_maps.specs.Shape.{MapShape}
use Rattle.mlir_ir.specs.declared.tree.Ty.{Ty}
use Rattle.mlir_ir.specs.declared.tree.ValueId.{ValueId}
use Rattle.mlir_ir.specs.declared.tree.Iter.{Iter}
use Rattle.mlir_ir.specs.declared.tree.Iter.TheVariants.{Parallel, Reduction}
use Rattle.mlir_ir.specs.declared.tree.OpKind.{OpKind}
use Rattle.mlir_ir.specs.declared.tree.OpKind.TheVariants as kinds
use Rattle.mlir_base.specs.declared.limit.Which.TheVariants as limits
use Rattle.text_format.specs.Token.{TokenShape}
use Rattle.mlir_syntax.specs.declared.tree.generics.IteratorType.{IteratorType}
use Rattle.mlir_syntax.specs.declared.tree.generics.NextInput.{NextInput}
use Rattle.mlir_syntax.specs.declared.tree.generics.NextType.{NextType}
use Rattle.mlir_syntax.specs.declared.tree.generics.Inputs.{Inputs}
use Rattle.mlir_syntax.specs.declared.tree.generics.Output.{Output}
use Rattle.mlir_syntax.specs.declared.tree.generics.Operands.{Operands}
use Rattle.mlir_syntax.specs.declared.tree.generics.Generic.{Generic}
use Rattle.mlir_lex.specs.declared.fault.Fault.{Fault}
use Rattle.mlir_lex.specs.declared.fault.Fault.TheVariants.{Syntax, Limit}
use Rattle.mlir_lex.specs.Chain.{and_then, demand, each}
use Rattle.mlir_scope.specs.Names.{Entry}
use Rattle.mlir_scope.specs.Maps.{AliasShape, map_of}
use Rattle.mlir_scope.specs.Types.{type_at}
use Rattle.mlir_scope.specs.Scope.{typed_as, operand_of}
use Rattle.mlir_payload.specs.Payload.{payload_of}

-- ---- iterators

abbrev pub iterator_in : Bool → Iter
iterator_in true = Parallel
iterator_in false = Reduction

-- iterator k
abbrev pub iterator_of : ℕ → IteratorType → Result Iter Fault
iterator_of k i = and_then (demand (nat_lt k 12) (Limit limits.Loops i.word.start)) (λ _. Ok (iterator_in (bytes_eq i.word.text (codes "\"parallel\""))))

-- from number k on
abbrev pub iterators_from : ℕ → List IteratorType → Result (List Iter) Fault
iterators_from k [] = Ok []
iterators_from k (i ∷ is) = and_then (iterator_of k i) (λ x. and_then (iterators_from (suc k) is) (λ xs. Ok (x ∷ xs)))

-- ---- operands

abbrev pub more_inputs : List Entry → ℕ → List NextInput → Result (List (ValueId × ElemTy)) Fault
more_inputs env k [] = Ok []
more_inputs env k (n ∷ ns) = and_then (operand_of env k n.name) (λ v. and_then (more_inputs env (suc k) ns) (λ vs. Ok (v ∷ vs)))

abbrev pub inputs_of : List Entry → Inputs → Result (List (ValueId × ElemTy)) Fault
inputs_of env i = and_then (operand_of env 0 i.first) (λ v. and_then (more_inputs env 1 i.more) (λ vs. Ok (v ∷ vs)))

-- the types behind the first, one for each input; `close` ends them
abbrev pub more_types : TokenShape → List Entry → List NextInput → List NextType → Result (Unit {0}) Fault
more_types close env [] [] = Ok tt
more_types close env [] (t ∷ ts) = Err (Syntax t.comma.start)
more_types close env (n ∷ ns) [] = Err (Syntax close.start)
more_types close env (n ∷ ns) (t ∷ ts) = and_then (typed_as env n.name t.ty) (λ _. more_types close env ns ts)

abbrev pub input_types : List Entry → Inputs → Result (Unit {0}) Fault
input_types env i = and_then (typed_as env i.first i.types.first) (λ _. more_types i.types.close env i.more i.types.more)

unfoldable pub typed_inputs : List Entry → Option Inputs → Result (List (ValueId × ElemTy)) Fault
typed_inputs env None = Ok []
typed_inputs env (Some i) = and_then (inputs_of env i) (λ ins. and_then (input_types env i) (λ _. Ok ins))

-- the output, operand k
abbrev pub typed_output : List Entry → ℕ → Output → Result (ValueId × ElemTy) Fault
typed_output env k o = and_then (operand_of env k o.name) (λ out. and_then (typed_as env o.name o.ty) (λ _. Ok out))

-- the inputs and the output
abbrev pub operands_of : List Entry → Operands → Result (List (ValueId × ElemTy) × (ValueId × ElemTy)) Fault
operands_of env o = and_then (typed_inputs env o.inputs) (λ ins. and_then (typed_output env (length ins) o.output) (λ out. Ok (ins, out)))

-- ---- the operation

-- the operation on these inputs and this output; nothing is captured
abbrev pub generic_with : List MapShape → List Iter → List (ValueId × ElemTy) → ValueId → PayloadShape → OpKind
generic_with maps iterators ins out payload = kinds.Generic maps iterators (map (λ v. v.0) ins) out [] payload

-- the type of the result, and the operation
abbrev pub generic_of : List AliasShape → List Entry → Generic → Result (Ty × OpKind) Fault
generic_of aliases env g =
    and_then (each (map_of aliases) g.maps) (λ maps.
    and_then (iterators_from 0 g.iterators) (λ iterators.
    and_then (operands_of env g.operands) (λ o.
    and_then (payload_of aliases env (map (λ v. v.1) o.0) o.1.1 g.region) (λ p.
    and_then (type_at g.result_type) (λ ty.
    Ok (ty, generic_with maps iterators o.0 o.1.0 p))))))
