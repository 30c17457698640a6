-- What the names of results stand for: a scalar constant has a value that some literal has.
use Rattle.std.proofs.Common.{◌≡◌, ℕ, Bool, true, false, List, [], ◌∷◌, subst, Ok, refl}
use Rattle.mlir_ir.specs.declared.tree.Ty.{Ty}
use Rattle.mlir_ir.specs.declared.tree.Ty.TheVariants.{Scalar, Tensor, Vector}
use Rattle.mlir_ir.specs.declared.tree.ValueId.{ValueId}
use Rattle.mlir_ir.specs.declared.tree.OpKind.{OpKind}
use Rattle.mlir_ir.specs.declared.tree.OpKind.TheVariants as kinds
use Rattle.mlir_syntax.specs.declared.tree.constants.Literal.{Literal}
use Rattle.mlir_syntax.specs.declared.tree.constants.Literal.TheVariants as literals
use Rattle.mlir_syntax.specs.declared.tree.constants.DenseLiteral.{DenseLiteral}
use Rattle.mlir_syntax.specs.declared.tree.literals.ScalarLiteral.{ScalarLiteral}
use Rattle.mlir_syntax.specs.declared.tree.structured.Factors.{Factors}
use Rattle.mlir_syntax.specs.declared.tree.operations.Operation.{Operation}
use Rattle.mlir_syntax.specs.declared.tree.operations.Operation.TheVariants as operations
use Rattle.mlir_resolve.specs.declared.dense.Mark.{Mark}
use Rattle.mlir_resolve.specs.declared.dense.Wanted.TheVariants.{Whole}
use Rattle.mlir_lex.specs.Chain.{each}
use Rattle.mlir_scope.specs.Names.{Entry}
use Rattle.mlir_scope.specs.Types.{type_at}
use Rattle.mlir_scope.specs.Scope.{IsHeld}
use Rattle.mlir_scope.specs.Literals.{literal_of}
use Rattle.mlir_resolve.specs.Constants.{constant, of_integer, scalar_of, nested_from, elements_width, elements_from, shape_marks, cells_in, dense_of, constant_of, result_meaning}
use Rattle.mlir_scope.specs.Maps.{AliasShape, map_of}
use Rattle.mlir_resolve.specs.Generics.{iterators_from, operands_of, generic_with}
use Rattle.mlir_payload.specs.Payload.{payload_of}
use Rattle.mlir_resolve.specs.Structured.{axis_of, typed_id, output_of, factors_of, product_of, moved_of}
use Rattle.mlir_resolve.specs.Operations.{kind_of}
use Rattle.mlir_scope.proofs.Keeps.{then_ok, ok_same}
use Rattle.mlir_scope.proofs.Ranges.{literal_is}

abbrev Fits : ℕ → Ty × OpKind → Type 0
Fits n k = IsHeld (result_meaning n k.0 k.1)

abbrev is_constant : OpKind → Bool
is_constant (kinds.Constant cells) = true
is_constant k = false

other : (n : ℕ) (ty : Ty) (k : OpKind) → is_constant k ≡ false → Fits n (ty, k)
other n (Scalar e) (kinds.Constant cells) h = absurd (cc h)
other n (Scalar e) k h = tt
other n (Tensor es w) k h = tt
other n (Vector es w) k h = tt

scalar_fits : (n : ℕ) (s : ScalarLiteral) (k : Ty × OpKind) → scalar_of s ≡ Ok k → Fits n k
scalar_fits n s k h =
    let a = then_ok (of_integer s) _ k h in
    let b = then_ok (literal_of s) _ k a.2 in
    subst (λ x. Fits n x) (ok_same (constant (Scalar b.0.0) (b.0.1 ∷ [])) k b.2) (literal_is s b.0 b.1)

tensor_fits : (n at : ℕ) (ty : Ty) (cs : List ℕ) (ms : List Mark) (cells : List ℕ) → cells_in at ty cs ms ≡ Ok cells → Fits n (constant ty cells)
tensor_fits n at (Scalar e) cs ms cells h = absurd (cc h)
tensor_fits n at (Tensor es w) cs ms cells h = tt
tensor_fits n at (Vector es w) cs ms cells h = tt

dense_fits : (n : ℕ) (d : DenseLiteral) (k : Ty × OpKind) → dense_of d ≡ Ok k → Fits n k
dense_fits n d k h =
    let a = then_ok (nested_from d.greater Whole 0 d.tokens) _ k h in
    let b = then_ok (elements_width d.ty) _ k a.2 in
    let c = then_ok (elements_from b.0 d.ty.start _ d.tokens) _ k b.2 in
    let e = then_ok (type_at d.ty) _ k c.2 in
    let f = then_ok (cells_in d.ty.start e.0 c.0 (shape_marks d.tokens)) _ k e.2 in
    subst (λ x. Fits n x) (ok_same (constant e.0 f.0) k f.2) (tensor_fits n d.ty.start e.0 c.0 (shape_marks d.tokens) f.0 f.1)

constant_fits : (n : ℕ) (l : Literal) (k : Ty × OpKind) → constant_of l ≡ Ok k → Fits n k
constant_fits n (literals.Dense d) k h = dense_fits n d k h
constant_fits n (literals.Scalar s) k h = scalar_fits n s k h

product_fits : (n : ℕ) (kind : ValueId → ValueId → ValueId → OpKind) → ((a b o : ValueId) → is_constant (kind a b o) ≡ false) → (env : List Entry) (f : Factors) (k : Ty × OpKind) → product_of kind env f ≡ Ok k → Fits n k
product_fits n kind p env f k h =
    let a = then_ok (factors_of env f) _ k h in
    let b = then_ok (type_at f.result_type) _ k a.2 in
    subst (λ x. Fits n x) (ok_same (b.0, kind a.0.0 a.0.1.0 a.0.1.1) k b.2) (other n b.0 (kind a.0.0 a.0.1.0 a.0.1.1) (p a.0.0 a.0.1.0 a.0.1.1))

-- each operation that is read
pub kind_fits : (aliases : List AliasShape) (env : List Entry) (n : ℕ) (o : Operation) (k : Ty × OpKind) → kind_of aliases env o ≡ Ok k → Fits n k
unfolding kind_of
kind_fits aliases env n (operations.Constant c) k h = constant_fits n c.literal k h
kind_fits aliases env n (operations.Empty e) k h =
    let a = then_ok (type_at e.ty) _ k h in
    subst (λ x. Fits n x) (ok_same (a.0, kinds.Empty []) k a.2) (other n a.0 (kinds.Empty []) refl)
kind_fits aliases env n (operations.Generic g) k h =
    let a = then_ok (each (map_of aliases) g.maps) _ k h in
    let b = then_ok (iterators_from 0 g.iterators) _ k a.2 in
    let c = then_ok (operands_of env g.operands) _ k b.2 in
    let d = then_ok (payload_of aliases env _ c.0.1.1 g.region) _ k c.2 in
    let e = then_ok (type_at g.result_type) _ k d.2 in
    subst (λ x. Fits n x) (ok_same (e.0, generic_with a.0 b.0 c.0.0 c.0.1.0 d.0) k e.2) (other n e.0 (generic_with a.0 b.0 c.0.0 c.0.1.0 d.0) refl)
kind_fits aliases env n (operations.Fill f) k h =
    let a = then_ok (typed_id env f.value f.value_type) _ k h in
    let b = then_ok (output_of env f.output) _ k a.2 in
    let c = then_ok (type_at f.result_type) _ k b.2 in
    subst (λ x. Fits n x) (ok_same (c.0, kinds.Fill a.0 b.0) k c.2) (other n c.0 (kinds.Fill a.0 b.0) refl)
kind_fits aliases env n (operations.Matmul m) k h = product_fits n kinds.Matmul (λ a b o. refl) env m.factors k h
kind_fits aliases env n (operations.BatchMatmul m) k h = product_fits n kinds.BatchMatmul (λ a b o. refl) env m.factors k h
kind_fits aliases env n (operations.Transpose t) k h =
    let a = then_ok (moved_of env t.operands) _ k h in
    let b = then_ok (each axis_of t.axes) _ k a.2 in
    subst (λ x. Fits n x) (ok_same (a.0.1.1, kinds.Transpose a.0.0 a.0.1.0 b.0) k b.2) (other n a.0.1.1 (kinds.Transpose a.0.0 a.0.1.0 b.0) refl)
kind_fits aliases env n (operations.Broadcast t) k h =
    let a = then_ok (moved_of env t.operands) _ k h in
    let b = then_ok (each axis_of t.axes) _ k a.2 in
    subst (λ x. Fits n x) (ok_same (a.0.1.1, kinds.Broadcast a.0.0 a.0.1.0 b.0) k b.2) (other n a.0.1.1 (kinds.Broadcast a.0.0 a.0.1.0 b.0) refl)
