-- What a new row changes, and what each row keeps.
use Rattle.std.proofs.Common.{◌≡◌, ◌<◌, ◌≤◌, ◌^◌, ℕ, ◌+◌, ◌*◌, suc, Bool, true, false, cond, List, [], ◌∷◌, ◌++◌, length, map, Option, Some, None, refl, sym, ap, subst, ◌∙◌, arith, nat_eq}
use Rattle.mlir_base.specs.declared.types.ElemTy.{ElemTy}
use Rattle.mlir_ir.specs.declared.tree.Ty.{Ty}
use Rattle.mlir_ir.specs.declared.tree.Ty.TheVariants.{Scalar, Tensor, Vector}
use Rattle.mlir_ir.specs.declared.tree.ValueId.{ValueId}
use Rattle.mlir_ir.specs.declared.tree.OpKind.{OpKind}
use Rattle.mlir_ir.specs.declared.tree.OpKind.TheVariants as kinds
use Rattle.mlir_print.specs.declared.names.Given.{Given}
use Rattle.mlir_print.specs.declared.names.Given.TheVariants.{Argument, Result}
use Rattle.mlir_print.specs.Types.{ty_text}
use Rattle.mlir_print.specs.Names.{Names, Row, look, or_before, nothing, with_argument, type_in, type_or}
use Rattle.mlir_print.specs.Operations.{inner_args, inner_results, names_after}
use Rattle.mlir_print.specs.Canonical.{after_params}
use Rattle.mlir_roundtrip.specs.Printable.{IsValueType, IsTensorType, IsTensor, IsDefined, IsTensorValue, row_in, row_or, IsPrintableScalar, IsPrintableConstant, IsPrintableKind, IsPrintableMove, elem_in}

later_if : (b : Bool) (r : Row) (o p : Option Row) → or_before (cond b (Some r) o) p ≡ cond b (Some r) (or_before o p)
later_if true r o p = refl
later_if false r o p = refl

pub look_last : (rows : List Row) (r : Row) (v : ℕ) → look (rows ++ r ∷ []) v ≡ cond (nat_eq r.value v) (Some r) (look rows v)
look_last [] r v = refl
look_last (x ∷ rows) r v = ap (λ o. or_before o (cond (nat_eq x.value v) (Some x) None)) (look_last rows r v) ∙ later_if (nat_eq r.value v) r (look rows v) (cond (nat_eq x.value v) (Some x) None)

abbrev pub IsSmall : Given → Type 0
IsSmall (Argument n) = n < 2 ^ 64
IsSmall (Result n) = n < 2 ^ 64

-- each row's name is small, and its type is a value's
abbrev pub RowsFit : List Row → Type 0
RowsFit rows = (v : ℕ) (x : Row) → look rows v ≡ Some x → IsSmall x.name × IsValueType x.ty

fits_if : (b : Bool) (r : Row) (o : Option Row) → IsSmall r.name × IsValueType r.ty → ((x : Row) → o ≡ Some x → IsSmall x.name × IsValueType x.ty) → (x : Row) → cond b (Some r) o ≡ Some x → IsSmall x.name × IsValueType x.ty
fits_if true r o g f x h = let e : r ≡ x = cc h in subst (λ (y : Row). IsSmall y.name × IsValueType y.ty) e g
fits_if false r o g f x h = f x h

pub rows_fit : (rows : List Row) (r : Row) → RowsFit rows → IsSmall r.name → IsValueType r.ty → RowsFit (rows ++ r ∷ [])
rows_fit rows r f s t v x h = fits_if (nat_eq r.value v) r (look rows v) (s, t) (λ y k. f v y k) x (sym (look_last rows r v) ∙ h)

-- ---- the types of values

pub tensor_value : (ty : Ty) → IsTensorType ty → IsValueType ty
tensor_value (Tensor es w) h = h
tensor_value ty h = absurd h

pub value_tensor : (ty : Ty) → IsValueType ty → IsTensor ty → IsTensorType ty
value_tensor (Tensor es w) h t = h
value_tensor ty h t = absurd t

-- the row of a value that is defined
pub row_there : (rows : List Row) (v : ValueId) (d : IsDefined rows v) → row_in rows v ≡ d.0
row_there rows v d = ap row_or d.1

-- its type
pub defined_type : (rows : List Row) → RowsFit rows → (v : ValueId) → IsDefined rows v → IsValueType (row_in rows v).ty
defined_type rows f v d = subst (λ (r : Row). IsValueType r.ty) (sym (row_there rows v d)) (f v.0 d.0 d.1).1

-- the text of its type
pub type_there : (rows : List Row) (v : ValueId) → IsDefined rows v → type_in rows v ≡ ty_text (row_in rows v).ty
type_there rows v d = ap type_or d.1 ∙ ap (λ (r : Row). ty_text r.ty) (sym (row_there rows v d))

pub tensor_type : (rows : List Row) → RowsFit rows → (v : ValueId) → IsTensorValue rows v → IsTensorType (row_in rows v).ty
tensor_type rows f v t = value_tensor (row_in rows v).ty (defined_type rows f v t.is_defined) t.is_tensor

scalar_type : (e : ElemTy) (cells : List ℕ) → IsPrintableScalar e cells → IsValueType (Scalar e)
scalar_type e [] h = absurd h
scalar_type e (v ∷ []) h = h.0
scalar_type e (v ∷ (u ∷ vs)) h = absurd h

pub constant_type : (ty : Ty) (cells : List ℕ) → IsPrintableConstant ty cells → IsValueType ty
constant_type (Scalar e) cells h = scalar_type e cells h
constant_type (Tensor es w) cells h = h.result
constant_type (Vector ns w) cells h = absurd h

move_type : (rows : List Row) → RowsFit rows → (ty : Ty) (a out : ValueId) (axes : List ℕ) → IsPrintableMove rows ty a out axes → IsTensorType ty
move_type rows f ty a out axes h = subst IsTensorType (sym h.result) (tensor_type rows f out h.output)

-- the type of the result
pub kind_type : (rows : List Row) → RowsFit rows → (ty : Ty) (o : OpKind) → IsPrintableKind rows ty o → IsValueType ty
kind_type rows f ty (kinds.Constant cells) h = constant_type ty cells h
kind_type rows f ty (kinds.Empty sizes) h = tensor_value ty h.1
kind_type rows f ty (kinds.Generic maps its ins out captured p) h = tensor_value ty h.result
kind_type rows f ty (kinds.Fill v out) h = tensor_value ty h.result
kind_type rows f ty (kinds.Matmul a b out) h = tensor_value ty h.result
kind_type rows f ty (kinds.BatchMatmul a b out) h = tensor_value ty h.result
kind_type rows f ty (kinds.Transpose a out order) h = tensor_value ty (move_type rows f ty a out order h)
kind_type rows f ty (kinds.Broadcast a out dims) h = tensor_value ty (move_type rows f ty a out dims h)
kind_type rows f ty k h = absurd h

-- ---- how many names there are behind k operations

pub record Bound (k : ℕ) (n : Names) : Type 0 where
  pub args : n.args ≤ 64 + 65 * k
  pub results : n.results ≤ 1025 * k

pub after_args : (n : Names) (ps : List (ValueId × Ty)) → (after_params n ps).args ≡ n.args + length ps
after_args n [] = omega arith
after_args n (p ∷ ps) = after_args (with_argument n p.0 p.1) ps ∙ omega arith

pub after_results : (n : Names) (ps : List (ValueId × Ty)) → (after_params n ps).results ≡ n.results
after_results n [] = refl
after_results n (p ∷ ps) = after_results (with_argument n p.0 p.1) ps

pub bound_in : (k : ℕ) (ps : List (ValueId × Ty)) → length ps ≤ 64 → Bound k (after_params nothing ps)
bound_in k ps le =
    let a = after_args nothing ps in
    let r = after_results nothing ps in
    record { args = omega arith; results = omega arith }

length_map : {A B : Type 0} (f : A → B) (xs : List A) → length (map f xs) ≡ length xs
length_map f [] = refl
length_map f (x ∷ xs) = ap suc (length_map f xs)

pub inner_few : (rows : List Row) (ty : Ty) (k : OpKind) → IsPrintableKind rows ty k → (inner_args k ≤ 65) × (inner_results k ≤ 1024)
inner_few rows ty (kinds.Generic maps its ins out captured p) f =
    let e : length p.ins ≡ length ins = ap length f.ins_typed ∙ length_map (elem_in rows) ins in
    let few = f.few in
    let steps = f.few_steps in
    (omega arith, omega arith)
inner_few rows ty (kinds.Constant cells) f = (omega arith, omega arith)
inner_few rows ty (kinds.Empty sizes) f = (omega arith, omega arith)
inner_few rows ty (kinds.Fill v out) f = (omega arith, omega arith)
inner_few rows ty (kinds.Matmul a b out) f = (omega arith, omega arith)
inner_few rows ty (kinds.BatchMatmul a b out) f = (omega arith, omega arith)
inner_few rows ty (kinds.Transpose a out order) f = (omega arith, omega arith)
inner_few rows ty (kinds.Broadcast a out dims) f = (omega arith, omega arith)
inner_few rows ty k f = absurd f

pub bound_next : (k : ℕ) (n : Names) (r : ValueId × Ty) (o : OpKind) → Bound k n → IsPrintableKind n.rows r.1 o → Bound (k + 1) (names_after n (r ∷ []) o)
bound_next k n r o b f =
    let i = inner_few n.rows r.1 o f in
    let a = b.args in
    let c = b.results in
    record { args = omega (arith, i.0); results = omega (arith, i.1) }
