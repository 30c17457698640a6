-- The types of values by the rows of a text, beside those by the definitions in scope.
use Rattle.std.proofs.Common.{◌≡◌, ℕ, ◌==◌, Bool, true, false, cond, List, [], ◌∷◌, ◌++◌, append_assoc, Option, Some, None, refl, ap, sym, subst, ◌∙◌, nat_eq}
use Rattle.std.specs.Prelude.{if◌then◌else◌}
use Rattle.mlir_base.specs.declared.types.ElemTy.TheVariants.{Index}
use Rattle.mlir_ir.specs.Count.{first}
use Rattle.mlir_ir.specs.declared.tree.Extent.{Extent}
use Rattle.mlir_ir.specs.declared.tree.Ty.{Ty}
use Rattle.mlir_ir.specs.declared.tree.Ty.TheVariants.{Scalar, Tensor}
use Rattle.mlir_ir.specs.declared.tree.ValueId.{ValueId}
use Rattle.mlir_verify.specs.Place.{type_among}
use Rattle.mlir_verify.proofs.Standing.{type_among-append}
use Rattle.verified_runs.specs.Passes.{Scope}
use Rattle.mlir_scope.specs.Types.{elem_of}
use Rattle.mlir_print.specs.declared.names.Given.{Given}
use Rattle.mlir_print.specs.declared.names.Given.TheVariants.{Argument}
use Rattle.mlir_print.specs.Names.{Names, Row, row_of, look, with_argument}
use Rattle.mlir_print.specs.Canonical.{after_params}
use Rattle.mlir_roundtrip.specs.Printable.{IsValueType, IsTensor, IsScalar, IsDefined, IsTensorValue, IsScalarValue, row_or, row_in, elem_in, ArePrintableParams}
use Rattle.mlir_roundtrip.proofs.Rows.{look_last, tensor_value}

abbrev pub row_type : Option Row → Option Ty
row_type None = None
row_type (Some r) = Some r.ty

-- the type of a value by rows
abbrev pub typed_by : List Row → ℕ → Option Ty
typed_by rows v = row_type (look rows v)

-- rows and definitions in scope give the same types
abbrev pub Agree : List Row → Scope → Type 0
Agree rows scope = (v : ℕ) → typed_by rows v ≡ type_among scope v

-- each type is a value's
abbrev pub AreValues : List Row → Type 0
AreValues rows = (v : ℕ) (T : Ty) → typed_by rows v ≡ Some T → IsValueType T

pub typed_last : (rows : List Row) (r : Row) (v : ℕ) → typed_by (rows ++ r ∷ []) v ≡ cond (nat_eq r.value v) (Some r.ty) (typed_by rows v)
typed_last rows r v = ap row_type (look_last rows r v) ∙ by_test (nat_eq r.value v) where
  by_test : (b : Bool) → row_type (cond b (Some r) (look rows v)) ≡ cond b (Some r.ty) (typed_by rows v)
  by_test true = refl
  by_test false = refl

pub agree_last : (rows : List Row) (scope : Scope) (r : ValueId × Ty) (g : Given) → Agree rows scope → Agree (rows ++ row_of r.0 g r.1 ∷ []) (scope ++ r ∷ [])
agree_last rows scope r g h v = typed_last rows (row_of r.0 g r.1) v ∙ by_test ((r.0).0 == v) (h v) ∙ sym (type_among-append scope (r ∷ []) v) where
  by_test : (b : Bool) → typed_by rows v ≡ type_among scope v → cond b (Some r.1) (typed_by rows v) ≡ first (if b then Some r.1 else None) (type_among scope v)
  by_test true e = refl
  by_test false e = e

pub values_last : (rows : List Row) (r : Row) → AreValues rows → IsValueType r.ty → AreValues (rows ++ r ∷ [])
values_last rows r h k v T e = by_test (nat_eq r.value v) (sym (typed_last rows r v) ∙ e) where
  same : (U : Ty) → Some U ≡ Some T → U ≡ T
  same U q = cc

  by_test : (b : Bool) → cond b (Some r.ty) (typed_by rows v) ≡ Some T → IsValueType T
  by_test true q = subst IsValueType (same r.ty q) k
  by_test false q = h v T q

-- PARAMETERS
pub params_agree : (ps : Scope) (n : Names) (scope : Scope) → Agree n.rows scope → Agree (after_params n ps).rows (scope ++ ps)
params_agree [] n scope h = subst (Agree n.rows) (sym (append_end scope)) h where
  append_end : (xs : Scope) → xs ++ [] ≡ xs
  append_end [] = refl
  append_end (x ∷ xs) = ap (λ ys. x ∷ ys) (append_end xs)
params_agree (p ∷ ps) n scope h =
    subst (Agree (after_params (with_argument n p.0 p.1) ps).rows) (append_assoc scope (p ∷ []) ps)
    (params_agree ps (with_argument n p.0 p.1) (scope ++ p ∷ []) (agree_last n.rows scope p (Argument n.args) h))

pub params_values : (ps : Scope) (n : Names) → AreValues n.rows → ArePrintableParams ps → AreValues (after_params n ps).rows
params_values [] n h k = h
params_values (p ∷ ps) n h k = params_values ps (with_argument n p.0 p.1) (values_last n.rows (row_of p.0 (Argument n.args) p.1) h (tensor_value p.1 k.0)) k.1

-- ONE VALUE
row_there : (o : Option Row) (T : Ty) → row_type o ≡ Some T → (r : Row) × (o ≡ Some r)
row_there None T e = absurd cc
row_there (Some r) T e = (r, refl)

abbrev ty_or : Option Ty → Ty
ty_or None = Scalar Index
ty_or (Some T) = T

or_nobody : (o : Option Row) → (row_or o).ty ≡ ty_or (row_type o)
or_nobody None = refl
or_nobody (Some r) = refl

pub row_typed : (rows : List Row) (v : ValueId) (T : Ty) → typed_by rows v.0 ≡ Some T → (row_in rows v).ty ≡ T
row_typed rows v T e = or_nobody (look rows v.0) ∙ ap ty_or e

pub defined_by_type : (rows : List Row) (v : ValueId) (T : Ty) → typed_by rows v.0 ≡ Some T → IsDefined rows v
defined_by_type rows v T e = row_there (look rows v.0) T e

pub tensor_by_type : (rows : List Row) (v : ValueId) (es : List Extent) (w : ℕ) → typed_by rows v.0 ≡ Some (Tensor es w) → IsTensorValue rows v
tensor_by_type rows v es w e = record { is_defined = defined_by_type rows v (Tensor es w) e; is_tensor = subst IsTensor (sym (row_typed rows v (Tensor es w) e)) tt }

-- the type of a value that is defined
pub defined_typed : (rows : List Row) (v : ValueId) (d : IsDefined rows v) → typed_by rows v.0 ≡ Some (row_in rows v).ty
defined_typed rows v d = ap row_type d.1 ∙ ap (λ (r : Row). Some r.ty) (sym (ap row_or d.1))

pub defined_value : (rows : List Row) → AreValues rows → (v : ValueId) → IsDefined rows v → IsValueType (row_in rows v).ty
defined_value rows h v d = h v.0 (row_in rows v).ty (defined_typed rows v d)

-- TWO VALUES OF ONE TYPE
module _ (rows other : List Row) (v w : ValueId) (same : typed_by other w.0 ≡ typed_by rows v.0) where
  pub type_kept : (row_in other w).ty ≡ (row_in rows v).ty
  type_kept = or_nobody (look other w.0) ∙ ap ty_or same ∙ sym (or_nobody (look rows v.0))

  pub defined_kept : IsDefined rows v → IsDefined other w
  defined_kept d = defined_by_type other w (row_in rows v).ty (same ∙ defined_typed rows v d)

  pub tensor_kept : IsTensorValue rows v → IsTensorValue other w
  tensor_kept h = record { is_defined = defined_kept h.is_defined; is_tensor = subst IsTensor (sym type_kept) h.is_tensor }

  pub scalar_kept : IsScalarValue rows v → IsScalarValue other w
  scalar_kept h = record { is_defined = defined_kept h.is_defined; is_scalar = subst IsScalar (sym type_kept) h.is_scalar }

  pub elem_kept : elem_in other w ≡ elem_in rows v
  elem_kept = ap elem_of type_kept
