-- A module that passes no limit on types keeps V14, and one that keeps V14 passes none.
use Rattle.std.proofs.Common.{◌≡◌, Bool, true, false, List, [], ◌∷◌, Option, Some, None, refl}
use Rattle.std.specs.Prelude.{◌&&◌, not, if◌then◌else◌}
use Rattle.std.specs.List.{list_all}
use Rattle.std.proofs.lemmas.Bool.{and_parts, and_from}
use Rattle.mlir_base.specs.declared.limit.Which.{Which}
use Rattle.mlir_base.specs.declared.limit.Which.TheVariants as W
use Rattle.mlir_ir.specs.Shape.{FuncShape}
use Rattle.mlir_ir.specs.declared.tree.Extent.{Extent}
use Rattle.mlir_ir.specs.declared.tree.Op.{Op}
use Rattle.mlir_ir.specs.declared.tree.OpKind.{OpKind}
use Rattle.mlir_ir.specs.declared.tree.Ty.{Ty}
use Rattle.mlir_ir.specs.declared.tree.Ty.TheVariants.{Scalar, Tensor, Vector}
use Rattle.mlir_ir.specs.declared.tree.ValueId.{ValueId}
use Rattle.mlir_verify.specs.Limits.{is_small, is_small_type, is_small_op, has_few_dimensions, has_small_signature}
use Rattle.step_results.specs.Modules.{is_small_func}
use Rattle.checked_edits.specs.Limits.{extents_keep, type_keeps, kind_keeps, op_keeps, func_keeps, passes, first_passed, limits_on_types, limits_in_order}

-- what each of the four tests together gives of an item, they give of a list
all_four : {A : Type 0} (P : Which → A → Bool) (S : A → Bool) →
    ((x : A) → P W.Rank x ≡ true → P W.Loops x ≡ true → P W.Extent x ≡ true → P W.Elements x ≡ true → S x ≡ true) → (xs : List A) →
    list_all (P W.Rank) xs ≡ true → list_all (P W.Loops) xs ≡ true → list_all (P W.Extent) xs ≡ true → list_all (P W.Elements) xs ≡ true →
    list_all S xs ≡ true
all_four P S f [] a b c d = refl
all_four P S f (x ∷ xs) a b c d =
    let p = and_parts (P W.Rank x) (list_all (P W.Rank) xs) a in
    let q = and_parts (P W.Loops x) (list_all (P W.Loops) xs) b in
    let r = and_parts (P W.Extent x) (list_all (P W.Extent) xs) c in
    let s = and_parts (P W.Elements x) (list_all (P W.Elements) xs) d in
    and_from (S x) (list_all S xs) (f x p.0 q.0 r.0 s.0) (all_four P S f xs p.1 q.1 r.1 s.1)

type_small : (ty : Ty) → type_keeps W.Rank ty ≡ true → type_keeps W.Loops ty ≡ true → type_keeps W.Extent ty ≡ true →
    type_keeps W.Elements ty ≡ true → is_small_type ty ≡ true
type_small (Scalar e) a b c d = refl
type_small (Tensor extents w) a b c d = and_from _ _ a (and_from _ _ c d)
type_small (Vector extents w) a b c d = refl

abbrev value_keeps : Which → ValueId × Ty → Bool
value_keeps w d = type_keeps w d.1

values_small : (ds : List (ValueId × Ty)) → list_all (value_keeps W.Rank) ds ≡ true → list_all (value_keeps W.Loops) ds ≡ true →
    list_all (value_keeps W.Extent) ds ≡ true →
    list_all (value_keeps W.Elements) ds ≡ true → list_all (λ (d : ValueId × Ty). is_small_type d.1) ds ≡ true
values_small = all_four value_keeps (λ (d : ValueId × Ty). is_small_type d.1) (λ d. type_small d.1)

op_small : (o : Op) → op_keeps W.Rank o ≡ true → op_keeps W.Loops o ≡ true → op_keeps W.Extent o ≡ true → op_keeps W.Elements o ≡ true →
    is_small_op o ≡ true
op_small o a b c d =
    let p = and_parts (list_all (value_keeps W.Rank) o.results) _ a in
    let q = and_parts (list_all (value_keeps W.Loops) o.results) _ b in
    let r = and_parts (list_all (value_keeps W.Extent) o.results) _ c in
    let s = and_parts (list_all (value_keeps W.Elements) o.results) _ d in
    and_from _ _ (values_small o.results p.0 q.0 r.0 s.0) q.1

func_small : (f : FuncShape) → func_keeps W.Rank f ≡ true → func_keeps W.Loops f ≡ true → func_keeps W.Extent f ≡ true →
    func_keeps W.Elements f ≡ true → is_small_func f ≡ true
func_small f a b c d =
    let p = and_parts (list_all (value_keeps W.Rank) f.params) _ a in
    let q = and_parts (list_all (value_keeps W.Loops) f.params) _ b in
    let r = and_parts (list_all (value_keeps W.Extent) f.params) _ c in
    let s = and_parts (list_all (value_keeps W.Elements) f.params) _ d in
    let t = and_parts (list_all (type_keeps W.Rank) f.results) _ p.1 in
    let u = and_parts (list_all (type_keeps W.Loops) f.results) _ q.1 in
    let v = and_parts (list_all (type_keeps W.Extent) f.results) _ r.1 in
    let w = and_parts (list_all (type_keeps W.Elements) f.results) _ s.1 in
    and_from (has_small_signature f) (list_all is_small_op f.body)
    (and_from _ _ (values_small f.params p.0 q.0 r.0 s.0) (all_four type_keeps is_small_type type_small f.results t.0 u.0 v.0 w.0))
    (all_four op_keeps is_small_op op_small f.body t.1 u.1 v.1 w.1)

not_passed : (w : Which) (ws : List Which) (fs : List FuncShape) → first_passed (w ∷ ws) fs ≡ None →
    (passes w fs ≡ false) × (first_passed ws fs ≡ None)
not_passed w ws fs h = by (passes w fs) refl h where
  by : (b : Bool) → passes w fs ≡ b → (if b then Some w else first_passed ws fs) ≡ None →
      (passes w fs ≡ false) × (first_passed ws fs ≡ None)
  by true q e = absurd (let z : ◌≡◌ {A = Option Which} (Some w) None = e in cc)
  by false q e = (q, e)

not_false : (b : Bool) → not b ≡ false → b ≡ true
not_false true e = refl
not_false false e = absurd cc

pub types_left : (fs : List FuncShape) → first_passed limits_in_order fs ≡ None → first_passed limits_on_types fs ≡ None
types_left fs h =
    let operations = not_passed W.Operations (W.Depth ∷ W.PayloadSteps ∷ limits_on_types) fs h in
    let depth = not_passed W.Depth (W.PayloadSteps ∷ limits_on_types) fs operations.1 in
    (not_passed W.PayloadSteps limits_on_types fs depth.1).1

pub funcs_small : (fs : List FuncShape) → first_passed limits_on_types fs ≡ None → list_all is_small_func fs ≡ true
funcs_small fs h =
    let rank = not_passed W.Rank (W.Loops ∷ W.Extent ∷ W.Elements ∷ []) fs h in
    let loops = not_passed W.Loops (W.Extent ∷ W.Elements ∷ []) fs rank.1 in
    let extent = not_passed W.Extent (W.Elements ∷ []) fs loops.1 in
    let elements = not_passed W.Elements [] fs extent.1 in
    all_four func_keeps is_small_func func_small fs (not_false (list_all (func_keeps W.Rank) fs) rank.0)
    (not_false (list_all (func_keeps W.Loops) fs) loops.0)
    (not_false (list_all (func_keeps W.Extent) fs) extent.0) (not_false (list_all (func_keeps W.Elements) fs) elements.0)

-- THE OTHER WAY: what is small keeps each limit
all_keep : {A : Type 0} (S P : A → Bool) → ((x : A) → S x ≡ true → P x ≡ true) → (xs : List A) → list_all S xs ≡ true → list_all P xs ≡ true
all_keep S P f [] h = refl
all_keep S P f (x ∷ xs) h = let both = and_parts (S x) (list_all S xs) h in
    and_from (P x) (list_all P xs) (f x both.0) (all_keep S P f xs both.1)

small_extents : (w : Which) (xs : List Extent) → is_small xs ≡ true → extents_keep w xs ≡ true
small_extents W.Rank xs h = (and_parts _ _ h).0
small_extents W.Extent xs h = (and_parts _ _ (and_parts _ _ h).1).0
small_extents W.Elements xs h = (and_parts _ _ (and_parts _ _ h).1).1
small_extents _ xs h = refl

small_type : (w : Which) (ty : Ty) → is_small_type ty ≡ true → type_keeps w ty ≡ true
small_type w (Scalar e) h = refl
small_type w (Tensor extents e) h = small_extents w extents h
small_type w (Vector extents e) h = refl

small_values : (w : Which) (ds : List (ValueId × Ty)) → list_all (λ (d : ValueId × Ty). is_small_type d.1) ds ≡ true →
    list_all (value_keeps w) ds ≡ true
small_values w = all_keep (λ (d : ValueId × Ty). is_small_type d.1) (value_keeps w) (λ d. small_type w d.1)

small_kind : (w : Which) (kind : OpKind) → has_few_dimensions kind ≡ true → kind_keeps w kind ≡ true
small_kind W.Loops kind h = h
small_kind _ kind h = refl

small_op : (w : Which) (o : Op) → is_small_op o ≡ true → op_keeps w o ≡ true
small_op w o h =
    let both = and_parts (list_all (λ (r : ValueId × Ty). is_small_type r.1) o.results) (has_few_dimensions o.kind) h in
    and_from (list_all (value_keeps w) o.results) (kind_keeps w o.kind) (small_values w o.results both.0) (small_kind w o.kind both.1)

small_func : (w : Which) (f : FuncShape) → is_small_func f ≡ true → func_keeps w f ≡ true
small_func w f h =
    let all = and_parts (has_small_signature f) (list_all is_small_op f.body) h in
    let signature = and_parts (list_all (λ (d : ValueId × Ty). is_small_type d.1) f.params) (list_all is_small_type f.results) all.0 in
    and_from (list_all (value_keeps w) f.params) (list_all (type_keeps w) f.results && list_all (op_keeps w) f.body)
    (small_values w f.params signature.0)
    (and_from (list_all (type_keeps w) f.results) (list_all (op_keeps w) f.body) (all_keep is_small_type (type_keeps w) (small_type w)
    f.results signature.1)
    (all_keep is_small_op (op_keeps w) (small_op w) f.body all.1))

pub types_pass : (fs : List FuncShape) → list_all is_small_func fs ≡ true → first_passed limits_on_types fs ≡ None
types_pass fs h =
    let k : (w : Which) → list_all (func_keeps w) fs ≡ true = λ w. all_keep is_small_func (func_keeps w) (small_func w) fs h in
    λ j. if not (k W.Rank j) then Some W.Rank
    else (if not (k W.Loops j) then Some W.Loops else (if not (k W.Extent j) then Some W.Extent else (if not (k W.Elements j) then Some
    W.Elements else None)))
