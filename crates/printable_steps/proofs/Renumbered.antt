-- A verified module under the numbers of its canonical text verifies.
use Rattle.std.proofs.Common.{◌≡◌, ℕ, suc, ◌+◌, ◌<◌, ◌≤◌, ◌==◌, ◌&&◌, Bool, true, false, not, List, [], ◌∷◌, ◌++◌, length, append-nil, length-append, Option, Some, None, refl, ap, sym, subst, ◌∙◌, arith}
use Rattle.std.specs.Prelude.{is_some}
use Rattle.std.specs.List.{flat_map, list_all, zip}
use Rattle.std.proofs.lemmas.Bool.{and_parts}
use Rattle.std.proofs.lemmas.List.{map-append}
use Rattle.affine_maps.specs.Permutation.{is_among}
use Rattle.mlir_ir.specs.Count.{operands}
use Rattle.mlir_ir.specs.Shape.{FuncShape}
use Rattle.mlir_ir.specs.declared.tree.Op.{Op}
use Rattle.mlir_ir.specs.declared.tree.OpKind.{OpKind, Constant, Empty, Generic, Fill, Matmul, BatchMatmul, Transpose, Broadcast, Return}
use Rattle.mlir_ir.specs.declared.tree.Ty.{Ty}
use Rattle.mlir_ir.specs.declared.tree.ValueId.{ValueId}
use Rattle.mlir_meaning.specs.Grids.{Each}
use Rattle.mlir_meaning.specs.Renaming.{value, values, renamed}
use Rattle.mlir_verify.specs.Built.{is_built_type, is_built_kind, is_built}
use Rattle.mlir_verify.specs.Constants.{Constants, has_cells}
use Rattle.mlir_verify.specs.Ends.{is_return}
use Rattle.mlir_verify.specs.Extents.{axes_agree, is_product, is_batch_product, is_transposed, is_broadcast, has_extents_of, keeps_extents, breaks_extents}
use Rattle.mlir_verify.specs.Limits.{is_small_type, has_few_dimensions, is_small_op}
use Rattle.mlir_verify.specs.Maps.{axes, breaks_maps, breaks_iterators}
use Rattle.mlir_verify.specs.Names.{in_scope, numbers, arguments, defined_by, defined_in, ids}
use Rattle.mlir_verify.specs.Named.{is_typed_fill, is_typed_product, is_typed_transpose, is_typed_broadcast}
use Rattle.mlir_verify.specs.Place.{Types, type_among, is_empty}
use Rattle.mlir_verify.specs.Tensors.{extents_of, is_fixed_tensor, is_tensor, is_alike, result_type}
use Rattle.mlir_verify.specs.Windows.{breaks_windows}
use Rattle.mlir_verify.specs.Types.{is_typed_generic, is_typed}
use Rattle.verified_runs.specs.Passes.{Scope, OpPasses, BodyPasses, FuncPasses}
use Rattle.verified_runs.specs.Typed.{types_of}
use Rattle.verified_runs.proofs.Places.{built_kind}
use Rattle.verified_runs.proofs.Reused.{Agrees, typed_same, extents_same, maps_same, windows_same, all_known}
use Rattle.step_results.specs.Modules.{is_small_func}
use Rattle.step_results.proofs.Modules.{verified_module, module_verifies}
use Rattle.step_results.proofs.Numbers.{below_absent}
use Rattle.step_results.proofs.Small.{no_arguments}
use Rattle.mlir_print.specs.Names.{Names, Row, row_of, nothing, with_argument}
use Rattle.mlir_print.specs.Operations.{names_after, next}
use Rattle.mlir_print.specs.Canonical.{after_params, after_ops, names_in}
use Rattle.mlir_print.specs.Renumbered.{number_in, kind_renumbered, results_renumbered, op_renumbered, ops_renumbered, func_renumbered, values_in, funcs_renumbered}
use Rattle.mlir_print.specs.declared.names.Given.TheVariants.{Argument, Result}
use Rattle.mlir_roundtrip.specs.Printable.{IsPrintableLine, ArePrintableOps, IsPrintableFunc, ArePrintable}
use Rattle.printable_steps.specs.Laws.{RenumberedVerifies}
use Rattle.printable_steps.proofs.Types.{row_type, Agree, params_agree, defined_by_type}
use Rattle.printable_steps.proofs.Bodies.{agree_next}
use Rattle.printable_steps.proofs.Numbered.{numbered, numbered_last, numbered_below, was, stands, placed, renumber, renumber_is, params_numbered, Counts, counts_append, counts_own, results_count, results_length}

-- KINDS
module _ (f : ℕ → ℕ) where
  same_kind : (kind : OpKind) → is_built_kind kind ≡ true → kind_renumbered (value f) kind ≡ renamed (λ k. k) f (λ k. k) kind
  unfolding renamed
  same_kind (Constant cells) b = refl
  same_kind (Empty sizes) b = refl
  same_kind (Generic maps its ins out captured payload) b = refl
  same_kind (Fill v out) b = refl
  same_kind (Matmul x y out) b = refl
  same_kind (BatchMatmul x y out) b = refl
  same_kind (Transpose source out order) b = refl
  same_kind (Broadcast source out dims) b = refl
  same_kind (Return vs) b = refl
  same_kind kind b = absurd cc

  operands_renumbered : (kind : OpKind) → is_built_kind kind ≡ true → operands (kind_renumbered (value f) kind) ≡ values f (operands kind)
  operands_renumbered (Constant cells) b = refl
  operands_renumbered (Empty sizes) b = refl
  operands_renumbered (Generic maps its ins out captured payload) b = sym (map-append (value f) ins (out ∷ captured))
  operands_renumbered (Fill v out) b = refl
  operands_renumbered (Matmul x y out) b = refl
  operands_renumbered (BatchMatmul x y out) b = refl
  operands_renumbered (Transpose source out order) b = refl
  operands_renumbered (Broadcast source out dims) b = refl
  operands_renumbered (Return vs) b = refl
  operands_renumbered kind b = absurd cc

  built_renumbered : (kind : OpKind) → is_built_kind (kind_renumbered (value f) kind) ≡ is_built_kind kind
  built_renumbered (Generic maps its ins out captured payload) = refl
  built_renumbered kind = refl

  return_renumbered : (kind : OpKind) → is_return (kind_renumbered (value f) kind) ≡ is_return kind
  return_renumbered (Return vs) = refl
  return_renumbered kind = refl

  few_renumbered : (kind : OpKind) → has_few_dimensions (kind_renumbered (value f) kind) ≡ has_few_dimensions kind
  few_renumbered (Generic maps its ins out captured payload) = refl
  few_renumbered kind = refl

  iterators_renumbered : (kind : OpKind) → breaks_iterators (kind_renumbered (value f) kind) ≡ breaks_iterators kind
  unfolding breaks_iterators
  iterators_renumbered (Generic maps its ins out captured payload) = refl
  iterators_renumbered kind = refl

-- RESULTS
types_renumbered : (v : ℕ) (rs : Scope) → types_of (results_renumbered v rs) ≡ types_of rs
types_renumbered v [] = refl
types_renumbered v (r ∷ rs) = ap (λ ts. r.1 ∷ ts) (types_renumbered (suc v) rs)

all_types : (p : Ty → Bool) (v : ℕ) (rs : Scope) → list_all (λ (r : ValueId × Ty). p r.1) (results_renumbered v rs) ≡ list_all (λ (r : ValueId × Ty). p r.1) rs
all_types p v [] = refl
all_types p v (r ∷ rs) = ap (λ b. p r.1 && b) (all_types p (suc v) rs)

same_result : (v : ℕ) (rs : Scope) → result_type (results_renumbered v rs) ≡ result_type rs
same_result v [] = refl
same_result v (r ∷ []) = refl
same_result v (r ∷ (s ∷ rs)) = refl

same_empty : (v : ℕ) (rs : Scope) → is_empty (results_renumbered v rs) ≡ is_empty rs
same_empty v [] = refl
same_empty v (r ∷ rs) = refl

new_results : (m : ℕ) (known : List ℕ) → Each (λ v. v < m) known → (v : ℕ) (rs : Scope) → m ≤ v → Each (λ r. is_among (r.0).0 known ≡ false) (results_renumbered v rs)
new_results m known h v [] l = tt
new_results m known h v (r ∷ rs) l = (below_absent m v known h l, new_results m known h (suc v) rs (omega arith))

module _ (t : Types) (wanted : List Ty) (rs qs : Scope) (same : result_type qs ≡ result_type rs) (empty : is_empty qs ≡ is_empty rs) where
  typed_kept : (c : Constants) (kind : OpKind) → is_typed t c wanted qs kind ≡ is_typed t c wanted rs kind
  unfolding is_typed
  typed_kept c (Constant cells) = ap (λ r. has_cells r cells) same
  typed_kept c (Empty sizes) = ap (λ r. is_empty sizes && is_tensor r) same
  typed_kept c (Generic maps its ins out captured payload) = ap (λ r. is_typed_generic t c maps its ins out captured payload && is_alike (t out.0) r) same
  typed_kept c (Fill v out) = ap (λ r. is_typed_fill t c v out && is_alike (t out.0) r) same
  typed_kept c (Matmul x y out) = ap (λ r. is_typed_product 2 (t x.0) (t y.0) (t out.0) && is_alike (t out.0) r) same
  typed_kept c (BatchMatmul x y out) = ap (λ r. is_typed_product 3 (t x.0) (t y.0) (t out.0) && is_alike (t out.0) r) same
  typed_kept c (Transpose source out order) = ap (λ r. is_typed_transpose order (t source.0) (t out.0) && is_alike (t out.0) r) same
  typed_kept c (Broadcast source out dims) = ap (λ r. is_typed_broadcast dims (t source.0) (t out.0) && is_alike (t out.0) r) same
  typed_kept c (Return vs) = ap (λ e. (e && length vs == length wanted) && list_all (λ (x : ValueId × Ty). is_alike (t (x.0).0) (Some x.1)) (zip vs wanted)) empty
  typed_kept c kind = refl

  extents_kept : (kind : OpKind) → breaks_extents t wanted qs kind ≡ breaks_extents t wanted rs kind
  unfolding breaks_extents keeps_extents
  extents_kept (Generic maps its ins out captured payload) = ap (λ r. not (axes_agree (axes t maps ins out) && has_extents_of (t out.0) r)) same
  extents_kept (Fill v out) = ap (λ r. not (has_extents_of (t out.0) r)) same
  extents_kept (Matmul x y out) = ap (λ r. not (is_product (extents_of (t x.0)) (extents_of (t y.0)) (extents_of (t out.0)) && has_extents_of (t out.0) r)) same
  extents_kept (BatchMatmul x y out) = ap (λ r. not (is_batch_product (extents_of (t x.0)) (extents_of (t y.0)) (extents_of (t out.0)) && has_extents_of (t out.0) r)) same
  extents_kept (Transpose source out order) = ap (λ r. not (is_transposed order (extents_of (t source.0)) (extents_of (t out.0)) && has_extents_of (t out.0) r)) same
  extents_kept (Broadcast source out dims) = ap (λ r. not (is_broadcast dims (extents_of (t source.0)) (extents_of (t out.0)) && has_extents_of (t out.0) r)) same
  extents_kept kind = refl

-- ONE OPERATION
some_type : (o : Option Ty) → is_some o ≡ true → (T : Ty) × (o ≡ Some T)
some_type None h = absurd cc
some_type (Some T) h = (T, refl)

module _ (b : ℕ) (wanted : List Ty) where
  agrees : (rows : List Row) (scope : Scope) (c : Constants) → Agree rows scope → (vs : List ValueId) → in_scope (type_among scope) vs ≡ true →
      Each (Agrees (renumber b rows) (type_among scope) (type_among (numbered b rows)) c (λ w. c (was b rows w))) vs
  agrees rows scope c a [] h = tt
  agrees rows scope c a (v ∷ vs) h =
      let both = and_parts (is_some (type_among scope v.0)) _ h in
      let found = some_type (type_among scope v.0) both.0 in
      let place = placed b rows v (defined_by_type rows v found.0 (a v.0 ∙ found.1)) in
      let s = stands b rows v.0 place.0 place.1 in
      let is = renumber_is b rows v.0 place.0 place.1 in (
        (
          ap (type_among (numbered b rows)) is ∙ s.typed ∙ sym (ap row_type s.looked) ∙ a v.0,
          ap (λ w. c (was b rows w)) is ∙ ap c s.value,
        ),
        agrees rows scope c a vs both.1,
      )

  op_passes : (k : ℕ) (n : Names) (scope : Scope) (o : Op) → Agree n.rows scope → OpPasses scope wanted o → OpPasses (numbered b n.rows) wanted (op_renumbered b k n o)
  unfolding is_built
  op_passes k n scope o a h =
      let f = renumber b n.rows in
      let old = type_among scope in
      let new = type_among (numbered b n.rows) in
      let c : Constants = λ w. h.constants (was b n.rows w) in
      let built = built_kind scope wanted o h in
      let all = agrees n.rows scope h.constants a (operands o.kind) h.known in
      let results = results_renumbered (length n.rows + b) o.results in
      let kind = same_kind f o.kind built in
      record {
        constants = c;
        news = new_results (length n.rows + b) (numbers (numbered b n.rows)) (numbered_below b n.rows) (length n.rows + b) o.results (omega arith);
        known = ap (in_scope new) (operands_renumbered f o.kind built) ∙ all_known f old new h.constants c (operands o.kind) all ∙ h.known;
        built = (λ j. built_renumbered f o.kind j && all_types is_built_type (length n.rows + b) o.results j) ∙ h.built;
        typed = typed_kept new wanted o.results results (same_result (length n.rows + b) o.results) (same_empty (length n.rows + b) o.results) c (kind_renumbered (value f) o.kind)
            ∙ ap (is_typed new c wanted o.results) kind ∙ typed_same f old new h.constants c wanted o.results o.kind built all ∙ h.typed;
        maps = ap (breaks_maps new) kind ∙ maps_same f old new h.constants c o.kind built all ∙ h.maps;
        iterators = iterators_renumbered f o.kind ∙ h.iterators;
        extents = extents_kept new wanted o.results results (same_result (length n.rows + b) o.results) (same_empty (length n.rows + b) o.results) (kind_renumbered (value f) o.kind)
            ∙ ap (breaks_extents new wanted o.results) kind ∙ extents_same f old new h.constants c wanted o.results o.kind built all ∙ h.extents;
        windows = ap (breaks_windows new) kind ∙ windows_same f old new h.constants c o.kind built all ∙ h.windows;
      }

  -- ALONG A BODY
  next_numbered : (n : Names) (rs : Scope) (kind : OpKind) → IsPrintableLine n.rows rs kind → numbered b (names_after n rs kind).rows ≡ numbered b n.rows ++ results_renumbered (length n.rows + b) rs
  next_numbered n [] kind p = absurd p
  next_numbered n (r ∷ []) kind p = numbered_last b n.rows (row_of r.0 (Result n.results) r.1)
  next_numbered n (r ∷ (s ∷ rs)) kind p = absurd p

  next_length : (n : Names) (rs : Scope) (kind : OpKind) → IsPrintableLine n.rows rs kind → length (names_after n rs kind).rows ≡ length rs + length n.rows
  next_length n [] kind p = absurd p
  next_length n (r ∷ []) kind p = let e = length-append n.rows (row_of r.0 (Result n.results) r.1 ∷ []) in omega (arith, e)
  next_length n (r ∷ (s ∷ rs)) kind p = absurd p

  empty_renumbered : (k : ℕ) (n : Names) (os : List Op) → is_empty (ops_renumbered b k n os) ≡ is_empty os
  empty_renumbered k n [] = refl
  empty_renumbered k n (o ∷ os) = refl

  body_passes : (os : List Op) (k : ℕ) (n : Names) (scope : Scope) → Agree n.rows scope → ArePrintableOps n os → BodyPasses scope wanted os → BodyPasses (numbered b n.rows) wanted (ops_renumbered b k n os)
  body_passes [] k n scope a p h = tt
  body_passes (o ∷ []) k n scope a p h = (op_passes k n scope o a h.0, return_renumbered (renumber b n.rows) o.kind ∙ h.1, tt)
  body_passes (o ∷ (q ∷ os)) k n scope a p h = (
    op_passes k n scope o a h.0,
    return_renumbered (renumber b n.rows) o.kind ∙ h.1,
    subst (λ s. BodyPasses s wanted (ops_renumbered b (suc k) (next n o) (q ∷ os))) (next_numbered n o.results o.kind p.0)
        (body_passes (q ∷ os) (suc k) (next n o) (scope ++ o.results) (agree_next n scope o.results o.kind p.0 a) p.1 h.2),
  )

  -- its numbers
  body_ids : (os : List Op) (k : ℕ) (n : Names) → Counts k (ids (ops_renumbered b k n os))
  body_ids [] k n = tt
  body_ids (o ∷ os) k n = (refl, body_ids os (suc k) (next n o))

  ops_length : (os : List Op) (k : ℕ) (n : Names) → length (ops_renumbered b k n os) ≡ length os
  ops_length [] k n = refl
  ops_length (o ∷ os) k n = ap suc (ops_length os (suc k) (next n o))

  no_own : (scope : Scope) (n : Names) (o : Op) → OpPasses scope wanted o → arguments (kind_renumbered (number_in b n.rows) o.kind) ≡ []
  no_own scope n o h = no_arguments (kind_renumbered (number_in b n.rows) o.kind) (built_renumbered (renumber b n.rows) o.kind ∙ built_kind scope wanted o h)

  own_count : (scope : Scope) (k : ℕ) (n : Names) (o : Op) → OpPasses scope wanted o → defined_by (op_renumbered b k n o) ≡ numbers (results_renumbered (length n.rows + b) o.results)
  own_count scope k n o h = ap (λ xs. numbers (results_renumbered (length n.rows + b) o.results) ++ xs) (no_own scope n o h) ∙ append-nil (numbers (results_renumbered (length n.rows + b) o.results))

  record Values (os : List Op) (k : ℕ) (n : Names) : Type 0 where
    counts : Counts (length n.rows + b) (flat_map defined_by (ops_renumbered b k n os))
    many : length (flat_map defined_by (ops_renumbered b k n os)) + length n.rows ≡ length (after_ops n os).rows

  body_values : (os : List Op) (k : ℕ) (n : Names) (scope : Scope) → ArePrintableOps n os → BodyPasses scope wanted os → Values os k n
  body_values [] k n scope p h = absurd p
  body_values (o ∷ []) k n scope p h =
      let mine : flat_map defined_by (ops_renumbered b k n (o ∷ [])) ≡ [] =
      append-nil (defined_by (op_renumbered b k n o)) ∙ own_count scope k n o h.0 ∙ ap (λ rs. numbers (results_renumbered (length n.rows + b) rs)) p.0 in
      record {
        counts = subst (Counts (length n.rows + b)) (sym mine) tt;
        many = (let e = ap (λ (xs : List ℕ). length xs) mine in let q = ap (λ rs. length (names_after n rs o.kind).rows) p.0 in omega (arith, e, q));
      }
  body_values (o ∷ (q ∷ os)) k n scope p h =
      let more = body_values (q ∷ os) (suc k) (next n o) (scope ++ o.results) p.1 h.2 in
      let own = own_count scope k n o h.0 in
      let results = numbers (results_renumbered (length n.rows + b) o.results) in
      let rest = flat_map defined_by (ops_renumbered b (suc k) (next n o) (q ∷ os)) in
      let size = results_length (length n.rows + b) o.results in
      let long = next_length n o.results o.kind p.0 in
      let whole : flat_map defined_by (ops_renumbered b k n (o ∷ (q ∷ os))) ≡ results ++ rest = ap (λ xs. xs ++ rest) own in
      let start : length (next n o).rows + b ≡ length results + (length n.rows + b) = omega (arith, size, long) in
      record {
        counts = subst (Counts (length n.rows + b)) (sym whole) (counts_append (length n.rows + b) results rest (results_count (length n.rows + b) o.results) (subst (λ a. Counts a rest) start more.counts));
        many = (let m = more.many in let e = ap (λ (xs : List ℕ). length xs) whole in let z = length-append results rest in omega (arith, m, e, z, size, long));
      }

-- LIMITS
small_renumbered : (b : ℕ) (os : List Op) (k : ℕ) (n : Names) → list_all is_small_op (ops_renumbered b k n os) ≡ list_all is_small_op os
small_renumbered b [] k n = refl
small_renumbered b (o ∷ os) k n = λ j. (all_types is_small_type (length n.rows + b) o.results j && few_renumbered (renumber b n.rows) o.kind j) && small_renumbered b os (suc k) (next n o) j

func_small : (b k : ℕ) (f : FuncShape) → is_small_func (func_renumbered b k f) ≡ is_small_func f
func_small b k f = λ j. (all_types is_small_type b f.params j && list_all is_small_type f.results) && small_renumbered b f.body k (names_in f) j

-- FUNCTIONS
func_passes : (b k : ℕ) (f : FuncShape) → IsPrintableFunc f → FuncPasses f → FuncPasses (func_renumbered b k f)
func_passes b k f p h =
    let e : 0 + b ≡ b = omega arith in
    record {
      ends = (let l = ops_length b f.results f.body k (names_in f) in let m = h.ends in omega (arith, l, m));
      signature = (λ j. all_types is_fixed_tensor b f.params j && list_all is_fixed_tensor f.results) ∙ h.signature;
      body = subst (λ s. BodyPasses s f.results (ops_renumbered b k (names_in f) f.body)) (params_numbered b f.params nothing ∙ ap (λ v. results_renumbered v f.params) e)
          (body_passes b f.results f.body k (names_in f) f.params (params_agree f.params nothing [] (λ v. refl)) p.ops h.body);
    }

funcs_pass : (fs : List FuncShape) (b k : ℕ) → ArePrintable fs → Each FuncPasses fs → Each FuncPasses (funcs_renumbered b k fs)
funcs_pass [] b k p h = tt
funcs_pass (f ∷ fs) b k p h = (func_passes b k f p.0 h.0, funcs_pass fs (b + values_in f) (k + length f.body) p.1 h.1)

funcs_small : (fs : List FuncShape) (b k : ℕ) → list_all is_small_func (funcs_renumbered b k fs) ≡ list_all is_small_func fs
funcs_small [] b k = refl
funcs_small (f ∷ fs) b k = λ j. func_small b k f j && funcs_small fs (b + values_in f) (k + length f.body) j

funcs_ids : (fs : List FuncShape) (b k : ℕ) → Counts k (flat_map (λ (f : FuncShape). ids f.body) (funcs_renumbered b k fs))
funcs_ids [] b k = tt
funcs_ids (f ∷ fs) b k =
    let l = ids_length (ops_renumbered b k (names_in f) f.body) in
    let m = ops_length b f.results f.body k (names_in f) in
    let e : k + length f.body ≡ length (ids (ops_renumbered b k (names_in f) f.body)) + k = omega (arith, l, m) in
    counts_append k (ids (ops_renumbered b k (names_in f) f.body)) (flat_map (λ (g : FuncShape). ids g.body) (funcs_renumbered (b + values_in f) (k + length f.body) fs))
    (body_ids b f.results f.body k (names_in f))
    (subst (λ a. Counts a (flat_map (λ (g : FuncShape). ids g.body) (funcs_renumbered (b + values_in f) (k + length f.body) fs))) e (funcs_ids fs (b + values_in f) (k + length f.body)))
  where
    ids_length : (os : List Op) → length (ids os) ≡ length os
    ids_length [] = refl
    ids_length (o ∷ os) = ap suc (ids_length os)

params_length : (ps : Scope) (n : Names) → length (after_params n ps).rows ≡ length ps + length n.rows
params_length [] n = omega arith
params_length (p ∷ ps) n =
    let rest = params_length ps (with_argument n p.0 p.1) in
    let e = length-append n.rows (row_of p.0 (Argument n.args) p.1 ∷ []) in
    omega (arith, rest, e)

funcs_values : (fs : List FuncShape) (b k : ℕ) → ArePrintable fs → Each FuncPasses fs → Counts b (defined_in (funcs_renumbered b k fs))
funcs_values [] b k p h = tt
funcs_values (f ∷ fs) b k p h =
    let body = body_values b f.results f.body k (names_in f) f.params (p.0).ops (h.0).body in
    let params = numbers (results_renumbered b f.params) in
    let inner = flat_map defined_by (ops_renumbered b k (names_in f) f.body) in
    let size = results_length b f.params in
    let rows = params_length f.params nothing in
    let many = body.many in
    let start : length (names_in f).rows + b ≡ length params + b = omega (arith, size, rows) in
    let long = length-append params inner in
    let next_start : b + values_in f ≡ length (params ++ inner) + b = omega (arith, many, long, size, rows) in
    counts_append b (params ++ inner) (defined_in (funcs_renumbered (b + values_in f) (k + length f.body) fs))
    (counts_append b params inner (results_count b f.params) (subst (λ a. Counts a inner) start body.counts))
    (subst (λ a. Counts a (defined_in (funcs_renumbered (b + values_in f) (k + length f.body) fs))) next_start (funcs_values fs (b + values_in f) (k + length f.body) p.1 h.1))

pub renumbered_verifies : RenumberedVerifies
renumbered_verifies f p verified =
    let fs = f.module.funcs in
    let was = verified_module f.module verified in
    module_verifies (record { funcs = funcs_renumbered 0 0 fs })
    (record {
      funcs = funcs_pass fs 0 0 p.funcs was.funcs;
      numbers = record { values = counts_own 0 (defined_in (funcs_renumbered 0 0 fs)) [] (funcs_values fs 0 0 p.funcs was.funcs) tt; ops = counts_own 0 (flat_map (λ (g : FuncShape). ids g.body) (funcs_renumbered 0 0 fs)) [] (funcs_ids fs 0 0) tt };
      small = funcs_small fs 0 0 ∙ was.small;
    })
