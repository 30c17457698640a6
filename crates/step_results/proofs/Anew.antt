-- One generic with fresh numbers in its target's place.
use Rattle.std.proofs.Common.{◌≡◌, ℕ, ◌+◌, ◌<◌, ◌≤◌, ◌==◌, ◌&&◌, true, false, List, [], ◌∷◌, ◌++◌, length, replicate, Option, Some, None, refl, ap, sym, subst, ◌∙◌, arith, eqb-true, leb-true, le-leb}
use Rattle.std.specs.Prelude.{nat_le}
use Rattle.std.specs.List.{list_all}
use Rattle.std.proofs.lemmas.Bool.{and_parts, and_from}
use Rattle.std.proofs.lemmas.List.{length-replicate}
use Rattle.std.proofs.lemmas.Option.{same_Some}
use Rattle.affine_maps.specs.Permutation.{is_among}
use Rattle.mlir_ir.specs.declared.tree.Iter.TheVariants.{Parallel}
use Rattle.mlir_ir.specs.declared.tree.Op.{Op}
use Rattle.mlir_ir.specs.declared.tree.OpKind.{OpKind, Generic, Fill, Matmul, BatchMatmul, Transpose, Broadcast, Return}
use Rattle.mlir_ir.specs.declared.tree.Ty.{Ty}
use Rattle.mlir_ir.specs.declared.tree.Ty.TheVariants.{Scalar, Tensor, Vector}
use Rattle.mlir_ir.specs.declared.tree.ValueId.{ValueId}
use Rattle.mlir_meaning.specs.Grids.{Each}
use Rattle.mlir_meaning.specs.Structured.{fill_form, matmul_form, batch_matmul_form, transpose_form, broadcast_form}
use Rattle.mlir_verify.specs.Constants.{Constants}
use Rattle.mlir_verify.specs.Ends.{is_return}
use Rattle.mlir_verify.specs.Limits.{is_small_type, has_few_dimensions}
use Rattle.mlir_verify.specs.Names.{numbers}
use Rattle.mlir_verify.specs.Place.{Types}
use Rattle.mlir_verify.specs.Tensors.{rank_of, result_type, is_alike}
use Rattle.mlir_verify.specs.Types.{is_typed}
use Rattle.verified_runs.specs.Edits.{renumbered, anew}
use Rattle.verified_runs.specs.Forms.{Structured, kind_of, structured_of}
use Rattle.verified_runs.specs.Passes.{Scope, OpPasses}
use Rattle.verified_runs.specs.Typed.{types_of}
use Rattle.verified_runs.proofs.FormedOne.{one_passes}
use Rattle.verified_runs.proofs.Results.{HasOne, one_result}
use Rattle.step_results.specs.Edits.{AreFresh, IsTarget, FitsThere}
use Rattle.step_results.proofs.Numbers.{below_absent}

-- RESULTS RENUMBERED
pub renumbered_types : (n : ℕ) (rs : Scope) → types_of (renumbered n rs) ≡ types_of rs
renumbered_types n [] = refl
renumbered_types n (r ∷ rs) = ap (λ ts. r.1 ∷ ts) (renumbered_types (n + 1) rs)

renumbered_small : (n : ℕ) (rs : Scope) → list_all (λ (r : ValueId × Ty). is_small_type r.1) (renumbered n rs) ≡ list_all (λ (r : ValueId × Ty). is_small_type r.1) rs
renumbered_small n [] = refl
renumbered_small n (r ∷ rs) = ap (λ b. is_small_type r.1 && b) (renumbered_small (n + 1) rs)

-- fresh numbers aren't in scope
pub fresh_results : (n m : ℕ) (scope rs : Scope) → n ≤ m → Each (λ v. v < n) (numbers scope) → Each (λ r. is_among (r.0).0 (numbers scope) ≡ false) (renumbered m rs)
fresh_results n m scope [] l h = tt
fresh_results n m scope (r ∷ rs) l h = (below_absent n m (numbers scope) h l, fresh_results n (m + 1) scope rs (omega arith) h)

one_value : (n : ℕ) (rs : Scope) → HasOne rs → (numbers (renumbered n rs) ++ []) ++ [] ≡ n ∷ []
one_value n rs one = ap (λ qs. (numbers (renumbered n qs) ++ []) ++ []) one.1

lone_fresh : (n : ℕ) → AreFresh n (n ∷ [])
lone_fresh n = record { above = (omega arith, tt); own = refl }

-- what a step owes that forms one generic
pub generic_fits : (n k : ℕ) (g : Structured) (scope : Scope) (wanted : List Ty) (o : Op) → IsTarget n scope wanted o → HasOne o.results → is_return o.kind ≡ false → nat_le (length g.iterators) 12 ≡ true →
    OpPasses scope wanted (record { id = record { 0 = k }; results = renumbered n o.results; kind = kind_of g }) → FitsThere n k scope wanted o (anew k n (kind_of g) o)
generic_fits n k g scope wanted o target one goes few passes = record {
  goes_on = goes;
  passes = one_passes n k (kind_of g) scope wanted o one refl passes;
  small = and_from _ _ (and_from _ _ (renumbered_small n o.results ∙ (and_parts (list_all (λ (r : ValueId × Ty). is_small_type r.1) o.results) (has_few_dimensions o.kind) target.small).0) few) refl;
  values = subst (AreFresh n) (sym (one_value n o.results one)) (lone_fresh n);
  ops = lone_fresh k;
}

-- STRUCTURED OPERATIONS
module _ (t : Types) (c : Constants) (wanted : List Ty) (rs : Scope) where
  pub structured_one : (kind : OpKind) (g : Structured) → structured_of t kind ≡ Some g → is_typed t c wanted rs kind ≡ true → HasOne rs
  unfolding structured_of is_typed
  structured_one (Generic maps iterators ins outs captured payload) g q h = one_result (t outs.0) rs (and_parts _ (is_alike (t outs.0) (result_type rs)) h).1
  structured_one (Fill value outs) g q h = one_result (t outs.0) rs (and_parts _ (is_alike (t outs.0) (result_type rs)) h).1
  structured_one (Matmul x y outs) g q h = one_result (t outs.0) rs (and_parts _ (is_alike (t outs.0) (result_type rs)) h).1
  structured_one (BatchMatmul x y outs) g q h = one_result (t outs.0) rs (and_parts _ (is_alike (t outs.0) (result_type rs)) h).1
  structured_one (Transpose source outs order) g q h = one_result (t outs.0) rs (and_parts _ (is_alike (t outs.0) (result_type rs)) h).1
  structured_one (Broadcast source outs dims) g q h = one_result (t outs.0) rs (and_parts _ (is_alike (t outs.0) (result_type rs)) h).1
  structured_one kind g q h = absurd cc

  pub structured_goes_on : (kind : OpKind) (g : Structured) → structured_of t kind ≡ Some g → is_return kind ≡ false
  unfolding structured_of
  structured_goes_on (Return values) g q = absurd cc
  structured_goes_on kind g q = refl

-- the rank of a tensor like a result within the limits
alike_rank : (o : Option Ty) (T : Ty) → is_alike o (Some T) ≡ true → is_small_type T ≡ true → rank_of o ≤ 8
alike_rank (Some (Tensor xs v)) (Tensor ys w) h k =
    let e = eqb-true (length xs) (length ys) (and_parts (v == w) _ h).1 in
    let l = leb-true (length ys) 8 (and_parts (nat_le (length ys) 8) _ k).0 in
    omega (arith, e, l)
alike_rank (Some (Tensor xs v)) (Scalar e) h k = absurd cc
alike_rank (Some (Tensor xs v)) (Vector ys w) h k = absurd cc
alike_rank (Some (Scalar e)) T h k = absurd cc
alike_rank (Some (Vector xs v)) T h k = absurd cc
alike_rank None T h k = absurd cc

result_rank : (o : Option Ty) (rs : Scope) → is_alike o (result_type rs) ≡ true → list_all (λ (r : ValueId × Ty). is_small_type r.1) rs ≡ true → rank_of o ≤ 8
result_rank o rs h k =
    let one = one_result o rs h in
    alike_rank o (one.0).1 (sym (ap (λ qs. is_alike o (result_type qs)) one.1) ∙ h)
    (and_parts (is_small_type (one.0).1) true (sym (ap (list_all (λ (r : ValueId × Ty). is_small_type r.1)) one.1) ∙ k)).0

many_parallel : (k : ℕ) → k ≤ 8 → nat_le (length (replicate k Parallel)) 12 ≡ true
many_parallel k l = le-leb (length (replicate k Parallel)) 12 (let e = length-replicate k Parallel in omega (arith, e, l))

module _ (t : Types) (c : Constants) (wanted : List Ty) (rs : Scope) (small : list_all (λ (r : ValueId × Ty). is_small_type r.1) rs ≡ true) where
  abbrev IsFew : Structured → Type 0
  IsFew g = nat_le (length g.iterators) 12 ≡ true

  -- the generic that an operation within the limits is has few dimensions
  pub structured_few : (kind : OpKind) (g : Structured) → structured_of t kind ≡ Some g → is_typed t c wanted rs kind ≡ true → has_few_dimensions kind ≡ true → IsFew g
  unfolding structured_of is_typed fill_form matmul_form batch_matmul_form transpose_form broadcast_form
  structured_few (Generic maps iterators ins outs captured payload) g q h f = subst IsFew (same_Some _ g q) f
  structured_few (Fill value outs) g q h f =
      subst IsFew (same_Some _ g q) (many_parallel (rank_of (t outs.0)) (result_rank (t outs.0) rs (and_parts _ (is_alike (t outs.0) (result_type rs)) h).1 small))
  structured_few (Matmul x y outs) g q h f = subst IsFew (same_Some _ g q) refl
  structured_few (BatchMatmul x y outs) g q h f = subst IsFew (same_Some _ g q) refl
  structured_few (Transpose source outs order) g q h f =
      let both = and_parts _ (is_alike (t outs.0) (result_type rs)) h in
      let l = result_rank (t outs.0) rs both.1 small in
      let e = eqb-true (length order) (rank_of (t outs.0)) (and_parts (length order == rank_of (t outs.0)) _ (and_parts (is_alike (t source.0) (t outs.0)) _ both.0).1).0 in
      subst IsFew (same_Some _ g q) (many_parallel (length order) (omega (arith, e, l)))
  structured_few (Broadcast source outs dims) g q h f =
      subst IsFew (same_Some _ g q) (many_parallel (rank_of (t outs.0)) (result_rank (t outs.0) rs (and_parts _ (is_alike (t outs.0) (result_type rs)) h).1 small))
  structured_few kind g q h f = absurd cc
