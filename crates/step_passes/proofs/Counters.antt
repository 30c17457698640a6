-- What an exchange changes of a module's numbers and limits: the fresh numbers are the next ones, and the limits are passed as before.
use Rattle.std.proofs.Common.{◌≡◌, ℕ, suc, ◌+◌, ◌-◌, ◌≤◌, ◌==◌, ◌||◌, Bool, true, false, List, [], ◌∷◌, ◌++◌, Some, None, refl, ap, sym, subst, ◌∙◌, arith}
use Rattle.std.specs.Prelude.{max, nat_lt, if◌then◌else◌}
use Rattle.std.specs.List.{list_any}
use Rattle.std.proofs.lemmas.List.Sums.{sum_by-cons}
use Rattle.mlir_base.specs.declared.limit.Which.TheVariants.{Operations, Depth, PayloadSteps}
use Rattle.mlir_ir.specs.Count.{operands, count_inside, ops_count, module_count}
use Rattle.mlir_ir.specs.Depth.{levels_inside, levels_of, module_levels}
use Rattle.mlir_ir.specs.Shape.{FuncShape}
use Rattle.mlir_ir.specs.declared.tree.Op.{Op}
use Rattle.mlir_ir.specs.declared.tree.OpKind.{OpKind, Constant, Empty, Generic, Fill, Matmul, BatchMatmul, Transpose, Broadcast, Return, For', Forall'}
use Rattle.mlir_ir.specs.declared.tree.Ty.{Ty}
use Rattle.mlir_ir.specs.declared.tree.ValueId.{ValueId}
use Rattle.mlir_meaning.specs.Grids.{Each}
use Rattle.mlir_meaning.specs.Renaming.{value, values, renamed, renamed_op, reused_ops}
use Rattle.mlir_meaning.specs.States.{names_of}
use Rattle.mlir_verify.specs.Built.{is_built_kind}
use Rattle.verified_runs.specs.Fresh.{above_values, above_body, above_func, fresh_value, above_ids, fresh_op}
use Rattle.verified_runs.specs.Passes.{Scope, BodyPasses}
use Rattle.verified_runs.proofs.Places.{built_kind}
use Rattle.verified_runs.proofs.ReusedBodies.{results_kept}
use Rattle.rewrite_base.specs.Limits.{has_long_payload, has_long_payloads, passed}
use Rattle.step_results.proofs.Spots.{func_with}
use Rattle.step_passes.specs.OnePass.{Names}
use Rattle.step_passes.proofs.Placed.{kind_reused}
use Rattle.step_passes.proofs.Walking.{one_moved}

abbrev pub AreFlat : List Op → Type 0
AreFlat os = Each (λ (o : Op). is_built_kind o.kind ≡ true) os

pub flat : (os : List Op) (scope : Scope) (wanted : List Ty) → BodyPasses scope wanted os → AreFlat os
flat [] scope wanted h = tt
flat (o ∷ os) scope wanted h = (built_kind scope wanted o h.0, flat os (scope ++ o.results) wanted h.2)

abbrev size : Op → ℕ
size o = 1 + count_inside o.kind

abbrev func_size : FuncShape → ℕ
func_size f = ops_count f.body

-- NUMBERS OF OPERATIONS
above_ids_append : (os ps : List Op) → above_ids (os ++ ps) ≡ max (above_ids os) (above_ids ps)
above_ids_append [] ps = omega arith
above_ids_append (o ∷ os) ps = let rest = above_ids_append os ps in omega (arith, rest)

fresh_op_append : (fs gs : List FuncShape) → fresh_op (fs ++ gs) ≡ max (fresh_op fs) (fresh_op gs)
fresh_op_append [] gs = omega arith
fresh_op_append (f ∷ fs) gs = let rest = fresh_op_append fs gs in omega (arith, rest)

reused_ids : (g : Names) (os : List Op) → above_ids (reused_ops g os) ≡ above_ids os
reused_ids g [] = refl
reused_ids g (o ∷ os) = ap (max (suc o.id.0)) (reused_ids g os)

-- NUMBERS OF VALUES
above_body_append : (os ps : List Op) → above_body (os ++ ps) ≡ max (above_body os) (above_body ps)
above_body_append [] ps = omega arith
above_body_append (o ∷ os) ps = let rest = above_body_append os ps in omega (arith, rest)

fresh_value_append : (fs gs : List FuncShape) → fresh_value (fs ++ gs) ≡ max (fresh_value fs) (fresh_value gs)
fresh_value_append [] gs = omega arith
fresh_value_append (f ∷ fs) gs = let rest = fresh_value_append fs gs in omega (arith, rest)

module _ (g : Names) where
  values_append : (xs ys : List ValueId) → values g (xs ++ ys) ≡ values g xs ++ values g ys
  values_append [] ys = refl
  values_append (x ∷ xs) ys = λ j. value g x ∷ values_append xs ys j

  pub operands_reused : (kind : OpKind) → is_built_kind kind ≡ true → operands (kind_reused g kind) ≡ values g (operands kind)
  unfolding renamed
  operands_reused (Constant cells) b = refl
  operands_reused (Empty sizes) b = refl
  operands_reused (Generic maps iterators ins outs captured payload) b = sym (values_append ins (outs ∷ captured))
  operands_reused (Fill v outs) b = refl
  operands_reused (Matmul x y outs) b = refl
  operands_reused (BatchMatmul x y outs) b = refl
  operands_reused (Transpose source outs order) b = refl
  operands_reused (Broadcast source outs dims) b = refl
  operands_reused (Return vs) b = refl
  operands_reused kind b = absurd cc

  pub built_reused : (kind : OpKind) → is_built_kind (kind_reused g kind) ≡ is_built_kind kind
  unfolding renamed
  built_reused (Generic maps iterators ins outs captured payload) = refl
  built_reused kind = refl

  -- LIMITS
  count_reused : (kind : OpKind) → is_built_kind kind ≡ true → count_inside (kind_reused g kind) ≡ count_inside kind
  unfolding renamed
  count_reused (For' var lower upper step carried shape row) b = absurd cc
  count_reused (Forall' vars lower upper step shared shape row) b = absurd cc
  count_reused kind b = refl

  levels_reused : (kind : OpKind) → is_built_kind kind ≡ true → levels_inside (kind_reused g kind) ≡ levels_inside kind
  unfolding renamed
  levels_reused (For' var lower upper step carried shape row) b = absurd cc
  levels_reused (Forall' vars lower upper step shared shape row) b = absurd cc
  levels_reused kind b = refl

  pub payload_reused : (kind : OpKind) → is_built_kind kind ≡ true → has_long_payload (kind_reused g kind) ≡ has_long_payload kind
  unfolding renamed
  payload_reused (For' var lower upper step carried shape row) b = absurd cc
  payload_reused (Forall' vars lower upper step shared shape row) b = absurd cc
  payload_reused kind b = refl

  reused_count : (os : List Op) → AreFlat os → ops_count (reused_ops g os) ≡ ops_count os
  reused_count [] h = refl
  reused_count (o ∷ os) h =
      sum_by-cons size (renamed_op (λ n. n) g (λ n. n) o) (reused_ops g os) ∙ (λ j. (1 + count_reused o.kind h.0 j) + reused_count os h.1 j) ∙ sym (sum_by-cons size o os)

  reused_levels : (os : List Op) → AreFlat os → levels_of (reused_ops g os) ≡ levels_of os
  reused_levels [] h = refl
  reused_levels (o ∷ os) h = λ j. max (1 + levels_reused o.kind h.0 j) (reused_levels os h.1 j)

  reused_payloads : (os : List Op) → AreFlat os → list_any (λ (o : Op). has_long_payload o.kind) (reused_ops g os) ≡ list_any (λ (o : Op). has_long_payload o.kind) os
  reused_payloads [] h = refl
  reused_payloads (o ∷ os) h = λ j. payload_reused o.kind h.0 j || reused_payloads os h.1 j

no_count : (kind : OpKind) → is_built_kind kind ≡ true → count_inside kind ≡ 0
no_count (For' var lower upper step carried shape row) b = absurd cc
no_count (Forall' vars lower upper step shared shape row) b = absurd cc
no_count kind b = refl

no_levels : (kind : OpKind) → is_built_kind kind ≡ true → levels_inside kind ≡ 0
no_levels (For' var lower upper step carried shape row) b = absurd cc
no_levels (Forall' vars lower upper step shared shape row) b = absurd cc
no_levels kind b = refl

-- uses of one value become uses of the first fresh one
values_moved : (r n : ℕ) (vs : List ValueId) → above_values vs ≤ n → above_values (values (one_moved r n) vs) ≤ suc n
values_moved r n [] l = omega arith
values_moved r n (v ∷ vs) l = by_test (v.0 == r) (values_moved r n vs (omega arith)) where
  by_test : (b : Bool) → above_values (values (one_moved r n) vs) ≤ suc n → max (suc (if b then n else v.0)) (above_values (values (one_moved r n) vs)) ≤ suc n
  by_test true rest = omega (arith, rest)
  by_test false rest = omega (arith, rest, l)

ops_moved : (r n : ℕ) (os : List Op) → AreFlat os → above_body os ≤ n → above_body (reused_ops (one_moved r n) os) ≤ suc n
ops_moved r n [] h l = omega arith
ops_moved r n (o ∷ os) h l =
    let rest = ops_moved r n os h.1 (omega arith) in
    let used : above_values (operands (kind_reused (one_moved r n) o.kind)) ≤ suc n =
    subst (λ vs. above_values vs ≤ suc n) (sym (operands_reused (one_moved r n) o.kind h.0)) (values_moved r n (operands o.kind) (omega arith)) in
    let defined : above_values (names_of (o.results)) ≤ suc n = omega arith in
    subst (λ rs. max (max (above_values (operands (kind_reused (one_moved r n) o.kind))) (above_values (names_of rs))) (above_body (reused_ops (one_moved r n) os)) ≤ suc n)
    (sym (results_kept (one_moved r n) o.results)) (omega (arith, rest, used, defined))

topped : (a n : ℕ) → a ≤ n → max a (suc n) ≡ suc n
topped a n l = omega (arith, l)

-- ONE EXCHANGE
module _ (front back : List FuncShape) (f : FuncShape) (before after : List Op) (o : Op) (r : ValueId × Ty) (op value : ℕ) (kind : OpKind)
    (is : f.body ≡ before ++ (o ∷ after)) (flat_after : AreFlat after) (built : is_built_kind o.kind ≡ true) (built_new : is_built_kind kind ≡ true)
    (op_is : fresh_op (front ++ (f ∷ back)) ≡ op) (value_is : fresh_value (front ++ (f ∷ back)) ≡ value)
    (reads : operands kind ≡ operands o.kind) (payload : has_long_payload kind ≡ has_long_payload o.kind) where
  abbrev pub news : Op
  news = record { id = record { 0 = op }; results = (record { 0 = value }, r.1) ∷ []; kind = kind }

  abbrev pub later : List Op
  later = reused_ops (one_moved (r.0).0 value) after

  abbrev pub exchanged_funcs : List FuncShape
  exchanged_funcs = front ++ (func_with f (before ++ (news ∷ later)) ∷ back)

  pub next_op : fresh_op exchanged_funcs ≡ suc op
  next_op =
      let a = fresh_op_append front (func_with f (before ++ (news ∷ later)) ∷ back) in
      let b = above_ids_append before (news ∷ later) in
      let c = fresh_op_append front (f ∷ back) in
      let d = ap above_ids is ∙ above_ids_append before (o ∷ after) in
      let e = reused_ids (one_moved (r.0).0 value) after in
      omega (arith, a, b, c, d, e, op_is)

  was : fresh_value (front ++ (f ∷ back)) ≡ max (fresh_value front) (max (above_func f) (fresh_value back))
  was = fresh_value_append front (f ∷ back)

  front_small : fresh_value front ≤ value
  front_small = let c = was in omega (arith, c, value_is)

  func_small : above_func f ≤ value
  func_small = let c = was in omega (arith, c, value_is)

  back_small : fresh_value back ≤ value
  back_small = let c = was in omega (arith, c, value_is)

  body_small : above_body (before ++ (o ∷ after)) ≤ value
  body_small = subst (λ os. above_body os ≤ value) is (let l = func_small in omega (arith, l))

  params_small : above_values (names_of f.params) ≤ value
  params_small = let l = func_small in omega (arith, l)

  before_small : above_body before ≤ value
  before_small = let c = above_body_append before (o ∷ after) in let l = body_small in omega (arith, c, l)

  target_small : above_body (o ∷ after) ≤ value
  target_small = let c = above_body_append before (o ∷ after) in let l = body_small in omega (arith, c, l)

  used_small : above_values (operands kind) ≤ value
  used_small = subst (λ vs. above_values vs ≤ value) (sym reads) (let l = target_small in omega (arith, l))

  later_small : above_body later ≤ suc value
  later_small = ops_moved (r.0).0 value after flat_after (let l = target_small in omega (arith, l))

  -- the greatest number is the new one
  news_is : above_body (news ∷ later) ≡ suc value
  news_is = let a = used_small in let b = later_small in omega (arith, a, b)

  body_is : above_body (before ++ (news ∷ later)) ≡ suc value
  body_is = above_body_append before (news ∷ later) ∙ ap (max (above_body before)) news_is ∙ topped (above_body before) value before_small

  pub next_value : fresh_value exchanged_funcs ≡ suc value
  next_value =
      fresh_value_append front (func_with f (before ++ (news ∷ later)) ∷ back)
      ∙ ap (λ b. max (fresh_value front) (max (max (above_values (names_of f.params)) b) (fresh_value back))) body_is
      ∙ ap (λ a. max (fresh_value front) (max a (fresh_value back))) (topped (above_values (names_of f.params)) value params_small)
      ∙ ap (max (fresh_value front)) (let l = back_small in omega (arith, l))
      ∙ topped (fresh_value front) value front_small

  -- THE LIMITS
  same_count : (os : List Op) → ops_count (os ++ (news ∷ later)) ≡ ops_count (os ++ (o ∷ after))
  same_count [] =
      sum_by-cons size news later
      ∙ (λ j. (1 + (no_count kind built_new ∙ sym (no_count o.kind built)) j) + reused_count (one_moved (r.0).0 value) after flat_after j)
      ∙ sym (sum_by-cons size o after)
  same_count (p ∷ os) = sum_by-cons size p (os ++ (news ∷ later)) ∙ ap (λ c. size p + c) (same_count os) ∙ sym (sum_by-cons size p (os ++ (o ∷ after)))

  same_levels : (os : List Op) → levels_of (os ++ (news ∷ later)) ≡ levels_of (os ++ (o ∷ after))
  same_levels [] = λ j. max (1 + (no_levels kind built_new ∙ sym (no_levels o.kind built)) j) (reused_levels (one_moved (r.0).0 value) after flat_after j)
  same_levels (p ∷ os) = ap (max (1 + levels_inside p.kind)) (same_levels os)

  same_payloads : (os : List Op) → list_any (λ (o : Op). has_long_payload o.kind) (os ++ (news ∷ later)) ≡ list_any (λ (o : Op). has_long_payload o.kind) (os ++ (o ∷ after))
  same_payloads [] = λ j. payload j || reused_payloads (one_moved (r.0).0 value) after flat_after j
  same_payloads (p ∷ os) = ap (λ b. has_long_payload p.kind || b) (same_payloads os)

  abbrev new_func : FuncShape
  new_func = func_with f (before ++ (news ∷ later))

  funcs_count : (fs : List FuncShape) → module_count (fs ++ (new_func ∷ back)) ≡ module_count (fs ++ (f ∷ back))
  funcs_count [] =
      sum_by-cons func_size new_func back ∙ ap (λ c. c + module_count back) (same_count before ∙ ap ops_count (sym is)) ∙ sym (sum_by-cons func_size f back)
  funcs_count (g ∷ fs) =
      sum_by-cons func_size g (fs ++ (new_func ∷ back)) ∙ ap (λ c. ops_count g.body + c) (funcs_count fs) ∙ sym (sum_by-cons func_size g (fs ++ (f ∷ back)))

  funcs_levels : (fs : List FuncShape) → module_levels (fs ++ (new_func ∷ back)) ≡ module_levels (fs ++ (f ∷ back))
  funcs_levels [] = ap (λ c. max c (module_levels back)) (same_levels before ∙ ap levels_of (sym is))
  funcs_levels (g ∷ fs) = ap (max (levels_of g.body)) (funcs_levels fs)

  funcs_payloads : (fs : List FuncShape) → has_long_payloads (fs ++ (new_func ∷ back)) ≡ has_long_payloads (fs ++ (f ∷ back))
  funcs_payloads [] = ap (λ b. b || has_long_payloads back) (same_payloads before ∙ ap (list_any (λ (o : Op). has_long_payload o.kind)) (sym is))
  funcs_payloads (g ∷ fs) = ap (λ b. list_any (λ (o : Op). has_long_payload o.kind) g.body || b) (funcs_payloads fs)

  pub same_limits : passed exchanged_funcs ≡ passed (front ++ (f ∷ back))
  same_limits = λ j.
      if nat_lt 65536 (funcs_count front j) then Some Operations
      else (if nat_lt 64 (funcs_levels front j - 1) then Some Depth else (if funcs_payloads front j then Some PayloadSteps else None))
