-- Numbers below a module's fresh ones, and what renaming uses leaves as it was.
use Rattle.std.proofs.Common.{◌≡◌, ℕ, ◌<◌, ◌≤◌, ◌&&◌, true, List, [], ◌∷◌, ◌++◌, map, refl, ap, sym, subst, arith}
use Rattle.std.specs.List.{flat_map, list_all}
use Rattle.mlir_ir.specs.Shape.{FuncShape}
use Rattle.mlir_ir.specs.declared.tree.Op.{Op}
use Rattle.mlir_ir.specs.declared.tree.OpKind.{OpKind, Generic, For', Forall'}
use Rattle.mlir_ir.specs.declared.tree.Ty.{Ty}
use Rattle.mlir_ir.specs.declared.tree.ValueId.{ValueId}
use Rattle.mlir_meaning.specs.Grids.{Each}
use Rattle.mlir_meaning.specs.Renaming.{values, arguments_renamed, renamed, reused_ops}
use Rattle.mlir_meaning.specs.States.{names_of}
use Rattle.mlir_meaning.proofs.Grids.{each-append}
use Rattle.mlir_verify.specs.Built.{is_built_kind}
use Rattle.mlir_verify.specs.Limits.{is_small_type, has_few_dimensions, is_small_op}
use Rattle.mlir_verify.specs.Names.{numbers, arguments, defined_by, defined_in, ids}
use Rattle.verified_runs.specs.Fresh.{above_values, above_body, above_func, fresh_value, above_ids, fresh_op}
use Rattle.verified_runs.specs.Passes.{Scope, BodyPasses, FuncPasses, scope_after}
use Rattle.verified_runs.proofs.Places.{built_kind}
use Rattle.verified_runs.proofs.ReusedBodies.{results_kept}

-- NO BUILT OPERATION HAS ARGUMENTS
pub no_arguments : (kind : OpKind) → is_built_kind kind ≡ true → arguments kind ≡ []
no_arguments (For' var lower upper step carried shape row) b = absurd cc
no_arguments (Forall' vars lower upper step shared shape row) b = absurd cc
no_arguments kind b = refl

-- NUMBERS BELOW
pub above_append : (xs ys : List ValueId) (n : ℕ) → above_values xs ≤ n → above_values ys ≤ n → above_values (xs ++ ys) ≤ n
above_append [] ys n h k = k
above_append (x ∷ xs) ys n h k = let rest = above_append xs ys n (omega arith) k in omega (arith, h, rest)

pub names_append : (xs ys : Scope) → names_of (xs ++ ys) ≡ names_of xs ++ names_of ys
names_append [] ys = refl
names_append (x ∷ xs) ys = ap (λ vs. x.0 ∷ vs) (names_append xs ys)

pub scope_above : (scope rs : Scope) (n : ℕ) → above_values (names_of scope) ≤ n → above_values (names_of rs) ≤ n → above_values (names_of (scope ++ rs)) ≤ n
scope_above scope rs n h k = subst (λ vs. above_values vs ≤ n) (sym (names_append scope rs)) (above_append (names_of scope) (names_of rs) n h k)

pub after_above : (os : List Op) (scope : Scope) (n : ℕ) → above_values (names_of scope) ≤ n → above_body os ≤ n → above_values (names_of (scope_after scope os)) ≤ n
after_above [] scope n h k = h
after_above (o ∷ os) scope n h k = after_above os (scope ++ o.results) n (scope_above scope o.results n h (omega arith)) (omega arith)

pub numbers_below : (rs : Scope) (n : ℕ) → above_values (names_of rs) ≤ n → Each (λ v. v < n) (numbers rs)
numbers_below [] n h = tt
numbers_below (r ∷ rs) n h = (omega arith, numbers_below rs n (omega arith))

pub body_below : (wanted : List Ty) (os : List Op) (scope : Scope) (n : ℕ) → BodyPasses scope wanted os → above_body os ≤ n → Each (λ v. v < n) (flat_map defined_by os)
body_below wanted [] scope n h l = tt
body_below wanted (o ∷ os) scope n h l =
    each-append (λ v. v < n) (defined_by o) (flat_map defined_by os)
    (each-append (λ v. v < n) (numbers o.results) (arguments o.kind) (numbers_below o.results n (omega arith)) (subst (Each (λ v. v < n)) (sym (no_arguments o.kind (built_kind scope wanted o h.0))) tt))
    (body_below wanted os (scope ++ o.results) n h.2 (omega arith))

pub values_below : (fs : List FuncShape) (n : ℕ) → Each FuncPasses fs → fresh_value fs ≤ n → Each (λ v. v < n) (defined_in fs)
values_below [] n h l = tt
values_below (f ∷ fs) n h l =
    each-append (λ v. v < n) (numbers f.params ++ flat_map defined_by f.body) (defined_in fs)
    (each-append (λ v. v < n) (numbers f.params) (flat_map defined_by f.body) (numbers_below f.params n (omega arith)) (body_below f.results f.body f.params n (h.0).body (omega arith)))
    (values_below fs n h.1 (omega arith))

body_ids_below : (os : List Op) (k : ℕ) → above_ids os ≤ k → Each (λ v. v < k) (ids os)
body_ids_below [] k l = tt
body_ids_below (o ∷ os) k l = (omega arith, body_ids_below os k (omega arith))

pub ids_below : (fs : List FuncShape) (k : ℕ) → fresh_op fs ≤ k → Each (λ v. v < k) (flat_map (λ (f : FuncShape). ids f.body) fs)
ids_below [] k l = tt
ids_below (f ∷ fs) k l = each-append (λ v. v < k) (ids f.body) (flat_map (λ (g : FuncShape). ids g.body) fs) (body_ids_below f.body k (omega arith)) (ids_below fs k (omega arith))

-- the function in the middle
pub middle_above : (front back : List FuncShape) (f : FuncShape) (n : ℕ) → fresh_value (front ++ (f ∷ back)) ≤ n → above_func f ≤ n
middle_above [] back f n l = omega arith
middle_above (g ∷ front) back f n l = middle_above front back f n (omega arith)

pub body_above : (before after : List Op) (n : ℕ) → above_body (before ++ after) ≤ n → (above_body before ≤ n) × (above_body after ≤ n)
body_above [] after n l = (omega arith, l)
body_above (o ∷ before) after n l = let rest = body_above before after n (omega arith) in (let b = rest.0 in omega (arith, b, l), rest.1)

-- USES RENAMED
module _ (f : ℕ → ℕ) where
  abbrev new : OpKind → OpKind
  new = renamed (λ k. k) f (λ k. k)

  carried_same : (cs : List (ValueId × Ty × ValueId)) → map (λ (c : ValueId × Ty × ValueId). (c.0).0) (arguments_renamed (λ k. k) f (λ k. k) cs) ≡ map (λ (c : ValueId × Ty × ValueId). (c.0).0) cs
  carried_same [] = refl
  carried_same (c ∷ cs) = ap (λ xs. (c.0).0 ∷ xs) (carried_same cs)

  vars_same : (vs : List ValueId) → map (λ (v : ValueId). v.0) (values (λ k. k) vs) ≡ map (λ (v : ValueId). v.0) vs
  vars_same [] = refl
  vars_same (v ∷ vs) = ap (λ xs. v.0 ∷ xs) (vars_same vs)

  arguments_same : (kind : OpKind) → arguments (new kind) ≡ arguments kind
  unfolding renamed
  arguments_same (For' var lower upper step carried shape row) = ap (λ xs. var.0 ∷ xs) (carried_same carried)
  arguments_same (Forall' vars lower upper step shared shape row) = λ j. vars_same vars j ++ carried_same shared j
  arguments_same kind = refl

  pub defined_same : (os : List Op) → flat_map defined_by (reused_ops f os) ≡ flat_map defined_by os
  defined_same [] = refl
  defined_same (o ∷ os) = λ j. (numbers (results_kept f o.results j) ++ arguments_same o.kind j) ++ defined_same os j

  pub ids_same : (os : List Op) → ids (reused_ops f os) ≡ ids os
  ids_same [] = refl
  ids_same (o ∷ os) = ap (λ xs. o.id.0 ∷ xs) (ids_same os)

  dimensions_same : (kind : OpKind) → has_few_dimensions (new kind) ≡ has_few_dimensions kind
  unfolding renamed
  dimensions_same (Generic maps iterators ins outs captured payload) = refl
  dimensions_same kind = refl

  pub small_same : (os : List Op) → list_all is_small_op (reused_ops f os) ≡ list_all is_small_op os
  small_same [] = refl
  small_same (o ∷ os) = λ j. (list_all (λ (r : ValueId × Ty). is_small_type r.1) (results_kept f o.results j) && dimensions_same o.kind j) && small_same os j
