-- In a verified module the operation of a number is the one at its place, since nothing stands inside another.
use Rattle.std.proofs.Common.{◌≡◌, ◌==◌, ℕ, zero, suc, Bool, true, false, List, [], ◌∷◌, ◌++◌, Option, Some, None, refl, sym, ap, ◌∙◌}
use Rattle.std.specs.Prelude.{option_map, option_and_then, slice_get, if◌then◌else◌}
use Rattle.std.proofs.lemmas.Option.{same_Some}
use Rattle.mlir_ir.specs.Count.{first, find_inside, find_op, find_in}
use Rattle.mlir_ir.specs.Shape.{FuncShape}
use Rattle.mlir_ir.specs.declared.tree.Module.{Module}
use Rattle.mlir_ir.specs.declared.tree.Op.{Op}
use Rattle.mlir_ir.specs.declared.tree.OpId.{OpId}
use Rattle.mlir_ir.specs.declared.tree.OpKind.{OpKind, For', Forall'}
use Rattle.mlir_ir.specs.declared.tree.Ty.{Ty}
use Rattle.mlir_meaning.specs.Grids.{Each}
use Rattle.mlir_verify.specs.Built.{is_built_kind}
use Rattle.mlir_verify.specs.Rules.{IsVerified}
use Rattle.verified_runs.specs.Passes.{Scope, BodyPasses, FuncPasses}
use Rattle.verified_runs.proofs.Places.{built_kind}
use Rattle.verified_runs.proofs.Verified.{verified_passes}
use Rattle.mlir_edits.specs.declared.place.Place.{Place}
use Rattle.mlir_edits.specs.Places.{place_of, op_at}
use Rattle.mlir_edits.proofs.Formed.{position, located, located_by, place_past, place_is, located_at}

nothing_inside : (i : OpId) (kind : OpKind) → is_built_kind kind ≡ true → find_inside i kind ≡ None
nothing_inside i (For' var lower upper step carried shape row) b = absurd cc
nothing_inside i (Forall' vars lower upper step shared shape row) b = absurd cc
nothing_inside i kind b = refl

abbrev op_of : List Op → Option ℕ → Option Op
op_of os None = None
op_of os (Some n) = slice_get os n

found_in_body : (i : OpId) (wanted : List Ty) (os : List Op) (scope : Scope) → BodyPasses scope wanted os → find_op i os ≡ op_of os (position i os)
found_in_body i wanted [] scope h = refl
found_in_body i wanted (o ∷ os) scope h = by (o.id.0 == i.0) (position i os) (found_in_body i wanted os (scope ++ o.results) h.2) where
  by : (b : Bool) (r : Option ℕ) → find_op i os ≡ op_of os r →
      (if b then Some o else first (find_inside i o.kind) (find_op i os)) ≡ op_of (o ∷ os) (if b then Some 0 else option_map suc r)
  by true r e = refl
  by false None e = ap (λ a. first a (find_op i os)) (nothing_inside i o.kind (built_kind scope wanted o h.0)) ∙ e
  by false (Some n) e = ap (λ a. first a (find_op i os)) (nothing_inside i o.kind (built_kind scope wanted o h.0)) ∙ e

abbrev op_in : List FuncShape → Option (ℕ × ℕ) → Option Op
op_in fs None = None
op_in fs (Some q) = option_and_then (λ (f : FuncShape). slice_get f.body q.1) (slice_get fs q.0)

in_range : (i : OpId) (os : List Op) (n : ℕ) → position i os ≡ Some n → (o : Op) × (slice_get os n ≡ Some o)
in_range i [] n h = absurd cc
in_range i (o ∷ os) n h = by (o.id.0 == i.0) (position i os) refl (in_range i os) h where
  by : (b : Bool) (r : Option ℕ) → position i os ≡ r → ((k : ℕ) → position i os ≡ Some k → (p : Op) × (slice_get os k ≡ Some p)) → (if b then Some 0 else option_map suc r) ≡ Some n → (p : Op) × (slice_get (o ∷ os) n ≡ Some p)
  by true r q rec e = (o, ap (λ k. slice_get (o ∷ os) k) (sym (same_Some 0 n e)))
  by false None q rec e = absurd cc
  by false (Some k) q rec e = let x = rec k q in (x.0, ap (λ k. slice_get (o ∷ os) k) (sym (same_Some (suc k) n e)) ∙ x.1)

found_in_funcs : (i : OpId) (fs : List FuncShape) → Each FuncPasses fs → find_in i fs ≡ op_in fs (located i fs)
found_in_funcs i [] h = refl
found_in_funcs i (f ∷ fs) h = by (position i f.body) refl (found_in_body i f.results f.body f.params h.0.body) (located i fs) (found_in_funcs i fs h.1) where
  by : (r : Option ℕ) → position i f.body ≡ r → find_op i f.body ≡ op_of f.body r → (l : Option (ℕ × ℕ)) → find_in i fs ≡ op_in fs l →
      first (find_op i f.body) (find_in i fs) ≡ op_in (f ∷ fs) (located_by r l)
  by None p e None k = ap (λ a. first a (find_in i fs)) e ∙ k
  by None p e (Some q) k = ap (λ a. first a (find_in i fs)) e ∙ k
  by (Some n) p e l k = let x = in_range i f.body n p in ap (λ a. first a (find_in i fs)) (e ∙ x.1) ∙ sym x.1

pub found_nowhere : (m : Module) (i : OpId) → IsVerified m → place_of i m.funcs ≡ None → find_in i m.funcs ≡ None
found_nowhere m i v h = found_in_funcs i m.funcs (verified_passes m v) ∙ ap (op_in m.funcs) (by (located i m.funcs) (sym (place_is i m.funcs 0) ∙ h)) where
  by : (l : Option (ℕ × ℕ)) → option_map (place_past 0) l ≡ None → l ≡ None
  by None e = refl
  by (Some q) e = absurd cc

pub found_there : (m : Module) (i : OpId) (p : Place) → IsVerified m → place_of i m.funcs ≡ Some p → find_in i m.funcs ≡ op_at p m.funcs
found_there m i p v h = found_in_funcs i m.funcs (verified_passes m v) ∙ ap (op_in m.funcs) (located_at i m.funcs p h)

there_in : (i : OpId) (fs : List FuncShape) (q : ℕ × ℕ) → located i fs ≡ Some q → (o : Op) × (op_in fs (Some q) ≡ Some o)
there_in i [] q e = absurd cc
there_in i (f ∷ fs) q e = by (position i f.body) refl (located i fs) refl (there_in i fs) e where
  by : (r : Option ℕ) → position i f.body ≡ r → (l : Option (ℕ × ℕ)) → located i fs ≡ l → ((r : ℕ × ℕ) → located i fs ≡ Some r → (o : Op) × (op_in fs (Some r) ≡ Some o)) →
      located_by r l ≡ Some q → (o : Op) × (op_in (f ∷ fs) (Some q) ≡ Some o)
  by (Some n) t l k rec g = let x = in_range i f.body n t in (x.0, ap (λ q. op_in (f ∷ fs) (Some q)) (sym (same_Some (0, n) q g)) ∙ x.1)
  by None t None k rec g = absurd cc
  by None t (Some r) k rec g = let x = rec r k in (x.0, ap (λ q. op_in (f ∷ fs) (Some q)) (sym (same_Some (suc r.0, r.1) q g)) ∙ x.1)

-- a place is one of the module's
pub place_is_there : (m : Module) (i : OpId) (p : Place) → place_of i m.funcs ≡ Some p → (o : Op) × (op_at p m.funcs ≡ Some o)
place_is_there m i p h = there_in i m.funcs (p.func, p.op) (located_at i m.funcs p h)
