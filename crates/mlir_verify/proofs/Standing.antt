-- What is known grows with each operation and function.
use Rattle.std.proofs.Common.{◌≡◌, ℕ, List, [], ◌∷◌, ◌++◌, map, append_assoc, append-nil, refl, ap, sym, ◌∙◌, Option, Some, None}
use Rattle.std.specs.Prelude.{◌==◌, if◌then◌else◌}
use Rattle.std.specs.List.{flat_map}
use Rattle.mlir_ir.specs.Shape.{FuncShape}
use Rattle.mlir_ir.specs.Count.{first}
use Rattle.mlir_ir.specs.declared.tree.Op.{Op}
use Rattle.mlir_ir.specs.declared.tree.Ty.{Ty}
use Rattle.mlir_ir.specs.declared.tree.ValueId.{ValueId}
use Rattle.mlir_verify.specs.declared.rule.Rule.{Rule}
use Rattle.mlir_verify.specs.Place.{Place, type_among, scope_at}
use Rattle.mlir_verify.specs.Names.{defined_by, defined_in, defined_at, ids, ids_at, numbers}
use Rattle.mlir_verify.specs.Constants.{constants_at, constants_of}
use Rattle.mlir_verify.specs.Rules.{broken, stands_at, first_broken_of}
use Rattle.mlir_verify.proofs.Walks.{first-assoc}

pub first-None : {A : Type 0} (a : Option A) → first a None ≡ a
first-None None = refl
first-None (Some a) = refl

pub flat_map_last : {A B : Type 0} (h : A → List B) (xs : List A) (x : A) → flat_map h (xs ++ x ∷ []) ≡ flat_map h xs ++ h x
flat_map_last h [] x = append-nil (h x)
flat_map_last h (y ∷ ys) x = ap (λ l. h y ++ l) (flat_map_last h ys x) ∙ sym (append_assoc (h y) (flat_map h ys) (h x))

map_last : {A B : Type 0} (h : A → B) (xs : List A) (x : A) → map h (xs ++ x ∷ []) ≡ map h xs ++ h x ∷ []
map_last h [] x = refl
map_last h (y ∷ ys) x = ap (λ l. h y ∷ l) (map_last h ys x)

pub type_among-append : (xs ys : List (ValueId × Ty)) (v : ℕ) → type_among (xs ++ ys) v ≡ first (type_among ys v) (type_among xs v)
type_among-append [] ys v = sym (first-None (type_among ys v))
type_among-append (x ∷ xs) ys v =
    ap (λ t. first t (if (x.0).0 == v then Some x.1 else None)) (type_among-append xs ys v)
    ∙ first-assoc (type_among ys v) (type_among xs v) (if (x.0).0 == v then Some x.1 else None)

pub scope_at-last : (f : FuncShape) (os : List Op) (o : Op) → scope_at f (os ++ o ∷ []) ≡ scope_at f os ++ o.results
scope_at-last f os o = ap (λ l. f.params ++ l) (flat_map_last (λ (p : Op). p.results) os o) ∙ sym (append_assoc f.params (flat_map (λ (p : Op). p.results) os) o.results)

pub defined_at-last : (before : List FuncShape) (f : FuncShape) (os : List Op) (o : Op) → defined_at before f (os ++ o ∷ []) ≡ defined_at before f os ++ defined_by o
defined_at-last before f os o =
    ap (λ l. (defined_in before ++ numbers f.params) ++ l) (flat_map_last defined_by os o)
    ∙ sym (append_assoc (defined_in before ++ numbers f.params) (flat_map defined_by os) (defined_by o))

pub ids_at-last : (before : List FuncShape) (os : List Op) (o : Op) → ids_at before (os ++ o ∷ []) ≡ ids_at before os ++ o.id.0 ∷ []
ids_at-last before os o =
    ap (λ l. flat_map (λ (f : FuncShape). ids f.body) before ++ l) (map_last (λ (p : Op). p.id.0) os o)
    ∙ sym (append_assoc (flat_map (λ (f : FuncShape). ids f.body) before) (ids os) (o.id.0 ∷ []))

pub defined_in-last : (before : List FuncShape) (f : FuncShape) → defined_in (before ++ f ∷ []) ≡ defined_at before f f.body
defined_in-last before f =
    flat_map_last (λ (g : FuncShape). numbers g.params ++ flat_map defined_by g.body) before f
    ∙ sym (append_assoc (defined_in before) (numbers f.params) (flat_map defined_by f.body))

pub ids-last : (before : List FuncShape) (f : FuncShape) → flat_map (λ (g : FuncShape). ids g.body) (before ++ f ∷ []) ≡ ids_at before f.body
ids-last before f = flat_map_last (λ (g : FuncShape). ids g.body) before f

-- the first place of two lists at which a rule fails
pub first_broken_of-append : (ps qs : List Place) → first_broken_of (ps ++ qs) ≡ first (first_broken_of ps) (first_broken_of qs)
first_broken_of-append [] qs = refl
first_broken_of-append (p ∷ ps) qs = by_rule (broken p) (first_broken_of-append ps qs) where
  by_rule : (o : Option Rule) → first_broken_of (ps ++ qs) ≡ first (first_broken_of ps) (first_broken_of qs) →
      stands_at p.op.id o (first_broken_of (ps ++ qs)) ≡ first (stands_at p.op.id o (first_broken_of ps)) (first_broken_of qs)
  by_rule None e = e
  by_rule (Some r) e = refl

pub constants_at-last : (os : List Op) (o : Op) → constants_at (os ++ o ∷ []) ≡ constants_at os ++ constants_of o
constants_at-last os o = flat_map_last constants_of os o
