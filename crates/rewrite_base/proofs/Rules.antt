-- The rule that a step breaks at the operation of a number is the one at its place.
use Rattle.std.proofs.Common.{◌≡◌, ◌==◌, ℕ, zero, suc, Bool, true, false, List, [], ◌∷◌, ◌++◌, take, Option, Some, None, refl, sym, ap, subst, ◌∙◌}
use Rattle.std.specs.Prelude.{option_map, slice_get, if◌then◌else◌}
use Rattle.std.proofs.lemmas.Option.{same_Some}
use Rattle.mlir_ir.specs.Count.{first}
use Rattle.mlir_ir.specs.Shape.{FuncShape}
use Rattle.mlir_ir.specs.declared.tree.Op.{Op}
use Rattle.mlir_ir.specs.declared.tree.OpId.{OpId}
use Rattle.mlir_verify.specs.Names.{ids}
use Rattle.mlir_verify.proofs.Verified.{Each}
use Rattle.verified_runs.specs.Passes.{Scope, scope_after}
use Rattle.structured_steps.specs.declared.rule.StepRule.{StepRule}
use Rattle.structured_steps.specs.Steps.{Rules, broken_in, broken_among}
use Rattle.mlir_edits.specs.declared.place.Place.{Place}
use Rattle.mlir_edits.specs.Places.{position_in, place_of, scope_before}
use Rattle.mlir_edits.proofs.Scopes.{first_none}
use Rattle.mlir_edits.proofs.Unique.{FuncsAreNew}
use Rattle.mlir_edits.proofs.Formed.{position, position_in_is, located, located_by, located_at, later_nowhere}

broken_there : (i : OpId) (rules : Rules) (os : List Op) (scope : Scope) (n : ℕ) (o : Op) → position i os ≡ Some n → slice_get os n ≡ Some o →
    broken_in i rules scope os ≡ rules (scope_after scope (take n os)) o
broken_there i rules [] scope n o h g = absurd cc
broken_there i rules (p ∷ os) scope n o h g =
    by (λ k q g. broken_there i rules os (scope ++ p.results) k o q g) (p.id.0 == i.0) (position i os) refl h where
      by : ((k : ℕ) → position i os ≡ Some k → slice_get os k ≡ Some o → broken_in i rules (scope ++ p.results) os ≡ rules (scope_after (scope ++ p.results) (take k os)) o) →
          (b : Bool) (r : Option ℕ) → position i os ≡ r → (if b then Some 0 else option_map suc r) ≡ Some n →
          (if b then rules scope p else broken_in i rules (scope ++ p.results) os) ≡ rules (scope_after scope (take n (p ∷ os))) o
      by again true r q e =
          let z = same_Some 0 n e in
          let same = same_Some p o (ap (slice_get (p ∷ os)) z ∙ g) in
          ap (rules scope) same ∙ ap (λ k. rules (scope_after scope (take k (p ∷ os))) o) z
      by again false None q e = absurd cc
      by again false (Some k) q e =
          let z = same_Some (suc k) n e in
          again k q (ap (slice_get (p ∷ os)) z ∙ g) ∙ ap (λ k. rules (scope_after scope (take k (p ∷ os))) o) z

broken_nowhere : (i : OpId) (rules : Rules) (os : List Op) (scope : Scope) → position i os ≡ None → broken_in i rules scope os ≡ None
broken_nowhere i rules [] scope h = refl
broken_nowhere i rules (p ∷ os) scope h =
    by (broken_nowhere i rules os (scope ++ p.results)) (p.id.0 == i.0) (position i os) refl h where
      by : (position i os ≡ None → broken_in i rules (scope ++ p.results) os ≡ None) → (b : Bool) (r : Option ℕ) → position i os ≡ r → (if b then Some 0 else option_map suc r) ≡ None →
          (if b then rules scope p else broken_in i rules (scope ++ p.results) os) ≡ None
      by again true r q e = absurd cc
      by again false None q e = again q
      by again false (Some k) q e = absurd cc

all_nowhere : (i : OpId) (rules : Rules) (fs : List FuncShape) → Each (λ (f : FuncShape). position_in i f.body ≡ None) fs → broken_among i rules fs ≡ None
all_nowhere i rules [] h = refl
all_nowhere i rules (f ∷ fs) h =
    ap (λ a. first a (broken_among i rules fs)) (broken_nowhere i rules f.body f.params (sym (position_in_is i f.body) ∙ h.0)) ∙ all_nowhere i rules fs h.1

broken_located : (i : OpId) (rules : Rules) (fs : List FuncShape) (known : List ℕ) (q : ℕ × ℕ) (f : FuncShape) (o : Op) → FuncsAreNew known fs → located i fs ≡ Some q →
    slice_get fs q.0 ≡ Some f → slice_get f.body q.1 ≡ Some o → broken_among i rules fs ≡ rules (scope_before f q.1) o
broken_located i rules [] known q f o new h g b = absurd cc
broken_located i rules (p ∷ fs) known q f o new h g b =
    by (λ r m g b. broken_located i rules fs (known ++ ids p.body) r f o new.1 m g b) (position i p.body) refl (located i fs) refl h where
      by : ((r : ℕ × ℕ) → located i fs ≡ Some r → slice_get fs r.0 ≡ Some f → slice_get f.body r.1 ≡ Some o → broken_among i rules fs ≡ rules (scope_before f r.1) o) →
          (r : Option ℕ) → position i p.body ≡ r → (l : Option (ℕ × ℕ)) → located i fs ≡ l → located_by r l ≡ Some q → broken_among i rules (p ∷ fs) ≡ rules (scope_before f q.1) o
      by again (Some k) t l m e =
          let z = same_Some (0, k) q e in
          let same = same_Some p f (ap (λ (q : ℕ × ℕ). slice_get (p ∷ fs) q.0) z ∙ g) in
          let here = ap (λ (f : FuncShape). slice_get f.body k) same ∙ ap (λ (q : ℕ × ℕ). slice_get f.body q.1) z ∙ b in
          ap (λ a. first a (broken_among i rules fs)) (broken_there i rules p.body p.params k o t here)
          ∙ ap (first (rules (scope_before p k) o)) (all_nowhere i rules fs (later_nowhere i p fs known k new t))
          ∙ first_none (rules (scope_before p k) o)
          ∙ ap (λ (f : FuncShape). rules (scope_before f k) o) same
          ∙ ap (λ (q : ℕ × ℕ). rules (scope_before f q.1) o) z
      by again None t None m e = absurd cc
      by again None t (Some r) m e =
          let z = same_Some (suc r.0, r.1) q e in
          ap (λ a. first a (broken_among i rules fs)) (broken_nowhere i rules p.body p.params t)
          ∙ again r m (ap (λ (q : ℕ × ℕ). slice_get (p ∷ fs) q.0) z ∙ g) (ap (λ (q : ℕ × ℕ). slice_get f.body q.1) z ∙ b)
          ∙ ap (λ (q : ℕ × ℕ). rules (scope_before f q.1) o) z

pub broken_at : (i : OpId) (rules : Rules) (fs : List FuncShape) (p : Place) (f : FuncShape) (o : Op) → FuncsAreNew [] fs → place_of i fs ≡ Some p →
    slice_get fs p.func ≡ Some f → slice_get f.body p.op ≡ Some o → broken_among i rules fs ≡ rules (scope_before f p.op) o
broken_at i rules fs p f o new h g b = broken_located i rules fs [] (p.func, p.op) f o new (located_at i fs p h) g b
