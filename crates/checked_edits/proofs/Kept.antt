-- A module that keeps the other rules and passes no limit is verified, and one that is verified keeps the rules.
use Rattle.std.proofs.Common.{◌≡◌, Bool, true, false, List, [], ◌∷◌, ◌++◌, Option, Some, None, refl, ◌∙◌}
use Rattle.std.specs.Prelude.{◌&&◌, ◌||◌, not, if◌then◌else◌}
use Rattle.std.specs.List.{list_all}
use Rattle.std.proofs.lemmas.Bool.{and_parts}
use Rattle.mlir_ir.specs.Shape.{FuncShape}
use Rattle.mlir_ir.specs.declared.tree.Module.{Module}
use Rattle.mlir_ir.specs.declared.tree.Op.{Op}
use Rattle.mlir_meaning.specs.Grids.{Each}
use Rattle.mlir_verify.specs.declared.rule.Rule.{Rule}
use Rattle.mlir_verify.specs.declared.rule.Rule.TheVariants.{V14}
use Rattle.mlir_verify.specs.Limits.{has_small_signature, is_small_op, breaks_limits}
use Rattle.mlir_verify.specs.Place.{Place, place_at, places, places_of, places_from, is_first}
use Rattle.mlir_verify.specs.Rules.{broken, fails, lowest, stands_at, first_broken, first_broken_of, IsVerified}
use Rattle.mlir_verify.proofs.Verified as verified
use Rattle.mlir_verify.proofs.Verified.{verified_places}
use Rattle.step_results.specs.Modules.{is_small_func}
use Rattle.step_results.proofs.Modules.{verified_module}
use Rattle.checked_edits.specs.Limits.{first_passed, limits_on_types}
use Rattle.checked_edits.specs.Replacing.{KeepsRules, LimitsAreTheLastRule, rules_before_limits}
use Rattle.checked_edits.proofs.Small.{funcs_small, types_pass}

-- V14 at a place
limits_kept : (p : Place) → is_small_op p.op ≡ true → has_small_signature p.func ≡ true → breaks_limits p ≡ false
unfolding breaks_limits
limits_kept p o f = (λ j. not (o j) || (is_first p && not (f j))) ∙ only (is_first p) where
  only : (b : Bool) → (b && false) ≡ false
  only true = refl
  only false = refl

body_kept : (os earlier : List Op) (before : List FuncShape) (f : FuncShape) → has_small_signature f ≡ true →
    list_all is_small_op os ≡ true →
    Each (λ p. breaks_limits p ≡ false) (places_of os earlier before f)
body_kept [] earlier before f s h = tt
body_kept (o ∷ os) earlier before f s h =
    let both = and_parts (is_small_op o) (list_all is_small_op os) h in
    (limits_kept (place_at before f earlier o os) both.0 s, body_kept os (earlier ++ o ∷ []) before f s both.1)

both_lists : {A : Type 0} (P : A → Type 0) (xs ys : List A) → Each P xs → Each P ys → Each P (xs ++ ys)
both_lists P [] ys h k = k
both_lists P (x ∷ xs) ys h k = (h.0, both_lists P xs ys h.1 k)

funcs_kept : (fs before : List FuncShape) → list_all is_small_func fs ≡ true → Each (λ p. breaks_limits p ≡ false) (places_from fs before)
funcs_kept [] before h = tt
funcs_kept (f ∷ fs) before h =
    let all = and_parts (is_small_func f) (list_all is_small_func fs) h in
    let own = and_parts (has_small_signature f) (list_all is_small_op f.body) all.0 in
    both_lists (λ p. breaks_limits p ≡ false) (places_of f.body [] before f) (places_from fs (before ++ f ∷ []))
    (body_kept f.body [] before f own.0 own.1)
    (funcs_kept fs (before ++ f ∷ []) all.1)

-- rules in two parts
more_pass : (rs ss : List Rule) (p : Place) → lowest rs p ≡ None → lowest ss p ≡ None → lowest (rs ++ ss) p ≡ None
more_pass [] ss p h k = k
more_pass (r ∷ rs) ss p h k = by (fails r p) (more_pass rs ss p) h where
  by : (b : Bool) → (lowest rs p ≡ None → lowest ss p ≡ None → lowest (rs ++ ss) p ≡ None) → (if b then Some r else lowest rs p) ≡ None →
      (if b then Some r else lowest (rs ++ ss) p) ≡ None
  by true rec e = absurd (let z : ◌≡◌ {A = Option Rule} (Some r) None = e in cc)
  by false rec e = rec e k

first_pass : (rs ss : List Rule) (p : Place) → lowest (rs ++ ss) p ≡ None → lowest rs p ≡ None
first_pass [] ss p h = refl
first_pass (r ∷ rs) ss p h = by (fails r p) (first_pass rs ss p) h where
  by : (b : Bool) → (lowest (rs ++ ss) p ≡ None → lowest rs p ≡ None) → (if b then Some r else lowest (rs ++ ss) p) ≡ None →
      (if b then Some r else lowest rs p) ≡ None
  by true rec e = e
  by false rec e = rec e

none_breaks : (p : Place) → lowest rules_before_limits p ≡ None → breaks_limits p ≡ false → broken p ≡ None
unfolding broken
none_breaks p h k = more_pass rules_before_limits (V14 ∷ []) p h (λ j. if k j then Some V14 else None)

none_first : (ps : List Place) → Each (λ p. lowest rules_before_limits p ≡ None) ps → Each (λ p. breaks_limits p ≡ false) ps →
    first_broken_of ps ≡ None
none_first [] h k = refl
none_first (p ∷ ps) h k = (λ j. stands_at p.op.id (none_breaks p h.0 k.0 j) (first_broken_of ps)) ∙ none_first ps h.1 k.1

pub kept_verifies : (m : Module) → KeepsRules m → first_passed limits_on_types m.funcs ≡ None → IsVerified m
unfolding first_broken
kept_verifies m h l = (none_first (places m) h.0 (funcs_kept m.funcs [] (funcs_small m.funcs l)), h.1)

rules_kept : (p : Place) → broken p ≡ None → lowest rules_before_limits p ≡ None
unfolding broken
rules_kept p h = first_pass rules_before_limits (V14 ∷ []) p h

places_kept : (ps : List Place) → verified.Each (λ p. broken p ≡ None) ps → Each (λ p. lowest rules_before_limits p ≡ None) ps
places_kept [] h = tt
places_kept (p ∷ ps) h = (rules_kept p h.0, places_kept ps h.1)

pub limits_are_the_last : LimitsAreTheLastRule
limits_are_the_last m = (
  λ v. ((places_kept (places m) (verified_places m v), v.1), types_pass m.funcs (verified_module m v).small),
  λ h. kept_verifies m h.0
      h.1,
)
