-- What a step forms passes the verifier, where its new operations do.
use Rattle.std.proofs.Common.{◌≡◌, ℕ, ◌<◌, ◌≤◌, false, List, [], ◌∷◌, ◌++◌, length, Option, Some, None, inl, inr, refl, sym, subst, ◌∙◌, arith}
use Rattle.mlir_ir.specs.Shape.{FuncShape}
use Rattle.mlir_ir.specs.declared.tree.Op.{Op}
use Rattle.mlir_ir.specs.declared.tree.OpId.{OpId}
use Rattle.mlir_ir.specs.declared.tree.Ty.{Ty}
use Rattle.mlir_meaning.specs.States.{names_of}
use Rattle.mlir_meaning.specs.Renaming.{reused_ops}
use Rattle.mlir_verify.specs.Place.{is_empty}
use Rattle.mlir_verify.specs.Ends.{is_return}
use Rattle.verified_runs.specs.Passes.{Scope, OpPasses, BodyPasses, FuncPasses, scope_after}
use Rattle.verified_runs.proofs.Runs.{rest_passes}
use Rattle.verified_runs.specs.Edits.{Edit, moved, Step, placed, edited_body}
use Rattle.verified_runs.specs.Fresh.{above_op, above_body, above_func}
use Rattle.verified_runs.specs.Laws.{PassesThere, FormedPasses}
use Rattle.verified_runs.proofs.Places.{alone}
use Rattle.verified_runs.proofs.Steps.{Located, Finds, located, above_part, added}
use Rattle.verified_runs.proofs.ReusedBodies.{body_reused}

nonempty : {A : Type 0} (xs : List A) → is_empty xs ≡ false → 0 < length xs
nonempty [] e = absurd cc
nonempty (x ∷ xs) e = omega arith

pub filled : {A : Type 0} (xs : List A) → 0 < length xs → is_empty xs ≡ false
filled [] l = absurd (omega arith)
filled (x ∷ xs) l = refl

appended : {A : Type 0} (xs ys : List A) → 0 < length ys → 0 < length (xs ++ ys)
appended [] ys l = l
appended (x ∷ xs) ys l = omega arith

module _ (wanted : List Ty) where
  -- another end after the same front
  front_kept : (before rest other : List Op) (scope : Scope) → 0 < length rest → 0 < length other → BodyPasses scope wanted (before ++ rest) →
      (BodyPasses (scope_after scope before) wanted rest → BodyPasses (scope_after scope before) wanted other) → BodyPasses scope wanted (before ++ other)
  front_kept [] rest other scope l m h k = k h
  front_kept (o ∷ before) rest other scope l m h k =
      (h.0, h.1 ∙ filled (before ++ rest) (appended before rest l) ∙ sym (filled (before ++ other) (appended before other m)), front_kept before rest other (scope ++ o.results) l m h.2 k)

reused_length : (f : ℕ → ℕ) (os : List Op) → length (reused_ops f os) ≡ length os
reused_length f [] = refl
reused_length f (o ∷ os) = omega (arith, reused_length f os)

module _ (f : FuncShape) (i : OpId) (step : Step) (n : ℕ) (passes : FuncPasses f) (small : above_func f ≤ n)
    (right : (scope : Scope) (o : Op) (e : Edit) → OpPasses scope f.results o → above_op o ≤ n → step scope o ≡ Some e → (is_return o.kind ≡ false) × PassesThere n scope f.results o e) where
  abbrev Formed : List Op → Type 0
  Formed os = (0 < length os) × BodyPasses f.params f.results os

  at_target : (l : Located i step f.params f.body) (e : Option Edit) → step (scope_after f.params l.before) l.target ≡ e → Formed (l.before ++ placed e l.target l.after)
  at_target l None q = subst Formed l.is (passes.ends, passes.body)
  at_target l (Some e) q =
      let scope = scope_after f.params l.before in
      let whole = subst (BodyPasses f.params f.results) l.is passes.body in
      let body = rest_passes f.results l.before (l.target ∷ l.after) f.params whole in
      let parts = above_part l.before l.after l.target n (subst (λ os. above_body os ≤ n) l.is (omega arith)) in
      let r = right scope l.target e body.0 parts.0 q in
      let there = r.1 in
      let g = moved (names_of l.target.results) e.values in
      let more : 0 < length l.after = nonempty l.after (sym body.1 ∙ r.0) in
      let rest : 0 < length (reused_ops g l.after) = omega (arith, reused_length g l.after, more) in
      let after = body_reused n g there.back there.returns f.results l.after (scope ++ l.target.results) (scope_after scope e.ops) there.retypes body.2
      (alone n f.results l.target.results e.values there.fresh l.after (scope ++ l.target.results) body.2 (added scope l.target.results) parts.1) parts.1 in
      let long : 0 < length (e.ops ++ reused_ops g l.after) = appended e.ops (reused_ops g l.after) rest in (
        appended l.before (e.ops ++ reused_ops g l.after) long,
        front_kept f.results l.before (l.target ∷ l.after) (e.ops ++ reused_ops g l.after) f.params (omega arith) long whole (λ h. there.front (reused_ops g l.after) rest after),
      )

  either : Finds i step f.params f.body → Formed (edited_body i step f.params f.body)
  either (inl same) = subst Formed (sym same) (passes.ends, passes.body)
  either (inr l) = subst Formed (sym l.edited) (at_target l (step (scope_after f.params l.before) l.target) refl)

pub formed_passes : FormedPasses
formed_passes f i step n passes small right =
    let formed = either f i step n passes small right (located i step f.results f.body f.params passes.body) in
    record { ends = formed.0; signature = passes.signature; body = formed.1 }
