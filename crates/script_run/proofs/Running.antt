-- What each step that is built keeps of a module, a script keeps.
use Rattle.std.proofs.Common.{◌≡◌, ℕ, suc, List, [], ◌∷◌, Result, Ok, Err, refl, ap, subst}
use Rattle.mlir_ir.specs.declared.tree.Module.{Module}
use Rattle.mlir_verify.specs.Rules.{IsVerified}
use Rattle.rewrite_base.specs.declared.error.StepError.{StepError}
use Rattle.script_read.specs.declared.script.HandleId.{HandleId}
use Rattle.script_read.specs.declared.script.Script.{Script}
use Rattle.script_read.specs.declared.script.Step.{Step}
use Rattle.script_run.specs.declared.error.ScriptError.{ScriptError}
use Rattle.script_run.specs.Sessions.{SessionShape, opened, IsSession}
use Rattle.script_run.specs.Steps.{after}
use Rattle.script_run.specs.Scripts.{go_on, reached, module_of, run}
use Rattle.script_run.proofs.Kept.{IsKept}
use Rattle.script_run.proofs.Stepping.{GoesTo, step_keeps}

pub opened_session : (m : Module) (root : HandleId) → IsVerified m → IsSession (opened m root)
opened_session m root verified = (verified, refl)

value_or : {A : Type 0} → A → Result A ScriptError → A
value_or d (Ok z) = z
value_or d (Err z) = d

same_ok : {A : Type 0} (x y : A) → ◌≡◌ {A = Result A ScriptError} (Ok x) (Ok y) → x ≡ y
unfolding value_or
same_ok x y e = ap (value_or x) e

module _ (Q : Module → Type 0) (k : IsKept Q) where
  goes_on : (ss : List Step) (n : ℕ) (s : Step) (x z : SessionShape) → ((y : SessionShape) → IsSession y → reached ss (suc n) y ≡ Ok z → GoesTo Q y z) → IsSession x →
      (r : Result SessionShape StepError) → after s x ≡ r → go_on n r (reached ss (suc n)) ≡ Ok z → GoesTo Q x z
  goes_on ss n s x z rest session (Err f) d e = absurd cc
  goes_on ss n s x z rest session (Ok y) d e =
      let one = step_keeps Q k s x y session d in
      let more = rest y one.0 e in
      (more.0, λ q. more.1 (one.1 q))

  pub reached_keeps : (ss : List Step) (n : ℕ) (x z : SessionShape) → IsSession x → reached ss n x ≡ Ok z → GoesTo Q x z
  reached_keeps [] n x z session e = subst (GoesTo Q x) (same_ok x z e) (session, λ q. q)
  reached_keeps (s ∷ ss) n x z session e = goes_on ss n s x z (λ y. reached_keeps ss (suc n) y z) session (after s x) refl e

  module_keeps : (m n : Module) (root : HandleId) (ss : List Step) → IsVerified m → (r : Result SessionShape ScriptError) → reached ss 1 (opened m root) ≡ r → module_of r ≡ Ok n →
      IsVerified n × (Q m → Q n)
  module_keeps m n root ss verified (Err f) d e = absurd cc
  module_keeps m n root ss verified (Ok z) d e =
      let all = reached_keeps ss 1 (opened m root) z (opened_session m root verified) d in
      subst (λ (p : Module). IsVerified p × (Q m → Q p)) (same_ok z.module n e) (all.0.0, all.1)

  -- a script keeps Q, and the module that it gives verifies
  pub run_verifies : (s : Script) (m n : Module) → IsVerified m → run s m ≡ Ok n → IsVerified n × (Q m → Q n)
  unfolding run
  run_verifies s m n verified e = module_keeps m n s.root s.steps verified (reached s.steps 1 (opened m s.root)) refl e

pub run_keeps : (Q : Module → Type 0) → IsKept Q → (s : Script) (m n : Module) → IsVerified m → Q m → run s m ≡ Ok n → Q n
run_keeps Q k s m n verified q e = (run_verifies Q k s m n verified e).1 q
