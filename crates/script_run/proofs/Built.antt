-- A script without a first step that isn't built has none.
use Rattle.std.proofs.Common.{◌≡◌, ℕ, suc, ◌&&◌, Bool, true, false, List, [], ◌∷◌, Option, Some, None, refl, sym, ◌∙◌}
use Rattle.std.specs.Prelude.{if◌then◌else◌}
use Rattle.script_read.specs.declared.script.Step.{Step}
use Rattle.script_run.specs.Scripts.{is_built, are_built, told, unbuilt_from}

pub built_all : (ss : List Step) (k : ℕ) → unbuilt_from ss k ≡ None → are_built ss ≡ true
built_all [] k e = refl
built_all (s ∷ ss) k e = by_test (is_built s.kind) refl (built_all ss (suc k)) where
  by_test : (b : Bool) → is_built s.kind ≡ b → (unbuilt_from ss (suc k) ≡ None → are_built ss ≡ true) → are_built (s ∷ ss) ≡ true
  by_test true q rest = λ j. q j && rest (sym (λ j. if q j then unbuilt_from ss (suc k) else Some (told k)) ∙ e) j
  by_test false q rest = absurd (let z : ◌≡◌ {A = Option ℕ} (Some (told k)) None = sym (λ j. if q j then unbuilt_from ss (suc k) else Some (told k)) ∙ e in cc)
