-- A text that is written so many times.
use Rattle.std.proofs.Common.{◌≡◌, ◌<◌, ℕ, suc, ◌+◌, ◌-◌, List, ◌++◌, sym, ap, ◌∙◌, arith, append_assoc}
use Rattle.script_text.specs.Texts.{repeated}

pub repeated_once : (out text : List ℕ) (k n : ℕ) (all : List ℕ) → k < n → out ++ repeated (n - k) text ≡ all → (out ++ text) ++ repeated (n - (k + 1)) text ≡ all
repeated_once out text k n all h e =
    let m : n - k ≡ suc (n - (k + 1)) = omega arith in
    append_assoc out text (repeated (n - (k + 1)) text) ∙ ap (λ (i : ℕ). out ++ repeated i text) (sym m) ∙ e
