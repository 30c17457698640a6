-- The limit of a form's numbers: plus and minus 2^62.
use Rattle.std.specs.Prelude.{ℕ, ◌&&◌, Bool, true, ℤ, pos, negsuc, int_le, List, [], ◌∷◌, Option, Some, None, if◌then◌else◌, IsTrue, ⊤}
use Rattle.index_forms.specs.declared.form.LinForm.{LinForm}
use Rattle.index_forms.specs.Forms.{Falls}

abbrev pub in_limit : ℤ → Bool
in_limit z = int_le (negsuc 4611686018427387903) z && int_le z (pos 4611686018427387904)

abbrev pub checked : ℤ → Option ℤ
checked z = if in_limit z then Some z else None

abbrev pub all_in : List (ℕ × ℤ) → Bool
all_in [] = true
all_in (t ∷ ts) = in_limit t.1 && all_in ts

abbrev pub within : LinForm → Bool
within f = in_limit f.constant && all_in f.terms

-- a form whose atoms fall below `n`
abbrev pub IsForm : ℕ → LinForm → Type 0
IsForm n f = Falls n f.terms × IsTrue (within f)

abbrev pub AreForms : ℕ → List LinForm → Type 0
AreForms n [] = ⊤
AreForms n (f ∷ fs) = IsForm n f × AreForms n fs
