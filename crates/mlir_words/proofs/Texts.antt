-- The words of a command line are text, as their type says.
use Rattle.std.proofs.Common.{◌≡◌, ℕ, true, List, [], ◌∷◌, map, string_bytes}
use Rattle.std.specs.Prelude.{String}
use Rattle.std.specs.Str.{is_utf8}
use Rattle.std.proofs.Math.Logic.{∥∥₁_elim}
use mathlib.Core.Bool.{Bool-set}
use Rattle.std.proofs.lemmas.Str.{is_utf8-from_IsUtf8}
use Rattle.std.specs.declared.alloc.Global.{Global}

abbrev pub AllText : List (List ℕ) → Type 0
AllText [] = Unit {0}
AllText (word ∷ words) = (is_utf8 word ≡ true) × AllText words

pub all_text : (words : List (String Global)) → AllText (map string_bytes words)
all_text [] = tt
all_text (word ∷ words) = (∥∥₁_elim word.ok (Bool-set _ _) (is_utf8-from_IsUtf8 (string_bytes word)), all_text words)
