-- Names of handles in scope: a list of entries, to which a new name is appended (MLIR LangRef, "Identifiers and keywords").
use Rattle.std.specs.Prelude.{◌≡◌, ◌==◌, ℕ, ◌+◌, suc, take, drop, List, [], ◌∷◌, Option, Some, None, if◌then◌else◌, refl}
use Rattle.std.specs.Str.{bytes_eq}
use Rattle.std.specs.List.{position_from}
use Rattle.std.specs.Coded.{Coded, code_by, coded×, coded_ℕ, coded_list}
use Rattle.script_read.specs.declared.names.Meaning.{Meaning}
use Rattle.script_read.specs.contracts.names.Meaning as meaning

pub record Entry : Type 0 where
  pub name : List ℕ
  pub means : Meaning

abbrev pub entry_code : Coded Entry
entry_code = code_by (List ℕ × Meaning) (coded× (coded_list coded_ℕ) meaning.the_row.coded) (λ e. (e.name, e.means)) (λ p. record { name = p.0; means = p.1 }) (λ _. refl)

abbrev pub entry : List ℕ → Meaning → Entry
entry n m = record { name = n; means = m }

-- what a name stands for
abbrev pub find : List Entry → List ℕ → Option Meaning
find [] n = None
find (e ∷ es) n = if bytes_eq e.name n then Some e.means else find es n

-- where the name's entry stands, from this number on
abbrev pub spot : ℕ → List Entry → List ℕ → Option ℕ
spot k [] n = None
spot k (e ∷ es) n = if bytes_eq e.name n then Some k else spot (suc k) es n

abbrev pub parted_by : List ℕ → Option ℕ → List ℕ × Option (List ℕ)
parted_by text None = (text, None)
parted_by text (Some at) = (take at text, Some (drop (at + 1) text))

-- a value's name as it was defined, and the digits behind its `#`, where it has one
abbrev pub parted : List ℕ → List ℕ × Option (List ℕ)
parted text = parted_by text (position_from (λ b. b == 35) 0 text)
