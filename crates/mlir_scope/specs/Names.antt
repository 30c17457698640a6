-- Names in scope: a list of entries, to which a new name is appended.
use Rattle.std.specs.Prelude.{◌≡◌, ℕ, suc, List, [], ◌∷◌, ◌++◌, Option, Some, None, if◌then◌else◌, refl}
use Rattle.std.specs.Str.{bytes_eq}
use Rattle.std.specs.Coded.{Coded, code_by, coded×, coded_ℕ, coded_list}
use Rattle.mlir_scope.specs.declared.names.Meaning.{Meaning}
use Rattle.mlir_scope.specs.contracts.names.Meaning as meaning

pub record Entry : Type 0 where
  pub name : List ℕ
  pub means : Meaning

abbrev pub entry_code : Coded Entry
entry_code = code_by (List ℕ × Meaning) (coded× (coded_list coded_ℕ) meaning.the_row.coded) (λ e. (e.name, e.means)) (λ p. record { name = p.0; means = p.1 }) (λ _. refl)

abbrev pub entry : List ℕ → Meaning → Entry
entry n m = record { name = n; means = m }

-- what a name stands for
abbrev pub find : List Entry → List ℕ → Option Meaning
find [] n = None
find (e ∷ es) n = if bytes_eq e.name n then Some e.means else find es n

-- where the name's entry stands, from this number on
abbrev pub spot : ℕ → List Entry → List ℕ → Option ℕ
spot k [] n = None
spot k (e ∷ es) n = if bytes_eq e.name n then Some k else spot (suc k) es n

-- where the name stands in a list of names, from this number on
abbrev pub place : ℕ → List (List ℕ) → List ℕ → Option ℕ
place k [] n = None
place k (x ∷ xs) n = if bytes_eq x n then Some k else place (suc k) xs n

-- no name is defined while it is in scope
abbrev pub FreshFrom : List Entry → List Entry → Type 0
FreshFrom before [] = Unit {0}
FreshFrom before (e ∷ es) = (find before e.name ≡ None) × FreshFrom (before ++ e ∷ []) es

-- all but the last
abbrev pub IsFront : List Entry → List Entry → Type 0
IsFront new old = (e : Entry) × (old ≡ new ++ e ∷ [])
