-- The names of the canonical text: the root is `%arg0`, and results are `%0`, `%1` in order, where a step's results have one name.
use Rattle.std.specs.Prelude.{ℕ, ◌+◌, suc, List, [], ◌∷◌, ◌++◌, Option, Some, None, if◌then◌else◌, nat_eq, codes, decimal}
use Rattle.text_format.specs.Numerals.{numeral}
use Rattle.text_format.specs.Writers.{unbuilt_text}
use Rattle.script_read.specs.declared.script.HandleId.{HandleId}
use Rattle.script_text.specs.declared.names.Given.{Given}
use Rattle.script_text.specs.declared.names.Given.TheVariants.{Root, Single, Part}
use Rattle.script_text.specs.declared.names.Row.{Row}

abbrev pub given_text : Given → List ℕ
given_text Root = codes "%arg0"
given_text (Single n) = codes "%" ++ decimal n
given_text (Part n k) = codes "%" ++ (decimal n ++ (codes "#" ++ numeral k))

abbrev pub row : HandleId → Given → Row
row h g = record { handle = h.0; name = g }

abbrev pub or_before : {A : Type 0} → Option A → Option A → Option A
or_before (Some x) o = Some x
or_before None o = o

-- where the last row of the handle stands, from k on
abbrev pub spot : ℕ → List Row → ℕ → Option ℕ
spot k [] v = None
spot k (r ∷ rs) v = or_before (spot (suc k) rs v) (if nat_eq r.handle v then Some k else None)

-- the last row of the handle
abbrev pub look : List Row → ℕ → Option Row
look [] v = None
look (r ∷ rs) v = or_before (look rs v) (if nat_eq r.handle v then Some r else None)

abbrev pub name_or : Option Row → List ℕ
name_or None = unbuilt_text
name_or (Some r) = given_text r.name

-- the name of a handle; one that isn't defined has none
abbrev pub name_in : List Row → HandleId → List ℕ
name_in rows h = name_or (look rows h.0)

abbrev pub start : HandleId → List Row
start root = row root Root ∷ []

-- the results of one name, from number k on
abbrev pub parts : ℕ → ℕ → List HandleId → List Row
parts n k [] = []
parts n k (h ∷ hs) = row h (Part n k) ∷ parts n (k + 1) hs

-- what the results of a step are named
abbrev pub rows_of : ℕ → List HandleId → List Row
rows_of n [] = []
rows_of n (h ∷ []) = row h (Single n) ∷ []
rows_of n (h ∷ (g ∷ hs)) = parts n 0 (h ∷ (g ∷ hs))

-- the number of the next results, behind a step with these
abbrev pub next_of : ℕ → List HandleId → ℕ
next_of n [] = n
next_of n (h ∷ hs) = n + 1
