-- The rows of `clap` that stand for what words give.
use Rattle.std.proofs.Common.{◌≡◌, ◌∙◌, ◌||◌, ◌==◌, ℕ, Bool, cond, true, false, refl, sym, ap, ap₂, true≢false, List, [], ◌∷◌, ◌++◌, map, append-nil, Some, None, option_map, codes, arith}
use Rattle.std.specs.Str.{bytes_eq}
use Rattle.std.proofs.lemmas.List.{map-append}
use Rattle.std.proofs.lemmas.Bool.Decides.{nat_tests}
use Rattle.clap.specs.Words.{Row, Text, first_of}
use Rattle.clap.specs.Walk.{at_row, has_row, reading_by, stronger, used, without}
use Rattle.clap.specs.Kinds.{Kinds}
use Rattle.clap.specs.Faults.{use_fault}
use Rattle.clap.specs.declared.error.kind.ErrorKind.TheVariants as kind
use Rattle.clap.specs.declared.parser.matches.ValueSource.TheVariants.{CommandLine}
use Rattle.mlir_words.specs.Asked.{Item, Part, transform_interpreter, lower, run, input, workers, sample, file, has, place, value}
use Rattle.mlir_words.proofs.Lookups.{id_of, rule_for}

-- what holds of each part
pub each : (P : Part → Type 0) → P transform_interpreter → P lower → P run → P input → P workers → P sample → P file → (p : Part) → P p
each P a b c d e f g transform_interpreter = a
each P a b c d e f g lower = b
each P a b c d e f g run = c
each P a b c d e f g input = d
each P a b c d e f g workers = e
each P a b c d e f g sample = f
each P a b c d e f g file = g

-- ---- parts and ids

abbrev SameId : Part → Part → Type 0
SameId p q = bytes_eq (id_of p) (id_of q) ≡ (place p == place q)

pub same_id : (p q : Part) → SameId p q
same_id = each (λ p. (q : Part) → SameId p q)
    (each (SameId transform_interpreter) refl refl refl refl refl refl refl)
    (each (SameId lower) refl refl refl refl refl refl refl)
    (each (SameId run) refl refl refl refl refl refl refl)
    (each (SameId input) refl refl refl refl refl refl refl)
    (each (SameId workers) refl refl refl refl refl refl refl)
    (each (SameId sample) refl refl refl refl refl refl refl)
    (each (SameId file) refl refl refl refl refl refl refl)

part_at : ℕ → Part
part_at n = cond (n == 0) transform_interpreter (cond (n == 1) lower (cond (n == 2) run (cond (n == 3) input (cond (n == 4) workers (cond (n == 5) sample file)))))

back : (p : Part) → part_at (place p) ≡ p
unfolding part_at
back = each (λ p. part_at (place p) ≡ p) refl refl refl refl refl refl refl

pub same_part : (p q : Part) → (place p == place q) ≡ true → p ≡ q
same_part p q test =
    let same : place p ≡ place q = grind (arith, nat_tests) in
    sym (back p) ∙ ap part_at same ∙ back q

-- ---- rows

-- the value that `clap` keeps
abbrev pub kept : Part → Text → Text
kept transform_interpreter text = codes "true"
kept _ text = text

-- the values that it reads in the words
abbrev pub read_values : Part → Text → List Text
read_values transform_interpreter text = []
read_values _ text = text ∷ []

abbrev pub row_for : Item → Row
row_for item = record {
  id = id_of item.0;
  values = kept item.0 item.1 ∷ [];
  count = None;
  source = Some CommandLine;
  reading = reading_by (rule_for item.0);
}

abbrev pub rows_for : List Item → List Row
rows_for = map row_for

pub has_row-rows : (p : Part) (us : List Item) → has_row (id_of p) (rows_for us) ≡ has p us
has_row-rows p [] = refl
has_row-rows p (u ∷ us) = ap₂ (λ a b. a || b) (same_id u.0 p) (has_row-rows p us)

-- a change at an id without a row
pub at_row-absent : (id : Text) (change : Row → List Row) (missing rows : List Row) → has_row id rows ≡ false → at_row id change missing rows ≡ rows ++ missing
at_row-absent id change missing [] none = refl
at_row-absent id change missing (r ∷ rs) none = go (bytes_eq r.id id) none (at_row-absent id change missing rs)
  where
    go : (b : Bool) → (b || has_row id rs) ≡ false → (has_row id rs ≡ false → at_row id change missing rs ≡ rs ++ missing)
        → cond b (change r ++ rs) (r ∷ at_row id change missing rs) ≡ (r ∷ rs) ++ missing
    go true h rest = absurd (true≢false h)
    go false h rest = ap (λ xs. r ∷ xs) (rest h)

abbrev more : Part → Text → Row → List Row
more p v r = record r { values = r.values ++ kept p v ∷ []; source = Some (stronger r.source CommandLine) } ∷ []

abbrev Uses : Part → Type 0
Uses p = (v : Text) (rows : List Row) → used (rule_for p) (read_values p v) rows ≡ at_row (id_of p) (more p v) (row_for (p, v) ∷ []) (without (id_of p) rows)

uses_part : (p : Part) → Uses p
uses_part = each Uses (λ v rows. refl) (λ v rows. refl) (λ v rows. refl) (λ v rows. refl) (λ v rows. refl) (λ v rows. refl) (λ v rows. refl)

-- a first use of a part adds its row
pub used_first : (p : Part) (v : Text) (us : List Item) → has p us ≡ false → used (rule_for p) (read_values p v) (rows_for us) ≡ rows_for (us ++ (p, v) ∷ [])
used_first p v us first =
    let none : has_row (id_of p) (rows_for us) ≡ false = has_row-rows p us ∙ first in
    let same : without (id_of p) (rows_for us) ≡ rows_for us = at_row-absent (id_of p) (λ _. []) [] (rows_for us) none ∙ append-nil (rows_for us) in
    uses_part p v (rows_for us) ∙ ap (at_row (id_of p) (more p v) (row_for (p, v) ∷ [])) same
    ∙ at_row-absent (id_of p) (more p v) (row_for (p, v) ∷ []) (rows_for us) none ∙ sym (map-append row_for us ((p, v) ∷ []))

-- a first use has no fault, and a second one has
abbrev pub twice_fault : Bool → Kinds
twice_fault true = kind.ArgumentConflict ∷ []
twice_fault false = []

abbrev Faults : Bool → Part → Type 0
Faults again p = (v : Text) (rows : List Row) → has_row (id_of p) rows ≡ again → use_fault false (rule_for p) (read_values p v) rows ≡ twice_fault again

faults_part : (again : Bool) (p : Part) → Faults again p
faults_part true = each (Faults true) (λ v rows is. rw is refl) (λ v rows is. rw is refl) (λ v rows is. rw is refl) (λ v rows is. rw is refl)
    (λ v rows is. rw is refl) (λ v rows is. rw is refl) (λ v rows is. rw is refl)
faults_part false = each (Faults false) (λ v rows is. rw is refl) (λ v rows is. rw is refl) (λ v rows is. rw is refl) (λ v rows is. rw is refl)
    (λ v rows is. rw is refl) (λ v rows is. rw is refl) (λ v rows is. rw is refl)

pub use_fault-part : (p : Part) (v : Text) (us : List Item) → use_fault false (rule_for p) (read_values p v) (rows_for us) ≡ twice_fault (has p us)
use_fault-part p v us = faults_part (has p us) p v (rows_for us) (has_row-rows p us)

-- ---- what the rows say

-- the first value of a part
pub first_of-rows : (p : Part) (us : List Item) → first_of (id_of p) (rows_for us) ≡ option_map (kept p) (value p us)
first_of-rows p [] = refl
first_of-rows p (u ∷ us) = go (place u.0 == place p) refl (first_of-rows p us)
  where
    go : (b : Bool) → (place u.0 == place p) ≡ b → first_of (id_of p) (rows_for us) ≡ option_map (kept p) (value p us)
        → first_of (id_of p) (rows_for (u ∷ us)) ≡ option_map (kept p) (value p (u ∷ us))
    go true is rest = rw (same_id u.0 p, is) (ap (λ q. Some (kept q u.1)) (same_part u.0 p is))
    go false is rest = rw (same_id u.0 p, is) rest
