-- Where numbers stand in a list, counted from k; of equal ones the last counts.
use Rattle.std.proofs.Common.{◌≡◌, ℕ, ◌+◌, ◌≤◌, ◌==◌, ◌||◌, suc, Bool, true, false, List, [], ◌∷◌, ◌++◌, length, map, Option, Some, None, refl, sym, ◌∙◌, arith, eqb-true, nat_eq}
use Rattle.std.specs.Prelude.{if◌then◌else◌}
use Rattle.std.proofs.lemmas.Bool.{eq-eqb, ne_eqb}
use Rattle.affine_maps.specs.Permutation.{is_among}
use Rattle.mlir_print.specs.Names.{Row, spot, or_before}
use Rattle.verified_runs.proofs.ReusedBodies.{or_false}

abbrev pub placed : ℕ → List ℕ → ℕ → Option ℕ
placed k [] v = None
placed k (n ∷ ns) v = or_before (placed (suc k) ns v) (if nat_eq n v then Some k else None)

-- the number at a place
abbrev pub number_at : ℕ → List ℕ → ℕ → ℕ
number_at k [] p = 0
number_at k (n ∷ ns) p = if nat_eq k p then n else number_at (suc k) ns p

pub absent_place : (k : ℕ) (ns : List ℕ) (v : ℕ) → is_among v ns ≡ false → placed k ns v ≡ None
absent_place k [] v h = refl
absent_place k (n ∷ ns) v h =
    let p = or_false (n == v) (is_among v ns) h in
    λ j. or_before (absent_place (suc k) ns v p.1 j) (if p.0 j then Some k else None)

-- what follows and hasn't the number changes nothing
pub kept_place : (k : ℕ) (xs ys : List ℕ) (v : ℕ) → is_among v ys ≡ false → placed k (xs ++ ys) v ≡ placed k xs v
kept_place k [] ys v h = absent_place k ys v h
kept_place k (x ∷ xs) ys v h = λ j. or_before (kept_place (suc k) xs ys v h j) (if nat_eq x v then Some k else None)

-- the place of a number that doesn't follow itself
pub own_place : (k : ℕ) (xs : List ℕ) (v : ℕ) (ys : List ℕ) → is_among v ys ≡ false → placed k (xs ++ v ∷ ys) v ≡ Some (k + length xs)
own_place k [] v ys h =
    let here : k ≡ k + 0 = omega arith in
    (λ j. or_before (absent_place (suc k) ys v h j) (if eq-eqb v v refl j then Some k else None)) ∙ (λ j. Some (here j))
own_place k (x ∷ xs) v ys h =
    let further : suc k + length xs ≡ k + suc (length xs) = omega arith in
    (λ j. or_before (own_place (suc k) xs v ys h j) (if nat_eq x v then Some k else None)) ∙ (λ j. Some (further j))

-- where a number of the list stands
pub record Stands (k : ℕ) (ns : List ℕ) (v : ℕ) : Type 0 where
  pub place : ℕ
  pub is : placed k ns v ≡ Some place
  pub least : k ≤ place
  pub holds : number_at k ns place ≡ v

pub stands : (k : ℕ) (ns : List ℕ) (v : ℕ) → is_among v ns ≡ true → Stands k ns v
stands k [] v h = absurd cc
stands k (n ∷ ns) v h = by_rest (stands (suc k) ns v) (is_among v ns) refl h
  where
    later : Stands (suc k) ns v → Stands k (n ∷ ns) v
    later s =
        let l = s.least in
        record {
          place = s.place;
          is = λ j. or_before (s.is j) (if nat_eq n v then Some k else None);
          least = omega (arith, l);
          holds = (λ j. if ne_eqb k s.place (λ e. absurd (omega (arith, e, l))) j then n else number_at (suc k) ns s.place) ∙ s.holds;
        }

    here : (n == v) ≡ true → is_among v ns ≡ false → Stands k (n ∷ ns) v
    here e a = record {
      place = k;
      is = λ j. or_before (absent_place (suc k) ns v a j) (if e j then Some k else None);
      least = omega arith;
      holds = (λ j. if eq-eqb k k refl j then n else number_at (suc k) ns k) ∙ eqb-true n v e;
    }

    or_left : (b : Bool) → (b || false) ≡ true → b ≡ true
    or_left true e = refl
    or_left false e = absurd cc

    by_rest : (is_among v ns ≡ true → Stands (suc k) ns v) → (b : Bool) → is_among v ns ≡ b → ((n == v) || is_among v ns) ≡ true → Stands k (n ∷ ns) v
    by_rest rest true e h = later (rest e)
    by_rest rest false e h = here (or_left (n == v) (sym (λ j. (n == v) || e j) ∙ h)) e

-- the rows of a text are such a list
abbrev pub values_of : List Row → List ℕ
values_of = map (λ (r : Row). r.value)

pub spot_placed : (k : ℕ) (rows : List Row) (v : ℕ) → spot k rows v ≡ placed k (values_of rows) v
spot_placed k [] v = refl
spot_placed k (r ∷ rows) v = λ j. or_before (spot_placed (suc k) rows v j) (if nat_eq r.value v then Some k else None)
