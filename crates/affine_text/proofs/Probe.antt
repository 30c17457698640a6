-- From every spot a map's text goes on, and with a number that is too large at any place.
use Rattle.std.proofs.Common.{◌≡◌, ◌<◌, ◌≤◌, ◌+◌, ℕ, zero, suc, Bool, true, false, List, [], ◌∷◌, ◌++◌, codes, length, Some, None, Err, ◌⊎◌, refl, ap, ◌∙◌, inl, inr, arith}
use Rattle.std.specs.Prelude.{is_some}
use Rattle.std.specs.Str.{bytes_eq}
use Rattle.std.proofs.lemmas.Bool.{cond-false}
use Rattle.affine_text.specs.declared.reading.fault.MapError.TheVariants.{Range}
use Rattle.affine_text.specs.declared.reading.place.Place.{Place}
use Rattle.affine_text.specs.declared.reading.place.Place.TheVariants as places
use Rattle.affine_text.specs.Grammar.{Factor, Number, NoFactor, Times, NoProduct, Empty, Declared, FactorFits, is_declared, dimension_of, number_from}
use Rattle.affine_text.specs.Meaning.{factor_form, factors_form, in_range}
use Rattle.affine_text.specs.Reading.{Gathered}
use Rattle.affine_text.proofs.GoesOn.{Closing, ClosingFits, Operand, Results, Arrowed, RestAt, RestFits, rest_means, OperandFits, operand_means}
use Rattle.affine_text.proofs.Signs.{same_bytes}

-- ---- a name that is none of these

room_for : List (List ℕ) → ℕ
room_for [] = 1
room_for (n ∷ ns) = length n + room_for ns

copies : ℕ → List ℕ
copies zero = []
copies (suc n) = 97 ∷ copies n

length-copies : (n : ℕ) → length (copies n) ≡ n
unfolding copies
length-copies zero = refl
length-copies (suc n) = ap suc (length-copies n)

longer_test : (b : Bool) (n name : List ℕ) → bytes_eq n name ≡ b → length n < length name → b ≡ false
longer_test true n name e h = absurd (omega (arith, ap length (same_bytes n name e), h))
longer_test false n name e h = refl

longer_apart : (n name : List ℕ) → length n < length name → bytes_eq n name ≡ false
longer_apart n name h = longer_test (bytes_eq n name) n name refl h

some_room : (ns : List (List ℕ)) → 0 < room_for ns
unfolding room_for
some_room [] = omega arith
some_room (n ∷ ns) = omega (arith, some_room ns)

fresh_from : (k : ℕ) (names : List (List ℕ)) (name : List ℕ) → room_for names ≤ length name → is_some (number_from k names name) ≡ false
unfolding room_for
fresh_from k [] name h = refl
fresh_from k (n ∷ ns) name h =
    let shorter : length n < length name = omega (arith, h, some_room ns) in
    ap is_some (cond-false (bytes_eq n name) (Some k) (number_from (suc k) ns name) (longer_apart n name shorter)) ∙ fresh_from (suc k) ns name (omega (arith, h))

pub fresh_name : List (List ℕ) → List ℕ
fresh_name names = copies (room_for names)

is_fresh : (names : List (List ℕ)) → is_declared names (fresh_name names) ≡ false
unfolding fresh_name dimension_of
is_fresh names = fresh_from 0 names (copies (room_for names)) (omega (arith, length-copies (room_for names)))

-- ---- the probe

pub too_large : ℕ → Factor
too_large at = Number at (codes "4294967296")

closing_probe : (n : ℕ) → Closing n
closing_probe zero = ([], 0, 0)
closing_probe (suc n) = (0, NoFactor, NoProduct, closing_probe n)

closing_fits : (n : ℕ) (names : List (List ℕ)) (room : ℕ) → ClosingFits n (closing_probe n) names room
unfolding closing_probe ClosingFits FactorFits
closing_fits zero names room = tt
closing_fits (suc n) names room = (tt, tt, closing_fits n names (suc room))

operand_probe : (n at : ℕ) → Operand n
operand_probe n at = (too_large at, NoFactor, NoProduct, closing_probe n)

operand_fits : (n at : ℕ) (names : List (List ℕ)) (room : ℕ) → OperandFits n (operand_probe n at) names room
unfolding operand_probe too_large FactorFits
operand_fits n at names room = (tt, tt, tt, closing_fits n names room)

operand_fault : (n at : ℕ) (names : List (List ℕ)) (v : Gathered) → operand_means n (operand_probe n at) names v ≡ Err (Range at)
unfolding operand_probe too_large factor_form in_range
operand_fault n at names v = refl

results_probe : (n at : ℕ) → Results n
results_probe n at = inr (operand_probe n at)

arrow_probe : (n at : ℕ) → Arrowed n
arrow_probe n at = (0, 0, results_probe n at)

abbrev pub fresh : List (List ℕ) → Declared
fresh names = record { at = 0; name = fresh_name names }

-- what goes on from the spot
pub probe : (p : Place) (n at : ℕ) (names : List (List ℕ)) → RestAt p n
probe places.Keyword n at names = (0, 0, 0, Empty, 0, None, arrow_probe n at)
probe places.Less n at names = (0, 0, Empty, 0, None, arrow_probe n at)
probe places.DimensionsOpen n at names = (0, Empty, 0, None, arrow_probe n at)
probe places.FirstDimension n at names = (Empty, 0, None, arrow_probe n at)
probe places.NextDimension n at names = (fresh names, [], 0, None, arrow_probe n at)
probe places.DimensionBehind n at names = ([], 0, None, arrow_probe n at)
probe places.DimensionsEnd n at names = (None, arrow_probe n at)
probe places.FirstSymbol n at names = (Empty, 0, arrow_probe n at)
probe places.NextSymbol n at names = (fresh names, [], 0, arrow_probe n at)
probe places.SymbolBehind n at names = ([], 0, arrow_probe n at)
probe places.SymbolsEnd n at names = arrow_probe n at
probe places.ResultsOpen n at names = (0, results_probe n at)
probe places.FirstResult n at names = results_probe n at
probe places.Operand n at names = operand_probe n at
probe places.Operator n at names = (Times 0 (too_large at) NoFactor, NoProduct, closing_probe n)
probe places.ResultsEnd n at names = 0
probe places.Whole n at names = tt

pub probe_fits : (symbols : Bool) (p : Place) (n at : ℕ) (names : List (List ℕ)) (room : ℕ) → RestFits symbols p n (probe p n at names) names room
unfolding probe arrow_probe results_probe too_large FactorFits
probe_fits symbols places.Keyword n at names room = (tt, (tt, operand_fits n at names room))
probe_fits symbols places.Less n at names room = (tt, (tt, operand_fits n at names room))
probe_fits symbols places.DimensionsOpen n at names room = (tt, (tt, operand_fits n at names room))
probe_fits symbols places.FirstDimension n at names room = (tt, (tt, operand_fits n at names room))
probe_fits symbols places.NextDimension n at names room = (is_fresh names, tt, (tt, operand_fits n at (names ++ fresh_name names ∷ []) room))
probe_fits symbols places.DimensionBehind n at names room = (tt, (tt, operand_fits n at names room))
probe_fits symbols places.DimensionsEnd n at names room = (tt, operand_fits n at names room)
probe_fits symbols places.FirstSymbol n at names room = (tt, operand_fits n at names room)
probe_fits symbols places.NextSymbol n at names room = (is_fresh names, tt, operand_fits n at (names ++ fresh_name names ∷ []) room)
probe_fits symbols places.SymbolBehind n at names room = (tt, operand_fits n at names room)
probe_fits symbols places.SymbolsEnd n at names room = operand_fits n at names room
probe_fits symbols places.ResultsOpen n at names room = operand_fits n at names room
probe_fits symbols places.FirstResult n at names room = operand_fits n at names room
probe_fits symbols places.Operand n at names room = operand_fits n at names room
probe_fits symbols places.Operator n at names room = ((tt, tt), tt, closing_fits n names room)
probe_fits symbols places.ResultsEnd n at names room = tt
probe_fits symbols places.Whole n at names room = tt

-- the map is read, but for its last token
abbrev pub IsReadAt : Place → Type 0
IsReadAt places.ResultsEnd = Unit {0}
IsReadAt places.Whole = Unit {0}
IsReadAt p = ⊥

-- the number is at fault, unless the map is read
pub probe_fault : (p : Place) (n at : ℕ) (names : List (List ℕ)) (v : Gathered) → IsReadAt p ⊎ (rest_means p n (probe p n at names) names v ≡ Err (Range at))
unfolding probe arrow_probe results_probe too_large factor_form factors_form in_range
probe_fault places.ResultsEnd n at names v = inl tt
probe_fault places.Whole n at names v = inl tt
probe_fault places.Operator n at names v = inr refl
probe_fault places.Keyword n at names v = inr (operand_fault n at names v)
probe_fault places.Less n at names v = inr (operand_fault n at names v)
probe_fault places.DimensionsOpen n at names v = inr (operand_fault n at names v)
probe_fault places.FirstDimension n at names v = inr (operand_fault n at names v)
probe_fault places.NextDimension n at names v = inr (operand_fault n at (names ++ fresh_name names ∷ []) v)
probe_fault places.DimensionBehind n at names v = inr (operand_fault n at names v)
probe_fault places.DimensionsEnd n at names v = inr (operand_fault n at names v)
probe_fault places.FirstSymbol n at names v = inr (operand_fault n at names v)
probe_fault places.NextSymbol n at names v = inr (operand_fault n at (names ++ fresh_name names ∷ []) v)
probe_fault places.SymbolBehind n at names v = inr (operand_fault n at names v)
probe_fault places.SymbolsEnd n at names v = inr (operand_fault n at names v)
probe_fault places.ResultsOpen n at names v = inr (operand_fault n at names v)
probe_fault places.FirstResult n at names v = inr (operand_fault n at names v)
probe_fault places.Operand n at names v = inr (operand_fault n at names v)
