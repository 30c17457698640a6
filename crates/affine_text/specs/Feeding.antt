-- What the functions of a reader answer, and what a reader is behind its next token.
use Rattle.std.specs.Prelude.{◌≡◌, ℕ, ◌-◌, ◌^◌, nat_le, Bool, true, false, List, length, if◌then◌else◌, Option, Some, None, Result, Ok, Err}
use Rattle.std.specs.Str.Parse.{digits_value}
use Rattle.mlir_base.specs.declared.memory.Memory.{Memory}
use Rattle.text_format.specs.Token.{TokenShape}
use Rattle.affine_maps.specs.Shape.{MapShape}
use Rattle.affine_maps.specs.declared.map.Expr.{Expr}
use Rattle.affine_text.specs.declared.reading.fault.MapError.{MapError}
use Rattle.affine_text.specs.declared.reading.fault.MapError.TheVariants as faults
use Rattle.affine_text.specs.declared.reading.fault.NoProduct.{NoProduct}
use Rattle.affine_text.specs.declared.reading.fault.NoProduct.TheVariants as products
use Rattle.affine_text.specs.declared.reading.level.Level.{Level}
use Rattle.affine_text.specs.declared.reading.place.Place.{Place}
use Rattle.affine_text.specs.declared.reading.place.Place.TheVariants as places
use Rattle.affine_text.specs.declared.reading.place.Step.{Step}
use Rattle.affine_text.specs.declared.reading.place.Step.TheVariants as steps
use Rattle.affine_text.specs.Meaning.{and_then, sum_of}
use Rattle.affine_text.specs.Faults.{is_division}
use Rattle.affine_text.specs.Reading.{Spot, Gathered, level_with, with_product, ended, with_level, new_level, at_place, spot_with, gathers_with, step_of, sign_of, first_spot, nothing_gathered}

-- the number that digits write, unless it is above 2^31
abbrev pub number_of : List ℕ → Option ℕ
number_of digits = if nat_le (digits_value 10 digits) (2 ^ 31) then Some (digits_value 10 digits) else None

-- what is wanted is answered, memory alone being free; where it is a value, that value is there now
abbrev pub Answers : {A B : Type 0} → Result A MapError → Result B MapError → A → Type 0
Answers wanted (Ok x) now = wanted ≡ Ok now
Answers wanted (Err faults.Memory) now = Unit {0}
Answers wanted (Err (faults.BadText at)) now = wanted ≡ Err (faults.BadText at)
Answers wanted (Err (faults.Form at)) now = wanted ≡ Err (faults.Form at)
Answers wanted (Err (faults.Range at)) now = wanted ≡ Err (faults.Range at)

-- ---- levels

-- one more factor
abbrev pub TakesFactor : Level → Expr → Result Level NoProduct → Type 0
TakesFactor l f (Ok m) = (at : ℕ) → and_then (level_with l at f) (λ e. Ok (with_product l e)) ≡ Ok m
TakesFactor l f (Err products.Form) = (at : ℕ) → level_with l at f ≡ Err (faults.Form at)
TakesFactor l f (Err products.Range) = (at : ℕ) → level_with l at f ≡ Err (faults.Range at)

-- the sum with the last product
abbrev pub EndsProduct : Level → Result (Option Expr) Memory → Type 0
EndsProduct l (Ok (Some e)) = (at : ℕ) → sum_of l.subtracts at l.sum l.product ≡ Ok e
EndsProduct l (Ok None) = (at : ℕ) → sum_of l.subtracts at l.sum l.product ≡ Err (faults.Range at)
EndsProduct l (Err m) = Unit {0}

-- the sum is taken out of what is gathered
abbrev pub EndsSum : Gathered → Result Expr MapError → Gathered → Type 0
EndsSum v (Ok e) now = (ended v ≡ Ok e) × (now ≡ with_level v new_level)
EndsSum v (Err faults.Memory) now = Unit {0}
EndsSum v (Err (faults.BadText at)) now = ended v ≡ Err (faults.BadText at)
EndsSum v (Err (faults.Form at)) now = ended v ≡ Err (faults.Form at)
EndsSum v (Err (faults.Range at)) now = ended v ≡ Err (faults.Range at)

-- ---- readers

-- whether symbols are allowed, where the reader stands, and what it has gathered
pub record ReaderShape : Type 0 where
  pub symbols : Bool
  pub spot : Spot
  pub gathered : Gathered

-- where so many parentheses are open
abbrev pub spot_at : Place → List (List ℕ) → ℕ → Spot
spot_at p names depth = record { place = p; names = names; depth = depth; room = 64 - depth }

abbrev pub first_reader : Bool → ReaderShape
first_reader symbols = record { symbols = symbols; spot = first_spot; gathered = nothing_gathered }

-- a reader that goes on here, with this gathered
abbrev pub goes_with : Place → ReaderShape → Result Gathered MapError → Result ReaderShape MapError
goes_with p r gathered = and_then gathered (λ v. Ok (record { symbols = r.symbols; spot = at_place p r.spot; gathered = v }))

-- why the text goes on with no such token
abbrev pub refusal : Step → TokenShape → MapError
refusal steps.Operator t = if is_division t then faults.Form t.start else faults.BadText t.start
refusal step t = faults.BadText t.start

abbrev pub taken_by : Bool → Option Spot → Result Gathered MapError → MapError → Result ReaderShape MapError
taken_by symbols None gathered refused = Err refused
taken_by symbols (Some next) gathered refused = and_then gathered (λ v. Ok (record { symbols = symbols; spot = next; gathered = v }))

-- a reader behind a token that does this
abbrev pub taken : Step → TokenShape → ReaderShape → Result ReaderShape MapError
taken step t r = taken_by r.symbols (spot_with r.symbols step t.text r.spot) (gathers_with step t r.spot r.gathered) (refusal step t)

-- a reader behind its next token
unfoldable pub read_with : ReaderShape → TokenShape → Result ReaderShape MapError
read_with r t = taken (step_of r.spot.place (sign_of t)) t r

abbrev pub is_whole : Place → Bool
is_whole places.Whole = true
is_whole p = false

-- the map that was read
abbrev pub map_read : ReaderShape → MapShape
map_read r = record { dims = length r.spot.names; results = r.gathered.results }
