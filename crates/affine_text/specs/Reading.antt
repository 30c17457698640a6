-- How a reader that is fed one token at a time goes through a map's text.
use Rattle.std.specs.Prelude.{ℕ, zero, suc, Bool, true, false, not, List, [], ◌∷◌, ◌++◌, codes, if◌then◌else◌, Option, Some, None, Result, Ok, Err}
use Rattle.std.specs.Str.{bytes_eq}
use Rattle.text_format.specs.declared.front.Kind.{Kind}
use Rattle.text_format.specs.declared.front.Kind.TheVariants as kinds
use Rattle.text_format.specs.Token.{TokenShape}
use Rattle.affine_maps.specs.declared.map.Expr.{Expr}
use Rattle.affine_text.specs.declared.reading.fault.MapError.{MapError}
use Rattle.affine_text.specs.declared.reading.fault.MapError.TheVariants.{Memory}
use Rattle.affine_text.specs.declared.reading.place.Place.{Place}
use Rattle.affine_text.specs.declared.reading.place.Place.TheVariants as places
use Rattle.affine_text.specs.declared.reading.place.Sign.{Sign}
use Rattle.affine_text.specs.declared.reading.place.Sign.TheVariants as signs
use Rattle.affine_text.specs.declared.reading.place.Step.{Step}
use Rattle.affine_text.specs.declared.reading.place.Step.TheVariants as steps
use Rattle.affine_text.specs.declared.reading.level.Level.{Level}
use Rattle.affine_text.specs.Grammar.{is_declared}
use Rattle.affine_text.specs.Collected.{negative_form}
use Rattle.affine_text.specs.Meaning.{and_then, product_of, sum_of, name_form, number_form, zero_form, one_form}

-- ---- what a token is to a map's text

unfoldable pub mark_sign : List ℕ → Sign
mark_sign text =
    if bytes_eq text (codes "(") then signs.Open
    else (if bytes_eq text (codes ")") then signs.Close
    else (if bytes_eq text (codes "[") then signs.OpenBracket
    else (if bytes_eq text (codes "]") then signs.CloseBracket
    else (if bytes_eq text (codes "<") then signs.Less
    else (if bytes_eq text (codes ">") then signs.Greater
    else (if bytes_eq text (codes ",") then signs.Comma
    else (if bytes_eq text (codes "->") then signs.Arrow
    else (if bytes_eq text (codes "+") then signs.Plus
    else (if bytes_eq text (codes "-") then signs.Minus
    else (if bytes_eq text (codes "*") then signs.Times
    else signs.Other))))))))))

abbrev pub sign_by : Kind → List ℕ → Sign
sign_by kinds.Word text = signs.Word
sign_by kinds.Number text = signs.Number
sign_by kinds.Mark text = mark_sign text
sign_by k text = signs.Other

abbrev pub sign_of : TokenShape → Sign
sign_of t = sign_by t.kind t.text

-- ---- what a token does

abbrev pub keyword_step : Sign → Step
keyword_step signs.Word = steps.Keyword
keyword_step g = steps.Bad

-- the place behind this mark
abbrev pub less_step : Place → Sign → Step
less_step p signs.Less = steps.Goes p
less_step p g = steps.Bad

abbrev pub greater_step : Place → Sign → Step
greater_step p signs.Greater = steps.Goes p
greater_step p g = steps.Bad

abbrev pub open_step : Place → Sign → Step
open_step p signs.Open = steps.Goes p
open_step p g = steps.Bad

abbrev pub arrow_step : Place → Sign → Step
arrow_step p signs.Arrow = steps.Goes p
arrow_step p g = steps.Bad

abbrev pub first_dimension_step : Sign → Step
first_dimension_step signs.Close = steps.Goes places.DimensionsEnd
first_dimension_step signs.Word = steps.Declares places.DimensionBehind
first_dimension_step g = steps.Bad

abbrev pub next_name_step : Place → Sign → Step
next_name_step p signs.Word = steps.Declares p
next_name_step p g = steps.Bad

abbrev pub dimension_behind_step : Sign → Step
dimension_behind_step signs.Comma = steps.Goes places.NextDimension
dimension_behind_step signs.Close = steps.Goes places.DimensionsEnd
dimension_behind_step g = steps.Bad

abbrev pub dimensions_end_step : Sign → Step
dimensions_end_step signs.OpenBracket = steps.Symbols
dimensions_end_step signs.Arrow = steps.Goes places.ResultsOpen
dimensions_end_step g = steps.Bad

abbrev pub first_symbol_step : Sign → Step
first_symbol_step signs.CloseBracket = steps.Goes places.SymbolsEnd
first_symbol_step signs.Word = steps.Declares places.SymbolBehind
first_symbol_step g = steps.Bad

abbrev pub symbol_behind_step : Sign → Step
symbol_behind_step signs.Comma = steps.Goes places.NextSymbol
symbol_behind_step signs.CloseBracket = steps.Goes places.SymbolsEnd
symbol_behind_step g = steps.Bad

-- where a factor is wanted
abbrev pub operand_step : Sign → Step
operand_step signs.Minus = steps.Turn
operand_step signs.Word = steps.Name
operand_step signs.Number = steps.Number
operand_step signs.Open = steps.Open
operand_step g = steps.Bad

abbrev pub first_result_step : Sign → Step
first_result_step signs.Close = steps.Goes places.ResultsEnd
first_result_step g = operand_step g

-- behind a factor
abbrev pub operator_step : Sign → Step
operator_step signs.Times = steps.Times
operator_step signs.Plus = steps.Plus
operator_step signs.Minus = steps.Minus
operator_step signs.Comma = steps.Comma
operator_step signs.Close = steps.Close
operator_step g = steps.Operator

abbrev pub step_of : Place → Sign → Step
step_of places.Keyword g = keyword_step g
step_of places.Less g = less_step places.DimensionsOpen g
step_of places.DimensionsOpen g = open_step places.FirstDimension g
step_of places.FirstDimension g = first_dimension_step g
step_of places.NextDimension g = next_name_step places.DimensionBehind g
step_of places.DimensionBehind g = dimension_behind_step g
step_of places.DimensionsEnd g = dimensions_end_step g
step_of places.FirstSymbol g = first_symbol_step g
step_of places.NextSymbol g = next_name_step places.SymbolBehind g
step_of places.SymbolBehind g = symbol_behind_step g
step_of places.SymbolsEnd g = arrow_step places.ResultsOpen g
step_of places.ResultsOpen g = open_step places.FirstResult g
step_of places.FirstResult g = first_result_step g
step_of places.Operand g = operand_step g
step_of places.Operator g = operator_step g
step_of places.ResultsEnd g = greater_step places.Whole g
step_of places.Whole g = steps.Bad

-- ---- where a reader stands

-- what the text goes on with, the names that are declared, how many parentheses are open, and how many more may be
pub record Spot : Type 0 where
  pub place : Place
  pub names : List (List ℕ)
  pub depth : ℕ
  pub room : ℕ

abbrev pub at_place : Place → Spot → Spot
at_place p s = record { place = p; names = s.names; depth = s.depth; room = s.room }

abbrev pub goes : Place → Spot → Option Spot
goes p s = Some (at_place p s)

abbrev pub declares : Place → List ℕ → Spot → Option Spot
declares p name s = if is_declared s.names name then None else Some (record { place = p; names = s.names ++ name ∷ []; depth = s.depth; room = s.room })

abbrev pub opens_by : ℕ → Spot → Option Spot
opens_by zero s = None
opens_by (suc room) s = Some (record { place = places.Operand; names = s.names; depth = suc s.depth; room = room })

abbrev pub closes_by : ℕ → Spot → Option Spot
closes_by zero s = goes places.ResultsEnd s
closes_by (suc depth) s = Some (record { place = places.Operator; names = s.names; depth = depth; room = suc s.room })

abbrev pub parts_by : ℕ → Spot → Option Spot
parts_by zero s = goes places.Operand s
parts_by (suc depth) s = None

-- behind a token that does this, or None where no map's text goes on with it
abbrev pub spot_with : Bool → Step → List ℕ → Spot → Option Spot
spot_with symbols steps.Keyword text s = if bytes_eq text (codes "affine_map") then goes places.Less s else None
spot_with symbols (steps.Goes p) text s = goes p s
spot_with symbols steps.Symbols text s = if symbols then goes places.FirstSymbol s else None
spot_with symbols (steps.Declares p) text s = declares p text s
spot_with symbols steps.Turn text s = goes places.Operand s
spot_with symbols steps.Name text s = if is_declared s.names text then goes places.Operator s else None
spot_with symbols steps.Number text s = goes places.Operator s
spot_with symbols steps.Open text s = opens_by s.room s
spot_with symbols steps.Times text s = goes places.Operand s
spot_with symbols steps.Plus text s = goes places.Operand s
spot_with symbols steps.Minus text s = goes places.Operand s
spot_with symbols steps.Comma text s = parts_by s.depth s
spot_with symbols steps.Close text s = closes_by s.depth s
spot_with symbols steps.Operator text s = None
spot_with symbols steps.Bad text s = None

unfoldable pub spot_by : Bool → Place → Sign → List ℕ → Spot → Option Spot
spot_by symbols p g text s = spot_with symbols (step_of p g) text s

abbrev pub spot_behind : Bool → Spot → TokenShape → Option Spot
spot_behind symbols s t = spot_by symbols s.place (sign_of t) t.text s

-- ---- what a reader has gathered

-- the levels around the innermost, from it on outwards, the innermost, the place where the last factor ends, and the results so far
pub record Gathered : Type 0 where
  pub outer : List Level
  pub level : Level
  pub last : ℕ
  pub results : List Expr

abbrev pub level_from : Expr → Bool → Level
level_from e subtracts = record { sum = e; subtracts = subtracts; product = one_form; negative = false }

abbrev pub new_level : Level
new_level = level_from zero_form false

abbrev pub signed : Bool → Expr → Expr
signed negative e = if negative then negative_form e else e

abbrev pub with_product : Level → Expr → Level
with_product l e = record { sum = l.sum; subtracts = l.subtracts; product = e; negative = false }

-- the product with one more factor, which ends at a place
abbrev pub level_with : Level → ℕ → Expr → Result Expr MapError
level_with l at f = product_of at l.product (signed l.negative f)

abbrev pub with_level : Gathered → Level → Gathered
with_level v l = record { outer = v.outer; level = l; last = v.last; results = v.results }

-- a factor, which ends at a place
unfoldable pub with_factor : Gathered → ℕ → Expr → Result Gathered MapError
with_factor v at f = and_then (level_with v.level at f) (λ e. Ok (record { outer = v.outer; level = with_product v.level e; last = at; results = v.results }))

-- the sum with its last product
abbrev pub ended : Gathered → Result Expr MapError
ended v = sum_of v.level.subtracts v.last v.level.sum v.level.product

abbrev pub turned : Level → Level
turned l = record { sum = l.sum; subtracts = l.subtracts; product = l.product; negative = not l.negative }

abbrev pub unturned : Level → Level
unturned l = record { sum = l.sum; subtracts = l.subtracts; product = l.product; negative = false }

abbrev pub opened : Gathered → Gathered
opened v = record { outer = v.level ∷ v.outer; level = new_level; last = v.last; results = v.results }

abbrev pub next_product : Bool → Gathered → Result Gathered MapError
next_product subtracts v = and_then (ended v) (λ e. Ok (with_level v (level_from e subtracts)))

abbrev pub next_result : Gathered → Result Gathered MapError
next_result v = and_then (ended v) (λ e. Ok (record { outer = v.outer; level = new_level; last = v.last; results = v.results ++ e ∷ [] }))

-- back in the level around, where the sum is a factor
abbrev pub closed : List Level → Gathered → ℕ → Expr → Result Gathered MapError
closed [] v at e = Err Memory
closed (l ∷ ls) v at e = with_factor (record { outer = ls; level = l; last = v.last; results = v.results }) at e

abbrev pub close_by : ℕ → Gathered → ℕ → Result Gathered MapError
close_by zero v at = next_result v
close_by (suc depth) v at = and_then (ended v) (closed v.outer v at)

abbrev pub gathers_with : Step → TokenShape → Spot → Gathered → Result Gathered MapError
gathers_with steps.Turn t s v = Ok (with_level v (turned v.level))
gathers_with steps.Name t s v = with_factor v t.start (name_form s.names t.text)
gathers_with steps.Number t s v = and_then (number_form t.start t.text) (with_factor v t.start)
gathers_with steps.Open t s v = Ok (opened v)
gathers_with steps.Times t s v = Ok (with_level v (unturned v.level))
gathers_with steps.Plus t s v = next_product false v
gathers_with steps.Minus t s v = next_product true v
gathers_with steps.Comma t s v = next_result v
gathers_with steps.Close t s v = close_by s.depth v t.start
gathers_with step t s v = Ok v

-- what is gathered with a token with which the text goes on, or the fault that it shows
unfoldable pub gathered_with : Spot → TokenShape → Gathered → Result Gathered MapError
gathered_with s t v = gathers_with (step_of s.place (sign_of t)) t s v

-- before the first token
abbrev pub first_spot : Spot
first_spot = record { place = places.Keyword; names = []; depth = 0; room = 64 }

abbrev pub nothing_gathered : Gathered
nothing_gathered = record { outer = []; level = new_level; last = 0; results = [] }
