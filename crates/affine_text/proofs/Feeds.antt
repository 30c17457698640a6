-- What a reader has read behind its next token, and which fault it finds there.
use Rattle.std.proofs.Common.{◌≡◌, ℕ, Bool, true, false, cond, List, [], ◌∷◌, ◌++◌, Option, Some, None, Result, Ok, Err, ◌⊎◌, refl, sym, ap, subst, ◌∙◌, inl, inr}
use Rattle.text_format.specs.Token.{TokenShape}
use Rattle.affine_text.specs.declared.reading.fault.MapError.{MapError}
use Rattle.affine_text.specs.declared.reading.fault.MapError.TheVariants.{BadText, Form}
use Rattle.affine_text.specs.declared.reading.place.Place.{Place}
use Rattle.affine_text.specs.declared.reading.place.Place.TheVariants as places
use Rattle.affine_text.specs.declared.reading.place.Sign.{Sign}
use Rattle.affine_text.specs.declared.reading.place.Sign.TheVariants as signs
use Rattle.affine_text.specs.Faults.{is_division, FaultWithin, FaultBehind}
use Rattle.affine_text.specs.Reading.{Spot, Gathered, spot_behind, spot_by, gathered_with, sign_of, step_of, keyword_step, less_step, greater_step, open_step, arrow_step, first_dimension_step, next_name_step, dimension_behind_step, dimensions_end_step, first_symbol_step, symbol_behind_step, operand_step, first_result_step, operator_step}
use Rattle.affine_text.specs.Feeding.{ReaderShape, refusal, taken_by, read_with}
use Rattle.affine_text.proofs.Forward.{spot}
use Rattle.affine_text.proofs.Signs.{IsMark, mark_token}
use Rattle.affine_text.proofs.HasRead.{HasRead, IsWithin, IsBehind, reads_on, fault_within, bad_token, bad_operator}

-- ---- the token is taken

abbrev pub Read : ReaderShape → List TokenShape → Type 0
Read r ts = HasRead r.symbols ts r.spot r.gathered

taken_on : (symbols : Bool) (s : Spot) (v : Gathered) (t : TokenShape) (ts : List TokenShape) (o : Option Spot) (g : Result Gathered MapError) (e : MapError) (next : ReaderShape)
    → HasRead symbols ts s v → spot_behind symbols s t ≡ o → gathered_with s t v ≡ g → taken_by symbols o g e ≡ Ok next → (next.symbols ≡ symbols) × Read next (ts ++ t ∷ [])
taken_on symbols s v t ts None g e next h m k w = absurd (cc w)
taken_on symbols s v t ts (Some n) (Err f) e next h m k w = absurd (cc w)
taken_on symbols s v t ts (Some n) (Ok u) e next h m k w =
    let same : record { symbols = symbols; spot = n; gathered = u } ≡ next = cc in
    (sym (ap (λ (x : ReaderShape). x.symbols) same), subst (λ (x : ReaderShape). Read x (ts ++ t ∷ [])) same (reads_on symbols ts s n v u t h m k))

pub read_on : (r : ReaderShape) (ts : List TokenShape) (t : TokenShape) (next : ReaderShape) → Read r ts → read_with r t ≡ Ok next → (next.symbols ≡ r.symbols) × Read next (ts ++ t ∷ [])
unfolding read_with spot_by gathered_with
read_on r ts t next h w =
    taken_on r.symbols r.spot r.gathered t ts (spot_behind r.symbols r.spot t) (gathered_with r.spot t r.gathered) (refusal (step_of r.spot.place (sign_of t)) t) next h refl refl w

-- ---- it is refused

refused_keyword : (g : Sign) (t : TokenShape) → refusal (keyword_step g) t ≡ BadText t.start
refused_keyword signs.Word t = refl
refused_keyword _ t = refl

refused_less : (p : Place) (g : Sign) (t : TokenShape) → refusal (less_step p g) t ≡ BadText t.start
refused_less p signs.Less t = refl
refused_less p _ t = refl

refused_greater : (p : Place) (g : Sign) (t : TokenShape) → refusal (greater_step p g) t ≡ BadText t.start
refused_greater p signs.Greater t = refl
refused_greater p _ t = refl

refused_open : (p : Place) (g : Sign) (t : TokenShape) → refusal (open_step p g) t ≡ BadText t.start
refused_open p signs.Open t = refl
refused_open p _ t = refl

refused_arrow : (p : Place) (g : Sign) (t : TokenShape) → refusal (arrow_step p g) t ≡ BadText t.start
refused_arrow p signs.Arrow t = refl
refused_arrow p _ t = refl

refused_first_dimension : (g : Sign) (t : TokenShape) → refusal (first_dimension_step g) t ≡ BadText t.start
refused_first_dimension signs.Close t = refl
refused_first_dimension signs.Word t = refl
refused_first_dimension _ t = refl

refused_next_name : (p : Place) (g : Sign) (t : TokenShape) → refusal (next_name_step p g) t ≡ BadText t.start
refused_next_name p signs.Word t = refl
refused_next_name p _ t = refl

refused_dimension_behind : (g : Sign) (t : TokenShape) → refusal (dimension_behind_step g) t ≡ BadText t.start
refused_dimension_behind signs.Comma t = refl
refused_dimension_behind signs.Close t = refl
refused_dimension_behind _ t = refl

refused_dimensions_end : (g : Sign) (t : TokenShape) → refusal (dimensions_end_step g) t ≡ BadText t.start
refused_dimensions_end signs.OpenBracket t = refl
refused_dimensions_end signs.Arrow t = refl
refused_dimensions_end _ t = refl

refused_first_symbol : (g : Sign) (t : TokenShape) → refusal (first_symbol_step g) t ≡ BadText t.start
refused_first_symbol signs.CloseBracket t = refl
refused_first_symbol signs.Word t = refl
refused_first_symbol _ t = refl

refused_symbol_behind : (g : Sign) (t : TokenShape) → refusal (symbol_behind_step g) t ≡ BadText t.start
refused_symbol_behind signs.Comma t = refl
refused_symbol_behind signs.CloseBracket t = refl
refused_symbol_behind _ t = refl

refused_operand : (g : Sign) (t : TokenShape) → refusal (operand_step g) t ≡ BadText t.start
refused_operand signs.Minus t = refl
refused_operand signs.Word t = refl
refused_operand signs.Number t = refl
refused_operand signs.Open t = refl
refused_operand _ t = refl

refused_first_result : (g : Sign) (t : TokenShape) → refusal (first_result_step g) t ≡ BadText t.start
refused_first_result signs.Close t = refl
refused_first_result signs.Minus t = refl
refused_first_result signs.Word t = refl
refused_first_result signs.Number t = refl
refused_first_result signs.Open t = refl
refused_first_result _ t = refl

abbrev Refused : Bool → List TokenShape → List TokenShape → Spot → TokenShape → ℕ → Type 0
Refused symbols ts after s t end = FaultBehind symbols ts (t ∷ after) end (refusal (step_of s.place (sign_of t)) t)

elsewhere : (symbols : Bool) (ts after : List TokenShape) (s : Spot) (v : Gathered) (t : TokenShape) (end : ℕ) → HasRead symbols ts s v → IsWithin s.place → spot_behind symbols s t ≡ None
    → (IsBehind s.place → ⊥) → refusal (step_of s.place (sign_of t)) t ≡ BadText t.start → Refused symbols ts after s t end
elsewhere symbols ts after s v t end h i e n b =
    subst (FaultBehind symbols ts (t ∷ after) end) (sym b) (bad_token symbols ts after s v t end h i e (λ x. absurd (n x)))

-- a mark is no division
no_division : (g : Sign) (t : TokenShape) → sign_of t ≡ g → IsMark g → is_division t ≡ false
no_division g t e m = ap is_division (mark_token t g e m)

by_mark : (symbols : Bool) (ts after : List TokenShape) (names : List (List ℕ)) (n room : ℕ) (v : Gathered) (t : TokenShape) (end : ℕ) (g : Sign) → HasRead symbols ts (spot places.Operator names n room) v
    → spot_behind symbols (spot places.Operator names n room) t ≡ None → sign_of t ≡ g → IsMark g → FaultBehind symbols ts (t ∷ after) end (BadText t.start)
by_mark symbols ts after names n room v t end g h e k m = bad_token symbols ts after (spot places.Operator names n room) v t end h tt e (λ b. no_division g t k m)

by_other : (symbols : Bool) (ts after : List TokenShape) (names : List (List ℕ)) (n room : ℕ) (v : Gathered) (t : TokenShape) (end : ℕ) (d : Bool) → HasRead symbols ts (spot places.Operator names n room) v
    → spot_behind symbols (spot places.Operator names n room) t ≡ None → is_division t ≡ d → FaultBehind symbols ts (t ∷ after) end (cond d (Form t.start) (BadText t.start))
by_other symbols ts after names n room v t end true h e k = bad_operator symbols ts after names n room v t end h e k
by_other symbols ts after names n room v t end false h e k = bad_token symbols ts after (spot places.Operator names n room) v t end h tt e (λ b. k)

by_sign : (symbols : Bool) (ts after : List TokenShape) (names : List (List ℕ)) (n room : ℕ) (v : Gathered) (t : TokenShape) (end : ℕ) (g : Sign) → HasRead symbols ts (spot places.Operator names n room) v
    → spot_behind symbols (spot places.Operator names n room) t ≡ None → sign_of t ≡ g → FaultBehind symbols ts (t ∷ after) end (refusal (operator_step g) t)
by_sign symbols ts after names n room v t end signs.Times h e k = by_mark symbols ts after names n room v t end signs.Times h e k tt
by_sign symbols ts after names n room v t end signs.Plus h e k = by_mark symbols ts after names n room v t end signs.Plus h e k tt
by_sign symbols ts after names n room v t end signs.Minus h e k = by_mark symbols ts after names n room v t end signs.Minus h e k tt
by_sign symbols ts after names n room v t end signs.Comma h e k = by_mark symbols ts after names n room v t end signs.Comma h e k tt
by_sign symbols ts after names n room v t end signs.Close h e k = by_mark symbols ts after names n room v t end signs.Close h e k tt
by_sign symbols ts after names n room v t end _ h e k = by_other symbols ts after names n room v t end (is_division t) h e refl

refused : (symbols : Bool) (ts after : List TokenShape) (p : Place) (names : List (List ℕ)) (n room : ℕ) (v : Gathered) (t : TokenShape) (end : ℕ) → HasRead symbols ts (spot p names n room) v → IsWithin p
    → spot_behind symbols (spot p names n room) t ≡ None → Refused symbols ts after (spot p names n room) t end
refused symbols ts after places.Operator names n room v t end h i e = by_sign symbols ts after names n room v t end (sign_of t) h e refl
refused symbols ts after places.Keyword names n room v t end h i e = elsewhere symbols ts after (spot places.Keyword names n room) v t end h i e (λ x. x) (refused_keyword (sign_of t) t)
refused symbols ts after places.Less names n room v t end h i e = elsewhere symbols ts after (spot places.Less names n room) v t end h i e (λ x. x) (refused_less places.DimensionsOpen (sign_of t) t)
refused symbols ts after places.DimensionsOpen names n room v t end h i e = elsewhere symbols ts after (spot places.DimensionsOpen names n room) v t end h i e (λ x. x) (refused_open places.FirstDimension (sign_of t) t)
refused symbols ts after places.FirstDimension names n room v t end h i e = elsewhere symbols ts after (spot places.FirstDimension names n room) v t end h i e (λ x. x) (refused_first_dimension (sign_of t) t)
refused symbols ts after places.NextDimension names n room v t end h i e = elsewhere symbols ts after (spot places.NextDimension names n room) v t end h i e (λ x. x) (refused_next_name places.DimensionBehind (sign_of t) t)
refused symbols ts after places.DimensionBehind names n room v t end h i e = elsewhere symbols ts after (spot places.DimensionBehind names n room) v t end h i e (λ x. x) (refused_dimension_behind (sign_of t) t)
refused symbols ts after places.DimensionsEnd names n room v t end h i e = elsewhere symbols ts after (spot places.DimensionsEnd names n room) v t end h i e (λ x. x) (refused_dimensions_end (sign_of t) t)
refused symbols ts after places.FirstSymbol names n room v t end h i e = elsewhere symbols ts after (spot places.FirstSymbol names n room) v t end h i e (λ x. x) (refused_first_symbol (sign_of t) t)
refused symbols ts after places.NextSymbol names n room v t end h i e = elsewhere symbols ts after (spot places.NextSymbol names n room) v t end h i e (λ x. x) (refused_next_name places.SymbolBehind (sign_of t) t)
refused symbols ts after places.SymbolBehind names n room v t end h i e = elsewhere symbols ts after (spot places.SymbolBehind names n room) v t end h i e (λ x. x) (refused_symbol_behind (sign_of t) t)
refused symbols ts after places.SymbolsEnd names n room v t end h i e = elsewhere symbols ts after (spot places.SymbolsEnd names n room) v t end h i e (λ x. x) (refused_arrow places.ResultsOpen (sign_of t) t)
refused symbols ts after places.ResultsOpen names n room v t end h i e = elsewhere symbols ts after (spot places.ResultsOpen names n room) v t end h i e (λ x. x) (refused_open places.FirstResult (sign_of t) t)
refused symbols ts after places.FirstResult names n room v t end h i e = elsewhere symbols ts after (spot places.FirstResult names n room) v t end h i e (λ x. x) (refused_first_result (sign_of t) t)
refused symbols ts after places.Operand names n room v t end h i e = elsewhere symbols ts after (spot places.Operand names n room) v t end h i e (λ x. x) (refused_operand (sign_of t) t)
refused symbols ts after places.ResultsEnd names n room v t end h i e = elsewhere symbols ts after (spot places.ResultsEnd names n room) v t end h i e (λ x. x) (refused_greater places.Whole (sign_of t) t)
refused symbols ts after places.Whole names n room v t end h i e = absurd i

-- what a fault at the next token is
abbrev pub FaultAt : Bool → List TokenShape → TokenShape → List TokenShape → ℕ → MapError → Type 0
FaultAt symbols ts t after end fault = FaultWithin symbols (ts ++ t ∷ []) fault ⊎ FaultBehind symbols ts (t ∷ after) end fault

fault_by : (symbols : Bool) (s : Spot) (v : Gathered) (t : TokenShape) (ts after : List TokenShape) (end : ℕ) (o : Option Spot) (g : Result Gathered MapError) (fault : MapError)
    → HasRead symbols ts s v → IsWithin s.place → spot_behind symbols s t ≡ o → gathered_with s t v ≡ g → taken_by symbols o g (refusal (step_of s.place (sign_of t)) t) ≡ Err fault → FaultAt symbols ts t after end fault
fault_by symbols s v t ts after end None g fault h i m k w =
    let same : refusal (step_of s.place (sign_of t)) t ≡ fault = cc in
    inr (subst (FaultBehind symbols ts (t ∷ after) end) same (refused symbols ts after s.place s.names s.depth s.room v t end h i m))
fault_by symbols s v t ts after end (Some n) (Err f) fault h i m k w =
    let same : f ≡ fault = cc in
    inl (fault_within symbols ts s n v t fault h m (k ∙ ap Err same))
fault_by symbols s v t ts after end (Some n) (Ok u) fault h i m k w = absurd (cc w)

pub fault_at : (r : ReaderShape) (ts : List TokenShape) (t : TokenShape) (after : List TokenShape) (end : ℕ) (fault : MapError) → Read r ts → IsWithin r.spot.place → read_with r t ≡ Err fault → FaultAt r.symbols ts t after end fault
unfolding read_with spot_by gathered_with
fault_at r ts t after end fault h i w = fault_by r.symbols r.spot r.gathered t ts after end (spot_behind r.symbols r.spot t) (gathered_with r.spot t r.gathered) fault h i refl refl w
