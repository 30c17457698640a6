-- Where the reader moves with a token to a spot from which a rest goes on, the token and that rest go on from before it.
use Rattle.std.proofs.Common.{◌≡◌, ℕ, zero, suc, Bool, true, false, List, [], ◌∷◌, ◌++◌, codes, Option, Some, None, refl, sym, ap, subst, ◌∙◌, inl, inr, cond}
use Rattle.std.specs.Str.{bytes_eq}
use Rattle.text_format.specs.Token.{TokenShape}
use Rattle.affine_text.specs.declared.reading.place.Place.{Place}
use Rattle.affine_text.specs.declared.reading.place.Place.TheVariants as places
use Rattle.affine_text.specs.declared.reading.place.Sign.{Sign}
use Rattle.affine_text.specs.declared.reading.place.Sign.TheVariants as signs
use Rattle.affine_text.specs.Grammar.{Name, Number, Negative, Group, NoFactor, Times, NoProduct, Plus, Minus, Starts, Empty, From, mark_at, word_at, number_at, factor_tokens, FactorFits, is_declared}
use Rattle.affine_text.specs.Reading.{Spot, sign_of, spot_by, spot_behind, opens_by, closes_by, parts_by}
use Rattle.affine_text.proofs.GoesOn.{closing_tokens, ClosingFits, RestAt, rest_tokens, RestFits}
use Rattle.affine_text.proofs.Forward.{spot}
use Rattle.affine_text.proofs.Signs.{same_bytes, mark_token, word_token, number_token}

-- these tokens go on from the spot
abbrev pub GoesOn : Bool → Spot → List TokenShape → Type 0
GoesOn symbols s ts = (r : RestAt s.place s.depth) × RestFits symbols s.place s.depth r s.names s.room × (rest_tokens s.place s.depth r ≡ ts)

abbrev pub Back : Bool → Spot → TokenShape → Option Spot → Type 0
Back symbols s t None = Unit {0}
Back symbols s t (Some next) = (r : RestAt next.place next.depth) → RestFits symbols next.place next.depth r next.names next.room → GoesOn symbols s (t ∷ rest_tokens next.place next.depth r)

back_if : (symbols : Bool) (s : Spot) (t : TokenShape) (next : Spot) (b : Bool) → (b ≡ true → Back symbols s t (Some next)) → Back symbols s t (cond b (Some next) None)
back_if symbols s t next true h = h refl
back_if symbols s t next false h = tt

back_unless : (symbols : Bool) (s : Spot) (t : TokenShape) (next : Spot) (b : Bool) → (b ≡ false → Back symbols s t (Some next)) → Back symbols s t (cond b None (Some next))
back_unless symbols s t next true h = tt
back_unless symbols s t next false h = h refl

-- the token stands before these
headed : (t u : TokenShape) (ts : List TokenShape) → t ≡ u → u ∷ ts ≡ t ∷ ts
headed t u ts e = ap (λ (x : TokenShape). x ∷ ts) (sym e)

word_is : (t : TokenShape) (text : List ℕ) → sign_of t ≡ signs.Word → t.text ≡ text → t ≡ word_at t.start text
word_is t text e h = word_token t e ∙ ap (word_at t.start) h

abbrev BackAt : Bool → Place → Sign → TokenShape → List (List ℕ) → ℕ → ℕ → Type 0
BackAt symbols p g t names n room = Back symbols (spot p names n room) t (spot_by symbols p g t.text (spot p names n room))

back_keyword : (symbols : Bool) (g : Sign) (t : TokenShape) (names : List (List ℕ)) (n room : ℕ) → sign_of t ≡ g → BackAt symbols places.Keyword g t names n room
unfolding spot_by
back_keyword symbols signs.Word t names n room e =
    back_if symbols (spot places.Keyword names n room) t (spot places.Less names n room) (bytes_eq t.text (codes "affine_map"))
    (λ h r f. ((t.start, r.0, r.1, r.2, r.3, r.4, r.5), f, headed t (word_at t.start (codes "affine_map")) _ (word_is t (codes "affine_map") e (same_bytes t.text (codes "affine_map") h))))
back_keyword symbols _ t names n room e = tt

back_less : (symbols : Bool) (g : Sign) (t : TokenShape) (names : List (List ℕ)) (n room : ℕ) → sign_of t ≡ g → BackAt symbols places.Less g t names n room
unfolding spot_by
back_less symbols signs.Less t names n room e = λ r f. ((t.start, r.0, r.1, r.2, r.3, r.4), f, headed t (mark_at t.start (codes "<")) _ (mark_token t signs.Less e tt))
back_less symbols _ t names n room e = tt

back_dimensions : (symbols : Bool) (g : Sign) (t : TokenShape) (names : List (List ℕ)) (n room : ℕ) → sign_of t ≡ g → BackAt symbols places.DimensionsOpen g t names n room
unfolding spot_by
back_dimensions symbols signs.Open t names n room e = λ r f. ((t.start, r.0, r.1, r.2, r.3), f, headed t (mark_at t.start (codes "(")) _ (mark_token t signs.Open e tt))
back_dimensions symbols _ t names n room e = tt

back_first_dimension : (symbols : Bool) (g : Sign) (t : TokenShape) (names : List (List ℕ)) (n room : ℕ) → sign_of t ≡ g → BackAt symbols places.FirstDimension g t names n room
unfolding spot_by
back_first_dimension symbols signs.Close t names n room e = λ r f. ((Empty, t.start, r.0, r.1), (tt, f), headed t (mark_at t.start (codes ")")) _ (mark_token t signs.Close e tt))
back_first_dimension symbols signs.Word t names n room e =
    back_unless symbols (spot places.FirstDimension names n room) t (spot places.DimensionBehind (names ++ t.text ∷ []) n room) (is_declared names t.text)
    (λ h r f. ((From (record { at = t.start; name = t.text }) r.0, r.1, r.2, r.3), ((h, f.0), f.1), headed t (word_at t.start t.text) _ (word_token t e)))
back_first_dimension symbols _ t names n room e = tt

back_next_dimension : (symbols : Bool) (g : Sign) (t : TokenShape) (names : List (List ℕ)) (n room : ℕ) → sign_of t ≡ g → BackAt symbols places.NextDimension g t names n room
unfolding spot_by
back_next_dimension symbols signs.Word t names n room e =
    back_unless symbols (spot places.NextDimension names n room) t (spot places.DimensionBehind (names ++ t.text ∷ []) n room) (is_declared names t.text)
    (λ h r f. ((record { at = t.start; name = t.text }, r.0, r.1, r.2, r.3), (h, f.0, f.1), headed t (word_at t.start t.text) _ (word_token t e)))
back_next_dimension symbols _ t names n room e = tt

back_dimension_behind : (symbols : Bool) (g : Sign) (t : TokenShape) (names : List (List ℕ)) (n room : ℕ) → sign_of t ≡ g → BackAt symbols places.DimensionBehind g t names n room
unfolding spot_by
back_dimension_behind symbols signs.Comma t names n room e = λ r f. (((t.start, r.0) ∷ r.1, r.2, r.3, r.4), ((f.0, f.1), f.2), headed t (mark_at t.start (codes ",")) _ (mark_token t signs.Comma e tt))
back_dimension_behind symbols signs.Close t names n room e = λ r f. (([], t.start, r.0, r.1), (tt, f), headed t (mark_at t.start (codes ")")) _ (mark_token t signs.Close e tt))
back_dimension_behind symbols _ t names n room e = tt

back_dimensions_end : (symbols : Bool) (g : Sign) (t : TokenShape) (names : List (List ℕ)) (n room : ℕ) → sign_of t ≡ g → BackAt symbols places.DimensionsEnd g t names n room
unfolding spot_by
back_dimensions_end symbols signs.OpenBracket t names n room e =
    back_if symbols (spot places.DimensionsEnd names n room) t (spot places.FirstSymbol names n room) symbols
    (λ h r f. ((Some (record { opening = t.start; names = r.0; close = r.1 }), r.2), ((h, f.0), f.1), headed t (mark_at t.start (codes "[")) _ (mark_token t signs.OpenBracket e tt)))
back_dimensions_end symbols signs.Arrow t names n room e = λ r f. ((None, (t.start, r.0, r.1)), (tt, f), headed t (mark_at t.start (codes "->")) _ (mark_token t signs.Arrow e tt))
back_dimensions_end symbols _ t names n room e = tt

back_first_symbol : (symbols : Bool) (g : Sign) (t : TokenShape) (names : List (List ℕ)) (n room : ℕ) → sign_of t ≡ g → BackAt symbols places.FirstSymbol g t names n room
unfolding spot_by
back_first_symbol symbols signs.CloseBracket t names n room e = λ r f. ((Empty, t.start, r), (tt, f), headed t (mark_at t.start (codes "]")) _ (mark_token t signs.CloseBracket e tt))
back_first_symbol symbols signs.Word t names n room e =
    back_unless symbols (spot places.FirstSymbol names n room) t (spot places.SymbolBehind (names ++ t.text ∷ []) n room) (is_declared names t.text)
    (λ h r f. ((From (record { at = t.start; name = t.text }) r.0, r.1, r.2), ((h, f.0), f.1), headed t (word_at t.start t.text) _ (word_token t e)))
back_first_symbol symbols _ t names n room e = tt

back_next_symbol : (symbols : Bool) (g : Sign) (t : TokenShape) (names : List (List ℕ)) (n room : ℕ) → sign_of t ≡ g → BackAt symbols places.NextSymbol g t names n room
unfolding spot_by
back_next_symbol symbols signs.Word t names n room e =
    back_unless symbols (spot places.NextSymbol names n room) t (spot places.SymbolBehind (names ++ t.text ∷ []) n room) (is_declared names t.text)
    (λ h r f. ((record { at = t.start; name = t.text }, r.0, r.1, r.2), (h, f.0, f.1), headed t (word_at t.start t.text) _ (word_token t e)))
back_next_symbol symbols _ t names n room e = tt

back_symbol_behind : (symbols : Bool) (g : Sign) (t : TokenShape) (names : List (List ℕ)) (n room : ℕ) → sign_of t ≡ g → BackAt symbols places.SymbolBehind g t names n room
unfolding spot_by
back_symbol_behind symbols signs.Comma t names n room e = λ r f. (((t.start, r.0) ∷ r.1, r.2, r.3), ((f.0, f.1), f.2), headed t (mark_at t.start (codes ",")) _ (mark_token t signs.Comma e tt))
back_symbol_behind symbols signs.CloseBracket t names n room e = λ r f. (([], t.start, r), (tt, f), headed t (mark_at t.start (codes "]")) _ (mark_token t signs.CloseBracket e tt))
back_symbol_behind symbols _ t names n room e = tt

back_symbols_end : (symbols : Bool) (g : Sign) (t : TokenShape) (names : List (List ℕ)) (n room : ℕ) → sign_of t ≡ g → BackAt symbols places.SymbolsEnd g t names n room
unfolding spot_by
back_symbols_end symbols signs.Arrow t names n room e = λ r f. ((t.start, r.0, r.1), f, headed t (mark_at t.start (codes "->")) _ (mark_token t signs.Arrow e tt))
back_symbols_end symbols _ t names n room e = tt

back_results_open : (symbols : Bool) (g : Sign) (t : TokenShape) (names : List (List ℕ)) (n room : ℕ) → sign_of t ≡ g → BackAt symbols places.ResultsOpen g t names n room
unfolding spot_by
back_results_open symbols signs.Open t names n room e = λ r f. ((t.start, r), f, headed t (mark_at t.start (codes "(")) _ (mark_token t signs.Open e tt))
back_results_open symbols _ t names n room e = tt

back_results_end : (symbols : Bool) (g : Sign) (t : TokenShape) (names : List (List ℕ)) (n room : ℕ) → sign_of t ≡ g → BackAt symbols places.ResultsEnd g t names n room
unfolding spot_by
back_results_end symbols signs.Greater t names n room e = λ r f. (t.start, tt, headed t (mark_at t.start (codes ">")) _ (mark_token t signs.Greater e tt))
back_results_end symbols _ t names n room e = tt

-- ---- where a factor is wanted

back_open : (symbols : Bool) (t : TokenShape) (names : List (List ℕ)) (n room : ℕ) → sign_of t ≡ signs.Open → Back symbols (spot places.Operand names n room) t (opens_by room (spot places.Operand names n room))
unfolding factor_tokens FactorFits closing_tokens ClosingFits
back_open symbols t names n zero e = tt
back_open symbols t names n (suc room) e = λ r f. (
  (Group t.start (Starts r.0 r.1 r.2) r.3.0, r.3.1, r.3.2, r.3.3),
  ((f.0, f.1, f.2), f.3.0, f.3.1, f.3.2),
  headed t (mark_at t.start (codes "(")) _ (mark_token t signs.Open e tt),
)

back_operand : (symbols : Bool) (g : Sign) (t : TokenShape) (names : List (List ℕ)) (n room : ℕ) → sign_of t ≡ g → BackAt symbols places.Operand g t names n room
unfolding spot_by factor_tokens FactorFits
back_operand symbols signs.Minus t names n room e = λ r f. ((Negative t.start r.0, r.1, r.2, r.3), f, headed t (mark_at t.start (codes "-")) _ (mark_token t signs.Minus e tt))
back_operand symbols signs.Word t names n room e =
    back_if symbols (spot places.Operand names n room) t (spot places.Operator names n room) (is_declared names t.text)
    (λ h r f. ((Name t.start t.text, r.0, r.1, r.2), (h, f.0, f.1, f.2), headed t (word_at t.start t.text) _ (word_token t e)))
back_operand symbols signs.Number t names n room e = λ r f. ((Number t.start t.text, r.0, r.1, r.2), (tt, f.0, f.1, f.2), headed t (number_at t.start t.text) _ (number_token t e))
back_operand symbols signs.Open t names n room e = back_open symbols t names n room e
back_operand symbols _ t names n room e = tt

-- a first result is one where a factor is wanted
first_of_some : (symbols : Bool) (t : TokenShape) (names : List (List ℕ)) (n room : ℕ) (next : Spot) → Back symbols (spot places.Operand names n room) t (Some next) → Back symbols (spot places.FirstResult names n room) t (Some next)
first_of_some symbols t names n room next b = λ r f. let g = b r f in (inr g.0, g.1, g.2)

first_of_if : (symbols : Bool) (t : TokenShape) (names : List (List ℕ)) (n room : ℕ) (next : Spot) (b : Bool) → Back symbols (spot places.Operand names n room) t (cond b (Some next) None) → Back symbols (spot places.FirstResult names n room) t (cond b (Some next) None)
first_of_if symbols t names n room next true b = first_of_some symbols t names n room next b
first_of_if symbols t names n room next false b = tt

first_of_open : (symbols : Bool) (t : TokenShape) (names : List (List ℕ)) (n room : ℕ) → Back symbols (spot places.Operand names n room) t (opens_by room (spot places.Operand names n room))
    → Back symbols (spot places.FirstResult names n room) t (opens_by room (spot places.FirstResult names n room))
first_of_open symbols t names n zero b = tt
first_of_open symbols t names n (suc room) b = first_of_some symbols t names n (suc room) (record { place = places.Operand; names = names; depth = suc n; room = room }) b

back_first_result : (symbols : Bool) (g : Sign) (t : TokenShape) (names : List (List ℕ)) (n room : ℕ) → sign_of t ≡ g → BackAt symbols places.FirstResult g t names n room
unfolding spot_by
back_first_result symbols signs.Close t names n room e = λ r f. (inl (t.start, r), tt, headed t (mark_at t.start (codes ")")) _ (mark_token t signs.Close e tt))
back_first_result symbols signs.Minus t names n room e = first_of_some symbols t names n room (spot places.Operand names n room) (back_operand symbols signs.Minus t names n room e)
back_first_result symbols signs.Word t names n room e = first_of_if symbols t names n room (spot places.Operator names n room) (is_declared names t.text) (back_operand symbols signs.Word t names n room e)
back_first_result symbols signs.Number t names n room e = first_of_some symbols t names n room (spot places.Operator names n room) (back_operand symbols signs.Number t names n room e)
back_first_result symbols signs.Open t names n room e = first_of_open symbols t names n room (back_operand symbols signs.Open t names n room e)
back_first_result symbols _ t names n room e = tt

-- ---- behind a factor

back_comma : (symbols : Bool) (t : TokenShape) (names : List (List ℕ)) (n room : ℕ) → sign_of t ≡ signs.Comma → Back symbols (spot places.Operator names n room) t (parts_by n (spot places.Operator names n room))
unfolding factor_tokens FactorFits closing_tokens ClosingFits
back_comma symbols t names zero room e = λ r f. (
  (NoFactor, NoProduct, ((t.start, Starts r.0 r.1 r.2) ∷ r.3.0, r.3.1, r.3.2)),
  (tt, tt, ((f.0, f.1, f.2), f.3)),
  headed t (mark_at t.start (codes ",")) _ (mark_token t signs.Comma e tt),
)
back_comma symbols t names (suc n) room e = tt

back_close : (symbols : Bool) (t : TokenShape) (names : List (List ℕ)) (n room : ℕ) → sign_of t ≡ signs.Close → Back symbols (spot places.Operator names n room) t (closes_by n (spot places.Operator names n room))
unfolding factor_tokens FactorFits closing_tokens ClosingFits
back_close symbols t names zero room e = λ r f. ((NoFactor, NoProduct, ([], t.start, r)), (tt, tt, tt), headed t (mark_at t.start (codes ")")) _ (mark_token t signs.Close e tt))
back_close symbols t names (suc n) room e = λ r f. (
  (NoFactor, NoProduct, (t.start, r.0, r.1, r.2)),
  (tt, tt, (f.0, f.1, f.2)),
  headed t (mark_at t.start (codes ")")) _ (mark_token t signs.Close e tt),
)

back_operator : (symbols : Bool) (g : Sign) (t : TokenShape) (names : List (List ℕ)) (n room : ℕ) → sign_of t ≡ g → BackAt symbols places.Operator g t names n room
unfolding spot_by factor_tokens FactorFits
back_operator symbols signs.Times t names n room e = λ r f. ((Times t.start r.0 r.1, r.2, r.3), ((f.0, f.1), f.2, f.3), headed t (mark_at t.start (codes "*")) _ (mark_token t signs.Times e tt))
back_operator symbols signs.Plus t names n room e = λ r f. ((NoFactor, Plus t.start r.0 r.1 r.2, r.3), (tt, (f.0, f.1, f.2), f.3), headed t (mark_at t.start (codes "+")) _ (mark_token t signs.Plus e tt))
back_operator symbols signs.Minus t names n room e = λ r f. ((NoFactor, Minus t.start r.0 r.1 r.2, r.3), (tt, (f.0, f.1, f.2), f.3), headed t (mark_at t.start (codes "-")) _ (mark_token t signs.Minus e tt))
back_operator symbols signs.Comma t names n room e = back_comma symbols t names n room e
back_operator symbols signs.Close t names n room e = back_close symbols t names n room e
back_operator symbols _ t names n room e = tt

back_by : (symbols : Bool) (p : Place) (g : Sign) (t : TokenShape) (names : List (List ℕ)) (n room : ℕ) → sign_of t ≡ g → BackAt symbols p g t names n room
unfolding spot_by
back_by symbols places.Keyword g t names n room e = back_keyword symbols g t names n room e
back_by symbols places.Less g t names n room e = back_less symbols g t names n room e
back_by symbols places.DimensionsOpen g t names n room e = back_dimensions symbols g t names n room e
back_by symbols places.FirstDimension g t names n room e = back_first_dimension symbols g t names n room e
back_by symbols places.NextDimension g t names n room e = back_next_dimension symbols g t names n room e
back_by symbols places.DimensionBehind g t names n room e = back_dimension_behind symbols g t names n room e
back_by symbols places.DimensionsEnd g t names n room e = back_dimensions_end symbols g t names n room e
back_by symbols places.FirstSymbol g t names n room e = back_first_symbol symbols g t names n room e
back_by symbols places.NextSymbol g t names n room e = back_next_symbol symbols g t names n room e
back_by symbols places.SymbolBehind g t names n room e = back_symbol_behind symbols g t names n room e
back_by symbols places.SymbolsEnd g t names n room e = back_symbols_end symbols g t names n room e
back_by symbols places.ResultsOpen g t names n room e = back_results_open symbols g t names n room e
back_by symbols places.FirstResult g t names n room e = back_first_result symbols g t names n room e
back_by symbols places.Operand g t names n room e = back_operand symbols g t names n room e
back_by symbols places.Operator g t names n room e = back_operator symbols g t names n room e
back_by symbols places.ResultsEnd g t names n room e = back_results_end symbols g t names n room e
back_by symbols places.Whole g t names n room e = tt

pub backward : (symbols : Bool) (s : Spot) (t : TokenShape) (next : Spot) → spot_behind symbols s t ≡ Some next
    → (r : RestAt next.place next.depth) → RestFits symbols next.place next.depth r next.names next.room → GoesOn symbols s (t ∷ rest_tokens next.place next.depth r)
backward symbols s t next e = subst (Back symbols s t) e (back_by symbols s.place (sign_of t) t s.names s.depth s.room refl)
