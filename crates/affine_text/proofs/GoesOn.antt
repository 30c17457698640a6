-- What goes on from a spot: the rest of a map's tree, with its tokens and its meaning.
use Rattle.std.proofs.Common.{ℕ, zero, suc, Bool, List, [], ◌∷◌, ◌++◌, codes, length, Option, Result, Ok, Err, ◌⊎◌, inl, inr}
use Rattle.text_format.specs.Token.{TokenShape}
use Rattle.affine_maps.specs.Shape.{MapShape}
use Rattle.affine_maps.specs.declared.map.Expr.{Expr}
use Rattle.affine_text.specs.declared.reading.fault.MapError.{MapError}
use Rattle.affine_text.specs.declared.reading.fault.MapError.TheVariants.{Memory}
use Rattle.affine_text.specs.declared.reading.place.Place.{Place}
use Rattle.affine_text.specs.declared.reading.place.Place.TheVariants as places
use Rattle.affine_text.specs.Grammar.{Factor, Factors, Products, Sum, Items, Declared, Symbols, mark_at, word_at, factor_tokens, factors_tokens, products_tokens, names_tokens, other_names_tokens, other_sums_tokens, symbols_tokens, factor_end, factors_end, FactorFits, FactorsFit, ProductsFit, OtherSumsFit, AreNew, OthersAreNew, IsNew, SymbolsFit, with_others, with_names, with_symbols}
use Rattle.affine_text.specs.Meaning.{and_then, factor_form, factors_form, products_form, other_results, sum_of}
use Rattle.affine_text.specs.declared.reading.level.Level.{Level}
use Rattle.affine_text.specs.Reading.{Gathered, level_with}

-- ---- what closes the open parentheses and the list of results

abbrev pub Closing : ℕ → Type 0
Closing zero = List (ℕ × Sum) × ℕ × ℕ
Closing (suc n) = ℕ × Factors × Products × Closing n

unfoldable pub closing_tokens : (n : ℕ) → Closing n → List TokenShape
closing_tokens zero c = other_sums_tokens c.0 (mark_at c.1 (codes ")") ∷ mark_at c.2 (codes ">") ∷ [])
closing_tokens (suc n) c = mark_at c.0 (codes ")") ∷ factors_tokens c.1 (products_tokens c.2 (closing_tokens n c.3))

unfoldable pub ClosingFits : (n : ℕ) → Closing n → List (List ℕ) → ℕ → Type 0
ClosingFits zero c names room = OtherSumsFit c.0 names room
ClosingFits (suc n) c names room = FactorsFit c.1 names (suc room) × ProductsFit c.2 names (suc room) × ClosingFits n c.3 names (suc room)

unfoldable pub closing_means : (n : ℕ) → Closing n → List (List ℕ) → List Level → List Expr → Expr → Result MapShape MapError
closing_means zero c names outer results e = other_results c.0 names (results ++ e ∷ [])
closing_means (suc n) c names [] results e = Err Memory
closing_means (suc n) c names (l ∷ ls) results e =
    and_then (level_with l c.0 e) (λ q. and_then (factors_form c.1 names q) (λ p. and_then (sum_of l.subtracts (factors_end c.1 c.0) l.sum p) (λ f. and_then (products_form c.2 names f) (closing_means n c.3 names ls results))))

-- behind a factor: the other factors and products of its expression, where this is the product so far
abbrev pub behind : (n : ℕ) → Factors → Products → Closing n → List (List ℕ) → List Level → Level → ℕ → List Expr → Expr → Result MapShape MapError
behind n fs ps c names outer l last results q =
    and_then (factors_form fs names q) (λ p. and_then (sum_of l.subtracts (factors_end fs last) l.sum p) (λ f. and_then (products_form ps names f) (closing_means n c names outer results)))

-- ---- by the place

abbrev pub Operand : ℕ → Type 0
Operand n = Factor × Factors × Products × Closing n

-- no result, or a first one
abbrev pub Results : ℕ → Type 0
Results n = (ℕ × ℕ) ⊎ Operand n

abbrev pub Arrowed : ℕ → Type 0
Arrowed n = ℕ × ℕ × Results n

abbrev pub RestAt : Place → ℕ → Type 0
RestAt places.Keyword n = ℕ × ℕ × ℕ × Items Declared × ℕ × Option Symbols × Arrowed n
RestAt places.Less n = ℕ × ℕ × Items Declared × ℕ × Option Symbols × Arrowed n
RestAt places.DimensionsOpen n = ℕ × Items Declared × ℕ × Option Symbols × Arrowed n
RestAt places.FirstDimension n = Items Declared × ℕ × Option Symbols × Arrowed n
RestAt places.NextDimension n = Declared × List (ℕ × Declared) × ℕ × Option Symbols × Arrowed n
RestAt places.DimensionBehind n = List (ℕ × Declared) × ℕ × Option Symbols × Arrowed n
RestAt places.DimensionsEnd n = Option Symbols × Arrowed n
RestAt places.FirstSymbol n = Items Declared × ℕ × Arrowed n
RestAt places.NextSymbol n = Declared × List (ℕ × Declared) × ℕ × Arrowed n
RestAt places.SymbolBehind n = List (ℕ × Declared) × ℕ × Arrowed n
RestAt places.SymbolsEnd n = Arrowed n
RestAt places.ResultsOpen n = ℕ × Results n
RestAt places.FirstResult n = Results n
RestAt places.Operand n = Operand n
RestAt places.Operator n = Factors × Products × Closing n
RestAt places.ResultsEnd n = ℕ
RestAt places.Whole n = Unit {0}

-- its tokens
abbrev pub operand_tokens : (n : ℕ) → Operand n → List TokenShape
operand_tokens n r = factor_tokens r.0 (factors_tokens r.1 (products_tokens r.2 (closing_tokens n r.3)))

abbrev pub first_tokens : (n : ℕ) → Results n → List TokenShape
first_tokens n (inl r) = mark_at r.0 (codes ")") ∷ mark_at r.1 (codes ">") ∷ []
first_tokens n (inr r) = operand_tokens n r

abbrev pub open_tokens : (n : ℕ) → ℕ → Results n → List TokenShape
open_tokens n opening r = mark_at opening (codes "(") ∷ first_tokens n r

abbrev pub arrow_tokens : (n : ℕ) → Arrowed n → List TokenShape
arrow_tokens n r = mark_at r.0 (codes "->") ∷ open_tokens n r.1 r.2

abbrev pub dimensions_end_tokens : (n : ℕ) → Option Symbols → Arrowed n → List TokenShape
dimensions_end_tokens n symbols r = symbols_tokens symbols (arrow_tokens n r)

abbrev pub rest_tokens : (p : Place) (n : ℕ) → RestAt p n → List TokenShape
rest_tokens places.Keyword n r = word_at r.0 (codes "affine_map") ∷ mark_at r.1 (codes "<") ∷ mark_at r.2 (codes "(") ∷ names_tokens r.3 (mark_at r.4 (codes ")") ∷ dimensions_end_tokens n r.5 r.6)
rest_tokens places.Less n r = mark_at r.0 (codes "<") ∷ mark_at r.1 (codes "(") ∷ names_tokens r.2 (mark_at r.3 (codes ")") ∷ dimensions_end_tokens n r.4 r.5)
rest_tokens places.DimensionsOpen n r = mark_at r.0 (codes "(") ∷ names_tokens r.1 (mark_at r.2 (codes ")") ∷ dimensions_end_tokens n r.3 r.4)
rest_tokens places.FirstDimension n r = names_tokens r.0 (mark_at r.1 (codes ")") ∷ dimensions_end_tokens n r.2 r.3)
rest_tokens places.NextDimension n r = word_at r.0.at r.0.name ∷ other_names_tokens r.1 (mark_at r.2 (codes ")") ∷ dimensions_end_tokens n r.3 r.4)
rest_tokens places.DimensionBehind n r = other_names_tokens r.0 (mark_at r.1 (codes ")") ∷ dimensions_end_tokens n r.2 r.3)
rest_tokens places.DimensionsEnd n r = dimensions_end_tokens n r.0 r.1
rest_tokens places.FirstSymbol n r = names_tokens r.0 (mark_at r.1 (codes "]") ∷ arrow_tokens n r.2)
rest_tokens places.NextSymbol n r = word_at r.0.at r.0.name ∷ other_names_tokens r.1 (mark_at r.2 (codes "]") ∷ arrow_tokens n r.3)
rest_tokens places.SymbolBehind n r = other_names_tokens r.0 (mark_at r.1 (codes "]") ∷ arrow_tokens n r.2)
rest_tokens places.SymbolsEnd n r = arrow_tokens n r
rest_tokens places.ResultsOpen n r = open_tokens n r.0 r.1
rest_tokens places.FirstResult n r = first_tokens n r
rest_tokens places.Operand n r = operand_tokens n r
rest_tokens places.Operator n r = factors_tokens r.0 (products_tokens r.1 (closing_tokens n r.2))
rest_tokens places.ResultsEnd n r = mark_at r (codes ">") ∷ []
rest_tokens places.Whole n r = []

-- it is a map's, where these names are declared and so many more parentheses may be opened
abbrev pub OperandFits : (n : ℕ) → Operand n → List (List ℕ) → ℕ → Type 0
OperandFits n r names room = FactorFits r.0 names room × FactorsFit r.1 names room × ProductsFit r.2 names room × ClosingFits n r.3 names room

abbrev pub ResultsFit : (n : ℕ) → Results n → List (List ℕ) → ℕ → Type 0
ResultsFit n (inl r) names room = Unit {0}
ResultsFit n (inr r) names room = OperandFits n r names room

abbrev pub EndFits : Bool → (n : ℕ) → Option Symbols → Arrowed n → List (List ℕ) → ℕ → Type 0
EndFits symbols n s r names room = SymbolsFit symbols names s × ResultsFit n r.2 (with_symbols names s) room

abbrev pub RestFits : Bool → (p : Place) (n : ℕ) → RestAt p n → List (List ℕ) → ℕ → Type 0
RestFits symbols places.Keyword n r names room = AreNew names r.3 × EndFits symbols n r.5 r.6 (with_names names r.3) room
RestFits symbols places.Less n r names room = AreNew names r.2 × EndFits symbols n r.4 r.5 (with_names names r.2) room
RestFits symbols places.DimensionsOpen n r names room = AreNew names r.1 × EndFits symbols n r.3 r.4 (with_names names r.1) room
RestFits symbols places.FirstDimension n r names room = AreNew names r.0 × EndFits symbols n r.2 r.3 (with_names names r.0) room
RestFits symbols places.NextDimension n r names room = IsNew names r.0 × OthersAreNew (names ++ r.0.name ∷ []) r.1 × EndFits symbols n r.3 r.4 (with_others (names ++ r.0.name ∷ []) r.1) room
RestFits symbols places.DimensionBehind n r names room = OthersAreNew names r.0 × EndFits symbols n r.2 r.3 (with_others names r.0) room
RestFits symbols places.DimensionsEnd n r names room = EndFits symbols n r.0 r.1 names room
RestFits symbols places.FirstSymbol n r names room = AreNew names r.0 × ResultsFit n r.2.2 (with_names names r.0) room
RestFits symbols places.NextSymbol n r names room = IsNew names r.0 × OthersAreNew (names ++ r.0.name ∷ []) r.1 × ResultsFit n r.3.2 (with_others (names ++ r.0.name ∷ []) r.1) room
RestFits symbols places.SymbolBehind n r names room = OthersAreNew names r.0 × ResultsFit n r.2.2 (with_others names r.0) room
RestFits symbols places.SymbolsEnd n r names room = ResultsFit n r.2 names room
RestFits symbols places.ResultsOpen n r names room = ResultsFit n r.1 names room
RestFits symbols places.FirstResult n r names room = ResultsFit n r names room
RestFits symbols places.Operand n r names room = OperandFits n r names room
RestFits symbols places.Operator n r names room = FactorsFit r.0 names room × ProductsFit r.1 names room × ClosingFits n r.2 names room
RestFits symbols places.ResultsEnd n r names room = Unit {0}
RestFits symbols places.Whole n r names room = Unit {0}

-- the map that all of it means, where this was gathered before
abbrev pub all_means : List (List ℕ) → Gathered → Result MapShape MapError
all_means names v = Ok (record { dims = length names; results = v.results })

abbrev pub operand_means : (n : ℕ) → Operand n → List (List ℕ) → Gathered → Result MapShape MapError
operand_means n r names v = and_then (factor_form r.0 names) (λ g. and_then (level_with v.level (factor_end r.0) g) (behind n r.1 r.2 r.3 names v.outer v.level (factor_end r.0) v.results))

abbrev pub first_means : (n : ℕ) → Results n → List (List ℕ) → Gathered → Result MapShape MapError
first_means n (inl r) names v = all_means names v
first_means n (inr r) names v = operand_means n r names v

abbrev pub rest_means : (p : Place) (n : ℕ) → RestAt p n → List (List ℕ) → Gathered → Result MapShape MapError
rest_means places.Keyword n r names v = first_means n r.6.2 (with_symbols (with_names names r.3) r.5) v
rest_means places.Less n r names v = first_means n r.5.2 (with_symbols (with_names names r.2) r.4) v
rest_means places.DimensionsOpen n r names v = first_means n r.4.2 (with_symbols (with_names names r.1) r.3) v
rest_means places.FirstDimension n r names v = first_means n r.3.2 (with_symbols (with_names names r.0) r.2) v
rest_means places.NextDimension n r names v = first_means n r.4.2 (with_symbols (with_others (names ++ r.0.name ∷ []) r.1) r.3) v
rest_means places.DimensionBehind n r names v = first_means n r.3.2 (with_symbols (with_others names r.0) r.2) v
rest_means places.DimensionsEnd n r names v = first_means n r.1.2 (with_symbols names r.0) v
rest_means places.FirstSymbol n r names v = first_means n r.2.2 (with_names names r.0) v
rest_means places.NextSymbol n r names v = first_means n r.3.2 (with_others (names ++ r.0.name ∷ []) r.1) v
rest_means places.SymbolBehind n r names v = first_means n r.2.2 (with_others names r.0) v
rest_means places.SymbolsEnd n r names v = first_means n r.2 names v
rest_means places.ResultsOpen n r names v = first_means n r.1 names v
rest_means places.FirstResult n r names v = first_means n r names v
rest_means places.Operand n r names v = operand_means n r names v
rest_means places.Operator n r names v = behind n r.0 r.1 r.2 names v.outer v.level v.last v.results v.level.product
rest_means places.ResultsEnd n r names v = all_means names v
rest_means places.Whole n r names v = all_means names v
