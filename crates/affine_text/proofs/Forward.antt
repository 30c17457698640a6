-- The first token of what goes on from a spot moves the reader to a spot from which the rest goes on.
use Rattle.std.proofs.Common.{◌≡◌, ℕ, zero, suc, Bool, true, false, not, List, [], ◌∷◌, ◌++◌, codes, Option, Some, None, Result, Ok, Err, ◌⊎◌, refl, sym, ap, subst, ◌∙◌, inl, inr, negsuc}
use Rattle.std.proofs.lemmas.Bool.{cond-true, cond-false}
use Rattle.text_format.specs.Token.{TokenShape}
use Rattle.affine_maps.specs.Shape.{MapShape}
use Rattle.affine_maps.specs.declared.map.Expr.{Expr}
use Rattle.affine_text.specs.declared.reading.fault.MapError.{MapError}
use Rattle.affine_text.specs.declared.reading.place.Place.{Place}
use Rattle.affine_text.specs.declared.reading.place.Place.TheVariants as places
use Rattle.affine_text.specs.Grammar.{Factor, Name, Number, Negative, Group, Factors, NoFactor, Times, Products, NoProduct, Plus, Minus, Sum, Starts, Items, Empty, From, Declared, Symbols, mark_at, word_at, number_at, factor_tokens, factor_end, factors_end, FactorFits, is_declared}
use Rattle.affine_text.specs.Collected.{negative_form}
use Rattle.affine_text.specs.Meaning.{and_then, factor_form, factors_form, products_form, sum_form, other_results, sum_of, product_of, one_form, zero_form, negative_of, name_form, number_form}
use Rattle.affine_text.specs.declared.reading.place.Sign.{Sign}
use Rattle.affine_text.specs.declared.reading.place.Sign.TheVariants as signs
use Rattle.affine_text.specs.declared.reading.level.Level.{Level}
use Rattle.affine_text.specs.Reading.{Spot, Gathered, level_with, signed, with_factor, with_product, with_level, turned, mark_sign, spot_by, spot_behind, gathered_with, declares, sign_of, new_level, opens_by, next_product, level_from, closed, ended, spot_with, operand_step, first_result_step, gathers_with}
use Rattle.affine_text.proofs.Scaling.{scaled_twice, scaled_one}
use Rattle.affine_text.proofs.GoesOn.{Closing, closing_tokens, ClosingFits, closing_means, behind, Operand, Results, Arrowed, RestAt, rest_tokens, RestFits, rest_means}

-- ---- what is made of a value that may be at fault

pub then_then : {A B C : Type 0} (m : Result A MapError) (k : A → Result B MapError) (l : B → Result C MapError) → and_then (and_then m k) l ≡ and_then m (λ x. and_then (k x) l)
then_then (Ok x) k l = refl
then_then (Err e) k l = refl

pub then_same : {A B : Type 0} (m : Result A MapError) (k l : A → Result B MapError) → ((x : A) → k x ≡ l x) → and_then m k ≡ and_then m l
then_same (Ok x) k l h = h x
then_same (Err e) k l h = refl

-- the token moves the reader so, and the rest goes on from there
pub record Onward (symbols : Bool) (s : Spot) (t : TokenShape) (ts : List TokenShape) (means : Gathered → Result MapShape MapError) : Type 0 where
  pub next : Spot
  pub moves : spot_behind symbols s t ≡ Some next
  pub rest : RestAt next.place next.depth
  pub fits : RestFits symbols next.place next.depth rest next.names next.room
  pub spelled : rest_tokens next.place next.depth rest ≡ ts
  pub same : (v : Gathered) → means v ≡ and_then (gathered_with s t v) (rest_means next.place next.depth rest next.names)

abbrev pub spot : Place → List (List ℕ) → ℕ → ℕ → Spot
spot p names n room = record { place = p; names = names; depth = n; room = room }

abbrev pub Begun : Bool → Spot → List TokenShape → (Gathered → Result MapShape MapError) → Type 0
Begun symbols s all means = (t : TokenShape) × (ts : List TokenShape) × (all ≡ t ∷ ts) × Onward symbols s t ts means

-- what a rest begins with
abbrev pub Starts' : Bool → (p : Place) (n : ℕ) → RestAt p n → List (List ℕ) → ℕ → Type 0
Starts' symbols p n r names room = Begun symbols (spot p names n room) (rest_tokens p n r) (rest_means p n r names)

-- ---- before the results

goes_on : (symbols : Bool) (s next : Spot) (t : TokenShape) (ts : List TokenShape) (means : Gathered → Result MapShape MapError)
    → spot_behind symbols s t ≡ Some next → (r : RestAt next.place next.depth) → RestFits symbols next.place next.depth r next.names next.room
    → rest_tokens next.place next.depth r ≡ ts → ((v : Gathered) → gathered_with s t v ≡ Ok v) → ((v : Gathered) → means v ≡ rest_means next.place next.depth r next.names v)
    → Begun symbols s (t ∷ ts) means
goes_on symbols s next t ts means moves r fits spelled keeps same = (
  t,
  ts,
  refl,
  record {
    next = next;
    moves = moves;
    rest = r;
    fits = fits;
    spelled = spelled;
    same = λ v. same v ∙ sym (ap (λ (m : Result Gathered MapError). and_then m (rest_means next.place next.depth r next.names)) (keeps v));
  },
)

declared : (p : Place) (name : List ℕ) (s : Spot) → is_declared s.names name ≡ false → declares p name s ≡ Some (record { place = p; names = s.names ++ name ∷ []; depth = s.depth; room = s.room })
declared p name s e = cond-false (is_declared s.names name) _ _ e

begins_keyword : (symbols : Bool) (n : ℕ) (r : RestAt places.Keyword n) (names : List (List ℕ)) (room : ℕ) → RestFits symbols places.Keyword n r names room → Starts' symbols places.Keyword n r names room
unfolding mark_sign spot_by gathered_with
begins_keyword symbols n r names room f =
    goes_on symbols (spot places.Keyword names n room) (spot places.Less names n room) (word_at r.0 (codes "affine_map")) _ _ refl (r.1, r.2, r.3, r.4, r.5, r.6) f refl (λ v. refl) (λ v. refl)

begins_less : (symbols : Bool) (n : ℕ) (r : RestAt places.Less n) (names : List (List ℕ)) (room : ℕ) → RestFits symbols places.Less n r names room → Starts' symbols places.Less n r names room
unfolding mark_sign spot_by gathered_with
begins_less symbols n r names room f =
    goes_on symbols (spot places.Less names n room) (spot places.DimensionsOpen names n room) (mark_at r.0 (codes "<")) _ _ refl (r.1, r.2, r.3, r.4, r.5) f refl (λ v. refl) (λ v. refl)

begins_dimensions : (symbols : Bool) (n : ℕ) (r : RestAt places.DimensionsOpen n) (names : List (List ℕ)) (room : ℕ) → RestFits symbols places.DimensionsOpen n r names room → Starts' symbols places.DimensionsOpen n r names room
unfolding mark_sign spot_by gathered_with
begins_dimensions symbols n r names room f =
    goes_on symbols (spot places.DimensionsOpen names n room) (spot places.FirstDimension names n room) (mark_at r.0 (codes "(")) _ _ refl (r.1, r.2, r.3, r.4) f refl (λ v. refl) (λ v. refl)

begins_first_dimension : (symbols : Bool) (n : ℕ) (ds : Items Declared) (close : ℕ) (syms : Option Symbols) (a : Arrowed n) (names : List (List ℕ)) (room : ℕ)
    → RestFits symbols places.FirstDimension n (ds, close, syms, a) names room → Starts' symbols places.FirstDimension n (ds, close, syms, a) names room
unfolding mark_sign spot_by gathered_with
begins_first_dimension symbols n Empty close syms a names room f =
    goes_on symbols (spot places.FirstDimension names n room) (spot places.DimensionsEnd names n room) (mark_at close (codes ")")) _ _ refl (syms, a) f.1 refl (λ v. refl) (λ v. refl)
begins_first_dimension symbols n (From d ds) close syms a names room f =
    goes_on symbols (spot places.FirstDimension names n room) (spot places.DimensionBehind (names ++ d.name ∷ []) n room) (word_at d.at d.name) _ _
    (declared places.DimensionBehind d.name (spot places.FirstDimension names n room) f.0.0) (ds, close, syms, a) (f.0.1, f.1) refl (λ v. refl) (λ v. refl)

begins_next_dimension : (symbols : Bool) (n : ℕ) (r : RestAt places.NextDimension n) (names : List (List ℕ)) (room : ℕ) → RestFits symbols places.NextDimension n r names room → Starts' symbols places.NextDimension n r names room
unfolding mark_sign spot_by gathered_with
begins_next_dimension symbols n r names room f =
    goes_on symbols (spot places.NextDimension names n room) (spot places.DimensionBehind (names ++ r.0.name ∷ []) n room) (word_at r.0.at r.0.name) _ _
    (declared places.DimensionBehind r.0.name (spot places.NextDimension names n room) f.0) (r.1, r.2, r.3, r.4) (f.1, f.2) refl (λ v. refl) (λ v. refl)

begins_dimension_behind : (symbols : Bool) (n : ℕ) (ds : List (ℕ × Declared)) (close : ℕ) (syms : Option Symbols) (a : Arrowed n) (names : List (List ℕ)) (room : ℕ)
    → RestFits symbols places.DimensionBehind n (ds, close, syms, a) names room → Starts' symbols places.DimensionBehind n (ds, close, syms, a) names room
unfolding mark_sign spot_by gathered_with
begins_dimension_behind symbols n [] close syms a names room f =
    goes_on symbols (spot places.DimensionBehind names n room) (spot places.DimensionsEnd names n room) (mark_at close (codes ")")) _ _ refl (syms, a) f.1 refl (λ v. refl) (λ v. refl)
begins_dimension_behind symbols n (d ∷ ds) close syms a names room f =
    goes_on symbols (spot places.DimensionBehind names n room) (spot places.NextDimension names n room) (mark_at d.0 (codes ",")) _ _ refl (d.1, ds, close, syms, a) (f.0.0, f.0.1, f.1) refl (λ v. refl) (λ v. refl)

begins_dimensions_end : (symbols : Bool) (n : ℕ) (syms : Option Symbols) (a : Arrowed n) (names : List (List ℕ)) (room : ℕ)
    → RestFits symbols places.DimensionsEnd n (syms, a) names room → Starts' symbols places.DimensionsEnd n (syms, a) names room
unfolding mark_sign spot_by gathered_with
begins_dimensions_end symbols n None a names room f =
    goes_on symbols (spot places.DimensionsEnd names n room) (spot places.ResultsOpen names n room) (mark_at a.0 (codes "->")) _ _ refl (a.1, a.2) f.1 refl (λ v. refl) (λ v. refl)
begins_dimensions_end symbols n (Some s) a names room f =
    goes_on symbols (spot places.DimensionsEnd names n room) (spot places.FirstSymbol names n room) (mark_at s.opening (codes "[")) _ _
    (cond-true symbols _ _ f.0.0) (s.names, s.close, a) (f.0.1, f.1) refl (λ v. refl) (λ v. refl)

begins_first_symbol : (symbols : Bool) (n : ℕ) (ds : Items Declared) (close : ℕ) (a : Arrowed n) (names : List (List ℕ)) (room : ℕ)
    → RestFits symbols places.FirstSymbol n (ds, close, a) names room → Starts' symbols places.FirstSymbol n (ds, close, a) names room
unfolding mark_sign spot_by gathered_with
begins_first_symbol symbols n Empty close a names room f =
    goes_on symbols (spot places.FirstSymbol names n room) (spot places.SymbolsEnd names n room) (mark_at close (codes "]")) _ _ refl a f.1 refl (λ v. refl) (λ v. refl)
begins_first_symbol symbols n (From d ds) close a names room f =
    goes_on symbols (spot places.FirstSymbol names n room) (spot places.SymbolBehind (names ++ d.name ∷ []) n room) (word_at d.at d.name) _ _
    (declared places.SymbolBehind d.name (spot places.FirstSymbol names n room) f.0.0) (ds, close, a) (f.0.1, f.1) refl (λ v. refl) (λ v. refl)

begins_next_symbol : (symbols : Bool) (n : ℕ) (r : RestAt places.NextSymbol n) (names : List (List ℕ)) (room : ℕ) → RestFits symbols places.NextSymbol n r names room → Starts' symbols places.NextSymbol n r names room
unfolding mark_sign spot_by gathered_with
begins_next_symbol symbols n r names room f =
    goes_on symbols (spot places.NextSymbol names n room) (spot places.SymbolBehind (names ++ r.0.name ∷ []) n room) (word_at r.0.at r.0.name) _ _
    (declared places.SymbolBehind r.0.name (spot places.NextSymbol names n room) f.0) (r.1, r.2, r.3) (f.1, f.2) refl (λ v. refl) (λ v. refl)

begins_symbol_behind : (symbols : Bool) (n : ℕ) (ds : List (ℕ × Declared)) (close : ℕ) (a : Arrowed n) (names : List (List ℕ)) (room : ℕ)
    → RestFits symbols places.SymbolBehind n (ds, close, a) names room → Starts' symbols places.SymbolBehind n (ds, close, a) names room
unfolding mark_sign spot_by gathered_with
begins_symbol_behind symbols n [] close a names room f =
    goes_on symbols (spot places.SymbolBehind names n room) (spot places.SymbolsEnd names n room) (mark_at close (codes "]")) _ _ refl a f.1 refl (λ v. refl) (λ v. refl)
begins_symbol_behind symbols n (d ∷ ds) close a names room f =
    goes_on symbols (spot places.SymbolBehind names n room) (spot places.NextSymbol names n room) (mark_at d.0 (codes ",")) _ _ refl (d.1, ds, close, a) (f.0.0, f.0.1, f.1) refl (λ v. refl) (λ v. refl)

begins_symbols_end : (symbols : Bool) (n : ℕ) (a : Arrowed n) (names : List (List ℕ)) (room : ℕ) → RestFits symbols places.SymbolsEnd n a names room → Starts' symbols places.SymbolsEnd n a names room
unfolding mark_sign spot_by gathered_with
begins_symbols_end symbols n a names room f =
    goes_on symbols (spot places.SymbolsEnd names n room) (spot places.ResultsOpen names n room) (mark_at a.0 (codes "->")) _ _ refl (a.1, a.2) f refl (λ v. refl) (λ v. refl)

begins_results_open : (symbols : Bool) (n : ℕ) (r : RestAt places.ResultsOpen n) (names : List (List ℕ)) (room : ℕ) → RestFits symbols places.ResultsOpen n r names room → Starts' symbols places.ResultsOpen n r names room
unfolding mark_sign spot_by gathered_with
begins_results_open symbols n r names room f =
    goes_on symbols (spot places.ResultsOpen names n room) (spot places.FirstResult names n room) (mark_at r.0 (codes "(")) _ _ refl r.1 f refl (λ v. refl) (λ v. refl)

begins_results_end : (symbols : Bool) (n : ℕ) (r : ℕ) (names : List (List ℕ)) (room : ℕ) → Starts' symbols places.ResultsEnd n r names room
unfolding mark_sign spot_by gathered_with
begins_results_end symbols n r names room =
    goes_on symbols (spot places.ResultsEnd names n room) (spot places.Whole names n room) (mark_at r (codes ">")) _ _ refl tt tt refl (λ v. refl) (λ v. refl)

-- ---- a factor

pub chain_two : {A B C D : Type 0} (m : Result A MapError) (k : A → Result B MapError) (l : B → Result C MapError) (r : C → Result D MapError)
    → and_then (and_then m (λ x. and_then (k x) l)) r ≡ and_then m (λ x. and_then (k x) (λ y. and_then (l y) r))
chain_two (Ok x) k l r = then_then (k x) l r
chain_two (Err e) k l r = refl

chain_three : {A B C D E : Type 0} (m : Result A MapError) (k : A → Result B MapError) (l : B → Result C MapError) (r : C → Result D MapError) (o : D → Result E MapError)
    → and_then (and_then m (λ x. and_then (k x) (λ y. and_then (l y) r))) o ≡ and_then m (λ x. and_then (k x) (λ y. and_then (l y) (λ z. and_then (r z) o)))
chain_three (Ok x) k l r o = chain_two (k x) l r o
chain_three (Err e) k l r o = refl

pub chain_four : {A B C D E F : Type 0} (m : Result A MapError) (k : A → Result B MapError) (l : B → Result C MapError) (r : C → Result D MapError) (o : D → Result E MapError) (q : E → Result F MapError)
    → and_then (and_then m (λ x. and_then (k x) (λ y. and_then (l y) (λ z. and_then (r z) o)))) q ≡ and_then m (λ x. and_then (k x) (λ y. and_then (l y) (λ z. and_then (r z) (λ w. and_then (o w) q))))
chain_four (Ok x) k l r o q = chain_three (k x) l r o q
chain_four (Err e) k l r o q = refl

-- behind a factor the expression goes on with the product
factor_step : (n : ℕ) (fs : Factors) (ps : Products) (c : Closing n) (names : List (List ℕ)) (v : Gathered) (at : ℕ) (f : Expr)
    → and_then (level_with v.level at f) (behind n fs ps c names v.outer v.level at v.results) ≡ and_then (with_factor v at f) (rest_means places.Operator n (fs, ps, c) names)
unfolding with_factor
factor_step n fs ps c names v at f = sym (then_then (level_with v.level at f) (λ e. Ok (record { outer = v.outer; level = with_product v.level e; last = at; results = v.results })) (rest_means places.Operator n (fs, ps, c) names))

abbrev pub BeginsOperand : Bool → (n : ℕ) → Operand n → List (List ℕ) → ℕ → Type 0
BeginsOperand symbols n r names room = Starts' symbols places.Operand n r names room

begins_name : (symbols : Bool) (n : ℕ) (at : ℕ) (text : List ℕ) (fs : Factors) (ps : Products) (c : Closing n) (names : List (List ℕ)) (room : ℕ)
    → RestFits symbols places.Operand n (Name at text, fs, ps, c) names room → BeginsOperand symbols n (Name at text, fs, ps, c) names room
unfolding mark_sign spot_by gathered_with factor_tokens FactorFits factor_form factor_end
begins_name symbols n at text fs ps c names room f = (
  word_at at text,
  _,
  refl,
  record {
    next = spot places.Operator names n room;
    moves = cond-true (is_declared names text) _ _ f.0;
    rest = (fs, ps, c);
    fits = (f.1, f.2, f.3);
    spelled = refl;
    same = λ v. factor_step n fs ps c names v at (name_form names text);
  },
)

begins_number : (symbols : Bool) (n : ℕ) (at : ℕ) (digits : List ℕ) (fs : Factors) (ps : Products) (c : Closing n) (names : List (List ℕ)) (room : ℕ)
    → RestFits symbols places.Operand n (Number at digits, fs, ps, c) names room → BeginsOperand symbols n (Number at digits, fs, ps, c) names room
unfolding mark_sign spot_by gathered_with factor_tokens FactorFits factor_form factor_end
begins_number symbols n at digits fs ps c names room f = (
  number_at at digits,
  _,
  refl,
  record {
    next = spot places.Operator names n room;
    moves = refl;
    rest = (fs, ps, c);
    fits = (f.1, f.2, f.3);
    spelled = refl;
    same = λ v.
        then_same (number_form at digits) (λ g. and_then (level_with v.level at g) (behind n fs ps c names v.outer v.level at v.results)) (λ g. and_then (with_factor v at g) (rest_means places.Operator n (fs, ps, c) names)) (factor_step n fs ps c names v at)
        ∙ sym (then_then (number_form at digits) (with_factor v at) (rest_means places.Operator n (fs, ps, c) names));
  },
)

twice : (e : Expr) → negative_form (negative_form e) ≡ e
twice e = scaled_twice (negsuc 0) (negsuc 0) e ∙ scaled_one e

signed_turned : (b : Bool) (e : Expr) → signed b (negative_form e) ≡ signed (not b) e
signed_turned true e = twice e
signed_turned false e = refl

begins_negative : (symbols : Bool) (n : ℕ) (at : ℕ) (g : Factor) (fs : Factors) (ps : Products) (c : Closing n) (names : List (List ℕ)) (room : ℕ)
    → RestFits symbols places.Operand n (Negative at g, fs, ps, c) names room → BeginsOperand symbols n (Negative at g, fs, ps, c) names room
unfolding mark_sign spot_by gathered_with factor_tokens FactorFits factor_form factor_end
begins_negative symbols n at g fs ps c names room f = (
  mark_at at (codes "-"),
  _,
  refl,
  record {
    next = spot places.Operand names n room;
    moves = refl;
    rest = (g, fs, ps, c);
    fits = f;
    spelled = refl;
    same = λ v.
        then_then (factor_form g names) negative_of (λ e. and_then (level_with v.level (factor_end g) e) (behind n fs ps c names v.outer v.level (factor_end g) v.results))
        ∙ then_same (factor_form g names) (λ e. and_then (level_with v.level (factor_end g) (negative_form e)) (behind n fs ps c names v.outer v.level (factor_end g) v.results))
        (λ e. and_then (level_with (turned v.level) (factor_end g) e) (behind n fs ps c names v.outer v.level (factor_end g) v.results))
        (λ e. ap (λ x. and_then (product_of (factor_end g) v.level.product x) (behind n fs ps c names v.outer v.level (factor_end g) v.results)) (signed_turned v.level.negative e));
  },
)

begins_group : (symbols : Bool) (n : ℕ) (at : ℕ) (s : Sum) (close : ℕ) (fs : Factors) (ps : Products) (c : Closing n) (names : List (List ℕ)) (room : ℕ)
    → RestFits symbols places.Operand n (Group at s close, fs, ps, c) names room → BeginsOperand symbols n (Group at s close, fs, ps, c) names room
unfolding mark_sign spot_by gathered_with factor_tokens FactorFits factor_form factor_end closing_tokens ClosingFits closing_means
begins_group symbols n at (Starts g gs qs) close fs ps c names zero f = absurd f.0
begins_group symbols n at (Starts g gs qs) close fs ps c names (suc room) f = (
  mark_at at (codes "("),
  _,
  refl,
  record {
    next = spot places.Operand names (suc n) room;
    moves = refl;
    rest = (g, gs, qs, (close, fs, ps, c));
    fits = (f.0.0, f.0.1, f.0.2, (f.1, f.2, f.3));
    spelled = refl;
    same = λ v.
        chain_four (factor_form g names) (λ e. product_of (factor_end g) one_form e) (factors_form gs names) (λ q. sum_of false (factors_end gs (factor_end g)) zero_form q) (products_form qs names)
        (λ e. and_then (level_with v.level close e) (behind n fs ps c names v.outer v.level close v.results));
  },
)

begins_operand : (symbols : Bool) (n : ℕ) (g : Factor) (fs : Factors) (ps : Products) (c : Closing n) (names : List (List ℕ)) (room : ℕ)
    → RestFits symbols places.Operand n (g, fs, ps, c) names room → BeginsOperand symbols n (g, fs, ps, c) names room
begins_operand symbols n (Name at text) fs ps c names room f = begins_name symbols n at text fs ps c names room f
begins_operand symbols n (Number at digits) fs ps c names room f = begins_number symbols n at digits fs ps c names room f
begins_operand symbols n (Negative at g) fs ps c names room f = begins_negative symbols n at g fs ps c names room f
begins_operand symbols n (Group at s close) fs ps c names room f = begins_group symbols n at s close fs ps c names room f

-- ---- behind a factor

abbrev pub BeginsOperator : Bool → (n : ℕ) → Factors → Products → Closing n → List (List ℕ) → ℕ → Type 0
BeginsOperator symbols n fs ps c names room = Starts' symbols places.Operator n (fs, ps, c) names room

begins_times : (symbols : Bool) (n : ℕ) (at : ℕ) (g : Factor) (gs : Factors) (ps : Products) (c : Closing n) (names : List (List ℕ)) (room : ℕ)
    → RestFits symbols places.Operator n (Times at g gs, ps, c) names room → BeginsOperator symbols n (Times at g gs) ps c names room
unfolding mark_sign spot_by gathered_with factor_tokens FactorFits factor_form factors_end
begins_times symbols n at g gs ps c names room f = (
  mark_at at (codes "*"),
  _,
  refl,
  record {
    next = spot places.Operand names n room;
    moves = refl;
    rest = (g, gs, ps, c);
    fits = (f.0.0, f.0.1, f.1, f.2);
    spelled = refl;
    same = λ v.
        chain_two (factor_form g names) (λ x. product_of (factor_end g) v.level.product x) (factors_form gs names)
        (λ p. and_then (sum_of v.level.subtracts (factors_end gs (factor_end g)) v.level.sum p) (λ e. and_then (products_form ps names e) (closing_means n c names v.outer v.results)));
  },
)

-- a further product
next_step : (n : ℕ) (b : Bool) (g : Factor) (gs : Factors) (ps : Products) (c : Closing n) (names : List (List ℕ)) (v : Gathered)
    → and_then (ended v) (λ x. and_then (and_then (factor_form g names) (λ y. and_then (product_of (factor_end g) one_form y) (λ h. and_then (factors_form gs names h) (λ q. and_then (sum_of b (factors_end gs (factor_end g)) x q) (products_form ps names))))) (closing_means n c names v.outer v.results))
    ≡ and_then (next_product b v) (rest_means places.Operand n (g, gs, ps, c) names)
next_step n b g gs ps c names v =
    then_same (ended v)
    (λ x. and_then (and_then (factor_form g names) (λ y. and_then (product_of (factor_end g) one_form y) (λ h. and_then (factors_form gs names h) (λ q. and_then (sum_of b (factors_end gs (factor_end g)) x q) (products_form ps names))))) (closing_means n c names v.outer v.results))
    (λ x. rest_means places.Operand n (g, gs, ps, c) names (with_level v (level_from x b)))
    (λ x. chain_four (factor_form g names) (λ y. product_of (factor_end g) one_form y) (factors_form gs names) (λ q. sum_of b (factors_end gs (factor_end g)) x q) (products_form ps names) (closing_means n c names v.outer v.results))
    ∙ sym (then_then (ended v) (λ e. Ok (with_level v (level_from e b))) (rest_means places.Operand n (g, gs, ps, c) names))

begins_plus : (symbols : Bool) (n : ℕ) (at : ℕ) (g : Factor) (gs : Factors) (ps : Products) (c : Closing n) (names : List (List ℕ)) (room : ℕ)
    → RestFits symbols places.Operator n (NoFactor, Plus at g gs ps, c) names room → BeginsOperator symbols n NoFactor (Plus at g gs ps) c names room
unfolding mark_sign spot_by gathered_with factor_tokens FactorFits factor_form factors_end
begins_plus symbols n at g gs ps c names room f = (
  mark_at at (codes "+"),
  _,
  refl,
  record {
    next = spot places.Operand names n room;
    moves = refl;
    rest = (g, gs, ps, c);
    fits = (f.1.0, f.1.1, f.1.2, f.2);
    spelled = refl;
    same = next_step n false g gs ps c names;
  },
)

begins_minus : (symbols : Bool) (n : ℕ) (at : ℕ) (g : Factor) (gs : Factors) (ps : Products) (c : Closing n) (names : List (List ℕ)) (room : ℕ)
    → RestFits symbols places.Operator n (NoFactor, Minus at g gs ps, c) names room → BeginsOperator symbols n NoFactor (Minus at g gs ps) c names room
unfolding mark_sign spot_by gathered_with factor_tokens FactorFits factor_form factors_end
begins_minus symbols n at g gs ps c names room f = (
  mark_at at (codes "-"),
  _,
  refl,
  record {
    next = spot places.Operand names n room;
    moves = refl;
    rest = (g, gs, ps, c);
    fits = (f.1.0, f.1.1, f.1.2, f.2);
    spelled = refl;
    same = next_step n true g gs ps c names;
  },
)

-- a further result
begins_comma : (symbols : Bool) (at : ℕ) (g : Factor) (gs : Factors) (qs : Products) (ss : List (ℕ × Sum)) (close greater : ℕ) (names : List (List ℕ)) (room : ℕ)
    → RestFits symbols places.Operator zero (NoFactor, NoProduct, ((at, Starts g gs qs) ∷ ss, close, greater)) names room
    → BeginsOperator symbols zero NoFactor NoProduct ((at, Starts g gs qs) ∷ ss, close, greater) names room
unfolding mark_sign spot_by gathered_with factor_tokens FactorFits factor_form factors_end closing_tokens ClosingFits closing_means
begins_comma symbols at g gs qs ss close greater names room f =
    let next : Gathered → Expr → Gathered = λ v x. record { outer = v.outer; level = new_level; last = v.last; results = v.results ++ x ∷ [] } in (
      mark_at at (codes ","),
      _,
      refl,
      record {
        next = spot places.Operand names zero room;
        moves = refl;
        rest = (g, gs, qs, (ss, close, greater));
        fits = (f.2.0.0, f.2.0.1, f.2.0.2, f.2.1);
        spelled = refl;
        same = λ v.
            then_same (ended v) (λ x. and_then (sum_form (Starts g gs qs) names) (λ e. other_results ss names ((v.results ++ x ∷ []) ++ e ∷ [])))
            (λ x. rest_means places.Operand zero (g, gs, qs, (ss, close, greater)) names (next v x))
            (λ x. chain_four (factor_form g names) (λ y. product_of (factor_end g) one_form y) (factors_form gs names) (λ q. sum_of false (factors_end gs (factor_end g)) zero_form q) (products_form qs names)
            (λ e. other_results ss names ((v.results ++ x ∷ []) ++ e ∷ [])))
            ∙ sym (then_then (ended v) (λ e. Ok (next v e)) (rest_means places.Operand zero (g, gs, qs, (ss, close, greater)) names));
      },
    )

begins_results_close : (symbols : Bool) (close greater : ℕ) (names : List (List ℕ)) (room : ℕ) → BeginsOperator symbols zero NoFactor NoProduct ([], close, greater) names room
unfolding mark_sign spot_by gathered_with factor_tokens FactorFits factor_form factors_end closing_tokens ClosingFits closing_means
begins_results_close symbols close greater names room = (
  mark_at close (codes ")"),
  _,
  refl,
  record {
    next = spot places.ResultsEnd names zero room;
    moves = refl;
    rest = greater;
    fits = tt;
    spelled = refl;
    same = λ v. sym (then_then (ended v) (λ e. Ok (record { outer = v.outer; level = new_level; last = v.last; results = v.results ++ e ∷ [] })) (rest_means places.ResultsEnd zero greater names));
  },
)

close_step : (n : ℕ) (close : ℕ) (fs : Factors) (ps : Products) (c : Closing n) (names : List (List ℕ)) (outer : List Level) (v : Gathered) (x : Expr)
    → closing_means (suc n) (close, fs, ps, c) names outer v.results x ≡ and_then (closed outer v close x) (rest_means places.Operator n (fs, ps, c) names)
unfolding closing_means
close_step n close fs ps c names [] v x = refl
close_step n close fs ps c names (l ∷ ls) v x = factor_step n fs ps c names (record { outer = ls; level = l; last = v.last; results = v.results }) close x

begins_close : (symbols : Bool) (n : ℕ) (close : ℕ) (fs : Factors) (ps : Products) (c : Closing n) (names : List (List ℕ)) (room : ℕ)
    → RestFits symbols places.Operator (suc n) (NoFactor, NoProduct, (close, fs, ps, c)) names room → BeginsOperator symbols (suc n) NoFactor NoProduct (close, fs, ps, c) names room
unfolding mark_sign spot_by gathered_with factor_tokens FactorFits factor_form factors_end closing_tokens ClosingFits
begins_close symbols n close fs ps c names room f = (
  mark_at close (codes ")"),
  _,
  refl,
  record {
    next = spot places.Operator names n (suc room);
    moves = refl;
    rest = (fs, ps, c);
    fits = (f.2.0, f.2.1, f.2.2);
    spelled = refl;
    same = λ v.
        then_same (ended v) (closing_means (suc n) (close, fs, ps, c) names v.outer v.results) (λ x. and_then (closed v.outer v close x) (rest_means places.Operator n (fs, ps, c) names)) (close_step n close fs ps c names v.outer v)
        ∙ sym (then_then (ended v) (closed v.outer v close) (rest_means places.Operator n (fs, ps, c) names));
  },
)

begins_operator : (symbols : Bool) (n : ℕ) (fs : Factors) (ps : Products) (c : Closing n) (names : List (List ℕ)) (room : ℕ)
    → RestFits symbols places.Operator n (fs, ps, c) names room → BeginsOperator symbols n fs ps c names room
begins_operator symbols n (Times at g gs) ps c names room f = begins_times symbols n at g gs ps c names room f
begins_operator symbols n NoFactor (Plus at g gs ps) c names room f = begins_plus symbols n at g gs ps c names room f
begins_operator symbols n NoFactor (Minus at g gs ps) c names room f = begins_minus symbols n at g gs ps c names room f
begins_operator symbols zero NoFactor NoProduct ([], close, greater) names room f = begins_results_close symbols close greater names room
begins_operator symbols zero NoFactor NoProduct ((at, Starts g gs qs) ∷ ss, close, greater) names room f = begins_comma symbols at g gs qs ss close greater names room f
begins_operator symbols (suc n) NoFactor NoProduct (close, fs, ps, c) names room f = begins_close symbols n close fs ps c names room f

-- ---- the first result

opens_same : (names : List (List ℕ)) (n room : ℕ) → (next : Spot) → opens_by room (spot places.Operand names n room) ≡ Some next → opens_by room (spot places.FirstResult names n room) ≡ Some next
opens_same names n zero next e = absurd cc
opens_same names n (suc room) next e = e

first_same : (symbols : Bool) (g : Sign) (text : List ℕ) (names : List (List ℕ)) (n room : ℕ) (next : Spot) → spot_with symbols (operand_step g) text (spot places.Operand names n room) ≡ Some next → spot_with symbols (first_result_step g) text (spot places.FirstResult names n room) ≡ Some next
first_same symbols signs.Minus text names n room next e = e
first_same symbols signs.Word text names n room next e = e
first_same symbols signs.Number text names n room next e = e
first_same symbols signs.Open text names n room next e = opens_same names n room next e
first_same symbols _ text names n room next e = absurd cc

first_gathers : (g : Sign) (t : TokenShape) (names : List (List ℕ)) (n room : ℕ) (v : Gathered) → gathers_with (operand_step g) t (spot places.Operand names n room) v ≡ gathers_with (first_result_step g) t (spot places.FirstResult names n room) v
first_gathers signs.Minus t names n room v = refl
first_gathers signs.Word t names n room v = refl
first_gathers signs.Number t names n room v = refl
first_gathers signs.Open t names n room v = refl
first_gathers _ t names n room v = refl

begins_first : (symbols : Bool) (n : ℕ) (r : Results n) (names : List (List ℕ)) (room : ℕ) → RestFits symbols places.FirstResult n r names room → Starts' symbols places.FirstResult n r names room
unfolding mark_sign spot_by gathered_with
begins_first symbols n (inl r) names room f =
    goes_on symbols (spot places.FirstResult names n room) (spot places.ResultsEnd names n room) (mark_at r.0 (codes ")")) _ _ refl r.1 tt refl (λ v. refl) (λ v. refl)
begins_first symbols n (inr r) names room f =
    let b = begins_operand symbols n r.0 r.1 r.2 r.3 names room f in (
      b.0,
      b.1,
      b.2,
      record {
        next = b.3.next;
        moves = first_same symbols (sign_of b.0) b.0.text names n room b.3.next b.3.moves;
        rest = b.3.rest;
        fits = b.3.fits;
        spelled = b.3.spelled;
        same = λ v. b.3.same v ∙ ap (λ (m : Result Gathered MapError). and_then m (rest_means b.3.next.place b.3.next.depth b.3.rest b.3.next.names)) (first_gathers (sign_of b.0) b.0 names n room v);
      },
    )

-- ---- everywhere

-- the map is whole, or what goes on begins with a token
abbrev pub IsWholeAt : Place → Type 0
IsWholeAt places.Whole = Unit {0}
IsWholeAt p = ⊥

pub begins : (symbols : Bool) (p : Place) (n : ℕ) (r : RestAt p n) (names : List (List ℕ)) (room : ℕ) → RestFits symbols p n r names room → IsWholeAt p ⊎ Starts' symbols p n r names room
begins symbols places.Keyword n r names room f = inr (begins_keyword symbols n r names room f)
begins symbols places.Less n r names room f = inr (begins_less symbols n r names room f)
begins symbols places.DimensionsOpen n r names room f = inr (begins_dimensions symbols n r names room f)
begins symbols places.FirstDimension n r names room f = inr (begins_first_dimension symbols n r.0 r.1 r.2 r.3 names room f)
begins symbols places.NextDimension n r names room f = inr (begins_next_dimension symbols n r names room f)
begins symbols places.DimensionBehind n r names room f = inr (begins_dimension_behind symbols n r.0 r.1 r.2 r.3 names room f)
begins symbols places.DimensionsEnd n r names room f = inr (begins_dimensions_end symbols n r.0 r.1 names room f)
begins symbols places.FirstSymbol n r names room f = inr (begins_first_symbol symbols n r.0 r.1 r.2 names room f)
begins symbols places.NextSymbol n r names room f = inr (begins_next_symbol symbols n r names room f)
begins symbols places.SymbolBehind n r names room f = inr (begins_symbol_behind symbols n r.0 r.1 r.2 names room f)
begins symbols places.SymbolsEnd n r names room f = inr (begins_symbols_end symbols n r names room f)
begins symbols places.ResultsOpen n r names room f = inr (begins_results_open symbols n r names room f)
begins symbols places.FirstResult n r names room f = inr (begins_first symbols n r names room f)
begins symbols places.Operand n r names room f = inr (begins_operand symbols n r.0 r.1 r.2 r.3 names room f)
begins symbols places.Operator n r names room f = inr (begins_operator symbols n r.0 r.1 r.2 names room f)
begins symbols places.ResultsEnd n r names room f = inr (begins_results_end symbols n r names room)
begins symbols places.Whole n r names room f = inl tt

whole_ends : (p : Place) (n : ℕ) (r : RestAt p n) → IsWholeAt p → rest_tokens p n r ≡ []
whole_ends places.Whole n r w = refl
whole_ends places.Keyword n r w = absurd w
whole_ends places.Less n r w = absurd w
whole_ends places.DimensionsOpen n r w = absurd w
whole_ends places.FirstDimension n r w = absurd w
whole_ends places.NextDimension n r w = absurd w
whole_ends places.DimensionBehind n r w = absurd w
whole_ends places.DimensionsEnd n r w = absurd w
whole_ends places.FirstSymbol n r w = absurd w
whole_ends places.NextSymbol n r w = absurd w
whole_ends places.SymbolBehind n r w = absurd w
whole_ends places.SymbolsEnd n r w = absurd w
whole_ends places.ResultsOpen n r w = absurd w
whole_ends places.FirstResult n r w = absurd w
whole_ends places.Operand n r w = absurd w
whole_ends places.Operator n r w = absurd w
whole_ends places.ResultsEnd n r w = absurd w

nil_cons : {A : Type 0} (xs : List A) (x : A) (ys : List A) → xs ≡ [] → xs ≡ x ∷ ys → ⊥
nil_cons xs x ys e f = absurd (cc (sym e ∙ f))

first_of : TokenShape → List TokenShape → TokenShape
first_of t [] = t
first_of t (u ∷ us) = u

others_of : List TokenShape → List TokenShape
others_of [] = []
others_of (u ∷ us) = us

onward_at : (symbols : Bool) (s : Spot) (t u : TokenShape) (ts us : List TokenShape) (means : Gathered → Result MapShape MapError) → u ∷ us ≡ t ∷ ts → Onward symbols s u us means → Onward symbols s t ts means
unfolding first_of others_of
onward_at symbols s t u ts us means e o =
    let head : u ≡ t = ap (first_of t) e in
    let tail : us ≡ ts = ap others_of e in
    subst (λ (x : TokenShape). Onward symbols s x ts means) head (subst (λ (xs : List TokenShape). Onward symbols s u xs means) tail o)

forward_by : (symbols : Bool) (p : Place) (names : List (List ℕ)) (n room : ℕ) (r : RestAt p n) (t : TokenShape) (ts : List TokenShape) → IsWholeAt p ⊎ Starts' symbols p n r names room → rest_tokens p n r ≡ t ∷ ts
    → Onward symbols (spot p names n room) t ts (rest_means p n r names)
forward_by symbols p names n room r t ts (inl w) e = absurd (nil_cons (rest_tokens p n r) t ts (whole_ends p n r w) e)
forward_by symbols p names n room r t ts (inr b) e = onward_at symbols (spot p names n room) t b.0 ts b.1 (rest_means p n r names) (sym b.2 ∙ e) b.3

-- where tokens go on from a spot, the reader moves with the first
pub forward : (symbols : Bool) (s : Spot) (r : RestAt s.place s.depth) (t : TokenShape) (ts : List TokenShape) → RestFits symbols s.place s.depth r s.names s.room → rest_tokens s.place s.depth r ≡ t ∷ ts
    → Onward symbols s t ts (rest_means s.place s.depth r s.names)
forward symbols s r t ts f e = forward_by symbols s.place s.names s.depth s.room r t ts (begins symbols s.place s.depth r s.names s.room f) e
