-- What a reader's spot and what it has gathered say of the tokens that it has read.
use Rattle.std.proofs.Common.{◌≡◌, ℕ, zero, Bool, true, false, List, [], ◌∷◌, ◌++◌, codes, length, Some, None, Result, Ok, Err, ◌⊎◌, refl, sym, ap, subst, ◌∙◌, inl, inr, append_assoc}
use Rattle.std.proofs.lemmas.List.{append-nil}
use Rattle.text_format.specs.Token.{TokenShape}
use Rattle.affine_maps.specs.Shape.{MapShape}
use Rattle.affine_text.specs.declared.reading.fault.MapError.{MapError}
use Rattle.affine_text.specs.declared.reading.fault.MapError.TheVariants.{BadText, Form, Range}
use Rattle.affine_text.specs.declared.reading.place.Place.{Place}
use Rattle.affine_text.specs.declared.reading.place.Place.TheVariants as places
use Rattle.affine_text.specs.Grammar.{Sum, Starts, Items, Empty, From, MapTree, IsMapTree, map_tokens, mark_at, word_at, names_tokens, symbols_tokens, names_in, SumsFit, sums_tokens, sum_tokens, factor_end, factors_end, deepest, with_symbols, with_names, SumFits}
use Rattle.affine_text.specs.Meaning.{and_then, factor_form, factors_form, products_form, product_of, sum_of, sum_form, results_form, other_results, meaning, one_form, zero_form}
use Rattle.affine_text.specs.Faults.{Begins, Spells, AllHave, is_division, TakesOperator, IsFormAt, FaultWithin, FaultBehind}
use Rattle.affine_text.specs.Reading.{Spot, Gathered, spot_behind, spot_by, sign_of, mark_sign, gathered_with, first_spot, nothing_gathered}
use Rattle.affine_text.proofs.GoesOn.{Results, RestAt, rest_tokens, RestFits, rest_means, closing_tokens, ClosingFits, closing_means, first_means, first_tokens, ResultsFit}
use Rattle.affine_text.proofs.Forward.{Onward, spot, forward, chain_four, then_same, IsWholeAt, begins}
use Rattle.affine_text.proofs.Backward.{GoesOn, backward}
use Rattle.affine_text.proofs.Probe.{probe, probe_fits, probe_fault, IsReadAt}

-- ---- a map's tree is what goes on from the first spot

results_of : Items Sum → ℕ → ℕ → Results zero
results_of Empty close greater = inl (close, greater)
results_of (From (Starts f fs ps) ss) close greater = inr (f, fs, ps, (ss, close, greater))

rest_of : MapTree → RestAt places.Keyword zero
rest_of x = (x.keyword, x.less, x.open_dimensions, x.dimensions, x.close_dimensions, x.symbols, (x.arrow, x.open_results, results_of x.results x.close_results x.greater))

same_tokens : (rs : Items Sum) (close greater : ℕ) → first_tokens zero (results_of rs close greater) ≡ sums_tokens rs (mark_at close (codes ")") ∷ mark_at greater (codes ">") ∷ [])
unfolding results_of sum_tokens closing_tokens
same_tokens Empty close greater = refl
same_tokens (From (Starts f fs ps) ss) close greater = refl

same_meaning : (rs : Items Sum) (close greater : ℕ) (names : List (List ℕ)) → first_means zero (results_of rs close greater) names nothing_gathered ≡ results_form rs names
unfolding results_of sum_form closing_means
same_meaning Empty close greater names = refl
same_meaning (From (Starts f fs ps) ss) close greater names =
    sym (chain_four (factor_form f names) (λ g. product_of (factor_end f) one_form g) (factors_form fs names) (λ q. sum_of false (factors_end fs (factor_end f)) zero_form q) (products_form ps names) (λ e. other_results ss names (e ∷ [])))

same_fits : (rs : Items Sum) (close greater : ℕ) (names : List (List ℕ)) → SumsFit rs names deepest → ResultsFit zero (results_of rs close greater) names deepest
unfolding results_of SumFits ClosingFits
same_fits Empty close greater names f = tt
same_fits (From (Starts g gs qs) ss) close greater names f = (f.0.0, f.0.1, f.0.2, f.1)

sums_of : Results zero → Items Sum
sums_of (inl r) = Empty
sums_of (inr r) = From (Starts r.0 r.1 r.2) r.3.0

close_of : Results zero → ℕ
close_of (inl r) = r.0
close_of (inr r) = r.3.1

greater_of : Results zero → ℕ
greater_of (inl r) = r.1
greater_of (inr r) = r.3.2

tree_of : RestAt places.Keyword zero → MapTree
tree_of r = record {
  keyword = r.0;
  less = r.1;
  open_dimensions = r.2;
  dimensions = r.3;
  close_dimensions = r.4;
  symbols = r.5;
  arrow = r.6.0;
  open_results = r.6.1;
  results = sums_of r.6.2;
  close_results = close_of r.6.2;
  greater = greater_of r.6.2;
}

back_again : (r : Results zero) → results_of (sums_of r) (close_of r) (greater_of r) ≡ r
unfolding results_of sums_of close_of greater_of
back_again (inl r) = refl
back_again (inr r) = refl

back_fits : (r : Results zero) (names : List (List ℕ)) → ResultsFit zero r names deepest → SumsFit (sums_of r) names deepest
unfolding sums_of SumFits ClosingFits
back_fits (inl r) names f = tt
back_fits (inr r) names f = ((f.0, f.1, f.2), f.3)

-- ---- what was read

-- Where these tokens are read: whatever goes on from the spot makes them a map's text; and whatever map's text begins with them
-- goes on from the spot, with its meaning.
pub record HasRead (symbols : Bool) (ts : List TokenShape) (s : Spot) (v : Gathered) : Type 0 where
  pub back : (after : List TokenShape) → GoesOn symbols s after → (x : MapTree) × IsMapTree symbols x × (map_tokens x ≡ ts ++ after)
  pub on : (x : MapTree) (after : List TokenShape) → IsMapTree symbols x → map_tokens x ≡ ts ++ after
      → (r : RestAt s.place s.depth) × RestFits symbols s.place s.depth r s.names s.room × (rest_tokens s.place s.depth r ≡ after) × (meaning x ≡ rest_means s.place s.depth r s.names v)

rest_spelled : (x : MapTree) → rest_tokens places.Keyword zero (rest_of x) ≡ map_tokens x
unfolding rest_of
rest_spelled x =
    ap (λ (ts : List TokenShape). word_at x.keyword (codes "affine_map") ∷ mark_at x.less (codes "<") ∷ mark_at x.open_dimensions (codes "(")
    ∷ names_tokens x.dimensions (mark_at x.close_dimensions (codes ")") ∷ symbols_tokens x.symbols (mark_at x.arrow (codes "->") ∷ mark_at x.open_results (codes "(") ∷ ts)))
    (same_tokens x.results x.close_results x.greater)

tree_spelled : (r : RestAt places.Keyword zero) → map_tokens (tree_of r) ≡ rest_tokens places.Keyword zero r
unfolding tree_of rest_of
tree_spelled r =
    sym (rest_spelled (tree_of r)) ∙ ap (λ (q : Results zero). rest_tokens places.Keyword zero (r.0, r.1, r.2, r.3, r.4, r.5, (r.6.0, r.6.1, q))) (back_again r.6.2)

pub first_read : (symbols : Bool) → HasRead symbols [] first_spot nothing_gathered
unfolding rest_of tree_of
first_read symbols = record {
  back = λ after g. (
    tree_of g.0,
    record { dimensions = g.1.0; symbols_fit = g.1.1.0; results = back_fits g.0.6.2 (with_symbols (with_names [] g.0.3) g.0.5) g.1.1.1 },
    tree_spelled g.0 ∙ g.2,
  );
  on = λ x after is e. (
    rest_of x,
    (is.dimensions, (is.symbols_fit, same_fits x.results x.close_results x.greater (names_in x) is.results)),
    rest_spelled x ∙ e,
    sym (same_meaning x.results x.close_results x.greater (names_in x)),
  );
}

-- ---- one token more

pub record Onto (symbols : Bool) (t : TokenShape) (s next : Spot) (ts : List TokenShape) (means : Gathered → Result MapShape MapError) : Type 0 where
  pub rest : RestAt next.place next.depth
  pub fits : RestFits symbols next.place next.depth rest next.names next.room
  pub spelled : rest_tokens next.place next.depth rest ≡ ts
  pub same : (v : Gathered) → means v ≡ and_then (gathered_with s t v) (rest_means next.place next.depth rest next.names)

some_same : {A : Type 0} (a b : A) → Some a ≡ Some b → a ≡ b
some_same a b e = cc

onto : (symbols : Bool) (t : TokenShape) (s next : Spot) (ts : List TokenShape) (means : Gathered → Result MapShape MapError) → Onward symbols s t ts means → spot_behind symbols s t ≡ Some next → Onto symbols t s next ts means
onto symbols t s next ts means o e =
    let same : o.next ≡ next = some_same o.next next (sym o.moves ∙ e) in
    subst (λ (n : Spot). Onto symbols t s n ts means) same (record { rest = o.rest; fits = o.fits; spelled = o.spelled; same = o.same })

longer : (ts : List TokenShape) (t : TokenShape) (after : List TokenShape) → (ts ++ t ∷ []) ++ after ≡ ts ++ t ∷ after
longer ts t after = append_assoc ts (t ∷ []) after

-- every map's text that goes on with the token goes on behind it
onwards : (symbols : Bool) (ts : List TokenShape) (s next : Spot) (v : Gathered) (t : TokenShape) → HasRead symbols ts s v → spot_behind symbols s t ≡ Some next
    → (x : MapTree) (after : List TokenShape) → IsMapTree symbols x → map_tokens x ≡ (ts ++ t ∷ []) ++ after
    → (r : RestAt next.place next.depth) × RestFits symbols next.place next.depth r next.names next.room × (rest_tokens next.place next.depth r ≡ after) × (meaning x ≡ and_then (gathered_with s t v) (rest_means next.place next.depth r next.names))
onwards symbols ts s next v t h e x after is f =
    let g = h.on x (t ∷ after) is (f ∙ longer ts t after) in
    let o = onto symbols t s next after (rest_means s.place s.depth g.0 s.names) (forward symbols s g.0 t after g.1 g.2) e in
    (o.rest, o.fits, o.spelled, g.3 ∙ o.same v)

backwards : (symbols : Bool) (ts : List TokenShape) (s next : Spot) (v : Gathered) (t : TokenShape) → HasRead symbols ts s v → spot_behind symbols s t ≡ Some next
    → (after : List TokenShape) → GoesOn symbols next after → (x : MapTree) × IsMapTree symbols x × (map_tokens x ≡ (ts ++ t ∷ []) ++ after)
backwards symbols ts s next v t h e after g =
    let b = backward symbols s t next e g.0 g.1 in
    let x = h.back (t ∷ after) (b.0, b.1, b.2 ∙ ap (λ (us : List TokenShape). t ∷ us) g.2) in
    (x.0, x.1, x.2 ∙ sym (longer ts t after))

-- the token was read
pub reads_on : (symbols : Bool) (ts : List TokenShape) (s next : Spot) (v w : Gathered) (t : TokenShape) → HasRead symbols ts s v → spot_behind symbols s t ≡ Some next → gathered_with s t v ≡ Ok w → HasRead symbols (ts ++ t ∷ []) next w
reads_on symbols ts s next v w t h e g = record {
  back = backwards symbols ts s next v t h e;
  on = λ x after is f.
      let o = onwards symbols ts s next v t h e x after is f in
      (o.0, o.1, o.2, o.3 ∙ ap (λ (m : Result Gathered MapError). and_then m (rest_means next.place next.depth o.0 next.names)) g);
}

-- ---- faults

some_text : (symbols : Bool) (ts : List TokenShape) (s : Spot) (v : Gathered) (at : ℕ) → HasRead symbols ts s v → Begins symbols ts
some_text symbols ts s v at h =
    let x = h.back (rest_tokens s.place s.depth (probe s.place s.depth at s.names)) (probe s.place s.depth at s.names, probe_fits symbols s.place s.depth at s.names s.room, refl) in
    (x.0, rest_tokens s.place s.depth (probe s.place s.depth at s.names), x.1, x.2)

-- a token with which the text goes on shows a fault
pub fault_within : (symbols : Bool) (ts : List TokenShape) (s next : Spot) (v : Gathered) (t : TokenShape) (fault : MapError) → HasRead symbols ts s v → spot_behind symbols s t ≡ Some next → gathered_with s t v ≡ Err fault
    → FaultWithin symbols (ts ++ t ∷ []) fault
fault_within symbols ts s next v t fault h e g =
    let after = rest_tokens next.place next.depth (probe next.place next.depth 0 next.names) in
    let x = backwards symbols ts s next v t h e after (probe next.place next.depth 0 next.names, probe_fits symbols next.place next.depth 0 next.names next.room, refl) in (
      (x.0, after, x.1, x.2),
      λ y rest is f.
          let o = onwards symbols ts s next v t h e y rest is f in
          o.3 ∙ ap (λ (m : Result Gathered MapError). and_then m (rest_means next.place next.depth o.0 next.names)) g,
    )

-- with a token behind which the reader doesn't move no text goes on
pub none_with : (symbols : Bool) (ts : List TokenShape) (s : Spot) (v : Gathered) (t : TokenShape) → HasRead symbols ts s v → spot_behind symbols s t ≡ None → Begins symbols (ts ++ t ∷ []) → ⊥
none_with symbols ts s v t h e b =
    let g = h.on b.0 (t ∷ b.1) b.2 (b.3 ∙ longer ts t b.1) in
    let o = forward symbols s g.0 t b.1 g.1 g.2 in
    absurd (cc (sym e ∙ o.moves))

-- the reader is not behind the map
abbrev pub IsWithin : Place → Type 0
IsWithin places.Whole = ⊥
IsWithin p = Unit {0}

-- the reader stands behind a factor
abbrev pub IsBehind : Place → Type 0
IsBehind places.Operator = Unit {0}
IsBehind p = ⊥

behind_or_not : (p : Place) → IsBehind p ⊎ (IsBehind p → ⊥)
behind_or_not places.Operator = inl tt
behind_or_not places.Keyword = inr (λ x. x)
behind_or_not places.Less = inr (λ x. x)
behind_or_not places.DimensionsOpen = inr (λ x. x)
behind_or_not places.FirstDimension = inr (λ x. x)
behind_or_not places.NextDimension = inr (λ x. x)
behind_or_not places.DimensionBehind = inr (λ x. x)
behind_or_not places.DimensionsEnd = inr (λ x. x)
behind_or_not places.FirstSymbol = inr (λ x. x)
behind_or_not places.NextSymbol = inr (λ x. x)
behind_or_not places.SymbolBehind = inr (λ x. x)
behind_or_not places.SymbolsEnd = inr (λ x. x)
behind_or_not places.ResultsOpen = inr (λ x. x)
behind_or_not places.FirstResult = inr (λ x. x)
behind_or_not places.Operand = inr (λ x. x)
behind_or_not places.ResultsEnd = inr (λ x. x)
behind_or_not places.Whole = inr (λ x. x)

not_whole : (p : Place) → IsWithin p → IsWholeAt p → ⊥
not_whole places.Whole i w = i
not_whole places.Keyword i w = w
not_whole places.Less i w = w
not_whole places.DimensionsOpen i w = w
not_whole places.FirstDimension i w = w
not_whole places.NextDimension i w = w
not_whole places.DimensionBehind i w = w
not_whole places.DimensionsEnd i w = w
not_whole places.FirstSymbol i w = w
not_whole places.NextSymbol i w = w
not_whole places.SymbolBehind i w = w
not_whole places.SymbolsEnd i w = w
not_whole places.ResultsOpen i w = w
not_whole places.FirstResult i w = w
not_whole places.Operand i w = w
not_whole places.Operator i w = w
not_whole places.ResultsEnd i w = w

not_spelled : (symbols : Bool) (ts : List TokenShape) (s : Spot) (v : Gathered) → HasRead symbols ts s v → IsWithin s.place → Spells symbols ts → ⊥
not_spelled symbols ts s v h i x =
    let g = h.on x.0 [] x.1 (x.2 ∙ sym (append-nil ts)) in
    elim (begins symbols s.place s.depth g.0 s.names s.room g.1) [
      | inl w ↦ not_whole s.place i w
      | inr b ↦ absurd (cc (sym g.2 ∙ b.2))
    ]

whole_means : (p : Place) (n : ℕ) (r q : RestAt p n) (names : List (List ℕ)) (v : Gathered) → IsWholeAt p → rest_means p n r names v ≡ rest_means p n q names v
whole_means places.Whole n r q names v w = refl
whole_means places.Keyword n r q names v w = absurd w
whole_means places.Less n r q names v w = absurd w
whole_means places.DimensionsOpen n r q names v w = absurd w
whole_means places.FirstDimension n r q names v w = absurd w
whole_means places.NextDimension n r q names v w = absurd w
whole_means places.DimensionBehind n r q names v w = absurd w
whole_means places.DimensionsEnd n r q names v w = absurd w
whole_means places.FirstSymbol n r q names v w = absurd w
whole_means places.NextSymbol n r q names v w = absurd w
whole_means places.SymbolBehind n r q names v w = absurd w
whole_means places.SymbolsEnd n r q names v w = absurd w
whole_means places.ResultsOpen n r q names v w = absurd w
whole_means places.FirstResult n r q names v w = absurd w
whole_means places.Operand n r q names v w = absurd w
whole_means places.Operator n r q names v w = absurd w
whole_means places.ResultsEnd n r q names v w = absurd w

-- tokens have one meaning
one_meaning : (symbols : Bool) (ts : List TokenShape) (s : Spot) (r q : RestAt s.place s.depth) → RestFits symbols s.place s.depth r s.names s.room → RestFits symbols s.place s.depth q s.names s.room
    → rest_tokens s.place s.depth r ≡ ts → rest_tokens s.place s.depth q ≡ ts → (v : Gathered) → rest_means s.place s.depth r s.names v ≡ rest_means s.place s.depth q s.names v
one_meaning symbols [] s r q f g d e v =
    elim (begins symbols s.place s.depth r s.names s.room f) [
      | inl w ↦ whole_means s.place s.depth r q s.names v w
      | inr b ↦ absurd (cc (sym d ∙ b.2))
    ]
one_meaning symbols (t ∷ ts) s r q f g d e v =
    let o = forward symbols s r t ts f d in
    let p = onto symbols t s o.next ts (rest_means s.place s.depth q s.names) (forward symbols s q t ts g e) o.moves in
    o.same v
    ∙ then_same (gathered_with s t v) (rest_means o.next.place o.next.depth o.rest o.next.names) (rest_means o.next.place o.next.depth p.rest o.next.names) (λ w. one_meaning symbols ts o.next o.rest p.rest o.fits p.fits o.spelled p.spelled w)
    ∙ sym (p.same v)

-- what goes on from the spot makes a map's text of this meaning
pub text_with : (symbols : Bool) (ts : List TokenShape) (s : Spot) (v : Gathered) → HasRead symbols ts s v → (r : RestAt s.place s.depth) → RestFits symbols s.place s.depth r s.names s.room
    → (x : MapTree) × IsMapTree symbols x × (map_tokens x ≡ ts ++ rest_tokens s.place s.depth r) × (meaning x ≡ rest_means s.place s.depth r s.names v)
text_with symbols ts s v h r f =
    let x = h.back (rest_tokens s.place s.depth r) (r, f, refl) in
    let g = h.on x.0 (rest_tokens s.place s.depth r) x.1 x.2 in
    (x.0, x.1, x.2, g.3 ∙ one_meaning symbols (rest_tokens s.place s.depth r) s g.0 r g.1 f g.2 refl v)

read_means : (p : Place) (n : ℕ) (r : RestAt p n) (names : List (List ℕ)) (v : Gathered) → IsReadAt p → rest_means p n r names v ≡ Ok (record { dims = length names; results = v.results })
read_means places.ResultsEnd n r names v i = refl
read_means places.Whole n r names v i = refl
read_means places.Keyword n r names v i = absurd i
read_means places.Less n r names v i = absurd i
read_means places.DimensionsOpen n r names v i = absurd i
read_means places.FirstDimension n r names v i = absurd i
read_means places.NextDimension n r names v i = absurd i
read_means places.DimensionBehind n r names v i = absurd i
read_means places.DimensionsEnd n r names v i = absurd i
read_means places.FirstSymbol n r names v i = absurd i
read_means places.NextSymbol n r names v i = absurd i
read_means places.SymbolBehind n r names v i = absurd i
read_means places.SymbolsEnd n r names v i = absurd i
read_means places.ResultsOpen n r names v i = absurd i
read_means places.FirstResult n r names v i = absurd i
read_means places.Operand n r names v i = absurd i
read_means places.Operator n r names v i = absurd i

err_same : (m : Result MapShape MapError) (a b : MapError) → m ≡ Err a → m ≡ Err b → a ≡ b
err_same m a b e f = cc

-- a fault that all texts have is that of the probe
probed : (symbols : Bool) (ts : List TokenShape) (s : Spot) (v : Gathered) (at : ℕ) (other : MapError) → HasRead symbols ts s v → AllHave symbols ts other → other ≡ Range at
probed symbols ts s v at other h a =
    let r = probe s.place s.depth at s.names in
    let x = text_with symbols ts s v h r (probe_fits symbols s.place s.depth at s.names s.room) in
    let e : rest_means s.place s.depth r s.names v ≡ Err other = sym x.3 ∙ a x.0 (rest_tokens s.place s.depth r) x.1 x.2 in
    elim (probe_fault s.place s.depth at s.names v) [
      | inl i ↦ absurd (cc (sym e ∙ read_means s.place s.depth r s.names v i))
      | inr f ↦ err_same (rest_means s.place s.depth r s.names v) other (Range at) e f
    ]

no_fault : (symbols : Bool) (ts : List TokenShape) (s : Spot) (v : Gathered) (other : MapError) → HasRead symbols ts s v → AllHave symbols ts other → ⊥
no_fault symbols ts s v other h a = absurd (cc (sym (probed symbols ts s v 0 other h a) ∙ probed symbols ts s v 1 other h a))

-- the tokens end here
pub fault_at_end : (symbols : Bool) (ts : List TokenShape) (s : Spot) (v : Gathered) (end : ℕ) → HasRead symbols ts s v → IsWithin s.place → FaultBehind symbols ts [] end (BadText end)
fault_at_end symbols ts s v end h i = (some_text symbols ts s v 0 h, not_spelled symbols ts s v h i, λ other a. no_fault symbols ts s v other h a, refl)

-- an operator may stand only behind a factor
star_by : (symbols : Bool) (p : Place) (names : List (List ℕ)) (n room : ℕ) (at : ℕ) → (IsBehind p → ⊥) → spot_by symbols p (sign_of (mark_at at (codes "*"))) (codes "*") (spot p names n room) ≡ None
unfolding spot_by mark_sign
star_by symbols places.Operator names n room at i = absurd (i tt)
star_by symbols places.Keyword names n room at i = refl
star_by symbols places.Less names n room at i = refl
star_by symbols places.DimensionsOpen names n room at i = refl
star_by symbols places.FirstDimension names n room at i = refl
star_by symbols places.NextDimension names n room at i = refl
star_by symbols places.DimensionBehind names n room at i = refl
star_by symbols places.DimensionsEnd names n room at i = refl
star_by symbols places.FirstSymbol names n room at i = refl
star_by symbols places.NextSymbol names n room at i = refl
star_by symbols places.SymbolBehind names n room at i = refl
star_by symbols places.SymbolsEnd names n room at i = refl
star_by symbols places.ResultsOpen names n room at i = refl
star_by symbols places.FirstResult names n room at i = refl
star_by symbols places.Operand names n room at i = refl
star_by symbols places.ResultsEnd names n room at i = refl
star_by symbols places.Whole names n room at i = refl

no_operator : (symbols : Bool) (ts : List TokenShape) (s : Spot) (v : Gathered) (at : ℕ) → HasRead symbols ts s v → (IsBehind s.place → ⊥) → TakesOperator symbols ts at → ⊥
no_operator symbols ts s v at h i b = none_with symbols ts s v (mark_at at (codes "*")) h (star_by symbols s.place s.names s.depth s.room at i) b

an_operator : (symbols : Bool) (ts : List TokenShape) (names : List (List ℕ)) (n room : ℕ) (v : Gathered) (at : ℕ) → HasRead symbols ts (spot places.Operator names n room) v → TakesOperator symbols ts at
unfolding spot_by mark_sign
an_operator symbols ts names n room v at h =
    let next = spot places.Operand names n room in
    let after = rest_tokens places.Operand n (probe places.Operand n 0 names) in
    let x = backwards symbols ts (spot places.Operator names n room) next v (mark_at at (codes "*")) h refl after (probe places.Operand n 0 names, probe_fits symbols places.Operand n 0 names room, refl) in
    (x.0, after, x.1, x.2)

stops_with : (symbols : Bool) (ts after : List TokenShape) (s : Spot) (v : Gathered) (t : TokenShape) (end : ℕ) (fault : MapError) → HasRead symbols ts s v → IsWithin s.place → spot_behind symbols s t ≡ None
    → (IsFormAt symbols ts t × (fault ≡ Form t.start)) ⊎ ((IsFormAt symbols ts t → ⊥) × (fault ≡ BadText t.start)) → FaultBehind symbols ts (t ∷ after) end fault
stops_with symbols ts after s v t end fault h i e f =
    (some_text symbols ts s v 0 h, not_spelled symbols ts s v h i, λ other a. no_fault symbols ts s v other h a, (none_with symbols ts s v t h e, f))

-- a token with which no text goes on
pub bad_token : (symbols : Bool) (ts after : List TokenShape) (s : Spot) (v : Gathered) (t : TokenShape) (end : ℕ) → HasRead symbols ts s v → IsWithin s.place → spot_behind symbols s t ≡ None
    → (IsBehind s.place → is_division t ≡ false) → FaultBehind symbols ts (t ∷ after) end (BadText t.start)
bad_token symbols ts after s v t end h i e d =
    stops_with symbols ts after s v t end (BadText t.start) h i e (inr (
      λ f. elim (behind_or_not s.place) [
        | inl b ↦ absurd (cc (sym f.0 ∙ d b))
        | inr n ↦ no_operator symbols ts s v t.start h n f.1
      ],
      refl,
    ))

pub bad_operator : (symbols : Bool) (ts after : List TokenShape) (names : List (List ℕ)) (n room : ℕ) (v : Gathered) (t : TokenShape) (end : ℕ) → HasRead symbols ts (spot places.Operator names n room) v
    → spot_behind symbols (spot places.Operator names n room) t ≡ None → is_division t ≡ true → FaultBehind symbols ts (t ∷ after) end (Form t.start)
bad_operator symbols ts after names n room v t end h e d =
    stops_with symbols ts after (spot places.Operator names n room) v t end (Form t.start) h tt e (inl ((d, an_operator symbols ts names n room v t.start h), refl))

-- behind its last token the map is read
pub whole_text : (symbols : Bool) (ts : List TokenShape) (names : List (List ℕ)) (n room : ℕ) (v : Gathered) → HasRead symbols ts (spot places.Whole names n room) v
    → (x : MapTree) × IsMapTree symbols x × (map_tokens x ≡ ts) × (meaning x ≡ Ok (record { dims = length names; results = v.results }))
whole_text symbols ts names n room v h =
    let x = text_with symbols ts (spot places.Whole names n room) v h tt tt in
    (x.0, x.1, x.2 ∙ append-nil ts, x.3)
