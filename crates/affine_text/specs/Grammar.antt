-- The text of a map as a tree, which keeps the place of each token (Affine manual, "Affine Expressions" and "Affine Maps").
use Rattle.std.specs.Prelude.{◌≡◌, ℕ, zero, suc, Bool, true, false, List, [], ◌∷◌, ◌++◌, codes, is_some, if◌then◌else◌, Option, Some, None}
use Rattle.std.specs.Str.{bytes_eq}
use Rattle.text_format.specs.declared.front.Kind.TheVariants as kinds
use Rattle.text_format.specs.Token.{TokenShape}

-- ---- expressions: sums of products of factors

mutual
  -- a name, a number, a factor behind a minus, or an expression in parentheses
  pub data Factor : Type 0 where
    Name : ℕ → List ℕ → Factor
    Number : ℕ → List ℕ → Factor
    Negative : ℕ → Factor → Factor
    Group : ℕ → Sum → ℕ → Factor

  -- the other factors of a product
  pub data Factors : Type 0 where
    NoFactor : Factors
    Times : ℕ → Factor → Factors → Factors

  -- the other products of a sum, each by its factors
  pub data Products : Type 0 where
    NoProduct : Products
    Plus : ℕ → Factor → Factors → Products → Products
    Minus : ℕ → Factor → Factors → Products → Products

  -- the factors of the first product, and the other products
  pub data Sum : Type 0 where
    Starts : Factor → Factors → Products → Sum

-- a token of the kind at a place
abbrev pub word_at : ℕ → List ℕ → TokenShape
word_at at text = record { kind = kinds.Word; start = at; text = text }

abbrev pub number_at : ℕ → List ℕ → TokenShape
number_at at text = record { kind = kinds.Number; start = at; text = text }

abbrev pub mark_at : ℕ → List ℕ → TokenShape
mark_at at text = record { kind = kinds.Mark; start = at; text = text }

-- the tokens that spell it, before others
unfoldable mutual
  pub factor_tokens : Factor → List TokenShape → List TokenShape
  factor_tokens (Name at text) rest = word_at at text ∷ rest
  factor_tokens (Number at digits) rest = number_at at digits ∷ rest
  factor_tokens (Negative at f) rest = mark_at at (codes "-") ∷ factor_tokens f rest
  factor_tokens (Group at s close) rest = mark_at at (codes "(") ∷ sum_tokens s (mark_at close (codes ")") ∷ rest)

  pub factors_tokens : Factors → List TokenShape → List TokenShape
  factors_tokens NoFactor rest = rest
  factors_tokens (Times at f fs) rest = mark_at at (codes "*") ∷ factor_tokens f (factors_tokens fs rest)

  pub products_tokens : Products → List TokenShape → List TokenShape
  products_tokens NoProduct rest = rest
  products_tokens (Plus at f fs ps) rest = mark_at at (codes "+") ∷ factor_tokens f (factors_tokens fs (products_tokens ps rest))
  products_tokens (Minus at f fs ps) rest = mark_at at (codes "-") ∷ factor_tokens f (factors_tokens fs (products_tokens ps rest))

  pub sum_tokens : Sum → List TokenShape → List TokenShape
  sum_tokens (Starts f fs ps) rest = factor_tokens f (factors_tokens fs (products_tokens ps rest))

-- the place of a factor's last token
unfoldable pub factor_end : Factor → ℕ
factor_end (Name at text) = at
factor_end (Number at digits) = at
factor_end (Negative at f) = factor_end f
factor_end (Group at s close) = close

-- the place of a product's last token, where that of its factors so far is known
unfoldable pub factors_end : Factors → ℕ → ℕ
factors_end NoFactor last = last
factors_end (Times at f fs) last = factors_end fs (factor_end f)

-- the number of the first of these names that is this one, where they are numbered from k on
abbrev pub number_from : ℕ → List (List ℕ) → List ℕ → Option ℕ
number_from k [] name = None
number_from k (n ∷ ns) name = if bytes_eq n name then Some k else number_from (suc k) ns name

-- the number of the dimension that has this name
unfoldable pub dimension_of : List (List ℕ) → List ℕ → Option ℕ
dimension_of names name = number_from 0 names name

abbrev pub is_declared : List (List ℕ) → List ℕ → Bool
is_declared names name = is_some (dimension_of names name)

-- its names are declared, and its parentheses nest at most so deep
unfoldable mutual
  pub FactorFits : Factor → List (List ℕ) → ℕ → Type 0
  FactorFits (Name at text) names room = is_declared names text ≡ true
  FactorFits (Number at digits) names room = Unit {0}
  FactorFits (Negative at f) names room = FactorFits f names room
  FactorFits (Group at s close) names zero = ⊥
  FactorFits (Group at s close) names (suc room) = SumFits s names room

  pub FactorsFit : Factors → List (List ℕ) → ℕ → Type 0
  FactorsFit NoFactor names room = Unit {0}
  FactorsFit (Times at f fs) names room = FactorFits f names room × FactorsFit fs names room

  pub ProductsFit : Products → List (List ℕ) → ℕ → Type 0
  ProductsFit NoProduct names room = Unit {0}
  ProductsFit (Plus at f fs ps) names room = FactorFits f names room × FactorsFit fs names room × ProductsFit ps names room
  ProductsFit (Minus at f fs ps) names room = FactorFits f names room × FactorsFit fs names room × ProductsFit ps names room

  pub SumFits : Sum → List (List ℕ) → ℕ → Type 0
  SumFits (Starts f fs ps) names room = FactorFits f names room × FactorsFit fs names room × ProductsFit ps names room

-- how deep parentheses may nest
abbrev pub deepest : ℕ
deepest = 64

-- ---- lists between commas

-- nothing, or a first item and others, each behind a comma
pub data Items (A : Type 0) : Type 0 where
  Empty : Items A
  From : A → List (ℕ × A) → Items A

-- a name where it is declared
pub record Declared : Type 0 where
  pub at : ℕ
  pub name : List ℕ

abbrev pub other_names_tokens : List (ℕ × Declared) → List TokenShape → List TokenShape
other_names_tokens [] rest = rest
other_names_tokens (d ∷ ds) rest = mark_at d.0 (codes ",") ∷ word_at d.1.at d.1.name ∷ other_names_tokens ds rest

abbrev pub names_tokens : Items Declared → List TokenShape → List TokenShape
names_tokens Empty rest = rest
names_tokens (From d ds) rest = word_at d.at d.name ∷ other_names_tokens ds rest

abbrev pub other_sums_tokens : List (ℕ × Sum) → List TokenShape → List TokenShape
other_sums_tokens [] rest = rest
other_sums_tokens (s ∷ ss) rest = mark_at s.0 (codes ",") ∷ sum_tokens s.1 (other_sums_tokens ss rest)

abbrev pub sums_tokens : Items Sum → List TokenShape → List TokenShape
sums_tokens Empty rest = rest
sums_tokens (From s ss) rest = sum_tokens s (other_sums_tokens ss rest)

-- ---- maps

-- the symbols between their brackets
pub record Symbols : Type 0 where
  pub opening : ℕ
  pub names : Items Declared
  pub close : ℕ

-- affine_map<(dimensions)[symbols] -> (results)>
pub record MapTree : Type 0 where
  pub keyword : ℕ
  pub less : ℕ
  pub open_dimensions : ℕ
  pub dimensions : Items Declared
  pub close_dimensions : ℕ
  pub symbols : Option Symbols
  pub arrow : ℕ
  pub open_results : ℕ
  pub results : Items Sum
  pub close_results : ℕ
  pub greater : ℕ

abbrev pub symbols_tokens : Option Symbols → List TokenShape → List TokenShape
symbols_tokens None rest = rest
symbols_tokens (Some s) rest = mark_at s.opening (codes "[") ∷ names_tokens s.names (mark_at s.close (codes "]") ∷ rest)

-- `-> (results)>`
abbrev pub results_tokens : ℕ → ℕ → Items Sum → ℕ → ℕ → List TokenShape
results_tokens arrow opening results close greater =
    mark_at arrow (codes "->") ∷ mark_at opening (codes "(") ∷ sums_tokens results (mark_at close (codes ")") ∷ mark_at greater (codes ">") ∷ [])

-- the tokens that spell the map
abbrev pub map_tokens : MapTree → List TokenShape
map_tokens x =
    word_at x.keyword (codes "affine_map") ∷ mark_at x.less (codes "<") ∷ mark_at x.open_dimensions (codes "(")
    ∷ names_tokens x.dimensions (mark_at x.close_dimensions (codes ")") ∷ symbols_tokens x.symbols (results_tokens x.arrow x.open_results x.results x.close_results x.greater))

-- the names with these behind them
abbrev pub with_others : List (List ℕ) → List (ℕ × Declared) → List (List ℕ)
with_others names [] = names
with_others names (d ∷ ds) = with_others (names ++ d.1.name ∷ []) ds

abbrev pub with_names : List (List ℕ) → Items Declared → List (List ℕ)
with_names names Empty = names
with_names names (From d ds) = with_others (names ++ d.name ∷ []) ds

-- the symbols become dimensions after the others
abbrev pub with_symbols : List (List ℕ) → Option Symbols → List (List ℕ)
with_symbols names None = names
with_symbols names (Some s) = with_names names s.names

abbrev pub names_in : MapTree → List (List ℕ)
names_in x = with_symbols (with_names [] x.dimensions) x.symbols

-- each name is none of those before it
abbrev pub IsNew : List (List ℕ) → Declared → Type 0
IsNew names d = is_declared names d.name ≡ false

abbrev pub OthersAreNew : List (List ℕ) → List (ℕ × Declared) → Type 0
OthersAreNew names [] = Unit {0}
OthersAreNew names (d ∷ ds) = IsNew names d.1 × OthersAreNew (names ++ d.1.name ∷ []) ds

abbrev pub AreNew : List (List ℕ) → Items Declared → Type 0
AreNew names Empty = Unit {0}
AreNew names (From d ds) = IsNew names d × OthersAreNew (names ++ d.name ∷ []) ds

-- symbols stand only where they are allowed
abbrev pub SymbolsFit : Bool → List (List ℕ) → Option Symbols → Type 0
SymbolsFit symbols names None = Unit {0}
SymbolsFit symbols names (Some s) = (symbols ≡ true) × AreNew names s.names

abbrev pub OtherSumsFit : List (ℕ × Sum) → List (List ℕ) → ℕ → Type 0
OtherSumsFit [] names room = Unit {0}
OtherSumsFit (s ∷ ss) names room = SumFits s.1 names room × OtherSumsFit ss names room

abbrev pub SumsFit : Items Sum → List (List ℕ) → ℕ → Type 0
SumsFit Empty names room = Unit {0}
SumsFit (From s ss) names room = SumFits s names room × OtherSumsFit ss names room

-- the tree is a map's: its names differ, and its results are expressions over them
pub record IsMapTree (symbols : Bool) (x : MapTree) : Type 0 where
  pub dimensions : AreNew [] x.dimensions
  pub symbols_fit : SymbolsFit symbols (with_names [] x.dimensions) x.symbols
  pub results : SumsFit x.results (names_in x) deepest
