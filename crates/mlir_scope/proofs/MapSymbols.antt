-- Whether a map has symbols is told by its tokens.
use Rattle.std.proofs.Common.{◌≡◌, ℕ, true, false, List, [], ◌∷◌, Option, Some, None, refl, ◌∙◌, codes}
use Rattle.text_format.specs.Token.{TokenShape}
use Rattle.affine_text.specs.Grammar.{Factor, Name, Number, Negative, Group, Factors, NoFactor, Times, Products, NoProduct, Plus, Minus, Sum, Starts, factor_tokens, factors_tokens, products_tokens, sum_tokens, Items, Empty, From, Declared, other_names_tokens, names_tokens, other_sums_tokens, sums_tokens, Symbols, symbols_tokens, results_tokens, MapTree, map_tokens, mark_at}
use Rattle.mlir_scope.specs.Maps.{symbols_behind, has_symbols, symbols_in}

mutual
  unfolding factor_tokens

  factor_passes : (f : Factor) (rest : List TokenShape) → symbols_behind false (factor_tokens f rest) ≡ symbols_behind false rest
  factor_passes (Name at text) rest = refl
  factor_passes (Number at digits) rest = refl
  factor_passes (Negative at f) rest = factor_passes f rest
  factor_passes (Group at s close) rest = sum_passes s (mark_at close (codes ")") ∷ rest)

  factors_pass : (fs : Factors) (rest : List TokenShape) → symbols_behind false (factors_tokens fs rest) ≡ symbols_behind false rest
  factors_pass NoFactor rest = refl
  factors_pass (Times at f fs) rest = factor_passes f (factors_tokens fs rest) ∙ factors_pass fs rest

  products_pass : (ps : Products) (rest : List TokenShape) → symbols_behind false (products_tokens ps rest) ≡ symbols_behind false rest
  products_pass NoProduct rest = refl
  products_pass (Plus at f fs ps) rest = factor_passes f (factors_tokens fs (products_tokens ps rest)) ∙ factors_pass fs (products_tokens ps rest) ∙ products_pass ps rest
  products_pass (Minus at f fs ps) rest = factor_passes f (factors_tokens fs (products_tokens ps rest)) ∙ factors_pass fs (products_tokens ps rest) ∙ products_pass ps rest

  sum_passes : (s : Sum) (rest : List TokenShape) → symbols_behind false (sum_tokens s rest) ≡ symbols_behind false rest
  sum_passes (Starts f fs ps) rest = factor_passes f (factors_tokens fs (products_tokens ps rest)) ∙ factors_pass fs (products_tokens ps rest) ∙ products_pass ps rest

other_names_pass : (ds : List (ℕ × Declared)) (rest : List TokenShape) → symbols_behind false (other_names_tokens ds rest) ≡ symbols_behind false rest
other_names_pass [] rest = refl
other_names_pass (d ∷ ds) rest = other_names_pass ds rest

names_pass : (ds : Items Declared) (rest : List TokenShape) → symbols_behind false (names_tokens ds rest) ≡ symbols_behind false rest
names_pass Empty rest = refl
names_pass (From d ds) rest = other_names_pass ds rest

other_sums_pass : (ss : List (ℕ × Sum)) (rest : List TokenShape) → symbols_behind false (other_sums_tokens ss rest) ≡ symbols_behind false rest
other_sums_pass [] rest = refl
other_sums_pass (s ∷ ss) rest = sum_passes s.1 (other_sums_tokens ss rest) ∙ other_sums_pass ss rest

sums_pass : (ss : Items Sum) (rest : List TokenShape) → symbols_behind false (sums_tokens ss rest) ≡ symbols_behind false rest
sums_pass Empty rest = refl
sums_pass (From s ss) rest = sum_passes s (other_sums_tokens ss rest) ∙ other_sums_pass ss rest

symbols_tell : (o : Option Symbols) (rest : List TokenShape) → symbols_behind false rest ≡ false → symbols_behind false (symbols_tokens o rest) ≡ symbols_in o
symbols_tell None rest h = h
symbols_tell (Some s) rest h = by s.names
  where
    by : (names : Items Declared) → symbols_behind true (names_tokens names (mark_at s.close (codes "]") ∷ rest)) ≡ symbols_in (Some (record { opening = s.opening; names = names; close = s.close }))
    by Empty = refl
    by (From d ds) = refl

pub symbols_told : (x : MapTree) → has_symbols (map_tokens x) ≡ symbols_in x.symbols
symbols_told x =
    names_pass x.dimensions _ ∙ symbols_tell x.symbols (results_tokens x.arrow x.open_results x.results x.close_results x.greater) (sums_pass x.results (mark_at x.close_results (codes ")") ∷ (mark_at x.greater (codes ">") ∷ [])))
