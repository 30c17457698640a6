-- The canonical tree of a map is a map's tree.
use Rattle.std.proofs.Common.{◌<◌, ℕ, suc, ◌+◌, ◌==◌, Bool, true, false, cond, ℤ, pos, negsuc, List, [], ◌∷◌, map, unsigned_abs, sym, ap, subst}
use Rattle.std.specs.Prelude.{is_some}
use Rattle.std.specs.List.{AllByRecursion}
use Rattle.text_format.specs.declared.class.Class.{Class}
use Rattle.affine_maps.specs.Shape.{MapShape}
use Rattle.affine_maps.specs.declared.map.Expr.{Expr}
use Rattle.affine_maps.specs.Map.{IsMap}
use Rattle.affine_text.specs.Grammar.{Factor, Products, IsMapTree, FactorFits, FactorsFit, ProductsFit, SumFits, OtherSumsFit, SumsFit, deepest}
use Rattle.affine_text.specs.Text.{is_one, is_minus_one}
use Rattle.affine_text.specs.Canonical.{Writer, behind, Product, negative, dimension, number, signed_number, times, first_term, multiple, joined, later_terms, no_product, alone, expression_by, expression, others, dimensions, results, map_tree}
use Rattle.affine_text.proofs.MapRule.{AreTerms, IsOver, results_over}
use Rattle.affine_text.proofs.CanonicalNames.{AreNumbered, numbered, names_to, dimensions_new, dimensions_named}

-- wherever it begins, the tree's names are these
record Fits {A : Type 0} (Fit : A → Type 0) (w : Writer A) : Type 0 where
  law : (at : ℕ) → Fit (w.tree at)

abbrev FactorIn : List (List ℕ) → ℕ → Factor → Type 0
FactorIn names room f = FactorFits f names room

abbrev ProductIn : List (List ℕ) → ℕ → Product → Type 0
ProductIn names room p = FactorFits p.0 names room × FactorsFit p.1 names room

abbrev ProductsIn : List (List ℕ) → ℕ → Products → Type 0
ProductsIn names room ps = ProductsFit ps names room

dimension_fits : (c : Class) (dims k room : ℕ) (names : List (List ℕ)) → AreNumbered dims names → k < dims → Fits (FactorIn names room) (dimension c k)
unfolding FactorFits
dimension_fits c dims k room names n h = record { law = λ at. ap is_some (n k h) }

number_fits : (c : Class) (n room : ℕ) (names : List (List ℕ)) → Fits (FactorIn names room) (number c n)
unfolding FactorFits
number_fits c n room names = record { law = λ at. tt }

negative_fits : (c : Class) (f : Writer Factor) (room : ℕ) (names : List (List ℕ)) → Fits (FactorIn names room) f → Fits (FactorIn names room) (negative c f)
unfolding FactorFits
negative_fits c f room names h = record { law = λ at. h.law (at + 1) }

signed_fits : (c : Class) (z : ℤ) (room : ℕ) (names : List (List ℕ)) → Fits (FactorIn names room) (signed_number c z)
signed_fits c (pos n) room names = number_fits c n room names
signed_fits c (negsuc n) room names = negative_fits c (number c (suc n)) room names (number_fits c (suc n) room names)

alone_fits : (f : Writer Factor) (room : ℕ) (names : List (List ℕ)) → Fits (FactorIn names room) f → Fits (ProductIn names room) (alone f)
unfolding FactorFits
alone_fits f room names h = record { law = λ at. (h.law at, tt) }

times_fits : (c : Class) (f g : Writer Factor) (room : ℕ) (names : List (List ℕ)) → Fits (FactorIn names room) f → Fits (FactorIn names room) g → Fits (ProductIn names room) (times c f g)
unfolding FactorFits
times_fits c f g room names h k = record { law = λ at. (h.law at, (k.law (behind f at + 1 + 1 + 1), tt)) }

first_by : (c : Class) (dims k room : ℕ) (z : ℤ) (names : List (List ℕ)) (one minus : Bool) → AreNumbered dims names → k < dims
    → Fits (ProductIn names room) (cond one (alone (dimension c k)) (cond minus (alone (negative c (dimension c k))) (times c (dimension c k) (signed_number c z))))
first_by c dims k room z names true minus n h = alone_fits (dimension c k) room names (dimension_fits c dims k room names n h)
first_by c dims k room z names false true n h = alone_fits (negative c (dimension c k)) room names (negative_fits c (dimension c k) room names (dimension_fits c dims k room names n h))
first_by c dims k room z names false false n h = times_fits c (dimension c k) (signed_number c z) room names (dimension_fits c dims k room names n h) (signed_fits c z room names)

multiple_by : (c : Class) (dims k m room : ℕ) (names : List (List ℕ)) (one : Bool) → AreNumbered dims names → k < dims → Fits (ProductIn names room) (cond one (alone (dimension c k)) (times c (dimension c k) (number c m)))
multiple_by c dims k m room names true n h = alone_fits (dimension c k) room names (dimension_fits c dims k room names n h)
multiple_by c dims k m room names false n h = times_fits c (dimension c k) (number c m) room names (dimension_fits c dims k room names n h) (number_fits c m room names)

no_product_fits : (room : ℕ) (names : List (List ℕ)) → Fits (ProductsIn names room) no_product
unfolding FactorFits
no_product_fits room names = record { law = λ at. tt }

joined_fits : (c : Class) (z : ℤ) (p : Writer Product) (ps : Writer Products) (room : ℕ) (names : List (List ℕ)) → Fits (ProductIn names room) p → Fits (ProductsIn names room) ps → Fits (ProductsIn names room) (joined c z p ps)
unfolding FactorFits
joined_fits c (pos n) p ps room names h k = record { law = λ at. let q = h.law (at + 1 + 1 + 1) in (q.0, q.1, k.law (behind p (at + 1 + 1 + 1))) }
joined_fits c (negsuc n) p ps room names h k = record { law = λ at. let q = h.law (at + 1 + 1 + 1) in (q.0, q.1, k.law (behind p (at + 1 + 1 + 1))) }

constant_by : (c : Class) (z : ℤ) (room : ℕ) (names : List (List ℕ)) (none : Bool) → Fits (ProductsIn names room) (cond none no_product (joined c z (alone (number c (unsigned_abs z))) no_product))
constant_by c z room names true = no_product_fits room names
constant_by c z room names false =
    joined_fits c z (alone (number c (unsigned_abs z))) no_product room names (alone_fits (number c (unsigned_abs z)) room names (number_fits c (unsigned_abs z) room names)) (no_product_fits room names)

later_fit : (c : Class) (dims room : ℕ) (ts : List (ℕ × ℤ)) (z : ℤ) (names : List (List ℕ)) → AreNumbered dims names → AreTerms dims ts → Fits (ProductsIn names room) (later_terms c ts z)
later_fit c dims room [] z names n a = constant_by c z room names (unsigned_abs z == 0)
later_fit c dims room (t ∷ ts) z names n a =
    joined_fits c t.1 (multiple c t.0 (unsigned_abs t.1)) (later_terms c ts z) room names (multiple_by c dims t.0 (unsigned_abs t.1) room names (unsigned_abs t.1 == 1) n a.0.below) (later_fit c dims room ts z names n a.1)

expression_by_fits : (c : Class) (dims room at : ℕ) (ts : List (ℕ × ℤ)) (z : ℤ) (names : List (List ℕ)) → AreNumbered dims names → AreTerms dims ts → SumFits ((expression_by c ts z).tree at) names room
unfolding FactorFits
expression_by_fits c dims room at [] z names n a = let p = (alone_fits (signed_number c z) room names (signed_fits c z room names)).law at in (p.0, p.1, tt)
expression_by_fits c dims room at (t ∷ ts) z names n a =
    let p = (first_by c dims t.0 room t.1 names (is_one t.1) (is_minus_one t.1) n a.0.below).law at in
    (p.0, p.1, (later_fit c dims room ts z names n a.1).law (behind (first_term c t) at))

others_fit : (c : Class) (dims room at : ℕ) (es : List Expr) (names : List (List ℕ)) → AreNumbered dims names → AllByRecursion (IsOver dims) es → OtherSumsFit ((others (map (expression c) es)).tree at) names room
others_fit c dims room at [] names n h = tt
others_fit c dims room at (e ∷ es) names n h =
    (expression_by_fits c dims room (at + 1 + 1) e.terms e.constant names n h.0.terms, others_fit c dims room (behind (expression c e) (at + 1 + 1)) es names n h.1)

results_fit : (c : Class) (dims room at : ℕ) (es : List Expr) (names : List (List ℕ)) → AreNumbered dims names → AllByRecursion (IsOver dims) es → SumsFit ((results c es).tree at) names room
unfolding results
results_fit c dims room at [] names n h = tt
results_fit c dims room at (e ∷ es) names n h = (expression_by_fits c dims room at e.terms e.constant names n h.0.terms, others_fit c dims room (behind (expression c e) at) es names n h.1)

-- its names differ, and its results are expressions over them
pub map_fits : (c : Class) (at : ℕ) (m : MapShape) (symbols : Bool) → IsMap m → IsMapTree symbols (map_tree c at m)
unfolding map_tree
map_fits c at m symbols i = record {
  dimensions = dimensions_new c m.dims (at + 10 + 1 + 1);
  symbols_fit = tt;
  results =
      let sums = behind (dimensions c m.dims) (at + 10 + 1 + 1) + 1 + 1 + 2 + 1 + 1 in
      subst (λ (names : List (List ℕ)). SumsFit ((results c m.results).tree sums) names deepest) (sym (dimensions_named c m.dims (at + 10 + 1 + 1)))
      (results_fit c m.dims deepest sums m.results (names_to m.dims) (numbered m.dims) (results_over m.dims m.results i));
}
