-- The canonical tree is spelled by the tokens of its pieces.
use Rattle.std.proofs.Common.{◌≡◌, ℕ, zero, suc, ◌+◌, ◌==◌, Bool, true, false, cond, ℤ, pos, negsuc, List, [], ◌∷◌, ◌++◌, map, length, unsigned_abs, codes, refl, sym, ap, ◌∙◌, append_assoc, arith, length-append}
use Rattle.text_format.specs.declared.class.Class.{Class}
use Rattle.text_format.specs.declared.lexeme.Lexeme.TheVariants as lexemes
use Rattle.text_format.specs.Lexemes.{lexeme_kind, lexeme_text}
use Rattle.text_format.specs.Token.{TokenShape}
use Rattle.text_format.specs.Pieces.{Piece, Gap, Fixed, Leaf, bytes_of, shapes_at}
use Rattle.affine_maps.specs.Shape.{MapShape}
use Rattle.affine_maps.specs.declared.map.Expr.{Expr}
use Rattle.affine_text.specs.Grammar.{Factor, Products, mark_at, word_at, factor_tokens, factors_tokens, products_tokens, sum_tokens, other_names_tokens, names_tokens, other_sums_tokens, sums_tokens, map_tokens}
use Rattle.affine_text.specs.Text.{dimension_text, is_one, is_minus_one}
use Rattle.affine_text.specs.Canonical.{Writer, behind, Product, space, operator, negative, dimension, number, signed_number, times, first_term, multiple, joined, later_terms, no_product, alone, sum, expression_by, expression, others, declared, declared_from, dimensions, results, map_front, map_pieces, map_tree}

-- ---- the tokens of pieces, one list behind the other

pub shapes_append : (ps qs : List Piece) (at : ℕ) → shapes_at at (ps ++ qs) ≡ shapes_at at ps ++ shapes_at (at + length (bytes_of ps)) qs
shapes_append [] qs at = let e : at ≡ at + 0 = omega arith in ap (λ k. shapes_at k qs) e
shapes_append (Gap g ∷ ps) qs at =
    let e : (at + length g) + length (bytes_of ps) ≡ at + length (g ++ bytes_of ps) = omega (arith, length-append g (bytes_of ps)) in
    shapes_append ps qs (at + length g) ∙ ap (λ k. shapes_at (at + length g) ps ++ shapes_at k qs) e
shapes_append (Fixed l ∷ ps) qs at =
    let e : (at + length (lexeme_text l)) + length (bytes_of ps) ≡ at + length (lexeme_text l ++ bytes_of ps) = omega (arith, length-append (lexeme_text l) (bytes_of ps)) in
    ap (λ (ts : List TokenShape). record { kind = lexeme_kind l; start = at; text = lexeme_text l } ∷ ts) (shapes_append ps qs (at + length (lexeme_text l)) ∙ ap (λ k. shapes_at (at + length (lexeme_text l)) ps ++ shapes_at k qs) e)
shapes_append (Leaf c kind t ∷ ps) qs at =
    let e : (at + length t) + length (bytes_of ps) ≡ at + length (t ++ bytes_of ps) = omega (arith, length-append t (bytes_of ps)) in
    ap (λ (ts : List TokenShape). record { kind = kind; start = at; text = t } ∷ ts) (shapes_append ps qs (at + length t) ∙ ap (λ k. shapes_at (at + length t) ps ++ shapes_at k qs) e)

-- before others
both_shapes : (ps qs : List Piece) (at : ℕ) (rest : List TokenShape) → shapes_at at (ps ++ qs) ++ rest ≡ shapes_at at ps ++ (shapes_at (at + length (bytes_of ps)) qs ++ rest)
both_shapes ps qs at rest = ap (λ (ts : List TokenShape). ts ++ rest) (shapes_append ps qs at) ∙ append_assoc (shapes_at at ps) (shapes_at (at + length (bytes_of ps)) qs) rest

-- what is spelled are the tokens of the pieces
pub record Spells {A : Type 0} (tokens : A → List TokenShape → List TokenShape) (w : Writer A) : Type 0 where
  pub law : (at : ℕ) (rest : List TokenShape) → tokens (w.tree at) rest ≡ shapes_at at w.pieces ++ rest

-- two parts, one behind the other
two_parts : (ps qs : List Piece) (at : ℕ) (rest : List TokenShape) (first : List TokenShape → List TokenShape) (second : List TokenShape)
    → ((more : List TokenShape) → first more ≡ shapes_at at ps ++ more) → second ≡ shapes_at (at + length (bytes_of ps)) qs ++ rest → first second ≡ shapes_at at (ps ++ qs) ++ rest
two_parts ps qs at rest first second f e = f second ∙ ap (λ (ts : List TokenShape). shapes_at at ps ++ ts) e ∙ sym (both_shapes ps qs at rest)

-- ---- expressions

dimension_spells : (c : Class) (k : ℕ) → Spells factor_tokens (dimension c k)
unfolding factor_tokens
dimension_spells c k = record { law = λ at rest. refl }

number_spells : (c : Class) (n : ℕ) → Spells factor_tokens (number c n)
unfolding factor_tokens
number_spells c n = record { law = λ at rest. refl }

negative_spells : (c : Class) (f : Writer Factor) → Spells factor_tokens f → Spells factor_tokens (negative c f)
unfolding factor_tokens
negative_spells c f h = record { law = λ at rest. ap (λ (ts : List TokenShape). mark_at at (codes "-") ∷ ts) (h.law (at + 1) rest) }

signed_spells : (c : Class) (z : ℤ) → Spells factor_tokens (signed_number c z)
signed_spells c (pos n) = number_spells c n
signed_spells c (negsuc n) = negative_spells c (number c (suc n)) (number_spells c (suc n))

abbrev product_tokens : Product → List TokenShape → List TokenShape
product_tokens p rest = factor_tokens p.0 (factors_tokens p.1 rest)

alone_spells : (f : Writer Factor) → Spells factor_tokens f → Spells product_tokens (alone f)
unfolding factor_tokens
alone_spells f h = record { law = h.law }

times_spells : (c : Class) (f g : Writer Factor) → Spells factor_tokens f → Spells factor_tokens g → Spells product_tokens (times c f g)
unfolding factor_tokens
times_spells c f g h k = record {
  law = λ at rest.
      two_parts f.pieces (space ∷ operator c (codes "*") ∷ space ∷ g.pieces) at rest (factor_tokens (f.tree at)) _ (h.law at)
      (ap (λ (ts : List TokenShape). mark_at (behind f at + 1) (codes "*") ∷ ts) (k.law (behind f at + 1 + 1 + 1) rest));
}

first_by : (c : Class) (k : ℕ) (z : ℤ) (one minus : Bool) → Spells product_tokens (cond one (alone (dimension c k)) (cond minus (alone (negative c (dimension c k))) (times c (dimension c k) (signed_number c z))))
first_by c k z true minus = alone_spells (dimension c k) (dimension_spells c k)
first_by c k z false true = alone_spells (negative c (dimension c k)) (negative_spells c (dimension c k) (dimension_spells c k))
first_by c k z false false = times_spells c (dimension c k) (signed_number c z) (dimension_spells c k) (signed_spells c z)

multiple_by : (c : Class) (k n : ℕ) (one : Bool) → Spells product_tokens (cond one (alone (dimension c k)) (times c (dimension c k) (number c n)))
multiple_by c k n true = alone_spells (dimension c k) (dimension_spells c k)
multiple_by c k n false = times_spells c (dimension c k) (number c n) (dimension_spells c k) (number_spells c n)

no_product_spells : Spells products_tokens no_product
unfolding factor_tokens
no_product_spells = record { law = λ at rest. refl }

joined_spells : (c : Class) (z : ℤ) (p : Writer Product) (ps : Writer Products) → Spells product_tokens p → Spells products_tokens ps → Spells products_tokens (joined c z p ps)
unfolding factor_tokens
joined_spells c (pos n) p ps h k = record {
  law = λ at rest.
      ap (λ (ts : List TokenShape). mark_at (at + 1) (codes "+") ∷ ts)
      (two_parts p.pieces ps.pieces (at + 1 + 1 + 1) rest (product_tokens (p.tree (at + 1 + 1 + 1))) _ (h.law (at + 1 + 1 + 1)) (k.law (behind p (at + 1 + 1 + 1)) rest));
}
joined_spells c (negsuc n) p ps h k = record {
  law = λ at rest.
      ap (λ (ts : List TokenShape). mark_at (at + 1) (codes "-") ∷ ts)
      (two_parts p.pieces ps.pieces (at + 1 + 1 + 1) rest (product_tokens (p.tree (at + 1 + 1 + 1))) _ (h.law (at + 1 + 1 + 1)) (k.law (behind p (at + 1 + 1 + 1)) rest));
}

constant_by : (c : Class) (z : ℤ) (none : Bool) → Spells products_tokens (cond none no_product (joined c z (alone (number c (unsigned_abs z))) no_product))
constant_by c z true = no_product_spells
constant_by c z false = joined_spells c z (alone (number c (unsigned_abs z))) no_product (alone_spells (number c (unsigned_abs z)) (number_spells c (unsigned_abs z))) no_product_spells

later_spells : (c : Class) (ts : List (ℕ × ℤ)) (z : ℤ) → Spells products_tokens (later_terms c ts z)
later_spells c [] z = constant_by c z (unsigned_abs z == 0)
later_spells c (t ∷ ts) z = joined_spells c t.1 (multiple c t.0 (unsigned_abs t.1)) (later_terms c ts z) (multiple_by c t.0 (unsigned_abs t.1) (unsigned_abs t.1 == 1)) (later_spells c ts z)

sum_spells : (p : Writer Product) (ps : Writer Products) → Spells product_tokens p → Spells products_tokens ps → Spells sum_tokens (sum p ps)
unfolding factor_tokens
sum_spells p ps h k = record { law = λ at rest. two_parts p.pieces ps.pieces at rest (product_tokens (p.tree at)) _ (h.law at) (k.law (behind p at) rest) }

expression_by_spells : (c : Class) (ts : List (ℕ × ℤ)) (z : ℤ) → Spells sum_tokens (expression_by c ts z)
expression_by_spells c [] z = sum_spells (alone (signed_number c z)) no_product (alone_spells (signed_number c z) (signed_spells c z)) no_product_spells
expression_by_spells c (t ∷ ts) z = sum_spells (first_term c t) (later_terms c ts z) (first_by c t.0 t.1 (is_one t.1) (is_minus_one t.1)) (later_spells c ts z)

-- ---- lists

other_sums_spell : (c : Class) (es : List Expr) → Spells other_sums_tokens (others (map (expression c) es))
other_sums_spell c [] = record { law = λ at rest. refl }
other_sums_spell c (e ∷ es) = record {
  law = λ at rest.
      let w = expression c e in
      let ws = others (map (expression c) es) in
      ap (λ (ts : List TokenShape). mark_at at (codes ",") ∷ ts)
      (two_parts w.pieces ws.pieces (at + 1 + 1) rest (sum_tokens (w.tree (at + 1 + 1))) _ ((expression_by_spells c e.terms e.constant).law (at + 1 + 1)) ((other_sums_spell c es).law (behind w (at + 1 + 1)) rest));
}

results_spell : (c : Class) (es : List Expr) → Spells sums_tokens (results c es)
unfolding results
results_spell c [] = record { law = λ at rest. refl }
results_spell c (e ∷ es) = record {
  law = λ at rest.
      let w = expression c e in
      let ws = others (map (expression c) es) in
      two_parts w.pieces ws.pieces at rest (sum_tokens (w.tree at)) _ ((expression_by_spells c e.terms e.constant).law at) ((other_sums_spell c es).law (behind w at) rest);
}

other_names_spell : (c : Class) (k n : ℕ) → Spells other_names_tokens (others (declared_from c k n))
other_names_spell c k zero = record { law = λ at rest. refl }
other_names_spell c k (suc n) = record {
  law = λ at rest.
      let w = declared c k in
      let ws = others (declared_from c (suc k) n) in
      ap (λ (ts : List TokenShape). mark_at at (codes ",") ∷ ts)
      (two_parts w.pieces ws.pieces (at + 1 + 1) rest (λ (ts : List TokenShape). word_at (at + 1 + 1) (dimension_text k) ∷ ts) _ (λ more. refl) ((other_names_spell c (suc k) n).law (behind w (at + 1 + 1)) rest));
}

dimensions_spell : (c : Class) (n : ℕ) → Spells names_tokens (dimensions c n)
unfolding dimensions
dimensions_spell c zero = record { law = λ at rest. refl }
dimensions_spell c (suc n) = record {
  law = λ at rest.
      let w = declared c 0 in
      let ws = others (declared_from c 1 n) in
      two_parts w.pieces ws.pieces at rest (λ (ts : List TokenShape). word_at at (dimension_text 0) ∷ ts) _ (λ more. refl) ((other_names_spell c 1 n).law (behind w at) rest);
}

-- ---- maps

-- the tree's tokens but the last, and the last
pub map_front_spells : (c : Class) (m : MapShape) (at : ℕ) → map_tokens (map_tree c at m) ≡ shapes_at at (map_front c m) ++ mark_at (at + length (bytes_of (map_front c m))) (codes ">") ∷ []
unfolding map_front map_tree
map_front_spells c m at =
    let last = mark_at (at + length (bytes_of (map_front c m))) (codes ">") ∷ [] in
    let ds = dimensions c m.dims in
    let rs = results c m.results in
    let end = Fixed lexemes.CloseParenthesis ∷ [] in
    let tail = Fixed lexemes.CloseParenthesis ∷ space ∷ Fixed lexemes.Arrow ∷ space ∷ Fixed lexemes.OpenParenthesis ∷ (rs.pieces ++ end) in
    let names = at + 10 + 1 + 1 in
    let close = behind ds names in
    let sums = close + 1 + 1 + 2 + 1 + 1 in
    let more = two_parts rs.pieces end sums last (sums_tokens (rs.tree sums)) (mark_at (behind rs sums) (codes ")") ∷ last) ((results_spell c m.results).law sums) refl in
    ap (λ (ts : List TokenShape). word_at at (codes "affine_map") ∷ mark_at (at + 10) (codes "<") ∷ mark_at (at + 10 + 1) (codes "(") ∷ ts)
    (two_parts ds.pieces tail names last (names_tokens (ds.tree names)) _ ((dimensions_spell c m.dims).law names)
    (ap (λ (ts : List TokenShape). mark_at close (codes ")") ∷ mark_at (close + 1 + 1) (codes "->") ∷ mark_at (close + 1 + 1 + 2 + 1) (codes "(") ∷ ts) more))

-- the tree is spelled by the tokens of the pieces, wherever they begin
pub map_spelled : (c : Class) (m : MapShape) (at : ℕ) → map_tokens (map_tree c at m) ≡ shapes_at at (map_pieces c m)
map_spelled c m at = map_front_spells c m at ∙ sym (shapes_append (map_front c m) (Fixed lexemes.Greater ∷ []) at)
