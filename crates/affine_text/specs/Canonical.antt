-- The canonical text of a map in pieces, and beside each the part of the tree that it spells (Affine manual, "Affine
-- Expressions" and "Affine Maps"). Words, numbers and operators are leaves of a class, of which the text tells nothing.
use Rattle.std.specs.Prelude.{ℕ, zero, suc, ◌+◌, ◌==◌, ℤ, pos, negsuc, List, [], ◌∷◌, ◌++◌, map, length, if◌then◌else◌, unsigned_abs, codes, decimal, None}
use Rattle.text_format.specs.declared.class.Class.{Class}
use Rattle.text_format.specs.declared.front.Kind.TheVariants as kinds
use Rattle.text_format.specs.declared.lexeme.Lexeme.TheVariants as lexemes
use Rattle.text_format.specs.Pieces.{Piece, Gap, Fixed, Leaf, bytes_of, comma}
use Rattle.affine_maps.specs.Shape.{MapShape}
use Rattle.affine_maps.specs.declared.map.Expr.{Expr}
use Rattle.affine_text.specs.Grammar.{Factor, Name, Number, Negative, Factors, NoFactor, Times, Products, NoProduct, Plus, Minus, Sum, Starts, Items, Empty, From, Declared, MapTree}
use Rattle.affine_text.specs.Text.{dimension_text, is_one, is_minus_one}

-- what is written, and what it spells where it begins at a place
pub record Writer (A : Type 0) : Type 0 where
  pub pieces : List Piece
  pub tree : ℕ → A

-- the place behind it
abbrev pub behind : {A : Type 0} → Writer A → ℕ → ℕ
behind w at = at + length (bytes_of w.pieces)

abbrev pub space : Piece
space = Gap (codes " ")

abbrev pub operator : Class → List ℕ → Piece
operator c text = Leaf c kinds.Mark text

-- ---- expressions

-- d0
abbrev pub dimension : Class → ℕ → Writer Factor
dimension c k = record { pieces = Leaf c kinds.Word (dimension_text k) ∷ []; tree = λ at. Name at (dimension_text k) }

abbrev pub number : Class → ℕ → Writer Factor
number c n = record { pieces = Leaf c kinds.Number (decimal n) ∷ []; tree = λ at. Number at (decimal n) }

-- -f
abbrev pub negative : Class → Writer Factor → Writer Factor
negative c f = record { pieces = operator c (codes "-") ∷ f.pieces; tree = λ at. Negative at (f.tree (at + 1)) }

abbrev pub signed_number : Class → ℤ → Writer Factor
signed_number c (pos n) = number c n
signed_number c (negsuc n) = negative c (number c (suc n))

-- a product: its first factor and the others
abbrev pub Product : Type 0
Product = Factor × Factors

abbrev pub alone : Writer Factor → Writer Product
alone f = record { pieces = f.pieces; tree = λ at. (f.tree at, NoFactor) }

-- f * g
abbrev pub times : Class → Writer Factor → Writer Factor → Writer Product
times c f g = record {
  pieces = f.pieces ++ space ∷ operator c (codes "*") ∷ space ∷ g.pieces;
  tree = λ at. (f.tree at, Times (behind f at + 1) (g.tree (behind f at + 1 + 1 + 1)) NoFactor);
}

-- the first term: d0, -d0 or d0 * c
abbrev pub first_term : Class → ℕ × ℤ → Writer Product
first_term c t =
    if is_one t.1 then alone (dimension c t.0)
    else (if is_minus_one t.1 then alone (negative c (dimension c t.0)) else times c (dimension c t.0) (signed_number c t.1))

-- a dimension times a magnitude; one of 1 is not written
abbrev pub multiple : Class → ℕ → ℕ → Writer Product
multiple c k n = if n == 1 then alone (dimension c k) else times c (dimension c k) (number c n)

abbrev pub no_product : Writer Products
no_product = record { pieces = []; tree = λ at. NoProduct }

-- a product that is added, or taken away where this number is negative, and what follows
abbrev pub joined : Class → ℤ → Writer Product → Writer Products → Writer Products
joined c (pos n) p ps = record {
  pieces = space ∷ operator c (codes "+") ∷ space ∷ (p.pieces ++ ps.pieces);
  tree = λ at. Plus (at + 1) (p.tree (at + 1 + 1 + 1)).0 (p.tree (at + 1 + 1 + 1)).1 (ps.tree (behind p (at + 1 + 1 + 1)));
}
joined c (negsuc n) p ps = record {
  pieces = space ∷ operator c (codes "-") ∷ space ∷ (p.pieces ++ ps.pieces);
  tree = λ at. Minus (at + 1) (p.tree (at + 1 + 1 + 1)).0 (p.tree (at + 1 + 1 + 1)).1 (ps.tree (behind p (at + 1 + 1 + 1)));
}

-- a constant other than 0 stands last
abbrev pub constant : Class → ℤ → Writer Products
constant c z = if unsigned_abs z == 0 then no_product else joined c z (alone (number c (unsigned_abs z))) no_product

-- + d1, - d1, + d1 * c or - d1 * c, each, and the constant
abbrev pub later_terms : Class → List (ℕ × ℤ) → ℤ → Writer Products
later_terms c [] z = constant c z
later_terms c (t ∷ ts) z = joined c t.1 (multiple c t.0 (unsigned_abs t.1)) (later_terms c ts z)

abbrev pub sum : Writer Product → Writer Products → Writer Sum
sum p ps = record { pieces = p.pieces ++ ps.pieces; tree = λ at. Starts (p.tree at).0 (p.tree at).1 (ps.tree (behind p at)) }

-- without terms the constant stands alone
abbrev pub expression_by : Class → List (ℕ × ℤ) → ℤ → Writer Sum
expression_by c [] z = sum (alone (signed_number c z)) no_product
expression_by c (t ∷ ts) z = sum (first_term c t) (later_terms c ts z)

abbrev pub expression : Class → Expr → Writer Sum
expression c e = expression_by c e.terms e.constant

-- ---- lists between commas

-- each behind a comma
abbrev pub others : {A : Type 0} → List (Writer A) → Writer (List (ℕ × A))
others [] = record { pieces = []; tree = λ at. [] }
others (w ∷ ws) = record {
  pieces = comma ++ (w.pieces ++ (others ws).pieces);
  tree = λ at. (at, w.tree (at + 1 + 1)) ∷ (others ws).tree (behind w (at + 1 + 1));
}

abbrev pub items : {A : Type 0} → List (Writer A) → Writer (Items A)
items [] = record { pieces = []; tree = λ at. Empty }
items (w ∷ ws) = record { pieces = w.pieces ++ (others ws).pieces; tree = λ at. From (w.tree at) ((others ws).tree (behind w at)) }

abbrev pub declared : Class → ℕ → Writer Declared
declared c k = record { pieces = Leaf c kinds.Word (dimension_text k) ∷ []; tree = λ at. record { at = at; name = dimension_text k } }

-- n dimensions from this one on
abbrev pub declared_from : Class → ℕ → ℕ → List (Writer Declared)
declared_from c k zero = []
declared_from c k (suc n) = declared c k ∷ declared_from c (suc k) n

-- ---- maps

unfoldable pub dimensions : Class → ℕ → Writer (Items Declared)
dimensions c n = items (declared_from c 0 n)

unfoldable pub results : Class → List Expr → Writer (Items Sum)
results c es = items (map (expression c) es)

-- all but the last token
unfoldable pub map_front : Class → MapShape → List Piece
map_front c m =
    Fixed lexemes.AffineMap ∷ Fixed lexemes.Less ∷ Fixed lexemes.OpenParenthesis ∷ ((dimensions c m.dims).pieces
    ++ Fixed lexemes.CloseParenthesis ∷ space ∷ Fixed lexemes.Arrow ∷ space ∷ Fixed lexemes.OpenParenthesis ∷ ((results c m.results).pieces ++ Fixed lexemes.CloseParenthesis ∷ []))

-- the pieces of the canonical text
abbrev pub map_pieces : Class → MapShape → List Piece
map_pieces c m = map_front c m ++ Fixed lexemes.Greater ∷ []

-- its tree, where the text begins at a place
unfoldable pub map_tree : Class → ℕ → MapShape → MapTree
map_tree c at m =
    let names = at + 10 + 1 + 1 in
    let close = behind (dimensions c m.dims) names in
    let sums = close + 1 + 1 + 2 + 1 + 1 in
    record {
      keyword = at;
      less = at + 10;
      open_dimensions = at + 10 + 1;
      dimensions = (dimensions c m.dims).tree names;
      close_dimensions = close;
      symbols = None;
      arrow = close + 1 + 1;
      open_results = close + 1 + 1 + 2 + 1;
      results = (results c m.results).tree sums;
      close_results = behind (results c m.results) sums;
      greater = at + length (bytes_of (map_front c m));
    }
