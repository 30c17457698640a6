-- The pieces of a map's canonical text are its bytes.
use Rattle.std.proofs.Common.{◌≡◌, ℕ, zero, suc, ◌+◌, ◌==◌, Bool, true, false, cond, ℤ, pos, negsuc, List, [], ◌∷◌, ◌++◌, map, unsigned_abs, codes, decimal, refl, sym, ap, ◌∙◌, append_assoc, arith}
use Rattle.std.specs.Fmt.{signed_decimal}
use Rattle.std.proofs.lemmas.List.{append-nil}
use Rattle.text_format.specs.declared.class.Class.{Class}
use Rattle.text_format.specs.declared.front.Kind.TheVariants as kinds
use Rattle.text_format.specs.declared.lexeme.Lexeme.TheVariants as lexemes
use Rattle.text_format.specs.Pieces.{Piece, Fixed, Leaf, piece_text, bytes_of}
use Rattle.affine_maps.specs.Shape.{MapShape}
use Rattle.affine_maps.specs.declared.map.Expr.{Expr}
use Rattle.affine_text.specs.Grammar.{Products}
use Rattle.affine_text.specs.Text.{dimension_text, is_one, is_minus_one, first_term_text, sign_text, times_text, term_text, terms_text, constant_text, expr_text_by, expr_text, dimensions_text, exprs_text, head_text, text_of_map}
use Rattle.affine_text.specs.Canonical.{Writer, Product, space, operator, negative, dimension, number, signed_number, times, first_term, multiple, joined, constant, later_terms, no_product, alone, expression_by, expression, others, declared_from, dimensions, results, map_front, map_pieces}

abbrev pub written : {A : Type 0} → Writer A → List ℕ
written w = bytes_of w.pieces

pub bytes_append : (ps qs : List Piece) → bytes_of (ps ++ qs) ≡ bytes_of ps ++ bytes_of qs
bytes_append [] qs = refl
bytes_append (p ∷ ps) qs = ap (λ (bs : List ℕ). piece_text p ++ bs) (bytes_append ps qs) ∙ sym (append_assoc (piece_text p) (bytes_of ps) (bytes_of qs))

signed_bytes : (c : Class) (z : ℤ) → written (signed_number c z) ≡ signed_decimal z
signed_bytes c (pos n) = append-nil (decimal n)
signed_bytes c (negsuc n) = ap (λ (bs : List ℕ). 45 ∷ bs) (append-nil (decimal (suc n)))

dimension_bytes : (c : Class) (k : ℕ) → written (dimension c k) ≡ dimension_text k
dimension_bytes c k = append-nil (dimension_text k)

times_bytes : (c : Class) (k : ℕ) (g : List Piece) (text : List ℕ) → bytes_of g ≡ text
    → bytes_of (Leaf c kinds.Word (dimension_text k) ∷ space ∷ operator c (codes "*") ∷ space ∷ g) ≡ dimension_text k ++ (codes " * " ++ text)
times_bytes c k g text e = ap (λ (bs : List ℕ). dimension_text k ++ (codes " * " ++ bs)) e

negated_bytes : (c : Class) (k : ℕ) → written (negative c (dimension c k)) ≡ codes "-" ++ dimension_text k
negated_bytes c k = ap (λ (bs : List ℕ). 45 ∷ bs) (dimension_bytes c k)

first_by : (c : Class) (k : ℕ) (z : ℤ) (one minus : Bool)
    → written (cond one (alone (dimension c k)) (cond minus (alone (negative c (dimension c k))) (times c (dimension c k) (signed_number c z))))
    ≡ cond one (dimension_text k) (cond minus (codes "-" ++ dimension_text k) (dimension_text k ++ (codes " * " ++ signed_decimal z)))
first_by c k z true minus = dimension_bytes c k
first_by c k z false true = negated_bytes c k
first_by c k z false false = times_bytes c k (signed_number c z).pieces (signed_decimal z) (signed_bytes c z)

first_bytes : (c : Class) (t : ℕ × ℤ) → written (first_term c t) ≡ first_term_text t
unfolding first_term_text
first_bytes c t = first_by c t.0 t.1 (is_one t.1) (is_minus_one t.1)

multiple_by : (c : Class) (k n : ℕ) (one : Bool) → written (cond one (alone (dimension c k)) (times c (dimension c k) (number c n))) ≡ dimension_text k ++ cond one [] (codes " * " ++ decimal n)
multiple_by c k n true = refl
multiple_by c k n false = times_bytes c k (number c n).pieces (decimal n) (append-nil (decimal n))

multiple_bytes : (c : Class) (k n : ℕ) → written (multiple c k n) ≡ dimension_text k ++ times_text n
multiple_bytes c k n = multiple_by c k n (n == 1)

joined_bytes : (c : Class) (z : ℤ) (p : Writer Product) (ps : Writer Products) (text more : List ℕ) → written p ≡ text → written ps ≡ more → written (joined c z p ps) ≡ sign_text z ++ (text ++ more)
joined_bytes c (pos n) p ps text more e f = ap (λ (bs : List ℕ). codes " + " ++ bs) (bytes_append p.pieces ps.pieces ∙ ap (λ (bs : List ℕ). bs ++ written ps) e ∙ ap (λ (bs : List ℕ). text ++ bs) f)
joined_bytes c (negsuc n) p ps text more e f = ap (λ (bs : List ℕ). codes " - " ++ bs) (bytes_append p.pieces ps.pieces ∙ ap (λ (bs : List ℕ). bs ++ written ps) e ∙ ap (λ (bs : List ℕ). text ++ bs) f)

constant_by : (c : Class) (z : ℤ) (none : Bool)
    → written (cond none no_product (joined c z (alone (number c (unsigned_abs z))) no_product)) ≡ cond none [] (sign_text z ++ decimal (unsigned_abs z))
constant_by c z true = refl
constant_by c z false =
    joined_bytes c z (alone (number c (unsigned_abs z))) no_product (decimal (unsigned_abs z)) [] (append-nil (decimal (unsigned_abs z))) refl
    ∙ ap (λ (bs : List ℕ). sign_text z ++ bs) (append-nil (decimal (unsigned_abs z)))

constant_bytes : (c : Class) (z : ℤ) → written (constant c z) ≡ constant_text z
unfolding constant_text
constant_bytes c z = constant_by c z (unsigned_abs z == 0)

later_bytes : (c : Class) (ts : List (ℕ × ℤ)) (z : ℤ) → written (later_terms c ts z) ≡ terms_text ts ++ constant_text z
unfolding term_text
later_bytes c [] z = constant_bytes c z
later_bytes c (t ∷ ts) z =
    joined_bytes c t.1 (multiple c t.0 (unsigned_abs t.1)) (later_terms c ts z) (dimension_text t.0 ++ times_text (unsigned_abs t.1)) (terms_text ts ++ constant_text z) (multiple_bytes c t.0 (unsigned_abs t.1)) (later_bytes c ts z)
    ∙ sym (append_assoc (sign_text t.1) (dimension_text t.0 ++ times_text (unsigned_abs t.1)) (terms_text ts ++ constant_text z))
    ∙ sym (append_assoc (term_text t) (terms_text ts) (constant_text z))

expression_by_bytes : (c : Class) (ts : List (ℕ × ℤ)) (z : ℤ) → written (expression_by c ts z) ≡ expr_text_by ts z
expression_by_bytes c [] z = bytes_append (signed_number c z).pieces [] ∙ append-nil (written (signed_number c z)) ∙ signed_bytes c z
expression_by_bytes c (t ∷ ts) z =
    bytes_append (first_term c t).pieces (later_terms c ts z).pieces ∙ ap (λ (bs : List ℕ). bs ++ written (later_terms c ts z)) (first_bytes c t) ∙ ap (λ (bs : List ℕ). first_term_text t ++ bs) (later_bytes c ts z)

expression_bytes : (c : Class) (e : Expr) → written (expression c e) ≡ expr_text e
expression_bytes c e = expression_by_bytes c e.terms e.constant

-- ---- lists

others_bytes : (c : Class) (es : List Expr) → written (others (map (expression c) es)) ≡ exprs_text (codes ", ") es
others_bytes c [] = refl
others_bytes c (e ∷ es) =
    ap (λ (bs : List ℕ). codes ", " ++ bs) (bytes_append (expression c e).pieces (others (map (expression c) es)).pieces ∙ ap (λ (bs : List ℕ). bs ++ written (others (map (expression c) es))) (expression_bytes c e)
    ∙ ap (λ (bs : List ℕ). expr_text e ++ bs) (others_bytes c es))

results_bytes : (c : Class) (es : List Expr) → written (results c es) ≡ exprs_text [] es
unfolding results
results_bytes c [] = refl
results_bytes c (e ∷ es) =
    bytes_append (expression c e).pieces (others (map (expression c) es)).pieces ∙ ap (λ (bs : List ℕ). bs ++ written (others (map (expression c) es))) (expression_bytes c e)
    ∙ ap (λ (bs : List ℕ). expr_text e ++ bs) (others_bytes c es)

-- behind k dimensions, of which the last stands already
more_dimensions : (c : Class) (k n : ℕ) → dimensions_text (suc k) ++ written (others (declared_from c (suc k) n)) ≡ dimensions_text (suc k + n)
more_dimensions c k zero = let e : suc k ≡ suc k + 0 = omega arith in append-nil (dimensions_text (suc k)) ∙ ap dimensions_text e
more_dimensions c k (suc n) =
    let e : suc (suc k) + n ≡ suc k + suc n = omega arith in
    let more = written (others (declared_from c (suc (suc k)) n)) in
    ap (λ (bs : List ℕ). dimensions_text (suc k) ++ (codes ", " ++ bs)) (bytes_append (Leaf c kinds.Word (dimension_text (suc k)) ∷ []) (others (declared_from c (suc (suc k)) n)).pieces ∙ ap (λ (bs : List ℕ). bs ++ more) (append-nil (dimension_text (suc k))))
    ∙ sym (append_assoc (dimensions_text (suc k)) (codes ", " ++ dimension_text (suc k)) more)
    ∙ more_dimensions c (suc k) n ∙ ap dimensions_text e

dimensions_bytes : (c : Class) (n : ℕ) → written (dimensions c n) ≡ dimensions_text n
unfolding dimensions
dimensions_bytes c zero = refl
dimensions_bytes c (suc n) = let e : 1 + n ≡ suc n = omega arith in more_dimensions c 0 n ∙ ap dimensions_text e

-- ---- maps

around : (ds rs : List ℕ) → (ds ++ (codes ") -> (" ++ (rs ++ codes ")"))) ++ codes ">" ≡ (ds ++ codes ") -> (") ++ (rs ++ codes ")>")
around ds rs =
    append_assoc ds (codes ") -> (" ++ (rs ++ codes ")")) (codes ">") ∙ ap (λ (bs : List ℕ). ds ++ (codes ") -> (" ++ bs)) (append_assoc rs (codes ")") (codes ">"))
    ∙ sym (append_assoc ds (codes ") -> (") (rs ++ codes ")>"))

-- the bytes of the pieces are the canonical text
pub map_bytes : (c : Class) (m : MapShape) → bytes_of (map_pieces c m) ≡ text_of_map m
unfolding map_front text_of_map head_text
map_bytes c m =
    let ds = (dimensions c m.dims).pieces in
    let rs = (results c m.results).pieces in
    let end = Fixed lexemes.CloseParenthesis ∷ [] in
    let tail = Fixed lexemes.CloseParenthesis ∷ space ∷ Fixed lexemes.Arrow ∷ space ∷ Fixed lexemes.OpenParenthesis ∷ (rs ++ end) in
    let one = bytes_append rs end ∙ ap (λ (bs : List ℕ). bs ++ codes ")") (results_bytes c m.results) in
    let all = bytes_append ds tail ∙ ap (λ (bs : List ℕ). bs ++ bytes_of tail) (dimensions_bytes c m.dims) ∙ ap (λ (bs : List ℕ). dimensions_text m.dims ++ (codes ") -> (" ++ bs)) one in
    ap (λ (bs : List ℕ). codes "affine_map<(" ++ bs)
    (bytes_append (ds ++ tail) (Fixed lexemes.Greater ∷ []) ∙ ap (λ (bs : List ℕ). bs ++ codes ">") all ∙ around (dimensions_text m.dims) (exprs_text [] m.results))
