-- The pieces of a map's canonical text are well spaced, whatever comes behind them.
use Rattle.std.proofs.Common.{◌≡◌, ◌<◌, ◌^◌, ℕ, zero, suc, ◌+◌, ◌==◌, Bool, true, false, cond, ℤ, pos, negsuc, List, [], ◌∷◌, ◌++◌, map, length, unsigned_abs, codes, decimal, refl, sym, subst, arith, nat_le}
use Rattle.std.specs.List.{AllByRecursion}
use Rattle.std.proofs.lemmas.List.{append-nil}
use Rattle.std.proofs.lemmas.Bool.{and_parts, leb-true, ne_eqb}
use Rattle.text_format.specs.declared.class.Class.{Class}
use Rattle.text_format.specs.declared.front.Kind.TheVariants as kinds
use Rattle.text_format.specs.declared.front.ByteClass.TheVariants as classes
use Rattle.text_format.specs.declared.lexeme.Lexeme.TheVariants as lexemes
use Rattle.text_format.specs.Bytes.{front, mark_front, is_digit}
use Rattle.text_format.specs.Pieces.{Piece, Fixed, bytes_of, Ends, IsSpaced}
use Rattle.text_format.proofs.Spacing.{IsApart, Opens, IsClosed, none_apart, none_opens, space_opens, fixed_opens, fixed_closed, fixed_word, leaf_name, leaf_closed, append_apart, dimension_name, decimal_name, decimal_some, decimal_in_digits, all_in, minus_ends, spaced_append, lexeme_closed}
use Rattle.text_format.proofs.Spacing as spacing
use Rattle.mlir_base.specs.Numbers.{is_in_range}
use Rattle.affine_maps.specs.Shape.{MapShape}
use Rattle.affine_maps.specs.declared.map.Expr.{Expr}
use Rattle.affine_maps.specs.Map.{IsMap}
use Rattle.affine_text.specs.Grammar.{Factor, Products}
use Rattle.affine_text.proofs.MapRule.{AreTerms, IsOver, results_over}
use Rattle.affine_text.specs.Text.{is_one, is_minus_one}
use Rattle.affine_text.specs.Canonical.{Writer, Product, space, operator, negative, dimension, number, signed_number, times, first_term, multiple, joined, later_terms, no_product, alone, expression_by, expression, others, items, declared_from, dimensions, results, map_front, map_pieces}

abbrev IsWell : {A : Type 0} → Writer A → Type 0
IsWell w = IsApart w.pieces

-- ---- operators

plus_closed : IsClosed kinds.Mark (codes "+")
unfolding front mark_front
plus_closed = record { ends = λ rest. refl }

star_closed : IsClosed kinds.Mark (codes "*")
unfolding front mark_front
star_closed = record { ends = λ rest. refl }

digit_no_arrow : (d : ℕ) → is_digit d ≡ true → (d == 62) ≡ false
digit_no_arrow d h =
    let p = and_parts (nat_le 48 d) (nat_le d 57) h in
    ne_eqb d 62 (λ e. absurd (omega (arith, e, leb-true d 57 p.1)))

before_digits : (ds rest : List ℕ) → 0 < length ds → all_in classes.Digit ds ≡ true → Ends kinds.Mark (codes "-") (ds ++ rest)
before_digits [] rest some a = absurd (omega arith)
before_digits (d ∷ ds) rest some a = minus_ends d (ds ++ rest) (digit_no_arrow d (and_parts (is_digit d) (all_in classes.Digit ds) a).0)

-- ---- expressions

dimension_well : (c : Class) (k : ℕ) → IsWell (dimension c k)
dimension_well c k = leaf_name c (dimension_name k) none_opens none_apart

number_well : (c : Class) (n : ℕ) → n < 2 ^ 64 → IsWell (number c n)
number_well c n s = leaf_name c (decimal_name n s) none_opens none_apart

negative_number_well : (c : Class) (n : ℕ) → n < 2 ^ 64 → IsWell (negative c (number c n))
negative_number_well c n s =
    let h = number_well c n s in
    record { spaced = λ rest t. (subst (λ (bs : List ℕ). Ends kinds.Mark (codes "-") (bs ++ rest)) (sym (append-nil (decimal n))) (before_digits (decimal n) rest (decimal_some n s) (decimal_in_digits n s)), h.spaced rest t) }

negative_dimension_well : (c : Class) (k : ℕ) → IsWell (negative c (dimension c k))
negative_dimension_well c k =
    let h = dimension_well c k in
    record { spaced = λ rest t. (minus_ends 100 _ refl, h.spaced rest t) }

signed_well : (c : Class) (z : ℤ) → unsigned_abs z < 2 ^ 64 → IsWell (signed_number c z)
signed_well c (pos n) s = number_well c n s
signed_well c (negsuc n) s = negative_number_well c (suc n) s

times_well : (c : Class) (f g : Writer Factor) → IsWell f → IsWell g → IsWell (times c f g)
times_well c f g hf hg = append_apart f.pieces (space ∷ operator c (codes "*") ∷ space ∷ g.pieces) hf space_opens (spacing.space (leaf_closed c star_closed (spacing.space hg)))

first_by : (c : Class) (k : ℕ) (z : ℤ) (one minus : Bool) → unsigned_abs z < 2 ^ 64
    → IsWell (cond one (alone (dimension c k)) (cond minus (alone (negative c (dimension c k))) (times c (dimension c k) (signed_number c z))))
first_by c k z true minus s = dimension_well c k
first_by c k z false true s = negative_dimension_well c k
first_by c k z false false s = times_well c (dimension c k) (signed_number c z) (dimension_well c k) (signed_well c z s)

multiple_by : (c : Class) (k n : ℕ) (one : Bool) → n < 2 ^ 64 → IsWell (cond one (alone (dimension c k)) (times c (dimension c k) (number c n)))
multiple_by c k n true s = dimension_well c k
multiple_by c k n false s = times_well c (dimension c k) (number c n) (dimension_well c k) (number_well c n s)

-- what comes behind an expression's first product
abbrev IsFurther : Writer Products → Type 0
IsFurther ps = IsApart ps.pieces × Opens ps.pieces

joined_well : (c : Class) (z : ℤ) (p : Writer Product) (ps : Writer Products) → IsWell p → IsFurther ps → IsFurther (joined c z p ps)
joined_well c (pos n) p ps h k = (spacing.space (leaf_closed c plus_closed (spacing.space (append_apart p.pieces ps.pieces h k.1 k.0))), space_opens)
joined_well c (negsuc n) p ps h k =
    let more = spacing.space (append_apart p.pieces ps.pieces h k.1 k.0) in
    (spacing.space (record { spaced = λ rest t. (minus_ends 32 _ refl, more.spaced rest t) }), space_opens)

no_product_well : IsFurther no_product
no_product_well = (none_apart, none_opens)

constant_by : (c : Class) (z : ℤ) (none : Bool) → unsigned_abs z < 2 ^ 64 → IsFurther (cond none no_product (joined c z (alone (number c (unsigned_abs z))) no_product))
constant_by c z true s = no_product_well
constant_by c z false s = joined_well c z (alone (number c (unsigned_abs z))) no_product (number_well c (unsigned_abs z) s) no_product_well

-- in range, a number is below 2 ^ 64
few : (z : ℤ) → is_in_range z ≡ true → unsigned_abs z < 2 ^ 64
few z h = omega (arith, leb-true (unsigned_abs z) (2 ^ 31) h)

later_well : (c : Class) (dims : ℕ) (ts : List (ℕ × ℤ)) (z : ℤ) → AreTerms dims ts → unsigned_abs z < 2 ^ 64 → IsFurther (later_terms c ts z)
later_well c dims [] z h s = constant_by c z (unsigned_abs z == 0) s
later_well c dims (t ∷ ts) z h s =
    joined_well c t.1 (multiple c t.0 (unsigned_abs t.1)) (later_terms c ts z) (multiple_by c t.0 (unsigned_abs t.1) (unsigned_abs t.1 == 1) (few t.1 h.0.in_range)) (later_well c dims ts z h.1 s)

expression_by_well : (c : Class) (dims : ℕ) (ts : List (ℕ × ℤ)) (z : ℤ) → AreTerms dims ts → unsigned_abs z < 2 ^ 64 → IsWell (expression_by c ts z)
expression_by_well c dims [] z h s = append_apart (signed_number c z).pieces [] (signed_well c z s) none_opens none_apart
expression_by_well c dims (t ∷ ts) z h s =
    let k = later_well c dims ts z h.1 s in
    append_apart (first_term c t).pieces (later_terms c ts z).pieces (first_by c t.0 t.1 (is_one t.1) (is_minus_one t.1) (few t.1 h.0.in_range)) k.1 k.0

expression_well : (c : Class) (dims : ℕ) (e : Expr) → IsOver dims e → IsWell (expression c e)
expression_well c dims e h = expression_by_well c dims e.terms e.constant h.terms (few e.constant h.constant)

-- ---- lists

others_well : {A : Type 0} (ws : List (Writer A)) → AllByRecursion (λ w. IsApart w.pieces) ws → IsApart (others ws).pieces × Opens (others ws).pieces
others_well [] h = (none_apart, none_opens)
others_well (w ∷ ws) h =
    let k = others_well ws h.1 in
    (fixed_closed lexemes.Comma refl (spacing.space (append_apart w.pieces (others ws).pieces h.0 k.1 k.0)), fixed_opens lexemes.Comma refl)

items_well : {A : Type 0} (ws : List (Writer A)) → AllByRecursion (λ w. IsApart w.pieces) ws → IsApart (items ws).pieces
items_well [] h = none_apart
items_well (w ∷ ws) h = let k = others_well ws h.1 in append_apart w.pieces (others ws).pieces h.0 k.1 k.0

declared_well : (c : Class) (k n : ℕ) → AllByRecursion (λ w. IsApart w.pieces) (declared_from c k n)
declared_well c k zero = tt
declared_well c k (suc n) = (leaf_name c (dimension_name k) none_opens none_apart, declared_well c (suc k) n)

expressions_well : (c : Class) (dims : ℕ) (es : List Expr) → AllByRecursion (IsOver dims) es → AllByRecursion (λ w. IsApart w.pieces) (map (expression c) es)
expressions_well c dims [] h = tt
expressions_well c dims (e ∷ es) h = (expression_well c dims e h.0, expressions_well c dims es h.1)

-- ---- maps

front_well : (c : Class) (m : MapShape) → AllByRecursion (IsOver m.dims) m.results → IsApart (map_front c m)
unfolding map_front dimensions results
front_well c m h =
    let ds = items_well (declared_from c 0 m.dims) (declared_well c 0 m.dims) in
    let rs = items_well (map (expression c) m.results) (expressions_well c m.dims m.results h) in
    fixed_word lexemes.AffineMap refl (fixed_opens lexemes.Less refl) (fixed_closed lexemes.Less refl (fixed_closed lexemes.OpenParenthesis refl
    (append_apart (dimensions c m.dims).pieces _ ds (fixed_opens lexemes.CloseParenthesis refl) (fixed_closed lexemes.CloseParenthesis refl (spacing.space (fixed_closed lexemes.Arrow refl (spacing.space (fixed_closed lexemes.OpenParenthesis refl
    (append_apart (results c m.results).pieces _ rs (fixed_opens lexemes.CloseParenthesis refl) (fixed_closed lexemes.CloseParenthesis refl none_apart))))))))))

-- the pieces are well spaced, whatever comes behind them
pub map_spaced : (c : Class) (m : MapShape) → IsMap m → (rest : List ℕ) → IsSpaced (map_pieces c m) rest
map_spaced c m i rest =
    let h = front_well c m (results_over m.dims m.results i) in
    spaced_append (map_front c m) (Fixed lexemes.Greater ∷ []) rest (h.spaced (codes ">" ++ rest) refl) ((lexeme_closed lexemes.Greater refl).ends rest, tt)

-- so anything may come behind them in a longer list
pub map_then : (c : Class) (m : MapShape) {ps : List Piece} → IsMap m → IsApart ps → IsApart (map_pieces c m ++ ps)
map_then c m {ps = ps} i h = record { spaced = λ rest t. spaced_append (map_pieces c m) ps rest (map_spaced c m i (bytes_of ps ++ rest)) (h.spaced rest t) }
