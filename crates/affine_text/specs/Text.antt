-- The canonical text of an expression and of a map (Affine manual, "Affine Expressions" and "Affine Maps").
use Rattle.std.specs.Prelude.{ℕ, zero, suc, Bool, false, ◌==◌, ℤ, pos, negsuc, List, [], ◌∷◌, ◌++◌, if◌then◌else◌, unsigned_abs, codes, decimal}
use Rattle.std.specs.Fmt.{signed_decimal}
use Rattle.text_format.specs.Numerals.{numeral}
use Rattle.affine_maps.specs.Shape.{MapShape}
use Rattle.affine_maps.specs.declared.map.Expr.{Expr}

abbrev pub dimension_text : ℕ → List ℕ
dimension_text k = codes "d" ++ numeral k

abbrev pub is_one : ℤ → Bool
is_one (pos n) = n == 1
is_one (negsuc n) = false

abbrev pub is_minus_one : ℤ → Bool
is_minus_one (pos n) = false
is_minus_one (negsuc n) = n == 0

-- the first term: d0, -d0 or d0 * c
unfoldable pub first_term_text : ℕ × ℤ → List ℕ
first_term_text t =
    if is_one t.1 then dimension_text t.0
    else (if is_minus_one t.1 then codes "-" ++ dimension_text t.0 else dimension_text t.0 ++ (codes " * " ++ signed_decimal t.1))

-- how a number joins what stands before it
abbrev pub sign_text : ℤ → List ℕ
sign_text (pos n) = codes " + "
sign_text (negsuc n) = codes " - "

-- a magnitude of 1 is not written
abbrev pub times_text : ℕ → List ℕ
times_text n = if n == 1 then [] else codes " * " ++ decimal n

-- a later term: + d1, - d1, + d1 * c or - d1 * c, with c positive
unfoldable pub term_text : ℕ × ℤ → List ℕ
term_text t = sign_text t.1 ++ (dimension_text t.0 ++ times_text (unsigned_abs t.1))

abbrev pub terms_text : List (ℕ × ℤ) → List ℕ
terms_text [] = []
terms_text (t ∷ ts) = term_text t ++ terms_text ts

-- a constant other than 0 stands last
unfoldable pub constant_text : ℤ → List ℕ
constant_text c = if unsigned_abs c == 0 then [] else sign_text c ++ decimal (unsigned_abs c)

abbrev pub expr_text_by : List (ℕ × ℤ) → ℤ → List ℕ
expr_text_by [] c = signed_decimal c
expr_text_by (t ∷ ts) c = first_term_text t ++ (terms_text ts ++ constant_text c)

-- without terms the constant stands alone
abbrev pub expr_text : Expr → List ℕ
expr_text e = expr_text_by e.terms e.constant

-- what stands before the item of this number
abbrev pub comma_before : ℕ → List ℕ
comma_before zero = []
comma_before (suc n) = codes ", "

-- d0, d1, .., d(n-1)
abbrev pub dimensions_text : ℕ → List ℕ
dimensions_text zero = []
dimensions_text (suc n) = dimensions_text n ++ (comma_before n ++ dimension_text n)

-- each expression, the first behind these bytes and each other behind a comma
abbrev pub exprs_text : List ℕ → List Expr → List ℕ
exprs_text before [] = []
exprs_text before (e ∷ es) = before ++ (expr_text e ++ exprs_text (codes ", ") es)

-- what stands before the results
unfoldable pub head_text : ℕ → List ℕ
head_text n = codes "affine_map<(" ++ (dimensions_text n ++ codes ") -> (")

-- affine_map<(d0, d1) -> (e, e)>
unfoldable pub text_of_map : MapShape → List ℕ
text_of_map m = head_text m.dims ++ (exprs_text [] m.results ++ codes ")>")
