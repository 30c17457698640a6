-- Maps as they are written: spelled, of their classes, well spaced, and read back.
use Rattle.std.proofs.Common.{◌≡◌, ℕ, zero, suc, ◌+◌, ◌==◌, Bool, true, false, cond, ℤ, pos, negsuc, List, [], ◌∷◌, ◌++◌, map, drop, length, unsigned_abs, Ok, refl, sym, ap, subst, ◌∙◌}
use Rattle.std.specs.List.{AllByRecursion}
use Rattle.affine_maps.specs.Shape.{MapShape}
use Rattle.affine_maps.specs.Map.{IsMap}
use Rattle.affine_maps.specs.declared.map.Expr.{Expr}
use Rattle.affine_text.specs.Grammar.{Factor, Products, map_tokens}
use Rattle.affine_text.specs.Text.{is_one, is_minus_one}
use Rattle.affine_text.specs.Canonical as canonical
use Rattle.affine_text.specs.Canonical.{map_front, map_pieces, map_tree}
use Rattle.affine_text.proofs.CanonicalFits.{map_fits}
use Rattle.affine_text.proofs.CanonicalMeaning.{map_means}
use Rattle.affine_text.proofs.CanonicalSpaced.{map_spaced}
use Rattle.affine_text.proofs.CanonicalTokens.{shapes_append, map_spelled}
use Rattle.affine_text.proofs.Lists.{reads_tree}
use Rattle.text_format.specs.declared.class.Class.TheVariants.{Exactly, MapToken}
use Rattle.text_format.specs.declared.lexeme.Lexeme.TheVariants as lexemes
use Rattle.text_format.specs.Lexemes.{lexeme_kind, lexeme_text}
use Rattle.text_format.specs.Classes.{holds}
use Rattle.text_format.specs.Token.{TokenShape}
use Rattle.text_format.specs.Pieces.{Piece, Gap, Fixed, Leaf, bytes_of, shapes_at, IsSpaced, Ends}
use Rattle.text_format.specs.Formats as F
use Rattle.text_format.proofs.Spacing.{IsApart, spaced_append}
use Rattle.mlir_syntax.specs.declared.tree.maps.MapPiece.{MapPiece}
use Rattle.mlir_syntax.specs.Maps as map_grammar
use Rattle.mlir_scope.specs.Maps.{tokens_of, written_map, map_or_fault, has_symbols}
use Rattle.mlir_scope.proofs.MapSymbols.{symbols_told}
use Rattle.text_format.specs.Writers.{Writer, pair}
use Rattle.mlir_print.specs.Maps.{map_token, inner_pieces, tokens_at, written_at}
use Rattle.text_format.proofs.Written.{LeavesFit, both_fit}
use Rattle.text_format.proofs.Written.{spelled, spelled_append, IsWritten, put-w, pair-w, made-w}

-- ---- the tree is spelled

pieces_spelled : (ps : List Piece) (at : ℕ) → F.spell_many map_grammar.map_piece (map (λ t. record { token = t }) (shapes_at at (map map_token ps))) ≡ spelled at (map map_token ps)
unfolding map_grammar.map_piece
pieces_spelled [] at = refl
pieces_spelled (Gap g ∷ ps) at = pieces_spelled ps (at + length g)
pieces_spelled (Fixed l ∷ ps) at = ap (λ is. F.Leaf MapToken (record { kind = lexeme_kind l; start = at; text = lexeme_text l }) ∷ is) (pieces_spelled ps (at + length (lexeme_text l)))
pieces_spelled (Leaf c k t ∷ ps) at = ap (λ is. F.Leaf MapToken (record { kind = k; start = at; text = t }) ∷ is) (pieces_spelled ps (at + length t))

tokens-w : {B : Type 0} {g : F.Format B} {u : Writer B} (ps : List Piece) → IsWritten g u → IsWritten (F.many MapToken map_grammar.map_piece g) (pair (tokens_at (map map_token ps)) u)
tokens-w {g = g} {u = u} ps h = record {
  law = λ at.
      let n = at + length (bytes_of (map map_token ps)) in
      ap (λ is. is ++ g.spell (u.tree (at + length (bytes_of (map map_token ps))))) (pieces_spelled ps at)
      ∙ ap (λ is. spelled at (map map_token ps) ++ is) (h.law (at + length (bytes_of (map map_token ps))))
      ∙ sym (spelled_append (map map_token ps) u.pieces at);
}

pub written-w : (m : MapShape) → IsWritten map_grammar.written_map (written_at m)
unfolding map_grammar.written_map inner_pieces
written-w m = made-w _ _ (λ _. refl) (pair-w (put-w _ _ _) (pair-w (put-w _ _ _) (tokens-w (drop 2 (map_front MapToken m)) (put-w _ _ _))))

-- ---- each token is of its class

abbrev IsToken : Piece → Type 0
IsToken (Gap g) = Unit {0}
IsToken (Fixed l) = holds MapToken (lexeme_kind l) (lexeme_text l) ≡ true
IsToken (Leaf c k t) = holds MapToken k t ≡ true

abbrev AreTokens : List Piece → Type 0
AreTokens ps = AllByRecursion IsToken ps

both : (ps qs : List Piece) → AreTokens ps → AreTokens qs → AreTokens (ps ++ qs)
both [] qs f g = g
both (p ∷ ps) qs f g = (f.0, both ps qs f.1 g)

signed_fits : (z : ℤ) → AreTokens (canonical.signed_number MapToken z).pieces
signed_fits (pos n) = (refl, tt)
signed_fits (negsuc n) = (refl, (refl, tt))

times_fits : (f g : canonical.Writer Factor) → AreTokens f.pieces → AreTokens g.pieces → AreTokens (canonical.times MapToken f g).pieces
times_fits f g h k = both f.pieces _ h (tt, (refl, (tt, k)))

first_fits : (k : ℕ) (z : ℤ) (one minus : Bool)
    → AreTokens (cond one (canonical.alone (canonical.dimension MapToken k)) (cond minus (canonical.alone (canonical.negative MapToken (canonical.dimension MapToken k))) (canonical.times MapToken (canonical.dimension MapToken k) (canonical.signed_number MapToken z)))).pieces
first_fits k z true minus = (refl, tt)
first_fits k z false true = (refl, (refl, tt))
first_fits k z false false = times_fits (canonical.dimension MapToken k) (canonical.signed_number MapToken z) (refl, tt) (signed_fits z)

multiple_fits : (k n : ℕ) (one : Bool) → AreTokens (cond one (canonical.alone (canonical.dimension MapToken k)) (canonical.times MapToken (canonical.dimension MapToken k) (canonical.number MapToken n))).pieces
multiple_fits k n true = (refl, tt)
multiple_fits k n false = (refl, (tt, (refl, (tt, (refl, tt)))))

joined_fits : (z : ℤ) (p : canonical.Writer canonical.Product) (ps : canonical.Writer Products) → AreTokens p.pieces → AreTokens ps.pieces → AreTokens (canonical.joined MapToken z p ps).pieces
joined_fits (pos n) p ps h k = (tt, (refl, (tt, both p.pieces ps.pieces h k)))
joined_fits (negsuc n) p ps h k = (tt, (refl, (tt, both p.pieces ps.pieces h k)))

constant_fits : (z : ℤ) (none : Bool) → AreTokens (cond none canonical.no_product (canonical.joined MapToken z (canonical.alone (canonical.number MapToken (unsigned_abs z))) canonical.no_product)).pieces
constant_fits z true = tt
constant_fits z false = joined_fits z (canonical.alone (canonical.number MapToken (unsigned_abs z))) canonical.no_product (refl, tt) tt

later_fits : (ts : List (ℕ × ℤ)) (z : ℤ) → AreTokens (canonical.later_terms MapToken ts z).pieces
later_fits [] z = constant_fits z (unsigned_abs z == 0)
later_fits (t ∷ ts) z = joined_fits t.1 (canonical.multiple MapToken t.0 (unsigned_abs t.1)) (canonical.later_terms MapToken ts z) (multiple_fits t.0 (unsigned_abs t.1) (unsigned_abs t.1 == 1)) (later_fits ts z)

expression_fits : (ts : List (ℕ × ℤ)) (z : ℤ) → AreTokens (canonical.expression_by MapToken ts z).pieces
expression_fits [] z = both (canonical.signed_number MapToken z).pieces [] (signed_fits z) tt
expression_fits (t ∷ ts) z = both (canonical.first_term MapToken t).pieces (canonical.later_terms MapToken ts z).pieces (first_fits t.0 t.1 (is_one t.1) (is_minus_one t.1)) (later_fits ts z)

others_fit : {A : Type 0} (ws : List (canonical.Writer A)) → AllByRecursion (λ w. AreTokens w.pieces) ws → AreTokens (canonical.others ws).pieces
others_fit [] h = tt
others_fit (w ∷ ws) h = (refl, (tt, both w.pieces (canonical.others ws).pieces h.0 (others_fit ws h.1)))

items_fit : {A : Type 0} (ws : List (canonical.Writer A)) → AllByRecursion (λ w. AreTokens w.pieces) ws → AreTokens (canonical.items ws).pieces
items_fit [] h = tt
items_fit (w ∷ ws) h = both w.pieces (canonical.others ws).pieces h.0 (others_fit ws h.1)

declared_fit : (k n : ℕ) → AllByRecursion (λ w. AreTokens w.pieces) (canonical.declared_from MapToken k n)
declared_fit k zero = tt
declared_fit k (suc n) = ((refl, tt), declared_fit (suc k) n)

expressions_fit : (es : List Expr) → AllByRecursion (λ w. AreTokens w.pieces) (map (canonical.expression MapToken) es)
expressions_fit [] = tt
expressions_fit (e ∷ es) = (expression_fits e.terms e.constant, expressions_fit es)

front_fits : (m : MapShape) → AreTokens (drop 2 (map_front MapToken m))
unfolding map_front canonical.dimensions canonical.results
front_fits m = (
  refl,
  both (canonical.dimensions MapToken m.dims).pieces _ (items_fit (canonical.declared_from MapToken 0 m.dims) (declared_fit 0 m.dims))
      (refl, (tt, (refl, (tt, (refl, both (canonical.results MapToken m.results).pieces _ (items_fit (map (canonical.expression MapToken) m.results) (expressions_fit m.results)) (refl, tt)))))),
)

leaves_fit : (ps : List Piece) → AreTokens ps → LeavesFit (map map_token ps)
leaves_fit [] h = tt
leaves_fit (Gap g ∷ ps) h = leaves_fit ps h.1
leaves_fit (Fixed l ∷ ps) h = (h.0, leaves_fit ps h.1)
leaves_fit (Leaf c k t ∷ ps) h = (h.0, leaves_fit ps h.1)

pub written_fits : (m : MapShape) → LeavesFit (written_at m).pieces
unfolding inner_pieces
written_fits m = (refl, (refl, both_fit (inner_pieces m) _ (leaves_fit (drop 2 (map_front MapToken m)) (front_fits m)) (refl, tt)))

-- ---- its pieces are well spaced

abbrev closing : Piece
closing = Leaf (Exactly lexemes.Greater) (lexeme_kind lexemes.Greater) (lexeme_text lexemes.Greater)

inner_bytes : (ps : List Piece) → bytes_of (ps ++ Fixed lexemes.Greater ∷ []) ≡ bytes_of (map map_token ps ++ closing ∷ [])
inner_bytes [] = refl
inner_bytes (Gap g ∷ ps) = ap (λ (bs : List ℕ). g ++ bs) (inner_bytes ps)
inner_bytes (Fixed l ∷ ps) = ap (λ (bs : List ℕ). lexeme_text l ++ bs) (inner_bytes ps)
inner_bytes (Leaf c k t ∷ ps) = ap (λ (bs : List ℕ). t ++ bs) (inner_bytes ps)

inner_spaced : (ps : List Piece) (rest : List ℕ) → IsSpaced (ps ++ Fixed lexemes.Greater ∷ []) rest → IsSpaced (map map_token ps ++ closing ∷ []) rest
inner_spaced [] rest h = h
inner_spaced (Gap g ∷ ps) rest h = (h.0, inner_spaced ps rest h.1)
inner_spaced (Fixed l ∷ ps) rest h = (subst (λ (bs : List ℕ). Ends (lexeme_kind l) (lexeme_text l) (bs ++ rest)) (inner_bytes ps) h.0, inner_spaced ps rest h.1)
inner_spaced (Leaf c k t ∷ ps) rest h = (subst (λ (bs : List ℕ). Ends k t (bs ++ rest)) (inner_bytes ps) h.0, inner_spaced ps rest h.1)

abbrev opening : List Piece → List Piece
opening ps = Fixed lexemes.AffineMap ∷ Fixed lexemes.Less ∷ (ps ++ Fixed lexemes.Greater ∷ [])

written_if : (ps : List Piece) (rest : List ℕ) → IsSpaced (opening ps) rest
    → IsSpaced (Leaf (Exactly lexemes.AffineMap) (lexeme_kind lexemes.AffineMap) (lexeme_text lexemes.AffineMap) ∷ Leaf (Exactly lexemes.Less) (lexeme_kind lexemes.Less) (lexeme_text lexemes.Less) ∷ (map map_token ps ++ closing ∷ [])) rest
written_if ps rest h = (
  subst (λ (bs : List ℕ). Ends (lexeme_kind lexemes.AffineMap) (lexeme_text lexemes.AffineMap) ((lexeme_text lexemes.Less ++ bs) ++ rest)) (inner_bytes ps) h.0,
  (subst (λ (bs : List ℕ). Ends (lexeme_kind lexemes.Less) (lexeme_text lexemes.Less) (bs ++ rest)) (inner_bytes ps) h.1.0, inner_spaced ps rest h.1.1),
)

pub written_spaced : (m : MapShape) → IsMap m → (rest : List ℕ) → IsSpaced (written_at m).pieces rest
unfolding inner_pieces map_front
written_spaced m i rest = written_if (drop 2 (map_front MapToken m)) rest (map_spaced MapToken m i rest)

-- so anything may come behind it
pub written_then : (m : MapShape) {ps : List Piece} → IsMap m → IsApart ps → IsApart ((written_at m).pieces ++ ps)
written_then m {ps = ps} i h = record { spaced = λ rest t. spaced_append (written_at m).pieces ps rest (written_spaced m i (bytes_of ps ++ rest)) (h.spaced rest t) }

-- ---- it reads back

same_shapes : (ps : List Piece) (at : ℕ) → shapes_at at (map map_token ps) ≡ shapes_at at ps
same_shapes [] at = refl
same_shapes (Gap g ∷ ps) at = same_shapes ps (at + length g)
same_shapes (Fixed l ∷ ps) at = ap (λ (ts : List TokenShape). record { kind = lexeme_kind l; start = at; text = lexeme_text l } ∷ ts) (same_shapes ps (at + length (lexeme_text l)))
same_shapes (Leaf c k t ∷ ps) at = ap (λ (ts : List TokenShape). record { kind = k; start = at; text = t } ∷ ts) (same_shapes ps (at + length t))

same_bytes : (ps : List Piece) → bytes_of (map map_token ps) ≡ bytes_of ps
same_bytes [] = refl
same_bytes (Gap g ∷ ps) = ap (λ (bs : List ℕ). g ++ bs) (same_bytes ps)
same_bytes (Fixed l ∷ ps) = ap (λ (bs : List ℕ). lexeme_text l ++ bs) (same_bytes ps)
same_bytes (Leaf c k t ∷ ps) = ap (λ (bs : List ℕ). t ++ bs) (same_bytes ps)

kept : (ts : List TokenShape) → map (λ (p : MapPiece). p.token) (map (λ t. record { token = t }) ts) ≡ ts
kept [] = refl
kept (t ∷ ts) = ap (λ (us : List TokenShape). t ∷ us) (kept ts)

abbrev greater_at : ℕ → TokenShape
greater_at at = record { kind = lexeme_kind lexemes.Greater; start = at; text = lexeme_text lexemes.Greater }

tokens_are : (m : MapShape) (at : ℕ) → tokens_of ((written_at m).tree at) ≡ shapes_at at (map_pieces MapToken m)
unfolding inner_pieces map_front
tokens_are m at =
    let inner = drop 2 (map_front MapToken m) in
    ap (λ (ts : List TokenShape). record { kind = lexeme_kind lexemes.AffineMap; start = at; text = lexeme_text lexemes.AffineMap } ∷ record { kind = lexeme_kind lexemes.Less; start = at + 10; text = lexeme_text lexemes.Less } ∷ ts)
    (ap (λ (ts : List TokenShape). ts ++ greater_at (at + 10 + 1 + length (bytes_of (inner_pieces m))) ∷ []) (kept (shapes_at (at + 10 + 1) (inner_pieces m)) ∙ same_shapes (drop 2 (map_front MapToken m)) (at + 10 + 1))
    ∙ ap (λ (bs : List ℕ). shapes_at (at + 10 + 1) (drop 2 (map_front MapToken m)) ++ greater_at (at + 10 + 1 + length bs) ∷ []) (same_bytes (drop 2 (map_front MapToken m)))
    ∙ sym (shapes_append (drop 2 (map_front MapToken m)) (Fixed lexemes.Greater ∷ []) (at + 10 + 1)))

tree_tokens : (m : MapShape) (at : ℕ) → map_tokens (map_tree MapToken at m) ≡ tokens_of ((written_at m).tree at)
tree_tokens m at = map_spelled MapToken m at ∙ sym (tokens_are m at)

-- the map is read, whether symbols are allowed or not
pub written_found : (m : MapShape) (symbols : Bool) (at : ℕ) → IsMap m → written_map symbols ((written_at m).tree at) ≡ Ok m
written_found m symbols at i =
    ap map_or_fault (reads_tree symbols (tokens_of ((written_at m).tree at)) (map_tree MapToken at m) (map_fits MapToken at m symbols i) (tree_tokens m at) ∙ map_means MapToken at m i)

pub no_symbols : (m : MapShape) (at : ℕ) → has_symbols (tokens_of ((written_at m).tree at)) ≡ false
unfolding map_tree
no_symbols m at = ap has_symbols (sym (tree_tokens m at)) ∙ symbols_told (map_tree MapToken at m)
