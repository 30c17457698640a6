-- What is written with its tokens well spaced has these tokens, at these places.
use Rattle.std.proofs.Common.{◌≡◌, ℕ, zero, suc, ◌+◌, ◌-◌, ◌≤◌, true, List, [], ◌∷◌, ◌++◌, length, map, drop, slice_range, take, Ok, refl, sym, ap, subst, ◌∙◌, append_assoc, arith, length-append}
use Rattle.std.specs.List.{AllByRecursion}
use Rattle.std.proofs.lemmas.Bool.{cond-true}
use Rattle.std.proofs.lemmas.List.{drop_at, take_at, append-nil}
use Rattle.text_format.specs.declared.front.Kind.{Kind}
use Rattle.text_format.specs.declared.front.Front.TheVariants as fronts
use Rattle.text_format.specs.declared.span.Span.{Span}
use Rattle.text_format.specs.Bytes.{is_blank, front}
use Rattle.text_format.specs.Lexemes.{lexeme_kind, lexeme_text}
use Rattle.text_format.specs.Token.{TokenShape}
use Rattle.text_format.specs.Tokens.{before_others, tokens_from, tokens_of, with_text, with_texts, shapes_of}
use Rattle.text_format.specs.Pieces.{Piece, Gap, Fixed, Leaf, bytes_of, spans_at, shapes_at, Ends, IsSpaced}
use Rattle.text_format.proofs.Scans.{skip_step, token_step}

blank_front : (b : ℕ) (rest : List ℕ) → is_blank b ≡ true → front b rest ≡ fronts.Skip 1
unfolding front
blank_front b rest e = cond-true (is_blank b) _ _ e

-- a gap is skipped
gap : (g rest : List ℕ) (n m at : ℕ) → AllByRecursion (λ b. is_blank b ≡ true) g → n ≡ length g + m → tokens_from n at (g ++ rest) ≡ tokens_from m (at + length g) rest
gap [] rest n m at a e =
    let p : n ≡ m = omega arith in
    let q : at + 0 ≡ at = omega arith in
    ap (λ n. tokens_from n at rest) p ∙ sym (ap (λ k. tokens_from m k rest) q)
gap (b ∷ g) rest zero m at a e = absurd (omega arith)
gap (b ∷ g) rest (suc n) m at a e =
    let p : (at + 1) + length g ≡ at + length (b ∷ g) = omega arith in
    skip_step b (g ++ rest) n at 1 (blank_front b (g ++ rest) a.0) ∙ gap g rest n m (at + 1) a.1 (omega arith) ∙ ap (λ k. tokens_from m k rest) p

nothing : (n at : ℕ) → tokens_from n at [] ≡ Ok []
unfolding tokens_from
nothing zero at = refl
nothing (suc n) at = refl

-- a token is taken
one_token : (kind : Kind) (t rest : List ℕ) (n at : ℕ) (others : List Span) → Ends kind t rest → length t + length rest ≤ n → ((m : ℕ) → length rest ≤ m → tokens_from m (at + length t) rest ≡ Ok others)
    → tokens_from n at (t ++ rest) ≡ Ok (record { kind = kind; start = at; end = at + length t } ∷ others)
one_token kind [] rest n at others e le h = absurd e
one_token kind (b ∷ bs) rest zero at others e le h = absurd (omega arith)
one_token kind (b ∷ bs) rest (suc n) at others e le h =
    let k = length (b ∷ bs) in
    let token : Span = record { kind = kind; start = at; end = at + k } in
    token_step b (bs ++ rest) n at k kind e ∙ ap (before_others token) (ap (tokens_from n (at + k)) (drop_at (b ∷ bs) rest k refl) ∙ h n (omega arith))

ends_here : (k : Kind) (t : List ℕ) (ps : List Piece) → Ends k t (bytes_of ps ++ []) → Ends k t (bytes_of ps)
ends_here k t ps e = subst (λ bs. Ends k t bs) (append-nil (bytes_of ps)) e

-- the tokens of what was written, where the scan has this many steps left
written : (ps : List Piece) (n at : ℕ) → IsSpaced ps [] → length (bytes_of ps) ≤ n → tokens_from n at (bytes_of ps) ≡ Ok (spans_at at ps)
written [] n at s le = nothing n at
written (Gap g ∷ ps) n at s le =
    let e : n ≡ length g + (n - length g) = omega (arith, length-append g (bytes_of ps)) in
    gap g (bytes_of ps) n (n - length g) at s.0 e ∙ written ps (n - length g) (at + length g) s.1 (omega (arith, length-append g (bytes_of ps)))
written (Fixed l ∷ ps) n at s le =
    one_token (lexeme_kind l) (lexeme_text l) (bytes_of ps) n at (spans_at (at + length (lexeme_text l)) ps) (ends_here (lexeme_kind l) (lexeme_text l) ps s.0) (omega (arith, length-append (lexeme_text l) (bytes_of ps)))
    (λ m h. written ps m (at + length (lexeme_text l)) s.1 h)
written (Leaf c k t ∷ ps) n at s le =
    one_token k t (bytes_of ps) n at (spans_at (at + length t) ps) (ends_here k t ps s.0) (omega (arith, length-append t (bytes_of ps))) (λ m h. written ps m (at + length t) s.1 h)

-- well-spaced pieces have their tokens
pub spans_of_pieces : (ps : List Piece) → IsSpaced ps [] → tokens_of (bytes_of ps) ≡ Ok (spans_at 0 ps)
spans_of_pieces ps s = written ps (length (bytes_of ps)) 0 s (omega arith)

-- ---- with their texts

slice_here : (source before t after : List ℕ) (at : ℕ) → at ≡ length before → source ≡ before ++ (t ++ after) → slice_range source at (at + length t) ≡ t
slice_here source before t after at e s =
    let n : (at + length t) - at ≡ length t = omega arith in
    ap (λ k. take k (drop at source)) n ∙ ap (take (length t)) (ap (drop at) s ∙ drop_at before (t ++ after) at (sym e)) ∙ take_at t after (length t) refl

longer : (source before t after : List ℕ) → source ≡ before ++ (t ++ after) → source ≡ (before ++ t) ++ after
longer source before t after s = s ∙ sym (append_assoc before t after)

place_after : (before t : List ℕ) (at : ℕ) → at ≡ length before → at + length t ≡ length (before ++ t)
place_after before t at e = omega (arith, length-append before t)

one_text : (k : Kind) (t source : List ℕ) (at : ℕ) (spans : List Span) (shapes : List TokenShape) → slice_range source at (at + length t) ≡ t → map (with_text source) spans ≡ shapes
    → map (with_text source) (record { kind = k; start = at; end = at + length t } ∷ spans) ≡ record { kind = k; start = at; text = t } ∷ shapes
one_text k t source at spans shapes e f =
    let shape : List ℕ → TokenShape = λ x. record { kind = k; start = at; text = x } in
    ap (λ x. shape x ∷ map (with_text source) spans) e ∙ ap (λ (ts : List TokenShape). shape t ∷ ts) f

-- behind this much of the source
texts : (ps : List Piece) (source before : List ℕ) (at : ℕ) → at ≡ length before → source ≡ before ++ bytes_of ps → map (with_text source) (spans_at at ps) ≡ shapes_at at ps
texts [] source before at e s = refl
texts (Gap g ∷ ps) source before at e s = texts ps source (before ++ g) (at + length g) (place_after before g at e) (longer source before g (bytes_of ps) s)
texts (Fixed l ∷ ps) source before at e s = one_text (lexeme_kind l) (lexeme_text l) source at (spans_at (at + length (lexeme_text l)) ps) (shapes_at (at + length (lexeme_text l)) ps)
    (slice_here source before (lexeme_text l) (bytes_of ps) at e s)
    (texts ps source (before ++ lexeme_text l) (at + length (lexeme_text l)) (place_after before (lexeme_text l) at e) (longer source before (lexeme_text l) (bytes_of ps) s))
texts (Leaf c k t ∷ ps) source before at e s = one_text k t source at (spans_at (at + length t) ps) (shapes_at (at + length t) ps)
    (slice_here source before t (bytes_of ps) at e s)
    (texts ps source (before ++ t) (at + length t) (place_after before t at e) (longer source before t (bytes_of ps) s))

-- and these have their texts
pub shapes_of_pieces : (ps : List Piece) → IsSpaced ps [] → shapes_of (bytes_of ps) ≡ Ok (shapes_at 0 ps)
shapes_of_pieces ps s = ap (with_texts (bytes_of ps)) (spans_of_pieces ps s) ∙ ap (λ (ts : List TokenShape). Ok ts) (texts ps (bytes_of ps) [] 0 refl refl)
