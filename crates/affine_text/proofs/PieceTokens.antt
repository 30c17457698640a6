-- The tokens of a text that begins with well-spaced pieces.
use Rattle.std.proofs.Common.{◌≡◌, ◌≤◌, ◌-◌, ℕ, zero, suc, ◌+◌, true, List, [], ◌∷◌, ◌++◌, length, drop, refl, ap, ◌∙◌, append_assoc, arith, length-append}
use Rattle.std.specs.List.{AllByRecursion}
use Rattle.std.proofs.lemmas.Bool.{cond-true}
use Rattle.std.proofs.lemmas.List.{drop_at, take_at}
use Rattle.text_format.specs.declared.front.Kind.{Kind}
use Rattle.text_format.specs.declared.front.Front.{Front}
use Rattle.text_format.specs.declared.front.Front.TheVariants as fronts
use Rattle.text_format.specs.Bytes.{is_blank, front}
use Rattle.text_format.specs.Lexemes.{lexeme_kind, lexeme_text}
use Rattle.text_format.specs.Token.{TokenShape}
use Rattle.text_format.specs.Pieces.{Piece, Gap, Fixed, Leaf, bytes_of, shapes_at, Ends, IsSpaced}
use Rattle.affine_text.specs.Faults.{Stream, stream_by, stream_from}

-- the stream's tokens begin with these
abbrev pub BeginsWith : Stream → List TokenShape → Type 0
BeginsWith s ts = (after : List TokenShape) × (s.tokens ≡ ts ++ after)

blank_front : (b : ℕ) (rest : List ℕ) → is_blank b ≡ true → front b rest ≡ fronts.Skip 1
unfolding front
blank_front b rest e = cond-true (is_blank b) _ _ e

-- a gap is skipped
gap : (g rest : List ℕ) (n at : ℕ) → AllByRecursion (λ b. is_blank b ≡ true) g → length g ≤ n → stream_from n at (g ++ rest) ≡ stream_from (n - length g) (at + length g) rest
unfolding stream_from
gap [] rest n at a h =
    let p : n ≡ n - 0 = omega arith in
    let q : at ≡ at + 0 = omega arith in
    ap (λ k. stream_from k at rest) p ∙ ap (λ k. stream_from (n - 0) k rest) q
gap (b ∷ g) rest zero at a h = absurd (omega (arith, h))
gap (b ∷ g) rest (suc n) at a h =
    let p : (at + 1) + length g ≡ at + suc (length g) = omega arith in
    let q : n - length g ≡ suc n - suc (length g) = omega arith in
    ap (stream_by at (b ∷ (g ++ rest)) (λ k. stream_from n (at + k) (drop k (b ∷ (g ++ rest))))) (blank_front b (g ++ rest) a.0)
    ∙ gap g rest n (at + 1) a.1 (omega (arith, h)) ∙ ap (λ k. stream_from (n - length g) k rest) p ∙ ap (λ k. stream_from k (at + suc (length g)) rest) q

-- a token is taken
token : (kind : Kind) (t rest : List ℕ) (n at : ℕ) (ts : List TokenShape) → Ends kind t rest → length t ≤ n → ((m : ℕ) → n - length t ≤ m → BeginsWith (stream_from m (at + length t) rest) ts)
    → BeginsWith (stream_from n at (t ++ rest)) (record { kind = kind; start = at; text = t } ∷ ts)
unfolding stream_from
token kind [] rest n at ts e le h = absurd e
token kind (b ∷ bs) rest zero at ts e le h = absurd (omega (arith, le))
token kind (b ∷ bs) rest (suc n) at ts e le h =
    let k = length (b ∷ bs) in
    let all = b ∷ (bs ++ rest) in
    let more = h n (omega arith) in
    let shape : List ℕ → TokenShape = λ x. record { kind = kind; start = at; text = x } in
    let read = ap (λ (f : Front). (stream_by at all (λ j. stream_from n (at + j) (drop j all)) f).tokens) e in (
      more.0,
      read ∙ ap (λ (x : List ℕ). shape x ∷ (stream_from n (at + k) (drop k all)).tokens) (take_at (b ∷ bs) rest k refl)
          ∙ ap (λ (x : List ℕ). shape (b ∷ bs) ∷ (stream_from n (at + k) x).tokens) (drop_at (b ∷ bs) rest k refl)
          ∙ ap (λ (us : List TokenShape). shape (b ∷ bs) ∷ us) more.1,
    )

longer : (text : List ℕ) (ps : List Piece) (rest : List ℕ) (n at : ℕ) (ts : List TokenShape) → BeginsWith (stream_from n at (text ++ (bytes_of ps ++ rest))) ts → BeginsWith (stream_from n at ((text ++ bytes_of ps) ++ rest)) ts
longer text ps rest n at ts h = (h.0, ap (λ (bs : List ℕ). (stream_from n at bs).tokens) (append_assoc text (bytes_of ps) rest) ∙ h.1)

pieces : (ps : List Piece) (rest : List ℕ) (n at : ℕ) → IsSpaced ps rest → length (bytes_of ps) ≤ n → BeginsWith (stream_from n at (bytes_of ps ++ rest)) (shapes_at at ps)
pieces [] rest n at s h = ((stream_from n at rest).tokens, refl)
pieces (Gap g ∷ ps) rest n at s h =
    let le : length g ≤ n = omega (arith, length-append g (bytes_of ps), h) in
    let more = pieces ps rest (n - length g) (at + length g) s.1 (omega (arith, length-append g (bytes_of ps), h)) in
    longer g ps rest n at (shapes_at at (Gap g ∷ ps)) (more.0, ap (λ (x : Stream). x.tokens) (gap g (bytes_of ps ++ rest) n at s.0 le) ∙ more.1)
pieces (Fixed l ∷ ps) rest n at s h =
    longer (lexeme_text l) ps rest n at (shapes_at at (Fixed l ∷ ps))
    (token (lexeme_kind l) (lexeme_text l) (bytes_of ps ++ rest) n at (shapes_at (at + length (lexeme_text l)) ps) s.0 (omega (arith, length-append (lexeme_text l) (bytes_of ps), h))
    (λ m le. pieces ps rest m (at + length (lexeme_text l)) s.1 (omega (arith, length-append (lexeme_text l) (bytes_of ps), h, le))))
pieces (Leaf c k t ∷ ps) rest n at s h =
    longer t ps rest n at (shapes_at at (Leaf c k t ∷ ps))
    (token k t (bytes_of ps ++ rest) n at (shapes_at (at + length t) ps) s.0 (omega (arith, length-append t (bytes_of ps), h)) (λ m le. pieces ps rest m (at + length t) s.1 (omega (arith, length-append t (bytes_of ps), h, le))))

-- a text that begins with well-spaced pieces has their tokens first
pub stream_of_pieces : (ps : List Piece) (rest : List ℕ) → IsSpaced ps rest → BeginsWith (stream_from (length (bytes_of ps ++ rest)) 0 (bytes_of ps ++ rest)) (shapes_at 0 ps)
stream_of_pieces ps rest s = pieces ps rest (length (bytes_of ps ++ rest)) 0 s (omega (arith, length-append (bytes_of ps) rest))
