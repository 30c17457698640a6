-- Writers: the tree of a text is spelled by its pieces, each token is of its class, and the pieces are well spaced.
use Rattle.std.proofs.Common.{◌≡◌, ℕ, ◌+◌, true, List, [], ◌∷◌, ◌++◌, map, length, refl, sym, ap, ◌∙◌, append_assoc, arith, length-append, codes}
use Rattle.std.specs.List.{AllByRecursion}
use Rattle.std.proofs.lemmas.List.{append-nil}
use Rattle.text_format.specs.declared.class.Class.{Class}
use Rattle.text_format.specs.declared.front.Kind.{Kind}
use Rattle.text_format.specs.declared.lexeme.Lexeme.{Lexeme}
use Rattle.text_format.specs.declared.lexeme.Lexeme.TheVariants as lexemes
use Rattle.text_format.specs.Lexemes.{lexeme_text}
use Rattle.text_format.specs.Classes.{holds}
use Rattle.text_format.specs.Laws.{Matches}
use Rattle.text_format.specs.Token.{TokenShape}
use Rattle.text_format.specs.Pieces as P
use Rattle.text_format.specs.Pieces.{Piece, bytes_of, shapes_at}
use Rattle.text_format.specs.Formats as F
use Rattle.text_format.specs.Formats.{Item, Format, leaf, ◌⊗◌, as_record, ◌▸◌, before, many, spell_many, list_before, list_parts}
use Rattle.text_format.specs.Writers.{Writer, put, lay, gap, space, lay_after, pair, made, each_of, commas, after_comma}
use Rattle.text_format.proofs.Spacing.{IsApart, Opens, none_apart, none_opens, append_apart, append_opens, fixed_closed, fixed_opens}
use Rattle.text_format.proofs.Spacing as S

pub bytes_append : (ps qs : List Piece) → bytes_of (ps ++ qs) ≡ bytes_of ps ++ bytes_of qs
bytes_append [] qs = refl
bytes_append (P.Gap g ∷ ps) qs = ap (λ (bs : List ℕ). g ++ bs) (bytes_append ps qs) ∙ sym (append_assoc g (bytes_of ps) (bytes_of qs))
bytes_append (P.Fixed l ∷ ps) qs = ap (λ (bs : List ℕ). lexeme_text l ++ bs) (bytes_append ps qs) ∙ sym (append_assoc (lexeme_text l) (bytes_of ps) (bytes_of qs))
bytes_append (P.Leaf c k t ∷ ps) qs = ap (λ (bs : List ℕ). t ++ bs) (bytes_append ps qs) ∙ sym (append_assoc t (bytes_of ps) (bytes_of qs))

-- what is spelled, where the pieces begin at a place
abbrev pub spelled : ℕ → List Piece → List Item
spelled at [] = []
spelled at (P.Gap g ∷ ps) = spelled (at + length g) ps
spelled at (P.Fixed l ∷ ps) = F.Fixed l ∷ spelled (at + length (lexeme_text l)) ps
spelled at (P.Leaf c k t ∷ ps) = F.Leaf c (record { kind = k; start = at; text = t }) ∷ spelled (at + length t) ps

pub spelled_append : (ps qs : List Piece) (at : ℕ) → spelled at (ps ++ qs) ≡ spelled at ps ++ spelled (at + length (bytes_of ps)) qs
spelled_append [] qs at = let e : at ≡ at + 0 = omega arith in ap (λ k. spelled k qs) e
spelled_append (P.Gap g ∷ ps) qs at =
    let e : (at + length g) + length (bytes_of ps) ≡ at + length (g ++ bytes_of ps) = omega (arith, length-append g (bytes_of ps)) in
    spelled_append ps qs (at + length g) ∙ ap (λ k. spelled (at + length g) ps ++ spelled k qs) e
spelled_append (P.Fixed l ∷ ps) qs at =
    let t = lexeme_text l in
    let e : (at + length (lexeme_text l)) + length (bytes_of ps) ≡ at + length (lexeme_text l ++ bytes_of ps) = omega (arith, length-append (lexeme_text l) (bytes_of ps)) in
    ap (λ is. F.Fixed l ∷ is) (spelled_append ps qs (at + length (lexeme_text l)) ∙ ap (λ k. spelled (at + length (lexeme_text l)) ps ++ spelled k qs) e)
spelled_append (P.Leaf c kind t ∷ ps) qs at =
    let e : (at + length t) + length (bytes_of ps) ≡ at + length (t ++ bytes_of ps) = omega (arith, length-append t (bytes_of ps)) in
    ap (λ is. F.Leaf c (record { kind = kind; start = at; text = t }) ∷ is) (spelled_append ps qs (at + length t) ∙ ap (λ k. spelled (at + length t) ps ++ spelled k qs) e)

-- the tree is spelled with what is written
pub record IsWritten {A : Type 0} (f : Format A) (v : Writer A) : Type 0 where
  pub law : (at : ℕ) → f.spell (v.tree at) ≡ spelled at v.pieces

pub put-w : (c : Class) (kind : Kind) (t : List ℕ) → IsWritten (leaf c) (put c kind t)
put-w c kind t = record { law = λ at. refl }

pub lay-w : {A : Type 0} (l : Lexeme) {f : Format A} {v : Writer A} → IsWritten f v → IsWritten (l ▸ f) (lay l v)
lay-w l h = record { law = λ at. ap (λ is. F.Fixed l ∷ is) (h.law (at + length (lexeme_text l))) }

pub gap-w : {A : Type 0} (g : List ℕ) {f : Format A} {v : Writer A} → IsWritten f v → IsWritten f (gap g v)
gap-w g h = record { law = λ at. h.law (at + length g) }

pub sp-w : {A : Type 0} {f : Format A} {v : Writer A} → IsWritten f v → IsWritten f (space v)
sp-w h = gap-w (codes " ") h

pub pair-w : {A B : Type 0} {f : Format A} {g : Format B} {v : Writer A} {u : Writer B} → IsWritten f v → IsWritten g u → IsWritten (f ⊗ g) (pair v u)
pair-w {f = f} {g = g} {v = v} {u = u} h k = record {
  law = λ at.
      ap (λ is. is ++ g.spell (u.tree (at + length (bytes_of v.pieces)))) (h.law at) ∙ ap (λ is. spelled at v.pieces ++ is) (k.law (at + length (bytes_of v.pieces))) ∙ sym (spelled_append v.pieces u.pieces at);
}

pub made-w : {A B : Type 0} (make : A → B) (parts : B → A) → ((x : A) → parts (make x) ≡ x) → {f : Format A} {v : Writer A} → IsWritten f v → IsWritten (as_record make parts f) (made make v)
made-w make parts e {f = f} {v = v} h = record { law = λ at. ap f.spell (e (v.tree at)) ∙ h.law at }

-- a fixed token behind
pub before-w : {A : Type 0} (l : Lexeme) {f : Format A} {v : Writer A} (ps : List Piece) → ((at : ℕ) → spelled at ps ≡ F.Fixed l ∷ []) → IsWritten f v → IsWritten (before l f) (lay_after v ps)
before-w l {f = f} {v = v} ps e h = record { law = λ at. ap (λ is. is ++ F.Fixed l ∷ []) (h.law at) ∙ ap (λ is. spelled at v.pieces ++ is) (sym (e (at + length (bytes_of v.pieces)))) ∙ sym (spelled_append v.pieces ps at) }

-- blanks behind
pub blank-w : {A : Type 0} {f : Format A} {v : Writer A} (ps : List Piece) → ((at : ℕ) → spelled at ps ≡ []) → IsWritten f v → IsWritten f (lay_after v ps)
blank-w {f = f} {v = v} ps e h = record { law = λ at. h.law at ∙ sym (append-nil (spelled at v.pieces)) ∙ ap (λ is. spelled at v.pieces ++ is) (sym (e (at + length (bytes_of v.pieces)))) ∙ sym (spelled_append v.pieces ps at) }

abbrev pub AreWritten : {A : Type 0} → Format A → List (Writer A) → Type 0
AreWritten f ws = AllByRecursion (IsWritten f) ws

pub each_spelled : {A : Type 0} (f : Format A) (ws : List (Writer A)) → AreWritten f ws → (at : ℕ) → spell_many f ((each_of ws).tree at) ≡ spelled at (each_of ws).pieces
each_spelled f [] h at = refl
each_spelled f (v ∷ ws) h at =
    let r = each_of ws in
    ap (λ is. is ++ spell_many f (r.tree (at + length (bytes_of v.pieces)))) (h.0.law at) ∙ ap (λ is. spelled at v.pieces ++ is) (each_spelled f ws h.1 (at + length (bytes_of v.pieces))) ∙ sym (spelled_append v.pieces r.pieces at)

pub many-w : {A B : Type 0} (c : Class) (f : Format A) {g : Format B} (ws : List (Writer A)) {u : Writer B} → AreWritten f ws → IsWritten g u → IsWritten (many c f g) (pair (each_of ws) u)
many-w c f {g = g} ws {u = u} h k = record {
  law = λ at.
      ap (λ is. is ++ g.spell (u.tree (at + length (bytes_of (each_of ws).pieces)))) (each_spelled f ws h at) ∙ ap (λ is. spelled at (each_of ws).pieces ++ is) (k.law (at + length (bytes_of (each_of ws).pieces))) ∙ sym (spelled_append (each_of ws).pieces u.pieces at);
}

pub after_written : {A : Type 0} (f : Format A) (ws : List (Writer A)) → AreWritten f ws → AreWritten (lexemes.Comma ▸ f) (map after_comma ws)
after_written f [] h = tt
after_written f (w ∷ ws) h = (lay-w lexemes.Comma (sp-w h.0), after_written f ws h.1)

-- a list up to its closing token
pub commas_spelled : {A : Type 0} (close : Lexeme) (f : Format A) (ws : List (Writer A)) → AreWritten f ws → (at : ℕ) → (list_before close f).spell ((commas ws).tree at) ≡ spelled at (commas ws).pieces ++ F.Fixed close ∷ []
unfolding list_before
commas_spelled close f [] h at = refl
commas_spelled close f (w ∷ ws) h at =
    let r = each_of (map after_comma ws) in
    ap (λ is. is ++ (spell_many (lexemes.Comma ▸ f) (r.tree (at + length (bytes_of w.pieces))) ++ F.Fixed close ∷ [])) (h.0.law at)
    ∙ ap (λ is. spelled at w.pieces ++ (is ++ F.Fixed close ∷ [])) (each_spelled (lexemes.Comma ▸ f) (map after_comma ws) (after_written f ws h.1) (at + length (bytes_of w.pieces)))
    ∙ sym (append_assoc (spelled at w.pieces) (spelled (at + length (bytes_of w.pieces)) r.pieces) (F.Fixed close ∷ []))
    ∙ ap (λ is. is ++ F.Fixed close ∷ []) (sym (spelled_append w.pieces r.pieces at))

pub list-w : {A B : Type 0} (close : Lexeme) (f : Format A) {g : Format B} (ws : List (Writer A)) {u : Writer B} → AreWritten f ws → IsWritten g u → IsWritten (list_before close f ⊗ g) (pair (commas ws) (lay close u))
list-w close f {g = g} ws {u = u} h k = record {
  law = λ at.
      let c = commas ws in
      let n = at + length (bytes_of c.pieces) in
      ap (λ is. is ++ g.spell (u.tree (at + length (bytes_of (commas ws).pieces) + length (lexeme_text close)))) (commas_spelled close f ws h at)
      ∙ append_assoc (spelled at (commas ws).pieces) (F.Fixed close ∷ []) (g.spell (u.tree (at + length (bytes_of (commas ws).pieces) + length (lexeme_text close))))
      ∙ ap (λ is. spelled at (commas ws).pieces ++ F.Fixed close ∷ is) (k.law (at + length (bytes_of (commas ws).pieces) + length (lexeme_text close)))
      ∙ sym (spelled_append (commas ws).pieces (lay close u).pieces at);
}

-- pieces behind, that are spelled by a format of fixed tokens
pub behind-w : {A : Type 0} {f : Format A} {v : Writer A} (g : Format (Unit {0})) (ps : List Piece) → ((at : ℕ) → spelled at ps ≡ g.spell tt) → IsWritten f v → IsWritten (as_record (λ x. x.0) (λ y. (y, tt)) (f ⊗ g)) (lay_after v ps)
behind-w {f = f} {v = v} g ps e h = record { law = λ at. ap (λ is. is ++ g.spell tt) (h.law at) ∙ ap (λ is. spelled at v.pieces ++ is) (sym (e (at + length (bytes_of v.pieces)))) ∙ sym (spelled_append v.pieces ps at) }

-- a list and its closing token
pub list_end-w : {A : Type 0} (close : Lexeme) (f : Format A) (ws : List (Writer A)) → AreWritten f ws → IsWritten (list_before close f) (lay_after (commas ws) (P.Fixed close ∷ []))
list_end-w close f ws h = record { law = λ at. commas_spelled close f ws h at ∙ sym (spelled_append (commas ws).pieces (P.Fixed close ∷ []) at) }

-- ---- classes

-- each leaf is of its class
abbrev pub LeavesFit : List Piece → Type 0
LeavesFit [] = Unit {0}
LeavesFit (P.Gap g ∷ ps) = LeavesFit ps
LeavesFit (P.Fixed l ∷ ps) = LeavesFit ps
LeavesFit (P.Leaf c k t ∷ ps) = (holds c k t ≡ true) × LeavesFit ps

-- the tokens are those that are spelled
pub matched : (ps : List Piece) → LeavesFit ps → (at : ℕ) → Matches (spelled at ps) (shapes_at at ps)
matched [] f at = tt
matched (P.Gap g ∷ ps) f at = matched ps f (at + length g)
matched (P.Fixed l ∷ ps) f at = ((refl, refl), matched ps f _)
matched (P.Leaf c k t ∷ ps) f at = ((f.0, refl), matched ps f.1 (at + length t))

pub both_fit : (ps qs : List Piece) → LeavesFit ps → LeavesFit qs → LeavesFit (ps ++ qs)
both_fit [] qs f g = g
both_fit (P.Gap x ∷ ps) qs f g = both_fit ps qs f g
both_fit (P.Fixed l ∷ ps) qs f g = both_fit ps qs f g
both_fit (P.Leaf c k t ∷ ps) qs f g = (f.0, both_fit ps qs f.1 g)

abbrev pub AreFit : {A : Type 0} → List (Writer A) → Type 0
AreFit ws = AllByRecursion (λ w. LeavesFit w.pieces) ws

pub each_fit : {A : Type 0} (ws : List (Writer A)) → AreFit ws → LeavesFit (each_of ws).pieces
each_fit [] f = tt
each_fit (w ∷ ws) f = both_fit w.pieces (each_of ws).pieces f.0 (each_fit ws f.1)

after_fit : {A : Type 0} (ws : List (Writer A)) → AreFit ws → LeavesFit (each_of (map after_comma ws)).pieces
after_fit [] f = tt
after_fit (w ∷ ws) f = both_fit w.pieces (each_of (map after_comma ws)).pieces f.0 (after_fit ws f.1)

pub commas_fit : {A : Type 0} (ws : List (Writer A)) → AreFit ws → LeavesFit (commas ws).pieces
commas_fit [] f = tt
commas_fit (w ∷ ws) f = both_fit w.pieces (each_of (map after_comma ws)).pieces f.0 (after_fit ws f.1)

-- ---- spacing

abbrev pub AreApart : {A : Type 0} → List (Writer A) → Type 0
AreApart ws = AllByRecursion (λ w. IsApart w.pieces) ws

abbrev pub AreOpen : {A : Type 0} → List (Writer A) → Type 0
AreOpen ws = AllByRecursion (λ w. Opens w.pieces) ws

pub each_apart : {A : Type 0} (ws : List (Writer A)) → AreApart ws → AreOpen ws → IsApart (each_of ws).pieces × Opens (each_of ws).pieces
each_apart [] a o = (none_apart, none_opens)
each_apart (w ∷ ws) a o = let r = each_apart ws a.1 o.1 in (append_apart w.pieces (each_of ws).pieces a.0 r.1 r.0, append_opens w.pieces (each_of ws).pieces o.0 r.1)

commas_on : {A : Type 0} (ws : List (Writer A)) → AreApart ws → IsApart (each_of (map after_comma ws)).pieces × Opens (each_of (map after_comma ws)).pieces
commas_on [] a = (none_apart, none_opens)
commas_on (w ∷ ws) a =
    let r = commas_on ws a.1 in
    (fixed_closed lexemes.Comma refl (S.space (append_apart w.pieces (each_of (map after_comma ws)).pieces a.0 r.1 r.0)), fixed_opens lexemes.Comma refl)

pub commas_apart : {A : Type 0} (ws : List (Writer A)) → AreApart ws → IsApart (commas ws).pieces
commas_apart [] a = none_apart
commas_apart (w ∷ ws) a = let r = commas_on ws a.1 in append_apart w.pieces (each_of (map after_comma ws)).pieces a.0 r.1 r.0
