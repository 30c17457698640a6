-- The token that a sign stands for.
use Rattle.std.proofs.Common.{◌≡◌, ℕ, Bool, true, false, List, [], codes, refl, sym, ap, subst, ◌∙◌, cond}
use Rattle.std.specs.Str.{bytes_eq}
use Rattle.std.proofs.lemmas.Slice.Eq.{bytes_eq-Decides}
use Rattle.text_format.specs.declared.front.Kind.{Kind}
use Rattle.text_format.specs.declared.front.Kind.TheVariants as kinds
use Rattle.text_format.specs.Token.{TokenShape}
use Rattle.affine_text.specs.declared.reading.place.Sign.{Sign}
use Rattle.affine_text.specs.declared.reading.place.Sign.TheVariants as signs
use Rattle.affine_text.specs.Grammar.{mark_at, word_at, number_at}
use Rattle.affine_text.specs.Reading.{mark_sign, sign_by, sign_of}

-- equal bytes
pub same_bytes : (xs ys : List ℕ) → bytes_eq xs ys ≡ true → xs ≡ ys
same_bytes xs ys e = (bytes_eq-Decides xs ys).0 e

abbrev pub mark_text : Sign → List ℕ
mark_text signs.Open = codes "("
mark_text signs.Close = codes ")"
mark_text signs.OpenBracket = codes "["
mark_text signs.CloseBracket = codes "]"
mark_text signs.Less = codes "<"
mark_text signs.Greater = codes ">"
mark_text signs.Comma = codes ","
mark_text signs.Arrow = codes "->"
mark_text signs.Plus = codes "+"
mark_text signs.Minus = codes "-"
mark_text signs.Times = codes "*"
mark_text g = []

abbrev pub IsMark : Sign → Type 0
IsMark signs.Word = ⊥
IsMark signs.Number = ⊥
IsMark signs.Other = ⊥
IsMark g = Unit {0}

told_step : (b : Bool) (text : List ℕ) (g rest : Sign) → bytes_eq text (mark_text g) ≡ b → (IsMark rest → text ≡ mark_text rest) → IsMark (cond b g rest) → text ≡ mark_text (cond b g rest)
told_step true text g rest e h m = same_bytes text (mark_text g) e
told_step false text g rest e h m = h m

-- a mark's sign tells its text
told : (text : List ℕ) → IsMark (mark_sign text) → text ≡ mark_text (mark_sign text)
unfolding mark_sign
told text =
    told_step (bytes_eq text (codes "(")) text signs.Open _ refl
    (told_step (bytes_eq text (codes ")")) text signs.Close _ refl
    (told_step (bytes_eq text (codes "[")) text signs.OpenBracket _ refl
    (told_step (bytes_eq text (codes "]")) text signs.CloseBracket _ refl
    (told_step (bytes_eq text (codes "<")) text signs.Less _ refl
    (told_step (bytes_eq text (codes ">")) text signs.Greater _ refl
    (told_step (bytes_eq text (codes ",")) text signs.Comma _ refl
    (told_step (bytes_eq text (codes "->")) text signs.Arrow _ refl
    (told_step (bytes_eq text (codes "+")) text signs.Plus _ refl
    (told_step (bytes_eq text (codes "-")) text signs.Minus _ refl
    (told_step (bytes_eq text (codes "*")) text signs.Times signs.Other refl (λ m. absurd m)))))))))))

by_mark : (start : ℕ) (text : List ℕ) (g : Sign) → mark_sign text ≡ g → IsMark g → mark_at start text ≡ mark_at start (mark_text g)
by_mark start text g e m = ap (mark_at start) (told text (subst IsMark (sym e) m) ∙ ap mark_text e)

not_mark : (h g : Sign) → (IsMark h → ⊥) → h ≡ g → IsMark g → ⊥
not_mark h g n e m = n (subst IsMark (sym e) m)

mark_by : (k : Kind) (start : ℕ) (text : List ℕ) (g : Sign) → sign_by k text ≡ g → IsMark g → (record { kind = k; start = start; text = text }) ≡ mark_at start (mark_text g)
mark_by kinds.Mark start text g e m = by_mark start text g e m
mark_by kinds.Word start text g e m = absurd (not_mark signs.Word g (λ x. x) e m)
mark_by kinds.Number start text g e m = absurd (not_mark signs.Number g (λ x. x) e m)
mark_by _ start text g e m = absurd (not_mark signs.Other g (λ x. x) e m)

pub mark_token : (t : TokenShape) (g : Sign) → sign_of t ≡ g → IsMark g → t ≡ mark_at t.start (mark_text g)
mark_token t g e m = mark_by t.kind t.start t.text g e m

none_step : (b : Bool) (h rest g : Sign) → IsMark h → (rest ≡ g → (IsMark g → ⊥) → (g ≡ signs.Other → ⊥) → ⊥) → cond b h rest ≡ g → (IsMark g → ⊥) → (g ≡ signs.Other → ⊥) → ⊥
none_step true h rest g m next e n o = n (subst IsMark e m)
none_step false h rest g m next e n o = next e n o

mark_is_none : (text : List ℕ) (g : Sign) → mark_sign text ≡ g → (IsMark g → ⊥) → (g ≡ signs.Other → ⊥) → ⊥
unfolding mark_sign
mark_is_none text g e n o = none_step (bytes_eq text (codes "(")) signs.Open _ g tt
    (none_step (bytes_eq text (codes ")")) signs.Close _ g tt
    (none_step (bytes_eq text (codes "[")) signs.OpenBracket _ g tt
    (none_step (bytes_eq text (codes "]")) signs.CloseBracket _ g tt
    (none_step (bytes_eq text (codes "<")) signs.Less _ g tt
    (none_step (bytes_eq text (codes ">")) signs.Greater _ g tt
    (none_step (bytes_eq text (codes ",")) signs.Comma _ g tt
    (none_step (bytes_eq text (codes "->")) signs.Arrow _ g tt
    (none_step (bytes_eq text (codes "+")) signs.Plus _ g tt
    (none_step (bytes_eq text (codes "-")) signs.Minus _ g tt
    (none_step (bytes_eq text (codes "*")) signs.Times signs.Other g tt (λ f m h. h (sym f))))))))))))
    e n o

word_by : (k : Kind) (start : ℕ) (text : List ℕ) → sign_by k text ≡ signs.Word → (record { kind = k; start = start; text = text }) ≡ word_at start text
word_by kinds.Word start text e = refl
word_by kinds.Mark start text e = absurd (mark_is_none text signs.Word e (λ x. x) (λ h. absurd cc))
word_by _ start text e = absurd cc

number_by : (k : Kind) (start : ℕ) (text : List ℕ) → sign_by k text ≡ signs.Number → (record { kind = k; start = start; text = text }) ≡ number_at start text
number_by kinds.Number start text e = refl
number_by kinds.Mark start text e = absurd (mark_is_none text signs.Number e (λ x. x) (λ h. absurd cc))
number_by _ start text e = absurd cc

pub word_token : (t : TokenShape) → sign_of t ≡ signs.Word → t ≡ word_at t.start t.text
word_token t e = word_by t.kind t.start t.text e

pub number_token : (t : TokenShape) → sign_of t ≡ signs.Number → t ≡ number_at t.start t.text
number_token t e = number_by t.kind t.start t.text e
