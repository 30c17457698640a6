-- What is written for a form is well spaced, and each leaf is of its class: one induction over the form.
use Rattle.std.proofs.Common.{◌≡◌, ◌<◌, ◌≤◌, ◌==◌, ℕ, zero, suc, Bool, true, false, cond, not, ◌&&◌, List, [], ◌∷◌, ◌++◌, map, length, refl, codes, nat_le, arith}
use Rattle.std.specs.List.{AllByRecursion}
use Rattle.std.proofs.lemmas.Bool.{and_parts, leb-true, ne_eqb}
use Rattle.text_format.specs.declared.class.Class.{Class}
use Rattle.text_format.specs.declared.class.Class.TheVariants.{Exactly, Value, Alias, Number, DenseToken}
use Rattle.text_format.specs.declared.front.Kind.TheVariants as tokens
use Rattle.text_format.specs.declared.front.ByteClass.TheVariants.{Digit}
use Rattle.text_format.specs.declared.lexeme.Lexeme.{Lexeme}
use Rattle.text_format.specs.declared.lexeme.Lexeme.TheVariants.{Comma, Minus}
use Rattle.text_format.specs.Bytes.{is_digit, belongs}
use Rattle.text_format.specs.Apart.{fixed_fits}
use Rattle.text_format.specs.Classes.{holds, missing}
use Rattle.text_format.specs.Lexemes.{lexeme_kind, lexeme_text}
use Rattle.text_format.specs.Numerals.{numeral}
use Rattle.text_format.specs.Pieces.{Piece, Gap, Fixed, Leaf}
use Rattle.text_format.proofs.Numerals.{numeral_some}
use Rattle.text_format.proofs.Spacing.{all_in, IsName, IsApart, Opens, none_apart, none_opens, number_name, numeral_name, numeral_in_digits, minus_ends, is_closed_lexeme, is_minus, opens_lexeme, fixed_closed, fixed_word, fixed_opens, leaf_name, leaf_closed, leaf_opens, lexeme_closed, lexeme_name, append_apart, append_opens, space_opens}
use Rattle.text_format.proofs.Spacing as S
use Rattle.text_format.proofs.Written.{LeavesFit, AreApart, AreOpen, AreFit, both_fit, each_fit, each_apart}
use Rattle.form_table.specs.declared.field.Word.{Word}
use Rattle.form_table.specs.declared.field.Word.TheVariants as words
use Rattle.form_table.specs.declared.field.Field.{Field}
use Rattle.form_table.specs.declared.field.Field.TheVariants as fields
use Rattle.form_table.specs.declared.want.Element.{Element}
use Rattle.form_table.specs.declared.want.Element.TheVariants as elements
use Rattle.form_table.specs.declared.want.Want.{Want}
use Rattle.form_table.specs.declared.want.Want.TheVariants as wants
use Rattle.form_table.specs.declared.want.Opcode.{Opcode}
use Rattle.form_table.specs.declared.want.Opcode.TheVariants as opcodes
use Rattle.form_table.specs.Form.{form, tail}
use Rattle.form_table.specs.Spelling.{SpellingShape}
use Rattle.form_table.specs.Writing.{word_w, next_w, more_w, listed_w, dense_piece_w, dense_w, written}
use Rattle.form_laws.specs.Fits.{Stops, IsToken, IsWord, AreWords, AreDense, Fits}

-- ---- which forms are well spaced

-- what is written begins with a blank or with a mark that ends a name
abbrev pub opens : List Want → ℕ → Bool
opens [] k = true
opens (w ∷ ws) (suc k) = opens ws k
opens (wants.Fixed l ∷ ws) zero = opens_lexeme l
opens (wants.Space ∷ ws) zero = true
opens (wants.Kept l ∷ ws) zero = opens_lexeme l
opens (wants.More e r ∷ ws) zero = opens ws zero
opens (wants.Maybe l n ∷ ws) zero = opens ws zero && opens ws n
opens (wants.Jump n ∷ ws) zero = opens ws n
opens (w ∷ ws) zero = false

-- the token ends before anything, or before what opens
abbrev pub ends : Lexeme → Bool → Bool
ends l o = cond (is_closed_lexeme l) true (not (is_minus l) && o)

abbrev pub is_spaced : List Want → ℕ → Bool
is_spaced [] k = true
is_spaced (w ∷ ws) (suc k) = is_spaced ws k
is_spaced (wants.Fixed l ∷ ws) zero = ends l (opens ws zero) && is_spaced ws zero
is_spaced (wants.Space ∷ ws) zero = is_spaced ws zero
is_spaced (wants.Kept l ∷ ws) zero = ends l (opens ws zero) && is_spaced ws zero
is_spaced (wants.One e r ∷ ws) zero = opens ws zero && is_spaced ws zero
is_spaced (wants.Listed e close r ∷ ws) zero = (is_closed_lexeme close && opens_lexeme close) && (opens ws zero && is_spaced ws zero)
is_spaced (wants.More e r ∷ ws) zero = opens ws zero && is_spaced ws zero
is_spaced (wants.Dense ∷ ws) zero = opens ws zero && is_spaced ws zero
is_spaced (wants.Maybe l n ∷ ws) zero = is_spaced ws zero && is_spaced ws n
is_spaced (wants.Jump n ∷ ws) zero = is_spaced ws n

-- ---- entries

not_greater : (d : ℕ) → is_digit d ≡ true → (d == 62) ≡ false
not_greater d h = let hi : d ≤ 57 = leb-true d 57 (and_parts (nat_le 48 d) (nat_le d 57) h).1 in ne_eqb d 62 (λ e. absurd (omega (arith, e, hi)))

minus_apart : (ds : List ℕ) → 0 < length ds → all_in Digit ds ≡ true → IsApart (Leaf (Exactly Minus) tokens.Mark (codes "-") ∷ Leaf Number tokens.Number ds ∷ [])
minus_apart [] some a = absurd (omega arith)
minus_apart (d ∷ ds) some a =
    let n = leaf_name Number (number_name (d ∷ ds) some a) none_opens none_apart in
    record { spaced = λ rest s. (minus_ends d ((ds ++ []) ++ rest) (not_greater d (and_parts (belongs Digit d) (all_in Digit ds) a).0), n.spaced rest s) }

abbrev IsLaid : List Piece → Type 0
IsLaid ps = IsApart ps × LeavesFit ps

number_laid : (negative : Bool) (n : ℕ) (e : Element) → IsLaid (word_w e (words.Number negative n)).pieces
number_laid false n e = (leaf_name Number (numeral_name n) none_opens none_apart, (refl, tt))
number_laid true n e = (minus_apart (numeral n) (numeral_some n) (numeral_in_digits n), (refl, (refl, tt)))

-- where a name ends
ended : (rest : List ℕ) → S.Stops rest → Stops rest
ended [] s = tt
ended (b ∷ bs) s = s

-- a token of the class is a name
pub named : (c : Class) (s : SpellingShape) → IsToken c s → IsName s.kind s.text
named c s h = record { ends = λ rest s. h.0 rest (ended rest s) }

text_laid : (c : Class) (s : SpellingShape) → IsToken c s → IsLaid (Leaf c s.kind s.text ∷ [])
text_laid c s h = (leaf_name c (named c s h) none_opens none_apart, (h.1, tt))

word_laid : (e : Element) (w : Word) → IsWord e w → IsLaid (word_w e w).pieces
word_laid (elements.Leaf c) (words.Text s) h = text_laid c s h
word_laid elements.Index (words.Text s) h = text_laid Value s h
word_laid elements.Map (words.Text s) h = text_laid Alias s h
word_laid e (words.Number negative n) h = number_laid negative n e
word_laid elements.Literal (words.Text s) h = absurd h

comma_laid : {ps : List Piece} → IsLaid ps → IsLaid (Leaf (Exactly Comma) (lexeme_kind Comma) (lexeme_text Comma) ∷ Gap (codes " ") ∷ ps)
comma_laid h = (leaf_closed (Exactly Comma) (lexeme_closed Comma refl) (S.space h.0), (refl, h.1))

nexts_apart : (e : Element) (ws : List Word) → AreWords e ws → AreApart (map (next_w e) ws)
nexts_apart e [] h = tt
nexts_apart e (w ∷ ws) h = ((comma_laid (word_laid e w h.0)).0, nexts_apart e ws h.1)

nexts_open : (e : Element) (ws : List Word) → AreOpen (map (next_w e) ws)
nexts_open e [] = tt
nexts_open e (w ∷ ws) = (leaf_opens (Exactly Comma) tokens.Mark (codes ",") refl, nexts_open e ws)

nexts_fit : (e : Element) (ws : List Word) → AreWords e ws → AreFit (map (next_w e) ws)
nexts_fit e [] h = tt
nexts_fit e (w ∷ ws) h = ((comma_laid (word_laid e w h.0)).1, nexts_fit e ws h.1)

more_opens : (e : Element) (ws : List Word) → AreWords e ws → Opens (more_w e ws).pieces
more_opens e ws h = (each_apart (map (next_w e) ws) (nexts_apart e ws h) (nexts_open e ws)).1

more_laid : (e : Element) (ws : List Word) → AreWords e ws → IsLaid (more_w e ws).pieces
more_laid e ws h = ((each_apart (map (next_w e) ws) (nexts_apart e ws h) (nexts_open e ws)).0, each_fit (map (next_w e) ws) (nexts_fit e ws h))

-- a fixed token that is kept is of its class
fixed_holds : (l : Lexeme) → holds (Exactly l) (lexeme_kind l) (lexeme_text l) ≡ true
fixed_holds l = fixed_fits l (missing (Exactly l) 0) (refl, refl)

closed_laid : (l : Lexeme) → is_closed_lexeme l ≡ true → IsLaid (Leaf (Exactly l) (lexeme_kind l) (lexeme_text l) ∷ [])
closed_laid l h = (leaf_closed (Exactly l) (lexeme_closed l h) none_apart, (fixed_holds l, tt))

-- one behind another
both_laid : (ps qs : List Piece) → IsLaid ps → Opens qs → IsLaid qs → IsLaid (ps ++ qs)
both_laid ps qs h o k = (append_apart ps qs h.0 o k.0, both_fit ps qs h.1 k.1)

listed_laid : (e : Element) (close : Lexeme) (ws : List Word) → is_closed_lexeme close ≡ true → opens_lexeme close ≡ true → AreWords e ws → IsLaid (listed_w e close ws).pieces
listed_laid e close [] c o h = closed_laid close c
listed_laid e close (w ∷ ws) c o h =
    let last : List Piece = Leaf (Exactly close) (lexeme_kind close) (lexeme_text close) ∷ [] in
    let opened : Opens (Leaf (Exactly close) (lexeme_kind close) (lexeme_text close) ∷ []) = leaf_opens (Exactly close) (lexeme_kind close) (lexeme_text close) o in
    both_laid (word_w e w).pieces ((more_w e ws).pieces ++ (Leaf (Exactly close) (lexeme_kind close) (lexeme_text close) ∷ [])) (word_laid e w h.0)
    (append_opens (more_w e ws).pieces (Leaf (Exactly close) (lexeme_kind close) (lexeme_text close) ∷ []) (more_opens e ws h.1) opened)
    (both_laid (more_w e ws).pieces (Leaf (Exactly close) (lexeme_kind close) (lexeme_text close) ∷ []) (more_laid e ws h.1) opened (closed_laid close c))

-- the tokens of a dense literal are of its class
pieces_fit : (ts : List SpellingShape) → AllByRecursion (λ t. holds DenseToken t.kind t.text ≡ true) ts → AreFit (map dense_piece_w ts)
pieces_fit [] h = tt
pieces_fit (t ∷ ts) h = ((h.0, tt), pieces_fit ts h.1)

dense_laid : (ts : List SpellingShape) → AreDense ts → IsLaid (dense_w ts).pieces
dense_laid ts h = (record { spaced = λ rest s. h.0 rest (ended rest s) }, each_fit (map dense_piece_w ts) (pieces_fit ts h.1))

-- ---- several

no_minus : (b : Bool) → not b ≡ true → b ≡ false
no_minus true h = absurd (cc h)
no_minus false h = refl

fixed_apart : (l : Lexeme) (o : Bool) (ps : List Piece) (b : Bool) → is_closed_lexeme l ≡ b → cond b true (not (is_minus l) && o) ≡ true → (o ≡ true → Opens ps) → IsApart ps → IsApart (Fixed l ∷ ps)
fixed_apart l o ps true e h p a = fixed_closed l e a
fixed_apart l o ps false e h p a = let w = and_parts (not (is_minus l)) o h in fixed_word l (no_minus (is_minus l) w.0) (p w.1) a

kept_apart : (l : Lexeme) (o : Bool) (ps : List Piece) (b : Bool) → is_closed_lexeme l ≡ b → cond b true (not (is_minus l) && o) ≡ true → (o ≡ true → Opens ps) → IsApart ps → IsApart (Leaf (Exactly l) (lexeme_kind l) (lexeme_text l) ∷ ps)
kept_apart l o ps true e h p a = leaf_closed (Exactly l) (lexeme_closed l e) a
kept_apart l o ps false e h p a = let w = and_parts (not (is_minus l)) o h in leaf_name (Exactly l) (lexeme_name l (no_minus (is_minus l) w.0)) (p w.1) a

pub opens-sound : (ws : List Want) (k : ℕ) (fs : List Field) → Fits ws k fs → opens ws k ≡ true → Opens (written ws k fs).pieces
unfolding Fits written
opens-sound [] k fs f h = none_opens
opens-sound (w ∷ ws) (suc k) fs f h = opens-sound ws k fs f h
opens-sound (wants.Fixed l ∷ ws) zero fs f h = fixed_opens l h
opens-sound (wants.Space ∷ ws) zero fs f h = space_opens
opens-sound (wants.Kept l ∷ ws) zero fs f h = leaf_opens (Exactly l) (lexeme_kind l) (lexeme_text l) h
opens-sound (wants.More e r ∷ ws) zero (fields.Several us ∷ fs) f h = append_opens (more_w e us).pieces (written ws zero fs).pieces (more_opens e us f.0) (opens-sound ws zero fs f.1 h)
opens-sound (wants.Maybe l n ∷ ws) zero (fields.There true ∷ fs) f h = opens-sound ws zero fs f (and_parts (opens ws zero) (opens ws n) h).0
opens-sound (wants.Maybe l n ∷ ws) zero (fields.There false ∷ fs) f h = opens-sound ws n fs f (and_parts (opens ws zero) (opens ws n) h).1
opens-sound (wants.Jump n ∷ ws) zero fs f h = opens-sound ws n fs f h
opens-sound (wants.One e r ∷ ws) zero fs f h = absurd (cc h)
opens-sound (wants.Listed e c r ∷ ws) zero fs f h = absurd (cc h)
opens-sound (wants.Dense ∷ ws) zero fs f h = absurd (cc h)
opens-sound (wants.More e r ∷ ws) zero fs f h = absurd f
opens-sound (wants.Maybe l n ∷ ws) zero fs f h = absurd f

-- a part, and the parts behind it
part_on : (ps qs : List Piece) (o b : Bool) → IsLaid ps → o && b ≡ true → (o ≡ true → Opens qs) → (b ≡ true → IsLaid qs) → IsLaid (ps ++ qs)
part_on ps qs o b a h p q = let w = and_parts o b h in both_laid ps qs a (p w.0) (q w.1)

pub written_laid : (ws : List Want) (k : ℕ) (fs : List Field) → Fits ws k fs → is_spaced ws k ≡ true → IsApart (written ws k fs).pieces × LeavesFit (written ws k fs).pieces
unfolding Fits written
written_laid [] k fs f h = (none_apart, tt)
written_laid (w ∷ ws) (suc k) fs f h = written_laid ws k fs f h
written_laid (wants.Fixed l ∷ ws) zero fs f h =
    let w = and_parts (ends l (opens ws zero)) (is_spaced ws zero) h in
    let r = written_laid ws zero fs f w.1 in
    (fixed_apart l (opens ws zero) (written ws zero fs).pieces (is_closed_lexeme l) refl w.0 (opens-sound ws zero fs f) r.0, r.1)
written_laid (wants.Space ∷ ws) zero fs f h = let r = written_laid ws zero fs f h in (S.space r.0, r.1)
written_laid (wants.Kept l ∷ ws) zero fs f h =
    let w = and_parts (ends l (opens ws zero)) (is_spaced ws zero) h in
    let r = written_laid ws zero fs f w.1 in
    (kept_apart l (opens ws zero) (written ws zero fs).pieces (is_closed_lexeme l) refl w.0 (opens-sound ws zero fs f) r.0, (fixed_holds l, r.1))
written_laid (wants.One e r ∷ ws) zero (fields.One w ∷ fs) f h =
    part_on (word_w e w).pieces (written ws zero fs).pieces (opens ws zero) (is_spaced ws zero) (word_laid e w f.0) h (opens-sound ws zero fs f.1) (written_laid ws zero fs f.1)
written_laid (wants.Listed e close r ∷ ws) zero (fields.Several us ∷ fs) f h =
    let w = and_parts (is_closed_lexeme close && opens_lexeme close) (opens ws zero && is_spaced ws zero) h in
    let c = and_parts (is_closed_lexeme close) (opens_lexeme close) w.0 in
    part_on (listed_w e close us).pieces (written ws zero fs).pieces (opens ws zero) (is_spaced ws zero) (listed_laid e close us c.0 c.1 f.0) w.1 (opens-sound ws zero fs f.1) (written_laid ws zero fs f.1)
written_laid (wants.More e r ∷ ws) zero (fields.Several us ∷ fs) f h =
    part_on (more_w e us).pieces (written ws zero fs).pieces (opens ws zero) (is_spaced ws zero) (more_laid e us f.0) h (opens-sound ws zero fs f.1) (written_laid ws zero fs f.1)
written_laid (wants.Dense ∷ ws) zero (fields.Dense ts ∷ fs) f h =
    part_on (dense_w ts).pieces (written ws zero fs).pieces (opens ws zero) (is_spaced ws zero) (dense_laid ts f.0) h (opens-sound ws zero fs f.1) (written_laid ws zero fs f.1)
written_laid (wants.Maybe l n ∷ ws) zero (fields.There true ∷ fs) f h = written_laid ws zero fs f (and_parts (is_spaced ws zero) (is_spaced ws n) h).0
written_laid (wants.Maybe l n ∷ ws) zero (fields.There false ∷ fs) f h = written_laid ws n fs f (and_parts (is_spaced ws zero) (is_spaced ws n) h).1
written_laid (wants.Jump n ∷ ws) zero fs f h = written_laid ws n fs f h
written_laid ws zero fs f h = absurd f

-- ---- the table

pub form_spaced : (o : Opcode) → is_spaced (form o) zero ≡ true
form_spaced opcodes.Constant = refl
form_spaced opcodes.Empty = refl
form_spaced opcodes.ExtractSlice = refl
form_spaced opcodes.Generic = refl
form_spaced opcodes.Fill = refl
form_spaced opcodes.Matmul = refl
form_spaced opcodes.BatchMatmul = refl
form_spaced opcodes.Transpose = refl
form_spaced opcodes.Broadcast = refl

pub form_opens : (o : Opcode) → opens (form o) zero ≡ true
form_opens opcodes.Constant = refl
form_opens opcodes.Empty = refl
form_opens opcodes.ExtractSlice = refl
form_opens opcodes.Generic = refl
form_opens opcodes.Fill = refl
form_opens opcodes.Matmul = refl
form_opens opcodes.BatchMatmul = refl
form_opens opcodes.Transpose = refl
form_opens opcodes.Broadcast = refl

pub tail_spaced : (o : Opcode) → is_spaced (tail o) zero ≡ true
tail_spaced opcodes.Constant = refl
tail_spaced opcodes.Empty = refl
tail_spaced opcodes.ExtractSlice = refl
tail_spaced opcodes.Generic = refl
tail_spaced opcodes.Fill = refl
tail_spaced opcodes.Matmul = refl
tail_spaced opcodes.BatchMatmul = refl
tail_spaced opcodes.Transpose = refl
tail_spaced opcodes.Broadcast = refl
