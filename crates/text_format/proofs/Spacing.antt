-- How tokens end: what may follow a token of each kind, so that pieces are well spaced.
use Rattle.std.proofs.Common.{◌≡◌, ◌<◌, ◌^◌, ℕ, suc, ◌+◌, Bool, true, false, cond, not, ◌&&◌, ◌||◌, ◌==◌, List, [], ◌∷◌, ◌++◌, length, take, refl, sym, ap, subst, ◌∙◌, append_assoc, arith, length-append, codes, decimal, nat_eq, nat_lt, nat_le}
use Rattle.std.specs.List.{AllByRecursion}
use Rattle.std.specs.Str.{bytes_eq}
use Rattle.std.proofs.lemmas.Bool.{cond-true, cond-false, ne_eqb, le-ltb, le-leb, lt-leb, leb-true, and_parts, and_from}
use Rattle.std.proofs.lemmas.List.{append-nil, drop_at}
use Rattle.std.proofs.lemmas.Fmt.{decimal_is_IsNumeral}
use Rattle.text_format.specs.Numerals.{numeral}
use Rattle.text_format.proofs.Numerals.{numeral_writes, numeral_some}
use Rattle.std.proofs.lemmas.Str.Parse.{digit_from_value}
use Rattle.std.specs.Str.Parse.{AllDigits}
use Rattle.text_format.specs.declared.front.Kind.{Kind}
use Rattle.text_format.specs.declared.front.Kind.TheVariants.{Word, Value, Alias, Symbol, Block, TypeWord, Shaped, Number, Quoted, Mark}
use Rattle.text_format.specs.declared.front.ByteClass.{ByteClass}
use Rattle.text_format.specs.declared.front.ByteClass.TheVariants as classes
use Rattle.text_format.specs.declared.front.Front.TheVariants as fronts
use Rattle.text_format.specs.declared.class.Class.{Class}
use Rattle.text_format.specs.declared.lexeme.Lexeme.{Lexeme}
use Rattle.text_format.specs.declared.lexeme.Lexeme.TheVariants as lexemes
use Rattle.text_format.specs.Lexemes.{lexeme_kind, lexeme_text}
use Rattle.text_format.specs.Bytes.{is_blank, is_digit, is_letter, is_word_byte, belongs, run, is_closed, is_shape_start, front, sign_front, word_front, shaped_front, value_front, result_number, quoted_front, mark_front, sign_kind}
use Rattle.text_format.specs.Pieces.{Piece, Gap, Fixed, Leaf, piece_text, bytes_of, each_behind, comma, commas, Ends, IsSpaced}

-- no name goes on with this byte
abbrev pub is_stop : ℕ → Bool
is_stop b = not (is_word_byte b) && not (b == 45) && not (b == 35)

-- what comes next ends a name: the end of the text does too
abbrev pub Stops : List ℕ → Type 0
Stops [] = Unit {0}
Stops (b ∷ bs) = is_stop b ≡ true

-- the text is a token of its kind, where a stop comes behind it
pub record IsName (kind : Kind) (t : List ℕ) : Type 0 where
  pub ends : (rest : List ℕ) → Stops rest → Ends kind t rest

-- the text is a token of its kind, whatever comes behind it
pub record IsClosed (kind : Kind) (t : List ℕ) : Type 0 where
  pub ends : (rest : List ℕ) → Ends kind t rest

-- ---- runs that end at a stop

three_first : (x y z : Bool) → not x && not y && not z ≡ true → x ≡ false
three_first true y z h = absurd (cc h)
three_first false y z h = refl

three_both : (x y z : Bool) → not x && not y && not z ≡ true → x || y ≡ false
three_both true y z h = absurd (cc h)
three_both false true z h = absurd (cc h)
three_both false false z h = refl

three_last : (x y z : Bool) → not x && not y && not z ≡ true → z ≡ false
three_last true y z h = absurd (cc h)
three_last false true z h = absurd (cc h)
three_last false false true h = absurd (cc h)
three_last false false false h = refl

stop_word : (b : ℕ) → is_stop b ≡ true → belongs classes.WordByte b ≡ false
stop_word b h = three_first (is_word_byte b) (b == 45) (b == 35) h

stop_value : (b : ℕ) → is_stop b ≡ true → belongs classes.ValueByte b ≡ false
stop_value b h = three_both (is_word_byte b) (b == 45) (b == 35) h

or_middle : (x y z w : Bool) → x || y || z || w ≡ false → y ≡ false
or_middle true y z w h = absurd (cc h)
or_middle false true z w h = absurd (cc h)
or_middle false false z w h = refl

stop_digit : (b : ℕ) → is_stop b ≡ true → belongs classes.Digit b ≡ false
stop_digit b h = or_middle (is_letter b) (is_digit b) (b == 36) (b == 46) (stop_word b h)

-- all bytes belong to the class
abbrev pub all_in : ByteClass → List ℕ → Bool
all_in c [] = true
all_in c (b ∷ bs) = belongs c b && all_in c bs

-- a run takes what belongs to its class, up to the first byte that does not
pub run_up_to : (c : ByteClass) (bs : List ℕ) (b : ℕ) (rest : List ℕ) → all_in c bs ≡ true → belongs c b ≡ false → run c (bs ++ b ∷ rest) ≡ length bs
unfolding run
run_up_to c [] b rest a e = cond-false (belongs c b) (suc (run c rest)) 0 e
run_up_to c (x ∷ bs) b rest a e =
    let p = and_parts (belongs c x) (all_in c bs) a in
    cond-true (belongs c x) (suc (run c (bs ++ b ∷ rest))) 0 p.0 ∙ ap suc (run_up_to c bs b rest p.1 e)

run_all : (c : ByteClass) (bs : List ℕ) → all_in c bs ≡ true → run c bs ≡ length bs
unfolding run
run_all c [] a = refl
run_all c (x ∷ bs) a = let p = and_parts (belongs c x) (all_in c bs) a in cond-true (belongs c x) (suc (run c bs)) 0 p.0 ∙ ap suc (run_all c bs p.1)

pub run_stops : (c : ByteClass) → ((b : ℕ) → is_stop b ≡ true → belongs c b ≡ false) → (bs rest : List ℕ) → all_in c bs ≡ true → Stops rest → run c (bs ++ rest) ≡ length bs
run_stops c f bs [] a s = ap (run c) (append-nil bs) ∙ run_all c bs a
run_stops c f bs (b ∷ rest) a s = run_up_to c bs b rest a (f b s)

-- ---- digits

or_second : (x y z w : Bool) → y ≡ true → x || y || z || w ≡ true
or_second true y z w h = refl
or_second false true z w h = refl
or_second false false z w h = absurd (cc h)

or_first : (x y : Bool) → x ≡ true → x || y ≡ true
or_first true y h = refl
or_first false y h = absurd (cc h)

digit_word : (b : ℕ) → is_digit b ≡ true → belongs classes.WordByte b ≡ true
digit_word b h = or_second (is_letter b) (is_digit b) (b == 36) (b == 46) h

digit_value : (b : ℕ) → is_digit b ≡ true → belongs classes.ValueByte b ≡ true
digit_value b h = or_first (is_word_byte b) (b == 45) (digit_word b h)

digits_in : (c : ByteClass) → ((b : ℕ) → is_digit b ≡ true → belongs c b ≡ true) → (ds : List ℕ) → AllDigits 10 ds → all_in c ds ≡ true
digits_in c f [] a = refl
digits_in c f (d ∷ ds) a = let r = digit_from_value d a.0 in and_from (belongs c d) (all_in c ds) (f d (and_from _ _ (le-leb 48 d r.0) (le-leb d 57 r.1))) (digits_in c f ds a.1)

pub decimal_in_words : (n : ℕ) → n < 2 ^ 64 → all_in classes.WordByte (decimal n) ≡ true
decimal_in_words n s = digits_in classes.WordByte digit_word (decimal n) (decimal_is_IsNumeral n s).0.1

pub decimal_in_values : (n : ℕ) → n < 2 ^ 64 → all_in classes.ValueByte (decimal n) ≡ true
decimal_in_values n s = digits_in classes.ValueByte digit_value (decimal n) (decimal_is_IsNumeral n s).0.1

pub decimal_in_digits : (n : ℕ) → n < 2 ^ 64 → all_in classes.Digit (decimal n) ≡ true
decimal_in_digits n s = digits_in classes.Digit (λ b h. h) (decimal n) (decimal_is_IsNumeral n s).0.1

pub decimal_some : (n : ℕ) → n < 2 ^ 64 → 0 < length (decimal n)
decimal_some n s = (decimal_is_IsNumeral n s).0.0

pub numeral_in_words : (n : ℕ) → all_in classes.WordByte (numeral n) ≡ true
numeral_in_words n = digits_in classes.WordByte digit_word (numeral n) (numeral_writes n).0.1

pub numeral_in_digits : (n : ℕ) → all_in classes.Digit (numeral n) ≡ true
numeral_in_digits n = digits_in classes.Digit (λ b h. h) (numeral n) (numeral_writes n).0.1

pub all_in_append : (c : ByteClass) (xs ys : List ℕ) → all_in c xs ≡ true → all_in c ys ≡ true → all_in c (xs ++ ys) ≡ true
all_in_append c [] ys a b = b
all_in_append c (x ∷ xs) ys a b = let p = and_parts (belongs c x) (all_in c xs) a in and_from (belongs c x) (all_in c (xs ++ ys)) p.0 (all_in_append c xs ys p.1 b)

-- ---- values

no_number : (rest : List ℕ) → Stops rest → result_number rest ≡ 0
unfolding result_number
no_number [] s = refl
no_number (b ∷ rest) s = rw (three_last (is_word_byte b) (b == 45) (b == 35) s) refl

value_of : (name rest : List ℕ) (m : ℕ) → 0 < length name → run classes.ValueByte (name ++ rest) ≡ length name → result_number rest ≡ m → front 37 (name ++ rest) ≡ fronts.Token Value (length name + m + 1)
unfolding front value_front
value_of name rest m some r n =
    let z : nat_eq (length name) 0 ≡ false = ne_eqb (length name) 0 (λ h. absurd (omega arith)) in
    rw (r, z, drop_at name rest (length name) refl, n) refl

-- % and a name
pub value_name : (name : List ℕ) → 0 < length name → all_in classes.ValueByte name ≡ true → IsName Value (37 ∷ name)
value_name name some a = record {
  ends = λ rest s.
      let k : length name + 0 + 1 ≡ length (37 ∷ name) = omega arith in
      value_of name rest 0 some (run_stops classes.ValueByte stop_value name rest a s) (no_number rest s) ∙ ap (fronts.Token Value) k;
}

-- % and a name, and which of the results it is
pub value_result : (name digits : List ℕ) → 0 < length name → all_in classes.ValueByte name ≡ true → 0 < length digits → all_in classes.Digit digits ≡ true → IsName Value (37 ∷ (name ++ 35 ∷ digits))
unfolding result_number
value_result name digits some a more d = record {
  ends = λ rest s.
      let r = run_stops classes.Digit stop_digit digits rest d s in
      let z : nat_eq (length digits) 0 ≡ false = ne_eqb (length digits) 0 (λ h. absurd (omega arith)) in
      let n : result_number (35 ∷ (digits ++ rest)) ≡ length digits + 1 = rw (r, z) refl in
      let k : length name + (length digits + 1) + 1 ≡ length (37 ∷ (name ++ 35 ∷ digits)) = omega (arith, length-append name (35 ∷ digits)) in
      ap (front 37) (append_assoc name (35 ∷ digits) rest) ∙ value_of name (35 ∷ (digits ++ rest)) (length digits + 1) some (run_up_to classes.ValueByte name 35 (digits ++ rest) a refl) n ∙ ap (fronts.Token Value) k;
}

-- %arg12
pub arg_name : (n : ℕ) → n < 2 ^ 64 → IsName Value (codes "%arg" ++ decimal n)
arg_name n s = value_name (codes "arg" ++ decimal n) (omega arith) (decimal_in_values n s)

-- %12
pub result_name : (n : ℕ) → n < 2 ^ 64 → IsName Value (codes "%" ++ decimal n)
result_name n s = value_name (decimal n) (decimal_some n s) (decimal_in_values n s)

-- %12#3
pub result_part_name : (n k : ℕ) → n < 2 ^ 64 → IsName Value (codes "%" ++ (decimal n ++ 35 ∷ numeral k))
result_part_name n k s = value_result (decimal n) (numeral k) (decimal_some n s) (decimal_in_values n s) (numeral_some k) (numeral_in_digits k)

-- ---- # @ ^ and !

signed : (b : ℕ) (kind : Kind) → ((rest : List ℕ) → front b rest ≡ sign_front b rest) → sign_kind b ≡ kind → (c : ℕ) (cs : List ℕ) → is_letter c ≡ true → all_in classes.WordByte (c ∷ cs) ≡ true → IsName kind (b ∷ (c ∷ cs))
unfolding sign_front
signed b kind f k c cs letter a = record {
  ends = λ rest s.
      let r = run_stops classes.WordByte stop_word (c ∷ cs) rest a s in
      let n : length (c ∷ cs) + 1 ≡ length (b ∷ (c ∷ cs)) = omega arith in
      f (c ∷ (cs ++ rest)) ∙ cond-true (is_letter c) _ _ letter ∙ ap (λ m. fronts.Token (sign_kind b) (m + 1)) r ∙ ap (λ q. fronts.Token q (length (c ∷ cs) + 1)) k ∙ ap (fronts.Token kind) n;
}

pub alias_name : (c : ℕ) (cs : List ℕ) → is_letter c ≡ true → all_in classes.WordByte (c ∷ cs) ≡ true → IsName Alias (35 ∷ (c ∷ cs))
unfolding front
alias_name = signed 35 Alias (λ rest. refl) refl

pub symbol_name : (c : ℕ) (cs : List ℕ) → is_letter c ≡ true → all_in classes.WordByte (c ∷ cs) ≡ true → IsName Symbol (64 ∷ (c ∷ cs))
unfolding front
symbol_name = signed 64 Symbol (λ rest. refl) refl

pub block_name : (c : ℕ) (cs : List ℕ) → is_letter c ≡ true → all_in classes.WordByte (c ∷ cs) ≡ true → IsName Block (94 ∷ (c ∷ cs))
unfolding front
block_name = signed 94 Block (λ rest. refl) refl

pub type_word_name : (c : ℕ) (cs : List ℕ) → is_letter c ≡ true → all_in classes.WordByte (c ∷ cs) ≡ true → IsName TypeWord (33 ∷ (c ∷ cs))
unfolding front
type_word_name = signed 33 TypeWord (λ rest. refl) refl

-- #map
pub first_map_name : IsName Alias (codes "#map")
first_map_name = alias_name 109 (codes "ap") refl refl

-- #map3
pub map_name : (n : ℕ) → IsName Alias (codes "#map" ++ numeral n)
map_name n = alias_name 109 (codes "ap" ++ numeral n) refl (numeral_in_words n)

-- ^bb0
pub block_number_name : (n : ℕ) → n < 2 ^ 64 → IsName Block (codes "^bb" ++ decimal n)
block_number_name n s = block_name 98 (codes "b" ++ decimal n) refl (decimal_in_words n s)

-- ---- words

-- tensor< or vector<, where they would begin
abbrev pub begins_shape : List ℕ → Bool
begins_shape bytes = bytes_eq (take 7 bytes) (codes "tensor<") || bytes_eq (take 7 bytes) (codes "vector<")

two_false : (b : Bool) → cond b false false ≡ false
two_false true = refl
two_false false = refl

no_shape : (bytes : List ℕ) → begins_shape bytes ≡ false → is_shape_start bytes ≡ false
no_shape bytes e = rw e (two_false (nat_lt (length bytes) 7))

-- a word; its first byte is known, so that each premise but the last is `refl` or `λ rest. refl`
pub word_name : (b : ℕ) (bs : List ℕ) → is_blank b ≡ false → (b == 47) ≡ false → is_letter b ≡ true → ((rest : List ℕ) → begins_shape (b ∷ (bs ++ rest)) ≡ false) → all_in classes.WordByte (b ∷ bs) ≡ true → IsName Word (b ∷ bs)
unfolding front word_front
word_name b bs blank slash letter shape a = record {
  ends = λ rest s.
      cond-false (is_blank b) _ _ blank ∙ cond-false (b == 47) _ _ slash ∙ cond-true (is_letter b) _ _ letter
      ∙ cond-false (is_shape_start (b ∷ (bs ++ rest))) _ _ (no_shape (b ∷ (bs ++ rest)) (shape rest))
      ∙ ap (fronts.Token Word) (run_stops classes.WordByte stop_word (b ∷ bs) rest a s);
}

-- i32
pub integer_type_name : (n : ℕ) → n < 2 ^ 64 → IsName Word (105 ∷ decimal n)
integer_type_name n s = word_name 105 (decimal n) refl refl refl (λ rest. refl) (decimal_in_words n s)

-- d0
pub dimension_name : (n : ℕ) → IsName Word (100 ∷ numeral n)
dimension_name n = word_name 100 (numeral n) refl refl refl (λ rest. refl) (numeral_in_words n)

-- s0
pub symbol_dimension_name : (n : ℕ) → n < 2 ^ 64 → IsName Word (115 ∷ decimal n)
symbol_dimension_name n s = word_name 115 (decimal n) refl refl refl (λ rest. refl) (decimal_in_words n s)

-- ---- shaped types

abbrev pub in_line : List ℕ → Bool
in_line = all_in (classes.LineBefore 62)

shaped_of : (inside rest : List ℕ) → in_line inside ≡ true → shaped_front (inside ++ 62 ∷ rest) ≡ fronts.Token Shaped (7 + length inside + 1)
unfolding shaped_front is_closed
shaped_of inside rest a =
    let r = run_up_to (classes.LineBefore 62) inside 62 rest a refl in
    rw (r, drop_at inside (62 ∷ rest) (length inside) refl) refl

-- tensor< and what has no > and no line feed, and >
pub tensor_closed : (inside : List ℕ) → in_line inside ≡ true → IsClosed Shaped (codes "tensor<" ++ (inside ++ codes ">"))
unfolding front word_front
tensor_closed inside a = record {
  ends = λ rest.
      let long : nat_lt (length (codes "tensor<" ++ ((inside ++ codes ">") ++ rest))) 7 ≡ false = le-ltb (length (codes "tensor<" ++ ((inside ++ codes ">") ++ rest))) 7 (omega arith) in
      let k : 7 + length inside + 1 ≡ length (codes "tensor<" ++ (inside ++ codes ">")) = omega (arith, length-append inside (codes ">")) in
      rw long (ap shaped_front (append_assoc inside (codes ">") rest) ∙ shaped_of inside rest a ∙ ap (fronts.Token Shaped) k);
}

pub vector_closed : (inside : List ℕ) → in_line inside ≡ true → IsClosed Shaped (codes "vector<" ++ (inside ++ codes ">"))
unfolding front word_front
vector_closed inside a = record {
  ends = λ rest.
      let long : nat_lt (length (codes "vector<" ++ ((inside ++ codes ">") ++ rest))) 7 ≡ false = le-ltb (length (codes "vector<" ++ ((inside ++ codes ">") ++ rest))) 7 (omega arith) in
      let k : 7 + length inside + 1 ≡ length (codes "vector<" ++ (inside ++ codes ">")) = omega (arith, length-append inside (codes ">")) in
      rw long (ap shaped_front (append_assoc inside (codes ">") rest) ∙ shaped_of inside rest a ∙ ap (fronts.Token Shaped) k);
}

digit_in_line : (b : ℕ) → is_digit b ≡ true → belongs (classes.LineBefore 62) b ≡ true
digit_in_line b h =
    let p = and_parts (nat_le 48 b) (nat_le b 57) h in
    let lo = leb-true 48 b p.0 in
    let hi = leb-true b 57 p.1 in
    and_from (not (b == 62)) (not (b == 10)) (ap not (ne_eqb b 62 (λ e. absurd (omega (arith, e, hi))))) (ap not (ne_eqb b 10 (λ e. absurd (omega (arith, e, lo)))))

pub decimal_in_line : (n : ℕ) → n < 2 ^ 64 → in_line (decimal n) ≡ true
decimal_in_line n s = digits_in (classes.LineBefore 62) digit_in_line (decimal n) (decimal_is_IsNumeral n s).0.1

-- 3x
pub extent_in_line : (n : ℕ) → n < 2 ^ 64 → in_line (decimal n ++ codes "x") ≡ true
extent_in_line n s = all_in_append (classes.LineBefore 62) (decimal n) (codes "x") (decimal_in_line n s) refl

-- tensor<3xi32>
pub tensor_type_closed : (n w : ℕ) → n < 2 ^ 64 → w < 2 ^ 64 → IsClosed Shaped (codes "tensor<" ++ ((decimal n ++ (codes "xi" ++ decimal w)) ++ codes ">"))
tensor_type_closed n w s t = tensor_closed (decimal n ++ (codes "xi" ++ decimal w)) (all_in_append (classes.LineBefore 62) (decimal n) (codes "xi" ++ decimal w) (decimal_in_line n s) (decimal_in_line w t))

-- ---- quoted texts, numbers and marks

pub quoted_closed : (inside : List ℕ) → all_in classes.Printable inside ≡ true → IsClosed Quoted (34 ∷ (inside ++ 34 ∷ []))
unfolding front quoted_front
quoted_closed inside a = record {
  ends = λ rest.
      let r = run_up_to classes.Printable inside 34 rest a refl in
      let k : length inside + 2 ≡ length (34 ∷ (inside ++ 34 ∷ [])) = omega (arith, length-append inside (34 ∷ [])) in
      ap quoted_front (append_assoc inside (34 ∷ []) rest) ∙ rw (r, drop_at inside (34 ∷ rest) (length inside) refl) (ap (fronts.Token Quoted) k);
}

-- a digit is neither a blank nor / nor a letter
digit_is_none : (d : ℕ) → is_digit d ≡ true → (is_blank d ≡ false) × ((d == 47) ≡ false) × (is_letter d ≡ false)
digit_is_none d h =
    let p = and_parts (nat_le 48 d) (nat_le d 57) h in
    let lo = leb-true 48 d p.0 in
    let hi = leb-true d 57 p.1 in
    let e32 : nat_eq d 32 ≡ false = ne_eqb d 32 (λ e. absurd (omega (arith, e, lo))) in
    let e9 : nat_eq d 9 ≡ false = ne_eqb d 9 (λ e. absurd (omega (arith, e, lo))) in
    let e10 : nat_eq d 10 ≡ false = ne_eqb d 10 (λ e. absurd (omega (arith, e, lo))) in
    let e13 : nat_eq d 13 ≡ false = ne_eqb d 13 (λ e. absurd (omega (arith, e, lo))) in
    let e47 : nat_eq d 47 ≡ false = ne_eqb d 47 (λ e. absurd (omega (arith, e, lo))) in
    let l97 : nat_le 97 d ≡ false = lt-leb 97 d (omega (arith, hi)) in
    let l65 : nat_le 65 d ≡ false = lt-leb 65 d (omega (arith, hi)) in
    let e95 : nat_eq d 95 ≡ false = ne_eqb d 95 (λ e. absurd (omega (arith, e, hi))) in
    (rw (e32, e9, e10, e13) refl, e47, rw (l97, l65, e95) refl)

pub number_name : (ds : List ℕ) → 0 < length ds → all_in classes.Digit ds ≡ true → IsName Number ds
unfolding front
number_name [] some a = absurd (omega arith)
number_name (d ∷ ds) some a = record {
  ends = λ rest s.
      let p = and_parts (is_digit d) (all_in classes.Digit ds) a in
      let n = digit_is_none d p.0 in
      let k : length ds + 1 ≡ length (d ∷ ds) = omega arith in
      cond-false (is_blank d) _ _ n.0 ∙ cond-false (d == 47) _ _ n.1 ∙ cond-false (is_letter d) _ _ n.2 ∙ cond-true (is_digit d) _ _ p.0
      ∙ ap (λ m. fronts.Token Number (m + 1)) (run_stops classes.Digit stop_digit ds rest p.1 s) ∙ ap (fronts.Token Number) k;
}

pub numeral_name : (n : ℕ) → IsName Number (numeral n)
numeral_name n = number_name (numeral n) (numeral_some n) (numeral_in_digits n)

pub decimal_name : (n : ℕ) → n < 2 ^ 64 → IsName Number (decimal n)
decimal_name n s = number_name (decimal n) (decimal_some n s) (decimal_in_digits n s)

-- a minus, where no > follows
pub minus_ends : (b : ℕ) (rest : List ℕ) → (b == 62) ≡ false → Ends Mark (codes "-") (b ∷ rest)
unfolding front mark_front
minus_ends b rest e = rw e refl

-- ---- the fixed tokens

-- a mark or a quoted text, which ends before anything; a minus doesn't, since -> is another mark
abbrev pub is_closed_lexeme : Lexeme → Bool
is_closed_lexeme lexemes.Minus = false
is_closed_lexeme l = elim (lexeme_kind l) [ Mark ↦ true | Quoted ↦ true | _ ↦ false ]

-- which ends before anything
pub lexeme_closed : (l : Lexeme) → is_closed_lexeme l ≡ true → IsClosed (lexeme_kind l) (lexeme_text l)
unfolding front mark_front
lexeme_closed lexemes.OpenParenthesis e = record { ends = λ rest. refl }
lexeme_closed lexemes.CloseParenthesis e = record { ends = λ rest. refl }
lexeme_closed lexemes.OpenBrace e = record { ends = λ rest. refl }
lexeme_closed lexemes.CloseBrace e = record { ends = λ rest. refl }
lexeme_closed lexemes.OpenBracket e = record { ends = λ rest. refl }
lexeme_closed lexemes.CloseBracket e = record { ends = λ rest. refl }
lexeme_closed lexemes.Less e = record { ends = λ rest. refl }
lexeme_closed lexemes.Greater e = record { ends = λ rest. refl }
lexeme_closed lexemes.Comma e = record { ends = λ rest. refl }
lexeme_closed lexemes.Colon e = record { ends = λ rest. refl }
lexeme_closed lexemes.Equals e = record { ends = λ rest. refl }
lexeme_closed lexemes.Arrow e = record { ends = λ rest. refl }
lexeme_closed lexemes.Plus e = record { ends = λ rest. refl }
lexeme_closed lexemes.Times e = record { ends = λ rest. refl }
lexeme_closed lexemes.Parallel e = quoted_closed (codes "parallel") refl
lexeme_closed lexemes.QuotedNone e = quoted_closed (codes "none") refl
lexeme_closed lexemes.FuseElementwiseOps e = quoted_closed (codes "linalg-fuse-elementwise-ops") refl
lexeme_closed l e = absurd (cc e)

closed_name : {k : Kind} {t : List ℕ} → IsClosed k t → IsName k t
closed_name c = record { ends = λ rest s. c.ends rest }

-- a minus goes on with a >
abbrev pub is_minus : Lexeme → Bool
is_minus lexemes.Minus = true
is_minus l = false

-- each but the minus ends before a stop
pub lexeme_name : (l : Lexeme) → is_minus l ≡ false → IsName (lexeme_kind l) (lexeme_text l)
lexeme_name lexemes.Module e = word_name 109 (codes "odule") refl refl refl (λ rest. refl) refl
lexeme_name lexemes.FuncFunc e = word_name 102 (codes "unc.func") refl refl refl (λ rest. refl) refl
lexeme_name lexemes.Return e = word_name 114 (codes "eturn") refl refl refl (λ rest. refl) refl
lexeme_name lexemes.FuncReturn e = word_name 102 (codes "unc.return") refl refl refl (λ rest. refl) refl
lexeme_name lexemes.AffineMap e = word_name 97 (codes "ffine_map") refl refl refl (λ rest. refl) refl
lexeme_name lexemes.D0 e = word_name 100 (codes "0") refl refl refl (λ rest. refl) refl
lexeme_name lexemes.TensorEmpty e = word_name 116 (codes "ensor.empty") refl refl refl (λ rest. refl) refl
lexeme_name lexemes.LinalgGeneric e = word_name 108 (codes "inalg.generic") refl refl refl (λ rest. refl) refl
lexeme_name lexemes.IndexingMaps e = word_name 105 (codes "ndexing_maps") refl refl refl (λ rest. refl) refl
lexeme_name lexemes.IteratorTypes e = word_name 105 (codes "terator_types") refl refl refl (λ rest. refl) refl
lexeme_name lexemes.Ins e = word_name 105 (codes "ns") refl refl refl (λ rest. refl) refl
lexeme_name lexemes.Outs e = word_name 111 (codes "uts") refl refl refl (λ rest. refl) refl
lexeme_name lexemes.Bb0 e = block_name 98 (codes "b0") refl refl
lexeme_name lexemes.ArithAddi e = word_name 97 (codes "rith.addi") refl refl refl (λ rest. refl) refl
lexeme_name lexemes.LinalgYield e = word_name 108 (codes "inalg.yield") refl refl refl (λ rest. refl) refl
lexeme_name lexemes.True e = word_name 116 (codes "rue") refl refl refl (λ rest. refl) refl
lexeme_name lexemes.False e = word_name 102 (codes "alse") refl refl refl (λ rest. refl) refl
lexeme_name lexemes.Dense e = word_name 100 (codes "ense") refl refl refl (λ rest. refl) refl
lexeme_name lexemes.Index e = word_name 105 (codes "ndex") refl refl refl (λ rest. refl) refl
lexeme_name lexemes.ArithConstant e = word_name 97 (codes "rith.constant") refl refl refl (λ rest. refl) refl
lexeme_name lexemes.ArithCmpi e = word_name 97 (codes "rith.cmpi") refl refl refl (λ rest. refl) refl
lexeme_name lexemes.ArithSelect e = word_name 97 (codes "rith.select") refl refl refl (λ rest. refl) refl
lexeme_name lexemes.ArithIndexCast e = word_name 97 (codes "rith.index_cast") refl refl refl (λ rest. refl) refl
lexeme_name lexemes.LinalgIndex e = word_name 108 (codes "inalg.index") refl refl refl (λ rest. refl) refl
lexeme_name lexemes.AffineApply e = word_name 97 (codes "ffine.apply") refl refl refl (λ rest. refl) refl
lexeme_name lexemes.LinalgFill e = word_name 108 (codes "inalg.fill") refl refl refl (λ rest. refl) refl
lexeme_name lexemes.LinalgMatmul e = word_name 108 (codes "inalg.matmul") refl refl refl (λ rest. refl) refl
lexeme_name lexemes.LinalgBatchMatmul e = word_name 108 (codes "inalg.batch_matmul") refl refl refl (λ rest. refl) refl
lexeme_name lexemes.LinalgTranspose e = word_name 108 (codes "inalg.transpose") refl refl refl (λ rest. refl) refl
lexeme_name lexemes.LinalgBroadcast e = word_name 108 (codes "inalg.broadcast") refl refl refl (λ rest. refl) refl
lexeme_name lexemes.Permutation e = word_name 112 (codes "ermutation") refl refl refl (λ rest. refl) refl
lexeme_name lexemes.Dimensions e = word_name 100 (codes "imensions") refl refl refl (λ rest. refl) refl
lexeme_name lexemes.Attributes e = word_name 97 (codes "ttributes") refl refl refl (λ rest. refl) refl
lexeme_name lexemes.WithNamedSequence e = word_name 116 (codes "ransform.with_named_sequence") refl refl refl (λ rest. refl) refl
lexeme_name lexemes.NamedSequence e = word_name 116 (codes "ransform.named_sequence") refl refl refl (λ rest. refl) refl
lexeme_name lexemes.Readonly e = word_name 116 (codes "ransform.readonly") refl refl refl (λ rest. refl) refl
lexeme_name lexemes.TransformYield e = word_name 116 (codes "ransform.yield") refl refl refl (λ rest. refl) refl
lexeme_name lexemes.StructuredMatch e = word_name 116 (codes "ransform.structured.match") refl refl refl (λ rest. refl) refl
lexeme_name lexemes.StructuredGeneralize e = word_name 116 (codes "ransform.structured.generalize") refl refl refl (λ rest. refl) refl
lexeme_name lexemes.StructuredInterchange e = word_name 116 (codes "ransform.structured.interchange") refl refl refl (λ rest. refl) refl
lexeme_name lexemes.TileUsingFor e = word_name 116 (codes "ransform.structured.tile_using_for") refl refl refl (λ rest. refl) refl
lexeme_name lexemes.TileUsingForall e = word_name 116 (codes "ransform.structured.tile_using_forall") refl refl refl (λ rest. refl) refl
lexeme_name lexemes.FuseIntoContainingOp e = word_name 116 (codes "ransform.structured.fuse_into_containing_op") refl refl refl (λ rest. refl) refl
lexeme_name lexemes.StructuredPad e = word_name 116 (codes "ransform.structured.pad") refl refl refl (λ rest. refl) refl
lexeme_name lexemes.StructuredPack e = word_name 116 (codes "ransform.structured.pack") refl refl refl (λ rest. refl) refl
lexeme_name lexemes.StructuredVectorize e = word_name 116 (codes "ransform.structured.vectorize") refl refl refl (λ rest. refl) refl
lexeme_name lexemes.SplitHandle e = word_name 116 (codes "ransform.split_handle") refl refl refl (λ rest. refl) refl
lexeme_name lexemes.ApplyRegisteredPass e = word_name 116 (codes "ransform.apply_registered_pass") refl refl refl (λ rest. refl) refl
lexeme_name lexemes.Ops e = word_name 111 (codes "ps") refl refl refl (λ rest. refl) refl
lexeme_name lexemes.In e = word_name 105 (codes "n") refl refl refl (λ rest. refl) refl
lexeme_name lexemes.Into e = word_name 105 (codes "nto") refl refl refl (λ rest. refl) refl
lexeme_name lexemes.To e = word_name 116 (codes "o") refl refl refl (λ rest. refl) refl
lexeme_name lexemes.IteratorInterchange e = word_name 105 (codes "terator_interchange") refl refl refl (λ rest. refl) refl
lexeme_name lexemes.TileSizes e = word_name 116 (codes "ile_sizes") refl refl refl (λ rest. refl) refl
lexeme_name lexemes.PackedSizes e = word_name 112 (codes "acked_sizes") refl refl refl (λ rest. refl) refl
lexeme_name lexemes.VectorSizes e = word_name 118 (codes "ector_sizes") refl refl refl (λ rest. refl) refl
lexeme_name lexemes.PaddingValues e = word_name 112 (codes "adding_values") refl refl refl (λ rest. refl) refl
lexeme_name lexemes.PaddingDimensions e = word_name 112 (codes "adding_dimensions") refl refl refl (λ rest. refl) refl
lexeme_name lexemes.PadToMultipleOf e = word_name 112 (codes "ad_to_multiple_of") refl refl refl (λ rest. refl) refl
lexeme_name lexemes.CopyBackOp e = word_name 99 (codes "opy_back_op") refl refl refl (λ rest. refl) refl
lexeme_name lexemes.AnyOp e = type_word_name 116 (codes "ransform.any_op") refl refl
lexeme_name lexemes.TransformMain e = symbol_name 95 (codes "_transform_main") refl refl
lexeme_name lexemes.Minus e = absurd (cc e)
lexeme_name l e = closed_name (lexeme_closed l refl)

-- ---- pieces

rest_append : (ps qs : List Piece) (rest : List ℕ) → bytes_of (ps ++ qs) ++ rest ≡ bytes_of ps ++ (bytes_of qs ++ rest)
rest_append [] qs rest = refl
rest_append (p ∷ ps) qs rest =
    append_assoc (piece_text p) (bytes_of (ps ++ qs)) rest ∙ ap (λ (bs : List ℕ). piece_text p ++ bs) (rest_append ps qs rest) ∙ sym (append_assoc (piece_text p) (bytes_of ps) (bytes_of qs ++ rest))

-- two parts
pub spaced_append : (ps qs : List Piece) (rest : List ℕ) → IsSpaced ps (bytes_of qs ++ rest) → IsSpaced qs rest → IsSpaced (ps ++ qs) rest
spaced_append [] qs rest h k = k
spaced_append (Gap g ∷ ps) qs rest h k = (h.0, spaced_append ps qs rest h.1 k)
spaced_append (Fixed l ∷ ps) qs rest h k = (subst (λ bs. Ends (lexeme_kind l) (lexeme_text l) bs) (sym (rest_append ps qs rest)) h.0, spaced_append ps qs rest h.1 k)
spaced_append (Leaf c kind t ∷ ps) qs rest h k = (subst (λ bs. Ends kind t bs) (sym (rest_append ps qs rest)) h.0, spaced_append ps qs rest h.1 k)

-- the pieces are well spaced where a stop comes behind them
pub record IsApart (ps : List Piece) : Type 0 where
  pub spaced : (rest : List ℕ) → Stops rest → IsSpaced ps rest

-- the pieces begin with a stop, or are none
pub record Opens (ps : List Piece) : Type 0 where
  pub opens : (rest : List ℕ) → Stops rest → Stops (bytes_of ps ++ rest)

pub whole : (ps : List Piece) → IsApart ps → IsSpaced ps []
whole ps a = a.spaced [] tt

pub none_apart : IsApart []
none_apart = record { spaced = λ rest s. tt }

pub gap_apart : {g : List ℕ} {ps : List Piece} → AllByRecursion (λ b. is_blank b ≡ true) g → IsApart ps → IsApart (Gap g ∷ ps)
gap_apart a h = record { spaced = λ rest s. (a, h.spaced rest s) }

-- one space
pub space : {ps : List Piece} → IsApart ps → IsApart (Gap (codes " ") ∷ ps)
space h = gap_apart (refl, tt) h

-- a line feed and nothing before the next line
pub line : {ps : List Piece} → IsApart ps → IsApart (Gap (10 ∷ []) ∷ ps)
line h = gap_apart (refl, tt) h

-- a mark or a quoted text that the production fixes
pub fixed_closed : (l : Lexeme) {ps : List Piece} → is_closed_lexeme l ≡ true → IsApart ps → IsApart (Fixed l ∷ ps)
fixed_closed l {ps = ps} e h = record { spaced = λ rest s. ((lexeme_closed l e).ends (bytes_of ps ++ rest), h.spaced rest s) }

-- a word that it fixes, and what opens behind it
pub fixed_word : (l : Lexeme) {ps : List Piece} → is_minus l ≡ false → Opens ps → IsApart ps → IsApart (Fixed l ∷ ps)
fixed_word l {ps = ps} e o h = record { spaced = λ rest s. ((lexeme_name l e).ends (bytes_of ps ++ rest) (o.opens rest s), h.spaced rest s) }

-- a name, and what opens behind it
pub leaf_name : (c : Class) {kind : Kind} {t : List ℕ} {ps : List Piece} → IsName kind t → Opens ps → IsApart ps → IsApart (Leaf c kind t ∷ ps)
leaf_name c {ps = ps} n o h = record { spaced = λ rest s. (n.ends (bytes_of ps ++ rest) (o.opens rest s), h.spaced rest s) }

-- a shaped type, a mark or a quoted text
pub leaf_closed : (c : Class) {kind : Kind} {t : List ℕ} {ps : List Piece} → IsClosed kind t → IsApart ps → IsApart (Leaf c kind t ∷ ps)
leaf_closed c {ps = ps} n h = record { spaced = λ rest s. (n.ends (bytes_of ps ++ rest), h.spaced rest s) }

pub append_apart : (ps qs : List Piece) → IsApart ps → Opens qs → IsApart qs → IsApart (ps ++ qs)
append_apart ps qs h o k = record { spaced = λ rest s. spaced_append ps qs rest (h.spaced (bytes_of qs ++ rest) (o.opens rest s)) (k.spaced rest s) }

pub none_opens : Opens []
none_opens = record { opens = λ rest s. s }

pub space_opens : {ps : List Piece} → Opens (Gap (codes " ") ∷ ps)
space_opens = record { opens = λ rest s. refl }

pub line_opens : {ps : List Piece} → Opens (Gap (10 ∷ []) ∷ ps)
line_opens = record { opens = λ rest s. refl }

-- the first byte is a stop
abbrev pub begins : List ℕ → Bool
begins [] = false
begins (b ∷ bs) = is_stop b

-- a fixed token whose first byte is a stop: every mark but - and ->
abbrev pub opens_lexeme : Lexeme → Bool
opens_lexeme l = begins (lexeme_text l)

begun : (bs rest : List ℕ) → begins bs ≡ true → Stops (bs ++ rest)
begun [] rest e = absurd (cc e)
begun (b ∷ bs) rest e = e

pub fixed_opens : (l : Lexeme) {ps : List Piece} → opens_lexeme l ≡ true → Opens (Fixed l ∷ ps)
fixed_opens l {ps = ps} e = record { opens = λ rest s. subst (λ bs. Stops bs) (sym (append_assoc (lexeme_text l) (bytes_of ps) rest)) (begun (lexeme_text l) (bytes_of ps ++ rest) e) }

pub leaf_opens : (c : Class) (kind : Kind) (t : List ℕ) {ps : List Piece} → begins t ≡ true → Opens (Leaf c kind t ∷ ps)
leaf_opens c kind t {ps = ps} e = record { opens = λ rest s. subst (λ bs. Stops bs) (sym (append_assoc t (bytes_of ps) rest)) (begun t (bytes_of ps ++ rest) e) }

pub append_opens : (ps qs : List Piece) → Opens ps → Opens qs → Opens (ps ++ qs)
append_opens ps qs h k = record { opens = λ rest s. subst (λ bs. Stops bs) (sym (rest_append ps qs rest)) (h.opens (bytes_of qs ++ rest) (k.opens rest s)) }

-- ---- lists

comma_apart : {ps : List Piece} → IsApart ps → IsApart (comma ++ ps)
comma_apart h = fixed_closed lexemes.Comma refl (space h)

each_comma : (xs : List (List Piece)) → AllByRecursion IsApart xs → IsApart (each_behind comma xs) × Opens (each_behind comma xs)
each_comma [] a = (none_apart, none_opens)
each_comma (ps ∷ xs) a =
    let r = each_comma xs a.1 in
    (comma_apart (append_apart ps (each_behind comma xs) a.0 r.1 r.0), fixed_opens lexemes.Comma refl)

pub commas_apart : (xs : List (List Piece)) → AllByRecursion IsApart xs → IsApart (commas xs)
commas_apart [] a = none_apart
commas_apart (ps ∷ xs) a = let r = each_comma xs a.1 in append_apart ps (each_behind comma xs) a.0 r.1 r.0

-- one after the other, each of which opens
pub each_apart : (xs : List (List Piece)) → AllByRecursion IsApart xs → AllByRecursion Opens xs → IsApart (each_behind [] xs) × Opens (each_behind [] xs)
each_apart [] a o = (none_apart, none_opens)
each_apart (ps ∷ xs) a o =
    let r = each_apart xs a.1 o.1 in
    (append_apart ps (each_behind [] xs) a.0 r.1 r.0, append_opens ps (each_behind [] xs) o.0 r.1)
