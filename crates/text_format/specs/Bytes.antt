-- What stands first in a text: a blank, a comment, or a token, which is as long as can be.
-- The forms of the tokens are those of the Language Reference, "Identifiers and keywords" and "Notation".
use Rattle.std.specs.Prelude.{ℕ, ◌+◌, ◌<◌, ◌≤◌, Bool, false, not, ◌&&◌, ◌||◌, ◌==◌, List, [], ◌∷◌, length, take, drop, suc, if◌then◌else◌, nat_lt, nat_le, codes, Option, Some, None}
use Rattle.std.specs.Str.{bytes_eq}
use Rattle.text_format.specs.declared.front.Kind.{Kind}
use Rattle.text_format.specs.declared.front.Kind.TheVariants.{Word, Value, Alias, Symbol, Block, TypeWord, Shaped, Number, Quoted, Mark}
use Rattle.text_format.specs.declared.front.ByteClass.{ByteClass}
use Rattle.text_format.specs.declared.front.ByteClass.TheVariants.{WordByte, ValueByte, Digit, Printable, LineBefore}
use Rattle.text_format.specs.declared.front.Front.{Front}
use Rattle.text_format.specs.declared.front.Front.TheVariants as fronts

-- ---- bytes

-- space, tab, line feed, carriage return
abbrev pub is_blank : ℕ → Bool
is_blank b = b == 32 || b == 9 || b == 10 || b == 13

abbrev pub is_digit : ℕ → Bool
is_digit b = nat_le 48 b && nat_le b 57

-- a letter or _
abbrev pub is_letter : ℕ → Bool
is_letter b = (nat_le 97 b && nat_le b 122) || (nat_le 65 b && nat_le b 90) || b == 95

-- letters, digits, _, $ and .
abbrev pub is_word_byte : ℕ → Bool
is_word_byte b = is_letter b || is_digit b || b == 36 || b == 46

-- a value's name may also have -; a quoted text has printable ASCII without " and \; LineBefore c has what comes before c on a line
abbrev pub belongs : ByteClass → ℕ → Bool
belongs WordByte b = is_word_byte b
belongs ValueByte b = is_word_byte b || b == 45
belongs Digit b = is_digit b
belongs Printable b = nat_le 32 b && nat_le b 126 && not (b == 34) && not (b == 92)
belongs (LineBefore c) b = not (b == c) && not (b == 10)

-- ( ) { } [ ] < > , : = - + *
abbrev pub is_mark : ℕ → Bool
is_mark b = b == 40 || b == 41 || b == 123 || b == 125 || b == 91 || b == 93 || b == 60 || b == 62 || b == 44 || b == 58 || b == 61 || b == 45 || b == 43 || b == 42

-- # @ ^ !
abbrev pub is_sign : ℕ → Bool
is_sign b = b == 35 || b == 64 || b == 94 || b == 33

-- a sign and a word
abbrev pub sign_kind : ℕ → Kind
sign_kind b = if b == 35 then Alias else (if b == 64 then Symbol else (if b == 94 then Block else TypeWord))

-- ---- runs of bytes

-- how many bytes at the front belong to the class
unfoldable pub run : ByteClass → List ℕ → ℕ
run c [] = 0
run c (b ∷ bs) = if belongs c b then suc (run c bs) else 0

-- the byte comes next
abbrev pub next_is : ℕ → List ℕ → Bool
next_is c [] = false
next_is c (b ∷ bs) = b == c

abbrev pub letter_next : List ℕ → Bool
letter_next [] = false
letter_next (b ∷ bs) = is_letter b

-- the byte stands on this line
unfoldable pub is_closed : ℕ → List ℕ → Bool
is_closed c bytes = next_is c (drop (run (LineBefore c) bytes) bytes)

-- ---- tokens

-- tensor< or vector<
abbrev pub is_shape_start : List ℕ → Bool
is_shape_start bytes = if nat_lt (length bytes) 7 then false else bytes_eq (take 7 bytes) (codes "tensor<") || bytes_eq (take 7 bytes) (codes "vector<")

-- a shaped type, behind its first seven bytes: up to the next > on its line. A type has no blank inside; a token that has
-- one is still this token, so that the fault is where a type is read, at the token, and not in bytes behind it
unfoldable pub shaped_front : List ℕ → Front
shaped_front rest = if is_closed 62 rest then fronts.Token Shaped (7 + run (LineBefore 62) rest + 1) else fronts.Unclosed

-- a letter or _, and then word bytes
unfoldable pub word_front : List ℕ → Front
word_front bytes = if is_shape_start bytes then shaped_front (drop 7 bytes) else fronts.Token Word (run WordByte bytes)

-- which of an operation's results: # and digits, or nothing
unfoldable pub result_number : List ℕ → ℕ
result_number bytes = if next_is 35 bytes && not (run Digit (drop 1 bytes) == 0) then run Digit (drop 1 bytes) + 1 else 0

-- behind %: a value's name
unfoldable pub value_front : List ℕ → Front
value_front rest =
    if run ValueByte rest == 0 then fronts.Byte 0
    else fronts.Token Value (run ValueByte rest + result_number (drop (run ValueByte rest) rest) + 1)

-- behind # @ ^ or !: a word
unfoldable pub sign_front : ℕ → List ℕ → Front
sign_front b rest = if letter_next rest then fronts.Token (sign_kind b) (run WordByte rest + 1) else fronts.Byte 0

-- behind ": up to the next ", where all that stands between is printable
unfoldable pub quoted_front : List ℕ → Front
quoted_front rest =
    if next_is 34 (drop (run Printable rest) rest) then fronts.Token Quoted (run Printable rest + 2)
    else (if is_closed 34 rest then fronts.Byte (run Printable rest + 1) else fronts.Unclosed)

-- -> and the marks of one byte
unfoldable pub mark_front : ℕ → List ℕ → Front
mark_front b rest = if b == 45 && next_is 62 rest then fronts.Token Mark 2 else (if is_mark b then fronts.Token Mark 1 else fronts.Byte 0)

-- // and what follows on its line
unfoldable pub comment_front : List ℕ → Front
comment_front rest = if next_is 47 rest then fronts.Skip (run (LineBefore 10) rest + 1) else fronts.Byte 0

-- what stands first, by its first byte
unfoldable pub front : ℕ → List ℕ → Front
front b rest =
    if is_blank b then fronts.Skip 1
    else (if b == 47 then comment_front rest
    else (if is_letter b then word_front (b ∷ rest)
    else (if is_digit b then fronts.Token Number (run Digit rest + 1)
    else (if b == 37 then value_front rest
    else (if is_sign b then sign_front b rest
    else (if b == 34 then quoted_front rest
    else mark_front b rest))))))

-- nothing at the end of a text
abbrev pub first_front : List ℕ → Option Front
first_front [] = None
first_front (b ∷ rest) = Some (front b rest)

-- it stands within n bytes
abbrev pub Within : Front → ℕ → Type 0
Within (fronts.Skip k) n = (0 < k) × (k ≤ n)
Within (fronts.Token kind k) n = (0 < k) × (k ≤ n)
Within (fronts.Byte k) n = k < n
Within fronts.Unclosed n = Unit {0}
