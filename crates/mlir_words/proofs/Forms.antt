-- What `clap` sees in a word, beside the form that the word has.
use Rattle.std.proofs.Common.{◌≡◌, ◌&&◌, ◌==◌, ℕ, suc, Bool, true, false, refl, sym, subst, true≢false, List, [], ◌∷◌, Option, Some, None, length, arith}
use Rattle.std.specs.Prelude.{slice_get}
use Rattle.std.specs.Char.{encode_utf8}
use Rattle.std.specs.Str.{bytes_eq, chars, is_utf8, all_scalars, encode_utf8_all}
use Rattle.std.proofs.lemmas.Bool.Decides.{nat_tests}
use Rattle.clap.specs.Words.{Text}
use Rattle.clap.specs.Lexer.{long_of, short_of}
use Rattle.mlir_words.specs.Asked.{Form, ends, refused, plain, form_of, named_form, option_named, is_equals, attached_value}
use Rattle.std.specs.List.{before_first}

abbrev pub dashes : Text
dashes = 45 ∷ 45 ∷ []

-- the word `--`, a word that begins with two dashes, one that begins with one, and any other
pub data Seen (word : Text) (form : Form) : Type 0 where
  sees_ends : form ≡ ends → bytes_eq word dashes ≡ true → Seen word form
  sees_long : (name : Text) → (value : Option Text) → form ≡ named_form (option_named name) value → bytes_eq word dashes ≡ false
      → long_of word ≡ Some (name, value) → Seen word form
  sees_short : (flags : Text) → (x : ℕ) → (k : ℕ) → form ≡ refused → bytes_eq word dashes ≡ false → long_of word ≡ None → short_of word ≡ Some flags
      → length flags ≡ suc k → slice_get (chars flags) 0 ≡ Some x → Seen word form
  sees_plain : form ≡ plain → bytes_eq word dashes ≡ false → long_of word ≡ None → short_of word ≡ None → Seen word form

-- the characters of a text that isn't empty are some
first_char : (b : ℕ) (rest : Text) → is_utf8 (45 ∷ b ∷ rest) ≡ true → (x : ℕ) × (slice_get (chars (b ∷ rest)) 0 ≡ Some x)
unfolding is_utf8 chars encode_utf8
first_char b rest text = go (chars (b ∷ rest)) text
  where
    go : (cs : List ℕ) → (all_scalars (45 ∷ cs) && bytes_eq (encode_utf8_all (45 ∷ cs)) (45 ∷ b ∷ rest)) ≡ true → (x : ℕ) × (slice_get cs 0 ≡ Some x)
    go [] h = absurd (true≢false (sym h))
    go (x ∷ xs) h = (x, refl)

seen_one : (b : ℕ) (t : Bool) → (b == 45) ≡ t → Seen (b ∷ []) (form_of (b ∷ []))
seen_one b true is = sees_plain (rw is refl) (rw is refl) (rw is refl) (rw is refl)
seen_one b false is = sees_plain (rw is refl) (rw is refl) (rw is refl) (rw is refl)

seen_more : (b c : ℕ) (rest : Text) (s t : Bool) → (b == 45) ≡ s → (c == 45) ≡ t → is_utf8 (b ∷ c ∷ rest) ≡ true → Seen (b ∷ c ∷ rest) (form_of (b ∷ c ∷ rest))
seen_more b c rest false t is also text = sees_plain (rw is refl) (rw is refl) (rw is refl) (rw is refl)
seen_more b c rest true false is also text =
    let same : b ≡ 45 = grind (arith, nat_tests) in
    let head = first_char c rest (subst (λ x. is_utf8 (x ∷ c ∷ rest) ≡ true) same text) in
    sees_short (c ∷ rest) head.0 (length rest) (rw (is, also) refl) (rw (is, also) refl) (rw (is, also) refl) (rw (is, also) refl) refl head.1
seen_more b c [] true true is also text = sees_ends (rw (is, also) refl) (rw (is, also) refl)
seen_more b c (z ∷ zs) true true is also text =
    sees_long (before_first is_equals (z ∷ zs)) (attached_value (z ∷ zs)) (rw (is, also) refl) (rw (is, also) refl) (rw (is, also) refl)

pub seen : (word : Text) → is_utf8 word ≡ true → Seen word (form_of word)
seen [] text = sees_plain refl refl refl refl
seen (b ∷ []) text = seen_one b (b == 45) refl
seen (b ∷ c ∷ rest) text = seen_more b c rest (b == 45) (c == 45) refl refl text
