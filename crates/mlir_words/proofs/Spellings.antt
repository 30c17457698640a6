-- What spelled words give.
use Rattle.std.proofs.Common.{◌≡◌, ◌∙◌, ◌==◌, Bool, cond, true, false, not, refl, sym, ap, true≢false, List, [], ◌∷◌, ◌++◌}
use Rattle.std.proofs.Common.{append_assoc, codes, map, Some, None}
use Rattle.std.specs.Prelude.{option_and_then}
use Rattle.std.specs.List.{AllByRecursion, flat_map}
use Rattle.std.specs.List.Sorted.{IsPermutation}
use Rattle.std.proofs.lemmas.List.Sorted.{IsPermutation-refl}
use Rattle.mlir_words.specs.Asked.{Item, Part, Text, sample, anything, flag, attached, awaits, plain, refused, asked, differ_after}
use Rattle.mlir_words.specs.Asked.{each_once, form_of, gives, items, long_form, options_by, options_once, value_read, word_read}
use Rattle.mlir_words.specs.Spelled.{Ending, IsSpelled, Spelled, dashes, ending_items, ending_words, file_behind, file_word, flag_word, is_option, is_plain_word, item_of, joined, nothing_behind, option_word, parted, spelled, spelled_items, words_of}
use Rattle.mlir_words.proofs.Steps.{each_option}
use Rattle.mlir_words.proofs.Orders.{any_order}

flag_form : form_of (codes "--transform-interpreter") ≡ flag
flag_form = refl

joined_form : (p : Part) → is_option p ≡ true → (v : Text) → form_of (option_word p ++ 61 ∷ v) ≡ attached p v
joined_form = each_option (λ p. (v : Text) → form_of (option_word p ++ 61 ∷ v) ≡ attached p v) (λ v. refl) (λ v. refl) (λ v. refl) (λ v. refl) (λ v. refl)

pub parted_form : (p : Part) → is_option p ≡ true → form_of (option_word p) ≡ awaits p
parted_form = each_option (λ p. form_of (option_word p) ≡ awaits p) refl refl refl refl refl

plain_form : (v : Text) → is_plain_word v ≡ true → form_of v ≡ plain
plain_form [] is = refl
plain_form (b ∷ []) is = go (b == 45)
  where
    go : (t : Bool) → cond t plain plain ≡ plain
    go true = refl
    go false = refl
plain_form (b ∷ c ∷ rest) is = go (b == 45) is
  where
    go : (t : Bool) → not t ≡ true → cond t (cond (c == 45) (long_form rest) refused) plain ≡ plain
    go true h = absurd (true≢false (sym h))
    go false h = refl

-- what one spelling gives, in front of other words
one_spelled : (s : Spelled) (rest : List Text) → IsSpelled s → items (words_of s ++ rest) anything ≡ gives (item_of s).0 (item_of s).1 (items rest anything)
unfolding items
one_spelled flag_word rest is = refl
one_spelled (joined p v) rest is = ap (λ f. word_read f (option_word p ++ 61 ∷ v) (items rest)) (joined_form p is v)
one_spelled (parted p v) rest is = ap (λ f. word_read f (option_word p) (items (v ∷ rest))) (parted_form p is.0) ∙ ap (λ f. value_read f p v (items rest)) (plain_form v is.1)
one_spelled (file_word v) rest is = ap (λ f. word_read f v (items rest)) (plain_form v is)

ending_given : (ending : Ending) → items (ending_words ending) anything ≡ Some (ending_items ending)
unfolding items
ending_given nothing_behind = refl
ending_given dashes = refl
ending_given (file_behind v) = refl

-- spelled words give their items
pub items_spelled : (all : List Spelled) (ending : Ending) → AllByRecursion IsSpelled all → items (spelled all ending) anything ≡ Some (spelled_items all ending)
items_spelled [] ending is = ending_given ending
items_spelled (s ∷ rest) ending is =
    ap (λ words. items words anything) (append_assoc (words_of s) (flat_map words_of rest) (ending_words ending))
    ∙ one_spelled s (spelled rest ending) is.0 ∙ ap (gives (item_of s).0 (item_of s).1) (items_spelled rest ending is.1)

-- whatever their order, where each is of another part
pub asked_spelled : (given : List Item) (all : List Spelled) (ending : Ending) → AllByRecursion IsSpelled all → IsPermutation given (spelled_items all ending) → each_once given ≡ true
    → asked (spelled all ending) ≡ Some (options_by given)
asked_spelled given all ending is moved once =
    let other = any_order given (spelled_items all ending) moved once in
    ap (option_and_then options_once) (items_spelled all ending is)
    ∙ ap (λ b. cond b (Some (options_by (spelled_items all ending))) None) other.0 ∙ ap Some other.1

-- a part that is given twice
pub twice_spelled : (all : List Spelled) (ending : Ending) → AllByRecursion IsSpelled all → each_once (spelled_items all ending) ≡ false → asked (spelled all ending) ≡ None
twice_spelled all ending is twice =
    ap (option_and_then options_once) (items_spelled all ending is) ∙ ap (λ b. cond b (Some (options_by (spelled_items all ending))) None) twice

-- what other words give, behind spelled ones
pub given_behind : (all : List Spelled) (words : List Text) (rest : List Item) → AllByRecursion IsSpelled all → items words anything ≡ Some rest
    → items (flat_map words_of all ++ words) anything ≡ Some (map item_of all ++ rest)
given_behind [] words rest is given = given
given_behind (s ∷ all) words rest is given =
    ap (λ all. items all anything) (append_assoc (words_of s) (flat_map words_of all) words)
    ∙ one_spelled s (flat_map words_of all ++ words) is.0 ∙ ap (gives (item_of s).0 (item_of s).1) (given_behind all words rest is.1 given)

pub none_behind : (all : List Spelled) (words : List Text) → AllByRecursion IsSpelled all → items words anything ≡ None
    → items (flat_map words_of all ++ words) anything ≡ None
none_behind [] words is none = none
none_behind (s ∷ all) words is none =
    ap (λ all. items all anything) (append_assoc (words_of s) (flat_map words_of all) words)
    ∙ one_spelled s (flat_map words_of all ++ words) is.0 ∙ ap (gives (item_of s).0 (item_of s).1) (none_behind all words is.1 none)

-- a word that is refused, behind spelled ones
pub unknown_refused : (all : List Spelled) (word : Text) (rest : List Text) → AllByRecursion IsSpelled all → form_of word ≡ refused → asked (flat_map words_of all ++ word ∷ rest) ≡ None
unfolding items
unknown_refused all word rest is bad = ap (option_and_then options_once)
    (none_behind all (word ∷ rest) is (ap (λ f. word_read f word (items rest)) bad))

-- `--sample` and its size
pub parted_value : (size : Text) → is_plain_word size ≡ true → asked (codes "--sample" ∷ size ∷ []) ≡ Some (options_by ((sample, size) ∷ []))
unfolding differ_after
parted_value size is = asked_spelled ((sample, size) ∷ []) (parted sample size ∷ []) nothing_behind ((refl, is), tt) (IsPermutation-refl ((sample, size) ∷ [])) refl
