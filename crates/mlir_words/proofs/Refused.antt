-- Words that are refused: an option without its value, and two files or more behind `--`.
use Rattle.std.proofs.Common.{◌≡◌, ◌∙◌, ◌&&◌, ◌==◌, Bool, cond, true, false, not, refl, sym, ap, true≢false}
use Rattle.std.proofs.Common.{List, [], ◌∷◌, ◌++◌, codes, map, Option, Some, None}
use Rattle.std.specs.Prelude.{option_and_then}
use Rattle.std.specs.List.{AllByRecursion, before_first, flat_map}
use Rattle.mlir_words.specs.Asked.{Expects, Form, Item, Part, Text, anything, only_file, plain, refused}
use Rattle.mlir_words.specs.Asked.{transform_interpreter, lower, run, input, workers, sample, file}
use Rattle.mlir_words.specs.Asked.{asked, attached_value, differ_after, form_of, gives, has, is_equals, items, long_form}
use Rattle.mlir_words.specs.Asked.{named_form, option_form, option_named, options_by, options_once, value_read, word_read}
use Rattle.mlir_words.specs.Spelled.{IsSpelled, Spelled, is_option, is_plain_word, item_of, option_word, words_of}
use Rattle.mlir_words.specs.Table.{lacks_value}
use Rattle.mlir_words.proofs.Orders.{itself, none_before}
use Rattle.mlir_words.proofs.Spellings.{given_behind, none_behind, parted_form}

-- ---- an option without its value

-- a word of this form is no value
abbrev NoValue : Form → Type 0
NoValue f = (p : Part) (word : Text) (next : Expects → Option (List Item)) → value_read f p word next ≡ None

option_no_value : (q : Part) (v : Option Text) → NoValue (option_form q v)
option_no_value transform_interpreter None p word next = refl
option_no_value transform_interpreter (Some v) p word next = refl
option_no_value lower None p word next = refl
option_no_value lower (Some v) p word next = refl
option_no_value run None p word next = refl
option_no_value run (Some v) p word next = refl
option_no_value input None p word next = refl
option_no_value input (Some v) p word next = refl
option_no_value workers None p word next = refl
option_no_value workers (Some v) p word next = refl
option_no_value sample None p word next = refl
option_no_value sample (Some v) p word next = refl
option_no_value file None p word next = refl
option_no_value file (Some v) p word next = refl

named_no_value : (o : Option Part) (v : Option Text) → NoValue (named_form o v)
named_no_value None v p word next = refl
named_no_value (Some q) v p word next = option_no_value q v p word next

long_no_value : (text : Text) → NoValue (long_form text)
long_no_value [] p word next = refl
long_no_value (b ∷ rest) p word next =
    named_no_value (option_named (before_first is_equals (b ∷ rest))) (attached_value (b ∷ rest)) p word next

no_value : (word : Text) → not (is_plain_word word) ≡ true → NoValue (form_of word)
no_value [] dashed p w next = absurd (true≢false (sym dashed))
no_value (b ∷ []) dashed p w next = absurd (true≢false (sym dashed))
no_value (b ∷ c ∷ rest) dashed p w next = first (b == 45) dashed
  where
    second : (t : Bool) → value_read (cond t (long_form rest) refused) p w next ≡ None
    second true = long_no_value rest p w next
    second false = refl

    first : (t : Bool) → not (not t) ≡ true
        → value_read (cond t (cond (c == 45) (long_form rest) refused) plain) p w next ≡ None
    first true dashed = second (c == 45)
    first false dashed = absurd (true≢false (sym dashed))

lone_option : (part : Part) (rest : List Text) → is_option part ≡ true → lacks_value rest ≡ true
    → items (option_word part ∷ rest) anything ≡ None
unfolding items
lone_option part [] is lacks = ap (λ f. word_read f (option_word part) (items [])) (parted_form part is)
lone_option part (word ∷ rest) is lacks =
    ap (λ f. word_read f (option_word part) (items (word ∷ rest))) (parted_form part is)
    ∙ no_value word lacks part word (items rest)

pub valueless_refused : (all : List Spelled) (part : Part) (rest : List Text) → AllByRecursion IsSpelled all
    → is_option part ≡ true → lacks_value rest ≡ true → asked (flat_map words_of all ++ option_word part ∷ rest) ≡ None
valueless_refused all part rest is takes lacks = ap (option_and_then options_once)
    (none_behind all (option_word part ∷ rest) is (lone_option part rest takes lacks))

-- ---- two files or more behind `--`

abbrev as_files : List Text → List Item
as_files = map (λ word. (file, word))

only_files : (words : List Text) → items words only_file ≡ Some (as_files words)
unfolding items
only_files [] = refl
only_files (word ∷ rest) = ap (gives file word) (only_files rest)

dashes_given : (words : List Text) → items (codes "--" ∷ words) anything ≡ Some (as_files words)
unfolding items
dashes_given words = only_files words

and_false : (b : Bool) → (b && false) ≡ false
and_false true = refl
and_false false = refl

-- a part that stands twice in a row, behind other items
twice_in_row : (p : Part) (v w : Text) (before us rest : List Item)
    → differ_after before (us ++ (p, v) ∷ (p, w) ∷ rest) ≡ false
unfolding differ_after
twice_in_row p v w before [] rest =
    let after : List Item = before ++ (p, v) ∷ [] in
    ap (λ b. not (has p before) && (not b && differ_after (after ++ (p, w) ∷ []) rest)) (none_before p (p, v) before (itself p))
    ∙ and_false (not (has p before))
twice_in_row p v w before (u ∷ us) rest =
    ap (λ b. not (has u.0 before) && b) (twice_in_row p v w (before ++ u ∷ []) us rest) ∙ and_false (not (has u.0 before))

pub many_files_refused : (all : List Spelled) (first second : Text) (rest : List Text) → AllByRecursion IsSpelled all
    → asked (flat_map words_of all ++ codes "--" ∷ first ∷ second ∷ rest) ≡ None
many_files_refused all first second rest is =
    let words : List Text = first ∷ second ∷ rest in
    let given : List Item = map item_of all ++ as_files words in
    ap (option_and_then options_once) (given_behind all (codes "--" ∷ words) (as_files words) is (dashes_given words))
    ∙ ap (λ b. cond b (Some (options_by given)) None) (twice_in_row file first second [] (map item_of all) (as_files rest))
