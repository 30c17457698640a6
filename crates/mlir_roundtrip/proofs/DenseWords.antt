-- The tokens of a dense literal are of their class, and well spaced.
use Rattle.std.proofs.Common.{◌≡◌, ◌≤◌, ◌^◌, ◌==◌, ◌-◌, ℕ, zero, suc, ℤ, pos, negsuc, Bool, true, false, List, [], ◌∷◌, ◌++◌, map, drop, refl, sym, ap, subst, codes, decimal, nat_lt}
use Rattle.std.specs.List.{AllByRecursion}
use Rattle.std.proofs.lemmas.Bool.{ltb-true}
use Rattle.std.proofs.lemmas.Fmt.{decimal_is_IsNumeral}
use Rattle.mlir_base.specs.declared.types.ElemTy.TheVariants.{Int}
use Rattle.payload_ops.specs.Bits.{signed_of}
use Rattle.mlir_base.specs.Types.{is_value}
use Rattle.mlir_ir.specs.declared.tree.Ty.{Ty}
use Rattle.mlir_ir.specs.declared.tree.Extent.{Extent}
use Rattle.text_format.specs.declared.class.Class.TheVariants as classes
use Rattle.text_format.specs.declared.front.Kind.TheVariants as tokens
use Rattle.text_format.specs.declared.lexeme.Lexeme.TheVariants as lexemes
use Rattle.text_format.specs.Classes.{holds}
use Rattle.text_format.specs.Lexemes.{lexeme_kind, lexeme_text}
use Rattle.text_format.specs.Pieces.{Piece, Gap, Leaf}
use Rattle.text_format.proofs.Spacing.{IsApart, Opens, decimal_name, lexeme_name, lexeme_closed, none_apart, none_opens, gap_apart, space, fixed_closed, fixed_word, leaf_name, leaf_closed, append_apart, space_opens, fixed_opens, leaf_opens}
use Rattle.mlir_scope.specs.Types.{counted, elements}
use Rattle.mlir_print.specs.Literals.{truth_text}
use Rattle.text_format.specs.Writers.{each_of}
use Rattle.mlir_print.specs.Constants.{Word, close_word, comma_word, number_words, element_if, element_words, first_words, items_words, nested_words, is_splat, dense_if, dense_words, word_at, dense_at}
use Rattle.mlir_roundtrip.specs.Printable.{IsTensorType}
use Rattle.text_format.proofs.Written.{AreFit}
use Rattle.mlir_roundtrip.proofs.PayloadSpaced.{IsSmallNumber, number_if, truth_name, minus_before}
use Rattle.mlir_roundtrip.proofs.Placing.{row_closed}

pub all_append : {A : Type 0} (P : A → Type 0) (xs ys : List A) → AllByRecursion P xs → AllByRecursion P ys → AllByRecursion P (xs ++ ys)
all_append P [] ys h k = k
all_append P (x ∷ xs) ys h k = (h.0, all_append P xs ys h.1 k)

pub all_drop : {A : Type 0} (P : A → Type 0) (n : ℕ) (xs : List A) → AllByRecursion P xs → AllByRecursion P (drop n xs)
all_drop P zero xs h = h
all_drop P (suc n) [] h = tt
all_drop P (suc n) (x ∷ xs) h = all_drop P n xs h.1

-- ---- of their class

abbrev IsWord : Word → Type 0
IsWord x = holds classes.DenseToken x.kind x.text ≡ true

abbrev AreWords : List Word → Type 0
AreWords xs = AllByRecursion IsWord xs

numbers_are : (z : ℤ) → AreWords (number_words z)
numbers_are (pos n) = (refl, tt)
numbers_are (negsuc n) = (refl, (refl, tt))

truth_is : (v : ℕ) → holds classes.DenseToken tokens.Word (truth_text v) ≡ true
truth_is zero = refl
truth_is (suc v) = refl

element_if_is : (b : Bool) (w v : ℕ) → AreWords (element_if b w v)
element_if_is true w v = (truth_is v, tt)
element_if_is false w v = numbers_are (signed_of w v)

first_is : (w : ℕ) (cs : List ℕ) → AreWords (first_words w cs)
first_is w [] = tt
first_is w (c ∷ cs) = element_if_is (w == 1) w c

items_are : (item : List ℕ → List Word) (size : ℕ) (before : List Word) (n : ℕ) (cs : List ℕ) → ((ds : List ℕ) → AreWords (item ds)) → AreWords before → AreWords (items_words item size before n cs)
items_are item size before zero cs h b = tt
items_are item size before (suc n) cs h b =
    all_append IsWord before _ b (all_append IsWord (item cs) (items_words item size (comma_word ∷ []) n (drop size cs)) (h cs) (items_are item size (comma_word ∷ []) n (drop size cs) h (refl, tt)))

nested_are : (w : ℕ) (es : List Extent) (cs : List ℕ) → AreWords (nested_words w es cs)
unfolding nested_words
nested_are w [] cs = first_is w cs
nested_are w (e ∷ es) cs =
    (refl, all_append IsWord (items_words (nested_words w es) (elements es) [] (counted e) cs) (close_word ∷ []) (items_are (nested_words w es) (elements es) [] (counted e) cs (λ ds. nested_are w es ds) tt) (refl, tt))

dense_if_are : (b : Bool) (w : ℕ) (es : List Extent) (cs : List ℕ) → AreWords (dense_if b w es cs)
dense_if_are b w es [] = tt
dense_if_are true w es (c ∷ cs) = element_if_is (w == 1) w c
dense_if_are false w es (c ∷ cs) = nested_are w es (c ∷ cs)

are_fit : (xs : List Word) → AreWords xs → AreFit (map word_at xs)
are_fit [] h = tt
are_fit (x ∷ xs) h = ((h.0, tt), are_fit xs h.1)

pub dense_words_fit : (w : ℕ) (es : List Extent) (cs : List ℕ) → AreFit (map word_at (dense_words w es cs))
dense_words_fit w es cs = are_fit (dense_words w es cs) (dense_if_are (is_splat cs) w es cs)

-- ---- well spaced

abbrev pub pieces_of : List Word → List Piece
pieces_of xs = (each_of (map word_at xs)).pieces

pieces_append : (xs ys : List Word) → pieces_of (xs ++ ys) ≡ pieces_of xs ++ pieces_of ys
pieces_append [] ys = refl
pieces_append (x ∷ xs) ys = ap (λ (ps : List Piece). Leaf classes.DenseToken x.kind x.text ∷ Gap x.behind ∷ ps) (pieces_append xs ys)

apart_append : (xs ys : List Word) → IsApart (pieces_of xs) → Opens (pieces_of ys) → IsApart (pieces_of ys) → IsApart (pieces_of (xs ++ ys))
apart_append xs ys h o k = subst (λ (ps : List Piece). IsApart ps) (sym (pieces_append xs ys)) (append_apart (pieces_of xs) (pieces_of ys) h o k)

no_gap : {ps : List Piece} → Opens ps → Opens (Gap [] ∷ ps)
no_gap o = record { opens = λ rest s. o.opens rest s }

numbers_apart : (z : ℤ) → IsSmallNumber z → IsApart (pieces_of (number_words z))
numbers_apart (pos n) s = leaf_name classes.DenseToken (decimal_name n s) (no_gap none_opens) (gap_apart tt none_apart)
numbers_apart (negsuc n) s =
    let more = leaf_name classes.DenseToken (decimal_name (suc n) s) (no_gap none_opens) (gap_apart tt none_apart) in
    let d = decimal_is_IsNumeral (suc n) s in
    record { spaced = λ rest stop. (minus_before (decimal (suc n)) [] rest d.0.0 d.0.1, (tt, more.spaced rest stop)) }

element_if_apart : (b : Bool) (w v : ℕ) → IsSmallNumber (signed_of w v) → IsApart (pieces_of (element_if b w v))
element_if_apart true w v s = leaf_name classes.DenseToken (truth_name v) (no_gap none_opens) (gap_apart tt none_apart)
element_if_apart false w v s = numbers_apart (signed_of w v) s

abbrev pub AreValues : ℕ → List ℕ → Type 0
AreValues w cs = AllByRecursion (λ c. is_value (Int w) c ≡ true) cs

element_apart : (w v : ℕ) → w ≤ 64 → is_value (Int w) v ≡ true → IsApart (pieces_of (element_words w v))
element_apart w v le h = element_if_apart (w == 1) w v (number_if w v (nat_lt v (2 ^ (w - 1))) refl (ltb-true v (2 ^ w) h) le)

first_apart : (w : ℕ) (cs : List ℕ) → w ≤ 64 → AreValues w cs → IsApart (pieces_of (first_words w cs))
first_apart w [] le h = none_apart
first_apart w (c ∷ cs) le h = element_apart w c le h.0

-- behind the first, each behind a comma
more_apart : (w : ℕ) (item : List ℕ → List Word) (size n : ℕ) (cs : List ℕ) → ((ds : List ℕ) → AreValues w ds → IsApart (pieces_of (item ds))) → AreValues w cs
    → IsApart (pieces_of (items_words item size (comma_word ∷ []) n cs)) × Opens (pieces_of (items_words item size (comma_word ∷ []) n cs))
more_apart w item size zero cs h k = (none_apart, none_opens)
more_apart w item size (suc n) cs h k =
    let r = more_apart w item size n (drop size cs) h (all_drop (λ c. is_value (Int w) c ≡ true) size cs k) in
    (leaf_closed classes.DenseToken (lexeme_closed lexemes.Comma refl) (space (apart_append (item cs) (items_words item size (comma_word ∷ []) n (drop size cs)) (h cs k) r.1 r.0)), leaf_opens classes.DenseToken tokens.Mark (codes ",") refl)

items_apart : (w : ℕ) (item : List ℕ → List Word) (size n : ℕ) (cs : List ℕ) → ((ds : List ℕ) → AreValues w ds → IsApart (pieces_of (item ds))) → AreValues w cs → IsApart (pieces_of (items_words item size [] n cs))
items_apart w item size zero cs h k = none_apart
items_apart w item size (suc n) cs h k =
    let r = more_apart w item size n (drop size cs) h (all_drop (λ c. is_value (Int w) c ≡ true) size cs k) in
    apart_append (item cs) (items_words item size (comma_word ∷ []) n (drop size cs)) (h cs k) r.1 r.0

close_apart : IsApart (pieces_of (close_word ∷ [])) × Opens (pieces_of (close_word ∷ []))
close_apart = (leaf_closed classes.DenseToken (lexeme_closed lexemes.CloseBracket refl) (gap_apart tt none_apart), leaf_opens classes.DenseToken tokens.Mark (codes "]") refl)

nested_apart : (w : ℕ) (es : List Extent) (cs : List ℕ) → w ≤ 64 → AreValues w cs → IsApart (pieces_of (nested_words w es cs))
unfolding nested_words
nested_apart w [] cs le k = first_apart w cs le k
nested_apart w (e ∷ es) cs le k =
    let items = items_apart w (nested_words w es) (elements es) (counted e) cs (λ ds v. nested_apart w es ds le v) k in
    leaf_closed classes.DenseToken (lexeme_closed lexemes.OpenBracket refl) (gap_apart tt (apart_append (items_words (nested_words w es) (elements es) [] (counted e) cs) (close_word ∷ []) items close_apart.1 close_apart.0))

dense_if_apart : (b : Bool) (w : ℕ) (es : List Extent) (cs : List ℕ) → w ≤ 64 → AreValues w cs → IsApart (pieces_of (dense_if b w es cs))
dense_if_apart b w es [] le k = none_apart
dense_if_apart true w es (c ∷ cs) le k = element_apart w c le k.0
dense_if_apart false w es (c ∷ cs) le k = nested_apart w es (c ∷ cs) le k

pub dense_apart : (w : ℕ) (es : List Extent) (cs : List ℕ) (ty : Ty) → w ≤ 64 → AreValues w cs → IsTensorType ty → IsApart (dense_at (dense_words w es cs) ty).pieces
dense_apart w es cs ty le k t =
    fixed_word lexemes.Dense refl (fixed_opens lexemes.Less refl) (fixed_closed lexemes.Less refl (append_apart (pieces_of (dense_words w es cs)) _ (dense_if_apart (is_splat cs) w es cs le k)
    (leaf_opens (classes.Exactly lexemes.Greater) (lexeme_kind lexemes.Greater) (lexeme_text lexemes.Greater) refl)
    (leaf_name (classes.Exactly lexemes.Greater) (lexeme_name lexemes.Greater refl) space_opens (space (fixed_closed lexemes.Colon refl (space (leaf_closed classes.DenseType (row_closed ty t) none_apart)))))))
