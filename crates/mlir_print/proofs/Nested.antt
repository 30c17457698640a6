-- The bytes of a dense literal.
use Rattle.std.proofs.Common.{◌≡◌, ◌<◌, ◌≤◌, ℕ, ◌+◌, ◌-◌, ◌*◌, zero, suc, ℤ, pos, negsuc, List, [], ◌∷◌, ◌++◌, length, drop, take, get_or, codes, decimal, refl, sym, ap, ◌∙◌, append_assoc, arith}
use Rattle.std.proofs.Math.Nat.{suc-mul, zero-mul}
use Rattle.std.proofs.lemmas.List.{append-nil, take_all}
use Rattle.std.specs.Fmt.{signed_decimal}
use Rattle.mlir_ir.specs.declared.tree.Extent.{Extent}
use Rattle.mlir_scope.specs.Types.{counted, elements}
use Rattle.mlir_print.specs.Literals.{truth_text}
use Rattle.mlir_print.specs.Constants.{Word, bare, close_word, comma_word, number_words, items_words, nested_words, words_text}
use Rattle.text_format.specs.declared.front.Kind.TheVariants as tokens

pub words_append : (xs ys : List Word) → words_text (xs ++ ys) ≡ words_text xs ++ words_text ys
words_append [] ys = refl
words_append (x ∷ xs) ys =
    ap (λ (t : List ℕ). x.text ++ (x.behind ++ t)) (words_append xs ys)
    ∙ ap (λ (t : List ℕ). x.text ++ t) (sym (append_assoc x.behind (words_text xs) (words_text ys)))
    ∙ sym (append_assoc x.text (x.behind ++ words_text xs) (words_text ys))

pub number_is : (z : ℤ) → words_text (number_words z) ≡ signed_decimal z
number_is (pos n) = append-nil (decimal n)
number_is (negsuc n) = ap (λ (t : List ℕ). codes "-" ++ t) (append-nil (decimal (suc n)))

pub truth_is : (v : ℕ) → words_text (bare tokens.Word (truth_text v) ∷ []) ≡ truth_text v
truth_is v = append-nil (truth_text v)

-- what stands before an item
abbrev pub before_at : ℕ → List Word
before_at zero = []
before_at (suc k) = comma_word ∷ []

-- ---- the items of a list

-- all extents but the first
abbrev pub others : List Extent → List Extent
others xs = take (length xs - 1) (drop 1 xs)

front : (xs : List Extent) (d : Extent) → 1 ≤ length xs → xs ≡ get_or xs 0 d ∷ others xs
front [] d le = absurd (omega (arith, le))
front (x ∷ xs) d le = ap (λ ys. x ∷ ys) (sym (take_all (length (x ∷ xs) - 1) xs (omega arith)))

nested_from : (w : ℕ) (e : Extent) (es : List Extent) (cells : List ℕ) → words_text (nested_words w (e ∷ es) cells) ≡ 91 ∷ (words_text (items_words (nested_words w es) (elements es) [] (counted e) cells) ++ 93 ∷ [])
unfolding nested_words
nested_from w e es cells = ap (λ (t : List ℕ). 91 ∷ t) (words_append (items_words (nested_words w es) (elements es) [] (counted e) cells) (close_word ∷ []))

pub nested_is : (w n : ℕ) (xs : List Extent) (d : Extent) (cells : List ℕ) → 1 ≤ length xs → n ≡ counted (get_or xs 0 d)
    → words_text (nested_words w xs cells) ≡ 91 ∷ (words_text (items_words (nested_words w (others xs)) (elements (others xs)) [] (n - 0) cells) ++ 93 ∷ [])
nested_is w n xs d cells le e =
    let z : n - 0 ≡ n = omega arith in
    ap (λ (ys : List Extent). words_text (nested_words w ys cells)) (front xs d le)
    ∙ nested_from w (get_or xs 0 d) (others xs) cells
    ∙ ap (λ k. 91 ∷ (words_text (items_words (nested_words w (others xs)) (elements (others xs)) [] k cells) ++ 93 ∷ [])) (sym (z ∙ e))

pub elements_is : (n : ℕ) (xs : List Extent) (d : Extent) → 1 ≤ length xs → n ≡ counted (get_or xs 0 d) → elements xs ≡ (n - 0) * elements (others xs)
elements_is n xs d le e =
    let z : n - 0 ≡ n = omega arith in
    ap elements (front xs d le) ∙ ap (λ k. k * elements (others xs)) (sym (z ∙ e))

-- one more item
pub items_step : (f : List ℕ → List Word) (size n k : ℕ) (cs : List ℕ) → k < n
    → words_text (items_words f size (before_at k) (n - k) cs) ≡ words_text (before_at k) ++ (words_text (f cs) ++ words_text (items_words f size (before_at (k + 1)) (n - (k + 1)) (drop size cs)))
items_step f size n k cs lt =
    let z : n - k ≡ suc (n - (k + 1)) = omega (arith, lt) in
    let y : suc k ≡ k + 1 = omega arith in
    ap (λ j. words_text (items_words f size (before_at k) j cs)) z
    ∙ words_append (before_at k) (f cs ++ items_words f size (comma_word ∷ []) (n - (k + 1)) (drop size cs))
    ∙ ap (λ t. words_text (before_at k) ++ t) (words_append (f cs) (items_words f size (comma_word ∷ []) (n - (k + 1)) (drop size cs)))
    ∙ ap (λ j. words_text (before_at k) ++ (words_text (f cs) ++ words_text (items_words f size (before_at j) (n - (k + 1)) (drop size cs)))) y

pub items_done : (f : List ℕ → List Word) (size n k : ℕ) (b : List Word) (cs : List ℕ) → n ≤ k → words_text (items_words f size b (n - k) cs) ≡ []
items_done f size n k b cs le = let z : n - k ≡ 0 = omega (arith, le) in ap (λ j. words_text (items_words f size b j cs)) z

drop_none : {A : Type 0} (n : ℕ) → drop {A = A} n [] ≡ []
drop_none zero = refl
drop_none (suc n) = refl

drop_twice : {A : Type 0} (a b : ℕ) (cs : List A) → drop (a + b) cs ≡ drop b (drop a cs)
drop_twice zero b cs = let z : zero + b ≡ b = omega arith in ap (λ j. drop j cs) z
drop_twice (suc a) b [] = drop_none (suc a + b) ∙ sym (drop_none b)
drop_twice (suc a) b (c ∷ cs) = let z : suc a + b ≡ suc (a + b) = omega arith in ap (λ j. drop j (c ∷ cs)) z ∙ drop_twice a b cs

pub rest_step : (size n k : ℕ) (cs : List ℕ) → k < n → drop ((n - (k + 1)) * size) (drop size cs) ≡ drop ((n - k) * size) cs
rest_step size n k cs lt =
    let z : n - k ≡ suc (n - (k + 1)) = omega (arith, lt) in
    let y : size + (n - (k + 1)) * size ≡ suc (n - (k + 1)) * size = omega (arith, suc-mul (n - (k + 1)) size) in
    sym (drop_twice size ((n - (k + 1)) * size) cs) ∙ ap (λ j. drop j cs) y ∙ ap (λ j. drop (j * size) cs) (sym z)

pub rest_done : (size n k : ℕ) (cs : List ℕ) → n ≤ k → drop ((n - k) * size) cs ≡ cs
rest_done size n k cs le = let z : n - k ≡ 0 = omega (arith, le) in ap (λ j. drop (j * size) cs) z ∙ ap (λ j. drop j cs) (zero-mul size)

pub before_comma : (k : ℕ) → codes ", " ≡ words_text (before_at (k + 1))
before_comma k = let y : suc k ≡ k + 1 = omega arith in ap (λ j. words_text (before_at j)) y

pub regroup : (o b f w z : List ℕ) → ((o ++ b) ++ f) ++ (w ++ z) ≡ o ++ ((b ++ (f ++ w)) ++ z)
regroup o b f w z = simp append_assoc
