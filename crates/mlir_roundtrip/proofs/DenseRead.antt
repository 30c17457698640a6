-- The tokens of a dense literal that was written read as its cells.
use Rattle.std.proofs.Common.{◌≡◌, ◌<◌, ◌≤◌, ◌^◌, ◌==◌, ◌+◌, ◌*◌, ◌-◌, ℕ, zero, suc, ℤ, pos, negsuc, Bool, true, false, List, [], ◌∷◌, ◌++◌, map, take, drop, length, Option, Some, None, Result as Answer, Ok, Err, refl, sym, ap, ◌∙◌, append_assoc, arith, codes, decimal, nat_eq, nat_lt, mod-eq_of_lt}
use Rattle.std.specs.Str.Parse.{AllDigits}
use Rattle.std.proofs.Math.Seq.{take-add}
use Rattle.std.proofs.Math.Nat.{suc-mul, zero-mul}
use Rattle.std.proofs.lemmas.Bool.{eq-eqb, eqb-true, ne_eqb, le-leb, lt-ltb, ltb-true}
use Rattle.std.proofs.lemmas.List.{length-drop}
use Rattle.std.proofs.lemmas.Fmt.{decimal_is_IsNumeral}
use Rattle.std.proofs.lemmas.Str.Parse.{digit_from_value}
use Rattle.mlir_base.specs.declared.types.ElemTy.TheVariants.{Int}
use Rattle.payload_ops.specs.Bits.{reduce, signed_of}
use Rattle.mlir_base.specs.Types.{is_value}
use Rattle.payload_ops.proofs.Residues.{reduce-signed_of}
use Rattle.mlir_ir.specs.declared.tree.Extent.{Extent}
use Rattle.mlir_ir.specs.declared.tree.Extent.TheVariants.{Fixed as FixedExtent, Any}
use Rattle.text_format.specs.declared.front.Kind.TheVariants as tokens
use Rattle.text_format.specs.Token.{TokenShape}
use Rattle.text_format.specs.Pieces.{bytes_of}
use Rattle.mlir_syntax.specs.declared.tree.constants.DensePiece.{DensePiece}
use Rattle.mlir_lex.specs.declared.fault.Fault.{Fault}
use Rattle.mlir_lex.specs.Chain.{and_then}
use Rattle.mlir_resolve.specs.declared.dense.Mark.{Mark}
use Rattle.mlir_resolve.specs.declared.dense.Mark.TheVariants as marks
use Rattle.mlir_resolve.specs.declared.dense.Wanted.{Wanted}
use Rattle.mlir_resolve.specs.declared.dense.Wanted.TheVariants as wanted
use Rattle.mlir_scope.specs.Types.{counted, elements}
use Rattle.mlir_scope.specs.Literals.{digits_value, is_negative, most_of}
use Rattle.mlir_resolve.specs.Constants.{mark_of, Stand, with_item, behind, by_stand, nested_from, number_in, elements_from, shape_marks, behind_element, behind_close, and_behind, times, behind_nested}
use Rattle.mlir_print.specs.Literals.{number_at}
use Rattle.text_format.specs.Writers.{each_of}
use Rattle.mlir_print.specs.Constants.{Word, bare, open_word, close_word, comma_word, number_words, element_if, element_words, first_words, items_words, nested_words, word_at}
use Rattle.mlir_roundtrip.specs.Printable.{AreKept}
use Rattle.mlir_roundtrip.proofs.DenseWords.{AreValues, all_drop}
use Rattle.mlir_roundtrip.proofs.Numbers.{Signed, signed_value}
use Rattle.mlir_roundtrip.proofs.PayloadSpaced.{IsSmallNumber, number_if}

-- the tokens of the words, where the first stands at a place
abbrev pub pieces_at : List Word → ℕ → List DensePiece
pieces_at xs at = (each_of (map word_at xs)).tree at

abbrev past : Word → ℕ → ℕ
past x at = at + length (bytes_of (word_at x).pieces)

abbrev bare_digits : ℕ → Word
bare_digits n = bare tokens.Number (decimal (suc n))

-- digits are no mark
digits_mark : (ds : List ℕ) → 0 < length ds → AllDigits 10 ds → mark_of ds ≡ marks.Digits
digits_mark [] some a = absurd (omega arith)
digits_mark (d ∷ ds) some a =
    let r = digit_from_value d a.0 in
    let lo = r.0 in
    let hi = r.1 in
    let e91 : nat_eq d 91 ≡ false = ne_eqb d 91 (λ q. absurd (omega (arith, q, hi))) in
    let e93 : nat_eq d 93 ≡ false = ne_eqb d 93 (λ q. absurd (omega (arith, q, hi))) in
    let e44 : nat_eq d 44 ≡ false = ne_eqb d 44 (λ q. absurd (omega (arith, q, lo))) in
    let e45 : nat_eq d 45 ≡ false = ne_eqb d 45 (λ q. absurd (omega (arith, q, lo))) in
    let e116 : nat_eq d 116 ≡ false = ne_eqb d 116 (λ q. absurd (omega (arith, q, hi))) in
    let e102 : nat_eq d 102 ≡ false = ne_eqb d 102 (λ q. absurd (omega (arith, q, hi))) in
    rw (e91, e93, e44, e45, e116, e102) refl

number_mark : (n : ℕ) → n < 2 ^ 64 → mark_of (decimal n) ≡ marks.Digits
number_mark n s = let d = decimal_is_IsNumeral n s in digits_mark (decimal n) d.0.0 d.0.1

-- ---- which tokens may stand where

-- an item may stand there
abbrev pub Accepts : Wanted → Type 0
Accepts wanted.Whole = Unit {0}
Accepts wanted.First = Unit {0}
Accepts wanted.Item = Unit {0}
Accepts w = ⊥

abbrev is_close : Mark → Bool
is_close marks.Close = true
is_close m = false

starts : (wd : Wanted) (d : ℕ) (m : Mark) → Accepts wd → is_close m ≡ false → behind wd d m ≡ with_item d m
unfolding behind
starts wanted.Whole d m a e = refl
starts wanted.Item d m a e = refl
starts wanted.First d marks.Close a e = absurd (cc e)
starts wanted.First d m a e = refl
starts wd d m a e = absurd a

-- one token
nests : (close : TokenShape) (wd : Wanted) (d : ℕ) (x : Word) (xs : List Word) (at : ℕ) (m : Mark) (s : Stand) → mark_of x.text ≡ m → behind wd d m ≡ Some s → nested_from close wd d (pieces_at (x ∷ xs) at) ≡ nested_from close s.0 s.1 (pieces_at xs (past x at))
unfolding nested_from
nests close wd d x xs at m s e k = ap (λ n. by_stand at (λ (t : Stand). nested_from close t.0 t.1 (pieces_at xs (past x at))) (behind wd d n)) e ∙ ap (by_stand at (λ (t : Stand). nested_from close t.0 t.1 (pieces_at xs (past x at)))) k

-- from there on it goes on behind an item
abbrev pub Nests : TokenShape → Wanted → ℕ → List Word → List Word → Type 0
Nests close wd d xs ys = (at : ℕ) → (k : ℕ) × (nested_from close wd d (pieces_at (xs ++ ys) at) ≡ nested_from close wanted.Behind d (pieces_at ys k))

truth_nests : (close : TokenShape) (wd : Wanted) (d v : ℕ) (ys : List Word) → Accepts wd → Nests close wd d (element_if true 1 v) ys
truth_nests close wd d zero ys a at = (_, nests close wd d (bare tokens.Word (codes "false")) ys at (marks.Truth false) (wanted.Behind, d) refl (starts wd d (marks.Truth false) a refl))
truth_nests close wd d (suc v) ys a at = (_, nests close wd d (bare tokens.Word (codes "true")) ys at (marks.Truth true) (wanted.Behind, d) refl (starts wd d (marks.Truth true) a refl))

digits_behind : (d : ℕ) → behind wanted.Number d marks.Digits ≡ Some (wanted.Behind, d)
unfolding behind
digits_behind d = refl

number_nests : (close : TokenShape) (wd : Wanted) (d : ℕ) (z : ℤ) (ys : List Word) → Accepts wd → IsSmallNumber z → Nests close wd d (number_words z) ys
number_nests close wd d (pos n) ys a s at = (_, nests close wd d (bare tokens.Number (decimal n)) ys at marks.Digits (wanted.Behind, d) (number_mark n s) (starts wd d marks.Digits a refl))
number_nests close wd d (negsuc n) ys a s at = (
  _,
  nests close wd d (bare tokens.Mark (codes "-")) (bare_digits n ∷ ys) at marks.Minus (wanted.Number, d) refl (starts wd d marks.Minus a refl)
      ∙ nests close wanted.Number d (bare_digits n) ys _ marks.Digits (wanted.Behind, d) (number_mark (suc n) s) (digits_behind d),
)

element_if_nests : (close : TokenShape) (wd : Wanted) (d : ℕ) (b : Bool) (w v : ℕ) (ys : List Word) → Accepts wd → IsSmallNumber (signed_of w v) → Nests close wd d (element_if b w v) ys
element_if_nests close wd d true w v ys a s = truth_nests close wd d v ys a
element_if_nests close wd d false w v ys a s = number_nests close wd d (signed_of w v) ys a s

-- what is asked of the width
pub record IsWidth (w : ℕ) : Type 0 where
  pub some : 0 < w
  pub most : w ≤ 64

value_small : (w v : ℕ) → IsWidth w → is_value (Int w) v ≡ true → IsSmallNumber (signed_of w v)
value_small w v h k = number_if w v (nat_lt v (2 ^ (w - 1))) refl (ltb-true v (2 ^ w) k) h.most

pub element_nests : (close : TokenShape) (wd : Wanted) (d w v : ℕ) (ys : List Word) → Accepts wd → IsWidth w → is_value (Int w) v ≡ true → Nests close wd d (element_words w v) ys
element_nests close wd d w v ys a h k = element_if_nests close wd d (w == 1) w v ys a (value_small w v h k)

first_nests : (close : TokenShape) (wd : Wanted) (d w : ℕ) (cs : List ℕ) (ys : List Word) → Accepts wd → IsWidth w → AreValues w cs → 1 ≤ length cs → Nests close wd d (first_words w cs) ys
first_nests close wd d w [] ys a h k le = absurd (omega arith)
first_nests close wd d w (c ∷ cs) ys a h k le = element_nests close wd d w c ys a h k.0

-- items of so many cells, each of which may stand where an item may
abbrev pub ItemNests : TokenShape → ℕ → ℕ → ℕ → (List ℕ → List Word) → Type 0
ItemNests close d w size item = (wd : Wanted) (cs : List ℕ) (ys : List Word) → Accepts wd → AreValues w cs → size ≤ length cs → Nests close wd d (item cs) ys

-- behind an item that stands in a list
comma_behind : (d : ℕ) → behind wanted.Behind (suc d) marks.Comma ≡ Some (wanted.Item, suc d)
unfolding behind
comma_behind d = refl

close_behind : (d : ℕ) → behind wanted.Behind (suc d) marks.Close ≡ Some (wanted.Behind, d)
unfolding behind
close_behind d = refl

close_first : (d : ℕ) → behind wanted.First (suc d) marks.Close ≡ Some (wanted.Behind, d)
unfolding behind
close_first d = refl

assoc : (close : TokenShape) (wd : Wanted) (d : ℕ) (xs ys zs : List Word) (at : ℕ) → nested_from close wd d (pieces_at ((xs ++ ys) ++ zs) at) ≡ nested_from close wd d (pieces_at (xs ++ (ys ++ zs)) at)
assoc close wd d xs ys zs at = ap (λ (ws : List Word). nested_from close wd d (pieces_at ws at)) (append_assoc xs ys zs)

size_drop : (size n : ℕ) (cs : List ℕ) → suc n * size ≤ length cs → (size ≤ length cs) × (n * size ≤ length (drop size cs))
size_drop size n cs h = let m = suc-mul n size in (omega (arith, m), omega (arith, m, length-drop size cs))

more_nest : (close : TokenShape) (d w size : ℕ) (item : List ℕ → List Word) (n : ℕ) (cs : List ℕ) (ys : List Word) → ItemNests close (suc d) w size item → AreValues w cs → n * size ≤ length cs
    → Nests close wanted.Behind (suc d) (items_words item size (comma_word ∷ []) n cs) ys
more_nest close d w size item zero cs ys h k le at = (at, refl)
more_nest close d w size item (suc n) cs ys h k le at =
    let q = size_drop size n cs le in
    let one = h wanted.Item cs (items_words item size (comma_word ∷ []) n (drop size cs) ++ ys) tt k q.0 (past comma_word at) in
    let more = more_nest close d w size item n (drop size cs) ys h (all_drop (λ c. is_value (Int w) c ≡ true) size cs k) q.1 one.0 in (
      more.0,
      nests close wanted.Behind (suc d) comma_word ((item cs ++ items_words item size (comma_word ∷ []) n (drop size cs)) ++ ys) at marks.Comma (wanted.Item, suc d) refl (comma_behind d)
          ∙ assoc close wanted.Item (suc d) (item cs) (items_words item size (comma_word ∷ []) n (drop size cs)) ys (past comma_word at) ∙ one.1 ∙ more.1,
    )

-- a list, behind its first bracket
list_nests : (close : TokenShape) (d w size : ℕ) (item : List ℕ → List Word) (n : ℕ) (cs : List ℕ) (ys : List Word) → ItemNests close (suc d) w size item → AreValues w cs → n * size ≤ length cs
    → (at : ℕ) → (k : ℕ) × (nested_from close wanted.First (suc d) (pieces_at ((items_words item size [] n cs ++ close_word ∷ []) ++ ys) at) ≡ nested_from close wanted.Behind d (pieces_at ys k))
list_nests close d w size item zero cs ys h k le at = (_, nests close wanted.First (suc d) close_word ys at marks.Close (wanted.Behind, d) refl (close_first d))
list_nests close d w size item (suc n) cs ys h k le at =
    let q = size_drop size n cs le in
    let one = h wanted.First cs (items_words item size (comma_word ∷ []) n (drop size cs) ++ (close_word ∷ ys)) tt k q.0 at in
    let more = more_nest close d w size item n (drop size cs) (close_word ∷ ys) h (all_drop (λ c. is_value (Int w) c ≡ true) size cs k) q.1 one.0 in (
      past close_word more.0,
      assoc close wanted.First (suc d) (item cs ++ items_words item size (comma_word ∷ []) n (drop size cs)) (close_word ∷ []) ys at
          ∙ assoc close wanted.First (suc d) (item cs) (items_words item size (comma_word ∷ []) n (drop size cs)) (close_word ∷ ys) at ∙ one.1 ∙ more.1
          ∙ nests close wanted.Behind (suc d) close_word ys more.0 marks.Close (wanted.Behind, d) refl (close_behind d),
    )

open_item : (d : ℕ) → d < 8 → with_item d marks.Open ≡ Some (wanted.First, suc d)
open_item d lt = rw (lt-ltb d 8 lt) refl

-- a literal that is nested as a tensor of these extents may stand where an item may
pub nested_nests : (close : TokenShape) (d w : ℕ) (es : List Extent) → IsWidth w → d + length es ≤ 8 → ItemNests close d w (elements es) (nested_words w es)
unfolding nested_words
nested_nests close d w [] h le wd cs ys a k some at = first_nests close wd d w cs ys a h k some at
nested_nests close d w (e ∷ es) h le wd cs ys a k some at =
    let items = list_nests close d w (elements es) (nested_words w es) (counted e) cs ys (nested_nests close (suc d) w es h (omega arith)) k some (past open_word at) in
    let here : behind wd d marks.Open ≡ Some (wanted.First, suc d) = starts wd d marks.Open a refl ∙ open_item d (omega arith) in
    (items.0, nests close wd d open_word ((items_words (nested_words w es) (elements es) [] (counted e) cs ++ close_word ∷ []) ++ ys) at marks.Open (wanted.First, suc d) refl here ∙ items.1)

-- ---- the elements

-- the elements, and then the others
abbrev onto : List ℕ → Answer (List ℕ) Fault → Answer (List ℕ) Fault
onto cs r = and_then r (λ ds. Ok (cs ++ ds))

onto_none : (r : Answer (List ℕ) Fault) → onto [] r ≡ r
onto_none (Ok ds) = refl
onto_none (Err e) = refl

onto_more : (cs ds : List ℕ) (r : Answer (List ℕ) Fault) → onto cs (onto ds r) ≡ onto (cs ++ ds) r
onto_more cs ds (Ok xs) = ap (λ (ys : List ℕ). Ok ys) (sym (append_assoc cs ds xs))
onto_more cs ds (Err e) = refl

abbrev pub Gives : ℕ → ℕ → List ℕ → List Word → List Word → Type 0
Gives w ty cs xs ys = (at : ℕ) → (k : ℕ) × (elements_from w ty None (pieces_at (xs ++ ys) at) ≡ onto cs (elements_from w ty None (pieces_at ys k)))

truth_gives : (w ty v : ℕ) (ys : List Word) → w ≡ 1 → is_value (Int w) v ≡ true → Gives w ty (v ∷ []) (element_if true w v) ys
unfolding elements_from
truth_gives w ty zero ys e h at = (past (bare tokens.Word (codes "false")) at, rw (eq-eqb w 1 e) refl)
truth_gives w ty (suc zero) ys e h at = (past (bare tokens.Word (codes "true")) at, rw (eq-eqb w 1 e) refl)
truth_gives w ty (suc (suc v)) ys e h at = let l = ltb-true (suc (suc v)) (2 ^ w) h in let p = ap (λ n. 2 ^ n) e in absurd (omega arith)

-- digits that spell the magnitude of a value, behind its sign
number_found : (w ty v at : ℕ) (s : Signed w v) (negative : Bool) (digits : List ℕ) → is_value (Int w) v ≡ true → negative ≡ s.negative → digits_value digits ≡ s.magnitude → number_in w at ty negative digits ≡ Ok v
number_found w ty v at s negative digits h e f =
    let few = le-leb s.magnitude (most_of s.negative (Int w)) (s.few (Int w) refl refl) in
    let value : reduce w (signed_of w v) ≡ v = reduce-signed_of w v ∙ mod-eq_of_lt (ltb-true v (2 ^ w) h) in
    rw (e, f, few, s.number, value) refl

number_gives : (w ty v : ℕ) (z : ℤ) (ys : List Word) → z ≡ signed_of w v → Signed w v → IsSmallNumber z → is_value (Int w) v ≡ true → Gives w ty (v ∷ []) (number_words z) ys
unfolding elements_from
number_gives w ty v (pos n) ys e s l h at =
    let sign : false ≡ s.negative = ap (λ (y : ℤ). is_negative ((number_at y).tree 0).sign) e ∙ s.sign 0 in
    let digits : digits_value (decimal n) ≡ s.magnitude = ap (λ (y : ℤ). digits_value ((number_at y).tree 0).digits.text) e ∙ s.digits 0 in
    (past (bare tokens.Number (decimal n)) at, rw (number_mark n l, number_found w ty v at s false (decimal n) h sign digits) refl)
number_gives w ty v (negsuc n) ys e s l h at =
    let sign : true ≡ s.negative = ap (λ (y : ℤ). is_negative ((number_at y).tree 0).sign) e ∙ s.sign 0 in
    let digits : digits_value (decimal (suc n)) ≡ s.magnitude = ap (λ (y : ℤ). digits_value ((number_at y).tree 0).digits.text) e ∙ s.digits 0 in
    (past (bare_digits n) (past (bare tokens.Mark (codes "-")) at), rw (number_mark (suc n) l, number_found w ty v at s true (decimal (suc n)) h sign digits) refl)

element_if_gives : (b : Bool) (w ty v : ℕ) (ys : List Word) → (w == 1) ≡ b → IsWidth w → is_value (Int w) v ≡ true → Gives w ty (v ∷ []) (element_if b w v) ys
element_if_gives true w ty v ys e h k = truth_gives w ty v ys (eqb-true w 1 e) k
element_if_gives false w ty v ys e h k = number_gives w ty v (signed_of w v) ys refl (signed_value w v h.some h.most (ltb-true v (2 ^ w) k)) (value_small w v h k) k

pub element_gives : (w ty v : ℕ) (ys : List Word) → IsWidth w → is_value (Int w) v ≡ true → Gives w ty (v ∷ []) (element_words w v) ys
element_gives w ty v ys h k = element_if_gives (w == 1) w ty v ys refl h k

first_gives : (w ty : ℕ) (cs : List ℕ) (ys : List Word) → IsWidth w → AreValues w cs → 1 ≤ length cs → Gives w ty (take 1 cs) (first_words w cs) ys
first_gives w ty [] ys h k le = absurd (omega arith)
first_gives w ty (c ∷ cs) ys h k le = element_gives w ty c ys h k.0

abbrev pub ItemGives : ℕ → ℕ → ℕ → (List ℕ → List Word) → Type 0
ItemGives w ty size item = (cs : List ℕ) (ys : List Word) → AreValues w cs → size ≤ length cs → Gives w ty (take size cs) (item cs) ys

-- a mark gives no element
skips : (w ty : ℕ) (xs : List Word) (at : ℕ) → (elements_from w ty None (pieces_at (open_word ∷ xs) at) ≡ elements_from w ty None (pieces_at xs (past open_word at)))
    × (elements_from w ty None (pieces_at (close_word ∷ xs) at) ≡ elements_from w ty None (pieces_at xs (past close_word at))) × (elements_from w ty None (pieces_at (comma_word ∷ xs) at) ≡ elements_from w ty None (pieces_at xs (past comma_word at)))
unfolding elements_from
skips w ty xs at = (refl, refl, refl)

give_assoc : (w ty : ℕ) (xs ys zs : List Word) (at : ℕ) → elements_from w ty None (pieces_at ((xs ++ ys) ++ zs) at) ≡ elements_from w ty None (pieces_at (xs ++ (ys ++ zs)) at)
give_assoc w ty xs ys zs at = ap (λ (ws : List Word). elements_from w ty None (pieces_at ws at)) (append_assoc xs ys zs)

-- the cells of one item, and of those behind it
both_items : (size n : ℕ) (cs : List ℕ) → take size cs ++ take (n * size) (drop size cs) ≡ take (suc n * size) cs
both_items size n cs = let m = suc-mul n size in let e : suc n * size ≡ size + n * size = omega (arith, m) in sym (ap (λ j. take j cs) e ∙ take-add size (n * size) cs)

more_give : (w ty size : ℕ) (item : List ℕ → List Word) (n : ℕ) (cs : List ℕ) (ys : List Word) → ItemGives w ty size item → AreValues w cs → n * size ≤ length cs → Gives w ty (take (n * size) cs) (items_words item size (comma_word ∷ []) n cs) ys
more_give w ty size item zero cs ys h k le at = (at, sym (ap (λ m. onto (take m cs) (elements_from w ty None (pieces_at ys at))) (zero-mul size) ∙ onto_none (elements_from w ty None (pieces_at ys at))))
more_give w ty size item (suc n) cs ys h k le at =
    let q = size_drop size n cs le in
    let one = h cs (items_words item size (comma_word ∷ []) n (drop size cs) ++ ys) k q.0 (past comma_word at) in
    let more = more_give w ty size item n (drop size cs) ys h (all_drop (λ c. is_value (Int w) c ≡ true) size cs k) q.1 one.0 in (
      more.0,
      (skips w ty ((item cs ++ items_words item size (comma_word ∷ []) n (drop size cs)) ++ ys) at).2 ∙ give_assoc w ty (item cs) (items_words item size (comma_word ∷ []) n (drop size cs)) ys (past comma_word at) ∙ one.1
          ∙ ap (onto (take size cs)) more.1 ∙ onto_more (take size cs) (take (n * size) (drop size cs)) (elements_from w ty None (pieces_at ys more.0)) ∙ ap (λ (ds : List ℕ). onto ds (elements_from w ty None (pieces_at ys more.0))) (both_items size n cs),
    )

list_gives : (w ty size : ℕ) (item : List ℕ → List Word) (n : ℕ) (cs : List ℕ) (ys : List Word) → ItemGives w ty size item → AreValues w cs → n * size ≤ length cs
    → (at : ℕ) → (k : ℕ) × (elements_from w ty None (pieces_at ((items_words item size [] n cs ++ close_word ∷ []) ++ ys) at) ≡ onto (take (n * size) cs) (elements_from w ty None (pieces_at ys k)))
list_gives w ty size item zero cs ys h k le at =
    (past close_word at, (skips w ty ys at).1 ∙ sym (ap (λ m. onto (take m cs) (elements_from w ty None (pieces_at ys (past close_word at)))) (zero-mul size) ∙ onto_none (elements_from w ty None (pieces_at ys (past close_word at)))))
list_gives w ty size item (suc n) cs ys h k le at =
    let q = size_drop size n cs le in
    let one = h cs (items_words item size (comma_word ∷ []) n (drop size cs) ++ (close_word ∷ ys)) k q.0 at in
    let more = more_give w ty size item n (drop size cs) (close_word ∷ ys) h (all_drop (λ c. is_value (Int w) c ≡ true) size cs k) q.1 one.0 in (
      past close_word more.0,
      give_assoc w ty (item cs ++ items_words item size (comma_word ∷ []) n (drop size cs)) (close_word ∷ []) ys at
          ∙ give_assoc w ty (item cs) (items_words item size (comma_word ∷ []) n (drop size cs)) (close_word ∷ ys) at ∙ one.1 ∙ ap (onto (take size cs)) more.1
          ∙ onto_more (take size cs) (take (n * size) (drop size cs)) (elements_from w ty None (pieces_at (close_word ∷ ys) more.0))
          ∙ ap (λ (ds : List ℕ). onto ds (elements_from w ty None (pieces_at (close_word ∷ ys) more.0))) (both_items size n cs) ∙ ap (onto (take (suc n * size) cs)) (skips w ty ys more.0).1,
    )

pub nested_gives : (w ty : ℕ) (es : List Extent) → IsWidth w → ItemGives w ty (elements es) (nested_words w es)
unfolding nested_words
nested_gives w ty [] h cs ys k le at = first_gives w ty cs ys h k le at
nested_gives w ty (e ∷ es) h cs ys k le at =
    let items = list_gives w ty (elements es) (nested_words w es) (counted e) cs ys (nested_gives w ty es h) k le (past open_word at) in
    (items.0, (skips w ty ((items_words (nested_words w es) (elements es) [] (counted e) cs ++ close_word ∷ []) ++ ys) at).0 ∙ items.1)

-- ---- the nesting

abbrev pub Shapes : (List Mark → Option (List Mark)) → List Word → List Word → Type 0
Shapes f xs ys = (at : ℕ) → (k : ℕ) × (f (shape_marks (pieces_at (xs ++ ys) at)) ≡ Some (shape_marks (pieces_at ys k)))

truth_shapes : (v w : ℕ) (ys : List Word) → Shapes behind_element (element_if true w v) ys
truth_shapes zero w ys at = (_, refl)
truth_shapes (suc v) w ys at = (_, refl)

number_shapes : (z : ℤ) (ys : List Word) → IsSmallNumber z → Shapes behind_element (number_words z) ys
number_shapes (pos n) ys s at = (past (bare tokens.Number (decimal n)) at, rw (number_mark n s) refl)
number_shapes (negsuc n) ys s at = (past (bare_digits n) (past (bare tokens.Mark (codes "-")) at), rw (number_mark (suc n) s) refl)

element_if_shapes : (b : Bool) (w v : ℕ) (ys : List Word) → IsSmallNumber (signed_of w v) → Shapes behind_element (element_if b w v) ys
element_if_shapes true w v ys s = truth_shapes v w ys
element_if_shapes false w v ys s = number_shapes (signed_of w v) ys s

pub element_shapes : (w v : ℕ) (ys : List Word) → IsWidth w → is_value (Int w) v ≡ true → Shapes behind_element (element_words w v) ys
element_shapes w v ys h k = element_if_shapes (w == 1) w v ys (value_small w v h k)

first_shapes : (w : ℕ) (cs : List ℕ) (ys : List Word) → IsWidth w → AreValues w cs → 1 ≤ length cs → Shapes behind_element (first_words w cs) ys
first_shapes w [] ys h k le = absurd (omega arith)
first_shapes w (c ∷ cs) ys h k le = element_shapes w c ys h k.0

abbrev pub ItemShapes : ℕ → ℕ → (List Mark → Option (List Mark)) → (List ℕ → List Word) → Type 0
ItemShapes w size f item = (cs : List ℕ) (ys : List Word) → AreValues w cs → size ≤ length cs → Shapes f (item cs) ys

shape_assoc : (f : List Mark → Option (List Mark)) (xs ys zs : List Word) (at : ℕ) → f (shape_marks (pieces_at ((xs ++ ys) ++ zs) at)) ≡ f (shape_marks (pieces_at (xs ++ (ys ++ zs)) at))
shape_assoc f xs ys zs at = ap (λ (ws : List Word). f (shape_marks (pieces_at ws at))) (append_assoc xs ys zs)

more_shape : (w size : ℕ) (f : List Mark → Option (List Mark)) (item : List ℕ → List Word) (n : ℕ) (cs : List ℕ) (ys : List Word) → ItemShapes w size f item → AreValues w cs → n * size ≤ length cs → Shapes (times n f) (items_words item size (comma_word ∷ []) n cs) ys
more_shape w size f item zero cs ys h k le at = (at, refl)
more_shape w size f item (suc n) cs ys h k le at =
    let q = size_drop size n cs le in
    let one = h cs (items_words item size (comma_word ∷ []) n (drop size cs) ++ ys) k q.0 (past comma_word at) in
    let more = more_shape w size f item n (drop size cs) ys h (all_drop (λ c. is_value (Int w) c ≡ true) size cs k) q.1 one.0 in
    (more.0, ap (λ o. and_behind o (times n f)) (shape_assoc f (item cs) (items_words item size (comma_word ∷ []) n (drop size cs)) ys (past comma_word at) ∙ one.1) ∙ more.1)

list_shapes : (w size : ℕ) (f : List Mark → Option (List Mark)) (item : List ℕ → List Word) (n : ℕ) (cs : List ℕ) (ys : List Word) → ItemShapes w size f item → AreValues w cs → n * size ≤ length cs → Shapes (times n f) (items_words item size [] n cs) ys
list_shapes w size f item zero cs ys h k le at = (at, refl)
list_shapes w size f item (suc n) cs ys h k le at =
    let q = size_drop size n cs le in
    let one = h cs (items_words item size (comma_word ∷ []) n (drop size cs) ++ ys) k q.0 at in
    let more = more_shape w size f item n (drop size cs) ys h (all_drop (λ c. is_value (Int w) c ≡ true) size cs k) q.1 one.0 in
    (more.0, ap (λ o. and_behind o (times n f)) (shape_assoc f (item cs) (items_words item size (comma_word ∷ []) n (drop size cs)) ys at ∙ one.1) ∙ more.1)

pub nested_shapes : (w : ℕ) (es : List Extent) → AreKept es → IsWidth w → ItemShapes w (elements es) (behind_nested es) (nested_words w es)
unfolding nested_words behind_nested
nested_shapes w [] e h cs ys k le at = first_shapes w cs ys h k le at
nested_shapes w (FixedExtent n ∷ es) e h cs ys k le at =
    let items = list_shapes w (elements es) (behind_nested es) (nested_words w es) n cs (close_word ∷ ys) (nested_shapes w es e.1 h) k le (past open_word at) in
    (past close_word items.0, ap (λ o. and_behind o behind_close) (shape_assoc (times n (behind_nested es)) (items_words (nested_words w es) (elements es) [] n cs) (close_word ∷ []) ys (past open_word at) ∙ items.1))
nested_shapes w (Any ∷ es) e h cs ys k le at = absurd e
