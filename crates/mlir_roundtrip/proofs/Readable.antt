-- The text of a tensor's type reads as that type.
use Rattle.std.proofs.Common.{◌≡◌, ◌<◌, ◌≤◌, ◌^◌, ℕ, ◌+◌, ◌-◌, ◌*◌, suc, zero, Bool, true, false, ◌&&◌, List, [], ◌∷◌, ◌++◌, length, map, drop, Ok, Option, Some, None, refl, sym, ap, ◌∙◌, arith, codes, decimal, append_assoc, length-append, nat_eq, nat_le, nat_lt}
use Rattle.std.proofs.lemmas.Bool.{cond-true, cond-false, le-leb, le-ltb, and_from, and_parts, eq-eqb, leb-true, leb-false}
use Rattle.std.proofs.lemmas.Fmt.{digits_decimal, digits_value-decimal, decimal_is_IsNumeral}
use Rattle.std.proofs.lemmas.List.{drop_at, take_at, length-map}
use Rattle.std.proofs.lemmas.Str.Parse.{IsNumeralModel, numerals_by_fold, tells_digits, digit_from_value}
use Rattle.std.specs.Fmt.{digits}
use Rattle.std.specs.Str.Parse.{AllDigits}
use Rattle.mlir_base.specs.declared.types.ElemTy.TheVariants.{Int}
use Rattle.payload_ops.specs.Payload.{has_type}
use Rattle.text_format.specs.Bytes.{is_digit}
use Rattle.text_format.specs.Types.{number_at, no_extents, extent_before, begins_with_digit, extents_in, extents_of, extent_of, ranked_from, is_shaped, inside, width_of, element_of, is_some}
use Rattle.text_format.proofs.Extents.{behind_number, number_first}
use Rattle.text_format.specs.declared.types.Extent.TheVariants as written
use Rattle.mlir_ir.specs.declared.tree.Ty.{Ty}
use Rattle.mlir_ir.specs.declared.tree.Ty.TheVariants.{Tensor}
use Rattle.mlir_ir.specs.declared.tree.Extent.{Extent}
use Rattle.mlir_ir.specs.declared.tree.Extent.TheVariants.{Fixed, Any}
use Rattle.mlir_lex.specs.Chain.{each}
use Rattle.mlir_scope.specs.Types.{extent_at, counted, elements, shape_type, are_extents, is_shape, elem_of}
use Rattle.mlir_print.specs.Types.{ty_text, elem_text, extents_text}
use Rattle.mlir_roundtrip.specs.Printable.{AreKept, IsKeptTensor, IsTensorType}

abbrev fold : ℕ → List ℕ → ℕ
fold n [] = n
fold n (c ∷ cs) = fold (n * 10 + (c - 48)) cs

model : IsNumeralModel (AllDigits 10) (fold 0)
model = numerals_by_fold (AllDigits 10) tells_digits fold (record { empty = λ n. refl; more = λ n c cs r. refl })

digit : (c : ℕ) (cs : List ℕ) → AllDigits 10 (c ∷ cs) → is_digit c ≡ true
digit c cs a = let r = digit_from_value c a.0 in and_from _ _ (le-leb 48 c r.0) (le-leb c 57 r.1)

reads : (cs : List ℕ) (n b : ℕ) (rest : List ℕ) → AllDigits 10 cs → is_digit b ≡ false → number_at (cs ++ b ∷ rest) n ≡ (fold n cs, b ∷ rest)
reads [] n b rest a e = cond-false (is_digit b) (number_at rest (n * 10 + (b - 48))) (n, b ∷ rest) e
reads (c ∷ cs) n b rest a e = cond-true (is_digit c) (number_at (cs ++ b ∷ rest) (n * 10 + (c - 48))) (n, c ∷ (cs ++ b ∷ rest)) (digit c cs a) ∙ reads cs (n * 10 + (c - 48)) b rest a.1 e

-- a number that was written is read
number_read : (n b : ℕ) (rest : List ℕ) → n < 2 ^ 64 → is_digit b ≡ false → number_at (decimal n ++ b ∷ rest) 0 ≡ (n, b ∷ rest)
number_read n b rest s e = reads (decimal n) 0 b rest (digits_decimal model n s) e ∙ ap (λ k. (k, b ∷ rest)) (digits_value-decimal model n s)

digit_first : (ds rest : List ℕ) → 0 < length ds → AllDigits 10 ds → begins_with_digit (ds ++ rest) ≡ true
digit_first [] rest s a = absurd (omega arith)
digit_first (d ∷ ds) rest s a = digit d ds a

-- ---- what holds of each width

abbrev all_up_to : (ℕ → Bool) → ℕ → Bool
all_up_to p zero = true
all_up_to p (suc n) = p (suc n) && all_up_to p n

up_step : (p : ℕ → Bool) (n k : ℕ) (b : Bool) → nat_le k n ≡ b → p (suc n) ≡ true → (k ≤ n → p k ≡ true) → k ≤ suc n → p k ≡ true
up_step p n k true e h f hi = f (leb-true k n e)
up_step p n k false e h f hi = let l = leb-false k n e in let same : k ≡ suc n = omega arith in ap p same ∙ h

up_to : (p : ℕ → Bool) (n k : ℕ) → all_up_to p n ≡ true → 0 < k → k ≤ n → p k ≡ true
up_to p zero k h lo hi = absurd (omega arith)
up_to p (suc n) k h lo hi = let q = and_parts (p (suc n)) (all_up_to p n) h in up_step p n k (nat_le k n) refl q.0 (λ le. up_to p n k q.1 lo le) hi

abbrev is_that : Option ℕ → ℕ → Bool
is_that None w = false
is_that (Some v) w = nat_le v w && nat_le w v

that : (o : Option ℕ) (w : ℕ) → is_that o w ≡ true → o ≡ Some w
that None w h = absurd (cc h)
that (Some v) w h = let p = and_parts (nat_le v w) (nat_le w v) h in let a = leb-true v w p.0 in let b = leb-true w v p.1 in let e : v ≡ w = omega arith in ap (λ x. Some x) e

pub width_read : (w : ℕ) → 0 < w → w ≤ 64 → width_of (105 ∷ decimal w) ≡ Some w
unfolding digits
width_read w lo hi = that (width_of (105 ∷ decimal w)) w (up_to (λ v. is_that (width_of (105 ∷ decimal v)) v) 64 w refl lo hi)

pub elem_read : (w : ℕ) → 0 < w → w ≤ 64 → has_type (element_of (elem_text (Int w))) (Int w) ≡ true
unfolding digits
elem_read w lo hi = up_to (λ v. has_type (element_of (elem_text (Int v))) (Int v)) 64 w refl lo hi

-- ---- a tensor's type

-- the extents as numbers
abbrev numbers : List Extent → List ℕ
numbers es = map counted es

abbrev text_in : List Extent → ℕ → List ℕ
text_in es w = extents_text es ++ (105 ∷ decimal w)

extents_read : (es : List Extent) (w : ℕ) → AreKept es → 0 < w → w ≤ 64 → extents_in (text_in es w) None ≡ Some (numbers es, w)
extents_read [] w k lo hi = ap no_extents (width_read w lo hi)
extents_read (Fixed n ∷ es) w k lo hi =
    let s : n < 2 ^ 64 = omega (arith, k.0) in
    let d = decimal_is_IsNumeral n s in
    let rest = text_in es w in
    let e : text_in (Fixed n ∷ es) w ≡ decimal n ++ 120 ∷ text_in es w = append_assoc (decimal n) (120 ∷ extents_text es) (105 ∷ decimal w) in
    ap (λ (t : List ℕ). extents_in t None) e
    ∙ number_first (decimal n ++ 120 ∷ text_in es w) (digit_first (decimal n) (120 ∷ text_in es w) d.0.0 d.0.1)
    ∙ ap behind_number (number_read n 120 (text_in es w) s refl)
    ∙ ap (extent_before n) (extents_read es w k.1 lo hi)
extents_read (Any ∷ es) w k lo hi = absurd k

shaped_text : (ins : List ℕ) → is_shaped (codes "tensor<") (codes "tensor<" ++ (ins ++ codes ">")) ≡ true
shaped_text ins =
    let k = length-append ins (codes ">") in
    let long : nat_lt (length (codes "tensor<" ++ (ins ++ codes ">"))) 8 ≡ false = le-ltb (length (codes "tensor<" ++ (ins ++ codes ">"))) 8 (omega arith) in
    let last : drop (length (codes "tensor<" ++ (ins ++ codes ">")) - 1) (codes "tensor<" ++ (ins ++ codes ">")) ≡ codes ">" = drop_at (codes "tensor<" ++ ins) (codes ">") (length (codes "tensor<" ++ (ins ++ codes ">")) - 1) (omega arith) in
    rw (long, last) refl

inside_is : (ins : List ℕ) → inside (codes "tensor<" ++ (ins ++ codes ">")) ≡ ins
inside_is ins =
    let k = length-append ins (codes ">") in
    take_at ins (codes ">") (length (codes "tensor<" ++ (ins ++ codes ">")) - 8) (omega arith)

inside_read : (ins : List ℕ) → extents_of (codes "tensor<" ++ (ins ++ codes ">")) ≡ extents_in ins None
unfolding extents_of
inside_read ins = cond-true (is_shaped (codes "tensor<") (codes "tensor<" ++ (ins ++ codes ">"))) (extents_in (inside (codes "tensor<" ++ (ins ++ codes ">"))) None) None (shaped_text ins) ∙ ap (λ (t : List ℕ). extents_in t None) (inside_is ins)

-- the text of a tensor's type, inside and around it
pub type_text : (es : List Extent) (w : ℕ) → ty_text (Tensor es w) ≡ codes "tensor<" ++ (text_in es w ++ codes ">")
type_text es w = ap (λ (t : List ℕ). codes "tensor<" ++ t) (sym (append_assoc (extents_text es) (105 ∷ decimal w) (codes ">")))

pub type_read : (es : List Extent) (w : ℕ) → IsKeptTensor es w → extents_of (ty_text (Tensor es w)) ≡ Some (numbers es, w)
type_read es w h = ap extents_of (type_text es w) ∙ inside_read (text_in es w) ∙ extents_read es w h.extents h.some h.most

-- the text of a type reads as that type
pub record Readable (ty : Ty) : Type 0 where
  pub shaped : (at : ℕ) → shape_type at (ranked_from (extents_of (ty_text ty))) ≡ Ok ty
  pub same : is_shape (ranked_from (extents_of (ty_text ty))) ty ≡ true
  pub elem : has_type (element_of (elem_text (elem_of ty))) (elem_of ty) ≡ true

same_number : (n : ℕ) → nat_eq n n ≡ true
same_number n = eq-eqb n n refl

-- an extent within the limit is kept
kept_extent : (n : ℕ) → n ≤ 1048576 → extent_of n ≡ written.Fixed n
kept_extent n h = cond-true (nat_le n 1048576) (written.Fixed n) written.TooLarge (le-leb n 1048576 h)

all_kept : (at : ℕ) (es : List Extent) → AreKept es → each (extent_at at) (map extent_of (numbers es)) ≡ Ok es
all_kept at [] k = refl
all_kept at (Fixed n ∷ es) k = rw (kept_extent n k.0, all_kept at es k.1) refl
all_kept at (Any ∷ es) k = absurd k

all_same : (es : List Extent) → AreKept es → are_extents (map extent_of (numbers es)) es ≡ true
all_same [] k = refl
all_same (Fixed n ∷ es) k = rw (kept_extent n k.0, same_number n) (all_same es k.1)
all_same (Any ∷ es) k = absurd k

as_many : (es : List Extent) → length (map extent_of (numbers es)) ≡ length es
as_many es = length-map (numbers es) extent_of ∙ length-map es counted

tensor_readable : (es : List Extent) (w : ℕ) → IsKeptTensor es w → Readable (Tensor es w)
tensor_readable es w h =
    let rank : nat_le (length (map extent_of (numbers es))) 8 ≡ true = le-leb (length (map extent_of (numbers es))) 8 (omega (arith, as_many es, h.rank)) in
    let few = le-leb (elements es) 4194304 h.few in
    record {
      shaped = λ at. rw (type_read es w h, rank, all_kept at es h.extents, few) refl;
      same = rw (type_read es w h, all_same es h.extents, same_number w) refl;
      elem = elem_read w h.some h.most;
    }

-- its text is one of a tensor
pub row_shaped : (ty : Ty) → IsTensorType ty → is_some (extents_of (ty_text ty)) ≡ true
row_shaped (Tensor es w) h = ap is_some (type_read es w h)
row_shaped ty h = absurd h

pub elem_some : (w : ℕ) → 0 < w → w ≤ 64 → is_some (element_of (elem_text (Int w))) ≡ true
unfolding digits
elem_some w lo hi = up_to (λ v. is_some (element_of (elem_text (Int v)))) 64 w refl lo hi

pub readable : (ty : Ty) → IsTensorType ty → Readable ty
readable (Tensor es w) h = tensor_readable es w h
readable ty h = absurd h
