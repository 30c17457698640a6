-- What a literal gives, and its range.
use Rattle.std.proofs.Common.{◌≡◌, ◌<◌, ◌≤◌, ◌^◌, ◌%◌, ℕ, ◌+◌, ◌*◌, ◌-◌, zero, suc, pos, ◌-ℤ◌, Bool, true, false, ◌&&◌, ◌||◌, cond, List, [], ◌∷◌, Option, Some, None, Ok, refl, ap, subst, arith, nat_le, nat_eq, codes, mod-eq_of_lt, length, drop, get_or}
use Rattle.std.proofs.Math.Seq.{drop-cons}
use Rattle.std.specs.Str.{bytes_eq}
use Rattle.std.proofs.lemmas.Int.{ints}
use Rattle.std.proofs.lemmas.Bool.{and_from, and_parts, lt-ltb, le-leb, leb-true}
use Rattle.mlir_base.specs.declared.types.ElemTy.{ElemTy}
use Rattle.mlir_base.specs.declared.types.ElemTy.TheVariants.{Int, Index}
use Rattle.payload_ops.specs.Bits.{reduce}
use Rattle.mlir_base.specs.Types.{bits_of, is_value}
use Rattle.payload_ops.proofs.Words.{reduce-lt, reduce_is}
use Rattle.text_format.specs.Bytes.{is_digit}
use Rattle.text_format.specs.Token.{TokenShape}
use Rattle.text_format.specs.Types.{element_of, integer, width_of, one_digit, two_digits}
use Rattle.mlir_syntax.specs.declared.tree.literals.ScalarLiteral.{ScalarLiteral}
use Rattle.mlir_syntax.specs.declared.tree.literals.ScalarLiteral.TheVariants as literals
use Rattle.mlir_lex.specs.declared.fault.Fault.TheVariants.{Number}
use Rattle.mlir_lex.specs.Chain.{demand}
use Rattle.mlir_scope.specs.Literals.{spelled_from, digits_value, is_negative, signed_by, number_of, place_of_number, most_of, is_in_range, value_in, elem_from, elem_at, truth_of, literal_of, is_near, is_written, is_literal}
use Rattle.mlir_scope.proofs.Keeps.{then_ok, ok_same, demand_ok}

-- ---- digits

pub grows : (bs : List ℕ) (n : ℕ) → n ≤ spelled_from bs n
grows [] n = omega arith
grows (b ∷ bs) n = let h = grows bs (n * 10 + (b - 48)) in omega arith

-- digits that spell 2^64 or more at a place do so at the end
pub passes : (bs : List ℕ) (i n d total : ℕ) → i < length bs → 2 ^ 64 ≤ n * 10 + (get_or bs i d - 48) → spelled_from (drop i bs) n ≡ total → 2 ^ 64 ≤ total
passes bs i n d total l h e =
    let g = grows (drop (suc i) bs) (n * 10 + (get_or bs i d - 48)) in
    let k = ap (λ (xs : List ℕ). spelled_from xs n) (drop-cons bs i d l) in
    omega (arith, g, k, e)

-- ---- values

one_if : (b : Bool) → is_literal (Int 1) (cond b 1 0) ≡ true
one_if true = refl
one_if false = refl

first_or : (a b : Bool) → a ≡ true → (a || b) ≡ true
first_or a b h = rw h refl

second_or : (a b : Bool) → b ≡ true → (a || b) ≡ true
second_or true b h = refl
second_or false b h = h

near_pos : (m : ℕ) → m ≤ 2147483648 → is_near Index (reduce 64 (pos m)) ≡ true
near_pos m le =
    let e : reduce 64 (pos m) ≡ m % 2 ^ 64 = reduce_is 64 0 m (pos m) (omega (arith, ints)) in
    let k : m % 2 ^ 64 ≡ m = mod-eq_of_lt (omega arith) in
    rw (e, k) (first_or (nat_le m 2147483648) _ (le-leb m 2147483648 le))

far : (m : ℕ) → 0 < m → m ≤ 2147483648 → is_near Index ((2 ^ 64 - m) % 2 ^ 64) ≡ true
far m lo le =
    let k : (2 ^ 64 - m) % 2 ^ 64 ≡ 2 ^ 64 - m = mod-eq_of_lt (omega arith) in
    rw k (second_or _ (nat_le (2 ^ 64 - 2147483648) (2 ^ 64 - m)) (le-leb (2 ^ 64 - 2147483648) (2 ^ 64 - m) (omega arith)))

near_neg : (m : ℕ) → m ≤ 2147483648 → is_near Index (reduce 64 (pos 0 -ℤ pos m)) ≡ true
near_neg zero le = near_pos 0 le
near_neg (suc m) le =
    let e : reduce 64 (pos 0 -ℤ pos (suc m)) ≡ (2 ^ 64 - suc m) % 2 ^ 64 = reduce_is 64 1 (2 ^ 64 - suc m) (pos 0 -ℤ pos (suc m)) (omega (arith, ints)) in
    rw e (far (suc m) (omega arith) le)

near : (e : ElemTy) (b : Bool) (m : ℕ) → nat_le m (most_of b e) ≡ true → is_near e (reduce (bits_of e) (signed_by b m)) ≡ true
near (Int w) b m h = refl
near Index true m h = near_neg m (leb-true m 2147483648 h)
near Index false m h = near_pos m (leb-true m 2147483648 h)

-- ---- types

some_if : {A : Type 0} (b : Bool) (o : Option A) (x : A) → cond b o None ≡ Some x → (b ≡ true) × (o ≡ Some x)
some_if true o x h = (refl, h)
some_if false o x h = absurd (cc h)

one_width : (a w : ℕ) → one_digit a ≡ Some w → is_written (Int w) ≡ true
one_width a w h =
    let c = some_if (nat_le 49 a && nat_le a 57) (Some (a - 48)) w h in
    let p = and_parts (nat_le 49 a) (nat_le a 57) c.0 in
    let lo = leb-true 49 a p.0 in
    let hi = leb-true a 57 p.1 in
    let e : a - 48 ≡ w = cc (c.1) in
    and_from _ _ (le-leb 1 w (omega arith)) (le-leb w 64 (omega arith))

two_width : (a b w : ℕ) → two_digits a b ≡ Some w → is_written (Int w) ≡ true
two_width a b w h =
    let c = some_if (nat_le 49 a && nat_le a 57 && is_digit b && nat_le ((a - 48) * 10 + (b - 48)) 64) (Some ((a - 48) * 10 + (b - 48))) w h in
    let p = and_parts (nat_le 49 a && nat_le a 57 && is_digit b) (nat_le ((a - 48) * 10 + (b - 48)) 64) c.0 in
    let q = and_parts (nat_le 49 a && nat_le a 57) (is_digit b) p.0 in
    let r = and_parts (nat_le 49 a) (nat_le a 57) q.0 in
    let lo = leb-true 49 a r.0 in
    let hi = leb-true ((a - 48) * 10 + (b - 48)) 64 p.1 in
    let e : (a - 48) * 10 + (b - 48) ≡ w = cc (c.1) in
    and_from _ _ (le-leb 1 w (omega arith)) (le-leb w 64 (omega arith))

width_written : (text : List ℕ) (w : ℕ) → width_of text ≡ Some w → is_written (Int w) ≡ true
width_written [] w h = absurd (cc h)
width_written (i ∷ []) w h = absurd (cc h)
width_written (i ∷ (a ∷ [])) w h = one_width a w (some_if (nat_eq i 105) (one_digit a) w h).1
width_written (i ∷ (a ∷ (b ∷ []))) w h = two_width a b w (some_if (nat_eq i 105) (two_digits a b) w h).1
width_written (i ∷ (a ∷ (b ∷ (c ∷ rest)))) w h = absurd (cc h)

integer_written : (o : Option ℕ) (e : ElemTy) → ((w : ℕ) → o ≡ Some w → is_written (Int w) ≡ true) → integer o ≡ Some e → is_written e ≡ true
integer_written None e f h = absurd (cc h)
integer_written (Some w) e f h = let k : Int w ≡ e = cc h in subst (λ t. is_written t ≡ true) k (f w refl)

written_if : (b : Bool) (o : Option ElemTy) (e : ElemTy) → (o ≡ Some e → is_written e ≡ true) → cond b (Some Index) o ≡ Some e → is_written e ≡ true
written_if true o e f h = let k : Index ≡ e = cc h in subst (λ t. is_written t ≡ true) k refl
written_if false o e f h = f h

pub element_written : (text : List ℕ) (e : ElemTy) → element_of text ≡ Some e → is_written e ≡ true
element_written text e h = written_if (bytes_eq text (codes "index")) (integer (width_of text)) e (λ k. integer_written (width_of text) e (λ w q. width_written text w q) k) h

elem_found : (at : ℕ) (o : Option ElemTy) (e : ElemTy) → elem_from at o ≡ Ok e → o ≡ Some e
elem_found at None e h = absurd (cc h)
elem_found at (Some x) e h = ap (λ y. Some y) (ok_same x e h)

-- a type that a token writes
pub elem_written : (t : TokenShape) (e : ElemTy) → elem_at t ≡ Ok e → is_written e ≡ true
elem_written t e h = element_written t.text e (elem_found t.start (element_of t.text) e h)

-- the value of a literal is one of its type, and one that some literal has
pub literal_is : (l : ScalarLiteral) (x : ElemTy × ℕ) → literal_of l ≡ Ok x → is_literal x.0 x.1 ≡ true
literal_is (literals.Boolean t) x h =
    subst (λ (y : ElemTy × ℕ). is_literal y.0 y.1 ≡ true) (ok_same (Int 1, truth_of t.text) x h) (one_if (bytes_eq t.text (codes "true")))
literal_is (literals.Number n) x h =
    let e = then_ok (elem_at n.ty) _ x h in
    let d = then_ok (demand (is_in_range e.0 n.number) (Number (place_of_number n.number) n.ty.start)) _ x e.2 in
    subst (λ (y : ElemTy × ℕ). is_literal y.0 y.1 ≡ true) (ok_same (e.0, value_in e.0 n.number) x d.2)
    (and_from _ _ (and_from _ _ (elem_written n.ty e.0 e.1) (lt-ltb _ _ (reduce-lt (bits_of e.0) (number_of n.number)))) (near e.0 (is_negative n.number.sign) (digits_value n.number.digits.text) (demand_ok _ _ d.0 d.1)))

pub literal_value : (e : ElemTy) (v : ℕ) → is_literal e v ≡ true → is_value e v ≡ true
literal_value e v h = (and_parts (is_written e) (is_value e v) (and_parts (is_written e && is_value e v) (is_near e v) h).0).1
