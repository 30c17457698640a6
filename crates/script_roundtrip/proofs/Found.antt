-- Names in scope of the reader: what the canonical names stand for, and which are new.
use Rattle.std.proofs.Common.{◌≡◌, ◌<◌, ◌≤◌, ◌^◌, ◌==◌, ℕ, suc, ◌+◌, Bool, true, false, cond, ◌||◌, List, [], ◌∷◌, ◌++◌, append_assoc, length-append, length, take, drop, Option, Some, None, Ok, refl, sym, ap, subst, ◌∙◌, arith, codes, decimal, nat_eq, nat_lt}
use Rattle.std.specs.Prelude.{unwrap_or}
use Rattle.std.specs.Str.{bytes_eq}
use Rattle.std.specs.Str.Parse.{AllDigits}
use Rattle.std.specs.List.{position_from}
use Rattle.std.proofs.lemmas.Bool.{cond-true, cond-false, lt-ltb}
use Rattle.std.proofs.lemmas.List.{take_at, drop_at}
use Rattle.std.proofs.lemmas.Fmt.{decimal_injective, decimal_is_IsNumeral}
use Rattle.std.proofs.lemmas.Slice.Eq.{bytes_eq-Decides}
use Rattle.std.proofs.lemmas.Str.Parse.{digit_from_value}
use Rattle.text_format.specs.declared.front.Kind.TheVariants.{Value}
use Rattle.text_format.specs.Classes.{is_numbered}
use Rattle.text_format.specs.Numerals.{numeral}
use Rattle.script_read.specs.declared.script.HandleId.{HandleId}
use Rattle.script_read.specs.declared.names.Meaning.{Meaning}
use Rattle.script_read.specs.declared.names.Meaning.TheVariants.{One, Group}
use Rattle.script_read.specs.Numbers.{number_of}
use Rattle.script_read.specs.Names.{Entry, entry, find, parted_by, parted}
use Rattle.script_read.specs.Scope.{handle_id, part_of, stands_for, known, handle}
use Rattle.script_text.specs.declared.names.Given.{Given}
use Rattle.script_text.specs.declared.names.Given.TheVariants.{Root, Single, Part}
use Rattle.script_text.specs.declared.names.Row.{Row}
use Rattle.script_text.specs.Names.{given_text, row, or_before, spot, look, name_or, name_in, parts, rows_of}
use Rattle.script_roundtrip.specs.Printable.{IsDefined}
use Rattle.script_roundtrip.specs.Renumbered.{number_in}
use Rattle.script_roundtrip.proofs.Rows.{numeral_read, no_sign}

abbrev pub result_name : ℕ → List ℕ
result_name n = given_text (Single n)

-- ---- parts of names

no_if : (b : Bool) (i : ℕ) (o : Option ℕ) → b ≡ false → cond b (Some i) o ≡ o
no_if true i o e = absurd (cc e)
no_if false i o e = refl

first_false : (a b : Bool) → a || b ≡ false → (a ≡ false) × (b ≡ false)
first_false true b e = absurd (cc e)
first_false false b e = (refl, e)

no_place : (xs : List ℕ) (i : ℕ) → is_numbered xs ≡ false → position_from (λ b. b == 35) i xs ≡ None
no_place [] i e = refl
no_place (x ∷ xs) i e = let p = first_false (x == 35) (is_numbered xs) e in no_if (x == 35) i (position_from (λ b. b == 35) (i + 1) xs) p.0 ∙ no_place xs (i + 1) p.1

place_at : (xs ys : List ℕ) (i : ℕ) → is_numbered xs ≡ false → position_from (λ b. b == 35) i (xs ++ 35 ∷ ys) ≡ Some (i + length xs)
place_at [] ys i e = let z : i ≡ i + 0 = omega arith in ap (λ (k : ℕ). Some k) z
place_at (x ∷ xs) ys i e =
    let p = first_false (x == 35) (is_numbered xs) e in
    let z : (i + 1) + length xs ≡ i + length (x ∷ xs) = omega arith in
    no_if (x == 35) i (position_from (λ b. b == 35) (i + 1) (xs ++ 35 ∷ ys)) p.0 ∙ place_at xs ys (i + 1) p.1 ∙ ap (λ (k : ℕ). Some k) z

pub parted_plain : (xs : List ℕ) → is_numbered xs ≡ false → parted xs ≡ (xs, None)
parted_plain xs e = ap (parted_by xs) (no_place xs 0 e)

pub parted_part : (xs ys : List ℕ) → is_numbered xs ≡ false → parted (xs ++ 35 ∷ ys) ≡ (xs, Some ys)
parted_part xs ys e =
    let t : take (0 + length xs) (xs ++ 35 ∷ ys) ≡ xs = take_at xs (35 ∷ ys) (0 + length xs) (omega arith) in
    let a : xs ++ 35 ∷ ys ≡ (xs ++ 35 ∷ []) ++ ys = sym (append_assoc xs (35 ∷ []) ys) in
    let d : drop (0 + length xs + 1) (xs ++ 35 ∷ ys) ≡ ys = ap (drop (0 + length xs + 1)) a ∙ drop_at (xs ++ 35 ∷ []) ys (0 + length xs + 1) (omega (arith, length-append xs (35 ∷ []))) in
    ap (parted_by (xs ++ 35 ∷ ys)) (place_at xs ys 0 e) ∙ ap (λ (x : List ℕ). (x, Some (drop (0 + length xs + 1) (xs ++ 35 ∷ ys)))) t ∙ ap (λ (x : List ℕ). (xs, Some x)) d

-- ---- look-ups

pub same_bytes : (q : List ℕ) → bytes_eq q q ≡ true
same_bytes q = (bytes_eq-Decides q q).1 refl

false_if : (b : Bool) → (b ≡ true → ⊥) → b ≡ false
false_if true f = absurd (f refl)
false_if false f = refl

other_bytes : (p q : List ℕ) → (p ≡ q → ⊥) → bytes_eq p q ≡ false
other_bytes p q f = false_if (bytes_eq p q) (λ e. f ((bytes_eq-Decides p q).0 e))

more_if : (b : Bool) (m x : Meaning) (o p : Option Meaning) → (o ≡ Some x → p ≡ Some x) → cond b (Some m) o ≡ Some x → cond b (Some m) p ≡ Some x
more_if true m x o p f h = h
more_if false m x o p f h = f h

-- what was found is still found
find_more : (xs ys : List Entry) (q : List ℕ) (x : Meaning) → find xs q ≡ Some x → find (xs ++ ys) q ≡ Some x
find_more [] ys q x h = absurd (cc h)
find_more (e ∷ es) ys q x h = more_if (bytes_eq e.name q) e.means x (find es q) (find (es ++ ys) q) (λ k. find_more es ys q x k) h

new_if : (b : Bool) (m : Meaning) (o p x : Option Meaning) → (o ≡ None → p ≡ x) → cond b (Some m) o ≡ None → cond b (Some m) p ≡ x
new_if true m o p x f h = absurd (cc h)
new_if false m o p x f h = f h

-- a name that was new stands for what it was given
find_new : (xs : List Entry) (q : List ℕ) (m : Meaning) → find xs q ≡ None → find (xs ++ entry q m ∷ []) q ≡ Some m
find_new [] q m h = cond-true (bytes_eq q q) (Some m) None (same_bytes q)
find_new (e ∷ es) q m h = new_if (bytes_eq e.name q) e.means (find es q) (find (es ++ entry q m ∷ []) q) (Some m) (λ k. find_new es q m k) h

-- another name is as new as before
find_other : (xs : List Entry) (p q : List ℕ) (m : Meaning) → bytes_eq p q ≡ false → find xs q ≡ None → find (xs ++ entry p m ∷ []) q ≡ None
find_other [] p q m e h = cond-false (bytes_eq p q) (Some m) None e
find_other (x ∷ es) p q m e h = new_if (bytes_eq x.name q) x.means (find es q) (find (es ++ entry p m ∷ []) q) None (λ k. find_other es p q m e k) h

-- ---- what a canonical name stands for

abbrev pub stands : List Entry → Given → Option HandleId
stands env g = stands_for (find env (parted (given_text g)).0) (parted (given_text g)).1

some_found : (o : Option Meaning) (d : Option (List ℕ)) (h : HandleId) → stands_for o d ≡ Some h → (m : Meaning) × (o ≡ Some m)
some_found None d h e = absurd (cc e)
some_found (Some m) d h e = (m, refl)

stands_more : (env xs : List Entry) (g : Given) (h : HandleId) → stands env g ≡ Some h → stands (env ++ xs) g ≡ Some h
stands_more env xs g h e =
    let q = (parted (given_text g)).0 in
    let d = (parted (given_text g)).1 in
    let m = some_found (find env (parted (given_text g)).0) (parted (given_text g)).1 h e in
    ap (λ (o : Option Meaning). stands_for o (parted (given_text g)).1) (find_more env xs (parted (given_text g)).0 m.0 m.1 ∙ sym m.1) ∙ e

-- each row's name stands for the handle of its place
abbrev pub FoundFrom : List Entry → ℕ → List Row → Type 0
FoundFrom env k [] = Unit {0}
FoundFrom env k (r ∷ rs) = (stands env r.name ≡ Some (handle_id k)) × FoundFrom env (suc k) rs

pub found_more : (env xs : List Entry) (k : ℕ) (rows : List Row) → FoundFrom env k rows → FoundFrom (env ++ xs) k rows
found_more env xs k [] f = tt
found_more env xs k (r ∷ rs) f = (stands_more env xs r.name (handle_id k) f.0, found_more env xs (suc k) rs f.1)

pub found_append : (env : List Entry) (k : ℕ) (xs ys : List Row) → FoundFrom env k xs → FoundFrom env (k + length xs) ys → FoundFrom env k (xs ++ ys)
found_append env k [] ys f g = let z : k + 0 ≡ k = omega arith in subst (λ (i : ℕ). FoundFrom env i ys) z g
found_append env k (x ∷ xs) ys f g = let z : k + length (x ∷ xs) ≡ suc k + length xs = omega arith in (f.0, found_append env (suc k) xs ys f.1 (subst (λ (i : ℕ). FoundFrom env i ys) z g))

-- ---- where a handle's row stands

pub record Located (env : List Entry) (k : ℕ) (rows : List Row) (v : ℕ) (r : Row) : Type 0 where
  pub place : ℕ
  pub there : spot k rows v ≡ Some place
  pub high : place < k + length rows
  pub found : stands env r.name ≡ Some (handle_id place)

both_none : {A : Type 0} (o p : Option A) → or_before o p ≡ None → (o ≡ None) × (p ≡ None)
both_none (Some x) p h = absurd (cc h)
both_none None p h = (refl, h)

none_if : {A B : Type 0} (b : Bool) (x : A) (y : B) → cond b (Some x) None ≡ None → cond b (Some y) None ≡ None
none_if true x y h = absurd (cc h)
none_if false x y h = refl

look_none : (k : ℕ) (rows : List Row) (v : ℕ) → look rows v ≡ None → spot k rows v ≡ None
look_none k [] v h = refl
look_none k (x ∷ rows) v h =
    let p = both_none (look rows v) (cond (nat_eq x.handle v) (Some x) None) h in
    ap (λ o. or_before o (cond (nat_eq x.handle v) (Some k) None)) (look_none (suc k) rows v p.0) ∙ none_if (nat_eq x.handle v) x k p.1

here_if : (b : Bool) (env : List Entry) (k : ℕ) (x : Row) (rs : List Row) (v : ℕ) (r : Row) → nat_eq x.handle v ≡ b → stands env x.name ≡ Some (handle_id k) → spot (suc k) rs v ≡ None → cond b (Some x) None ≡ Some r → Located env k (x ∷ rs) v r
here_if true env k x rs v r e f n h =
    let same : x ≡ r = cc h in
    record {
      place = k;
      there = ap (λ o. or_before o (cond (nat_eq x.handle v) (Some k) None)) n ∙ ap (λ c. cond c (Some k) None) e;
      high = omega arith;
      found = ap (λ (y : Row). stands env y.name) (sym same) ∙ f;
    }
here_if false env k x rs v r e f n h = absurd (cc h)

located_by : (o : Option Row) (env : List Entry) (k : ℕ) (x : Row) (rs : List Row) (v : ℕ) (r : Row) → look rs v ≡ o → stands env x.name ≡ Some (handle_id k) → ((y : Row) → look rs v ≡ Some y → Located env (suc k) rs v y)
    → or_before o (cond (nat_eq x.handle v) (Some x) None) ≡ Some r → Located env k (x ∷ rs) v r
located_by (Some y) env k x rs v r e f g h =
    let a = g y e in
    let same : y ≡ r = cc h in
    let high = a.high in
    record {
      place = a.place;
      there = ap (λ o. or_before o (cond (nat_eq x.handle v) (Some k) None)) a.there;
      high = omega arith;
      found = ap (λ (z : Row). stands env z.name) (sym same) ∙ a.found;
    }
located_by None env k x rs v r e f g h = here_if (nat_eq x.handle v) env k x rs v r refl f (look_none (suc k) rs v e) h

pub located : (env : List Entry) (k : ℕ) (rows : List Row) (v : ℕ) (r : Row) → FoundFrom env k rows → look rows v ≡ Some r → Located env k rows v r
located env k [] v r f h = absurd (cc h)
located env k (x ∷ rs) v r f h = located_by (look rs v) env k x rs v r refl f.0 (λ y e. located env (suc k) rs v y f.1 e) h

-- a use of a canonical name
pub handle_found : (env : List Entry) (rows : List Row) (next : ℕ) (h : HandleId) (at : ℕ) → FoundFrom env 0 rows → length rows ≡ next → IsDefined rows h → handle env next (record { kind = Value; start = at; text = name_in rows h }) ≡ Ok (number_in rows h)
handle_found env rows next h at f n d =
    let l = located env 0 rows h.0 d.0 f d.1 in
    let name : name_in rows h ≡ given_text d.0.name = ap name_or d.1 in
    let below : nat_lt l.place next ≡ true = lt-ltb l.place next (omega (arith, l.high, n)) in
    ap (λ (t : List ℕ). known next at (stands_for (find env (parted t).0) (parted t).1)) name
    ∙ ap (known next at) l.found
    ∙ rw below (ap (λ (o : Option ℕ). Ok (handle_id (unwrap_or o 0))) (sym l.there))

-- ---- new names

first_digit : (ds : List ℕ) → AllDigits 10 ds → ds ≡ codes "arg0" → ⊥
first_digit [] a e = absurd (cc e)
first_digit (d ∷ ds) a e =
    let r = digit_from_value d a.0 in
    let hi = r.1 in
    let k : d ≡ 97 = cc e in
    absurd (omega (arith, hi, k))

root_apart : (m : ℕ) → m < 2 ^ 64 → codes "%arg0" ≡ result_name m → ⊥
root_apart m s e = first_digit (decimal m) (decimal_is_IsNumeral m s).0.1 (sym (cc e))

result_apart : (n m : ℕ) → n < 2 ^ 64 → m < 2 ^ 64 → n < m → result_name n ≡ result_name m → ⊥
result_apart n m s t l e = let k : n ≡ m = decimal_injective n m s t (cc e) in absurd (omega (arith, k))

-- the names of results from number n on are new
abbrev pub FreshAbove : List Entry → ℕ → Type 0
FreshAbove env n = (m : ℕ) → n ≤ m → m < 2 ^ 64 → find env (result_name m) ≡ None

pub fresh_start : FreshAbove (entry (codes "%arg0") (One 0) ∷ []) 0
fresh_start m l s = cond-false (bytes_eq (codes "%arg0") (result_name m)) (Some (One 0)) None (other_bytes (codes "%arg0") (result_name m) (root_apart m s))

pub fresh_next : (env : List Entry) (n : ℕ) (x : Meaning) → n < 2 ^ 64 → FreshAbove env n → FreshAbove (env ++ entry (result_name n) x ∷ []) (n + 1)
fresh_next env n x t f m l s = find_other env (result_name n) (result_name m) x (other_bytes (result_name n) (result_name m) (result_apart n m t s (omega arith))) (f m (omega arith) s)

-- ---- what new names stand for

pub single_stands : (env : List Entry) (n k : ℕ) → n < 2 ^ 64 → find env (result_name n) ≡ None → stands (env ++ entry (result_name n) (One k) ∷ []) (Single n) ≡ Some (handle_id k)
single_stands env n k s f =
    ap (λ p. stands_for (find (env ++ entry (result_name n) (One k) ∷ []) p.0) p.1) (parted_plain (result_name n) (no_sign n s))
    ∙ ap (λ (o : Option Meaning). stands_for o None) (find_new env (result_name n) (One k) f)

part_stands : (env : List Entry) (n j first end : ℕ) → n < 2 ^ 64 → first + j < end → find env (result_name n) ≡ None → stands (env ++ entry (result_name n) (Group first end) ∷ []) (Part n j) ≡ Some (handle_id (first + j))
part_stands env n j first end s l f =
    let k : nat_lt (first + j) end ≡ true = lt-ltb (first + j) end l in
    ap (λ p. stands_for (find (env ++ entry (result_name n) (Group first end) ∷ []) p.0) p.1) (parted_part (result_name n) (numeral j) (no_sign n s))
    ∙ ap (λ (o : Option Meaning). stands_for o (Some (numeral j))) (find_new env (result_name n) (Group first end) f)
    ∙ ap (λ (i : ℕ). cond (nat_lt (first + i) end) (Some (handle_id (first + i))) None) (numeral_read j)
    ∙ cond-true (nat_lt (first + j) end) (Some (handle_id (first + j))) None k

pub parts_found : (env : List Entry) (n j first end : ℕ) (hs : List HandleId) → n < 2 ^ 64 → first + (j + length hs) ≤ end → find env (result_name n) ≡ None → FoundFrom (env ++ entry (result_name n) (Group first end) ∷ []) (first + j) (parts n j hs)
parts_found env n j first end [] s l f = tt
parts_found env n j first end (h ∷ hs) s l f =
    let z : first + (j + 1) ≡ suc (first + j) = omega arith in
    (part_stands env n j first end s (omega arith) f, subst (λ (i : ℕ). FoundFrom (env ++ entry (result_name n) (Group first end) ∷ []) i (parts n (j + 1) hs)) z (parts_found env n (j + 1) first end hs s (omega arith) f))
