-- The kinds of steps that are read are printable, and name handles by the numbers of the text.
use Rattle.std.proofs.Common.{◌≡◌, ◌<◌, ◌≤◌, ℕ, zero, suc, ◌+◌, ◌-◌, ◌*◌, Bool, true, false, cond, ◌&&◌, List, [], ◌∷◌, ◌++◌, map, length, length-append, Option, Some, None, Result, Ok, Err, refl, sym, ap, subst, ◌∙◌, arith, codes, nat_eq, nat_le, nat_lt}
use Rattle.std.specs.Prelude.{ℤ, pos, negsuc, unwrap_or}
use Rattle.std.specs.List.{AllByRecursion}
use Rattle.std.proofs.lemmas.Bool.{and_parts, leb-true, leb-false, ltb-true, eqb-true, eqb-false, eq-eqb, ne_eqb, cond-true, cond-false}
use Rattle.mlir_base.specs.Types.{minus_one, least_signed}
use Rattle.text_format.specs.Bytes.{is_digit}
use Rattle.text_format.specs.Token.{TokenShape}
use Rattle.text_format.specs.Types.{width_of, one_digit, two_digits}
use Rattle.mlir_lex.specs.declared.fault.Fault.{Fault}
use Rattle.mlir_lex.specs.declared.fault.Fault.TheVariants.{Syntax, Number, UnknownName, Unsupported}
use Rattle.mlir_lex.specs.Chain.{and_then, demand, each}
use Rattle.script_syntax.specs.declared.tree.literals.Signed.{Signed}
use Rattle.script_syntax.specs.declared.tree.literals.PadValue.{PadValue}
use Rattle.script_syntax.specs.declared.tree.literals.QuotedName.{QuotedName}
use Rattle.script_syntax.specs.declared.tree.steps.HandleStep.{HandleStep}
use Rattle.script_syntax.specs.declared.tree.steps.MatchStep.{MatchStep}
use Rattle.script_syntax.specs.declared.tree.steps.SizedStep.{SizedStep}
use Rattle.script_syntax.specs.declared.tree.steps.TileForStep.{TileForStep}
use Rattle.script_syntax.specs.declared.tree.steps.FuseStep.{FuseStep}
use Rattle.script_syntax.specs.declared.tree.steps.Multiples.{Multiples}
use Rattle.script_syntax.specs.declared.tree.steps.PadStep.{PadStep}
use Rattle.script_syntax.specs.declared.tree.steps.VectorSizes as sizes
use Rattle.script_syntax.specs.declared.tree.steps.VectorizeStep.{VectorizeStep}
use Rattle.script_read.specs.declared.script.HandleId.{HandleId}
use Rattle.script_read.specs.declared.script.PadArgs.{PadArgs}
use Rattle.script_read.specs.declared.script.StepKind.{StepKind}
use Rattle.script_read.specs.declared.script.StepKind.TheVariants as kinds
use Rattle.script_read.specs.Names.{Entry, find, parted}
use Rattle.script_read.specs.Numbers.{number_of, most_size, start_of, is_size, size_of, sizes_of, minus_of, signed_by, is_literal, value_with, pad_value_of}
use Rattle.script_read.specs.Scope.{handle_id, stands_for, known, handle}
use Rattle.script_read.specs.Kinds.{is_match_name, unquoted, name_of, sized, match_of, split_of, tile_for_of, tile_forall_of, fuse_of, multiples_of, pad_args_of, pad_of, vector_sizes_of, vectorize_of}
use Rattle.script_text.specs.declared.names.Row.{Row}
use Rattle.script_text.specs.Names.{or_before, look, spot}
use Rattle.script_roundtrip.specs.Printable.{IsDefined, AreSizes, IsLiteral, IsPadValue, ArePadArgs, AreVectorSizes, IsPrintableKind, HasResults}
use Rattle.script_roundtrip.specs.Renumbered.{number_in, kind_renumbered}

-- ---- chains

pub then_ok : {A B : Type 0} (r : Result A Fault) (f : A → Result B Fault) (y : B) → and_then r f ≡ Ok y → (x : A) × (r ≡ Ok x) × (f x ≡ Ok y)
then_ok (Ok x) f y h = (x, refl, h)
then_ok (Err e) f y h = absurd (cc h)

abbrev got : {A : Type 0} → A → Result A Fault → A
got d (Ok x) = x
got d (Err e) = d

pub ok_same : {A : Type 0} (x y : A) → ◌≡◌ {A = Result A Fault} (Ok x) (Ok y) → x ≡ y
ok_same x y h = ap (got x) h

pub demanded : (b : Bool) (e : Fault) (u : Unit {0}) → demand b e ≡ Ok u → b ≡ true
demanded true e u h = refl
demanded false e u h = absurd (cc h)

each_taken : {A X : Type 0} (f : A → Result X Fault) (P : X → Type 0) → ((a : A) (x : X) → f a ≡ Ok x → P x) → (ys : List A) (xs : List X) → each f ys ≡ Ok xs → AllByRecursion P xs
each_taken {A} {X} f P one [] xs h = subst (λ (zs : List X). AllByRecursion P zs) (ok_same [] xs h) tt
each_taken {A} {X} f P one (a ∷ ys) xs h =
    let x = then_ok (f a) (λ y. and_then (each f ys) (λ zs. Ok (y ∷ zs))) xs h in
    let y = then_ok (each f ys) (λ zs. Ok (x.0 ∷ zs)) xs x.2 in
    subst (λ (zs : List X). AllByRecursion P zs) (ok_same (x.0 ∷ y.0) xs y.2) (one a x.0 x.1, each_taken f P one ys y.0 y.1)

-- ---- widths

some_cond : {A : Type 0} (b : Bool) (o : Option A) (x : A) → cond b o None ≡ Some x → (b ≡ true) × (o ≡ Some x)
some_cond true o x h = (refl, h)
some_cond false o x h = absurd (cc h)

abbrev IsWidth : ℕ → Type 0
IsWidth w = (0 < w) × (w ≤ 64)

one_width : (a w : ℕ) → one_digit a ≡ Some w → IsWidth w
one_width a w h =
    let c = some_cond (nat_le 49 a && nat_le a 57) (Some (a - 48)) w h in
    let p = and_parts (nat_le 49 a) (nat_le a 57) c.0 in
    let lo = leb-true 49 a p.0 in
    let hi = leb-true a 57 p.1 in
    let e : a - 48 ≡ w = cc (c.1) in
    (omega arith, omega arith)

two_width : (a b w : ℕ) → two_digits a b ≡ Some w → IsWidth w
two_width a b w h =
    let n = (a - 48) * 10 + (b - 48) in
    let c = some_cond (nat_le 49 a && nat_le a 57 && is_digit b && nat_le ((a - 48) * 10 + (b - 48)) 64) (Some ((a - 48) * 10 + (b - 48))) w h in
    let p = and_parts (nat_le 49 a && nat_le a 57 && is_digit b) (nat_le ((a - 48) * 10 + (b - 48)) 64) c.0 in
    let q = and_parts (nat_le 49 a && nat_le a 57) (is_digit b) p.0 in
    let r = and_parts (nat_le 49 a) (nat_le a 57) q.0 in
    let lo = leb-true 49 a r.0 in
    let hi = leb-true ((a - 48) * 10 + (b - 48)) 64 p.1 in
    let e : (a - 48) * 10 + (b - 48) ≡ w = cc (c.1) in
    (omega arith, omega arith)

width_is : (text : List ℕ) (w : ℕ) → width_of text ≡ Some w → IsWidth w
width_is [] w h = absurd (cc h)
width_is (i ∷ []) w h = absurd (cc h)
width_is (i ∷ (a ∷ [])) w h = one_width a w (some_cond (nat_eq i 105) (one_digit a) w h).1
width_is (i ∷ (a ∷ (b ∷ []))) w h = two_width a b w (some_cond (nat_eq i 105) (two_digits a b) w h).1
width_is (i ∷ (a ∷ (b ∷ (c ∷ rest)))) w h = absurd (cc h)

-- ---- numbers

size_small : (m : Option TokenShape) (n : ℕ) → is_size m n ≡ true → n ≤ most_size
size_small None n h = leb-true n most_size h
size_small (Some t) n h = let e = eqb-true n 0 h in omega arith

size_taken : (s : Signed) (n : ℕ) → size_of s ≡ Ok n → n ≤ most_size
size_taken s n h =
    let x = then_ok (demand (is_size s.minus (number_of s.digits.text)) (Number (start_of s) (start_of s))) (λ _. Ok (number_of s.digits.text)) n h in
    let e = ok_same (number_of s.digits.text) n x.2 in
    let l = size_small s.minus (number_of s.digits.text) (demanded (is_size s.minus (number_of s.digits.text)) (Number (start_of s) (start_of s)) x.0 x.1) in
    subst (λ (k : ℕ). k ≤ most_size) e l

sizes_taken : (ss : List Signed) (ns : List ℕ) → sizes_of ss ≡ Ok ns → AreSizes ns
sizes_taken ss ns h = each_taken size_of (λ n. n ≤ most_size) size_taken ss ns h

minus_literal : (n w : ℕ) → n ≤ least_signed w → IsLiteral (minus_of n) w
minus_literal zero w h = omega arith
minus_literal (suc n) w h = h

literal_is : (m : Option TokenShape) (n w : ℕ) → is_literal w m n ≡ true → IsLiteral (signed_by m n) w
literal_is None n w h = leb-true n (minus_one w) h
literal_is (Some t) n w h = minus_literal n w (leb-true n (least_signed w) h)

value_taken : (o : Option ℕ) (v : PadValue) (x : ℤ × ℕ) → width_of v.ty.text ≡ o → value_with o v ≡ Ok x → IsPadValue x
value_taken None v x e h = absurd (cc h)
value_taken (Some w) v x e h =
    let n = number_of v.value.digits.text in
    let y = then_ok (demand (is_literal w v.value.minus (number_of v.value.digits.text)) (Number (start_of v.value) v.ty.start)) (λ _. Ok (signed_by v.value.minus (number_of v.value.digits.text), w)) x h in
    let l = literal_is v.value.minus (number_of v.value.digits.text) w (demanded (is_literal w v.value.minus (number_of v.value.digits.text)) (Number (start_of v.value) v.ty.start) y.0 y.1) in
    let b = width_is v.ty.text w e in
    subst (λ (z : ℤ × ℕ). IsPadValue z) (ok_same (signed_by v.value.minus (number_of v.value.digits.text), w) x y.2) (b.0, b.1, l)

pad_value_taken : (v : PadValue) (x : ℤ × ℕ) → pad_value_of v ≡ Ok x → IsPadValue x
pad_value_taken v x h = value_taken (width_of v.ty.text) v x refl h

ones_small : (ns : List ℕ) → AreSizes (map (λ _. 1) ns)
ones_small [] = tt
ones_small (n ∷ ns) = (omega arith, ones_small ns)

multiples_taken : (dims : List ℕ) (o : Option Multiples) (ns : List ℕ) → multiples_of dims o ≡ Ok ns → AreSizes ns
multiples_taken dims None ns h = subst (λ (ks : List ℕ). AreSizes ks) (ok_same (map (λ _. 1) dims) ns h) (ones_small dims)
multiples_taken dims (Some m) ns h = sizes_taken m.list ns h

name_taken : (q : QuotedName) (n : List ℕ) → name_of q ≡ Ok n → is_match_name n ≡ true
name_taken q n h =
    let u = unquoted q.text.text in
    let x = then_ok (demand (is_match_name (unquoted q.text.text)) (Unsupported q.text.start)) (λ _. Ok (unquoted q.text.text)) n h in
    let e = ok_same (unquoted q.text.text) n x.2 in
    subst (λ (t : List ℕ). is_match_name t ≡ true) e (demanded (is_match_name (unquoted q.text.text)) (Unsupported q.text.start) x.0 x.1)

-- ---- rows of handles that are numbered in order

abbrev pub Numbered : ℕ → List Row → Type 0
Numbered k [] = Unit {0}
Numbered k (r ∷ rs) = (r.handle ≡ k) × Numbered (suc k) rs

none_below : (k j v : ℕ) (rows : List Row) → Numbered k rows → v < k → (look rows v ≡ None) × (spot j rows v ≡ None)
none_below k j v [] h l = (refl, refl)
none_below k j v (r ∷ rs) h l =
    let m = none_below (suc k) (suc j) v rs h.1 (omega arith) in
    let e = h.0 in
    let d : nat_eq r.handle v ≡ false = ne_eqb r.handle v (λ q. absurd (omega (arith, e, q, l))) in (
      ap (λ o. or_before o (cond (nat_eq r.handle v) (Some r) None)) m.0 ∙ cond-false (nat_eq r.handle v) (Some r) None d,
      ap (λ o. or_before o (cond (nat_eq r.handle v) (Some j) None)) m.1 ∙ cond-false (nat_eq r.handle v) (Some j) None d,
    )

record Standing (k : ℕ) (rows : List Row) (v : ℕ) : Type 0 where
  row : Row
  there : look rows v ≡ Some row
  place : spot k rows v ≡ Some v

above_by : (b : Bool) (k v : ℕ) → nat_le (suc k) v ≡ b → (k ≡ v → ⊥) → k ≤ v → suc k ≤ v
above_by true k v b d lo = leb-true (suc k) v b
above_by false k v b d lo = let l = leb-false (suc k) v b in absurd (d (omega arith))

above : (k x v : ℕ) → nat_eq x v ≡ false → x ≡ k → k ≤ v → suc k ≤ v
above k x v b e lo = above_by (nat_le (suc k) v) k v refl (λ q. eqb-false x v b (e ∙ q)) lo

standing_by : (b : Bool) (k : ℕ) (r : Row) (rs : List Row) (v : ℕ) → nat_eq r.handle v ≡ b → r.handle ≡ k → Numbered (suc k) rs → k ≤ v → v < k + suc (length rs) → (suc k ≤ v → Standing (suc k) rs v) → Standing k (r ∷ rs) v
standing_by true k r rs v b e h lo hi f =
    let s : r.handle ≡ v = eqb-true r.handle v b in
    let kv : k ≡ v = sym e ∙ s in
    let m = none_below (suc k) (suc k) v rs h (omega (arith, kv)) in
    record {
      row = r;
      there = ap (λ o. or_before o (cond (nat_eq r.handle v) (Some r) None)) m.0 ∙ cond-true (nat_eq r.handle v) (Some r) None b;
      place = ap (λ o. or_before o (cond (nat_eq r.handle v) (Some k) None)) m.1 ∙ cond-true (nat_eq r.handle v) (Some k) None b ∙ ap (λ (i : ℕ). Some i) kv;
    }
standing_by false k r rs v b e h lo hi f =
    let more = f (above k r.handle v b e lo) in
    record {
      row = more.row;
      there = ap (λ o. or_before o (cond (nat_eq r.handle v) (Some r) None)) more.there;
      place = ap (λ o. or_before o (cond (nat_eq r.handle v) (Some k) None)) more.place;
    }

standing : (k : ℕ) (rows : List Row) (v : ℕ) → Numbered k rows → k ≤ v → v < k + length rows → Standing k rows v
standing k [] v h lo hi = absurd (omega arith)
standing k (r ∷ rs) v h lo hi = standing_by (nat_eq r.handle v) k r rs v refl h.0 h.1 lo hi (λ l. standing (suc k) rs v h.1 l (omega arith))

pub numbered_append : (k : ℕ) (xs ys : List Row) → Numbered k xs → Numbered (k + length xs) ys → Numbered k (xs ++ ys)
numbered_append k [] ys h g = let z : k + 0 ≡ k = omega arith in subst (λ (i : ℕ). Numbered i ys) z g
numbered_append k (x ∷ xs) ys h g =
    let z : k + length (x ∷ xs) ≡ suc k + length xs = omega arith in
    (h.0, numbered_append (suc k) xs ys h.1 (subst (λ (i : ℕ). Numbered i ys) z g))

-- ---- handles

-- a handle that is used
pub record Used (rows : List Row) (h : HandleId) : Type 0 where
  pub is_defined : IsDefined rows h
  pub number : number_in rows h ≡ h

known_below : (next at : ℕ) (o : Option HandleId) (h : HandleId) → known next at o ≡ Ok h → h.0 < next
known_below next at None h e = absurd (cc e)
known_below next at (Some g) h e =
    let x = then_ok (demand (nat_lt g.0 next) (UnknownName at)) (λ _. Ok g) h e in
    let same = ok_same g h x.2 in
    subst (λ (i : HandleId). i.0 < next) same (ltb-true g.0 next (demanded (nat_lt g.0 next) (UnknownName at) x.0 x.1))

pub handle_used : (env : List Entry) (rows : List Row) (next : ℕ) (t : TokenShape) (h : HandleId) → Numbered 0 rows → next ≡ length rows → handle env next t ≡ Ok h → Used rows h
handle_used env rows next t h n e k =
    let l = known_below next t.start (stands_for (find env (parted t.text).0) (parted t.text).1) h k in
    let s = standing 0 rows h.0 n (omega arith) (omega (arith, l, e)) in
    record { is_defined = (s.row, s.there); number = ap (λ (o : Option ℕ). handle_id (unwrap_or o 0)) s.place }

-- ---- kinds

-- what was read as a step behind these handles
pub record KindRead (rows : List Row) (k : StepKind) : Type 0 where
  pub printable : IsPrintableKind rows k
  pub number : kind_renumbered (number_in rows) k ≡ k

record SizedRead (rows : List Row) (x : HandleId × List ℕ) : Type 0 where
  is_used : Used rows x.0
  sizes : AreSizes x.1

sized_taken : (env : List Entry) (rows : List Row) (next : ℕ) (t : TokenShape) (ss : List Signed) (x : HandleId × List ℕ) → Numbered 0 rows → next ≡ length rows → sized env next t ss ≡ Ok x → SizedRead rows x
sized_taken env rows next t ss x n e k =
    let a = then_ok (handle env next t) (λ h. and_then (sizes_of ss) (λ ns. Ok (h, ns))) x k in
    let b = then_ok (sizes_of ss) (λ ns. Ok (a.0, ns)) x a.2 in
    subst (λ (y : HandleId × List ℕ). SizedRead rows y) (ok_same (a.0, b.0) x b.2) (record { is_used = handle_used env rows next t a.0 n e a.1; sizes = sizes_taken ss b.0 b.1 })

-- a step that names one handle
pub handle_taken : (env : List Entry) (rows : List Row) (next : ℕ) (t : TokenShape) (f : HandleId → StepKind) (P : StepKind → Type 0) → ((h : HandleId) → Used rows h → P (f h)) → (k : StepKind) → Numbered 0 rows → next ≡ length rows
    → and_then (handle env next t) (λ h. Ok (f h)) ≡ Ok k → P k
handle_taken env rows next t f P one k n e h =
    let x = then_ok (handle env next t) (λ h. Ok (f h)) k h in
    subst P (ok_same (f x.0) k x.2) (one x.0 (handle_used env rows next t x.0 n e x.1))

-- a step that names a handle and sizes
pub sized_step_taken : (env : List Entry) (rows : List Row) (next : ℕ) (t : TokenShape) (ss : List Signed) (f : HandleId × List ℕ → StepKind) (P : StepKind → Type 0) → ((x : HandleId × List ℕ) → Used rows x.0 → AreSizes x.1 → P (f x)) → (k : StepKind) → Numbered 0 rows → next ≡ length rows
    → and_then (sized env next t ss) (λ x. Ok (f x)) ≡ Ok k → P k
sized_step_taken env rows next t ss f P one k n e h =
    let x = then_ok (sized env next t ss) (λ x. Ok (f x)) k h in
    let s = sized_taken env rows next t ss x.0 n e x.1 in
    subst P (ok_same (f x.0) k x.2) (one x.0 s.is_used s.sizes)

pub match_taken : (env : List Entry) (rows : List Row) (next : ℕ) (s : MatchStep) (k : StepKind) → Numbered 0 rows → next ≡ length rows → match_of env next s ≡ Ok k → KindRead rows k × HasResults k 1
match_taken env rows next s k n e h =
    let x = then_ok (each name_of s.names) (λ names. and_then (handle env next s.target) (λ h. Ok (kinds.Match names h))) k h in
    let y = then_ok (handle env next s.target) (λ h. Ok (kinds.Match x.0 h)) k x.2 in
    let u = handle_used env rows next s.target y.0 n e y.1 in
    subst (λ (q : StepKind). KindRead rows q × HasResults q 1) (ok_same (kinds.Match x.0 y.0) k y.2)
    (record { printable = (each_taken name_of (λ m. is_match_name m ≡ true) name_taken s.names x.0 x.1, u.is_defined); number = ap (λ i. kinds.Match x.0 i) u.number }, refl)

pub fuse_taken : (env : List Entry) (rows : List Row) (next : ℕ) (s : FuseStep) (k : StepKind) → Numbered 0 rows → next ≡ length rows → fuse_of env next s ≡ Ok k → KindRead rows k × HasResults k 2
fuse_taken env rows next s k n e h =
    let x = then_ok (handle env next s.producer) (λ p. and_then (handle env next s.containing) (λ h. Ok (kinds.FuseInto p h))) k h in
    let y = then_ok (handle env next s.containing) (λ h. Ok (kinds.FuseInto x.0 h)) k x.2 in
    let u = handle_used env rows next s.producer x.0 n e x.1 in
    let v = handle_used env rows next s.containing y.0 n e y.1 in
    subst (λ (q : StepKind). KindRead rows q × HasResults q 2) (ok_same (kinds.FuseInto x.0 y.0) k y.2)
    (record { printable = (u.is_defined, v.is_defined); number = ap (λ i. kinds.FuseInto i (number_in rows y.0)) u.number ∙ ap (λ i. kinds.FuseInto x.0 i) v.number }, refl)

pad_args_taken : (s : PadStep) (a : PadArgs) → pad_args_of s ≡ Ok a → ArePadArgs a
pad_args_taken s a h =
    let x = then_ok (each pad_value_of s.values) _ a h in
    let y = then_ok (sizes_of s.dimensions) _ a x.2 in
    let z = then_ok (multiples_of y.0 s.multiples) _ a y.2 in
    subst (λ (b : PadArgs). ArePadArgs b) (ok_same (record { values = x.0; dims = y.0; multiples = z.0 }) a z.2)
    (record { values = each_taken pad_value_of IsPadValue pad_value_taken s.values x.0 x.1; dims = sizes_taken s.dimensions y.0 y.1; multiples = multiples_taken y.0 s.multiples z.0 z.1 })

pub pad_taken : (env : List Entry) (rows : List Row) (next : ℕ) (s : PadStep) (k : StepKind) → Numbered 0 rows → next ≡ length rows → pad_of env next s ≡ Ok k → KindRead rows k × HasResults k 3
pad_taken env rows next s k n e h =
    let x = then_ok (handle env next s.target) (λ h. and_then (pad_args_of s) (λ args. Ok (kinds.Pad h args))) k h in
    let y = then_ok (pad_args_of s) (λ args. Ok (kinds.Pad x.0 args)) k x.2 in
    let u = handle_used env rows next s.target x.0 n e x.1 in
    subst (λ (q : StepKind). KindRead rows q × HasResults q 3) (ok_same (kinds.Pad x.0 y.0) k y.2)
    (record { printable = (u.is_defined, pad_args_taken s y.0 y.1); number = ap (λ i. kinds.Pad i y.0) u.number }, refl)

vector_sizes_taken : (o : Option sizes.VectorSizes) (x : Option (List ℕ)) → vector_sizes_of o ≡ Ok x → AreVectorSizes x
vector_sizes_taken None x h = subst (λ (y : Option (List ℕ)). AreVectorSizes y) (ok_same None x h) tt
vector_sizes_taken (Some v) x h =
    let a = then_ok (sizes_of v.list) (λ ns. Ok (Some ns)) x h in
    subst (λ (y : Option (List ℕ)). AreVectorSizes y) (ok_same (Some a.0) x a.2) (sizes_taken v.list a.0 a.1)

pub vectorize_taken : (env : List Entry) (rows : List Row) (next : ℕ) (s : VectorizeStep) (k : StepKind) → Numbered 0 rows → next ≡ length rows → vectorize_of env next s ≡ Ok k → KindRead rows k × HasResults k 0
vectorize_taken env rows next s k n e h =
    let x = then_ok (handle env next s.target) (λ h. and_then (vector_sizes_of s.sizes) (λ ns. Ok (kinds.Vectorize h ns))) k h in
    let y = then_ok (vector_sizes_of s.sizes) (λ ns. Ok (kinds.Vectorize x.0 ns)) k x.2 in
    let u = handle_used env rows next s.target x.0 n e x.1 in
    subst (λ (q : StepKind). KindRead rows q × HasResults q 0) (ok_same (kinds.Vectorize x.0 y.0) k y.2)
    (record { printable = (u.is_defined, vector_sizes_taken s.sizes y.0 y.1); number = ap (λ i. kinds.Vectorize i y.0) u.number }, refl)

pub split_taken : (env : List Entry) (rows : List Row) (next c : ℕ) (s : HandleStep) (k : StepKind) → Numbered 0 rows → next ≡ length rows → 0 < c → split_of env next s ≡ Ok k → KindRead rows k × HasResults k c
split_taken env rows next c s k n e lt h =
    handle_taken env rows next s.target kinds.Split (λ q. KindRead rows q × HasResults q c) (λ i u. (record { printable = u.is_defined; number = ap (λ j. kinds.Split j) u.number }, lt)) k n e h

pub tile_for_taken : (env : List Entry) (rows : List Row) (next c : ℕ) (s : TileForStep) (k : StepKind) → Numbered 0 rows → next ≡ length rows → 0 < c → tile_for_of env next s ≡ Ok k → KindRead rows k × HasResults k c
tile_for_taken env rows next c s k n e lt h =
    sized_step_taken env rows next s.target s.sizes (λ x. kinds.TileFor x.0 x.1) (λ q. KindRead rows q × HasResults q c) (λ x u z. (record { printable = (u.is_defined, z); number = ap (λ j. kinds.TileFor j x.1) u.number }, lt)) k n e h

pub tile_forall_taken : (env : List Entry) (rows : List Row) (next : ℕ) (s : SizedStep) (k : StepKind) → Numbered 0 rows → next ≡ length rows → tile_forall_of env next s ≡ Ok k → KindRead rows k × HasResults k 2
tile_forall_taken env rows next s k n e h =
    sized_step_taken env rows next s.target s.sizes (λ x. kinds.TileForall x.0 x.1) (λ q. KindRead rows q × HasResults q 2) (λ x u z. (record { printable = (u.is_defined, z); number = ap (λ j. kinds.TileForall j x.1) u.number }, refl)) k n e h
