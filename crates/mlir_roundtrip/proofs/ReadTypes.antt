-- The types that are read are within their limits.
use Rattle.std.proofs.Common.{◌≡◌, ◌<◌, ◌≤◌, subst, ℕ, ◌+◌, ◌-◌, ◌*◌, Bool, true, false, cond, ◌&&◌, ◌==◌, List, [], ◌∷◌, length, map, Option, Some, None, Result as Answer, Ok, Err, refl, sym, ap, arith, codes, nat_eq, nat_le}
use Rattle.std.proofs.lemmas.Bool.{and_parts, leb-true}
use Rattle.std.proofs.lemmas.List.{length-map}
use Rattle.mlir_ir.specs.declared.tree.Ty.{Ty}
use Rattle.mlir_ir.specs.declared.tree.Ty.TheVariants.{Tensor}
use Rattle.mlir_ir.specs.declared.tree.Extent.{Extent}
use Rattle.mlir_ir.specs.declared.tree.Extent.TheVariants.{Fixed as FixedExtent}
use Rattle.mlir_base.specs.declared.limit.Which.TheVariants as limits
use Rattle.text_format.specs.declared.types.Extent.TheVariants as written
use Rattle.text_format.specs.Token.{TokenShape}
use Rattle.text_format.specs.Bytes.{is_digit}
use Rattle.text_format.specs.Types.{extents_of, extents_in, extent_before, no_extents, extent_of, ranked_from, width_of, one_digit, two_digits, is_shaped, inside}
use Rattle.mlir_lex.specs.declared.fault.Fault.{Fault}
use Rattle.mlir_lex.specs.declared.fault.Fault.TheVariants.{Limit}
use Rattle.mlir_lex.specs.Chain.{and_then, demand, each}
use Rattle.mlir_scope.specs.Types.{type_at, extent_at, elements, shape_type}
use Rattle.mlir_scope.proofs.Keeps.{then_ok}
use Rattle.mlir_roundtrip.specs.Printable.{AreKept, IsTensorType}

-- ---- answers

abbrev pub got : {A : Type 0} → A → Answer A Fault → A
got d (Ok x) = x
got d (Err e) = d

pub ok_same : {A : Type 0} (x y : A) → ◌≡◌ {A = Answer A Fault} (Ok x) (Ok y) → x ≡ y
ok_same x y h = ap (got x) h

pub demanded : (b : Bool) (e : Fault) (u : Unit {0}) → demand b e ≡ Ok u → b ≡ true
demanded true e u h = refl
demanded false e u h = absurd (cc h)

-- ---- widths

some_cond : {A : Type 0} (b : Bool) (o : Option A) (x : A) → cond b o None ≡ Some x → (b ≡ true) × (o ≡ Some x)
some_cond true o x h = (refl, h)
some_cond false o x h = absurd (cc h)

abbrev IsWidth : ℕ → Type 0
IsWidth w = (0 < w) × (w ≤ 64)

one_width : (a w : ℕ) → one_digit a ≡ Some w → IsWidth w
one_width a w h =
    let c = some_cond (nat_le 49 a && nat_le a 57) (Some (a - 48)) w h in
    let p = and_parts (nat_le 49 a) (nat_le a 57) c.0 in
    let lo = leb-true 49 a p.0 in
    let hi = leb-true a 57 p.1 in
    let e : a - 48 ≡ w = cc (c.1) in
    (omega arith, omega arith)

two_width : (a b w : ℕ) → two_digits a b ≡ Some w → IsWidth w
two_width a b w h =
    let n = (a - 48) * 10 + (b - 48) in
    let c = some_cond (nat_le 49 a && nat_le a 57 && is_digit b && nat_le ((a - 48) * 10 + (b - 48)) 64) (Some ((a - 48) * 10 + (b - 48))) w h in
    let p = and_parts (nat_le 49 a && nat_le a 57 && is_digit b) (nat_le ((a - 48) * 10 + (b - 48)) 64) c.0 in
    let q = and_parts (nat_le 49 a && nat_le a 57) (is_digit b) p.0 in
    let r = and_parts (nat_le 49 a) (nat_le a 57) q.0 in
    let lo = leb-true 49 a r.0 in
    let hi = leb-true ((a - 48) * 10 + (b - 48)) 64 p.1 in
    let e : (a - 48) * 10 + (b - 48) ≡ w = cc (c.1) in
    (omega arith, omega arith)

width_is : (text : List ℕ) (w : ℕ) → width_of text ≡ Some w → IsWidth w
width_is [] w h = absurd (cc h)
width_is (i ∷ []) w h = absurd (cc h)
width_is (i ∷ (a ∷ [])) w h = one_width a w (some_cond (nat_eq i 105) (one_digit a) w h).1
width_is (i ∷ (a ∷ (b ∷ []))) w h = two_width a b w (some_cond (nat_eq i 105) (two_digits a b) w h).1
width_is (i ∷ (a ∷ (b ∷ (c ∷ rest)))) w h = absurd (cc h)

-- ---- extents

either_width : (b : Bool) (x y : Option (List ℕ × ℕ)) (p : List ℕ × ℕ) → (x ≡ Some p → IsWidth p.1) → (y ≡ Some p → IsWidth p.1) → cond b x y ≡ Some p → IsWidth p.1
either_width true x y p f g h = f h
either_width false x y p f g h = g h

none_width : (p : List ℕ × ℕ) → ◌≡◌ {A = Option (List ℕ × ℕ)} None (Some p) → IsWidth p.1
none_width p h = absurd (cc h)

last_width : (o : Option ℕ) (p : List ℕ × ℕ) → ((w : ℕ) → o ≡ Some w → IsWidth w) → no_extents o ≡ Some p → IsWidth p.1
last_width None p f h = none_width p h
last_width (Some w) p f h = let e : ([], w) ≡ p = cc h in subst (λ (q : List ℕ × ℕ). IsWidth q.1) e (f w refl)

before_width : (n : ℕ) (o : Option (List ℕ × ℕ)) (p : List ℕ × ℕ) → ((q : List ℕ × ℕ) → o ≡ Some q → IsWidth q.1) → extent_before n o ≡ Some p → IsWidth p.1
before_width n None p f h = none_width p h
before_width n (Some q) p f h = let e : (n ∷ q.0, q.1) ≡ p = cc h in subst (λ (r : List ℕ × ℕ). IsWidth r.1) e (f q refl)

extents_width : (bs : List ℕ) (part : Option ℕ) (p : List ℕ × ℕ) → extents_in bs part ≡ Some p → IsWidth p.1
extents_width [] part p h = none_width p h
extents_width (b ∷ bs) None p h = either_width (is_digit b) _ _ p (extents_width bs (Some (b - 48)) p) (last_width (width_of (b ∷ bs)) p (width_is (b ∷ bs))) h
extents_width (b ∷ bs) (Some n) p h =
    either_width (is_digit b) _ _ p (extents_width bs (Some (n * 10 + (b - 48))) p)
    (either_width (b == 120) _ _ p (before_width n (extents_in bs None) p (λ q. extents_width bs None q)) (none_width p)) h

shape_width : (text : List ℕ) (p : List ℕ × ℕ) → extents_of text ≡ Some p → IsWidth p.1
unfolding extents_of
shape_width text p h = extents_width (inside text) None p (some_cond (is_shaped (codes "tensor<") text) (extents_in (inside text) None) p h).1

extent_kept : (at n : ℕ) (b : Bool) (e : Extent) → nat_le n 1048576 ≡ b → extent_at at (cond b (written.Fixed n) written.TooLarge) ≡ Ok e → (e ≡ FixedExtent n) × (n ≤ 1048576)
extent_kept at n true e k h = (sym (ok_same (FixedExtent n) e h), leb-true n 1048576 k)
extent_kept at n false e k h = absurd (cc h)

extents_kept : (at : ℕ) (ns : List ℕ) (es : List Extent) → each (extent_at at) (map extent_of ns) ≡ Ok es → AreKept es × (length es ≡ length ns)
extents_kept at [] es h = subst (λ (xs : List Extent). AreKept xs × (length xs ≡ 0)) (ok_same [] es h) (tt, refl)
extents_kept at (n ∷ ns) es h =
    let a = then_ok (extent_at at (extent_of n)) (λ y. and_then (each (extent_at at) (map extent_of ns)) (λ ys. Ok (y ∷ ys))) es h in
    let b = then_ok (each (extent_at at) (map extent_of ns)) (λ ys. Ok (a.0 ∷ ys)) es a.2 in
    let k = extent_kept at n (nat_le n 1048576) a.0 refl a.1 in
    let r = extents_kept at ns b.0 b.1 in
    subst (λ (xs : List Extent). AreKept xs × (length xs ≡ length (n ∷ ns))) (ok_same (a.0 ∷ b.0) es b.2)
    (subst (λ (x : Extent). AreKept (x ∷ b.0) × (length (x ∷ b.0) ≡ length (n ∷ ns))) (sym k.0) ((k.1, r.0), omega (arith, r.1)))

type_if : (at : ℕ) (o : Option (List ℕ × ℕ)) (ty : Ty) → ((p : List ℕ × ℕ) → o ≡ Some p → IsWidth p.1) → shape_type at (ranked_from o) ≡ Ok ty → IsTensorType ty
type_if at None ty f h = absurd (cc h)
type_if at (Some p) ty f h =
    let len = length-map p.0 extent_of in
    let a = then_ok (demand (nat_le (length (map extent_of p.0)) 8) (Limit limits.Rank at)) _ ty h in
    let b = then_ok (each (extent_at at) (map extent_of p.0)) _ ty a.2 in
    let c = then_ok (demand (nat_le (elements b.0) 4194304) (Limit limits.Elements at)) _ ty b.2 in
    let r = leb-true (length (map extent_of p.0)) 8 (demanded (nat_le (length (map extent_of p.0)) 8) (Limit limits.Rank at) a.0 a.1) in
    let k = extents_kept at p.0 b.0 b.1 in
    let w = f p refl in
    subst (λ (t : Ty). IsTensorType t) (ok_same (Tensor b.0 p.1) ty c.2)
    (record { extents = k.0; rank = omega (arith, r, len, k.1); few = leb-true (elements b.0) 4194304 (demanded (nat_le (elements b.0) 4194304) (Limit limits.Elements at) c.0 c.1); some = w.0; most = w.1 })

pub type_row : (t : TokenShape) (ty : Ty) → type_at t ≡ Ok ty → IsTensorType ty
type_row t ty h = type_if t.start (extents_of t.text) ty (λ p e. shape_width t.text p e) h
