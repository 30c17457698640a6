-- Each operation of a verified module has a number of its own.
use Rattle.std.proofs.Common.{◌≡◌, ◌==◌, ◌+◌, ◌&&◌, ℕ, Bool, true, false, List, [], ◌∷◌, ◌++◌, map, Option, Some, None, refl, sym, ap, subst, ◌∙◌, append_assoc}
use Rattle.std.specs.Prelude.{◌||◌, ⊤, if◌then◌else◌}
use Rattle.std.specs.List.{flat_map}
use Rattle.std.proofs.lemmas.List.{append-nil, map-append}
use Rattle.std.proofs.lemmas.Bool.{eqb-true}
use Rattle.std.proofs.lemmas.List.Concat.{flat_map-append}
use Rattle.affine_maps.specs.Permutation.{is_among}
use Rattle.mlir_ir.specs.Shape.{FuncShape}
use Rattle.mlir_ir.specs.declared.tree.Module.{Module}
use Rattle.mlir_ir.specs.declared.tree.Op.{Op}
use Rattle.mlir_ir.specs.declared.tree.OpId.{OpId}
use Rattle.mlir_verify.specs.Place as at
use Rattle.mlir_verify.specs.Place.{place_at, places_of, places_from, is_first}
use Rattle.mlir_verify.specs.Names.{ids, ids_at, breaks_names, repeats_params}
use Rattle.mlir_verify.specs.Rules.{broken, IsVerified}
use Rattle.mlir_verify.proofs.Verified.{Each, verified_places, all_pass}
use Rattle.mlir_edits.specs.declared.place.Place.{Place}
use Rattle.mlir_edits.specs.Places.{position_from, position_in, place_from}

-- no operation has a number known before, or that of an operation before it
abbrev pub AreNew : List ℕ → List Op → Type 0
AreNew known [] = ⊤
AreNew known (o ∷ os) = (is_among o.id.0 known ≡ false) × AreNew (known ++ o.id.0 ∷ []) os

abbrev pub FuncsAreNew : List ℕ → List FuncShape → Type 0
FuncsAreNew known [] = ⊤
FuncsAreNew known (f ∷ fs) = AreNew known f.body × FuncsAreNew (known ++ ids f.body) fs

or_left : (a b : Bool) → (a || b) ≡ false → a ≡ false
or_left true b e = e
or_left false b e = refl

or_right : (a b : Bool) → (a || b) ≡ false → b ≡ false
or_right true b e = absurd (let q : true ≡ false = e in cc)
or_right false b e = e

id_new : (p : at.Place) → broken p ≡ None → is_among p.op.id.0 (ids_at p.before p.earlier) ≡ false
unfolding breaks_names
id_new p e = or_left _ _ (or_right (is_first p && repeats_params p.before p.func) _ (all_pass p e).0)

one_more : (before : List FuncShape) (earlier : List Op) (o : Op) → ids_at before (earlier ++ o ∷ []) ≡ ids_at before earlier ++ o.id.0 ∷ []
one_more before earlier o =
    let known : List ℕ = flat_map (λ (f : FuncShape). ids f.body) before in
    ap (λ (ns : List ℕ). known ++ ns) (map-append (λ (p : Op). p.id.0) earlier (o ∷ [])) ∙ sym (append_assoc known (ids earlier) (o.id.0 ∷ []))

new_body : (os earlier : List Op) (before : List FuncShape) (f : FuncShape) → Each (λ p. broken p ≡ None) (places_of os earlier before f) → AreNew (ids_at before earlier) os
new_body [] earlier before f h = tt
new_body (o ∷ os) earlier before f h =
    (id_new (place_at before f earlier o os) h.0, subst (λ (known : List ℕ). AreNew known os) (one_more before earlier o) (new_body os (earlier ++ o ∷ []) before f h.1))

each_front : {X : Type 0} (P : X → Type 0) (xs ys : List X) → Each P (xs ++ ys) → Each P xs × Each P ys
each_front P [] ys h = (tt, h)
each_front P (x ∷ xs) ys h = let r = each_front P xs ys h.1 in ((h.0, r.0), r.1)

new_funcs : (fs before : List FuncShape) → Each (λ p. broken p ≡ None) (places_from fs before) → FuncsAreNew (flat_map (λ (f : FuncShape). ids f.body) before) fs
new_funcs [] before h = tt
new_funcs (f ∷ fs) before h =
    let g : FuncShape → List ℕ = λ f. ids f.body in
    let parts = each_front (λ p. broken p ≡ None) (places_of f.body [] before f) (places_from fs (before ++ f ∷ [])) h in (
      subst (λ (known : List ℕ). AreNew known f.body) (append-nil (flat_map g before)) (new_body f.body [] before f parts.0),
      subst (λ (known : List ℕ). FuncsAreNew known fs) (flat_map-append g before (f ∷ []) ∙ ap (λ (ns : List ℕ). flat_map g before ++ ns) (append-nil (g f))) (new_funcs fs (before ++ f ∷ []) parts.1),
    )

pub ids_are_new : (m : Module) → IsVerified m → FuncsAreNew [] m.funcs
ids_are_new m v = new_funcs m.funcs [] (verified_places m v)

or_true : (b : Bool) → (b || true) ≡ true
or_true true = refl
or_true false = refl

pub among_front : (n : ℕ) (xs ys : List ℕ) → is_among n xs ≡ true → is_among n (xs ++ ys) ≡ true
among_front n [] ys h = absurd cc
among_front n (x ∷ xs) ys h = by (x == n) (among_front n xs ys) h where
  by : (b : Bool) → (is_among n xs ≡ true → is_among n (xs ++ ys) ≡ true) → (b || is_among n xs) ≡ true → (b || is_among n (xs ++ ys)) ≡ true
  by true k h = refl
  by false k h = k h

pub among_back : (n : ℕ) (xs ys : List ℕ) → is_among n ys ≡ true → is_among n (xs ++ ys) ≡ true
among_back n [] ys h = h
among_back n (x ∷ xs) ys h = (λ j. (x == n) || among_back n xs ys h j) ∙ or_true (x == n)

-- a number that is known stands at no operation
pub known_absent : (i : OpId) (os : List Op) (k : ℕ) (known : List ℕ) → AreNew known os → is_among i.0 known ≡ true → position_from k i os ≡ None
known_absent i [] k known h e = refl
known_absent i (o ∷ os) k known h e = by (o.id.0 == i.0) refl (known_absent i os (k + 1) (known ++ o.id.0 ∷ []) h.1 (among_front i.0 known (o.id.0 ∷ []) e)) where
  by : (b : Bool) → (o.id.0 == i.0) ≡ b → position_from (k + 1) i os ≡ None → (if b then Some k else position_from (k + 1) i os) ≡ None
  by true q r = absurd (let same = eqb-true o.id.0 i.0 q in let w : is_among o.id.0 known ≡ true = subst (λ (n : ℕ). is_among n known ≡ true) (sym same) e in cc)
  by false q r = r

-- what stands somewhere is among the numbers there
pub found_among : (i : OpId) (os : List Op) (k n : ℕ) → position_from k i os ≡ Some n → is_among i.0 (ids os) ≡ true
found_among i [] k n h = absurd cc
found_among i (o ∷ os) k n h = by (o.id.0 == i.0) (found_among i os (k + 1) n) h where
  by : (b : Bool) → (position_from (k + 1) i os ≡ Some n → is_among i.0 (ids os) ≡ true) → (if b then Some k else position_from (k + 1) i os) ≡ Some n → (b || is_among i.0 (ids os)) ≡ true
  by true r h = refl
  by false r h = r h

-- a number that is known stands in no function
pub known_nowhere : (i : OpId) (fs : List FuncShape) (known : List ℕ) → FuncsAreNew known fs → is_among i.0 known ≡ true → Each (λ (f : FuncShape). position_in i f.body ≡ None) fs
known_nowhere i [] known h e = tt
known_nowhere i (f ∷ fs) known h e = (known_absent i f.body 0 known h.0 e, known_nowhere i fs (known ++ ids f.body) h.1 (among_front i.0 known (ids f.body) e))
