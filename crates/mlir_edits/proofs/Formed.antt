-- A step at the operation of a number is a step at its place, where no other operation has that number.
use Rattle.std.proofs.Common.{◌≡◌, ◌+◌, ◌==◌, ℕ, zero, suc, Bool, true, false, List, [], ◌∷◌, ◌++◌, map, take, Option, Some, None, refl, sym, ap, subst, ◌∙◌, arith}
use Rattle.std.specs.Prelude.{option_map, slice_get, if◌then◌else◌, ⊤}
use Rattle.std.proofs.lemmas.Option.{same_Some}
use Rattle.mlir_ir.specs.Count.{first, find_inside, find_op, find_in}
use Rattle.mlir_ir.specs.Shape.{FuncShape}
use Rattle.mlir_ir.specs.declared.tree.Op.{Op}
use Rattle.mlir_ir.specs.declared.tree.OpId.{OpId}
use Rattle.mlir_verify.specs.Names.{ids}
use Rattle.mlir_verify.proofs.Verified.{Each}
use Rattle.verified_runs.specs.Passes.{Scope, scope_after}
use Rattle.verified_runs.specs.Edits.{Edit, Step, placed, edited_body, edited_func}
use Rattle.mlir_edits.specs.declared.place.Place.{Place}
use Rattle.mlir_edits.specs.Places.{position_from, position_in, place_by, place_from, place_of, scope_before, op_at}
use Rattle.mlir_edits.specs.Replaced.{replaced, replaced_func, replaced_among}
use Rattle.mlir_edits.proofs.Unique.{FuncsAreNew, known_nowhere, found_among, among_back}

-- POSITIONS, counted from the list's front
abbrev pub position : OpId → List Op → Option ℕ
position i [] = None
position i (o ∷ os) = if o.id.0 == i.0 then Some 0 else option_map suc (position i os)

counted : (k : ℕ) (r : Option ℕ) → option_map (λ (n : ℕ). (k + 1) + n) r ≡ option_map (λ (n : ℕ). k + n) (option_map suc r)
counted k None = refl
counted k (Some n) = ap Some (let e : (k + 1) + n ≡ k + suc n = omega arith in e)

pub position_is : (i : OpId) (os : List Op) (k : ℕ) → position_from k i os ≡ option_map (λ (n : ℕ). k + n) (position i os)
position_is i [] k = refl
position_is i (o ∷ os) k = by (o.id.0 == i.0) (position_is i os (k + 1)) where
  by : (b : Bool) → position_from (k + 1) i os ≡ option_map (λ (n : ℕ). (k + 1) + n) (position i os) →
      (if b then Some k else position_from (k + 1) i os) ≡ option_map (λ (n : ℕ). k + n) (if b then Some 0 else option_map suc (position i os))
  by true r = ap Some (let e : k ≡ k + 0 = omega arith in e)
  by false r = r ∙ counted k (position i os)

plain : (r : Option ℕ) → option_map (λ (n : ℕ). 0 + n) r ≡ r
plain None = refl
plain (Some n) = ap Some (let e : 0 + n ≡ n = omega arith in e)

pub position_in_is : (i : OpId) (os : List Op) → position_in i os ≡ position i os
position_in_is i os = position_is i os 0 ∙ plain (position i os)

-- PLACES, counted from the list's front
abbrev pub located_by : Option ℕ → Option (ℕ × ℕ) → Option (ℕ × ℕ)
located_by None later = option_map (λ (q : ℕ × ℕ). (suc q.0, q.1)) later
located_by (Some k) later = Some (0, k)

abbrev pub located : OpId → List FuncShape → Option (ℕ × ℕ)
located i [] = None
located i (f ∷ fs) = located_by (position i f.body) (located i fs)

abbrev pub place_past : ℕ → ℕ × ℕ → Place
place_past n q = record { func = n + q.0; op = q.1 }

pub place_is : (i : OpId) (fs : List FuncShape) (n : ℕ) → place_from n i fs ≡ option_map (place_past n) (located i fs)
place_is i [] n = refl
place_is i (f ∷ fs) n = ap (λ r. place_by n r (place_from (n + 1) i fs)) (position_in_is i f.body) ∙ by (position i f.body) (located i fs) (place_is i fs (n + 1)) where
  by : (r : Option ℕ) (l : Option (ℕ × ℕ)) → place_from (n + 1) i fs ≡ option_map (place_past (n + 1)) l →
      place_by n r (place_from (n + 1) i fs) ≡ option_map (place_past n) (located_by r l)
  by None None h = h
  by None (Some q) h = h ∙ ap (λ m. Some (record { func = m; op = q.1 })) (let e : (n + 1) + q.0 ≡ n + suc q.0 = omega arith in e)
  by (Some k) l h = ap (λ m. Some (record { func = m; op = k })) (let e : n ≡ n + 0 = omega arith in e)

-- A STEP AT A POSITION
abbrev pub stepped : ℕ → Step → Scope → List Op → List Op
stepped n step scope [] = []
stepped zero step scope (o ∷ os) = placed (step scope o) o os
stepped (suc n) step scope (o ∷ os) = o ∷ stepped n step (scope ++ o.results) os

pub stepped_some : (os : List Op) (n : ℕ) (step : Step) (scope : Scope) (o : Op) (e : Edit) → slice_get os n ≡ Some o → step (scope_after scope (take n os)) o ≡ Some e →
    stepped n step scope os ≡ replaced n e os
stepped_some [] n step scope o e g h = absurd cc
stepped_some (p ∷ os) zero step scope o e g h = ap (λ r. placed r p os) (ap (step scope) (same_Some p o g) ∙ h)
stepped_some (p ∷ os) (suc n) step scope o e g h = ap (λ ps. p ∷ ps) (stepped_some os n step (scope ++ p.results) o e g h)

pub stepped_none : (os : List Op) (n : ℕ) (step : Step) (scope : Scope) (o : Op) → slice_get os n ≡ Some o → step (scope_after scope (take n os)) o ≡ None →
    stepped n step scope os ≡ os
stepped_none [] n step scope o g h = refl
stepped_none (p ∷ os) zero step scope o g h = ap (λ r. placed r p os) (ap (step scope) (same_Some p o g) ∙ h)
stepped_none (p ∷ os) (suc n) step scope o g h = ap (λ ps. p ∷ ps) (stepped_none os n step (scope ++ p.results) o g h)

pub edited_there : (i : OpId) (step : Step) (os : List Op) (scope : Scope) (n : ℕ) → position i os ≡ Some n → edited_body i step scope os ≡ stepped n step scope os
unfolding edited_body
edited_there i step [] scope n h = refl
edited_there i step (o ∷ os) scope n h = by (o.id.0 == i.0) (position i os) refl (edited_there i step os (scope ++ o.results)) h where
  by : (b : Bool) (r : Option ℕ) → position i os ≡ r → ((k : ℕ) → position i os ≡ Some k → edited_body i step (scope ++ o.results) os ≡ stepped k step (scope ++ o.results) os) → (if b then Some 0 else option_map suc r) ≡ Some n →
      (if b then placed (step scope o) o os else o ∷ edited_body i step (scope ++ o.results) os) ≡ stepped n step scope (o ∷ os)
  by true r q rec e = ap (λ k. stepped k step scope (o ∷ os)) (same_Some 0 n e)
  by false None q rec e = absurd cc
  by false (Some k) q rec e = ap (λ ps. o ∷ ps) (rec k q) ∙ ap (λ k. stepped k step scope (o ∷ os)) (same_Some (suc k) n e)

pub edited_nowhere : (i : OpId) (step : Step) (os : List Op) (scope : Scope) → position i os ≡ None → edited_body i step scope os ≡ os
unfolding edited_body
edited_nowhere i step [] scope h = refl
edited_nowhere i step (o ∷ os) scope h = by (o.id.0 == i.0) (position i os) refl (edited_nowhere i step os (scope ++ o.results)) h where
  by : (b : Bool) (r : Option ℕ) → position i os ≡ r → (position i os ≡ None → edited_body i step (scope ++ o.results) os ≡ os) → (if b then Some 0 else option_map suc r) ≡ None →
      (if b then placed (step scope o) o os else o ∷ edited_body i step (scope ++ o.results) os) ≡ o ∷ os
  by true r q rec e = absurd cc
  by false None q rec e = ap (λ ps. o ∷ ps) (rec q)
  by false (Some k) q rec e = absurd cc

-- A STEP AT A PLACE
abbrev pub func_of : FuncShape → List Op → FuncShape
func_of f body = record { name = f.name; params = f.params; results = f.results; body = body }

abbrev pub stepped_among : ℕ → ℕ → Step → List FuncShape → List FuncShape
stepped_among n k step [] = []
stepped_among zero k step (f ∷ fs) = func_of f (stepped k step f.params f.body) ∷ fs
stepped_among (suc n) k step (f ∷ fs) = f ∷ stepped_among n k step fs

nowhere_all : (i : OpId) (step : Step) (fs : List FuncShape) → Each (λ (f : FuncShape). position_in i f.body ≡ None) fs → map (edited_func i step) fs ≡ fs
nowhere_all i step [] h = refl
nowhere_all i step (f ∷ fs) h = λ j. func_of f (edited_nowhere i step f.body f.params (sym (position_in_is i f.body) ∙ h.0) j) ∷ nowhere_all i step fs h.1 j

-- after a function in which a number stands it stands nowhere
pub later_nowhere : (i : OpId) (f : FuncShape) (fs : List FuncShape) (known : List ℕ) (k : ℕ) → FuncsAreNew known (f ∷ fs) → position i f.body ≡ Some k →
    Each (λ (f : FuncShape). position_in i f.body ≡ None) fs
later_nowhere i f fs known k new q =
    known_nowhere i fs (known ++ ids f.body) new.1 (among_back i.0 known (ids f.body) (found_among i f.body 0 k (position_in_is i f.body ∙ q)))

pub edited_among : (i : OpId) (step : Step) (fs : List FuncShape) (known : List ℕ) (q : ℕ × ℕ) → FuncsAreNew known fs → located i fs ≡ Some q →
    map (edited_func i step) fs ≡ stepped_among q.0 q.1 step fs
edited_among i step [] known q new h = refl
edited_among i step (f ∷ fs) known q new h = by (position i f.body) refl (located i fs) refl (λ r. edited_among i step fs (known ++ ids f.body) r new.1) h where
  by : (r : Option ℕ) → position i f.body ≡ r → (l : Option (ℕ × ℕ)) → located i fs ≡ l →
      ((r : ℕ × ℕ) → located i fs ≡ Some r → map (edited_func i step) fs ≡ stepped_among r.0 r.1 step fs) → located_by r l ≡ Some q → map (edited_func i step) (f ∷ fs) ≡ stepped_among q.0 q.1 step (f ∷ fs)
  by (Some k) p l m rec e =
      (λ j. func_of f (edited_there i step f.body f.params k p j) ∷ nowhere_all i step fs (later_nowhere i f fs known k new p) j)
      ∙ ap (λ (q : ℕ × ℕ). stepped_among q.0 q.1 step (f ∷ fs)) (same_Some (0, k) q e)
  by None p None m rec e = absurd cc
  by None p (Some r) m rec e =
      (λ j. func_of f (edited_nowhere i step f.body f.params p j) ∷ rec r m j)
      ∙ ap (λ (q : ℕ × ℕ). stepped_among q.0 q.1 step (f ∷ fs)) (same_Some (suc r.0, r.1) q e)

pub among_some : (fs : List FuncShape) (n k : ℕ) (step : Step) (f : FuncShape) (o : Op) (e : Edit) → slice_get fs n ≡ Some f → slice_get f.body k ≡ Some o →
    step (scope_before f k) o ≡ Some e → stepped_among n k step fs ≡ replaced_among n k e fs
among_some [] n k step f o e g h s = absurd cc
among_some (p ∷ fs) zero k step f o e g h s =
    let same = sym (same_Some p f g) in
    ap (λ (body : List Op). func_of p body ∷ fs)
    (stepped_some p.body k step p.params o e (subst (λ (f : FuncShape). slice_get f.body k ≡ Some o) same h) (subst (λ (f : FuncShape). step (scope_before f k) o ≡ Some e) same s))
among_some (p ∷ fs) (suc n) k step f o e g h s = ap (λ ps. p ∷ ps) (among_some fs n k step f o e g h s)

pub among_none : (fs : List FuncShape) (n k : ℕ) (step : Step) (f : FuncShape) (o : Op) → slice_get fs n ≡ Some f → slice_get f.body k ≡ Some o →
    step (scope_before f k) o ≡ None → stepped_among n k step fs ≡ fs
among_none [] n k step f o g h s = refl
among_none (p ∷ fs) zero k step f o g h s =
    let same = sym (same_Some p f g) in
    ap (λ (body : List Op). func_of p body ∷ fs)
    (stepped_none p.body k step p.params o (subst (λ (f : FuncShape). slice_get f.body k ≡ Some o) same h) (subst (λ (f : FuncShape). step (scope_before f k) o ≡ None) same s))
among_none (p ∷ fs) (suc n) k step f o g h s = ap (λ ps. p ∷ ps) (among_none fs n k step f o g h s)

-- a place is where the number is located
pub located_at : (i : OpId) (fs : List FuncShape) (p : Place) → place_of i fs ≡ Some p → located i fs ≡ Some (p.func, p.op)
located_at i fs p h = by (located i fs) (sym (place_is i fs 0) ∙ h) where
  by : (l : Option (ℕ × ℕ)) → option_map (place_past 0) l ≡ Some p → l ≡ Some (p.func, p.op)
  by None e = absurd cc
  by (Some q) e =
      let s = same_Some (place_past 0 q) p e in
      λ j. Some ((let z : q.0 ≡ p.func = omega (arith, ap (λ (p : Place). p.func) s) in z j), (s j).op)

module _ (i : OpId) (fs : List FuncShape) (p : Place) (f : FuncShape) (o : Op) (new : FuncsAreNew [] fs) (there : place_of i fs ≡ Some p)
    (in_func : slice_get fs p.func ≡ Some f) (in_body : slice_get f.body p.op ≡ Some o) where
  -- a step that forms something at the operation of a number is an edit at its place
  pub formed_some : (step : Step) (e : Edit) → step (scope_before f p.op) o ≡ Some e → map (edited_func i step) fs ≡ replaced_among p.func p.op e fs
  formed_some step e s = edited_among i step fs [] (p.func, p.op) new (located_at i fs p there) ∙ among_some fs p.func p.op step f o e in_func in_body s

  -- and one that forms nothing leaves the functions as they are
  pub formed_none : (step : Step) → step (scope_before f p.op) o ≡ None → map (edited_func i step) fs ≡ fs
  formed_none step s = edited_among i step fs [] (p.func, p.op) new (located_at i fs p there) ∙ among_none fs p.func p.op step f o in_func in_body s
