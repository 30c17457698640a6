-- Bodies without loops by the numbers of their operations, and a step in them.
use Rattle.std.proofs.Common.{◌≡◌, ℕ, ◌==◌, ◌<◌, Bool, true, false, List, [], ◌∷◌, ◌++◌, map, Option, Some, None, refl, ap, sym, subst, ◌∙◌, arith, eqb-true}
use Rattle.std.specs.Prelude.{◌||◌, is_some, if◌then◌else◌}
use Rattle.std.proofs.lemmas.Option.{same_Some}
use Rattle.std.proofs.lemmas.List.{map-append}
use Rattle.std.proofs.lemmas.List.Folds.{list_any-append}
use Rattle.affine_maps.specs.Permutation.{is_among}
use Rattle.mlir_ir.specs.Count.{first, find_inside, find_op, find_in}
use Rattle.mlir_ir.specs.Shape.{FuncShape}
use Rattle.mlir_ir.specs.declared.tree.Op.{Op}
use Rattle.mlir_ir.specs.declared.tree.OpId.{OpId}
use Rattle.mlir_ir.specs.declared.tree.OpKind.{OpKind, For', Forall'}
use Rattle.mlir_ir.specs.declared.tree.Ty.{Ty}
use Rattle.mlir_meaning.specs.Grids.{Each}
use Rattle.mlir_meaning.specs.Renaming.{reused_ops}
use Rattle.mlir_meaning.specs.States.{names_of}
use Rattle.mlir_verify.specs.Built.{is_built_kind}
use Rattle.mlir_verify.specs.Names.{ids}
use Rattle.verified_runs.specs.Passes.{Scope, BodyPasses, FuncPasses, scope_after}
use Rattle.verified_runs.specs.Edits.{Edit, Step, moved, placed, edited_body, edited_func}
use Rattle.verified_runs.specs.Fresh.{above_ids, fresh_op}
use Rattle.verified_runs.proofs.Places.{built_kind}
use Rattle.structured_steps.specs.Steps.{Rules, broken_in, broken_among}
use Rattle.script_run.proofs.Named.{or_true, through, first_through}

-- no operation that is built has a body
abbrev pub AreFlat : List Op → Type 0
AreFlat os = Each (λ (o : Op). is_built_kind o.kind ≡ true) os

pub flat : (os : List Op) (scope : Scope) (wanted : List Ty) → BodyPasses scope wanted os → AreFlat os
flat [] scope wanted h = tt
flat (o ∷ os) scope wanted h = (built_kind scope wanted o h.0, flat os (scope ++ o.results) wanted h.2)

pub nothing_inside : (i : OpId) (kind : OpKind) → is_built_kind kind ≡ true → find_inside i kind ≡ None
nothing_inside i (For' var lower upper step carried shape row) b = absurd cc
nothing_inside i (Forall' vars lower upper step shared shape row) b = absurd cc
nothing_inside i kind b = refl

-- NUMBERS
ids_append : (xs ys : List Op) → ids (xs ++ ys) ≡ ids xs ++ ids ys
ids_append xs ys = map-append (λ (o : Op). o.id.0) xs ys

among_split : (n : ℕ) (xs ys : List Op) → is_among n (ids (xs ++ ys)) ≡ (is_among n (ids xs) || is_among n (ids ys))
among_split n xs ys = ap (is_among n) (ids_append xs ys) ∙ list_any-append (λ (m : ℕ). m == n) (ids xs) (ids ys)

pub among_back : (n : ℕ) (xs ys : List Op) → is_among n (ids ys) ≡ true → is_among n (ids (xs ++ ys)) ≡ true
among_back n xs ys h = among_split n xs ys ∙ (λ j. is_among n (ids xs) || h j) ∙ or_true (is_among n (ids xs))

-- another end after the same front
among_through : (n : ℕ) (xs ys zs : List Op) → (is_among n (ids ys) ≡ true → is_among n (ids zs) ≡ true) → is_among n (ids (xs ++ ys)) ≡ true → is_among n (ids (xs ++ zs)) ≡ true
among_through n xs ys zs h e = among_split n xs zs ∙ through (is_among n (ids xs)) (is_among n (ids ys)) (is_among n (ids zs)) h (sym (among_split n xs ys) ∙ e)

reused_ids : (g : ℕ → ℕ) (os : List Op) → ids (reused_ops g os) ≡ ids os
reused_ids g [] = refl
reused_ids g (o ∷ os) = ap (λ (ns : List ℕ). o.id.0 ∷ ns) (reused_ids g os)

-- what follows the target stays
after_stays : (n : ℕ) (e : Option Edit) (o : Op) (after : List Op) → is_among n (ids after) ≡ true → is_among n (ids (placed e o after)) ≡ true
after_stays n None o after h = (λ j. (o.id.0 == n) || h j) ∙ or_true (o.id.0 == n)
after_stays n (Some e) o after h =
    let g = moved (names_of o.results) e.values in
    among_back n e.ops (reused_ops g after) (ap (is_among n) (reused_ids g after) ∙ h)

-- FINDING
pub among_found : (j : OpId) (os : List Op) → is_among j.0 (ids os) ≡ true → is_some (find_op j os) ≡ true
among_found j [] e = absurd cc
among_found j (o ∷ os) e = by_test (o.id.0 == j.0) refl (among_found j os) where
  later : (a b : Option Op) → is_some b ≡ true → is_some (first a b) ≡ true
  later (Some x) b h = refl
  later None b h = h

  by_test : (b : Bool) → (o.id.0 == j.0) ≡ b → (is_among j.0 (ids os) ≡ true → is_some (find_op j os) ≡ true) → is_some (find_op j (o ∷ os)) ≡ true
  by_test true q rest = λ k. is_some (if q k then Some o else first (find_inside j o.kind) (find_op j os))
  by_test false q rest =
      (λ k. is_some (if q k then Some o else first (find_inside j o.kind) (find_op j os)))
      ∙ later (find_inside j o.kind) (find_op j os) (rest (sym (λ k. q k || is_among j.0 (ids os)) ∙ e))

pub found_among : (j : OpId) (os : List Op) → AreFlat os → is_some (find_op j os) ≡ true → is_among j.0 (ids os) ≡ true
found_among j [] h e = absurd cc
found_among j (o ∷ os) h e = by_test (o.id.0 == j.0) refl (found_among j os h.1) where
  by_test : (b : Bool) → (o.id.0 == j.0) ≡ b → (is_some (find_op j os) ≡ true → is_among j.0 (ids os) ≡ true) → is_among j.0 (ids (o ∷ os)) ≡ true
  by_test true q rest = λ k. q k || is_among j.0 (ids os)
  by_test false q rest =
      (λ k. q k || is_among j.0 (ids os))
      ∙ rest (sym (λ k. is_some (if q k then Some o else first (nothing_inside j o.kind h.0 k) (find_op j os))) ∙ e)

-- THE TARGET
-- where a body has its operation, and what a step and its rules make of it there
pub record Meets (i : OpId) (os : List Op) (o : Op) : Type 0 where
  pub before : List Op
  pub after : List Op
  pub is : os ≡ before ++ (o ∷ after)
  pub number : (o.id.0 == i.0) ≡ true
  pub edited : (step : Step) (scope : Scope) → edited_body i step scope os ≡ before ++ placed (step (scope_after scope before) o) o after
  pub broken : (rules : Rules) (scope : Scope) → broken_in i rules scope os ≡ rules (scope_after scope before) o

pub meets : (i : OpId) (os : List Op) (o : Op) → AreFlat os → find_op i os ≡ Some o → Meets i os o
unfolding edited_body
meets i [] o h e = absurd cc
meets i (p ∷ os) o h e = by_test (p.id.0 == i.0) refl (meets i os o h.1) where
  by_test : (b : Bool) → (p.id.0 == i.0) ≡ b → (find_op i os ≡ Some o → Meets i os o) → Meets i (p ∷ os) o
  by_test true q rest =
      let same : p ≡ o = same_Some p o (sym (λ k. if q k then Some p else first (find_inside i p.kind) (find_op i os)) ∙ e) in
      subst (λ (x : Op). Meets i (p ∷ os) x) same (record {
        before = [];
        after = os;
        is = refl;
        number = q;
        edited = λ step scope. λ k. if q k then placed (step scope p) p os else p ∷ edited_body i step (scope ++ p.results) os;
        broken = λ rules scope. λ k. if q k then rules scope p else broken_in i rules (scope ++ p.results) os;
      })
  by_test false q rest =
      let m = rest (sym (λ k. if q k then Some p else first (nothing_inside i p.kind h.0 k) (find_op i os)) ∙ e) in
      record {
        before = p ∷ m.before;
        after = m.after;
        is = ap (λ (ps : List Op). p ∷ ps) m.is;
        number = m.number;
        edited = λ step scope. (λ k. if q k then placed (step scope p) p os else p ∷ edited_body i step (scope ++ p.results) os) ∙ ap (λ (ps : List Op). p ∷ ps) (m.edited step (scope ++ p.results));
        broken = λ rules scope. (λ k. if q k then rules scope p else broken_in i rules (scope ++ p.results) os) ∙ m.broken rules (scope ++ p.results);
      }

-- a body without it stays
misses : (i : OpId) (os : List Op) → AreFlat os → find_op i os ≡ None → (step : Step) (scope : Scope) → edited_body i step scope os ≡ os
unfolding edited_body
misses i [] h e = λ step scope. refl
misses i (p ∷ os) h e = by_test (p.id.0 == i.0) refl (misses i os h.1) where
  by_test : (b : Bool) → (p.id.0 == i.0) ≡ b → (find_op i os ≡ None → (step : Step) (scope : Scope) → edited_body i step scope os ≡ os) →
      (step : Step) (scope : Scope) → edited_body i step scope (p ∷ os) ≡ p ∷ os
  by_test true q rest = absurd (let z : ◌≡◌ {A = Option Op} (Some p) None = sym (λ k. if q k then Some p else first (find_inside i p.kind) (find_op i os)) ∙ e in cc)
  by_test false q rest = λ step scope.
      (λ k. if q k then placed (step scope p) p os else p ∷ edited_body i step (scope ++ p.results) os)
      ∙ ap (λ (ps : List Op). p ∷ ps) (rest (sym (λ k. if q k then Some p else first (nothing_inside i p.kind h.0 k) (find_op i os)) ∙ e) step (scope ++ p.results))

-- another operation stands in the body that is formed
other_stays : (i j : OpId) (step : Step) (scope : Scope) (os : List Op) → AreFlat os → (i.0 == j.0) ≡ false → is_some (find_op j os) ≡ true → is_some (find_op j (edited_body i step scope os)) ≡ true
other_stays i j step scope os h d e = by_target (find_op i os) refl where
  by_target : (x : Option Op) → find_op i os ≡ x → is_some (find_op j (edited_body i step scope os)) ≡ true
  by_target None q = ap (λ (ps : List Op). is_some (find_op j ps)) (misses i os h q step scope) ∙ e
  by_target (Some o) q =
      let m = meets i os o h q in
      let apart : (o.id.0 == j.0) ≡ false = (λ k. eqb-true o.id.0 i.0 m.number k == j.0) ∙ d in
      let edit = step (scope_after scope m.before) o in
      let there = ap (λ (ps : List Op). is_among j.0 (ids ps)) (sym m.is) ∙ found_among j os h e in
      let stays = among_through j.0 m.before (o ∷ m.after) (placed edit o m.after)
      (λ a. after_stays j.0 edit o m.after (sym (λ k. apart k || is_among j.0 (ids m.after)) ∙ a)) there in
      ap (λ (ps : List Op). is_some (find_op j ps)) (m.edited step scope) ∙ among_found j (m.before ++ placed edit o m.after) stays

-- IN FUNCTIONS
body_flat : (f : FuncShape) → FuncPasses f → AreFlat f.body
body_flat f h = flat f.body f.params f.results h.body

pub other_stands : (i j : OpId) (step : Step) (fs : List FuncShape) → Each FuncPasses fs → (i.0 == j.0) ≡ false → is_some (find_in j fs) ≡ true → is_some (find_in j (map (edited_func i step) fs)) ≡ true
other_stands i j step [] h d e = absurd cc
other_stands i j step (f ∷ fs) h d e =
    first_through (find_op j f.body) (find_in j fs) (find_op j (edited_body i step f.params f.body)) (find_in j (map (edited_func i step) fs))
    (other_stays i j step f.params f.body (body_flat f h.0) d) (other_stands i j step fs h.1 d) e

first_none : {A : Type 0} (a b : Option A) → first a b ≡ None → (a ≡ None) × (b ≡ None)
first_none None b e = (refl, e)
first_none (Some x) b e = absurd cc

left_some : (a b : Option Op) → is_some a ≡ true → is_some (first a b) ≡ true
left_some (Some x) b h = refl
left_some None b h = absurd cc

right_some : (a b : Option Op) → is_some b ≡ true → is_some (first a b) ≡ true
right_some (Some x) b h = refl
right_some None b h = h

-- what a step puts in its target's place, where no rule is broken there, stands in what it forms
module _ (i x : OpId) (step : Step) (rules : Rules) (o : Op)
    (there : (scope : Scope) (after : List Op) → (o.id.0 == i.0) ≡ true → rules scope o ≡ None → is_among x.0 (ids (placed (step scope o) o after)) ≡ true) where
  in_body : (f : FuncShape) → FuncPasses f → broken_in i rules f.params f.body ≡ None → find_op i f.body ≡ Some o → is_some (find_op x (edited_body i step f.params f.body)) ≡ true
  in_body f h kept found =
      let m = meets i f.body o (body_flat f h) found in
      let scope = scope_after f.params m.before in
      let edit = step scope o in
      ap (λ (ps : List Op). is_some (find_op x ps)) (m.edited step f.params)
      ∙ among_found x (m.before ++ placed edit o m.after) (among_back x.0 m.before (placed edit o m.after) (there scope m.after m.number (sym (m.broken rules f.params) ∙ kept)))

  pub made_stands : (fs : List FuncShape) → Each FuncPasses fs → broken_among i rules fs ≡ None → find_in i fs ≡ Some o → is_some (find_in x (map (edited_func i step) fs)) ≡ true
  made_stands [] h kept found = absurd cc
  made_stands (f ∷ fs) h kept found = by_body (find_op i f.body) refl (first_none (broken_in i rules f.params f.body) (broken_among i rules fs) kept) (made_stands fs h.1) where
    by_body : (y : Option Op) → find_op i f.body ≡ y → (broken_in i rules f.params f.body ≡ None) × (broken_among i rules fs ≡ None) →
        (broken_among i rules fs ≡ None → find_in i fs ≡ Some o → is_some (find_in x (map (edited_func i step) fs)) ≡ true) →
        is_some (find_in x (map (edited_func i step) (f ∷ fs))) ≡ true
    by_body (Some p) q none rest =
        left_some (find_op x (edited_body i step f.params f.body)) (find_in x (map (edited_func i step) fs))
        (in_body f h.0 none.0 (q ∙ sym (λ k. first (q k) (find_in i fs)) ∙ found))
    by_body None q none rest =
        right_some (find_op x (edited_body i step f.params f.body)) (find_in x (map (edited_func i step) fs)) (rest none.1 (sym (λ k. first (q k) (find_in i fs)) ∙ found))

-- FRESH NUMBERS
below_ids : (n : ℕ) (os : List Op) → is_among n (ids os) ≡ true → n < above_ids os
below_ids n [] e = absurd cc
below_ids n (o ∷ os) e = by_test (o.id.0 == n) refl (below_ids n os) where
  by_test : (b : Bool) → (o.id.0 == n) ≡ b → (is_among n (ids os) ≡ true → n < above_ids os) → n < above_ids (o ∷ os)
  by_test true q rest = omega (arith, eqb-true o.id.0 n q)
  by_test false q rest = omega (arith, rest (sym (λ k. q k || is_among n (ids os)) ∙ e))

-- each operation that stands has a number below a fresh one
pub number_below : (j : OpId) (fs : List FuncShape) → Each FuncPasses fs → is_some (find_in j fs) ≡ true → j.0 < fresh_op fs
number_below j [] h e = absurd cc
number_below j (f ∷ fs) h e = by_body (find_op j f.body) refl (number_below j fs h.1) where
  by_body : (y : Option Op) → find_op j f.body ≡ y → (is_some (find_in j fs) ≡ true → j.0 < fresh_op fs) → j.0 < fresh_op (f ∷ fs)
  by_body (Some p) q rest = omega (arith, below_ids j.0 f.body (found_among j f.body (body_flat f h.0) (λ k. is_some (q k))))
  by_body None q rest = omega (arith, rest (sym (λ k. is_some (first (q k) (find_in j fs))) ∙ e))
