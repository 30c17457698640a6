-- Where a step forms in a module: nowhere, or at one operation of one function, since numbers of operations don't repeat.
use Rattle.std.proofs.Common.{◌≡◌, ℕ, ◌==◌, Bool, true, false, List, [], ◌∷◌, ◌++◌, map, Option, Some, None, ◌⊎◌, inl, inr, refl, ap, sym, ◌∙◌}
use Rattle.std.specs.Prelude.{◌||◌, if◌then◌else◌}
use Rattle.std.specs.List.{flat_map}
use Rattle.affine_maps.specs.Permutation.{is_among}
use Rattle.mlir_ir.specs.Shape.{FuncShape}
use Rattle.mlir_ir.specs.declared.tree.Op.{Op}
use Rattle.mlir_ir.specs.declared.tree.OpId.{OpId}
use Rattle.mlir_meaning.specs.Renaming.{reused_ops}
use Rattle.mlir_meaning.specs.States.{names_of}
use Rattle.mlir_verify.specs.Names.{redefines, ids}
use Rattle.verified_runs.specs.Edits.{Edit, Step, moved, placed, edited_body, edited_func}
use Rattle.verified_runs.specs.Passes.{Scope, scope_after}
use Rattle.verified_runs.proofs.ReusedBodies.{or_false}
use Rattle.step_results.proofs.Numbers.{among_parts, among_right, own_parts, known_absent}

abbrev pub func_with : FuncShape → List Op → FuncShape
func_with f body = record { name = f.name; params = f.params; results = f.results; body = body }

abbrev pub all_ids : List FuncShape → List ℕ
all_ids = flat_map (λ f. ids f.body)

module _ (i : OpId) (step : Step) where
  -- the target in a body
  record Hole (scope : Scope) (os : List Op) : Type 0 where
    before : List Op
    target : Op
    after : List Op
    is : os ≡ before ++ (target ∷ after)
    here : (target.id.0 == i.0) ≡ true
    edited : edited_body i step scope os ≡ before ++ placed (step (scope_after scope before) target) target after

  -- a body without the operation stays
  absent_body : (os : List Op) (scope : Scope) → is_among i.0 (ids os) ≡ false → edited_body i step scope os ≡ os
  unfolding edited_body
  absent_body [] scope h = refl
  absent_body (o ∷ os) scope h =
      let parts = or_false (o.id.0 == i.0) _ h in
      (λ j. if parts.0 j then placed (step scope o) o os else o ∷ edited_body i step (scope ++ o.results) os) ∙ ap (λ ps. o ∷ ps) (absent_body os (scope ++ o.results) parts.1)

  hole : (os : List Op) (scope : Scope) → (is_among i.0 (ids os) ≡ false) ⊎ Hole scope os
  unfolding edited_body
  hole [] scope = inl refl
  hole (o ∷ os) scope = by_test (o.id.0 == i.0) refl (hole os (scope ++ o.results)) where
    by_test : (b : Bool) → (o.id.0 == i.0) ≡ b → (is_among i.0 (ids os) ≡ false) ⊎ Hole (scope ++ o.results) os → (is_among i.0 (ids (o ∷ os)) ≡ false) ⊎ Hole scope (o ∷ os)
    by_test true e rest = inr (record {
      before = [];
      target = o;
      after = os;
      is = refl;
      here = e;
      edited = λ j. if e j then placed (step scope o) o os else o ∷ edited_body i step (scope ++ o.results) os;
    })
    by_test false e (inl none) = inl ((λ j. e j || is_among i.0 (ids os)) ∙ none)
    by_test false e (inr h) = inr (record {
      before = o ∷ h.before;
      target = h.target;
      after = h.after;
      is = ap (λ ps. o ∷ ps) h.is;
      here = h.here;
      edited = (λ j. if e j then placed (step scope o) o os else o ∷ edited_body i step (scope ++ o.results) os) ∙ ap (λ ps. o ∷ ps) h.edited;
    })

  absent_func : (f : FuncShape) → is_among i.0 (ids f.body) ≡ false → edited_func i step f ≡ f
  absent_func f h = ap (func_with f) (absent_body f.body f.params h)

  absent_funcs : (fs : List FuncShape) → is_among i.0 (all_ids fs) ≡ false → map (edited_func i step) fs ≡ fs
  absent_funcs [] h = refl
  absent_funcs (f ∷ fs) h = let parts = among_parts i.0 (ids f.body) (all_ids fs) h in λ j. absent_func f parts.0 j ∷ absent_funcs fs parts.1 j

  -- where the step forms
  pub record Spot (fs : List FuncShape) : Type 0 where
    pub front : List FuncShape
    pub func : FuncShape
    pub back : List FuncShape
    pub before : List Op
    pub target : Op
    pub after : List Op
    pub edit : Edit
    pub is : fs ≡ front ++ (func ∷ back)
    pub body : func.body ≡ before ++ (target ∷ after)
    pub gives : step (scope_after func.params before) target ≡ Some edit
    pub formed : map (edited_func i step) fs ≡ front ++ (func_with func (before ++ (edit.ops ++ reused_ops (moved (names_of target.results) edit.values) after)) ∷ back)

  ids_middle : (before after : List Op) (o : Op) → (o.id.0 == i.0) ≡ true → is_among i.0 (ids (before ++ (o ∷ after))) ≡ true
  ids_middle [] after o h = λ j. h j || is_among i.0 (ids after)
  ids_middle (p ∷ before) after o h = ap (λ b. (p.id.0 == i.0) || b) (ids_middle before after o h) ∙ or_true (p.id.0 == i.0) where
    or_true : (b : Bool) → (b || true) ≡ true
    or_true true = refl
    or_true false = refl

  at_hole : (f : FuncShape) (fs : List FuncShape) (h : Hole f.params f.body) → is_among i.0 (all_ids fs) ≡ false → (e : Option Edit) → step (scope_after f.params h.before) h.target ≡ e →
      (map (edited_func i step) (f ∷ fs) ≡ f ∷ fs) ⊎ Spot (f ∷ fs)
  at_hole f fs h none None q =
      inl (λ j. (ap (func_with f) (h.edited ∙ ap (λ e. h.before ++ placed e h.target h.after) q ∙ sym h.is)) j ∷ absent_funcs fs none j)
  at_hole f fs h none (Some e) q = inr (record {
    front = [];
    func = f;
    back = fs;
    before = h.before;
    target = h.target;
    after = h.after;
    edit = e;
    is = refl;
    body = h.is;
    gives = q;
    formed = λ j. (ap (func_with f) (h.edited ∙ ap (λ e. h.before ++ placed e h.target h.after) q)) j ∷ absent_funcs fs none j;
  })

  pub spot : (fs : List FuncShape) (known : List ℕ) → redefines (all_ids fs) known ≡ false → (map (edited_func i step) fs ≡ fs) ⊎ Spot fs
  spot [] known own = inl refl
  spot (f ∷ fs) known own = by_hole (hole f.body f.params) (spot fs (known ++ ids f.body) (own_parts (ids f.body) (all_ids fs) known own).1) where
    by_hole : (is_among i.0 (ids f.body) ≡ false) ⊎ Hole f.params f.body → (map (edited_func i step) fs ≡ fs) ⊎ Spot fs → (map (edited_func i step) (f ∷ fs) ≡ f ∷ fs) ⊎ Spot (f ∷ fs)
    by_hole (inl none) (inl same) = inl (λ j. absent_func f none j ∷ same j)
    by_hole (inl none) (inr s) = inr (record {
      front = f ∷ s.front;
      func = s.func;
      back = s.back;
      before = s.before;
      target = s.target;
      after = s.after;
      edit = s.edit;
      is = ap (λ gs. f ∷ gs) s.is;
      body = s.body;
      gives = s.gives;
      formed = λ j. absent_func f none j ∷ s.formed j;
    })
    by_hole (inr h) rest =
        let there : is_among i.0 (ids f.body) ≡ true = ap (λ os. is_among i.0 (ids os)) h.is ∙ ids_middle h.before h.after h.target h.here in
        at_hole f fs h (known_absent i.0 (all_ids fs) (known ++ ids f.body) (own_parts (ids f.body) (all_ids fs) known own).1 (among_right i.0 known (ids f.body) there))
        (step (scope_after f.params h.before) h.target) refl
