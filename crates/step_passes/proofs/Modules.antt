-- A step at an operation of a verified module after a pass.
use Rattle.std.proofs.Common.{◌≡◌, ℕ, ◌<◌, ◌≤◌, ◌==◌, false, List, [], ◌∷◌, ◌++◌, map, Option, Some, None, refl, ap, sym, subst, ◌∙◌, arith}
use Rattle.std.specs.Prelude.{◌||◌, if◌then◌else◌}
use Rattle.std.proofs.lemmas.List.{map-append}
use Rattle.affine_maps.specs.Permutation.{is_among}
use Rattle.mlir_ir.specs.Count.{first}
use Rattle.mlir_ir.specs.Shape.{FuncShape}
use Rattle.mlir_ir.specs.declared.tree.Module.{Module}
use Rattle.mlir_ir.specs.declared.tree.Op.{Op}
use Rattle.mlir_ir.specs.declared.tree.OpId.{OpId}
use Rattle.mlir_ir.specs.declared.tree.Ty.{Ty}
use Rattle.mlir_ir.specs.declared.tree.ValueId.{ValueId}
use Rattle.mlir_meaning.specs.Grids.{Each}
use Rattle.mlir_meaning.proofs.Through.{each_right}
use Rattle.mlir_verify.specs.Names.{ids}
use Rattle.mlir_verify.specs.Place.{type_among}
use Rattle.mlir_verify.specs.Rules.{IsVerified}
use Rattle.verified_runs.specs.Edits.{Step, placed, edited_body, edited_func}
use Rattle.verified_runs.specs.Fresh.{above_body, above_func, fresh_value, fresh_op}
use Rattle.verified_runs.specs.Passes.{Scope, BodyPasses, FuncPasses, scope_after}
use Rattle.verified_runs.proofs.ReusedBodies.{or_false}
use Rattle.verified_runs.proofs.Results.{HasOne}
use Rattle.verified_runs.proofs.Verified.{verified_passes}
use Rattle.structured_steps.specs.Steps.{Rules, broken_in, broken_among, broken_of, formed}
use Rattle.step_results.proofs.Numbers.{among_parts}
use Rattle.step_results.proofs.Small.{middle_above}
use Rattle.step_results.proofs.Spots.{func_with, all_ids}
use Rattle.step_passes.specs.declared.exchange.Exchange.{Exchange}
use Rattle.step_passes.specs.Exchanging.{Exchanging, rules_of, step_of}
use Rattle.step_passes.specs.OnePass.{exchange_of, passed_ops, passed_func, passed_module}
use Rattle.step_passes.proofs.Walking.{IsFresh, passed_elsewhere, absent_passed}
use Rattle.step_passes.proofs.Placed.{IsNatural, own, broken_passed, stays_passed, becomes_passed}
use Rattle.step_passes.proofs.Stands.{Stands}

-- WHERE IT DOESN'T STAND
module _ (t : OpId) where
  edited_none : (step : Step) (os : List Op) (scope : Scope) → is_among t.0 (ids os) ≡ false → edited_body t step scope os ≡ os
  unfolding edited_body
  edited_none step [] scope h = refl
  edited_none step (o ∷ os) scope h =
      let parts = or_false (o.id.0 == t.0) _ h in
      (λ j. if parts.0 j then placed (step scope o) o os else o ∷ edited_body t step (scope ++ o.results) os) ∙ ap (λ ps. o ∷ ps) (edited_none step os (scope ++ o.results) parts.1)

  broken_none : (rules : Rules) (os : List Op) (scope : Scope) → is_among t.0 (ids os) ≡ false → broken_in t rules scope os ≡ None
  broken_none rules [] scope h = refl
  broken_none rules (o ∷ os) scope h =
      let parts = or_false (o.id.0 == t.0) _ h in
      (λ j. if parts.0 j then rules scope o else broken_in t rules (scope ++ o.results) os) ∙ broken_none rules os (scope ++ o.results) parts.1

  edited_nowhere : (step : Step) (fs : List FuncShape) → is_among t.0 (all_ids fs) ≡ false → map (edited_func t step) fs ≡ fs
  edited_nowhere step [] h = refl
  edited_nowhere step (f ∷ fs) h = let parts = among_parts t.0 (ids f.body) (all_ids fs) h in λ j. func_with f (edited_none step f.body f.params parts.0 j) ∷ edited_nowhere step fs parts.1 j

  pub first_then : {A : Type 0} (a b : Option A) → a ≡ None → first a b ≡ b
  first_then a b h = ap (λ x. first x b) h

  pub first_of : {A : Type 0} (a b : Option A) → b ≡ None → first a b ≡ a
  first_of None b h = h
  first_of (Some x) b h = refl

  broken_nowhere : (rules : Rules) (fs : List FuncShape) → is_among t.0 (all_ids fs) ≡ false → broken_among t rules fs ≡ None
  broken_nowhere rules [] h = refl
  broken_nowhere rules (f ∷ fs) h =
      let parts = among_parts t.0 (ids f.body) (all_ids fs) h in
      first_then (broken_in t rules f.params f.body) (broken_among t rules fs) (broken_none rules f.body f.params parts.0) ∙ broken_nowhere rules fs parts.1

  broken_split : (rules : Rules) (front back : List FuncShape) (f : FuncShape) → is_among t.0 (all_ids front) ≡ false → is_among t.0 (all_ids back) ≡ false →
      broken_among t rules (front ++ (f ∷ back)) ≡ broken_in t rules f.params f.body
  broken_split rules [] back f h k = first_of (broken_in t rules f.params f.body) (broken_among t rules back) (broken_nowhere rules back k)
  broken_split rules (g ∷ front) back f h k =
      let parts = among_parts t.0 (ids g.body) (all_ids front) h in
      first_then (broken_in t rules g.params g.body) (broken_among t rules (front ++ (f ∷ back))) (broken_none rules g.body g.params parts.0) ∙ broken_split rules front back f parts.1 k

  pub edited_split : (step : Step) (front back : List FuncShape) (f : FuncShape) → is_among t.0 (all_ids front) ≡ false → is_among t.0 (all_ids back) ≡ false →
      map (edited_func t step) (front ++ (f ∷ back)) ≡ front ++ (edited_func t step f ∷ back)
  edited_split step front back f h k =
      map-append (edited_func t step) front (f ∷ back) ∙ (λ j. edited_nowhere step front h j ++ (edited_func t step f ∷ edited_nowhere step back k j))

-- IN A PASS
pub each_passed : (xs : List Exchange) (fs : List FuncShape) → Each FuncPasses (map (passed_func xs) fs) → Each (λ f. FuncPasses (passed_func xs f)) fs
each_passed xs [] h = tt
each_passed xs (f ∷ fs) h = (h.0, each_passed xs fs h.1)

absent_funcs : (xs : List Exchange) (y : Exchange) (fs : List FuncShape) → is_among y.target.0 (all_ids fs) ≡ false → map (passed_func (xs ++ y ∷ [])) fs ≡ map (passed_func xs) fs
absent_funcs xs y [] h = refl
absent_funcs xs y (f ∷ fs) h =
    let parts = among_parts y.target.0 (ids f.body) (all_ids fs) h in
    λ j. func_with f (absent_passed xs y f.body own parts.0 j) ∷ absent_funcs xs y fs parts.1 j

module _ (n k : ℕ) (xs : List Exchange) (fresh : Each (IsFresh n k) xs) (t : OpId) (small : t.0 < k) where
  pub elsewhere : (fs : List FuncShape) → is_among t.0 (all_ids fs) ≡ false → is_among t.0 (all_ids (map (passed_func xs) fs)) ≡ false
  elsewhere [] h = refl
  elsewhere (f ∷ fs) h =
      let parts = among_parts t.0 (ids f.body) (all_ids fs) h in
      joined (ids (passed_ops xs own f.body)) (all_ids (map (passed_func xs) fs)) (passed_elsewhere n k xs fresh t small f.body own parts.0) (elsewhere fs parts.1)
    where
      joined : (ns ms : List ℕ) → is_among t.0 ns ≡ false → is_among t.0 ms ≡ false → is_among t.0 (ns ++ ms) ≡ false
      joined [] ms p q = q
      joined (a ∷ ns) ms p q = let parts = or_false (a == t.0) _ p in (λ j. parts.0 j || is_among t.0 (ns ++ ms)) ∙ joined ns ms parts.1 q

-- the target in a module, and the module after a pass, which verify
module _ (m : Module) (xs : List Exchange) (fresh : Each (IsFresh (fresh_value m.funcs) (fresh_op m.funcs)) xs) (t : OpId) (small : t.0 < fresh_op m.funcs) (none : exchange_of xs t.0 ≡ None)
    (was : IsVerified m) (is : IsVerified (passed_module xs m)) (s : Stands t m.funcs) where
  abbrev pub scope : Scope
  scope = scope_after s.func.params s.body.before

  abbrev n : ℕ
  n = fresh_value m.funcs

  abbrev k : ℕ
  k = fresh_op m.funcs

  pub func_was : FuncPasses s.func
  func_was = (each_right FuncPasses s.front (s.func ∷ s.back) (subst (Each FuncPasses) s.is (verified_passes m was))).0

  pub func_is : FuncPasses (passed_func xs s.func)
  func_is = (each_right (λ f. FuncPasses (passed_func xs f)) s.front (s.func ∷ s.back) (subst (Each (λ f. FuncPasses (passed_func xs f))) s.is (each_passed xs m.funcs (verified_passes (passed_module xs m) is)))).0

  pub func_small : above_func s.func ≤ n
  func_small = middle_above s.front s.back s.func n (let l : fresh_value m.funcs ≤ n = omega arith in subst (λ gs. fresh_value gs ≤ n) s.is l)

  pub body_was : BodyPasses s.func.params s.func.results (s.body.before ++ (s.body.target ∷ s.body.after))
  body_was = subst (BodyPasses s.func.params s.func.results) s.body.is func_was.body

  pub body_is : BodyPasses s.func.params s.func.results (passed_ops xs own (s.body.before ++ (s.body.target ∷ s.body.after)))
  body_is = subst (λ os. BodyPasses s.func.params s.func.results (passed_ops xs own os)) s.body.is func_is.body

  pub body_small : above_body (s.body.before ++ (s.body.target ∷ s.body.after)) ≤ n
  body_small = subst (λ os. above_body os ≤ n) s.body.is (let l = func_small in omega (arith, l))

  pub passed_split : map (passed_func xs) m.funcs ≡ map (passed_func xs) s.front ++ (passed_func xs s.func ∷ map (passed_func xs) s.back)
  passed_split = ap (map (passed_func xs)) s.is ∙ map-append (passed_func xs) s.front (s.func ∷ s.back)

  module _ (e : Exchanging) (natural : IsNatural e) where
    -- the rule that is broken is that of the operation before the pass
    pub broken_after : broken_of t (rules_of e) (passed_module xs m) ≡ e.breaks (type_among scope) s.body.target.kind
    broken_after =
        ap (broken_among t (rules_of e)) passed_split
        ∙ broken_split t (rules_of e) (map (passed_func xs) s.front) (map (passed_func xs) s.back) (passed_func xs s.func)
        (elsewhere n k xs fresh t small s.front s.absent_front) (elsewhere n k xs fresh t small s.back s.absent_back)
        ∙ (λ j. broken_in t (rules_of e) s.func.params (passed_ops xs own (s.body.is j)))
        ∙ broken_passed n k xs fresh t small none s.func.params s.func.results s.body.before s.body.target s.body.after body_was body_is
        (let l = func_small in omega (arith, l)) body_small s.body.here s.body.absent_before e natural

    formed_split : (op value : ℕ) → map (edited_func t (step_of e op value)) (map (passed_func xs) m.funcs)
        ≡ map (passed_func xs) s.front ++ (func_with s.func (edited_body t (step_of e op value) s.func.params (passed_ops xs own (s.body.before ++ (s.body.target ∷ s.body.after)))) ∷ map (passed_func xs) s.back)
    formed_split op value =
        ap (map (edited_func t (step_of e op value))) passed_split
        ∙ edited_split t (step_of e op value) (map (passed_func xs) s.front) (map (passed_func xs) s.back) (passed_func xs s.func)
        (elsewhere n k xs fresh t small s.front s.absent_front) (elsewhere n k xs fresh t small s.back s.absent_back)
        ∙ (λ j. map (passed_func xs) s.front ++ (func_with s.func (edited_body t (step_of e op value) s.func.params (passed_ops xs own (s.body.is j))) ∷ map (passed_func xs) s.back))

    -- an operation that stays leaves the module as it is
    pub stays_after : (op value : ℕ) → e.becomes (type_among scope) s.body.target.kind ≡ None → formed t (step_of e op value) (passed_module xs m) ≡ passed_module xs m
    stays_after op value h =
        ap (λ (fs : List FuncShape). record { funcs = fs })
        (formed_split op value
        ∙ (λ j. map (passed_func xs) s.front ++ (func_with s.func (stays_passed n k xs fresh t small none s.func.params s.func.results s.body.before s.body.target s.body.after body_was body_is
        (let l = func_small in omega (arith, l)) body_small s.body.here s.body.absent_before e natural op value h j) ∷ map (passed_func xs) s.back))
        ∙ (λ j. map (passed_func xs) s.front ++ (func_with s.func (passed_ops xs own (sym s.body.is j)) ∷ map (passed_func xs) s.back))
        ∙ sym passed_split)

-- one more exchange, at an operation of one result
module _ (m : Module) (xs : List Exchange) (fresh : Each (IsFresh (fresh_value m.funcs) (fresh_op m.funcs)) xs) (y : Exchange) (small : y.target.0 < fresh_op m.funcs) (none : exchange_of xs y.target.0 ≡ None)
    (was : IsVerified m) (is : IsVerified (passed_module xs m)) (s : Stands y.target m.funcs) (e : Exchanging) (natural : IsNatural e) where
  abbrev one_op : ValueId × Ty → Op
  one_op r = record { id = s.body.target.id; results = r ∷ []; kind = s.body.target.kind }

  abbrev st : Step
  st = step_of e y.op y.value

  body_after : (r : ValueId × Ty) → s.body.target.results ≡ r ∷ [] → e.becomes (type_among (scope_after s.func.params s.body.before)) s.body.target.kind ≡ Some y.kind →
      edited_body y.target st s.func.params (passed_ops xs own (s.body.before ++ (s.body.target ∷ s.body.after))) ≡ passed_ops (xs ++ y ∷ []) own (s.body.before ++ (s.body.target ∷ s.body.after))
  body_after r one h =
      let same : s.body.target ≡ one_op r = λ j. record { id = s.body.target.id; results = one j; kind = s.body.target.kind } in
      (λ j. edited_body y.target st s.func.params (passed_ops xs own (s.body.before ++ (same j ∷ s.body.after))))
      ∙ becomes_passed (fresh_value m.funcs) (fresh_op m.funcs) xs fresh y small none s.func.params s.func.results s.body.before s.body.target.id r s.body.target.kind s.body.after
      (subst (λ o. BodyPasses s.func.params s.func.results (s.body.before ++ (o ∷ s.body.after))) same (body_was m xs fresh y.target small none was is s))
      (subst (λ o. BodyPasses s.func.params s.func.results (passed_ops xs own (s.body.before ++ (o ∷ s.body.after)))) same (body_is m xs fresh y.target small none was is s))
      (let l = func_small m xs fresh y.target small none was is s in omega (arith, l))
      (subst (λ (o : Op). above_body (s.body.before ++ (o ∷ s.body.after)) ≤ fresh_value m.funcs) same (body_small m xs fresh y.target small none was is s))
      s.body.here s.body.absent_before s.body.absent_after e natural h
      ∙ (λ j. passed_ops (xs ++ y ∷ []) own (s.body.before ++ (sym same j ∷ s.body.after)))

  pub becomes_after : HasOne s.body.target.results → e.becomes (type_among (scope_after s.func.params s.body.before)) s.body.target.kind ≡ Some y.kind →
      formed y.target (step_of e y.op y.value) (passed_module xs m) ≡ passed_module (xs ++ y ∷ []) m
  becomes_after one h =
      ap (λ (fs : List FuncShape). record { funcs = fs })
      (formed_split m xs fresh y.target small none was is s e natural y.op y.value
      ∙ (λ j. map (passed_func xs) s.front ++ (func_with s.func (body_after one.0 one.1 h j) ∷ map (passed_func xs) s.back))
      ∙ (λ j. map (passed_func xs) s.front ++ (func_with s.func (passed_ops (xs ++ y ∷ []) own (sym s.body.is j)) ∷ map (passed_func xs) s.back))
      ∙ (λ j. sym (absent_funcs xs y s.front s.absent_front) j ++ (passed_func (xs ++ y ∷ []) s.func ∷ sym (absent_funcs xs y s.back s.absent_back) j))
      ∙ sym (map-append (passed_func (xs ++ y ∷ [])) s.front (s.func ∷ s.back))
      ∙ ap (map (passed_func (xs ++ y ∷ []))) (sym s.is))
