-- A module is verified exactly where each function passes, no number repeats, and the limits are kept.
use Rattle.std.proofs.Common.{◌≡◌, ◌<◌, ◌&&◌, Bool, true, false, not, List, [], ◌∷◌, ◌++◌, length, append-nil, Some, None, refl, ap, sym, subst, ◌∙◌, arith, ltb-true, lt-ltb}
use Rattle.std.specs.Prelude.{◌||◌, if◌then◌else◌}
use Rattle.std.specs.List.{flat_map, list_all}
use Rattle.std.proofs.lemmas.Bool.{and_parts, and_from}
use Rattle.affine_maps.specs.Permutation.{is_among}
use Rattle.mlir_ir.specs.Count.{first, operands}
use Rattle.mlir_ir.specs.Shape.{FuncShape}
use Rattle.mlir_ir.specs.declared.tree.Module.{Module}
use Rattle.mlir_ir.specs.declared.tree.Op.{Op}
use Rattle.mlir_meaning.specs.Grids.{Each}
use Rattle.mlir_verify.specs.declared.rule.Rule.{Rule}
use Rattle.mlir_verify.specs.Place.{Place, place_at, places_of, places_from, scope_at, type_of, type_among, is_empty, is_first, is_last}
use Rattle.mlir_verify.specs.Names.{redefines, numbers, in_scope, defined_by, defined_in, defined_at, ids, ids_at, repeats_params, breaks_names}
use Rattle.mlir_verify.specs.Built.{is_built}
use Rattle.mlir_verify.specs.Constants.{constants_before, constants_at}
use Rattle.mlir_verify.specs.Types.{breaks_types}
use Rattle.mlir_verify.specs.Ends.{is_return, has_fixed_signature, breaks_end, breaks_signature}
use Rattle.mlir_verify.specs.Tensors.{is_fixed_tensor}
use Rattle.mlir_verify.specs.Limits.{has_small_signature, is_small_op, breaks_limits}
use Rattle.mlir_verify.specs.Rules.{fails, lowest, rules_in_order, broken, stands_at, first_broken, first_broken_of, has_body, IsVerified}
use Rattle.mlir_verify.proofs.Standing.{flat_map_last, scope_at-last, defined_at-last, ids_at-last, first_broken_of-append}
use Rattle.mlir_verify.proofs.Verified as verified
use Rattle.mlir_verify.proofs.Verified.{verified_places, all_pass}
use Rattle.verified_runs.specs.Passes.{OpPasses, BodyPasses, FuncPasses}
use Rattle.verified_runs.proofs.Verified.{verified_passes}
use Rattle.step_results.specs.Modules.{ModulePasses, is_small_func}
use Rattle.step_results.specs.Laws.{VerifiedByFunctions}
use Rattle.verified_runs.proofs.ReusedBodies.{or_false}
use Rattle.step_results.proofs.Numbers.{or_none, own_parts, own_both}
use Rattle.step_results.proofs.Scalars.{AreConstants, params_constant, later_constant, typed_kept}

not_false : (b : Bool) → not b ≡ false → b ≡ true
not_false true e = refl
not_false false e = absurd cc

-- FROM THE FUNCTIONS
lowest_none : (rs : List Rule) (p : Place) → Each (λ r. fails r p ≡ false) rs → lowest rs p ≡ None
lowest_none [] p h = refl
lowest_none (r ∷ rs) p h = (λ j. if h.0 j then Some r else lowest rs p) ∙ lowest_none rs p h.1

none_broken : (p : Place) → Each (λ r. fails r p ≡ false) rules_in_order → broken p ≡ None
unfolding broken
none_broken p h = lowest_none rules_in_order p h

-- what the limits ask of a place
limits_kept : (p : Place) → is_small_op p.op ≡ true → has_small_signature p.func ≡ true → breaks_limits p ≡ false
unfolding breaks_limits
limits_kept p o f = (λ j. not (o j) || (is_first p && not (f j))) ∙ only (is_first p)
  where
    only : (b : Bool) → (b && false) ≡ false
    only true = refl
    only false = refl

names_kept : (p : Place) → repeats_params p.before p.func ≡ false → is_among p.op.id.0 (ids_at p.before p.earlier) ≡ false → in_scope (type_of p) (operands p.op.kind) ≡ true →
    redefines (defined_by p.op) (defined_at p.before p.func p.earlier) ≡ false → breaks_names p ≡ false
unfolding breaks_names
names_kept p params id known own =
    or_none _ _ ((λ j. is_first p && params j) ∙ only (is_first p)) (or_none _ _ id (or_none _ _ (ap not known) own))
  where
    only : (b : Bool) → (b && false) ≡ false
    only true = refl
    only false = refl

end_kept : (p : Place) → is_return p.op.kind ≡ is_last p → breaks_end p ≡ false
unfolding breaks_end
end_kept p e = (λ j. if e j then not (is_last p) else is_last p) ∙ own (is_last p)
  where
    own : (b : Bool) → (if b then not b else b) ≡ false
    own true = refl
    own false = refl

signature_kept : (p : Place) → has_fixed_signature p.func ≡ true → breaks_signature p ≡ false
unfolding breaks_signature
signature_kept p e = (λ j. is_first p && not (e j)) ∙ only (is_first p)
  where
    only : (b : Bool) → (b && false) ≡ false
    only true = refl
    only false = refl

types_kept : (p : Place) → AreConstants (type_of p) (constants_at p.earlier) → OpPasses (scope_at p.func p.earlier) p.func.results p.op → breaks_types p ≡ false
unfolding breaks_types
types_kept p known h =
    ap not (and_from (is_built p.op) _ h.built (typed_kept (type_of p) h.constants (constants_before p) known p.func.results p.op.results p.op.kind h.typed))

module _ (before : List FuncShape) (f : FuncShape) (params : repeats_params before f ≡ false) (signature : has_fixed_signature f ≡ true) (small : has_small_signature f ≡ true) where
  place_passes : (earlier : List Op) (o : Op) (os : List Op) → AreConstants (type_among (scope_at f earlier)) (constants_at earlier) → OpPasses (scope_at f earlier) f.results o →
      is_return o.kind ≡ is_empty os → is_small_op o ≡ true → redefines (defined_by o) (defined_at before f earlier) ≡ false → is_among o.id.0 (ids_at before earlier) ≡ false →
      broken (place_at before f earlier o os) ≡ None
  place_passes earlier o os known h end limits own id =
      let p = place_at before f earlier o os in
      none_broken p (
        names_kept p params id h.known own,
        (
          types_kept p known h,
          (
            end_kept p end,
            (
              signature_kept p signature,
              (
                h.maps,
                (
                  h.iterators,
                  (
                    h.extents,
                    (h.windows, (refl, (refl, (refl, (refl, (refl, (limits_kept p limits small, tt))))))),
                  ),
                ),
              ),
            ),
          ),
        ),
      )

  body_unbroken : (later earlier : List Op) → BodyPasses (scope_at f earlier) f.results later → AreConstants (type_among (scope_at f earlier)) (constants_at earlier) →
      list_all is_small_op later ≡ true → redefines (flat_map defined_by later) (defined_at before f earlier) ≡ false → redefines (ids later) (ids_at before earlier) ≡ false →
      first_broken_of (places_of later earlier before f) ≡ None
  body_unbroken [] earlier h known limits values ops = refl
  body_unbroken (o ∷ os) earlier h known limits values ops =
      let both = and_parts (is_small_op o) _ limits in
      let defined = own_parts (defined_by o) (flat_map defined_by os) (defined_at before f earlier) values in
      let named = or_false (is_among o.id.0 (ids_at before earlier)) _ ops in
      let p = place_at before f earlier o os in
      (λ j. stands_at o.id (place_passes earlier o os known h.0 h.1 both.0 defined.0 named.0 j) (first_broken_of (places_of os (earlier ++ o ∷ []) before f)))
      ∙ body_unbroken os (earlier ++ o ∷ []) (subst (λ scope. BodyPasses scope f.results os) (sym (scope_at-last f earlier o)) h.2) (later_constant f f.results earlier o h.0 known) both.1
      (ap (redefines (flat_map defined_by os)) (defined_at-last before f earlier o) ∙ defined.1)
      (ap (redefines (ids os)) (ids_at-last before earlier o) ∙ named.1)

funcs_unbroken : (fs before : List FuncShape) → Each FuncPasses fs → list_all is_small_func fs ≡ true → redefines (defined_in fs) (defined_in before) ≡ false →
    redefines (flat_map (λ (f : FuncShape). ids f.body) fs) (flat_map (λ (f : FuncShape). ids f.body) before) ≡ false → first_broken_of (places_from fs before) ≡ None
funcs_unbroken [] before h small values ops = refl
funcs_unbroken (f ∷ fs) before h small values ops =
    let limits = and_parts (is_small_func f) _ small in
    let own = and_parts (has_small_signature f) (list_all is_small_op f.body) limits.0 in
    let signature = (h.0).signature in
    let known = defined_in before in
    let defined = own_parts (numbers f.params ++ flat_map defined_by f.body) (defined_in fs) known values in
    let inner = own_parts (numbers f.params) (flat_map defined_by f.body) known defined.0 in
    let named = own_parts (ids f.body) (flat_map (λ (g : FuncShape). ids g.body) fs) (flat_map (λ (g : FuncShape). ids g.body) before) ops in
    first_broken_of-append (places_of f.body [] before f) (places_from fs (before ++ f ∷ []))
    ∙ (λ j. first (body_unbroken before f inner.0 signature own.0 f.body [] (subst (λ scope. BodyPasses scope f.results f.body) (sym (append-nil f.params)) (h.0).body) start own.1
    (ap (redefines (flat_map defined_by f.body)) (append-nil (known ++ numbers f.params)) ∙ inner.1)
    (ap (redefines (ids f.body)) (append-nil (flat_map (λ (g : FuncShape). ids g.body) before)) ∙ named.0) j) (first_broken_of (places_from fs (before ++ f ∷ []))))
    ∙ funcs_unbroken fs (before ++ f ∷ []) h.1 limits.1
    (ap (redefines (defined_in fs)) (flat_map_last (λ (g : FuncShape). numbers g.params ++ flat_map defined_by g.body) before f) ∙ defined.1)
    (ap (redefines (flat_map (λ (g : FuncShape). ids g.body) fs)) (flat_map_last (λ (g : FuncShape). ids g.body) before f) ∙ named.1)
  where
    start : AreConstants (type_among (scope_at f [])) (constants_at [])
    start = subst (λ scope. AreConstants (type_among scope) []) (sym (append-nil f.params)) (params_constant f (and_parts (list_all (λ d. is_fixed_tensor d.1) f.params) _ (h.0).signature).0)

bodies_kept : (fs : List FuncShape) → Each FuncPasses fs → list_all has_body fs ≡ true
bodies_kept [] h = refl
bodies_kept (f ∷ fs) h = and_from _ _ (lt-ltb 0 (length f.body) (h.0).ends) (bodies_kept fs h.1)

pub module_verifies : (m : Module) → ModulePasses m → IsVerified m
unfolding first_broken
module_verifies m h = (funcs_unbroken m.funcs [] h.funcs h.small h.numbers.values h.numbers.ops, bodies_kept m.funcs h.funcs)

-- FROM THE RULES
abbrev Passing : Place → Type 0
Passing p = broken p ≡ None

own_here : (p : Place) → Passing p → (redefines (defined_by p.op) (defined_at p.before p.func p.earlier) ≡ false) × (is_among p.op.id.0 (ids_at p.before p.earlier) ≡ false)
unfolding breaks_names
own_here p e =
    let own = (or_false (is_first p && repeats_params p.before p.func) _ (all_pass p e).0).1 in
    let id = or_false (is_among p.op.id.0 (ids_at p.before p.earlier)) _ own in
    ((or_false (not (in_scope (type_of p) (operands p.op.kind))) _ id.1).1, id.0)

params_here : (p : Place) → Passing p → is_first p ≡ true → repeats_params p.before p.func ≡ false
unfolding breaks_names
params_here p e first_ =
    let h = (or_false (is_first p && repeats_params p.before p.func) _ (all_pass p e).0).0 in
    sym (λ j. first_ j && repeats_params p.before p.func) ∙ h

small_here : (p : Place) → Passing p → (is_small_op p.op ≡ true) × ((is_first p && not (has_small_signature p.func)) ≡ false)
unfolding breaks_limits
small_here p e =
    let h = or_false (not (is_small_op p.op)) _ (all_pass p e).1.1.1.1.1.1.1.1.1.1.1.1.1.0 in
    (not_false _ h.0, h.1)

module _ (before : List FuncShape) (f : FuncShape) where
  pub record OwnBody (later earlier : List Op) : Type 0 where
    pub values : redefines (flat_map defined_by later) (defined_at before f earlier) ≡ false
    pub ops : redefines (ids later) (ids_at before earlier) ≡ false
    pub small : list_all is_small_op later ≡ true

  own_body : (later earlier : List Op) → verified.Each Passing (places_of later earlier before f) → OwnBody later earlier
  own_body [] earlier h = record { values = refl; ops = refl; small = refl }
  own_body (o ∷ os) earlier h =
      let p = place_at before f earlier o os in
      let own = own_here p h.0 in
      let rest = own_body os (earlier ++ o ∷ []) h.1 in
      record {
        values = own_both (defined_by o) (flat_map defined_by os) (defined_at before f earlier) own.0 (sym (ap (redefines (flat_map defined_by os)) (defined_at-last before f earlier o)) ∙ rest.values);
        ops = or_none _ _ own.1 (sym (ap (redefines (ids os)) (ids_at-last before earlier o)) ∙ rest.ops);
        small = and_from _ _ (small_here p h.0).0 rest.small;
      }

  own_signature : (later : List Op) → 0 < length later → verified.Each Passing (places_of later [] before f) → (repeats_params before f ≡ false) × (has_small_signature f ≡ true)
  own_signature [] l h = absurd (omega arith)
  own_signature (o ∷ os) l h =
      let p = place_at before f [] o os in
      (params_here p h.0 refl, not_false _ (small_here p h.0).1)

each_front : {X : Type 0} (P : X → Type 0) (xs ys : List X) → verified.Each P (xs ++ ys) → verified.Each P xs × verified.Each P ys
each_front P [] ys h = (tt, h)
each_front P (x ∷ xs) ys h = let r = each_front P xs ys h.1 in ((h.0, r.0), r.1)

pub record OwnFuncs (fs before : List FuncShape) : Type 0 where
  pub values : redefines (defined_in fs) (defined_in before) ≡ false
  pub ops : redefines (flat_map (λ (f : FuncShape). ids f.body) fs) (flat_map (λ (f : FuncShape). ids f.body) before) ≡ false
  pub small : list_all is_small_func fs ≡ true

own_funcs : (fs before : List FuncShape) → verified.Each Passing (places_from fs before) → list_all has_body fs ≡ true → OwnFuncs fs before
own_funcs [] before h bodies = record { values = refl; ops = refl; small = refl }
own_funcs (f ∷ fs) before h bodies =
    let both = and_parts (has_body f) _ bodies in
    let parts = each_front Passing (places_of f.body [] before f) (places_from fs (before ++ f ∷ [])) h in
    let body = own_body before f f.body [] parts.0 in
    let signature = own_signature before f f.body (ltb-true 0 (length f.body) both.0) parts.0 in
    let rest = own_funcs fs (before ++ f ∷ []) parts.1 both.1 in
    let known = defined_in before in
    record {
      values = own_both (numbers f.params ++ flat_map defined_by f.body) (defined_in fs) known
          (own_both (numbers f.params) (flat_map defined_by f.body) known signature.0 (sym (ap (redefines (flat_map defined_by f.body)) (append-nil (known ++ numbers f.params))) ∙ body.values))
          (sym (ap (redefines (defined_in fs)) (flat_map_last (λ (g : FuncShape). numbers g.params ++ flat_map defined_by g.body) before f)) ∙ rest.values);
      ops = own_both (ids f.body) (flat_map (λ (g : FuncShape). ids g.body) fs) (flat_map (λ (g : FuncShape). ids g.body) before)
          (sym (ap (redefines (ids f.body)) (append-nil (flat_map (λ (g : FuncShape). ids g.body) before))) ∙ body.ops)
          (sym (ap (redefines (flat_map (λ (g : FuncShape). ids g.body) fs)) (flat_map_last (λ (g : FuncShape). ids g.body) before f)) ∙ rest.ops);
      small = and_from _ _ (and_from _ _ signature.1 body.small) rest.small;
    }

pub verified_module : (m : Module) → IsVerified m → ModulePasses m
verified_module m e =
    let own = own_funcs m.funcs [] (verified_places m e) e.1 in
    record { funcs = verified_passes m e; numbers = record { values = own.values; ops = own.ops }; small = own.small }

pub verified_by_functions : VerifiedByFunctions
verified_by_functions m = (verified_module m, module_verifies m)
