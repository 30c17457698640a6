-- In a verified module no rule fails, operation by operation.
use Rattle.std.proofs.Common.{◌≡◌, ℕ, ◌<◌, ◌==◌, ◌&&◌, Bool, true, false, not, List, [], ◌∷◌, ◌++◌, length, append-nil, None, refl, ap, sym, subst, ◌∙◌, arith, ltb-true}
use Rattle.std.specs.Prelude.{◌||◌, if◌then◌else◌}
use Rattle.std.specs.List.{flat_map, list_all}
use Rattle.std.proofs.lemmas.Bool.{and_parts}
use Rattle.mlir_ir.specs.Shape.{FuncShape}
use Rattle.mlir_ir.specs.declared.tree.Op.{Op}
use Rattle.mlir_meaning.specs.Grids as grids
use Rattle.mlir_verify.specs.Place.{Place, place_at, places_of, places_from, scope_at, is_first, is_last}
use Rattle.mlir_ir.specs.declared.tree.Ty.{Ty}
use Rattle.mlir_ir.specs.declared.tree.ValueId.{ValueId}
use Rattle.mlir_meaning.proofs.Grids.{each_more}
use Rattle.affine_maps.specs.Permutation.{is_among}
use Rattle.mlir_verify.specs.Names.{redefines, numbers, arguments, defined_by, defined_in, defined_at, repeats_params, breaks_names}
use Rattle.mlir_verify.specs.Built.{is_built}
use Rattle.mlir_verify.specs.Constants.{constants_before}
use Rattle.mlir_verify.specs.Ends.{is_return, has_fixed_signature, breaks_end, breaks_signature}
use Rattle.mlir_verify.specs.Types.{breaks_types}
use Rattle.mlir_verify.specs.Rules.{broken, has_body}
use Rattle.mlir_verify.proofs.Standing.{scope_at-last}
use Rattle.mlir_verify.proofs.Verified.{Each, verified_places, all_pass, operands_are_in_scope}
use Rattle.verified_runs.specs.Passes.{OpPasses, BodyPasses, FuncPasses}
use Rattle.verified_runs.specs.Laws.{VerifiedPasses}

not_false : (b : Bool) → not b ≡ false → b ≡ true
not_false true e = refl
not_false false e = absurd cc

abbrev Passing : Place → Type 0
Passing p = broken p ≡ None

ends_there : (a b : Bool) → (if a then not b else b) ≡ false → a ≡ b
ends_there true b e = sym (not_false b e)
ends_there false b e = sym e

or_false : (a b : Bool) → (a || b) ≡ false → (a ≡ false) × (b ≡ false)
or_false true b e = absurd cc
or_false false b e = (refl, e)

among_append : (n : ℕ) (xs ys : List ℕ) → is_among n (xs ++ ys) ≡ (is_among n xs || is_among n ys)
among_append n [] ys = refl
among_append n (x ∷ xs) ys = ap (λ b. (x == n) || b) (among_append n xs ys) ∙ or-assoc (x == n) (is_among n xs) (is_among n ys)
  where
    or-assoc : (a b c : Bool) → (a || (b || c)) ≡ ((a || b) || c)
    or-assoc true b c = refl
    or-assoc false b c = refl

left_out : (n : ℕ) (xs ys : List ℕ) → is_among n (xs ++ ys) ≡ false → (is_among n xs ≡ false) × (is_among n ys ≡ false)
left_out n xs ys e = or_false _ _ (sym (among_append n xs ys) ∙ e)

each_new : (ds : List (ValueId × Ty)) (others known : List ℕ) → redefines (numbers ds ++ others) known ≡ false → grids.Each (λ d. is_among (d.0).0 known ≡ false) ds
each_new [] others known e = tt
each_new (d ∷ ds) others known e =
    let both = or_false (is_among (d.0).0 known) _ e in
    (both.0, each_more (λ (x : ValueId × Ty). is_among (x.0).0 (known ++ (d.0).0 ∷ []) ≡ false) (λ x. is_among (x.0).0 known ≡ false) (λ x h. (left_out (x.0).0 known _ h).0) ds (each_new ds others (known ++ (d.0).0 ∷ []) both.1))

numbers_append : (xs ys : List (ValueId × Ty)) → numbers (xs ++ ys) ≡ numbers xs ++ numbers ys
numbers_append [] ys = refl
numbers_append (x ∷ xs) ys = λ j. (x.0).0 ∷ numbers_append xs ys j

-- a number that nothing before defines isn't in scope
not_earlier : (n : ℕ) (os : List Op) → is_among n (flat_map defined_by os) ≡ false → is_among n (numbers (flat_map (λ (o : Op). o.results) os)) ≡ false
not_earlier n [] e = refl
not_earlier n (o ∷ os) e =
    let parts = left_out n (defined_by o) (flat_map defined_by os) e in
    let own = (left_out n (numbers o.results) (arguments o.kind) parts.0).0 in
    ap (is_among n) (numbers_append o.results (flat_map (λ (o : Op). o.results) os))
    ∙ among_append n (numbers o.results) _ ∙ (λ j. own j || not_earlier n os parts.1 j)

not_in_scope : (n : ℕ) (p : Place) → is_among n (defined_at p.before p.func p.earlier) ≡ false → is_among n (numbers (scope_at p.func p.earlier)) ≡ false
not_in_scope n p e =
    let parts = left_out n (defined_in p.before ++ numbers p.func.params) (flat_map defined_by p.earlier) e in
    let params = (left_out n (defined_in p.before) (numbers p.func.params) parts.0).1 in
    ap (is_among n) (numbers_append p.func.params (flat_map (λ (o : Op). o.results) p.earlier))
    ∙ among_append n (numbers p.func.params) _ ∙ (λ j. params j || not_earlier n p.earlier parts.1 j)

results_new : (p : Place) → Passing p → grids.Each (λ r. is_among (r.0).0 (numbers (scope_at p.func p.earlier)) ≡ false) p.op.results
unfolding breaks_names
results_new p e =
    let own = (or_false _ _ (or_false (is_first p && repeats_params p.before p.func) _ (all_pass p e).0).1).1 in
    let repeated = (or_false _ _ own).1 in
    each_more (λ (r : ValueId × Ty). is_among (r.0).0 (defined_at p.before p.func p.earlier) ≡ false) (λ r. is_among (r.0).0 (numbers (scope_at p.func p.earlier)) ≡ false)
    (λ r h. not_in_scope (r.0).0 p h) p.op.results (each_new p.op.results (arguments p.op.kind) _ repeated)

op_passes : (p : Place) → Passing p → OpPasses (scope_at p.func p.earlier) p.func.results p.op
unfolding breaks_types
op_passes p e =
    let rules = all_pass p e in
    let types = and_parts (is_built p.op) _ (not_false _ rules.1.0) in
    record {
      constants = constants_before p;
      news = results_new p e;
      known = operands_are_in_scope p e;
      built = types.0;
      typed = types.1;
      maps = rules.1.1.1.1.0;
      iterators = rules.1.1.1.1.1.0;
      extents = rules.1.1.1.1.1.1.0;
      windows = rules.1.1.1.1.1.1.1.0;
    }

end_passes : (p : Place) → Passing p → is_return p.op.kind ≡ is_last p
unfolding breaks_end
end_passes p e = ends_there _ _ (all_pass p e).1.1.0

signature_passes : (p : Place) → Passing p → is_first p ≡ true → has_fixed_signature p.func ≡ true
unfolding breaks_signature
signature_passes p e first = not_false _ ((λ j. sym first j && not (has_fixed_signature p.func)) ∙ (all_pass p e).1.1.1.0)

module _ (before : List FuncShape) (f : FuncShape) where
  body_passes : (later earlier : List Op) → Each Passing (places_of later earlier before f) → BodyPasses (scope_at f earlier) f.results later
  body_passes [] earlier h = tt
  body_passes (o ∷ os) earlier h =
      let p = place_at before f earlier o os in (
        op_passes p h.0,
        end_passes p h.0,
        subst (λ scope. BodyPasses scope f.results os) (scope_at-last f earlier o) (body_passes os (earlier ++ o ∷ []) h.1),
      )

  signed : (later : List Op) → 0 < length later → Each Passing (places_of later [] before f) → has_fixed_signature f ≡ true
  signed [] l h = absurd (omega arith)
  signed (o ∷ os) l h = signature_passes (place_at before f [] o os) h.0 refl

  func_passes : Each Passing (places_of f.body [] before f) → 0 < length f.body → FuncPasses f
  func_passes h ends = record {
    ends = ends;
    signature = signed f.body ends h;
    body = subst (λ scope. BodyPasses scope f.results f.body) (append-nil f.params) (body_passes f.body [] h);
  }

each_front : {X : Type 0} (P : X → Type 0) (xs ys : List X) → Each P (xs ++ ys) → Each P xs × Each P ys
each_front P [] ys h = (tt, h)
each_front P (x ∷ xs) ys h = let r = each_front P xs ys h.1 in ((h.0, r.0), r.1)

funcs_pass : (fs before : List FuncShape) → Each Passing (places_from fs before) → list_all has_body fs ≡ true → grids.Each FuncPasses fs
funcs_pass [] before h bodies = tt
funcs_pass (f ∷ fs) before h bodies =
    let both = and_parts (has_body f) _ bodies in
    let parts = each_front Passing (places_of f.body [] before f) (places_from fs (before ++ f ∷ [])) h in
    (func_passes before f parts.0 (ltb-true 0 (length f.body) both.0), funcs_pass fs (before ++ f ∷ []) parts.1 both.1)

pub verified_passes : VerifiedPasses
verified_passes m e = funcs_pass m.funcs [] (verified_places m e) e.1
