-- Where the operation of a number stands in functions whose operations have numbers of their own: at one place.
use Rattle.std.proofs.Common.{◌≡◌, ℕ, ◌==◌, Bool, true, false, List, [], ◌∷◌, ◌++◌, refl, ap, sym, ◌∙◌}
use Rattle.std.specs.Prelude.{◌||◌}
use Rattle.affine_maps.specs.Permutation.{is_among}
use Rattle.mlir_ir.specs.Shape.{FuncShape}
use Rattle.mlir_ir.specs.declared.tree.Op.{Op}
use Rattle.mlir_ir.specs.declared.tree.OpId.{OpId}
use Rattle.mlir_verify.specs.Names.{redefines, ids}
use Rattle.verified_runs.proofs.ReusedBodies.{or_false}
use Rattle.step_results.proofs.Numbers.{among_append, among_right, own_parts, known_absent}
use Rattle.step_results.proofs.Spots.{all_ids}

module _ (t : OpId) where
  pub record InBody (os : List Op) : Type 0 where
    pub before : List Op
    pub target : Op
    pub after : List Op
    pub is : os ≡ before ++ (target ∷ after)
    pub here : (target.id.0 == t.0) ≡ true
    pub absent_before : is_among t.0 (ids before) ≡ false
    pub absent_after : is_among t.0 (ids after) ≡ false

  pub record Stands (fs : List FuncShape) : Type 0 where
    pub front : List FuncShape
    pub func : FuncShape
    pub back : List FuncShape
    pub is : fs ≡ front ++ (func ∷ back)
    pub absent_front : is_among t.0 (all_ids front) ≡ false
    pub absent_back : is_among t.0 (all_ids back) ≡ false
    pub body : InBody func.body

  in_body : (os : List Op) (known : List ℕ) → redefines (ids os) known ≡ false → is_among t.0 (ids os) ≡ true → InBody os
  in_body [] known own h = absurd cc
  in_body (o ∷ os) known own h = by_test (o.id.0 == t.0) refl (in_body os (known ++ o.id.0 ∷ []) parts.1) where
    parts : (is_among o.id.0 known ≡ false) × (redefines (ids os) (known ++ o.id.0 ∷ []) ≡ false)
    parts = or_false (is_among o.id.0 known) _ own

    by_test : (b : Bool) → (o.id.0 == t.0) ≡ b → (is_among t.0 (ids os) ≡ true → InBody os) → InBody (o ∷ os)
    by_test true e rest = record {
      before = [];
      target = o;
      after = os;
      is = refl;
      here = e;
      absent_before = refl;
      absent_after = known_absent t.0 (ids os) (known ++ o.id.0 ∷ []) parts.1 (among_right t.0 known (o.id.0 ∷ []) (λ j. e j || false));
    }
    by_test false e rest =
        let b = rest (sym (λ j. e j || is_among t.0 (ids os)) ∙ h) in
        record {
          before = o ∷ b.before;
          target = b.target;
          after = b.after;
          is = ap (λ ps. o ∷ ps) b.is;
          here = b.here;
          absent_before = (λ j. e j || is_among t.0 (ids b.before)) ∙ b.absent_before;
          absent_after = b.absent_after;
        }

  pub stands : (fs : List FuncShape) (known : List ℕ) → redefines (all_ids fs) known ≡ false → is_among t.0 (all_ids fs) ≡ true → Stands fs
  stands [] known own h = absurd cc
  stands (f ∷ fs) known own h = by_test (is_among t.0 (ids f.body)) refl (stands fs (known ++ ids f.body) parts.1) where
    parts : (redefines (ids f.body) known ≡ false) × (redefines (all_ids fs) (known ++ ids f.body) ≡ false)
    parts = own_parts (ids f.body) (all_ids fs) known own

    by_test : (b : Bool) → is_among t.0 (ids f.body) ≡ b → (is_among t.0 (all_ids fs) ≡ true → Stands fs) → Stands (f ∷ fs)
    by_test true e rest = record {
      front = [];
      func = f;
      back = fs;
      is = refl;
      absent_front = refl;
      absent_back = known_absent t.0 (all_ids fs) (known ++ ids f.body) parts.1 (among_right t.0 known (ids f.body) e);
      body = in_body f.body known parts.0 e;
    }
    by_test false e rest =
        let s = rest (sym (λ j. e j || is_among t.0 (all_ids fs)) ∙ sym (among_append t.0 (ids f.body) (all_ids fs)) ∙ h) in
        record {
          front = f ∷ s.front;
          func = s.func;
          back = s.back;
          is = ap (λ gs. f ∷ gs) s.is;
          absent_front = among_append t.0 (ids f.body) (all_ids s.front) ∙ (λ j. e j || is_among t.0 (all_ids s.front)) ∙ s.absent_front;
          absent_back = s.absent_back;
          body = s.body;
        }
