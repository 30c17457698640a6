-- A step that owes what it should forms modules that verify.
use Rattle.std.proofs.Common.{◌≡◌, ℕ, ◌<◌, ◌≤◌, ◌==◌, ◌&&◌, Bool, true, false, List, [], ◌∷◌, ◌++◌, map, append_assoc, Some, None, ◌⊎◌, inl, inr, refl, ap, sym, subst, ◌∙◌, arith, le-leb, leb-true}
use Rattle.std.specs.Prelude.{nat_le, if◌then◌else◌}
use Rattle.std.specs.List.{flat_map, list_all}
use Rattle.std.proofs.lemmas.Bool.{and_parts, and_from}
use Rattle.std.proofs.lemmas.List.Concat.{flat_map-append}
use Rattle.std.proofs.lemmas.List.Folds.{list_all-append}
use Rattle.mlir_ir.specs.Shape.{FuncShape}
use Rattle.mlir_ir.specs.declared.tree.Op.{Op}
use Rattle.mlir_ir.specs.declared.tree.OpId.{OpId}
use Rattle.mlir_meaning.specs.Grids.{Each}
use Rattle.mlir_meaning.specs.Renaming.{reused_ops}
use Rattle.mlir_meaning.specs.States.{names_of}
use Rattle.mlir_meaning.proofs.Through.{each_right}
use Rattle.mlir_verify.specs.Limits.{has_small_signature, is_small_op}
use Rattle.mlir_verify.specs.Names.{redefines, numbers, defined_by, defined_in, ids}
use Rattle.verified_runs.specs.Edits.{Edit, Step, moved, placed, edited_body, edited_func}
use Rattle.verified_runs.specs.Fresh.{above_values, above_op, above_body, above_func, fresh_value, fresh_op}
use Rattle.verified_runs.specs.Passes.{Scope, OpPasses, BodyPasses, FuncPasses, scope_after}
use Rattle.mlir_verify.specs.Ends.{is_return}
use Rattle.verified_runs.specs.Laws.{PassesThere}
use Rattle.verified_runs.proofs.Formed.{formed_passes}
use Rattle.verified_runs.proofs.Runs.{rest_passes}
use Rattle.verified_runs.proofs.Steps.{above_part}
use Rattle.structured_steps.specs.Steps.{formed}
use Rattle.step_results.specs.Modules.{is_small_func, HasOwnNumbers}
use Rattle.step_results.specs.Edits.{AreFresh, FitsThere, Fits}
use Rattle.step_results.specs.Laws.{EditsVerify}
use Rattle.step_results.proofs.Numbers.{replaced}
use Rattle.step_results.proofs.Modules.{verified_module, module_verifies}
use Rattle.step_results.proofs.Small.{scope_above, after_above, values_below, ids_below, middle_above, body_above, defined_same, ids_same, small_same}
use Rattle.step_results.proofs.Spots.{func_with, all_ids, Spot, spot}

-- FUNCTIONS THAT PASS
-- the step where the definitions in scope are below n and the operation keeps the limits; elsewhere it stays out
abbrev asks : Bool → Step → Step
asks b step scope o = if b then step scope o else None

abbrev is_asked : ℕ → Scope → Op → Bool
is_asked n scope o = nat_le (above_values (names_of scope)) n && is_small_op o

abbrev asked : ℕ → Step → Step
asked n step scope o = asks (is_asked n scope o) step scope o

module _ (i : OpId) (step : Step) (n : ℕ) where
  -- where this holds throughout, it forms the same
  same_body : (os : List Op) (scope : Scope) → above_values (names_of scope) ≤ n → above_body os ≤ n → list_all is_small_op os ≡ true →
      edited_body i (asked n step) scope os ≡ edited_body i step scope os
  unfolding edited_body
  same_body [] scope h l small = refl
  same_body (o ∷ os) scope h l small =
      let both = and_parts (is_small_op o) _ small in
      let holds : is_asked n scope o ≡ true = and_from _ _ (le-leb (above_values (names_of scope)) n h) both.0 in
      λ j. if o.id.0 == i.0 then placed (if holds j then step scope o else None) o os else o ∷ same_body os (scope ++ o.results) (scope_above scope o.results n h (omega arith)) (omega arith) both.1 j

  module _ (k : ℕ) (fits : Fits n k step) where
    func_formed : (f : FuncShape) → FuncPasses f → above_func f ≤ n → is_small_func f ≡ true → FuncPasses (edited_func i step f)
    func_formed f h l small =
        let limits = and_parts (has_small_signature f) (list_all is_small_op f.body) small in
        subst FuncPasses (ap (func_with f) (same_body f.body f.params (omega arith) (omega arith) limits.1))
        (formed_passes f i (asked n step) n h l (λ scope o e passes below q. at_target scope o e passes below (is_asked n scope o) refl q))
      where
        at_target : (scope : Scope) (o : Op) (e : Edit) → OpPasses scope f.results o → above_op o ≤ n → (b : Bool) → is_asked n scope o ≡ b → asks b step scope o ≡ Some e → (is_return o.kind ≡ false) × PassesThere n scope f.results o e
        at_target scope o e passes below true p q =
            let both = and_parts (nat_le (above_values (names_of scope)) n) (is_small_op o) p in
            let there = fits scope f.results o e (record { passes = passes; small = both.1; scope_below = leb-true (above_values (names_of scope)) n both.0; own_below = below }) q in
            (there.goes_on, there.passes)
        at_target scope o e passes below false p q = absurd cc

    funcs_formed : (fs : List FuncShape) → Each FuncPasses fs → fresh_value fs ≤ n → list_all is_small_func fs ≡ true → Each FuncPasses (map (edited_func i step) fs)
    funcs_formed [] h l small = tt
    funcs_formed (f ∷ fs) h l small =
        let both = and_parts (is_small_func f) _ small in
        (func_formed f h.0 (omega arith) both.0, funcs_formed fs h.1 (omega arith) both.1)

-- A LIST OF NUMBERS BY OPERATIONS
module _ (own : FuncShape → List ℕ) (of : Op → List ℕ) (kept : (f : FuncShape) (body : List Op) → own (func_with f body) ≡ own f) where
  abbrev all : List FuncShape → List ℕ
  all = flat_map (λ f. own f ++ flat_map of f.body)

  -- what stands before some operations and after them
  split : (front back : List FuncShape) (f : FuncShape) (before mid after : List Op) → f.body ≡ before ++ (mid ++ after) →
      all (front ++ (f ∷ back)) ≡ (all front ++ (own f ++ flat_map of before)) ++ (flat_map of mid ++ (flat_map of after ++ all back))
  split front back f before mid after e =
      flat_map-append (λ (g : FuncShape). own g ++ flat_map of g.body) front (f ∷ back)
      ∙ ap (λ xs. all front ++ ((own f ++ xs) ++ all back)) (ap (flat_map of) e ∙ flat_map-append of before (mid ++ after) ∙ ap (λ xs. flat_map of before ++ xs) (flat_map-append of mid after))
      ∙ shuffled (all front) (own f) (flat_map of before) (flat_map of mid) (flat_map of after) (all back)
    where
      shuffled : (a b c d e g : List ℕ) → a ++ ((b ++ (c ++ (d ++ e))) ++ g) ≡ (a ++ (b ++ c)) ++ (d ++ (e ++ g))
      shuffled a b c d e g =
          ap (λ xs. a ++ (xs ++ g)) (sym (append_assoc b c (d ++ e))) ∙ ap (λ xs. a ++ xs) (append_assoc (b ++ c) (d ++ e) g ∙ ap (λ xs. (b ++ c) ++ xs) (append_assoc d e g))
          ∙ sym (append_assoc a (b ++ c) (d ++ (e ++ g)))

  numbers_kept : (n : ℕ) (front back : List FuncShape) (f : FuncShape) (before after rest news : List Op) (o : Op) → f.body ≡ before ++ (o ∷ after) → flat_map of rest ≡ flat_map of after →
      redefines (all (front ++ (f ∷ back))) [] ≡ false → Each (λ v. v < n) (all (front ++ (f ∷ back))) → AreFresh n (flat_map of news) →
      redefines (all (front ++ (func_with f (before ++ (news ++ rest)) ∷ back))) [] ≡ false
  numbers_kept n front back f before after rest news o e same once small fresh =
      let was = split front back f before (o ∷ []) after e in
      let g = func_with f (before ++ (news ++ rest)) in
      let is : all (front ++ (g ∷ back)) ≡ (all front ++ (own f ++ flat_map of before)) ++ (flat_map of news ++ (flat_map of after ++ all back)) =
      split front back g before news rest refl ∙ (λ j. (all front ++ (kept f (before ++ (news ++ rest)) j ++ flat_map of before)) ++ (flat_map of news ++ (same j ++ all back))) in
      ap (λ xs. redefines xs []) is
      ∙ replaced n (all front ++ (own f ++ flat_map of before)) (flat_map of (o ∷ [])) (flat_map of news) (flat_map of after ++ all back)
      (subst (λ xs. redefines xs [] ≡ false) was once) (subst (Each (λ v. v < n)) was small) fresh

abbrev of_id : Op → List ℕ
of_id o = o.id.0 ∷ []

ids_listed : (os : List Op) → flat_map of_id os ≡ ids os
ids_listed [] = refl
ids_listed (o ∷ os) = ap (λ xs. o.id.0 ∷ xs) (ids_listed os)

all_listed : (fs : List FuncShape) → flat_map (λ (f : FuncShape). [] ++ flat_map of_id f.body) fs ≡ all_ids fs
all_listed [] = refl
all_listed (f ∷ fs) = λ j. ids_listed f.body j ++ all_listed fs j

-- LIMITS
pub small_middle : (front back : List FuncShape) (f : FuncShape) → list_all is_small_func (front ++ (f ∷ back)) ≡ true → is_small_func f ≡ true
small_middle front back f h = (and_parts (is_small_func f) _ (and_parts (list_all is_small_func front) _ (sym (list_all-append is_small_func front (f ∷ back)) ∙ h)).1).0

small_replaced : (front back : List FuncShape) (f g : FuncShape) → list_all is_small_func (front ++ (f ∷ back)) ≡ true → is_small_func g ≡ true → list_all is_small_func (front ++ (g ∷ back)) ≡ true
small_replaced front back f g h k =
    let parts = and_parts (list_all is_small_func front) (is_small_func f && list_all is_small_func back) (sym (list_all-append is_small_func front (f ∷ back)) ∙ h) in
    list_all-append is_small_func front (g ∷ back) ∙ and_from _ _ parts.0 (and_from _ _ k (and_parts (is_small_func f) (list_all is_small_func back) parts.1).1)

body_small : (before news after rest : List Op) (o : Op) → list_all is_small_op (before ++ (o ∷ after)) ≡ true → list_all is_small_op news ≡ true → list_all is_small_op rest ≡ list_all is_small_op after →
    list_all is_small_op (before ++ (news ++ rest)) ≡ true
body_small before news after rest o h k same =
    let parts = and_parts (list_all is_small_op before) (is_small_op o && list_all is_small_op after) (sym (list_all-append is_small_op before (o ∷ after)) ∙ h) in
    list_all-append is_small_op before (news ++ rest)
    ∙ and_from _ _ parts.0 (list_all-append is_small_op news rest ∙ and_from _ _ k (same ∙ (and_parts (is_small_op o) (list_all is_small_op after) parts.1).1))

pub small_target : (before after : List Op) (o : Op) → list_all is_small_op (before ++ (o ∷ after)) ≡ true → is_small_op o ≡ true
small_target before after o h = (and_parts (is_small_op o) _ (and_parts (list_all is_small_op before) _ (sym (list_all-append is_small_op before (o ∷ after)) ∙ h)).1).0

-- THE MODULE
module _ (i : OpId) (step : Step) (fs : List FuncShape) (fits : Fits (fresh_value fs) (fresh_op fs) step) (funcs : Each FuncPasses fs) (once : HasOwnNumbers fs) (small : list_all is_small_func fs ≡ true) where
  abbrev n : ℕ
  n = fresh_value fs

  abbrev k : ℕ
  k = fresh_op fs

  module _ (s : Spot i step fs) where
    whole : Each FuncPasses (s.front ++ (s.func ∷ s.back))
    whole = subst (Each FuncPasses) s.is funcs

    func_passes : FuncPasses s.func
    func_passes = (each_right FuncPasses s.front (s.func ∷ s.back) whole).0

    func_small : is_small_func s.func ≡ true
    func_small = small_middle s.front s.back s.func (subst (λ gs. list_all is_small_func gs ≡ true) s.is small)

    ops_small : list_all is_small_op (s.before ++ (s.target ∷ s.after)) ≡ true
    ops_small = subst (λ os. list_all is_small_op os ≡ true) s.body (and_parts (has_small_signature s.func) (list_all is_small_op s.func.body) func_small).1

    func_above : above_func s.func ≤ n
    func_above = middle_above s.front s.back s.func n (let l : fresh_value fs ≤ n = omega arith in subst (λ gs. fresh_value gs ≤ n) s.is l)

    body_is_above : above_body (s.before ++ (s.target ∷ s.after)) ≤ n
    body_is_above = subst (λ os. above_body os ≤ n) s.body (let l = func_above in omega (arith, l))

    there : FitsThere n k (scope_after s.func.params s.before) s.func.results s.target s.edit
    there =
        let l = func_above in
        fits (scope_after s.func.params s.before) s.func.results s.target s.edit
        (record {
          passes = (rest_passes s.func.results s.before (s.target ∷ s.after) s.func.params (subst (BodyPasses s.func.params s.func.results) s.body func_passes.body)).0;
          small = small_target s.before s.after s.target ops_small;
          scope_below = after_above s.before s.func.params n (omega (arith, l)) (body_above s.before (s.target ∷ s.after) n body_is_above).0;
          own_below = (above_part s.before s.after s.target n body_is_above).0;
        })
        s.gives

    abbrev g : ℕ → ℕ
    g = moved (names_of s.target.results) s.edit.values

    abbrev rest : List Op
    rest = reused_ops g s.after

    abbrev news : List FuncShape
    news = s.front ++ (func_with s.func (s.before ++ (s.edit.ops ++ rest)) ∷ s.back)

    news_own : HasOwnNumbers news
    news_own = record {
      values = numbers_kept (λ f. numbers f.params) defined_by (λ f body. refl) n s.front s.back s.func s.before s.after rest s.edit.ops s.target s.body (defined_same g s.after)
          (subst (λ gs. redefines (defined_in gs) [] ≡ false) s.is once.values)
          (subst (λ gs. Each (λ v. v < n) (defined_in gs)) s.is (values_below fs n funcs (omega arith))) there.values;
      ops = sym (ap (λ xs. redefines xs []) (all_listed news))
          ∙ numbers_kept (λ f. []) of_id (λ f body. refl) k s.front s.back s.func s.before s.after rest s.edit.ops s.target s.body (ids_listed rest ∙ ids_same g s.after ∙ sym (ids_listed s.after))
          (subst (λ gs. redefines (flat_map (λ (f : FuncShape). [] ++ flat_map of_id f.body) gs) [] ≡ false) s.is (ap (λ xs. redefines xs []) (all_listed fs) ∙ once.ops))
          (subst (λ gs. Each (λ v. v < k) (flat_map (λ (f : FuncShape). [] ++ flat_map of_id f.body) gs)) s.is (subst (Each (λ v. v < k)) (sym (all_listed fs)) (ids_below fs k (omega arith))))
          (subst (AreFresh k) (sym (ids_listed s.edit.ops)) there.ops);
    }

    news_small : list_all is_small_func news ≡ true
    news_small =
        small_replaced s.front s.back s.func (func_with s.func (s.before ++ (s.edit.ops ++ rest))) (subst (λ gs. list_all is_small_func gs ≡ true) s.is small)
        (and_from _ _ (and_parts (has_small_signature s.func) (list_all is_small_op s.func.body) func_small).0 (body_small s.before s.edit.ops s.after rest s.target ops_small there.small (small_same g s.after)))

  formed_own : (map (edited_func i step) fs ≡ fs) ⊎ Spot i step fs → HasOwnNumbers (map (edited_func i step) fs) × (list_all is_small_func (map (edited_func i step) fs) ≡ true)
  formed_own (inl same) = subst (λ gs. HasOwnNumbers gs × (list_all is_small_func gs ≡ true)) (sym same) (once, small)
  formed_own (inr s) = subst (λ gs. HasOwnNumbers gs × (list_all is_small_func gs ≡ true)) (sym s.formed) (news_own s, news_small s)

pub edits_verify : EditsVerify
edits_verify m i step verified fits =
    let was = verified_module m verified in
    let own = formed_own i step m.funcs fits was.funcs was.numbers was.small (spot i step m.funcs [] was.numbers.ops) in
    module_verifies (formed i step m)
    (record { funcs = funcs_formed i step (fresh_value m.funcs) (fresh_op m.funcs) fits m.funcs was.funcs (omega arith) was.small; numbers = own.0; small = own.1 })
