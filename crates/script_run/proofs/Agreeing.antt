-- What the code answers is what the definitions say.
use Rattle.std.proofs.Common.{◌≡◌, ℕ, zero, suc, ◌==◌, ◌+◌, ◌<◌, ◌≤◌, ◌&&◌, Bool, true, false, not, List, [], ◌∷◌, ◌++◌, map, length, get_or, drop, drop-cons, add-one, append_assoc, Option, Some, None, Result, Ok, Err, refl, ap, sym, subst, ◌∙◌, arith}
use Rattle.std.specs.Prelude.{⊤, ◌||◌, is_some, nat_lt, if◌then◌else◌}
use Rattle.std.specs.List.{list_all}
use Rattle.std.proofs.lemmas.Bool.{and_parts, or_parts}
use Rattle.std.proofs.lemmas.List.{drop_all, map-append}
use Rattle.std.proofs.lemmas.Option.{same_Some}
use Rattle.affine_maps.specs.Permutation.{is_among}
use Rattle.mlir_base.specs.declared.limit.Which.{Which}
use Rattle.mlir_base.specs.declared.limit.Which.TheVariants.{Operations, Extent}
use Rattle.mlir_ir.specs.Count.{find_in}
use Rattle.mlir_ir.specs.declared.tree.Module.{Module}
use Rattle.mlir_ir.specs.declared.tree.Op.{Op}
use Rattle.mlir_ir.specs.declared.tree.OpId.{OpId}
use Rattle.mlir_verify.specs.Rules.{IsVerified}
use Rattle.verified_runs.specs.Fresh.{fresh_value, fresh_op}
use Rattle.structured_steps.specs.Steps.{formed, broken_of, rules_of_generalize, rules_of_interchange}
use Rattle.structured_steps.specs.declared.rule.StepRule.{StepRule}
use Rattle.structured_steps.specs.declared.rule.StepRule.TheVariants.{HandleCount, WrongKind}
use Rattle.rewrite_base.specs.declared.error.StepError.{StepError}
use Rattle.rewrite_base.specs.declared.error.StepError.TheVariants.{Rule, Limit, Memory}
use Rattle.rewrite_base.specs.declared.made.Made.{Made}
use Rattle.rewrite_base.specs.Answers.{made_by_generalize, made_by_interchange}
use Rattle.rewrite_base.specs.Limits.{limit_of, has_large_numbers}
use Rattle.step_passes.specs.Answered.{Answered}
use Rattle.step_passes.specs.Exchanging.{formed_by, made_of}
use Rattle.step_passes.specs.Sequences as pass
use Rattle.step_passes.specs.Steps.{generalizing, interchanging}
use Rattle.step_passes.proofs.Natural.{generalizing_step, interchanging_step}
use Rattle.pair_laws.specs.FuseAll.{Stop, MayTrap, LargeNumber}
use Rattle.fuse_elementwise.specs.Fused.{fused_in, limit_by, AnswersFuse}
use Rattle.transform_handles.specs.Handles.{Row}
use Rattle.transform_handles.specs.Items.{matched}
use Rattle.transform_handles.specs.Targets.{is_one_of}
use Rattle.transform_handles.specs.declared.target.Target.{Target}
use Rattle.transform_handles.specs.declared.target.Target.TheVariants.{Root, Function, Operation}
use Rattle.script_read.specs.declared.script.HandleId.{HandleId}
use Rattle.script_read.specs.declared.script.Script.{Script}
use Rattle.script_read.specs.declared.script.Step.{Step}
use Rattle.script_run.specs.declared.error.ScriptError.{ScriptError}
use Rattle.script_run.specs.declared.transforms.Exchange.{Exchange}
use Rattle.script_run.specs.declared.transforms.Exchange.TheVariants.{Generalize, Interchange}
use Rattle.script_run.specs.declared.transforms.Transform.{Transform}
use Rattle.script_run.specs.declared.transforms.Transform.TheVariants as transform
use Rattle.script_run.specs.Outcomes.{and_then, breaks, demand, Refuses, Agrees}
use Rattle.script_run.specs.Sessions.{SessionShape, stands_in, are_different, are_targets, opened, IsSession}
use Rattle.script_run.specs.Steps.{TargetStep, decided, operations, at_target, within, fused_as, fuse_at, behind, at_each, targets_of, result_rows, with_rows, moved_on, matches, splits, transforms, after}
use Rattle.script_run.specs.Transforms.{step_of, target_step, exchanging_of, front, are_operations, function_stands, functions_stand}
use Rattle.script_run.specs.Scripts.{is_built, are_built, told, unbuilt_from, go_on, reached, module_of, run, StopsAt, Runs}
use Rattle.script_run.proofs.Fused.{Stays, is_fused, count_stays, still_stand, ranged, fuses_leave}
use Rattle.script_run.proofs.Kept.{IsKept, Keeps, rest_stand, generalize_keeps, interchange_keeps, same_ok}
use Rattle.script_run.proofs.Named.{some_of, not_true}
use Rattle.script_run.proofs.Stepping.{matched_rows, single_rows, with_session, moves_keep, exchange_stays}

-- REFUSALS
-- a refusal of the first part is one of the whole
pub refused_first : {A B : Type 0} (e : StepError) (r : Result A StepError) (f : A → Result B StepError) → Refuses e r → Refuses e (and_then r f)
refused_first Memory r f h = tt
refused_first (Rule rule at) r f h = λ j. and_then (h j) f
refused_first (Limit which) r f h = λ j. and_then (h j) f

pub refused_same : {A : Type 0} (e : StepError) (r q : Result A StepError) → r ≡ q → Refuses e r → Refuses e q
refused_same Memory r q s h = tt
refused_same (Rule rule at) r q s h = sym s ∙ h
refused_same (Limit which) r q s h = sym s ∙ h

-- ONE PASS
abbrev made : pass.Outcome → Result (Module × Made) StepError
made (Ok q) = Ok (q.0, record { ops = q.1 })
made (Err e) = Err e

abbrev as_targets : pass.Outcome → Result (Module × List Target) StepError
as_targets (Ok q) = Ok (q.0, map Operation q.1)
as_targets (Err e) = Err e

-- what follows the operations
abbrev ended : List Target → Result (Module × List Target) StepError → Result (Module × List Target) StepError
ended ts r = and_then r (λ q. if are_operations ts then Ok q else breaks WrongKind)

same_decided : (i : OpId) (b : Option StepRule) (l : Option Which) (m : Module) (ops : List OpId) → decided i b l m ops ≡ made (pass.decided i b l m ops)
same_decided i (Some rule) l m ops = refl
same_decided i None (Some which) m ops = refl
same_decided i None None m ops = refl

same_at : (what : Exchange) (i : OpId) (m : Module) → is_some (find_in i m.funcs) ≡ true → step_of what i m ≡ made (pass.exchanged_at (exchanging_of what) i m)
same_at Generalize i m s =
    (λ j. decided i (broken_of i rules_of_generalize m) (limit_of m (formed i (generalizing_step (fresh_op m.funcs) (fresh_value m.funcs) j) m)) (formed i (generalizing_step (fresh_op m.funcs) (fresh_value m.funcs) j) m) (made_by_generalize i m))
    ∙ same_decided i (broken_of i rules_of_generalize m) (limit_of m (formed_by generalizing i m)) (formed_by generalizing i m) (made_by_generalize i m)
same_at (Interchange order) i m s = by_op (some_of (find_in i m.funcs) s) where
  by_op : (o : Op) × (find_in i m.funcs ≡ Some o) → step_of (Interchange order) i m ≡ made (pass.exchanged_at (interchanging order.now) i m)
  by_op f =
      (λ j. decided i (broken_of i (rules_of_interchange order.now) m) (limit_of m (formed i (interchanging_step order.now (fresh_op m.funcs) (fresh_value m.funcs) j) m))
      (formed i (interchanging_step order.now (fresh_op m.funcs) (fresh_value m.funcs) j) m) (made_by_interchange m))
      ∙ same_decided i (broken_of i (rules_of_interchange order.now) m) (limit_of m (formed_by (interchanging order.now) i m)) (formed_by (interchanging order.now) i m) (made_by_interchange m)
      ∙ (λ j. made (pass.decided i (broken_of i (rules_of_interchange order.now) m) (limit_of m (formed_by (interchanging order.now) i m)) (formed_by (interchanging order.now) i m)
      (made_of (interchanging order.now) i m (sym f.1 j))))

nothing_kept : IsKept (λ m. ⊤)
nothing_kept = record { generalize = λ m i v q s r l. tt; interchange = λ m i order v q s r l. tt; fuse = λ m n k v q f l. tt }

exchange_keeps : (what : Exchange) → Keeps (λ m. ⊤) (step_of what)
exchange_keeps Generalize = generalize_keeps (λ m. ⊤) nothing_kept
exchange_keeps (Interchange order) = interchange_keeps (λ m. ⊤) nothing_kept order.now

-- the targets that follow stand in the module that was formed
abbrev Ready : Module → List Target → Type 0
Ready m ts = IsVerified m × (are_targets m ts ≡ true)

target_ready : (what : Exchange) (i : OpId) (ts : List Target) (m n : Module) (ops : List OpId) → Ready m (Operation i ∷ ts) → step_of what i m ≡ Ok (n, record { ops = ops }) → Ready n ts
target_ready what i ts m n ops h d =
    let parts = and_parts _ (are_different (Operation i ∷ ts)) h.1 in
    let a = exchange_keeps what m i n (record { ops = ops }) h.0 (and_parts (stands_in m (Operation i)) _ parts.0).0 d in
    (a.verified, rest_stand (λ m. ⊤) m n i ops ts a h.1)

-- what was given stands first
first_given : (ts : List Target) (ops : List OpId) (r : pass.Outcome) → behind (map Operation ops) (ended ts (as_targets r)) ≡ ended ts (as_targets (pass.behind ops r))
first_given ts ops (Err e) = refl
first_given ts ops (Ok q) = by_test (are_operations ts) where
  by_test : (b : Bool) → behind (map Operation ops) (if b then Ok (q.0, map Operation q.1) else breaks WrongKind) ≡ (if b then Ok (q.0, map Operation (ops ++ q.1)) else breaks WrongKind)
  by_test true = ap (λ (ts : List Target). Ok (q.0, ts)) (sym (map-append Operation ops q.1))
  by_test false = refl

pub in_one_pass : (what : Exchange) (ts : List Target) (m : Module) → Ready m ts →
    at_each (at_target (step_of what)) ts m ≡ ended ts (as_targets (pass.at_each (pass.exchanged_at (exchanging_of what)) (front ts) m))
in_one_pass what [] m h = refl
in_one_pass what (Root ∷ ts) m h = refl
in_one_pass what (Function k ∷ ts) m h = refl
in_one_pass what (Operation i ∷ ts) m h = by_first (in_one_pass what ts) (pass.exchanged_at (exchanging_of what) i m) refl where
  here : is_some (find_in i m.funcs) ≡ true
  here = (and_parts (stands_in m (Operation i)) (list_all (stands_in m) ts) (and_parts (list_all (stands_in m) (Operation i ∷ ts)) (are_different (Operation i ∷ ts)) h.1).0).0

  Again : Type 0
  Again = (n : Module) → Ready n ts → at_each (at_target (step_of what)) ts n ≡ ended ts (as_targets (pass.at_each (pass.exchanged_at (exchanging_of what)) (front ts) n))

  rest : pass.Outcome → Result (Module × List Target) StepError
  rest r = ended ts (as_targets (pass.then_at r (λ n. pass.behind (pass.given_by r) (pass.at_each (pass.exchanged_at (exchanging_of what)) (front ts) n))))

  by_answer : Again → (r : pass.Outcome) → step_of what i m ≡ made r → and_then (and_then (made r) (λ q. Ok (operations q))) (λ q. behind q.1 (at_each (at_target (step_of what)) ts q.0)) ≡ rest r
  by_answer again (Err e) d = refl
  by_answer again (Ok q) d = ap (behind (map Operation q.1)) (again q.0 (target_ready what i ts m q.0 q.1 h d)) ∙ first_given ts q.1 (pass.at_each (pass.exchanged_at (exchanging_of what)) (front ts) q.0)

  by_first : Again → (r : pass.Outcome) → pass.exchanged_at (exchanging_of what) i m ≡ r →
      at_each (at_target (step_of what)) (Operation i ∷ ts) m ≡ rest (pass.exchanged_at (exchanging_of what) i m)
  by_first again r d =
      (λ j. and_then (and_then ((same_at what i m here ∙ ap made d) j) (λ q. Ok (operations q))) (λ q. behind q.1 (at_each (at_target (step_of what)) ts q.0)))
      ∙ by_answer again r (same_at what i m here ∙ ap made d) ∙ ap rest (sym d)

-- all are operations where the front has as many
pub all_operations : (ts : List Target) → length (front ts) ≡ length ts → are_operations ts ≡ true
all_operations [] h = refl
all_operations (Root ∷ ts) h = absurd (omega (arith, h))
all_operations (Function k ∷ ts) h = absurd (omega (arith, h))
all_operations (Operation i ∷ ts) h = all_operations ts (omega (arith, h))

another_there : (ts : List Target) → are_operations ts ≡ true → length (front ts) ≡ length ts
another_there [] h = refl
another_there (Root ∷ ts) h = absurd (let z : true ≡ false = sym h in cc)
another_there (Function k ∷ ts) h = absurd (let z : true ≡ false = sym h in cc)
another_there (Operation i ∷ ts) h = ap suc (another_there ts h)

pub not_all_operations : (ts : List Target) → (length (front ts) ≡ length ts → ⊥) → are_operations ts ≡ false
not_all_operations ts h = by_test (are_operations ts) refl where
  by_test : (b : Bool) → are_operations ts ≡ b → are_operations ts ≡ false
  by_test false e = e
  by_test true e = absurd (h (another_there ts e))

-- operations among targets are operations of the module, of which none stands twice
front_stand : (m : Module) (ts : List Target) → list_all (stands_in m) ts ≡ true → list_all (λ (i : OpId). is_some (find_in i m.funcs)) (front ts) ≡ true
front_stand m [] h = refl
front_stand m (Root ∷ ts) h = refl
front_stand m (Function k ∷ ts) h = refl
front_stand m (Operation i ∷ ts) h = let parts = and_parts (is_some (find_in i m.funcs)) (list_all (stands_in m) ts) h in λ j. parts.0 j && front_stand m ts parts.1 j

front_lacks : (i : OpId) (ts : List Target) → is_one_of (Operation i) ts ≡ false → is_among i.0 (pass.numbers_of (front ts)) ≡ false
front_lacks i [] h = refl
front_lacks i (Root ∷ ts) h = refl
front_lacks i (Function k ∷ ts) h = refl
front_lacks i (Operation n ∷ ts) h = let parts = or_parts (n.0 == i.0) (is_one_of (Operation i) ts) h in λ j. parts.0 j || front_lacks i ts parts.1 j

front_different : (ts : List Target) → are_different ts ≡ true → pass.are_different (front ts) ≡ true
front_different [] h = refl
front_different (Root ∷ ts) h = refl
front_different (Function k ∷ ts) h = refl
front_different (Operation i ∷ ts) h =
    let parts = and_parts (not (is_one_of (Operation i) ts)) (are_different ts) h in
    λ j. not (front_lacks i ts (not_true (is_one_of (Operation i) ts) parts.0) j) && front_different ts parts.1 j

pub front_targets : (m : Module) (ts : List Target) → are_targets m ts ≡ true → pass.are_targets m (front ts) ≡ true
front_targets m ts h = let parts = and_parts (list_all (stands_in m) ts) (are_different ts) h in λ j. front_stand m ts parts.0 j && front_different ts parts.1 j

module _ (what : Exchange) (ts : List Target) (m : Module) (verified : IsVerified m) (stand : are_targets m ts ≡ true) where
  abbrev Passed : pass.Outcome
  Passed = pass.at_each (pass.exchanged_at (exchanging_of what)) (front ts) m

  pub pass_gives : (n : Module) (made : Made) (given : List Target) → Passed ≡ Ok (n, made.ops) → are_operations ts ≡ true → given ≡ map Operation made.ops →
      at_each (at_target (step_of what)) ts m ≡ Ok (n, given)
  pass_gives n made given h all e =
      in_one_pass what ts m (verified, stand) ∙ ap (λ (r : pass.Outcome). ended ts (as_targets r)) h ∙ (λ j. if all j then Ok (n, map Operation made.ops) else breaks WrongKind)
      ∙ (λ j. Ok (n, sym e j))

  pub pass_meets_another : (n : Module) (made : Made) → Passed ≡ Ok (n, made.ops) → are_operations ts ≡ false → at_each (at_target (step_of what)) ts m ≡ breaks WrongKind
  pass_meets_another n made h none =
      in_one_pass what ts m (verified, stand) ∙ ap (λ (r : pass.Outcome). ended ts (as_targets r)) h ∙ (λ j. if none j then Ok (n, map Operation made.ops) else breaks WrongKind)

  pub pass_refused : (e : StepError) → Answered (Err e) Passed → Refuses e (at_each (at_target (step_of what)) ts m)
  pass_refused Memory h = tt
  pass_refused (Rule rule at) h = in_one_pass what ts m (verified, stand) ∙ ap (λ (r : pass.Outcome). ended ts (as_targets r)) h
  pass_refused (Limit which) h = in_one_pass what ts m (verified, stand) ∙ ap (λ (r : pass.Outcome). ended ts (as_targets r)) h

-- FUSING
-- what the code answers for a function
fused_answer : (k : ℕ) (m n : Module) (made : Made) (r : Result Module Stop) → r ≡ Ok n → limit_by m r ≡ None → fused_as k m r ≡ Ok (n, Function k ∷ [])
fused_answer k m n made r d l = ap (fused_as k m) d ∙ (λ j. within ((sym (ap (limit_by m) d) ∙ l) j) n (Function k ∷ []))

pub function_fused : (k : ℕ) (m n : Module) (made : Made) → AnswersFuse k m (Ok (n, made)) → fuse_at (Function k) m ≡ Ok (n, Function k ∷ [])
function_fused k m n made h = fused_answer k m n made (fused_in k m) h.0 h.1

fused_limit : (k : ℕ) (m : Module) (which : Which) (r : Result Module Stop) → limit_by m r ≡ Some which → fused_as k m r ≡ Err (Limit which)
fused_limit k m which (Ok n) h = λ j. within (h j) n (Function k ∷ [])
fused_limit k m which (Err (MayTrap i)) h = absurd cc
fused_limit k m which (Err LargeNumber) h = by_test (has_large_numbers m.funcs) h where
  by_test : (b : Bool) → (if b then Some Operations else Some Extent) ≡ Some which → ◌≡◌ {A = Result (Module × List Target) StepError} (Err (Limit (if b then Operations else Extent))) (Err (Limit which))
  by_test true e = ap (λ (w : Which). Err (Limit w)) (same_Some Operations which e)
  by_test false e = ap (λ (w : Which). Err (Limit w)) (same_Some Extent which e)

pub function_refused : (k : ℕ) (m : Module) (e : StepError) → AnswersFuse k m (Err e) → Refuses e (fuse_at (Function k) m)
function_refused k m (Rule rule None) h = absurd h
function_refused k m (Rule rule (Some i)) h = ap (fused_as k m) h.1 ∙ (λ j. Err (Rule (sym h.0 j) (Some i)))
function_refused k m (Limit which) h = fused_limit k m which (fused_in k m) h
function_refused k m Memory h = tt

behind_twice : (xs ys : List Target) (r : Result (Module × List Target) StepError) → behind xs (behind ys r) ≡ behind (xs ++ ys) r
behind_twice xs ys (Ok q) = ap (λ (ts : List Target). Ok (q.0, ts)) (sym (append_assoc xs ys q.1))
behind_twice xs ys (Err e) = refl

ready_next : (t : Target) (ts : List Target) (m n : Module) → functions_stand m (t ∷ ts) ≡ true → fuse_at t m ≡ Ok (n, t ∷ []) → functions_stand n ts ≡ true
ready_next Root ts m n h e = absurd cc
ready_next (Operation i) ts m n h e = absurd cc
ready_next (Function k) ts m n h e =
    let parts = and_parts (nat_lt k (length m.funcs)) (list_all (function_stands m) ts) h in
    still_stand m n ts (count_stays k m n parts.0 (is_fused k m n (Function k ∷ []) e).formed) parts.1

opened_at : {A : Type 0} (xs : List A) (k : ℕ) (x : A) → k < length xs → x ≡ get_or xs k x → drop k xs ≡ x ∷ drop (k + 1) xs
opened_at xs k x h e = rw add-one (drop-cons xs k x h) ∙ ap (λ y. y ∷ drop (k + 1) xs) (sym e)

-- the element at a place doesn't depend on the default
pub same_default : {A : Type 0} (xs : List A) (k : ℕ) (d e : A) → k < length xs → get_or xs k d ≡ get_or xs k e
same_default [] k d e h = absurd (omega (arith, h))
same_default (x ∷ xs) zero d e h = refl
same_default (x ∷ xs) (suc k) d e h = same_default xs k d e (omega (arith, h))

-- the loop over targets: what is left, behind what was given, is the whole
pub record Through (targets : List Target) (first m : Module) (given : List Target) (k : ℕ) : Type 0 where
  pub whole : behind given (at_each fuse_at (drop k targets) m) ≡ at_each fuse_at targets first
  pub ready : functions_stand m (drop k targets) ≡ true

module _ (targets : List Target) (first : Module) where
  whole_is : (r : Result (Module × List Target) StepError) → behind [] r ≡ r
  whole_is (Ok q) = refl
  whole_is (Err e) = refl

  pub begins : are_targets first targets ≡ true → Through targets first first [] 0
  begins stand = record { whole = whole_is (at_each fuse_at targets first); ready = ranged first targets (and_parts (list_all (stands_in first) targets) (are_different targets) stand).0 }

  pub goes_on : (m n : Module) (given : List Target) (k : ℕ) (t : Target) → k < length targets → t ≡ get_or targets k t → Through targets first m given k →
      fuse_at t m ≡ Ok (n, t ∷ []) → Through targets first n (given ++ t ∷ []) (k + 1)
  goes_on m n given k t l e h a =
      let here = opened_at targets k t l e in
      let rest = drop (k + 1) targets in
      record {
        whole =
            sym (behind_twice given (t ∷ []) (at_each fuse_at rest n))
            ∙ sym (λ j. behind given (and_then (a j) (λ r. behind r.1 (at_each fuse_at rest r.0))))
            ∙ sym (ap (λ (ts : List Target). behind given (at_each fuse_at ts m)) here) ∙ h.whole;
        ready = ready_next t rest m n (sym (ap (functions_stand m) here) ∙ h.ready) a;
      }

  pub stops : (m : Module) (given : List Target) (k : ℕ) (t : Target) (x : StepError) → k < length targets → t ≡ get_or targets k t → Through targets first m given k →
      Refuses x (fuse_at t m) → Refuses x (at_each fuse_at targets first)
  stops m given k t x l e h r =
      let here = opened_at targets k t l e in
      refused_same x (behind given (at_each fuse_at (t ∷ drop (k + 1) targets) m)) (at_each fuse_at targets first)
      (sym (ap (λ (ts : List Target). behind given (at_each fuse_at ts m)) here) ∙ h.whole)
      (refused_first x (at_each fuse_at (t ∷ drop (k + 1) targets) m) (λ q. Ok (q.0, given ++ q.1))
      (refused_first x (fuse_at t m) (λ q. behind q.1 (at_each fuse_at (drop (k + 1) targets) q.0)) r))

  -- the target at hand stands in the module
  pub target_stands : (m : Module) (given : List Target) (k : ℕ) (t : Target) → k < length targets → t ≡ get_or targets k t → Through targets first m given k → function_stands m t ≡ true
  target_stands m given k t l e h =
      (and_parts (function_stands m t) (functions_stand m (drop (k + 1) targets)) (sym (ap (functions_stand m) (opened_at targets k t l e)) ∙ h.ready)).0

-- IN A SESSION
pub matched_session : (names : List (List ℕ)) (ts found : List Target) (results : List HandleId) (x : SessionShape) (rows : List Row) → IsSession x → found ≡ matched names ts x.module.funcs →
    rows ≡ result_rows results (found ∷ []) → IsSession (with_rows x rows)
matched_session names ts found results x rows s f e =
    subst (λ (rs : List Row). IsSession (with_rows x rs)) (sym (e ∙ ap (λ (us : List Target). result_rows results (us ∷ [])) f))
    (with_session x (result_rows results (matched names ts x.module.funcs ∷ [])) s (matched_rows x.module names ts results s.0))

pub split_session : (ts : List Target) (results : List HandleId) (x : SessionShape) (rows : List Row) → IsSession x → are_targets x.module ts ≡ true →
    rows ≡ result_rows results (map (λ (t : Target). t ∷ []) ts) → IsSession (with_rows x rows)
split_session ts results x rows s a e =
    subst (λ (rs : List Row). IsSession (with_rows x rs)) (sym e) (with_session x (result_rows results (map (λ (t : Target). t ∷ []) ts)) s (single_rows x.module ts results a))

transform_stays : (what : Transform) → Stays (λ m. ⊤) (target_step what)
transform_stays (transform.Exchange x) = exchange_stays (λ m. ⊤) (step_of x) (exchange_keeps x)
transform_stays transform.FuseElementwise = fuses_leave (λ m. ⊤) nothing_kept

pub moved_session : (what : Transform) (ts given : List Target) (results : List HandleId) (x : SessionShape) (n : Module) (rows : List Row) → IsSession x → are_targets x.module ts ≡ true →
    at_each (target_step what) ts x.module ≡ Ok (n, given) → rows ≡ result_rows results (given ∷ []) → IsSession (moved_on ts n rows x)
moved_session what ts given results x n rows s a d e =
    subst (λ (rs : List Row). IsSession (moved_on ts n rs x)) (sym e)
    (moves_keep (λ m. ⊤) x ts given n results s (transform_stays what ts x.module n given s.0 a d)).0

pub matches_ok : (names : List (List ℕ)) (h : HandleId) (results : List HandleId) (x y : SessionShape) (ts found : List Target) (rows : List Row) → targets_of h x ≡ Ok ts →
    found ≡ matched names ts x.module.funcs → rows ≡ result_rows results (found ∷ []) → y ≡ with_rows x rows → matches names h results x ≡ Ok y
matches_ok names h results x y ts found rows d f e g =
    (λ j. and_then (d j) (λ us. Ok (with_rows x (result_rows results (matched names us x.module.funcs ∷ []))))) ∙ sym (λ j. Ok ((g ∙ ap (with_rows x) (e ∙ ap (λ (us : List Target). result_rows results (us ∷ [])) f)) j))

pub splits_ok : (h : HandleId) (results : List HandleId) (x y : SessionShape) (ts : List Target) (rows : List Row) → targets_of h x ≡ Ok ts → (length ts == length results) ≡ true →
    rows ≡ result_rows results (map (λ (t : Target). t ∷ []) ts) → y ≡ with_rows x rows → splits h results x ≡ Ok y
splits_ok h results x y ts rows d c e g =
    (λ j. and_then (d j) (λ us. and_then (demand (length us == length results) HandleCount) (λ _. Ok (with_rows x (result_rows results (map (λ (t : Target). t ∷ []) us))))))
    ∙ (λ j. and_then (demand (c j) HandleCount) (λ _. Ok (with_rows x (result_rows results (map (λ (t : Target). t ∷ []) ts))))) ∙ sym (λ j. Ok ((g ∙ ap (with_rows x) e) j))

pub splits_count : (h : HandleId) (results : List HandleId) (x : SessionShape) (ts : List Target) → targets_of h x ≡ Ok ts → (length ts == length results) ≡ false →
    splits h results x ≡ Err (Rule HandleCount None)
splits_count h results x ts d c =
    (λ j. and_then (d j) (λ us. and_then (demand (length us == length results) HandleCount) (λ _. Ok (with_rows x (result_rows results (map (λ (t : Target). t ∷ []) us))))))
    ∙ (λ j. and_then (demand (c j) HandleCount) (λ _. Ok (with_rows x (result_rows results (map (λ (t : Target). t ∷ []) ts)))))

pub transforms_ok : (step : TargetStep) (h : HandleId) (results : List HandleId) (x y : SessionShape) (ts given : List Target) (n : Module) (rows : List Row) → targets_of h x ≡ Ok ts →
    at_each step ts x.module ≡ Ok (n, given) → rows ≡ result_rows results (given ∷ []) → y ≡ moved_on ts n rows x → transforms step h results x ≡ Ok y
transforms_ok step h results x y ts given n rows d f e g =
    (λ j. and_then (d j) (λ us. and_then (at_each step us x.module) (λ r. Ok (moved_on us r.0 (result_rows results (r.1 ∷ [])) x))))
    ∙ (λ j. and_then (f j) (λ r. Ok (moved_on ts r.0 (result_rows results (r.1 ∷ [])) x))) ∙ sym (λ j. Ok ((g ∙ ap (λ (rs : List Row). moved_on ts n rs x) e) j))

pub transforms_stop : (step : TargetStep) (h : HandleId) (results : List HandleId) (x : SessionShape) (ts : List Target) (e : StepError) → targets_of h x ≡ Ok ts → Refuses e (at_each step ts x.module) →
    Refuses e (transforms step h results x)
transforms_stop step h results x ts e d r =
    refused_same e (and_then (at_each step ts x.module) (λ q. Ok (moved_on ts q.0 (result_rows results (q.1 ∷ [])) x))) (transforms step h results x)
    (sym (λ j. and_then (d j) (λ us. and_then (at_each step us x.module) (λ q. Ok (moved_on us q.0 (result_rows results (q.1 ∷ [])) x)))))
    (refused_first e (at_each step ts x.module) (λ q. Ok (moved_on ts q.0 (result_rows results (q.1 ∷ [])) x)) r)

-- RUNS
-- the loop over steps: what is left goes on from the session at hand, and is built
pub record Left (s : Script) (c : Module) (x : SessionShape) (k : ℕ) : Type 0 where
  pub whole : reached (drop k s.steps) (suc k) x ≡ reached s.steps 1 (opened c s.root)
  pub built : are_built (drop k s.steps) ≡ true

module _ (s : Script) (c : Module) where
  pub run_begins : (x : SessionShape) → x ≡ opened c s.root → are_built s.steps ≡ true → Left s c x 0
  run_begins x e built = record { whole = λ j. reached s.steps 1 (e j); built = built }

  pub step_built : (x : SessionShape) (k : ℕ) (t : Step) → k < length s.steps → t ≡ get_or s.steps k t → Left s c x k → is_built t.kind ≡ true
  step_built x k t l e h = (and_parts (is_built t.kind) (are_built (drop (k + 1) s.steps)) (sym (ap are_built (opened_at s.steps k t l e)) ∙ h.built)).0

  here_is : (x : SessionShape) (k : ℕ) (t : Step) → k < length s.steps → t ≡ get_or s.steps k t → Left s c x k →
      go_on (suc k) (after t x) (reached (drop (k + 1) s.steps) (suc (suc k))) ≡ reached s.steps 1 (opened c s.root)
  here_is x k t l e h = sym (ap (λ (ss : List Step). reached ss (suc k) x) (opened_at s.steps k t l e)) ∙ h.whole

  pub run_goes : (x y : SessionShape) (k : ℕ) (t : Step) → k < length s.steps → t ≡ get_or s.steps k t → Left s c x k → after t x ≡ Ok y → Left s c y (k + 1)
  run_goes x y k t l e h a =
      let next : suc (k + 1) ≡ suc (suc k) = omega arith in
      record {
        whole =
            (λ j. reached (drop (k + 1) s.steps) (next j) y) ∙ sym (λ j. go_on (suc k) (a j) (reached (drop (k + 1) s.steps) (suc (suc k)))) ∙ here_is x k t l e h;
        built = (and_parts (is_built t.kind) (are_built (drop (k + 1) s.steps)) (sym (ap are_built (opened_at s.steps k t l e)) ∙ h.built)).1;
      }

  stops_at : (k : ℕ) (r : Result SessionShape ScriptError) (why : StepError) (a : Result SessionShape StepError) (f : SessionShape → Result SessionShape ScriptError) → go_on (suc k) a f ≡ r →
      Refuses why a → StopsAt {A = Module} (record { step = told (suc k); why = why }) why (module_of r)
  stops_at k r Memory a f d h = tt
  stops_at k r (Rule rule at) a f d h = sym (λ j. module_of (d j)) ∙ (λ j. module_of (go_on (suc k) (h j) f))
  stops_at k r (Limit which) a f d h = sym (λ j. module_of (d j)) ∙ (λ j. module_of (go_on (suc k) (h j) f))

  pub run_stops : (x : SessionShape) (k n : ℕ) (t : Step) (why : StepError) → k < length s.steps → t ≡ get_or s.steps k t → Left s c x k → n ≡ told (suc k) → Refuses why (after t x) →
      Runs {A = Module} (Err (record { step = n; why = why })) (run s c)
  unfolding run
  run_stops x k n t why l e h f r =
      subst (λ (m : ℕ). StopsAt {A = Module} (record { step = m; why = why }) why (run s c)) (sym f)
      (stops_at k (reached s.steps 1 (opened c s.root)) why (after t x) (reached (drop (k + 1) s.steps) (suc (suc k))) (here_is x k t l e h) r)

  drop_past : {A : Type 0} (xs : List A) (k : ℕ) → length xs ≤ k → drop k xs ≡ []
  drop_past xs k l = drop_all k xs l

  pub run_ends : (x : SessionShape) (k : ℕ) → length s.steps ≤ k → Left s c x k → run s c ≡ Ok x.module
  unfolding run
  run_ends x k l h = sym (λ j. module_of (h.whole j)) ∙ (λ j. module_of (reached (drop_past s.steps k l j) (suc k) x))

-- the first step that isn't built
pub unbuilt_here : (ss : List Step) (k : ℕ) (t : Step) → k < length ss → t ≡ get_or ss k t → is_built t.kind ≡ false → unbuilt_from (drop k ss) (suc k) ≡ Some (told (suc k))
unbuilt_here ss k t l e b = ap (λ (us : List Step). unbuilt_from us (suc k)) (opened_at ss k t l e) ∙ (λ j. if b j then unbuilt_from (drop (k + 1) ss) (suc (suc k)) else Some (told (suc k)))

pub unbuilt_later : (ss : List Step) (k : ℕ) (t : Step) → k < length ss → t ≡ get_or ss k t → is_built t.kind ≡ true → unbuilt_from (drop k ss) (suc k) ≡ unbuilt_from (drop (k + 1) ss) (suc (k + 1))
unbuilt_later ss k t l e b =
    let next : suc (suc k) ≡ suc (k + 1) = omega arith in
    ap (λ (us : List Step). unbuilt_from us (suc k)) (opened_at ss k t l e) ∙ (λ j. if b j then unbuilt_from (drop (k + 1) ss) (suc (suc k)) else Some (told (suc k)))
    ∙ (λ j. unbuilt_from (drop (k + 1) ss) (next j))
