-- One turn of a step at operations: what it answers on the module after the exchanges before it.
use Rattle.std.proofs.Common.{◌≡◌, ℕ, suc, ◌<◌, ◌≤◌, ◌==◌, ◌||◌, Bool, true, false, List, [], ◌∷◌, ◌++◌, map, Option, Some, None, Err, refl, ap, sym, subst, ◌∙◌, arith}
use Rattle.std.specs.Prelude.{is_some, is_none, nat_lt, ◌^◌, option_map, if◌then◌else◌}
use Rattle.affine_maps.specs.Permutation.{is_among}
use Rattle.mlir_base.specs.declared.limit.Which.TheVariants.{Operations}
use Rattle.mlir_ir.specs.Count.{first, operands, find_inside, find_op, find_in}
use Rattle.mlir_ir.specs.Shape.{FuncShape}
use Rattle.mlir_ir.specs.declared.tree.Module.{Module}
use Rattle.mlir_ir.specs.declared.tree.Op.{Op}
use Rattle.mlir_ir.specs.declared.tree.OpId.{OpId}
use Rattle.mlir_ir.specs.declared.tree.OpKind.{OpKind, For', Forall'}
use Rattle.mlir_ir.specs.declared.tree.Ty.{Ty}
use Rattle.mlir_ir.specs.declared.tree.ValueId.{ValueId}
use Rattle.mlir_meaning.specs.Grids.{Each}
use Rattle.mlir_meaning.proofs.Grids.{each-append}
use Rattle.mlir_meaning.proofs.Identity.{renamed-id}
use Rattle.mlir_meaning.proofs.Through.{each_left, each_right}
use Rattle.mlir_verify.specs.Built.{is_built_kind}
use Rattle.mlir_verify.specs.Names.{ids}
use Rattle.mlir_verify.specs.Place.{type_among}
use Rattle.mlir_verify.specs.Rules.{IsVerified}
use Rattle.verified_runs.specs.Edits.{anew, placed, edited_body, edited_func}
use Rattle.verified_runs.specs.Fresh.{above_func, fresh_value, fresh_op}
use Rattle.verified_runs.specs.Passes.{Scope, OpPasses, BodyPasses, FuncPasses, scope_after}
use Rattle.verified_runs.proofs.Places.{built_kind}
use Rattle.verified_runs.proofs.ReusedBodies.{or_false, results_kept}
use Rattle.verified_runs.proofs.Results.{HasOne}
use Rattle.verified_runs.proofs.Runs.{rest_passes}
use Rattle.verified_runs.proofs.Verified.{verified_passes}
use Rattle.structured_steps.specs.declared.rule.StepRule.{StepRule}
use Rattle.structured_steps.specs.Steps.{broken_of, formed}
use Rattle.rewrite_base.specs.declared.error.StepError.TheVariants.{Rule}
use Rattle.rewrite_base.specs.Limits.{has_long_payload, passed, limit_of}
use Rattle.step_results.proofs.Numbers.{among_parts}
use Rattle.step_results.proofs.Spots.{func_with, all_ids}
use Rattle.step_passes.specs.declared.exchange.Exchange.{Exchange}
use Rattle.step_passes.specs.Exchanging.{Exchanging, rules_of, step_of, formed_by, made_of, made_by}
use Rattle.step_passes.specs.OnePass.{exchange_of, Names, reused, passed_ops, passed_func, passed_module}
use Rattle.step_passes.specs.Planned.{told_at, told_in, told_among, limit_before}
use Rattle.step_passes.specs.Sequences.{decided, exchanged_at}
use Rattle.step_passes.proofs.Walking.{IsFresh, names_after, passed_elsewhere, edited_past, edited_here}
use Rattle.step_passes.proofs.Placed.{kind_reused, own, there, retyped}
use Rattle.step_passes.proofs.Stands.{Stands}
use Rattle.step_passes.proofs.Modules as modules
use Rattle.step_passes.proofs.Counters.{AreFlat, flat, operands_reused, built_reused, payload_reused, exchanged_funcs, next_op, next_value, same_limits}
use Rattle.step_passes.proofs.Natural.{IsExchanging}

-- WHAT IS TOLD OF A TARGET
module _ (e : Exchanging) (t : OpId) where
  told_none : (os : List Op) (scope : Scope) → is_among t.0 (ids os) ≡ false → told_in e t scope os ≡ None
  told_none [] scope h = refl
  told_none (o ∷ os) scope h =
      let parts = or_false (o.id.0 == t.0) _ h in
      (λ j. if parts.0 j then Some (told_at e (type_among scope) o.kind) else told_in e t (scope ++ o.results) os) ∙ told_none os (scope ++ o.results) parts.1

  told_there : (front back : List Op) (o : Op) (scope : Scope) → is_among t.0 (ids front) ≡ false → (o.id.0 == t.0) ≡ true →
      told_in e t scope (front ++ (o ∷ back)) ≡ Some (told_at e (type_among (scope_after scope front)) o.kind)
  told_there [] back o scope h k = λ j. if k j then Some (told_at e (type_among scope) o.kind) else told_in e t (scope ++ o.results) back
  told_there (p ∷ front) back o scope h k =
      let parts = or_false (p.id.0 == t.0) _ h in
      (λ j. if parts.0 j then Some (told_at e (type_among scope) p.kind) else told_in e t (scope ++ p.results) (front ++ (o ∷ back)))
      ∙ told_there front back o (scope ++ p.results) parts.1 k

  told_nowhere : (fs : List FuncShape) → is_among t.0 (all_ids fs) ≡ false → told_among e t fs ≡ None
  told_nowhere [] h = refl
  told_nowhere (f ∷ fs) h =
      let parts = among_parts t.0 (ids f.body) (all_ids fs) h in
      modules.first_then t (told_in e t f.params f.body) (told_among e t fs) (told_none f.body f.params parts.0) ∙ told_nowhere fs parts.1

  told_split : (front back : List FuncShape) (f : FuncShape) → is_among t.0 (all_ids front) ≡ false → is_among t.0 (all_ids back) ≡ false →
      told_among e t (front ++ (f ∷ back)) ≡ told_in e t f.params f.body
  told_split [] back f h k = modules.first_of t (told_in e t f.params f.body) (told_among e t back) (told_nowhere back k)
  told_split (g ∷ front) back f h k =
      let parts = among_parts t.0 (ids g.body) (all_ids front) h in
      modules.first_then t (told_in e t g.params g.body) (told_among e t (front ++ (f ∷ back))) (told_none g.body g.params parts.0) ∙ told_split front back f parts.1 k

  pub told_of : (fs : List FuncShape) (s : Stands t fs) → told_among e t fs ≡ Some (told_at e (type_among (scope_after s.func.params s.body.before)) s.body.target.kind)
  told_of fs s =
      ap (told_among e t) s.is ∙ told_split s.front s.back s.func s.absent_front s.absent_back ∙ ap (told_in e t s.func.params) s.body.is
      ∙ told_there s.body.before s.body.after s.body.target s.func.params s.body.absent_before s.body.here

-- WHERE A NUMBER IS FOUND
nothing_inside : (i : OpId) (kind : OpKind) → is_built_kind kind ≡ true → find_inside i kind ≡ None
nothing_inside i (For' var lower upper step carried shape row) b = absurd cc
nothing_inside i (Forall' vars lower upper step shared shape row) b = absurd cc
nothing_inside i kind b = refl

module _ (t : OpId) where
  find_none : (os : List Op) → AreFlat os → is_among t.0 (ids os) ≡ false → find_op t os ≡ None
  find_none [] h a = refl
  find_none (o ∷ os) h a =
      let parts = or_false (o.id.0 == t.0) _ a in
      (λ j. if parts.0 j then Some o else first (nothing_inside t o.kind h.0 j) (find_op t os)) ∙ find_none os h.1 parts.1

  find_there : (front back : List Op) (o : Op) → AreFlat (front ++ (o ∷ back)) → is_among t.0 (ids front) ≡ false → (o.id.0 == t.0) ≡ true → find_op t (front ++ (o ∷ back)) ≡ Some o
  find_there [] back o h a k = λ j. if k j then Some o else first (find_inside t o.kind) (find_op t back)
  find_there (p ∷ front) back o h a k =
      let parts = or_false (p.id.0 == t.0) _ a in
      (λ j. if parts.0 j then Some p else first (nothing_inside t p.kind h.0 j) (find_op t (front ++ (o ∷ back)))) ∙ find_there front back o h.1 parts.1 k

  find_split : (front back : List FuncShape) (f : FuncShape) (o : Op) → Each FuncPasses front → is_among t.0 (all_ids front) ≡ false → find_op t f.body ≡ Some o →
      find_in t (front ++ (f ∷ back)) ≡ Some o
  find_split [] back f o h a k = λ j. first (k j) (find_in t back)
  find_split (g ∷ front) back f o h a k =
      let parts = among_parts t.0 (ids g.body) (all_ids front) a in
      modules.first_then t (find_op t g.body) (find_in t (front ++ (f ∷ back))) (find_none g.body (flat g.body g.params g.results (h.0).body) parts.0) ∙ find_split front back f o h.1 parts.1 k

  pub found_of : (fs : List FuncShape) (s : Stands t fs) → Each FuncPasses fs → find_in t fs ≡ Some s.body.target
  found_of fs s h =
      let whole = subst (Each FuncPasses) s.is h in
      let func = (each_right FuncPasses s.front (s.func ∷ s.back) whole).0 in
      ap (find_in t) s.is
      ∙ find_split s.front s.back s.func s.body.target (each_left FuncPasses s.front (s.func ∷ s.back) whole) s.absent_front
      (ap (find_op t) s.body.is
      ∙ find_there s.body.before s.body.after s.body.target (subst AreFlat s.body.is (flat s.func.body s.func.params s.func.results func.body)) s.body.absent_before s.body.here)

  among_found : (os : List Op) → AreFlat os → is_some (find_op t os) ≡ is_among t.0 (ids os)
  among_found [] h = refl
  among_found (o ∷ os) h = by_test (o.id.0 == t.0) (find_op t os) (among_found os h.1) (nothing_inside t o.kind h.0) where
    by_test : (b : Bool) (x : Option Op) → is_some x ≡ is_among t.0 (ids os) → find_inside t o.kind ≡ None → is_some (if b then Some o else first (find_inside t o.kind) x) ≡ (b || is_among t.0 (ids os))
    by_test true x q n = refl
    by_test false x q n = (λ j. is_some (first (n j) x)) ∙ q

  -- a number that is found stands among all
  pub stands_among : (fs : List FuncShape) → Each FuncPasses fs → is_some (find_in t fs) ≡ true → is_among t.0 (all_ids fs) ≡ true
  stands_among [] h q = absurd cc
  stands_among (f ∷ fs) h q = by_body (find_op t f.body) refl (stands_among fs h.1) where
    front_true : (ns ms : List ℕ) → is_among t.0 ns ≡ true → is_among t.0 (ns ++ ms) ≡ true
    front_true [] ms r = absurd cc
    front_true (a ∷ ns) ms r = by_test (a == t.0) (front_true ns ms) r where
      by_test : (b : Bool) → (is_among t.0 ns ≡ true → is_among t.0 (ns ++ ms) ≡ true) → (b || is_among t.0 ns) ≡ true → (b || is_among t.0 (ns ++ ms)) ≡ true
      by_test true rest r = refl
      by_test false rest r = rest r

    back_true : (ns ms : List ℕ) → is_among t.0 ms ≡ true → is_among t.0 (ns ++ ms) ≡ true
    back_true [] ms r = r
    back_true (a ∷ ns) ms r = (λ j. (a == t.0) || back_true ns ms r j) ∙ or_true (a == t.0) where
      or_true : (b : Bool) → (b || true) ≡ true
      or_true true = refl
      or_true false = refl

    by_body : (x : Option Op) → find_op t f.body ≡ x → (is_some (find_in t fs) ≡ true → is_among t.0 (all_ids fs) ≡ true) → is_among t.0 (all_ids (f ∷ fs)) ≡ true
    by_body (Some o) d rest = front_true (ids f.body) (all_ids fs) (sym (among_found f.body (flat f.body f.params f.results (h.0).body)) ∙ ap is_some d)
    by_body None d rest = back_true (ids f.body) (all_ids fs) (rest (sym (λ j. is_some (first (d j) (find_in t fs))) ∙ q))

-- THE STATE BETWEEN TURNS
-- after these exchanges the module verifies, the next fresh numbers are these, and its limits are those of the first module
pub record Reached (m : Module) (xs : List Exchange) (value op : ℕ) : Type 0 where
  pub fresh : Each (IsFresh (fresh_value m.funcs) (fresh_op m.funcs)) xs
  pub verified : IsVerified (passed_module xs m)
  pub value_is : fresh_value (passed_module xs m).funcs ≡ value
  pub op_is : fresh_op (passed_module xs m).funcs ≡ op
  pub limits : passed (passed_module xs m).funcs ≡ passed m.funcs
  pub value_from : fresh_value m.funcs ≤ value
  pub op_from : fresh_op m.funcs ≤ op

nothing_passed : (os : List Op) → passed_ops [] own os ≡ os
nothing_passed [] = refl
nothing_passed (o ∷ os) = λ j. record { id = o.id; results = results_kept own o.results j; kind = renamed-id o.kind j } ∷ nothing_passed os j

no_exchange : (fs : List FuncShape) → map (passed_func []) fs ≡ fs
no_exchange [] = refl
no_exchange (f ∷ fs) = λ j. func_with f (nothing_passed f.body j) ∷ no_exchange fs j

pub first_module : (m : Module) → passed_module [] m ≡ m
first_module m = λ j. record { funcs = no_exchange m.funcs j }

pub reached_first : (m : Module) → IsVerified m → Reached m [] (fresh_value m.funcs) (fresh_op m.funcs)
reached_first m v = record {
  fresh = tt;
  verified = subst IsVerified (sym (first_module m)) v;
  value_is = ap fresh_value (no_exchange m.funcs);
  op_is = ap fresh_op (no_exchange m.funcs);
  limits = ap passed (no_exchange m.funcs);
  value_from = omega arith;
  op_from = omega arith;
}

-- A TURN
module _ (e : Exchanging) (x : IsExchanging e) (m : Module) (was : IsVerified m) (xs : List Exchange) (value op : ℕ) (q : Reached m xs value op)
    (t : OpId) (small : t.0 < fresh_op m.funcs) (none : exchange_of xs t.0 ≡ None) (s : Stands t m.funcs) where
  abbrev now : Module
  now = passed_module xs m

  abbrev pub scope : Scope
  scope = scope_after s.func.params s.body.before

  abbrev n : ℕ
  n = fresh_value m.funcs

  abbrev k : ℕ
  k = fresh_op m.funcs

  abbrev g : Names
  g = names_after xs own s.body.before

  abbrev target : Op
  target = reused g s.body.target

  abbrev front_ops : List Op
  front_ops = passed_ops xs own s.body.before

  abbrev rest_ops : List Op
  rest_ops = passed_ops xs g s.body.after

  abbrev other : Scope
  other = scope_after s.func.params front_ops

  params_small : above_func s.func ≤ n
  params_small = modules.func_small m xs q.fresh t small none was q.verified s

  body_there : passed_ops xs own s.func.body ≡ front_ops ++ (target ∷ rest_ops)
  body_there =
      (λ j. passed_ops xs own (s.body.is j))
      ∙ there n k xs q.fresh t small none s.func.params s.func.results s.body.before s.body.target s.body.after
      (modules.body_was m xs q.fresh t small none was q.verified s) (modules.body_is m xs q.fresh t small none was q.verified s)
      (let l = params_small in omega (arith, l)) (modules.body_small m xs q.fresh t small none was q.verified s) s.body.here s.body.absent_before

  stands_now : Stands t now.funcs
  stands_now = record {
    front = map (passed_func xs) s.front;
    func = passed_func xs s.func;
    back = map (passed_func xs) s.back;
    is = modules.passed_split m xs q.fresh t small none was q.verified s;
    absent_front = modules.elsewhere n k xs q.fresh t small s.front s.absent_front;
    absent_back = modules.elsewhere n k xs q.fresh t small s.back s.absent_back;
    body = record {
      before = front_ops;
      target = target;
      after = rest_ops;
      is = body_there;
      here = s.body.here;
      absent_before = passed_elsewhere n k xs q.fresh t small s.body.before own s.body.absent_before;
      absent_after = passed_elsewhere n k xs q.fresh t small s.body.after g s.body.absent_after;
    };
  }

  found_now : find_in t now.funcs ≡ Some target
  unfolding stands_now
  found_now = found_of t now.funcs stands_now (verified_passes now q.verified)

  broken_now : broken_of t (rules_of e) now ≡ e.breaks (type_among scope) s.body.target.kind
  broken_now = modules.broken_after m xs q.fresh t small none was q.verified s e x.natural

  large_now : (formed : Module) → passed formed.funcs ≡ passed m.funcs → limit_of now formed ≡ limit_before value op (passed m.funcs)
  large_now formed h = λ j. if nat_lt (2 ^ 31) (q.value_is j) || nat_lt (2 ^ 31) (q.op_is j) then Some Operations else h j

  -- a rule is broken
  pub turn_breaks : (rule : StepRule) → e.breaks (type_among scope) s.body.target.kind ≡ Some rule → exchanged_at e t now ≡ Err (Rule rule (Some t))
  turn_breaks rule h = λ j. decided t ((broken_now ∙ h) j) (limit_of now (formed_by e t now)) (formed_by e t now) (made_by e t now)

  made_now : (b : Bool) → e.stays s.body.target.kind ≡ b → made_by e t now ≡ (if b then t else record { 0 = op }) ∷ []
  made_now b h =
      ap (made_of e t now) found_now
      ∙ (λ j. (if (x.natural.stays g s.body.target.kind ∙ h) j then t else record { 0 = q.op_is j }) ∷ [])

  -- the operation stays
  pub turn_stays : e.breaks (type_among scope) s.body.target.kind ≡ None → e.becomes (type_among scope) s.body.target.kind ≡ None →
      exchanged_at e t now ≡ decided t None (limit_before value op (passed m.funcs)) now (t ∷ [])
  turn_stays h b =
      let same : formed_by e t now ≡ now = modules.stays_after m xs q.fresh t small none was q.verified s e x.natural (fresh_op now.funcs) (fresh_value now.funcs) b in
      let stays : e.stays s.body.target.kind ≡ true = x.decides (type_among scope) s.body.target.kind h ∙ ap is_none b in
      (λ j. decided t ((broken_now ∙ h) j) (limit_of now (same j)) (same j) (made_now true stays j))
      ∙ (λ j. decided t None (large_now now q.limits j) now (t ∷ []))

  -- the operation is exchanged
  module _ (kind : OpKind) (h : e.breaks (type_among scope) s.body.target.kind ≡ None) (b : e.becomes (type_among scope) s.body.target.kind ≡ Some kind) where
    abbrev pub new : Exchange
    new = record { target = t; op = op; value = value; kind = kind }

    abbrev after : Module
    after = passed_module (xs ++ new ∷ []) m

    target_was : OpPasses scope s.func.results s.body.target
    target_was = (rest_passes s.func.results s.body.before (s.body.target ∷ s.body.after) s.func.params (modules.body_was m xs q.fresh t small none was q.verified s)).0

    one : HasOne s.body.target.results
    one = x.one (type_among scope) target_was.constants s.func.results s.body.target.results s.body.target.kind kind b target_was.typed

    pub formed_now : formed_by e t now ≡ after
    formed_now =
        (λ j. formed t (step_of e (q.op_is j) (q.value_is j)) now)
        ∙ modules.becomes_after m xs q.fresh new small none was q.verified s e x.natural one b

    -- its numbers and limits, from the edit
    rest_passing : BodyPasses other s.func.results (target ∷ rest_ops)
    rest_passing =
        rest_passes s.func.results front_ops (target ∷ rest_ops) s.func.params
        (subst (BodyPasses s.func.params s.func.results) body_there (modules.func_is m xs q.fresh t small none was q.verified s).body)

    becomes_now : e.becomes (type_among other) target.kind ≡ Some (kind_reused g kind)
    becomes_now =
        x.natural.becomes g (type_among scope) (type_among other) s.body.target.kind
        (retyped n k xs q.fresh t small none s.func.params s.func.results s.body.before s.body.target s.body.after
        (modules.body_was m xs q.fresh t small none was q.verified s) (modules.body_is m xs q.fresh t small none was q.verified s)
        (let l = params_small in omega (arith, l)) (modules.body_small m xs q.fresh t small none was q.verified s) s.body.here s.body.absent_before)
        ∙ ap (option_map (kind_reused g)) b

    abbrev r : ValueId × Ty
    r = one.0

    abbrev one_op : Op
    one_op = record { id = s.body.target.id; results = r ∷ []; kind = target.kind }

    target_is : target ≡ one_op
    target_is = λ j. record { id = s.body.target.id; results = (results_kept g s.body.target.results ∙ one.1) j; kind = target.kind }

    target_built : is_built_kind s.body.target.kind ≡ true
    target_built = built_kind scope s.func.results s.body.target target_was

    kind_reads : operands (kind_reused g kind) ≡ operands target.kind
    kind_reads =
        operands_reused g kind (x.built (type_among scope) s.body.target.kind kind b)
        ∙ (λ j. values_of (x.reads (type_among scope) s.body.target.kind kind b j))
        ∙ sym (operands_reused g s.body.target.kind target_built)
      where
        values_of : List ValueId → List ValueId
        values_of vs = map (λ (v : ValueId). record { 0 = g v.0 }) vs

    kind_payload : has_long_payload (kind_reused g kind) ≡ has_long_payload target.kind
    kind_payload =
        payload_reused g kind (x.built (type_among scope) s.body.target.kind kind b)
        ∙ x.payloads (type_among scope) s.body.target.kind kind b
        ∙ sym (payload_reused g s.body.target.kind target_built)

    body_now : (passed_func xs s.func).body ≡ front_ops ++ (one_op ∷ rest_ops)
    body_now = body_there ∙ (λ j. front_ops ++ (target_is j ∷ rest_ops))

    body_edited : edited_body t (step_of e op value) s.func.params (front_ops ++ (one_op ∷ rest_ops))
        ≡ front_ops ++ placed (Some (anew op value (kind_reused g kind) one_op)) one_op rest_ops
    unfolding stands_now
    body_edited =
        edited_past t (step_of e op value) front_ops (one_op ∷ rest_ops) s.func.params stands_now.body.absent_before
        ∙ ap (λ ps. front_ops ++ ps)
        (edited_here t (step_of e op value) one_op rest_ops other s.body.here
        ∙ ap (λ k. placed (option_map (λ kind. anew op value kind one_op) k) one_op rest_ops) becomes_now)

    flat_after : AreFlat rest_ops
    flat_after = flat rest_ops (other ++ target.results) s.func.results rest_passing.2

    built_now : is_built_kind target.kind ≡ true
    built_now = built_reused g s.body.target.kind ∙ target_built

    built_new : is_built_kind (kind_reused g kind) ≡ true
    built_new = built_reused g kind ∙ x.built (type_among scope) s.body.target.kind kind b

    split_now : now.funcs ≡ map (passed_func xs) s.front ++ (passed_func xs s.func ∷ map (passed_func xs) s.back)
    split_now = modules.passed_split m xs q.fresh t small none was q.verified s

    op_now : fresh_op (map (passed_func xs) s.front ++ (passed_func xs s.func ∷ map (passed_func xs) s.back)) ≡ op
    op_now = ap fresh_op (sym split_now) ∙ q.op_is

    value_now : fresh_value (map (passed_func xs) s.front ++ (passed_func xs s.func ∷ map (passed_func xs) s.back)) ≡ value
    value_now = ap fresh_value (sym split_now) ∙ q.value_is

    abbrev edited_funcs : List FuncShape
    edited_funcs =
        exchanged_funcs (map (passed_func xs) s.front) (map (passed_func xs) s.back) (passed_func xs s.func) front_ops rest_ops one_op r op value (kind_reused g kind)
        body_now flat_after built_now built_new op_now value_now kind_reads kind_payload

    funcs_edited : map (edited_func t (step_of e op value)) now.funcs ≡ edited_funcs
    unfolding stands_now
    funcs_edited =
        ap (map (edited_func t (step_of e op value))) split_now
        ∙ modules.edited_split t (step_of e op value) (map (passed_func xs) s.front) (map (passed_func xs) s.back) (passed_func xs s.func) stands_now.absent_front stands_now.absent_back
        ∙ (λ j. map (passed_func xs) s.front ++ (func_with s.func ((ap (edited_body t (step_of e op value) s.func.params) body_now ∙ body_edited) j) ∷ map (passed_func xs) s.back))

    after_is : after.funcs ≡ edited_funcs
    after_is = sym (ap (λ (m : Module). m.funcs) (modules.becomes_after m xs q.fresh new small none was q.verified s e x.natural one b)) ∙ funcs_edited

    limits_after : passed after.funcs ≡ passed m.funcs
    limits_after =
        ap passed after_is
        ∙ same_limits (map (passed_func xs) s.front) (map (passed_func xs) s.back) (passed_func xs s.func) front_ops rest_ops one_op r op value (kind_reused g kind)
        body_now flat_after built_now built_new op_now value_now kind_reads kind_payload
        ∙ ap passed (sym split_now) ∙ q.limits

    pub reached_next : Reached m (xs ++ new ∷ []) (suc value) (suc op)
    reached_next = record {
      fresh = each-append (IsFresh n k) xs (new ∷ []) q.fresh ((q.value_from, q.op_from), tt);
      verified = subst IsVerified formed_now (x.verifies now t q.verified);
      value_is = ap fresh_value after_is
          ∙ next_value (map (passed_func xs) s.front) (map (passed_func xs) s.back) (passed_func xs s.func) front_ops rest_ops one_op r op value (kind_reused g kind)
          body_now flat_after built_now built_new op_now value_now kind_reads kind_payload;
      op_is = ap fresh_op after_is
          ∙ next_op (map (passed_func xs) s.front) (map (passed_func xs) s.back) (passed_func xs s.func) front_ops rest_ops one_op r op value (kind_reused g kind)
          body_now flat_after built_now built_new op_now value_now kind_reads kind_payload;
      limits = limits_after;
      value_from = let l = q.value_from in omega (arith, l);
      op_from = let l = q.op_from in omega (arith, l);
    }

    pub turn_becomes : exchanged_at e t now ≡ decided t None (limit_before value op (passed m.funcs)) (passed_module (xs ++ new ∷ []) m) (record { 0 = op } ∷ [])
    turn_becomes =
        let stays : e.stays s.body.target.kind ≡ false = x.decides (type_among scope) s.body.target.kind h ∙ ap is_none b in
        (λ j. decided t ((broken_now ∙ h) j) (limit_of now (formed_now j)) (formed_now j) (made_now false stays j))
        ∙ (λ j. decided t None (large_now after limits_after j) after (record { 0 = op } ∷ []))
