-- What a step at one operation leaves of a verified module, and at several targets in turn.
use Rattle.std.proofs.Common.{◌≡◌, ℕ, ◌==◌, ◌&&◌, Bool, true, false, not, List, [], ◌∷◌, ◌++◌, map, Option, Some, None, Result, Ok, Err, ◌⊎◌, inl, inr, refl, ap, sym, subst, ◌∙◌, arith, eq-eqb}
use Rattle.std.specs.Prelude.{◌||◌, is_some, IsSome, nat_lt, if◌then◌else◌}
use Rattle.std.specs.List.{list_all}
use Rattle.std.proofs.lemmas.Bool.{and_parts, or_parts, ne_eqb}
use Rattle.std.proofs.lemmas.List.{length-map}
use Rattle.affine_maps.specs.Permutation.{is_among}
use Rattle.mlir_base.specs.declared.limit.Which.{Which}
use Rattle.mlir_ir.specs.Count.{find_in}
use Rattle.mlir_ir.specs.declared.tree.Module.{Module}
use Rattle.mlir_ir.specs.declared.tree.Op.{Op}
use Rattle.mlir_ir.specs.declared.tree.OpId.{OpId}
use Rattle.mlir_ir.specs.declared.tree.OpKind.{OpKind}
use Rattle.mlir_meaning.specs.Renaming.{reused_ops}
use Rattle.mlir_meaning.specs.States.{names_of}
use Rattle.mlir_verify.specs.Names.{ids}
use Rattle.mlir_verify.specs.Place.{type_among}
use Rattle.mlir_verify.specs.Rules.{IsVerified}
use Rattle.verified_runs.specs.Edits.{Step, moved, renumbered, anew, placed, edited_func}
use Rattle.verified_runs.specs.Forms.{Structured, kind_of, structured_of, is_generic}
use Rattle.verified_runs.specs.Fresh.{fresh_op, fresh_value}
use Rattle.verified_runs.specs.Passes.{Scope}
use Rattle.verified_runs.proofs.Verified.{verified_passes}
use Rattle.structured_steps.specs.declared.rule.StepRule.{StepRule}
use Rattle.structured_steps.specs.declared.rule.StepRule.TheVariants.{WrongKind, Permutation, ReductionOrder}
use Rattle.structured_steps.specs.Generalize.{generalizes, generalize}
use Rattle.structured_steps.specs.Interchange.{as_generic, breaks_permutation, breaks_reduction_order, interchanged, interchanges, interchange}
use Rattle.structured_steps.specs.Steps.{Rules, formed, broken_of, rules_of_generalize, generalized, broken_order, rules_of_interchange, interchanged_in}
use Rattle.rewrite_base.specs.declared.error.StepError.{StepError}
use Rattle.rewrite_base.specs.declared.made.Made.{Made}
use Rattle.rewrite_base.specs.Limits.{limit_of}
use Rattle.rewrite_base.specs.Answers.{new_op, generalized_op, made_by_generalize, made_by_interchange}
use Rattle.fuse_elementwise.specs.Fused.{fused_in}
use Rattle.transform_handles.specs.Targets.{is_same, is_one_of}
use Rattle.transform_handles.specs.declared.target.Target.{Target}
use Rattle.transform_handles.specs.declared.target.Target.TheVariants.{Root, Function, Operation}
use Rattle.script_run.specs.Sessions.{stands_in, are_different, are_targets}
use Rattle.script_run.specs.Steps.{StepAt, decided, generalize_at, interchange_at, operations, behind, at_target, at_each}
use Rattle.script_run.specs.Outcomes.{and_then}
use Rattle.script_run.proofs.Named.{some_of, not_true, all_of, none_of, same_sym}
use Rattle.script_run.proofs.Bodies.{other_stands, made_stands, number_below}
use Rattle.step_results.proofs.Generalized.{generalized_verifies}
use Rattle.step_results.proofs.Interchanged.{interchanged_verifies}

-- what each step that is built keeps, at an operation of a verified module
pub record IsKept (Q : Module → Type 0) : Type 0 where
  pub generalize : (m : Module) (i : OpId) → IsVerified m → Q m → IsSome (find_in i m.funcs) → broken_of i rules_of_generalize m ≡ None → limit_of m (generalized i m) ≡ None → Q (generalized i m)
  pub interchange : (m : Module) (i : OpId) (order : List ℕ) → IsVerified m → Q m → IsSome (find_in i m.funcs) → broken_of i (rules_of_interchange order) m ≡ None →
      limit_of m (interchanged_in i order m) ≡ None → Q (interchanged_in i order m)
  pub fuse : (m n : Module) (k : ℕ) → IsVerified m → Q m → fused_in k m ≡ Ok n → limit_of m n ≡ None → Q n

module _ (Q : Module → Type 0) where
  -- the second module verifies and keeps Q; all targets but the operation stand in it, and what its handle names is one operation, none of them
  pub record After (m : Module) (i : OpId) (n : Module) (made : List OpId) : Type 0 where
    pub verified : IsVerified n
    pub others : (t : Target) → stands_in m t ≡ true → is_same (Operation i) t ≡ false → stands_in n t ≡ true
    pub op : OpId
    pub is : made ≡ op ∷ []
    pub stands : stands_in n (Operation op) ≡ true
    pub new : (t : Target) → stands_in m t ≡ true → is_same (Operation i) t ≡ false → is_same (Operation op) t ≡ false
    pub kept : Q m → Q n

  -- what a step owes at an operation that stands in a verified module
  abbrev pub Keeps : StepAt → Type 0
  Keeps step = (m : Module) (i : OpId) (n : Module) (made : Made) → IsVerified m → stands_in m (Operation i) ≡ true → step i m ≡ Ok (n, made) → After m i n made.ops

  -- once for all steps: the new number is the target's, or a fresh one
  formed_after : (m : Module) (i x : OpId) (step : Step) (rules : Rules) (o : Op) → IsVerified m → find_in i m.funcs ≡ Some o → broken_of i rules m ≡ None → IsVerified (formed i step m) →
      ((x.0 ≡ i.0) ⊎ (x.0 ≡ fresh_op m.funcs)) →
      ((scope : Scope) (after : List Op) → (o.id.0 == i.0) ≡ true → rules scope o ≡ None → is_among x.0 (ids (placed (step scope o) o after)) ≡ true) →
      (Q m → Q (formed i step m)) → After m i (formed i step m) (x ∷ [])
  formed_after m i x step rules o verified found rule whole number there keeps = record {
    verified = whole;
    others = others;
    op = x;
    is = refl;
    stands = made_stands i x step rules o there m.funcs (verified_passes m verified) rule found;
    new = λ t s d. by_number number t s d;
    kept = keeps;
  } where
    others : (t : Target) → stands_in m t ≡ true → is_same (Operation i) t ≡ false → stands_in (formed i step m) t ≡ true
    others Root s d = refl
    others (Function k) s d = ap (nat_lt k) (length-map m.funcs (edited_func i step)) ∙ s
    others (Operation j) s d = other_stands i j step m.funcs (verified_passes m verified) d s

    by_number : ((x.0 ≡ i.0) ⊎ (x.0 ≡ fresh_op m.funcs)) → (t : Target) → stands_in m t ≡ true → is_same (Operation i) t ≡ false → is_same (Operation x) t ≡ false
    by_number e Root s d = refl
    by_number e (Function k) s d = refl
    by_number (inl e) (Operation j) s d = (λ k. e k == j.0) ∙ d
    by_number (inr e) (Operation j) s d = ne_eqb x.0 j.0 (λ q. absurd (omega (arith, q, e, number_below j m.funcs (verified_passes m verified) s)))

-- WHAT A STEP GAVE
value_or : {A : Type 0} → A → Result A StepError → A
value_or d (Ok z) = z
value_or d (Err z) = d

pub same_ok : {A : Type 0} (x y : A) → ◌≡◌ {A = Result A StepError} (Ok x) (Ok y) → x ≡ y
unfolding value_or
same_ok x y e = ap (value_or x) e

-- no rule was broken, and no limit passed
decided_ok : {P : Type 0} (i : OpId) (b : Option StepRule) (l : Option Which) (m : Module) (ops : List OpId) (r : Module × Made) → decided i b l m ops ≡ Ok r →
    (b ≡ None → l ≡ None → ◌≡◌ {A = Module × Made} (m, record { ops = ops }) r → P) → P
decided_ok i (Some rule) l m ops r e k = absurd cc
decided_ok i None (Some which) m ops r e k = absurd cc
decided_ok i None None m ops r e k = k refl refl (same_ok (m, record { ops = ops }) r e)

-- a new operation stands in its target's place
anew_there : (op value : ℕ) (kind : OpKind) (o : Op) (after : List Op) → is_among op (ids (placed (Some (anew op value kind o)) o after)) ≡ true
anew_there op value kind o after = λ j. eq-eqb op op refl j || is_among op (ids (reused_ops (moved (names_of o.results) (names_of (renumbered value o.results))) after))

-- GENERALIZE
-- a generic stays, and another operation becomes one with a fresh number
generalize_there : (i fresh : OpId) (value : ℕ) (o : Op) (scope : Scope) (after : List Op) → (o.id.0 == i.0) ≡ true → rules_of_generalize scope o ≡ None →
    is_among (if is_generic o.kind then i else fresh).0 (ids (placed (generalize fresh.0 value scope o) o after)) ≡ true
generalize_there i fresh value o scope after number kept = by_form (is_generic o.kind) refl (structured_of (type_among scope) o.kind) refl where
  by_form : (b : Bool) → is_generic o.kind ≡ b → (g : Option Structured) → structured_of (type_among scope) o.kind ≡ g →
      is_among (if is_generic o.kind then i else fresh).0 (ids (placed (generalize fresh.0 value scope o) o after)) ≡ true
  by_form true p g q =
      (λ j. is_among (if p j then i else fresh).0 (ids (placed (generalizes fresh.0 value (p j) (structured_of (type_among scope) o.kind) o) o after)))
      ∙ (λ j. number j || is_among i.0 (ids after))
  by_form false p None q = absurd (let z : ◌≡◌ {A = Option StepRule} (Some WrongKind) None = sym (λ j. if not (is_some (q j)) then Some WrongKind else None) ∙ kept in cc)
  by_form false p (Some g) q =
      (λ j. is_among (if p j then i else fresh).0 (ids (placed (generalizes fresh.0 value (p j) (q j) o) o after))) ∙ anew_there fresh.0 value (kind_of g) o after

either_number : (b : Bool) (i fresh : OpId) → ((if b then i else fresh).0 ≡ i.0) ⊎ ((if b then i else fresh).0 ≡ fresh.0)
either_number true i fresh = inl refl
either_number false i fresh = inr refl

pub generalize_keeps : (Q : Module → Type 0) → IsKept Q → Keeps Q generalize_at
generalize_keeps Q kept m i n made verified s e =
    let f = some_of (find_in i m.funcs) s in
    let x = if is_generic (f.0).kind then i else new_op m in
    decided_ok i (broken_of i rules_of_generalize m) (limit_of m (generalized i m)) (generalized i m) (made_by_generalize i m) (n, made) e (λ rule limit same.
    subst (λ (r : Module × Made). After Q m i r.0 r.1.ops) same (subst (λ (ops : List OpId). After Q m i (generalized i m) ops) (sym (λ j. generalized_op i m (f.1 j)))
    (formed_after Q m i x (generalize (fresh_op m.funcs) (fresh_value m.funcs)) rules_of_generalize f.0 verified f.1 rule (generalized_verifies m i verified)
    (either_number (is_generic (f.0).kind) i (new_op m)) (λ scope after number none. generalize_there i (new_op m) (fresh_value m.funcs) f.0 scope after number none)
    (λ q. kept.generalize m i verified q s rule limit))))

-- INTERCHANGE
with_generic : (order : List ℕ) (op value : ℕ) (o : Op) (g : Structured) (after : List Op) → broken_order order (Some g) ≡ None →
    is_among op (ids (placed (interchanges order op value (Some g) o) o after)) ≡ true
with_generic order op value o g after kept = by_rules (breaks_permutation order g) refl (breaks_reduction_order order g) refl where
  by_rules : (b : Bool) → breaks_permutation order g ≡ b → (c : Bool) → breaks_reduction_order order g ≡ c → is_among op (ids (placed (interchanges order op value (Some g) o) o after)) ≡ true
  by_rules true p c r = absurd (let z : ◌≡◌ {A = Option StepRule} (Some Permutation) None = sym (λ j. if p j then Some Permutation else (if breaks_reduction_order order g then Some ReductionOrder else None)) ∙ kept in cc)
  by_rules false p true r = absurd (let z : ◌≡◌ {A = Option StepRule} (Some ReductionOrder) None = sym (λ j. if p j then Some Permutation else (if r j then Some ReductionOrder else None)) ∙ kept in cc)
  by_rules false p false r =
      (λ j. is_among op (ids (placed (if p j || r j then None else Some (anew op value (kind_of (interchanged order g)) o)) o after))) ∙ anew_there op value (kind_of (interchanged order g)) o after

interchange_there : (order : List ℕ) (op value : ℕ) (o : Op) (scope : Scope) (after : List Op) → rules_of_interchange order scope o ≡ None →
    is_among op (ids (placed (interchange order op value scope o) o after)) ≡ true
interchange_there order op value o scope after kept = by_form (as_generic o.kind) refl where
  by_form : (g : Option Structured) → as_generic o.kind ≡ g → is_among op (ids (placed (interchange order op value scope o) o after)) ≡ true
  by_form None q = absurd (let z : ◌≡◌ {A = Option StepRule} (Some WrongKind) None = sym (λ j. broken_order order (q j)) ∙ kept in cc)
  by_form (Some g) q =
      (λ j. is_among op (ids (placed (interchanges order op value (q j) o) o after))) ∙ with_generic order op value o g after (sym (λ j. broken_order order (q j)) ∙ kept)

pub interchange_keeps : (Q : Module → Type 0) → IsKept Q → (order : List ℕ) → Keeps Q (interchange_at order)
interchange_keeps Q kept order m i n made verified s e =
    let f = some_of (find_in i m.funcs) s in
    decided_ok i (broken_of i (rules_of_interchange order) m) (limit_of m (interchanged_in i order m)) (interchanged_in i order m) (made_by_interchange m) (n, made) e (λ rule limit same.
    subst (λ (r : Module × Made). After Q m i r.0 r.1.ops) same
    (formed_after Q m i (new_op m) (interchange order (fresh_op m.funcs) (fresh_value m.funcs)) (rules_of_interchange order) f.0 verified f.1 rule (interchanged_verifies m i order verified) (inr refl)
    (λ scope after number none. interchange_there order (fresh_op m.funcs) (fresh_value m.funcs) f.0 scope after none) (λ q. kept.interchange m i order verified q s rule limit)))

-- AT EACH TARGET
module _ (Q : Module → Type 0) where
  -- the second module verifies and keeps Q; what isn't a target stands in it, and so do the targets that are given, which are different, and none of the others
  pub record Gave (m n : Module) (ts all : List Target) : Type 0 where
    pub verified : IsVerified n
    pub others : (t : Target) → stands_in m t ≡ true → is_one_of t ts ≡ false → stands_in n t ≡ true
    pub stand : list_all (stands_in n) all ≡ true
    pub different : are_different all ≡ true
    pub new : (t : Target) → stands_in m t ≡ true → is_one_of t ts ≡ false → is_one_of t all ≡ false
    pub kept : Q m → Q n

  -- the targets after the first still stand, and what it gave is none of them
  pub rest_stand : (m n : Module) (i : OpId) (made : List OpId) (ts : List Target) → After Q m i n made → are_targets m (Operation i ∷ ts) ≡ true → are_targets n ts ≡ true
  rest_stand m n i made ts a h =
      let parts = and_parts (list_all (stands_in m) (Operation i ∷ ts)) (are_different (Operation i ∷ ts)) h in
      let stand = and_parts (stands_in m (Operation i)) (list_all (stands_in m) ts) parts.0 in
      let differ = and_parts (not (is_one_of (Operation i) ts)) (are_different ts) parts.1 in
      let apart = not_true (is_one_of (Operation i) ts) differ.0 in
      λ j. all_of (stands_in m) (stands_in n) (λ u. is_same u (Operation i)) ts (λ t s d. a.others t s (same_sym (Operation i) t ∙ d)) stand.1 apart j && differ.1 j

  gave_first : (m n : Module) (i : OpId) (made : List OpId) (ts all : List Target) (last : Module) → After Q m i n made → are_targets m (Operation i ∷ ts) ≡ true → Gave n last ts all →
      Gave m last (Operation i ∷ ts) (map Operation made ++ all)
  gave_first m n i made ts all last a h g =
      let parts = and_parts (list_all (stands_in m) (Operation i ∷ ts)) (are_different (Operation i ∷ ts)) h in
      let stand = and_parts (stands_in m (Operation i)) (list_all (stands_in m) ts) parts.0 in
      let differ = and_parts (not (is_one_of (Operation i) ts)) (are_different ts) parts.1 in
      let apart = not_true (is_one_of (Operation i) ts) differ.0 in
      let x = Operation a.op in
      let free = none_of (stands_in m) (λ u. is_same u x) (λ u. is_same u (Operation i)) ts (λ t s d. same_sym t x ∙ a.new t s (same_sym (Operation i) t ∙ d)) stand.1 apart in
      subst (λ (us : List OpId). Gave m last (Operation i ∷ ts) (map Operation us ++ all)) (sym a.is) (record {
        verified = g.verified;
        others = λ t s d. let e = or_parts (is_same (Operation i) t) (is_one_of t ts) d in g.others t (a.others t s e.0) e.1;
        stand = λ j. g.others x a.stands free j && g.stand j;
        different = λ j. not (g.new x a.stands free j) && g.different j;
        new = λ t s d. let e = or_parts (is_same (Operation i) t) (is_one_of t ts) d in λ j. a.new t s e.0 j || g.new t (a.others t s e.0) e.1 j;
        kept = λ q. g.kept (a.kept q);
      })

  module _ (step : StepAt) (keeps : Keeps Q step) where
    abbrev Gives : List Target → Type 0
    Gives ts = (m n : Module) (all : List Target) → IsVerified m → are_targets m ts ≡ true → at_each (at_target step) ts m ≡ Ok (n, all) → Gave m n ts all

    first_gives : (i : OpId) (ts : List Target) (m n : Module) (all : List Target) → Gives ts → IsVerified m → are_targets m (Operation i ∷ ts) ≡ true →
        (r : Result (Module × Made) StepError) → step i m ≡ r → and_then (and_then r (λ q. Ok (operations q))) (λ q. behind q.1 (at_each (at_target step) ts q.0)) ≡ Ok (n, all) → Gave m n (Operation i ∷ ts) all
    first_gives i ts m n all rest verified h (Err x) e f = absurd cc
    first_gives i ts m n all rest verified h (Ok r) e f = by_rest (at_each (at_target step) ts r.0) refl f where
      parts : (list_all (stands_in m) (Operation i ∷ ts) ≡ true) × (are_different (Operation i ∷ ts) ≡ true)
      parts = and_parts (list_all (stands_in m) (Operation i ∷ ts)) (are_different (Operation i ∷ ts)) h

      a : After Q m i r.0 r.1.ops
      a = keeps m i r.0 r.1 verified (and_parts (stands_in m (Operation i)) (list_all (stands_in m) ts) parts.0).0 e

      by_rest : (q : Result (Module × List Target) StepError) → at_each (at_target step) ts r.0 ≡ q → behind (map Operation r.1.ops) q ≡ Ok (n, all) → Gave m n (Operation i ∷ ts) all
      by_rest (Err x) d g = absurd cc
      by_rest (Ok q) d g =
          subst (λ (p : Module × List Target). Gave m p.0 (Operation i ∷ ts) p.1) (same_ok (q.0, map Operation r.1.ops ++ q.1) (n, all) g)
          (gave_first m r.0 i r.1.ops ts q.1 q.0 a h (rest r.0 q.0 q.1 a.verified (rest_stand m r.0 i r.1.ops ts a h) d))

    pub each_gives : (ts : List Target) → Gives ts
    each_gives [] m n all verified h e = subst (λ (p : Module × List Target). Gave m p.0 [] p.1) (same_ok (m, []) (n, all) e) (record {
      verified = verified;
      others = λ t s d. s;
      stand = refl;
      different = refl;
      new = λ t s d. refl;
      kept = λ q. q;
    })
    each_gives (Root ∷ ts) m n all verified h e = absurd cc
    each_gives (Function k ∷ ts) m n all verified h e = absurd cc
    each_gives (Operation i ∷ ts) m n all verified h e = first_gives i ts m n all (each_gives ts) verified h (step i m) refl e
