-- Turns of a draft, and that what is told of a verified module fits.
use Rattle.std.proofs.Common.{◌≡◌, ℕ, suc, ◌==◌, ◌||◌, not, Bool, true, false, List, [], ◌∷◌, ◌++◌, Option, Some, None, Ok, Err, append_assoc, refl, ap, sym, subst, ◌∙◌, arith}
use Rattle.std.specs.Prelude.{is_some, if◌then◌else◌}
use Rattle.std.specs.List.{list_all}
use Rattle.std.proofs.lemmas.Bool.{and_parts}
use Rattle.std.proofs.lemmas.Bool.Decides.{nat_tests}
use Rattle.std.proofs.lemmas.Option.{same_Some}
use Rattle.affine_maps.specs.Permutation.{is_among}
use Rattle.mlir_base.specs.declared.limit.Which.{Which}
use Rattle.mlir_ir.specs.Count.{find_in}
use Rattle.mlir_ir.specs.declared.tree.Module.{Module}
use Rattle.mlir_ir.specs.declared.tree.Op.{Op}
use Rattle.mlir_ir.specs.declared.tree.OpId.{OpId}
use Rattle.mlir_ir.specs.declared.tree.OpKind.{OpKind, Generic}
use Rattle.mlir_ir.specs.declared.tree.Ty.{Ty}
use Rattle.mlir_meaning.specs.Grids.{Each}
use Rattle.mlir_meaning.proofs.Through.{each_right}
use Rattle.mlir_verify.specs.Place.{Types, type_among}
use Rattle.mlir_verify.specs.Rules.{IsVerified}
use Rattle.verified_runs.specs.Forms.{Structured, kind_of, structured_of, is_generic}
use Rattle.verified_runs.specs.Passes.{Scope, OpPasses, BodyPasses, FuncPasses, scope_after}
use Rattle.verified_runs.proofs.NamedLaws.{generic_passes}
use Rattle.verified_runs.proofs.NamedPasses.{KeepsRules}
use Rattle.verified_runs.proofs.ReusedBodies.{or_false}
use Rattle.verified_runs.proofs.Runs.{rest_passes}
use Rattle.verified_runs.proofs.Verified.{verified_passes}
use Rattle.structured_steps.specs.Interchange.{as_generic, breaks_permutation, breaks_reduction_order, interchanged}
use Rattle.step_results.proofs.Interchanged.{interchanged_keeps}
use Rattle.step_results.proofs.Modules.{verified_module}
use Rattle.rewrite_base.specs.declared.error.StepError.{StepError}
use Rattle.rewrite_base.specs.declared.error.StepError.TheVariants as Failed
use Rattle.rewrite_base.specs.Limits.{passed}
use Rattle.rewrite_base.specs.Shapes.{StructuredFits}
use Rattle.rewrite_base.proofs.Fitting.{typed_fits}
use Rattle.step_passes.specs.declared.exchange.Exchange.{Exchange}
use Rattle.step_passes.specs.declared.index.Index.{Index}
use Rattle.step_passes.specs.declared.plan.Draft.{Draft}
use Rattle.step_passes.specs.declared.told.Step.{Step}
use Rattle.step_passes.specs.declared.told.Step.TheVariants.{Generalize, Interchange}
use Rattle.step_passes.specs.declared.told.Told as code
use Rattle.step_passes.specs.declared.told.Told.TheVariants.{Breaks, Stays, Unfit, Becomes}
use Rattle.step_passes.specs.Drafting.{Later, stand_first, comes_to, comes_in_turn, with_exchange, TakesTurn, IsFitting, IsFittingIfThere, Plans}
use Rattle.step_passes.specs.Exchanging.{Exchanging}
use Rattle.step_passes.specs.Noting.{noted_in, IsNoted}
use Rattle.step_passes.specs.Planned.{Told, Plan, told_at, told_among, limit_before, stands_first, in_turn, planned}
use Rattle.step_passes.specs.Sequences.{numbers_of, are_different, are_targets}
use Rattle.step_passes.specs.Steps.{generic_of, turned_of}
use Rattle.step_passes.specs.Telling.{exchanging, IsUnfit, Tells}
use Rattle.step_passes.proofs.Stands.{Stands, stands}
use Rattle.step_passes.proofs.Turns.{told_of, stands_among}
use Rattle.step_passes.proofs.Walking.{turned_eqb}

-- TURNS
pub stands_last : (given : List OpId) (i : OpId) (p : Plan) → stand_first given (stands_first i p) ≡ stand_first (given ++ i ∷ []) p
stands_last given i (Ok p) = λ j. Ok (p.0, sym (append_assoc given (i ∷ []) p.1) j)
stands_last given i (Err why) = refl

none_first : (p : Plan) → stand_first [] p ≡ p
none_first (Ok p) = refl
none_first (Err why) = refl

-- the first draft
pub starts : (later : Later) (xs : List Exchange) (given : List OpId) (value op n k : ℕ) → xs ≡ [] → given ≡ [] → value ≡ n → op ≡ k →
    stand_first given (later xs value op) ≡ later [] n k
starts later xs given value op n k a b c d = (λ j. stand_first (b j) (later (a j) (c j) (d j))) ∙ none_first (later [] n k)

pub exchanged_turn : (d u : Draft) (own : Option Which) (i : OpId) (kind : OpKind) → limit_before d.value d.op own ≡ None →
    u ≡ with_exchange i kind d →
    (later : Later) → comes_in_turn d (Some (None, Some kind)) i own later ≡ comes_to u later
exchanged_turn d u own i kind h e later =
    (λ j. stand_first d.stand (in_turn (Some (None, Some kind)) i (h j) d.exchanges d.value d.op later))
    ∙ stands_last d.stand (record { 0 = d.op }) (later (d.exchanges ++ record { target = i; op = d.op; value = d.value; kind = kind } ∷ []) (suc d.value) (suc d.op))
    ∙ ap (λ (x : Draft). comes_to x later) (sym e)

-- what is noted is told
pub some_noted : (P : Option Told → Type 0) (t : Option Told) (c : Option code.Told) (told : code.Told) → c ≡ Some told → IsNoted t c →
    ((x : Told) → Tells x told → P (Some x)) → P t
some_noted P None c told e h f = absurd (subst (IsNoted None) e h)
some_noted P (Some x) c told e h f = f x (subst (IsNoted (Some x)) e h)

-- a turn was taken
pub turn_goes : (e : Exchanging) (m : Module) (d u : Draft) (i : OpId) (is rest : List OpId) (own : Option Which) (p : Plan) →
    is ≡ i ∷ rest → own ≡ passed m.funcs →
    comes_to d (planned e m is) ≡ p → ((later : Later) → comes_in_turn d (told_among e i m.funcs) i own later ≡ comes_to u later) →
    comes_to u (planned e m rest) ≡ p
turn_goes e m d u i is rest own p split same whole turn =
    sym (turn (planned e m rest)) ∙ (λ j. comes_in_turn d (told_among e i m.funcs) i (same j) (planned e m rest))
    ∙ ap (λ is. comes_to d (planned e m is)) (sym split) ∙ whole

-- a turn's error is the plan's
pub turn_fails : (X : Type 0) (e : Exchanging) (m : Module) (d u : Draft) (i : OpId) (is rest : List OpId) (own : Option Which) (p : Plan) (why : StepError) → is ≡ i ∷ rest →
    own ≡ passed m.funcs → comes_to d (planned e m is) ≡ p → TakesTurn {X = X} (told_among e i m.funcs) i own d u (Err why) → Plans p (Err why)
turn_fails X e m d u i is rest own p why split same whole turn = by_error why turn where
  before : comes_in_turn d (told_among e i m.funcs) i own (planned e m rest) ≡ p
  before = (λ j. comes_in_turn d (told_among e i m.funcs) i (same j) (planned e m rest)) ∙ ap (λ is. comes_to d (planned e m is)) (sym split) ∙ whole

  by_error : (why : StepError) → TakesTurn {X = X} (told_among e i m.funcs) i own d u (Err why) → Plans p (Err why)
  by_error (Failed.Rule rule at) h = sym before ∙ h (planned e m rest)
  by_error (Failed.Limit which) h = sym before ∙ h (planned e m rest)
  by_error Failed.Memory h = tt

-- WHAT IS TOLD FITS
not_false : (b : Bool) → not b ≡ false → b ≡ true
not_false true e = refl
not_false false e = absurd cc

generic_is : (kind : OpKind) (g : Structured) → as_generic kind ≡ Some g → kind ≡ kind_of g
generic_is (Generic maps iterators ins outs captured payload) g e = ap kind_of (same_Some _ g e)
generic_is kind g e = absurd cc

module _ (scope : Scope) (wanted : List Ty) (o : Op) (h : OpPasses scope wanted o) where
  abbrev t : Types
  t = type_among scope

  form_fits : (g : Structured) → structured_of t o.kind ≡ Some g → StructuredFits g
  form_fits g q = let p = generic_passes scope wanted o g o.id o.results h q refl h.news in typed_fits t p.constants wanted o.results g p.typed

  turned_fits : (order : List ℕ) (g : Structured) → as_generic o.kind ≡ Some g → breaks_permutation order g ≡ false →
      StructuredFits (interchanged order g)
  turned_fits order g q permutes =
      let kind = generic_is o.kind g q in
      let kept : KeepsRules t h.constants wanted o.results (kind_of g) =
      subst (KeepsRules t h.constants wanted o.results) kind (record { typed = h.typed; maps = h.maps; iterators = h.iterators; extents = h.extents; windows = h.windows }) in
      typed_fits t h.constants wanted o.results (interchanged order g) (interchanged_keeps t h.constants wanted o.results order g (not_false _ permutes) kept).typed

  becomes_fits : (step : Step) → IsUnfit (told_at (exchanging step) t o.kind).1 → ⊥
  becomes_fits Generalize = by_form (is_generic o.kind) (structured_of t o.kind) refl where
    by_form : (b : Bool) (s : Option Structured) → structured_of t o.kind ≡ s → IsUnfit (generic_of b s) → ⊥
    by_form true s q x = x
    by_form false None q x = x
    by_form false (Some g) q x = x (form_fits g q)
  becomes_fits (Interchange order) = by_form (as_generic o.kind) refl where
    by_rules : (a b : Bool) (g : Structured) → breaks_permutation order.now g ≡ a → as_generic o.kind ≡ Some g →
        IsUnfit (if a || b then None else Some (kind_of (interchanged order.now g))) → ⊥
    by_rules true b g p q x = x
    by_rules false true g p q x = x
    by_rules false false g p q x = x (turned_fits order.now g q p)

    by_form : (s : Option Structured) → as_generic o.kind ≡ s → IsUnfit (turned_of order.now s) → ⊥
    by_form None q x = x
    by_form (Some g) q x = by_rules (breaks_permutation order.now g) (breaks_reduction_order order.now g) g refl q x

fits_told : (t : Told) (c : code.Told) → Tells t c → (IsUnfit t.1 → ⊥) → IsFitting c
fits_told t (Breaks rule) h f = tt
fits_told t Stays h f = tt
fits_told t Unfit h f = f h.1
fits_told t (Becomes kind) h f = tt

module _ (step : Step) (m : Module) (was : IsVerified m) where
  target_passes : (i : OpId) (s : Stands i m.funcs) → OpPasses (scope_after s.func.params s.body.before) s.func.results s.body.target
  target_passes i s =
      let whole = subst (Each FuncPasses) s.is (verified_passes m was) in
      let func = (each_right FuncPasses s.front (s.func ∷ s.back) whole).0 in
      (rest_passes s.func.results s.body.before (s.body.target ∷ s.body.after) s.func.params (subst (BodyPasses s.func.params s.func.results) s.body.is func.body)).0

  -- what is noted of a target of the module
  pub noted_fits : (i : OpId) (c : Option code.Told) → is_some (find_in i m.funcs) ≡ true →
      IsNoted (told_among (exchanging step) i m.funcs) c → IsFittingIfThere c
  noted_fits i None there h = tt
  noted_fits i (Some c) there h =
      let s = stands i m.funcs [] (verified_module m was).numbers.ops (stands_among i m.funcs (verified_passes m was) there) in
      fits_told (told_at (exchanging step) (type_among (scope_after s.func.params s.body.before)) s.body.target.kind) c
      (subst (λ x. IsNoted x (Some c)) (told_of (exchanging step) i m.funcs s) h)
      (becomes_fits (scope_after s.func.params s.body.before) s.func.results s.body.target (target_passes i s) step)

-- WHAT IS LEFT
or_true : (b : Bool) → (b || true) ≡ true
or_true true = refl
or_true false = refl

same_eqb : (n : ℕ) → (n == n) ≡ true
same_eqb n = grind (arith, nat_tests)

-- of the targets that are left
pub record AreLeft (e : Exchanging) (m : Module) (s : Index) (is : List OpId) : Type 0 where
  pub noted : Each (λ (i : OpId). IsNoted (told_among e i m.funcs) (noted_in s i)) is
  pub there : list_all (λ (i : OpId). is_some (find_in i m.funcs)) is ≡ true
  pub differ : are_different is ≡ true

among_all : (P : OpId → Type 0) (is : List OpId) → ((i : OpId) → is_among i.0 (numbers_of is) ≡ true → P i) → Each P is
among_all P [] f = tt
among_all P (i ∷ is) f =
    (f i (λ j. same_eqb i.0 j || is_among i.0 (numbers_of is)), among_all P is (λ q h. f q ((λ j. (i.0 == q.0) || h j) ∙ or_true (i.0 == q.0))))

pub all_left : (e : Exchanging) (m : Module) (s : Index) (is : List OpId) → are_targets m is ≡ true →
    ((i : OpId) → is_among i.0 (numbers_of is) ≡ true → IsNoted (told_among e i m.funcs) (noted_in s i)) → AreLeft e m s is
all_left e m s is h f =
    let parts = and_parts (list_all (λ (i : OpId). is_some (find_in i m.funcs)) is) (are_different is) h in
    record { noted = among_all (λ i. IsNoted (told_among e i m.funcs) (noted_in s i)) is f; there = parts.0; differ = parts.1 }

not_true : (b : Bool) → not b ≡ true → b ≡ false
not_true true h = absurd cc
not_true false h = refl

-- one of them was taken out
pub one_less : (e : Exchanging) (m : Module) (s u : Index) (i : OpId) (is : List OpId) →
    ((q : OpId) → noted_in u q ≡ (if i.0 == q.0 then None else noted_in s q)) →
    AreLeft e m s (i ∷ is) → AreLeft e m u is
one_less e m s u i is taken left =
    let differ = and_parts (not (is_among i.0 (numbers_of is))) (are_different is) left.differ in
    let there = and_parts (is_some (find_in i m.funcs)) (list_all (λ (i : OpId). is_some (find_in i m.funcs)) is) left.there in
    record { noted = others is (not_true (is_among i.0 (numbers_of is)) differ.0) left.noted.1; there = there.1; differ = differ.1 } where
      others : (is : List OpId) → is_among i.0 (numbers_of is) ≡ false →
          Each (λ (q : OpId). IsNoted (told_among e q m.funcs) (noted_in s q)) is →
          Each (λ (q : OpId). IsNoted (told_among e q m.funcs) (noted_in u q)) is
      others [] a h = tt
      others (q ∷ is) a h =
          let parts = or_false (q.0 == i.0) _ a in (
            subst (IsNoted (told_among e q m.funcs)) (sym (taken q ∙ (λ j. if (turned_eqb i.0 q.0 ∙ parts.0) j then None else noted_in s q))) h.0,
            others is parts.1 h.1,
          )

-- the first of them
pub left_here : (e : Exchanging) (m : Module) (s : Index) (is rest : List OpId) (i : OpId) → is ≡ i ∷ rest → AreLeft e m s is →
    AreLeft e m s (i ∷ rest)
left_here e m s is rest i split left = subst (AreLeft e m s) split left

pub first_left : (e : Exchanging) (m : Module) (s : Index) (rest : List OpId) (i : OpId) → AreLeft e m s (i ∷ rest) →
    (is_some (find_in i m.funcs) ≡ true) × IsNoted (told_among e i m.funcs) (noted_in s i)
first_left e m s rest i left = ((and_parts (is_some (find_in i m.funcs)) (list_all (λ (i : OpId). is_some (find_in i m.funcs)) rest) left.there).0, left.noted.0)
