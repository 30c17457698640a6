-- That one pass gives what the step gives at each operation in turn.
use Rattle.std.proofs.Common.{◌≡◌, ℕ, suc, ◌<◌, ◌==◌, not, Bool, true, false, List, [], ◌∷◌, ◌++◌, Option, Some, None, Ok, Err, refl, ap, sym, ◌∙◌, arith}
use Rattle.std.specs.Prelude.{is_some}
use Rattle.std.specs.List.{list_all}
use Rattle.std.proofs.lemmas.Bool.{and_parts}
use Rattle.affine_maps.specs.Permutation.{is_among}
use Rattle.mlir_base.specs.declared.limit.Which.{Which}
use Rattle.mlir_ir.specs.Count.{find_in}
use Rattle.mlir_ir.specs.declared.tree.Module.{Module}
use Rattle.mlir_ir.specs.declared.tree.OpId.{OpId}
use Rattle.mlir_ir.specs.declared.tree.OpKind.{OpKind}
use Rattle.mlir_meaning.specs.Grids.{Each}
use Rattle.mlir_verify.specs.Place.{type_among}
use Rattle.mlir_verify.specs.Rules.{IsVerified}
use Rattle.verified_runs.specs.Fresh.{fresh_value, fresh_op}
use Rattle.verified_runs.specs.Passes.{scope_after}
use Rattle.verified_runs.proofs.ReusedBodies.{or_false}
use Rattle.verified_runs.proofs.Verified.{verified_passes}
use Rattle.structured_steps.specs.declared.rule.StepRule.{StepRule}
use Rattle.rewrite_base.specs.declared.error.StepError.TheVariants.{Rule, Limit}
use Rattle.rewrite_base.specs.Limits.{passed}
use Rattle.step_results.proofs.Modules.{verified_module}
use Rattle.step_results.proofs.Small.{ids_below}
use Rattle.step_results.proofs.Spots.{all_ids}
use Rattle.step_passes.specs.declared.exchange.Exchange.{Exchange}
use Rattle.step_passes.specs.Exchanging.{Exchanging}
use Rattle.step_passes.specs.OnePass.{exchange_of, passed_module}
use Rattle.step_passes.specs.Planned.{Plan, limit_before, stands_first, in_turn, planned, carried_out, one_pass}
use Rattle.step_passes.specs.Sequences.{Outcome, decided, exchanged_at, then_at, behind, given_by, at_each, numbers_of, are_different, are_targets}
use Rattle.step_passes.specs.Steps.{generalizing, interchanging}
use Rattle.step_passes.specs.Laws.{IsOnePass}
use Rattle.step_passes.proofs.Following.{among_small}
use Rattle.step_passes.proofs.Natural.{IsExchanging, generalizing_exchanges, interchanging_exchanges}
use Rattle.step_passes.proofs.Stands.{Stands, stands}
use Rattle.step_passes.proofs.Turns.{told_of, stands_among, Reached, first_module, reached_first, turn_breaks, turn_stays, turn_becomes, reached_next}
use Rattle.step_passes.proofs.Walking.{other_exchange, turned_eqb}

-- what is planned first stands first
first_stands : (m : Module) (i : OpId) (p : Plan) → behind (i ∷ []) (carried_out m p) ≡ carried_out m (stands_first i p)
first_stands m i (Ok p) = refl
first_stands m i (Err why) = refl

not_true : (b : Bool) → not b ≡ true → b ≡ false
not_true true h = absurd cc
not_true false h = refl

-- none of these is exchanged
abbrev AreLeft : List Exchange → List OpId → Type 0
AreLeft xs is = Each (λ (i : OpId). exchange_of xs i.0 ≡ None) is

still_left : (xs : List Exchange) (y : Exchange) (is : List OpId) → AreLeft xs is → is_among y.target.0 (numbers_of is) ≡ false → AreLeft (xs ++ y ∷ []) is
still_left xs y [] h a = tt
still_left xs y (i ∷ is) h a =
    let parts = or_false (i.0 == y.target.0) _ a in
    (other_exchange xs y i.0 (turned_eqb y.target.0 i.0 ∙ parts.0) ∙ h.0, still_left xs y is h.1 parts.1)

module _ (e : Exchanging) (x : IsExchanging e) (m : Module) (was : IsVerified m) where
  abbrev IsTurn : List OpId → List Exchange → ℕ → ℕ → Type 0
  IsTurn is xs value op = at_each (exchanged_at e) is (passed_module xs m) ≡ carried_out m (planned e m is xs value op)

  there : (i : OpId) → is_some (find_in i m.funcs) ≡ true → Stands i m.funcs
  there i h = stands i m.funcs [] (verified_module m was).numbers.ops (stands_among i m.funcs (verified_passes m was) h)

  number_small : (i : OpId) → is_some (find_in i m.funcs) ≡ true → i.0 < fresh_op m.funcs
  number_small i h = among_small (fresh_op m.funcs) i.0 (all_ids m.funcs) (ids_below m.funcs (fresh_op m.funcs) (omega arith)) (stands_among i m.funcs (verified_passes m was) h)

  -- what follows a first outcome
  follow : (i : OpId) (is : List OpId) (xs : List Exchange) (r : Outcome) → exchanged_at e i (passed_module xs m) ≡ r →
      at_each (exchanged_at e) (i ∷ is) (passed_module xs m) ≡ then_at r (λ n. behind (given_by r) (at_each (exchanged_at e) is n))
  follow i is xs r h = ap (λ (q : Outcome). then_at q (λ n. behind (given_by q) (at_each (exchanged_at e) is n))) h

  module _ (i : OpId) (is : List OpId) (xs : List Exchange) (value op : ℕ) (q : Reached m xs value op) (s : Stands i m.funcs) (small : i.0 < fresh_op m.funcs) (none : exchange_of xs i.0 ≡ None)
      (rest_stays : IsTurn is xs value op)
      (rest_new : (kind : OpKind) → Reached m (xs ++ record { target = i; op = op; value = value; kind = kind } ∷ []) (suc value) (suc op) →
      IsTurn is (xs ++ record { target = i; op = op; value = value; kind = kind } ∷ []) (suc value) (suc op)) where
    by_told : (b : Option StepRule) (c : Option OpKind) (w : Option Which) →
        e.breaks (type_among (scope_after s.func.params s.body.before)) s.body.target.kind ≡ b →
        e.becomes (type_among (scope_after s.func.params s.body.before)) s.body.target.kind ≡ c →
        limit_before value op (passed m.funcs) ≡ w →
        at_each (exchanged_at e) (i ∷ is) (passed_module xs m) ≡ carried_out m (in_turn (Some (b, c)) i w xs value op (planned e m is))
    by_told (Some rule) c w h k l = follow i is xs (Err (Rule rule (Some i))) (turn_breaks e x m was xs value op q i small none s rule h)
    by_told None None (Some which) h k l =
        follow i is xs (Err (Limit which))
        (turn_stays e x m was xs value op q i small none s h k ∙ ap (λ w. decided i None w (passed_module xs m) (i ∷ [])) l)
    by_told None None None h k l =
        follow i is xs (Ok (passed_module xs m, i ∷ []))
        (turn_stays e x m was xs value op q i small none s h k ∙ ap (λ w. decided i None w (passed_module xs m) (i ∷ [])) l)
        ∙ ap (behind (i ∷ [])) rest_stays
        ∙ first_stands m i (planned e m is xs value op)
    by_told None (Some kind) (Some which) h k l =
        let y : Exchange = record { target = i; op = op; value = value; kind = kind } in
        follow i is xs (Err (Limit which))
        (turn_becomes e x m was xs value op q i small none s kind h k ∙ ap (λ w. decided i None w (passed_module (xs ++ y ∷ []) m) (record { 0 = op } ∷ [])) l)
    by_told None (Some kind) None h k l =
        let y : Exchange = record { target = i; op = op; value = value; kind = kind } in
        follow i is xs (Ok (passed_module (xs ++ y ∷ []) m, record { 0 = op } ∷ []))
        (turn_becomes e x m was xs value op q i small none s kind h k ∙ ap (λ w. decided i None w (passed_module (xs ++ y ∷ []) m) (record { 0 = op } ∷ [])) l)
        ∙ ap (behind (record { 0 = op } ∷ [])) (rest_new kind (reached_next e x m was xs value op q i small none s kind h k))
        ∙ first_stands m (record { 0 = op }) (planned e m is (xs ++ y ∷ []) (suc value) (suc op))

  all_turns : (is : List OpId) (xs : List Exchange) (value op : ℕ) → Reached m xs value op → list_all (λ (i : OpId). is_some (find_in i m.funcs)) is ≡ true →
      are_different is ≡ true → AreLeft xs is → IsTurn is xs value op
  all_turns [] xs value op q h d left = refl
  all_turns (i ∷ is) xs value op q h d left =
      let stand = and_parts (is_some (find_in i m.funcs)) _ h in
      let differ = and_parts (not (is_among i.0 (numbers_of is))) (are_different is) d in
      let s = there i stand.0 in
      by_told i is xs value op q s (number_small i stand.0) left.0
      (all_turns is xs value op q stand.1 differ.1 left.1)
      (λ kind r. all_turns is (xs ++ record { target = i; op = op; value = value; kind = kind } ∷ []) (suc value) (suc op) r stand.1 differ.1
      (still_left xs (record { target = i; op = op; value = value; kind = kind }) is left.1 (not_true (is_among i.0 (numbers_of is)) differ.0)))
      (e.breaks (type_among (scope_after s.func.params s.body.before)) s.body.target.kind)
      (e.becomes (type_among (scope_after s.func.params s.body.before)) s.body.target.kind)
      (limit_before value op (passed m.funcs)) refl refl refl
      ∙ (λ j. carried_out m (in_turn (sym (told_of e i m.funcs s) j) i (limit_before value op (passed m.funcs)) xs value op (planned e m is)))

  none_exchanged : (is : List OpId) → AreLeft [] is
  none_exchanged [] = tt
  none_exchanged (i ∷ is) = (refl, none_exchanged is)

  pub each_in_one_pass : (is : List OpId) → are_targets m is ≡ true → at_each (exchanged_at e) is m ≡ one_pass e is m
  each_in_one_pass is h =
      let parts = and_parts (list_all (λ (i : OpId). is_some (find_in i m.funcs)) is) (are_different is) h in
      ap (at_each (exchanged_at e) is) (sym (first_module m))
      ∙ all_turns is [] (fresh_value m.funcs) (fresh_op m.funcs) (reached_first m was) parts.0 parts.1 (none_exchanged is)

pub generalizing_one_pass : IsOnePass generalizing
generalizing_one_pass m is v h = each_in_one_pass generalizing generalizing_exchanges m v is h

pub interchanging_one_pass : (order : List ℕ) → IsOnePass (interchanging order)
interchanging_one_pass order m is v h = each_in_one_pass (interchanging order) (interchanging_exchanges order) m v is h
