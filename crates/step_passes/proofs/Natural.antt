-- What a step that exchanges operations owes, and that generalizing and interchanging owe it.
use Rattle.std.proofs.Common.{◌≡◌, ℕ, ◌==◌, ◌||◌, Bool, true, false, List, [], ◌∷◌, length, Option, Some, None, refl, ap, sym, subst, ◌∙◌}
use Rattle.std.specs.Prelude.{is_some, is_none, not, nat_lt, option_map, if◌then◌else◌}
use Rattle.std.proofs.lemmas.List.{length-map}
use Rattle.std.proofs.lemmas.Option.{same_Some}
use Rattle.mlir_ir.specs.Count.{operands}
use Rattle.mlir_ir.specs.declared.tree.Module.{Module}
use Rattle.mlir_ir.specs.declared.tree.OpId.{OpId}
use Rattle.mlir_ir.specs.declared.tree.OpKind.{OpKind, Generic, Fill, Matmul, BatchMatmul, Transpose, Broadcast}
use Rattle.mlir_ir.specs.declared.tree.Op.{Op}
use Rattle.mlir_ir.specs.declared.tree.Ty.{Ty}
use Rattle.mlir_meaning.specs.Renaming.{value, values, renamed}
use Rattle.mlir_meaning.specs.Structured.{fill_form, matmul_form, batch_matmul_form, transpose_form, broadcast_form, multiply_add_steps}
use Rattle.mlir_meaning.specs.Structured as forms
use Rattle.payload_ops.specs.declared.kinds.BinOp.TheVariants.{Addi, Muli, Andi, Ori}
use Rattle.payload_ops.specs.declared.step.Arg.TheVariants.{Input, Out, Step}
use Rattle.payload_ops.specs.declared.step.StepOp.TheVariants.{Binary, SignExtend}
use Rattle.mlir_verify.specs.Built.{is_built_kind}
use Rattle.mlir_verify.specs.Constants.{Constants}
use Rattle.mlir_verify.specs.Place.{Types, type_among}
use Rattle.mlir_verify.specs.Rules.{IsVerified}
use Rattle.mlir_verify.specs.Tensors.{rank_of}
use Rattle.mlir_verify.specs.Types.{is_typed}
use Rattle.verified_runs.specs.Edits.{anew}
use Rattle.verified_runs.specs.Edits as edits
use Rattle.verified_runs.specs.Forms.{Structured, kind_of, of_form, structured_of, is_generic, width_in}
use Rattle.verified_runs.specs.Fresh.{fresh_value, fresh_op}
use Rattle.verified_runs.specs.Passes.{Scope}
use Rattle.verified_runs.proofs.Results.{HasOne}
use Rattle.structured_steps.specs.declared.rule.StepRule.TheVariants.{WrongKind, Permutation, ReductionOrder}
use Rattle.structured_steps.specs.Generalize.{generalizes, generalize}
use Rattle.structured_steps.specs.Interchange.{as_generic, breaks_permutation, breaks_reduction_order, interchanged, interchanges, interchange, turned_step}
use Rattle.structured_steps.specs.Steps.{broken_order, formed}
use Rattle.step_results.proofs.Anew.{structured_one}
use Rattle.rewrite_base.specs.Limits.{has_long_payload}
use Rattle.rewrite_base.proofs.Verifies.{generalized_verifies, interchanged_verifies}
use Rattle.step_passes.specs.Exchanging.{Exchanging, step_of, formed_by}
use Rattle.step_passes.specs.OnePass.{Names}
use Rattle.step_passes.specs.Steps.{generic_of, generalizing, turned_of, interchanging}
use Rattle.step_passes.proofs.Placed.{kind_reused, AreRetyped, IsNatural}

pub record IsExchanging (e : Exchanging) : Type 0 where
  pub natural : IsNatural e
  pub decides : (t : Types) (kind : OpKind) → e.breaks t kind ≡ None → e.stays kind ≡ is_none (e.becomes t kind)
  pub one : (t : Types) (c : Constants) (wanted : List Ty) (rs : Scope) (kind new : OpKind) → e.becomes t kind ≡ Some new → is_typed t c wanted rs kind ≡ true → HasOne rs
  pub built : (t : Types) (kind new : OpKind) → e.becomes t kind ≡ Some new → is_built_kind new ≡ true
  pub reads : (t : Types) (kind new : OpKind) → e.becomes t kind ≡ Some new → operands new ≡ operands kind
  pub payloads : (t : Types) (kind new : OpKind) → e.becomes t kind ≡ Some new → has_long_payload new ≡ has_long_payload kind
  pub verifies : (m : Module) (i : OpId) → IsVerified m → IsVerified (formed_by e i m)

-- STRUCTURED OPERATIONS WITH OTHER NAMES
abbrev structured_reused : Names → Structured → Structured
structured_reused g s = record { maps = s.maps; iterators = s.iterators; ins = values g s.ins; outs = value g s.outs; captured = values g s.captured; payload = s.payload }

kind_of_reused : (g : Names) (s : Structured) → kind_of (structured_reused g s) ≡ kind_reused g (kind_of s)
unfolding renamed
kind_of_reused g s = refl

form_reused : (g : Names) (t u : Types) (kind : OpKind) → AreRetyped g t u kind → structured_of u (kind_reused g kind) ≡ option_map (structured_reused g) (structured_of t kind)
unfolding structured_of renamed
form_reused g t u (Generic maps iterators ins outs captured payload) h = refl
form_reused g t u (Fill v outs) h = λ j. Some (of_form (fill_form (width_in (h.1.0 j)) (rank_of (h.1.0 j))) (value g v ∷ []) (value g outs))
form_reused g t u (Matmul x y outs) h = λ j. Some (of_form (matmul_form (width_in (h.0 j)) (width_in (h.1.1.0 j))) (value g x ∷ value g y ∷ []) (value g outs))
form_reused g t u (BatchMatmul x y outs) h = λ j. Some (of_form (batch_matmul_form (width_in (h.0 j)) (width_in (h.1.1.0 j))) (value g x ∷ value g y ∷ []) (value g outs))
form_reused g t u (Transpose source outs order) h = λ j. Some (of_form (transpose_form (width_in (h.1.0 j)) order) (value g source ∷ []) (value g outs))
form_reused g t u (Broadcast source outs dims) h = λ j. Some (of_form (broadcast_form (width_in (h.1.0 j)) (rank_of (h.1.0 j)) dims) (value g source ∷ []) (value g outs))
form_reused g t u kind h = refl

generic_reused : (g : Names) (kind : OpKind) → is_generic (kind_reused g kind) ≡ is_generic kind
unfolding renamed
generic_reused g (Generic maps iterators ins outs captured payload) = refl
generic_reused g kind = refl

as_reused : (g : Names) (kind : OpKind) → as_generic (kind_reused g kind) ≡ option_map (structured_reused g) (as_generic kind)
unfolding renamed
as_reused g (Generic maps iterators ins outs captured payload) = refl
as_reused g kind = refl

-- GENERALIZING
generalizing_natural : IsNatural generalizing
generalizing_natural = record {
  breaks = λ g t u kind h. (λ j. if not (is_some (form_reused g t u kind h j)) then Some WrongKind else None) ∙ some_same g (structured_of t kind);
  stays = generic_reused;
  becomes = λ g t u kind h. (λ j. generic_of (generic_reused g kind j) (form_reused g t u kind h j)) ∙ becomes_same g (is_generic kind) (structured_of t kind);
} where
  some_same : (g : Names) (s : Option Structured) → (if not (is_some (option_map (structured_reused g) s)) then Some WrongKind else None) ≡ (if not (is_some s) then Some WrongKind else None)
  some_same g None = refl
  some_same g (Some s) = refl

  becomes_same : (g : Names) (b : Bool) (s : Option Structured) → generic_of b (option_map (structured_reused g) s) ≡ option_map (kind_reused g) (generic_of b s)
  becomes_same g true s = refl
  becomes_same g false None = refl
  becomes_same g false (Some s) = ap Some (kind_of_reused g s)

-- the form of what becomes a generic
formed_from : (b : Bool) (s : Option Structured) (new : OpKind) → generic_of b s ≡ Some new → (g : Structured) × (s ≡ Some g) × (kind_of g ≡ new)
formed_from true s new h = absurd cc
formed_from false None new h = absurd cc
formed_from false (Some g) new h = (g, refl, same_Some (kind_of g) new h)

same_operands : (t : Types) (kind : OpKind) (g : Structured) → structured_of t kind ≡ Some g → operands (kind_of g) ≡ operands kind
unfolding structured_of
same_operands t (Generic maps iterators ins outs captured payload) g e = ap (λ (x : Structured). operands (kind_of x)) (sym (same_Some _ g e))
same_operands t (Fill value outs) g e = ap (λ (x : Structured). operands (kind_of x)) (sym (same_Some _ g e))
same_operands t (Matmul a b outs) g e = ap (λ (x : Structured). operands (kind_of x)) (sym (same_Some _ g e))
same_operands t (BatchMatmul a b outs) g e = ap (λ (x : Structured). operands (kind_of x)) (sym (same_Some _ g e))
same_operands t (Transpose source outs order) g e = ap (λ (x : Structured). operands (kind_of x)) (sym (same_Some _ g e))
same_operands t (Broadcast source outs dims) g e = ap (λ (x : Structured). operands (kind_of x)) (sym (same_Some _ g e))
same_operands t kind g e = absurd cc

few_steps : (narrow width : ℕ) → nat_lt 1024 (length (multiply_add_steps narrow width)) ≡ false
few_steps narrow width = by_tests (width == 1) (nat_lt narrow width) where
  by_tests : (a b : Bool) →
      nat_lt 1024 (length
      (if a then forms.step_of 1 (Binary Andi (Input 0) (Input 1)) ∷ forms.step_of 1 (Binary Ori Out (Step 0)) ∷ []
      else if b then
      forms.step_of width (SignExtend (Input 0)) ∷ forms.step_of width (SignExtend (Input 1)) ∷ forms.step_of width (Binary Muli (Step 0) (Step 1))
      ∷ forms.step_of width (Binary Addi Out (Step 2)) ∷ []
      else forms.step_of width (Binary Muli (Input 0) (Input 1)) ∷ forms.step_of width (Binary Addi Out (Step 0)) ∷ [])) ≡ false
  by_tests true b = refl
  by_tests false true = refl
  by_tests false false = refl

same_payload : (t : Types) (kind : OpKind) (g : Structured) → structured_of t kind ≡ Some g → has_long_payload (kind_of g) ≡ has_long_payload kind
unfolding structured_of fill_form matmul_form batch_matmul_form transpose_form broadcast_form
same_payload t (Generic maps iterators ins outs captured payload) g e = ap (λ (x : Structured). has_long_payload (kind_of x)) (sym (same_Some _ g e))
same_payload t (Fill value outs) g e = ap (λ (x : Structured). has_long_payload (kind_of x)) (sym (same_Some _ g e))
same_payload t (Matmul a b outs) g e = ap (λ (x : Structured). has_long_payload (kind_of x)) (sym (same_Some _ g e)) ∙ few_steps (width_in (t a.0)) (width_in (t outs.0))
same_payload t (BatchMatmul a b outs) g e = ap (λ (x : Structured). has_long_payload (kind_of x)) (sym (same_Some _ g e)) ∙ few_steps (width_in (t a.0)) (width_in (t outs.0))
same_payload t (Transpose source outs order) g e = ap (λ (x : Structured). has_long_payload (kind_of x)) (sym (same_Some _ g e))
same_payload t (Broadcast source outs dims) g e = ap (λ (x : Structured). has_long_payload (kind_of x)) (sym (same_Some _ g e))
same_payload t kind g e = absurd cc

pub generalizing_step : (op value : ℕ) → generalize op value ≡ step_of generalizing op value
generalizing_step op value = λ j scope o. by_form (is_generic o.kind) (structured_of (type_among scope) o.kind) o j where
  by_form : (b : Bool) (s : Option Structured) (o : Op) → generalizes op value b s o ≡ option_map (λ kind. anew op value kind o) (generic_of b s)
  by_form true s o = refl
  by_form false None o = refl
  by_form false (Some g) o = refl

pub generalizing_exchanges : IsExchanging generalizing
generalizing_exchanges = record {
  natural = generalizing_natural;
  decides = λ t kind h. decides_by (is_generic kind) (structured_of t kind) h;
  one = λ t c wanted rs kind new h typed. let x = formed_from (is_generic kind) (structured_of t kind) new h in structured_one t c wanted rs kind x.0 x.1 typed;
  built = λ t kind new h. let x = formed_from (is_generic kind) (structured_of t kind) new h in ap is_built_kind (sym x.2);
  reads = λ t kind new h. let x = formed_from (is_generic kind) (structured_of t kind) new h in ap operands (sym x.2) ∙ same_operands t kind x.0 x.1;
  payloads = λ t kind new h. let x = formed_from (is_generic kind) (structured_of t kind) new h in ap has_long_payload (sym x.2) ∙ same_payload t kind x.0 x.1;
  verifies = λ m i v. subst (λ (s : edits.Step). IsVerified (formed i s m)) (generalizing_step (fresh_op m.funcs) (fresh_value m.funcs)) (generalized_verifies m i v);
} where
  decides_by : (b : Bool) (s : Option Structured) → (if not (is_some s) then Some WrongKind else None) ≡ None → b ≡ is_none (generic_of b s)
  decides_by true s h = refl
  decides_by false None h = absurd cc
  decides_by false (Some g) h = refl

-- INTERCHANGING
module _ (order : List ℕ) where
  interchanging_natural : IsNatural (interchanging order)
  interchanging_natural = record {
    breaks = λ g t u kind h. ap (broken_order order) (as_reused g kind) ∙ rule_same g (as_generic kind);
    stays = λ g kind. refl;
    becomes = λ g t u kind h. ap (turned_of order) (as_reused g kind) ∙ becomes_same g (as_generic kind);
  } where
    rule_same : (g : Names) (s : Option Structured) → broken_order order (option_map (structured_reused g) s) ≡ broken_order order s
    rule_same g None = refl
    rule_same g (Some s) = refl

    by_rules : (g : Names) (b : Bool) (s : Structured) → (if b then None else Some (kind_of (structured_reused g s))) ≡ option_map (kind_reused g) (if b then None else Some (kind_of s))
    by_rules g true s = refl
    by_rules g false s = ap Some (kind_of_reused g s)

    becomes_same : (g : Names) (s : Option Structured) → turned_of order (option_map (structured_reused g) s) ≡ option_map (kind_reused g) (turned_of order s)
    becomes_same g None = refl
    becomes_same g (Some s) = by_rules g (breaks_permutation order s || breaks_reduction_order order s) (interchanged order s)

  turned_from : (s : Option Structured) (new : OpKind) → turned_of order s ≡ Some new → (g : Structured) × (s ≡ Some g) × (kind_of (interchanged order g) ≡ new)
  turned_from None new h = absurd cc
  turned_from (Some g) new h = by_rules (breaks_permutation order g || breaks_reduction_order order g) h where
    by_rules : (b : Bool) → (if b then None else Some (kind_of (interchanged order g))) ≡ Some new → (x : Structured) × (Some g ≡ Some x) × (kind_of (interchanged order x) ≡ new)
    by_rules true q = absurd cc
    by_rules false q = (g, refl, same_Some (kind_of (interchanged order g)) new q)

  as_generic_is : (kind : OpKind) (g : Structured) → as_generic kind ≡ Some g → kind ≡ kind_of g
  as_generic_is (Generic maps iterators ins outs captured payload) g e = ap kind_of (same_Some _ g e)
  as_generic_is kind g e = absurd cc

  own_form : (t : Types) (s : Structured) → structured_of t (kind_of s) ≡ Some s
  unfolding structured_of
  own_form t s = refl

  pub interchanging_step : (op value : ℕ) → interchange order op value ≡ step_of (interchanging order) op value
  interchanging_step op value = λ j scope o. by_form (as_generic o.kind) o j where
    by_rules : (b : Bool) (g : Structured) (o : Op) → (if b then None else Some (anew op value (kind_of (interchanged order g)) o)) ≡ option_map (λ kind. anew op value kind o) (if b then None else Some (kind_of (interchanged order g)))
    by_rules true g o = refl
    by_rules false g o = refl

    by_form : (s : Option Structured) (o : Op) → interchanges order op value s o ≡ option_map (λ kind. anew op value kind o) (turned_of order s)
    by_form None o = refl
    by_form (Some g) o = by_rules (breaks_permutation order g || breaks_reduction_order order g) g o

  pub interchanging_exchanges : IsExchanging (interchanging order)
  interchanging_exchanges = record {
    natural = interchanging_natural;
    decides = λ t kind h. decides_by (as_generic kind) h;
    one = λ t c wanted rs kind new h typed.
        let x = turned_from (as_generic kind) new h in
        structured_one t c wanted rs kind x.0 (ap (structured_of t) (as_generic_is kind x.0 x.1) ∙ own_form t x.0) typed;
    built = λ t kind new h. let x = turned_from (as_generic kind) new h in ap is_built_kind (sym x.2);
    reads = λ t kind new h. let x = turned_from (as_generic kind) new h in ap operands (sym x.2) ∙ ap operands (sym (as_generic_is kind x.0 x.1));
    payloads = λ t kind new h.
        let x = turned_from (as_generic kind) new h in
        ap has_long_payload (sym x.2) ∙ ap (nat_lt 1024) (length-map (x.0).payload.steps (turned_step order)) ∙ ap has_long_payload (sym (as_generic_is kind x.0 x.1));
    verifies = λ m i v. subst (λ (s : edits.Step). IsVerified (formed i s m)) (interchanging_step (fresh_op m.funcs) (fresh_value m.funcs)) (interchanged_verifies m i order v);
  } where
    by_rules : (a b : Bool) (g : Structured) → (if a then Some Permutation else (if b then Some ReductionOrder else None)) ≡ None → false ≡ is_none (if a || b then None else Some (kind_of (interchanged order g)))
    by_rules true b g h = absurd cc
    by_rules false true g h = absurd cc
    by_rules false false g h = refl

    decides_by : (s : Option Structured) → broken_order order s ≡ None → false ≡ is_none (turned_of order s)
    decides_by None h = absurd cc
    decides_by (Some g) h = by_rules (breaks_permutation order g) (breaks_reduction_order order g) g h
