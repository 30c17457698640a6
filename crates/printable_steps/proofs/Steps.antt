-- The files that generalizing and interchanging form are printable.
use Rattle.std.proofs.Common.{◌≡◌, ℕ, ◌||◌, ◌&&◌, ◌==◌, Bool, true, false, not, List, length, suc, Option, Some, None, refl, ap, sym, subst, leb-true}
use Rattle.std.specs.Prelude.{if◌then◌else◌, nat_le}
use Rattle.std.specs.List.{list_all, zip}
use Rattle.std.proofs.lemmas.Bool.{and_parts}
use Rattle.std.proofs.lemmas.Option.{same_Some}
use Rattle.affine_maps.specs.Map.{map_fits}
use Rattle.mlir_base.specs.declared.types.ElemTy.{ElemTy}
use Rattle.mlir_ir.specs.declared.tree.Op.{Op}
use Rattle.mlir_ir.specs.declared.tree.OpKind.{OpKind, Generic, Return}
use Rattle.mlir_ir.specs.declared.tree.Ty.{Ty}
use Rattle.mlir_ir.specs.declared.tree.ValueId.{ValueId}
use Rattle.payload_ops.specs.Payload.{payload_fits}
use Rattle.mlir_verify.specs.Constants.{Constants}
use Rattle.mlir_verify.specs.Ends.{is_return}
use Rattle.mlir_verify.specs.Limits.{is_small_type, has_few_dimensions}
use Rattle.mlir_verify.specs.Place.{Types, type_among, is_empty}
use Rattle.mlir_verify.specs.Tensors.{has_elements, is_alike, result_type}
use Rattle.mlir_verify.specs.Types.{names_present, is_input, is_typed_payload, is_typed}
use Rattle.verified_runs.specs.Edits.{Edit, anew}
use Rattle.verified_runs.specs.Forms.{Structured, kind_of, structured_of, is_generic}
use Rattle.verified_runs.specs.Fresh.{fresh_value, fresh_op}
use Rattle.verified_runs.specs.Passes.{Scope}
use Rattle.structured_steps.specs.Generalize.{generalizes, generalize}
use Rattle.structured_steps.specs.Interchange.{breaks_permutation, breaks_reduction_order, interchanged, as_generic, interchanges, interchange}
use Rattle.structured_steps.proofs.Turning.{order_of}
use Rattle.step_results.proofs.Generalized.{generalized_verifies}
use Rattle.step_results.proofs.Interchanged.{interchanged_verifies}
use Rattle.verified_runs.proofs.ReusedBodies.{or_false}
use Rattle.mlir_roundtrip.proofs.Laws.{read_is_printable}
use Rattle.printable_steps.specs.Laws.{ReadPrintable, GeneralizedPrintable, InterchangedPrintable}
use Rattle.printable_steps.proofs.Payloads.{structured_result, structured_few, interchanged_few}
use Rattle.printable_steps.proofs.Formed.{FormsPrintable, Prints, FormsOne, formed_printable}

pub read_printable : ReadPrintable
read_printable source f st = (read_is_printable source f st).printable

not_false : (b : Bool) → not b ≡ false → b ≡ true
not_false true e = refl
not_false false e = absurd cc

-- GENERALIZE
goes_on : (t : Types) (kind : OpKind) (g : Structured) → structured_of t kind ≡ Some g → is_return kind ≡ false
unfolding structured_of
goes_on t (Return values) g q = absurd cc
goes_on t kind g q = refl

one_new : (k n : ℕ) (kind : OpKind) (o : Op) (e : Edit) → Some (anew k n kind o) ≡ Some e → length e.ops ≡ 1
one_new k n kind o e q = ap (λ (d : Edit). length d.ops) (sym (same_Some (anew k n kind o) e q))

generalize_one : (k n : ℕ) → FormsOne (generalize k n)
generalize_one k n scope o e h = by_form (is_generic o.kind) (structured_of (type_among scope) o.kind) refl h where
  by_form : (b : Bool) (g : Option Structured) → structured_of (type_among scope) o.kind ≡ g → generalizes k n b g o ≡ Some e → (is_return o.kind ≡ false) × (length e.ops ≡ 1)
  by_form true g q h = absurd cc
  by_form false None q h = absurd cc
  by_form false (Some g) q h = (goes_on (type_among scope) o.kind g q, one_new k n (kind_of g) o e h)

generalize_prints : (k n : ℕ) → Prints n k (generalize k n)
generalize_prints k n scope wanted o e rows r passes small agree values one line h = by_form (is_generic o.kind) (structured_of (type_among scope) o.kind) refl h where
  by_form : (b : Bool) (g : Option Structured) → structured_of (type_among scope) o.kind ≡ g → generalizes k n b g o ≡ Some e → FormsPrintable n k o r.1 e
  by_form true g q h = absurd cc
  by_form false None q h = absurd cc
  by_form false (Some g) q h = record {
    generic = g;
    is = sym (same_Some (anew k n (kind_of g) o) e h);
    result = structured_result rows scope agree values (type_among scope) r.1 o.kind g q line;
    few = structured_few rows scope agree values r.1 o.kind g q line;
  }

pub generalized_printable : GeneralizedPrintable
generalized_printable f i printable verified =
    let k = fresh_op f.module.funcs in
    let n = fresh_value f.module.funcs in
    formed_printable f i (generalize k n) (generalize_prints k n) (generalize_one k n) printable verified (generalized_verifies f.module i verified)

-- INTERCHANGE
own_form : (t : Types) (kind : OpKind) (g : Structured) → as_generic kind ≡ Some g → structured_of t kind ≡ Some g
unfolding structured_of
own_form t (Generic maps iterators ins outs captured payload) g q = q
own_form t kind g q = absurd cc

interchange_one : (order : List ℕ) (k n : ℕ) → FormsOne (interchange order k n)
interchange_one order k n scope o e h = by_kind (as_generic o.kind) refl h where
  by_kind : (x : Option Structured) → as_generic o.kind ≡ x → interchanges order k n x o ≡ Some e → (is_return o.kind ≡ false) × (length e.ops ≡ 1)
  by_kind None q h = absurd cc
  by_kind (Some g) q h = by_rules (breaks_permutation order g || breaks_reduction_order order g) h where
    by_rules : (b : Bool) → (if b then None else Some (anew k n (kind_of (interchanged order g)) o)) ≡ Some e → (is_return o.kind ≡ false) × (length e.ops ≡ 1)
    by_rules true h = absurd cc
    by_rules false h = (goes_on (type_among scope) o.kind g (own_form (type_among scope) o.kind g q), one_new k n (kind_of (interchanged order g)) o e h)

-- a generic that passes names its dimensions alone
present : (t : Types) (c : Constants) (wanted : List Ty) (rs : Scope) (kind : OpKind) (g : Structured) → as_generic kind ≡ Some g → is_typed t c wanted rs kind ≡ true →
    list_all (λ s. names_present (length g.iterators) (length g.captured) s.op) g.payload.steps ≡ true
unfolding is_typed
present t c wanted rs (Generic maps iterators ins outs captured payload) g q h =
    let both = and_parts _ (is_alike (t outs.0) (result_type rs)) h in
    let generic = and_parts (length maps == suc (length ins) && (is_empty captured && list_all map_fits maps)) (is_typed_payload t c (length iterators) ins outs captured payload) both.0 in
    let inner = and_parts (length ins == length payload.ins && list_all (λ (x : ValueId × ElemTy). is_input (t (x.0).0) (c (x.0).0) x.1) (zip ins payload.ins)) _ generic.1 in
    let output = and_parts (has_elements (t outs.0) payload.out) _ inner.1 in
    subst (λ (g : Structured). list_all (λ s. names_present (length g.iterators) (length g.captured) s.op) g.payload.steps ≡ true) (same_Some _ g q)
    (and_parts (list_all (λ s. names_present (length iterators) (length captured) s.op) payload.steps) (payload_fits payload) output.1).0
present t c wanted rs kind g q h = absurd cc

few_dimensions : (kind : OpKind) (g : Structured) → as_generic kind ≡ Some g → has_few_dimensions kind ≡ true → nat_le (length g.iterators) 12 ≡ true
few_dimensions (Generic maps iterators ins outs captured payload) g q h = subst (λ (g : Structured). nat_le (length g.iterators) 12 ≡ true) (same_Some _ g q) h
few_dimensions kind g q h = absurd cc

interchange_prints : (order : List ℕ) (k n : ℕ) → Prints n k (interchange order k n)
interchange_prints order k n scope wanted o e rows r passes small agree values one line h = by_kind (as_generic o.kind) refl h where
  by_kind : (x : Option Structured) → as_generic o.kind ≡ x → interchanges order k n x o ≡ Some e → FormsPrintable n k o r.1 e
  by_kind None q h = absurd cc
  by_kind (Some g) q h = by_rules (breaks_permutation order g || breaks_reduction_order order g) refl h where
    by_rules : (b : Bool) → (breaks_permutation order g || breaks_reduction_order order g) ≡ b → (if b then None else Some (anew k n (kind_of (interchanged order g)) o)) ≡ Some e → FormsPrintable n k o r.1 e
    by_rules true s h = absurd cc
    by_rules false s h =
        let rules = or_false (breaks_permutation order g) (breaks_reduction_order order g) s in
        let dims = length g.iterators in
        let form = own_form (type_among scope) o.kind g q in
        let few = few_dimensions o.kind g q (and_parts (list_all (λ (x : ValueId × Ty). is_small_type x.1) o.results) (has_few_dimensions o.kind) small).1 in
        record {
          generic = interchanged order g;
          is = sym (same_Some (anew k n (kind_of (interchanged order g)) o) e h);
          result = structured_result rows scope agree values (type_among scope) r.1 o.kind g form line;
          few = interchanged_few order dims (order_of order dims (not_false _ rules.0)) (leb-true dims 12 few) (length g.captured) g
              (present (type_among scope) passes.constants wanted o.results o.kind g q passes.typed) (structured_few rows scope agree values r.1 o.kind g form line);
        }

pub interchanged_printable : InterchangedPrintable
interchanged_printable f i order printable verified =
    let k = fresh_op f.module.funcs in
    let n = fresh_value f.module.funcs in
    formed_printable f i (interchange order k n) (interchange_prints order k n) (interchange_one order k n) printable verified (interchanged_verifies f.module i order verified)
