-- A function with other numbers for its operations and values has the same meaning.
use Rattle.std.proofs.Common.{◌≡◌, ℕ, ◌==◌, Bool, true, List, map, ⊎_elim, refl, ap, sym, ◌∙◌, subst}
use Rattle.std.proofs.lemmas.Bool.{eq-eqb, ne_eqb}
use Rattle.std.proofs.lemmas.Bool.Decides.{eqb_tells}
use Rattle.mlir_ir.specs.Shape.{FuncShape, TensorShape}
use Rattle.mlir_ir.specs.declared.tree.ValueId.{ValueId}
use Rattle.mlir_meaning.specs.Grids.{Each}
use Rattle.mlir_meaning.specs.States.{Bits, Outcome, Goes, Ends, Fails, set_all, names_of}
use Rattle.mlir_meaning.specs.Meaning.{datum_of, initial_state, answer_of, meaning}
use Rattle.mlir_meaning.specs.Names.{NamesOnly, IsInjectiveOn}
use Rattle.mlir_meaning.specs.Renaming.{defined, renamed_func}
use Rattle.mlir_meaning.specs.Laws.{RenamingKeepsMeaning}
use Rattle.mlir_meaning.proofs.Defining.{ops_more}
use Rattle.mlir_meaning.proofs.Grids.{each_more}
use Rattle.mlir_meaning.proofs.Through.{Lasts, AllLast, SameValues, Agree, Alike, set_all-same, names-defined, through_run}

module _ (N : ℕ → Bool) (ids f : ℕ → ℕ) (injective : IsInjectiveOn N f) where
  -- a test on numbers of the set has the same answer afterwards
  test_same : (v w : ℕ) → N v ≡ true → N w ≡ true → (f v == f w) ≡ (v == w)
  test_same v w hv hw =
      ⊎_elim (λ t. eq-eqb (f v) (f w) (ap f t.1) ∙ sym t.0) (λ t. ne_eqb (f v) (f w) (λ e. t.1 (injective v w hv hw e)) ∙ sym t.0) (eqb_tells v w)

  lasts : (v : ℕ) → N v ≡ true → Lasts N ids f f v
  lasts v h = (λ w r. test_same w v r h, λ w r. test_same v w h r)

  all_last : (vs : List ValueId) → Each (λ (v : ValueId). N v.0 ≡ true) vs → AllLast N ids f f vs
  all_last = each_more (λ (v : ValueId). N v.0 ≡ true) (λ v. Lasts N ids f f v.0) (λ v. lasts v.0)

  answers_same : (o p : Outcome) → Alike N ids f f o p → answer_of o ≡ answer_of p
  answers_same (Goes s) (Goes t) a = refl
  answers_same (Ends ds) (Ends es) a = ap (λ x. answer_of (Ends x)) a
  answers_same (Fails x) (Fails y) a = ap (λ z. answer_of (Fails z)) a
  answers_same (Goes s) (Ends es) a = absurd a
  answers_same (Goes s) (Fails y) a = absurd a
  answers_same (Ends ds) (Goes t) a = absurd a
  answers_same (Ends ds) (Fails y) a = absurd a
  answers_same (Fails x) (Goes t) a = absurd a
  answers_same (Fails x) (Ends es) a = absurd a

  begins : (func : FuncShape) (inputs : List TensorShape) → NamesOnly N func →
      Agree N ids f f (initial_state func.params inputs) (initial_state (defined ids f f func.params) inputs)
  begins func inputs h = record {
    values = subst (λ vs. SameValues N ids f f (set_all (λ _. Bits 0) (names_of func.params) (map datum_of inputs)) (set_all (λ _. Bits 0) vs (map datum_of inputs))) (names-defined N ids f f func.params)
        (set_all-same N ids f f (names_of func.params) (map datum_of inputs) (λ _. Bits 0) (λ _. Bits 0) (all_last (names_of func.params) h.params) (λ v r. refl));
    shared = refl;
    apart = tt;
    inserts = refl;
  }

  keeps : (func : FuncShape) (inputs : List TensorShape) → NamesOnly N func → meaning (renamed_func ids f func) inputs ≡ meaning func inputs
  unfolding meaning
  keeps func inputs h =
      sym (answers_same _ _ (through_run N ids f f func.body _ _ h.reads (ops_more (λ v. N v ≡ true) (Lasts N ids f f) lasts func.body h.defines) (begins func inputs h)))

pub renaming_keeps : RenamingKeepsMeaning
renaming_keeps N ids f func inputs h injective = keeps N ids f injective func inputs h
