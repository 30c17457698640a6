-- What a producer gave still stands where later operations run, and so do its operands.
use Rattle.std.proofs.Common.{◌≡◌, ◌≢◌, List, [], ◌∷◌, ◌++◌, length, Some}
use Rattle.mlir_ir.specs.declared.tree.Op.{Op}
use Rattle.mlir_ir.specs.declared.tree.Ty.{Ty}
use Rattle.mlir_ir.specs.declared.tree.ValueId.{ValueId}
use Rattle.mlir_meaning.specs.Grids.{Each}
use Rattle.mlir_meaning.specs.Meaning.{kind_meaning, run, values_in, captured_in}
use Rattle.mlir_meaning.specs.States.{State, Goes, made}
use Rattle.mlir_meaning.specs.Structured.{generic_result}
use Rattle.mlir_meaning.specs.declared.values.Datum.{Datum}
use Rattle.mlir_meaning.proofs.Held.{Untouched, generic_decided}
use Rattle.mlir_meaning.proofs.Held as held
use Rattle.verified_runs.specs.Forms.{Structured, kind_of}
use Rattle.pair_laws.specs.Pairs.{result_in}

module _ (g : Structured) (o : Op) (r : ValueId) (ty : Ty) (mid : List Op) (kind : o.kind ≡ kind_of g) (results : o.results ≡ (r, ty) ∷ [])
    (own : Each (λ (v : ValueId). v.0 ≢ r.0) (g.ins ++ (g.outs ∷ g.captured))) (later : Each (Untouched mid) (g.ins ++ (g.outs ∷ g.captured))) (later_result : Untouched mid r) where
  means : (s : State) → kind_meaning o.kind o.results s ≡ made ((r, ty) ∷ []) s (result_in g s)
  unfolding kind_meaning
  means s = λ j. kind_meaning (kind j) (results j) s

  -- the producer ran in state s, and the run came to state u
  pub still_holds : (s u : State) → run (o ∷ mid) s ≡ Goes u → (d : Datum) × (result_in g u ≡ Some d) × (u.values r.0 ≡ d)
  still_holds =
      held.still_holds o r ty (g.ins ++ (g.outs ∷ g.captured))
      (λ e. generic_result g.maps (length g.iterators) (values_in e g.ins) (e g.outs.0) (captured_in e g.captured) g.payload)
      (generic_decided g.maps (length g.iterators) g.ins g.outs g.captured g.payload) means mid own later later_result
