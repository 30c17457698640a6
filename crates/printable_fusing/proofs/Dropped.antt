-- A body without a definition that nothing in it uses is printable as it was before.
use Rattle.std.proofs.Common.{◌≡◌, ◌≢◌, ℕ, ◌<◌, Bool, true, cond, List, [], ◌∷◌, ◌++◌, length, Some, sym, subst, ◌∙◌, arith, eq-eqb, nat_eq}
use Rattle.std.specs.Prelude.{not}
use Rattle.std.proofs.lemmas.Bool.{ne_eqb, false≢true}
use Rattle.mlir_ir.specs.Count.{operands}
use Rattle.mlir_ir.specs.declared.tree.Op.{Op}
use Rattle.mlir_ir.specs.declared.tree.OpKind.{OpKind, For', Forall'}
use Rattle.mlir_ir.specs.declared.tree.Ty.{Ty}
use Rattle.mlir_ir.specs.declared.tree.ValueId.{ValueId}
use Rattle.mlir_meaning.specs.Grids.{Each}
use Rattle.mlir_meaning.specs.Laws.{all_but}
use Rattle.mlir_meaning.specs.Names.{AreIn, ReadsOnly, OpsReadOnly}
use Rattle.mlir_meaning.specs.Renaming.{renamed}
use Rattle.mlir_meaning.proofs.Grids.{each_more}
use Rattle.mlir_meaning.proofs.Identity.{same, defined-id, renamed-id}
use Rattle.verified_runs.specs.Passes.{Scope, scope_after}
use Rattle.mlir_print.specs.declared.names.Given.{Given}
use Rattle.mlir_print.specs.declared.names.Given.TheVariants.{Result}
use Rattle.mlir_print.specs.Names.{Names, Row, row_of}
use Rattle.mlir_print.specs.Operations.{names_after, next}
use Rattle.mlir_roundtrip.specs.Printable.{IsPrintableLine, IsPrintableReturn, ArePrintableOps}
use Rattle.printable_steps.proofs.Types.{typed_by, Agree, typed_last}
use Rattle.printable_steps.proofs.Lines.{Same, line_kept, return_kept}
use Rattle.printable_steps.proofs.Bodies.{opened, closed, agree_next}

appended : {A : Type 0} (xs ys : List A) → 0 < length ys → 0 < length (xs ++ ys)
appended [] ys l = l
appended (x ∷ xs) ys l = omega arith

reads_of : (N : ℕ → Bool) (kind : OpKind) → ReadsOnly N kind → AreIn N (operands kind)
unfolding ReadsOnly
reads_of N (For' var lower upper step carried shape row) h = h.0
reads_of N (Forall' vars lower upper step shared shape row) h = h.0
reads_of N kind h = h

module _ (r : ValueId) where
  -- the second rows give the types of the first, but for value r
  abbrev pub Drops : List Row → List Row → Type 0
  Drops rows other = (v : ℕ) → all_but r v ≡ true → typed_by other v ≡ typed_by rows v

  another : (v : ℕ) → all_but r v ≡ true → r.0 ≢ v
  another v h e = false≢true (sym (λ j. not (eq-eqb v r.0 (sym e) j)) ∙ h)

  pub drops_one : (rows : List Row) (g : Given) (ty : Ty) → Drops (rows ++ row_of r g ty ∷ []) rows
  drops_one rows g ty v h = sym (typed_last rows (row_of r g ty) v ∙ (λ j. cond (ne_eqb r.0 v (another v h) j) (Some ty) (typed_by rows v)))

  pub drops_next : (x y : Names) (rs : Scope) (old new : OpKind) → Drops x.rows y.rows →
      Drops (names_after x rs old).rows (names_after y rs new).rows
  drops_next x y [] old new d = d
  drops_next x y (q ∷ []) old new d = λ v h.
      typed_last y.rows (row_of q.0 (Result y.results) q.1) v ∙ (λ j. cond (nat_eq (q.0).0 v) (Some q.1) (d v h j))
      ∙ sym (typed_last x.rows (row_of q.0 (Result x.results) q.1) v)
  drops_next x y (q ∷ (s ∷ rs)) old new d = d

  used_same : (rows other : List Row) (kind : OpKind) → Drops rows other → ReadsOnly (all_but r) kind →
      Each (Same same rows other) (operands kind)
  used_same rows other kind d reads =
      each_more (λ (v : ValueId). all_but r v.0 ≡ true) (Same same rows other) (λ v h. d v.0 h) (operands kind)
      (reads_of (all_but r) kind reads)

  line_dropped : (rows other : List Row) (rs : Scope) (kind : OpKind) → Drops rows other → ReadsOnly (all_but r) kind →
      IsPrintableLine rows rs kind → IsPrintableLine other rs kind
  line_dropped rows other rs kind d reads p =
      subst (IsPrintableLine other rs) (renamed-id kind)
      (subst (λ qs. IsPrintableLine other qs (renamed same same same kind)) (defined-id rs)
      (line_kept same rows other rs kind (used_same rows other kind d reads) p))

  return_dropped : (rows other : List Row) (kind : OpKind) → Drops rows other → ReadsOnly (all_but r) kind →
      IsPrintableReturn rows kind → IsPrintableReturn other kind
  return_dropped rows other kind d reads p =
      subst (IsPrintableReturn other) (renamed-id kind) (return_kept same rows other kind (used_same rows other kind d reads) p)

  -- what follows
  pub rest_dropped : (os : List Op) (x y : Names) → Drops x.rows y.rows → OpsReadOnly (all_but r) os →
      ArePrintableOps x os → ArePrintableOps y os
  rest_dropped [] x y d reads p = absurd p
  rest_dropped (o ∷ []) x y d reads p = (p.0, return_dropped x.rows y.rows o.kind d reads.0 p.1)
  rest_dropped (o ∷ (q ∷ os)) x y d reads p = (
    line_dropped x.rows y.rows o.results o.kind d reads.0 p.0,
    rest_dropped (q ∷ os) (next x o) (next y o) (drops_next x y o.results o.kind o.kind d) reads.1 p.1,
  )

  -- another end after the same operations, whose definitions are in scope
  pub mid_dropped : (mid : List Op) (x y : Names) (scope : Scope) (target : Op) (after other : List Op) →
      Drops x.rows y.rows → Agree y.rows scope → OpsReadOnly (all_but r) mid →
      0 < length after → 0 < length other → ArePrintableOps x (mid ++ (target ∷ after)) →
      ((v w : Names) → Drops v.rows w.rows → Agree w.rows (scope_after scope mid) → IsPrintableLine v.rows target.results target.kind →
      ArePrintableOps (next v target) after → ArePrintableOps w other) →
      ArePrintableOps y (mid ++ other)
  mid_dropped [] x y scope target after other d a reads l m p end = let parts = opened x target after l p in end x y d a parts.0 parts.1
  mid_dropped (o ∷ mid) x y scope target after other d a reads l m p end =
      let parts = opened x o (mid ++ (target ∷ after)) (appended mid (target ∷ after) (omega arith)) p in
      let line = line_dropped x.rows y.rows o.results o.kind d reads.0 parts.0 in
      closed y o (mid ++ other) (appended mid other m) line
      (mid_dropped mid (next x o) (next y o) (scope ++ o.results) target after other (drops_next x y o.results o.kind o.kind d)
      (agree_next y scope o.results o.kind line a) reads.1 l m parts.1 end)
