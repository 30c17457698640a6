-- A body in which some operations give way to others is printable, line by line.
use Rattle.std.proofs.Common.{◌≡◌, ℕ, ◌<◌, ◌≤◌, ◌==◌, cond, List, [], ◌∷◌, ◌++◌, length, Some, sym, ◌∙◌, arith, lt-ltb}
use Rattle.std.proofs.lemmas.Bool.Decides.{nat_tests}
use Rattle.mlir_ir.specs.Count.{operands}
use Rattle.mlir_ir.specs.declared.tree.Op.{Op}
use Rattle.mlir_ir.specs.declared.tree.OpKind.{OpKind}
use Rattle.mlir_ir.specs.declared.tree.Ty.{Ty}
use Rattle.mlir_ir.specs.declared.tree.ValueId.{ValueId}
use Rattle.mlir_meaning.specs.Grids.{Each}
use Rattle.mlir_meaning.specs.Names.{OpsDefineOnly}
use Rattle.mlir_meaning.specs.Renaming.{defined, renamed, renamed_op, reused_ops}
use Rattle.mlir_meaning.specs.Replacement.{StandsAlone}
use Rattle.mlir_meaning.specs.States.{names_of}
use Rattle.mlir_meaning.proofs.Grids.{each_more}
use Rattle.verified_runs.specs.Fresh.{above_body, below}
use Rattle.verified_runs.specs.Passes.{Scope, scope_after}
use Rattle.verified_runs.proofs.Places.{names_below}
use Rattle.verified_runs.proofs.ReusedBodies.{results_kept}
use Rattle.mlir_print.specs.declared.names.Given.{Given}
use Rattle.mlir_print.specs.declared.names.Given.TheVariants.{Result}
use Rattle.mlir_print.specs.Names.{Names, Row, row_of}
use Rattle.mlir_print.specs.Operations.{names_after, next}
use Rattle.mlir_roundtrip.specs.Printable.{IsPrintableLine, ArePrintableOps}
use Rattle.printable_steps.proofs.Types.{typed_by, Agree, AreValues, typed_last, agree_last, values_last}
use Rattle.printable_steps.proofs.Lines.{Same, line_kept, return_kept, kind_value}

-- ONE LINE
pub opened : (n : Names) (o : Op) (rest : List Op) → 0 < length rest → ArePrintableOps n (o ∷ rest) → IsPrintableLine n.rows o.results o.kind × ArePrintableOps (next n o) rest
opened n o [] l h = absurd (omega arith)
opened n o (p ∷ os) l h = h

pub closed : (n : Names) (o : Op) (rest : List Op) → 0 < length rest → IsPrintableLine n.rows o.results o.kind → ArePrintableOps (next n o) rest → ArePrintableOps n (o ∷ rest)
closed n o [] l k h = absurd (omega arith)
closed n o (p ∷ os) l k h = (k, h)

pub agree_next : (n : Names) (scope rs : Scope) (kind : OpKind) → IsPrintableLine n.rows rs kind → Agree n.rows scope → Agree (names_after n rs kind).rows (scope ++ rs)
agree_next n scope [] kind p h = absurd p
agree_next n scope (r ∷ []) kind p h = agree_last n.rows scope r (Result n.results) h
agree_next n scope (r ∷ (s ∷ rs)) kind p h = absurd p

values_next : (n : Names) (rs : Scope) (kind : OpKind) → IsPrintableLine n.rows rs kind → AreValues n.rows → AreValues (names_after n rs kind).rows
values_next n [] kind p h = absurd p
values_next n (r ∷ []) kind p h = values_last n.rows (row_of r.0 (Result n.results) r.1) h (kind_value n.rows h r.1 kind p)
values_next n (r ∷ (s ∷ rs)) kind p h = absurd p

appended : {A : Type 0} (xs ys : List A) → 0 < length ys → 0 < length (xs ++ ys)
appended [] ys l = l
appended (x ∷ xs) ys l = omega arith

-- another end after the same front
pub front_kept : (before : List Op) (n : Names) (scope : Scope) (target : Op) (after other : List Op) → Agree n.rows scope → AreValues n.rows → 0 < length after → 0 < length other →
    ArePrintableOps n (before ++ (target ∷ after)) →
    ((m : Names) → Agree m.rows (scope_after scope before) → AreValues m.rows → IsPrintableLine m.rows target.results target.kind → ArePrintableOps (next m target) after → ArePrintableOps m other) →
    ArePrintableOps n (before ++ other)
front_kept [] n scope target after other a v l m h k = let parts = opened n target after l h in k n a v parts.0 parts.1
front_kept (o ∷ before) n scope target after other a v l m h k =
    let parts = opened n o (before ++ (target ∷ after)) (appended before (target ∷ after) (omega arith)) h in
    closed n o (before ++ other) (appended before other m) parts.0
    (front_kept before (next n o) (scope ++ o.results) target after other (agree_next n scope o.results o.kind parts.0 a) (values_next n o.results o.kind parts.0 v) l m parts.1 k)

-- USES RENAMED
module _ (n : ℕ) (f : ℕ → ℕ) where
  -- the second rows have the types of the first under the numbers that f gives
  abbrev pub Follows : List Row → List Row → Type 0
  Follows rows other = (v : ℕ) → v < n → typed_by other (f v) ≡ typed_by rows v

  turned_eqb : (a b : ℕ) → (a == b) ≡ (b == a)
  turned_eqb a b = grind (arith, nat_tests)

  follows_last : (rows other : List Row) (r : ValueId × Ty) (g h : Given) → Follows rows other → StandsAlone (below n) f (r.0).0 →
      Follows (rows ++ row_of r.0 g r.1 ∷ []) (other ++ row_of r.0 h r.1 ∷ [])
  follows_last rows other r g h k alone v l =
      let same : (((r.0).0) == f v) ≡ ((r.0).0 == v) = turned_eqb (r.0).0 (f v) ∙ alone v (lt-ltb v n l) ∙ turned_eqb v (r.0).0 in
      typed_last other (row_of r.0 h r.1) (f v) ∙ (λ j. cond (same j) (Some r.1) (k v l j)) ∙ sym (typed_last rows (row_of r.0 g r.1) v)

  next_follows : (x y : Names) (rs : Scope) (kind other : OpKind) → Follows x.rows y.rows → Each (λ (v : ValueId). StandsAlone (below n) f v.0) (names_of rs) →
      Follows (names_after x rs kind).rows (names_after y (defined (λ k. k) f (λ k. k) rs) other).rows
  next_follows x y [] kind other h alone = h
  next_follows x y (r ∷ []) kind other h alone = follows_last x.rows y.rows r (Result x.results) (Result y.results) h alone.0
  next_follows x y (r ∷ (s ∷ rs)) kind other h alone = h

  used_same : (rows other : List Row) → Follows rows other → (o : Op) → Each (λ (v : ValueId). v.0 < n) (operands o.kind) → Each (Same f rows other) (operands o.kind)
  used_same rows other h o small = each_more (λ (v : ValueId). v.0 < n) (Same f rows other) (λ v l. h v.0 l) (operands o.kind) small

  -- what follows
  pub rest_kept : (os : List Op) (x y : Names) → Follows x.rows y.rows → OpsDefineOnly (StandsAlone (below n) f) os → above_body os ≤ n → ArePrintableOps x os → ArePrintableOps y (reused_ops f os)
  rest_kept [] x y h alone l p = absurd p
  rest_kept (o ∷ []) x y h alone l p = (results_kept f o.results ∙ p.0, return_kept f x.rows y.rows o.kind (used_same x.rows y.rows h o (names_below n (operands o.kind) (omega arith))) p.1)
  rest_kept (o ∷ (q ∷ os)) x y h alone l p = (
    line_kept f x.rows y.rows o.results o.kind (used_same x.rows y.rows h o (names_below n (operands o.kind) (omega arith))) p.0,
    rest_kept (q ∷ os) (next x o) (next y (renamed_op (λ k. k) f (λ k. k) o)) (next_follows x y o.results o.kind (renamed (λ k. k) f (λ k. k) o.kind) h (alone.0).0) alone.1 (omega arith) p.1,
  )
