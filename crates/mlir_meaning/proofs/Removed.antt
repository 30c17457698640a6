-- Operations in the place of others that run alike, and none in the place of one that nothing reads.
use Rattle.std.proofs.Common.{◌≡◌, ◌≢◌, true, false, List, [], ◌∷◌, refl, ap, sym, subst, ◌∙◌}
use Rattle.std.proofs.lemmas.Bool.{true≢false}
use Rattle.mlir_ir.specs.Count.{operands}
use Rattle.mlir_ir.specs.declared.tree.Op.{Op}
use Rattle.mlir_ir.specs.declared.tree.OpKind.{OpKind, For', Forall', Row_of-Op, end_of-Op, more_of-Op}
use Rattle.mlir_ir.specs.declared.tree.ValueId.{ValueId}
use Rattle.mlir_meaning.specs.States.{Outcome, Goes, Ends, Fails, names_of}
use Rattle.mlir_meaning.specs.Meaning.{run}
use Rattle.mlir_meaning.specs.Contexts.{Context, Here, InFor, InForall}
use Rattle.mlir_meaning.specs.Names.{AreIn, ReadsOnly, RowReadsOnly, OpsReadOnly, AlikeOn}
use Rattle.mlir_meaning.specs.Laws.{InPlaceKeepsMeaning, RemovalKeepsMeaning}
use Rattle.mlir_meaning.specs.Replacement.{AroundReadsOnly, for_operands, forall_operands}
use Rattle.mlir_meaning.proofs.Defining.{each_any}
use Rattle.mlir_meaning.proofs.Grids.{each_more}
use Rattle.mlir_meaning.proofs.Keeps.{keeps_others}
use Rattle.mlir_meaning.proofs.Replaced.{context_keeps}
use Rattle.mlir_meaning.proofs.States.{all, same_states}

any_in : (vs : List ValueId) → AreIn all vs
any_in = each_any (λ (v : ValueId). all v.0 ≡ true) (λ v. refl)

mutual
  unfolding ReadsOnly

  reads_any : (kind : OpKind) → ReadsOnly all kind
  reads_any (For' var lower upper step carried shape row) = (any_in (operands (For' var lower upper step carried shape row)), row_any row)
  reads_any (Forall' vars lower upper step shared shape row) = (any_in (operands (Forall' vars lower upper step shared shape row)), row_any row)
  reads_any kind = any_in (operands kind)

  row_any : {n : _} (row : Row_of-Op n) → RowReadsOnly all row
  row_any end_of-Op = tt
  row_any (more_of-Op id results kind rest) = (reads_any kind, row_any rest)

ops_any : (os : List Op) → OpsReadOnly all os
ops_any = each_any (λ (o : Op). ReadsOnly all o.kind) (λ o. reads_any o.kind)

around_any : (k : Context) → AroundReadsOnly all k
around_any (Here before after) = (ops_any before, ops_any after)
around_any (InFor before l inner after) = (ops_any before, any_in (for_operands l.head), around_any inner, ops_any after)
around_any (InForall before l inner after) = (ops_any before, any_in (forall_operands l.head), around_any inner, ops_any after)

alike_self : (p : Outcome) → AlikeOn all p p
alike_self (Goes s) = record { values = λ v h. refl; shared = refl; inserts = refl }
alike_self (Ends ds) = refl
alike_self (Fails x) = refl

pub in_place : InPlaceKeepsMeaning
in_place k old new func inputs same =
    context_keeps all k old new func inputs (around_any k)
    (λ u v r a. subst (λ s. AlikeOn all (run old u) (run new s)) (same_states u v a) (subst (AlikeOn all (run old u)) (sym (same u r)) (alike_self (run old u))))

pub removal : RemovalKeepsMeaning
unfolding run
removal N k o func inputs apart read goes =
    context_keeps N k (o ∷ []) [] func inputs read (λ u v r a.
    let g = goes u r in
    subst (λ p. AlikeOn N p (Goes v)) (sym g.1) (record {
      values = λ w h. keeps_others w (o ∷ []) u _
          (each_more (λ (x : ValueId). N x.0 ≡ false) (λ (x : ValueId). w ≢ x.0) (λ x q e. true≢false (sym h ∙ ap N e ∙ q)) (names_of o.results) apart, tt) g.1 ∙ a.values w h;
      shared = a.shared;
      inserts = a.inserts;
    }))
