use Rattle.std.proofs.Common.{◌∙◌, arith, sym, ap}
use Rattle.std.proofs.lemmas.List.{length-set, get_or-set_other}
use Rattle.mlir_meaning.specs.Renaming.{renamed, renamed_op}
use Rattle.mlir_meaning.proofs.Identity.{defined-id, values-id}
use Rattle.step_passes.specs.Naming.{name_in}
use Rattle.mlir_ir.specs.declared.tree.OpKind.{For, Forall}
use Rattle.mlir_edits.proofs.Loops.{renamed-For, renamed-Forall}
use Rattle.mlir_edits.proofs.Mapping.{mapped}
use Rattle.step_passes.proofs.kinds.+moving.Goals as goal

pub move_kind-returns-in-For : goal.move_kind-returns-in-For
move_kind-returns-in-For t c =
    let f = c.in-For in
    (λ j. For f.var (c.move_value-in-For.ensures j) (c.move_value-in-For-2.ensures j) (c.move_value-in-For-3.ensures j) (c.move_starts.ensures j) (c.move_body.ensures j))
    ∙ sym (renamed-For (λ n. n) (name_in c.args.moves.now) (λ n. n) f.var f.lower f.upper f.step f.carried f.body)
    ∙ ap (renamed (λ n. n) (name_in c.args.moves.now) (λ n. n)) (sym f.is)

pub move_kind-returns-in-Forall : goal.move_kind-returns-in-Forall
move_kind-returns-in-Forall t c =
    let f = c.in-Forall in
    (λ j. Forall (sym (values-id f.vars) j) (c.move_indices-in-Forall.ensures j) (c.move_indices-in-Forall-2.ensures j) (c.move_indices-in-Forall-3.ensures j) (c.move_starts-in-Forall.ensures j) (c.move_body-in-Forall.ensures j))
    ∙ sym (renamed-Forall (λ n. n) (name_in c.args.moves.now) (λ n. n) f.vars f.lower f.upper f.step f.shared f.body)
    ∙ ap (renamed (λ n. n) (name_in c.args.moves.now) (λ n. n)) (sym f.is)

pub move_op-returns : goal.move_op-returns
move_op-returns t c = λ j. record {
  id = c.args.op.now.id;
  results = sym (defined-id c.args.op.now.results) j;
  kind = (c.move_kind.ensures ∙ ap (renamed (λ n. n) (name_in c.args.moves.now) (λ n. n)) c.replace-kind.ensures.value) j;
}

pub move_ops-loop-k-preserved : goal.move_ops-loop-k-preserved
move_ops-loop-k-preserved t c = record {
  unvisited = (
    length-set c.loop-k.ops c.loop-k.k c.move_op.new.op ∙ c.loop-k.invariant.unvisited.0,
    λ k d h. get_or-set_other c.loop-k.ops c.loop-k.k k c.move_op.new.op d (λ e. omega (arith, e, h)) ∙ c.loop-k.invariant.unvisited.1 k d (omega (arith, h)),
  );
  done = mapped (renamed_op (λ n. n) (name_in c.args.moves.now) (λ n. n)) c.args.ops.now c.loop-k.ops c.loop-k.k c.move_op.new.op _ (omega (arith, c.loop-k-test.true)) c.move_op.ensures c.loop-k.invariant.done;
}
